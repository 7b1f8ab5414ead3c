-- The entries that distances fix: they make a certificate for the attractor, so no walk of n steps by them avoids the target.
use Rattle.std.specs.Prelude.{true, false, ◌≡◌, ℕ, ◌≤◌}
use Rattle.std.proofs.Common.{sym, ◌∙◌}
use Rattle.rules.specs.Counting.{Set, listed}
use Rattle.rules.specs.Game.{Player, Game}
use Rattle.rules.specs.Words.{no_entry}
use Rattle.rules.specs.Attractor.{attractor}
use Rattle.theory.specs.Arriving.{AttractorEntries}
use Rattle.rules.specs.Distance.{outside, attractor_entry}
use Rattle.basics.specs.Basics.{get_or_listed}
use Rattle.theory.specs.Attractor.{Fits, attractor_below}
use Rattle.theory.specs.Distance.{entry_nearest, entry_none}
use Rattle.theory.specs.AttractorRank.{attractor_certificate, attractor_pull, same_certificate, same_pull, certificate_entries}

module _ (g : Game) (a : Player) (V' T : Set) (fits : Fits g V' T) (few : g.size ≤ outside) where
  -- an own member outside T gets the certificate's entry
  pub entry_pull :
      (v : ℕ) →
      attractor g a V' T v ≡ true →
      T v ≡ false →
      g.owner v ≡ a →
      attractor_entry g a V' T v ≡ (attractor_certificate g a V' T fits).pull v
  entry_pull v p t o = entry_nearest g a V' T fits few v p t o ∙ sym (attractor_pull g a V' T fits v)

  -- also where the set is known by its members alone
  pub same_entry :
      {S : Set} (is : (v : ℕ) → attractor g a V' T v ≡ S v) (v : ℕ) →
      S v ≡ true →
      T v ≡ false →
      g.owner v ≡ a →
      attractor_entry g a V' T v ≡ (same_certificate g a V' T S fits is).pull v
  same_entry {S} is v p t o = entry_nearest g a V' T fits few v (is v ∙ p) t o ∙ sym (same_pull g a V' T S fits is v)

  -- **document 01's sentence about the attractor's entries**
  pub entries_arrive : AttractorEntries g a V' T (attractor g a V' T) (listed g.size (attractor_entry g a V' T))
  entries_arrive =
      certificate_entries (attractor_certificate g a V' T fits) (listed g.size (attractor_entry g a V' T))
      (λ v p t o.
      get_or_listed g.size (attractor_entry g a V' T) v no_entry (attractor_below g a V' T v p) ∙ entry_pull v p t o)
      (λ v l not_so. get_or_listed g.size (attractor_entry g a V' T) v no_entry l ∙ entry_none g a V' T fits v not_so)
