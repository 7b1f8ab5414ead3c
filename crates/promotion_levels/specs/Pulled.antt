-- What an attractor leaves of the entries: own vertices that were drawn in have the entries of a certificate by distances, all other
-- entries stay. And how an own vertex is told by its owner's number.
use Rattle.std.specs.Prelude.{true, false, List, ◌≡◌, refl, ℕ, ◌%◌, ◌<◌, eqb, get_or}
use Rattle.std.proofs.Common.{sym, ◌∙◌, arith, eqb-true, eq-eqb}
use Rattle.std.proofs.Math.Path.{subst₃, fun_ext}
use Rattle.rules.specs.Counting.{Set}
use Rattle.rules.specs.Game.{Player, Game, parity, same}
use Rattle.rules.specs.Tables.{Tables, vertices, edges_in, game_of, Accepted}
use Rattle.rules.specs.Attractor.{Closed, attractor}
use Rattle.basics.specs.Basics.{clash}
use Rattle.theory.specs.Players.{same_true, true_same}
use Rattle.accepted.specs.Tables.{accepted_sound, accepted_few}
use Rattle.theory.specs.Attractor.{Fits, attractor_is, attractor_unique}
use Rattle.theory.specs.AttractorRank.{Ranked, same_certificate, same_pull}
use Rattle.theory.specs.Distance.{nearest}
use Rattle.theory.specs.DistanceEntries.{same_entry}
use Rattle.area.specs.Area.{entry_at}
use Rattle.attractor.specs.Attracted.{Nested, Attracted, inside_of, target_of, result, own_is}

pub record Pulled (g : Game) (a : Player) (V' T S : Set) (σ σ' : ℕ → ℕ) : Type 0 where
  pub certificate : Ranked g a V' T S
  pub near : (v : ℕ) → certificate.pull v ≡ nearest g a V' T v
  pub entered : (v : ℕ) → S v ≡ true → T v ≡ false → g.owner v ≡ a → σ' v ≡ certificate.pull v
  pub kept : (v : ℕ) → v < g.size → (S v ≡ true → T v ≡ false → g.owner v ≡ a → ⊥) → σ' v ≡ σ v

-- it depends on the sets by their members alone
pub pulled_as :
    {g : Game} {a : Player} {V₁ V₂ T₁ T₂ S₁ S₂ : Set} {σ σ' : ℕ → ℕ} →
    ((v : ℕ) → V₁ v ≡ V₂ v) →
    ((v : ℕ) → T₁ v ≡ T₂ v) →
    ((v : ℕ) → S₁ v ≡ S₂ v) →
    Pulled g a V₁ T₁ S₁ σ σ' →
    Pulled g a V₂ T₂ S₂ σ σ'
pulled_as {g} {a} {σ = σ} {σ' = σ'} sameV same_t sameS p =
    subst₃ (λ (V' T S : Set). Pulled g a V' T S σ σ') (fun_ext sameV) (fun_ext same_t) (fun_ext sameS) p

-- **what `attract` leaves**
pub attract_pulled :
    {t : Tables} →
    Accepted t →
    {a : Player} {within set : ℕ} {before after : List ℕ} {looks : ℕ} →
    Nested (vertices t) within set before →
    Attracted t a within set before after looks →
    Pulled (game_of t) a (inside_of t within before) (target_of t set before) (result t a within set before)
    (entry_at (vertices t) (edges_in t) before) (entry_at (vertices t) (edges_in t) after)
unfolding game_of
attract_pulled {t} ok {a} {within} {set} {before} nested made =
    record {
      certificate = same_certificate (game_of t) a V' T S fits (λ v. refl);
      near = same_pull (game_of t) a V' T S fits (λ v. refl);
      entered =
          λ v i out o.
          made.entered v (i, out, o) ∙ same_entry (game_of t) a V' T fits (accepted_few t ok) (λ v. refl) v i out o;
      kept = λ v l no. made.kept v l (λ p. no p.0 p.1 p.2);
    }
  where
    V' : Set
    V' = inside_of t within before

    T : Set
    T = target_of t set before

    S : Set
    S = result t a within set before

    fits : Fits (game_of t) V' T
    fits = record { part = nested.part; below = nested.below }

-- a set into which nothing may be drawn is its own attractor
pub pulled_shut :
    {g : Game} {a : Player} {V' R : Set} → Fits g V' R → Closed g a V' R R → (σ : ℕ → ℕ) → Pulled g a V' R R σ σ
pulled_shut {g} {a} {V'} {R} fits shut σ =
    record {
      certificate = same_certificate g a V' R R fits alone;
      near = same_pull g a V' R R fits alone;
      entered = λ v i out o. absurd (clash i out);
      kept = λ v l no. refl;
    }
  where
    alone : (v : ℕ) → attractor g a V' R v ≡ R v
    alone = attractor_unique (attractor_is g a V' R fits) (record { closed = shut; smallest = λ S' c. c.target })

-- the owner's number and the player
module _ (t : Tables) (ok : Accepted t) (p v : ℕ) (small : v < vertices t) where
  owner_same : eqb (get_or t.owners v 0) (p % 2) ≡ same ((game_of t).owner v) (parity p)
  unfolding game_of
  owner_same = own_is (get_or t.owners v 0) (p % 2) ((accepted_sound t ok).owner_small v small) (omega arith)

  pub owner_test : eqb (get_or t.owners v 0) (p % 2) ≡ same ((game_of t).owner v) (parity p)
  owner_test = owner_same

  pub owner_number : (game_of t).owner v ≡ parity p → get_or t.owners v 0 ≡ p % 2
  owner_number e = eqb-true (get_or t.owners v 0) (p % 2) (owner_same ∙ true_same ((game_of t).owner v) (parity p) e)

  pub number_owner : get_or t.owners v 0 ≡ p % 2 → (game_of t).owner v ≡ parity p
  number_owner e = same_true ((game_of t).owner v) (parity p) (sym owner_same ∙ eq-eqb (get_or t.owners v 0) (p % 2) e)
