-- What the newcomers of a region attract outside its others leaves the entries that all of the region would have left.
use Rattle.std.specs.Prelude.{Bool, true, false, ◌||◌, ◌≡◌, ℕ}
use Rattle.std.proofs.Common.{sym, ap, ◌∙◌}
use Rattle.rules.specs.Counting.{Set, without, union}
use Rattle.rules.specs.Game.{Player, Game}
use Rattle.rules.specs.Attractor.{Closed, attractor}
use Rattle.basics.specs.Basics.{or_false_both, union_right, union_rest, without_right}
use Rattle.theory.specs.Attractor.{Fits, attractor_is, attractor_unique}
use Rattle.theory.specs.AttractorRank.{same_certificate, same_pull, certificate_is}
use Rattle.promotion_heads.specs.Joined.{joined_fits, joined_attractor, joined_nearest}
use Rattle.promotion_levels.specs.Pulled.{Pulled}

pub pulled_joined :
    {g : Game} {a : Player} {V' S N A : Set} {σ σ' : ℕ → ℕ} →
    Fits g V' (union S N) →
    ((v : ℕ) → S v ≡ true → N v ≡ false) →
    Closed g a V' S S →
    Pulled g a (without V' S) N A σ σ' →
    Pulled g a V' (union S N) (union S A) σ σ'
pulled_joined {g} {a} {V'} {S} {N} {A} {σ} {σ'} fits apart closed p =
    record {
      certificate = same_certificate g a V' (union S N) (union S A) fits is;
      near = same_pull g a V' (union S N) (union S A) fits is;
      entered =
          λ v i out o.
          let (s, n) = or_false_both (S v) (N v) out in
          let m = union_rest S A v i s in
          p.entered v m n o ∙
          p.near v ∙
          sym (joined_nearest fits apart closed v (alone v ∙ m) n o) ∙
          sym (same_pull g a V' (union S N) (union S A) fits is v);
      kept =
          λ v l no.
          p.kept v l
          (λ m n o. no (union_right S A v m) (rw (without_right V' S v (p.certificate.inside v m), n)) o);
    }
  where
    -- A is what N attracts, by its certificate
    alone : (v : ℕ) → attractor g a (without V' S) N v ≡ A v
    alone = attractor_unique (attractor_is g a (without V' S) N (joined_fits fits apart)) (certificate_is p.certificate)

    is : (v : ℕ) → attractor g a V' (union S N) v ≡ union S A v
    is v = joined_attractor fits apart closed v ∙ ap (λ (b : Bool). S v || b) (alone v)
