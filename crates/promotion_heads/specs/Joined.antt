-- Where nothing more may be drawn into a part S of the target, the attractor is S with what the rest N of the target attracts outside S,
-- round by round: an own vertex outside S has no edge into S, and another's with an edge inside has one that ends outside S. So the
-- entries of what is drawn in are the same too.
use Rattle.std.specs.Prelude.{Bool, false, ◌&&◌, ◌≡◌, eqb, ltb}
use Rattle.std.proofs.Math.Bool.{true, cond}
use mathlib.Core.List.Memᴰ
use Rattle.std.proofs.Common.{⊎_elim, sym, ◌∙◌, eqb-true}
use Rattle.std.proofs.Math.Path.{ap, ap₂, fun_ext}
use Prim.Native.Nat.{ℕ, zero, suc, pred}
use Rattle.rules.specs.Counting.{Set, some_of, lowest, noted, without, union}
use Rattle.rules.specs.Game.{Player, Game, Edge}
use Rattle.rules.specs.Attractor.{Closed, grown, attractor}
use Rattle.rules.specs.Distance.{outside, distance, lowest_in}
use Rattle.basics.specs.Basics.{bool_cases, bool_ext, clash, not_true_is_false, and_intro, and_left, and_right, some_of_elim, lowest_cong}
use Rattle.basics.specs.Basics.{without_intro, without_left, without_right, union_left, union_right, union_cases, union_rest}
use Rattle.theory.specs.Attractor.{Draws, by_own, by_other, Fits, attractor_inside}
use Rattle.theory.specs.Attractor.{grown_below, grown_zero, zero_grown, grown_kept, grown_draws, grown_back, grown_target}
use Rattle.theory.specs.AttractorComplement.{own_stays_out, other_gets_out}
use Rattle.theory.specs.Distance.{at_distance, nearest}

-- the lowest-numbered successor depends on a set by the successors alone
lowest_in_same :
    (g : Game) (v : ℕ) (X Y : Set) → ((w : ℕ) → Edge g v w → X w ≡ Y w) → lowest_in g X v ≡ lowest_in g Y v
unfolding lowest_in
lowest_in_same g v X Y agree =
    lowest_cong g.size (λ w. X w && edge w) (λ w. Y w && edge w)
    (λ w l.
    bool_ext (X w && edge w) (Y w && edge w)
    (λ p. let e = and_right (X w) (edge w) p in and_intro (sym (agree w (leads w e)) ∙ and_left (X w) (edge w) p) e)
    (λ p. let e = and_right (Y w) (edge w) p in and_intro (agree w (leads w e) ∙ and_left (Y w) (edge w) p) e))
  where
    edge : Set
    edge w = some_of (g.targets v) (eqb w)

    leads : (w : ℕ) → edge w ≡ true → Edge g v w
    leads w p = let (u, m, e) = some_of_elim (g.targets v) (eqb w) p in Memᴰ.cast (eqb-true w u e) m

-- N lies in what is left of V' outside S
pub joined_fits :
    {g : Game} {V' S N : Set} → Fits g V' (union S N) → ((v : ℕ) → S v ≡ true → N v ≡ false) → Fits g (without V' S) N
joined_fits {V' = V'} {S = S} {N = N} fits apart =
    record {
      part =
          λ v i.
          without_intro V' S v (fits.part v (union_right S N v i)) (not_true_is_false (S v) (λ s. clash i (apart v s)));
      below = λ v i. fits.below v (without_left V' S v i);
    }

module _
    {g : Game}
    {a : Player}
    {V' S N : Set}
    (fits : Fits g V' (union S N))
    (apart : (v : ℕ) → S v ≡ true → N v ≡ false)
    (closed : Closed g a V' S S)
  where
    abbrev rest : Set
    rest = without V' S

    abbrev joint : ℕ → Set
    joint = grown g a V' (union S N)

    abbrev alone : ℕ → Set
    alone = grown g a rest N

    -- what a round draws in outside S is drawn by what it has outside S
    apart_draws :
        (k v : ℕ) →
        ((w : ℕ) → joint k w ≡ true → union S (alone k) w ≡ true) →
        S v ≡ false →
        Draws g a V' (joint k) v →
        Draws g a rest (alone k) v
    apart_draws k v before out (by_own {w} i o e s) =
        by_own (without_intro V' S v i out) o e
        (union_rest S (alone k) w (before w s) (own_stays_out closed v w i out o e))
    apart_draws k v before out (by_other {w} i o e j all) =
        let (u, d, m, n) = other_gets_out closed v w i out o e j in
        by_other (without_intro V' S v i out) o d (without_intro V' S u m n)
        (λ x f y. union_rest S (alone k) x (before x (all x f (without_left V' S x y))) (without_right V' S x y))

    -- S is in from the start
    joint_settled : (k v : ℕ) → S v ≡ true → joint k v ≡ true
    joint_settled k v s =
        let i = union_left S N v s in grown_target g a V' (union S N) k v (fits.below v (fits.part v i)) i

    -- and what may be drawn outside S may be drawn with S
    joint_draws :
        (k v : ℕ) →
        ((w : ℕ) → alone k w ≡ true → joint k w ≡ true) →
        Draws g a rest (alone k) v →
        Draws g a V' (joint k) v
    joint_draws k v before (by_own {w} i o e s) = by_own (without_left V' S v i) o e (before w s)
    joint_draws k v before (by_other {w} i o e j all) =
        by_other (without_left V' S v i) o e (without_left V' S w j)
        (λ x f y.
        ⊎_elim
        (joint_settled k x)
        (λ out. before x (all x f (without_intro V' S x y out)))
        (bool_cases (S x)))

    joint_splits : (k v : ℕ) → joint k v ≡ true → union S (alone k) v ≡ true
    joint_splits zero v p =
        ⊎_elim
        (union_left S (alone 0) v)
        (λ n. union_right S (alone 0) v (zero_grown g a rest N v (grown_below g a V' (union S N) 0 v p) n))
        (union_cases S N v (grown_zero g a V' (union S N) v p))
    joint_splits (suc k) v p =
        ⊎_elim
        (union_left S (alone (suc k)) v)
        (λ out.
        union_right S (alone (suc k)) v
        (⊎_elim
        (λ q. grown_kept g a rest N k v (union_rest S (alone k) v (joint_splits k v q) out))
        (λ d.
        grown_draws g a rest N k v (grown_below g a V' (union S N) (suc k) v p) (apart_draws k v (joint_splits k) out d))
        (grown_back g a V' (union S N) k v p)))
        (bool_cases (S v))

    joint_holds : (k v : ℕ) → alone k v ≡ true → joint k v ≡ true
    joint_holds zero v p =
        zero_grown g a V' (union S N) v (grown_below g a rest N 0 v p) (union_right S N v (grown_zero g a rest N v p))
    joint_holds (suc k) v p =
        ⊎_elim
        (λ q. grown_kept g a V' (union S N) k v (joint_holds k v q))
        (λ d. grown_draws g a V' (union S N) k v (grown_below g a rest N (suc k) v p) (joint_draws k v (joint_holds k) d))
        (grown_back g a rest N k v p)

    -- **S with what N attracts outside S, round by round**
    pub joined_grown : (k v : ℕ) → grown g a V' (union S N) k v ≡ union S (grown g a (without V' S) N k) v
    joined_grown k v =
        bool_ext (joint k v) (union S (alone k) v) (joint_splits k v)
        (λ p. ⊎_elim (joint_settled k v) (joint_holds k v) (union_cases S (alone k) v p))

    -- **and in the end**
    pub joined_attractor : (v : ℕ) → attractor g a V' (union S N) v ≡ union S (attractor g a (without V' S) N) v
    unfolding attractor
    joined_attractor = joined_grown g.size

    -- outside S what there is is what N attracts
    grown_apart : (k v : ℕ) → S v ≡ false → joint k v ≡ alone k v
    grown_apart k v out = rw (joined_grown k v, out)

    attractor_apart : (v : ℕ) → S v ≡ false → attractor g a V' (union S N) v ≡ attractor g a rest N v
    unfolding attractor
    attractor_apart = grown_apart g.size

    -- outside S the first round after which a vertex is there is the same
    joined_distance : (v : ℕ) → S v ≡ false → distance g a V' (union S N) v ≡ distance g a rest N v
    unfolding distance noted
    joined_distance v out =
        ap₂
        (λ (there : Bool) (rounds : ℕ → Bool). cond (ltb v g.size) (cond there (lowest g.size rounds) outside) outside)
        (attractor_apart v out)
        (fun_ext (λ k. grown_apart k v out))

    joined_at : (k v : ℕ) → S v ≡ false → at_distance g a V' (union S N) k v ≡ at_distance g a rest N k v
    joined_at k v out =
        ap₂ (λ (there : Bool) (d : ℕ). there && eqb d k) (attractor_apart v out) (joined_distance v out)

    -- **an own vertex that is drawn in has the entry that it has outside S**: no edge of it leads into S
    pub joined_nearest :
        (v : ℕ) →
        attractor g a (without V' S) N v ≡ true →
        N v ≡ false →
        g.owner v ≡ a →
        nearest g a V' (union S N) v ≡ nearest g a (without V' S) N v
    unfolding nearest
    joined_nearest v i n o =
        ap (λ (d : ℕ). lowest_in g (at_distance g a V' (union S N) (pred d)) v) (joined_distance v out) ∙
        lowest_in_same g v (at_distance g a V' (union S N) k) (at_distance g a rest N k)
        (λ w e. joined_at k w (own_stays_out closed v w (without_left V' S v inside) out o e))
      where
        inside : rest v ≡ true
        inside = attractor_inside g a rest N (joined_fits fits apart) v i

        out : S v ≡ false
        out = without_right V' S v inside

        k : ℕ
        k = pred (distance g a rest N v)
