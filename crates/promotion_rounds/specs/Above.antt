-- The region that R is promoted to once it is closed.
use Rattle.std.proofs.Math.Bool.{Bool}
use Rattle.std.specs.Prelude.{true, false, ◌&&◌, not, List, ◌⊎◌, ◌≡◌, refl, eqb, length}
use Rattle.std.proofs.Math.Logic.{⊎_elim}
use Rattle.std.proofs.Math.Path.{sym}
use Rattle.std.proofs.Common.{◌∙◌, arith, eqb-true, eq-eqb, lt-ltb, ltb-true}
use Prim.Native.Nat.{ℕ, ◌%◌, ◌≤◌, ◌<◌}
use Rattle.std.proofs.lemmas.Bool.{not-true}
use Rattle.std.proofs.Math.Dec.{ltb}
use Rattle.rules.specs.Counting.{Set, some, lowest}
use Rattle.rules.specs.Game.{Game, parity, same}
use Rattle.rules.specs.Tables.{Tables, game_of, Accepted, tables_of}
use Rattle.basics.specs.Basics.{not_true_is_false, and_intro, and_left, and_right, lt_or_ge, some_intro, some_elim}
use Rattle.basics.specs.Basics.{false_some, some_of_intro, some_of_elim, lowest_none, lowest_unique}
use Rattle.theory.specs.Players.{same_false, false_same}
use Rattle.theory.specs.PromotionTable.{leads_up, next_above}
use Rattle.promotion_levels.specs.Pulled.{owner_number, number_owner}
use Rattle.promotion_escape.specs.ByRegions.{LowestAbove, ReachesAbove}

-- **the lowest region above p that the opponent can go to is the rules'**
module _ (owners priorities offsets targets : List ℕ) (ok : Accepted (tables_of owners priorities offsets targets)) (p : ℕ)
    (R : Set) (T : ℕ → ℕ) (small : p < 256)
    (held_is : (v : ℕ) → R v ≡ eqb (T v) p)
    (below : (v : ℕ) → R v ≡ true → v < length owners)
  where
    abbrev n : ℕ
    n = length owners

    abbrev t : Tables
    t = tables_of owners priorities offsets targets

    abbrev g : Game
    g = game_of t

    pub next_above_lem : {q : ℕ} → LowestAbove owners offsets targets (p % 2) R T p q → q ≡ next_above g T p
    unfolding game_of
    next_above_lem {q} low =
        ⊎_elim
        (λ (less : q < 256).
        sym
        (lowest_unique 256 test q
        (record { below = less; passes = passes_at less; first = λ x l. none_below x (omega arith) l })))
        (λ (more : 256 ≤ q).
        let is : q ≡ 256 = omega (arith, low.most) in
        is ∙ sym (lowest_none 256 test (false_some 256 test (λ x l. none_below x l (omega arith)))))
        (lt_or_ge q 256)
      where
        test : ℕ → Bool
        test x = ltb p x && some n (leads_up g T p x)

        -- no region below q is reached
        none_below : (x : ℕ) → x < 256 → x < q → test x ≡ false
        none_below x l less =
            not_true_is_false (test x)
            (λ has.
            let up = ltb-true p x (and_left (ltb p x) _ has) in
            let (v, small-v, leads) = some_elim n (leads_up g T p x) (and_right (ltb p x) _ has) in
            let others : Bool = eqb (T v) p && not (same (g.owner v) (parity p)) in
            let both = and_left others _ leads in
            let (w, e, d) = some_of_elim (g.targets v) (λ u. eqb (T u) x) (and_right others _ leads) in
            let here = held_is v ∙ and_left (eqb (T v) p) _ both in
            let other =
            same_false (g.owner v) (parity p) (not-true (same (g.owner v) (parity p)) (and_right (eqb (T v) p) _ both)) in
            let is = eqb-true (T w) x d in
            let least = low.lowest v here (λ own. other (number_owner t ok p v small-v own)) w e (omega arith) in
            omega arith)

        -- q is reached
        passes_at : q < 256 → test q ≡ true
        passes_at less =
            ⊎_elim
            (λ (e : q ≡ 256). absurd (omega arith))
            (λ (reach : ReachesAbove owners offsets targets (p % 2) R T p q).
            let v = reach.from in
            let small-v = below v reach.member in
            let is = reach.is in
            let up = reach.above in
            and_intro (lt-ltb p q (omega arith))
            (some_intro n (leads_up g T p q) v small-v
            (and_intro
            (and_intro (sym (held_is v) ∙ reach.member)
            (rw (false_same (g.owner v) (parity p) (λ o. reach.others (owner_number t ok p v small-v o))) refl))
            (some_of_intro (g.targets v) (λ u. eqb (T u) q) reach.to reach.edge (eq-eqb (T reach.to) q is)))))
            low.reached
