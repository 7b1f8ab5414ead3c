-- The passes of a solver for a, by stages: passes at half the precision until one finds nothing, one pass at full precision, and
-- passes at half again until one finds nothing. A pass that was sharper than it was asked to be can end them at once.
use Rattle.std.specs.Prelude.{Bool, ◌&&◌, ◌||◌, cond, ◌⊎◌, ◌≡◌, refl, eqb}
use Rattle.std.proofs.Math.Bool.{true, false}
use Rattle.std.proofs.Common.{⊎_elim, sym, subst, arith, eqb-true, ne_eqb}
use Prim.Native.Nat.{ℕ, zero, suc, ◌+◌, ◌≤◌, ◌<◌, min}
use Rattle.std.proofs.Math.Nat.{le_trans, le-min}
use Rattle.rules.specs.Counting.{Set, without, count}
use Rattle.rules.specs.Game.{Player, opponent, Game}
use Rattle.rules.specs.Attractor.{attractor}
use Rattle.basics.specs.Basics.{bool_cases, and_left, and_right, and_intro, Subset, without_left, count_le}
use Rattle.theory.specs.AttractorComplement.{TotalIn}
use Rattle.separation.specs.Separates.{Separates, fewer, precision_cut}
use Rattle.separation.specs.Passing.{both, Narrowed, narrowed_not, narrowed_then}
use Rattle.separation.specs.Passing.{Barren, Halved, Pass, left_small, barren_none}
use Rattle.separation.specs.Passing.{pass_narrows, pass_barren, pass_halves, ends_full, ends_half}

-- a precision, raised to n where an answer is sharp: no dominion has more than n vertices, so it is about them all
unfoldable pub raised : ℕ → Bool → ℕ → ℕ
raised n sharp k = cond sharp n k

pub raised_enough : (n : ℕ) (sharp : Bool) (k i : ℕ) → i ≤ n → i ≤ k → i ≤ raised n sharp k
unfolding raised
raised_enough n true k i l h = l
raised_enough n false k i l h = h

-- a sharp answer is one at the precision asked for
pub separates_asked :
    {g : Game} {a : Player} {V' R : Set} {own other : ℕ} (e f : Bool) →
    Separates g a V' (raised g.size e own) (raised g.size f other) R →
    Separates g a V' own other R
separates_asked {g} {V' = V'} {own = own} {other = other} e f s =
    precision_cut
    (λ k l h. raised_enough g.size e own k (le_trans l (count_le g.size V')) h)
    (λ k l h. raised_enough g.size f other k (le_trans l (count_le g.size V')) h)
    s

-- a sharp narrowing is one at the precision asked for
narrowed_asked :
    {g : Game} {a : Player} {own : ℕ} {V₀ V' : Set} (e : Bool) →
    Narrowed g a (raised g.size e own) V₀ V' →
    Narrowed g a own V₀ V'
narrowed_asked {g} {own = own} e m =
    record {
      inside = m.inside;
      keeps =
          λ D small.
          m.keeps D
          (record {
            choice = small.choice;
            dominion = small.dominion;
            few = raised_enough g.size e own (count g.size D) (count_le g.size D) small.few;
          });
      rests = m.rests;
      total = m.total;
    }

-- a precision that was cut to the number of vertices of V is as good as the one asked for, and sharp where it was full
pub cut_enough :
    (n size : ℕ) (sharp : Bool) (k own i : ℕ) →
    k ≡ min own size →
    size ≤ n →
    i ≤ size →
    i ≤ raised n (sharp || eqb k size) own →
    i ≤ raised n sharp k
unfolding raised
cut_enough n size true k own i cut few l h = le_trans l few
cut_enough n size false k own i cut few l h =
    ⊎_elim
    (λ (e : eqb k size ≡ true). let full : k ≡ size = eqb-true k size e in omega arith)
    (λ (e : eqb k size ≡ false).
    let asked : i ≤ own = rw e at h in
    let smaller = le-min asked l in
    omega arith)
    (bool_cases (eqb k size))

-- two narrowings, each sharp or not
narrowed_sharp :
    {g : Game} {a : Player} (own : ℕ) {V₀ V₁ V₂ : Set} (e f : Bool) →
    Narrowed g a (raised g.size e own) V₀ V₁ →
    Narrowed g a (raised g.size f own) V₁ V₂ →
    Narrowed g a (raised g.size (e && f) own) V₀ V₂
unfolding raised
narrowed_sharp own true true m n = narrowed_then m n
narrowed_sharp own true false m n = narrowed_then (narrowed_asked true m) n
narrowed_sharp own false true m n = narrowed_then m (narrowed_asked true n)
narrowed_sharp own false false m n = narrowed_then m n

-- the stages: 0 the first passes, 1 the pass at full precision, 2 the last passes, 3 the end. The precision of a stage's passes,
unfoldable pub precision_at : ℕ → ℕ → ℕ → ℕ
precision_at stage half full = cond (eqb stage 1) full half

-- the stage at which the passes begin: at half precision 0 there is nothing to find,
unfoldable pub first_stage : ℕ → ℕ
first_stage half = cond (eqb half 0) 1 0

-- the stage after a pass that found something or nothing: where it found nothing and kept all of the opponent's, all is done
unfoldable pub next_stage : ℕ → Bool → Bool → ℕ → ℕ
next_stage stage found sharp half =
    cond found
    (cond (eqb stage 0) 0 (cond (eqb half 0) 3 2))
    (cond sharp 3 (cond (eqb stage 0) 1 3))

-- how the passes over V stand at a stage: whether all of a's dominions were kept, and at the end whether all of the opponent's
-- were dropped
pub record StagesStanding
    (g : Game)
    (a : Player)
    (own full half : ℕ)
    (V₀ : Set)
    (stage : ℕ)
    (keeps drops : Bool)
    (V' : Set)
    : Type 0 where
  pub known : stage ≤ 3
  pub narrowed : Narrowed g a (raised g.size keeps own) V₀ V'
  pub barren : stage ≡ 1 → Barren g a V' half
  pub halved : stage ≡ 2 → Halved g a full half V₀ V'
  pub ended : stage ≡ 3 → Separates g a V₀ (raised g.size keeps own) (raised g.size drops full) V'

module _ {g : Game} {a : Player} {own full half : ℕ} {V₀ V' : Set} {keeps drops : Bool}
    (m : Narrowed g a (raised g.size keeps own) V₀ V')
  where
    at_0 : StagesStanding g a own full half V₀ 0 keeps drops V'
    at_0 =
        record {
          known = omega arith;
          narrowed = m;
          barren = λ e. absurd (omega arith);
          halved = λ e. absurd (omega arith);
          ended = λ e. absurd (omega arith);
        }

    at_1 : Barren g a V' half → StagesStanding g a own full half V₀ 1 keeps drops V'
    at_1 barren =
        record {
          known = omega arith;
          narrowed = m;
          barren = λ e. barren;
          halved = λ e. absurd (omega arith);
          ended = λ e. absurd (omega arith);
        }

    at_2 : Halved g a full half V₀ V' → StagesStanding g a own full half V₀ 2 keeps drops V'
    at_2 halved =
        record {
          known = omega arith;
          narrowed = m;
          barren = λ e. absurd (omega arith);
          halved = λ e. halved;
          ended = λ e. absurd (omega arith);
        }

    at_3 :
        Separates g a V₀ (raised g.size keeps own) (raised g.size drops full) V' →
        StagesStanding g a own full half V₀ 3 keeps drops V'
    at_3 ended =
        record {
          known = omega arith;
          narrowed = m;
          barren = λ e. absurd (omega arith);
          halved = λ e. absurd (omega arith);
          ended = λ e. ended;
        }

-- at most half is left: the last passes begin, or at half precision 0 all is done
halved_on :
    {g : Game} {a : Player} {own full half : ℕ} {V₀ V' : Set} {keeps : Bool} →
    Narrowed g a (raised g.size keeps own) V₀ V' →
    ((v : ℕ) → V' v ≡ true → v < g.size) →
    Halved g a full half V₀ V' →
    StagesStanding g a own full half V₀ (cond (eqb half 0) 3 2) keeps false V'
unfolding raised
halved_on {g} {a} {half = half} {V' = V'} m below halved =
    ⊎_elim
    (λ (e : eqb half 0 ≡ true).
    let z : half ≡ 0 = eqb-true half 0 e in
    rw e (at_3 m (ends_half m halved (subst (λ (k : ℕ). Barren g a V' k) (sym z) (barren_none a below)))))
    (λ (e : eqb half 0 ≡ false). rw e (at_2 m halved))
    (bool_cases (eqb half 0))

-- what of a dominion is left in a part of V is no more
halved_less :
    {g : Game} (a : Player) {full half : ℕ} {V₀ V' X : Set} →
    Subset X V' → Halved g a full half V₀ V' → Halved g a full half V₀ X
halved_less {g} a {V' = V'} {X = X} sub halved D small =
    le_trans
    (fewer g {S = both D X} {T = both D V'} (λ v p. and_intro (and_left (D v) (X v) p) (sub v (and_right (D v) (X v) p))))
    (halved D small)

-- **The passes begin.**
pub stage_begins :
    {g : Game} {a : Player} {own full half : ℕ} {V' : Set} →
    ((v : ℕ) → V' v ≡ true → v < g.size) →
    TotalIn g V' →
    StagesStanding g a own full half V' (first_stage half) true false V'
unfolding first_stage
stage_begins {g} {a} {half = half} {V' = V'} below total =
    ⊎_elim
    (λ (e : eqb half 0 ≡ true).
    let z : half ≡ 0 = eqb-true half 0 e in
    rw e (at_1 (narrowed_not total) (subst (λ (k : ℕ). Barren g a V' k) (sym z) (barren_none a below))))
    (λ (e : eqb half 0 ≡ false). rw e (at_0 (narrowed_not total)))
    (bool_cases (eqb half 0))

-- a pass that is sharp or not at the opponent's precision is one at the precision asked for
pass_asked :
    {g : Game} {a : Player} {own k : ℕ} {V' S : Set} (f : Bool) →
    Pass g a own (raised g.size f k) V' S →
    Pass g a own k V' S
pass_asked {g} {own = own} {k = k} f p =
    record {
      top = p.top;
      mine = p.mine;
      most = p.most;
      below = p.below;
      total = p.total;
      found =
          precision_cut
          (λ i l h. raised_enough g.size f k i (le_trans l (count_le g.size _)) h)
          (λ i l h. h)
          p.found;
    }

module _ {g : Game} {a : Player} {own full half : ℕ} {V₀ V' S : Set} (enough : full ≤ half + half + 1) where
  -- **A pass that found something leads on.**
  pub stage_found :
      (stage : ℕ) {keeps drops : Bool} (sharp kept : Bool) →
      stage < 3 →
      StagesStanding g a own full half V₀ stage keeps drops V' →
      Pass g a (raised g.size kept own) (raised g.size sharp (precision_at stage half full)) V' S →
      StagesStanding g a own full half V₀ (next_stage stage true sharp half) (keeps && kept) false
      (without V' (attractor g (opponent a) V' S))
  unfolding precision_at next_stage
  stage_found zero {keeps} sharp kept l st pass = at_0 (narrowed_sharp own keeps kept st.narrowed (pass_narrows pass))
  stage_found (suc zero) {keeps} sharp kept l st pass =
      let B = attractor g (opponent a) V' S in
      halved_on (narrowed_sharp own keeps kept st.narrowed (pass_narrows pass))
      (λ v p. pass.below v (without_left V' B v p))
      (λ D small.
      le_trans
      (fewer g {S = both D (without V' B)} {T = both (both D V') (without V' B)}
      (λ v p.
      let q = and_right (D v) (without V' B v) p in
      and_intro (and_intro (and_left (D v) (without V' B v) p) (without_left V' B v q)) q))
      (pass_halves (pass_asked sharp pass) half enough (st.barren refl) (both D V')
      (left_small st.narrowed D small full (le_trans (fewer g (λ u p. and_left (D u) (V' u) p)) small.few))))
  stage_found (suc (suc zero)) {keeps} sharp kept l st pass =
      let B = attractor g (opponent a) V' S in
      halved_on (narrowed_sharp own keeps kept st.narrowed (pass_narrows pass))
      (λ v p. pass.below v (without_left V' B v p))
      (halved_less a (without_left V' B) (st.halved refl))
  stage_found (suc (suc (suc k))) sharp kept l st pass = absurd (omega arith)

  -- **A pass that found nothing leads on**, and where it kept all of the opponent's dominions, nothing of them is there.
  pub stage_nothing :
      (stage : ℕ) {keeps drops : Bool} (sharp kept : Bool) →
      stage < 3 →
      StagesStanding g a own full half V₀ stage keeps drops V' →
      Pass g a (raised g.size kept own) (raised g.size sharp (precision_at stage half full)) V' S →
      ((v : ℕ) → S v ≡ false) →
      StagesStanding g a own full half V₀ (next_stage stage false sharp half) keeps sharp V'
  unfolding precision_at next_stage raised
  stage_nothing stage true kept l st pass nothing = at_3 st.narrowed (ends_full st.narrowed (pass_barren pass nothing))
  stage_nothing zero false kept l st pass nothing = at_1 st.narrowed (pass_barren pass nothing)
  stage_nothing (suc zero) false kept l st pass nothing =
      at_3 st.narrowed (ends_full st.narrowed (pass_barren pass nothing))
  stage_nothing (suc (suc zero)) false kept l st pass nothing =
      at_3 st.narrowed (ends_half st.narrowed (st.halved refl) (pass_barren pass nothing))
  stage_nothing (suc (suc (suc k))) false kept l st pass nothing = absurd (omega arith)

positive : (k : ℕ) → eqb (suc k) 0 ≡ false
positive k = ne_eqb (suc k) 0 (λ e. omega arith)

-- after a pass that found something the stage is no lower, and after one that found nothing it is higher
pub stage_found_rises : (stage : ℕ) (sharp : Bool) (half : ℕ) → stage < 3 → stage ≤ next_stage stage true sharp half
unfolding next_stage
stage_found_rises zero sharp half l = omega arith
stage_found_rises (suc k) sharp half l =
    rw (positive k)
    (⊎_elim
    (λ (z : eqb half 0 ≡ true). rw z (omega arith))
    (λ (z : eqb half 0 ≡ false). rw z (omega arith))
    (bool_cases (eqb half 0)))

pub stage_nothing_rises : (stage : ℕ) (sharp : Bool) (half : ℕ) → stage < 3 → stage < next_stage stage false sharp half
unfolding next_stage
stage_nothing_rises stage true half l = l
stage_nothing_rises zero false half l = omega arith
stage_nothing_rises (suc k) false half l = rw (positive k) l
