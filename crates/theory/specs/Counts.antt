-- A fresh count and one changed priority: the old one's count is lowered, the new one's raised, and the other two kept numbers are
-- functions of the counts alone. And the highest and the different ones that the counts tell are those of the vertices.
use Rattle.std.specs.Prelude.{Bool, true, false, not, cond, List, [], ◌∷◌, ◌≡◌, refl, ℕ, zero, suc, ◌+◌, ◌-◌, ◌≤◌, ◌<◌, eqb, length, get_or, take, set}
use Rattle.std.proofs.Common.{⊎_elim, sym, ap, ◌∙◌, zero-le, not-suc-le-zero, le_of_suc-le-suc, le_antisymm, arith, eqb-true, eq-eqb, ne_eqb, length-set, length-append, get_or-set_same, get_or-set_other, get_or-take, ext_get_or, take_at}
use Rattle.std.proofs.lemmas.Bool.{eqb-false, not-true}
use Rattle.std.proofs.Math.Seq.{take-set-lt}
use Rattle.rules.specs.Compaction.{used}
use Rattle.rules.specs.Counting.{count, times, greatest}
use Rattle.rules.specs.Record.{counts_of, counted, different_in, highest_in, kept_for, fresh_count, same_list}
use Rattle.basics.specs.Basics.{bool_cases, bool_ext, and_intro, and_left, and_right, every_intro, every_elim}
use Rattle.basics.specs.Basics.{length_listed, get_or_listed, times_pos, times_member, place_member, member_place, count_cong, some_intro, some_elim}
use Rattle.basics.specs.Greatest.{greatest_bounds, greatest_le}

-- ---- equal lists

pub same_equal : (xs ys : List ℕ) → same_list xs ys ≡ true → xs ≡ ys
unfolding same_list
same_equal xs ys h =
    let long = eqb-true (length xs) (length ys) (and_left (eqb (length xs) (length ys)) _ h) in
    ext_get_or 0 xs ys long
    (λ i l.
    eqb-true (get_or xs i 0) (get_or ys i 0)
    (every_elim (length ys) (λ k. eqb (get_or xs k 0) (get_or ys k 0)) (and_right (eqb (length xs) (length ys)) _ h) i (rw long at l)))

pub equal_same : (xs ys : List ℕ) → xs ≡ ys → same_list xs ys ≡ true
unfolding same_list
equal_same xs ys e =
    and_intro (eq-eqb _ _ (ap (λ (l : List ℕ). length l) e))
    (every_intro (length ys) _ (λ i l. eq-eqb _ _ (ap (λ (zs : List ℕ). get_or zs i 0) e)))

-- ---- the counts

pub length_counts : (ps : List ℕ) → length (counts_of ps) ≡ 256
unfolding counts_of
length_counts ps = length_listed 256 (λ p. times p ps)

pub counts_at : (ps : List ℕ) (p : ℕ) → p < 256 → get_or (counts_of ps) p 0 ≡ times p ps
unfolding counts_of
counts_at ps p l = get_or_listed 256 (λ q. times q ps) p 0 l

pub length_kept : (counts : List ℕ) → length counts ≡ 256 → length (kept_for counts) ≡ 258
unfolding kept_for
length_kept counts long = length-append counts _ ∙ ap (λ (k : ℕ). k + 2) long

pub take_kept : (counts : List ℕ) → length counts ≡ 256 → take 256 (kept_for counts) ≡ counts
unfolding kept_for
take_kept counts long = take_at counts _ 256 long

pub length_fresh : (ps : List ℕ) → length (fresh_count ps) ≡ 258
unfolding fresh_count
length_fresh ps = length_kept (counts_of ps) (length_counts ps)

pub take_fresh : (ps : List ℕ) → take 256 (fresh_count ps) ≡ counts_of ps
unfolding fresh_count
take_fresh ps = take_kept (counts_of ps) (length_counts ps)

-- no count is above the number of vertices
one_at_most : (b : Bool) → cond b 1 0 ≤ 1
one_at_most true = omega arith
one_at_most false = omega arith

pub times_le : (x : ℕ) (xs : List ℕ) → times x xs ≤ length xs
unfolding times
times_le x [] = zero-le
times_le x (y ∷ ys) = let rest = times_le x ys in let one = one_at_most (eqb x y) in omega arith

-- ---- one priority more, and one changed

-- one entry is replaced
pub times_set :
    (x v q : ℕ) (ps : List ℕ) →
    v < length ps →
    times x (set ps v q) + cond (eqb x (get_or ps v 0)) 1 0 ≡ times x ps + cond (eqb x q) 1 0
unfolding times
times_set x v q [] l = absurd (not-suc-le-zero l)
times_set x zero q (p ∷ ps) l = omega arith
times_set x (suc v) q (p ∷ ps) l = let rest = times_set x v q ps (le_of_suc-le-suc l) in omega arith

abbrev pub raised : List ℕ → ℕ → List ℕ
raised counts q = set counts q (get_or counts q 0 + 1)

abbrev pub lowered : List ℕ → ℕ → List ℕ
lowered counts p = set counts p (get_or counts p 0 - 1)

-- one vertex goes from priority p to q
abbrev pub moved : List ℕ → ℕ → ℕ → List ℕ
moved counts p q = raised (lowered counts p) q

pub get_or_raised :
    (ks : List ℕ) (q x : ℕ) → q < length ks → get_or (raised ks q) x 0 ≡ get_or ks x 0 + cond (eqb x q) 1 0
get_or_raised ks q x l =
    ⊎_elim
    (λ h. let e = eqb-true x q h in rw (h, e) (get_or-set_same ks q (get_or ks q 0 + 1) 0 l))
    (λ h. rw h (let other = get_or-set_other ks q x (get_or ks q 0 + 1) 0 (eqb-false x q h) in omega arith))
    (bool_cases (eqb x q))

get_or_lowered :
    (ks : List ℕ) (p x : ℕ) → p < length ks → 0 < get_or ks p 0 → get_or (lowered ks p) x 0 + cond (eqb x p) 1 0 ≡ get_or ks x 0
get_or_lowered ks p x l some_one =
    ⊎_elim
    (λ h.
    let e = eqb-true x p h in
    rw (h, e) (let here = get_or-set_same ks p (get_or ks p 0 - 1) 0 l in omega arith))
    (λ h. rw h (let other = get_or-set_other ks p x (get_or ks p 0 - 1) 0 (eqb-false x p h) in omega arith))
    (bool_cases (eqb x p))

module _ (ps : List ℕ) (v q : ℕ) (within : v < length ps) (small : get_or ps v 0 < 256) (low : q < 256) where
  -- the vertex itself is counted at its old priority
  pub old_counted : 0 < times (get_or ps v 0) ps
  old_counted = times_pos (get_or ps v 0) ps (place_member ps v within)

  -- Setting one priority from p to q lowers count p and raises count q.
  pub counts_moved : counts_of (set ps v q) ≡ moved (counts_of ps) (get_or ps v 0) q
  counts_moved =
      let p = get_or ps v 0 in
      let old = counts_of ps in
      ext_get_or 0 (counts_of (set ps v q)) (moved old p q)
      (length_counts (set ps v q) ∙ sym (length-set (lowered old p) q _ ∙ length-set old p _ ∙ length_counts ps))
      (λ x l.
      let l' : x < 256 = rw (length_counts (set ps v q)) at l in
      let new = counts_at (set ps v q) x l' in
      let was = counts_at ps x l' in
      let one = times_set x v q ps within in
      let up = get_or_raised (lowered old p) q x (rw (length-set old p (get_or old p 0 - 1), length_counts ps) low) in
      let down =
      get_or_lowered old p x (rw (length_counts ps) small) (rw (counts_at ps p small) old_counted) in
      omega arith)

  -- So the kept numbers, with one count lowered and one raised, hold the counts of the new priorities.
  pub kept_moved : take 256 (moved (fresh_count ps) (get_or ps v 0) q) ≡ counts_of (set ps v q)
  kept_moved =
      let p = get_or ps v 0 in
      let kept = fresh_count ps in
      let at_p : get_or kept p 0 ≡ get_or (counts_of ps) p 0 =
      sym (get_or-take 256 kept p 0 small) ∙ ap (λ (l : List ℕ). get_or l p 0) (take_fresh ps) in
      let down : take 256 (lowered kept p) ≡ lowered (counts_of ps) p =
      take-set-lt 256 kept p (get_or kept p 0 - 1) small ∙
      ap (λ (l : List ℕ). set l p (get_or kept p 0 - 1)) (take_fresh ps) ∙
      ap (λ (k : ℕ). set (counts_of ps) p (k - 1)) at_p in
      let at_q : get_or (lowered kept p) q 0 ≡ get_or (lowered (counts_of ps) p) q 0 =
      sym (get_or-take 256 (lowered kept p) q 0 low) ∙ ap (λ (l : List ℕ). get_or l q 0) down in
      take-set-lt 256 (lowered kept p) q (get_or (lowered kept p) q 0 + 1) low ∙
      ap (λ (l : List ℕ). set l q (get_or (lowered kept p) q 0 + 1)) down ∙
      ap (λ (k : ℕ). set (lowered (counts_of ps) p) q (k + 1)) at_q ∙
      sym counts_moved

-- ---- what the counts tell is what the vertices have

-- a priority is counted exactly when some vertex has it
pub counted_used : (ps : List ℕ) (p : ℕ) → p < 256 → counted (counts_of ps) p ≡ used ps p
counted_used ps p l =
    bool_ext (counted (counts_of ps) p) (used ps p)
    (λ h.
    let more = eqb-false (get_or (counts_of ps) p 0) 0 (not-true _ h) in
    let positive : 0 < times p ps = omega (arith, counts_at ps p l) in
    let (v, within, e) = member_place ps (times_member p ps positive) in
    some_intro (length ps) (λ u. eqb (get_or ps u 0) p) v within (eq-eqb _ _ e))
    (λ h.
    let (v, within, e) = some_elim (length ps) (λ u. eqb (get_or ps u 0) p) h in
    let positive = times_pos (get_or ps v 0) ps (place_member ps v within) in
    ap not (ne_eqb (get_or (counts_of ps) p 0) 0
    (λ z. let same = eqb-true (get_or ps v 0) p e in let pos : 0 < times p ps = rw same at positive in
    absurd (omega (arith, counts_at ps p l)))))

-- The kept different ones are as many as the different priorities of the vertices,
pub different_used : (ps : List ℕ) → different_in (counts_of ps) ≡ count 256 (used ps)
unfolding different_in
different_used ps = count_cong 256 (counted (counts_of ps)) (used ps) (counted_used ps)

-- and where no priority is above 255 the kept highest is the greatest priority of a vertex, 0 where there is none.
pub highest_greatest :
    (ps : List ℕ) →
    ((v : ℕ) → v < length ps → get_or ps v 0 ≤ 255) →
    highest_in (counts_of ps) ≡ greatest (length ps) (λ v. true) (λ v. get_or ps v 0)
unfolding highest_in
highest_greatest ps small =
    le_antisymm
    (greatest_le 256 (counted (counts_of ps)) (λ p. p) _
    (λ p l h.
    let (v, within, e) = some_elim (length ps) (λ u. eqb (get_or ps u 0) p) (sym (counted_used ps p l) ∙ h) in
    let bound = greatest_bounds (length ps) (λ u. true) (λ u. get_or ps u 0) v within refl in
    let same = eqb-true (get_or ps v 0) p e in omega arith))
    (greatest_le (length ps) (λ v. true) (λ v. get_or ps v 0) _
    (λ v within h.
    let low = small v within in
    greatest_bounds 256 (counted (counts_of ps)) (λ p. p) (get_or ps v 0) (omega arith)
    (counted_used ps (get_or ps v 0) (omega arith) ∙
    some_intro (length ps) (λ u. eqb (get_or ps u 0) (get_or ps v 0)) v within (eq-eqb (get_or ps v 0) (get_or ps v 0) refl))))
