-- What the labels tell of the parts: rows of marks for the labels whose part has priority p and for those whose part has two vertices,
-- and the test for a good part that goes by them.
use Rattle.std.specs.Prelude.{Bool, ◌&&◌, ◌||◌, not, cond, List, ◌≡◌, ℕ, ◌+◌, ◌-◌, ◌≤◌, ◌<◌, eqb, length, get_or, set}
use Rattle.std.proofs.Math.Bool.{true, false}
use Rattle.std.proofs.Common.{inl, ◌∙◌, add-one, get_or-set_same, get_or-set_other}
use Rattle.std.proofs.Math.Logic.{⊎_elim}
use Rattle.std.proofs.Math.Path.{refl, sym, ap, subst}
use native.Mathlib.Omega.{arith}
use borrow.Author.Tests.{eqb-true, eq-eqb, ne_eqb}
use Rattle.rules.specs.Counting.{some}
use Rattle.basics.specs.Basics.{bool_ext, clash, and_intro, and_left, and_right, or_left, or_right, or_cases, not_true_is_false}
use Rattle.theory.specs.DepthFirst.{Marks, marks_cases, marks_keeps}
use Rattle.search_rows.specs.Rows.{labels, hits}
use Rattle.search_links.specs.Area.{Within, within_same, within_then, within_store}
use Rattle.search_links.specs.Area.{marked, false_marked, marked_marks}

-- u, whose label's word is l, tells that its part has two vertices, or that p is among its priorities
unfoldable pub note_test : List ℕ → ℕ → ℕ → ℕ → Bool → Bool
note_test priorities p l u two = not (eqb l 0) && cond two (not (eqb l (u + 1))) (eqb (get_or priorities u 0) p)

-- the word of u's label
abbrev pub word_at : List ℕ → ℕ → List ℕ → ℕ → ℕ
word_at priorities m work u = get_or work (labels (length priorities) m + u) 0

-- u tells so of the label x
abbrev pub tells_of : List ℕ → ℕ → ℕ → List ℕ → Bool → ℕ → ℕ → Bool
tells_of priorities m p work two x u =
    note_test priorities p (word_at priorities m work u) u two && eqb (word_at priorities m work u - 1) x

pub record Noteable (priorities : List ℕ) (m p : ℕ) (work : List ℕ) (row : ℕ) : Type 0 where
  pub low_end : hits (length priorities) m ≤ row
  pub fits : row + length priorities ≤ length work
  pub small : (u : ℕ) → u < length priorities → word_at priorities m work u ≤ length priorities
  pub clear : (x : ℕ) → x < length priorities → get_or work (row + x) 0 ≡ 0

-- the vertices below i have told
pub record Noted (priorities : List ℕ) (m p : ℕ) (before : List ℕ) (row : ℕ) (two : Bool) (i : ℕ) (after : List ℕ) : Type 0 where
  pub within : Within row (row + length priorities) before after
  pub told :
      (x : ℕ) → x < length priorities → marked (length priorities) row after x ≡ some i (tells_of priorities m p before two x)

-- the row by what it is equal to
pub noteable_as :
    {priorities work : List ℕ} {m p row row' : ℕ} → row ≡ row' → Noteable priorities m p work row' → Noteable priorities m p work row
noteable_as {priorities} {work} {m} {p} e h = subst (λ (k : ℕ). Noteable priorities m p work k) (sym e) h

pub noted_as :
    {priorities before after : List ℕ} {m p row row' i : ℕ} {two : Bool} →
    row ≡ row' → Noted priorities m p before row two i after → Noted priorities m p before row' two i after
noted_as {priorities} {before} {after} {m} {p} {i = i} {two = two} e h =
    subst (λ (k : ℕ). Noted priorities m p before k two i after) e h

module _ (priorities : List ℕ) (p l u : ℕ) where
  pub tells_nothing : (two : Bool) → l ≡ 0 → false ≡ note_test priorities p l u two
  unfolding note_test
  tells_nothing two e = rw (eq-eqb l 0 e)

  pub tells_two : (l ≡ 0 → ⊥) → not (eqb l (u + 1)) ≡ note_test priorities p l u true
  unfolding note_test
  tells_two d = rw (ne_eqb l 0 d)

  pub tells_priority : (l ≡ 0 → ⊥) → eqb (get_or priorities u 0) p ≡ note_test priorities p l u false
  unfolding note_test
  tells_priority d = rw (ne_eqb l 0 d)

  pub note_some : (two : Bool) → note_test priorities p l u two ≡ true → l ≡ 0 → ⊥
  unfolding note_test
  note_some two e z = clash e (tells two)
    where
      tells : (b : Bool) → note_test priorities p l u b ≡ false
      tells b = sym (tells_nothing b z)

module _ (priorities : List ℕ) (m p : ℕ) (before : List ℕ) (row : ℕ) (two : Bool) (given : Noteable priorities m p before row) where
  abbrev n : ℕ
  n = length priorities

  pub noted_none : Noted priorities m p before row two 0 before
  unfolding some
  noted_none = record { within = within_same _ _ before; told = λ x l. false_marked n row before x (given.clear x l) }

  module _ (i : ℕ) (after : List ℕ) (s : Noted priorities m p before row two i after) (more : i < n) where
    -- the label's word is read as it was
    pub word_kept : word_at priorities m after i ≡ word_at priorities m before i
    word_kept = s.within.rest (labels n m + i) (inl (omega (arith, given.low_end)))

    pub noted_passes :
        note_test priorities p (word_at priorities m after i) i two ≡ false → Noted priorities m p before row two (i + 1) after
    unfolding some
    noted_passes shut =
        record {
          within = s.within;
          told =
              λ x l.
              rw (add-one i)
              (s.told x l ∙
              sym (last_false (some i (tells_of priorities m p before two x)) (tells_of priorities m p before two x i)
              (not_true_is_false (tells_of priorities m p before two x i)
              (λ e.
              clash
              (and_left (note_test priorities p (word_at priorities m before i) i two) (eqb (word_at priorities m before i - 1) x) e)
              (ap (λ (k : ℕ). note_test priorities p k i two) (sym word_kept) ∙ shut)))));
        }
      where
        last_false : (a b : Bool) → b ≡ false → (a || b) ≡ a
        last_false true b e = refl
        last_false false b e = e

    module _ (opens : note_test priorities p (word_at priorities m after i) i two ≡ true) where
      word : ℕ
      word = word_at priorities m after i

      some_word : word ≡ 0 → ⊥
      unfolding word
      some_word z = note_some priorities p (word_at priorities m after i) i two opens z

      word_small : word ≤ n
      unfolding word
      word_small = subst (λ (k : ℕ). k ≤ n) (sym word_kept) (given.small i more)

      -- the label
      pub label_below : (1 ≤ word_at priorities m after i) × (word_at priorities m after i - 1 < n)
      unfolding word
      label_below = let d = some_word in let h = word_small in let g = one_at_least (word_at priorities m after i) d in (g, omega arith)
        where
          one_at_least : (x : ℕ) → (x ≡ 0 → ⊥) → 1 ≤ x
          one_at_least x e = omega arith

      abbrev stored : List ℕ
      stored = set after (row + (word_at priorities m after i - 1)) 1

      label_fits : row + (word_at priorities m after i - 1) < length after
      label_fits = omega (arith, given.fits, s.within.long, label_below.1)

      one_more : Marks (word_at priorities m after i - 1) (marked n row after) (marked n row stored)
      one_more =
          marked_marks n row (word_at priorities m after i - 1) after stored label_below.1
          (λ z.
          let is = get_or-set_same after (row + (word_at priorities m after i - 1)) 1 0 label_fits in
          omega arith)
          (λ u k d. get_or-set_other after (row + (word_at priorities m after i - 1)) (row + u) 1 0 (λ e. d (omega arith)))

      tells_here : (x : ℕ) → (word_at priorities m after i - 1 ≡ x) → tells_of priorities m p before two x i ≡ true
      tells_here x e =
          and_intro
          (ap (λ (k : ℕ). note_test priorities p k i two) (sym word_kept) ∙ opens)
          (eq-eqb (word_at priorities m before i - 1) x (ap (λ (k : ℕ). k - 1) (sym word_kept) ∙ e))

      pub noted_marks : Noted priorities m p before row two (i + 1) (set after (row + (word_at priorities m after i - 1)) 1)
      unfolding some
      noted_marks =
          record {
            within =
                within_then s.within
                (within_store row (row + n) (row + (word_at priorities m after i - 1)) 1 after (omega arith) (omega (arith, label_below.1)));
            told =
                λ x l.
                rw (add-one i)
                (bool_ext (marked n row stored x) (some i (tells_of priorities m p before two x) || tells_of priorities m p before two x i)
                (λ e.
                ⊎_elim
                (λ q. or_right (some i (tells_of priorities m p before two x)) (tells_of priorities m p before two x i) (tells_here x (sym q)))
                (λ q. or_left (some i (tells_of priorities m p before two x)) (tells_of priorities m p before two x i) (sym (s.told x l) ∙ q))
                (marks_cases one_more x e))
                (λ e.
                ⊎_elim
                (λ q. marks_keeps one_more x (s.told x l ∙ q))
                (λ q.
                let is = eqb-true (word_at priorities m before i - 1) x
                (and_right (note_test priorities p (word_at priorities m before i) i two) (eqb (word_at priorities m before i - 1) x) q) in
                ap (marked n row stored) (sym is ∙ ap (λ (k : ℕ). k - 1) (sym word_kept)) ∙ one_more.new)
                (or_cases (some i (tells_of priorities m p before two x)) (tells_of priorities m p before two x i) e)));
          }
