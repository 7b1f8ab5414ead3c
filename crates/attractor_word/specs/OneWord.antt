-- The members of one word of a layer, taken in rising order: what `take_word` asks for, what holds before each member, and what
-- holds when none is left.
use Rattle.std.specs.Prelude.{Bool, true, false, ◌||◌, List, ◌≡◌, ℕ, ◌+◌, ◌-◌, ◌*◌, ◌^◌, ◌≤◌, ◌<◌, eqb, length}
use Rattle.std.proofs.Common.{⊎_elim, sym, ap, ap₂, subst, ◌∙◌, add_assoc, arith, eqb-true}
use Rattle.std.proofs.Math.Path.{fun_ext}
use Rattle.rules.specs.Counting.{Set, count}
use Rattle.basics.specs.Basics.{bool_cases, not_true_is_false, or_left}
use Rattle.predecessors.specs.Table.{start}
use Rattle.layer.specs.Layer.{in_layer}
use Rattle.layer.specs.Lowest.{others, lowest_of, lowest_small, in_word, word_none, first_member, first_lowest, first_gone}
use Rattle.attractor_step.specs.Layers.{but_one}
use Rattle.attractor_step.specs.TakeLoop.{Takeable, Took}
use Rattle.attractor_drawing.specs.Drawn.{Plan}
use Rattle.attractor_word.specs.Going.{Drawable, Going, now_at, taken_in, next_fits, row_rises, looks_few, take_ready}
use Rattle.attractor_word.specs.Going.{fin_layer, taken_grows, going_more}

-- a run where a word was popped: the work area as it was lent, this layer's place, the looks made and how many were taken
pub record From : Type 0 where
  pub before : List ℕ
  pub this : ℕ
  pub looks : ℕ
  pub taken : ℕ

-- what is left of this layer: the members of the popped word, and those that stand in the layer still
abbrev pub with_word : ℕ → ℕ → Set → Set
with_word at rest now u = in_word at rest u || now u

-- of word `at` the members of `rest` are left, and what stands in the layer is higher; where none is left, one was taken
pub record Stands (d : Plan) (next at far : ℕ) (from : From) (rest looks : ℕ) (work : List ℕ) : Type 0 where
  pub given : Drawable d from.before
  pub higher : (u : ℕ) → now_at (length d.owners) from.this work u ≡ true → 64 * at + 64 ≤ u
  pub going :
      Going d from.before from.this next far (from.looks + looks)
      (with_word at rest (now_at (length d.owners) from.this work)) work
  pub never_less :
      let n = length d.owners in
      from.taken ≤ count n (taken_in n d.set next (with_word at rest (now_at n from.this work)) work)
  pub grown :
      let n = length d.owners in
      rest ≡ 0 → from.taken < count n (taken_in n d.set next (with_word at rest (now_at n from.this work)) work)

-- what `take_word` asks for
pub record Wordable (d : Plan) (next at word far : ℕ) (work : List ℕ) : Type 0 where
  pub small : at < 64
  pub from : From
  pub stands : Stands d next at far from word 0 work

-- from each run that was where the word was popped, `rest` of it is left
abbrev pub TookWord : Plan → ℕ → ℕ → ℕ → ℕ → List ℕ → ℕ → ℕ → List ℕ → Type 0
TookWord d next at word far before rest looks after =
    (from : From) →
    Stands d next at far from word 0 before →
    Stands d next at far from rest looks after

-- before each member of the word
pub record Taking (d : Plan) (next at word far : ℕ) (before : List ℕ) (rest looks : ℕ) (after : List ℕ) : Type 0 where
  pub fits : rest < 2 ^ 64
  pub took : TookWord d next at word far before rest looks after

module _ {d : Plan} {next at far : ℕ} {from : From} {rest looks : ℕ} {work : List ℕ}
    (c : Stands d next at far from rest looks work) (fits : rest < 2 ^ 64) (some : rest ≡ 0 → ⊥) where
  abbrev n : ℕ
  n = length d.owners

  abbrev standing : Set
  standing = now_at n from.this work

  abbrev left : Set
  left = with_word at rest standing

  -- the lowest member of the word
  abbrev w : ℕ
  w = 64 * at + lowest_of rest

  here : left w ≡ true
  here = or_left (in_word at rest w) _ (first_member at rest fits some)

  -- what stands in the layer is higher
  not_standing : (u : ℕ) → u < 64 * at + 64 → standing u ≡ false
  not_standing u l = not_true_is_false (standing u) (λ p. let h = c.higher u p in omega arith)

  w_small : w < 64 * at + 64
  w_small = omega (arith, lowest_small rest fits some)

  lowest : (u : ℕ) → u < w → left u ≡ false
  lowest u l = ap₂ (λ (x y : Bool). x || y) (first_lowest at rest fits some u l) (not_standing u (omega (arith, w_small)))

  pub word_fits : w + 1 < length work
  word_fits = next_fits c.given c.going w here

  pub word_rises : start work w ≤ start work (w + 1)
  word_rises = row_rises c.given c.going w here

  pub word_few : from.looks + looks + (start work (w + 1) - start work w) ≤ 67125248
  word_few = looks_few c.given c.going w here

  pub word_ready : Takeable d next work w far
  word_ready = take_ready c.given c.going w here

  -- the lowest member was taken
  module _ (fin : List ℕ) (took : Took d next w far work fin) where
    abbrev more : ℕ
    more = start work (w + 1) - start work w

    same_standing : now_at n from.this fin ≡ standing
    same_standing =
        ap in_layer
        (fin_layer c.given c.going w here lowest fin took)

    left_then : but_one w left ≡ with_word at (others rest) (now_at n from.this fin)
    left_then =
        fun_ext (λ u. ⊎_elim (is u) (other u) (bool_cases (eqb u w))) ∙
        ap (with_word at (others rest)) (sym same_standing)
      where
        is : (u : ℕ) → eqb u w ≡ true → but_one w left u ≡ with_word at (others rest) standing u
        is u e =
            let gone = first_gone at rest fits some u in
            let none = not_standing u (let same = eqb-true u w e in omega (arith, w_small)) in
            rw (gone, e, none)

        other : (u : ℕ) → eqb u w ≡ false → but_one w left u ≡ with_word at (others rest) standing u
        other u e = let gone = first_gone at rest fits some u in rw (gone, e)

    -- the same holds with one member fewer
    pub word_more : Stands d next at far from (others rest) (looks + more) fin
    word_more =
        record {
          given = c.given;
          higher = λ u p. c.higher u (ap (λ (S : Set). S u) (sym same_standing) ∙ p);
          going = going_then;
          never_less = omega (arith, c.never_less, grows);
          grown = λ z. omega (arith, c.never_less, grows);
        }
      where
        going_then :
            Going d from.before from.this next far (from.looks + (looks + more))
            (with_word at (others rest) (now_at n from.this fin)) fin
        going_then =
            subst (λ (N : Set). Going d from.before from.this next far (from.looks + (looks + more)) N fin) left_then
            (subst (λ (k : ℕ). Going d from.before from.this next far k (but_one w left) fin) (add_assoc from.looks looks more)
            (going_more c.given c.going w here lowest fin took))

        grows : count n (taken_in n d.set next left work) < count n (taken_in n d.set next (with_word at (others rest) (now_at n
            from.this fin)) fin)
        grows =
            subst (λ (N : Set). count n (taken_in n d.set next left work) < count n (taken_in n d.set next N fin)) left_then
            (taken_grows c.given c.going w here lowest fin took)

-- where nothing of the word is left, what stands in the layer is left
pub left_none : (at : ℕ) (now : Set) → with_word at 0 now ≡ now
left_none at now = fun_ext (λ u. ap (λ (b : Bool). b || now u) (word_none at u))
