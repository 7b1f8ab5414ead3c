-- The words of one layer, taken one after another: what `take_layer` asks for, what holds before each word is popped, and what
-- holds when no mark is left. The laws of a layer's place and marks serve the whole attractor too.
use Rattle.std.specs.Prelude.{List, ◌≡◌, ℕ, ◌+◌, ◌≤◌, ◌<◌, length, get_or, drop}
use Rattle.std.proofs.Common.{sym, ap, ◌∙◌, arith, get_or-take, get_or-drop}
use Rattle.rules.specs.Counting.{Set, count}
use Rattle.rules.specs.Tables.{words}
use Rattle.basics.specs.Basics.{count_le}
use Rattle.area.specs.Area.{layer_words}
use Rattle.layer.specs.Layer.{room, marks}
use Rattle.attractor_drawing.specs.Drawn.{Plan}
use Rattle.attractor_look.specs.InArea.{layer_at}
use Rattle.attractor_look.specs.InAreaLaws.{layer_long}
use Rattle.attractor_word.specs.Going.{Drawable, Going, now_at, taken_in, taken_at, this_high}

-- a run over the work area as it was `lent` came to the layer with `sofar` looks and `taken` members taken, and has made `looks`
-- in it; where no mark is left, one was taken
pub record LayerStands (d : Plan) (this next far : ℕ) (lent : List ℕ) (sofar taken looks : ℕ) (work : List ℕ) : Type 0 where
  pub given : Drawable d lent
  pub going :
      Going d lent this next far (sofar + looks) (now_at (length d.owners) this work) work
  pub never_less : taken ≤ count (length d.owners) (taken_at (length d.owners) d.set this next work)
  pub grown :
      marks (layer_at (length d.owners) this work) ≡ 0 →
      taken < count (length d.owners) (taken_at (length d.owners) d.set this next work)

-- what `take_layer` asks for
pub record Layerable (d : Plan) (this next far : ℕ) (work : List ℕ) : Type 0 where
  pub lent : List ℕ
  pub sofar : ℕ
  pub taken : ℕ
  pub stands : LayerStands d this next far lent sofar taken 0 work

-- from each run that was where the layer begins, words of it were taken
abbrev pub TookWords : Plan → ℕ → ℕ → ℕ → List ℕ → ℕ → List ℕ → Type 0
TookWords d this next far before looks after =
    (lent : List ℕ) (sofar taken : ℕ) →
    LayerStands d this next far lent sofar taken 0 before →
    LayerStands d this next far lent sofar taken looks after

-- and after `take_layer` all of them
pub record TookLayer (d : Plan) (this next far : ℕ) (before : List ℕ) (looks : ℕ) (after : List ℕ) : Type 0 where
  pub done : marks (layer_at (length d.owners) this after) ≡ 0
  pub took : TookWords d this next far before looks after

-- the marks of a layer, as they are read
marks_at : (n base : ℕ) (work : List ℕ) → base + layer_words n ≤ length work → marks (layer_at n base work) ≡ get_or work
    (base + words n) 0
marks_at n base work high =
    ap (λ (k : ℕ). get_or (layer_at n base work) k 0) last_word ∙
    get_or-take (layer_words n) (drop base work) (words n) 0 (omega arith) ∙
    get_or-drop base work (words n) 0
  where
    last_word : room (layer_at n base work) ≡ words n
    last_word = omega (arith, layer_long n base work high)

module _ {d : Plan} {before : List ℕ} (given : Drawable d before) {this next far looks : ℕ} {now : Set} {after : List ℕ}
    (c : Going d before this next far looks now after) where
  abbrev n : ℕ
  n = length d.owners

  -- the layer, with its marks, lies in the work area
  pub layer_fits : this + layer_words n ≤ length after
  layer_fits =
      omega (
        arith,
        this_high given c,
        c.long,
        given.placed.within_low,
        given.placed.within_high,
      )

  pub marks_read : {s place : ℕ} → s ≡ words n → place ≡ this + s → marks (layer_at n this after) ≡ get_or after place 0
  marks_read {s} {place} size at = marks_at n this after layer_fits ∙ ap (λ (k : ℕ). get_or after k 0) (omega arith)

  -- and so a mark is left where the word of them is not 0
  pub marks_left :
      {s place : ℕ} → s ≡ words n → place ≡ this + s → (get_or after place 0 ≡ 0 → ⊥) → marks (layer_at n this after) ≡ 0 → ⊥
  marks_left size at some z = some (sym (marks_read size at) ∙ z)

  -- the looks of all layers so far are few
  pub all_looks_few : looks ≤ 67125248
  all_looks_few = omega (arith, c.few, count_le n (taken_in n d.set next now after), given.edges.few_vertices)
