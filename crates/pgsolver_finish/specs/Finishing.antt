-- The end of a reading: which list is asked, and what each outcome leaves.
use Rattle.std.specs.Prelude.{List, ◌≡◌, refl, ℕ, ◌+◌, ◌-◌, ◌≤◌, length, take, drop}
use Rattle.std.proofs.Common.{sym, ap, ◌∙◌}
use Rattle.std.proofs.Math.Nat.{sub-zero}
use Rattle.rules.specs.Outcome.{Outcome, Verdict, none, refused, outcome, answered}
use Rattle.rules.specs.Reading as Reading
use Rattle.rules.specs.Reading.{Rooms, Written, reading_words, holding, no_tables, list_asked}
use Rattle.rules.specs.Tables.{Tables, tables_of}
use Rattle.parity_game.specs.Laws.{Numbered, numbered_tables, zero_none}
use Rattle.reading_rooms.specs.Cleared.{AllZero, all_zero_holding}
use Rattle.arrange.specs.Laws.{rooms_of}
use Rattle.pgsolver_finish.specs.declared.finish.Asks.{Asks}
use Rattle.pgsolver_finish.specs.declared.finish.Asks.TheVariants.{Text, Game}

abbrev pub asks_in : Asks → Reading.Asks
asks_in Text = Reading.text
asks_in Game = Reading.game

-- n, n, n + 1 and m entries stand at the front of their rooms
pub record Askable (n m : ℕ) (o p f t : List ℕ) : Type 0 where
  pub owners : n ≤ length o
  pub priorities : n ≤ length p
  pub offsets : n + 1 ≤ length f
  pub targets : m ≤ length t

abbrev pub Area : Rooms → Type 0
Area r = reading_words r ≤ length r.work

pub record Finishable (n m : ℕ) (r : Rooms) : Type 0 where
  pub fronts : Askable n m r.owners r.priorities r.offsets r.targets
  pub area : Area r

-- the rooms and the sizes
abbrev pub written_of : List ℕ → List ℕ → List ℕ → List ℕ → List ℕ → ℕ → ℕ → Written
written_of o p f t w n m = record { rooms = rooms_of o p f t w; n = n; m = m }

-- zero everywhere
abbrev pub Wiped : Rooms → Written → Type 0
Wiped before after = after ≡ record { rooms = holding no_tables before; n = 0; m = 0 }

-- the tables at the front of their rooms
abbrev pub fronts : ℕ → ℕ → Rooms → Tables
fronts n m r = tables_of (take n r.owners) (take n r.priorities) (take (n + 1) r.offsets) (take m r.targets)

-- what the list's verdict leaves
abbrev pub left : Verdict → ℕ → ℕ → Rooms → Written
left none n m r = record { rooms = r; n = n; m = m }
left (refused k place) n m r = record { rooms = holding no_tables r; n = 0; m = 0 }

pub record Finishes (asks : Reading.Asks) (n m : ℕ) (before : Rooms) (after : Written) (o : Outcome) : Type 0 where
  pub gives : o ≡ outcome (list_asked asks (fronts n m before)) (answered 0)
  pub leaves : after ≡ left (list_asked asks (fronts n m before)) n m before

-- a list's number is 0 where it does not refuse
numbered_list : (asks : Reading.Asks) (t : Tables) → Numbered (list_asked asks t)
numbered_list Reading.text t = tt
numbered_list Reading.game t = numbered_tables t

left_refused :
    (v : Verdict) (n m : ℕ) (r : Rooms) →
    ((outcome v (answered 0)).number ≡ 0 → ⊥) →
    left v n m r ≡ record { rooms = holding no_tables r; n = 0; m = 0 }
left_refused none n m r h = absurd (h refl)
left_refused (refused k place) n m r h = refl

module _ (asks : Reading.Asks) (n m : ℕ) (before : Rooms) (o : Outcome)
    (said : o ≡ outcome (list_asked asks (fronts n m before)) (answered 0)) where
  abbrev list : Verdict
  list = list_asked asks (fronts n m before)

  -- the list refuses
  pub finish_refused : (after : Written) → (o.number ≡ 0 → ⊥) → Wiped before after → Finishes asks n m before after o
  finish_refused after refuses wiped =
      record {
        gives = said;
        leaves =
            wiped ∙ sym (left_refused list n m before (λ z. refuses (ap (λ (x : Outcome). x.number) said ∙ z)));
      }

  -- the list passes
  pub finish_passed : o.number ≡ 0 → Finishes asks n m before (record { rooms = before; n = n; m = m }) o
  finish_passed zero =
      let passes : list ≡ none =
      zero_none list (answered 0) (numbered_list asks (fronts n m before))
      (sym (ap (λ (x : Outcome). x.number) said) ∙ zero) in
      record { gives = said; leaves = sym (ap (λ (v : Verdict). left v n m before) passes) }

-- a part from 0 on is the front
pub part_fronts :
    (n m : ℕ) (o p f t : List ℕ) →
    tables_of (take (n - 0) (drop 0 o)) (take (n - 0) (drop 0 p)) (take (n + 1 - 0) (drop 0 f)) (take (m - 0) (drop 0 t)) ≡
    tables_of (take n o) (take n p) (take (n + 1) f) (take m t)
part_fronts n m o p f t = simp sub-zero

abbrev sized : Rooms → ℕ → ℕ → Written
sized r n m = record { rooms = r; n = n; m = m }

-- rooms that were cleared
pub wiped :
    (before after : Rooms) → AllZero (reading_words before) before after → Wiped before (record { rooms = after; n = 0; m = 0 })
wiped before after zero =
    ap (λ (r : Rooms). sized r 0 0) (all_zero_holding before after zero)
