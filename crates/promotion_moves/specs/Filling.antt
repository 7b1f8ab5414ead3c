-- R closes: an own head of R that has no entry takes its lowest-numbered successor in R. Only entries change.
use Rattle.std.specs.Prelude.{true, List, ◌≡◌, refl, ℕ, ◌+◌, ◌-◌, ◌≤◌, ◌<◌, length, get_or, take, drop, set}
use Rattle.std.proofs.Common.{inr, ap, subst, ◌∙◌, arith}
use Rattle.rules.specs.Counting.{Set, lowest}
use Rattle.rules.specs.Tables.{words}
use Rattle.rules.specs.Words.{no_entry, set_of}
use Rattle.basics.specs.Frame.{Beside}
use Rattle.predecessors.specs.Table.{SoundEdges}
use Rattle.area.specs.EdgesOf.{EdgesOf, edges_of}
use Rattle.area.specs.Area.{set_at, words_at}
use Rattle.area.specs.Lent.{words_alike, part_length}
use Rattle.area.specs.Walking.{lent_part_lem}
use Rattle.area.specs.Walked.{Walkable, Keeps, Turn, Always, word_of, same_turn, store_turn, Walked}
use Rattle.successors.specs.Lowest.{end_in, lowest_end}

-- what the entry of a vertex of R becomes, with S for R
pub record Fills (owners offsets targets : List ℕ) (alpha : ℕ) (S : Set) (u old new : ℕ) : Type 0 where
  pub given : (get_or owners u 0 ≡ alpha → old ≡ no_entry → ⊥) → new ≡ old
  pub filled : get_or owners u 0 ≡ alpha → old ≡ no_entry → new ≡ lowest (length owners) (end_in offsets targets u S)

-- what the walk asks for
pub record FillAll (owners offsets targets : List ℕ) (s heads held entries : ℕ) (work : List ℕ) : Type 0 where
  pub size : s ≡ words (length owners)
  pub few : length owners ≤ 4096
  pub edges : SoundEdges (length owners) offsets targets
  pub order : entries + length owners ≤ held
  pub behind : held ≤ heads
  pub high : heads + words (length owners) ≤ length work
  pub below : (v : ℕ) → set_at (length owners) heads work v ≡ true → v < length owners

-- and one turn of it
pub record Fillable (owners offsets targets : List ℕ) (s held entries v : ℕ) (work : List ℕ) : Type 0 where
  pub size : s ≡ words (length owners)
  pub edges : SoundEdges (length owners) offsets targets
  pub order : entries + length owners ≤ held
  pub high : held + words (length owners) ≤ length work
  pub small : v < length owners

abbrev pub Filled : List ℕ → List ℕ → List ℕ → ℕ → ℕ → ℕ → ℕ → List ℕ → List ℕ → Type 0
Filled owners offsets targets alpha held entries v before after =
    Turn (length owners) (Beside (length owners) entries) Always (word_of entries)
    (Fills owners offsets targets alpha (set_at (length owners) held before)) v before after

abbrev pub FilledAll : List ℕ → List ℕ → List ℕ → ℕ → ℕ → ℕ → ℕ → List ℕ → List ℕ → Type 0
FilledAll owners offsets targets alpha heads held entries before after =
    Walked (length owners) heads (Beside (length owners) entries) Always (word_of entries)
    (Fills owners offsets targets alpha (set_at (length owners) held before)) before after

module _ {owners offsets targets : List ℕ} {s held entries v : ℕ} {work : List ℕ}
    (given : Fillable owners offsets targets s held entries v work)
  where
    -- the vertex is another's, or has an entry
    pub filled_not :
        {alpha : ℕ} →
        (get_or owners v 0 ≡ alpha → get_or work (entries + v) 0 ≡ no_entry → ⊥) →
        Filled owners offsets targets alpha held entries v work work
    filled_not no-need =
        same_turn tt (record { given = λ h. refl; filled = λ o e. absurd (no-need o e) })

    -- the search for an edge may begin
    pub search_ready : EdgesOf offsets targets v (take ((held + s) - held) (drop held work))
    search_ready =
        edges_of given.edges given.small
        (ap length (lent_part_lem (length owners) s held work given.size) ∙
        part_length held (words (length owners)) work given.high)

    -- the vertex is own and has none
    pub filled_now :
        {alpha w : ℕ} →
        get_or owners v 0 ≡ alpha →
        get_or work (entries + v) 0 ≡ no_entry →
        w ≡ lowest_end (length owners) offsets targets v (take ((held + s) - held) (drop held work)) →
        Filled owners offsets targets alpha held entries v work (set work (entries + v) w)
    filled_now {alpha} {w} own none is =
        store_turn entries w given.small (omega (arith, given.order, given.high))
        (record {
          given = λ h. absurd (h own none);
          filled =
              λ o e.
              is ∙
              ap (λ (xs : List ℕ). lowest_end (length owners) offsets targets v xs)
              (lent_part_lem (length owners) s held work given.size);
        })

-- ---- the walk

module _ {owners offsets targets : List ℕ} {s heads held entries : ℕ} {work : List ℕ}
    (given : FillAll owners offsets targets s heads held entries work)
  where
    pub fill_walkable : Walkable (length owners) s heads (Beside (length owners) entries) work
    fill_walkable =
        record {
          size = given.size;
          few = given.few;
          high = given.high;
          below = given.below;
          out = λ i low high. inr (omega (arith, given.order, given.behind));
        }

    module _ {now : List ℕ} (keeps : Keeps (Beside (length owners) entries) Always work now) where
      pub fill_ready : (v : ℕ) → v < length owners → Fillable owners offsets targets s held entries v now
      fill_ready v small =
          record {
            size = given.size;
            edges = given.edges;
            order = given.order;
            high = rw keeps.long (omega (arith, given.behind, given.high));
            small = small;
          }

      -- R is as it was
      held_words : words_at (length owners) held now ≡ words_at (length owners) held work
      held_words =
          words_alike (length owners) held work now keeps.long
          (λ i l. keeps.rest (held + i) (inr (omega (arith, given.order))))

      -- what `fill_entry` does is what the walk asks
      pub fill_turn :
          {alpha v : ℕ} {after : List ℕ} →
          Filled owners offsets targets alpha held entries v now after →
          Turn (length owners) (Beside (length owners) entries) Always (word_of entries)
          (Fills owners offsets targets alpha (set_at (length owners) held work)) v now after
      fill_turn {alpha} {v} {after} t =
          subst
          (λ (xs : List ℕ).
          Turn (length owners) (Beside (length owners) entries) Always (word_of entries)
          (Fills owners offsets targets alpha (set_of xs)) v now after)
          held_words
          t
