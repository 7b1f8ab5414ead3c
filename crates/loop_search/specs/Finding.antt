-- One priority: mark the good parts, begin at the vertices of exactly that priority in them, and see who reaches one. And one
-- priority after another.
use Rattle.std.specs.Prelude.{true, false, List, ◌⊎◌, ◌≡◌, refl, ℕ, ◌+◌, ◌*◌, ◌%◌, ◌≤◌, ◌<◌, length, get_or}
use Rattle.std.proofs.Common.{inl, inr, ⊎_elim, sym, subst, ◌∙◌, le_refl, add-one, arith}
use Rattle.rules.specs.Winning.{Reach}
use Rattle.basics.specs.Basics.{clash, or_right, or_cases, below_suc}
use Rattle.theory.specs.Chosen.{chosen_part}
use Rattle.search_rows.specs.Rows.{labels, behind}
use Rattle.search_links.specs.Area.{ClearedUpTo, marked, true_marked, marked_true}
use Rattle.search_links.specs.Area.{false_marked}
use Rattle.search_links.specs.Graph.{Graph, graph, game_in, Leads, SoundGraph}
use Rattle.backward_look.specs.Seeking.{assigned, Rows, rows_kept}
use Rattle.breadth_first.specs.Spreading.{SpreadWay}
use Rattle.subgame.specs.Parity.{rows_alike}
use Rattle.parts.specs.Whole.{PartsMarkable, PartsMarked}
use Rattle.loop_heads.specs.Heads.{head_true, true_head, Headable, Headed}

-- sound tables, the predecessor table at the front, and room for one row behind the words of the searches
pub record SearchReady (priorities offsets targets entries work : List ℕ) : Type 0 where
  pub sound : (top : ℕ) → SoundGraph (graph priorities offsets targets entries top)
  pub rows : (top : ℕ) → Rows (graph priorities offsets targets entries top) work
  pub small : (v : ℕ) → v < length priorities → get_or priorities v 0 ≤ 255
  pub room : behind (length priorities) (length targets) + length priorities ≤ length work

-- a way from v to a vertex of exactly p in a good part for p
pub record Led (priorities offsets targets entries : List ℕ) (p : ℕ) (work : List ℕ) (v : ℕ) : Type 0 where
  pub vs : List ℕ
  pub way : SpreadWay (graph priorities offsets targets entries 255) work v vs
  pub short : length vs ≤ length priorities
  pub exactly : get_or priorities way.last 0 ≡ p
  pub good : chosen_part (game_in (graph priorities offsets targets entries p)) entries p way.last ≡ true

-- v reaches no such vertex
abbrev pub Unled : List ℕ → List ℕ → List ℕ → List ℕ → ℕ → ℕ → Type 0
Unled priorities offsets targets entries p v =
    (x : ℕ) → x < length priorities → get_or priorities x 0 ≡ p →
    chosen_part (game_in (graph priorities offsets targets entries p)) entries p x ≡ true →
    Reach (Leads (graph priorities offsets targets entries 255)) v x → ⊥

pub record LoopFound (priorities offsets targets entries : List ℕ) (p : ℕ) (before after : List ℕ) : Type 0 where
  pub long : length after ≡ length before
  pub ready : SearchReady priorities offsets targets entries after
  pub led :
      (u : ℕ) → assigned (graph priorities offsets targets entries 255) after u ≡ true →
      Led priorities offsets targets entries p after u
  pub unled :
      (u : ℕ) → assigned (graph priorities offsets targets entries 255) after u ≡ false →
      Unled priorities offsets targets entries p u

pub record Seekable (priorities offsets targets entries : List ℕ) (parity : ℕ) (work : List ℕ) (v : ℕ) : Type 0 where
  pub ready : SearchReady priorities offsets targets entries work
  pub side : parity ≤ 1
  pub vertex : v < length priorities

-- the lowest priority of the parity with a way, and v's way
pub record WayMet (priorities offsets targets entries : List ℕ) (parity v : ℕ) (after : List ℕ) (p : ℕ) : Type 0 where
  pub low : p ≤ 255
  pub side : p % 2 ≡ parity
  pub ready : SearchReady priorities offsets targets entries after
  pub led : Led priorities offsets targets entries p after v

pub record Sought (priorities offsets targets entries : List ℕ) (parity v : ℕ) (before after : List ℕ) (p : ℕ) : Type 0 where
  pub long : length after ≡ length before
  pub met :
      ((p ≡ 256) × ((j : ℕ) → j < 128 → Unled priorities offsets targets entries (2 * j + parity) v)) ⊎
      WayMet priorities offsets targets entries parity v after p

-- ---- laws of one priority

module _ (priorities offsets targets entries : List ℕ) (p : ℕ) (w₀ : List ℕ)
    (given : SearchReady priorities offsets targets entries w₀) where
  abbrev n : ℕ
  n = length priorities

  abbrev m : ℕ
  m = length targets

  abbrev G : ℕ → Graph
  G top = graph priorities offsets targets entries top

  module _ (w₁ : List ℕ) (bare : ClearedUpTo (behind n m) (behind n m + n) w₀ w₁) where
    pub find_markable : PartsMarkable (graph priorities offsets targets entries p) w₁ (behind (length priorities) (length targets))
    find_markable =
        record {
          sound = given.sound p;
          rows = rows_kept (omega arith) bare.within (given.rows p);
          low_end = le_refl (behind n m);
          fits = omega (arith, given.room, bare.within.long);
        }

    module _ (w₂ : List ℕ) (parts : PartsMarked (graph priorities offsets targets entries p)
        (behind (length priorities) (length targets)) w₁ w₂)
        (w₃ : List ℕ) (blank : ClearedUpTo (labels n m) (labels n m + n) w₂ w₃) where
      rows₃ : (top : ℕ) → Rows (G top) w₃
      rows₃ top =
          rows_kept (omega arith) blank.within
          (rows_alike (G top) w₁ w₂ parts.table (rows_kept (omega arith) bare.within (given.rows top)))

      long₃ : length w₃ ≡ length w₀
      long₃ = blank.within.long ∙ parts.long ∙ bare.within.long

      pub find_headable : Headable (graph priorities offsets targets entries 255) (behind (length priorities) (length targets)) w₃
      find_headable =
          record {
            tables = record { sound = given.sound 255; room = omega (arith, given.room, long₃); rows = rows₃ 255 };
            blank = λ v l. blank.zeros (labels n m + v) (omega arith) (omega arith);
            small = given.small;
            low = omega arith;
            high = omega (arith, given.room, long₃);
          }

      -- a marked vertex lies in a good part
      word_kept : (v : ℕ) → get_or w₃ (behind n m + v) 0 ≡ get_or w₂ (behind n m + v) 0
      word_kept v = blank.within.rest (behind n m + v) (inr (omega arith))

      good_of : (v : ℕ) → v < n → (get_or w₃ (behind n m + v) 0 ≡ 0 → ⊥) → chosen_part (game_in (G p)) entries p v ≡ true
      good_of v l d =
          let q = true_marked n (behind n m) w₂ v l (λ z. d (word_kept v ∙ z)) in
          ⊎_elim
          (λ was. absurd (clash was
          (false_marked n (behind n m) w₁ v (bare.zeros (behind n m + v) (omega arith) (omega arith)))))
          (λ good. good)
          (or_cases (marked n (behind n m) w₁ v) _ (sym (parts.found v l) ∙ q))

      word_of : (v : ℕ) → v < n → chosen_part (game_in (G p)) entries p v ≡ true → get_or w₃ (behind n m + v) 0 ≡ 0 → ⊥
      word_of v l good z =
          let q : marked n (behind n m) w₂ v ≡ true = parts.found v l ∙ or_right (marked n (behind n m) w₁ v) _ good in
          (marked_true n (behind n m) w₂ v q).1 (sym (word_kept v) ∙ z)

      pub found : (w₄ : List ℕ) → Headed (graph priorities offsets targets entries 255) p
          (behind (length priorities) (length targets)) w₃ w₄ →
          LoopFound priorities offsets targets entries p w₀ w₄
      found w₄ h =
          record {
            long = h.within.long ∙ long₃;
            ready =
                record {
                  sound = given.sound;
                  rows = λ top. rows_kept (omega arith) h.within (rows₃ top);
                  small = given.small;
                  room = omega (arith, given.room, long₃, h.within.long);
                };
            led =
                λ u q.
                let (vs, way, short, is) = h.ways u q in
                let (exactly, word) = head_true priorities p (behind n m) w₃ way.last is in
                record { vs = vs; way = way; short = short; exactly = exactly; good = good_of way.last way.vertex word };
            unled =
                λ u q x l e good r.
                clash (h.all r l (true_head priorities p (behind n m) w₃ x e (word_of x l good))) q;
          }

-- ---- one priority after another

pub record LoopSeeking (priorities offsets targets entries : List ℕ) (parity v : ℕ) (before : List ℕ) (k : ℕ)
    (after : List ℕ) : Type 0 where
  pub long : length after ≡ length before
  pub ready : SearchReady priorities offsets targets entries after
  pub none : (j : ℕ) → j < k → Unled priorities offsets targets entries (2 * j + parity) v

module _ (priorities offsets targets entries : List ℕ) (parity v : ℕ) (before : List ℕ)
    (given : Seekable priorities offsets targets entries parity before v) where
  pub seeking_starts : LoopSeeking priorities offsets targets entries parity v before 0 before
  seeking_starts = record { long = refl; ready = given.ready; none = λ j l. absurd (omega arith) }

  module _ (k : ℕ) (work : List ℕ) (s : LoopSeeking priorities offsets targets entries parity v before k work) (after : List ℕ)
      (f : LoopFound priorities offsets targets entries (2 * k + parity) work after) where
    pub seeking_on :
        get_or after (labels (length priorities) (length targets) + v) 0 ≡ 0 →
        LoopSeeking priorities offsets targets entries parity v before (k + 1) after
    seeking_on z =
        record {
          long = f.long ∙ s.long;
          ready = f.ready;
          none =
              λ j l.
              ⊎_elim
              (λ (at : j ≡ k).
              subst (λ (i : ℕ). Unled priorities offsets targets entries (2 * i + parity) v) (sym at)
              (f.unled v (false_marked (length priorities) (labels (length priorities) (length targets)) after v z)))
              (s.none j)
              (below_suc (rw add-one at l));
        }

    pub seeking_met :
        k < 128 →
        (get_or after (labels (length priorities) (length targets) + v) 0 ≡ 0 → ⊥) →
        Sought priorities offsets targets entries parity v before after (2 * k + parity)
    seeking_met small d =
        record {
          long = f.long ∙ s.long;
          met =
              inr (record {
                low = omega (arith, given.side);
                side = omega (arith, given.side);
                ready = f.ready;
                led = f.led v (true_marked (length priorities) (labels (length priorities) (length targets)) after v
                    given.vertex d);
              });
        }

  pub seeking_ends :
      (work : List ℕ) → LoopSeeking priorities offsets targets entries parity v before 128 work →
      Sought priorities offsets targets entries parity v before work 256
  seeking_ends work s = record { long = s.long; met = inl (refl, s.none) }
