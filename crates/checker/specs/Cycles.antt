-- The kind 24: the two rows of marks, and that a search over them gives the rule's verdict.
use Rattle.std.specs.Prelude.{true, false, ◌&&◌, not, cond, List, ◌≡◌, ℕ, ◌+◌, ◌-◌, ◌*◌, ◌%◌, ◌≤◌, ◌<◌, eqb, length, get_or}
use Rattle.std.proofs.Common.{inl, inr, ⊎_elim, sym, ap, subst, ◌∙◌, le_refl, arith, get_or-drop}
use Rattle.rules.specs.Counting.{Set, some}
use Rattle.rules.specs.Game.{Edge}
use Rattle.rules.specs.Tables.{Tables, vertices, game_of, Accepted, tables_of}
use Rattle.rules.specs.Words.{set_of, entry, no_entry}
use Rattle.basics.specs.Frame.{Behind, Unchanged}
use Rattle.theory.specs.Chosen.{chosen_part}
use Rattle.parity_game.specs.Laws.{accepted_sound}
use Rattle.predecessors.specs.Table.{TableReady, Predecessors}
use Rattle.predecessors.specs.Whole.{accepted_edges}
use Rattle.search_rows.specs.Rows.{marks, behind}
use Rattle.search_links.specs.Area.{Within, ClearedUpTo, marked, marked_alike}
use Rattle.backward_look.specs.Seeking.{rows_kept}
use Rattle.subgame.specs.Parity.{Sweepable, Swept, predecessor_rows, graph_sound, swept_all}

-- v is marked in the row of the other parity
unfoldable pub losing_at : List ℕ → List ℕ → ℕ → ℕ → Set
losing_at even work rows n v =
    cond (set_of even v) (not (eqb (get_or work (rows + n + v) 0) 0)) (not (eqb (get_or work (rows + v) 0) 0))

pub record CyclesScannable (even work : List ℕ) (rows n : ℕ) : Type 0 where
  pub sets : n ≤ 64 * length even
  pub room : rows + n + n ≤ length work

module _ (even work : List ℕ) (rows n v : ℕ) where
  pub losing_even : set_of even v ≡ true → not (eqb (get_or work (rows + n + v) 0) 0) ≡ losing_at even work rows n v
  unfolding losing_at
  losing_even e = rw e

  pub losing_odd : set_of even v ≡ false → not (eqb (get_or work (rows + v) 0) 0) ≡ losing_at even work rows n v
  unfolding losing_at
  losing_odd e = rw e

pub record MarksReady (owners priorities offsets targets strategy work : List ℕ) : Type 0 where
  pub accepted : Accepted (tables_of owners priorities offsets targets)
  pub entries :
      (v : ℕ) → v < length owners → (entry strategy v ≡ no_entry → ⊥) →
      Edge (game_of (tables_of owners priorities offsets targets)) v (entry strategy v)
  pub room : behind (length priorities) (length targets) + length priorities + length priorities ≤ length work

-- the two rows, and nothing behind them, are changed
pub record CyclesMarked (owners priorities offsets targets strategy before after : List ℕ) : Type 0 where
  pub long : length after ≡ length before
  pub beyond :
      Unchanged (Behind (behind (length priorities) (length targets) + length priorities + length priorities)) before after
  pub evens :
      (v : ℕ) → v < length priorities →
      marked (length priorities) (behind (length priorities) (length targets)) after v ≡
      some 256 (λ p. eqb (p % 2) 0 && chosen_part (game_of (tables_of owners priorities offsets targets)) strategy p v)
  pub odds :
      (v : ℕ) → v < length priorities →
      marked (length priorities) (behind (length priorities) (length targets) + length priorities) after v ≡
      some 256 (λ p. eqb (p % 2) 1 && chosen_part (game_of (tables_of owners priorities offsets targets)) strategy p v)

module _ {owners priorities offsets targets strategy w0 : List ℕ}
    (given : MarksReady owners priorities offsets targets strategy w0)
  where
    abbrev t : Tables
    t = tables_of owners priorities offsets targets

    abbrev n : ℕ
    n = length priorities

    abbrev bh : ℕ
    bh = behind (length priorities) (length targets)

    each : length priorities ≡ length owners
    each = (accepted_sound t given.accepted).priority_each

    module _ {w1 : List ℕ} (cleared : ClearedUpTo bh (bh + n + n) w0 w1) where
      pub build_ready : TableReady n offsets targets w1
      build_ready =
          record {
            edges = rw each (accepted_edges t given.accepted);
            room = omega (arith, given.room, cleared.within.long);
          }

      module _ {w2 : List ℕ} (built : Predecessors n offsets targets w1 w2) where
        beyond2 : Unchanged (Behind (n + 1 + length targets)) w1 w2
        beyond2 i l =
            let k = n + 1 + length targets in
            let at : k + (i - k) ≡ i = omega arith in
            sym (ap (λ (j : ℕ). get_or w2 j 0) at) ∙ sym (get_or-drop k w2 (i - k) 0) ∙
            ap (λ (xs : List ℕ). get_or xs (i - k) 0) built.beyond ∙
            get_or-drop k w1 (i - k) 0 ∙ ap (λ (j : ℕ). get_or w1 j 0) at

        long2 : length w2 ≡ length w0
        long2 = built.long ∙ cleared.within.long

        ready' : TableReady (vertices t) offsets targets w1
        ready' = subst (λ (k : ℕ). TableReady k offsets targets w1) each build_ready

        built' : Predecessors (vertices t) offsets targets w1 w2
        built' = subst (λ (k : ℕ). Predecessors k offsets targets w1 w2) each built

        -- the words of the rows are 0 at first
        blank2 : (i : ℕ) → bh ≤ i → i < bh + n + n → get_or w2 i 0 ≡ 0
        blank2 i a b = beyond2 i (omega arith) ∙ cleared.zeros i a b

        pub evens_ready : Sweepable priorities offsets targets strategy 0 w2 bh
        evens_ready =
            record {
              markable =
                  λ p.
                  record {
                    sound = graph_sound t given.accepted strategy p given.entries;
                    rows = predecessor_rows t given.accepted w1 w2 ready' built' strategy p;
                    low_end = le_refl bh;
                    fits = omega (arith, given.room, long2);
                  };
              parity_small = omega arith;
            }

        module _ {w3 : List ℕ} (evens : Swept priorities offsets targets strategy 0 bh 128 w2 w3) where
          within3 : Within (marks n (length targets)) (bh + n) w2 w3
          within3 =
              record {
                long = evens.long;
                rest = λ i o. ⊎_elim (λ l. evens.table i l) (λ l. evens.rest i (omega arith) (inr l)) o;
              }

          pub odds_ready : Sweepable priorities offsets targets strategy 1 w3 (bh + n)
          odds_ready =
              record {
                markable =
                    λ p.
                    record {
                      sound = graph_sound t given.accepted strategy p given.entries;
                      rows =
                          rows_kept (le_refl (marks n (length targets))) within3
                          (predecessor_rows t given.accepted w1 w2 ready' built' strategy p);
                      low_end = omega arith;
                      fits = omega (arith, given.room, long2, evens.long);
                    };
                parity_small = omega arith;
              }

          module _ {w4 : List ℕ} (odds : Swept priorities offsets targets strategy 1 (bh + n) 128 w3 w4) where
            pub cycles_marked : CyclesMarked owners priorities offsets targets strategy w0 w4
            cycles_marked =
                record {
                  long = odds.long ∙ evens.long ∙ long2;
                  beyond =
                      λ i l.
                      odds.rest i (omega arith) (inr (omega arith)) ∙ evens.rest i (omega arith) (inr (omega arith)) ∙
                      beyond2 i (omega arith) ∙
                      cleared.within.rest i (inr l);
                  evens =
                      λ v l.
                      ap (λ (S : Set). S v)
                      (marked_alike n bh w3 w4 (λ u k. odds.rest (bh + u) (omega arith) (inl (omega arith)))) ∙
                      swept_all t given.accepted strategy 0 bh w2 w3 (omega arith) evens
                      (λ u k. blank2 (bh + u) (omega arith) (omega arith)) v l;
                  odds =
                      swept_all t given.accepted strategy 1 (bh + n) w3 w4 (omega arith) odds
                      (λ u k.
                      evens.rest (bh + n + u) (omega arith) (inr (omega arith)) ∙
                      blank2 (bh + n + u) (omega arith) (omega arith));
                }
