-- The row of marked words: what marking asks for, what it leaves, and that the marks are the good parts of the owner's parity.
use Rattle.std.specs.Prelude.{Bool, ◌&&◌, List, ◌≡◌, ℕ, ◌+◌, ◌-◌, ◌%◌, ◌≤◌, ◌<◌, length, get_or}
use Rattle.std.proofs.Math.Logic.{⊎_elim}
use Rattle.std.proofs.Math.Path.{sym, ap, fun_ext}
use Rattle.std.proofs.Common.{◌∙◌, arith, get_or-drop}
use Rattle.rules.specs.Counting.{some}
use Rattle.rules.specs.Game.{Player, everywhere, player_of}
use Rattle.rules.specs.Tables.{Tables, game_of, vertices, edges_in, Accepted}
use Rattle.rules.specs.Words.{entry, no_entry}
use Rattle.rules.specs.Zielonka.{highest_in}
use Rattle.basics.specs.Basics.{not_true_is_false, lt_or_ge}
use Rattle.theory.specs.Chosen.{chosen_part}
use Rattle.basics.specs.Greatest.{greatest_le}
use Rattle.theory.specs.Solitaire.{parts_for}
use Rattle.theory.specs.SolitaireAttractor.{parts_elim, parts_chosen}
use Rattle.accepted.specs.Tables.{accepted_priority}
use Rattle.parity_game.specs.Laws.{accepted_sound}
use Rattle.predecessors.specs.Table.{TableReady, Predecessors}
use Rattle.predecessors.specs.Whole.{accepted_edges}
use Rattle.attractor.specs.Attracted.{Listed, listed_kept, own_is, built_listed}
use Rattle.search_rows.specs.Rows.{behind}
use Rattle.search_links.specs.Area.{ClearedUpTo, marked, marked_true}
use Rattle.subgame.specs.Parity.{Sweepable, Swept, predecessor_rows, graph_sound, swept_all}

pub record GoodMarkable (t : Tables) (owner : ℕ) (work : List ℕ) (row : ℕ) : Type 0 where
  pub accepted : Accepted t
  pub side : owner ≤ 1
  pub low : behind (vertices t) (edges_in t) ≤ row
  pub high : row + vertices t ≤ length work

-- the predecessor table stands at the front, and the row has the good parts of a's parity
pub record GoodMarked (t : Tables) (a : Player) (row : ℕ) (before after : List ℕ) : Type 0 where
  pub long : length after ≡ length before
  pub listed : Listed (vertices t) t.offsets t.targets after
  pub found : (v : ℕ) → marked (vertices t) row after v ≡ parts_for (game_of t) a v

module _ (t : Tables) (owner : ℕ) (w0 : List ℕ) (row : ℕ) (given : GoodMarkable t owner w0 row)
    (w1 : List ℕ) (cleared : ClearedUpTo row (row + vertices t) w0 w1)
  where
    abbrev n : ℕ
    n = vertices t

    each : length t.priorities ≡ n
    each = (accepted_sound t given.accepted).priority_each

    pub build_ready : TableReady n t.offsets t.targets w1
    build_ready =
        record { edges = accepted_edges t given.accepted; room = omega (arith, given.low, given.high, cleared.within.long) }

    module _ (w2 : List ℕ) (built : Predecessors n t.offsets t.targets w1 w2)
        (entries : List ℕ) (absent : (v : ℕ) → entry entries v ≡ no_entry)
      where
        pub sweep_ready : (q : ℕ) → q ≤ 1 → Sweepable t.priorities t.offsets t.targets entries q w2 row
        sweep_ready q small =
            record {
              markable =
                  λ p.
                  record {
                    sound = graph_sound t given.accepted entries p (λ v l d. absurd (d (absent v)));
                    rows = predecessor_rows t given.accepted w1 w2 build_ready built entries p;
                    low_end = rw each given.low;
                    fits = omega (arith, given.high, each, built.long, cleared.within.long);
                  };
              parity_small = small;
            }

        -- the row's words are 0 at first
        blank : (v : ℕ) → v < length t.priorities → get_or w2 (row + v) 0 ≡ 0
        blank v l =
            let k = n + 1 + edges_in t in
            let at : k + (row + v - k) ≡ row + v = omega (arith, given.low) in
            sym (ap (λ (j : ℕ). get_or w2 j 0) at) ∙ sym (get_or-drop k w2 (row + v - k) 0) ∙
            ap (λ (xs : List ℕ). get_or xs (row + v - k) 0) built.beyond ∙ get_or-drop k w1 (row + v - k) 0 ∙
            ap (λ (j : ℕ). get_or w1 j 0) at ∙ cleared.zeros (row + v) (omega arith) (omega (arith, each))

        highest : highest_in (game_of t) (everywhere (game_of t)) < 256
        highest =
            let h = greatest_le (game_of t).size (everywhere (game_of t)) (game_of t).priority 255 (λ v l p. accepted_priority t given.accepted v) in
            omega arith

        module _ (w3 : List ℕ) (swept : Swept t.priorities t.offsets t.targets entries owner row 128 w2 w3) where
          inside : (v : ℕ) → v < n → marked n row w3 v ≡ parts_for (game_of t) (player_of owner) v
          unfolding game_of
          inside v l =
              ap (λ (k : ℕ). marked k row w3 v) (sym each) ∙
              swept_all t given.accepted entries owner row w2 w3 given.side swept blank v (rw each l) ∙
              ap (some 256) (fun_ext (λ p. ap (λ (b : Bool). b && chosen_part (game_of t) entries p v) (own_is (p % 2) owner (omega arith) given.side))) ∙
              sym (parts_chosen (game_of t) (player_of owner) entries (λ u k. absent u) 256 highest v l)

          pub good_marked : GoodMarked t (player_of owner) row w0 w3
          unfolding game_of
          good_marked =
              record {
                long = swept.long ∙ built.long ∙ cleared.within.long;
                listed =
                    listed_kept n t.offsets t.targets w2 w3 swept.long (λ i l. swept.table i (rw each l))
                    (built_listed n t.offsets t.targets w1 w2 built);
                found =
                    λ v.
                    ⊎_elim
                    (inside v)
                    (λ h.
                    not_true_is_false (marked n row w3 v) (λ e. let l = (marked_true n row w3 v e).0 in omega arith) ∙
                    sym
                    (not_true_is_false (parts_for (game_of t) (player_of owner) v)
                    (λ e. let l = (parts_elim (game_of t) (player_of owner) v e).0 in omega arith)))
                    (lt_or_ge v n);
              }
