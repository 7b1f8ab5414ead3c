-- What the solvers answer on the compacted game: Zielonka's recursion and the rounds of priority promotion end with the same sets
-- as on the game itself.
use Rattle.std.specs.Prelude.{true, ◌≡◌, ℕ, ◌<◌}
use Rattle.rules.specs.Game.{Player}
use Rattle.rules.specs.Promotion.{after_rounds, all_solved}
use Rattle.rules.specs.Tables.{Tables, game_of, Accepted}
use Rattle.rules.specs.Zielonka.{zielonka}
use Rattle.theory.specs.Compaction.{compacted_tables, compacted_accepted, compaction_keeps_answers}
use Rattle.theory.specs.PromotionAccepted.{accepted_rounds_sets}
use Rattle.accepted.specs.Tables.{accepted_total}
use Rattle.theory.specs.Zielonka.{zielonka_wins}

module _ (t : Tables) (ok : Accepted t) where
  -- **Zielonka's recursion finds the same sets,**
  pub compaction_keeps_zielonka :
      (a : Player) (v : ℕ) →
      v < (game_of t).size →
      (zielonka (game_of t)).won a v ≡ (zielonka (game_of (compacted_tables t))).won a v
  compaction_keeps_zielonka =
      compaction_keeps_answers t ok _ _
      (zielonka_wins (game_of t) (accepted_total t ok))
      (zielonka_wins (game_of (compacted_tables t)) (accepted_total (compacted_tables t) (compacted_accepted t ok)))

  -- **and so do the rounds of priority promotion, once all vertices are solved.**
  pub compaction_keeps_promotion :
      (k k' : ℕ) →
      all_solved (game_of t) (after_rounds (game_of t) k) ≡ true →
      all_solved (game_of (compacted_tables t)) (after_rounds (game_of (compacted_tables t)) k') ≡ true →
      (a : Player) (v : ℕ) →
      v < (game_of t).size →
      (after_rounds (game_of t) k).won a v ≡ (after_rounds (game_of (compacted_tables t)) k').won a v
  compaction_keeps_promotion k k' solved solved' =
      compaction_keeps_answers t ok _ _
      (accepted_rounds_sets t ok k solved)
      (accepted_rounds_sets (compacted_tables t) (compacted_accepted t ok) k' solved')
