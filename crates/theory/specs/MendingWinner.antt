-- Who wins a mended dead end: its owner's opponent. The self loop is its owner's one choice, and its priority is the opponent's.
use Rattle.std.specs.Prelude.{true, ◌≡◌, refl, ℕ, ◌<◌, get_or}
use mathlib.Core.List.Memᴰ
use Rattle.std.proofs.Common.{ap, ◌∙◌, subst, arith}
use Rattle.rules.specs.Game.{Player, Even, Odd, opponent, parity, player_of}
use Rattle.rules.specs.Mending.{altered, losing_priority, mended}
use Rattle.rules.specs.Tables.{Tables, vertices, game_of}
use Rattle.rules.specs.Winning.{Walk, one, more, Reach, here, step, Step, Wins}
use Rattle.basics.specs.Basics.{place_member}
use Rattle.theory.specs.Mending.{new_positive}
use Rattle.theory.specs.MendingKeeps.{mended_targets, altered_targets, altered_priority}

losing_parity : (a : Player) → parity (losing_priority a) ≡ opponent a
losing_parity Even = refl
losing_parity Odd = refl

module _ (priority : ℕ → ℕ) (R : ℕ → ℕ → Type 0) (v : ℕ) (stays : (w : ℕ) → R v w → w ≡ v) where
  -- what can be reached from a vertex that leads to itself alone is that vertex
  only_here : (x u : ℕ) → x ≡ v → Reach R x u → u ≡ v
  only_here x u e here = e
  only_here x u e (step {w = w} r rest) = only_here w u (stays w (subst (λ (y : ℕ). R y w) e r)) rest

  -- and every walk from it has its priority
  only_priority : (x u m : ℕ) → x ≡ v → Walk priority R x u m → m ≡ priority v
  only_priority x u m e (one r) = ap priority e
  only_priority x u m e (more {w = w} {m = k} r rest) =
      let same = only_priority w u k (stays w (subst (λ (y : ℕ). R y w) e r)) rest in
      let this = ap priority e in
      omega arith

-- a player's edges in the mended game, each the first of its vertex
abbrev first_edge : Tables → ℕ → ℕ
first_edge t u = get_or ((game_of (mended t)).targets u) 0 0

-- whoever fixes which edges, a mended dead end leads to itself alone
stays_there :
    (t : Tables) (v : ℕ) → v < vertices t → altered t v ≡ true → (a : Player) (σ : ℕ → ℕ) (w : ℕ) →
    Step (game_of (mended t)) a σ v w → w ≡ v
stays_there t v l p a σ w s = Memᴰ.eq_of_singleton (rw (altered_targets t v l p) at s.edge)

-- The winner of a mended dead end is its owner's opponent.
pub dead_end_lost :
    (t : Tables) (v : ℕ) → v < vertices t → altered t v ≡ true →
    Wins (game_of (mended t)) (opponent (player_of (get_or t.owners v 0))) v
unfolding game_of mended
dead_end_lost t v l p =
    let g = game_of (mended t) in
    let loser = player_of (get_or t.owners v 0) in
    let R = Step g (opponent loser) (first_edge t) in
    let stays = stays_there t v l p (opponent loser) (first_edge t) in
    record {
      choice = first_edge t;
      fixes = λ u below mine. place_member (g.targets u) 0 (rw (mended_targets t u below) (new_positive t u));
      wins =
          λ u highest reach cycle.
          let there : u ≡ v = only_here g.priority R v stays v u refl reach in
          ap parity (only_priority g.priority R v stays u u highest there cycle ∙ altered_priority t v l p) ∙
          losing_parity loser;
    }
