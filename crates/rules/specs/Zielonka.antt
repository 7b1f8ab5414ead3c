-- Zielonka on V: the recursion on sets, with its calls, on empty sets as well, and the entries that it chooses.
use Rattle.std.specs.Prelude.{true, false, ◌&&◌, cond, ℕ, zero, suc, ◌+◌, eqb}
use Rattle.rules.specs.Counting.{Set, nobody, without, union, some, count, within, noted, greatest}
use Rattle.rules.specs.Game.{Player, Even, Odd, Game, everywhere, opponent, parity, same}
use Rattle.rules.specs.Attractor.{attractor}
use Rattle.rules.specs.Distance.{attractor_entry, lowest_in}
use Rattle.rules.specs.Words.{no_entry}

-- the highest priority in V
abbrev pub highest_in : Game → Set → ℕ
highest_in g V' = greatest g.size V' g.priority

-- the vertices of V with priority p
abbrev pub with_priority : Game → Set → ℕ → Set
with_priority g V' p v = V' v && eqb (g.priority v) p

-- what a call gives: the set that each player wins, the calls made, itself among them, and the winners' entries
pub record Solved : Type 0 where
  pub won : Player → Set
  pub calls : ℕ
  pub entries : ℕ → ℕ

-- a wins S and its opponent T
abbrev pub won_by : Player → Set → Set → Player → Set
won_by Even S T Even = S
won_by Even S T Odd = T
won_by Odd S T Even = T
won_by Odd S T Odd = S

-- V is not empty: p is the highest priority in V, a its player, U the vertices of V with p, A the attractor of U in V for a.
-- Solve V without A. If the opponent wins nothing there, a wins V. Else B is the attractor of the opponent's set in V for the
-- opponent; solve V without B; the opponent wins B and what it won there. The entries are the attractor's for whom it draws in,
-- those of the nested call that decided the vertex, and for a's own vertices of U the lowest-numbered successor in V.
unfoldable pub one_call : (Set → Solved) → Game → Set → Solved
one_call solve g V' =
    let a = parity (highest_in g V') in
    let b = opponent a in
    let U : Set = with_priority g V' (highest_in g V') in
    let A = attractor g a V' U in
    let first = solve (within g.size (without V' A)) in
    elim (some g.size (first.won b)) [
      | false ↦
          let drawn = attractor_entry g a V' U in
          record {
            won = won_by a V' nobody;
            calls = 1 + first.calls;
            entries =
                noted no_entry g.size
                (λ v.
                cond (U v)
                (cond (same (g.owner v) a) (lowest_in g V' v) no_entry)
                (cond (A v) (drawn v) (first.entries v)));
          }
      | true ↦
          let B = attractor g b V' (first.won b) in
          let drawn = attractor_entry g b V' (first.won b) in
          let second = solve (within g.size (without V' B)) in
          record {
            won = won_by a (second.won a) (within g.size (union B (second.won b)));
            calls = 1 + first.calls + second.calls;
            entries =
                noted no_entry g.size
                (λ v. cond (first.won b v) (first.entries v) (cond (B v) (drawn v) (second.entries v)));
          }
    ]

-- so many calls, and nobody wins anything
abbrev pub nothing_won : ℕ → Solved
nothing_won calls = record { won = λ a. nobody; calls = calls; entries = λ v. no_entry }

-- one call on V, at most `depth` calls deep
unfoldable pub call_on : ℕ → Game → Set → Solved
unfolding one_call
call_on zero g V' = nothing_won 0
call_on (suc depth) g V' =
    elim (some g.size V') [ false ↦ nothing_won 1 | true ↦ one_call (call_on depth g) g V' ]

-- every nested call is on fewer vertices, so that n + 1 calls deep is deep enough
unfoldable pub zielonka_on : Game → Set → Solved
zielonka_on g V' = call_on (suc (count g.size V')) g V'

unfoldable pub zielonka : Game → Solved
zielonka g = zielonka_on g (everywhere g)
