-- Document 01's worked games as one list, and one theorem: for each of them the rules give the winners, calls, rounds, looks and
-- solitaire set that the document states, and the checker its verdicts. Owner letters E, O; then priority; then targets.
use Rattle.std.specs.Prelude.{Bool, true, false, not, ◌&&◌, cond, List, [], ◌∷◌, ◌≡◌, refl, ℕ}
use Rattle.std.proofs.Common.{subst, lit≤}
use Rattle.rules.specs.Counting.{some, every, count, some_of, every_of, times, lowest, listed, within, noted, greatest}
use Rattle.rules.specs.Game.{Player, Even, Odd, Game, everywhere, edges, parity}
use Rattle.rules.specs.Outcome.{Verdict, refused, given_at}
use Rattle.rules.specs.Tables.{Tables, game_of, degree, targets_of, words, Accepted, table_checks}
use Rattle.rules.specs.Tables.{check1, check2, check3, check4, check5, check6, check7, check8}
use Rattle.rules.specs.Winning.{WinningEntries}
use Rattle.rules.specs.Words.{digit, bit, set_of, no_entry, entry}
use Rattle.rules.specs.Attractor.{drawn, grown, attractor, indegree, looks_of}
use Rattle.rules.specs.Zielonka.{with_priority, highest_in, one_call, call_on, zielonka_on, zielonka}
use Rattle.rules.specs.Budget.{choose, choose_up_to, call_bound, different_priorities}
use Rattle.rules.specs.Promotion.{at_start, region_set, region_is_open, way_out, moved_down, dominion_solved, promoted}
use Rattle.rules.specs.Promotion.{round_of, after_rounds, all_solved, rounds_from, rounds_needed}
use Rattle.rules.specs.Solitaire.{spread, good_part, solitaire}
use Rattle.rules.specs.Checker.{check21, check22, check23, on_cycle, check24, certificate_checks}

-- what the document states of a worked game
pub data Claim : Type 0 where
  -- the winner of each vertex in order, 0 Even, 1 Odd
  winners : List ℕ → Claim
  -- Zielonka's calls
  calls : ℕ → Claim
  -- demand 3's bound on them
  bound : ℕ → Claim
  -- the rounds of priority promotion, and how many of them promote
  rounds : ℕ → Claim
  promotions : ℕ → Claim
  -- the looks of the attractor of the vertices of highest priority, for its player
  looks : ℕ → Claim
  -- whether the solitaire set of the owner of vertex 0 holds each vertex, in order
  solitaire_set : List Bool → Claim
  -- a winning strategy has no entry at this vertex
  none_at : ℕ → Claim
  -- the checker's verdict on Even's set, Odd's set and a strategy
  checked : List ℕ → List ℕ → List ℕ → Verdict → Claim

pub record Worked : Type 0 where
  pub tables : Tables
  pub claims : List Claim

-- 0 where Even wins v, 1 where Odd does, 2 where both or neither do
unfoldable pub winner_number : Game → ℕ → ℕ
winner_number g v =
    let even = (zielonka g).won Even v in
    let odd = (zielonka g).won Odd v in
    cond even (cond odd 2 0) (cond odd 1 2)

-- a round that promotes: the region is closed and an opponent vertex has a way out
unfoldable pub promotes : Game → ℕ → Bool
promotes g k =
    let s = after_rounds g k in
    not (region_is_open g s (region_set g s)) && some g.size (way_out g s (region_set g s))

-- what a claim says of a game
abbrev pub Says : Game → Claim → Type 0
Says g (winners ws) = listed g.size (winner_number g) ≡ ws
Says g (calls k) = (zielonka g).calls ≡ k
Says g (bound k) = call_bound g.size (different_priorities g (everywhere g)) ≡ k
Says g (rounds k) = rounds_needed g ≡ k
Says g (promotions k) = count (rounds_needed g) (promotes g) ≡ k
Says g (looks k) =
    looks_of g
    (attractor g (parity (highest_in g (everywhere g))) (everywhere g) (with_priority g (everywhere g) (highest_in g (everywhere g))))
    ≡ k
Says g (solitaire_set ws) = listed g.size (solitaire g (g.owner 0)) ≡ ws
Says g (checked even odd strategy verdict) = certificate_checks g even odd strategy ≡ verdict
Says g (none_at v) = (strategy : List ℕ) → WinningEntries g (zielonka g).won strategy → entry strategy v ≡ no_entry

abbrev pub SaysAll : Game → List Claim → Type 0
SaysAll g [] = Unit {0}
SaysAll g (c ∷ cs) = Says g c × SaysAll g cs

-- every game of a list is accepted, and every claim on it is true
abbrev pub AllTrue : List Worked → Type 0
AllTrue [] = Unit {0}
AllTrue (w ∷ ws) = Accepted w.tables × SaysAll (game_of w.tables) w.claims × AllTrue ws

-- C1: n = 0. 1 call, 0 rounds.
pub C1 : Worked
C1 =
    record {
      tables = record { owners = []; priorities = []; offsets = 0 ∷ []; targets = [] };
      claims = winners [] ∷ calls 1 ∷ rounds 0 ∷ [];
    }

-- C2: E0→0. Even wins; 2 calls, 1 round.
pub C2 : Worked
C2 =
    record {
      tables = record { owners = 0 ∷ []; priorities = 0 ∷ []; offsets = 0 ∷ 1 ∷ []; targets = 0 ∷ [] };
      claims = winners (0 ∷ []) ∷ calls 2 ∷ rounds 1 ∷ [];
    }

-- C3: E1→0. Odd wins, entry none; 2 calls, 1 round.
pub C3 : Worked
C3 =
    record {
      tables = record { owners = 0 ∷ []; priorities = 1 ∷ []; offsets = 0 ∷ 1 ∷ []; targets = 0 ∷ [] };
      claims = winners (1 ∷ []) ∷ none_at 0 ∷ calls 2 ∷ rounds 1 ∷ [];
    }

-- C4: E0→1; O1→0,1. Odd wins both; 2 calls, 1 round.
pub C4 : Worked
C4 =
    record {
      tables =
          record {
            owners = 0 ∷ 1 ∷ [];
            priorities = 0 ∷ 1 ∷ [];
            offsets = 0 ∷ 1 ∷ 3 ∷ [];
            targets = 1 ∷ 0 ∷ 1 ∷ [];
          };
      claims = winners (1 ∷ 1 ∷ []) ∷ calls 2 ∷ rounds 1 ∷ [];
    }

-- C5: O1→1,1; E2→1. Even wins both; looks 3; 2 calls, 1 round.
pub C5 : Worked
C5 =
    record {
      tables =
          record {
            owners = 1 ∷ 0 ∷ [];
            priorities = 1 ∷ 2 ∷ [];
            offsets = 0 ∷ 2 ∷ 3 ∷ [];
            targets = 1 ∷ 1 ∷ 1 ∷ [];
          };
      claims = winners (0 ∷ 0 ∷ []) ∷ looks 3 ∷ calls 2 ∷ rounds 1 ∷ [];
    }

-- C6: E2→1; O1→1. Odd wins both; 4 calls (bound 7), 2 rounds.
pub C6 : Worked
C6 =
    record {
      tables =
          record { owners = 0 ∷ 1 ∷ []; priorities = 2 ∷ 1 ∷ []; offsets = 0 ∷ 1 ∷ 2 ∷ []; targets = 1 ∷ 1 ∷ [] };
      claims = winners (1 ∷ 1 ∷ []) ∷ calls 4 ∷ bound 7 ∷ rounds 2 ∷ [];
    }

-- C7: E2→1; O0→0,1. Even wins both; 3 calls, 3 rounds, one promotion.
unfoldable pub C7 : Worked
C7 =
    record {
      tables =
          record {
            owners = 0 ∷ 1 ∷ [];
            priorities = 2 ∷ 0 ∷ [];
            offsets = 0 ∷ 1 ∷ 3 ∷ [];
            targets = 1 ∷ 0 ∷ 1 ∷ [];
          };
      claims = winners (0 ∷ 0 ∷ []) ∷ calls 3 ∷ rounds 3 ∷ promotions 1 ∷ [];
    }

-- C8: E1→1; E2→2; E1→1; E3→3. Even wins 0,1,2; 5 calls (bound 29), 2 rounds; solitaire agrees.
pub C8 : Worked
C8 =
    record {
      tables =
          record {
            owners = 0 ∷ 0 ∷ 0 ∷ 0 ∷ [];
            priorities = 1 ∷ 2 ∷ 1 ∷ 3 ∷ [];
            offsets = 0 ∷ 1 ∷ 2 ∷ 3 ∷ 4 ∷ [];
            targets = 1 ∷ 2 ∷ 1 ∷ 3 ∷ [];
          };
      claims =
          winners (0 ∷ 0 ∷ 0 ∷ 1 ∷ []) ∷
          calls 5 ∷
          bound 29 ∷
          rounds 2 ∷
          solitaire_set (true ∷ true ∷ true ∷ false ∷ []) ∷
          [];
    }

-- C9: E2→1; E1→1. Solitaire set empty; 4 calls.
pub C9 : Worked
C9 =
    record {
      tables =
          record { owners = 0 ∷ 0 ∷ []; priorities = 2 ∷ 1 ∷ []; offsets = 0 ∷ 1 ∷ 2 ∷ []; targets = 1 ∷ 1 ∷ [] };
      claims = winners (1 ∷ 1 ∷ []) ∷ solitaire_set (false ∷ false ∷ []) ∷ calls 4 ∷ [];
    }

-- C10, checker on C6: Even claims both, 0→1: 24 at 1. Sets {0},{1}, 0→1, 1→1: 23 at 0.
pub C10 : Worked
unfolding C6
C10 =
    record {
      tables = C6.tables;
      claims =
          checked (3 ∷ []) (0 ∷ []) (1 ∷ no_entry ∷ []) (refused 24 1) ∷ checked (1 ∷ []) (2 ∷ []) (1 ∷ 1 ∷ []) (refused 23 0) ∷ [];
    }

-- C11, checker on C7: 0→0 gives 22 at 0.
pub C11 : Worked
unfolding C7
C11 =
    record { tables = C7.tables; claims = checked (3 ∷ []) (0 ∷ []) (0 ∷ no_entry ∷ []) (refused 22 0) ∷ [] }

-- C11, checker on C5: vertex 0 in no set gives 21 at 0.
pub C11_on_C5 : Worked
unfolding C5
C11_on_C5 =
    record { tables = C5.tables; claims = checked (2 ∷ []) (0 ∷ []) (no_entry ∷ 1 ∷ []) (refused 21 0) ∷ [] }

pub worked_games : List Worked
worked_games = C1 ∷ C2 ∷ C3 ∷ C4 ∷ C5 ∷ C6 ∷ C7 ∷ C8 ∷ C9 ∷ C10 ∷ C11 ∷ C11_on_C5 ∷ []

Even≢Odd : Even ≡ Odd → ⊥
Even≢Odd e = subst IsEven e tt
  where
    IsEven : Player → Type 0
    IsEven Even = Unit {0}
    IsEven Odd = ⊥

-- The rules give, for every worked game, what document 01 states of it.
pub worked_games_lem : AllTrue worked_games
unfolding
    worked_games C1 C2 C3 C4 C5 C6 C7 C8 C9 C10 C11 C11_on_C5 winner_number promotes some every count some_of every_of times lowest listed
    within noted greatest edges given_at game_of degree targets_of words digit bit set_of Accepted table_checks check1 check2 check3 check4
    check5 check6 check7 check8 drawn grown attractor indegree looks_of one_call call_on zielonka_on zielonka choose choose_up_to
    different_priorities at_start region_set region_is_open way_out moved_down dominion_solved promoted round_of after_rounds all_solved rounds_from
    rounds_needed spread good_part solitaire check21 check22 check23 on_cycle check24 certificate_checks
worked_games_lem = (
  refl,
  (refl, (refl, (refl, tt))),
  (
    refl,
    (refl, (refl, (refl, tt))),
    (
      refl,
      (refl, (λ strategy e. e.absent Odd 0 (lit≤ tt) refl Even≢Odd, (refl, (refl, tt)))),
      (
        refl,
        (refl, (refl, (refl, tt))),
        (
          refl,
          (refl, (refl, (refl, (refl, tt)))),
          (
            refl,
            (refl, (refl, (refl, (refl, tt)))),
            (
              refl,
              (refl, (refl, (refl, (refl, tt)))),
              (
                refl,
                (refl, (refl, (refl, (refl, (refl, tt))))),
                (
                  refl,
                  (refl, (refl, (refl, tt))),
                  (
                    refl,
                    (refl, (refl, tt)),
                    (
                      refl,
                      (refl, tt),
                      (
                        refl,
                        (refl, tt),
                        tt,
                      ),
                    ),
                  ),
                ),
              ),
            ),
          ),
        ),
      ),
    ),
  ),
)
