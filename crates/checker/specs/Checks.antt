-- What the checker's pieces ask for and give, kind by kind, and that together they are the kinds in order.
use Rattle.std.specs.Prelude.{Bool, true, false, ◌&&◌, cond, List, ◌≡◌, ℕ, zero, suc, ◌+◌, ◌-◌, ◌*◌, ◌/◌, ◌%◌, ◌≤◌, ◌<◌, eqb, length, get_or, drop, replicate}
use Rattle.std.proofs.Math.Bool.{not}
use Rattle.std.proofs.Common.{inr, ◌∙◌, mul-suc, arith, ne_eqb, lt-ltb, length-append, length-drop, ext_get_or, get_or-drop, get_or-append-add}
use Rattle.std.proofs.Math.Logic.{⊎_elim}
use Rattle.std.proofs.Math.Path.{refl, sym, ap, ap₂, subst, fun_ext}
use Rattle.std.proofs.lemmas.List.{length-replicate, get_or-replicate}
use Rattle.std.proofs.Math.ListN.{get_or-append}
use Rattle.rules.specs.Counting.{Set, some}
use Rattle.rules.specs.Game.{Player, Even, Odd, Game, player_of, parity, same, everywhere}
use Rattle.rules.specs.Outcome.{Outcome, Verdict, none, refused, outcome, answered, given_at, ◌then◌}
use Rattle.rules.specs.Tables.{Tables, vertices, edges_in, words, work_words, game_of, Accepted}
use Rattle.rules.specs.Words.{set_of, entry}
use Rattle.rules.specs.Zielonka.{highest_in}
use Rattle.rules.specs.Solver.{cleared}
use Rattle.rules.specs.Checker.{winner_of, nothing_chosen, check21, check22, check23, check24, certificate_checks, left_by, Checks}
use Rattle.basics.specs.Basics.{lt_or_ge}
use Rattle.theory.specs.Players.{same_true}
use Rattle.theory.specs.Checker.{after22}
use Rattle.theory.specs.Chosen.{chosen_part, check24_chosen, given_at_cong}
use Rattle.theory.specs.Dominion.{owner_cases}
use Rattle.basics.specs.Greatest.{greatest_le}
use Rattle.basics.specs.Frame.{Behind, Unchanged}
use Rattle.accepted.specs.Tables.{accepted_total, accepted_priority}
use Rattle.parity_game.specs.Laws.{accepted_sound, outcome_pass, refused_is_some}
use Rattle.parity_game.specs.Laws.{Numbered, numbered_given_at}
use Rattle.predecessors.specs.Whole.{accepted_edges}
use Rattle.lent_checks.specs.Checks.{checks_by, checks_passed}
use Rattle.search_rows.specs.Rows.{behind}
use Rattle.search_links.specs.Area.{ClearedUpTo, marked}
use Rattle.checker_partition.specs.Partition.{Sets}
use Rattle.checker_entries.specs.Entries.{EntriesGiven, own_by, unchosen, entry_number, wrong_entry, entry_is}
use Rattle.checker_sides.specs.Sides.{Sided, side_of, leaves_set}
use Rattle.checker.specs.Cycles.{losing_at, CyclesScannable, MarksReady, CyclesMarked}

pub record CyclesReady (t : Tables) (even strategy work : List ℕ) : Type 0 where
  pub accepted : Accepted t
  pub sets : vertices t ≤ 64 * length even
  pub ok22 : check22 (game_of t) even strategy ≡ none
  pub ok23 : check23 (game_of t) even strategy ≡ none
  pub room : work_words (vertices t) (edges_in t) ≤ length work

pub record CyclesTold (t : Tables) (even strategy before after : List ℕ) (v : Verdict) : Type 0 where
  pub gives : v ≡ check24 (game_of t) even strategy
  pub long : length after ≡ length before
  pub beyond : Unchanged (Behind (work_words (vertices t) (edges_in t))) before after

pub record Certifiable (t : Tables) (even odd strategy work : List ℕ) : Type 0 where
  pub accepted : Accepted t
  pub even_long : length even ≡ words (vertices t)
  pub odd_long : length odd ≡ words (vertices t)
  pub strategy_long : length strategy ≡ vertices t
  pub room : work_words (vertices t) (edges_in t) ≤ length work

pub record Certifies (t : Tables) (even odd strategy before after : List ℕ) (v : Verdict) : Type 0 where
  pub gives : v ≡ certificate_checks (game_of t) even odd strategy
  pub long : length after ≡ length before
  pub beyond : Unchanged (Behind (work_words (vertices t) (edges_in t))) before after

-- 21, 22 or 25, and 23 as the code makes them, and what they ask for
abbrev pub kinds : List ℕ → List ℕ → List ℕ → List ℕ → List ℕ → List ℕ → Verdict
kinds owners offsets targets even odd strategy =
    check21 (length owners) even odd then
    (given_at (entry_number strategy) (length owners) (wrong_entry owners offsets targets even strategy) then
    given_at 23 (length owners) (leaves_set owners offsets targets even strategy))

pub record KindsReady (owners offsets targets even odd strategy : List ℕ) : Type 0 where
  pub sets : Sets (length owners) even odd
  pub entries : EntriesGiven owners offsets targets even strategy
  pub sides :
      none ≡ given_at (entry_number strategy) (length owners) (wrong_entry owners offsets targets even strategy) →
      Sided owners offsets targets even strategy

-- ---- 24

-- the words that the search for cycles uses are within W
rows_fit : (n m : ℕ) → behind n m + n + n ≤ work_words n m
unfolding work_words words
rows_fit zero m = omega arith
rows_fit (suc n) m = go ((suc n + 63) / 64) (omega arith)
  where
    go : (s : ℕ) → 0 < s → behind (suc n) m + suc n + suc n ≤ 8 * (suc n + 2) * s + 4 * suc n + 2 * m + 272
    go zero l = absurd (omega arith)
    go (suc s) l = rw (mul-suc (8 * (suc n + 2)) s) (omega arith)

other_of_even : (p : ℕ) → eqb (p % 2) 1 ≡ not (same (parity p) Even)
other_of_even p = go (p % 2) (omega arith)
  where
    go : (x : ℕ) → x < 2 → eqb x 1 ≡ not (same (player_of x) Even)
    go zero l = refl
    go (suc zero) l = refl
    go (suc (suc x)) l = absurd (omega arith)

other_of_odd : (p : ℕ) → eqb (p % 2) 0 ≡ not (same (parity p) Odd)
other_of_odd p = go (p % 2) (omega arith)
  where
    go : (x : ℕ) → x < 2 → eqb x 0 ≡ not (same (player_of x) Odd)
    go zero l = refl
    go (suc x) l = ne_eqb (suc x) 0 (λ e. omega arith)

-- a word of a row that is not 0
word_marked : (n base v : ℕ) (work : List ℕ) → v < n → not (eqb (get_or work (base + v) 0) 0) ≡ marked n base work v
unfolding marked
word_marked n base v work l = rw (lt-ltb v n l)

module _ {t : Tables} {even strategy before : List ℕ} (given : CyclesReady t even strategy before) where
  abbrev n : ℕ
  n = vertices t

  abbrev m : ℕ
  m = edges_in t

  each : length t.priorities ≡ n
  each = (accepted_sound t given.accepted).priority_each

  fits : behind (length t.priorities) m + length t.priorities + length t.priorities ≤ work_words n m
  fits = rw each (rows_fit n m)

  pub cycles_ready : MarksReady t.owners t.priorities t.offsets t.targets strategy before
  unfolding game_of
  cycles_ready =
      record {
        accepted = given.accepted;
        entries =
            λ v l d.
            ⊎_elim
            (λ mine. (after22 (game_of t) even strategy given.ok22).0 v l mine)
            (λ theirs. absurd (d ((after22 (game_of t) even strategy given.ok22).1 v l theirs)))
            (owner_cases (game_of t) (winner_of even v) v);
        room = omega (arith, fits, given.room);
      }

  module _ {after : List ℕ}
      (done : CyclesMarked t.owners t.priorities t.offsets t.targets strategy before after)
    where
      abbrev rows : ℕ
      rows = behind (length t.priorities) m

      pub scan_ready : CyclesScannable even after rows (length t.priorities)
      scan_ready =
          record { sets = omega (arith, given.sets, each); room = omega (arith, fits, given.room, done.long) }

      losing_says :
          (v : ℕ) → v < length t.priorities →
          losing_at even after rows (length t.priorities) v ≡
          some 256 (λ p. not (same (parity p) (winner_of even v)) && chosen_part (game_of t) strategy p v)
      unfolding losing_at
      losing_says v l = go (set_of even v) refl
        where
          test : Player → Set
          test a p = not (same (parity p) a) && chosen_part (game_of t) strategy p v

          go :
              (b : Bool) → set_of even v ≡ b →
              cond b (not (eqb (get_or after (rows + length t.priorities + v) 0) 0)) (not (eqb (get_or after (rows + v) 0) 0)) ≡
              some 256 (λ p. not (same (parity p) (cond b Even Odd)) && chosen_part (game_of t) strategy p v)
          go true e =
              word_marked (length t.priorities) (rows + length t.priorities) v after l ∙ done.odds v l ∙
              ap (some 256) (fun_ext (λ p. ap (λ (b : Bool). b && chosen_part (game_of t) strategy p v) (other_of_even p)))
          go false e =
              word_marked (length t.priorities) rows v after l ∙ done.evens v l ∙
              ap (some 256) (fun_ext (λ p. ap (λ (b : Bool). b && chosen_part (game_of t) strategy p v) (other_of_odd p)))

      -- **The search over the two rows is the rule's 24.**
      pub cycles_told :
          {v : Verdict} →
          v ≡ given_at 24 (length t.priorities) (losing_at even after rows (length t.priorities)) →
          CyclesTold t even strategy before after v
      unfolding game_of
      cycles_told e =
          record {
            gives =
                e ∙ given_at_cong 24 (length t.priorities) (losing_at even after rows (length t.priorities)) chosen losing_says ∙
                ap (λ (k : ℕ). given_at 24 k chosen) each ∙
                sym
                (check24_chosen (game_of t) (accepted_total t given.accepted)
                (omega (arith, (accepted_sound t given.accepted).few_vertices)) even strategy given.ok22 given.ok23 256
                highest);
            long = done.long;
            beyond = λ i l. done.beyond i (omega (arith, fits));
          }
        where
          chosen : Set
          chosen v = some 256 (λ p. not (same (parity p) (winner_of even v)) && chosen_part (game_of t) strategy p v)

          highest : highest_in (game_of t) (everywhere (game_of t)) < 256
          highest =
              let h =
              greatest_le (game_of t).size (everywhere (game_of t)) (game_of t).priority 255
              (λ v l p. accepted_priority t given.accepted v) in
              omega arith

-- ---- the kinds in order

-- a check that gave nothing leaves the outcome to those after it
pub past : {o : Outcome} {u : Verdict} (w : Verdict) → u ≡ none → o ≡ outcome w (answered 0) → o ≡ outcome (u then w) (answered 0)
past {o} {u} w e h = h ∙ sym (outcome_pass u w (answered 0) e)

pub numbered21 : (n : ℕ) (even odd : List ℕ) → Numbered (check21 n even odd)
unfolding check21
numbered21 n even odd = numbered_given_at 21 _ _ (omega arith)

pub numbered22 : (g : Game) (even strategy : List ℕ) → Numbered (check22 g even strategy)
unfolding check22
numbered22 g even strategy =
    numbered_given_at (cond (nothing_chosen g strategy) 25 22) _ _ (either (nothing_chosen g strategy))
  where
    either : (b : Bool) → 0 < cond b 25 22
    either true = omega arith
    either false = omega arith

words_cover : (n : ℕ) → n ≤ 64 * words n
unfolding words
words_cover n = omega arith

words_few : (n : ℕ) → n ≤ 4096 → words n ≤ 64
unfolding words
words_few n l = omega arith

stopped : (a b c w v : Verdict) → (v ≡ none → ⊥) → v ≡ (a then (b then c)) → v ≡ (a then (b then (c then w)))
stopped none none none w v h e = absurd (h e)
stopped none none (refused k p) w v h e = e
stopped none (refused k p) c w v h e = e
stopped (refused k p) b c w v h e = e

passed : (a b c : Verdict) → none ≡ (a then (b then c)) → (a ≡ none) × (b ≡ none) × (c ≡ none)
passed none none c e = (refl, refl, sym e)
passed none (refused k p) c e = absurd (refused_is_some (sym e))
passed (refused k p) b c e = absurd (refused_is_some (sym e))

module _ {t : Tables} {even odd strategy before : List ℕ} (given : Certifiable t even odd strategy before) where
  abbrev vs : ℕ
  vs = vertices t

  covers : vs ≤ 64 * length even
  covers = rw given.even_long (words_cover vs)

  pub partition_ready : Sets vs even odd
  partition_ready =
      record {
        even_long = given.even_long;
        odd_long = given.odd_long;
        few = rw given.even_long (words_few vs (accepted_sound t given.accepted).few_vertices);
      }

  pub entries_ready : EntriesGiven t.owners t.offsets t.targets even strategy
  entries_ready =
      record { edges = accepted_edges t given.accepted; strategy_long = given.strategy_long; even_long = covers }

  -- 22, with 25 in its place, and 23 as the code checks them
  pub check22_is :
      given_at (entry_number strategy) vs (wrong_entry t.owners t.offsets t.targets even strategy) ≡
      check22 (game_of t) even strategy
  unfolding check22 wrong_entry own_by unchosen game_of
  check22_is = rw given.strategy_long

  pub check23_is :
      given_at 23 vs (leaves_set t.owners t.offsets t.targets even strategy) ≡ check23 (game_of t) even strategy
  unfolding check23 leaves_set own_by side_of game_of
  check23_is = refl

  pub sides_ready : check22 (game_of t) even strategy ≡ none → Sided t.owners t.offsets t.targets even strategy
  unfolding own_by game_of
  sides_ready ok =
      record {
        given = entries_ready;
        entries =
            λ v l own.
            let edge = (after22 (game_of t) even strategy ok).0 v l (same_true ((game_of t).owner v) (winner_of even v) own) in
            subst (λ (x : ℕ). x < vs) (sym (entry_is entries_ready v l))
            ((accepted_total t given.accepted).ends v (entry strategy v) edge);
      }

  -- all of that is so of what is lent
  pub kinds_ready : KindsReady t.owners t.offsets t.targets even odd strategy
  kinds_ready = record { sets = partition_ready; entries = entries_ready; sides = λ ok. sides_ready (sym (ok ∙ check22_is)) }

  pub cycles_given :
      check22 (game_of t) even strategy ≡ none → check23 (game_of t) even strategy ≡ none → CyclesReady t even strategy before
  cycles_given ok22 ok23 =
      record { accepted = given.accepted; sets = covers; ok22 = ok22; ok23 = ok23; room = given.room }

  -- the kinds, in the order of the code
  abbrev in_order : Verdict
  in_order =
      check21 vs even odd then
      (check22 (game_of t) even strategy then (check23 (game_of t) even strategy then check24 (game_of t) even strategy))

  -- the outcome from each kind on
  pub from21 :
      {o : Outcome} →
      o ≡ outcome in_order (answered 0) →
      o ≡ outcome (certificate_checks (game_of t) even odd strategy) (answered 0)
  unfolding certificate_checks game_of
  from21 e = e

  -- 21, 22 or 25, or 23: the work area was not touched
  pub certify_stops : {v : Verdict} → v ≡ in_order → Certifies t even odd strategy before before v
  unfolding certificate_checks game_of
  certify_stops e = record { gives = e; long = refl; beyond = λ i l. refl }

  -- the kinds before 24, in the words of the rule
  kinds_are :
      kinds t.owners t.offsets t.targets even odd strategy ≡
      check21 vs even odd then (check22 (game_of t) even strategy then check23 (game_of t) even strategy)
  kinds_are = ap₂ (λ (v w : Verdict). check21 vs even odd then (v then w)) check22_is check23_is

  -- one of those applies
  pub kinds_stop :
      {v : Verdict} → (v ≡ none → ⊥) → v ≡ kinds t.owners t.offsets t.targets even odd strategy → Certifies t even odd strategy before before v
  kinds_stop h e =
      certify_stops
      (stopped (check21 vs even odd) (check22 (game_of t) even strategy) (check23 (game_of t) even strategy) (check24 (game_of t) even strategy) _ h
      (e ∙ kinds_are))

  -- none applies
  pub kinds_pass :
      none ≡ kinds t.owners t.offsets t.targets even odd strategy →
      (check21 vs even odd ≡ none) × (check22 (game_of t) even strategy ≡ none) × (check23 (game_of t) even strategy ≡ none)
  kinds_pass e = passed (check21 vs even odd) (check22 (game_of t) even strategy) (check23 (game_of t) even strategy) (e ∙ kinds_are)

-- ---- the whole

-- the checks before the kinds
abbrev pub refusals : Tables → List ℕ → List ℕ → List ℕ → List ℕ → Verdict
refusals t even odd strategy before = checks_by t (length even) (length odd) (length strategy) (length before)

module _ {t : Tables} {even odd strategy before : List ℕ} where
  pub checks_refused :
      {o : Outcome} →
      o ≡ outcome (refusals t even odd strategy before then certificate_checks (game_of t) even odd strategy) (answered 0) →
      o ≡ outcome (refusals t even odd strategy before) (answered 0) →
      (o.number ≡ 0 → ⊥) →
      Checks t even odd strategy before before o
  checks_refused e h d =
      record {
        gives = e;
        work =
            untouched (refusals t even odd strategy before)
            (λ z. d (ap (λ (x : Outcome). x.number) (h ∙ ap (λ (v : Verdict). outcome v (answered 0)) z)));
      }
    where
      untouched : (v : Verdict) → (v ≡ none → ⊥) → before ≡ left_by v t before
      untouched none f = absurd (f refl)
      untouched (refused k p) f = refl

  pub certify_given : refusals t even odd strategy before ≡ none → Certifiable t even odd strategy before
  certify_given e =
      let p = checks_passed t (length even) (length odd) (length strategy) (length before) e in
      record {
        accepted = p.accepted;
        even_long = p.even_size;
        odd_long = p.odd_size;
        strategy_long = p.strategy_size;
        room = p.work_size;
      }

  pub work_fits : Certifiable t even odd strategy before → (vertices t ≤ 4096) × (edges_in t ≤ 16384)
  work_fits given =
      let s = accepted_sound t given.accepted in
      (s.few_vertices, s.few_edges)

  -- **past the checks, with the work area cleared**
  pub checks_done :
      (ok : refusals t even odd strategy before ≡ none) {middle after : List ℕ} {v : Verdict} {o : Outcome} →
      Certifies t even odd strategy before middle v →
      o ≡ outcome v (answered 0) →
      {cleared_to : ℕ} → cleared_to ≡ work_words (vertices t) (edges_in t) →
      ClearedUpTo 0 cleared_to middle after →
      Checks t even odd strategy before after o
  checks_done ok {middle} {after} {v} {o} c says is zeros =
      record {
        gives =
            past (certificate_checks (game_of t) even odd strategy) ok
            (says ∙ ap (λ (v : Verdict). outcome v (answered 0)) c.gives);
        work = all_clear ∙ ap (λ (v : Verdict). left_by v t before) (sym ok);
      }
    where
      W : ℕ
      W = work_words (vertices t) (edges_in t)

      z : ClearedUpTo 0 W middle after
      z = subst (λ (k : ℕ). ClearedUpTo 0 k middle after) is zeros

      long : length after ≡ length (cleared t before)
      long =
          let room = (certify_given ok).room in
          z.within.long ∙ c.long ∙ sym
          (length-append (replicate W 0) (drop W before) ∙ simp (length-replicate, length-drop) (omega arith))

      word : (i : ℕ) → i < length after → get_or after i 0 ≡ get_or (cleared t before) i 0
      word i l =
          ⊎_elim
          (λ k.
          z.zeros i (omega arith) k ∙
          sym
          (get_or-append (replicate W 0) (drop W before) 0 i
          (rw (length-replicate {A = ℕ} W 0) k) ∙ get_or-replicate W i 0 0 k))
          (λ (k : W ≤ i).
          let at : length (replicate {A = ℕ} W 0) + (i - W) ≡ i = rw (length-replicate {A = ℕ} W 0) (omega arith) in
          let back : W + (i - W) ≡ i = omega arith in
          z.within.rest i (inr k) ∙ c.beyond i k ∙
          sym
          (sym (ap (λ (j : ℕ). get_or (cleared t before) j 0) at) ∙ get_or-append-add (replicate W 0)
          (drop W before) (i - W) 0 ∙ get_or-drop
          W before (i - W) 0 ∙
          ap (λ (j : ℕ). get_or before j 0) back))
          (lt_or_ge i W)

      all_clear : after ≡ cleared t before
      all_clear = ext_get_or 0 after (cleared t before) long word
