-- Compaction wastes no number: among the relabellings that keep order and parity on the priorities in use, it gives each priority
-- the lowest number and uses the fewest different ones, so its d is the least. So compacting twice equals compacting once.
use Rattle.std.proofs.Math.Bool.{true, or-false}
use Rattle.std.specs.Prelude.{false, List, map, ◌≡◌, refl, eqb, length, get_or}
use Rattle.std.proofs.Common.{map-id, ◌∙◌, le_refl, le_trans, le_of_lt, eq-or-lt_of_le, not-suc-le-zero, arith, eqb-true, eq-eqb, ne_eqb, lt-ltb, ext_get_or}
use Rattle.std.proofs.Math.Logic.{⊎_elim}
use Rattle.std.proofs.Math.Path.{sym, ap}
use Prim.Native.Nat.{ℕ, zero, suc, ◌%◌, ◌≤◌, ◌<◌, zero-le, suc-le-suc}
use Rattle.std.proofs.Math.Nat.{le_of_eq, le_antisymm, le_step}
use Rattle.std.proofs.lemmas.Bool.{eqb-false}
use Rattle.std.proofs.lemmas.List.{length-map}
use Rattle.rules.specs.Budget.{different_priorities}
use Rattle.rules.specs.Compaction.{used, last_below, compacted}
use Rattle.rules.specs.Counting.{Set, some, count}
use Rattle.rules.specs.Game.{Even, Odd, Game, everywhere, player_of}
use Rattle.rules.specs.Tables.{Tables, vertices, game_of, Accepted}
use Rattle.rules.specs.Zielonka.{highest_in}
use Rattle.basics.specs.Basics.{bool_cases, or_left, or_right, or_cases, below_suc, le_or_ge}
use Rattle.theory.specs.Players.{opponent_differs}
use Rattle.basics.specs.Basics.{some_elim, some_false, some_cong, false_some, count_cong, count_mono, count_none}
use Rattle.theory.specs.DepthFirst.{Marks, marks_count}
use Rattle.basics.specs.Greatest.{greatest_bounds}
use Rattle.theory.specs.Relabelling.{KeepsOrder}
use Rattle.accepted.specs.Tables.{accepted_sound}
use Rattle.theory.specs.Compaction.{AtMost, next_parity, next_lowest, last_used, last_unused, number_lowest}
use Rattle.theory.specs.Compaction.{compacted_monotone, compacted_parity, compacted_small, compacted_keeps, entry_used}
use Rattle.theory.specs.Compaction.{get_or_map_below, with_priorities, compacted_tables}

-- ---- how many different numbers

-- the numbers that F gives below n
abbrev values : (ℕ → ℕ) → ℕ → Set
values F n k = some n (λ v. eqb (F v) k)

-- one more vertex gives one more number, or none
values_more : (F : ℕ → ℕ) (n : ℕ) → Marks (F n) (values F n) (values F (suc n))
unfolding some
values_more F n =
    record {
      new = or_right (values F n (F n)) (eqb (F n) (F n)) (eq-eqb (F n) (F n) refl);
      others = λ k differs. rw (ne_eqb (F n) k (λ e. differs (sym e))) (or-false (values F n k));
    }

-- where G gives one number whenever F does, G gives no more numbers than F
fewer_values :
    (F G : ℕ → ℕ) (b c n : ℕ) →
    ((v : ℕ) → v < n → F v < b) →
    ((v : ℕ) → v < n → G v < c) →
    ((v w : ℕ) → v < n → w < n → F v ≡ F w → G v ≡ G w) →
    count c (values G n) ≤ count b (values F n)
unfolding some
fewer_values F G b c zero lf lg together =
    le_trans (le_of_eq (count_none c (values G zero) (λ k l. refl))) zero-le
fewer_values F G b c (suc n) lf lg together =
    let before =
    fewer_values F G b c n (λ v l. lf v (le_step l)) (λ v l. lg v (le_step l))
    (λ v w lv lw. together v w (le_step lv) (le_step lw)) in
    ⊎_elim
    (λ old.
    let same : count c (values G (suc n)) ≤ count c (values G n) =
    count_mono c (values G (suc n)) (values G n)
    (λ k l h.
    ⊎_elim
    (λ (here : values G n k ≡ true). here)
    (λ e. ap (values G n) (sym (eqb-true (G n) k e)) ∙ old)
    (or_cases (values G n k) (eqb (G n) k) h)) in
    let more : count b (values F n) ≤ count b (values F (suc n)) =
    count_mono b (values F n) (values F (suc n)) (λ k l h. or_left (values F n k) (eqb (F n) k) h) in
    le_trans same (le_trans before more))
    (λ new.
    let fresh : values F n (F n) ≡ false =
    false_some n (λ v. eqb (F v) (F n))
    (λ v l.
    ne_eqb (F v) (F n)
    (λ e.
    eqb-false (G v) (G n) (some_false n (λ u. eqb (G u) (G n)) new v l)
    (together v n (le_step l) (le_refl (suc n)) e))) in
    let more-by-F = marks_count (values_more F n) b (lf n (le_refl (suc n))) fresh in
    let more-by-G = marks_count (values_more G n) c (lg n (le_refl (suc n))) new in
    rw (more-by-F, more-by-G) (suc-le-suc before))
    (bool_cases (values G n (G n)))

-- ---- f keeps order and parity on the priorities in use

-- 0 and 1 stand for different players
player_rest : (a b : ℕ) → a < 2 → b < 2 → player_of a ≡ player_of b → a ≡ b
player_rest zero zero la lb e = refl
player_rest zero (suc b) la lb e = absurd (opponent_differs Even e)
player_rest (suc a) zero la lb e = absurd (opponent_differs Odd e)
player_rest (suc a) (suc b) la lb e = omega arith

module _ (priorities : List ℕ) (f : ℕ → ℕ) (keeps : KeepsOrder (length priorities) (λ v. get_or priorities v 0) f) where
  -- a used priority is some vertex's
  holder : (p : ℕ) → used priorities p ≡ true → (v : ℕ) × (v < length priorities) × (get_or priorities v 0 ≡ p)
  holder p e =
      let (v, l, same) = some_elim (length priorities) (λ u. eqb (get_or priorities u 0) p) e in (v, l, eqb-true _ _ same)

  keeps_used : (p q : ℕ) → used priorities p ≡ true → used priorities q ≡ true → p ≤ q → f p ≤ f q
  keeps_used p q up uq l =
      let (v, lv, ev) = holder p up in
      let (w, lw, ew) = holder q uq in
      rw (ev, ew) at (keeps.monotone v w lv lw (rw (ev, ew) l))

  keeps_rest : (p : ℕ) → used priorities p ≡ true → f p % 2 ≡ p % 2
  keeps_rest p e =
      let (v, l, same) = holder p e in
      player_rest (f p % 2) (p % 2) (omega arith) (omega arith) (rw same at (keeps.parities v l))

  -- **Compaction gives each priority in use the lowest number that any relabelling which keeps order and parity can give it.**
  pub compacted_lowest : (p : ℕ) → used priorities p ≡ true → compacted priorities p ≤ f p
  unfolding compacted
  compacted_lowest = number_lowest (used priorities) f keeps_used keeps_rest

  -- while used priorities keep the parity of p, the last number stays that of p
  last_level :
      (p n : ℕ) →
      used priorities p ≡ true →
      p < n →
      ((r : ℕ) → used priorities r ≡ true → p ≤ r → r < n → r % 2 ≡ p % 2) →
      AtMost (compacted priorities p) (last_below (used priorities) n)
  unfolding compacted
  last_level p zero e l level = absurd (not-suc-le-zero l)
  last_level p (suc n) e l level =
      ⊎_elim
      (λ (q : p ≡ n).
      rw (last_used (used priorities) n (ap (used priorities) (sym q) ∙ e)) (le_of_eq (ap (compacted priorities) (sym q))))
      (λ (k : p < n).
      let before = last_level p n e k (λ r u low high. level r u low (le_step high)) in
      ⊎_elim
      (λ u.
      rw (last_used (used priorities) n u)
      (next_lowest (last_below (used priorities) n) n (compacted priorities p)
      (next_parity (last_below (used priorities) p) p ∙ sym (level n u (le_of_lt k) (le_refl (suc n))))
      before))
      (λ u. rw (last_unused (used priorities) n u) before)
      (bool_cases (used priorities n)))
      (below_suc l)

  -- priorities to which f gives one number get one number
  together_up :
      (p q : ℕ) → used priorities p ≡ true → used priorities q ≡ true → f p ≡ f q → p ≤ q →
      compacted priorities p ≡ compacted priorities q
  unfolding compacted
  together_up p q up uq same l =
      le_antisymm (compacted_monotone priorities p q up l)
      (⊎_elim
      (λ (e : p ≡ q). le_of_eq (ap (compacted priorities) (sym e)))
      (λ (less : p < q).
      next_lowest (last_below (used priorities) q) q (compacted priorities p)
      (next_parity (last_below (used priorities) p) p ∙ sym (level q uq l (le_refl q)))
      (last_level p q up less (λ r u low high. level r u low (le_of_lt high))))
      (eq-or-lt_of_le l))
    where
      level : (r : ℕ) → used priorities r ≡ true → p ≤ r → r ≤ q → r % 2 ≡ p % 2
      level r u low high =
          let at_r : f r ≡ f p =
          le_antisymm (le_trans (keeps_used r q u uq high) (le_of_eq (sym same))) (keeps_used p r up u low) in
          sym (keeps_rest r u) ∙ ap (λ (x : ℕ). x % 2) at_r ∙ keeps_rest p up

  together :
      (p q : ℕ) → used priorities p ≡ true → used priorities q ≡ true → f p ≡ f q →
      compacted priorities p ≡ compacted priorities q
  together p q up uq same =
      ⊎_elim
      (λ l. together_up p q up uq same l)
      (λ l. sym (together_up q p uq up (sym same) l))
      (le_or_ge p q)

  -- **Compaction uses the fewest numbers that any such relabelling can use.** The bound is above all its numbers: it loses none.
  pub compacted_fewest :
      (bound : ℕ) →
      ((p : ℕ) → used priorities p ≡ true → f p < bound) →
      count bound (used (map (compacted priorities) priorities)) ≤ count bound (used (map f priorities))
  compacted_fewest bound below =
      rw (values_map (compacted priorities) bound, values_map f bound)
      (fewer_values
      (λ v. f (get_or priorities v 0))
      (λ v. compacted priorities (get_or priorities v 0))
      bound bound (length priorities)
      (λ v l. below _ (entry_used priorities v l))
      (λ v l.
      le_trans (suc-le-suc (compacted_lowest _ (entry_used priorities v l))) (below _ (entry_used priorities v l)))
      (λ v w lv lw. together _ _ (entry_used priorities v lv) (entry_used priorities w lw)))
    where
      values_map :
          (h : ℕ → ℕ) (b : ℕ) →
          count b (used (map h priorities)) ≡ count b (values (λ v. h (get_or priorities v 0)) (length priorities))
      values_map h b =
          count_cong b (used (map h priorities)) (values (λ v. h (get_or priorities v 0)) (length priorities))
          (λ k l.
          rw length-map
          (some_cong (length priorities) (λ v. eqb (get_or (map h priorities) v 0) k) (λ v. eqb (h (get_or priorities v 0)) k)
          (λ v lv. rw (get_or_map_below h priorities v lv))))

-- ---- d, and twice

-- d counts the different priorities that the vertices have
different_values :
    (g : Game) →
    different_priorities g (everywhere g) ≡ count (suc (highest_in g (everywhere g))) (values g.priority g.size)
unfolding different_priorities
different_values g =
    count_cong _ _ (values g.priority g.size)
    (λ p l. some_cong g.size _ (λ v. eqb (g.priority v) p) (λ v lv. rw (lt-ltb v g.size lv)))

-- **The compacted game has the least d that any such relabelling can give.**
pub compacted_least_d :
    (t : Tables) →
    Accepted t →
    (f : ℕ → ℕ) →
    KeepsOrder (vertices t) (λ v. get_or t.priorities v 0) f →
    different_priorities (game_of (compacted_tables t)) (everywhere (game_of (compacted_tables t))) ≤
    different_priorities
    (game_of (with_priorities t (map f t.priorities)))
    (everywhere (game_of (with_priorities t (map f t.priorities))))
unfolding game_of
compacted_least_d t ok f keeps =
    rw (different_values g, different_values g')
    (fewer_values g'.priority g.priority _ _ (vertices t) (below g') (below g)
    (λ v w lv lw same.
    rw (entry (compacted t.priorities) v lv, entry (compacted t.priorities) w lw)
    (together t.priorities f (rw (sym each) at keeps) _ _
    (entry_used t.priorities v (rw each lv))
    (entry_used t.priorities w (rw each lw))
    (rw (entry f v lv, entry f w lw) at same))))
  where
    each : length t.priorities ≡ vertices t
    each = (accepted_sound t ok).priority_each

    g : Game
    g = game_of (compacted_tables t)

    g' : Game
    g' = game_of (with_priorities t (map f t.priorities))

    below : (h : Game) (v : ℕ) → v < h.size → h.priority v < suc (highest_in h (everywhere h))
    below h v l = suc-le-suc (greatest_bounds h.size (everywhere h) h.priority v l (lt-ltb v h.size l))

    entry : (h : ℕ → ℕ) (v : ℕ) → v < vertices t → get_or (map h t.priorities) v 0 ≡ h (get_or t.priorities v 0)
    entry h v l = get_or_map_below h t.priorities v (rw each l)

-- So it has no more different priorities than the game itself.
pub compacted_no_more_d :
    (t : Tables) →
    Accepted t →
    different_priorities (game_of (compacted_tables t)) (everywhere (game_of (compacted_tables t))) ≤
    different_priorities (game_of t) (everywhere (game_of t))
compacted_no_more_d t ok =
    rw (map-id t.priorities) at
    (compacted_least_d t ok (λ p. p) (record { monotone = λ v w lv lw up. up; parities = λ v l. refl }))

-- **Compacting twice equals compacting once.**
pub compacted_twice :
    (priorities : List ℕ) →
    map (compacted (map (compacted priorities) priorities)) (map (compacted priorities) priorities) ≡
    map (compacted priorities) priorities
compacted_twice priorities =
    ext_get_or 0 (map again once) once (length-map once again)
    (λ i l.
    let small : i < length priorities = rw (length-map, length-map) at l in
    get_or_map_below again once i (rw length-map at l) ∙ rw (entry i small) (stays i small))
  where
    once : List ℕ
    once = map (compacted priorities) priorities

    again : ℕ → ℕ
    again = compacted once

    entry : (v : ℕ) → v < length priorities → get_or once v 0 ≡ compacted priorities (get_or priorities v 0)
    entry = get_or_map_below (compacted priorities) priorities

    both : KeepsOrder (length priorities) (λ v. get_or priorities v 0) (λ p. again (compacted priorities p))
    both =
        record {
          monotone =
              λ v w lv lw up.
              compacted_monotone once _ _
              (rw (entry v lv) at (entry_used once v (rw length-map lv)))
              ((compacted_keeps priorities).monotone v w lv lw up);
          parities = λ v l. compacted_parity once _ ∙ (compacted_keeps priorities).parities v l;
        }

    -- no number grows, and none can be lower
    stays :
        (v : ℕ) → v < length priorities →
        again (compacted priorities (get_or priorities v 0)) ≡ compacted priorities (get_or priorities v 0)
    stays v l =
        le_antisymm (compacted_small once _)
        (compacted_lowest priorities (λ p. again (compacted priorities p)) both _ (entry_used priorities v l))
