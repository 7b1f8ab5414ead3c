-- The checker: where it answers yes, the two sets are exactly the winning sets and the entries a winning choice; and to winning sets
-- with a winning choice it always answers yes.
use Rattle.std.specs.Prelude.{Bool, true, ◌&&◌, ◌||◌, cond, List, ◌⊎◌, ◌≡◌, refl, ℕ, suc, ◌*◌, ◌/◌, ◌≤◌, ◌<◌, eqb, ltb, length}
use Rattle.std.proofs.Math.Bool.{false, not}
use Rattle.std.proofs.Common.{inl, inr, sym, ◌∙◌, suc-le-suc, le_trans, arith}
use Rattle.std.proofs.Math.Logic.{⊎_elim}
use Rattle.std.proofs.Math.Path.{ap}
use Rattle.std.proofs.Math.Nat.{zero-div}
use borrow.Author.Tests.{eqb-true, eqb-false, eq-eqb, lt-ltb, le-ltb, leb-true, le-leb, not-true, not-false}
use Rattle.std.proofs.Math.Dec.{leb}
use Rattle.std.proofs.Math.ListN.{get_or-eq_default}
use Rattle.rules.specs.Counting.{Set, some, some_of, every_of}
use Rattle.rules.specs.Game.{Player, Even, Odd, Game, everywhere, Edge, Total, parity, same}
use Rattle.rules.specs.Outcome.{none, given_at, ◌then◌}
use Rattle.rules.specs.Tables.{Tables, words, game_of, Accepted}
use Rattle.rules.specs.Winning.{Cycle, here, step, Step, Fixes, WinsBy, WinningSets, WinningEntries}
use Rattle.rules.specs.Words.{digit, bit, set_of, entry, no_entry}
use Rattle.rules.specs.Zielonka.{highest_in}
use Rattle.rules.specs.Checker.{winner_of, own_winner, same_side, nothing_chosen, kept_edges, on_cycle}
use Rattle.rules.specs.Checker.{check21, check22, check23, check24, certificate_checks}
use Rattle.basics.specs.Basics.{bool_cases, clash, not_true_is_false, and_intro, and_left, and_right, or_false_both}
use Rattle.basics.specs.Basics.{some_false, false_some, every_of_intro, every_of_elim, lt_or_ge}
use Rattle.theory.specs.Players.{same_true, true_same, same_false, false_same, opponent_differs}
use Rattle.theory.specs.Walks.{Among, walk_map, walk_among, stays, first_edge, leaves_start, highest_bounds, highest_le}
use Rattle.theory.specs.OneWinner.{not_both_win}
use Rattle.theory.specs.Dominion.{Dominion, Inside, owner_cases, partition_exact, partition_entries, first_target, first_target_edge}
use Rattle.accepted.specs.Tables.{then_none, given_at_none, accepted_total}
use Rattle.theory.specs.Bits.{Bits}
use Rattle.theory.specs.Links.{Linked, on_cycle_test_cycle, cycle_on_cycle_test}
use Rattle.theory.specs.Solitaire.{edge_test, test_edge, priority_le_highest}

-- the sets that two lists of words claim for the players
abbrev pub claimed : List ℕ → List ℕ → Player → Set
claimed even odd Even = set_of even
claimed even odd Odd = set_of odd

-- What yes stands for, in plain words: the sets split the vertices and hold nothing else (21), a winner's own vertex has one of its
-- edges as entry and all others have none (22), entries of winners and edges of losers stay on their side (23), and every cycle of
-- those edges has its side's parity (24).
pub record Certificate (g : Game) (even odd strategy : List ℕ) : Type 0 where
  pub split : (v : ℕ) → v < g.size → set_of odd v ≡ not (set_of even v)
  pub clear : (v : ℕ) → g.size ≤ v → (set_of even v ≡ false) × (set_of odd v ≡ false)
  pub given : (v : ℕ) → v < g.size → g.owner v ≡ winner_of even v → Edge g v (entry strategy v)
  pub absent : (v : ℕ) → v < g.size → (g.owner v ≡ winner_of even v → ⊥) → entry strategy v ≡ no_entry
  pub own : (v : ℕ) → v < g.size → g.owner v ≡ winner_of even v → winner_of even v ≡ winner_of even (entry strategy v)
  pub other :
      (v w : ℕ) →
      v < g.size →
      (g.owner v ≡ winner_of even v → ⊥) →
      Edge g v w →
      winner_of even v ≡ winner_of even w
  pub cycles :
      (v p : ℕ) →
      v < g.size →
      Cycle g.priority (Linked g.size (kept_edges g even strategy p)) v p →
      parity p ≡ winner_of even v

-- a test by cases fails where the case that applies fails
cond_fails : (b x y : Bool) → cond b x y ≡ false → (b ≡ true → x ≡ false) × (b ≡ false → y ≡ false)
cond_fails true x y h = (λ e. h, λ e. absurd (clash refl e))
cond_fails false x y h = (λ e. absurd (clash e refl), λ e. h)

fails_cond : (b x y : Bool) → (b ≡ true → x ≡ false) → (b ≡ false → y ≡ false) → cond b x y ≡ false
fails_cond true x y p q = p refl
fails_cond false x y p q = q refl

-- a check finds nothing where its test passes nowhere
none_given_at : (k n : ℕ) (test : Set) → ((v : ℕ) → v < n → test v ≡ false) → given_at k n test ≡ none
unfolding given_at
none_given_at k n test fails = rw (false_some n test fails)

-- past the last word every bit is 0
bit_past : (xs : List ℕ) (v : ℕ) → 64 * length xs ≤ v → bit xs v ≡ 0
unfolding bit digit
bit_past xs v h =
    let past : length xs ≤ v / 64 = omega arith in rw (get_or-eq_default xs 0 past, zero-div)

-- a bit that is not set is 0
bit_clear : (xs : List ℕ) (v : ℕ) → set_of xs v ≡ false → bit xs v ≡ 0
unfolding set_of bit digit
bit_clear xs v p = let other = eqb-false (bit xs v) 1 p in omega arith

clear_bit : (xs : List ℕ) (v : ℕ) → bit xs v ≡ 0 → set_of xs v ≡ false
unfolding set_of
clear_bit xs v e = rw e

-- 21

-- 64 bits a word are enough for the vertices
words_enough : (n : ℕ) → n ≤ 64 * words n
unfolding words
words_enough n = omega arith

module _ (n : ℕ) (even odd : List ℕ) where
  -- the test of 21
  abbrev unsplit : Set
  unsplit b = cond (ltb b n) (cond (set_of even b) (set_of odd b) (not (set_of odd b))) (set_of even b || set_of odd b)

  after21 :
      length even ≡ words n →
      length odd ≡ words n →
      check21 n even odd ≡ none →
      ((v : ℕ) → v < n → set_of odd v ≡ not (set_of even v)) ×
      ((v : ℕ) → n ≤ v → (set_of even v ≡ false) × (set_of odd v ≡ false))
  unfolding check21
  after21 long-even long-odd e = (
    λ v l.
        let (inside, rest) = cond_fails (ltb v n) _ _ (fails v (le_trans l (words_enough n))) in
        let (both, neither) = cond_fails (set_of even v) _ _ (inside (lt-ltb v n l)) in
        ⊎_elim
        (λ p. rw p (both p))
        (λ p. rw p (not-false (set_of odd v) (neither p)))
        (bool_cases (set_of even v)),
    λ v l.
        ⊎_elim
        (λ k.
        let (inside, rest) = cond_fails (ltb v n) _ _ (fails v k) in
        or_false_both (set_of even v) (set_of odd v) (rest (le-ltb v n l)))
        (λ k. (
          clear_bit even v (bit_past even v (rw long-even k)),
          clear_bit odd v (bit_past odd v (rw long-odd k)),
        ))
        (lt_or_ge v (64 * words n)),
  )
    where
      fails : (v : ℕ) → v < 64 * words n → unsplit v ≡ false
      fails = given_at_none 21 (64 * words n) unsplit e

  before21 :
      ((v : ℕ) → v < n → set_of odd v ≡ not (set_of even v)) →
      ((v : ℕ) → n ≤ v → (set_of even v ≡ false) × (set_of odd v ≡ false)) →
      check21 n even odd ≡ none
  unfolding check21
  before21 split clear =
      none_given_at
      21
      (64 * words n)
      unsplit
      (λ v k.
      ⊎_elim
      (λ l.
      rw (lt-ltb v n l, split v l)
      (⊎_elim (λ p. rw p) (λ p. rw p) (bool_cases (set_of even v))))
      (λ l. let (p, q) = clear v l in rw (le-ltb v n l, p, q))
      (lt_or_ge v n))

module _ (g : Game) (even strategy : List ℕ) where
  -- 22, or 25 in its place

  abbrev pub bad_entry : Set
  bad_entry v =
      cond
      (own_winner g even v)
      (not (some_of (g.targets v) (eqb (entry strategy v))))
      (not (eqb (entry strategy v) no_entry))

  pub after22 :
      check22 g even strategy ≡ none →
      ((v : ℕ) → v < g.size → g.owner v ≡ winner_of even v → Edge g v (entry strategy v)) ×
      ((v : ℕ) → v < g.size → (g.owner v ≡ winner_of even v → ⊥) → entry strategy v ≡ no_entry)
  unfolding check22
  after22 e = (
    λ v l mine.
        test_edge g v (entry strategy v)
        (not-false _ ((cond_fails (own_winner g even v) _ _ (fails v l)).0 (true_same (g.owner v) (winner_of even v) mine))),
    λ v l theirs.
        eqb-true (entry strategy v) no_entry
        (not-false _ ((cond_fails (own_winner g even v) _ _ (fails v l)).1 (false_same (g.owner v) (winner_of even v) theirs))),
  )
    where
      fails : (v : ℕ) → v < g.size → bad_entry v ≡ false
      fails = given_at_none (cond (nothing_chosen g strategy) 25 22) g.size bad_entry e

  before22 :
      ((v : ℕ) → v < g.size → g.owner v ≡ winner_of even v → Edge g v (entry strategy v)) →
      ((v : ℕ) → v < g.size → (g.owner v ≡ winner_of even v → ⊥) → entry strategy v ≡ no_entry) →
      check22 g even strategy ≡ none
  unfolding check22
  before22 given absent =
      none_given_at
      (cond (nothing_chosen g strategy) 25 22)
      g.size
      bad_entry
      (λ v l.
      fails_cond
      (own_winner g even v)
      _
      _
      (λ p. ap not (edge_test g v (entry strategy v) (given v l (same_true (g.owner v) (winner_of even v) p))))
      (λ p. ap not (eq-eqb (entry strategy v) no_entry (absent v l (same_false (g.owner v) (winner_of even v) p)))))

  -- 23

  abbrev leaving : Set
  leaving v =
      cond
      (own_winner g even v)
      (not (same_side even v (entry strategy v)))
      (not (every_of (g.targets v) (same_side even v)))

  pub after23 :
      check23 g even strategy ≡ none →
      ((v : ℕ) → v < g.size → g.owner v ≡ winner_of even v → winner_of even v ≡ winner_of even (entry strategy v)) ×
      ((v w : ℕ) → v < g.size → (g.owner v ≡ winner_of even v → ⊥) → Edge g v w → winner_of even v ≡ winner_of even w)
  unfolding check23
  after23 e = (
    λ v l mine.
        same_true (winner_of even v) (winner_of even (entry strategy v))
        (not-false _ ((cond_fails (own_winner g even v) _ _ (fails v l)).0 (true_same (g.owner v) (winner_of even v) mine))),
    λ v w l theirs d.
        same_true (winner_of even v) (winner_of even w)
        (every_of_elim
        (g.targets v)
        (same_side even v)
        (not-false _ ((cond_fails (own_winner g even v) _ _ (fails v l)).1 (false_same (g.owner v) (winner_of even v) theirs)))
        w
        d),
  )
    where
      fails : (v : ℕ) → v < g.size → leaving v ≡ false
      fails = given_at_none 23 g.size leaving e

  before23 :
      ((v : ℕ) → v < g.size → g.owner v ≡ winner_of even v → winner_of even v ≡ winner_of even (entry strategy v)) →
      ((v w : ℕ) → v < g.size → (g.owner v ≡ winner_of even v → ⊥) → Edge g v w → winner_of even v ≡ winner_of even w) →
      check23 g even strategy ≡ none
  unfolding check23
  before23 own other =
      none_given_at
      23
      g.size
      leaving
      (λ v l.
      fails_cond
      (own_winner g even v)
      _
      _
      (λ p.
      ap not
      (true_same (winner_of even v) (winner_of even (entry strategy v)) (own v l (same_true (g.owner v) (winner_of even v) p))))
      (λ p.
      ap not
      (every_of_intro
      (g.targets v)
      (same_side even v)
      (λ w d.
      true_same (winner_of even v) (winner_of even w) (other v w l (same_false (g.owner v) (winner_of even v) p) d)))))

  -- 24

  -- an edge that is kept: between priorities of at most p on one side, the entry of a winner and any edge of a loser
  pub record KeptEdge (p v w : ℕ) : Type 0 where
    pub low : g.priority v ≤ p
    pub low_end : g.priority w ≤ p
    pub side : winner_of even v ≡ winner_of even w
    pub chosen : g.owner v ≡ winner_of even v → w ≡ entry strategy v
    pub edge : (g.owner v ≡ winner_of even v → ⊥) → Edge g v w

  pub kept_elim : (p v w : ℕ) → kept_edges g even strategy p v w ≡ true → KeptEdge p v w
  kept_elim p v w q =
      let a = leb (g.priority v) p in
      let b = leb (g.priority w) p in
      let c = same_side even v w in
      let d = cond (own_winner g even v) (eqb w (entry strategy v)) (some_of (g.targets v) (eqb w)) in
      let abc = and_left (a && b && c) d q in
      let ab = and_left (a && b) c abc in
      let last = and_right (a && b && c) d q in
      record {
        low = leb-true (g.priority v) p (and_left a b ab);
        low_end = leb-true (g.priority w) p (and_right a b ab);
        side = same_true (winner_of even v) (winner_of even w) (and_right (a && b) c abc);
        chosen = λ mine. eqb-true w (entry strategy v) (rw (true_same (g.owner v) (winner_of even v) mine) at last);
        edge = λ theirs. test_edge g v w (rw (false_same (g.owner v) (winner_of even v) theirs) at last);
      }

  pub kept_intro : (p v w : ℕ) → KeptEdge p v w → kept_edges g even strategy p v w ≡ true
  kept_intro p v w k =
      and_intro
      (and_intro
      (and_intro (le-leb (g.priority v) p k.low) (le-leb (g.priority w) p k.low_end))
      (true_same (winner_of even v) (winner_of even w) k.side))
      (⊎_elim
      (λ p. rw p (eq-eqb w (entry strategy v) (k.chosen (same_true (g.owner v) (winner_of even v) p))))
      (λ p. rw p (edge_test g v w (k.edge (same_false (g.owner v) (winner_of even v) p))))
      (bool_cases (own_winner g even v)))

  -- the test of 24 at v and p
  abbrev pub bad_cycle : ℕ → Set
  bad_cycle v p =
      not (same (parity p) (winner_of even v)) && leb (g.priority v) p && on_cycle g (kept_edges g even strategy p) p v

  after24 :
      check24 g even strategy ≡ none →
      (v p : ℕ) →
      v < g.size →
      Cycle g.priority (Linked g.size (kept_edges g even strategy p)) v p →
      parity p ≡ winner_of even v
  unfolding check24
  after24 e v p l c =
      let top = highest_in g (everywhere g) in
      let below = highest_le top (λ x y s. priority_le_highest g x s.start) c in
      let fails = some_false (suc top) (bad_cycle v) (given_at_none 24 g.size (λ v. some (suc top) (bad_cycle v)) e v l) p (suc-le-suc below) in
      ⊎_elim
      (λ q. same_true (parity p) (winner_of even v) q)
      (λ q.
      absurd
      (clash
      (and_intro
      (and_intro (ap not q) (le-leb (g.priority v) p (highest_bounds c v (leaves_start c))))
      (cycle_on_cycle_test g (kept_edges g even strategy p) p v c))
      fails))
      (bool_cases (same (parity p) (winner_of even v)))

  before24 :
      ((v p : ℕ) →
      v < g.size →
      Cycle g.priority (Linked g.size (kept_edges g even strategy p)) v p →
      parity p ≡ winner_of even v) →
      check24 g even strategy ≡ none
  unfolding check24
  before24 cycles =
      let top = highest_in g (everywhere g) in
      none_given_at
      24
      g.size
      (λ v. some (suc top) (bad_cycle v))
      (λ v l.
      false_some (suc top) (bad_cycle v)
      (λ p k.
      not_true_is_false
      (bad_cycle v p)
      (λ q.
      let wrong = not (same (parity p) (winner_of even v)) in
      let low = leb (g.priority v) p in
      let on = on_cycle g (kept_edges g even strategy p) p v in
      let c =
      on_cycle_test_cycle g (kept_edges g even strategy p) p v (λ x y e. (kept_elim p x y e).low) (and_right (wrong && low) on q) in
      same_false
      (parity p)
      (winner_of even v)
      (not-true _ (and_left wrong low (and_left (wrong && low) on q)))
      (cycles v p l c))))

-- Yes gives the certificate.
pub checks_certificate :
    (g : Game) (even odd strategy : List ℕ) →
    length even ≡ words g.size →
    length odd ≡ words g.size →
    certificate_checks g even odd strategy ≡ none →
    Certificate g even odd strategy
unfolding certificate_checks
checks_certificate g even odd strategy long-even long-odd ok =
    let c21 = check21 g.size even odd in
    let c22 = check22 g even strategy in
    let c23 = check23 g even strategy in
    let c24 = check24 g even strategy in
    let (e21, r) = then_none c21 (c22 then c23 then c24) ok in
    let (e22, s) = then_none c22 (c23 then c24) r in
    let (e23, e24) = then_none c23 c24 s in
    let (split, clear) = after21 g.size even odd long-even long-odd e21 in
    let (given, absent) = after22 g even strategy e22 in
    let (own, other) = after23 g even strategy e23 in
    record {
      split = split;
      clear = clear;
      given = given;
      absent = absent;
      own = own;
      other = other;
      cycles = after24 g even strategy e24;
    }

-- And the certificate gives yes.
pub certificate_checks_lem :
    (g : Game) (even odd strategy : List ℕ) →
    Certificate g even odd strategy →
    certificate_checks g even odd strategy ≡ none
unfolding certificate_checks
certificate_checks_lem g even odd strategy c =
    rw (
      before21 g.size even odd c.split c.clear,
      before22 g even strategy c.given c.absent,
      before23 g even strategy c.own c.other,
      before24 g even strategy c.cycles,
    )

module _ (g : Game) (total : Total g) (even odd strategy : List ℕ) (cert : Certificate g even odd strategy) where
  -- the player whose set holds v is its winner
  claimed_winner : (a : Player) (v : ℕ) → v < g.size → claimed even odd a v ≡ true → winner_of even v ≡ a
  claimed_winner Even v l p = rw p
  claimed_winner Odd v l p = rw (not-true (set_of even v) (sym (cert.split v l) ∙ p))

  winner_claimed : (a : Player) (v : ℕ) → v < g.size → winner_of even v ≡ a → claimed even odd a v ≡ true
  winner_claimed Even v l e =
      ⊎_elim (λ p. p) (λ p. absurd (opponent_differs Even (sym (rw p at e)))) (bool_cases (set_of even v))
  winner_claimed Odd v l e =
      ⊎_elim (λ p. absurd (opponent_differs Even (rw p at e))) (λ p. cert.split v l ∙ ap not p) (bool_cases (set_of even v))

  claimed_below : (a : Player) (v : ℕ) → claimed even odd a v ≡ true → v < g.size
  claimed_below Even v p = ⊎_elim (λ l. l) (λ l. absurd (clash p (cert.clear v l).0)) (lt_or_ge v g.size)
  claimed_below Odd v p = ⊎_elim (λ l. l) (λ l. absurd (clash p (cert.clear v l).1)) (lt_or_ge v g.size)

  -- each claimed set is its player's dominion by the entries
  certificate_dominion : (a : Player) → Dominion g a (everywhere g) (claimed even odd a) (entry strategy)
  certificate_dominion a =
      record {
        within = λ v p. lt-ltb v g.size (claimed_below a v p);
        edge = λ v p mine. cert.given v (claimed_below a v p) (mine ∙ sym (side v p));
        own =
            λ v p mine.
            let l = claimed_below a v p in
            let own = mine ∙ sym (side v p) in
            winner_claimed a
            (entry strategy v)
            (total.ends v (entry strategy v) (cert.given v l own))
            (sym (cert.own v l own) ∙ side v p);
        other =
            λ v w p theirs e i.
            winner_claimed a w (total.ends v w e)
            (sym (cert.other v w (claimed_below a v p) (λ own. theirs (own ∙ side v p)) e) ∙ side v p);
        cycles =
            λ v m c.
            let start = (first_edge c).1.start in
            let bound = highest_bounds c in
            cert.cycles v m
            (claimed_below a v start)
            (walk_map (kept m) (walk_among (λ u. g.priority u ≤ m) c bound (bound v (leaves_start c)))) ∙
            side v start;
      }
    where
      side : (v : ℕ) → claimed even odd a v ≡ true → winner_of even v ≡ a
      side v p = claimed_winner a v (claimed_below a v p) p

      kept :
          (m x y : ℕ) →
          Among (λ u. g.priority u ≤ m) (Inside g a (claimed even odd a) (entry strategy)) x y →
          Linked g.size (kept_edges g even strategy m) x y
      kept m x y s =
          let at_x = side x s.edge.start in
          record {
            edge =
                kept_intro g even strategy m x y
                (record {
                  low = s.start;
                  low_end = s.end;
                  side = at_x ∙ sym (side y s.edge.end);
                  chosen = λ own. s.edge.edge.fixed (own ∙ at_x);
                  edge = λ theirs. s.edge.edge.edge;
                });
            start = claimed_below a x s.edge.start;
            end = claimed_below a y s.edge.end;
          }

  certificate_sets : WinningSets g (claimed even odd)
  certificate_sets =
      partition_exact g total (claimed even odd) (λ a. entry strategy)
      (λ v l. ⊎_elim (λ p. inl p) (λ p. inr (cert.split v l ∙ ap not p)) (bool_cases (set_of even v)))
      certificate_dominion

  certificate_entries : WinningEntries g (claimed even odd) strategy
  certificate_entries =
      partition_entries g total (claimed even odd) (λ a. entry strategy) strategy
      certificate_dominion
      (λ a v l p mine. refl)
      (λ a v l p theirs. cert.absent v l (λ own. theirs (own ∙ claimed_winner a v l p)))

-- what a yes tells: the sets are exactly the winning sets, each in as many words as there are, with no bit at n or above, and the
-- entries are a winning choice
pub record Certified (g : Game) (even odd strategy : List ℕ) : Type 0 where
  pub sets : WinningSets g (claimed even odd)
  pub entries : WinningEntries g (claimed even odd) strategy
  pub even_held : Bits g.size (set_of even) even
  pub odd_held : Bits g.size (set_of odd) odd

-- **Yes is right**: where the checker finds nothing wrong, the sets are the winning sets and the entries a winning choice.
pub certificate_yes :
    (g : Game) → Total g →
    (even odd strategy : List ℕ) →
    length even ≡ words g.size →
    length odd ≡ words g.size →
    certificate_checks g even odd strategy ≡ none →
    Certified g even odd strategy
certificate_yes g total even odd strategy long-even long-odd ok =
    let cert = checks_certificate g even odd strategy long-even long-odd ok in
    record {
      sets = certificate_sets g total even odd strategy cert;
      entries = certificate_entries g total even odd strategy cert;
      even_held =
          record { long = long-even; bits = λ v l. refl; clear = λ v l. bit_clear even v (cert.clear v l).0 };
      odd_held = record { long = long-odd; bits = λ v l. refl; clear = λ v l. bit_clear odd v (cert.clear v l).1 };
    }

-- The same for accepted tables.
pub accepted_certificate_yes :
    (t : Tables) → Accepted t →
    (even odd strategy : List ℕ) →
    length even ≡ words (game_of t).size →
    length odd ≡ words (game_of t).size →
    certificate_checks (game_of t) even odd strategy ≡ none →
    Certified (game_of t) even odd strategy
accepted_certificate_yes t ok = certificate_yes (game_of t) (accepted_total t ok)

module _
    (g : Game)
    (total : Total g)
    (won : Player → Set)
    (sets : WinningSets g won)
    (cover : (v : ℕ) → v < g.size → (won Even v ≡ true) ⊎ (won Odd v ≡ true))
    (even odd strategy : List ℕ)
    (even_held : Bits g.size (won Even) even)
    (odd_held : Bits g.size (won Odd) odd)
    (entries : WinningEntries g won strategy) where
  -- no vertex is in both sets
  apart : (v : ℕ) → v < g.size → won Even v ≡ true → won Odd v ≡ true → ⊥
  apart v l p q = not_both_win g total Even v l ((sets Even v l).0 p) ((sets Odd v l).0 q)

  won_winner : (a : Player) (v : ℕ) → v < g.size → won a v ≡ true → winner_of even v ≡ a
  won_winner Even v l p = rw (even_held.bits v l ∙ p)
  won_winner Odd v l p = rw (not_true_is_false (set_of even v) (λ q. apart v l (sym (even_held.bits v l) ∙ q) p))

  winner_won : (a : Player) (v : ℕ) → v < g.size → winner_of even v ≡ a → won a v ≡ true
  winner_won Even v l e =
      ⊎_elim (λ p. p) (λ p. absurd (opponent_differs Even (sym e ∙ won_winner Odd v l p))) (cover v l)
  winner_won Odd v l e =
      ⊎_elim (λ p. absurd (opponent_differs Even (sym (won_winner Even v l p) ∙ e))) (λ p. p) (cover v l)

  -- a's entries where a wins, and any edge elsewhere
  fixed : Player → ℕ → ℕ
  fixed a v = cond (won a v) (entry strategy v) (first_target g v)

  fixed_entry : (a : Player) (v : ℕ) → won a v ≡ true → fixed a v ≡ entry strategy v
  unfolding fixed
  fixed_entry a v p = rw p

  fixed_fixes : (a : Player) → Fixes g a (fixed a)
  unfolding fixed
  fixed_fixes a v l mine =
      ⊎_elim
      (λ p. rw p (entries.given a v l p mine))
      (λ p. rw p (first_target_edge g total v l))
      (bool_cases (won a v))

  fixed_wins : (a : Player) (v : ℕ) → v < g.size → won a v ≡ true → WinsBy g a (fixed a) v
  fixed_wins a v l p = entries.win a (fixed a) (fixed_fixes a) (λ u k q mine. fixed_entry a u q) v l p

  -- an edge that is left leads from a's set to a's set: a wins there by the same choice
  next_won : (a : Player) (v w : ℕ) → v < g.size → won a v ≡ true → Step g a (fixed a) v w → won a w ≡ true
  next_won a v w l p s =
      (sets a w (total.ends v w s.edge)).1
      (record {
        choice = fixed a;
        fixes = fixed_fixes a;
        wins = λ u m r c. fixed_wins a v l p u m (step s r) c;
      })

  -- so both ends lie on one side
  next_side : (v w : ℕ) → v < g.size → Step g (winner_of even v) (fixed (winner_of even v)) v w → winner_of even v ≡ winner_of even w
  next_side v w l s =
      let a = winner_of even v in
      sym (won_winner a w (total.ends v w s.edge) (next_won a v w l (winner_won a v l refl) s))

  -- the entry of a winner, and any edge of a loser, is left when the winner has fixed the entries
  entry_step : (a : Player) (v : ℕ) → v < g.size → won a v ≡ true → g.owner v ≡ a → Step g a (fixed a) v (entry strategy v)
  entry_step a v l p mine = record { edge = entries.given a v l p mine; fixed = λ e. sym (fixed_entry a v p) }

  other_step : (a : Player) (v w : ℕ) → (g.owner v ≡ a → ⊥) → Edge g v w → Step g a (fixed a) v w
  other_step a v w theirs e = record { edge = e; fixed = λ mine. absurd (theirs mine) }

  winning_certificate : Certificate g even odd strategy
  winning_certificate =
      record {
        split =
            λ v l.
            ⊎_elim
            (λ p.
            let q : set_of even v ≡ true = even_held.bits v l ∙ p in
            odd_held.bits v l ∙ not_true_is_false (won Odd v) (apart v l p) ∙ sym (ap not q))
            (λ p.
            let q : set_of even v ≡ false =
            even_held.bits v l ∙ not_true_is_false (won Even v) (λ r. apart v l r p) in
            odd_held.bits v l ∙ p ∙ sym (ap not q))
            (cover v l);
        clear = λ v l. (clear_bit even v (even_held.clear v l), clear_bit odd v (odd_held.clear v l));
        given = λ v l mine. entries.given (winner_of even v) v l (winner_won (winner_of even v) v l refl) mine;
        absent = λ v l theirs. entries.absent (winner_of even v) v l (winner_won (winner_of even v) v l refl) theirs;
        own =
            λ v l mine.
            next_side v (entry strategy v) l (entry_step (winner_of even v) v l (winner_won (winner_of even v) v l refl) mine);
        other = λ v w l theirs e. next_side v w l (other_step (winner_of even v) v w theirs e);
        cycles =
            λ v p l c.
            let a = winner_of even v in
            let start = winner_won a v l refl in
            fixed_wins a v l start v p here (walk_map (left_step a p) (stays (λ u. won a u ≡ true) (kept_side a p) start c));
      }
    where
      kept_side : (a : Player) (p x y : ℕ) → Linked g.size (kept_edges g even strategy p) x y → won a x ≡ true → won a y ≡ true
      kept_side a p x y s q =
          winner_won a y s.end (sym (kept_elim g even strategy p x y s.edge).side ∙ won_winner a x s.start q)

      left_step :
          (a : Player) (p x y : ℕ) →
          Among (λ u. won a u ≡ true) (Linked g.size (kept_edges g even strategy p)) x y →
          Step g a (fixed a) x y
      left_step a p x y s =
          let l = s.edge.start in
          let kept = kept_elim g even strategy p x y s.edge.edge in
          let side = won_winner a x l s.start in
          ⊎_elim
          (λ mine. rw (kept.chosen (mine ∙ sym side)) (entry_step a x l s.start mine))
          (λ theirs. other_step a x y theirs (kept.edge (λ own. theirs (own ∙ side))))
          (owner_cases g a x)

  -- **Right answers get yes**: to the winning sets, which cover the vertices, with a winning choice of entries the checker finds
  -- nothing wrong.
  pub winning_gets_yes : certificate_checks g even odd strategy ≡ none
  winning_gets_yes = certificate_checks_lem g even odd strategy winning_certificate
