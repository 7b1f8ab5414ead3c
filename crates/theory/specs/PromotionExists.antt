-- The rules' entries are as a round asks, so the states after any number of the rules' rounds are reached with their own entries: what
-- is proved with entries is true of the rules' rounds by themselves.
use Rattle.std.specs.Prelude.{true, false, ◌&&◌, not, cond, ◌≡◌, refl, ℕ, zero, suc, ◌≤◌, ◌<◌, eqb, ltb}
use Rattle.std.proofs.Common.{⊎_elim, sym, ap, ◌∙◌, eqb-true, eq-eqb, lt-ltb, le-ltb}
use Rattle.std.proofs.lemmas.Bool.{not-true}
use Rattle.rules.specs.Counting.{Set}
use Rattle.rules.specs.Game.{Game, Total, same}
use Rattle.rules.specs.Words.{no_entry}
use Rattle.rules.specs.Winning.{WinningSets}
use Rattle.rules.specs.Distance.{attractor_entry, lowest_in}
use Rattle.rules.specs.Promotion.{Regions, region_set, drawn_entries, closed_entries, round_of, at_start, after_rounds}
use Rattle.rules.specs.Promotion.{all_solved}
use Rattle.basics.specs.Basics.{bool_cases, clash, not_true_is_false, and_intro, and_left, and_right, if_true}
use Rattle.theory.specs.Players.{true_same}
use Rattle.basics.specs.Basics.{if_false}
use Rattle.basics.specs.Basics.{noted_below}
use Rattle.theory.specs.PromotionBasics.{at_region, up_to}
use Rattle.theory.specs.PromotionEntries.{mover, remaining, promoted_to, AttractedEntries, ClosesEntries, PromotedEntries}
use Rattle.theory.specs.PromotionEntries.{SolvedEntries}
use Rattle.theory.specs.PromotionEntries.{RoundEntries, opened, promotes, solves, Rounded, starts, rounds}
use Rattle.theory.specs.PromotionTests.{unsolved_below, region_certificate, region_near, region_entry, region_in_lem}
use Rattle.theory.specs.PromotionTests.{dominion_certificate}
use Rattle.theory.specs.PromotionTests.{dominion_near, dominion_entry, dominion_bare}
use Rattle.theory.specs.PromotionRounds.{Round, opening, promoting, solving, round_kind, promoted_entries, solved_entries}
use Rattle.theory.specs.PromotionRounds.{open_entries}
use Rattle.theory.specs.PromotionRounds.{round_promotes, round_solves}
use Rattle.theory.specs.PromotionSound.{promotion_sets}

module _ (g : Game) (s : Regions) where
  abbrev R : Set
  R = region_set g s

  -- the entries once R is drawn in, and when R closes, vertex by vertex
  pub drawn_at_lem :
      (v : ℕ) →
      v < g.size →
      drawn_entries g s R v ≡
      cond
      (R v && not (at_region (remaining g s) s.region s.current v))
      (attractor_entry g (mover s) (up_to (remaining g s) s.region s.current)
      (at_region (remaining g s) s.region s.current) v)
      (s.entries v)
  unfolding drawn_entries
  drawn_at_lem v l = noted_below no_entry g.size _ v l

  pub closed_at :
      (v : ℕ) →
      v < g.size →
      closed_entries g s R v ≡
      cond
      (R v && same (g.owner v) (mover s) && eqb (drawn_entries g s R v) no_entry)
      (lowest_in g R v)
      (drawn_entries g s R v)
  unfolding closed_entries
  closed_at v l = noted_below no_entry g.size _ v l

  member_below : (v : ℕ) → R v ≡ true → v < g.size
  member_below v m = unsolved_below g s.region v (region_in_lem g s v m)

  -- outside R entries stay
  pub drawn_outside : (v : ℕ) → v < g.size → R v ≡ false → drawn_entries g s R v ≡ s.entries v
  drawn_outside v l out = drawn_at_lem v l ∙ rw out

  -- a closing round draws R in and fills it
  pub rules_fills : ClosesEntries g (mover s) R (drawn_entries g s R) (closed_entries g s R)
  rules_fills =
      record {
        given =
            λ v m o has.
            closed_at v (member_below v m) ∙
            if_false _
            (not_true_is_false
            (R v && same (g.owner v) (mover s) && eqb (drawn_entries g s R v) no_entry)
            (λ q. has (eqb-true (drawn_entries g s R v) no_entry (and_right (R v && same (g.owner v) (mover s)) _ q))));
        filled =
            λ v m o none.
            closed_at v (member_below v m) ∙
            if_true _
            (and_intro (and_intro m (true_same (g.owner v) (mover s) o)) (eq-eqb (drawn_entries g s R v) no_entry none));
        elsewhere =
            λ v l out.
            closed_at v l ∙
            if_false _
            (not_true_is_false
            (R v && same (g.owner v) (mover s) && eqb (drawn_entries g s R v) no_entry)
            (λ q. clash (and_left (R v) _ (and_left (R v && same (g.owner v) (mover s)) _ q)) out));
      }

  pub closed_outside : (v : ℕ) → v < g.size → R v ≡ false → closed_entries g s R v ≡ s.entries v
  closed_outside v l out = rules_fills.elsewhere v l out ∙ drawn_outside v l out

  -- for a promotion
  pub rules_promoted : PromotedEntries g s (closed_entries g s R) (promoted_entries g s)
  rules_promoted =
      record {
        cleared =
            λ v i out l.
            noted_below no_entry g.size _ v (unsolved_below g s.region v i) ∙
            if_false _ out ∙
            if_true _ (and_intro i (lt-ltb (s.region v) (promoted_to g s) l));
        promoted = λ v m. noted_below no_entry g.size _ v (member_below v m) ∙ if_true _ m;
        higher =
            λ v i high.
            let l = unsolved_below g s.region v i in
            ⊎_elim
            (λ (m : R v ≡ true). noted_below no_entry g.size _ v l ∙ if_true _ m)
            (λ (m : R v ≡ false).
            noted_below no_entry g.size _ v l ∙
            if_false _ m ∙
            if_false _
            (not_true_is_false
            (remaining g s v && ltb (s.region v) (promoted_to g s))
            (λ q. clash (and_right (remaining g s v) _ q) (le-ltb (s.region v) (promoted_to g s) high))) ∙
            sym (closed_outside v l m))
            (bool_cases (R v));
        solved =
            λ v l out.
            let m = not_true_is_false (R v) (λ m. clash (region_in_lem g s v m) out) in
            noted_below no_entry g.size _ v l ∙ if_false _ m ∙
            if_false _
            (not_true_is_false
            (remaining g s v && ltb (s.region v) (promoted_to g s))
            (λ q. clash (and_left (remaining g s v) _ q) out)) ∙
            sym (closed_outside v l m);
      }

  module _ (few : g.size ≤ no_entry) where
    pub rules_attracted : AttractedEntries g s s.entries (drawn_entries g s R)
    rules_attracted =
        record {
          certificate = region_certificate g s;
          near = λ v m t o. region_near g s v;
          pulled = λ v m t o. drawn_at_lem v (member_below v m) ∙ if_true _ (and_intro m (ap not t)) ∙ region_entry g s few v m t o;
          kept =
              λ v t o.
              drawn_at_lem v (member_below v ((region_certificate g s).closed.target v t)) ∙
              if_false _
              (not_true_is_false
              (R v && not (at_region (remaining g s) s.region s.current v))
              (λ q. clash t (not-true (at_region (remaining g s) s.region s.current v) (and_right (R v) _ q))));
          elsewhere = drawn_outside;
        }

    -- and for a dominion
    pub rules_solved : SolvedEntries g s (closed_entries g s R) (solved_entries g s)
    rules_solved =
        let cert = dominion_certificate g s in
        record {
          certificate = cert;
          near = λ v d out o. dominion_near g s v;
          pulled =
              λ v d out o.
              noted_below no_entry g.size _ v (unsolved_below g s.region v (cert.inside v d)) ∙
              if_false _ out ∙
              if_true _ (cert.inside v d) ∙
              dominion_entry g s few v d out o;
          kept = λ v m o. noted_below no_entry g.size _ v (member_below v m) ∙ if_true _ m;
          cleared =
              λ v i out.
              noted_below no_entry g.size _ v (unsolved_below g s.region v i) ∙
              if_false _ (not_true_is_false (R v) (λ m. clash (cert.closed.target v m) out)) ∙
              if_true _ i ∙
              dominion_bare g s v (λ d o. clash d out);
          solved =
              λ v l out.
              let m = not_true_is_false (R v) (λ m. clash (region_in_lem g s v m) out) in
              noted_below no_entry g.size _ v l ∙ if_false _ m ∙ if_false _ out ∙ sym (closed_outside v l m);
        }

    -- **the rules' entries are as the round asks**
    pub rules_round : RoundEntries g s s.entries (round_of g s).entries
    rules_round = go (round_kind g s)
      where
        go : Round g s → RoundEntries g s s.entries (round_of g s).entries
        go (opening opens) = rw (open_entries g s opens) (opened opens rules_attracted)
        go (promoting closed has) =
            rw (round_promotes g s closed has) (promotes closed has rules_attracted rules_fills rules_promoted)
        go (solving closed none) =
            rw (round_solves g s closed none) (solves closed none rules_attracted rules_fills rules_solved)

-- **The state after any number of rounds is reached with its entries**,
pub after_rounded : (g : Game) → g.size ≤ no_entry → (k : ℕ) → Rounded g (after_rounds g k) (after_rounds g k).entries
unfolding after_rounds at_start
after_rounded g few zero = starts (λ v l. refl)
after_rounded g few (suc k) = rounds (after_rounded g few k) (rules_round g (after_rounds g k) few)

-- and with entries no other state is reached
pub rounded_after : {g : Game} {s : Regions} {σ : ℕ → ℕ} → Rounded g s σ → (k : ℕ) × (s ≡ after_rounds g k)
unfolding after_rounds
rounded_after (starts none) = (0, refl)
rounded_after {g} (rounds before entries) = let (k, e) = rounded_after before in (suc k, ap (round_of g) e)

-- **So, once all vertices are solved, the sets of the rules' rounds are exactly the winning sets.**
pub rounds_sets :
    (g : Game) →
    Total g →
    ((v : ℕ) → v < g.size → g.priority v ≤ 255) →
    g.size ≤ no_entry →
    (k : ℕ) →
    all_solved g (after_rounds g k) ≡ true →
    WinningSets g (after_rounds g k).won
rounds_sets g total low few k done = promotion_sets g total low few (after_rounded g few k) done
