-- What a reader may conclude: yes is right, right answers get yes, 25 is given exactly where 22 would be and every entry is none,
-- and any two results that meet the promise are the same.
use Rattle.std.specs.Prelude.{true, List, ◌⊎◌, ◌≡◌, refl, ℕ, ◌<◌, length}
use Rattle.std.proofs.Common.{sym, ap, ap₂, ◌∙◌, arith}
use Rattle.std.proofs.lemmas.Bool.{eqb-false}
use Rattle.rules.specs.Game.{Player, Even, Odd, Game}
use Rattle.rules.specs.Outcome.{Outcome, Verdict, none, refused, outcome, answered, ◌then◌}
use Rattle.rules.specs.Tables.{Tables, game_of}
use Rattle.rules.specs.Checker.{check21, check22, check23, check24, certificate_checks, Checks}
use Rattle.rules.specs.Counting.{Set}
use Rattle.rules.specs.Winning.{WinningSets, WinningEntries}
use Rattle.theory.specs.Bits.{Bits}
use Rattle.theory.specs.Checker.{Certified, accepted_certificate_yes, winning_gets_yes}
use Rattle.theory.specs.NothingChosen.{Unchosen, no_strategy_tells, no_strategy_given}
use Rattle.accepted.specs.Tables.{accepted_total}
use Rattle.parity_game.specs.Said.{refusal}
use Rattle.parity_game.specs.Laws.{Numbered, numbered_given_at, numbered_then, then_none, zero_none, outcome_pass}
use Rattle.lent_checks.specs.Checks.{checks_by, numbered_by, checks_passed}
use Rattle.checker.specs.Checks.{numbered21, numbered22}

numbered_certificate : (g : Game) (even odd strategy : List ℕ) → Numbered (certificate_checks g even odd strategy)
unfolding certificate_checks check23 check24
numbered_certificate g even odd strategy =
    numbered_then (check21 g.size even odd) _ (numbered21 _ _ _)
    (numbered_then (check22 g even strategy) _ (numbered22 _ _ _)
    (numbered_then (check23 g even strategy) (check24 g even strategy) (numbered_given_at 23 _ _ (omega arith)) (numbered_given_at 24 _ _ (omega arith))))

module _ (t : Tables) (even odd strategy before after : List ℕ) (o : Outcome) (checks : Checks t even odd strategy before after o) where
  abbrev R : Verdict
  R = checks_by t (length even) (length odd) (length strategy) (length before)

  -- **Yes is right**: the two sets are exactly the winning sets and the entries a winning choice.
  pub yes_is_right : o.number ≡ 0 → Certified (game_of t) even odd strategy
  unfolding game_of
  yes_is_right zero =
      let v = R then certificate_checks (game_of t) even odd strategy in
      let passes =
      zero_none v (answered 0)
      (numbered_then R (certificate_checks (game_of t) even odd strategy) (numbered_by _ _ _ _ _) (numbered_certificate (game_of t) even odd strategy))
      (sym (ap (λ (x : Outcome). x.number) checks.gives) ∙ zero) in
      let both = then_none R (certificate_checks (game_of t) even odd strategy) passes in
      let p = checks_passed t (length even) (length odd) (length strategy) (length before) both.0 in
      accepted_certificate_yes t p.accepted even odd strategy p.even_size p.odd_size both.1

  -- What the rule accepts gets yes.
  pub accepted_gets_yes : R ≡ none → certificate_checks (game_of t) even odd strategy ≡ none → o ≡ answered 0
  accepted_gets_yes r c =
      checks.gives ∙ outcome_pass R (certificate_checks (game_of t) even odd strategy) (answered 0) r ∙
      ap (λ (v : Verdict). outcome v (answered 0)) c

  -- **Right answers get yes**: winning sets that cover the vertices, with a winning choice of entries.
  pub right_gets_yes :
      R ≡ none →
      (won : Player → Set) →
      WinningSets (game_of t) won →
      ((v : ℕ) → v < (game_of t).size → (won Even v ≡ true) ⊎ (won Odd v ≡ true)) →
      Bits (game_of t).size (won Even) even →
      Bits (game_of t).size (won Odd) odd →
      WinningEntries (game_of t) won strategy →
      o ≡ answered 0
  right_gets_yes r won sets cover even_held odd_held entries =
      let p = checks_passed t (length even) (length odd) (length strategy) (length before) r in
      accepted_gets_yes r
      (winning_gets_yes (game_of t) (accepted_total t p.accepted) won sets cover even odd strategy even_held odd_held entries)

  -- **25 is right**: 22 would be given at its place, and every entry is none,
  pub no_strategy_is_right : R ≡ none → o.number ≡ 25 → Unchosen (game_of t) even odd strategy o.place
  no_strategy_is_right r e =
      let gives = checks.gives ∙ outcome_pass R (certificate_checks (game_of t) even odd strategy) (answered 0) r in
      no_strategy_tells (game_of t) even odd strategy (refused_at (certificate_checks (game_of t) even odd strategy) o gives e)
    where
      refused_at : (v : Verdict) (q : Outcome) → q ≡ outcome v (answered 0) → q.number ≡ 25 → v ≡ refused 25 q.place
      refused_at none q is e = absurd (eqb-false 0 25 refl (sym (ap (λ (x : Outcome). x.number) is) ∙ e))
      refused_at (refused k p) q is e =
          ap₂ refused (sym (ap (λ (x : Outcome). x.number) is) ∙ e) (sym (ap (λ (x : Outcome). x.place) is))

  -- **and there it is given.**
  pub no_strategy_gets_25 : R ≡ none → {v : ℕ} → Unchosen (game_of t) even odd strategy v → o ≡ refusal 25 v
  no_strategy_gets_25 r u =
      checks.gives ∙ outcome_pass R (certificate_checks (game_of t) even odd strategy) (answered 0) r ∙
      ap (λ (v : Verdict). outcome v (answered 0)) (no_strategy_given (game_of t) even odd strategy u)

-- **Any two results are the same.**
pub one_result :
    (t : Tables) (even odd strategy before after after' : List ℕ) (o o' : Outcome) →
    Checks t even odd strategy before after o →
    Checks t even odd strategy before after' o' →
    (o ≡ o') × (after ≡ after')
one_result t even odd strategy before after after' o o' a b = (a.gives ∙ sym b.gives, a.work ∙ sym b.work)
