-- Targets put one by one: each but the last with a comma behind it, the last with a semicolon and LF.
use Rattle.std.specs.Prelude.{List, [], ◌∷◌, ◌++◌, ◌≡◌, refl, ℕ, suc, ◌+◌, ◌-◌, ◌≤◌, ◌<◌, length, get_or, take}
use Rattle.std.proofs.Common.{append_assoc, sym, ap, subst, ◌∙◌, add-one, arith, length-append, take-suc, take_all}
use Rattle.rules.specs.Decimal.{decimal}
use Rattle.rules.specs.Pgsolver.{comma}
use Rattle.rules.specs.Writing.{line_end, targets_text}
use Rattle.putting.specs.Puts.{Fits, Puts, puts_none, puts_both}
use Rattle.writing.specs.Lengths.{after_each, after_first, after_next, targets_length}

-- each with a comma behind it
unfoldable pub with_commas : List ℕ → List ℕ
with_commas [] = []
with_commas (w ∷ ws) = decimal w ++ (comma ∷ with_commas ws)

commas_length : (ws : List ℕ) → length (with_commas ws) ≡ after_each ws
unfolding with_commas after_each
commas_length [] = refl
commas_length (w ∷ ws) = omega (arith, commas_length ws, length-append (decimal w) (comma ∷ with_commas ws))

-- one more
commas_last : (ws : List ℕ) (x : ℕ) → with_commas (ws ++ (x ∷ [])) ≡ with_commas ws ++ (decimal x ++ (comma ∷ []))
unfolding with_commas
commas_last [] x = refl
commas_last (w ∷ ws) x =
    ap (λ (s : List ℕ). decimal w ++ (comma ∷ s)) (commas_last ws x) ∙
    sym (append_assoc (decimal w) (comma ∷ with_commas ws) (decimal x ++ (comma ∷ [])))

-- the last has none
text_last : (ws : List ℕ) (x : ℕ) → targets_text (ws ++ (x ∷ [])) ≡ with_commas ws ++ decimal x
unfolding with_commas targets_text
text_last [] x = refl
text_last (w ∷ []) x = sym (append_assoc (decimal w) (comma ∷ []) (decimal x))
text_last (w ∷ (y ∷ ws)) x =
    ap (λ (s : List ℕ). decimal w ++ (comma ∷ s)) (text_last (y ∷ ws) x) ∙
    sym (append_assoc (decimal w) (comma ∷ with_commas (y ∷ ws)) (decimal x))

-- ---- as they are put

-- e targets of ws are put, which have room with what follows
pub record Aiming (at e : ℕ) (ws before after : List ℕ) (next : ℕ) : Type 0 where
  pub some : e < length ws
  pub room : Fits at (targets_text ws ++ line_end) before
  pub puts : Puts at (with_commas (take e ws)) before after next

pub aiming_none :
    (at : ℕ) (ws out : List ℕ) → 0 < length ws → Fits at (targets_text ws ++ line_end) out → Aiming at 0 ws out out at
unfolding with_commas
aiming_none at ws out some room = record { some = some; room = room; puts = puts_none at out }

module _ {at e next : ℕ} {ws before after : List ℕ} (a : Aiming at e ws before after next) where
  -- where they are, and how much is left
  left : next + (after_each ws - after_each (take e ws)) + 1 ≤ length after
  left =
      omega (
        arith,
        a.puts.place,
        a.puts.long,
        a.room,
        a.some,
        commas_length (take e ws),
        after_first ws e,
        targets_length ws (omega (arith, a.some)),
        length-append (targets_text ws) line_end,
      )

  -- the next has room with a comma, or with a semicolon and LF
  pub aiming_room : (behind : List ℕ) → length behind ≤ 2 → Fits next (decimal (get_or ws e 0) ++ behind) after
  aiming_room behind short =
      omega (
        arith,
        left,
        after_next ws e a.some,
        after_first ws (e + 1),
        length-append (decimal (get_or ws e 0)) behind,
      )

  -- one more
  pub aiming_more :
      {after' : List ℕ} {next' : ℕ} →
      suc e < length ws →
      Puts next (decimal (get_or ws e 0) ++ (comma ∷ [])) after after' next' →
      Aiming at (e + 1) ws before after' next'
  aiming_more {after'} {next'} more put =
      record {
        some = omega arith;
        room = a.room;
        puts =
            subst (λ (s : List ℕ). Puts at s before after' next')
            (sym
            (ap (λ (k : ℕ). with_commas (take k ws)) (add-one e) ∙
            ap with_commas (take-suc ws e 0 a.some) ∙
            commas_last (take e ws) (get_or ws e 0)))
            (puts_both a.puts put);
      }

  -- the last
  pub aiming_all :
      {after' : List ℕ} {r : ℕ} →
      suc e ≡ length ws →
      Puts next (decimal (get_or ws e 0) ++ line_end) after after' r →
      Puts at (targets_text ws ++ line_end) before after' r
  aiming_all {after'} {r} last put =
      let x = get_or ws e 0 in
      let whole : with_commas (take e ws) ++ decimal x ≡ targets_text ws =
      sym (text_last (take e ws) x) ∙
      ap targets_text (sym (take-suc ws e 0 a.some) ∙ take_all (suc e) ws (omega (arith, last))) in
      subst (λ (s : List ℕ). Puts at s before after' r)
      (sym (append_assoc (with_commas (take e ws)) (decimal x) line_end) ∙ ap (λ (s : List ℕ). s ++ line_end) whole)
      (puts_both a.puts put)
