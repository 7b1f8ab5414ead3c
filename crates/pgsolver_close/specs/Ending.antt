-- What the end makes of the bytes that the words and the tables stand for, or of an outcome that is there.
use Rattle.std.specs.Prelude.{List, ◌++◌, ◌≡◌, refl, ℕ, ◌+◌, ◌≤◌, length, get_or, drop, replicate}
use Rattle.std.proofs.Common.{sym, ap, ◌∙◌, arith, drop_at}
use Rattle.std.proofs.lemmas.List.{length-replicate}
use Rattle.rules.specs.Outcome.{Outcome, Verdict, none, refused, outcome, answered}
use Rattle.rules.specs.Reading as Rules
use Rattle.rules.specs.Portions.{Closing, used_in, KeptBetween, Announced, ClosedBy}
use Rattle.arrange.specs.Laws.{rooms_of}
use Rattle.pgsolver_finish.specs.Finishing.{written_of}
use Rattle.pgsolver_end.specs.Told.{Fitted, EndsText}
use Rattle.pgsolver_words.specs.Words.{state_in, place_in, Gives}
use Rattle.pgsolver_serial.specs.Stands.{lent_of, ReadingIn, outcome_in, Stands, SerialLengths, kept_all}

abbrev pub closing_of : List ℕ → List ℕ → List ℕ → List ℕ → List ℕ → List ℕ → ℕ → ℕ → Closing
closing_of s o p f t w n m = record { lent = lent_of s o p f t; work = w; n = n; m = m }

-- 9 and 10 are not given
pub record FitClosing (s o p f t w : List ℕ) : Type 0 where
  pub fitted : Fitted (rooms_of o p f t w)
  pub long : 32 ≤ length s

pub record EndsOn (before after : Closing) (o : Outcome) : Type 0 where
  pub ends :
      (mostBytes : ℕ) (bytes : List ℕ) →
      ReadingIn mostBytes bytes before.lent →
      Announced Stands mostBytes bytes before after o
  pub kept : KeptBetween before.lent after.lent
  pub behind : drop (used_in before) after.work ≡ drop (used_in before) before.work

pub record Again (s : List ℕ) (used : ℕ) (w w' : List ℕ) (n m : ℕ) (o : Outcome) : Type 0 where
  pub gives : o ≡ outcome_in s
  pub clear : w' ≡ replicate used 0 ++ drop used w
  pub vertices : n ≡ get_or s 3 0
  pub edges : m ≡ get_or s 4 0

-- ---- the end

count_none : (v : Verdict) → (outcome v (answered 0)).count ≡ 0
count_none none = refl
count_none (refused k p) = refl

module _ (s o p f t w : List ℕ) (n₀ m₀ : ℕ) where
  abbrev start : Closing
  start = closing_of s o p f t w n₀ m₀

  -- what the text gets is there from now on
  pub ends_on :
      (s' o' p' f' t' w' : List ℕ) (n m : ℕ) (u : Outcome) →
      SerialLengths o p f t o' p' f' t' →
      length s' ≡ length s →
      EndsText Rules.game (state_in s) (place_in s) (rooms_of o p f t w) (written_of o' p' f' t' w' n m) u →
      Gives u.number u.place n m s s' →
      EndsOn start (closing_of s' o' p' f' t' w' n m) u
  ends_on s' o' p' f' t' w' n m u same long ends gives =
      record {
        ends =
            λ mostBytes bytes h.
            let told = ends.told mostBytes bytes h.reached in
            let none_counted : 0 ≡ u.count =
            sym
            (ap (λ (x : Outcome). x.count) told.gives ∙
            count_none (Rules.read_checks Rules.game told.verdict told.header told.entries)) in
            record {
              told = told;
              stands =
                  record {
                    kind = gives.kind;
                    gives = λ i. record { number = gives.says i; place = gives.at i; count = none_counted i };
                    vertices = gives.vertices;
                    edges = gives.edges;
                  };
            };
        kept = kept_all s o p f t s' o' p' f' t' same long gives.behind;
        behind = ends.behind;
      }

  -- the outcome is there: it is given again
  pub closed_again :
      (w' : List ℕ) (n m : ℕ) (u : Outcome) →
      get_or s 0 0 ≡ 1 →
      Again s (length o + length t) w w' n m u →
      length o + length t ≤ length w →
      ClosedBy Stands start (closing_of s o p f t w' n m) u
  closed_again w' n m u there a fits =
      record {
        ends = λ mostBytes bytes h. absurd (omega (arith, there, h.kind));
        again =
            λ g k j h. (
              a.gives ∙ h.gives,
              λ i. closing_of s o p f t (a.clear i) ((a.vertices ∙ h.vertices) i) ((a.edges ∙ h.edges) i),
            );
        kept = record { owners = refl; priorities = refl; offsets = refl; targets = refl; state = refl; behind = refl };
        behind =
            ap (drop (length o + length t)) a.clear ∙
            drop_at (replicate (length o + length t) 0) (drop (length o + length t) w) (length o + length t)
            (length-replicate {A = ℕ} (length o + length t) 0);
      }

  pub closed_on :
      (after : Closing) (u : Outcome) →
      (get_or s 0 0 ≡ 1 → ⊥) →
      EndsOn start after u →
      ClosedBy Stands start after u
  closed_on after u not ends =
      record {
        ends = ends.ends;
        again = λ g n m h. absurd (not h.kind);
        kept = ends.kept;
        behind = ends.behind;
      }
