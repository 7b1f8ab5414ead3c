-- The machine without limits: the same steps, but none says over. A run of it over some bytes, and how runs follow one
-- another. What a text means is shown of this machine first; the limits come after, in Limited.antt.
use Rattle.std.specs.Prelude.{cond, List, [], ◌∷◌, ◌++◌, ◌≡◌, refl, ℕ, suc, ◌-◌, eqb, get_or}
use Rattle.std.proofs.Common.{sym, ap, subst, ◌∙◌}
use Rattle.rules.specs.Pgsolver.{parity_word}
use Rattle.grammar.specs.Machine.{Class, class_of, by_class, Machine, Went, on, off, over, to, reading, headed, longer}
use Rattle.grammar.specs.Machine.{identified, ranked, owned, aimed, closed, Phase, at_start, in_word, past_word, in_highest}
use Rattle.grammar.specs.Machine.{past_highest, between_records, in_identifier, past_identifier, in_priority, past_priority}
use Rattle.grammar.specs.Machine.{in_owner, past_owner, in_target, past_target, past_comma, in_name, past_name}

-- a digit more, however large the number
abbrev pub grows : Phase → Machine → ℕ → Went
grows phase s b = on (reading phase (longer s.value b) s)

-- the first digit of a number
abbrev pub starts : Phase → Machine → ℕ → Went
starts phase s b = on (reading phase (b - 48) s)

abbrev pub free_from : Phase → Machine → ℕ → Class → Went
free_from at_start s b c =
    by_class c (on s) (starts in_identifier s b) off off off
    (cond (eqb b (get_or parity_word 0 0)) (on (to (in_word 1) s)) off)
    off
free_from (in_word k) s b c =
    by_class c (cond (eqb k 6) (on (to past_word s)) off) off off off off
    (cond (eqb b (get_or parity_word k 0)) (on (to (in_word (suc k)) s)) off)
    off
free_from past_word s b c = by_class c (on s) (starts in_highest s b) off off off off off
free_from in_highest s b c =
    by_class c (on (headed past_highest s)) (grows in_highest s b) off (on (headed between_records s)) off off off
free_from past_highest s b c = by_class c (on s) off off (on (to between_records s)) off off off
free_from between_records s b c = by_class c (on s) (starts in_identifier s b) off off off off off
free_from in_identifier s b c = by_class c (on (identified s)) (grows in_identifier s b) off off off off off
free_from past_identifier s b c = by_class c (on s) (starts in_priority s b) off off off off off
free_from in_priority s b c = by_class c (on (ranked s)) (grows in_priority s b) off off off off off
free_from past_priority s b c = by_class c (on s) (starts in_owner s b) off off off off off
free_from in_owner s b c = by_class c (on (owned s)) (grows in_owner s b) off off off off off
free_from past_owner s b c = by_class c (on s) (starts in_target s b) off off off off off
free_from in_target s b c =
    by_class c (on (aimed past_target s)) (grows in_target s b) (on (aimed past_comma s)) (on (closed (aimed past_target s)))
    (on (aimed in_name s))
    off
    off
free_from past_target s b c = by_class c (on s) off (on (to past_comma s)) (on (closed s)) (on (to in_name s)) off off
free_from past_comma s b c = by_class c (on s) (starts in_target s b) off off off off off
free_from in_name s b c = by_class c (on s) (on s) (on s) (on s) (on (to past_name s)) (on s) (on s)
free_from past_name s b c = by_class c (on s) off off (on (closed s)) off off off

abbrev pub free_step : Machine → ℕ → Went
free_step s b = free_from s.phase s b (class_of b)

-- one step after another, as long as it goes on
abbrev pub follow : Went → (Machine → Went) → Went
follow (on s) f = f s
follow off f = off
follow over f = over

abbrev pub free_run : List ℕ → Machine → Went
free_run [] s = on s
free_run (b ∷ bs) s = follow (free_step s b) (free_run bs)

-- over this byte it goes from one state to another
pub record Steps (s : Machine) (b : ℕ) (t : Machine) : Type 0 where
  pub step : free_step s b ≡ on t

-- over these bytes
pub record Goes (s : Machine) (bs : List ℕ) (t : Machine) : Type 0 where
  pub run : free_run bs s ≡ on t

-- ---- laws of Went

abbrev machine_of : Went → Machine → Machine
machine_of (on s) d = s
machine_of off d = d
machine_of over d = d

pub on_same : {s t : Machine} → on s ≡ on t → s ≡ t
on_same {s} {t} e = ap (λ (w : Went). machine_of w s) e

abbrev IsOn : Went → Type 0
IsOn (on s) = Unit {0}
IsOn off = ⊥
IsOn over = ⊥

pub off_not_on : {s : Machine} → off ≡ on s → ⊥
off_not_on {s} e = subst IsOn (sym e) tt

pub over_not_on : {s : Machine} → over ≡ on s → ⊥
over_not_on {s} e = subst IsOn (sym e) tt

-- ---- laws of the run

pub free_append : (a b : List ℕ) (s : Machine) → free_run (a ++ b) s ≡ follow (free_run a s) (free_run b)
free_append [] b s = refl
free_append (x ∷ a) b s = go (free_step s x) (λ t. free_append a b t)
  where
    go :
        (w : Went) →
        ((t : Machine) → free_run (a ++ b) t ≡ follow (free_run a t) (free_run b)) →
        follow w (free_run (a ++ b)) ≡ follow (follow w (free_run a)) (free_run b)
    go (on t) ih = ih t
    go off ih = refl
    go over ih = refl

-- no byte
pub stays : {s : Machine} → Goes s [] s
stays = record { run = refl }

-- one byte, and then a run
pub goes_step : {s t u : Machine} {b : ℕ} {bs : List ℕ} → Steps s b t → Goes t bs u → Goes s (b ∷ bs) u
goes_step {s} {t} {u} {b} {bs} p q =
    record { run = ap (λ (w : Went). follow w (free_run bs)) p.step ∙ q.run }

-- one run after another
pub goes_on : {s t u : Machine} {a b : List ℕ} → Goes s a t → Goes t b u → Goes s (a ++ b) u
goes_on {s} {t} {u} {a} {b} p q =
    record { run = free_append a b s ∙ ap (λ (w : Went). follow w (free_run b)) p.run ∙ q.run }

-- a run over two parts goes over the first
pub goes_first : {s u : Machine} (a b : List ℕ) → Goes s (a ++ b) u → (t : Machine) × Goes s a t × Goes t b u
goes_first {s} {u} a b p = go (free_run a s) refl (sym (free_append a b s) ∙ p.run)
  where
    go : (w : Went) → free_run a s ≡ w → follow w (free_run b) ≡ on u → (t : Machine) × Goes s a t × Goes t b u
    go (on t) e q = (t, record { run = e }, record { run = q })
    go off e q = absurd (off_not_on q)
    go over e q = absurd (over_not_on q)

-- it goes to one state only
pub goes_same : {s t u : Machine} {a : List ℕ} → Goes s a t → Goes s a u → t ≡ u
goes_same p q = on_same (sym p.run ∙ q.run)
