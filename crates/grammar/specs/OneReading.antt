-- The rules give one reading of a text, and the texts that get none of 30 to 32 are exactly those of the grammar that keep the
-- limits and the rule on identifiers.
use Rattle.std.specs.Prelude.{Bool, true, false, not, List, [], map, ◌↔◌, ◌≡◌, refl, ℕ, ◌+◌, ◌≤◌, ◌<◌, eqb, length, take, drop}
use Rattle.std.proofs.Common.{append-nil, ⊎_elim, sym, ap, subst, arith, eqb-true, eq-eqb, take-append-drop, length-take}
use Rattle.std.proofs.lemmas.Bool.{not-false}
use Rattle.std.proofs.Math.Seq.{take-length}
use Rattle.rules.specs.Counting.{times, some}
use Rattle.rules.specs.Outcome.{Verdict, none, refused, given, given_at, ◌then◌}
use Rattle.rules.specs.Pgsolver.{Entry, Header, unsaid, highest, Text, Viable}
use Rattle.rules.specs.Reading.{Limits, Stuck, Over, Reads, check31, wrong_highest}
use Rattle.basics.specs.Basics.{lt_or_ge, some_false, false_some}
use Rattle.grammar.specs.Machine.{Machine}
use Rattle.grammar.specs.Reaches.{stands_same}
use Rattle.grammar.specs.Viable.{text_viable, text_stands}
use Rattle.grammar.specs.Correct.{not_stuck}

-- ---- one reading

-- two readings of the same bytes have the same header and the same records
pub one_reading :
    {s : List ℕ} {h h' : Header} {es es' : List Entry} → Text s h es → Text s h' es' → (h ≡ h') × (es ≡ es')
one_reading t t' =
    let e = stands_same (text_stands t) (text_stands t') in
    (ap (λ (x : Machine). x.header) e, ap (λ (x : Machine). x.entries) e)

-- ---- one verdict

stuck_within : {text : List ℕ} {k : ℕ} → Stuck text k → k ≤ length text
stuck_within (Stuck.byte k h v n) = omega (arith, h)
stuck_within (Stuck.end v n) = omega arith

-- up to where a text is stuck it is viable
stuck_viable : {text : List ℕ} {k : ℕ} → Stuck text k → Viable (take k text)
stuck_viable (Stuck.byte k h v n) = v
stuck_viable {text} (Stuck.end v n) = subst Viable (sym (take-length text)) v

-- it is stuck at one place
stuck_order : {text : List ℕ} {j k : ℕ} → Stuck text j → Stuck text k → j < k → ⊥
stuck_order {text} {j} {k} p q h =
    not_stuck (take k text) (drop k text) p (take-append-drop k text) (stuck_viable q)
    (omega (arith, h, length-take k text, stuck_within q))

-- a text of the grammar is stuck nowhere
stuck_text : {text : List ℕ} {k : ℕ} {h : Header} {es : List Entry} → Stuck text k → Text text h es → ⊥
stuck_text {text} (Stuck.byte k h v n) t = not_stuck text [] (Stuck.byte k h v n) (append-nil text) (text_viable t) h
stuck_text (Stuck.end v n) t = n _ _ t

same_place : {j k : ℕ} → (j < k → ⊥) → (k < j → ⊥) → j ≡ k
same_place {j} {k} p q = ⊎_elim (λ h. absurd (p h)) above (lt_or_ge j k)
  where
    above : k ≤ j → j ≡ k
    above h = ⊎_elim (λ g. absurd (q g)) (λ g. omega (arith, h, g)) (lt_or_ge k j)

-- 32 and 30 are not both given
beyond_and_stuck :
    {l : Limits} {text : List ℕ} {j k : ℕ} →
    Over l text j →
    ((i : ℕ) → i < j → Stuck text i → ⊥) →
    Stuck text k →
    ((i : ℕ) → i ≤ k → Over l text i → ⊥) →
    ⊥
beyond_and_stuck {j = j} {k} o n s m = ⊎_elim (λ h. n k h s) (λ h. m j h o) (lt_or_ge k j)

-- two readings of one text by the rules are the same
pub reads_one :
    {l : Limits} {text : List ℕ} {v v' : Verdict} {h h' : Header} {es es' : List Entry} →
    Reads l text v h es →
    Reads l text v' h' es' →
    (v ≡ v') × (h ≡ h') × (es ≡ es')
reads_one (Reads.beyond {k = j} o n m) (Reads.beyond {k = k} o' n' m') =
    (ap (λ (i : ℕ). refused 32 i) (same_place (λ h. n' j h o) (λ h. n k h o')), refl, refl)
reads_one (Reads.beyond o n m) (Reads.stuck s p) = absurd (beyond_and_stuck o m s p)
reads_one (Reads.beyond {k = k} o n m) (Reads.whole t p) = absurd (p k o)
reads_one (Reads.stuck s p) (Reads.beyond o n m) = absurd (beyond_and_stuck o m s p)
reads_one (Reads.stuck s p) (Reads.stuck s' p') =
    (ap (λ (i : ℕ). refused 30 i) (same_place (λ h. stuck_order s s' h) (λ h. stuck_order s' s h)), refl, refl)
reads_one (Reads.stuck s p) (Reads.whole t q) = absurd (stuck_text s t)
reads_one (Reads.whole t p) (Reads.beyond {k = k} o n m) = absurd (p k o)
reads_one (Reads.whole t p) (Reads.stuck s q) = absurd (stuck_text s t)
reads_one (Reads.whole t p) (Reads.whole t' p') =
    let e = one_reading t t' in
    (refl, e.0, e.1)

-- ---- the rule on identifiers

-- with n records, each of 0 to n − 1 is the identifier of exactly one, and N, where it is said, is n − 1
pub record RightIdentifiers (h : Header) (es : List Entry) : Type 0 where
  pub once : (i : ℕ) → i < length es → times i (map (λ e. e.identifier) es) ≡ 1
  pub said : (k : ℕ) → h ≡ highest k → k + 1 ≡ length es

refused_not_none : {k p : ℕ} → refused k p ≡ none → ⊥
refused_not_none e = subst Given e tt
  where
    Given : Verdict → Type 0
    Given none = ⊥
    Given (refused k p) = Unit {0}

given_none : (k p : ℕ) (t : Bool) → given k p t ≡ none → t ≡ false
given_none k p true e = absurd (refused_not_none e)
given_none k p false e = refl

then_none : (v w : Verdict) → (v then w) ≡ none → (v ≡ none) × (w ≡ none)
then_none none w e = (refl, e)
then_none (refused k p) w e = absurd (refused_not_none e)

said_right : (h : Header) (n : ℕ) → ((k : ℕ) → h ≡ highest k → k + 1 ≡ n) → wrong_highest h n ≡ false
said_right unsaid n p = refl
said_right (highest k) n p = ap not (eq-eqb (k + 1) n (p k refl))

-- 31 is given exactly where it is broken
pub right_passes : (h : Header) (es : List Entry) → (check31 h es ≡ none) ↔ RightIdentifiers h es
unfolding check31 given_at
right_passes h es = (to, from)
  where
    ids : List ℕ
    ids = map (λ e. e.identifier) es

    test : ℕ → Bool
    test i = not (eqb (times i ids) 1)

    to : check31 h es ≡ none → RightIdentifiers h es
    to e =
        let p = then_none (given_at 31 (length es) test) (given 31 (length es) (wrong_highest h (length es))) e in
        let all = some_false (length es) test (given_none 31 _ (some (length es) test) p.0) in
        record {
          once = λ i q. eqb-true (times i ids) 1 (not-false (eqb (times i ids) 1) (all i q));
          said =
              λ k q.
              eqb-true (k + 1) (length es)
              (not-false (eqb (k + 1) (length es))
              (subst (λ (o : Header). wrong_highest o (length es) ≡ false) q (given_none 31 (length es) _ p.1)));
        }

    from : RightIdentifiers h es → check31 h es ≡ none
    from r =
        rw
        (false_some (length es) test (λ i q. ap not (eq-eqb (times i ids) 1 (r.once i q))), said_right h (length es) r.said)

-- ---- what passes

none_whole :
    {l : Limits} {text : List ℕ} {v : Verdict} {h : Header} {es : List Entry} →
    Reads l text v h es →
    v ≡ none →
    Text text h es × ((j : ℕ) → Over l text j → ⊥)
none_whole (Reads.beyond o n m) e = absurd (refused_not_none e)
none_whole (Reads.stuck s p) e = absurd (refused_not_none e)
none_whole (Reads.whole t p) e = (t, p)

-- the texts that get none of 30 to 32 are exactly those of the grammar that keep the limits and the rule on identifiers
pub passes_exactly :
    (l : Limits) (text : List ℕ) →
    ((h : Header) × (es : List Entry) × Reads l text none h es × (check31 h es ≡ none)) ↔
    ((h : Header) × (es : List Entry) × Text text h es × ((j : ℕ) → Over l text j → ⊥) × RightIdentifiers h es)
passes_exactly l text = (to, from)
  where
    to :
        ((h : Header) × (es : List Entry) × Reads l text none h es × (check31 h es ≡ none)) →
        ((h : Header) × (es : List Entry) × Text text h es × ((j : ℕ) → Over l text j → ⊥) × RightIdentifiers h es)
    to p =
        let q = none_whole p.2 refl in
        (p.0, p.1, q.0, q.1, (right_passes p.0 p.1).0 p.3)

    from :
        ((h : Header) × (es : List Entry) × Text text h es × ((j : ℕ) → Over l text j → ⊥) × RightIdentifiers h es) →
        ((h : Header) × (es : List Entry) × Reads l text none h es × (check31 h es ≡ none))
    from p = (p.0, p.1, Reads.whole p.2 p.3, (right_passes p.0 p.1).1 p.4)
