-- The machine is the one without limits, stopped where its state is beyond a limit; and a state is beyond a limit exactly
-- where the rules say that the bytes so far are.
use Rattle.std.specs.Prelude.{Bool, true, false, cond, ◌||◌, List, [], ◌∷◌, ◌≡◌, refl, ℕ, suc, ◌-◌, eqb, leb, ltb, length, get_or}
use Rattle.std.proofs.Common.{true≢false, ⊎_elim, sym, subst, ◌∙◌, arith, ltb-true, ltb-false, lt-ltb, le-ltb, leb-true, le-leb}
use Rattle.std.proofs.lemmas.Bool.{lt-leb}
use Rattle.rules.specs.Pgsolver.{is_digit, parity_word, Entry, Header, unsaid, highest}
use Rattle.rules.specs.Reading.{Limits, highest_number, Kind, as_highest, as_identifier, as_priority, as_owner, as_target, TooMuch}
use Rattle.rules.specs.Reading.{Beyond}
use Rattle.basics.specs.Basics.{or_left, or_right, or_cases, or_false_both}
use Rattle.grammar.specs.Machine.{Class, by_class, Machine, Went, on, off, over, reading, targets_read, step_from, begins, to}
use Rattle.grammar.specs.Machine.{Phase, at_start, in_word, past_word, in_highest, past_highest, between_records, in_identifier}
use Rattle.grammar.specs.Machine.{past_identifier, in_priority, past_priority, in_owner, past_owner, in_target, past_target}
use Rattle.grammar.specs.Machine.{past_comma, in_name, past_name}
use Rattle.grammar.specs.Free.{free_from, starts}
use Rattle.grammar.specs.Classes.{OfClass, digit_range}
use Rattle.grammar.specs.Standing.{rest_phase, field_phase, resting, fielding, in_phase, Before, Stands, awaits, awaited}
use Rattle.grammar.specs.Reaches.{stands_same}

-- ---- a state beyond a limit

-- a number of this kind, after n identifiers and m targets, with this value
abbrev pub too_much : Kind → Limits → ℕ → ℕ → ℕ → Bool
too_much as_highest l n m v = ltb highest_number v
too_much as_identifier l n m v = leb l.vertices n || ltb highest_number v
too_much as_priority l n m v = ltb highest_number v
too_much as_owner l n m v = ltb highest_number v
too_much as_target l n m v = leb l.edges m || ltb highest_number v

abbrev pub far_at : Phase → Limits → Machine → Bool
far_at at_start l s = false
far_at (in_word k) l s = false
far_at past_word l s = false
far_at in_highest l s = too_much as_highest l 0 0 s.value
far_at past_highest l s = false
far_at between_records l s = false
far_at in_identifier l s = too_much as_identifier l (length s.entries) 0 s.value
far_at past_identifier l s = false
far_at in_priority l s = too_much as_priority l 0 0 s.value
far_at past_priority l s = false
far_at in_owner l s = too_much as_owner l 0 0 s.value
far_at past_owner l s = false
far_at in_target l s = too_much as_target l 0 (targets_read s) s.value
far_at past_target l s = false
far_at past_comma l s = false
far_at in_name l s = false
far_at past_name l s = false

abbrev pub far : Limits → Machine → Bool
far l s = far_at s.phase l s

-- a step of the machine without limits, stopped there
abbrev pub limited : Limits → Went → Went
limited l (on s) = cond (far l s) over (on s)
limited l off = off
limited l over = off

-- ---- the machine's step is that

-- a step with limits and one without
record Stops (l : Limits) (w w' : Went) : Type 0 where
  same : w ≡ limited l w'

alike : {l : Limits} {w w' : Went} → w ≡ limited l w' → Stops l w w'
alike e = record { same = e }

limited_class :
    {b : ℕ} {c : Class} {s s' d d' m m' e e' q q' w w' o o' : Went} {l : Limits} →
    OfClass b c →
    Stops l s s' →
    (is_digit b ≡ true → Stops l d d') →
    Stops l m m' →
    Stops l e e' →
    Stops l q q' →
    Stops l w w' →
    Stops l o o' →
    by_class c s d m e q w o ≡ limited l (by_class c s' d' m' e' q' w' o')
limited_class (OfClass.separator h) ps pd pm pe pq pw po = ps.same
limited_class (OfClass.digit h) ps pd pm pe pq pw po = (pd h).same
limited_class (OfClass.a_comma h) ps pd pm pe pq pw po = pm.same
limited_class (OfClass.a_semicolon h) ps pd pm pe pq pw po = pe.same
limited_class (OfClass.a_quote h) ps pd pm pe pq pw po = pq.same
limited_class (OfClass.letter n h) ps pd pm pe pq pw po = pw.same
limited_class (OfClass.other n) ps pd pm pe pq pw po = po.same

-- where only a separator or a digit goes on
limited_two :
    {b : ℕ} {c : Class} {s s' d d' : Went} {l : Limits} →
    OfClass b c →
    Stops l s s' →
    (is_digit b ≡ true → Stops l d d') →
    by_class c s d off off off off off ≡ limited l (by_class c s' d' off off off off off)
limited_two v ps pd = limited_class v ps pd (alike refl) (alike refl) (alike refl) (alike refl) (alike refl)

stay : (l : Limits) (s : Machine) → far l s ≡ false → Stops l (on s) (on s)
stay l s h = alike (rw h)

limited_cond : (l : Limits) (t : Bool) (s : Machine) → far l s ≡ false → Stops l (cond t (on s) off) (cond t (on s) off)
limited_cond l true s h = stay l s h
limited_cond l false s h = alike refl

-- one digit is no large number
digit_small : (b : ℕ) → is_digit b ≡ true → ltb highest_number (b - 48) ≡ false
digit_small b h =
    let r = digit_range b h in
    le-ltb highest_number (b - 48) (omega (arith, r.1))

-- where a limit leaves room
room : (n v : ℕ) (t : Bool) (x y : Went) → t ≡ false → cond (ltb n v) x y ≡ cond (leb v n || t) y x
room n v t x y e = go (ltb n v) refl
  where
    go : (p : Bool) → ltb n v ≡ p → cond p x y ≡ cond (leb v n || t) y x
    go true q = rw (lt-leb v n (ltb-true n v q), e)
    go false q = rw (le-leb v n (ltb-false n v q))

-- a number that was begun within a limit stays within it
kept : (a c d : Bool) (x y : Went) → (a || d) ≡ false → cond c x y ≡ cond (a || c) x y
kept a c d x y g =
    let e : a ≡ false = (or_false_both a d g).0 in
    rw e

-- the first digit of an identifier, and of a target
identifier_begins :
    (b : ℕ) (l : Limits) (s : Machine) →
    is_digit b ≡ true →
    Stops l (begins (ltb (length s.entries) l.vertices) in_identifier s b) (starts in_identifier s b)
identifier_begins b l s h = alike (room (length s.entries) l.vertices _ _ _ (digit_small b h))

target_begins :
    (b : ℕ) (l : Limits) (s : Machine) →
    is_digit b ≡ true →
    Stops l (begins (ltb (targets_read s) l.edges) in_target s b) (starts in_target s b)
target_begins b l s h = alike (room (targets_read s) l.edges _ _ _ (digit_small b h))

pub step_limited :
    {b : ℕ} {c : Class} (φ : Phase) (l : Limits) (s : Machine) →
    OfClass b c →
    far l s ≡ false →
    far_at φ l s ≡ false →
    step_from φ l s b c ≡ limited l (free_from φ s b c)
unfolding step_from
step_limited {b} at_start l s v f g =
    limited_class v (stay l s f) (identifier_begins b l s) (alike refl) (alike refl) (alike refl)
    (limited_cond l (eqb b (get_or parity_word 0 0)) (to (in_word 1) s) refl)
    (alike refl)
step_limited {b} (in_word k) l s v f g =
    limited_class v (limited_cond l (eqb k 6) (to past_word s) refl) (λ h. alike refl) (alike refl) (alike refl) (alike refl)
    (limited_cond l (eqb b (get_or parity_word k 0)) (to (in_word (suc k)) s) refl)
    (alike refl)
step_limited {b} past_word l s v f g =
    limited_two v (stay l s f) (λ h. stay l (reading in_highest (b - 48) s) (digit_small b h))
step_limited in_highest l s v f g =
    limited_class v (alike refl) (λ h. alike refl) (alike refl) (alike refl) (alike refl) (alike refl) (alike refl)
step_limited past_highest l s v f g =
    limited_class v (stay l s f) (λ h. alike refl) (alike refl) (alike refl) (alike refl) (alike refl) (alike refl)
step_limited {b} between_records l s v f g = limited_two v (stay l s f) (identifier_begins b l s)
step_limited in_identifier l s v f g =
    limited_two v (alike refl)
    (λ h. alike (kept (leb l.vertices (length s.entries)) _ (ltb highest_number s.value) _ _ g))
step_limited {b} past_identifier l s v f g =
    limited_two v (stay l s f) (λ h. stay l (reading in_priority (b - 48) s) (digit_small b h))
step_limited in_priority l s v f g = limited_two v (alike refl) (λ h. alike refl)
step_limited {b} past_priority l s v f g =
    limited_two v (stay l s f) (λ h. stay l (reading in_owner (b - 48) s) (digit_small b h))
step_limited in_owner l s v f g = limited_two v (alike refl) (λ h. alike refl)
step_limited {b} past_owner l s v f g = limited_two v (stay l s f) (target_begins b l s)
step_limited in_target l s v f g =
    limited_class v (alike refl) (λ h. alike (kept (leb l.edges (targets_read s)) _ (ltb highest_number s.value) _ _ g))
    (alike refl)
    (alike refl)
    (alike refl)
    (alike refl)
    (alike refl)
step_limited past_target l s v f g =
    limited_class v (stay l s f) (λ h. alike refl) (alike refl) (alike refl) (alike refl) (alike refl) (alike refl)
step_limited {b} past_comma l s v f g = limited_two v (stay l s f) (target_begins b l s)
step_limited in_name l s v f g =
    limited_class v (stay l s f) (λ h. stay l s f) (stay l s f) (stay l s f) (alike refl) (stay l s f) (stay l s f)
step_limited past_name l s v f g =
    limited_class v (stay l s f) (λ h. alike refl) (alike refl) (alike refl) (alike refl) (alike refl) (alike refl)

-- ---- and it stops where the rules say

-- the test is the rules' word
value_much : (k : Kind) (l : Limits) (n m v : ℕ) → ltb highest_number v ≡ true → too_much k l n m v ≡ true
value_much as_highest l n m v h = h
value_much as_identifier l n m v h = or_right (leb l.vertices n) (ltb highest_number v) h
value_much as_priority l n m v h = h
value_much as_owner l n m v h = h
value_much as_target l n m v h = or_right (leb l.edges m) (ltb highest_number v) h

much_true : {k : Kind} {l : Limits} {n m v : ℕ} → TooMuch l k n m v → too_much k l n m v ≡ true
much_true {k} {l} {n} {m} {v} (TooMuch.vertex e h) =
    subst (λ (j : Kind). too_much j l n m v ≡ true) (sym e)
    (or_left (leb l.vertices n) (ltb highest_number v) (le-leb l.vertices n h))
much_true {k} {l} {n} {m} {v} (TooMuch.edge e h) =
    subst (λ (j : Kind). too_much j l n m v ≡ true) (sym e)
    (or_left (leb l.edges m) (ltb highest_number v) (le-leb l.edges m h))
much_true {k} {l} {n} {m} {v} (TooMuch.value h) = value_much k l n m v (lt-ltb highest_number v h)

true_much : (k : Kind) (l : Limits) (n m v : ℕ) → too_much k l n m v ≡ true → TooMuch l k n m v
true_much as_highest l n m v h = TooMuch.value (ltb-true highest_number v h)
true_much as_identifier l n m v h =
    ⊎_elim (λ p. TooMuch.vertex refl (leb-true l.vertices n p)) (λ p. TooMuch.value (ltb-true highest_number v p))
    (or_cases (leb l.vertices n) (ltb highest_number v) h)
true_much as_priority l n m v h = TooMuch.value (ltb-true highest_number v h)
true_much as_owner l n m v h = TooMuch.value (ltb-true highest_number v h)
true_much as_target l n m v h =
    ⊎_elim (λ p. TooMuch.edge refl (leb-true l.edges m p)) (λ p. TooMuch.value (ltb-true highest_number v p))
    (or_cases (leb l.edges m) (ltb highest_number v) h)

-- the state in a number has what the rules count
far_within :
    {k : Kind} {n m : ℕ} {s : List ℕ} {x : Machine} (l : Limits) (v : ℕ) →
    Before k n m s x →
    far l (reading (in_phase k) v x) ≡ too_much k l n m v
far_within l v (Before.worded ba gb) = refl
far_within l v (Before.rested rs) = refl
far_within l v (Before.identified rs na gb) = refl
far_within l v (Before.ranked rs na gb nc gd) = refl
far_within l v (Before.fielded rs f) = refl

-- no other state is beyond a limit
near_rest : (l : Limits) (h : Header) (es : List Entry) (x : Machine) → far_at (rest_phase h es) l x ≡ false
near_rest l unsaid [] x = refl
near_rest l unsaid (e ∷ es) x = refl
near_rest l (highest k) es x = refl

near_field : (l : Limits) (ws : List ℕ) (x : Machine) → far_at (field_phase ws) l x ≡ false
near_field l [] x = refl
near_field l (w ∷ ws) x = refl

near_before : {k : Kind} {n m : ℕ} {s : List ℕ} {x : Machine} (l : Limits) → Before k n m s x → far l x ≡ false
near_before l (Before.worded ba gb) = refl
near_before l (Before.rested {h = h} {es} rs) = near_rest l h es (resting h es)
near_before l (Before.identified rs na gb) = refl
near_before l (Before.ranked rs na gb nc gd) = refl
near_before l (Before.fielded {h = h} {es} {e} rs f) = near_field l e.targets (fielding h es e)

-- a state beyond a limit is at bytes beyond it
pub far_beyond : {s : List ℕ} {x : Machine} (l : Limits) → Stands s x → far l x ≡ true → Beyond l s
far_beyond l (Stands.word k ba h) p = absurd (true≢false (sym p))
far_beyond l (Stands.before b) p = absurd (true≢false (sym p ∙ near_before l b))
far_beyond l (Stands.within {k} {n} {m} {v} b d) p =
    Beyond.number (awaits b) d (true_much k l n m v (sym (far_within l v b) ∙ p))
far_beyond l (Stands.headed ba gb nc gd) p = absurd (true≢false (sym p))
far_beyond l (Stands.targeted rs f n g) p = absurd (true≢false (sym p))
far_beyond l (Stands.naming b q) p = absurd (true≢false (sym p))
far_beyond l (Stands.named b q bb) p = absurd (true≢false (sym p))

-- at bytes beyond a limit the machine without limits stands, and beyond it
pub beyond_stands : {s : List ℕ} {l : Limits} → Beyond l s → (x : Machine) × Stands s x × (far l x ≡ true)
beyond_stands {l = l} (Beyond.number {k = k} {v = v} a d t) =
    let b = awaited a in
    (reading (in_phase k) v b.0, Stands.within b.1 d, far_within l v b.1 ∙ much_true t)

pub beyond_far : {s : List ℕ} {l : Limits} {x : Machine} → Beyond l s → Stands s x → far l x ≡ true
beyond_far {l = l} b p =
    let q = beyond_stands b in
    subst (λ (y : Machine). far l y ≡ true) (stands_same q.1 p) q.2
