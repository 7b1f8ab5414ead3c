-- What the machine gives is what the rules say of the text: its verdict, the header and the records. Along the text, as long
-- as no byte is over a limit and some text can follow, the machine with limits stands where the one without them does.
use Rattle.std.specs.Prelude.{Bool, true, false, cond, List, [], ◌∷◌, ◌++◌, ◌≡◌, refl, ℕ, suc, ◌≤◌, ◌<◌, ltb, length, take, drop, get_or}
use Rattle.std.proofs.Common.{true≢false, append-nil, inl, inr, ⊎_elim, sym, ap, subst, ◌∙◌, arith, ltb-true, ltb-false, length-append, take-append-drop, take_at}
use Rattle.std.proofs.Math.Seq.{append_snoc, get_or-append_seam}
use Rattle.std.proofs.lemmas.List.{take-append-le}
use Rattle.rules.specs.Outcome.{Verdict, none, refused}
use Rattle.rules.specs.Pgsolver.{Entry, Header, unsaid, Blank, Opening, Records, Text, Viable}
use Rattle.rules.specs.Reading.{Limits, Stuck, Beyond, Over, Reads}
use Rattle.basics.specs.Basics.{below_suc}
use Rattle.grammar.specs.Machine.{Machine, at_first, Went, on, off, over, Run, live, ended, run_from, may_end, Read, end_of}
use Rattle.grammar.specs.Machine.{reading_of, nothing_read}
use Rattle.grammar.specs.Free.{free_step, follow, Goes, goes_first, goes_same, off_not_on, over_not_on}
use Rattle.grammar.specs.Standing.{Before, Stands}
use Rattle.grammar.specs.Reaches.{reaches, stands_same}
use Rattle.grammar.specs.Sound.{stands_on}
use Rattle.grammar.specs.Viable.{grow, stands_viable, viable_goes, text_ends, ends_text, text_stands}
use Rattle.grammar.specs.Limited.{far, limited, far_beyond, beyond_stands, beyond_far}
use Rattle.grammar.specs.Runs.{run_ended, landed, next_landed}

-- ---- a place in a text

-- bytes, the byte at a place, and bytes behind it
pub length_snoc : (s : List ℕ) (b : ℕ) → length (s ++ (b ∷ [])) ≡ suc (length s)
length_snoc s b = omega (arith, length-append s (b ∷ []))

take_before : {text : List ℕ} (s t : List ℕ) → s ++ t ≡ text → take (length s) text ≡ s
take_before s t e = subst (λ (r : List ℕ). take (length s) r ≡ s) e (take_at s t (length s) refl)

take_with : {text : List ℕ} (s : List ℕ) (b : ℕ) (t : List ℕ) → s ++ (b ∷ t) ≡ text → take (suc (length s)) text ≡ s ++ (b ∷ [])
take_with {text} s b t e =
    subst (λ (k : ℕ). take k text ≡ s ++ (b ∷ [])) (length_snoc s b) (take_before (s ++ (b ∷ [])) t (append_snoc s b t ∙ e))

below_length : {text : List ℕ} (s : List ℕ) (b : ℕ) (t : List ℕ) → s ++ (b ∷ t) ≡ text → length s < length text
below_length {text} s b t e =
    subst (λ (r : List ℕ). length s < length r) e (omega (arith, length-append s (b ∷ t)))

-- a text is stuck at no place of its viable bytes
pub not_stuck : {text : List ℕ} {j : ℕ} (s t : List ℕ) → Stuck text j → s ++ t ≡ text → Viable s → j < length s → ⊥
not_stuck {text} s t (Stuck.byte j h v n) e w p =
    n
    (grow (drop (suc j) s) w
    (sym
    (ap (λ (r : List ℕ). r ++ drop (suc j) s) (ap (take (suc j)) (sym e) ∙ take-append-le (suc j) s t p) ∙
    take-append-drop (suc j) s)))
not_stuck {text} s t (Stuck.end v n) e w p =
    omega (arith, p, length-append s t, ap length e)

-- ---- the step after a state

follow_on : (w : Went) {y : Machine} → follow w on ≡ on y → w ≡ on y
follow_on (on x) r = r
follow_on off r = absurd (off_not_on r)
follow_on over r = absurd (over_not_on r)

-- where the machine goes over one byte more, it goes there by a step
goes_next : {s : List ℕ} {x y : Machine} (b : ℕ) → Stands s x → Goes at_first (s ++ (b ∷ [])) y → free_step x b ≡ on y
goes_next {s} {x} {y} b p g =
    let q = goes_first s (b ∷ []) g in
    follow_on (free_step x b) (subst (λ (z : Machine). Goes z (b ∷ []) y) (goes_same q.1 (reaches p)) q.2).run

-- ---- along the text

-- the text as far as it was read, none of it over a limit
pub record Along (l : Limits) (text s t : List ℕ) (x : Machine) : Type 0 where
  pub split : s ++ t ≡ text
  pub stands : Stands s x
  pub near : far l x ≡ false
  pub quiet : (j : ℕ) → j < length s → Over l text j → ⊥

abbrev ReadsAs : Limits → List ℕ → Read → Type 0
ReadsAs l text r = Reads l text r.verdict r.header r.entries

-- at the end of the text
at_end : (l : Limits) (text s : List ℕ) (x : Machine) → Along l text s [] x → ReadsAs l text (end_of (length text) (live x))
unfolding end_of
at_end l text s x a = go (may_end x.phase x.entries) refl
  where
    same : s ≡ text
    same = sym (append-nil s) ∙ a.split

    stood : Stands text x
    stood = subst (λ (r : List ℕ). Stands r x) same a.stands

    calm : (j : ℕ) → Over l text j → ⊥
    calm j o = a.quiet j (subst (λ (r : List ℕ). j < length r) (sym same) o.there) o

    no_text : may_end x.phase x.entries ≡ false → (h : Header) (es : List Entry) → Text text h es → ⊥
    no_text f h es t =
        true≢false
        (sym (text_ends t) ∙
        ap (λ (y : Machine). may_end y.phase y.entries) (stands_same (text_stands t) stood) ∙
        f)

    go :
        (p : Bool) →
        may_end x.phase x.entries ≡ p →
        ReadsAs l text
        (cond p (record { verdict = none; header = x.header; entries = x.entries }) (nothing_read (refused 30 (length text))))
    go true e = Reads.whole (ends_text stood e) calm
    go false e = Reads.stuck (Stuck.end (stands_viable stood) (no_text e)) (λ j h o. calm j o)

-- a run that ended reads so
ended_as :
    {l : Limits} {text : List ℕ} (k : ℕ) (v : Verdict) (t : List ℕ) →
    ReadsAs l text (nothing_read v) →
    ReadsAs l text (end_of (length text) (run_from l k (ended v) t))
unfolding end_of
ended_as {l} {text} k v t p =
    subst (λ (r : Run). ReadsAs l text (end_of (length text) r)) (sym (run_ended l k v t)) p

-- at a byte beyond the limit on bytes
over_bytes :
    {l : Limits} {text s : List ℕ} {x : Machine} (b : ℕ) (t : List ℕ) →
    Along l text s (b ∷ t) x →
    l.bytes ≤ length s →
    Reads l text (refused 32 (length s)) unsaid []
over_bytes {s = s} b t a h =
    Reads.beyond (record { there = below_length s b t a.split; limit = inl h }) a.quiet
    (λ j p u. not_stuck s (b ∷ t) u a.split (stands_viable a.stands) p)

-- at a byte that takes a number beyond a limit
over_number :
    {l : Limits} {text s : List ℕ} {x y : Machine} (b : ℕ) (t : List ℕ) →
    Along l text s (b ∷ t) x →
    Stands (s ++ (b ∷ [])) y →
    far l y ≡ true →
    Reads l text (refused 32 (length s)) unsaid []
over_number {l} {s = s} b t a p f =
    Reads.beyond
    (record {
      there = below_length s b t a.split;
      limit = inr (subst (Beyond l) (sym (take_with s b t a.split)) (far_beyond l p f));
    })
    a.quiet
    (λ j p u. not_stuck s (b ∷ t) u a.split (stands_viable a.stands) p)

-- a byte within the limit on bytes that is in no number beyond a limit
calm_byte :
    {l : Limits} {text s : List ℕ} {x : Machine} (b : ℕ) (t : List ℕ) →
    Along l text s (b ∷ t) x →
    length s < l.bytes →
    (Beyond l (s ++ (b ∷ [])) → ⊥) →
    (j : ℕ) →
    j < suc (length s) →
    Over l text j →
    ⊥
calm_byte {l} {text} {s} b t a h n j p o = ⊎_elim here (λ q. a.quiet j q o) (below_suc p)
  where
    here : j ≡ length s → ⊥
    here e =
        ⊎_elim (λ (q : l.bytes ≤ j). omega (arith, q, h, e))
        (λ (q : Beyond l (take (suc j) text)).
        n (subst (Beyond l) (ap (λ (i : ℕ). take (suc i) text) e ∙ take_with s b t a.split) q))
        o.limit

-- at a byte after which no text of the grammar can follow
off_byte :
    {l : Limits} {text s : List ℕ} {x : Machine} (b : ℕ) (t : List ℕ) →
    Along l text s (b ∷ t) x →
    length s < l.bytes →
    ((y : Machine) → free_step x b ≡ on y → ⊥) →
    Reads l text (refused 30 (length s)) unsaid []
off_byte {l} {text} {s} b t a h n =
    Reads.stuck
    (Stuck.byte (length s) (below_length s b t a.split)
    (subst Viable (sym (take_before s (b ∷ t) a.split)) (stands_viable a.stands))
    (λ v.
    let g = viable_goes (subst Viable (take_with s b t a.split) v) in
    n g.0 (goes_next b a.stands g.1)))
    (λ j p o. calm_byte b t a h beyond j (omega (arith, p)) o)
  where
    beyond : Beyond l (s ++ (b ∷ [])) → ⊥
    beyond q =
        let g = beyond_stands q in
        n g.0 (goes_next b a.stands (reaches g.1))

-- one byte further
along_on :
    {l : Limits} {text s : List ℕ} {x y : Machine} (b : ℕ) (t : List ℕ) →
    Along l text s (b ∷ t) x →
    length s < l.bytes →
    Stands (s ++ (b ∷ [])) y →
    far l y ≡ false →
    Along l text (s ++ (b ∷ [])) t y
along_on {s = s} b t a h p f =
    record {
      split = append_snoc s b t ∙ a.split;
      stands = p;
      near = f;
      quiet =
          λ j q o.
          calm_byte b t a h (λ c. true≢false (sym (beyond_far c p) ∙ f)) j (subst (λ (k : ℕ). j < k) (length_snoc s b) q) o;
    }

reads_along :
    (l : Limits) (text s t : List ℕ) (x : Machine) →
    ((k : ℕ) → get_or text k 0 < 256) →
    Along l text s t x →
    ReadsAs l text (end_of (length text) (run_from l (length s) (live x) t))
unfolding run_from end_of
reads_along l text s [] x small a = at_end l text s x a
reads_along l text s (b ∷ t) x small a =
    subst (λ (r : Run). ReadsAs l text (end_of (length text) (run_from l (suc (length s)) r t)))
    (sym (next_landed l (length s) x b a.near))
    (go (λ y c. reads_along l text (s ++ (b ∷ [])) t y small c) (ltb (length s) l.bytes) refl (free_step x b) refl)
  where
    Onward : Type 0
    Onward =
        (y : Machine) →
        Along l text (s ++ (b ∷ [])) t y →
        ReadsAs l text (end_of (length text) (run_from l (length (s ++ (b ∷ []))) (live y) t))

    byte : b < 256
    byte =
        subst (λ (c : ℕ). c < 256) (ap (λ (r : List ℕ). get_or r (length s) 0) (sym a.split) ∙ get_or-append_seam s b t 0)
        (small (length s))

    onward :
        Onward →
        (y : Machine) →
        length s < l.bytes →
        Stands (s ++ (b ∷ [])) y →
        (p : Bool) →
        far l y ≡ p →
        ReadsAs l text (end_of (length text) (run_from l (suc (length s)) (landed (length s) (cond p over (on y))) t))
    onward ih y h q true f = ended_as (suc (length s)) (refused 32 (length s)) t (over_number b t a q f)
    onward ih y h q false f =
        subst (λ (k : ℕ). ReadsAs l text (end_of (length text) (run_from l k (live y) t))) (length_snoc s b)
        (ih y (along_on b t a h q f))

    go :
        Onward →
        (p : Bool) →
        ltb (length s) l.bytes ≡ p →
        (w : Went) →
        free_step x b ≡ w →
        ReadsAs l text
        (end_of (length text) (run_from l (suc (length s)) (landed (length s) (cond p (limited l w) over)) t))
    go ih false e w f = ended_as (suc (length s)) (refused 32 (length s)) t (over_bytes b t a (ltb-false (length s) l.bytes e))
    go ih true e (on y) f = onward ih y (ltb-true (length s) l.bytes e) (stands_on b byte a.stands f) (far l y) refl
    go ih true e off f =
        ended_as (suc (length s)) (refused 30 (length s)) t
        (off_byte b t a (ltb-true (length s) l.bytes e) (λ y g. off_not_on (sym f ∙ g)))
    go ih true e over f =
        ended_as (suc (length s)) (refused 30 (length s)) t
        (off_byte b t a (ltb-true (length s) l.bytes e) (λ y g. over_not_on (sym f ∙ g)))

-- what the machine gives is what the rules say
pub machine_reads :
    (l : Limits) (text : List ℕ) →
    ((k : ℕ) → get_or text k 0 < 256) →
    Reads l text (reading_of l text).verdict (reading_of l text).header (reading_of l text).entries
machine_reads l text small =
    reads_along l text [] text at_first small
    (record {
      split = refl;
      stands = Stands.before (Before.rested (Records.opened (Opening.plain Blank.empty)));
      near = refl;
      quiet = λ j p o. omega (arith, p);
    })
