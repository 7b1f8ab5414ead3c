-- What waits in the tables, with one target more and with one record more.
use Rattle.std.specs.Prelude.{cond, List, [], ◌∷◌, ◌++◌, ◌≡◌, refl, ℕ, suc, ◌+◌, ◌%◌, min, ◌≤◌, ◌<◌, ltb, eqb, length, get_or, take, set}
use Rattle.std.proofs.Common.{append_assoc, append-nil, ⊎_elim, sym, ap, subst, ◌∙◌, arith, eqb-true, ltb-true, ltb-false, lt-ltb, le-ltb, length-append, length-set, take-suc-set, get_or-set_same, get_or-set_other}
use Rattle.std.proofs.lemmas.Bool.{eqb-false}
use Rattle.std.proofs.Math.ListN.{get_or-append}
use Rattle.std.proofs.Math.Seq.{get_or-append_seam}
use Rattle.rules.specs.Counting.{times}
use Rattle.rules.specs.Pgsolver.{Entry}
use Rattle.rules.specs.Reading.{targets_in}
use Rattle.grammar.specs.Machine.{no_entry_yet}
use Rattle.grammar.specs.Waiting.{identifiers, in_text, seen, begin, KeptAt, FreshAt, Waits}
use Rattle.basics.specs.Basics.{below_suc, bool_cases}
use Rattle.pgsolver_step.specs.Follows.{targets_more}
use Rattle.pgsolver_step.specs.Kept.{text_more, times_here, times_there, entry_here, entry_there, beginning_here}
use Rattle.pgsolver_step.specs.Kept.{beginning_there}

-- ---- one target more

pub waits_aimed :
    (es : List Entry) (more o p f t : List ℕ) (v : ℕ) →
    Waits es more o p f t →
    targets_in es + length more < length t →
    targets_in es + length more < 16384 →
    Waits es (more ++ (v ∷ [])) o p f (set t (targets_in es + length more) v)
waits_aimed es more o p f t v w room few =
    let one = length-append more (v ∷ []) in
    let longer : targets_in es + length (more ++ (v ∷ [])) ≡ suc (targets_in es + length more) = omega arith in
    record {
      as_many = w.as_many;
      one_more = w.one_more;
      few_records = w.few_records;
      room = omega (arith, length-set t (targets_in es + length more) v);
      few_targets = omega arith;
      each = w.each;
      in_order =
          ap (λ (n : ℕ). take n (set t (targets_in es + length more) v)) longer ∙
          take-suc-set t (targets_in es + length more) v room ∙
          ap (λ (ts : List ℕ). ts ++ (v ∷ [])) w.in_order ∙
          append_assoc (in_text es) more (v ∷ []);
      behind =
          λ k past.
          get_or-set_other t (targets_in es + length more) k v 0 (λ e. omega arith) ∙ w.behind k (omega arith);
      often = w.often;
      kept = w.kept;
      fresh = w.fresh;
      last = w.last;
    }

-- ---- one record more

-- the word of an identifier that was seen once more
abbrev pub word_next : ℕ → ℕ → ℕ
word_next old begins = cond (ltb old 16384) (begins % 16384 + 16384) 32768

word_first : (old begins : ℕ) → old < 16384 → begins < 16384 → word_next old begins ≡ begins + 16384
word_first old begins new low = rw (lt-ltb old 16384 new) (omega arith)

word_again : (old begins : ℕ) → 16384 ≤ old → word_next old begins ≡ 32768
word_again old begins again = rw (le-ltb old 16384 again)

-- each whole record has a target, with one more that has
each_more :
    (es : List Entry) (e : Entry) →
    ((k : ℕ) → k < length es → 0 < length (get_or es k no_entry_yet).targets) →
    0 < length e.targets →
    (k : ℕ) →
    k < length (es ++ (e ∷ [])) →
    0 < length (get_or (es ++ (e ∷ [])) k no_entry_yet).targets
each_more es e each some k below =
    ⊎_elim
    (λ (same : k ≡ length es).
    let here : get_or (es ++ (e ∷ [])) k no_entry_yet ≡ e =
    ap (λ (n : ℕ). get_or (es ++ (e ∷ [])) n no_entry_yet) same ∙ get_or-append_seam es e [] no_entry_yet in
    subst (λ (g : Entry). 0 < length g.targets) (sym here) some)
    (λ (less : k < length es).
    subst (λ (g : Entry). 0 < length g.targets) (sym (get_or-append es (e ∷ []) no_entry_yet k less)) (each k less))
    (below_suc (omega (arith, length-append es (e ∷ []))))

module _ (es : List Entry) (e : Entry) (o p f t : List ℕ) (w : Waits es e.targets o p f t)
    (some : 0 < length e.targets) (few : length es < length o) where
  -- tables of the same lengths that hold what one record more asks for
  waits_closed :
      (o' p' f' : List ℕ) →
      length o' ≡ length o →
      length p' ≡ length p →
      length f' ≡ length f →
      ((i : ℕ) → i < length o → seen (get_or f' i 0) ≡ min 2 (times i (identifiers (es ++ (e ∷ []))))) →
      ((i : ℕ) → i < length o → times i (identifiers (es ++ (e ∷ []))) ≡ 1 → KeptAt (es ++ (e ∷ [])) o' p' f' i) →
      ((i : ℕ) → i < length o → times i (identifiers (es ++ (e ∷ []))) ≡ 0 → FreshAt o' p' f' i) →
      get_or f' (length o) 0 ≡ 0 →
      Waits (es ++ (e ∷ [])) [] o' p' f' t
  waits_closed o' p' f' lo lp lf often kept fresh last =
      let one = length-append es (e ∷ []) in
      let all : targets_in (es ++ (e ∷ [])) + 0 ≡ targets_in es + length e.targets = omega (arith, targets_more es e) in
      record {
        as_many = lp ∙ w.as_many ∙ sym lo;
        one_more = omega (arith, w.one_more);
        few_records = omega arith;
        room = omega (arith, w.room);
        few_targets = omega (arith, w.few_targets);
        each = each_more es e w.each some;
        in_order =
            ap (λ (n : ℕ). take n t) all ∙ w.in_order ∙ sym (text_more es e) ∙ sym (append-nil (in_text (es ++ (e ∷ []))));
        behind = λ k past. w.behind k (omega arith);
        often = λ i below. often i (omega arith);
        kept = λ i below. kept i (omega arith);
        fresh = λ i below. fresh i (omega arith);
        last = ap (λ (n : ℕ). get_or f' n 0) lo ∙ last;
      }

  -- another identifier keeps what it has, where the tables do
  module _ (i : ℕ) (below : i < length o) (other : i ≡ e.identifier → ⊥) where
    often_there : seen (get_or f i 0) ≡ min 2 (times i (identifiers (es ++ (e ∷ []))))
    often_there = w.often i below ∙ ap (λ (n : ℕ). min 2 n) (sym (times_there i es e other))

    kept_there : times i (identifiers (es ++ (e ∷ []))) ≡ 1 → KeptAt (es ++ (e ∷ [])) o p f i
    kept_there once =
        let one : times i (identifiers es) ≡ 1 = sym (times_there i es e other) ∙ once in
        let k = w.kept i below one in
        let same = entry_there i es e other in
        record {
          owner = k.owner ∙ ap (λ (g : Entry). min 255 g.owner) (sym same);
          priority = k.priority ∙ ap (λ (g : Entry). g.priority) (sym same);
          begins = k.begins ∙ sym (beginning_there i es e (omega arith));
        }

    fresh_there : times i (identifiers (es ++ (e ∷ []))) ≡ 0 → FreshAt o p f i
    fresh_there none = w.fresh i below (sym (times_there i es e other) ∙ none)

  -- An identifier beyond the room is passed over.
  pub waits_passed : length o ≤ e.identifier → Waits (es ++ (e ∷ [])) [] o p f t
  waits_passed beyond =
      waits_closed o p f refl refl refl (λ i below. often_there i below (λ same. omega arith))
      (λ i below. kept_there i below (λ same. omega arith))
      (λ i below. fresh_there i below (λ same. omega arith))
      w.last

-- how often an identifier was seen, once more
seen_next :
    (old begins n : ℕ) → begins < 16384 → seen old ≡ min 2 n → seen (word_next old begins) ≡ min 2 (n + 1)
seen_next old begins n low so_far =
    ⊎_elim
    (λ first.
    let new = ltb-true old 16384 first in
    ap seen (word_first old begins new low) ∙
    (let zero : seen old ≡ 0 = omega arith in
    let one : seen (begins + 16384) ≡ 1 = omega arith in
    omega arith))
    (λ again.
    let old-one = ltb-false old 16384 again in
    ap seen (word_again old begins old-one) ∙
    (let some : 1 ≤ seen old = omega arith in
    let two : seen 32768 ≡ 2 = omega arith in
    omega arith))
    (bool_cases (ltb old 16384))

module _ (es : List Entry) (e : Entry) (o p f t : List ℕ) (w : Waits es e.targets o p f t)
    (some : 0 < length e.targets) (few : length es < length o) (inside : e.identifier < length o) where
  abbrev owners' : List ℕ
  owners' = set o e.identifier (min 255 e.owner)

  abbrev priorities' : List ℕ
  priorities' = set p e.identifier e.priority

  abbrev offsets' : List ℕ
  offsets' = set f e.identifier (word_next (get_or f e.identifier 0) (targets_in es))

  begins_low : targets_in es < 16384
  begins_low = omega (arith, w.few_targets)

  word_here : get_or offsets' e.identifier 0 ≡ word_next (get_or f e.identifier 0) (targets_in es)
  word_here =
      get_or-set_same f e.identifier (word_next (get_or f e.identifier 0) (targets_in es)) 0 (omega (arith, w.one_more))

  often_here : seen (get_or offsets' e.identifier 0) ≡ min 2 (times e.identifier (identifiers (es ++ (e ∷ []))))
  often_here =
      ap seen word_here ∙
      seen_next (get_or f e.identifier 0) (targets_in es) (times e.identifier (identifiers es)) begins_low
      (w.often e.identifier inside) ∙
      ap (λ (n : ℕ). min 2 n) (sym (times_here e.identifier es e refl))

  kept_here :
      times e.identifier (identifiers (es ++ (e ∷ []))) ≡ 1 →
      KeptAt (es ++ (e ∷ [])) owners' priorities' offsets' e.identifier
  kept_here once =
      let none : times e.identifier (identifiers es) ≡ 0 = omega (arith, times_here e.identifier es e refl) in
      let old : get_or f e.identifier 0 ≡ 0 = (w.fresh e.identifier inside none).offset in
      let same = entry_here e.identifier es e refl none in
      let word : get_or offsets' e.identifier 0 ≡ targets_in es + 16384 =
      word_here ∙ word_first (get_or f e.identifier 0) (targets_in es) (omega arith) begins_low in
      record {
        owner =
            get_or-set_same o e.identifier (min 255 e.owner) 0 inside ∙ ap (λ (g : Entry). min 255 g.owner) (sym same);
        priority =
            get_or-set_same p e.identifier e.priority 0 (omega (arith, w.as_many)) ∙
            ap (λ (g : Entry). g.priority) (sym same);
        begins =
            ap begin word ∙
            (let low = begins_low in
            let here : (targets_in es + 16384) % 16384 ≡ targets_in es = omega arith in
            here ∙ sym (beginning_here e.identifier es e refl none));
      }

  module _ (i : ℕ) (other : i ≡ e.identifier → ⊥) where
    owner_there : get_or owners' i 0 ≡ get_or o i 0
    owner_there = get_or-set_other o e.identifier i (min 255 e.owner) 0 other

    priority_there : get_or priorities' i 0 ≡ get_or p i 0
    priority_there = get_or-set_other p e.identifier i e.priority 0 other

    offset_there : get_or offsets' i 0 ≡ get_or f i 0
    offset_there = get_or-set_other f e.identifier i (word_next (get_or f e.identifier 0) (targets_in es)) 0 other

  -- what holds at the record's identifier and at each other holds at each
  at_each :
      (P : ℕ → Type 0) →
      P e.identifier →
      ((i : ℕ) → i < length o → (i ≡ e.identifier → ⊥) → P i) →
      (i : ℕ) →
      i < length o →
      P i
  at_each P here there i below =
      ⊎_elim (λ same. subst P (sym (eqb-true i e.identifier same)) here)
      (λ differs. there i below (eqb-false i e.identifier differs))
      (bool_cases (eqb i e.identifier))

  -- An identifier within the room is kept.
  pub waits_kept : Waits (es ++ (e ∷ [])) [] owners' priorities' offsets' t
  waits_kept =
      waits_closed es e o p f t w some few owners' priorities' offsets'
      (length-set o e.identifier (min 255 e.owner))
      (length-set p e.identifier e.priority)
      (length-set f e.identifier (word_next (get_or f e.identifier 0) (targets_in es)))
      (at_each (λ (i : ℕ). seen (get_or offsets' i 0) ≡ min 2 (times i (identifiers (es ++ (e ∷ []))))) often_here
      (λ i below other. ap seen (offset_there i other) ∙ often_there es e o p f t w some few i below other))
      (at_each
      (λ (i : ℕ). times i (identifiers (es ++ (e ∷ []))) ≡ 1 → KeptAt (es ++ (e ∷ [])) owners' priorities' offsets' i)
      kept_here
      (λ i below other once.
      let k = kept_there es e o p f t w some few i below other once in
      record {
        owner = owner_there i other ∙ k.owner;
        priority = priority_there i other ∙ k.priority;
        begins = ap begin (offset_there i other) ∙ k.begins;
      }))
      (at_each (λ (i : ℕ). times i (identifiers (es ++ (e ∷ []))) ≡ 0 → FreshAt owners' priorities' offsets' i)
      (λ none. absurd (omega (arith, times_here e.identifier es e refl)))
      (λ i below other none.
      let k = fresh_there es e o p f t w some few i below other none in
      record {
        owner = owner_there i other ∙ k.owner;
        priority = priority_there i other ∙ k.priority;
        offset = offset_there i other ∙ k.offset;
      }))
      (offset_there (length o) (λ same. omega arith) ∙ w.last)
