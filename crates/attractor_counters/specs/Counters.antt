-- The counters: of a vertex that was not met yet, how many of its edges end inside V, parallel edges counted; of one that was,
-- its word in the table. One is taken off at a time.
use Rattle.std.specs.Prelude.{Bool, true, false, cond, List, [], ◌∷◌, ◌++◌, ◌⊎◌, ◌≡◌, ℕ, suc, ◌+◌, ◌-◌, ◌*◌, ◌≤◌, ◌<◌, eqb, ltb, length, get_or, take, drop, set}
use Rattle.std.proofs.Common.{inl, inr, ⊎_elim, sym, ap₂, subst, ◌∙◌, arith, eq-eqb, ne_eqb, lt-ltb, le-ltb, length-set, length-drop, take-suc, get_or-drop, get_or-set_same, get_or-set_other}
use Rattle.std.proofs.Math.Path.{ap, fun_ext}
use Rattle.std.proofs.Math.Decide.{ℕ_discrete}
use Rattle.std.proofs.Math.Nat.{sub_self}
use Rattle.rules.specs.Counting.{Set}
use Rattle.rules.specs.Tables.{words, degree, targets_of}
use Rattle.rules.specs.Words.{set_of}
use Rattle.basics.specs.Basics.{lt_or_ge}
use Rattle.basics.specs.Sums.{count_of}
use Rattle.basics.specs.Frame.{Beside, Unchanged}
use Rattle.predecessors.specs.Table.{SoundEdges}
use Rattle.sets.specs.After.{Put}
use Rattle.area.specs.EdgesOf.{EdgesOf, edges_of}
use Rattle.area.specs.Area.{counters, distances, met_at, free, set_at}
use Rattle.area.specs.Lent.{back, part_is, part_set, part_length, bit_fits}
use Rattle.area.specs.Lent.{inserted_long, inserted_rest, inserted_set, inserted_other}
use Rattle.area.specs.SetsAt.{set_kept}
use Rattle.attractor_drawing.specs.Drawn.{Plan, inside}
use Rattle.attractor_counters.specs.Tally.{flag}

-- the vertices of player alpha
abbrev pub own_by : List ℕ → ℕ → Set
own_by owners alpha v = eqb (get_or owners v 0) alpha

abbrev pub own_of : Plan → Set
own_of d = own_by d.owners d.alpha

-- ---- one vertex

tally_snoc : (xs : List ℕ) (S : Set) (x : ℕ) → count_of (xs ++ (x ∷ [])) S ≡ count_of xs S + flag (S x)
unfolding count_of
tally_snoc [] S x = omega arith
tally_snoc (y ∷ xs) S x = let rest = tally_snoc xs S x in omega arith

-- the edges of v before edge e that end inside
abbrev pub inside_up_to : List ℕ → List ℕ → ℕ → Set → ℕ → ℕ
inside_up_to offsets targets v S e = count_of (take (e - get_or offsets v 0) (drop (get_or offsets v 0) targets)) S

module _ (offsets targets : List ℕ) (v : ℕ) (set : List ℕ) (given : EdgesOf offsets targets v set) where
  abbrev first : ℕ
  first = get_or offsets v 0

  pub inside_none : 0 ≡ inside_up_to offsets targets v (set_of set) first
  unfolding count_of
  inside_none = rw (sub_self first)

  pub inside_more :
      (e : ℕ) → first ≤ e → e < get_or offsets (v + 1) 0 →
      inside_up_to offsets targets v (set_of set) (e + 1) ≡
      inside_up_to offsets targets v (set_of set) e + flag (set_of set (get_or targets e 0))
  inside_more e low high =
      let next : e + 1 - first ≡ suc (e - first) = omega arith in
      let at : first + (e - first) ≡ e = omega arith in
      let fits : e - first < length (drop first targets) = omega (arith, length-drop first targets, given.top) in
      ap (λ (k : ℕ). count_of (take k (drop first targets)) (set_of set)) next ∙
      ap (λ (xs : List ℕ). count_of xs (set_of set)) (take-suc (drop first targets) (e - first) 0 fits) ∙
      tally_snoc (take (e - first) (drop first targets)) (set_of set) (get_or (drop first targets) (e - first) 0) ∙
      ap
      (λ (x : ℕ). inside_up_to offsets targets v (set_of set) e + flag (set_of set x))
      (get_or-drop first targets (e - first) 0 ∙ ap (λ (k : ℕ). get_or targets k 0) at)

  pub inside_all :
      (e : ℕ) → e ≡ get_or offsets (v + 1) 0 →
      inside_up_to offsets targets v (set_of set) e ≡ count_of (targets_of offsets targets v) (set_of set)
  unfolding targets_of degree
  inside_all e done = ap (λ (k : ℕ). count_of (take (k - first) (drop first targets)) (set_of set)) done

-- ---- counters

-- a counter at first: how many edges end inside V
abbrev pub inside_count : List ℕ → List ℕ → Set → ℕ → ℕ
inside_count offsets targets S v = count_of (targets_of offsets targets v) S

-- those of a drawing, where V is as in a work area
abbrev pub counts_in : Plan → List ℕ → ℕ → ℕ
counts_in d work = inside_count d.offsets d.targets (inside d work)

-- the counter of v: its word where v was met, and else what it is at first; 0 past n
unfoldable pub counter_at : (ℕ → ℕ) → ℕ → ℕ → List ℕ → ℕ → ℕ
counter_at first n m work v = cond (ltb v n) (cond (set_at n (met_at n m) work v) (get_or work (counters n m + v) 0) (first v)) 0

module _ (first : ℕ → ℕ) (n m : ℕ) (work : List ℕ) (v : ℕ) (small : v < n) where
  pub counter_met : set_at n (met_at n m) work v ≡ true → counter_at first n m work v ≡ get_or work (counters n m + v) 0
  unfolding counter_at
  counter_met p = rw (lt-ltb v n small, p)

  pub counter_new : set_at n (met_at n m) work v ≡ false → counter_at first n m work v ≡ first v
  unfolding counter_at
  counter_new p = rw (lt-ltb v n small, p)

-- in a work area with the same words and the same vertices met
pub counter_alike :
    (first : ℕ → ℕ) (n m : ℕ) (work work' : List ℕ) →
    set_at n (met_at n m) work' ≡ set_at n (met_at n m) work →
    ((v : ℕ) → v < n → get_or work' (counters n m + v) 0 ≡ get_or work (counters n m + v) 0) →
    counter_at first n m work' ≡ counter_at first n m work
unfolding counter_at
counter_alike first n m work work' met same =
    fun_ext
    (λ v.
    ⊎_elim
    (λ l. rw (lt-ltb v n l) (ap₂ (λ (S : Set) (x : ℕ). cond (S v) x (first v)) met (same v l)))
    (λ l. rw (le-ltb v n l))
    (lt_or_ge v n))

-- v is met, and its word is x
counter_put :
    (first : ℕ → ℕ) (n m : ℕ) (work work' : List ℕ) (v x : ℕ) →
    v < n →
    ((u : ℕ) → set_at n (met_at n m) work' u ≡ cond (eqb u v) true (set_at n (met_at n m) work u)) →
    get_or work' (counters n m + v) 0 ≡ x →
    ((u : ℕ) → u < n → (u ≡ v → ⊥) → get_or work' (counters n m + u) 0 ≡ get_or work (counters n m + u) 0) →
    (u : ℕ) →
    counter_at first n m work' u ≡ cond (eqb u v) x (counter_at first n m work u)
unfolding counter_at
counter_put first n m work work' v x small met here there u = go (ℕ_discrete u v)
  where
    go : Dec (u ≡ v) → counter_at first n m work' u ≡ cond (eqb u v) x (counter_at first n m work u)
    go (yes e) =
        counter_met first n m work' u (omega arith) (met u ∙ rw (eq-eqb u v e)) ∙
        ap (λ (i : ℕ). get_or work' (counters n m + i) 0) e ∙
        here ∙
        sym (rw (eq-eqb u v e))
    go (no d) =
        let same : set_at n (met_at n m) work' u ≡ set_at n (met_at n m) work u = met u ∙ rw (ne_eqb u v d) in
        rw (ne_eqb u v d)
        (⊎_elim
        (λ l. rw (lt-ltb u n l) (ap₂ (λ (b : Bool) (y : ℕ). cond b y (first u)) same (there u l d)))
        (λ l. rw (le-ltb u n l))
        (lt_or_ge u n))

-- ---- one is taken off

-- what `count_down` asks for
pub record CountsDown (offsets targets : List ℕ) (n s within : ℕ) (work : List ℕ) (v : ℕ) : Type 0 where
  pub size : s ≡ words n
  pub edges : SoundEdges n offsets targets
  pub low : free n (length targets) ≤ within
  pub high : within + words n ≤ length work
  pub small : v < n
  pub some : 0 < counter_at (inside_count offsets targets (set_at n within work)) n (length targets) work v

-- what it leaves: the counter of v is one less, and no word changes but the counters and the set of those met
pub record CountedDown (first : ℕ → ℕ) (n m v : ℕ) (before after : List ℕ) (left : ℕ) : Type 0 where
  pub long : length after ≡ length before
  pub rest : (i : ℕ) → (i < counters n m) ⊎ ((distances n m ≤ i) × Beside (words n) (met_at n m) i) →
      get_or after i 0 ≡ get_or before i 0
  pub less : left ≡ counter_at first n m before v - 1
  pub counter :
      (u : ℕ) → counter_at first n m after u ≡ cond (eqb u v) (counter_at first n m before v - 1) (counter_at first n m before u)

module _ {offsets targets : List ℕ} {n s within : ℕ} {work : List ℕ} {v : ℕ} (given : CountsDown offsets targets n s within work v)
    {met base : ℕ} (place : met ≡ met_at n (length targets)) (here : base ≡ counters n (length targets))
  where
    abbrev m : ℕ
    m = length targets

    abbrev counts : ℕ → ℕ
    counts = inside_count offsets targets (set_at n within work)

    abbrev at : ℕ
    at = counters n m + v

    met_fits : met + words n ≤ length work
    met_fits = omega (arith, place, given.low, given.high)

    pub met_bit : v < 64 * length (take ((met + s) - met) (drop met work))
    met_bit = bit_fits n s met v work given.size met_fits given.small

    pub met_asked : set_of (take ((met + s) - met) (drop met work)) v ≡ set_at n (met_at n (length targets)) work v
    met_asked =
        ap (λ (S : Set). S v) (part_set n s met work given.size) ∙ ap (λ (p : ℕ). set_at n p work v) place

    -- v was met before
    module _ (before : set_at n (met_at n m) work v ≡ true) where
      pub met_some : 0 < get_or work (base + v) 0
      met_some = rw here (omega (arith, given.some, counter_met counts n m work v given.small before))

      pub met_down :
          CountedDown (inside_count offsets targets (set_at n within work)) n (length targets) v work
          (set work (base + v) (get_or work (base + v) 0 - 1))
          (get_or work (base + v) 0 - 1)
      met_down =
          rw here
          (record {
            long = length-set work at x;
            rest = λ i o. get_or-set_other work at i x 0 (λ e. ⊎_elim (λ l. omega arith) (λ l. let h = l.0 in omega arith) o);
            less = is;
            counter =
                counter_put counts n m work (set work at x) v (counter_at counts n m work v - 1) given.small same_met
                (get_or-set_same work at x 0 (omega (arith, given.low, given.high, given.small)) ∙ is)
                (λ u l d. get_or-set_other work at (counters n m + u) x 0 (λ e. d (omega arith)));
          })
        where
          x : ℕ
          x = get_or work at 0 - 1

          is : x ≡ counter_at counts n m work v - 1
          is = ap (λ (k : ℕ). k - 1) (sym (counter_met counts n m work v given.small before))

          same_met : (u : ℕ) → set_at n (met_at n m) (set work at x) u ≡ cond (eqb u v) true (set_at n (met_at n m) work u)
          same_met u =
              set_kept n (met_at n m) work (set work at x)
              (λ i low high. get_or-set_other work at i x 0 (λ e. omega (arith, given.small))) u ∙
              go (ℕ_discrete u v)
            where
              go : Dec (u ≡ v) → set_at n (met_at n m) work u ≡ cond (eqb u v) true (set_at n (met_at n m) work u)
              go (yes e) = ap (set_at n (met_at n m) work) e ∙ before ∙ sym (rw (eq-eqb u v e))
              go (no d) = sym (rw (ne_eqb u v d))

    -- v is met now: it comes into the set, and its counter is made
    module _ (before : set_at n (met_at n m) work v ≡ false) (ys : List ℕ)
        (new : Put v 1 (take ((met + s) - met) (drop met work)) ys) where
      abbrev mid : List ℕ
      mid = back met s work ys

      pub mid_long : length mid ≡ length work
      mid_long = inserted_long n s met v work ys given.size met_fits new

      inside_same : set_at n within mid ≡ set_at n within work
      inside_same =
          inserted_other n s met v work ys given.size met_fits new within (inr (omega (arith, place, given.low)))

      pub inside_ready : EdgesOf offsets targets v (take ((within + s) - within) (drop within mid))
      inside_ready =
          edges_of given.edges given.small
          (ap length (part_is within s mid) ∙
          part_length within s mid (omega (arith, mid_long, given.high, given.size)) ∙
          given.size)

      module _ (k : ℕ) (is' : k ≡ count_of (targets_of offsets targets v) (set_of (take ((within + s) - within) (drop within mid))))
        where
          is : k ≡ counts v
          is =
              is' ∙ ap (count_of (targets_of offsets targets v)) (part_set n s within mid given.size ∙ inside_same)

          pub new_some : 0 < k
          new_some = omega (arith, given.some, counter_new counts n m work v given.small before, is)

          pub new_down :
              CountedDown (inside_count offsets targets (set_at n within work)) n (length targets) v work
              (set mid (base + v) (k - 1)) (k - 1)
          new_down =
              rw here
              (record {
                long = length-set mid at (k - 1) ∙ mid_long;
                rest =
                    λ i o.
                    get_or-set_other mid at i (k - 1) 0 (λ e. ⊎_elim (λ l. omega arith) (λ l. let h = l.0 in omega arith) o) ∙
                    outside i (⊎_elim (λ l. inl (omega arith)) (λ l. l.1) o);
                less = less;
                counter =
                    counter_put counts n m work (set mid at (k - 1)) v (counter_at counts n m work v - 1) given.small met_more
                    (get_or-set_same mid at (k - 1) 0 (omega (arith, mid_long, given.low, given.high, given.small)) ∙ less)
                    (λ u l d.
                    get_or-set_other mid at (counters n m + u) (k - 1) 0 (λ e. d (omega arith)) ∙
                    outside (counters n m + u) (inl (omega arith)));
              })
            where
              outside : Unchanged (Beside (words n) (met_at n m)) work mid
              outside i o =
                  inserted_rest n s met v work ys given.size met_fits new i
                  (⊎_elim (λ l. inl (omega (arith, place))) (λ l. inr (omega (arith, place))) o)

              less : k - 1 ≡ counter_at counts n m work v - 1
              less = ap (λ (x : ℕ). x - 1) (is ∙ sym (counter_new counts n m work v given.small before))

              met_more : (u : ℕ) → set_at n (met_at n m) (set mid at (k - 1)) u ≡ cond (eqb u v) true (set_at n (met_at n m) work u)
              met_more u =
                  set_kept n (met_at n m) mid (set mid at (k - 1))
                  (λ i low high. get_or-set_other mid at i (k - 1) 0 (λ e. omega (arith, given.small))) u ∙
                  subst (λ (p : ℕ). set_at n p mid u ≡ cond (eqb u v) true (set_at n p work u)) place
                  (inserted_set n s met v work ys given.size met_fits new u)
