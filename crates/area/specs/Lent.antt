-- A part of the work area that was lent and comes back, and the sets that stand in parts: what is outside the part stays, and a set
-- that comes back with one vertex more is the set with it.
use Rattle.std.specs.Prelude.{true, cond, List, ◌++◌, ◌⊎◌, ◌≡◌, refl, ℕ, ◌+◌, ◌-◌, ◌*◌, ◌≤◌, ◌<◌, eqb, length, get_or, take, drop, set, replicate}
use Rattle.std.proofs.Common.{inl, inr, ⊎_elim, sym, ap, ◌∙◌, arith, eq-eqb, ne_eqb, length-append, length-take, length-drop, ext_get_or, get_or-take, get_or-drop, get_or-set_same, get_or-set_other, get_or-append-add, take_at, drop_at, length-take-le}
use Rattle.std.proofs.Math.Decide.{ℕ_discrete}
use Rattle.std.proofs.Math.ListN.{get_or-append}
use Rattle.rules.specs.Counting.{Set}
use Rattle.rules.specs.Solver.{cleared}
use Rattle.rules.specs.Tables.{Tables, vertices, edges_in, words, work_words}
use Rattle.rules.specs.Words.{set_of}
use Rattle.basics.specs.Frame.{Beside, Unchanged}
use Rattle.sets.specs.After.{Put}
use Rattle.sets.specs.Laws.{put_set}
use Rattle.area.specs.Area.{set_at, words_at}

-- ---- words and sets that stay

-- k words at a base, in two lists that agree there
pub slice_alike :
    (k base : ℕ) (work work' : List ℕ) →
    length work' ≡ length work →
    ((i : ℕ) → i < k → get_or work' (base + i) 0 ≡ get_or work (base + i) 0) →
    take k (drop base work') ≡ take k (drop base work)
slice_alike k base work work' long h =
    ext_get_or 0 (take k (drop base work')) (take k (drop base work)) (simp (length-take, length-drop, long))
    (λ i l.
    let less : i < k = omega (arith, length-take k (drop base work')) in
    get_or-take k (drop base work') i 0 less ∙
    get_or-drop base work' i 0 ∙
    h i less ∙
    sym (get_or-take k (drop base work) i 0 less ∙ get_or-drop base work i 0))

pub words_alike :
    (n base : ℕ) (work work' : List ℕ) →
    length work' ≡ length work →
    ((i : ℕ) → i < words n → get_or work' (base + i) 0 ≡ get_or work (base + i) 0) →
    words_at n base work' ≡ words_at n base work
words_alike n = slice_alike (words n)

pub set_alike :
    (n base : ℕ) (work work' : List ℕ) →
    length work' ≡ length work →
    ((i : ℕ) → i < words n → get_or work' (base + i) 0 ≡ get_or work (base + i) 0) →
    set_at n base work' ≡ set_at n base work
set_alike n base work work' long h = ap set_of (words_alike n base work work' long h)

-- ---- a part of s words that was lent and comes back as ys

-- the part, as the code has it
pub part_is : (a s : ℕ) (xs : List ℕ) → take ((a + s) - a) (drop a xs) ≡ take s (drop a xs)
part_is a s xs = ap (λ (k : ℕ). take k (drop a xs)) cancels
  where
    cancels : (a + s) - a ≡ s
    cancels = omega arith

pub part_length : (a s : ℕ) (xs : List ℕ) → a + s ≤ length xs → length (take s (drop a xs)) ≡ s
part_length a s xs h = simp (length-take, length-drop) (omega arith)

pub part_set : (n s a : ℕ) (xs : List ℕ) → s ≡ words n → set_of (take ((a + s) - a) (drop a xs)) ≡ set_at n a xs
part_set n s a xs size = ap set_of (part_is a s xs) ∙ ap (λ (k : ℕ). set_of (take k (drop a xs))) size

-- the words of a set have a bit for each vertex
pub words_enough : (n v : ℕ) → v < n → v < 64 * words n
unfolding words
words_enough n v l = omega arith

pub words_cover : (n : ℕ) → n ≤ 64 * words n
unfolding words
words_cover n = omega arith

-- and of at most 4,096 vertices there are at most 64
pub words_few : (n : ℕ) → n ≤ 4096 → words n ≤ 64
unfolding words
words_few n l = omega arith

pub bit_fits : (n s a v : ℕ) (xs : List ℕ) → s ≡ words n → a + words n ≤ length xs → v < n → v < 64 * length (take ((a + s) - a) (drop a xs))
bit_fits n s a v xs size high l =
    rw (part_is a s xs, size, part_length a (words n) xs high) (words_enough n v l)

abbrev pub back : ℕ → ℕ → List ℕ → List ℕ → List ℕ
back a s xs ys = take a xs ++ (ys ++ drop ((a + s) - a) (drop a xs))

module _ (a s : ℕ) (xs ys : List ℕ) (fits : a + s ≤ length xs) (as_long : length ys ≡ s) where
  front : length (take a xs) ≡ a
  front = length-take-le a xs (omega arith)

  pub back_long : length (back a s xs ys) ≡ length xs
  back_long =
      length-append (take a xs) (ys ++ drop ((a + s) - a) (drop a xs)) ∙
      simp (length-append, length-drop) (omega (arith, front))

  pub back_front : (i : ℕ) → i < a → get_or (back a s xs ys) i 0 ≡ get_or xs i 0
  back_front i l =
      get_or-append (take a xs) (ys ++ drop ((a + s) - a) (drop a xs)) 0 i (omega (arith, front)) ∙ get_or-take a xs i 0 l

  pub back_behind : (i : ℕ) → a + s ≤ i → get_or (back a s xs ys) i 0 ≡ get_or xs i 0
  back_behind i l =
      let first : i ≡ length (take a xs) + (length ys + (i - a - s)) = omega (arith, front) in
      let last : a + ((a + s) - a + (i - a - s)) ≡ i = omega arith in
      ap (λ (k : ℕ). get_or (back a s xs ys) k 0) first ∙
      get_or-append-add (take a xs) (ys ++ drop ((a + s) - a) (drop a xs)) (length ys + (i - a - s)) 0 ∙
      get_or-append-add ys (drop ((a + s) - a) (drop a xs)) (i - a - s) 0 ∙
      get_or-drop ((a + s) - a) (drop a xs) (i - a - s) 0 ∙
      get_or-drop a xs ((a + s) - a + (i - a - s)) 0 ∙
      ap (λ (k : ℕ). get_or xs k 0) last

  pub back_part : take s (drop a (back a s xs ys)) ≡ ys
  back_part =
      ap (take s) (drop_at (take a xs) (ys ++ drop ((a + s) - a) (drop a xs)) a front) ∙
      take_at ys (drop ((a + s) - a) (drop a xs)) s as_long

-- a set that was lent and comes back with v in it

module _ (n s base v : ℕ) (work ys : List ℕ) (size : s ≡ words n) (high : base + words n ≤ length work)
    (put : Put v 1 (take ((base + s) - base) (drop base work)) ys)
  where
    fits : base + s ≤ length work
    fits = omega arith

    as_long : length ys ≡ s
    as_long = put.long ∙ ap length (part_is base s work) ∙ part_length base s work fits

    pub inserted_long : length (back base s work ys) ≡ length work
    inserted_long = back_long base s work ys fits as_long

    pub inserted_rest : Unchanged (Beside (words n) base) work (back base s work ys)
    inserted_rest i (inl l) = back_front base s work ys fits as_long i l
    inserted_rest i (inr l) = back_behind base s work ys fits as_long i (omega arith)

    pub inserted_set : (u : ℕ) → set_at n base (back base s work ys) u ≡ cond (eqb u v) true (set_at n base work u)
    inserted_set u =
        ap (λ (k : ℕ). set_of (take k (drop base (back base s work ys))) u) (sym size) ∙
        ap (λ (l : List ℕ). set_of l u) (back_part base s work ys fits as_long) ∙
        put_set v 1 (take ((base + s) - base) (drop base work)) ys put u ∙
        ap (λ (S : Set). cond (eqb u v) true (S u)) (part_set n s base work size)

    pub inserted_here : set_at n base (back base s work ys) v ≡ true
    inserted_here = inserted_set v ∙ rw (eq-eqb v v refl)

    pub inserted_there : (u : ℕ) → (u ≡ v → ⊥) → set_at n base (back base s work ys) u ≡ set_at n base work u
    inserted_there u d = inserted_set u ∙ rw (ne_eqb u v d)

    -- a set elsewhere stays
    pub inserted_other : (other : ℕ) → (other + words n ≤ base) ⊎ (base + words n ≤ other) → set_at n other (back base s work ys) ≡ set_at n other work
    inserted_other other apart =
        set_alike n other work (back base s work ys) inserted_long
        (λ i l. inserted_rest (other + i) (⊎_elim (λ h. inl (omega arith)) (λ h. inr (omega arith)) apart))

-- ---- a table that is filled, and the words that are cleared in the end

-- a store at i, in a list that has f's numbers before i
pub stored_more :
    (f : ℕ → ℕ) (to : List ℕ) (i x : ℕ) → i < length to → x ≡ f i → ((k : ℕ) → k < i → get_or to k 0 ≡ f k) →
    (k : ℕ) → k < i + 1 → get_or (set to i x) k 0 ≡ f k
stored_more f to i x l e h k less = go (ℕ_discrete k i)
  where
    go : Dec (k ≡ i) → get_or (set to i x) k 0 ≡ f k
    go (yes same) =
        ap (λ (j : ℕ). get_or (set to i x) j 0) same ∙ get_or-set_same to i x 0 l ∙ e ∙ ap f (sym same)
    go (no d) = get_or-set_other to i k x 0 d ∙ h k (omega (arith, d))

-- the first W words come back as zeros
pub work_cleared :
    (t : Tables) (w : ℕ) (work zeros : List ℕ) →
    w ≡ work_words (vertices t) (edges_in t) →
    work_words (vertices t) (edges_in t) ≤ length work →
    zeros ≡ replicate (length (take (w - 0) (drop 0 work))) 0 →
    take 0 work ++ (zeros ++ drop (w - 0) (drop 0 work)) ≡ cleared t work
work_cleared t w work zeros is fits e =
    ap (λ (l : List ℕ). l ++ drop (w - 0) work) (e ∙ ap (λ (k : ℕ). replicate k 0) long) ∙
    ap (λ (k : ℕ). replicate (work_words (vertices t) (edges_in t)) 0 ++ drop k work) whole
  where
    long : length (take (w - 0) work) ≡ work_words (vertices t) (edges_in t)
    long = omega (arith, length-take (w - 0) work)

    whole : w - 0 ≡ work_words (vertices t) (edges_in t)
    whole = omega arith
