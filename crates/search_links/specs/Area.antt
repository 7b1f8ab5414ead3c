-- Laws of the rows of words that the search keeps in the work area, of which each pass changes a few and leaves the rest.
use Rattle.std.specs.Prelude.{Bool, ◌&&◌, List, [], ◌∷◌, ◌++◌, ◌≡◌, ℕ, suc, ◌+◌, ◌-◌, ◌≤◌, ◌<◌, ltb, length, take, drop, set}
use Rattle.std.proofs.Math.Bool.{true, false, not}
use Rattle.std.proofs.Common.{inl, inr, ⊎_elim, sym, ap, subst, ◌∙◌, arith, length-set, length-take, length-drop, ext_get_or, get_or-take, get_or-drop, get_or-set_other, take-suc}
use Rattle.std.proofs.Math.Path.{refl, fun_ext}
use borrow.Author.Tests.{eqb-true, eqb-false, ne_eqb, lt-ltb, ltb-true, not-true}
use Rattle.std.proofs.Math.Dec.{eqb}
use Rattle.std.proofs.Math.ListN.{get_or}
use Rattle.rules.specs.Counting.{Set}
use Rattle.basics.specs.Basics.{bool_ext, and_intro, and_left, and_right, not_true_is_false, clash}
use Rattle.basics.specs.Frame.{Outside, Unchanged}
use Rattle.theory.specs.DepthFirst.{Marks}
use Rattle.sets.specs.After as After

-- only words from lo up to hi may have changed
pub record Within (lo hi : ℕ) (before after : List ℕ) : Type 0 where
  pub long : length after ≡ length before
  pub rest : Unchanged (Outside lo hi) before after

pub within_same : (lo hi : ℕ) (work : List ℕ) → Within lo hi work work
within_same lo hi work = record { long = refl; rest = λ i o. refl }

pub within_then : {lo hi : ℕ} {x y z : List ℕ} → Within lo hi x y → Within lo hi y z → Within lo hi x z
within_then a b = record { long = b.long ∙ a.long; rest = λ i o. b.rest i o ∙ a.rest i o }

pub within_wider : {lo hi lo' hi' : ℕ} {x y : List ℕ} → lo' ≤ lo → hi ≤ hi' → Within lo hi x y → Within lo' hi' x y
within_wider a b w =
    record { long = w.long; rest = λ i o. w.rest i (⊎_elim (λ l. inl (omega arith)) (λ l. inr (omega arith)) o) }

-- the words from one place up to another are 0 now
pub record ClearedUpTo (from to : ℕ) (before after : List ℕ) : Type 0 where
  pub within : Within from to before after
  pub zeros : (i : ℕ) → from ≤ i → i < to → get_or after i 0 ≡ 0

-- the ends by what they are equal to
pub cleared_as :
    {from from' to to' : ℕ} {before after : List ℕ} →
    from ≡ from' → to ≡ to' → ClearedUpTo from to before after → ClearedUpTo from' to' before after
cleared_as {from} {from'} {to} {to'} {before} {after} a b h =
    subst (λ (k : ℕ). ClearedUpTo from' k before after) b (subst (λ (k : ℕ). ClearedUpTo k to before after) a h)

-- a store
pub within_store : (lo hi i a : ℕ) (work : List ℕ) → lo ≤ i → i < hi → Within lo hi work (set work i a)
within_store lo hi i a work l h =
    record {
      long = length-set work i a;
      rest = λ j o. get_or-set_other work i j a 0 (λ e. ⊎_elim (λ k. omega arith) (λ k. omega arith) o);
    }

-- k words from a base on
abbrev pub segment : ℕ → ℕ → List ℕ → List ℕ
segment base k work = take k (drop base work)

pub segment_length : (base k : ℕ) (work : List ℕ) → base + k ≤ length work → length (segment base k work) ≡ k
segment_length base k work h = simp (length-take, length-drop) (omega arith)

pub segment_at : (base k i : ℕ) (work : List ℕ) → i < k → get_or (segment base k work) i 0 ≡ get_or work (base + i) 0
segment_at base k i work l = get_or-take k (drop base work) i 0 l ∙ get_or-drop base work i 0

pub segment_alike :
    (base k : ℕ) (before after : List ℕ) →
    length after ≡ length before →
    ((i : ℕ) → i < k → get_or after (base + i) 0 ≡ get_or before (base + i) 0) →
    segment base k after ≡ segment base k before
segment_alike base k before after long h =
    ext_get_or 0 (segment base k after) (segment base k before) (simp (length-take, length-drop, long))
    (λ i l.
    let less : i < k = omega (arith, length-take k (drop base after)) in
    segment_at base k i after less ∙ h i less ∙ sym (segment_at base k i before less))

-- one word more
pub segment_more :
    (base k : ℕ) (work : List ℕ) → base + k < length work → segment base (suc k) work ≡ segment base k work ++ (get_or work (base + k) 0 ∷ [])
segment_more base k work h =
    take-suc (drop base work) k 0 (simp length-drop (omega arith)) ∙
    ap (λ (x : ℕ). segment base k work ++ (x ∷ [])) (get_or-drop base work k 0)

-- the vertices whose word is not 0, in a row of n words
unfoldable pub marked : ℕ → ℕ → List ℕ → Set
marked n base work v = ltb v n && not (eqb (get_or work (base + v) 0) 0)

module _ (n base : ℕ) (work : List ℕ) where
  pub true_marked : (v : ℕ) → v < n → (get_or work (base + v) 0 ≡ 0 → ⊥) → marked n base work v ≡ true
  unfolding marked
  true_marked v l d = and_intro (lt-ltb v n l) (ap not (ne_eqb (get_or work (base + v) 0) 0 d))

  pub marked_true : (v : ℕ) → marked n base work v ≡ true → (v < n) × (get_or work (base + v) 0 ≡ 0 → ⊥)
  unfolding marked
  marked_true v e =
      let b = not (eqb (get_or work (base + v) 0) 0) in
      (ltb-true v n (and_left (ltb v n) b e), eqb-false _ _ (not-true _ (and_right (ltb v n) b e)))

  pub false_marked : (v : ℕ) → get_or work (base + v) 0 ≡ 0 → marked n base work v ≡ false
  false_marked v z = not_true_is_false (marked n base work v) (λ e. (marked_true v e).1 z)

  pub marked_false : (v : ℕ) → v < n → marked n base work v ≡ false → get_or work (base + v) 0 ≡ 0
  unfolding marked
  marked_false v l e = word (eqb (get_or work (base + v) 0) 0) refl
    where
      word : (b : Bool) → eqb (get_or work (base + v) 0) 0 ≡ b → get_or work (base + v) 0 ≡ 0
      word true q = eqb-true _ _ q
      word false q = absurd (clash (true_marked v l (eqb-false _ _ q)) e)

pub marked_alike :
    (n base : ℕ) (before after : List ℕ) →
    ((v : ℕ) → v < n → get_or after (base + v) 0 ≡ get_or before (base + v) 0) →
    marked n base after ≡ marked n base before
marked_alike n base before after h =
    fun_ext
    (λ v.
    bool_ext (marked n base after v) (marked n base before v)
    (λ e. let (l, d) = marked_true n base after v e in true_marked n base before v l (λ z. d (h v l ∙ z)))
    (λ e. let (l, d) = marked_true n base before v e in true_marked n base after v l (λ z. d (sym (h v l) ∙ z))))

-- one word of the row is not 0 now, and the others are as they were
pub marked_marks :
    (n base v : ℕ) (before after : List ℕ) →
    v < n →
    (get_or after (base + v) 0 ≡ 0 → ⊥) →
    ((u : ℕ) → u < n → (u ≡ v → ⊥) → get_or after (base + u) 0 ≡ get_or before (base + u) 0) →
    Marks v (marked n base before) (marked n base after)
marked_marks n base v before after l d h =
    record {
      new = true_marked n base after v l d;
      others =
          λ u o.
          bool_ext (marked n base after u) (marked n base before u)
          (λ e. let (k, f) = marked_true n base after u e in true_marked n base before u k (λ z. f (h u k o ∙ z)))
          (λ e. let (k, f) = marked_true n base before u e in true_marked n base after u k (λ z. f (sym (h u k o) ∙ z)));
    }

-- cleared words, by where they end
pub cleared_to :
    (from to : ℕ) (before after : List ℕ) → from ≤ to → After.Cleared from (to - from) before after → ClearedUpTo from to before after
cleared_to from to before after l c =
    record {
      within = record { long = c.long; rest = λ i o. c.rest i (⊎_elim inl (λ h. inr (omega arith)) o) };
      zeros = λ i a b. c.zeros i a (omega arith);
    }
