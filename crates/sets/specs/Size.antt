-- The size of a set: the sum of the ones counts of its words, which `size` computes and which falls in the solvers' recursions. It
-- is the number of members.
use Rattle.std.specs.Prelude.{true, List, [], ◌∷◌, ◌++◌, ◌≡◌, ℕ, suc, ◌+◌, ◌*◌, ◌/◌, ◌%◌, ◌^◌, ◌<◌, eqb, length, get_or, take}
use Rattle.std.proofs.Common.{sym, ap, ap₂, ◌∙◌, add_comm, add-zero, zero-add, mod-eq_of_lt, add-one, arith, take-suc}
use Rattle.std.specs.Int.Count.{ones}
use Rattle.rules.specs.Counting.{Set, count}
use Rattle.rules.specs.Words.{bit, digit, set_of}
use Rattle.basics.specs.Basics.{count_cong, count_none, count_on, not_true_is_false}
use Rattle.sets.specs.Laws.{member_inside}
use Rattle.sets.specs.Whole.{ones_count}

unfoldable pub size : List ℕ → ℕ
size [] = 0
size (w ∷ ws) = ones (w % 2 ^ 64) + size ws

size_append : (xs ys : List ℕ) → size (xs ++ ys) ≡ size xs + size ys
unfolding size
size_append [] ys = sym (zero-add (size ys))
size_append (x ∷ xs) ys =
    let rest = size_append xs ys in omega arith

-- one word more
pub size_more :
    (xs : List ℕ) (i : ℕ) → i < length xs → get_or xs i 0 < 2 ^ 64 → size (take (i + 1) xs) ≡ size (take i xs) + ones (get_or xs i 0)
unfolding size
size_more xs i l small =
    ap (λ (k : ℕ). size (take k xs)) (add-one i) ∙
    ap size (take-suc xs i 0 l) ∙
    size_append (take i xs) (get_or xs i 0 ∷ []) ∙
    ap (λ (x : ℕ). size (take i xs) + x) (add-zero (ones (get_or xs i 0 % 2 ^ 64)) ∙ ap ones (mod-eq_of_lt small))

-- the bits of the first word, and those after it
bit_first : (w : ℕ) (ws : List ℕ) (k : ℕ) → k < 64 → bit (w ∷ ws) k ≡ digit w k
unfolding bit
bit_first w ws k l =
    let word : k / 64 ≡ 0 = omega arith in
    let place : k % 64 ≡ k = omega arith in
    ap₂ (λ (x y : ℕ). digit (get_or (w ∷ ws) x 0) y) word place

bit_rest : (w : ℕ) (ws : List ℕ) (k : ℕ) → bit (w ∷ ws) (64 + k) ≡ bit ws k
unfolding bit
bit_rest w ws k =
    let word : (64 + k) / 64 ≡ suc (k / 64) = omega arith in
    let place : (64 + k) % 64 ≡ k % 64 = omega arith in
    ap₂ (λ (x y : ℕ). digit (get_or (w ∷ ws) x 0) y) word place

-- **The size is the number of bits that are set,**
pub size_counts : (xs : List ℕ) → size xs ≡ count (64 * length xs) (set_of xs)
unfolding size set_of
size_counts [] = sym (count_none 0 (set_of []) (λ v l. absurd (omega arith)))
size_counts (w ∷ ws) =
    let long : 64 + 64 * length ws ≡ 64 * suc (length ws) = omega arith in
    ap₂ (λ (x y : ℕ). x + y)
    (sym
    (count_cong 64 (set_of (w ∷ ws)) (λ k. eqb (digit w k) 1) (λ k l. ap (λ (x : ℕ). eqb x 1) (bit_first w ws k l)) ∙
    ones_count 64 w))
    (size_counts ws ∙
    count_cong (64 * length ws) (set_of ws) (λ k. set_of (w ∷ ws) (64 + k))
    (λ k l. ap (λ (x : ℕ). eqb x 1) (sym (bit_rest w ws k)))) ∙
    sym (count_on 64 (64 * length ws) (set_of (w ∷ ws))) ∙
    ap (λ (k : ℕ). count k (set_of (w ∷ ws))) long

-- a set with no member at n or above is counted by its first n numbers
count_short : (n m : ℕ) (S : Set) → ((v : ℕ) → S v ≡ true → v < n) → count (n + m) S ≡ count n S
count_short n m S below =
    count_on n m S ∙
    ap (λ (k : ℕ). count n S + k)
    (count_none m (λ k. S (n + k)) (λ k l. not_true_is_false (S (n + k)) (λ p. let less = below (n + k) p in omega arith))) ∙
    add-zero (count n S)

-- **and of the vertices below n in it, where it has no other member.**
pub size_below : (n : ℕ) (xs : List ℕ) → ((v : ℕ) → set_of xs v ≡ true → v < n) → size xs ≡ count n (set_of xs)
size_below n xs below =
    size_counts xs ∙
    sym (count_short (64 * length xs) n (set_of xs) (member_inside xs)) ∙
    ap (λ (k : ℕ). count k (set_of xs)) (add_comm (64 * length xs) n) ∙
    count_short n (64 * length xs) (set_of xs) below
