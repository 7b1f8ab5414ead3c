-- The members of a set in order, and what is left of them during a walk by words.
use Rattle.std.specs.Prelude.{cond, List, [], ◌∷◌, ◌++◌, ◌≡◌, ℕ, zero, suc, ◌+◌, ◌*◌, ◌≤◌, eqb, take, drop, Option, Some, None}
use Rattle.rules.specs.Words.{digit}
use Rattle.parity_game.specs.declared.player.VertexIndex.{VertexIndex}
use Rattle.walk.specs.declared.members.Members.{Members}

-- the words that a walk goes through: s of the work area, from a base on
abbrev pub words_from : ℕ → ℕ → List ℕ → List ℕ
words_from s base work = take s (drop base work)

-- the numbers from base on whose digits are set, of the digits k to k + d - 1 of a word, in order
unfoldable pub of_word : ℕ → ℕ → ℕ → ℕ → List ℕ
of_word base word k zero = []
of_word base word k (suc d) =
    cond (eqb (digit word k) 1) ((base + k) ∷ of_word base word (suc k) d) (of_word base word (suc k) d)

-- the members of words of which the first is word i, in order
unfoldable pub of_words : ℕ → List ℕ → List ℕ
of_words i [] = []
of_words i (x ∷ xs) = of_word (64 * i) x 0 64 ++ of_words (suc i) xs

-- all members, in order
abbrev pub members : List ℕ → List ℕ
members xs = of_words 0 xs

-- what a walk has still to come
abbrev pub left : List ℕ → Members → List ℕ
left xs c = of_word (64 * c.at) c.word 0 64 ++ of_words (suc c.at) (drop (suc c.at) xs)

-- the walk begins: all members are to come
abbrev pub Begins : List ℕ → Members → Type 0
Begins xs c = (left xs c ≡ members xs) × (c.at ≡ 0)

-- a step of the walk: the next member and what is left after it, or nothing was left and the walk stays as it was
abbrev pub Walks : List ℕ → Members → Option VertexIndex → Members → Type 0
Walks xs c (Some v) d = (left xs c ≡ v.0 ∷ left xs d) × (d.at ≤ 64)
Walks xs c None d = (left xs c ≡ []) × (d ≡ c)
