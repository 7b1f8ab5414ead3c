-- Laws of the two players.
use Rattle.std.specs.Prelude.{true, false, ◌⊎◌, ◌≡◌, refl, ℕ}
use Rattle.std.proofs.Common.{true≢false, inl, inr, sym, ◌∙◌, arith}
use Rattle.rules.specs.Game.{Player, Even, Odd, opponent, same}
use Rattle.basics.specs.Basics.{clash, not_true_is_false}

pub opponent_twice : (a : Player) → opponent (opponent a) ≡ a
opponent_twice Even = refl
opponent_twice Odd = refl

pub opponent_differs : (a : Player) → a ≡ opponent a → ⊥
opponent_differs Even e = let z : ◌≡◌ {A = ℕ} 0 1 = cc in omega arith
opponent_differs Odd e = let z : ◌≡◌ {A = ℕ} 0 1 = cc in omega arith

-- a player is a or a's opponent
pub player_cases : (a b : Player) → (b ≡ a) ⊎ (b ≡ opponent a)
player_cases Even Even = inl refl
player_cases Even Odd = inr refl
player_cases Odd Even = inr refl
player_cases Odd Odd = inl refl

-- a player who is not a is a's opponent, and the other way
pub other_player : (a b : Player) → (b ≡ a → ⊥) → b ≡ opponent a
other_player Even Even n = absurd (n refl)
other_player Even Odd n = refl
other_player Odd Even n = refl
other_player Odd Odd n = absurd (n refl)

pub opponent_is_other : {a b : Player} → b ≡ opponent a → b ≡ a → ⊥
opponent_is_other {a} {b} p q = opponent_differs a (sym q ∙ p)

pub player_decided : (a b : Player) → Dec (a ≡ b)
player_decided Even Even = yes refl
player_decided Even Odd = no (λ e. opponent_differs Even e)
player_decided Odd Even = no (λ e. opponent_differs Odd e)
player_decided Odd Odd = yes refl

pub same_true : (a b : Player) → same a b ≡ true → a ≡ b
same_true Even Even h = refl
same_true Even Odd h = absurd (true≢false (sym h))
same_true Odd Even h = absurd (true≢false (sym h))
same_true Odd Odd h = refl

pub true_same : (a b : Player) → a ≡ b → same a b ≡ true
true_same Even Even e = refl
true_same Even Odd e = absurd (opponent_differs Even e)
true_same Odd Even e = absurd (opponent_differs Odd e)
true_same Odd Odd e = refl

pub same_false : (a b : Player) → same a b ≡ false → a ≡ b → ⊥
same_false a b h e = clash (true_same a b e) h

pub false_same : (a b : Player) → (a ≡ b → ⊥) → same a b ≡ false
false_same a b n = not_true_is_false (same a b) (λ h. n (same_true a b h))
