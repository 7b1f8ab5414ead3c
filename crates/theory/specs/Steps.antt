-- Document 01's attractor by steps, in its words: a member not yet taken is taken, and each of its predecessor entries is looked at once.
-- That every way of going by them ends in the attractor, with the rules' looks, is in `AttractorSteps`.
use Rattle.std.specs.Prelude.{true, false, ◌&&◌, ◌||◌, List, ◌≡◌, ℕ, ◌+◌, eqb, length}
use Rattle.rules.specs.Counting.{Set, some_of}
use Rattle.rules.specs.Game.{Player, Game}
use Rattle.rules.specs.Attractor.{drawn, Sources}

-- by steps: the members so far, those of them already taken, and the looks
pub record Growing : Type 0 where
  pub members : Set
  pub taken : Set
  pub looks : ℕ

-- at first the members are T, and none is taken
unfoldable pub at_first : Set → Growing
at_first T = record { members = T; taken = λ v. false; looks = 0 }

-- one step: a member not yet taken is taken, each of its predecessor entries is looked at once, those outside V included,
-- and each vertex that those entries complete is drawn in
pub record TakesOne (g : Game) (a : Player) (V' : Set) (s t : Growing) : Type 0 where
  pub vertex : ℕ
  pub member : s.members vertex ≡ true
  pub fresh : s.taken vertex ≡ false
  pub sources : List ℕ
  pub entries : Sources g vertex sources
  pub looks : t.looks ≡ s.looks + length sources
  pub taken : (v : ℕ) → t.taken v ≡ (s.taken v || eqb v vertex)
  pub members : (v : ℕ) → t.members v ≡ (s.members v || some_of sources (eqb v) && drawn g a V' t.taken v)

-- any number of steps
pub data Takes (g : Game) (a : Player) (V' : Set) : Growing → Growing → Type 0 where
  stop : {s : Growing} → Takes g a V' s s
  next : {s t u : Growing} → TakesOne g a V' s t → Takes g a V' t u → Takes g a V' s u

-- no member is left to take
abbrev pub Finished : Growing → Type 0
Finished s = (v : ℕ) → s.members v ≡ true → s.taken v ≡ true
