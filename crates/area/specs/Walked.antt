-- A walk over the members of a set in the work area that changes each member it passes: members passed are changed, those still to come
-- and the vertices outside the set are as they were. What is looked at of a vertex, and what a change is, the walk leaves open.
use Rattle.std.specs.Prelude.{true, false, List, ◌∷◌, ◌⊎◌, ◌≡◌, refl, ℕ, ◌+◌, ◌≤◌, ◌<◌, length, get_or, set, Option, Some, None}
use Rattle.std.proofs.Common.{inl, inr, ⊎_elim, sym, ap, subst, subst₂, ◌∙◌, arith, length-set, get_or-set_same, get_or-set_other}
use Rattle.std.proofs.Math.Decide.{ℕ_discrete}
use Rattle.rules.specs.Counting.{times}
use Rattle.rules.specs.Tables.{words}
use Rattle.basics.specs.Basics.{clash}
use Rattle.basics.specs.Frame.{Beside, Unchanged}
use Rattle.sets.specs.Laws.{member_bit}
use Rattle.walk.specs.MemberLaws.{times_members}
use Rattle.parity_game.specs.declared.player.VertexIndex.{VertexIndex}
use Rattle.walk.specs.Walk.{words_from, members, left, Begins, Walks}
use Rattle.walk.specs.declared.members.Members.{Members}
use Rattle.area.specs.Area.{words_at, set_at}
use Rattle.area.specs.Lent.{words_alike, words_few}
use Rattle.area.specs.Walking.{times_gone, Walking, walking_start, counted, next_member, next_once, next_other, walking_next, next_shorter}

-- the set at a base can be walked: s words of vertices below n, in words that no change touches
pub record Walkable (n s base : ℕ) (Out : ℕ → Type 0) (work : List ℕ) : Type 0 where
  pub size : s ≡ words n
  pub few : n ≤ 4096
  pub high : base + words n ≤ length work
  pub below : (v : ℕ) → set_at n base work v ≡ true → v < n
  pub out : (i : ℕ) → base ≤ i → i < base + words n → Out i

-- the work area after a change: the words outside stay, and what is good stays good
pub record Keeps (Out : ℕ → Type 0) (Good : List ℕ → Type 0) (before after : List ℕ) : Type 0 where
  pub long : length after ≡ length before
  pub rest : Unchanged Out before after
  pub good : Good after

pub keeps_none : {Out : ℕ → Type 0} {Good : List ℕ → Type 0} {work : List ℕ} → Good work → Keeps Out Good work work
keeps_none g = record { long = refl; rest = λ i o. refl; good = g }

pub keeps_then : {Out : ℕ → Type 0} {Good : List ℕ → Type 0} {x y z : List ℕ} → Keeps Out Good x y → Keeps Out Good y z → Keeps Out Good x z
keeps_then a b = record { long = b.long ∙ a.long; rest = λ i o. b.rest i o ∙ a.rest i o; good = b.good }

-- the words of the set are as they were
kept_words :
    {n s base : ℕ} {Out : ℕ → Type 0} {Good : List ℕ → Type 0} {before work : List ℕ} →
    Walkable n s base Out before →
    Keeps Out Good before work →
    words_from s base work ≡ words_at n base before
kept_words {n} {s} {base} {Out} {Good} {before} {work} given kept =
    ap (λ (k : ℕ). words_from k base work) given.size ∙
    words_alike n base before work kept.long (λ i l. kept.rest (base + i) (given.out (base + i) (omega arith) (omega arith)))

-- one vertex is changed
pub record Turn {C : Type 0} (n : ℕ) (Out : ℕ → Type 0) (Good : List ℕ → Type 0) (view : List ℕ → ℕ → C) (Does : ℕ → C → C → Type 0) (v : ℕ)
    (before after : List ℕ) : Type 0 where
  pub keeps : Keeps Out Good before after
  pub here : Does v (view before v) (view after v)
  pub there : (u : ℕ) → u < n → (u ≡ v → ⊥) → view after u ≡ view before u

-- nothing more is asked of the work area
abbrev pub Always : List ℕ → Type 0
Always work = Unit {0}

-- the word of a vertex, of those at a place
abbrev pub word_of : ℕ → List ℕ → ℕ → ℕ
word_of place work u = get_or work (place + u) 0

module _ {C : Type 0} {n v : ℕ} {Out : ℕ → Type 0} {Good : List ℕ → Type 0} {view : List ℕ → ℕ → C} {Does : ℕ → C → C → Type 0} {work : List ℕ} where
  -- the vertex stays as it is
  pub same_turn : Good work → Does v (view work v) (view work v) → Turn n Out Good view Does v work work
  same_turn good does = record { keeps = keeps_none good; here = does; there = λ u l d. refl }

-- its word is stored
pub store_turn :
    {n v : ℕ} (place x : ℕ) {Does : ℕ → ℕ → ℕ → Type 0} {work : List ℕ} →
    v < n →
    place + n ≤ length work →
    Does v (word_of place work v) x →
    Turn n (Beside n place) Always (word_of place) Does v work (set work (place + v) x)
store_turn {n} {v} place x {Does} {work} small fits does =
    record {
      keeps =
          record {
            long = length-set work (place + v) x;
            rest = λ i o. get_or-set_other work (place + v) i x 0 (λ e. ⊎_elim (λ l. omega arith) (λ l. omega arith) o);
            good = tt;
          };
      here = rw (get_or-set_same work (place + v) x 0 (omega arith)) does;
      there = λ u l d. get_or-set_other work (place + v) (place + u) x 0 (λ e. d (omega arith));
    }

-- the walk has come to `walk`
pub record WalkedTo {C : Type 0} (n base : ℕ) (Out : ℕ → Type 0) (Good : List ℕ → Type 0) (view : List ℕ → ℕ → C) (Does : ℕ → C → C → Type 0)
    (before : List ℕ) (walk : Members) (work : List ℕ) : Type 0 where
  pub walking : Walking (words_at n base before) walk
  pub keeps : Keeps Out Good before work
  pub seen :
      (u : ℕ) →
      set_at n base before u ≡ true →
      times u (left (words_at n base before) walk) ≡ 0 →
      Does u (view before u) (view work u)
  pub unseen :
      (u : ℕ) →
      u < n →
      (set_at n base before u ≡ false) ⊎ (0 < times u (left (words_at n base before) walk)) →
      view work u ≡ view before u

-- the walk is over
pub record Walked {C : Type 0} (n base : ℕ) (Out : ℕ → Type 0) (Good : List ℕ → Type 0) (view : List ℕ → ℕ → C) (Does : ℕ → C → C → Type 0)
    (before work : List ℕ) : Type 0 where
  pub keeps : Keeps Out Good before work
  pub inside : (u : ℕ) → set_at n base before u ≡ true → Does u (view before u) (view work u)
  pub outside : (u : ℕ) → u < n → set_at n base before u ≡ false → view work u ≡ view before u

-- the walk has reached v, and goes on as `rest`
pub record Reached {C : Type 0} {n base : ℕ} {Out : ℕ → Type 0} {Good : List ℕ → Type 0} {view : List ℕ → ℕ → C} {Does : ℕ → C → C → Type 0}
    {before : List ℕ} {walk : Members} {work : List ℕ} (c : WalkedTo n base Out Good view Does before walk work) (v : ℕ) (rest : Members) : Type 0 where
  pub member : set_at n base before v ≡ true
  pub small : v < n
  pub shorter : length (left (words_at n base before) rest) < length (left (words_at n base before) walk)
  -- v is changed, and passed
  pub more : {after : List ℕ} → Turn n Out Good view Does v work after → WalkedTo n base Out Good view Does before rest after

module _ {C : Type 0} {n s base : ℕ} {Out : ℕ → Type 0} {Good : List ℕ → Type 0} {view : List ℕ → ℕ → C} {Does : ℕ → C → C → Type 0}
    {before : List ℕ} (given : Walkable n s base Out before)
  where
    -- the walk begins
    pub walked_none : Good before → {walk : Members} → Begins (words_from s base before) walk → WalkedTo n base Out Good view Does before walk before
    walked_none good {walk} first =
        record {
          walking = walking_start (words_at n base before) walk begins first.1;
          keeps = keeps_none good;
          seen =
              λ u m gone.
              absurd
              (let all = ap (times u) begins ∙ times_members (words_at n base before) u in
              omega (arith, member_bit (words_at n base before) u m));
          unseen = λ u l o. refl;
        }
      where
        begins : left (words_at n base before) walk ≡ members (words_at n base before)
        begins = rw given.size at first.0

    module _ {walk : Members} {work : List ℕ} (c : WalkedTo n base Out Good view Does before walk work) where
      -- as a step of the walk asks
      pub walked_few : (base + s ≤ length work) × (s ≤ 64) × (walk.at ≤ 64)
      walked_few = (
        omega (arith, given.high, given.size, c.keeps.long),
        omega (arith, given.size, words_few n given.few),
        c.walking.at,
      )

      module _ (rest : Members) {v : ℕ} (next : left (words_at n base before) walk ≡ v ∷ left (words_at n base before) rest) (low : rest.at ≤ 64) where
        member : set_at n base before v ≡ true
        member = next_member rest c.walking next

        small : v < n
        small = given.below v member

        fresh : view work v ≡ view before v
        fresh = c.unseen v small (inr (omega (arith, counted rest c.walking next)))

        more : {after : List ℕ} → Turn n Out Good view Does v work after → WalkedTo n base Out Good view Does before rest after
        more {after} turn =
            record {
              walking = walking_next rest c.walking next low;
              keeps = keeps_then c.keeps turn.keeps;
              seen = λ u m gone. changed u m gone (ℕ_discrete u v);
              unseen = λ u l o. unchanged u l o (ℕ_discrete u v);
            }
          where
            changed :
                (u : ℕ) →
                set_at n base before u ≡ true →
                times u (left (words_at n base before) rest) ≡ 0 →
                Dec (u ≡ v) →
                Does u (view before u) (view after u)
            changed u m gone (yes e) =
                subst (λ (x : ℕ). Does x (view before x) (view after x)) (sym e)
                (subst (λ (x : C). Does v x (view after v)) fresh turn.here)
            changed u m gone (no d) =
                subst (Does u (view before u)) (sym (turn.there u (given.below u m) d))
                (c.seen u m (next_other rest c.walking next u d ∙ gone))

            unchanged :
                (u : ℕ) →
                u < n →
                (set_at n base before u ≡ false) ⊎ (0 < times u (left (words_at n base before) rest)) →
                Dec (u ≡ v) →
                view after u ≡ view before u
            unchanged u l o (yes e) =
                absurd
                (⊎_elim
                (λ out. clash member (ap (set_at n base before) (sym e) ∙ out))
                (λ more.
                let once = next_once rest c.walking next in
                let same = ap (λ (x : ℕ). times x (left (words_at n base before) rest)) e in
                omega arith)
                o)
            unchanged u l o (no d) =
                turn.there u l d ∙
                c.unseen u l (⊎_elim inl (λ more. inr (omega (arith, next_other rest c.walking next u d))) o)

        reached : Reached c v rest
        reached =
            record { member = member; small = small; shorter = next_shorter rest c.walking next; more = more }

      module _ {next : Option VertexIndex} (rest : Members) (step : Walks (words_from s base work) walk next rest) where
        -- what the step told, of the set as it was at first
        told_of : {what : Option VertexIndex} → next ≡ what → Walks (words_at n base before) walk what rest
        told_of told = subst₂ (λ (xs : List ℕ) (what : Option VertexIndex). Walks xs walk what rest) (kept_words given c.keeps) told step

        -- the walk is over
        pub walked_all : next ≡ None → Walked n base Out Good view Does before work
        walked_all told =
            record { keeps = c.keeps; inside = λ u m. c.seen u m (gone u); outside = λ u l m. c.unseen u l (inl m) }
          where
            gone : (u : ℕ) → times u (left (words_at n base before) walk) ≡ 0
            gone u = ap (times u) (told_of told).0 ∙ times_gone u

        -- **it has reached a member**
        pub walked_next : {v : VertexIndex} → next ≡ Some v → Reached c v.0 rest
        walked_next told = let (moved, low) = told_of told in reached rest moved low

-- ---- a walk that changes nothing

abbrev pub Anything : ℕ → Type 0
Anything i = Unit {0}

abbrev pub nothing : List ℕ → ℕ → Unit {0}
nothing work u = tt

-- P holds of the members that the walk has passed
abbrev pub Passed : ℕ → ℕ → (ℕ → Type 0) → List ℕ → Members → Type 0
Passed n base P work walk = WalkedTo n base Anything Always nothing (λ u c c'. P u) work walk work

pub passes : {n v : ℕ} {P : ℕ → Type 0} {work : List ℕ} → P v → Turn n Anything Always nothing (λ u c c'. P u) v work work
passes p = same_turn tt p

-- what holds of the members passed may be weakened
pub passed_weaker :
    {n base : ℕ} {P Q : ℕ → Type 0} {work : List ℕ} {walk : Members} →
    ((u : ℕ) → P u → Q u) →
    Passed n base P work walk →
    Passed n base Q work walk
passed_weaker h c =
    record { walking = c.walking; keeps = c.keeps; seen = λ u m gone. h u (c.seen u m gone); unseen = c.unseen }
