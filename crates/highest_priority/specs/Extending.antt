-- The walk that gives the vertices of U their lowest-numbered successor in V, where p's player owns them: those that it has
-- passed have it. V stands at `base`, U at `from`.
use Rattle.std.specs.Prelude.{true, List, ◌≡◌, refl, ℕ, zero, suc, ◌+◌, ◌-◌, ◌%◌, ◌≤◌, ◌<◌, length, get_or, take, drop, set}
use Rattle.std.proofs.Common.{inr, ⊎_elim, sym, ap, subst, ◌∙◌, arith}
use Rattle.rules.specs.Game.{player_of, parity}
use Rattle.rules.specs.Tables.{words}
use Rattle.walk.specs.declared.members.Members.{Members}
use Rattle.basics.specs.Basics.{bool_cases}
use Rattle.basics.specs.Frame.{Beside}
use Rattle.predecessors.specs.Table.{SoundEdges}
use Rattle.area.specs.EdgesOf.{EdgesOf, edges_of}
use Rattle.successors.specs.Lowest.{lowest_end}
use Rattle.area.specs.Area.{entries, free, set_at, words_at, entry_at}
use Rattle.area.specs.Lent.{part_length, words_alike}
use Rattle.area.specs.Walked.{Walkable, Keeps, Turn, Always, same_turn, store_turn, WalkedTo, Walked}
use Rattle.area.specs.Walking.{lent_part_lem}

-- what the walk asks for
pub record Extends (owners offsets targets : List ℕ) (s base from : ℕ) (work : List ℕ) : Type 0 where
  pub size : s ≡ words (length owners)
  pub few : length owners ≤ 4096
  pub edges : SoundEdges (length owners) offsets targets
  pub low : free (length owners) (length targets) ≤ base
  pub high : base + s ≤ length work
  pub from_low : free (length owners) (length targets) ≤ from
  pub from_high : from + s ≤ length work
  pub below : (v : ℕ) → set_at (length owners) from work v ≡ true → v < length owners

-- v is a vertex of U that the player alpha owns
abbrev pub Chooses : List ℕ → ℕ → ℕ → List ℕ → ℕ → Type 0
Chooses owners alpha from work v = (set_at (length owners) from work v ≡ true) × (get_or owners v 0 ≡ alpha)

-- the index of p's player
pub index_is : {alpha : ℕ} (p : ℕ) → alpha ≤ 1 → player_of alpha ≡ parity p → alpha ≡ p % 2
index_is {alpha} p low same = go alpha (p % 2) low (omega arith) same
  where
    go : (j k : ℕ) → j ≤ 1 → k ≤ 1 → player_of j ≡ player_of k → j ≡ k
    go zero zero l m e = refl
    go zero (suc k) l m e = cc
    go (suc j) zero l m e = cc
    go (suc j) (suc k) l m e = omega arith

-- a word that is no entry
abbrev pub Elsewhere : List ℕ → List ℕ → ℕ → Type 0
Elsewhere owners targets = Beside (length owners) (entries (length owners) (length targets))

-- every vertex of U that p's player owns has its lowest-numbered successor in V as its entry, and every other entry is as it was
pub record Extended (owners offsets targets : List ℕ) (p base from : ℕ) (before after : List ℕ) : Type 0 where
  pub long : length after ≡ length before
  pub chosen :
      (v : ℕ) →
      Chooses owners (p % 2) from before v →
      entry_at (length owners) (length targets) after v ≡
      lowest_end (length owners) offsets targets v (words_at (length owners) base before)
  pub kept :
      (v : ℕ) →
      v < length owners →
      (Chooses owners (p % 2) from before v → ⊥) →
      entry_at (length owners) (length targets) after v ≡ entry_at (length owners) (length targets) before v
  pub rest : (i : ℕ) → Elsewhere owners targets i → get_or after i 0 ≡ get_or before i 0

-- the entry of a vertex: its lowest-numbered successor in V if it chooses, else as it was
pub record Chosen (owners offsets targets : List ℕ) (alpha base from : ℕ) (before : List ℕ) (v w w' : ℕ) : Type 0 where
  pub chosen :
      Chooses owners alpha from before v →
      w' ≡ lowest_end (length owners) offsets targets v (words_at (length owners) base before)
  pub kept : (Chooses owners alpha from before v → ⊥) → w' ≡ w

-- the vertices that the walk has passed have their entries
abbrev pub ExtendingTo : List ℕ → List ℕ → List ℕ → ℕ → ℕ → ℕ → List ℕ → Members → List ℕ → Type 0
ExtendingTo owners offsets targets alpha base from before =
    WalkedTo (length owners) from (Elsewhere owners targets) Always (entry_at (length owners) (length targets))
    (Chosen owners offsets targets alpha base from before)
    before

-- one is passed
abbrev pub Extending : List ℕ → List ℕ → List ℕ → ℕ → ℕ → ℕ → List ℕ → ℕ → List ℕ → List ℕ → Type 0
Extending owners offsets targets alpha base from before =
    Turn (length owners) (Elsewhere owners targets) Always (entry_at (length owners) (length targets))
    (Chosen owners offsets targets alpha base from before)

module _ {owners offsets targets : List ℕ} {s base from : ℕ} {before : List ℕ}
    (ready : Extends owners offsets targets s base from before)
  where
    abbrev n : ℕ
    n = length owners

    abbrev m : ℕ
    m = length targets

    pub extend_walkable : Walkable (length owners) s from (Elsewhere owners targets) before
    extend_walkable =
        record {
          size = ready.size;
          few = ready.few;
          high = omega (arith, ready.from_high, ready.size);
          below = ready.below;
          out = λ i low high. inr (omega (arith, ready.from_low));
        }

    -- the walk is over
    pub extending_all :
        {alpha p : ℕ} {work : List ℕ} →
        alpha ≡ p % 2 →
        Walked (length owners) from (Elsewhere owners targets) Always (entry_at (length owners) (length targets))
        (Chosen owners offsets targets alpha base from before)
        before work →
        Extended owners offsets targets p base from before work
    extending_all is w =
        record {
          long = w.keeps.long;
          chosen = λ v u. (w.inside v u.0).chosen (u.0, u.1 ∙ sym is);
          kept = λ v l d. ⊎_elim (λ m. (w.inside v m).kept (λ u. d (u.0, u.1 ∙ is))) (w.outside v l) (bool_cases (set_at n from before v));
          rest = w.keeps.rest;
        }

    -- V is as it was
    lent :
        {work : List ℕ} →
        Keeps (Elsewhere owners targets) Always before work →
        take ((base + s) - base) (drop base work) ≡ words_at n base before
    lent {work} kept =
        lent_part_lem n s base work ready.size ∙
        words_alike n base before work kept.long (λ i l. kept.rest (base + i) (inr (omega (arith, ready.low))))

    module _ {v : ℕ} (member : set_at (length owners) from before v ≡ true) where
      -- a vertex of the other player keeps its entry
      pub other_owner :
          {alpha : ℕ} {work : List ℕ} → (get_or owners v 0 ≡ alpha → ⊥) → Extending owners offsets targets alpha base from before v work work
      other_owner d = same_turn tt (record { chosen = λ u. absurd (d u.1); kept = λ e. refl })

      module _ {work : List ℕ} (kept : Keeps (Elsewhere owners targets) Always before work) where
        -- its edges can be searched
        pub extend_edges : EdgesOf offsets targets v (take ((base + s) - base) (drop base work))
        extend_edges =
            edges_of ready.edges (ready.below v member)
            (ap length (lent kept) ∙ part_length base (words n) before (omega (arith, ready.high, ready.size)))

        -- it takes its lowest-numbered successor in V
        pub extending_one :
            {alpha : ℕ} →
            get_or owners v 0 ≡ alpha →
            {w : ℕ} →
            w ≡ lowest_end (length owners) offsets targets v (take ((base + s) - base) (drop base work)) →
            {row : ℕ} →
            row ≡ entries (length owners) (length targets) →
            Extending owners offsets targets alpha base from before v work (set work (row + v) w)
        extending_one {alpha} o {w} found at =
            subst (λ (k : ℕ). Extending owners offsets targets alpha base from before v work (set work (k + v) w)) (sym at)
            (store_turn (entries n m) w (ready.below v member) (omega (arith, kept.long, ready.low, ready.high))
            (record {
              chosen = λ u. found ∙ ap (lowest_end n offsets targets v) (lent kept);
              kept = λ d. absurd (d (member, o));
            }))
