-- What the attractor over the work area asks for and leaves behind: all that a caller needs. The set V stands at `within`, the
-- target at `set`, and the attractor takes the target's place.
use Rattle.std.specs.Prelude.{true, false, List, ◌⊎◌, ◌≡◌, refl, ℕ, zero, suc, ◌+◌, ◌-◌, ◌≤◌, ◌<◌, eqb, length, get_or, take, drop}
use Rattle.std.proofs.Common.{inl, inr, sym, ap, subst, ◌∙◌, zero-le, le_refl, arith}
use Rattle.std.proofs.Math.ListN.{get_or-eq_default}
use Rattle.rules.specs.Counting.{Set, times}
use Rattle.rules.specs.Game.{Player, player_of, same}
use Rattle.rules.specs.Tables.{Tables, game_of, vertices, edges_in, words, targets_of, Accepted, tables_of}
use Rattle.rules.specs.Attractor.{attractor, looks_of}
use Rattle.rules.specs.Distance.{distance, attractor_entry}
use Rattle.basics.specs.Basics.{member_place, lt_or_ge}
use Rattle.basics.specs.Frame.{Beside, Below, Unchanged}
use Rattle.theory.specs.Bits.{Bits}
use Rattle.parity_game.specs.Laws.{accepted_sound, never_falls}
use Rattle.predecessors.specs.Table.{start, row, SoundEdges, Predecessors}
use Rattle.area.specs.Area.{free, words_at, set_at, entry_at, distance_at}
use Rattle.area.specs.Lent.{slice_alike}
use Rattle.attractor_counters.specs.Counters.{own_by}
use Rattle.attractor_step.specs.Taking.{Row}
pub use Rattle.attractor_look.specs.InArea.{SetsPlaced}

-- V has no bit at n or above, and holds the target
pub record Nested (n within set : ℕ) (work : List ℕ) : Type 0 where
  pub below : (v : ℕ) → set_at n within work v ≡ true → v < n
  pub part : (v : ℕ) → set_at n set work v ≡ true → set_at n within work v ≡ true

-- the predecessor table stands at the front of the work area
pub record Listed (n : ℕ) (offsets targets work : List ℕ) : Type 0 where
  pub rising : (w : ℕ) → w < n → start work w ≤ start work (w + 1)
  pub top : (w : ℕ) → w ≤ n → start work w ≤ length targets
  pub rows : (v w : ℕ) → w < n → times v (row n work w) ≡ times w (targets_of offsets targets v)
  pub sources : (w k : ℕ) → w < n → k < length (row n work w) → get_or (row n work w) k 0 < n

-- what `attract` asks for
pub record Attractable (owners offsets targets : List ℕ) (alpha within set : ℕ) (work : List ℕ) : Type 0 where
  pub placed : SetsPlaced (length owners) (length targets) within set work
  pub nested : Nested (length owners) within set work
  pub edges : SoundEdges (length owners) offsets targets
  pub listed : Listed (length owners) offsets targets work
  pub side : alpha ≤ 1

-- V and T as they were lent, and what the rules give for them
abbrev pub inside_of : Tables → ℕ → List ℕ → Set
inside_of t within before = set_at (vertices t) within before

abbrev pub target_of : Tables → ℕ → List ℕ → Set
target_of t set before = set_at (vertices t) set before

abbrev pub result : Tables → Player → ℕ → ℕ → List ℕ → Set
result t a within set before = attractor (game_of t) a (inside_of t within before) (target_of t set before)

abbrev pub far_in : Tables → Player → ℕ → ℕ → List ℕ → ℕ → ℕ
far_in t a within set before = distance (game_of t) a (inside_of t within before) (target_of t set before)

abbrev pub entry_in : Tables → Player → ℕ → ℕ → List ℕ → ℕ → ℕ
entry_in t a within set before = attractor_entry (game_of t) a (inside_of t within before) (target_of t set before)

-- an own vertex that was drawn in
abbrev pub Pulled : Tables → Player → ℕ → ℕ → List ℕ → ℕ → Type 0
Pulled t a within set before v =
    (result t a within set before v ≡ true) × (target_of t set before v ≡ false) × ((game_of t).owner v ≡ a)

-- what an attractor for player a leaves
pub record Attracted (t : Tables) (a : Player) (within set : ℕ) (before after : List ℕ) (looks : ℕ) : Type 0 where
  pub long : length after ≡ length before
  pub holds : Bits (vertices t) (result t a within set before) (words_at (vertices t) set after)
  pub met : looks ≡ looks_of (game_of t) (result t a within set before)
  -- whoever was drawn in has its distance, and where it is own the rules' entry; every other entry is as it was
  pub distances :
      (v : ℕ) →
      result t a within set before v ≡ true →
      target_of t set before v ≡ false →
      distance_at (vertices t) (edges_in t) after v ≡ far_in t a within set before v
  pub entered : (v : ℕ) → Pulled t a within set before v → entry_at (vertices t) (edges_in t)
      after v ≡ entry_in t a within set before v
  pub kept :
      (v : ℕ) →
      v < vertices t →
      (Pulled t a within set before v → ⊥) →
      entry_at (vertices t) (edges_in t) after v ≡ entry_at (vertices t) (edges_in t) before v
  -- the predecessor table is as it was, and so is every free word outside the set
  pub table : Unchanged (Below (vertices t + 1 + edges_in t)) before after
  pub rest : (i : ℕ) → free (vertices t) (edges_in t) ≤ i → Beside (words (vertices t)) set i → get_or after i 0 ≡ get_or before i 0

-- ---- laws for callers

-- the table of another work area whose first words are the same
pub listed_kept :
    (n : ℕ) (offsets targets before after : List ℕ) →
    length after ≡ length before →
    (Unchanged (Below (n + 1 + length targets)) before after) →
    Listed n offsets targets before →
    Listed n offsets targets after
listed_kept n offsets targets before after long same listed =
    record {
      rising = λ w l. let a = start_kept w (omega arith) in let b = start_kept (w + 1) (omega arith)
          in let h = listed.rising w l in omega arith;
      top = λ w l. let a = start_kept w l in let h = listed.top w l in omega arith;
      rows = λ v w l. ap (times v) (row_kept w l) ∙ listed.rows v w l;
      sources = λ w k l h. subst (λ (r : List ℕ). k < length r → get_or r k 0 < n) (sym (row_kept w l)) (listed.sources w k l) h;
    }
  where
    start_kept : (w : ℕ) → w ≤ n → start after w ≡ start before w
    start_kept w l = same w (omega arith)

    row_kept : (w : ℕ) → w < n → row n after w ≡ row n before w
    row_kept w l =
        let a = start_kept w (omega arith) in
        let b = start_kept (w + 1) (omega arith) in
        let top = listed.top (w + 1) (omega arith) in
        ap (λ (x : ℕ). take ((n + 1 + start after (w + 1)) - (n + 1 + x)) (drop (n + 1 + x) after)) a ∙
        ap (λ (x : ℕ). take ((n + 1 + x) - (n + 1 + start before w)) (drop (n + 1 + start before w) after)) b ∙
        slice_alike ((n + 1 + start before (w + 1)) - (n + 1 + start before w)) (n + 1 + start before w) before after long
        (λ i less. same (n + 1 + start before w + i) (omega arith))

-- the predecessor entries of w
pub listed_row : (n : ℕ) (offsets targets work : List ℕ) → Listed n offsets targets work → (w : ℕ) → w < n → Row n
    (targets_of offsets targets) w (row n work w)
listed_row n offsets targets work listed w l =
    record {
      small = λ v m. let (k, less, e) = member_place (row n work w) m in rw (← e) (listed.sources w k l less);
      entries = λ v. listed.rows v w l;
    }

-- own vertices are those of player alpha
pub own_is : (x alpha : ℕ) → x ≤ 1 → alpha ≤ 1 → eqb x alpha ≡ same (player_of x) (player_of alpha)
own_is zero zero h l = refl
own_is zero (suc zero) h l = refl
own_is (suc zero) zero h l = refl
own_is (suc zero) (suc zero) h l = refl
own_is (suc (suc x)) alpha h l = absurd (omega arith)
own_is zero (suc (suc y)) h l = absurd (omega arith)
own_is (suc zero) (suc (suc y)) h l = absurd (omega arith)

pub owned :
    (owners offsets targets : List ℕ) (alpha : ℕ) → alpha ≤ 1 → (priorities : List ℕ) →
    Accepted (tables_of owners priorities offsets targets) →
    (v : ℕ) →
    own_by owners alpha v ≡ same ((game_of (tables_of owners priorities offsets targets)).owner v) (player_of alpha)
unfolding game_of
owned owners offsets targets alpha side priorities ok v = own_is (get_or owners v 0) alpha (small (lt_or_ge v (length owners))) side
  where
    small : (v < length owners) ⊎ (length owners ≤ v) → get_or owners v 0 ≤ 1
    small (inl l) = (accepted_sound (tables_of owners priorities offsets targets) ok).owner_small v l
    small (inr l) = rw (get_or-eq_default owners 0 l) zero-le

-- offsets and targets of accepted tables
pub edges_sound : (t : Tables) → Accepted t → SoundEdges (vertices t) t.offsets t.targets
edges_sound t ok =
    let f = accepted_sound t ok in
    record {
      few_vertices = f.few_vertices;
      few_edges = f.few_edges;
      offset_each = f.offset_each;
      offset_first = f.offset_first;
      offset_next = f.offset_next;
      offset_last = f.offset_last;
      target_below = f.target_below;
    }

-- the table that was built stands in the work area
pub built_listed :
    (n : ℕ) (offsets targets before after : List ℕ) → Predecessors n offsets targets before after → Listed n offsets targets after
built_listed n offsets targets before after b =
    record {
      rising = next;
      top =
          λ w l.
          let grows = never_falls (start after) n next w n l (le_refl n) in
          omega (arith, b.start_last);
      rows = b.rows;
      sources = b.sources;
    }
  where
    next : (w : ℕ) → w < n → start after w ≤ start after (w + 1)
    next w l = let h = b.start_next w l in omega arith
