-- The kind 22, and 25 in its place: the tests as the code makes them, and what a search over a vertex's edges tells.
use Rattle.std.specs.Prelude.{Bool, true, false, cond, ◌≡◌, length, get_or}
use Rattle.std.proofs.Math.Bool.{not}
use mathlib.Core.List.{List, Memᴰ}
use Rattle.std.proofs.Common.{⊎_elim, ◌∙◌, add-one, arith}
use Rattle.std.proofs.Math.Path.{refl, sym, ap}
use Prim.Native.Nat.{ℕ, zero, suc, ◌+◌, ◌*◌, ◌≤◌, ◌<◌}
use borrow.Author.Tests.{eqb-true, eq-eqb, ne_eqb}
use Rattle.std.proofs.Math.Dec.{eqb}
use Rattle.rules.specs.Counting.{Set, every, some_of, every_of}
use Rattle.rules.specs.Game.{Even, Odd, player_of, same}
use Rattle.rules.specs.Tables.{Tables, game_of, targets_of}
use Rattle.rules.specs.Words.{set_of, entry, no_entry}
use Rattle.rules.specs.Checker.{winner_of}
use Rattle.basics.specs.Basics.{clash, not_true_is_false, below_suc, every_intro, every_elim}
use Rattle.basics.specs.Basics.{some_of_intro, false_some_of, every_of_intro, every_of_elim}
use Rattle.accepted.specs.Tables.{edge_place, place_edge}
use Rattle.predecessors.specs.Table.{SoundEdges}
use Rattle.predecessors.specs.Steps.{offset_within}
use Rattle.search_links.specs.Leading.{get_or_within}

-- v belongs to the player whose set holds it, as the code asks
unfoldable pub own_by : List ℕ → List ℕ → ℕ → Bool
own_by owners even v = same (player_of (get_or owners v 0)) (winner_of even v)

module _ (owners even : List ℕ) (v : ℕ) where
  pub own_even : set_of even v ≡ true → eqb (get_or owners v 0) 0 ≡ own_by owners even v
  unfolding own_by
  own_even e = rw e (go (get_or owners v 0))
    where
      go : (x : ℕ) → eqb x 0 ≡ same (player_of x) Even
      go zero = refl
      go (suc x) = ne_eqb (suc x) 0 (λ e. omega arith)

  pub own_odd : set_of even v ≡ false → not (eqb (get_or owners v 0) 0) ≡ own_by owners even v
  unfolding own_by
  own_odd e = rw e (go (get_or owners v 0))
    where
      go : (x : ℕ) → not (eqb x 0) ≡ same (player_of x) Odd
      go zero = refl
      go (suc x) = ap not (ne_eqb (suc x) 0 (λ e. omega arith))

-- what 22 finds at v
unfoldable pub wrong_entry : List ℕ → List ℕ → List ℕ → List ℕ → List ℕ → Set
wrong_entry owners offsets targets even strategy v =
    cond (own_by owners even v)
    (not (some_of (targets_of offsets targets v) (eqb (entry strategy v))))
    (not (eqb (entry strategy v) no_entry))

-- every entry is none, and the number that a wrong entry then gets, 25 in the place of 22
unfoldable pub unchosen : List ℕ → Bool
unchosen strategy = every (length strategy) (λ v. eqb (entry strategy v) no_entry)

abbrev pub entry_number : List ℕ → ℕ
entry_number strategy = cond (unchosen strategy) 25 22

pub chosen_somewhere :
    (strategy : List ℕ) (u : ℕ) → u < length strategy → (get_or strategy u 0 ≡ 65535 → ⊥) → false ≡ unchosen strategy
unfolding unchosen
chosen_somewhere strategy u l d =
    sym
    (not_true_is_false (unchosen strategy)
    (λ e.
    d
    (get_or_within strategy u 0 no_entry l ∙
    eqb-true (entry strategy u) no_entry (every_elim (length strategy) (λ v. eqb (entry strategy v) no_entry) e u l))))

pub chosen_nowhere :
    (strategy : List ℕ) → ((u : ℕ) → u < length strategy → get_or strategy u 0 ≡ 65535) → true ≡ unchosen strategy
unfolding unchosen
chosen_nowhere strategy h =
    sym
    (every_intro (length strategy) (λ v. eqb (entry strategy v) no_entry)
    (λ v l. eq-eqb (entry strategy v) no_entry (sym (get_or_within strategy v 0 no_entry l) ∙ h v l)))

-- the number by what was told of the entries
pub number_is :
    (strategy : List ℕ) {told : Bool} → told ≡ unchosen strategy → (b : Bool) → told ≡ b → cond b 25 22 ≡ entry_number strategy
number_is strategy e b is = ap (λ (x : Bool). cond x 25 22) (sym is ∙ e)

pub record EntriesGiven (owners offsets targets even strategy : List ℕ) : Type 0 where
  pub edges : SoundEdges (length owners) offsets targets
  pub strategy_long : length strategy ≡ length owners
  pub even_long : length owners ≤ 64 * length even

-- the edges of v in the table of targets
module _ {n : ℕ} {offsets targets : List ℕ} (sound : SoundEdges n offsets targets) (v : ℕ) (l : v < n) where
  abbrev tables : Tables
  tables = record { owners = offsets; priorities = offsets; offsets = offsets; targets = targets }

  pub edges_end : get_or offsets (v + 1) 0 ≤ length targets
  edges_end = offset_within n offsets targets sound (v + 1) (omega arith)

  target_place :
      (w : ℕ) → Memᴰ w (targets_of offsets targets v) →
      (e : ℕ) × (get_or offsets v 0 ≤ e) × (e < get_or offsets (v + 1) 0) × (get_or targets e 0 ≡ w)
  unfolding game_of
  target_place w m = let (e, a, b, c, is) = edge_place tables v w m in (e, a, b, is)

  target_member :
      (e : ℕ) → get_or offsets v 0 ≤ e → e < get_or offsets (v + 1) 0 →
      Memᴰ (get_or targets e 0) (targets_of offsets targets v)
  unfolding game_of
  target_member e a b = place_edge tables v e a b (omega (arith, edges_end))

  pub some_target :
      (test : Set) (e : ℕ) →
      get_or offsets v 0 ≤ e →
      e < get_or offsets (v + 1) 0 →
      test (get_or targets e 0) ≡ true →
      some_of (targets_of offsets targets v) test ≡ true
  some_target test e a b p = some_of_intro (targets_of offsets targets v) test (get_or targets e 0) (target_member e a b) p

  pub no_target :
      (test : Set) (e : ℕ) →
      get_or offsets (v + 1) 0 ≤ e →
      ((i : ℕ) → get_or offsets v 0 ≤ i → i < e → test (get_or targets i 0) ≡ false) →
      some_of (targets_of offsets targets v) test ≡ false
  no_target test e a h =
      false_some_of (targets_of offsets targets v) test
      (λ w m. let (i, b, c, is) = target_place w m in sym (ap test is) ∙ h i b (omega arith))

  pub every_target :
      (test : Set) (e : ℕ) →
      get_or offsets (v + 1) 0 ≤ e →
      ((i : ℕ) → get_or offsets v 0 ≤ i → i < e → test (get_or targets i 0) ≡ true) →
      every_of (targets_of offsets targets v) test ≡ true
  every_target test e a h =
      every_of_intro (targets_of offsets targets v) test
      (λ w m. let (i, b, c, is) = target_place w m in sym (ap test is) ∙ h i b (omega arith))

  pub not_every :
      (test : Set) (e : ℕ) →
      get_or offsets v 0 ≤ e →
      e < get_or offsets (v + 1) 0 →
      test (get_or targets e 0) ≡ false →
      every_of (targets_of offsets targets v) test ≡ false
  not_every test e a b p =
      not_true_is_false (every_of (targets_of offsets targets v) test)
      (λ q. clash (every_of_elim (targets_of offsets targets v) test q (get_or targets e 0) (target_member e a b)) p)

-- one more index at which something holds
pub from_more :
    (test : ℕ → Bool) (value : Bool) (from e : ℕ) →
    ((i : ℕ) → from ≤ i → i < e → test i ≡ value) →
    test e ≡ value →
    (i : ℕ) →
    from ≤ i →
    i < e + 1 →
    test i ≡ value
from_more test value from e h p i a b = ⊎_elim (λ (q : i ≡ e). ap test q ∙ p) (λ k. h i a k) (below_suc (rw add-one at b))

module _ {owners offsets targets even strategy : List ℕ} (given : EntriesGiven owners offsets targets even strategy) (v : ℕ)
    (l : v < length owners)
  where
    pub entry_is : get_or strategy v 0 ≡ entry strategy v
    entry_is = get_or_within strategy v 0 no_entry (omega (arith, given.strategy_long))

    pub entry_other :
        own_by owners even v ≡ false → (get_or strategy v 0 ≡ 65535 → ⊥) →
        wrong_entry owners offsets targets even strategy v ≡ true
    unfolding wrong_entry
    entry_other e d = rw (e, sym entry_is, ne_eqb (get_or strategy v 0) no_entry d)

    pub entry_none :
        own_by owners even v ≡ false → get_or strategy v 0 ≡ 65535 → wrong_entry owners offsets targets even strategy v ≡ false
    unfolding wrong_entry
    entry_none e d = rw (e, sym entry_is, eq-eqb (get_or strategy v 0) no_entry d)

    pub entry_target :
        own_by owners even v ≡ true →
        (e : ℕ) →
        get_or offsets v 0 ≤ e →
        e < get_or offsets (v + 1) 0 →
        get_or targets e 0 ≡ get_or strategy v 0 →
        wrong_entry owners offsets targets even strategy v ≡ false
    unfolding wrong_entry
    entry_target o e a b is =
        rw (
          o,
          some_target given.edges v l (eqb (entry strategy v)) e a b
              (eq-eqb (entry strategy v) (get_or targets e 0) (sym entry_is ∙ sym is)),
        )

    pub entry_no_target :
        own_by owners even v ≡ true →
        (e : ℕ) →
        get_or offsets (v + 1) 0 ≤ e →
        ((i : ℕ) → get_or offsets v 0 ≤ i → i < e → eqb (get_or strategy v 0) (get_or targets i 0) ≡ false) →
        wrong_entry owners offsets targets even strategy v ≡ true
    unfolding wrong_entry
    entry_no_target o e a h =
        rw (
          o,
          no_target given.edges v l (eqb (entry strategy v)) e a
              (λ i b c. ap (λ (x : ℕ). eqb x (get_or targets i 0)) (sym entry_is) ∙ h i b c),
        )
