-- Relabelling: two games that differ by their priorities alone, and whose priorities keep order and parity, have the same
-- winners, since on every walk one vertex has the highest priority in both. Any rule of compaction goes by this.
use mathlib.Core.List.{Memᴰ}
use Rattle.std.specs.Prelude.{◌⊎◌, ◌↔◌, ◌≡◌, refl, ℕ, max, ◌≤◌, ◌<◌}
use Rattle.std.proofs.Common.{inl, inr, ⊎_elim, sym, ap, subst, ◌∙◌}
use Rattle.std.proofs.Math.Nat.{max-eq_left, max-eq_right}
use Rattle.rules.specs.Counting.{Set}
use Rattle.rules.specs.Game.{Player, Game, Edge, parity}
use Rattle.rules.specs.Winning.{Walk, one, more, Step, Wins, WinningSets}
use Rattle.basics.specs.Basics.{le_or_ge, bool_ext}
use Rattle.theory.specs.Walks.{Relation, reach_map, walk_map}

-- v and w stand in the same order by p and by p'
abbrev pub InOrder : (ℕ → ℕ) → (ℕ → ℕ) → ℕ → ℕ → Type 0
InOrder p p' v w = ((p v ≤ p w) × (p' v ≤ p' w)) ⊎ ((p w ≤ p v) × (p' w ≤ p' v))

-- A walk leaves a vertex that has its highest priority both by p and by p', where the vertices that edges leave stand in the same
-- order by both.
pub highest_together :
    {p p' : ℕ → ℕ} {R : Relation} {v w m : ℕ} (P : ℕ → Type 0) →
    ((x y : ℕ) → R x y → P x) →
    ((x y : ℕ) → P x → P y → InOrder p p' x y) →
    Walk p R v w m →
    (u : ℕ) × P u × (p u ≡ m) × Walk p' R v w (p' u)
highest_together P starts order (one {v} {w} e) = (v, starts v w e, refl, one e)
highest_together {p} {p'} {R} P starts order (more {v} {w} {u = end} {m} e c) =
    let (u, holds, top, d) = highest_together P starts order c in
    ⊎_elim
    (λ (up : (p v ≤ p u) × (p' v ≤ p' u)).
    (u, holds, sym (max-eq_right up.0) ∙ ap (max (p v)) top, subst (Walk p' R v end) (max-eq_right up.1) (more e d)))
    (λ (down : (p u ≤ p v) × (p' u ≤ p' v)). (
      v,
      starts v w e,
      sym (max-eq_left down.0) ∙ ap (max (p v)) top,
      subst (Walk p' R v end) (max-eq_left down.1) (more e d),
    ))
    (order v u (starts v w e) holds)

-- two games with the same vertices, owners and edges, whose priorities stand in the same order and have the same parity
pub record Alike (g g' : Game) : Type 0 where
  pub sizes : g.size ≡ g'.size
  pub owners : (v : ℕ) → g.owner v ≡ g'.owner v
  pub targets : (v : ℕ) → g.targets v ≡ g'.targets v
  pub starts : (v w : ℕ) → Edge g v w → v < g.size
  pub order : (v w : ℕ) → v < g.size → w < g.size → InOrder g.priority g'.priority v w
  pub parities : (v : ℕ) → v < g.size → parity (g.priority v) ≡ parity (g'.priority v)

edge_moves : {g g' : Game} → Alike g g' → (v w : ℕ) → Edge g v w → Edge g' v w
edge_moves alike v w e = subst (Memᴰ w) (alike.targets v) e

size_moves : {g g' : Game} → Alike g g' → {v : ℕ} → v < g'.size → v < g.size
size_moves alike {v} l = subst (λ (n : ℕ). v < n) (sym alike.sizes) l

pub alike_sym : {g g' : Game} → Alike g g' → Alike g' g
alike_sym {g} {g'} alike =
    record {
      sizes = sym alike.sizes;
      owners = λ v. sym (alike.owners v);
      targets = λ v. sym (alike.targets v);
      starts =
          λ v w e.
          subst (λ (n : ℕ). v < n) alike.sizes (alike.starts v w (subst (Memᴰ w) (sym (alike.targets v)) e));
      order =
          λ v w lv lw.
          ⊎_elim
          (λ up. inl (up.1, up.0))
          (λ down. inr (down.1, down.0))
          (alike.order v w (size_moves alike lv) (size_moves alike lw));
      parities = λ v l. sym (alike.parities v (size_moves alike l));
    }

step_moves : {g g' : Game} {a : Player} {σ : ℕ → ℕ} → Alike g g' → (v w : ℕ) → Step g a σ v w → Step g' a σ v w
step_moves alike v w s =
    record { edge = edge_moves alike v w s.edge; fixed = λ mine. s.fixed (alike.owners v ∙ mine) }

-- who wins in the one wins in the other, by the same choice
pub alike_wins : {g g' : Game} {a : Player} {v : ℕ} → Alike g g' → Wins g a v → Wins g' a v
alike_wins {g} {g'} {a} alike won =
    record {
      choice = σ;
      fixes =
          λ v l mine. edge_moves alike v (σ v) (won.fixes v (size_moves alike l) (alike.owners v ∙ mine));
      wins =
          λ u m r c.
          let back = step_moves {a = a} {σ = σ} (alike_sym alike) in
          let (top, small, same, d) =
          highest_together (λ x. x < g'.size) (λ x y s. (alike_sym alike).starts x y s.edge) (alike_sym alike).order c in
          ap parity (sym same) ∙
          (alike_sym alike).parities top small ∙
          won.wins u (g.priority top) (reach_map back r) (walk_map back d);
    }
  where
    σ : ℕ → ℕ
    σ = won.choice

-- Games that are alike have the same winners,
pub alike_winners : {g g' : Game} → Alike g g' → (a : Player) (v : ℕ) → Wins g a v ↔ Wins g' a v
alike_winners alike a v = (alike_wins alike, alike_wins (alike_sym alike))

-- and so the same winning sets.
pub alike_winning_sets : {g g' : Game} {won : Player → Set} → Alike g g' → WinningSets g won → WinningSets g' won
alike_winning_sets alike sets a v l =
    let (sound, whole) = sets a v (size_moves alike l) in
    (λ p. alike_wins alike (sound p), λ w. whole (alike_wins (alike_sym alike) w))

-- So whatever finds the winning sets of both finds the same sets.
pub alike_answers :
    {g g' : Game} (won won' : Player → Set) →
    Alike g g' →
    WinningSets g won →
    WinningSets g' won' →
    (a : Player) (v : ℕ) →
    v < g.size →
    won a v ≡ won' a v
alike_answers won won' alike sets sets' a v l =
    let (sound, whole) = sets' a v (subst (λ (n : ℕ). v < n) alike.sizes l) in
    bool_ext (won a v) (won' a v)
    (λ m. whole (alike_wins alike ((sets a v l).0 m)))
    (λ m. (sets a v l).1 (alike_wins (alike_sym alike) (sound m)))

-- f keeps order, not strictly, and parity on the priorities that the vertices below n have
pub record KeepsOrder (n : ℕ) (priority f : ℕ → ℕ) : Type 0 where
  pub monotone : (v w : ℕ) → v < n → w < n → priority v ≤ priority w → f (priority v) ≤ f (priority w)
  pub parities : (v : ℕ) → v < n → parity (f (priority v)) ≡ parity (priority v)

pub keeps_order :
    {n : ℕ} {p f : ℕ → ℕ} → KeepsOrder n p f → (v w : ℕ) → v < n → w < n → InOrder p (λ u. f (p u)) v w
keeps_order {p} keeps v w lv lw =
    ⊎_elim
    (λ up. inl (up, keeps.monotone v w lv lw up))
    (λ down. inr (down, keeps.monotone w v lw lv down))
    (le_or_ge (p v) (p w))

-- the game with f applied to each priority
unfoldable pub relabelled : (ℕ → ℕ) → Game → Game
relabelled f g =
    record { size = g.size; owner = g.owner; priority = λ v. f (g.priority v); targets = g.targets }

pub relabelled_alike :
    (g : Game) (f : ℕ → ℕ) →
    ((v w : ℕ) → Edge g v w → v < g.size) →
    KeepsOrder g.size g.priority f →
    Alike g (relabelled f g)
unfolding relabelled
relabelled_alike g f starts keeps =
    record {
      sizes = refl;
      owners = λ v. refl;
      targets = λ v. refl;
      starts = starts;
      order = keeps_order keeps;
      parities = λ v l. sym (keeps.parities v l);
    }

-- A relabelling that keeps order and parity on the priorities in use keeps every winner.
pub relabelling_keeps_winners :
    (g : Game) (f : ℕ → ℕ) →
    ((v w : ℕ) → Edge g v w → v < g.size) →
    KeepsOrder g.size g.priority f →
    (a : Player) (v : ℕ) → Wins g a v ↔ Wins (relabelled f g) a v
relabelling_keeps_winners g f starts keeps = alike_winners (relabelled_alike g f starts keeps)
