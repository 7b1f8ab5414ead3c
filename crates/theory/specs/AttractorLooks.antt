-- The looks of an attractor: the edges that end in a set, counted by their ends or by their starts.
use Rattle.std.specs.Prelude.{false, ◌||◌, cond, ◌≡◌, refl, ℕ, zero, suc, ◌+◌, ◌<◌, eqb, length}
use Rattle.std.proofs.Math.Bool.{or-false}
use mathlib.Core.List.{List, Memᴰ}
use Rattle.std.proofs.Common.{⊎_elim, sym, ap, ◌∙◌, not-le_of_lt, arith, eq-eqb, ne_eqb}
use Rattle.rules.specs.Counting.{Set}
use Rattle.rules.specs.Game.{Game, Edge, edges, Total}
use Rattle.rules.specs.Attractor.{Sources, indegree, looks_of}
use Rattle.basics.specs.Basics.{bool_cases, lt_or_ge, times_pos, times_member, times_none}
use Rattle.basics.specs.Sums.{sum, sum_cong, sum_zero, sum_swap, sum_change, sum_length, sum_times, count_of}
use Rattle.basics.specs.Sums.{gathered, gathered_past, times_gathered}

-- the rules' totals are sums
sum_elim : (n : ℕ) (f : ℕ → ℕ) → (elim n as (λ x. ℕ) [ zero ↦ 0 | suc (v → h) ↦ h + f v ]) ≡ sum n f
unfolding sum
sum_elim zero f = refl
sum_elim (suc n) f = ap (λ (k : ℕ). k + f n) (sum_elim n f)

pub indegree_sum : (g : Game) (w : ℕ) → indegree g w ≡ sum g.size (λ v. edges g v w)
unfolding indegree
indegree_sum g w = sum_elim g.size (λ v. edges g v w)

pub looks_of_sum : (g : Game) (S : Set) → looks_of g S ≡ sum g.size (λ w. cond (S w) (indegree g w) 0)
unfolding looks_of
looks_of_sum g S = sum_elim g.size (λ w. cond (S w) (indegree g w) 0)

-- the predecessor entries of w are the vertices with an edge to w
pub source_edge : (g : Game) (v w : ℕ) (sources : List ℕ) → Sources g w sources → Memᴰ v sources → Edge g v w
unfolding edges
source_edge g v w sources entries m = times_member w (g.targets v) (rw (entries v) at (times_pos v sources m))

pub edge_source : (g : Game) (v w : ℕ) (sources : List ℕ) → Sources g w sources → Edge g v w → Memᴰ v sources
unfolding edges
edge_source g v w sources entries e = times_member v sources (rw (entries v) (times_pos w (g.targets v) e))

-- the predecessor entries of w are as many as the edges that end in w
pub entries_length :
    (g : Game) →
    ((v w : ℕ) → Edge g v w → v < g.size) →
    (w : ℕ) (sources : List ℕ) →
    Sources g w sources →
    length sources ≡ indegree g w
entries_length g starts w sources entries =
    sym (sum_length g.size sources (λ v m. starts v w (source_edge g v w sources entries m))) ∙
    sum_cong g.size _ _ (λ v l. entries v) ∙
    sym (indegree_sum g w)

-- **looks counts each edge that ends in S once**: at the vertex where it starts, the targets in S
pub looks_edges : (g : Game) → Total g → (S : Set) → looks_of g S ≡ sum g.size (λ v. count_of (g.targets v) S)
unfolding edges
looks_edges g total S =
    looks_of_sum g S ∙
    sum_cong g.size _ _ (λ w l. spread w) ∙
    sum_swap g.size g.size (λ w v. cond (S w) (edges g v w) 0) ∙
    sum_cong g.size _ _ (λ v l. sum_times g.size (g.targets v) S (λ w m. total.ends v w m))
  where
    spread : (w : ℕ) → cond (S w) (indegree g w) 0 ≡ sum g.size (λ v. cond (S w) (edges g v w) 0)
    spread w =
        ⊎_elim
        (λ s. rw s (indegree_sum g w))
        (λ s. rw s (sym (sum_zero g.size)))
        (bool_cases (S w))

-- no look for the empty set
pub looks_none : (g : Game) → looks_of g (λ v. false) ≡ 0
looks_none g = looks_of_sum g (λ v. false) ∙ sum_zero g.size

-- one more vertex brings as many looks as edges end in it
pub looks_more :
    (g : Game) (S S' : Set) (x : ℕ) →
    x < g.size →
    S x ≡ false →
    ((v : ℕ) → S' v ≡ (S v || eqb v x)) →
    looks_of g S' ≡ looks_of g S + indegree g x
looks_more g S S' x l new adds =
    looks_of_sum g S' ∙
    sum_change g.size (λ w. cond (S w) (indegree g w) 0) _ x (indegree g x) l at_x elsewhere ∙
    ap (λ (k : ℕ). k + indegree g x) (sym (looks_of_sum g S))
  where
    at_x : cond (S' x) (indegree g x) 0 ≡ cond (S x) (indegree g x) 0 + indegree g x
    at_x = rw (adds x, new, eq-eqb x x refl) (omega arith)

    elsewhere : (v : ℕ) → (v ≡ x → ⊥) → cond (S' v) (indegree g v) 0 ≡ cond (S v) (indegree g v) 0
    elsewhere v differs = rw (adds v, ne_eqb v x differs, or-false (S v))

-- predecessor entries of w, made from the edges
abbrev pub sources_of : Game → ℕ → List ℕ
sources_of g w = gathered g.size (λ v. edges g v w)

pub sources_of_entries : (g : Game) → ((v w : ℕ) → Edge g v w → v < g.size) → (w : ℕ) → Sources g w (sources_of g w)
unfolding edges
sources_of_entries g starts w v =
    ⊎_elim
    (λ l. times_gathered g.size (λ u. edges g u w) v l)
    (λ l.
    gathered_past g.size (λ u. edges g u w) v l ∙
    sym (times_none w (g.targets v) (λ e. not-le_of_lt (starts v w e) l)))
    (lt_or_ge v g.size)
