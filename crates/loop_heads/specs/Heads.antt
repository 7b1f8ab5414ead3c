-- The search that begins at the vertices of exactly p that a row of words marks.
use Rattle.std.specs.Prelude.{Bool, true, false, ◌&&◌, List, ◌≡◌, ℕ, ◌+◌, ◌≤◌, ◌<◌, length, get_or}
use Rattle.std.proofs.Math.Bool.{not}
use Rattle.std.proofs.Common.{inr, ⊎_elim, sym, subst, ◌∙◌, add-one, arith}
use Rattle.std.proofs.Math.Path.{ap}
use borrow.Author.Tests.{eqb-true, eqb-false, eq-eqb, ne_eqb, not-true}
use Rattle.std.proofs.Math.Dec.{eqb}
use Rattle.rules.specs.Winning.{Reach}
use Rattle.basics.specs.Basics.{clash, and_intro, and_left, and_right, below_suc, not_true_is_false}
use Rattle.theory.specs.DepthFirst.{marks_cases, marks_keeps}
use Rattle.search_rows.specs.Rows.{queue, labels, hits}
use Rattle.search_links.specs.Area.{Within, within_same, within_then, true_marked, marked_true, marked_false}
use Rattle.search_links.specs.Graph.{Graph, size, edge_count, priority, Leads}
use Rattle.backward_look.specs.Seeking.{assigned, label_word, Putable, putting}
use Rattle.breadth_first.specs.Spreading.{SpreadWay, QueueStanding, Spread, found_way, found_all}
use Rattle.breadth_first.specs.SearchBegins.{Open, standing_none, join_putable, joins}

-- v has priority p, and its word in the row is not 0
unfoldable pub head : List ℕ → ℕ → ℕ → List ℕ → ℕ → Bool
head priorities p row work v = eqb (get_or priorities v 0) p && not (eqb (get_or work (row + v) 0) 0)

module _ (priorities : List ℕ) (p row : ℕ) (work : List ℕ) (v : ℕ) where
  pub head_other : (get_or priorities v 0 ≡ p → ⊥) → false ≡ head priorities p row work v
  unfolding head
  head_other d = rw (ne_eqb (get_or priorities v 0) p d)

  pub head_exactly : get_or priorities v 0 ≡ p → not (eqb (get_or work (row + v) 0) 0) ≡ head priorities p row work v
  unfolding head
  head_exactly e = rw (eq-eqb (get_or priorities v 0) p e)

  pub head_true : head priorities p row work v ≡ true → (get_or priorities v 0 ≡ p) × (get_or work (row + v) 0 ≡ 0 → ⊥)
  unfolding head
  head_true h =
      let a = eqb (get_or priorities v 0) p in
      let b = not (eqb (get_or work (row + v) 0) 0) in
      (eqb-true _ _ (and_left a b h), eqb-false _ _ (not-true _ (and_right a b h)))

  pub true_head : get_or priorities v 0 ≡ p → (get_or work (row + v) 0 ≡ 0 → ⊥) → head priorities p row work v ≡ true
  unfolding head
  true_head e d = and_intro (eq-eqb (get_or priorities v 0) p e) (ap not (ne_eqb (get_or work (row + v) 0) 0 d))

-- the graph with all its vertices let in
abbrev pub among_all : Graph → Graph
among_all G = record G { top = 255 }

pub record Headable (G : Graph) (row : ℕ) (work : List ℕ) : Type 0 where
  pub tables : Open G work
  pub blank : (v : ℕ) → v < size G → label_word G work v ≡ 0
  pub small : (v : ℕ) → v < size G → priority G v ≤ G.top
  pub low : hits (size G) (edge_count G) ≤ row
  pub high : row + size G ≤ length work

-- the vertices below k that are heads stand in the queue, and no others
pub record Heading (G : Graph) (p row : ℕ) (before : List ℕ) (k : ℕ) (work : List ℕ) (end : ℕ) : Type 0 where
  pub within : Within (queue (size G) (edge_count G)) (hits (size G) (edge_count G)) before work
  pub standing : QueueStanding G work 0 end
  pub heads : (u : ℕ) → assigned G work u ≡ true → (u < k) × (head G.priorities p row before u ≡ true)
  pub all : (u : ℕ) → u < k → head G.priorities p row before u ≡ true → assigned G work u ≡ true

-- what has a word has a way to a head, and what reaches a head has a word
pub record Headed (G : Graph) (p row : ℕ) (before after : List ℕ) : Type 0 where
  pub within : Within (queue (size G) (edge_count G)) (hits (size G) (edge_count G)) before after
  pub ways :
      (u : ℕ) → assigned G after u ≡ true →
      (vs : List ℕ) × (way : SpreadWay G after u vs) × (length vs ≤ size G) × (head G.priorities p row before way.last ≡ true)
  pub all :
      {u x : ℕ} → Reach (Leads G) u x → x < size G → head G.priorities p row before x ≡ true → assigned G after u ≡ true

-- the row by what it is equal to
pub headable_as : {G : Graph} {work : List ℕ} {row row' : ℕ} → row ≡ row' → Headable G row' work → Headable G row work
headable_as {G} {work} e h = subst (λ (k : ℕ). Headable G k work) (sym e) h

pub headed_as : {G : Graph} {p row row' : ℕ} {before after : List ℕ} → row ≡ row' → Headed G p row before after → Headed G p row' before after
headed_as {G} {p} {before = before} {after = after} e h = subst (λ (k : ℕ). Headed G p k before after) e h

module _ (G : Graph) (p row : ℕ) (before : List ℕ) (given : Headable G row before) where
  pub heading_none : Heading G p row before 0 before 0
  heading_none =
      record {
        within = within_same _ _ before;
        standing = standing_none G before given.tables given.blank;
        heads =
            λ u q.
            let (l, d) = marked_true (size G) (labels (size G) (edge_count G)) before u q in absurd (d (given.blank u l));
        all = λ u l. absurd (omega arith);
      }

  module _ (k : ℕ) (work : List ℕ) (end : ℕ) (h : Heading G p row before k work end) (less : k < size G) where
    -- the row is as it was
    pub row_kept : head G.priorities p row work k ≡ head G.priorities p row before k
    unfolding head
    row_kept =
        ap (λ (w : ℕ). eqb (get_or G.priorities k 0) p && not (eqb w 0))
        (h.within.rest (row + k) (inr (omega (arith, given.low))))

    pub heading_skips : false ≡ head G.priorities p row work k → Heading G p row before (k + 1) work end
    heading_skips other =
        record {
          within = h.within;
          standing = h.standing;
          heads = λ u q. let (l, is) = h.heads u q in (omega arith, is);
          all =
              λ u l is.
              ⊎_elim
              (λ (at : u ≡ k). absurd (clash (ap (head G.priorities p row before) (sym at) ∙ is) (sym row_kept ∙ sym other)))
              (λ below. h.all u below is)
              (below_suc (rw add-one at l));
        }

    -- k has no word yet
    fresh : label_word G work k ≡ 0
    fresh =
        marked_false (size G) (labels (size G) (edge_count G)) work k less
        (not_true_is_false (assigned G work k) (λ q. let (l, is) = h.heads k q in omega arith))

    pub head_putable : Putable (labels (size G) (edge_count G)) k (queue (size G) (edge_count G)) end work
    head_putable = join_putable G work end k h.standing less (given.small k less) fresh

    pub heading_joins :
        true ≡ head G.priorities p row work k →
        Heading G p row before (k + 1)
        (putting (labels (size G) (edge_count G)) k (size G + 1) (queue (size G) (edge_count G)) end work) (end + 1)
    heading_joins is-head =
        let j = joins G work end k h.standing less (given.small k less) fresh in
        let head_k : head G.priorities p row before k ≡ true = sym row_kept ∙ sym is-head in
        record {
          within = within_then h.within j.within;
          standing = j.standing;
          heads =
              λ u q.
              ⊎_elim
              (λ (at : u ≡ k). (omega arith, ap (head G.priorities p row before) at ∙ head_k))
              (λ was. let (l, is) = h.heads u was in (omega arith, is))
              (marks_cases j.marks u q);
          all =
              λ u l is.
              ⊎_elim
              (λ (at : u ≡ k). ap (assigned G _) at ∙ j.marks.new)
              (λ below. marks_keeps j.marks u (h.all u below is))
              (below_suc (rw add-one at l));
        }

  -- all heads stand in the queue: what the search from there leaves
  pub headed : (work : List ℕ) (end : ℕ) → Heading G p row before (size G) work end → (after : List ℕ) → Spread G work after →
      Headed G p row before after
  headed work end h after s =
      record {
        within = within_then h.within s.kept.within;
        ways =
            λ u q.
            let (vs, way, short) = found_way G work after s u q in
            let word = s.kept.begun way.last way.vertex way.ends in
            let p' = true_marked (size G) (labels (size G) (edge_count G)) work way.last way.vertex (λ z. omega arith) in
            (vs, way, short, (h.heads way.last p').1);
        all = λ {u} {x} r l is. found_all G work after s r (s.kept.grows x (h.all x l is));
      }
