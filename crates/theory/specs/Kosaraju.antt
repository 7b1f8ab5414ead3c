-- Strongly connected parts in two passes: after an order of finishing, one part after another is assigned, from the last finished vertex
-- to the first. What reaches an unassigned vertex through unassigned ones is then exactly its part.
use Rattle.std.specs.Prelude.{Bool, true, false, ◌&&◌, ◌||◌, not, ◌⊎◌, ◌≡◌, ℕ, suc, ◌<◌, eqb, length, get_or, take, drop}
use mathlib.Core.List.{List, ◌∷◌, ◌++◌, Memᴰ}
use Rattle.std.proofs.Common.{inl, inr, ⊎_elim, sym, ap, ap₂, ◌∙◌, eqb-true, eq-eqb, le_refl, drop_of_length-le, drop-cons}
use Rattle.std.proofs.Math.Seq.{split_at}
use Rattle.rules.specs.Counting.{Set, some}
use Rattle.rules.specs.Game.{Game}
use Rattle.rules.specs.Winning.{Reach, here, step}
use Rattle.rules.specs.Solitaire.{Links, same_part, good_part}
use Rattle.basics.specs.Basics.{bool_cases, clash, bool_ext, and_intro, and_left, and_right, not_true_is_false, some_cong}
use Rattle.theory.specs.Walks.{Relation, Among, reach_step, reach_map}
use Rattle.theory.specs.Links.{Linked, Together, together_sym, together_trans, same_part_together, together_same_part}
use Rattle.theory.specs.DepthFirst.{FinishingOrder, Marks, marks_cases, marks_keeps, arrives}

-- the vertices assigned so far: whole parts, each with one label, which is a vertex of the part
pub record Assigned (R : Relation) (assigned : Set) (label : ℕ → ℕ) : Type 0 where
  pub whole : (u w : ℕ) → assigned u ≡ true → Together R u w → (assigned w ≡ true) × (label w ≡ label u)
  pub root : (u : ℕ) → assigned u ≡ true → Together R u (label u)

-- an edge between vertices that are not in the set
abbrev pub Outside : Set → Relation → Relation
Outside assigned R = Among (λ u. assigned u ≡ false) R

-- at first nothing is assigned
pub nothing_assigned : (R : Relation) (assigned : Set) (label : ℕ → ℕ) → ((v : ℕ) → assigned v ≡ false) → Assigned R assigned label
nothing_assigned R assigned label fresh =
    record { whole = λ u w p. absurd (clash p (fresh u)); root = λ u p. absurd (clash p (fresh u)) }

-- the order is gone through from its end: all from place i on are assigned
pub record SecondPass (R : Relation) (order : List ℕ) (i : ℕ) (assigned : Set) (label : ℕ → ℕ) : Type 0 where
  pub parts : Assigned R assigned label
  pub later : (u : ℕ) → Memᴰ u (drop i order) → assigned u ≡ true

-- what reaches the next vertex of the order through unassigned vertices is reached from it
pub unassigned_comes_back :
    {R : Relation} {X assigned : Set} {order : List ℕ} →
    ((v w : ℕ) → R v w → (X v ≡ true) × (X w ≡ true)) →
    FinishingOrder R X order →
    (i : ℕ) →
    i < length order →
    ((u : ℕ) → Memᴰ u (drop (suc i) order) → assigned u ≡ true) →
    (x : ℕ) →
    Reach (Outside assigned R) x (get_or order i 0) →
    Reach R (get_or order i 0) x
unassigned_comes_back {R} {X} {assigned} {order} ends f i l later x r =
    f.ordered i l x (arrives (take i order) earlier (reach_map at_hand r))
  where
    AtHand : ℕ → Type 0
    AtHand u = (assigned u ≡ false) × (X u ≡ true)

    at_hand : (v w : ℕ) → Outside assigned R v w → Among AtHand R v w
    at_hand v w e =
        let (p, q) = ends v w e.edge in record { edge = e.edge; start = (e.start, p); end = (e.end, q) }

    earlier : (u : ℕ) → AtHand u → Memᴰ u (take i order) ⊎ (u ≡ get_or order i 0)
    earlier u (out, p) =
        let m : Memᴰ u (take i order ++ (get_or order i 0 ∷ drop (suc i) order)) =
        rw (split_at order i 0 l) at (f.all u p) in
        ⊎_elim
        inl
        (λ k. ⊎_elim inr (λ d. absurd (clash (later u d) out)) (mathlib.Core.List.Memᴰ.cases_cons k))
        (mathlib.Core.List.Memᴰ.append_cases (take i order) m)

module _
    {R : Relation}
    {assigned : Set}
    {label : ℕ → ℕ}
    (parts : Assigned R assigned label)
    (r : ℕ)
    (fresh : assigned r ≡ false) where
  -- what is in the part of an unassigned vertex is not assigned
  part_fresh : (x : ℕ) → Together R x r → assigned x ≡ false
  part_fresh x both = not_true_is_false (assigned x) (λ p. clash (parts.whole x r p both).0 fresh)

  -- and reaches it through unassigned vertices
  pub part_outside : {x : ℕ} → Reach R x r → Reach R r x → Reach (Outside assigned R) x r
  part_outside here back = here
  part_outside (step {v = x} {w = y} e on) back =
      let back' = reach_step back e in
      step
      (record { edge = e; start = part_fresh x (step e on, back); end = part_fresh y (on, back') })
      (part_outside on back')

  -- **The unassigned vertices that reach r through unassigned vertices are exactly the part of r**, where each of them is reached
  -- from r, as it is when r is next in the order.
  pub part_exact :
      ((x : ℕ) → Reach (Outside assigned R) x r → Reach R r x) →
      (x : ℕ) →
      (Reach (Outside assigned R) x r → Together R x r) × (Together R x r → Reach (Outside assigned R) x r)
  part_exact back x = (λ q. (reach_map (λ v w e. e.edge) q, back x q), λ both. part_outside both.0 both.1)

-- the search for the part of r, backwards from r: `before` was assigned when it began, `now` is assigned, and the pending vertices
-- are those of which not every edge into them has been looked at
pub record PartSought (R : Relation) (before : Set) (r : ℕ) (now : Set) (pending : ℕ → Type 0) : Type 0 where
  pub kept : (u : ℕ) → before u ≡ true → now u ≡ true
  pub root : now r ≡ true
  -- a new vertex reaches r through vertices that were not assigned
  pub reaches : (u : ℕ) → now u ≡ true → before u ≡ false → Reach (Outside before R) u r
  -- the pending vertices are new
  pub new : (u : ℕ) → pending u → (now u ≡ true) × (before u ≡ false)
  -- an edge into a new vertex that is not pending starts at an assigned one
  pub drained : (u w : ℕ) → now w ≡ true → before w ≡ false → R u w → (now u ≡ true) ⊎ pending w

-- it begins with r alone
pub part_starts :
    {R : Relation} {before now : Set} {r : ℕ} (pending : ℕ → Type 0) →
    before r ≡ false →
    Marks r before now →
    pending r →
    ((u : ℕ) → pending u → u ≡ r) →
    PartSought R before r now pending
part_starts {R} {before} {now} {r} pending fresh marks at_r only =
    record {
      kept = marks_keeps marks;
      root = marks.new;
      reaches = λ u p q. ⊎_elim (λ e. rw e here) (λ b. absurd (clash b q)) (marks_cases marks u p);
      new = λ u p. let e = only u p in (ap now e ∙ marks.new, ap before e ∙ fresh);
      drained = λ u w p q e. ⊎_elim (λ s. inr (rw s at_r)) (λ b. absurd (clash b q)) (marks_cases marks w p);
    }

module _ {R : Relation} {before now : Set} {r : ℕ} {pending : ℕ → Type 0} (sought : PartSought R before r now pending) where
  -- when none is pending, whatever reaches r through vertices that were not assigned is new
  part_all : before r ≡ false → ((u : ℕ) → pending u → ⊥) → {x : ℕ} → Reach (Outside before R) x r → (now x ≡ true) × (before x ≡ false)
  part_all fresh none here = (sought.root, fresh)
  part_all fresh none (step {v = x} {w = y} e q) =
      let (p, out) = part_all fresh none q in
      ⊎_elim (λ a. (a, e.start)) (λ b. absurd (none y b)) (sought.drained x y p out e.edge)

  -- **When none is pending, the new vertices are exactly the part of r.**
  pub part_found :
      {label : ℕ → ℕ} →
      Assigned R before label →
      before r ≡ false →
      ((x : ℕ) → Reach (Outside before R) x r → Reach R r x) →
      ((u : ℕ) → pending u → ⊥) →
      (x : ℕ) →
      ((now x ≡ true) × (before x ≡ false) → Together R x r) × (Together R x r → (now x ≡ true) × (before x ≡ false))
  part_found parts fresh back none x = (
    λ (p, q). (part_exact parts r fresh back x).0 (sought.reaches x p q),
    λ both. part_all fresh none ((part_exact parts r fresh back x).1 both),
  )

-- So the new vertices with the label r, and those assigned before with the labels they had, are whole parts.
pub part_assigned :
    {R : Relation} {before now : Set} {label : ℕ → ℕ} (label' : ℕ → ℕ) (r : ℕ) →
    Assigned R before label →
    ((u : ℕ) → before u ≡ true → now u ≡ true) →
    ((x : ℕ) → ((now x ≡ true) × (before x ≡ false) → Together R x r) × (Together R x r → (now x ≡ true) × (before x ≡ false))) →
    ((u : ℕ) → before u ≡ true → label' u ≡ label u) →
    ((u : ℕ) → now u ≡ true → before u ≡ false → label' u ≡ r) →
    Assigned R now label'
part_assigned {R} {before} {now} {label} label' r parts kept exact old new =
    record {
      whole =
          λ u w p both.
          ⊎_elim
          (λ b. let (q, e) = parts.whole u w b both in (kept w q, old w q ∙ e ∙ sym (old u b)))
          (λ b.
          let at_r = (exact u).0 (p, b) in
          let (q, c) = (exact w).1 (together_trans (together_sym both) at_r) in
          (q, new w q c ∙ sym (new u p b)))
          (bool_cases (before u));
      root =
          λ u p.
          ⊎_elim
          (λ b. rw (old u b) (parts.root u b))
          (λ b. rw (new u p b) ((exact u).0 (p, b)))
          (bool_cases (before u));
    }

-- the second pass begins behind the order's last vertex, with nothing assigned
pub second_pass_starts :
    (R : Relation) (order : List ℕ) (assigned : Set) (label : ℕ → ℕ) →
    ((v : ℕ) → assigned v ≡ false) →
    SecondPass R order (length order) assigned label
second_pass_starts R order assigned label fresh =
    record {
      parts = nothing_assigned R assigned label fresh;
      later = λ u m. absurd (mathlib.Core.List.Memᴰ.not-nil (rw (drop_of_length-le order (le_refl (length order))) at m));
    }

module _
    {R : Relation}
    {order : List ℕ}
    {assigned : Set}
    {label : ℕ → ℕ}
    (i : ℕ)
    (l : i < length order)
    (pass : SecondPass R order (suc i) assigned label) where
  -- the vertex at place i or one after it
  at_or_after : (u : ℕ) → Memᴰ u (drop i order) → (u ≡ get_or order i 0) ⊎ Memᴰ u (drop (suc i) order)
  at_or_after u m = mathlib.Core.List.Memᴰ.cases_cons (rw (drop-cons order i 0 l) at m)

  -- a vertex that is assigned is passed over
  pub second_pass_skips : assigned (get_or order i 0) ≡ true → SecondPass R order i assigned label
  second_pass_skips p =
      record {
        parts = pass.parts;
        later = λ u m. ⊎_elim (λ e. ap assigned e ∙ p) (λ k. pass.later u k) (at_or_after u m);
      }

  -- **One that is not gets its part, found backwards, as its own.**
  pub second_pass_assigns :
      {X : Set} (now : Set) (label' : ℕ → ℕ) (pending : ℕ → Type 0) →
      ((v w : ℕ) → R v w → (X v ≡ true) × (X w ≡ true)) →
      FinishingOrder R X order →
      assigned (get_or order i 0) ≡ false →
      PartSought R assigned (get_or order i 0) now pending →
      ((u : ℕ) → pending u → ⊥) →
      ((u : ℕ) → assigned u ≡ true → label' u ≡ label u) →
      ((u : ℕ) → now u ≡ true → assigned u ≡ false → label' u ≡ get_or order i 0) →
      SecondPass R order i now label'
  second_pass_assigns now label' pending ends f fresh sought none old new =
      record {
        parts =
            part_assigned label' (get_or order i 0) pass.parts sought.kept
            (part_found sought pass.parts fresh (unassigned_comes_back ends f i l pass.later) none)
            old
            new;
        later =
            λ u m.
            ⊎_elim (λ e. ap now e ∙ sought.root) (λ k. sought.kept u (pass.later u k)) (at_or_after u m);
      }

-- when it has come to the first vertex, every vertex of X is assigned
pub second_pass_ends :
    {R : Relation} {X assigned : Set} {order : List ℕ} {label : ℕ → ℕ} →
    FinishingOrder R X order →
    SecondPass R order 0 assigned label →
    (v : ℕ) →
    X v ≡ true →
    assigned v ≡ true
second_pass_ends f pass v p = pass.later v (f.all v p)

-- **Assigned vertices have one label exactly when they are in the same part.**
pub labels_exact :
    {R : Relation} {assigned : Set} {label : ℕ → ℕ} →
    Assigned R assigned label →
    (u w : ℕ) →
    assigned u ≡ true →
    assigned w ≡ true →
    (label u ≡ label w → Together R u w) × (Together R u w → label u ≡ label w)
labels_exact parts u w p q = (
  λ e. together_trans (rw e at (parts.root u p)) (together_sym (parts.root w q)),
  λ both. sym (parts.whole u w p both).1,
)

-- The test same_part, from an assigned vertex, compares labels.
pub labels_same_part :
    (n : ℕ) (links : Links) {assigned : Set} {label : ℕ → ℕ} →
    Assigned (Linked n links) assigned label →
    (v u : ℕ) →
    v < n →
    u < n →
    assigned v ≡ true →
    same_part n links v u ≡ (assigned u && eqb (label v) (label u))
labels_same_part n links {assigned} {label} parts v u l m p =
    bool_ext
    (same_part n links v u)
    (assigned u && eqb (label v) (label u))
    (λ q.
    let (there, e) = parts.whole v u p (same_part_together n links q) in
    and_intro there (eq-eqb (label v) (label u) (sym e)))
    (λ q.
    let there = and_left (assigned u) (eqb (label v) (label u)) q in
    let e = eqb-true (label v) (label u) (and_right (assigned u) (eqb (label v) (label u)) q) in
    together_same_part n links l m ((labels_exact parts v u p there).0 e))

-- So good_part asks for a vertex of the same label that has priority p, and for a self loop or another vertex of that label.
pub labels_good_part :
    (g : Game) (links : Links) {assigned : Set} {label : ℕ → ℕ} →
    Assigned (Linked g.size links) assigned label →
    (p v : ℕ) →
    v < g.size →
    assigned v ≡ true →
    good_part g links p v ≡
    (some g.size (λ u. assigned u && eqb (label v) (label u) && eqb (g.priority u) p) &&
    (links v v || some g.size (λ u. not (eqb u v) && (assigned u && eqb (label v) (label u)))))
unfolding good_part
labels_good_part g links parts p v l at-v =
    let n = g.size in
    ap₂
    (λ (b c : Bool). b && (links v v || c))
    (some_cong n _ _
    (λ u m. ap (λ (b : Bool). b && eqb (g.priority u) p) (labels_same_part n links parts v u l m at-v)))
    (some_cong n _ _
    (λ u m. ap (λ (b : Bool). not (eqb u v) && b) (labels_same_part n links parts v u l m at-v)))
