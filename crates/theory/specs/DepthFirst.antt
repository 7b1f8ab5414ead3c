-- Depth-first search along a relation R, with the stack written out: what every push and pop keeps, and the order of finishing that it
-- ends with. Whoever reaches a vertex through vertices that finished before it is reached from it.
use Rattle.std.proofs.Math.Bool.{true, false}
use mathlib.Core.List.Memᴰ
use mathlib.Core.List.{List, [], ◌∷◌, ◌++◌, Memᴰ}
use Rattle.std.specs.Prelude.{◌⊎◌, ◌≡◌, refl, eqb, length, get_or, take}
use Rattle.std.proofs.Common.{inl, inr, sym, ◌∙◌, le_of_lt, not-suc-le-zero, arith, eqb-true, length-append}
use Rattle.std.proofs.Math.Logic.{⊎_elim}
use Rattle.std.proofs.Math.Path.{ap}
use Prim.Native.Nat.{ℕ, zero, suc, ◌+◌, ◌<◌}
use Rattle.std.proofs.Math.Nat.{lt_irrefl}
use Rattle.std.proofs.lemmas.Bool.{eqb-false}
use Rattle.std.proofs.Math.ListN.{get_or-append}
use Rattle.std.proofs.Math.Seq.{take-append_seam, get_or-append_seam}
use Rattle.std.proofs.lemmas.List.{take-append-le}
use Rattle.rules.specs.Counting.{Set, count}
use Rattle.rules.specs.Winning.{Reach, here, step}
use Rattle.basics.specs.Basics.{bool_cases, clash, count_cong, count_none, count_le, count_strict, below_suc}
use Rattle.theory.specs.Walks.{Relation, Among, reach_append, reach_stays}

-- P holds of each entry of a list and the entries before it
abbrev pub Each : (List ℕ → ℕ → Type 0) → List ℕ → Type 0
Each P xs = (k : ℕ) → k < length xs → P (take k xs) (get_or xs k 0)

module _ (P : List ℕ → ℕ → Type 0) (xs : List ℕ) (y : ℕ) where
  -- a list with one more entry
  pub each_snoc : Each P xs → P xs y → Each P (xs ++ (y ∷ []))
  each_snoc each last k l =
      let within : k < suc (length xs) = omega (arith, length-append xs (y ∷ [])) in
      ⊎_elim
      (λ e. rw e (rw (take-append_seam xs (y ∷ []), get_or-append_seam xs y [] 0) last))
      (λ m. rw (take-append-le k xs (y ∷ []) (le_of_lt m), get_or-append xs (y ∷ []) 0 k m) (each k m))
      (below_suc within)

  pub each_init : Each P (xs ++ (y ∷ [])) → Each P xs
  each_init each k l =
      let h = each k (omega (arith, length-append xs (y ∷ []))) in
      rw (take-append-le k xs (y ∷ []) (le_of_lt l), get_or-append xs (y ∷ []) 0 k l) at h

  pub each_last : Each P (xs ++ (y ∷ [])) → P xs y
  each_last each =
      let h = each (length xs) (omega (arith, length-append xs (y ∷ []))) in
      rw (take-append_seam, get_or-append_seam) at h

-- an edge of R that starts at a vertex with the property P
pub record Leaving (P : ℕ → Type 0) (R : Relation) (v w : ℕ) : Type 0 where
  pub start : P v
  pub edge : R v w

-- w can be reached from v by a path of which all vertices but the last are in the list
abbrev pub Through : List ℕ → Relation → ℕ → ℕ → Type 0
Through vs R = Reach (Leaving (λ u. Memᴰ u vs) R)

-- each vertex of the list reaches w
abbrev pub ReachesUp : Relation → List ℕ → ℕ → Type 0
ReachesUp R below w = (u : ℕ) → Memᴰ u below → Reach R u w

-- whoever reaches w through the list is reached from w
abbrev pub ComesBack : Relation → List ℕ → ℕ → Type 0
ComesBack R before w = (x : ℕ) → Through before R x w → Reach R w x

-- the vertices visited, the stack from its bottom up, and the finished vertices in their order
pub record Search : Type 0 where
  pub visited : Set
  pub stack : List ℕ
  pub done : List ℕ

-- what the search keeps among the numbers below n
pub record Searched (R : Relation) (n : ℕ) (s : Search) : Type 0 where
  -- visited are the vertices on the stack and those finished
  pub below : (u : ℕ) → s.visited u ≡ true → u < n
  pub marked : (u : ℕ) → s.visited u ≡ true → Memᴰ u s.stack ⊎ Memᴰ u s.done
  pub on_stack : (u : ℕ) → Memᴰ u s.stack → s.visited u ≡ true
  pub finished : (u : ℕ) → Memᴰ u s.done → s.visited u ≡ true
  pub counted : length s.stack + length s.done ≡ count n s.visited
  -- each stack vertex reaches those above it
  pub chain : Each (ReachesUp R) s.stack
  -- edges of finished vertices lead to visited ones
  pub closed : (u w : ℕ) → Memᴰ u s.done → R u w → s.visited w ≡ true
  -- a stack vertex that a finished one reaches through finished ones reaches it
  pub back : (u w : ℕ) → Memᴰ u s.done → Memᴰ w s.stack → Through s.done R u w → Reach R w u
  -- whoever reaches a finished vertex through those finished before it is reached from it
  pub ordered : Each (ComesBack R) s.done

-- one more vertex is marked
pub record Marks (y : ℕ) (before after : Set) : Type 0 where
  pub new : after y ≡ true
  pub others : (u : ℕ) → (u ≡ y → ⊥) → after u ≡ before u

module _ {y : ℕ} {before after : Set} (marks : Marks y before after) where
  pub marks_cases : (u : ℕ) → after u ≡ true → (u ≡ y) ⊎ (before u ≡ true)
  marks_cases u p =
      ⊎_elim
      (λ e. inl (eqb-true u y e))
      (λ e. inr (sym (marks.others u (eqb-false u y e)) ∙ p))
      (bool_cases (eqb u y))

  pub marks_keeps : (u : ℕ) → before u ≡ true → after u ≡ true
  marks_keeps u p =
      ⊎_elim
      (λ e. ap after (eqb-true u y e) ∙ marks.new)
      (λ e. marks.others u (eqb-false u y e) ∙ p)
      (bool_cases (eqb u y))

  -- one more is counted
  pub marks_count : (n : ℕ) → y < n → before y ≡ false → count n after ≡ suc (count n before)
  unfolding count
  marks_count zero l fresh = absurd (not-suc-le-zero l)
  marks_count (suc n) l fresh =
      ⊎_elim
      (λ e.
      let rest : count n after ≡ count n before =
      count_cong n after before (λ u k. marks.others u (λ q. let same : u ≡ n = q ∙ e in lt_irrefl n (rw same at k))) in
      let old : before n ≡ false = ap before (sym e) ∙ fresh in
      let now : after n ≡ true = ap after (sym e) ∙ marks.new in
      rw (rest, old, now) (omega arith))
      (λ k.
      let rest = marks_count n k fresh in
      let differ : n ≡ y → ⊥ = λ q. lt_irrefl n (rw (sym q) at k) in
      rw (rest, marks.others n differ) (omega arith))
      (below_suc l)

-- a member of a list with one more entry
snoc_cases : {u y : ℕ} (xs : List ℕ) → Memᴰ u (xs ++ (y ∷ [])) → Memᴰ u xs ⊎ (u ≡ y)
snoc_cases xs m = ⊎_elim inl (λ k. inr (Memᴰ.eq_of_singleton k)) (Memᴰ.append_cases xs m)

-- whatever a finished vertex reaches through finished ones is visited
through_visited :
    {R : Relation} {n : ℕ} {s : Search} →
    Searched R n s →
    (u w : ℕ) →
    Memᴰ u s.done →
    Through s.done R u w →
    s.visited w ≡ true
through_visited {s} k u w m r =
    reach_stays (λ x. s.visited x ≡ true) (λ x y e p. k.closed x y e.start e.edge) (k.finished u m) r

-- a path through a list with one more entry stays within the list, or comes to that entry through the list
through_snoc :
    {R : Relation} {t : ℕ} (xs : List ℕ) {u w : ℕ} → Through (xs ++ (t ∷ [])) R u w → Through xs R u w ⊎ Through xs R u t
through_snoc xs here = inl here
through_snoc xs (step e r) =
    ⊎_elim
    (λ m.
    ⊎_elim
    (λ q. inl (step (record { start = m; edge = e.edge }) q))
    (λ q. inr (step (record { start = m; edge = e.edge }) q))
    (through_snoc xs r))
    (λ q. inr (rw q here))
    (snoc_cases xs e.start)

-- the state with these parts
abbrev pub searching : Set → List ℕ → List ℕ → Search
searching visited stack done = record { visited = visited; stack = stack; done = done }

-- before anything is visited
pub dfs_starts : (R : Relation) (n : ℕ) (visited : Set) → ((v : ℕ) → visited v ≡ false) → Searched R n (searching visited [] [])
dfs_starts R n visited fresh =
    record {
      below = λ u p. absurd (clash p (fresh u));
      marked = λ u p. absurd (clash p (fresh u));
      on_stack = λ u m. absurd (Memᴰ.not-nil m);
      finished = λ u m. absurd (Memᴰ.not-nil m);
      counted = sym (count_none n visited (λ v l. fresh v));
      chain = λ k l. absurd (not-suc-le-zero l);
      closed = λ u w m. absurd (Memᴰ.not-nil m);
      back = λ u w m. absurd (Memᴰ.not-nil m);
      ordered = λ k l. absurd (not-suc-le-zero l);
    }

module _ {R : Relation} {n : ℕ} {visited : Set} {stack done : List ℕ} (kept : Searched R n (searching visited stack done)) where
  -- there is room for a vertex that is not yet visited
  pub dfs_room : (y : ℕ) → y < n → visited y ≡ false → length stack + length done < n
  dfs_room y l fresh =
      let more = count_strict n visited (λ v. true) (λ v k p. refl) y l fresh refl in
      let most = count_le n (λ v. true) in
      let full = kept.counted in
      omega arith

  -- a vertex that is not yet visited goes onto the stack, where each stack vertex reaches it
  pub dfs_pushes :
      (visited' : Set) (y : ℕ) →
      y < n →
      visited y ≡ false →
      ReachesUp R stack y →
      Marks y visited visited' →
      Searched R n (searching visited' (stack ++ (y ∷ [])) done)
  dfs_pushes visited' y l fresh up marks =
      record {
        below = λ u p. ⊎_elim (λ e. rw e l) (λ q. kept.below u q) (marks_cases marks u p);
        marked =
            λ u p.
            ⊎_elim
            (λ e. inl (Memᴰ.append_right stack (Memᴰ.head e)))
            (λ q. ⊎_elim (λ m. inl (Memᴰ.append_left (y ∷ []) m)) inr (kept.marked u q))
            (marks_cases marks u p);
        on_stack =
            λ u m.
            ⊎_elim
            (λ k. marks_keeps marks u (kept.on_stack u k))
            (λ e. ap visited' e ∙ marks.new)
            (snoc_cases stack m);
        finished = λ u m. marks_keeps marks u (kept.finished u m);
        counted =
            let one_more = marks_count marks n l fresh in
            let before = kept.counted in
            let long = length-append stack (y ∷ []) in
            omega arith;
        chain = each_snoc (ReachesUp R) stack y kept.chain up;
        closed = λ u w m e. marks_keeps marks w (kept.closed u w m e);
        back =
            λ u w m on r.
            ⊎_elim
            (λ k. kept.back u w m k r)
            (λ e. absurd (clash (through_visited kept u y m (rw e at r)) fresh))
            (snoc_cases stack on);
        ordered = kept.ordered;
      }

-- the top of the stack finishes, once all its edges lead to visited vertices
pub dfs_pops :
    {R : Relation} {n : ℕ} {visited : Set} {done : List ℕ} (stack : List ℕ) (t : ℕ) →
    ((w : ℕ) → R t w → visited w ≡ true) →
    Searched R n (searching visited (stack ++ (t ∷ [])) done) →
    Searched R n (searching visited stack (done ++ (t ∷ [])))
dfs_pops {R} {n} {visited} {done} stack t seen kept =
    record {
      below = kept.below;
      marked =
          λ u p.
          ⊎_elim
          (λ m.
          ⊎_elim inl (λ e. inr (Memᴰ.append_right done (Memᴰ.head e))) (snoc_cases stack m))
          (λ m. inr (Memᴰ.append_left (t ∷ []) m))
          (kept.marked u p);
      on_stack = λ u m. kept.on_stack u (Memᴰ.append_left (t ∷ []) m);
      finished =
          λ u m.
          ⊎_elim (λ k. kept.finished u k) (λ e. kept.on_stack u (rw e top)) (snoc_cases done m);
      counted =
          let before = kept.counted in
          let from = length-append stack (t ∷ []) in
          let to = length-append done (t ∷ []) in
          omega arith;
      chain = each_init (ReachesUp R) stack t kept.chain;
      closed =
          λ u w m e. ⊎_elim (λ k. kept.closed u w k e) (λ q. seen w (rw q at e)) (snoc_cases done m);
      back =
          λ u w m on r.
          ⊎_elim
          (λ k.
          ⊎_elim
          (λ q. kept.back u w k (Memᴰ.append_left (t ∷ []) on) q)
          (λ q. reach_append (up w on) (kept.back u t k top q))
          (through_snoc done r))
          (λ e. rw e (up w on))
          (snoc_cases done m);
      ordered = each_snoc (ComesBack R) done t kept.ordered comes_back;
    }
  where
    top : Memᴰ t (stack ++ (t ∷ []))
    top = Memᴰ.append_right stack (Memᴰ.head refl)

    up : ReachesUp R stack t
    up = each_last (ReachesUp R) stack t kept.chain

    comes_back : ComesBack R done t
    comes_back x r = from r r
      where
        from : {x : ℕ} → Through done R x t → Through done R x t → Reach R t x
        from {x} here whole = here
        from {x} (step e q) whole = kept.back x t e.start top whole

-- a move of the search: a new root onto an empty stack, an unvisited target of the top onto the stack, or the top, once all its
-- edges lead to visited vertices, off the stack and onto the order
pub data Move (R : ℕ → ℕ → Type 0) (n : ℕ) : Search → Search → Type 0 where
  root :
      {visited visited' : Set} {done : List ℕ} {r : ℕ} →
      r < n →
      visited r ≡ false →
      Marks r visited visited' →
      Move R n (searching visited [] done) (searching visited' (r ∷ []) done)
  push :
      {visited visited' : Set} {done : List ℕ} {y : ℕ} (below : List ℕ) (t : ℕ) →
      R t y →
      y < n →
      visited y ≡ false →
      Marks y visited visited' →
      Move R n (searching visited (below ++ (t ∷ [])) done) (searching visited' ((below ++ (t ∷ [])) ++ (y ∷ [])) done)
  pop :
      {visited : Set} {done : List ℕ} (below : List ℕ) (t : ℕ) →
      ((w : ℕ) → R t w → visited w ≡ true) →
      Move R n (searching visited (below ++ (t ∷ [])) done) (searching visited below (done ++ (t ∷ [])))

-- an order of finishing for the vertices of X: whoever reaches one of them through those before it is reached from it
pub record FinishingOrder (R : Relation) (X : Set) (order : List ℕ) : Type 0 where
  pub all : (v : ℕ) → X v ≡ true → Memᴰ v order
  pub ordered : Each (ComesBack R) order

-- **When the stack is empty and all vertices of X are visited, the finished vertices stand in such an order.**
pub dfs_done_order :
    {R : Relation} {n : ℕ} {visited X : Set} {done : List ℕ} →
    Searched R n (searching visited [] done) →
    ((v : ℕ) → X v ≡ true → visited v ≡ true) →
    FinishingOrder R X done
dfs_done_order kept all =
    record {
      all = λ v p. ⊎_elim (λ m. absurd (Memᴰ.not-nil m)) (λ m. m) (kept.marked v (all v p));
      ordered = kept.ordered;
    }

-- a path to w that keeps to the list and w comes to w through the list
pub arrives :
    {P : ℕ → Type 0} {R : Relation} {x w : ℕ} (before : List ℕ) →
    ((u : ℕ) → P u → Memᴰ u before ⊎ (u ≡ w)) →
    Reach (Among P R) x w →
    Through before R x w
arrives before keeps here = here
arrives before keeps (step {v = x} e r) =
    ⊎_elim
    (λ m. step (record { start = m; edge = e.edge }) (arrives before keeps r))
    (λ q. rw q here)
    (keeps x e.start)
