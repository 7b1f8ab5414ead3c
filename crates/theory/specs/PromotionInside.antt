-- The entries inside the regions of priority promotion: own vertices go on in their region or are heads without an entry, and every cycle
-- inside a region is its player's. Attracting, going down and promoting keep it.
use Rattle.std.specs.Prelude.{true, false, ◌⊎◌, ◌≡◌, ℕ, ◌≤◌, ◌<◌, eqb}
use Rattle.std.proofs.Common.{inl, inr, ⊎_elim, sym, ap, ◌∙◌, le_trans, le_of_eq, eq-or-lt_of_le, arith, eqb-true}
use Rattle.std.proofs.lemmas.Bool.{eqb-false}
use Rattle.rules.specs.Counting.{Set, some_of}
use Rattle.rules.specs.Game.{Game, Edge, Total, parity}
use Rattle.rules.specs.Words.{no_entry}
use Rattle.rules.specs.Winning.{Cycle}
use Rattle.basics.specs.Basics.{bool_cases, clash, lt_or_ge, not_true_is_false, some_of_elim}
use Rattle.theory.specs.Distance.{lowest_in_found}
use Rattle.theory.specs.Walks.{Among, walk_map, cycle_splits, no_falling_cycle, first_edge, hits, highest_is}
use Rattle.theory.specs.Dominion.{Inside, GoodCycles, owner_cases, good_cycles_sub}
use Rattle.theory.specs.AttractorRank.{Ranked}
use Rattle.basics.specs.Basics.{equal_cases}
use Rattle.theory.specs.PromotionBasics.{at_region, up_to, at_intro, at_in, at_is, not_at}
use Rattle.theory.specs.PromotionEntries.{AttractsEntries, ClosesEntries}
use Rattle.theory.specs.PromotionRegions.{Placed, Promotes, Moved, lifted, reset, stayed, promoted_player, gained_in}
use Rattle.theory.specs.PromotionRegions.{gained_low, same_above}
use Rattle.theory.specs.PromotionRegions.{same_elsewhere, gained_is, placed_attracted, stays_upper, goes_up}
use Rattle.theory.specs.PromotionRegions.{placed_promoted}

-- the entry of v leads on inside v's region
abbrev pub Stays : Game → Set → (ℕ → ℕ) → (ℕ → ℕ) → ℕ → Type 0
Stays g X r σ v = Edge g v (σ v) × (X (σ v) ≡ true) × (r (σ v) ≡ r v)

-- or v is a head, a vertex whose priority is its region, and has none
abbrev pub StaysOrHead : Game → Set → (ℕ → ℕ) → (ℕ → ℕ) → ℕ → Type 0
StaysOrHead g X r σ v = ((σ v ≡ no_entry) × (g.priority v ≡ r v)) ⊎ Stays g X r σ v

-- the entries inside the regions
pub record EntriesInside (g : Game) (X : Set) (r : ℕ → ℕ) (p : ℕ) (σ : ℕ → ℕ) : Type 0 where
  -- below p there is none
  pub absent : (v : ℕ) → X v ≡ true → r v < p → σ v ≡ no_entry
  -- an own vertex goes on in its region, or is a head that has none
  pub own : (v : ℕ) → X v ≡ true → g.owner v ≡ parity (r v) → StaysOrHead g X r σ v
  pub cycles : (q : ℕ) → GoodCycles g (parity q) (at_region X r q) σ

-- the heads of region q: what has priority q
abbrev pub heads : Game → ℕ → Set
heads g q v = eqb (g.priority v) q

-- Where no priority in S is above q, a cycle in S that passes a head is good: so only those that pass none matter.
pub good_by_heads :
    {g : Game} (S : Set) (q : ℕ) (σ : ℕ → ℕ) →
    ((v : ℕ) → S v ≡ true → g.priority v ≤ q) →
    ((v m : ℕ) →
    Cycle g.priority (Among (λ u. heads g q u ≡ false) (Inside g (parity q) S σ)) v m →
    parity m ≡ parity q) →
    GoodCycles g (parity q) S σ
good_by_heads {g} S q σ top headless v m c =
    ⊎_elim
    (λ met.
    let (u, l, h) = met in
    ap parity (highest_is q (λ x y s. top x s.start) c u l (eqb-true (g.priority u) q h)))
    (headless v m)
    (hits (heads g q) c)

-- a region of heads alone has good cycles
pub good_heads :
    {g : Game} (S : Set) (q : ℕ) (σ : ℕ → ℕ) → ((v : ℕ) → S v ≡ true → g.priority v ≡ q) → GoodCycles g (parity q) S σ
good_heads {g} S q σ all =
    good_by_heads S q σ
    (λ v i. le_of_eq (all v i))
    (λ v m c.
    let s = (first_edge c).1 in absurd (eqb-false (g.priority v) q s.start (all v s.edge.start)))

-- a vertex is not the entry for none
pub edge_entry : {g : Game} {v w : ℕ} → Total g → g.size ≤ no_entry → Edge g v w → w ≡ no_entry → ⊥
edge_entry {g} {v} {w} total small e is = let l = total.ends v w e in omega arith

-- starting afresh: no entry, and each region is the priority
pub entered_afresh :
    {g : Game} {X : Set} {r : ℕ → ℕ} {p : ℕ} {σ : ℕ → ℕ} →
    ((v : ℕ) → X v ≡ true → r v ≡ g.priority v) →
    ((v : ℕ) → X v ≡ true → σ v ≡ no_entry) →
    EntriesInside g X r p σ
entered_afresh {g} {X} {r} {p} {σ} same none =
    record {
      absent = λ v i l. none v i;
      own = λ v i o. inl (none v i, sym (same v i));
      cycles =
          λ q. good_heads (at_region X r q) q σ (λ v i. sym (same v (at_in X r q v i)) ∙ at_is X r q v i);
    }

-- going down: fewer regions are below p
pub entered_lower :
    {g : Game} {X : Set} {r : ℕ → ℕ} {p : ℕ} {σ : ℕ → ℕ} (p' : ℕ) → p' < p → EntriesInside g X r p σ → EntriesInside g X r p' σ
entered_lower p' less entered =
    record {
      absent = λ v i l. entered.absent v i (omega arith);
      own = entered.own;
      cycles = entered.cycles;
    }

-- attracting

module _
    {g : Game}
    {X : Set}
    {r : ℕ → ℕ}
    {p : ℕ}
    {R : Set}
    {σ σ' : ℕ → ℕ}
    (total : Total g)
    (small : g.size ≤ no_entry)
    (placed : Placed g X r p)
    (entered : EntriesInside g X r p σ)
    (entries : AttractsEntries g X r p R σ σ')
  where
    -- an own vertex of the old region p that has an entry keeps it, and goes on in that region
    old_own :
        (v : ℕ) →
        at_region X r p v ≡ true →
        g.owner v ≡ parity p →
        ((σ v ≡ no_entry) × (g.priority v ≡ p)) ⊎ ((σ' v ≡ σ v) × Edge g v (σ v) × (at_region X r p (σ v) ≡ true))
    old_own v t o =
        let i = at_in X r p v t in
        let is = at_is X r p v t in
        ⊎_elim
        (λ head. inl (head.0, head.1 ∙ is))
        (λ goes.
        let (e, j, same) = goes in
        inr (
          entries.kept v t o,
          e,
          at_intro X r p (σ v) j (same ∙ is),
        ))
        (entered.own v i (o ∙ ap parity (sym is)))

    module _
        (r' : ℕ → ℕ)
        (gained : (v : ℕ) → R v ≡ true → r' v ≡ p)
        (rest : (v : ℕ) → X v ≡ true → R v ≡ false → r' v ≡ r v)
      where
        abbrev cert : Ranked g (parity p) (up_to X r p) (at_region X r p) R
        cert = entries.certificate

        -- outside R the entry stays
        outside : (v : ℕ) → X v ≡ true → R v ≡ false → σ' v ≡ σ v
        outside v i out = entries.elsewhere v (placed.below v i) out

        absent_attracted : (v : ℕ) → X v ≡ true → r' v < p → σ' v ≡ no_entry
        absent_attracted v i l =
            ⊎_elim
            (λ m. let e = gained v m in absurd (omega arith))
            (λ m. let e = rest v i m in outside v i m ∙ entered.absent v i (rw e at l))
            (bool_cases (R v))

        own_in : (v : ℕ) → R v ≡ true → g.owner v ≡ parity p → StaysOrHead g X r' σ' v
        own_in v m o =
            ⊎_elim
            (λ t.
            ⊎_elim
            (λ head. inl (entries.kept v t o ∙ head.0, head.1 ∙ sym (gained v m)))
            (λ goes. let (same, e, j) = goes in rw same (on v m (σ v) e (cert.closed.target (σ v) j)))
            (old_own v t o))
            (λ t.
            let (e, k, less) = cert.pulled v m t o in rw (entries.pulled v m t o) (on v m (cert.pull v) e k))
            (bool_cases (at_region X r p v))
          where
            on :
                (v : ℕ) →
                R v ≡ true →
                (w : ℕ) →
                Edge g v w →
                R w ≡ true →
                ((w ≡ no_entry) × (g.priority v ≡ r' v)) ⊎ (Edge g v w × (X w ≡ true) × (r' w ≡ r' v))
            on v m w e k = inr (e, gained_in placed cert r' gained rest w k, gained w k ∙ sym (gained v m))

        own_out : (v : ℕ) → X v ≡ true → R v ≡ false → g.owner v ≡ parity (r v) → StaysOrHead g X r' σ' v
        own_out v i out o =
            let same = rest v i out in
            let kept = outside v i out in
            ⊎_elim
            (λ head. inl (kept ∙ head.0, head.1 ∙ sym same))
            (λ goes.
            let (e, j, on) = goes in
            inr (rw (kept, same) (e, j, same_above placed cert r' gained rest (σ v) j (rw on (above e)) ∙ on)))
            (entered.own v i o)
          where
            -- a vertex outside R with an entry is above p
            above : Edge g v (σ v) → p < r v
            above e =
                ⊎_elim
                (λ l. l)
                (λ l.
                absurd
                (⊎_elim
                (λ is. clash (cert.closed.target v (at_intro X r p v i is)) out)
                (λ less. edge_entry total small e (entered.absent v i less))
                (eq-or-lt_of_le l)))
                (lt_or_ge p (r v))

        own_attracted : (v : ℕ) → X v ≡ true → g.owner v ≡ parity (r' v) → StaysOrHead g X r' σ' v
        own_attracted v i o =
            ⊎_elim
            (λ m. own_in v m (o ∙ ap parity (gained v m)))
            (λ m. own_out v i m (o ∙ ap parity (rest v i m)))
            (bool_cases (R v))

        abbrev Headless : ℕ → ℕ → Type 0
        Headless = Among (λ u. heads g p u ≡ false) (Inside g (parity p) (at_region X r' p) σ')

        -- from a vertex of the old region p that is no head the way leads on in it, by the old entries
        old_kept : (x y : ℕ) → Headless x y → at_region X r p x ≡ true → at_region X r p y ≡ true
        old_kept x y s t = ⊎_elim mine theirs (owner_cases g (parity p) x)
          where
            mine : g.owner x ≡ parity p → at_region X r p y ≡ true
            mine o =
                ⊎_elim
                (λ head. absurd (eqb-false (g.priority x) p s.start head.1))
                (λ goes. let (same, e, j) = goes in rw (s.edge.edge.fixed o ∙ same) j)
                (old_own x t o)

            theirs : (g.owner x ≡ parity p → ⊥) → at_region X r p y ≡ true
            theirs o =
                let i = at_in X r p x t in
                let is = at_is X r p x t in
                let top = placed.high x i in
                let differs = eqb-false (g.priority x) p s.start in
                let j = at_in X r' p y s.edge.end in
                let up = placed.upward x y i (λ k. o (k ∙ ap parity is)) (omega arith) s.edge.edge.edge j in
                let low = gained_low placed cert r' gained rest y (gained_is placed cert r' gained rest y ∙ s.edge.end) in
                at_intro X r p y j (omega arith)

        old_steps : (x y : ℕ) → Among (λ u. at_region X r p u ≡ true) Headless x y → Inside g (parity p) (at_region X r p) σ x y
        old_steps x y s =
            record {
              edge =
                  record {
                    edge = s.edge.edge.edge.edge;
                    fixed =
                        λ o.
                        ⊎_elim
                        (λ head. absurd (eqb-false (g.priority x) p s.edge.start head.1))
                        (λ goes. s.edge.edge.edge.fixed o ∙ goes.0)
                        (old_own x s.start o);
                  };
              start = s.start;
              end = s.end;
            }

        -- outside the old region p the way sinks in rank
        new_sinks : (x y : ℕ) → Among (λ u. at_region X r p u ≡ false) Headless x y → cert.rank y < cert.rank x
        new_sinks x y s = ⊎_elim mine theirs (owner_cases g (parity p) x)
          where
            member : (u : ℕ) → at_region X r' p u ≡ true → R u ≡ true
            member u t = gained_is placed cert r' gained rest u ∙ t

            in_x : R x ≡ true
            in_x = member x s.edge.edge.start

            in_y : R y ≡ true
            in_y = member y s.edge.edge.end

            mine : g.owner x ≡ parity p → cert.rank y < cert.rank x
            mine o =
                let (e, k, less) = cert.pulled x in_x s.start o in
                rw (s.edge.edge.edge.fixed o ∙ entries.pulled x in_x s.start o) less

            theirs : (g.owner x ≡ parity p → ⊥) → cert.rank y < cert.rank x
            theirs o = (cert.pushed x in_x s.start o y s.edge.edge.edge.edge (cert.inside y in_y)).1

        -- so a cycle of the new region p passes a head or lies in the old one
        cycles_here : GoodCycles g (parity p) (at_region X r' p) σ'
        cycles_here =
            good_by_heads
            (at_region X r' p)
            p
            σ'
            (λ v t.
            le_trans
            ((placed_attracted placed cert r' gained rest).high v (at_in X r' p v t))
            (le_of_eq (at_is X r' p v t)))
            (λ v m c.
            ⊎_elim
            (λ c₁. entered.cycles p v m (walk_map old_steps c₁))
            (λ c₂. absurd (no_falling_cycle cert.rank new_sinks c₂))
            (cycle_splits (at_region X r p) old_kept c))

        cycles_above : (q : ℕ) → p < q → GoodCycles g (parity q) (at_region X r' q) σ'
        cycles_above q l =
            good_cycles_sub
            (at_region X r q)
            (at_region X r' q)
            σ
            σ'
            (λ v t.
            let i = at_in X r' q v t in
            let is = at_is X r' q v t in
            let same = same_elsewhere placed cert r' gained rest v i (λ e. omega arith) in
            at_intro X r q v i (sym same ∙ is))
            (λ v t o.
            let i = at_in X r' q v t in
            let is = at_is X r' q v t in
            ⊎_elim (λ m. let e = gained v m in absurd (omega arith)) (λ m. outside v i m) (bool_cases (R v)))
            (entered.cycles q)

        cycles_attracted : (q : ℕ) → GoodCycles g (parity q) (at_region X r' q) σ'
        cycles_attracted q = ⊎_elim (cycles_above q) here_or_below (lt_or_ge p q)
          where
            here_or_below : q ≤ p → GoodCycles g (parity q) (at_region X r' q) σ'
            here_or_below l =
                ⊎_elim
                (λ e. rw e cycles_here)
                (λ less.
                good_heads
                (at_region X r' q)
                q
                σ'
                (λ v t.
                let i = at_in X r' q v t in
                let is = at_is X r' q v t in
                sym ((placed_attracted placed cert r' gained rest).fresh v i (omega arith)) ∙ is))
                (eq-or-lt_of_le l)

        -- **Attracting keeps the entries inside the regions.**
        pub entered_attracted : EntriesInside g X r' p σ'
        entered_attracted = record { absent = absent_attracted; own = own_attracted; cycles = cycles_attracted }

-- closing: own vertices of region p without an entry take one, each the lowest-numbered successor in it

module _
    {g : Game}
    {X : Set}
    {r : ℕ → ℕ}
    {p : ℕ}
    {R : Set}
    {σ σ' : ℕ → ℕ}
    (total : Total g)
    (small : g.size ≤ no_entry)
    (placed : Placed g X r p)
    (entered : EntriesInside g X r p σ)
    (is_region : (v : ℕ) → R v ≡ true → (X v ≡ true) × (r v ≡ p))
    (region_is : (v : ℕ) → X v ≡ true → r v ≡ p → R v ≡ true)
    (leads : (v : ℕ) → R v ≡ true → g.owner v ≡ parity p → some_of (g.targets v) R ≡ true)
    (fills : ClosesEntries g (parity p) R σ σ')
  where
    -- an own vertex of R is a head without an entry, or keeps its entry
    was_own :
        (v : ℕ) →
        R v ≡ true →
        g.owner v ≡ parity p →
        ((σ v ≡ no_entry) × (g.priority v ≡ p)) ⊎ ((σ' v ≡ σ v) × Edge g v (σ v) × (R (σ v) ≡ true))
    was_own v m o =
        let (i, is) = is_region v m in
        ⊎_elim
        (λ head. inl (head.0, head.1 ∙ is))
        (λ goes.
        let (e, j, on) = goes in
        inr (fills.given v m o (edge_entry total small e), e, region_is (σ v) j (on ∙ is)))
        (entered.own v i (o ∙ ap parity (sym is)))

    -- **now it has an entry in R**
    pub filled_own : (v : ℕ) → R v ≡ true → g.owner v ≡ parity p → Edge g v (σ' v) × (R (σ' v) ≡ true)
    filled_own v m o =
        ⊎_elim
        (λ head.
        let (w, e, k) = some_of_elim (g.targets v) R (leads v m o) in
        rw (fills.filled v m o head.0) (lowest_in_found g R v w (total.ends v w e) e k))
        (λ goes. let (same, e, k) = goes in rw same (e, k))
        (was_own v m o)

    -- outside region p nothing changes
    unfilled : (v : ℕ) → X v ≡ true → (r v ≡ p → ⊥) → σ' v ≡ σ v
    unfilled v i differs =
        fills.elsewhere v (placed.below v i) (not_true_is_false (R v) (λ m. differs (is_region v m).1))

    filled_stays : (v : ℕ) → X v ≡ true → g.owner v ≡ parity (r v) → StaysOrHead g X r σ' v
    filled_stays v i o = ⊎_elim inside outside (bool_cases (R v))
      where
        inside : R v ≡ true → StaysOrHead g X r σ' v
        inside m =
            let (j, is) = is_region v m in
            let (e, k) = filled_own v m (o ∙ ap parity is) in
            let (i', is') = is_region (σ' v) k in
            inr (e, i', is' ∙ sym is)

        outside : R v ≡ false → StaysOrHead g X r σ' v
        outside m = rw (fills.elsewhere v (placed.below v i) m) (entered.own v i o)

    -- a cycle of region p passes a head or goes by the old entries
    filled_steps :
        (x y : ℕ) →
        Among (λ u. heads g p u ≡ false) (Inside g (parity p) (at_region X r p) σ') x y →
        Inside g (parity p) (at_region X r p) σ x y
    filled_steps x y s =
        let t = s.edge.start in
        record {
          edge =
              record {
                edge = s.edge.edge.edge;
                fixed =
                    λ o.
                    ⊎_elim
                    (λ head. absurd (eqb-false (g.priority x) p s.start head.1))
                    (λ goes. s.edge.edge.fixed o ∙ goes.0)
                    (was_own x (region_is x (at_in X r p x t) (at_is X r p x t)) o);
              };
          start = t;
          end = s.edge.end;
        }

    filled_cycles : (q : ℕ) → GoodCycles g (parity q) (at_region X r q) σ'
    filled_cycles q = ⊎_elim here elsewhere (equal_cases q p)
      where
        here : q ≡ p → GoodCycles g (parity q) (at_region X r q) σ'
        here e =
            rw e
            (good_by_heads (at_region X r p) p σ'
            (λ v t. le_trans (placed.high v (at_in X r p v t)) (le_of_eq (at_is X r p v t)))
            (λ v m c. entered.cycles p v m (walk_map filled_steps c)))

        elsewhere : (q ≡ p → ⊥) → GoodCycles g (parity q) (at_region X r q) σ'
        elsewhere differs =
            good_cycles_sub (at_region X r q) (at_region X r q) σ σ'
            (λ v t. t)
            (λ v t o. unfilled v (at_in X r q v t) (λ is. differs (sym (at_is X r q v t) ∙ is)))
            (entered.cycles q)

    -- **Closing keeps the entries inside the regions.**
    pub entered_filled : EntriesInside g X r p σ'
    entered_filled =
        record {
          absent = λ v i l. unfilled v i (λ is. omega arith) ∙ entered.absent v i l;
          own = filled_stays;
          cycles = filled_cycles;
        }

-- promoting

module _
    {g : Game}
    {X : Set}
    {r : ℕ → ℕ}
    {p q : ℕ}
    {σ σ' : ℕ → ℕ}
    (placed : Placed g X r p)
    (entered : EntriesInside g X r p σ)
    (up : Promotes g X r p q)
    (r' : ℕ → ℕ)
    (moved : (v : ℕ) → X v ≡ true → Moved g r r' p q v)
    (going : (v : ℕ) → X v ≡ true → r v ≡ p → g.owner v ≡ parity p → Stays g X r σ v)
    (lifts : (v : ℕ) → X v ≡ true → r v ≡ p → σ' v ≡ σ v)
    (clears : (v : ℕ) → X v ≡ true → (r v ≡ p → ⊥) → r v < q → σ' v ≡ no_entry)
    (keeps : (v : ℕ) → X v ≡ true → q ≤ r v → σ' v ≡ σ v)
  where
    absent_moved : (v : ℕ) → X v ≡ true → r' v < q → Moved g r r' p q v → σ' v ≡ no_entry
    absent_moved v i l (lifted was is) = absurd (omega arith)
    absent_moved v i l (reset differs less is) = clears v i differs less
    absent_moved v i l (stayed high is) = absurd (omega arith)

    own_moved : (v : ℕ) → X v ≡ true → g.owner v ≡ parity (r' v) → Moved g r r' p q v → StaysOrHead g X r' σ' v
    own_moved v i o (lifted was is) =
        let (e, j, on) = going v i was (o ∙ ap parity is ∙ promoted_player placed up) in
        inr (rw (lifts v i was, is) (e, j, goes_up placed up r' moved (σ v) j (on ∙ was)))
    own_moved v i o (reset differs less is) = inl (clears v i differs less, sym is)
    own_moved v i o (stayed high is) =
        ⊎_elim
        (λ head. inl (keeps v i high ∙ head.0, head.1 ∙ sym is))
        (λ goes.
        let (e, j, on) = goes in
        inr (rw (keeps v i high, is) (e, j, stays_upper placed up r' moved (σ v) j (rw on high) ∙ on)))
        (entered.own v i (o ∙ ap parity is))

    high_at : (v : ℕ) → at_region X r' q v ≡ true → g.priority v ≤ q
    high_at v t = rw (at_is X r' q v t) at ((placed_promoted placed up r' moved).high v (at_in X r' q v t))

    abbrev HeadlessUp : ℕ → ℕ → Type 0
    HeadlessUp = Among (λ u. heads g q u ≡ false) (Inside g (parity q) (at_region X r' q) σ')

    -- an own vertex of the old region q that is no head goes on in it
    upper_own :
        (x : ℕ) →
        heads g q x ≡ false →
        at_region X r q x ≡ true →
        g.owner x ≡ parity q →
        (σ' x ≡ σ x) × (at_region X r q (σ x) ≡ true)
    upper_own x headless t o =
        let i = at_in X r q x t in
        let is = at_is X r q x t in
        ⊎_elim
        (λ head. absurd (eqb-false (g.priority x) q headless (head.1 ∙ is)))
        (λ goes. let (e, j, on) = goes in (keeps x i (le_of_eq (sym is)), at_intro X r q (σ x) j (on ∙ is)))
        (entered.own x i (o ∙ ap parity (sym is)))

    -- so the way leads on in the old region q, once it is there and passes no head,
    upper_kept : (x y : ℕ) → HeadlessUp x y → at_region X r q x ≡ true → at_region X r q y ≡ true
    upper_kept x y s t = ⊎_elim mine theirs (owner_cases g (parity q) x)
      where
        mine : g.owner x ≡ parity q → at_region X r q y ≡ true
        mine o =
            let (same, on) = upper_own x s.start t o in rw (s.edge.edge.fixed o ∙ same) on

        theirs : (g.owner x ≡ parity q → ⊥) → at_region X r q y ≡ true
        theirs o =
            let i = at_in X r q x t in
            let is = at_is X r q x t in
            let top = placed.high x i in
            let differs = eqb-false (g.priority x) q s.start in
            let j = at_in X r' q y s.edge.end in
            let is_y = at_is X r' q y s.edge.end in
            let more = placed.upward x y i (λ k. o (k ∙ ap parity is)) (omega arith) s.edge.edge.edge j in
            at_intro X r q y j (sym (stays_upper placed up r' moved y j (omega arith)) ∙ is_y)

    -- by the old entries,
    upper_steps : (x y : ℕ) → Among (λ u. at_region X r q u ≡ true) HeadlessUp x y → Inside g (parity q) (at_region X r q) σ x y
    upper_steps x y s =
        record {
          edge =
              record {
                edge = s.edge.edge.edge.edge;
                fixed = λ o. s.edge.edge.edge.fixed o ∙ (upper_own x s.edge.start s.start o).0;
              };
          start = s.start;
          end = s.end;
        }

    -- and outside it the way leads through the old region p
    lower_at : (v : ℕ) → at_region X r' q v ≡ true → at_region X r q v ≡ false → Moved g r r' p q v → r v ≡ p
    lower_at v t out (lifted was is) = was
    lower_at v t out (reset differs less is) =
        let is-v = at_is X r' q v t in
        let top = placed.high v (at_in X r' q v t) in absurd (omega arith)
    lower_at v t out (stayed high is) =
        absurd (not_at X r q v out (at_in X r' q v t) (sym is ∙ at_is X r' q v t))

    lower_steps : (x y : ℕ) → Among (λ u. at_region X r q u ≡ false) HeadlessUp x y → Inside g (parity p) (at_region X r p) σ x y
    lower_steps x y s =
        let i = at_in X r' q x s.edge.edge.start in
        let j = at_in X r' q y s.edge.edge.end in
        let was = lower_at x s.edge.edge.start s.start (moved x i) in
        record {
          edge =
              record {
                edge = s.edge.edge.edge.edge;
                fixed = λ o. s.edge.edge.edge.fixed (o ∙ sym (promoted_player placed up)) ∙ lifts x i was;
              };
          start = at_intro X r p x i was;
          end = at_intro X r p y j (lower_at y s.edge.edge.end s.end (moved y j));
        }

    cycles_promoted_here : GoodCycles g (parity q) (at_region X r' q) σ'
    cycles_promoted_here =
        good_by_heads (at_region X r' q) q σ' high_at
        (λ v m c.
        ⊎_elim
        (λ c₁. entered.cycles q v m (walk_map upper_steps c₁))
        (λ c₂. entered.cycles p v m (walk_map lower_steps c₂) ∙ sym (promoted_player placed up))
        (cycle_splits (at_region X r q) upper_kept c))

    above_at : (q' v : ℕ) → q < q' → X v ≡ true → r' v ≡ q' → Moved g r r' p q v → (q ≤ r v) × (r v ≡ q')
    above_at q' v l i is (lifted was is') = absurd (omega arith)
    above_at q' v l i is (reset differs less is') = let top = placed.high v i in absurd (omega arith)
    above_at q' v l i is (stayed high is') = (high, sym is' ∙ is)

    cycles_promoted_above : (q' : ℕ) → q < q' → GoodCycles g (parity q') (at_region X r' q') σ'
    cycles_promoted_above q' l =
        good_cycles_sub
        (at_region X r q')
        (at_region X r' q')
        σ
        σ'
        (λ v t. let i = at_in X r' q' v t in at_intro X r q' v i (above_at q' v l i (at_is X r' q' v t) (moved v i)).1)
        (λ v t o. let i = at_in X r' q' v t in keeps v i (above_at q' v l i (at_is X r' q' v t) (moved v i)).0)
        (entered.cycles q')

    cycles_promoted : (q' : ℕ) → GoodCycles g (parity q') (at_region X r' q') σ'
    cycles_promoted q' = ⊎_elim (cycles_promoted_above q') here_or_below (lt_or_ge q q')
      where
        here_or_below : q' ≤ q → GoodCycles g (parity q') (at_region X r' q') σ'
        here_or_below l =
            ⊎_elim
            (λ e. rw e cycles_promoted_here)
            (λ less.
            good_heads
            (at_region X r' q')
            q'
            σ'
            (λ v t.
            let i = at_in X r' q' v t in
            let is = at_is X r' q' v t in
            sym ((placed_promoted placed up r' moved).fresh v i (omega arith)) ∙ is))
            (eq-or-lt_of_le l)

    -- **A promotion keeps the entries inside the regions.**
    pub entered_promoted : EntriesInside g X r' q σ'
    entered_promoted =
        record {
          absent = λ v i l. absent_moved v i l (moved v i);
          own = λ v i o. own_moved v i o (moved v i);
          cycles = cycles_promoted;
        }
