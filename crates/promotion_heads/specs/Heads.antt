-- A vertex of R whose priority is below p never opens R: an opponent's has no edge to a lower region, and an own one has its entry, in R.
-- So R is open where a head opens it, and own vertices of R without an entry are heads.
use Rattle.std.specs.Prelude.{Bool, true, false, ◌&&◌, not, cond, ◌≡◌, ℕ, ◌≤◌, ◌<◌, eqb, ltb}
use Rattle.std.proofs.Common.{⊎_elim, sym, ap, ◌∙◌, arith, eq-eqb, ltb-true, lt-ltb}
use Rattle.std.proofs.lemmas.Bool.{not-true}
use Rattle.rules.specs.Counting.{some, some_of}
use Rattle.rules.specs.Game.{Game, Total, Edge, parity, same}
use Rattle.rules.specs.Words.{no_entry}
use Rattle.rules.specs.Promotion.{Regions, solved_region, region_set, region_is_open, after_rounds}
use Rattle.basics.specs.Basics.{bool_cases, bool_ext, clash, and_intro, and_left, and_right, some_intro, some_elim, some_of_intro, some_of_elim}
use Rattle.theory.specs.Players.{same_true, same_false}
use Rattle.theory.specs.PromotionEntries.{mover, remaining, AttractedEntries}
use Rattle.theory.specs.PromotionRegions.{Placed}
use Rattle.theory.specs.PromotionTests.{region_in_lem}
use Rattle.theory.specs.PromotionRounds.{attracted_region, attracted_gained, attracted_rest}
use Rattle.theory.specs.PromotionStanding.{placed_here, here_region}
use Rattle.theory.specs.PromotionInside.{EntriesInside, StaysOrHead, entered_attracted}
use Rattle.theory.specs.PromotionInvariant.{Invariant}
use Rattle.theory.specs.PromotionExists.{rules_attracted}
use Rattle.theory.specs.PromotionChosen.{after_invariant}
use Rattle.theory.specs.PromotionTable.{open_at, open_read, region_read, remaining_read}

module _ {g : Game} (total : Total g) (few : g.size ≤ no_entry) (s : Regions) (placed : Placed g (remaining g s) s.region s.current)
    {σ σ' : ℕ → ℕ} (entered : EntriesInside g (remaining g s) s.region s.current σ) (drawn : AttractedEntries g s σ σ')
  where
    -- an own vertex of R goes on in R by its entry, or is a head that has none
    stays :
        (v : ℕ) →
        region_set g s v ≡ true →
        g.owner v ≡ mover s →
        StaysOrHead g (remaining g s) (attracted_region g s) σ' v
    stays v m o =
        (entered_attracted total few placed entered drawn (attracted_region g s) (attracted_gained g s) (attracted_rest g s)).own v
        (region_in_lem g s v m)
        (o ∙ ap parity (sym (attracted_gained g s v m)))

    -- **An own vertex of R that has no entry is a head.**
    pub entry_but_heads :
        (v : ℕ) → region_set g s v ≡ true → g.owner v ≡ mover s → σ' v ≡ no_entry → g.priority v ≡ s.current
    entry_but_heads v m o none =
        ⊎_elim
        (λ head. head.1 ∙ attracted_gained g s v m)
        (λ goes. let l = total.ends v (σ' v) goes.0 in absurd (omega arith))
        (stays v m o)

    -- any other has an edge into R
    pub inner_own :
        (v : ℕ) →
        region_set g s v ≡ true →
        g.owner v ≡ mover s →
        (g.priority v ≡ s.current → ⊥) →
        (w : ℕ) × Edge g v w × (region_set g s w ≡ true)
    inner_own v m o below =
        ⊎_elim
        (λ head. absurd (below (head.1 ∙ attracted_gained g s v m)))
        (λ goes.
        let (e, i, is) = goes in
        (σ' v, e, here_region g s placed (σ' v) i (is ∙ attracted_gained g s v m)))
        (stays v m o)

-- an opponent's vertex of R that is no head has no edge to a lower region
pub inner_other :
    {g : Game} (s : Regions) → Placed g (remaining g s) s.region s.current →
    (v w : ℕ) →
    region_set g s v ≡ true →
    (g.owner v ≡ mover s → ⊥) →
    (g.priority v ≡ s.current → ⊥) →
    Edge g v w →
    remaining g s w ≡ true →
    s.current ≤ attracted_region g s w
inner_other {g} s placed v w m o below e j =
    let here = placed_here g s placed in
    let is = attracted_gained g s v m in
    let i = region_in_lem g s v m in
    let most = here.high v i in
    let up = here.upward v w i (λ own. o (own ∙ ap parity is)) (omega (arith, below)) e j in
    omega arith

module _
    (g : Game)
    (total : Total g)
    (low : (v : ℕ) → v < g.size → g.priority v ≤ 255)
    (few : g.size ≤ no_entry)
    (k : ℕ)
    (t : ℕ → ℕ)
    (agrees : (v : ℕ) → v < g.size → t v ≡ attracted_region g (after_rounds g k) v)
  where
    abbrev s : Regions
    s = after_rounds g k

    abbrev p : ℕ
    p = s.current

    inv : Invariant g s s.entries
    inv = after_invariant g total low few k

    -- a vertex that makes R open is a head
    opens_head : (v : ℕ) → v < g.size → open_at g t p v ≡ true → (g.priority v ≡ p → ⊥) → ⊥
    opens_head v l opens below = ⊎_elim mine theirs (bool_cases (same (g.owner v) (mover s)))
      where
        test : Bool
        test =
            cond (same (g.owner v) (mover s)) (not (some_of (g.targets v) (λ w. eqb (t w) p)))
            (some_of (g.targets v) (λ w. ltb (t w) p))

        member : region_set g s v ≡ true
        member = region_read g total s inv.standing.small t agrees v l ∙ and_left (eqb (t v) p) test opens

        mine : same (g.owner v) (mover s) ≡ true → ⊥
        mine own =
            let (w, e, i) =
            inner_own total few s inv.standing.placed inv.entered (rules_attracted g s few) v member
            (same_true (g.owner v) (mover s) own) below in
            let none : not (some_of (g.targets v) (λ u. eqb (t u) p)) ≡ true = rw own at (and_right (eqb (t v) p) test opens) in
            clash
            (some_of_intro (g.targets v) (λ u. eqb (t u) p) w e
            (sym (region_read g total s inv.standing.small t agrees w (total.ends v w e)) ∙ i))
            (not-true (some_of (g.targets v) (λ u. eqb (t u) p)) none)

        theirs : same (g.owner v) (mover s) ≡ false → ⊥
        theirs other =
            let found : some_of (g.targets v) (λ u. ltb (t u) p) ≡ true = rw other at (and_right (eqb (t v) p) test opens) in
            let (w, e, d) = some_of_elim (g.targets v) (λ u. ltb (t u) p) found in
            let less = ltb-true (t w) p d in
            let in_size = total.ends v w e in
            let small = inv.standing.small in
            let left =
            remaining_read g total s small t agrees w in_size ∙ lt-ltb (t w) solved_region (omega arith) in
            let up = inner_other s inv.standing.placed v w member (same_false (g.owner v) (mover s) other) below e left in
            let same_there = agrees w in_size in
            omega arith

    -- **R is open where one of its heads opens it.**
    pub open_by_heads :
        region_is_open g (after_rounds g k) (region_set g (after_rounds g k)) ≡
        some g.size
        (λ v. eqb (g.priority v) (after_rounds g k).current && open_at g t (after_rounds g k).current v)
    open_by_heads =
        open_read g total s inv.standing.small t agrees ∙
        bool_ext (some g.size (open_at g t p)) (some g.size (λ v. eqb (g.priority v) p && open_at g t p v)) to from
      where
        head : (v : ℕ) → v < g.size → open_at g t p v ≡ true → eqb (g.priority v) p ≡ true
        head v l opens =
            ⊎_elim
            (λ is. is)
            (λ is. absurd (opens_head v l opens (λ e. clash (eq-eqb (g.priority v) p e) is)))
            (bool_cases (eqb (g.priority v) p))

        to : some g.size (open_at g t p) ≡ true → some g.size (λ v. eqb (g.priority v) p && open_at g t p v) ≡ true
        to has =
            let (v, l, opens) = some_elim g.size (open_at g t p) has in
            some_intro g.size (λ v. eqb (g.priority v) p && open_at g t p v) v l (and_intro (head v l opens) opens)

        from : some g.size (λ v. eqb (g.priority v) p && open_at g t p v) ≡ true → some g.size (open_at g t p) ≡ true
        from has =
            let (v, l, both) = some_elim g.size (λ v. eqb (g.priority v) p && open_at g t p v) has in
            some_intro g.size (open_at g t p) v l (and_right (eqb (g.priority v) p) _ both)
