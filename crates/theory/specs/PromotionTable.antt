-- A round of priority promotion read off one table of regions, in which R has got region p in place: open, the region to promote to and the
-- next region below, and what the round makes of the table and of the entries. So code that keeps such a table meets the rules' round.
use Rattle.std.specs.Prelude.{true, false, ◌&&◌, ◌||◌, not, cond, ◌≡◌, refl, ℕ, zero, suc, ◌≤◌, ◌<◌}
use Rattle.std.proofs.Math.Bool.{and-false}
use Rattle.std.proofs.Common.{⊎_elim, sym, subst, subst₂, ◌∙◌, arith}
use Rattle.std.proofs.Math.Path.{ap₂, fun_ext}
use borrow.Author.Tests.{eqb-true, eq-eqb, ne_eqb, ltb-true, ltb-false, lt-ltb, le-ltb, not-true}
use Rattle.std.proofs.Math.Dec.{eqb, ltb}
use Rattle.rules.specs.Counting.{Set, some, some_of, lowest, greatest, union}
use Rattle.rules.specs.Game.{Player, Game, Total, parity, same}
use Rattle.rules.specs.Words.{no_entry}
use Rattle.rules.specs.Promotion.{Regions, solved_region, unsolved, highest_region, region_set, region_is_open, way_out, round_of, at_start}
use Rattle.rules.specs.Promotion.{after_rounds, moved_down}
use Rattle.rules.specs.Promotion.{promoted}
use Rattle.basics.specs.Basics.{not_false_is_true, false_some, lowest_none, lowest_le, within_below, some_intro, some_elim}
use Rattle.basics.specs.Basics.{some_false}
use Rattle.basics.specs.Basics.{some_of_intro, some_of_elim, lt_or_ge, bool_cases, clash, bool_ext}
use Rattle.theory.specs.Players.{false_same, same_false}
use Rattle.basics.specs.Basics.{and_intro, and_left}
use Rattle.basics.specs.Basics.{and_right, some_cong, some_of_cong, not_true_is_false}
use Rattle.theory.specs.Distance.{nearest}
use Rattle.theory.specs.AttractorRank.{Ranked, certificate_cong, certificate_is}
use Rattle.theory.specs.Attractor.{attractor_unique, attractor_is, attractor_same}
use Rattle.basics.specs.Greatest.{greatest_cong}
use Rattle.basics.specs.Basics.{lowest_cong, noted_below, noted_above}
use Rattle.theory.specs.PromotionBasics.{at_region, up_to, at_intro, at_in, at_is}
use Rattle.theory.specs.PromotionEntries.{mover, remaining, promoted_to, dominion_set, AttractsEntries, AttractedEntries}
use Rattle.theory.specs.PromotionEntries.{PromotedEntries, SolvedEntries}
use Rattle.theory.specs.PromotionTests.{unsolved_below, unsolved_intro, region_in_lem, region_out, region_certificate}
use Rattle.theory.specs.PromotionTests.{way_intro, way_elim}
use Rattle.theory.specs.PromotionTests.{promoted_small, way_at}
use Rattle.theory.specs.PromotionRounds.{Round, opening, promoting, solving, round_kind, lower_vertices, lowered_to}
use Rattle.theory.specs.PromotionRounds.{round_opens, round_promotes}
use Rattle.theory.specs.PromotionRounds.{round_solves, promoted_gained, promoted_reset, promoted_kept, attracted_region}
use Rattle.theory.specs.PromotionRounds.{attracted_gained}
use Rattle.theory.specs.PromotionRounds.{promoted_region}
use Rattle.theory.specs.PromotionStanding.{Standing, open_goes_down}

-- a vertex of region p makes it open: an own one has no target in it, or the opponent's has one below
abbrev pub open_at : Game → (ℕ → ℕ) → ℕ → Set
open_at g t p v =
    eqb (t v) p &&
    cond
    (same (g.owner v) (parity p))
    (not (some_of (g.targets v) (λ w. eqb (t w) p)))
    (some_of (g.targets v) (λ w. ltb (t w) p))

-- an opponent's vertex of region p has a target in region q
abbrev pub leads_up : Game → (ℕ → ℕ) → ℕ → ℕ → Set
leads_up g t p q v = eqb (t v) p && not (same (g.owner v) (parity p)) && some_of (g.targets v) (λ w. eqb (t w) q)

-- the lowest region above p to which that is so, or 256
abbrev pub next_above : Game → (ℕ → ℕ) → ℕ → ℕ
next_above g t p = lowest solved_region (λ q. ltb p q && some g.size (leads_up g t p q))

-- the highest region below p
abbrev pub next_below : Game → (ℕ → ℕ) → ℕ → ℕ
next_below g t p = greatest g.size (λ v. ltb (t v) p) t

-- the table before the round

round_above : (g : Game) (s : Regions) (v : ℕ) → g.size ≤ v → (round_of g s).region v ≡ solved_region
unfolding round_of moved_down
round_above g s v l = go (round_kind g s)
  where
    go : Round g s → (round_of g s).region v ≡ solved_region
    go (opening opens) = rw (opens, round_of) (noted_above solved_region g.size _ v l)
    go (promoting closed has) = rw (round_promotes g s closed has) (noted_above solved_region g.size _ v l)
    go (solving closed none) = rw (round_solves g s closed none) (noted_above solved_region g.size _ v l)

-- **At and past the last vertex the region is 256**, as in a table read with 256 past its end.
pub above_solved : (g : Game) (k v : ℕ) → g.size ≤ v → (after_rounds g k).region v ≡ solved_region
unfolding after_rounds at_start
above_solved g zero v l = noted_above solved_region g.size g.priority v l
above_solved g (suc k) v l = round_above g (after_rounds g k) v l

module _ (g : Game) (s : Regions) (t : ℕ → ℕ) (agrees : (v : ℕ) → t v ≡ s.region v) {R : Set} where
  -- **a set with a certificate by the table is the rules' R**
  pub region_table :
      Ranked g (mover s) (up_to (unsolved g t) t s.current) (at_region (unsolved g t) t s.current) R →
      (v : ℕ) →
      R v ≡ region_set g s v
  region_table cert =
      attractor_unique
      (certificate_is
      (subst
      (λ (r : ℕ → ℕ). Ranked g (mover s) (up_to (unsolved g r) r s.current) (at_region (unsolved g r) r s.current) R)
      (fun_ext agrees)
      cert))
      (certificate_is (region_certificate g s))

  -- **so entries that are attracted by the table are as the round asks**
  pub attracts_table : {σ σ' : ℕ → ℕ} → AttractsEntries g (unsolved g t) t s.current R σ σ' → AttractedEntries g s σ σ'
  attracts_table {σ} {σ'} entries =
      subst₂
      (λ (r : ℕ → ℕ) (S : Set). AttractsEntries g (unsolved g r) r s.current S σ σ')
      (fun_ext agrees)
      (fun_ext (region_table entries.certificate))
      entries

-- the table in which R has got region p

module _
    (g : Game)
    (total : Total g)
    (s : Regions)
    (small : s.current < solved_region)
    (t : ℕ → ℕ)
    (agrees : (v : ℕ) → v < g.size → t v ≡ attracted_region g s v)
  where
    -- the table has p at R and the old region elsewhere
    table_gained : (v : ℕ) → region_set g s v ≡ true → t v ≡ s.current
    table_gained v m =
        agrees v (unsolved_below g s.region v (region_in_lem g s v m)) ∙ attracted_gained g s v m

    table_rest : (v : ℕ) → v < g.size → region_set g s v ≡ false → t v ≡ s.region v
    table_rest v l out = agrees v l ∙ noted_below solved_region g.size _ v l ∙ rw out

    -- R are the vertices with p in the table
    pub region_read : (v : ℕ) → v < g.size → region_set g s v ≡ eqb (t v) s.current
    region_read v l =
        ⊎_elim
        (λ (m : region_set g s v ≡ true). m ∙ sym (eq-eqb (t v) s.current (table_gained v m)))
        (λ (m : region_set g s v ≡ false).
        m ∙ sym (ne_eqb (t v) s.current (λ e. elsewhere m (sym (table_rest v l m) ∙ e))))
        (bool_cases (region_set g s v))
      where
        elsewhere : region_set g s v ≡ false → s.region v ≡ s.current → ⊥
        elsewhere m e = region_out g s v (unsolved_intro g s.region v l (rw e small)) m e

    -- the unsolved are those with a region below 256
    pub remaining_read : (v : ℕ) → v < g.size → remaining g s v ≡ ltb (t v) solved_region
    remaining_read v l =
        ⊎_elim
        (λ (m : region_set g s v ≡ true). region_in_lem g s v m ∙ sym (lt-ltb (t v) solved_region (rw (table_gained v m) small)))
        (λ (m : region_set g s v ≡ false). rw (lt-ltb v g.size l, table_rest v l m))
        (bool_cases (region_set g s v))

    -- a solved vertex has region 256 or above
    solved_high : (v : ℕ) → v < g.size → remaining g s v ≡ false → solved_region ≤ s.region v
    solved_high v l out =
        ⊎_elim (λ k. absurd (clash (unsolved_intro g s.region v l k) out)) (λ k. k) (lt_or_ge (s.region v) solved_region)

    -- an unsolved vertex of a region below p, once R has p, is one with a region below p in the table
    lower_read :
        (w : ℕ) →
        w < g.size →
        (unsolved g (attracted_region g s) w && ltb (attracted_region g s w) s.current) ≡ ltb (t w) s.current
    lower_read w l =
        bool_ext
        (unsolved g (attracted_region g s) w && ltb (attracted_region g s w) s.current)
        (ltb (t w) s.current)
        (λ p. rw (agrees w l) (and_right (unsolved g (attracted_region g s) w) _ p))
        (λ p.
        let low : attracted_region g s w < s.current = rw (agrees w l) at (ltb-true (t w) s.current p) in
        and_intro
        (unsolved_intro g (attracted_region g s) w l (omega arith))
        (lt-ltb (attracted_region g s w) s.current low))

    -- **open, by the table**
    pub open_read : region_is_open g s (region_set g s) ≡ some g.size (open_at g t s.current)
    unfolding region_is_open
    open_read =
        some_cong g.size _ _
        (λ v l.
        rw (
          region_read v l,
          some_of_cong (g.targets v) (region_set g s) (λ w. eqb (t w) s.current) (λ w e. region_read w (total.ends v w e)),
          some_of_cong (g.targets v) _ (λ w. ltb (t w) s.current) (λ w e. lower_read w (total.ends v w e)),
        ))

    -- for q above p: a way out to region q is a target in region q of an opponent's vertex of R
    way_read :
        (q : ℕ) →
        s.current < q →
        q < solved_region →
        some g.size (λ w. way_out g s (region_set g s) w && eqb (s.region w) q) ≡ some g.size (leads_up g t s.current q)
    way_read q above top =
        bool_ext
        (some g.size (λ w. way_out g s (region_set g s) w && eqb (s.region w) q))
        (some g.size (leads_up g t s.current q))
        to
        from
      where
        to :
            some g.size (λ w. way_out g s (region_set g s) w && eqb (s.region w) q) ≡ true →
            some g.size (leads_up g t s.current q) ≡ true
        to has =
            let (w, l, c) = some_elim g.size _ has in
            let (v, m, o, e, i, out) = way_elim g s w (and_left (way_out g s (region_set g s) w) _ c) in
            let is : t w ≡ q = table_rest w l out ∙ eqb-true (s.region w) q (and_right (way_out g s (region_set g s) w) _ c) in
            some_intro g.size (leads_up g t s.current q) v
            (unsolved_below g s.region v (region_in_lem g s v m))
            (and_intro
            (and_intro (eq-eqb (t v) s.current (table_gained v m)) (rw (false_same (g.owner v) (mover s) o) refl))
            (some_of_intro (g.targets v) (λ u. eqb (t u) q) w e (eq-eqb (t w) q is)))

        from :
            some g.size (leads_up g t s.current q) ≡ true →
            some g.size (λ w. way_out g s (region_set g s) w && eqb (s.region w) q) ≡ true
        from has =
            let (v, l, c) = some_elim g.size (leads_up g t s.current q) has in
            let both = and_left (eqb (t v) s.current && not (same (g.owner v) (mover s))) _ c in
            let (w, e, d) =
            some_of_elim (g.targets v) (λ u. eqb (t u) q) (and_right (eqb (t v) s.current && not (same (g.owner v) (mover s))) _ c) in
            let m : region_set g s v ≡ true = region_read v l ∙ and_left (eqb (t v) s.current) _ both in
            let o =
            same_false (g.owner v) (mover s) (not-true (same (g.owner v) (mover s)) (and_right (eqb (t v) s.current) _ both)) in
            let k = total.ends v w e in
            let is = eqb-true (t w) q d in
            let out =
            not_true_is_false (region_set g s w) (λ n. let here = table_gained w n in omega arith) in
            let was : s.region w ≡ q = sym (table_rest w k out) ∙ is in
            let i = unsolved_intro g s.region w k (rw was top) in
            some_intro g.size (λ u. way_out g s (region_set g s) u && eqb (s.region u) q) w k
            (and_intro (way_intro g s v w m o e i out) (eq-eqb (s.region w) q was))

    -- **the region to promote to, by the table**
    pub promoted_read : promoted_to g s ≡ next_above g t s.current
    promoted_read =
        lowest_cong solved_region _ _
        (λ q k.
        ⊎_elim
        (λ (l : s.current < q). rw (lt-ltb s.current q l) (way_read q l k))
        (λ (l : q ≤ s.current). rw (le-ltb s.current q l))
        (lt_or_ge s.current q))

    -- **where R is closed there is a way out exactly when that is no solved region**
    pub some_way_read :
        region_is_open g s (region_set g s) ≡ false →
        some g.size (way_out g s (region_set g s)) ≡ ltb (next_above g t s.current) solved_region
    some_way_read closed =
        rw
        (← promoted_read)
        (bool_ext
        (some g.size (way_out g s (region_set g s)))
        (ltb (promoted_to g s) solved_region)
        (λ has. lt-ltb (promoted_to g s) solved_region (promoted_small g s closed has))
        (λ less.
        not_false_is_true
        (some g.size (way_out g s (region_set g s)))
        (λ none.
        let l = ltb-true (promoted_to g s) solved_region less in
        let gone = lowest_none solved_region (way_at g s) (false_some solved_region (way_at g s) (λ q k. no_way none q)) in
        omega arith)))
      where
        no_way : some g.size (way_out g s (region_set g s)) ≡ false → (q : ℕ) → way_at g s q ≡ false
        no_way none q =
            let nowhere =
            false_some g.size (λ w. way_out g s (region_set g s) w && eqb (s.region w) q)
            (λ w l. rw (some_false g.size (way_out g s (region_set g s)) none w l)) in
            not_true_is_false (way_at g s q) (λ has. clash (and_right (ltb s.current q) _ has) nowhere)

    -- the three rounds

    -- **An open round leaves the table as it is, and p becomes the highest region below.**
    pub table_opens :
        Standing g s →
        some g.size (open_at g t s.current) ≡ true →
        ((v : ℕ) → v < g.size → (round_of g s).region v ≡ t v) ×
        ((round_of g s).current ≡ next_below g t s.current) ×
        ((round_of g s).won ≡ s.won)
    table_opens standing opens =
        let is_open = open_read ∙ opens in
        rw
        (round_opens g s is_open (open_goes_down g s small standing.placed is_open))
        (λ v l. sym (agrees v l), lowered_read, refl)
      where
        both : (x k : ℕ) → s.current < k → (ltb x k && ltb x s.current) ≡ ltb x s.current
        both x k l =
            ⊎_elim
            (λ (less : x < s.current). rw (lt-ltb x k (omega arith)))
            (λ (more : s.current ≤ x). rw (le-ltb x s.current more) (and-false (ltb x k)))
            (lt_or_ge x s.current)

        lowered_read : lowered_to g s ≡ next_below g t s.current
        lowered_read =
            greatest_cong g.size (lower_vertices g s) (λ v. ltb (t v) s.current) (attracted_region g s) t
            (λ v l. rw (lt-ltb v g.size l, ← agrees v l) (both (t v) solved_region small))
            (λ v l. sym (agrees v l))

    promoted_region_read :
        promoted_to g s < solved_region →
        (v : ℕ) →
        v < g.size →
        promoted_region g s v ≡
        cond (eqb (t v) s.current) (promoted_to g s) (cond (ltb (t v) (promoted_to g s)) (g.priority v) (t v))
    promoted_region_read less v l =
        ⊎_elim
        (λ (m : region_set g s v ≡ true). rw (sym (region_read v l) ∙ m) (promoted_gained g s v m))
        (λ (m : region_set g s v ≡ false). rw (sym (region_read v l) ∙ m, table_rest v l m) (outside m))
        (bool_cases (region_set g s v))
      where
        outside :
            region_set g s v ≡ false →
            promoted_region g s v ≡ cond (ltb (s.region v) (promoted_to g s)) (g.priority v) (s.region v)
        outside m =
            ⊎_elim
            (λ (i : remaining g s v ≡ true).
            ⊎_elim
            (λ (k : s.region v < promoted_to g s). rw (lt-ltb (s.region v) (promoted_to g s) k) (promoted_reset g s v i m k))
            (λ (k : promoted_to g s ≤ s.region v). rw (le-ltb (s.region v) (promoted_to g s) k) (promoted_kept g s v i m k))
            (lt_or_ge (s.region v) (promoted_to g s)))
            (λ (i : remaining g s v ≡ false).
            let high = solved_high v l i in
            rw
            (le-ltb (s.region v) (promoted_to g s) (omega arith))
            (noted_below solved_region g.size _ v l ∙ rw (m, i)))
            (bool_cases (remaining g s v))

    -- **A promotion gives R region q and other regions below q their priorities back.**
    pub table_promotes :
        some g.size (open_at g t s.current) ≡ false →
        next_above g t s.current < solved_region →
        ((v : ℕ) →
        v < g.size →
        (round_of g s).region v ≡
        cond
        (eqb (t v) s.current)
        (next_above g t s.current)
        (cond (ltb (t v) (next_above g t s.current)) (g.priority v) (t v))) ×
        ((round_of g s).current ≡ next_above g t s.current) ×
        ((round_of g s).won ≡ s.won)
    table_promotes not_open less =
        let closed = open_read ∙ not_open in
        let has = some_way_read closed ∙ lt-ltb (next_above g t s.current) solved_region less in
        rw
        (round_promotes g s closed has)
        (rw (← promoted_read) (promoted_region_read (promoted_small g s closed has), refl, refl))

    -- **What a promotion does to the entries, by the table**: cleared below q outside R.
    pub promoted_entries_read :
        {σ σ' : ℕ → ℕ} →
        ((v : ℕ) →
        v < g.size →
        σ' v ≡ cond (eqb (t v) s.current) (σ v) (cond (ltb (t v) (next_above g t s.current)) no_entry (σ v))) →
        PromotedEntries g s σ σ'
    promoted_entries_read {σ} {σ'} updated =
        record {
          cleared =
              λ v i out less.
              let l = unsolved_below g s.region v i in
              new v l ∙ rw (sym (region_read v l) ∙ out, table_rest v l out, lt-ltb (s.region v) (promoted_to g s) less);
          promoted = in_region;
          higher =
              λ v i more.
              ⊎_elim
              (in_region v)
              (λ out. unmoved v (unsolved_below g s.region v i) out more)
              (bool_cases (region_set g s v));
          solved =
              λ v l out.
              let most = lowest_le solved_region (way_at g s) in
              let high = solved_high v l out in
              unmoved v l (not_true_is_false (region_set g s v) (λ m. clash (region_in_lem g s v m) out)) (omega arith);
        }
      where
        new :
            (v : ℕ) →
            v < g.size →
            σ' v ≡ cond (eqb (t v) s.current) (σ v) (cond (ltb (t v) (promoted_to g s)) no_entry (σ v))
        new v l = rw promoted_read (updated v l)

        in_region : (v : ℕ) → region_set g s v ≡ true → σ' v ≡ σ v
        in_region v m =
            let l = unsolved_below g s.region v (region_in_lem g s v m) in new v l ∙ rw (sym (region_read v l) ∙ m)

        unmoved : (v : ℕ) → v < g.size → region_set g s v ≡ false → promoted_to g s ≤ s.region v → σ' v ≡ σ v
        unmoved v l out more =
            new v l ∙ rw (sym (region_read v l) ∙ out, table_rest v l out, le-ltb (s.region v) (promoted_to g s) more)

    -- the unsolved and R by the table, as sets
    unsolved_same : (v : ℕ) → unsolved g t v ≡ remaining g s v
    unsolved_same v =
        ⊎_elim
        (λ (l : v < g.size). sym (remaining_read v l ∙ rw (lt-ltb v g.size l)))
        (λ (l : g.size ≤ v). rw (le-ltb v g.size l))
        (lt_or_ge v g.size)

    region_same : (v : ℕ) → at_region (unsolved g t) t s.current v ≡ region_set g s v
    region_same v =
        bool_ext
        (at_region (unsolved g t) t s.current v)
        (region_set g s v)
        (λ m.
        let l = unsolved_below g t v (at_in (unsolved g t) t s.current v m) in
        region_read v l ∙ eq-eqb (t v) s.current (at_is (unsolved g t) t s.current v m))
        (λ m. at_intro (unsolved g t) t s.current v (unsolved_same v ∙ region_in_lem g s v m) (table_gained v m))

    -- a set D with a certificate by the table: the attractor among the unsolved of the vertices with p
    module _ {D : Set} (cert : Ranked g (parity s.current) (unsolved g t) (at_region (unsolved g t) t s.current) D) where
      -- **it is the rules' D**
      pub dominion_read : (v : ℕ) → D v ≡ dominion_set g s v
      dominion_read v =
          attractor_unique
          (certificate_is cert)
          (attractor_is g (parity s.current) (unsolved g t) (at_region (unsolved g t) t s.current)
          (record { part = λ u m. at_in (unsolved g t) t s.current u m; below = unsolved_below g t }))
          v ∙
          attractor_same g (parity s.current) unsolved_same region_same v

      -- **A dominion solves D, and gives the rest of the unsolved their priorities back.**
      pub table_solves :
          some g.size (open_at g t s.current) ≡ false →
          solved_region ≤ next_above g t s.current →
          ((v : ℕ) →
          v < g.size →
          (round_of g s).region v ≡ cond (ltb (t v) solved_region && not (D v)) (g.priority v) solved_region) ×
          ((round_of g s).current ≡ highest_region g (round_of g s).region) ×
          ((b : Player) (v : ℕ) →
          v < g.size →
          (round_of g s).won b v ≡ cond (same (parity s.current) b) (s.won b v || D v) (s.won b v))
      table_solves not_open more =
          let closed = open_read ∙ not_open in
          let none = some_way_read closed ∙ le-ltb (next_above g t s.current) solved_region more in
          rw
          (round_solves g s closed none) (
            λ v l. noted_below solved_region g.size _ v l ∙ rw (remaining_read v l, dominion_read v),
            refl,
            λ b v l.
                ⊎_elim
                (λ (e : same (mover s) b ≡ true).
                rw e (within_below g.size (union (s.won b) (dominion_set g s)) v l ∙ rw (dominion_read v)))
                (λ (e : same (mover s) b ≡ false). rw e)
                (bool_cases (same (mover s) b)),
          )

      -- **What a dominion does to the entries, by the table.**
      pub solved_entries_read :
          {σ σ' : ℕ → ℕ} →
          ((v : ℕ) →
          D v ≡ true →
          at_region (unsolved g t) t s.current v ≡ false →
          g.owner v ≡ parity s.current →
          cert.pull v ≡ nearest g (parity s.current) (unsolved g t) (at_region (unsolved g t) t s.current) v) →
          ((v : ℕ) → D v ≡ true → (t v ≡ s.current → ⊥) → g.owner v ≡ parity s.current → σ' v ≡ cert.pull v) →
          ((v : ℕ) → v < g.size → t v ≡ s.current → g.owner v ≡ parity s.current → σ' v ≡ σ v) →
          ((v : ℕ) → v < g.size → t v < solved_region → D v ≡ false → σ' v ≡ no_entry) →
          ((v : ℕ) → v < g.size → solved_region ≤ t v → σ' v ≡ σ v) →
          SolvedEntries g s σ σ'
      unfolding certificate_cong
      solved_entries_read {σ} {σ'} near pulled kept cleared solved =
          record {
            certificate = certificate_cong unsolved_same region_same dominion_read cert;
            near =
                λ v d out o.
                near v (dominion_read v ∙ d) (region_same v ∙ out) o ∙
                ap₂ (λ (X Y : Set). nearest g (parity s.current) X Y v) (fun_ext unsolved_same) (fun_ext region_same);
            pulled =
                λ v d out o.
                let l = unsolved_below g t v (cert.inside v (dominion_read v ∙ d)) in
                pulled v (dominion_read v ∙ d) (λ e. clash (region_read v l ∙ eq-eqb (t v) s.current e) out) o;
            kept = λ v m o. kept v (unsolved_below g s.region v (region_in_lem g s v m)) (table_gained v m) o;
            cleared =
                λ v i out.
                let l = unsolved_below g s.region v i in
                cleared v l (ltb-true (t v) solved_region (sym (remaining_read v l) ∙ i)) (dominion_read v ∙ out);
            solved = λ v l out. solved v l (ltb-false (t v) solved_region (sym (remaining_read v l) ∙ out));
          }
