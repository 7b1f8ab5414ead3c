-- Priority promotion always finishes: for n vertices and d different priorities at most n · (n + 2) ^ d rounds are needed. Between two dominions
-- the sizes of the regions from p up, the highest first, rise in the lexicographic order; a dominion leaves fewer unsolved.
use Rattle.std.specs.Prelude.{Bool, ◌&&◌, cond, ◌⊎◌, ◌≡◌, eqb, leb}
use Rattle.std.proofs.Math.Bool.{true, false}
use Rattle.std.proofs.Math.Logic.{inl, inr, ⊎_elim}
use Rattle.std.proofs.Math.Path.{refl, ap, subst, fun_ext}
use Rattle.std.proofs.Common.{sym, ◌∙◌, le_of_suc-le-suc, le_refl, suc-mul, eqb-true, eq-eqb, le-leb, lt-ltb}
use Prim.Native.Nat.{ℕ, zero, suc, ◌+◌, ◌*◌, ◌^◌, ◌≤◌, ◌<◌, zero-le}
use Rattle.std.proofs.Math.Nat.{mul-le-mul_right, one-mul}
use native.Mathlib.Omega.{arith}
use Rattle.std.proofs.lemmas.Bool.{lt-leb}
use Rattle.rules.specs.Counting.{Set, some, count, noted, without, lowest}
use Rattle.rules.specs.Game.{Game, Total, everywhere}
use Rattle.rules.specs.Zielonka.{highest_in}
use Rattle.rules.specs.Budget.{different_priorities}
use Rattle.rules.specs.Promotion.{Regions, solved_region, unsolved, at_start, region_set, region_is_open, way_out, round_of, after_rounds}
use Rattle.rules.specs.Promotion.{all_solved, rounds_from, rounds_needed}
use Rattle.basics.specs.Basics.{bool_cases, clash, and_intro, and_left, and_right, not_true_is_false, lt_or_ge, some_intro, some_elim, count_le}
use Rattle.basics.specs.Basics.{count_mono, count_strict, count_none, count_pos, without_left, without_right}
use Rattle.basics.specs.Basics.{IsLowest, lowest_found}
use Rattle.basics.specs.Greatest.{greatest_bounds}
use Rattle.basics.specs.Basics.{noted_below}
use Rattle.theory.specs.PromotionBasics.{at_region, at_intro, at_in, at_is, at_out}
use Rattle.theory.specs.PromotionEntries.{remaining, promoted_to, dominion_set}
use Rattle.theory.specs.PromotionRegions.{Placed, Promotes, Moved, lifted, reset, stayed, stays_upper, goes_up}
use Rattle.basics.specs.Digits.{value, Digits, value_bound, value_rises}
use Rattle.theory.specs.PromotionTests.{region_low, unsolved_below, promoted_small, region_certificate, dominion_certificate}
use Rattle.theory.specs.PromotionRounds.{lower_vertices, Round, opening, promoting, solving, round_kind, attracted_region, attracted_gained}
use Rattle.theory.specs.PromotionRounds.{attracted_rest, attracted_unsolved, solved_regions, solved_unsolved, lowered_state, promoted_state}
use Rattle.theory.specs.PromotionRounds.{solved_state, round_opens, round_promotes, round_solves, lowered_to, promoted_region, promoted_unsolved}
use Rattle.theory.specs.PromotionStanding.{Standing, standing_start, standing_round, solved_fresh, open_goes_down, lowered_less, lowered_vertex}
use Rattle.theory.specs.PromotionStanding.{placed_here, here_region, way_promotes, promotion_moves}

-- a priority of some vertex
abbrev pub used : Game → Set
used g q = some g.size (λ v. everywhere g v && eqb (g.priority v) q)

-- every region of an unsolved vertex is the priority of some vertex
abbrev pub Named : Game → Set → (ℕ → ℕ) → Type 0
Named g X r = (v : ℕ) → X v ≡ true → used g (r v) ≡ true

-- how many unsolved vertices region q has, where q is p or above
abbrev pub sizes : Game → Set → (ℕ → ℕ) → ℕ → ℕ → ℕ
sizes g X r p q = cond (leb p q) (count g.size (at_region X r q)) 0

-- the order as one number
abbrev pub progress : Game → Set → (ℕ → ℕ) → ℕ → ℕ
progress g X r p = value (g.size + 2) (used g) (sizes g X r p) (suc (highest_in g (everywhere g)))

module _ (g : Game) where
  own_used : (v : ℕ) → v < g.size → used g (g.priority v) ≡ true
  own_used v l =
      some_intro g.size _ v l (and_intro (lt-ltb v g.size l) (eq-eqb (g.priority v) (g.priority v) refl))

  used_top : (q : ℕ) → used g q ≡ true → q < suc (highest_in g (everywhere g))
  used_top q u =
      let (v, l, t) = some_elim g.size _ u in
      let e = eqb-true (g.priority v) q (and_right (everywhere g v) _ t) in
      let top = greatest_bounds g.size (everywhere g) g.priority v l (and_left (everywhere g v) _ t) in omega arith

  sizes_from : (X : Set) (r : ℕ → ℕ) (p q : ℕ) → p ≤ q → sizes g X r p q ≡ count g.size (at_region X r q)
  sizes_from X r p q l = rw (le-leb p q l)

  sizes_below : (X : Set) (r : ℕ → ℕ) (p q : ℕ) → q < p → sizes g X r p q ≡ 0
  sizes_below X r p q l = rw (lt-leb p q l)

  sizes_digits : (X : Set) (r : ℕ → ℕ) (p : ℕ) → Named g X r → Digits g.size (used g) (sizes g X r p)
  sizes_digits X r p named =
      record {
        small =
            λ q.
            ⊎_elim
            (λ (l : q < p). rw (sizes_below X r p q l) zero-le)
            (λ (l : p ≤ q). rw (sizes_from X r p q l) (count_le g.size (at_region X r q)))
            (lt_or_ge q p);
        outside =
            λ q unused.
            ⊎_elim
            (λ l. sizes_below X r p q l)
            (λ l.
            sizes_from X r p q l ∙
            count_none g.size (at_region X r q)
            (λ v k. at_out X r q v (λ i e. clash (named v i) (ap (used g) e ∙ unused))))
            (lt_or_ge q p);
      }

  -- the order rises where the regions above j lose nothing and region j gains
  progress_rises :
      (X : Set) (r r' : ℕ → ℕ) (p p' j : ℕ) →
      Named g X r →
      used g j ≡ true →
      sizes g X r p j < sizes g X r' p' j →
      ((q : ℕ) → j < q → sizes g X r p q ≤ sizes g X r' p' q) →
      progress g X r p < progress g X r' p'
  progress_rises X r r' p p' j named place more above =
      value_rises (sizes_digits X r p named) (sizes g X r' p') j more above (suc (highest_in g (everywhere g))) (used_top j place)

-- one round, with X, the unsolved vertices
module _ (g : Game) (s : Regions) (standing : Standing g s) (named : Named g (remaining g s) s.region) where
  abbrev placed : Placed g (remaining g s) s.region s.current
  placed = standing.placed

  named_attracted : Named g (remaining g s) (attracted_region g s)
  named_attracted v i =
      ⊎_elim
      (λ m.
      let (u, j, e) = placed.present v i in ap (used g) (attracted_gained g s v m ∙ sym e) ∙ named u j)
      (λ m. ap (used g) (attracted_rest g s v i m) ∙ named v i)
      (bool_cases (region_set g s v))

  -- attracting takes nothing from the regions from p up
  attracted_from :
      (q v : ℕ) →
      s.current ≤ q →
      at_region (remaining g s) s.region q v ≡ true →
      at_region (remaining g s) (attracted_region g s) q v ≡ true
  attracted_from q v l t =
      let i = at_in (remaining g s) s.region q v t in
      let is = at_is (remaining g s) s.region q v t in
      at_intro (remaining g s) (attracted_region g s) q v i
      (⊎_elim
      (λ m. let e = attracted_gained g s v m in let k = region_low g s v m in omega arith)
      (λ m. attracted_rest g s v i m ∙ is)
      (bool_cases (region_set g s v)))

  -- in an open round the next region comes to count
  opened_rises :
      region_is_open g s (region_set g s) ≡ true →
      progress g (remaining g s) s.region s.current < progress g (remaining g s) (attracted_region g s) (lowered_to g s)
  opened_rises opens =
      let X = remaining g s in
      let p = s.current in
      let r = s.region in
      let r' = attracted_region g s in
      let p' = lowered_to g s in
      let less = lowered_less g s placed standing.small opens in
      let (u, i, e, l) = lowered_vertex g s placed standing.small opens in
      progress_rises g X r r' p p' p' named
      (ap (used g) (sym e) ∙ named_attracted u i)
      (rw
      (sizes_below g X r p p' less, sizes_from g X r' p' p' (le_refl p'))
      (count_pos g.size (at_region X r' p') u (placed.below u i) (at_intro X r' p' u i e)))
      (λ q k.
      ⊎_elim
      (λ (under : q < p). rw (sizes_below g X r p q under) zero-le)
      (λ (over : p ≤ q).
      rw
      (sizes_from g X r p q over, sizes_from g X r' p' q (omega arith))
      (count_mono g.size (at_region X r q) (at_region X r' q) (λ v b t. attracted_from q v over t)))
      (lt_or_ge q p))

  -- in a promotion region q grows
  promoted_rises :
      region_is_open g s (region_set g s) ≡ false →
      some g.size (way_out g s (region_set g s)) ≡ true →
      progress g (remaining g s) s.region s.current < progress g (remaining g s) (promoted_region g s) (promoted_to g s)
  promoted_rises closed has =
      let first = less in
      progress_rises g X r r' p q q named
      (ap (used g) (sym up.to_is) ∙ named_attracted up.to up.to_in)
      (rw
      (sizes_from g X r p q (omega arith), sizes_from g X r' q q (le_refl q))
      (count_strict g.size (at_region X r q) (at_region X r' q)
      (λ v b t. kept_from q v (le_refl q) t)
      up.from
      (placed.below up.from up.from_in)
      (at_out X r q up.from (λ i e. let k = low in omega arith))
      (at_intro X r' q up.from up.from_in (goes_up here up r' moved up.from up.from_in up.from_is))))
      (λ q' k.
      rw
      (sizes_from g X r p q' (omega arith), sizes_from g X r' q q' (omega arith))
      (count_mono g.size (at_region X r q') (at_region X r' q') (λ v b t. kept_from q' v (omega arith) t)))
    where
      X : Set
      X = remaining g s

      r : ℕ → ℕ
      r = s.region

      r' : ℕ → ℕ
      r' = promoted_region g s

      p : ℕ
      p = s.current

      q : ℕ
      q = promoted_to g s

      here : Placed g X (attracted_region g s) p
      here = placed_here g s placed

      up : Promotes g X (attracted_region g s) p q
      up = way_promotes g s placed closed has

      less : p < q
      less = up.above

      moved : (v : ℕ) → X v ≡ true → Moved g (attracted_region g s) r' p q v
      moved = promotion_moves g s placed

      low : r up.from ≤ p
      low = region_low g s up.from (here_region g s placed up.from up.from_in up.from_is)

      -- a promotion takes nothing from the regions from q up
      kept_from : (k v : ℕ) → q ≤ k → at_region X r k v ≡ true → at_region X r' k v ≡ true
      kept_from k v l t =
          let first = less in
          let there = attracted_from k v (omega arith) t in
          let i = at_in X (attracted_region g s) k v there in
          let is = at_is X (attracted_region g s) k v there in
          at_intro X r' k v i (stays_upper here up r' moved v i (rw is l) ∙ is)

  -- a dominion leaves fewer unsolved
  solved_fewer :
      (v : ℕ) →
      remaining g s v ≡ true →
      count g.size (without (remaining g s) (dominion_set g s)) < count g.size (remaining g s)
  solved_fewer v i =
      let X = remaining g s in
      let D = dominion_set g s in
      let (u, j, e) = placed.present v i in
      let m = (region_certificate g s).closed.target u (at_intro X s.region s.current u j e) in
      let d = (dominion_certificate g s).closed.target u m in
      count_strict g.size (without X D) X
      (λ w b t. without_left X D w t)
      u
      (placed.below u j)
      (not_true_is_false (without X D u) (λ t. clash d (without_right X D u t)))
      j

-- how many are unsolved
abbrev pub left_over : Game → Regions → ℕ
left_over g s = count g.size (remaining g s)

-- how far the regions have come since the last dominion
abbrev pub made : Game → Regions → ℕ
made g s = progress g (remaining g s) s.region s.current

-- a number that it stays below
abbrev pub bound : Game → ℕ
bound g = (g.size + 2) ^ different_priorities g (everywhere g)

made_bound : (g : Game) (s : Regions) → Named g (remaining g s) s.region → made g s < bound g
unfolding different_priorities
made_bound g s named =
    value_bound (sizes_digits g (remaining g s) s.region s.current named) (suc (highest_in g (everywhere g)))

-- the state t lies ahead of the state s: fewer unsolved, or as many and the regions have come further
abbrev pub Ahead : Game → Regions → Regions → Type 0
Ahead g s t = left_over g t * bound g + made g s < left_over g s * bound g + made g t

-- as many unsolved, and further
ahead_further :
    (g : Game) (s t : Regions) →
    ((v : ℕ) → remaining g s v ≡ remaining g t v) →
    made g s < progress g (remaining g s) t.region t.current →
    Ahead g s t
ahead_further g s t same-members more =
    let as_many = ap (λ (X : Set). count g.size X * bound g) (fun_ext same-members) in
    let as-far = ap (λ (X : Set). progress g X t.region t.current) (fun_ext same-members) in
    omega arith

-- fewer unsolved
ahead_fewer :
    (g : Game) (s t : Regions) →
    Named g (remaining g s) s.region →
    left_over g t < left_over g s →
    Ahead g s t
ahead_fewer g s t named fewer =
    let most = mul-le-mul_right (bound g) fewer in
    let one_more = suc-mul (left_over g t) (bound g) in
    let less = made_bound g s named in
    omega arith

module _ (g : Game) (total : Total g) (low : (v : ℕ) → v < g.size → g.priority v ≤ 255) where
  under : (v : ℕ) → v < g.size → g.priority v < solved_region
  under v l = let k = low v l in omega arith

  module _ (s : Regions) (standing : Standing g s) (named : Named g (remaining g s) s.region) where
    -- the regions stay priorities of vertices
    named_promoted :
        region_is_open g s (region_set g s) ≡ false →
        some g.size (way_out g s (region_set g s)) ≡ true →
        Named g (remaining g s) (promoted_region g s)
    named_promoted closed has v i = go (promotion_moves g s standing.placed v i)
      where
        up : Promotes g (remaining g s) (attracted_region g s) s.current (promoted_to g s)
        up = way_promotes g s standing.placed closed has

        go : Moved g (attracted_region g s) (promoted_region g s) s.current (promoted_to g s) v → used g (promoted_region g s v) ≡ true
        go (lifted was is) =
            ap (used g) (is ∙ sym up.to_is) ∙ named_attracted g s standing named up.to up.to_in
        go (reset differs less is) = ap (used g) is ∙ own_used g v (standing.placed.below v i)
        go (stayed high is) = ap (used g) is ∙ named_attracted g s standing named v i

    named_solved : Named g (unsolved g (solved_regions g s)) (solved_regions g s)
    named_solved v i =
        ap (used g) (solved_fresh g total under s standing v i) ∙ own_used g v (unsolved_below g (solved_regions g s) v i)

    pub named_round : Named g (remaining g (round_of g s)) (round_of g s).region
    named_round = go (round_kind g s)
      where
        go : Round g s → Named g (remaining g (round_of g s)) (round_of g s).region
        go (opening opens) =
            rw
            (round_opens g s opens (open_goes_down g s standing.small standing.placed opens))
            (λ v i. named_attracted g s standing named v (attracted_unsolved g s standing.small v ∙ i))
        go (promoting closed has) =
            rw
            (round_promotes g s closed has)
            (λ v i. named_promoted closed has v (promoted_unsolved g s (promoted_small g s closed has) under v ∙ i))
        go (solving closed none) = rw (round_solves g s closed none) named_solved

    -- **While a vertex is unsolved, a round gets ahead.**
    pub round_gets_ahead : (v : ℕ) → remaining g s v ≡ true → Ahead g s (round_of g s)
    round_gets_ahead v i = go (round_kind g s)
      where
        go : Round g s → Ahead g s (round_of g s)
        go (opening opens) =
            rw
            (round_opens g s opens (open_goes_down g s standing.small standing.placed opens))
            (ahead_further g s
            (lowered_state g s)
            (attracted_unsolved g s standing.small)
            (opened_rises g s standing named opens))
        go (promoting closed has) =
            rw
            (round_promotes g s closed has)
            (ahead_further g s
            (promoted_state g s)
            (promoted_unsolved g s (promoted_small g s closed has) under)
            (promoted_rises g s standing named closed has))
        go (solving closed none) =
            rw
            (round_solves g s closed none)
            (ahead_fewer g s
            (solved_state g s)
            named
            (rw (← fun_ext (solved_unsolved g s under)) (solved_fewer g s standing named v i)))

  -- after any number of rounds
  pub after_standing : (k : ℕ) → Standing g (after_rounds g k)
  unfolding after_rounds
  after_standing zero = standing_start g total under
  after_standing (suc k) = standing_round g total under (after_rounds g k) (after_standing k)

  -- **"If there is none, p stays" never comes up**: in an open round some unsolved vertex has a region below p, and p goes down.
  pub never_stays :
      (k : ℕ) →
      region_is_open g (after_rounds g k) (region_set g (after_rounds g k)) ≡ true →
      (some g.size (lower_vertices g (after_rounds g k)) ≡ true) × ((round_of g (after_rounds g k)).current < (after_rounds g k).current)
  never_stays k opens =
      let s = after_rounds g k in
      let small = (after_standing k).small in
      let placed = (after_standing k).placed in
      let there = open_goes_down g s small placed opens in
      (there, rw (round_opens g s opens there) (lowered_less g s placed small opens))

  start_named : Named g (remaining g (at_start g)) (at_start g).region
  unfolding at_start
  start_named v i =
      let l = unsolved_below g (noted solved_region g.size g.priority) v i in
      ap (used g) (noted_below solved_region g.size g.priority v l) ∙ own_used g v l

  after_named : (k : ℕ) → Named g (remaining g (after_rounds g k)) (after_rounds g k).region
  unfolding after_rounds
  after_named zero = start_named
  after_named (suc k) = named_round (after_rounds g k) (after_standing k) (after_named k)

  -- a vertex is unsolved, or all are solved
  solved_or_left : (s : Regions) → (all_solved g s ≡ true) ⊎ ((v : ℕ) × (v < g.size) × (remaining g s v ≡ true))
  unfolding all_solved
  solved_or_left s =
      ⊎_elim
      (λ has. inr (some_elim g.size (remaining g s) has))
      (λ none. inl (rw none refl))
      (bool_cases (some g.size (remaining g s)))

  -- all are solved at the latest when the way that was left is gone
  finishes :
      (f k : ℕ) →
      left_over g (after_rounds g k) * bound g ≤ f + made g (after_rounds g k) →
      (j : ℕ) × (j ≤ k + f) × (all_solved g (after_rounds g j) ≡ true)
  unfolding after_rounds
  finishes zero k near =
      ⊎_elim
      (λ done. (k, omega arith, done))
      (λ found.
      let (v, l, i) = found in
      let here = count_pos g.size (remaining g (after_rounds g k)) v l i in
      let most = mul-le-mul_right (bound g) here in
      let one_more = one-mul (bound g) in
      let less = made_bound g (after_rounds g k) (after_named k) in
      absurd (omega arith))
      (solved_or_left (after_rounds g k))
  finishes (suc f) k near =
      ⊎_elim
      (λ done. (k, omega arith, done))
      (λ found.
      let (v, l, i) = found in
      let ahead = round_gets_ahead (after_rounds g k) (after_standing k) (after_named k) v i in
      let (j, most, done) = finishes f (suc k) (omega arith) in (j, omega arith, done))
      (solved_or_left (after_rounds g k))

  -- by the number of rounds
  at_round : (x y : ℕ) (b : Bool) → x ≡ y → all_solved g (after_rounds g x) ≡ b → all_solved g (after_rounds g y) ≡ b
  at_round x y b e = subst (λ (k : ℕ). all_solved g (after_rounds g k) ≡ b) e

  -- the first of the rounds after k that solves all is found among enough
  rounds_from_lem :
      (many k j : ℕ) →
      j ≤ many →
      all_solved g (after_rounds g (j + k)) ≡ true →
      ((i : ℕ) → i < j → all_solved g (after_rounds g (i + k)) ≡ false) →
      rounds_from g many (after_rounds g k) ≡ j
  unfolding rounds_from after_rounds
  rounds_from_lem zero k zero l done first = refl
  rounds_from_lem zero k (suc j) l done first = absurd (omega arith)
  rounds_from_lem (suc many) k zero l done first =
      rw (rounds_from, at_round (0 + k) k true (omega arith) done) refl
  rounds_from_lem (suc many) k (suc j) l done first =
      rw (rounds_from, at_round (0 + k) k false (omega arith) (first 0 (omega arith)))
      (ap suc
      (rounds_from_lem many (suc k) j (le_of_suc-le-suc l) (at_round (suc j + k) (j + suc k) true (omega arith) done)
      (λ i less. at_round (suc i + k) (i + suc k) false (omega arith) (first (suc i) (omega arith)))))

  -- **Promotion always finishes: after at most n · (n + 2) ^ d rounds all vertices are solved.**
  pub promotion_finishes :
      (k : ℕ) × (k ≤ g.size * (g.size + 2) ^ different_priorities g (everywhere g)) × (all_solved g (after_rounds g k) ≡ true)
  promotion_finishes =
      let most = mul-le-mul_right (bound g) (count_le g.size (remaining g (after_rounds g 0))) in
      let (k, l, done) = finishes (g.size * bound g) 0 (omega arith) in
      (k, omega arith, done)

  -- **So the rounds needed are found within that many, and are the first after which all are solved.**
  pub needed_lowest :
      IsLowest (suc (g.size * (g.size + 2) ^ different_priorities g (everywhere g))) (λ k. all_solved g (after_rounds g k))
      (rounds_needed g)
  unfolding rounds_needed after_rounds
  needed_lowest =
      let (k, most, done) = promotion_finishes in
      let limit = suc (g.size * (g.size + 2) ^ different_priorities g (everywhere g)) in
      let found =
      lowest_found limit (λ k. all_solved g (after_rounds g k))
      (some_intro limit (λ k. all_solved g (after_rounds g k)) k (omega arith) done) in
      let low = lowest limit (λ k. all_solved g (after_rounds g k)) in
      subst (IsLowest limit (λ k. all_solved g (after_rounds g k)))
      (sym
      (rounds_from_lem (g.size * (g.size + 2) ^ different_priorities g (everywhere g)) 0 low (le_of_suc-le-suc found.below)
      (at_round low (low + 0) true (omega arith) found.passes)
      (λ i less. at_round i (i + 0) false (omega arith) (found.first i less))))
      found
