-- Priority promotion: the round on regions with the entries that it chooses, and how many rounds are needed.
use Rattle.std.specs.Prelude.{Bool, true, false, ◌&&◌, not, cond, ℕ, zero, suc, ◌+◌, ◌*◌, ◌^◌, eqb, ltb, leb}
use Rattle.rules.specs.Counting.{Set, nobody, union, some, some_of, lowest, greatest, within, noted}
use Rattle.rules.specs.Game.{Player, Game, everywhere, parity, same}
use Rattle.rules.specs.Attractor.{attractor}
use Rattle.rules.specs.Budget.{different_priorities}
use Rattle.rules.specs.Distance.{attractor_entry, lowest_in}
use Rattle.rules.specs.Words.{no_entry}

-- the region of a solved vertex, outside 0..255
abbrev pub solved_region : ℕ
solved_region = 256

pub record Regions : Type 0 where
  pub region : ℕ → ℕ
  -- p, the current priority
  pub current : ℕ
  pub won : Player → Set
  -- the choice at each vertex, or none
  pub entries : ℕ → ℕ

-- the vertices that are not solved
abbrev pub unsolved : Game → (ℕ → ℕ) → Set
unsolved g region v = ltb v g.size && ltb (region v) solved_region

-- the highest region
abbrev pub highest_region : Game → (ℕ → ℕ) → ℕ
highest_region g region = greatest g.size (unsolved g region) region

-- at first each vertex has its priority as region; p is the highest
unfoldable pub at_start : Game → Regions
at_start g =
    record {
      region = noted solved_region g.size g.priority;
      current = highest_region g (noted solved_region g.size g.priority);
      won = λ a. nobody;
      entries = λ v. no_entry;
    }

-- the unsolved vertices of region at most p, and those of region p
abbrev pub up_to : Game → Regions → Set
up_to g s v = unsolved g s.region v && leb (s.region v) s.current

abbrev pub at_region : Game → Regions → Set
at_region g s v = unsolved g s.region v && eqb (s.region v) s.current

-- R: the attractor, for p's player, of region p among unsolved vertices of region at most p
unfoldable pub region_set : Game → Regions → Set
region_set g s = attractor g (parity s.current) (up_to g s) (at_region g s)

-- the regions once R is drawn in: R gets region p
abbrev pub drawn_regions : Game → Regions → Set → ℕ → ℕ
drawn_regions g s R = noted solved_region g.size (λ v. cond (R v) s.current (s.region v))

-- the entries once R is drawn in: the attractor's for whom it draws in
unfoldable pub drawn_entries : Game → Regions → Set → ℕ → ℕ
drawn_entries g s R =
    let drawn = attractor_entry g (parity s.current) (up_to g s) (at_region g s) in
    noted no_entry g.size (λ v. cond (R v && not (at_region g s v)) (drawn v) (s.entries v))

-- the entries when R closes: an own vertex of R that has none takes its lowest-numbered successor in R
unfoldable pub closed_entries : Game → Regions → Set → ℕ → ℕ
closed_entries g s R =
    let now = drawn_entries g s R in
    noted no_entry g.size
    (λ v. cond (R v && same (g.owner v) (parity s.current) && eqb (now v) no_entry) (lowest_in g R v) (now v))

-- R has region p: an opponent vertex of R has an unsolved successor of region below p, or an own vertex none in R
unfoldable pub region_is_open : Game → Regions → Set → Bool
region_is_open g s R =
    let region = drawn_regions g s R in
    some g.size
    (λ v.
    R v &&
    cond (same (g.owner v) (parity s.current))
    (not (some_of (g.targets v) R))
    (some_of (g.targets v) (λ w. unsolved g region w && ltb (region w) s.current)))

-- w is an unsolved successor, outside R, of an opponent vertex of R
unfoldable pub way_out : Game → Regions → Set → Set
way_out g s R w =
    unsolved g s.region w &&
    not (R w) &&
    some g.size (λ v. R v && not (same (g.owner v) (parity s.current)) && some_of (g.targets v) (eqb w))

-- open: p becomes the highest region present below p; if there is none, p stays
unfoldable pub moved_down : Game → Regions → Set → Regions
moved_down g s R =
    let region = drawn_regions g s R in
    let below : Set = λ v. unsolved g region v && ltb (region v) s.current in
    record {
      region = region;
      current = cond (some g.size below) (greatest g.size below region) s.current;
      won = s.won;
      entries = drawn_entries g s R;
    }

-- a dominion: the attractor of R among all unsolved is won and solved; the others get their own priorities back, and no entry; p
-- is the highest region
unfoldable pub dominion_solved : Game → Regions → Set → Regions
dominion_solved g s R =
    let a = parity s.current in
    let D = attractor g a (unsolved g s.region) R in
    let drawn = attractor_entry g a (unsolved g s.region) R in
    let closed = closed_entries g s R in
    let region = noted solved_region g.size (λ v. cond (unsolved g s.region v && not (D v)) (g.priority v) solved_region) in
    record {
      region = region;
      current = highest_region g region;
      won = λ b. cond (same a b) (within g.size (union (s.won b) D)) (s.won b);
      entries =
          noted no_entry g.size
          (λ v. cond (R v) (closed v) (cond (unsolved g s.region v) (drawn v) (s.entries v)));
    }

-- a promotion: q is the lowest region above p among the ways out. R gets region q, other regions below q go back to own
-- priorities and lose their entries, p becomes q
unfoldable pub promoted : Game → Regions → Set → Regions
promoted g s R =
    let q =
    lowest solved_region (λ q. ltb s.current q && some g.size (λ w. way_out g s R w && eqb (s.region w) q)) in
    let closed = closed_entries g s R in
    record {
      region =
          noted solved_region g.size
          (λ v. cond (R v) q (cond (unsolved g s.region v && ltb (s.region v) q) (g.priority v) (s.region v)));
      current = q;
      won = s.won;
      entries =
          noted no_entry g.size
          (λ v. cond (R v) (closed v) (cond (unsolved g s.region v && ltb (s.region v) q) no_entry (s.entries v)));
    }

-- one round
unfoldable pub round_of : Game → Regions → Regions
round_of g s =
    let R = region_set g s in
    elim (region_is_open g s R) [
      | true ↦ moved_down g s R
      | false ↦ elim (some g.size (way_out g s R)) [ false ↦ dominion_solved g s R | true ↦ promoted g s R ]
    ]

-- the state after k rounds
unfoldable pub after_rounds : Game → ℕ → Regions
after_rounds g zero = at_start g
after_rounds g (suc k) = round_of g (after_rounds g k)

unfoldable pub all_solved : Game → Regions → Bool
all_solved g s = not (some g.size (unsolved g s.region))

-- the rounds from a state on until all are solved; the search ends after so many
unfoldable pub rounds_from : Game → ℕ → Regions → ℕ
rounds_from g zero s = 0
rounds_from g (suc many) s = elim (all_solved g s) [ true ↦ 0 | false ↦ suc (rounds_from g many (round_of g s)) ]

-- the rounds needed until all are solved: n · (n + 2) ^ d are enough for every accepted game
unfoldable pub rounds_needed : Game → ℕ
rounds_needed g = rounds_from g (g.size * (g.size + 2) ^ different_priorities g (everywhere g)) (at_start g)
