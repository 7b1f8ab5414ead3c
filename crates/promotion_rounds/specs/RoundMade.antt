-- One round over the work area as the code makes it: what each call finds, and that the state after is the rules' round.
use Rattle.std.specs.Prelude.{Bool, true, false, ◌&&◌, List, ◌≡◌, refl, ℕ, suc, ◌+◌, ◌-◌, ◌*◌, ◌%◌, ◌≤◌, ◌<◌, eqb, length, get_or, take, drop}
use Rattle.std.proofs.Common.{inr, sym, ap, ap₂, subst, subst₂, ◌∙◌, mul-le-mul_right, add-mul, arith, eqb-true, length-take}
use Rattle.std.proofs.Math.Path.{fun_ext}
use Rattle.rules.specs.Counting.{Set, count}
use Rattle.rules.specs.Game.{Even, Game, parity, player_of}
use Rattle.rules.specs.Tables.{game_of, words, Accepted, tables_of}
use Rattle.rules.specs.Attractor.{Closed}
use Rattle.rules.specs.Promotion.{Regions, unsolved, region_set, region_is_open, round_of, after_rounds}
use Rattle.basics.specs.Basics.{and_left, count_some}
use Rattle.basics.specs.Frame.{Behind, Unchanged}
use Rattle.sets.specs.Size.{size}
use Rattle.accepted.specs.Tables.{accepted_sound, accepted_few}
use Rattle.theory.specs.Players.{true_same}
use Rattle.theory.specs.PromotionAccepted.{accepted_invariant}
use Rattle.theory.specs.PromotionBasics.{up_to}
use Rattle.theory.specs.PromotionEntries.{mover, remaining, RoundEntries, AttractedEntries, ClosesEntries}
use Rattle.theory.specs.PromotionInside.{EntriesInside}
use Rattle.theory.specs.PromotionRounds.{attracted_region}
use Rattle.theory.specs.PromotionTable.{attracts_table}
use Rattle.promotion_heads.specs.Heads.{entry_but_heads}
use Rattle.area.specs.Area.{entries, free, set_at, words_at}
use Rattle.area.specs.Lent.{words_few}
use Rattle.area.specs.SetsAt.{set_kept}
use Rattle.area.specs.Sizes.{size_at_lem}
use Rattle.area.specs.Walking.{lent_part_lem}
use Rattle.priority_sets.specs.Sorting.{PriorityPlaceable}
use Rattle.attractor.specs.Attracted.{own_is}
use Rattle.promotion_levels.specs.Layout.{held_at, won_at, depth_at, tops_at, levels_at, level_at, end_at, mark_at, deep, depth_in, top_in}
use Rattle.promotion_levels.specs.Layout.{level_in, held_in, region_in, entry_in, Whole, Ready}
use Rattle.promotion_levels.specs.Nesting.{few_levels, levels_below}
use Rattle.promotion_levels.specs.Places.{next_level, level_high, up_to_is}
use Rattle.promotion_levels.specs.Going.{deeper}
use Rattle.promotion_levels.specs.Kept as kept
use Rattle.promotion_levels.specs.Descending.{Descends, Descended}
use Rattle.promotion_region.specs.Query.{QueryReady, Queried}
use Rattle.promotion_escape.specs.Escapes.{level_from, Escapes, Openable, Escapable}
use Rattle.promotion_open.specs.Opening.{is_open_in}
use Rattle.promotion_escape.specs.Highest.{Nested, HighestLevel}
use Rattle.promotion_moves.specs.Filling.{FillAll, FilledAll}
use Rattle.promotion_moves.specs.Promotion.{Promotable, PromotedTo, promote_ready}
use Rattle.promotion_moves.specs.Dominion.{DominionReady, Dominated}
use Rattle.promotion_rounds.specs.Shown as shown
use Rattle.promotion_rounds.specs.Shown.{Shows}
use Rattle.promotion_rounds.specs.RoundPromise.{RoundReady}
use Rattle.promotion_rounds.specs.Opened as opened
use Rattle.promotion_rounds.specs.Filled as filled
use Rattle.promotion_rounds.specs.ClosedRound.{ClosedRound}
use Rattle.promotion_rounds.specs.Promoted as promoted
use Rattle.promotion_rounds.specs.DominionShown as solved

-- how many vertices are left, by the ones of the first level's words
module _ {n : ℕ} {priorities offsets targets : List ℕ} {s levels : ℕ} {work : List ℕ}
    (ready : Ready n priorities offsets targets s work) (levels_is : levels ≡ levels_at n (length targets) s)
  where
    lent_is : take ((levels + s) - levels) (drop levels work) ≡ words_at n levels work
    lent_is = lent_part_lem n s levels work ready.size

    -- level 0 stands where the levels begin
    first_is : levels ≡ level_at n (length targets) s 0
    first_is = omega (arith, levels_is)

    first_in : (v : ℕ) → set_at n levels work v ≡ level_in n (length targets) s work 0 v
    first_in v = ap (λ (x : ℕ). set_at n x work v) first_is

    pub first_room : levels + s ≤ length work
    first_room =
        let high = level_high n (length targets) s 0 (omega (arith, ready.depth)) in omega (arith, ready.room, first_is)

    pub left_few : length (take ((levels + s) - levels) (drop levels work)) ≤ 64
    left_few =
        let few = words_few n ready.edges.few_vertices in
        rw lent_is (omega (arith, length-take (words n) (drop levels work)))

    pub left_counted :
        {many : ℕ} →
        many ≡ size (take ((levels + s) - levels) (drop levels work)) →
        many ≡ count n (level_in n (length targets) s work 0)
    left_counted is =
        is ∙
        ap size lent_is ∙
        size_at_lem n levels work (λ v i. ready.nests.below v (sym (first_in v) ∙ i)) ∙
        ap (λ (x : ℕ). count n (set_at n x work)) first_is

-- what a round begins with: p's player, R, the levels and the number of the current one as the code has them, the places of the
-- current level and of the two after it, which have room, and entries inside the regions
pub record RoundBegins (owners priorities offsets targets : List ℕ) (s current alpha held depth levels k base below heads : ℕ)
    (work : List ℕ) : Type 0 where
  pub alpha_is : alpha ≡ current % 2
  pub held_is : held ≡ held_at (length owners) (length targets) s
  pub depth_is : depth ≡ depth_at (length owners) (length targets) s
  pub levels_is : levels ≡ levels_at (length owners) (length targets) s
  pub k_is : k ≡ depth_in (length owners) (length targets) s work
  pub base_is :
      base ≡ level_at (length owners) (length targets) s (depth_in (length owners) (length targets) s work)
  pub below_is : below ≡ base + s
  pub heads_is : heads ≡ below + s
  pub room : base + s + s + s ≤ end_at (length owners) (length targets) s
  pub entered :
      let g = game_of (tables_of owners priorities offsets targets) in
      let T = region_in (length owners) (length targets) s priorities work in
      EntriesInside g (unsolved g T) T current (entry_in (length owners) (length targets) s work)

-- R is drawn in and not open, its missing entries are given, and the highest level that it may go to is found
pub record RoundEscapes (owners priorities offsets targets : List ℕ) (s current alpha held depth levels k base below heads : ℕ)
    (w0 w1 w2 : List ℕ) (j : ℕ) : Type 0 where
  pub begins : RoundBegins owners priorities offsets targets s current alpha held depth levels k base below heads w0
  pub queried : Queried owners priorities offsets targets s current w0 w1
  pub filled : FilledAll owners offsets targets alpha heads held (entries (length owners) (length targets)) w1 w2
  pub shut : is_open_in owners offsets targets alpha heads held below w1 ≡ false
  pub found :
      HighestLevel owners offsets targets alpha (set_at (length owners) held w2) (level_from (length owners) s levels w2) k j

module _ {owners priorities offsets targets : List ℕ} {s current left rounds : ℕ} {work : List ℕ}
    (q : RoundReady owners priorities offsets targets s current left rounds work)
    {held depth levels : ℕ}
    (h : held ≡ held_at (length owners) (length targets) s) (d : depth ≡ held + 3 * s)
    (l : levels ≡ depth + 1 + deep (length owners))
  where
    abbrev depth0 : ℕ
    depth0 = depth_in (length owners) (length targets) s work

    levels_at_lem : levels ≡ levels_at (length owners) (length targets) s
    levels_at_lem = omega (arith, h, d, l)

    depth_at_lem : depth ≡ depth_at (length owners) (length targets) s
    depth_at_lem = omega (arith, h, d)

    number_is : get_or work depth 0 ≡ depth0
    number_is = ap (λ (x : ℕ). get_or work x 0) depth_at_lem

    -- while a vertex is unsolved there are fewer levels than vertices
    room_behind :
        level_at (length owners) (length targets) s (suc (suc depth0)) + s ≤ end_at (length owners) (length targets) s
    room_behind =
        let ready = q.shows.ready in
        let (v, l, i) =
        count_some (length owners) (level_in (length owners) (length targets) s work 0) (rw q.shows.left at q.unsolved) in
        level_high (length owners) (length targets) s (suc (suc depth0))
        (omega (arith, deeper (length owners) depth0 (levels_below ready.nests ready.proper v i) (few_levels ready.nests)))

    -- so the current level and the two after it have room
    room : levels + get_or work depth 0 * s + s + s + s ≤ end_at (length owners) (length targets) s
    room =
        let base : levels + get_or work depth 0 * s ≡ level_at (length owners) (length targets) s depth0 =
        ap₂ (λ (x y : ℕ). x + y * s) levels_at_lem number_is in
        let after = next_level (length owners) (length targets) s depth0 in
        let behind = next_level (length owners) (length targets) s (suc depth0) in
        omega (arith, room_behind)

    -- and so has each level before
    pub level_fits : (j : ℕ) → j ≤ get_or work depth 0 + 2 → levels + j * s + s ≤ length work
    level_fits j low =
        let most = mul-le-mul_right s low in
        let e : (get_or work depth 0 + 2) * s ≡ get_or work depth 0 * s + 2 * s = add-mul (get_or work depth 0) 2 s in
        omega (arith, room, q.shows.ready.room)

    -- their numbers are small
    pub level_few : get_or work depth 0 + 2 ≤ levels
    level_few = omega (arith, number_is, q.shows.ready.depth, l)

    pub begins_by :
        {alpha base below heads : ℕ} →
        alpha ≤ 1 →
        player_of alpha ≡ parity current →
        base ≡ levels + get_or work depth 0 * s →
        below ≡ levels + (get_or work depth 0 + 1) * s →
        heads ≡ levels + (get_or work depth 0 + 2) * s →
        RoundBegins owners priorities offsets targets s current alpha held depth levels (get_or work depth 0) base below heads work
    begins_by {alpha} side own first second third =
        record {
          alpha_is =
              eqb-true alpha (current % 2)
              (own_is alpha (current % 2) side (omega arith) ∙ true_same (player_of alpha) (parity current) own);
          held_is = h;
          depth_is = depth_at_lem;
          levels_is = levels_at_lem;
          k_is = number_is;
          base_is = first ∙ ap₂ (λ (x y : ℕ). x + y * s) levels_at_lem number_is;
          below_is = let e = add-mul (get_or work depth 0) 1 s in omega arith;
          heads_is =
              let e = add-mul (get_or work depth 0) 1 s in
              let f = add-mul (get_or work depth 0) 2 s in
              omega arith;
          room = omega (arith, room);
          entered =
              subst₂
              (λ (T : ℕ → ℕ) (x : ℕ).
              EntriesInside (game_of (tables_of owners priorities offsets targets)) (unsolved (game_of (tables_of owners priorities offsets targets)) T) T
              x (entry_in (length owners) (length targets) s work))
              (sym (fun_ext (shown.agrees0 q.accepted q.made q.shows)))
              (sym q.shows.current)
              (accepted_invariant (tables_of owners priorities offsets targets) q.accepted q.entries).entered;
        }

-- words behind the levels stay where one begins
descended_rest :
    {priorities : List ℕ} {m s k p : ℕ} {before after : List ℕ} → k + 2 ≤ deep (length priorities) →
    Descended priorities m s k p before after →
    Unchanged (Behind (end_at (length priorities) m s)) before after
descended_rest {priorities} {m} {s} {k} l c i high =
    let most = level_high (length priorities) m s (k + 1) (omega arith) in
    c.rest i (inr (omega arith)) (inr (omega arith)) (λ e. omega arith) (λ e. omega arith) (inr (omega arith))

-- R as the test for a way out looks at it
held_escapes :
    (owners : List ℕ) {priorities offsets targets : List ℕ} (ok : Accepted (tables_of owners priorities offsets targets))
    {s held : ℕ} {work : List ℕ} → Ready (length owners) priorities offsets targets s work →
    Whole (length owners) (length targets) s work →
    held ≡ held_at (length owners) (length targets) s → Escapes owners offsets targets s held work
held_escapes owners {priorities} {offsets} {targets} ok {s} {held} {work} ready whole held_is =
    record {
      size = ready.size;
      edges = ready.edges;
      high = omega (arith, held_is, ready.room, ready.size);
      below = λ v i. filled.held_small owners ok 0 ready whole v (ap (λ (x : ℕ). set_at (length owners) x work v) (sym held_is) ∙ i);
    }

module _ {owners priorities offsets targets : List ℕ} (ok : Accepted (tables_of owners priorities offsets targets)) {s : ℕ}
    (made : ℕ) {current left : ℕ} {w0 : List ℕ}
    (shows :
    Shows owners priorities offsets targets s (after_rounds (game_of (tables_of owners priorities offsets targets)) made) current
    left w0)
  where
    abbrev n : ℕ
    n = length owners

    abbrev m : ℕ
    m = length targets

    abbrev g : Game
    g = game_of (tables_of owners priorities offsets targets)

    -- the rules' state before the round, and its current priority
    abbrev r : Regions
    r = after_rounds g made

    abbrev p : ℕ
    p = r.current

    -- the regions before
    abbrev T0 : ℕ → ℕ
    T0 = region_in n m s priorities w0

    each : length priorities ≡ length owners
    each = (accepted_sound (tables_of owners priorities offsets targets) ok).priority_each

    -- what the places ask for
    pub round_places : PriorityPlaceable (length owners) (length targets) s 255
    round_places =
        record {
          size = shows.ready.size;
          few = shows.ready.edges.few_vertices;
          few_edges = shows.ready.edges.few_edges;
          small = omega arith;
        }

    pub round_depth :
        {held depth : ℕ} → held ≡ held_at (length owners) (length targets) s → depth ≡ held + 3 * s → depth ≤ 65535
    round_depth is at =
        let few = words_few n shows.ready.edges.few_vertices in
        omega (arith, is, at, shows.ready.size, shows.ready.edges.few_vertices, shows.ready.edges.few_edges)

    module _ {alpha held depth levels k base below heads : ℕ}
        (at : RoundBegins owners priorities offsets targets s current alpha held depth levels k base below heads w0)
      where
        held_is : held ≡ held_at n m s
        held_is = at.held_is

        levels_is : levels ≡ levels_at n m s
        levels_is = at.levels_is

        k_is : k ≡ depth_in n m s w0
        k_is = at.k_is

        alpha_is : alpha ≡ p % 2
        alpha_is = at.alpha_is ∙ ap (λ (x : ℕ). x % 2) shows.current

        base_at : levels + k * s ≡ base
        base_at = ap₂ (λ (l x : ℕ). l + x * s) levels_is k_is ∙ sym at.base_is

        below_is : below ≡ level_at n m s (suc (depth_in n m s w0))
        below_is = at.below_is ∙ ap (λ (x : ℕ). x + s) at.base_is ∙ sym (next_level n m s (depth_in n m s w0))

        heads_is : heads ≡ level_at n m s (suc (suc (depth_in n m s w0)))
        heads_is = at.heads_is ∙ ap (λ (x : ℕ). x + s) below_is ∙ sym (next_level n m s (suc (depth_in n m s w0)))

        heads_room : heads + s ≤ length w0
        heads_room = omega (arith, at.heads_is, at.below_is, at.room, shows.ready.room)

        pub round_query : {mark : ℕ} → mark ≡ levels - 1 → QueryReady owners offsets targets s current held base mark w0
        round_query last =
            record {
              priorities = priorities;
              accepted = ok;
              ready = shows.ready;
              newcomers = shows.newcomers;
              current = shows.top;
              held_is = held_is;
              base_is = at.base_is;
              mark_is = last ∙ ap (λ (x : ℕ). x - 1) levels_is;
              room = at.room;
            }

        module _ {w1 : List ℕ} (made1 : Queried owners priorities offsets targets s current w0 w1) where
          c1 : Queried owners priorities offsets targets s p w0 w1
          c1 = subst (λ (x : ℕ). Queried owners priorities offsets targets s x w0 w1) shows.current made1

          ready1 : Ready n priorities offsets targets s w1
          ready1 = c1.ready

          whole1 : Whole n m s w1
          whole1 = c1.whole

          entries1 : AttractedEntries g r (entry_in n m s w0) (entry_in n m s w1)
          entries1 = attracts_table g r (region_in n m s priorities w0) (shown.agrees0 ok made shows) c1.attracts

          -- R's heads
          head_is : (v : ℕ) → set_at n heads w1 v ≡ (held_in n m s w1 v && eqb (get_or priorities v 0) p)
          head_is v = ap (λ (x : ℕ). set_at n x w1 v) heads_is ∙ c1.heads v

          head_small : (v : ℕ) → set_at n heads w1 v ≡ true → v < n
          head_small v i = filled.held_small owners ok 0 ready1 whole1 v (and_left (held_in n m s w1 v) _ (sym (head_is v) ∙ i))

          pub round_openable :
              Openable owners offsets targets s heads held below w1
          round_openable =
              record {
                escapes =
                    record {
                      size = ready1.size;
                      edges = ready1.edges;
                      high = omega (arith, heads_room, c1.long, ready1.size);
                      below = head_small;
                    };
                held_room = (held_escapes owners ok ready1 whole1 held_is).high;
                room = omega (arith, heads_room, at.heads_is, c1.long, ready1.size);
              }

          -- whether R is open, as the code tells it
          abbrev open_said : Bool
          open_said = is_open_in owners offsets targets alpha heads held below w1

          open_told : {b : Bool} → b ≡ open_said → region_is_open g r (region_set g r) ≡ b
          open_told e =
              shown.open_is ok made shows c1 ∙
              sym
              (e ∙
              ap₂ (λ (x z : ℕ). is_open_in owners offsets targets x z held below w1) alpha_is heads_is ∙
              ap₂ (λ (h b : ℕ). is_open_in owners offsets targets (p % 2) (level_at n m s (suc (suc (depth_in n m s w0)))) h b w1)
              held_is below_is)

          -- **an open round**
          next_is : k + 1 ≡ suc (depth_in (length priorities) m s w1)
          next_is = let e = c1.depth in rw each (omega (arith, k_is, e))

          module _ {said : Bool} (told : said ≡ open_said) (taken : said ≡ true) where
            opens : region_is_open g r (region_set g r) ≡ true
            opens = open_told told ∙ taken

            pub round_descend :
                {bound : ℕ} → bound ≡ current - 1 → Descends priorities (length targets) s held levels (k + 1) bound w1
            round_descend {bound} is =
                subst (λ (x : ℕ). Descends priorities m s held levels x bound w1) (sym next_is)
                (opened.descend_ready ok made shows c1 opens held_is levels_is (is ∙ ap (λ (x : ℕ). x - 1) shows.current))

            module _ {p' : ℕ} {w2 : List ℕ} (c2 : Descended priorities (length targets) s (k + 1) p' w1 w2) where
              pub opened_same :
                  (length w2 ≡ length w0) ×
                  (Unchanged (Behind (end_at (length owners) (length targets) s)) w0 w2)
              opened_same = (
                c2.long ∙ c1.long,
                λ i l. descended_rest (round_descend refl).depth c2 i (rw each l) ∙ c1.rest i l,
              )

              pub round_opens :
                  Shows owners priorities offsets targets s
                  (round_of (game_of (tables_of owners priorities offsets targets))
                  (after_rounds (game_of (tables_of owners priorities offsets targets)) made)) p' left w2 ×
                  RoundEntries (game_of (tables_of owners priorities offsets targets))
                  (after_rounds (game_of (tables_of owners priorities offsets targets)) made)
                  (entry_in (length owners) (length targets) s w0) (entry_in (length owners) (length targets) s w2)
              round_opens =
                  opened.shows_opened ok made shows c1 opens
                  (subst (λ (x : ℕ). Descended priorities m s x p' w1 w2) next_is c2)

          pub round_fill :
              FillAll owners offsets targets s heads held (entries (length owners) (length targets)) w1
          round_fill =
              subst (λ (x : ℕ). FillAll owners offsets targets s heads x (entries n m) w1) (sym held_is)
              (filled.fill_ready owners ok p ready1 whole1 (omega (arith, heads_is)) (omega (arith, heads_room, c1.long)) head_small)

          module _ {w2 : List ℕ}
              (made2 :
              FilledAll owners offsets targets alpha heads held
              (entries (length owners) (length targets)) w1 w2)
            where
              c2 : FilledAll owners offsets targets alpha heads (held_at n m s) (entries n m) w1 w2
              c2 =
                  subst
                  (λ (x : ℕ). FilledAll owners offsets targets alpha heads x (entries n m) w1 w2)
                  held_is made2

              ready2 : Ready n priorities offsets targets s w2
              ready2 = filled.filled_ready owners ok p ready1 whole1 c2

              whole2 : Whole n m s w2
              whole2 = filled.filled_whole owners ok p ready1 whole1 c2

              same2 : Unchanged (Behind (free n m)) w1 w2
              same2 = filled.filled_rest owners ok p ready1 whole1 c2

              long2 : length w2 ≡ length w1
              long2 = filled.filled_long owners ok p ready1 whole1 c2

              depth2 : depth_in n m s w2 ≡ depth_in n m s w1
              depth2 = same2 (depth_at n m s) (omega arith)

              k2_is : k ≡ depth_in n m s w2
              k2_is = k_is ∙ sym (depth2 ∙ c1.depth)

              agrees2 : (v : ℕ) → v < g.size → region_in n m s priorities w2 v ≡ attracted_region g r v
              agrees2 v l = filled.filled_region owners ok p ready1 whole1 c2 v ∙ shown.agrees1 ok made shows c1 v l

              top2 : top_in n m s w2 (depth_in n m s w2) ≡ p
              top2 =
                  ap (λ (j : ℕ). top_in n m s w2 j) (depth2 ∙ c1.depth) ∙
                  same2 (tops_at n m s + depth_in n m s w0) (omega arith) ∙
                  shown.top1 ok made shows c1

              won2 : (i : ℕ) → won_at n m s Even ≤ i → i < depth_at n m s → get_or w2 i 0 ≡ get_or w0 i 0
              won2 i low high = same2 i (omega arith) ∙ c1.won i low high

              left2 : (v : ℕ) → level_in n m s w2 0 v ≡ level_in n m s w0 0 v
              left2 v =
                  kept.level_same w2 ready1 long2 (filled.filled_table owners ok p ready1 whole1 c2) same2 0 v ∙
                  c1.levels 0 v (omega arith)

              entered0 : EntriesInside g (remaining g r) r.region p (entry_in n m s w0)
              entered0 =
                  subst₂ (λ (T : ℕ → ℕ) (x : ℕ). EntriesInside g (unsolved g T) T x (entry_in n m s w0))
                  (fun_ext (shown.agrees0 ok made shows)) shows.current at.entered

              fills2 : ClosesEntries g (mover r) (region_set g r) (entry_in n m s w1) (entry_in n m s w2)
              fills2 =
                  filled.filled_entries owners ok p ready1 whole1 c2 alpha_is
                  (shown.R_is ok made shows c1) head_is
                  (entry_but_heads (shown.total ok made shows) (accepted_few (tables_of owners priorities offsets targets) ok) r
                  (shown.standing ok made shows).placed entered0 entries1)

              same_all :
                  (length w2 ≡ length w0) × (Unchanged (Behind (end_at n m s)) w0 w2)
              same_all = (long2 ∙ c1.long, λ i l. same2 i (omega arith) ∙ c1.rest i l)

              pub filled_long : length w2 ≡ length w0
              filled_long = same_all.0

              pub round_escapable : Escapable owners offsets targets s held levels k w2
              round_escapable =
                  record {
                    escapes = held_escapes owners ok ready2 whole2 held_is;
                    room = omega (arith, base_at, heads_room, at.heads_is, at.below_is, same_all.0);
                    nested =
                        subst₂ (λ (l x : ℕ). Nested (level_from n s l w2) x)
                        (sym levels_is) (sym k2_is)
                        (λ j v l i. ready2.nests.inside j v (omega arith) i);
                  }

    module _ {alpha held depth levels k base below heads : ℕ} {w1 w2 : List ℕ} {j : ℕ}
        (esc : RoundEscapes owners priorities offsets targets s current alpha held depth levels k base below heads w0 w1 w2 j)
      where
        abbrev at : RoundBegins owners priorities offsets targets s current alpha held depth levels k base below heads w0
        at = esc.begins

        closed : region_is_open g r (region_set g r) ≡ false
        closed = open_told at esc.queried refl ∙ esc.shut

        kept_all : (length w2 ≡ length w0) × (Unchanged (Behind (end_at n m s)) w0 w2)
        kept_all = same_all at esc.queried esc.filled

        -- all that a promotion and a dominion begin with
        closed_round : ClosedRound owners priorities offsets targets s made current left w0 w2 (entry_in n m s w1)
        closed_round =
            record {
              accepted = ok;
              shows = shows;
              ready = ready2 at esc.queried esc.filled;
              whole = whole2 at esc.queried esc.filled;
              agrees = agrees2 at esc.queried esc.filled;
              top = top2 at esc.queried esc.filled;
              won_kept = won2 at esc.queried esc.filled;
              left_kept = left2 at esc.queried esc.filled;
              closed = closed;
              drawn = entries1 at esc.queried;
              filled = fills2 at esc.queried esc.filled;
            }

        high : HighestLevel owners offsets targets (p % 2) (held_in n m s w2) (level_in n m s w2) (depth_in n m s w2) j
        high =
            subst
            (λ (x : ℕ). HighestLevel owners offsets targets x (held_in n m s w2) (level_in n m s w2) (depth_in n m s w2) j)
            (alpha_is at)
            (subst (λ (x : ℕ). HighestLevel owners offsets targets alpha (held_in n m s w2) (level_in n m s w2) x j)
            (k2_is at esc.queried esc.filled)
            (subst₂
            (λ (h l : ℕ). HighestLevel owners offsets targets alpha (set_at n h w2) (level_from n s l w2) k j)
            at.held_is at.levels_is esc.found))

        -- **a promotion**
        module _ (some : 0 < j) where
          down : j - 1 < depth_in n m s w2
          down = let most = high.top in omega arith

          high_one :
              HighestLevel owners offsets targets (p % 2) (held_in n m s w2) (level_in n m s w2) (depth_in n m s w2)
              (suc (j - 1))
          high_one =
              let is : j ≡ suc (j - 1) = omega arith in
              subst
              (λ (x : ℕ).
              HighestLevel owners offsets targets (p % 2) (held_in n m s w2) (level_in n m s w2) (depth_in n m s w2) x)
              is high

          pub top_fits : depth + j < levels
          top_fits = omega (arith, at.depth_is, at.levels_is, down, closed_round.ready.depth)

          module _ {level mark : ℕ} (level-is : level ≡ levels + (j - 1) * s) (last : mark ≡ levels - 1) where
            level_at_lem : level ≡ level_at n m s (j - 1)
            level_at_lem = omega (arith, level-is, at.levels_is)

            mark_is : mark ≡ mark_at n m s
            mark_is = last ∙ ap (λ (x : ℕ). x - 1) at.levels_is

            pub round_promotable : Promotable s held depth level mark w2
            round_promotable =
                subst₂ (λ (h l : ℕ). Promotable s h depth l mark w2) (sym at.held_is) (sym level_at_lem)
                (subst₂ (λ (d x : ℕ). Promotable s (held_at n m s) d (level_at n m s (j - 1)) x w2) (sym at.depth_is) (sym mark_is)
                (promote_ready closed_round.ready (j - 1) down))

            module _ {w3 : List ℕ} (made3 : PromotedTo (length owners) s held depth level mark (j - 1) w2 w3) where
              c3 : PromotedTo n s (held_at n m s) (depth_at n m s) (level_at n m s (j - 1)) (mark_at n m s) (j - 1) w2 w3
              c3 =
                  subst₂ (λ (h l : ℕ). PromotedTo n s h (depth_at n m s) l (mark_at n m s) (j - 1) w2 w3) at.held_is level_at_lem
                  (subst₂ (λ (d x : ℕ). PromotedTo n s held d level x (j - 1) w2 w3) at.depth_is mark_is made3)

              pub promoted_same :
                  (length w3 ≡ length w0) ×
                  (Unchanged (Behind (end_at (length owners) (length targets) s)) w0 w3)
              promoted_same = (
                c3.long ∙ kept_all.0,
                λ i l.
                    let most = level_high n m s (suc (j - 1)) (omega (arith, down, closed_round.ready.depth)) in
                    let next = next_level n m s (j - 1) in
                    c3.rest i (λ e. omega arith) (λ e. omega arith) (inr (omega (arith, most, next))) ∙ kept_all.1 i l,
              )

              pub round_promotes :
                  {top : ℕ} → top ≡ depth + 1 + (j - 1) →
                  Shows owners priorities offsets targets s
                  (round_of (game_of (tables_of owners priorities offsets targets))
                  (after_rounds (game_of (tables_of owners priorities offsets targets)) made))
                  (get_or w2 top 0) left w3 ×
                  RoundEntries (game_of (tables_of owners priorities offsets targets))
                  (after_rounds (game_of (tables_of owners priorities offsets targets)) made)
                  (entry_in (length owners) (length targets) s w0) (entry_in (length owners) (length targets) s w3)
              round_promotes {top} read =
                  let is : tops_at n m s + (j - 1) ≡ top = omega (arith, at.depth_is) in
                  subst
                  (λ (x : ℕ).
                  Shows owners priorities offsets targets s (round_of g r) (get_or w2 x 0) left w3 ×
                  RoundEntries g r (entry_in n m s w0) (entry_in n m s w3))
                  is
                  (promoted.shows_promoted closed_round (j - 1) high_one c3)

        -- **a dominion**: in level 0 nothing more may be drawn into R
        whole_first : k ≤ 0 → (v : ℕ) → up_to (unsolved g T0) T0 p v ≡ level_in n m s w2 0 v
        whole_first none v =
            let at0 : depth_in n m s w0 ≡ 0 = omega (arith, at.k_is) in
            ap (λ (x : ℕ). up_to (unsolved g T0) T0 x v) (sym shows.current ∙ shows.top) ∙
            up_to_is owners priorities offsets targets shows.ready.nests v ∙
            ap (λ (j : ℕ). level_in n m s w0 j v) at0 ∙
            sym (closed_round.left_kept v)

        held2 : (v : ℕ) → held_in n m s w1 v ≡ held_in n m s w2 v
        held2 v = sym (set_kept n (held_at n m s) w1 w2 (λ i low high. same2 at esc.queried esc.filled i (omega arith)) v)

        shut2 : k ≤ 0 → Closed g (mover r) (level_in n m s w2 0) (held_in n m s w2) (held_in n m s w2)
        shut2 none =
            subst₂ (λ (V' R : Set). Closed g (mover r) V' R R) (fun_ext (whole_first none)) (fun_ext held2)
            (record { target = λ v i. i; attracted = (c1 at esc.queried).attracts.certificate.closed.attracted })

        pub round_dominion : DominionReady owners offsets targets s (parity current) k held levels w2
        round_dominion =
            subst (λ (x : ℕ). DominionReady owners offsets targets s (parity x) k held levels w2) (sym shows.current)
            (subst₂ (λ (h l : ℕ). DominionReady owners offsets targets s (mover r) k h l w2) (sym at.held_is) (sym at.levels_is)
            (solved.dominion_ready closed_round shut2))

        module _ (none : j ≤ 0) {w3 : List ℕ}
            (made3 : Dominated owners priorities offsets targets s current held levels w2 w3)
          where
            d3 : Dominated owners priorities offsets targets s p (held_at n m s) (levels_at n m s) w2 w3
            d3 =
                subst (λ (x : ℕ). Dominated owners priorities offsets targets s x (held_at n m s) (levels_at n m s) w2 w3)
                shows.current
                (subst₂ (λ (h l : ℕ). Dominated owners priorities offsets targets s current h l w2 w3) at.held_is at.levels_is
                made3)

            high_none :
                HighestLevel owners offsets targets (p % 2) (held_in n m s w2) (level_in n m s w2) (depth_in n m s w2) 0
            high_none =
                let is : j ≡ 0 = omega arith in
                subst
                (λ (x : ℕ).
                HighestLevel owners offsets targets (p % 2) (held_in n m s w2) (level_in n m s w2) (depth_in n m s w2) x)
                is high

            pub round_first :
                {bound : ℕ} → bound ≡ top_in (length owners) (length targets) s w2 0 →
                Descends priorities (length targets) s held levels 0 bound w3
            round_first read =
                subst (λ (b : ℕ). Descends priorities m s held levels 0 b w3) (sym read)
                (solved.descend_first closed_round high_none d3 at.held_is at.levels_is)

            module _ {p' : ℕ} {w4 : List ℕ} (c4 : Descended priorities (length targets) s 0 p' w3 w4) where
              pub solved_same :
                  (length w4 ≡ length w0) ×
                  (Unchanged (Behind (end_at (length owners) (length targets) s)) w0 w4)
              solved_same = (
                c4.long ∙ d3.long ∙ kept_all.0,
                λ i l.
                    let most = level_high n m s 0 (omega (arith, closed_round.ready.depth)) in
                    descended_rest (round_first refl).depth c4 i (rw each l) ∙
                    d3.rest i (omega arith) (inr (omega arith)) (inr (omega (arith, most))) ∙
                    kept_all.1 i l,
              )

              pub round_solves :
                  {many : ℕ} →
                  many ≡ count (length owners) (level_in (length owners) (length targets) s w4 0) →
                  Shows owners priorities offsets targets s
                  (round_of (game_of (tables_of owners priorities offsets targets))
                  (after_rounds (game_of (tables_of owners priorities offsets targets)) made)) p' many w4 ×
                  RoundEntries (game_of (tables_of owners priorities offsets targets))
                  (after_rounds (game_of (tables_of owners priorities offsets targets)) made)
                  (entry_in (length owners) (length targets) s w0) (entry_in (length owners) (length targets) s w4)
              round_solves counted = solved.shows_solved closed_round high_none d3 c4 counted

              pub solved_ready : Ready (length owners) priorities offsets targets s w4
              solved_ready = (round_solves refl).0.ready
