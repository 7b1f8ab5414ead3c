-- The first pass as a whole: the search from one root, and the roots one after another.
use Rattle.std.specs.Prelude.{true, false, List, ◌≡◌, refl, ℕ, suc, ◌+◌, ◌-◌, ◌≤◌, ◌<◌, length, get_or}
use mathlib.Core.List.Memᴰ
use Rattle.std.proofs.Common.{⊎_elim, sym, ap, subst, ◌∙◌, add-one, arith}
use Rattle.basics.specs.Basics.{bool_cases, clash, not_false_is_true, below_suc}
use Rattle.theory.specs.DepthFirst.{ReachesUp, dfs_starts}
use Rattle.theory.specs.Solitaire.{at_most_elim}
use Rattle.search_rows.specs.Rows.{marks, queue}
use Rattle.search_links.specs.Area.{false_marked, marked_false, marked_true}
use Rattle.search_links.specs.Graph.{Graph, size, edge_count, priority, low, Leads, SoundGraph, fresh_at, game_in}
use Rattle.search_links.specs.Leading.{fresh_true, true_fresh, edge_within}
use Rattle.depth_first.specs.Walking.{visited, stack_of, mark_of, Room, SearchWalking, Pushable, pushed}
use Rattle.depth_first.specs.Walking.{WalkedFurther, Advances, Advanced, Startable, Searches, Passes, WalkFinished}
use Rattle.depth_first.specs.Walking.{further_same, further_then, next_room, push_walks, push_further, push_visits, top_visited}

-- the search from r so far
pub record Searching (G : Graph) (before : List ℕ) (r : ℕ) (work : List ℕ) (top done : ℕ) : Type 0 where
  pub further : WalkedFurther G before work
  pub walking : SearchWalking G work top done
  pub root : visited G work r ≡ true
  pub fits : top + done ≤ size G
  pub long : length work ≡ length before
  pub room : Room G work

module _ (G : Graph) (before : List ℕ) (r done : ℕ) (given : Startable G before r done) where
  fresh : visited G before r ≡ false
  fresh =
      false_marked (size G) (marks (size G) (edge_count G)) before r
      (fresh_true G.priorities G.top before (marks (size G) (edge_count G)) r given.fresh).1

  small : priority G r ≤ G.top
  small = (fresh_true G.priorities G.top before (marks (size G) (edge_count G)) r given.fresh).0

  up : ReachesUp (Leads G) (stack_of G 0 before) r
  up u m = absurd (Memᴰ.not-nil m)

  pub root_pushable : Pushable (size G) (marks (size G) (edge_count G)) G.offsets before r 0
  root_pushable =
      let less = next_room G before 0 done given.sound given.room given.walking r given.vertex fresh in
      record {
        vertex = given.vertex;
        table = omega (arith, given.sound.edges.offset_each);
        room = omega (arith, given.room);
        next = omega arith;
      }

  module _ (start : List ℕ) (is : start ≡ pushed (size G) (marks (size G) (edge_count G)) G.offsets r 0 before) where
    start_further : WalkedFurther G before start
    start_further =
        subst (λ (xs : List ℕ). WalkedFurther G before xs) (sym is)
        (push_further G before 0 done given.sound given.room given.walking r given.vertex fresh small up)

    start_walks : SearchWalking G start 1 done
    start_walks =
        subst (λ (xs : List ℕ). SearchWalking G xs 1 done) (sym is)
        (push_walks G before 0 done given.sound given.room given.walking r given.vertex fresh small up)

    pub search_starts : Searching G start r start 1 done
    search_starts =
        record {
          further = further_same G start;
          walking = start_walks;
          root =
              subst (λ (xs : List ℕ). visited G xs r ≡ true) (sym is)
              (push_visits G before 0 done given.sound given.room given.walking r given.vertex fresh small up);
          fits = start_walks.fits;
          long = refl;
          room = omega (arith, given.room, start_further.within.long);
        }

    pub search_ends : (work : List ℕ) (top k : ℕ) → Searching G start r work top k → top ≡ 0 → Searches G before work r done k
    search_ends work top k s none =
        record {
          further = further_then start_further s.further;
          walking = subst (λ (i : ℕ). SearchWalking G work i k) none s.walking;
          root = s.root;
        }

    pub search_long : (work : List ℕ) (top k : ℕ) → Searching G start r work top k → length work ≡ length before
    search_long work top k s = s.long ∙ start_further.within.long

module _ (G : Graph) (sound : SoundGraph G) (start : List ℕ) (r : ℕ) (work : List ℕ) (top k : ℕ) (s : Searching G start r work top k) where
  pub move_ready : (top ≡ 0 → ⊥) → Advances G work (get_or work (queue (size G) (edge_count G) + (top - 1)) 0) top k
  move_ready some =
      let t = get_or work (queue (size G) (edge_count G) + (top - 1)) 0 in
      let one : top ≡ suc (top - 1) = omega arith in
      let seen = top_visited G work (top - 1) k s.room (subst (λ (i : ℕ). SearchWalking G work i k) one s.walking) in
      let (l, d) = marked_true (size G) (marks (size G) (edge_count G)) work t seen in
      record {
        sound = sound;
        room = s.room;
        walking = s.walking;
        some = omega arith;
        is_top = refl;
        vertex = l;
        seen = seen;
        mark = positive (mark_of G work t) d;
        cursor = (s.walking.passed t seen).to;
        edges = edge_within G sound t l;
      }
    where
      positive : (x : ℕ) → (x ≡ 0 → ⊥) → 1 ≤ x
      positive x d = omega arith

  pub search_moves : (after : List ℕ) (top' k' : ℕ) → Advanced G work after top k top' k' → Searching G start r after top' k'
  search_moves after top' k' a =
      record {
        further = further_then s.further a.further;
        walking = a.walking;
        root = a.further.grows r s.root;
        fits = a.walking.fits;
        long = (further_then s.further a.further).within.long;
        room = omega (arith, s.room, a.further.within.long);
      }

-- the roots below r were searched from
pub record Rooting (G : Graph) (before work : List ℕ) (r done : ℕ) : Type 0 where
  pub to : r ≤ size G
  pub further : WalkedFurther G before work
  pub walking : SearchWalking G work 0 done
  pub all : (v : ℕ) → v < r → low G v ≡ true → visited G work v ≡ true
  pub long : length work ≡ length before

pub rooting_as :
    {G : Graph} {before work work' : List ℕ} {r done done' : ℕ} → work' ≡ work → done' ≡ done → Rooting G before work r done →
    Rooting G before work' r done'
rooting_as {G} {before} {work} {work'} {r} {done} {done'} a b s =
    subst (λ (xs : List ℕ). Rooting G before xs r done') (sym a) (subst (λ (k : ℕ). Rooting G before work r k) (sym b) s)

module _ (G : Graph) (before : List ℕ) (given : Passes G before) where
  pub roots_start : Rooting G before before 0 0
  roots_start =
      record {
        to = omega arith;
        further = further_same G before;
        walking =
            record {
              fits = omega arith;
              searched = dfs_starts (Leads G) (size G) (visited G before) unmarked;
              small = λ v p. absurd (clash p (unmarked v));
              passed = λ v p. absurd (clash p (unmarked v));
            };
        all = λ v l. absurd (omega arith);
        long = refl;
      }
    where
      unmarked : (v : ℕ) → visited G before v ≡ false
      unmarked v =
          ⊎_elim
          (λ p. let (l, d) = marked_true (size G) (marks (size G) (edge_count G)) before v p in absurd (d (given.clear v l)))
          (λ p. p)
          (bool_cases (visited G before v))

  module _ (work : List ℕ) (r done : ℕ) (s : Rooting G before work r done) (more : r < size G) where
    pub root_ready : fresh_at G.priorities G.top work (marks (size G) (edge_count G)) r ≡ true → Startable G work r done
    root_ready f =
        record { sound = given.sound; room = omega (arith, given.room, s.long); walking = s.walking; vertex = more; fresh = f }

    -- r was visited, or is not let in
    pub root_passes : fresh_at G.priorities G.top work (marks (size G) (edge_count G)) r ≡ false → Rooting G before work (r + 1) done
    root_passes f =
        record {
          to = omega arith;
          further = s.further;
          walking = s.walking;
          all = λ v l p. ⊎_elim (λ q. here v q p) (λ k. s.all v k p) (below_suc (rw add-one at l));
          long = s.long;
        }
      where
        here : (v : ℕ) → v ≡ r → low G v ≡ true → visited G work v ≡ true
        here v q p =
            not_false_is_true (visited G work v)
            (λ u.
            let (l, h) = at_most_elim (game_in G) G.top v p in
            let blank = marked_false (size G) (marks (size G) (edge_count G)) work v l u in
            clash (true_fresh G.priorities G.top work (marks (size G) (edge_count G)) v h blank)
            (ap (fresh_at G.priorities G.top work (marks (size G) (edge_count G))) q ∙ f))

    pub root_searched : (after : List ℕ) (k : ℕ) → Searches G work after r done k → Rooting G before after (r + 1) k
    root_searched after k a =
        record {
          to = omega arith;
          further = further_then s.further a.further;
          walking = a.walking;
          all =
              λ v l p.
              ⊎_elim
              (λ q. ap (visited G after) q ∙ a.root)
              (λ i. a.further.grows v (s.all v i p))
              (below_suc (rw add-one at l));
          long = (further_then s.further a.further).within.long;
        }

  pub roots_end : (work : List ℕ) (r done : ℕ) → Rooting G before work r done → size G ≤ r → WalkFinished G before work done
  roots_end work r done s end =
      record { further = s.further; walking = s.walking; all = λ v l p. s.all v (omega arith) p }
