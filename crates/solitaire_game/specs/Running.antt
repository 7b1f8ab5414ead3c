-- From the marked row to what the public solver leaves: the attractor of the good parts is the answer, and the work area is cleared.
use Rattle.std.specs.Prelude.{List, ◌≡◌, refl, ℕ, zero, suc, ◌+◌, ◌-◌, ◌*◌, ◌/◌, ◌≤◌, ◌<◌, length, get_or, take, drop}
use Rattle.std.proofs.Common.{inl, ⊎_elim, ◌∙◌, mul-le-mul_right, mul-suc, arith, lt-ltb, ltb-true, length-take}
use Rattle.std.proofs.Math.Path.{sym, ap, ap₂, fun_ext}
use Rattle.std.proofs.Math.ListN.{get_or-eq_default}
use Rattle.rules.specs.Attractor.{attractor}
use Rattle.rules.specs.Counting.{Set}
use Rattle.rules.specs.Game.{Player, player_of}
use Rattle.rules.specs.Outcome.{Outcome, Verdict, none, refused, outcome, answered}
use Rattle.rules.specs.Solitaire.{LentSet, solitaire, sole_owner, solitaire_checks, check11, SolitaireLeaves, SolvesSolitaire}
use Rattle.rules.specs.Solver.{cleared}
use Rattle.rules.specs.Tables.{Tables, game_of, vertices, edges_in, words, work_words, Accepted}
use Rattle.rules.specs.Words.{Narrow, Holds}
use Rattle.basics.specs.Basics.{lt_or_ge}
use Rattle.theory.specs.Bits.{Bits, narrow_holds}
use Rattle.theory.specs.Solitaire.{accepted_one_owner}
use Rattle.theory.specs.SolitaireAttractor.{solitaire_attractor}
use Rattle.accepted.specs.Tables.{accepted_total}
use Rattle.parity_game.specs.Laws.{accepted_sound}
use Rattle.area.specs.Area.{free, set_at, words_at}
use Rattle.attractor.specs.Attracted.{Attractable, Attracted, listed_kept, edges_sound}
use Rattle.area.specs.Lent.{part_is}
use Rattle.search_rows.specs.Rows.{behind, sets_behind}
use Rattle.search_links.specs.Area.{marked, marked_true}
use Rattle.solitaire_game.specs.Checks.{SolitairePassed}
use Rattle.solitaire_game.specs.Marking.{GoodMarkable, GoodMarked}
use Rattle.solitaire_game.specs.Gathering.{GoodPlaceable, GoodPlaced}

-- what `run` asks for: accepted tables of one owner, a set of the right size, and W words
-- what is lent to write in
abbrev pub lent_of : List ℕ → List ℕ → LentSet
lent_of set work = record { set = set; work = work }

pub record SolitaireRunnable (t : Tables) (set work : List ℕ) : Type 0 where
  pub accepted : Accepted t
  pub one_owner : check11 (vertices t) t.owners ≡ none
  pub set_size : length set ≡ words (vertices t)
  pub room : length work ≡ work_words (vertices t) (edges_in t)

-- the marked row stands behind the words of the search for parts, and the two sets behind the row; two words more, for where there
-- is no vertex the attractor's layers have two. W words have room for them
pub rows_fit : (n m : ℕ) → sets_behind n m + words n + words n ≤ work_words n m
unfolding work_words words
rows_fit zero m = omega arith
rows_fit (suc n) m = go ((suc n + 63) / 64) (omega arith)
  where
    go : (s : ℕ) → 0 < s → sets_behind (suc n) m + s + s ≤ 8 * (suc n + 2) * s + 4 * suc n + 2 * m + 272
    go zero l = absurd (omega arith)
    go (suc s) l =
        let wide : 2 * s ≤ 8 * (suc n + 2) * s = mul-le-mul_right s (omega arith) in
        rw (mul-suc (8 * (suc n + 2)) s) (omega arith)

-- the owner of all is 0 or 1
pub sole_owner_small : (t : Tables) → Accepted t → (owner : ℕ) → owner ≡ get_or t.owners 0 0 → owner ≤ 1
sole_owner_small t accepted owner is =
    ⊎_elim
    (λ (l : 0 < vertices t). omega (arith, (accepted_sound t accepted).owner_small 0 l))
    (λ (h : vertices t ≤ 0). omega (arith, get_or-eq_default t.owners 0 {n = 0} h))
    (lt_or_ge 0 (vertices t))

-- where the marked row and the two sets stand, as the run asked for it
pub record SetsStand (t : Tables) (s row base good : ℕ) : Type 0 where
  pub row_at : row ≡ behind (vertices t) (edges_in t)
  pub base_at : base ≡ sets_behind (vertices t) (edges_in t)
  pub good_at_lem : good ≡ base + s

-- and both sets stand where a set may
base_free : (n m : ℕ) → free n m ≤ sets_behind n m
unfolding words
base_free n m = omega arith

module _ (t : Tables) (set w₀ : List ℕ) (given : SolitaireRunnable t set w₀) (owner : ℕ) (is : owner ≡ get_or t.owners 0 0)
    {row base good : ℕ} (at : SetsStand t (length set) row base good) where
  abbrev n : ℕ
  n = vertices t

  abbrev s : ℕ
  s = length set

  -- the owner, as the rules have it
  player : player_of owner ≡ sole_owner t
  player = ap player_of is

  fits : good + s ≤ length w₀
  fits = omega (arith, rows_fit n (edges_in t), given.room, given.set_size)

  pub mark_ready : GoodMarkable t owner w₀ row
  mark_ready = record { accepted = given.accepted; side = sole_owner_small t given.accepted owner is; low = omega arith; high = omega (arith, fits) }

  module _ (w₁ : List ℕ) (marks : GoodMarked t (player_of owner) row w₀ w₁) where
    pub place_ready : GoodPlaceable n s row base w₁
    place_ready = record { size = given.set_size; low = omega arith; high = omega (arith, fits, marks.long) }

    module _ (w₂ : List ℕ) (placed : GoodPlaced n s row base w₁ w₂) where
      found : (v : ℕ) → set_at n good w₂ v ≡ marked n row w₁ v
      found v = rw at.good_at_lem (placed.found v)

      pub attract_ready : Attractable t.owners t.offsets t.targets owner base good w₂
      attract_ready =
          record {
            placed =
                record {
                  within_low = omega (arith, base_free n (edges_in t));
                  within_high = omega (arith, fits, marks.long, placed.long, given.set_size);
                  set_low = omega (arith, base_free n (edges_in t));
                  set_high = omega (arith, fits, marks.long, placed.long, given.set_size);
                  apart = inl (omega (arith, given.set_size));
                };
            nested =
                record {
                  below = λ v e. ltb-true v n (sym (placed.full v) ∙ e);
                  part = λ v e. placed.full v ∙ lt-ltb v n (marked_true n row w₁ v (sym (found v) ∙ e)).0;
                };
            edges = edges_sound t given.accepted;
            listed =
                listed_kept n t.offsets t.targets w₁ w₂ placed.long (λ i l. placed.front i (omega arith)) marks.listed;
            side = sole_owner_small t given.accepted owner is;
          }

      module _ (looks : ℕ) (w₃ : List ℕ) (drawn : Attracted t (player_of owner) base good w₂ w₃ looks) where
        pub long₃ : length w₃ ≡ length w₀
        long₃ = drawn.long ∙ placed.long ∙ marks.long

        pub copy_fits : good + s ≤ length w₃
        copy_fits = omega (arith, fits, long₃)

        -- the words that are copied out
        copied : take ((good + s) - good) (drop good w₃) ≡ words_at n good w₃
        copied =
            part_is good s w₃ ∙ ap (λ (k : ℕ). take k (drop good w₃)) given.set_size

        pub copy_long : length set ≡ length (take ((good + s) - good) (drop good w₃))
        copy_long = given.set_size ∙ sym drawn.holds.long ∙ sym (ap length copied)

        -- the attractor of the good parts among all vertices
        answer : (v : ℕ) → v < n →
            attractor (game_of t) (player_of owner) (set_at n base w₂) (set_at n good w₂) v ≡ solitaire (game_of t) (sole_owner t) v
        unfolding game_of
        answer v l =
            ap₂ (λ (X T : Set). attractor (game_of t) (player_of owner) X T v)
            (fun_ext placed.full)
            (fun_ext (λ u. found u ∙ marks.found u)) ∙
            sym
            (solitaire_attractor (game_of t) (accepted_total t given.accepted) (player_of owner)
            (λ u k. accepted_one_owner t given.one_owner u k ∙ sym player) v) ∙
            ap (λ (a : Player). solitaire (game_of t) a v) player

        pub answer_holds :
            (set' : List ℕ) →
            set' ≡ take ((good + s) - good) (drop good w₃) →
            Narrow set' →
            Holds n (solitaire (game_of t) (sole_owner t)) set'
        answer_holds set' e narrow = narrow_holds narrow (rw (e, copied) as_bits)
          where
            as_bits : Bits n (solitaire (game_of t) (sole_owner t)) (words_at n good w₃)
            as_bits =
                record {
                  long = drawn.holds.long;
                  bits = λ v l. drawn.holds.bits v l ∙ answer v l;
                  clear = drawn.holds.clear;
                }

-- ---- the public solver

-- a refusal is given as it is, and nothing is written
leaves_refused : (v : Verdict) (t : Tables) (l : LentSet) → (v ≡ none → ⊥) → SolitaireLeaves v t l l
leaves_refused none t l h = absurd (h refl)
leaves_refused (refused k p) t l h = refl

pub solves_refused :
    (t : Tables) (l : LentSet) (o : Outcome) → o ≡ outcome (solitaire_checks t l) (answered 0) → (o.number ≡ 0 → ⊥) → SolvesSolitaire t l l o
solves_refused t l o e h =
    record {
      gives = e;
      leaves =
          leaves_refused (solitaire_checks t l) t l
          (λ z. h (ap (λ (x : Outcome). x.number) (e ∙ ap (λ (v : Verdict). outcome v (answered 0)) z)));
    }

-- an answer
pub solves_answered :
    (t : Tables) (before after : LentSet) →
    solitaire_checks t before ≡ none →
    Holds (vertices t) (solitaire (game_of t) (sole_owner t)) after.set →
    after.work ≡ cleared t before.work →
    SolvesSolitaire t before after (answered 0)
solves_answered t before after passed set work =
    record { gives = rw passed refl; leaves = rw passed (record { set = set; work = work }) }

-- past the checks the first W words are what the run asks for
pub run_ready :
    (t : Tables) (w : ℕ) (set work : List ℕ) →
    w ≡ work_words (vertices t) (edges_in t) →
    SolitairePassed t (length set) (length work) →
    SolitaireRunnable t set (take (w - 0) (drop 0 work))
run_ready t w set work is p =
    record {
      accepted = p.accepted;
      one_owner = p.one_owner;
      set_size = p.set_size;
      room = omega (arith, length-take (w - 0) work, p.work_size);
    }
