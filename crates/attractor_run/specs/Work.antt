-- What the parts of the work ask for and leave: what goes in, what comes out, and the whole.
use Rattle.std.specs.Prelude.{true, false, List, ◌≡◌, ℕ, ◌+◌, ◌*◌, ◌≤◌, ◌<◌, length, take, drop}
use Rattle.rules.specs.Attractor.{looks_of}
use Rattle.rules.specs.Attracts.{wanted}
use Rattle.rules.specs.Counting.{listed}
use Rattle.rules.specs.Distance.{distance, attractor_entry}
use Rattle.rules.specs.Game.{Player}
use Rattle.rules.specs.Tables.{Tables, game_of, vertices, words, Accepted, tables_of}
use Rattle.rules.specs.Words.{set_of, Narrow, Holds}
use Rattle.predecessors.specs.Table.{SoundEdges}
use Rattle.area.specs.Area.{layers, free, words_at, entry_at, distance_at}
use Rattle.attractor.specs.Attracted.{Listed}
use Rattle.attractor_outputs.specs.Outputs.{drawn_in, chosen, measure}

-- what `prepare` asks for: two sets' words, and room for them and the predecessor table
pub record SetsPreparable (n : ℕ) (offsets targets within target work : List ℕ) (base : ℕ) : Type 0 where
  pub edges : SoundEdges n offsets targets
  pub within_size : length within ≡ words n
  pub target_size : length target ≡ words n
  pub low : n + 1 + length targets ≤ base
  pub high : base + length within + length within ≤ length work

-- what it leaves
pub record SetsPrepared (n : ℕ) (offsets targets within target before after : List ℕ) (base : ℕ) : Type 0 where
  pub long : length after ≡ length before
  pub table : Listed n offsets targets after
  pub first : words_at n base after ≡ within
  pub second : words_at n (base + length within) after ≡ target

-- the words of the result in the work area
abbrev pub found : List ℕ → List ℕ → ℕ → List ℕ
found target work set = take (length target) (drop set work)

-- what `hand_out` asks for: the work area as the attractor left it, and outputs of the right sizes
pub record Handing (owners : List ℕ) (m alpha : ℕ) (target work : List ℕ) (set : ℕ) (result strategy distances : List ℕ)
    : Type 0 where
  pub few : (length owners ≤ 4096) × (m ≤ 16384)
  pub low : layers (length owners) m ≤ length work
  pub high : set + length target ≤ length work
  pub bits : (v : ℕ) → v < length owners → v < 64 * length target
  pub result_size : length result ≡ length target
  pub strategy_size : length strategy ≡ length owners
  pub distances_size : length distances ≡ length owners
  pub entries_narrow :
      (v : ℕ) →
      v < length owners →
      drawn_in owners alpha target (found target work set) v ≡ true →
      entry_at (length owners) m work v < 65536
  pub distances_narrow :
      (v : ℕ) →
      v < length owners →
      set_of (found target work set) v ≡ true →
      set_of target v ≡ false →
      distance_at (length owners) m work v < 65536

-- what it leaves
pub record Handed (owners : List ℕ) (m alpha : ℕ) (target work : List ℕ) (set : ℕ) (result strategy distances : List ℕ)
    : Type 0 where
  pub result_is : result ≡ found target work set
  pub strategy_is :
      strategy ≡ listed (length owners) (chosen owners alpha target (found target work set) (entry_at (length owners) m work))
  pub distances_is :
      distances ≡ listed (length owners) (measure target (found target work set) (distance_at (length owners) m work))
  pub narrow : Narrow result

-- what `run` asks for: tables that some priorities make accepted, sets and outputs of the right sizes, and room
pub record AttractorRunnable (owners offsets targets : List ℕ) (alpha : ℕ) (within target result strategy distances work : List ℕ)
    : Type 0 where
  pub priorities : List ℕ
  pub accepted : Accepted (tables_of owners priorities offsets targets)
  pub side : alpha ≤ 1
  pub within_size : length within ≡ words (length owners)
  pub target_size : length target ≡ words (length owners)
  pub result_size : length result ≡ words (length owners)
  pub strategy_size : length strategy ≡ length owners
  pub distances_size : length distances ≡ length owners
  pub room : free (length owners) (length targets) + words (length owners) + words (length owners) ≤ length work
  pub below : (v : ℕ) → set_of within v ≡ true → v < length owners
  pub part : (v : ℕ) → set_of target v ≡ true → set_of within v ≡ true

-- what it leaves
pub record AttractorRan (t : Tables) (a : Player) (within target result strategy distances : List ℕ) (looks : ℕ) : Type 0 where
  pub set : Holds (vertices t) (wanted t a within target) result
  pub entries : strategy ≡ listed (vertices t) (attractor_entry (game_of t) a (set_of within) (set_of target))
  pub far : distances ≡ listed (vertices t) (distance (game_of t) a (set_of within) (set_of target))
  pub met : looks ≡ looks_of (game_of t) (wanted t a within target)
