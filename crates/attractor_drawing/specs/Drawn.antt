-- One attractor as clauses see it: the tables, the player, and where V and the set that grows stand in the work area.
use Rattle.std.specs.Prelude.{List, ℕ, length}
use Rattle.rules.specs.Counting.{Set}
use Rattle.rules.specs.Tables.{Tables, tables_of}
use Rattle.area.specs.Area.{set_at}
use Rattle.attractor_drawing.specs.declared.Drawing.{Drawing}

pub record Plan : Type 0 where
  pub owners : List ℕ
  pub offsets : List ℕ
  pub targets : List ℕ
  pub alpha : ℕ
  pub within : ℕ
  pub set : ℕ

-- what a drawing stands for
abbrev pub drawn : Drawing → Plan
drawn d =
    record {
      owners = d.owners.now;
      offsets = d.offsets.now;
      targets = d.targets.now;
      alpha = d.alpha;
      within = d.within;
      set = d.set;
    }

-- the tables, with priorities
abbrev pub tables_with : Plan → List ℕ → Tables
tables_with d priorities = tables_of d.owners priorities d.offsets d.targets

-- V in a work area
abbrev pub inside : Plan → List ℕ → Set
inside d work = set_at (length d.owners) d.within work
