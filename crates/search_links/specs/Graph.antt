-- The graph that a search for parts goes over: the tables of a game, the entries, and the highest priority that is let in. Its links are
-- the chosen ones of the theory.
use Rattle.std.specs.Prelude.{Bool, ◌&&◌, ◌||◌, List, ◌≡◌, ℕ, ◌+◌, ◌<◌, eqb, leb, length, get_or}
use Rattle.rules.specs.Counting.{Set}
use Rattle.rules.specs.Game.{Game, Even, Edge}
use Rattle.rules.specs.Solitaire.{Links, at_most}
use Rattle.rules.specs.Tables.{targets_of}
use Rattle.rules.specs.Words.{entry, no_entry}
use Rattle.theory.specs.Chosen.{chosen_links}
use Rattle.theory.specs.Links.{Linked}
use Rattle.theory.specs.Walks.{Relation}
use Rattle.predecessors.specs.Table.{SoundEdges}
use Rattle.search_rows.specs.declared.Rows.{Rows}
use Rattle.search_links.specs.declared.links.Graph.{Graph as Lent}

pub record Graph : Type 0 where
  pub priorities : List ℕ
  pub offsets : List ℕ
  pub targets : List ℕ
  pub entries : List ℕ
  pub top : ℕ

abbrev pub graph : List ℕ → List ℕ → List ℕ → List ℕ → ℕ → Graph
graph priorities offsets targets entries top =
    record { priorities = priorities; offsets = offsets; targets = targets; entries = entries; top = top }

-- the graph that the code is lent
abbrev pub graph_of : Lent → Graph
graph_of g = graph g.priorities.now g.offsets.now g.targets.now g.entries.now g.p

-- its vertices and its edges
abbrev pub size : Graph → ℕ
size G = length G.priorities

abbrev pub edge_count : Graph → ℕ
edge_count G = length G.targets

-- where the search keeps what it knows
abbrev pub rows_of : Graph → Rows
rows_of G = record { n = size G; m = edge_count G }

abbrev pub priority : Graph → ℕ → ℕ
priority G v = get_or G.priorities v 0

abbrev pub offset : Graph → ℕ → ℕ
offset G v = get_or G.offsets v 0

abbrev pub target : Graph → ℕ → ℕ
target G e = get_or G.targets e 0

-- the game of these tables; who owns a vertex plays no part
abbrev pub game_in : Graph → Game
game_in G =
    record { size = size G; owner = λ v. Even; priority = priority G; targets = targets_of G.offsets G.targets }

-- the vertices let in, and the links among them
abbrev pub low : Graph → Set
low G = at_most (game_in G) G.top

abbrev pub links_in : Graph → Links
links_in G = chosen_links (game_in G) G.entries (low G)

abbrev pub Leads : Graph → Relation
Leads G = Linked (size G) (links_in G)

-- tables as the checks leave them, and entries that are targets where they are not none
pub record SoundGraph (G : Graph) : Type 0 where
  pub edges : SoundEdges (size G) G.offsets G.targets
  pub entry_edge : (v : ℕ) → v < size G → (entry G.entries v ≡ no_entry → ⊥) → Edge (game_in G) v (entry G.entries v)

-- v keeps its edges to w: it has no entry, or w is its entry
unfoldable pub keeping : List ℕ → ℕ → ℕ → Bool
keeping entries v w = eqb (entry entries v) no_entry || eqb w (entry entries v)

-- x is of priority at most p, and its word is 0
unfoldable pub fresh_at : List ℕ → ℕ → List ℕ → ℕ → ℕ → Bool
fresh_at priorities p work base x = leb (get_or priorities x 0) p && eqb (get_or work (base + x) 0) 0
