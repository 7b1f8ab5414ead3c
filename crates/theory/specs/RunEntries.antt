-- Two runs on one set agree on their entries at the winners' own vertices: so every run has the rules' entries there, and a table that
-- has a run's entries and none elsewhere is the rules' table.
use Rattle.std.specs.Prelude.{true, false, List, ◌≡◌, ℕ, ◌≤◌, ◌<◌, length}
use Rattle.std.proofs.Common.{⊎_elim, sym, ap, ap₂, ◌∙◌, lt-ltb}
use Rattle.std.proofs.Math.Logic.{by_cases}
use Rattle.std.proofs.Math.Path.{fun_ext}
use Rattle.rules.specs.Counting.{Set, listed}
use Rattle.rules.specs.Game.{Player, Even, opponent, Game, everywhere, Total}
use Rattle.rules.specs.Words.{entry, no_entry}
use Rattle.rules.specs.Distance.{outside}
use Rattle.rules.specs.Zielonka.{with_priority, zielonka_on, zielonka}
use Rattle.basics.specs.Basics.{bool_cases, clash, union_cases, without_intro, listed_is}
use Rattle.theory.specs.Players.{player_decided}
use Rattle.theory.specs.AttractorComplement.{TotalIn}
use Rattle.theory.specs.Distance.{nearest}
use Rattle.theory.specs.Run.{Top, top_unique, Cut, AllWon, AllEntries, SomeLost, SomeEntries, Run, empty, all_won}
use Rattle.theory.specs.Run.{some_lost}
use Rattle.theory.specs.Run.{both_players, run_over_lem}
use Rattle.theory.specs.RunSound.{run_sound}
use Rattle.theory.specs.RunSame.{cut_same, first_same, lost_same, same_on}
use Rattle.theory.specs.Zielonka.{rules_run_entries, rules_run_absent, runs_are_the_rules, everywhere_below}
use Rattle.theory.specs.Zielonka.{everywhere_total}

-- the entries agree at the vertices that their winner owns
abbrev pub Alike : Game → (Player → Set) → (ℕ → ℕ) → (ℕ → ℕ) → Type 0
Alike g won σ σ' = (c : Player) (v : ℕ) → won c v ≡ true → g.owner v ≡ c → σ v ≡ σ' v

-- the nearest successor depends on the player and on the members of the target alone
nearest_same :
    (g : Game) (V' : Set) {c c' : Player} {T T' : Set} →
    c ≡ c' →
    ((v : ℕ) → T v ≡ T' v) →
    (v : ℕ) →
    nearest g c V' T v ≡ nearest g c' V' T' v
nearest_same g V' player target v = ap₂ (λ (x : Player) (X : Set). nearest g x V' X v) player (fun_ext target)

-- where a wins all of V
all_alike :
    {g : Game} {V' A A' rest rest' : Set} {first won : Player → Set} {found found' σ σ' : ℕ → ℕ} {a a' : Player} {p p' k : ℕ} →
    Top g V' a p →
    Top g V' a' p' →
    (cut : Cut g a V' (with_priority g V' p) A rest) →
    (cut' : Cut g a' V' (with_priority g V' p') A' rest') →
    Run g rest first found k →
    AllWon a V' first won →
    AllEntries g a V' (with_priority g V' p) A cut.drawn.pull found σ →
    AllEntries g a' V' (with_priority g V' p') A' cut'.drawn.pull found' σ' →
    Alike g first found found' →
    Alike g won σ σ'
all_alike {g} {V'} {A} {A'} {first} {won} {σ} {σ'} {a} {a'} {p} {p'} top top' cut cut' run result entries entries' again =
    both_players a (λ c. (v : ℕ) → won c v ≡ true → g.owner v ≡ c → σ v ≡ σ' v)
    (λ v q. mine v (sym (result.mine v) ∙ q))
    (λ v q. absurd (clash q (result.theirs v)))
  where
    player : a ≡ a'
    player = (top_unique top top').0

    target : (v : ℕ) → with_priority g V' p v ≡ with_priority g V' p' v
    target v = ap (λ (x : ℕ). with_priority g V' x v) (top_unique top top').1

    drawn : (v : ℕ) → A v ≡ A' v
    drawn = (cut_same player target cut cut').0

    won_first : (v : ℕ) → V' v ≡ true → A v ≡ false → first a v ≡ true
    won_first v q out =
        ⊎_elim
        (λ r. r)
        (λ r. absurd (clash r (result.nothing v)))
        ((run_sound run).splits.covers a v (cut.left v ∙ without_intro V' A v q out))

    mine : (v : ℕ) → V' v ≡ true → g.owner v ≡ a → σ v ≡ σ' v
    mine v q o =
        ⊎_elim
        (λ (u : with_priority g V' p v ≡ true).
        entries.lowest v u o ∙ sym (entries'.lowest v (sym (target v) ∙ u) (o ∙ player)))
        (λ (u : with_priority g V' p v ≡ false).
        ⊎_elim
        (λ (m : A v ≡ true).
        let m' = sym (drawn v) ∙ m in
        let u' = sym (target v) ∙ u in
        entries.pulled v m u o ∙
        cut.near v m u o ∙
        nearest_same g V' player target v ∙
        sym (cut'.near v m' u' (o ∙ player)) ∙
        sym (entries'.pulled v m' u' (o ∙ player)))
        (λ (m : A v ≡ false).
        entries.kept v q m o ∙
        again a v (won_first v q m) o ∙
        sym (entries'.kept v q (sym (drawn v) ∙ m) (o ∙ player)))
        (bool_cases (A v)))
        (bool_cases (with_priority g V' p v))

-- where the opponent wins some
some_alike :
    {g : Game}
    {V' W' B B' rest rest' : Set}
    {first second second' won : Player → Set}
    {found found' found₂ found₂' σ σ' : ℕ → ℕ}
    {a a' : Player} →
    a ≡ a' →
    ((v : ℕ) → first (opponent a) v ≡ W' v) →
    ((v : ℕ) → B v ≡ B' v) →
    ((c : Player) (v : ℕ) → second c v ≡ second' c v) →
    (cut : Cut g (opponent a) V' (first (opponent a)) B rest) →
    (cut' : Cut g (opponent a') V' W' B' rest') →
    SomeLost a B first second won →
    SomeEntries g (opponent a) (first (opponent a)) B second cut.drawn.pull found found₂ σ →
    SomeEntries g (opponent a') W' B' second' cut'.drawn.pull found' found₂' σ' →
    Alike g first found found' →
    Alike g second found₂ found₂' →
    Alike g won σ σ'
some_alike {g} {V'} {B} {first} {second} {won} {σ} {σ'} {a} {a'} player lost drawn seconds cut cut' result entries entries' again later₂ =
    both_players a (λ c. (v : ℕ) → won c v ≡ true → g.owner v ≡ c → σ v ≡ σ' v)
    (λ v q. later a v (sym (result.mine v) ∙ q))
    (λ v q o.
    ⊎_elim
    (λ m. theirs v m o)
    (λ m. later (opponent a) v m o)
    (union_cases B (second (opponent a)) v (sym (result.theirs v) ∙ q)))
  where
    foe : opponent a ≡ opponent a'
    foe = ap (λ (x : Player). opponent x) player

    later : (c : Player) (v : ℕ) → second c v ≡ true → g.owner v ≡ c → σ v ≡ σ' v
    later c v q o = entries.later c v q o ∙ later₂ c v q o ∙ sym (entries'.later c v (sym (seconds c v) ∙ q) o)

    theirs : (v : ℕ) → B v ≡ true → g.owner v ≡ opponent a → σ v ≡ σ' v
    theirs v m o =
        ⊎_elim
        (λ (w : first (opponent a) v ≡ true).
        entries.kept v w o ∙ again (opponent a) v w o ∙ sym (entries'.kept v (sym (lost v) ∙ w) (o ∙ foe)))
        (λ (w : first (opponent a) v ≡ false).
        let m' = sym (drawn v) ∙ m in
        let w' = sym (lost v) ∙ w in
        entries.pulled v m w o ∙
        cut.near v m w o ∙
        nearest_same g V' foe lost v ∙
        sym (cut'.near v m' w' (o ∙ foe)) ∙
        sym (entries'.pulled v m' w' (o ∙ foe)))
        (bool_cases (first (opponent a) v))

-- **Two runs on one set have the same entries at the winners' own vertices.**
pub alike_on :
    {g : Game} {V' : Set} {won won' : Player → Set} {σ σ' : ℕ → ℕ} {n n' : ℕ} →
    Run g V' won σ n → Run g V' won' σ' n' → Alike g won σ σ'
alike_on (empty none nothing e) run' = λ c v q. absurd (clash q (nothing c v))
alike_on (all_won top cut run result entries e) (empty none' nothing' e') =
    absurd (clash top.member (none' top.vertex))
alike_on (all_won top cut run result entries e) (all_won top' cut' run' result' entries' e') =
    let moved = run_over_lem (first_same top top' cut cut') run' in
    all_alike top top' cut cut' run result entries entries' (alike_on run moved)
alike_on (all_won top cut run result entries e) (some_lost top' cut' run' cut₂' run₂' result' entries' e') =
    let player = (top_unique top top').0 in
    let same_first = same_on run (run_over_lem (first_same top top' cut cut') run') in
    absurd (clash result'.lost (sym (lost_same player same_first result'.vertex) ∙ result.nothing result'.vertex))
alike_on (some_lost top cut run cut₂ run₂ result entries e) (empty none' nothing' e') =
    absurd (clash top.member (none' top.vertex))
alike_on (some_lost top cut run cut₂ run₂ result entries e) (all_won top' cut' run' result' entries' e') =
    let player = (top_unique top top').0 in
    let same_first = same_on run (run_over_lem (first_same top top' cut cut') run') in
    absurd (clash result.lost (lost_same player same_first result.vertex ∙ result'.nothing result.vertex))
alike_on (some_lost top cut run cut₂ run₂ result entries e) (some_lost top' cut' run' cut₂' run₂' result' entries' e') =
    let player = (top_unique top top').0 in
    let moved = run_over_lem (first_same top top' cut cut') run' in
    let same_first = same_on run moved in
    let lost = lost_same player same_first in
    let (drawn, rest) = cut_same (ap (λ (x : Player). opponent x) player) lost cut₂ cut₂' in
    let moved₂ = run_over_lem rest run₂' in
    some_alike player lost drawn (same_on run₂ moved₂).sets cut₂ cut₂' result entries entries'
    (alike_on run moved)
    (alike_on run₂ moved₂)

-- **Every run has the rules' entries at the winners' own vertices,** where no vertex has the number for none.
pub run_has_the_entries :
    {g : Game} {V' : Set} {won : Player → Set} {σ : ℕ → ℕ} {n : ℕ} →
    g.size ≤ outside →
    ((v : ℕ) → V' v ≡ true → v < g.size) →
    TotalIn g V' →
    Run g V' won σ n →
    Alike g won σ (zielonka_on g V').entries
run_has_the_entries {g} {V'} few below total run = alike_on run (rules_run_entries g V' few below total)

-- **So a table that has a run's entries at the winners' own vertices, and none elsewhere, is the rules' table.**
pub run_strategy :
    {g : Game} {won : Player → Set} {σ : ℕ → ℕ} {n : ℕ} →
    Total g →
    g.size ≤ outside →
    Run g (everywhere g) won σ n →
    (strategy : List ℕ) →
    length strategy ≡ g.size →
    ((c : Player) (v : ℕ) → v < g.size → won c v ≡ true → g.owner v ≡ c → entry strategy v ≡ σ v) →
    ((c : Player) (v : ℕ) → v < g.size → won c v ≡ true → (g.owner v ≡ c → ⊥) → entry strategy v ≡ no_entry) →
    strategy ≡ listed g.size (zielonka g).entries
unfolding zielonka
run_strategy {g} {won} {σ} total few run strategy long chosen absent =
    listed_is g.size (zielonka_on g (everywhere g)).entries no_entry strategy long
    (λ v l.
    ⊎_elim (at Even v l) (at (opponent Even) v l) ((run_sound run).splits.covers Even v (lt-ltb v g.size l)))
  where
    at : (c : Player) (v : ℕ) → v < g.size → won c v ≡ true → entry strategy v ≡ (zielonka_on g (everywhere g)).entries v
    at c v l q =
        by_cases
        (player_decided (g.owner v) c)
        (λ o.
        chosen c v l q o ∙
        run_has_the_entries few (everywhere_below g) (everywhere_total g total) run c v q o)
        (λ o.
        absent c v l q o ∙
        sym
        (rules_run_absent g (everywhere g) (everywhere_below g) (everywhere_total g total) c v
        (sym ((runs_are_the_rules (everywhere_below g) (everywhere_total g total) run).sets c v) ∙ q)
        o))
