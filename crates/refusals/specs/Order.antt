-- Of the refusals that apply the first in document 01's order is given, with its own place: for tables, for a record, for what a
-- solver is lent, and for a certificate.
use Rattle.std.specs.Prelude.{List, [], ◌∷◌, ◌≡◌, ℕ, length}
use Rattle.rules.specs.Game.{Game}
use Rattle.rules.specs.Outcome.{Verdict, none, refused}
use Rattle.rules.specs.Tables.{Tables, vertices, edges_in, table_checks, check9, check10}
use Rattle.rules.specs.Tables.{check1, check2, check3, check4, check5, check6, check7, check8}
use Rattle.rules.specs.Record.{Record, record_tables, check47, record_checks}
use Rattle.rules.specs.Solver.{Lent, solver_checks}
use Rattle.rules.specs.Checker.{check21, check22, check23, check24, certificate_checks}

module _ (t : Tables) where
  abbrev c1 : Verdict
  c1 = check1 (vertices t)

  abbrev c2 : Verdict
  c2 = check2 (vertices t) (length t.priorities) (length t.offsets)

  abbrev c3 : Verdict
  c3 = check3 (edges_in t)

  abbrev c4 : Verdict
  c4 = check4 (vertices t) t.owners

  abbrev c5 : Verdict
  c5 = check5 (vertices t) t.priorities

  abbrev c6 : Verdict
  c6 = check6 (vertices t) (edges_in t) t.offsets

  abbrev c7 : Verdict
  c7 = check7 (vertices t) (edges_in t) t.targets

  abbrev c8 : Verdict
  c8 = check8 (vertices t) t.offsets

  pub gives_1 : {k p : ℕ} → c1 ≡ refused k p → table_checks t ≡ refused k p
  unfolding table_checks
  gives_1 e = rw e

  pub gives_2 : {k p : ℕ} → c1 ≡ none → c2 ≡ refused k p → table_checks t ≡ refused k p
  unfolding table_checks
  gives_2 a e = rw (a, e)

  pub gives_3 : {k p : ℕ} → c1 ≡ none → c2 ≡ none → c3 ≡ refused k p → table_checks t ≡ refused k p
  unfolding table_checks
  gives_3 a b e = rw (a, b, e)

  pub gives_4 : {k p : ℕ} → c1 ≡ none → c2 ≡ none → c3 ≡ none → c4 ≡ refused k p → table_checks t ≡ refused k p
  unfolding table_checks
  gives_4 a b c e = rw (a, b, c, e)

  pub gives_5 : {k p : ℕ} → c1 ≡ none → c2 ≡ none → c3 ≡ none → c4 ≡ none → c5 ≡ refused k p → table_checks t ≡ refused k p
  unfolding table_checks
  gives_5 a b c d e = rw (a, b, c, d, e)

  pub gives_6 :
      {k p : ℕ} → c1 ≡ none → c2 ≡ none → c3 ≡ none → c4 ≡ none → c5 ≡ none → c6 ≡ refused k p → table_checks t ≡ refused k p
  unfolding table_checks
  gives_6 a b c d f e = rw (a, b, c, d, f, e)

  pub gives_7 :
      {k p : ℕ} → c1 ≡ none → c2 ≡ none → c3 ≡ none → c4 ≡ none → c5 ≡ none → c6 ≡ none → c7 ≡ refused k p →
      table_checks t ≡ refused k p
  unfolding table_checks
  gives_7 a b c d f g e = rw (a, b, c, d, f, g, e)

  pub gives_8 :
      {k p : ℕ} → c1 ≡ none → c2 ≡ none → c3 ≡ none → c4 ≡ none → c5 ≡ none → c6 ≡ none → c7 ≡ none → c8 ≡ refused k p →
      table_checks t ≡ refused k p
  unfolding table_checks
  gives_8 a b c d f g h e = rw (a, b, c, d, f, g, h, e)

-- 47 after 1 to 8
pub gives_47 : (r : Record) {k p : ℕ} → record_tables r ≡ none → check47 r ≡ refused k p → record_checks r ≡ refused k p
unfolding record_checks
gives_47 r a e = rw (a, e)

pub before_47 : (r : Record) {k p : ℕ} → record_tables r ≡ refused k p → record_checks r ≡ refused k p
unfolding record_checks
before_47 r e = rw e

-- 9 and 10 after 1 to 8, for what a solver is lent
module _ (t : Tables) (lent : Lent) where
  abbrev c9 : Verdict
  c9 = check9 (vertices t) (length lent.even ∷ length lent.odd ∷ []) (length lent.strategy ∷ [])

  pub gives_9 : {k p : ℕ} → table_checks t ≡ none → c9 ≡ refused k p → solver_checks t lent ≡ refused k p
  gives_9 a e = rw (a, e)

  pub gives_10 :
      {k p : ℕ} →
      table_checks t ≡ none →
      c9 ≡ none →
      check10 (vertices t) (edges_in t) (length lent.work) ≡ refused k p →
      solver_checks t lent ≡ refused k p
  gives_10 a b e = rw (a, b, e)

-- 21, 22 or 25, 23 and 24
module _ (g : Game) (even odd strategy : List ℕ) {k p : ℕ} where
  pub gives_21 : check21 g.size even odd ≡ refused k p → certificate_checks g even odd strategy ≡ refused k p
  unfolding certificate_checks
  gives_21 e = rw e

  pub gives_22 :
      check21 g.size even odd ≡ none →
      check22 g even strategy ≡ refused k p →
      certificate_checks g even odd strategy ≡ refused k p
  unfolding certificate_checks
  gives_22 a e = rw (a, e)

  pub gives_23 :
      check21 g.size even odd ≡ none →
      check22 g even strategy ≡ none →
      check23 g even strategy ≡ refused k p →
      certificate_checks g even odd strategy ≡ refused k p
  unfolding certificate_checks
  gives_23 a b e = rw (a, b, e)

  pub gives_24 :
      check21 g.size even odd ≡ none →
      check22 g even strategy ≡ none →
      check23 g even strategy ≡ none →
      check24 g even strategy ≡ refused k p →
      certificate_checks g even odd strategy ≡ refused k p
  unfolding certificate_checks
  gives_24 a b c e = rw (a, b, c, e)
