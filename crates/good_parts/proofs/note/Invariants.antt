-- `note` meets its contract. The loop's invariant: the vertices below u have told.
use Rattle.good_parts.specs.Noting.{Noted}
use Rattle.good_parts.proofs.note.Given as goal

abbrev pub invariant-loop-u : goal.invariant-loop-u
invariant-loop-u l = Noted l.priorities l.m l.p l.initial.work l.row l.two l.u l.work
