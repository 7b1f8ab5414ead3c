-- `after_found` meets its contract: the stage by its tests, and both answers kept all or not.
use mathlib.Core.Bool.{◌&&◌}
use mathlib.Core.Path.{◌≡◌, refl, ap, ◌∙◌}
use Rattle.quasi_level.specs.Standing.{stage_number, not_half, found_first, found_ends, found_later}
use Rattle.quasi_level.proofs.passes.Passes.after_found.Goals as goal
use Rattle.quasi_level.proofs.passes.Passes.after_found.Goals.{then-self, else-self, Joined-self}

-- what is kept where the two meet
kept : (c : Joined-self) → c.if-self.keeps ≡ (c.args.self.keeps && c.args.sub.drops)
kept c =
    elim c.if-self.branch [
      | then-self w ↦ w.keeps-is ∙ rw w.if-self.true refl
      | else-self w ↦ w.keeps-is ∙ rw w.if-self.false refl
    ]

pub returns-in-Half : goal.returns-in-Half
returns-in-Half c =
    record { stage = found_first _ _ _ (ap stage_number c.in-Half.is); keeps = kept c.before; drops = refl }

pub returns-in_default : goal.returns-in_default
returns-in_default c =
    record {
      stage = found_ends _ _ _ (not_half _ c.in_default.not-Half) c.if-half-eq0.true;
      keeps = kept c.before.before;
      drops = refl;
    }

pub returns-in_default-2 : goal.returns-in_default-2
returns-in_default-2 c =
    record {
      stage = found_later _ _ _ (not_half _ c.in_default.not-Half) c.if-half-eq0.false;
      keeps = kept c.before.before.before;
      drops = refl;
    }
