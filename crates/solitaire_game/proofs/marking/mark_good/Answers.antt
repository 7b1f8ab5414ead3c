-- `mark_good` meets its contract: each stage leaves what the next one needs.
use mathlib.Core.List.{[]}
use mathlib.Core.Path.{refl}
use Rattle.solitaire_game.specs.Marking.{build_ready, sweep_ready, good_marked}
use Rattle.solitaire_game.proofs.marking.mark_good.Goals as goal

pub build-requires : goal.build-requires
build-requires c = build_ready _ _ _ _ c.requires.0 _ c.clear.ensures

pub mark_parity-requires : goal.mark_parity-requires
mark_parity-requires c = (
  sweep_ready _ _ _ _ c.requires.0 _ c.clear.ensures _ c.build.ensures [] (λ v. refl) _ c.requires.0.side,
  c.requires.1,
)

pub returns : goal.returns
returns c =
    good_marked _ _ _ _ c.requires.0 _ c.clear.ensures _ c.build.ensures [] (λ v. refl) _ c.mark_parity.ensures
