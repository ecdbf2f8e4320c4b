use Rattle.std.proofs.Common.{◌++◌, map, sym, ap, ◌∙◌}
use Rattle.std.proofs.lemmas.Result.{on_ok_weaker}
use Rattle.bg_flow.specs.Blocks.{Exit, Leap}
use Rattle.bg_passive.specs.ReadBack.{exit_choices}
use Rattle.bg_blocks.specs.Views.{exit_of}
use Rattle.bg_model.specs.Picks.{choice_by}
use Rattle.bg_model.proofs.exit.exit.Goals as goal

pub returns-in-Leap-clause-made : goal.returns-in-Leap-clause-made
returns-in-Leap-clause-made c =
    on_ok_weaker c.leap.result
    (λ made vs. made vs ∙ ap (λ (x : Exit). map (choice_by vs) c.args.made.now.items ++ exit_choices x c.args.j) (ap Leap c.deref.ensures.value ∙ ap exit_of (sym c.in-Leap.is)))
    c.leap.ensures.made
