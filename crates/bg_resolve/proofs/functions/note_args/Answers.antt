use Rattle.std.proofs.Common.{map, flat_map, sym, ◌∙◌}
use Rattle.std.proofs.lemmas.List.{at_drop_all}
use Rattle.bg_text.specs.Views as v
use Rattle.bg_names.specs.Faults.{better}
use Rattle.bg_names.specs.Views.{first_of}
use Rattle.bg_resolve.specs.Program.{arg_faults}
use Rattle.bg_spaces.specs.SpaceViews.{spaces_in}
use Rattle.bg_spaces.proofs.Noted.{noted_step}
use Rattle.bg_resolve.proofs.functions.note_args.Goals as goal

pub loop-a-preserved : goal.loop-a-preserved
loop-a-preserved c = noted_step (arg_faults (spaces_in c.args.g.now) c.args.has_body) v.fun_arg_of _ _ c.args.args.now c.loop-a.a-index c.a-item.result _ c.loop-a-test.true c.a-item.is c.loop-a.invariant c.in_ok-note_arg.ensures.first

pub returns-clause-first : goal.returns-clause-first
returns-clause-first c =
    sym (at_drop_all (λ l. better (first_of c.loop-a.notes) (flat_map (arg_faults (spaces_in c.args.g.now) c.args.has_body) (map v.fun_arg_of l))) c.args.args.now c.loop-a.a-index c.loop-a-test.false) ∙ c.loop-a.invariant
