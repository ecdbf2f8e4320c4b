use Rattle.std.proofs.Common.{map, flat_map, sym, ◌∙◌}
use Rattle.std.proofs.lemmas.List.{at_drop_all}
use Rattle.bg_text.specs.Views as v
use Rattle.bg_names.specs.Faults.{better}
use Rattle.bg_names.specs.Views.{first_of}
use Rattle.bg_resolve.specs.Program.{vars_faults}
use Rattle.bg_spaces.specs.SpaceViews.{spaces_in}
use Rattle.bg_spaces.proofs.Noted.{noted_step}
use Rattle.bg_resolve.proofs.code.note_locals.Goals as goal

pub loop-x-preserved : goal.loop-x-preserved
loop-x-preserved c = noted_step (vars_faults (spaces_in c.args.g.now)) v.vars_of _ _ c.args.xs.now c.loop-x.x-index c.x-item.result _ c.loop-x-test.true c.x-item.is c.loop-x.invariant c.in_ok-note_local.ensures.first

pub returns-clause-first : goal.returns-clause-first
returns-clause-first c =
    sym (at_drop_all (λ l. better (first_of c.loop-x.notes) (flat_map (vars_faults (spaces_in c.args.g.now)) (map v.vars_of l))) c.args.xs.now c.loop-x.x-index c.loop-x-test.false) ∙ c.loop-x.invariant
