use Rattle.std.proofs.Common.{sym, ◌∙◌, append-nil, map, flat_map, ◌++◌}
use Rattle.std.proofs.lemmas.List.{at_drop_all}
use Rattle.bg_resolve.specs.Program.{named_vars}
use Rattle.bg_ast.specs.Views.{declared_of}
use Rattle.bg_spaces.specs.SpaceViews.{spaces_in}
use Rattle.bg_text.specs.Views as v
use Rattle.bg_resolve.proofs.code.locals.Goals as goal

pub returns-clause-made : goal.returns-clause-made
returns-clause-made c =
    let made = map declared_of c.loop-x.out.items in
    sym (append-nil made) ∙ sym (at_drop_all (λ l. made ++ flat_map (named_vars (spaces_in c.args.g.now)) (map v.vars_of l)) c.args.xs.now c.loop-x.x-index c.loop-x-test.false) ∙ c.loop-x.invariant
