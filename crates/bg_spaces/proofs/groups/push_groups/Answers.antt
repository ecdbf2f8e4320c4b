use Rattle.std.proofs.Common.{sym, ◌∙◌, append-nil, map, ◌++◌}
use Rattle.std.proofs.lemmas.List.{at_drop_all}
use Rattle.bg_spaces.specs.Declarations.{named_groups}
use Rattle.bg_ast.specs.Views.{declared_of}
use Rattle.bg_spaces.specs.SpaceViews.{spaces_in}
use Rattle.bg_text.specs.Views as v
use Rattle.bg_spaces.proofs.groups.push_groups.Goals as goal

pub returns-clause-ok : goal.returns-clause-ok
returns-clause-ok c =
    let made = map declared_of c.loop-x.out.items in
    sym (append-nil made) ∙ sym (at_drop_all (λ l. made ++ named_groups (spaces_in c.args.g.now) (map v.group_of l)) c.args.xs.now c.loop-x.x-index c.loop-x-test.false) ∙ c.loop-x.invariant
