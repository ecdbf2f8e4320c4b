use Rattle.std.proofs.Common.{sym, ◌∙◌, append-nil, map, ◌++◌}
use Rattle.std.proofs.lemmas.List.{at_drop_all}
use Rattle.bg_resolve.specs.Program.{arg_type}
use Rattle.bg_ast.specs.Views.{type_of}
use Rattle.bg_spaces.specs.SpaceViews.{spaces_in}
use Rattle.bg_text.specs.Views as v
use Rattle.bg_resolve.proofs.functions.arg_types.Goals as goal

pub returns-clause-made : goal.returns-clause-made
returns-clause-made c =
    let made = map type_of c.loop-a.out.items in
    sym (append-nil made) ∙ sym (at_drop_all (λ l. made ++ map (arg_type (spaces_in c.args.g.now)) (map v.fun_arg_of l)) c.args.args.now c.loop-a.a-index c.loop-a-test.false) ∙ c.loop-a.invariant
