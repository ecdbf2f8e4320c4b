use Rattle.std.proofs.Common.{sym, ◌∙◌, append-nil, map, ◌++◌}
use Rattle.std.proofs.lemmas.List.{at_drop_all}
use Rattle.bg_typing.specs.SideViews.{side_of, scope_of}
use Rattle.bg_typing.specs.Stmts.{placed_sides}
use Rattle.bg_ast.specs.Views.{placed_of}
use Rattle.bg_typing.proofs.parts.sides_at.Goals as goal

pub returns : goal.returns
returns c =
    let made = map side_of c.loop-x.made.items in
    sym (append-nil made) ∙ sym (at_drop_all (λ l. made ++ placed_sides (scope_of c.args.g) (map placed_of l)) c.args.xs.now c.loop-x.x-index c.loop-x-test.false) ∙ c.loop-x.invariant
