use Rattle.std.proofs.Common.{map, ap, ◌∙◌}
use Rattle.bg_ast.specs.Views.{ex_of}
use Rattle.bg_opening.specs.Desks.{opened_at}
use Rattle.bg_opening.proofs.Statements.{exs-are}
use Rattle.bg_opening.proofs.stmts.bracket.Goals as goal

pub returns : goal.returns
returns c =
    let o = opened_at c.args.desk in
    ap (λ l. (c.args.b.now.pos, l)) (exs-are o c.args.b.now.indices.items c.in_ok-indices.indices.items (c.in_ok-indices.ensures ∙ ap (λ l. map o (map ex_of l)) c.deref.ensures.value))
