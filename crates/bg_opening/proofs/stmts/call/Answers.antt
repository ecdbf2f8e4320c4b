use Rattle.std.proofs.Common.{◌≡◌, map, ap, ◌∙◌, rules}
use Rattle.bg_ast.specs.Views.{ex_of}
use Rattle.bg_opening.specs.Desks.{opened_at}
use Rattle.bg_opening.proofs.Statements.{call-is}
use Rattle.bg_opening.proofs.stmts.call.Goals as goal

pub returns : goal.returns
returns c =
    let o = opened_at c.args.desk in
    let k = c.args.k.now in
    let same : c.in_ok-to_vec.field-0.items ≡ k.takes.items = search rules in
    call-is o k c.in_ok-all_opened.field-0 c.in_ok-to_vec.field-0 (c.in_ok-all_opened.ensures ∙ ap (λ l. map o (map ex_of l)) c.deref.ensures.value) same
