use Rattle.std.proofs.Common.{[], arith}
use Rattle.std.proofs.lemmas.Result.{on_ok_weaker}
use Rattle.bg_ast.specs.Views.{exs_in}
use Rattle.bg_expanded.proofs.Counted.{exprs_counted}
use Rattle.bg_expanded.proofs.sized.add_exprs.Goals as goal

pub returns : goal.returns
returns c =
    on_ok_weaker c.add_all.result (λ h o k.
    let counted = exprs_counted c.args.table.now o k (exs_in c.args.es.now) in
    let added = h [] in
    omega (arith, counted, added)) c.add_all.ensures
