use Rattle.std.proofs.Common.{List, map, drop, sym, ap, ◌∙◌, arith}
use Rattle.std.proofs.lemmas.List.{drop_all}
use Rattle.bg_ast.specs.Views.{type_name_of}
use Rattle.bg_ast.specs.declared.resolved.Function.{Function}
use Rattle.bg_confirm.proofs.Tabling.{fits_from, fits_ended}
use Rattle.bg_confirm.proofs.functions.functions_fit.Goals as goal

pub returns : goal.returns
returns c =
    let types = map type_name_of c.args.types.now in
    let fs = c.args.functions.now in
    let gs = c.args.given.now in
    fits_ended types gs c.loop-f.next c.loop-f.invariant.0
    ∙ (sym (ap (λ (l : List Function). fits_from types l (drop c.loop-f.next gs)) (drop_all c.loop-f.f-index fs (omega (arith, c.loop-f-test.false)))) ∙ c.loop-f.invariant.1)
