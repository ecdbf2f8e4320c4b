use Rattle.std.proofs.Common.{◌-◌, length, map, drop, sym, ap, ◌∙◌, arith}
use Rattle.std.proofs.lemmas.List.{drop-map, length-drop, take_all}
use Rattle.bg_ast.specs.Views.{declared_of}
use Rattle.bg_certify.proofs.given.constants_of.Goals as goal

pub returns-then-outcome-all : goal.returns-then-outcome-all
returns-then-outcome-all c =
    let g = c.args.outcome.now.globals in
    let all = c.as_slice-all.result.now in
    let left = length-drop g all in
    ap (map declared_of) (take_all (length all - g) (drop g all) (omega (arith, left)))
    ∙ (sym (drop-map declared_of g all) ∙ ap (λ l. drop g (map declared_of l)) c.as_slice-all.ensures.value)
