use Rattle.std.proofs.Common.{◌+◌, map, drop, refl, ◌∙◌, sym}
use Rattle.std.proofs.lemmas.List.{at_drop_all}
use Rattle.bg_kinds.specs.FaultViews.{best_of}
use Rattle.bg_kinds.specs.Faults.{first_of}
use Rattle.bg_ast.specs.Views.{ex_of}
use Rattle.bg_typing.specs.Stmts.{truth_faults, truths_faults}
use Rattle.bg_typing.specs.SideViews.{scope_of}
use Rattle.bg_kinds.proofs.Loops.{dropped, step_best}
use Rattle.bg_types.proofs.checks.check_truths.Goals as goal

pub loop-e-preserved : goal.loop-e-preserved
loop-e-preserved c =
    let g = scope_of c.args.g in
    let x = c.e-item.result in
    let rest = drop (c.loop-e.e-index + 1) c.args.es.now in
    let at = dropped c.args.es.now c.loop-e.e-index x c.loop-e-test.true c.e-item.is in
    step_best (λ l. truths_faults g (map ex_of l)) (truth_faults g (ex_of x)) _ rest x _ _ at refl c.in_ok-want_truth.ensures ∙ c.loop-e.invariant

pub returns : goal.returns
returns c =
    sym (at_drop_all (λ l. first_of (best_of c.loop-e.best) (truths_faults (scope_of c.args.g) (map ex_of l))) c.args.es.now c.loop-e.e-index c.loop-e-test.false) ∙ c.loop-e.invariant
