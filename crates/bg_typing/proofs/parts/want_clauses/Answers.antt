use Rattle.std.proofs.Common.{map, refl, ◌∙◌, sym}
use Rattle.std.proofs.lemmas.List.{at_drop_all}
use Rattle.bg_kinds.specs.FaultViews.{best_of}
use Rattle.bg_kinds.specs.Faults.{first_of}
use Rattle.bg_ast.specs.Views.{clause_of}
use Rattle.bg_typing.specs.Stmts.{clauses_faults}
use Rattle.bg_typing.specs.SideViews.{scope_of}
use Rattle.bg_kinds.proofs.Loops.{dropped, step_best}
use Rattle.bg_typing.proofs.parts.want_clauses.Goals as goal

pub loop-k-preserved : goal.loop-k-preserved
loop-k-preserved c =
    let at = dropped c.args.clauses.now c.loop-k.k-index c.k-item.result c.loop-k-test.true c.k-item.is in
    step_best (λ l. clauses_faults (scope_of c.args.g) (map clause_of l)) _ _ _ _ _ _ at refl c.in_ok-want_truth.ensures ∙ c.loop-k.invariant

pub returns : goal.returns
returns c =
    sym (at_drop_all (λ l. first_of (best_of c.loop-k.best) (clauses_faults (scope_of c.args.g) (map clause_of l))) c.args.clauses.now c.loop-k.k-index c.loop-k-test.false) ∙ c.loop-k.invariant
