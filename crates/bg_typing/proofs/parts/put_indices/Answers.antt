use Rattle.std.proofs.Common.{map, ap, ◌∙◌, sym}
use Rattle.std.proofs.lemmas.List.{at_drop_all}
use Rattle.bg_typing.specs.Stmts.{indexed}
use Rattle.bg_ast.specs.Views.{bracket_of, exs_in}
use Rattle.bg_kinds.specs.Faults.{first_of}
use Rattle.bg_typing.specs.Exprs.{judge_all, sides_of, faults_of}
use Rattle.bg_kinds.specs.FaultViews.{best_of}
use Rattle.bg_typing.specs.SideViews.{side_of, scope_of}
use Rattle.bg_kinds.proofs.Loops.{dropped}
use Rattle.bg_typing.proofs.Steps.{indexed_best, indexed_side}
use Rattle.bg_typing.proofs.parts.put_indices.Goals as goal

pub loop-bracket-preserved : goal.loop-bracket-preserved
loop-bracket-preserved c =
    let g = scope_of c.args.g in
    let at = ap (map bracket_of) (dropped c.args.brackets.now c.loop-bracket.bracket-index c.bracket-item.result c.loop-bracket-test.true c.bracket-item.is) in
    let sides = ap (map side_of) c.deref-in-loop-bracket.ensures.value ∙ (c.in_ok-es.ensures.sides ∙ ap (λ l. sides_of (judge_all g (exs_in l))) c.deref.ensures.value) in
    let best = c.in_ok-es.ensures.best ∙ ap (λ l. first_of (best_of c.loop-bracket.best) (faults_of (judge_all g (exs_in l)))) c.deref.ensures.value in
    record {
      best = indexed_best g (side_of c.loop-bracket.side) _ _ _ _ _ _ _ _ _ at sides c.select-side.ensures.side best c.select-side.ensures.best ∙ c.loop-bracket.invariant.best;
      side = indexed_side g (side_of c.loop-bracket.side) _ _ _ _ _ _ at sides c.select-side.ensures.side ∙ c.loop-bracket.invariant.side;
    }

pub returns-clause-best : goal.returns-clause-best
returns-clause-best c =
    sym (at_drop_all (λ l. first_of (best_of c.loop-bracket.best) (indexed (scope_of c.args.g) (side_of c.loop-bracket.side) (map bracket_of l)).faults) c.args.brackets.now c.loop-bracket.bracket-index c.loop-bracket-test.false) ∙ c.loop-bracket.invariant.best

pub returns-clause-side : goal.returns-clause-side
returns-clause-side c =
    sym (at_drop_all (λ l. (indexed (scope_of c.args.g) (side_of c.loop-bracket.side) (map bracket_of l)).side) c.args.brackets.now c.loop-bracket.bracket-index c.loop-bracket-test.false) ∙ c.loop-bracket.invariant.side
