use Rattle.std.proofs.Common.{◌+◌, ◌∷◌, [], ◌++◌, map, drop, ap, sym, refl, ◌∙◌, append-nil}
use Rattle.std.proofs.lemmas.List.{map-append, at_drop_all}
use Rattle.bg_kinds.specs.FaultViews.{best_of}
use Rattle.bg_kinds.specs.Faults.{first_of}
use Rattle.bg_ast.specs.Views.{target_of}
use Rattle.bg_typing.specs.Exprs.{sides_of, faults_of}
use Rattle.bg_typing.specs.Stmts.{targets}
use Rattle.bg_typing.specs.SideViews.{side_of, scope_of}
use Rattle.bg_kinds.proofs.Loops.{dropped, step_best, step_sides}
use Rattle.bg_typing.proofs.parts.judge_targets.Goals as goal

pub loop-t-preserved : goal.loop-t-preserved
loop-t-preserved c =
    let g = scope_of c.args.g in
    let at = dropped c.args.ts.now c.loop-t.t-index c.t-item.result c.loop-t-test.true c.t-item.is in
    let made = ap (map side_of) c.in_ok-push.ensures.items ∙ map-append side_of c.loop-t.made.items (c.in_ok-judge_target.field-0 ∷ []) in
    record {
      best = step_best (λ l. faults_of (targets g (map target_of l))) _ _ _ _ _ _ at refl c.in_ok-judge_target.ensures.best ∙ c.loop-t.invariant.best;
      sides =
          ap (λ l. l ++ sides_of (targets g (map target_of (drop (c.loop-t.t-index + 1) c.args.ts.now)))) made
          ∙ (step_sides (λ l. sides_of (targets g (map target_of l))) (side_of c.in_ok-judge_target.field-0) _ _ _ (map side_of c.loop-t.made.items) at (ap (λ a. a ∷ sides_of (targets g (map target_of (drop (c.loop-t.t-index + 1) c.args.ts.now)))) (sym c.in_ok-judge_target.ensures.side))
          ∙ c.loop-t.invariant.sides);
    }

pub returns-clause-best : goal.returns-clause-best
returns-clause-best c =
    sym (at_drop_all (λ l. first_of (best_of c.loop-t.best) (faults_of (targets (scope_of c.args.g) (map target_of l)))) c.args.ts.now c.loop-t.t-index c.loop-t-test.false) ∙ c.loop-t.invariant.best

pub returns-clause-sides : goal.returns-clause-sides
returns-clause-sides c =
    let made = map side_of c.loop-t.made.items in
    sym (append-nil made) ∙ sym (at_drop_all (λ l. made ++ sides_of (targets (scope_of c.args.g) (map target_of l))) c.args.ts.now c.loop-t.t-index c.loop-t-test.false) ∙ c.loop-t.invariant.sides
