use Rattle.std.proofs.Common.{◌+◌, map, drop, refl, ◌∙◌, sym, append-nil, ◌++◌}
use Rattle.std.proofs.lemmas.List.{at_drop_all}
use Rattle.bg_kinds.specs.FaultViews.{best_of}
use Rattle.bg_kinds.specs.Faults.{first_of}
use Rattle.bg_ast.specs.Views.{declared_of}
use Rattle.bg_kinds.specs.Kinds.{type_faults, named_by}
use Rattle.bg_types.specs.Programs.{declared_kind, declared_faults, declared_kinds}
use Rattle.bg_kinds.specs.KindViews.{kind_in_of, kinds_in}
use Rattle.bg_kinds.proofs.Loops.{dropped, step_best, step_made}
use Rattle.bg_types.proofs.tables.push_declared.Goals as goal

pub loop-d-preserved : goal.loop-d-preserved
loop-d-preserved c =
    let named = named_by (kinds_in c.args.named.now) in
    let x = c.d-item.result in
    let rest = drop (c.loop-d.d-index + 1) c.args.ds.now in
    let at = dropped c.args.ds.now c.loop-d.d-index x c.loop-d-test.true c.d-item.is in
    record {
      best = step_best (λ l. declared_faults named (map declared_of l)) (type_faults named (declared_of x).ty) _ rest x _ _ at refl c.in_ok-judge_type.ensures.best ∙ c.loop-d.invariant.best;
      kinds = step_made (λ l. map (declared_kind named) (map declared_of l)) kind_in_of (declared_kind named (declared_of x)) c.loop-d.out.items _ c.in_ok-judge_type.field-0 _ rest x at refl c.in_ok-push.ensures.items c.in_ok-judge_type.ensures.kind ∙ c.loop-d.invariant.kinds;
    }

pub returns-clause-best : goal.returns-clause-best
returns-clause-best c =
    sym (at_drop_all (λ l. first_of (best_of c.loop-d.best) (declared_faults (named_by (kinds_in c.args.named.now)) (map declared_of l))) c.args.ds.now c.loop-d.d-index c.loop-d-test.false) ∙ c.loop-d.invariant.best

pub returns-clause-kinds : goal.returns-clause-kinds
returns-clause-kinds c =
    let made = kinds_in c.loop-d.out.items in
    sym (append-nil made) ∙ sym (at_drop_all (λ l. made ++ declared_kinds (named_by (kinds_in c.args.named.now)) (map declared_of l)) c.args.ds.now c.loop-d.d-index c.loop-d-test.false) ∙ c.loop-d.invariant.kinds
