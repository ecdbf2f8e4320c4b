use Rattle.std.proofs.Common.{◌+◌, map, drop, refl, ◌∙◌, sym, append-nil, ◌++◌}
use Rattle.std.proofs.lemmas.List.{at_drop_all}
use Rattle.bg_kinds.specs.FaultViews.{best_of}
use Rattle.bg_kinds.specs.Faults.{first_of}
use Rattle.bg_ast.specs.Views.{const_of}
use Rattle.bg_kinds.specs.Kinds.{type_faults, named_by}
use Rattle.bg_types.specs.Programs.{consts_faults, const_kind}
use Rattle.bg_kinds.specs.KindViews.{kind_in_of, kinds_in}
use Rattle.bg_kinds.proofs.Loops.{dropped, step_best, step_made}
use Rattle.bg_types.proofs.tables.constants.Goals as goal

pub loop-c-preserved : goal.loop-c-preserved
loop-c-preserved c =
    let named = named_by (kinds_in c.args.named.now) in
    let x = c.c-item.result in
    let rest = drop (c.loop-c.c-index + 1) c.args.cs.now in
    let at = dropped c.args.cs.now c.loop-c.c-index x c.loop-c-test.true c.c-item.is in
    record {
      best = step_best (λ l. consts_faults named (map const_of l)) (type_faults named (const_of x).ty) _ rest x _ _ at refl c.in_ok-judge_type.ensures.best ∙ c.loop-c.invariant.best;
      kinds = step_made (λ l. map (const_kind named) (map const_of l)) kind_in_of (const_kind named (const_of x)) c.loop-c.made.items _ c.in_ok-judge_type.field-0 _ rest x at refl c.in_ok-push.ensures.items c.in_ok-judge_type.ensures.kind ∙ c.loop-c.invariant.kinds;
    }

pub returns-clause-best : goal.returns-clause-best
returns-clause-best c =
    sym (at_drop_all (λ l. first_of (best_of c.loop-c.best) (consts_faults (named_by (kinds_in c.args.named.now)) (map const_of l))) c.args.cs.now c.loop-c.c-index c.loop-c-test.false) ∙ c.loop-c.invariant.best

pub returns-clause-kinds : goal.returns-clause-kinds
returns-clause-kinds c =
    let made = kinds_in c.loop-c.made.items in
    sym (append-nil made) ∙ sym (at_drop_all (λ l. made ++ map (const_kind (named_by (kinds_in c.args.named.now))) (map const_of l)) c.args.cs.now c.loop-c.c-index c.loop-c-test.false) ∙ c.loop-c.invariant.kinds
