use Rattle.std.proofs.Common.{◌+◌, map, drop, refl, ◌∙◌, sym, append-nil, ◌++◌}
use Rattle.std.proofs.lemmas.List.{at_drop_all}
use Rattle.bg_kinds.specs.FaultViews.{best_of}
use Rattle.bg_kinds.specs.Faults.{first_of}
use Rattle.bg_ast.specs.Views.{type_of}
use Rattle.bg_kinds.specs.Kinds.{kind_in, type_faults, named_by}
use Rattle.bg_types.specs.Programs.{written_faults}
use Rattle.bg_kinds.specs.KindViews.{kind_in_of, kinds_in}
use Rattle.bg_kinds.proofs.Loops.{dropped, step_best, step_made}
use Rattle.bg_types.proofs.tables.written.Goals as goal

pub loop-t-preserved : goal.loop-t-preserved
loop-t-preserved c =
    let named = named_by (kinds_in c.args.named.now) in
    let x = c.t-item.result in
    let rest = drop (c.loop-t.t-index + 1) c.args.ts.now in
    let at = dropped c.args.ts.now c.loop-t.t-index x c.loop-t-test.true c.t-item.is in
    record {
      best = step_best (λ l. written_faults named (map type_of l)) (type_faults named (type_of x)) _ rest x _ _ at refl c.in_ok-judge_type.ensures.best ∙ c.loop-t.invariant.best;
      kinds = step_made (λ l. map (kind_in named) (map type_of l)) kind_in_of (kind_in named (type_of x)) c.loop-t.made.items _ c.in_ok-judge_type.field-0 _ rest x at refl c.in_ok-push.ensures.items c.in_ok-judge_type.ensures.kind ∙ c.loop-t.invariant.kinds;
    }

pub returns-clause-best : goal.returns-clause-best
returns-clause-best c =
    sym (at_drop_all (λ l. first_of (best_of c.loop-t.best) (written_faults (named_by (kinds_in c.args.named.now)) (map type_of l))) c.args.ts.now c.loop-t.t-index c.loop-t-test.false) ∙ c.loop-t.invariant.best

pub returns-clause-kinds : goal.returns-clause-kinds
returns-clause-kinds c =
    let made = kinds_in c.loop-t.made.items in
    sym (append-nil made) ∙ sym (at_drop_all (λ l. made ++ map (kind_in (named_by (kinds_in c.args.named.now))) (map type_of l)) c.args.ts.now c.loop-t.t-index c.loop-t-test.false) ∙ c.loop-t.invariant.kinds
