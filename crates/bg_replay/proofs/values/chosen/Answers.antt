use Rattle.std.proofs.Common.{map, sym}
use Rattle.bg_scalar.specs.Choices.{choice_of}
use Rattle.bg_replay.proofs.Written.{none_left, none_taken, one_taken}
use Rattle.bg_replay.proofs.values.chosen.Goals as goal

pub returns-in-None : goal.returns-in-None
returns-in-None c =
    none_left c.loop-t.made.items c.args.kinds.now c.loop-t.t-index c.t-item.result c.loop-t.left.now _ c.loop-t-test.true c.t-item.is c.in-None.ensures.cases c.loop-t.invariant

pub returns-in-None-typed_value : goal.returns-in-None-typed_value
returns-in-None-typed_value c =
    none_taken c.loop-t.made.items c.args.kinds.now c.loop-t.t-index c.t-item.result _ c.in-Some.first.now c.in-Some.rest.now _ c.loop-t-test.true c.t-item.is c.as_ref.ensures (sym (c.in-None-typed_value.ensures (map choice_of c.in-Some.rest.now))) (rw c.in-Some.ensures.cases.0 at c.loop-t.invariant)

pub loop-t-preserved : goal.loop-t-preserved
loop-t-preserved c =
    one_taken c.loop-t.made.items c.push.new.self.items c.args.kinds.now c.loop-t.t-index c.t-item.result _ c.in-Some.first.now c.in-Some.rest.now c.in-Some-typed_value.x.now c.in_ok-copy-in-Some-typed_value.field-0 _ c.loop-t-test.true c.t-item.is c.as_ref.ensures (sym (c.in-Some-typed_value.ensures (map choice_of c.in-Some.rest.now))) c.in_ok-copy-in-Some-typed_value.ensures c.in_ok-push-in-Some-typed_value.ensures.items (rw c.in-Some.ensures.cases.0 at c.loop-t.invariant)
