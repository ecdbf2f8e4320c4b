use Rattle.std.proofs.Common.{rules, ◌≡◌, ◌++◌, [], ◌∷◌}
use Rattle.bg_scalar.proofs.Keyed.{key_step, key_none, key_end}
use Rattle.bg_scalar.proofs.brackets.key.Goals as goal

pub loop-v-preserved : goal.loop-v-preserved
loop-v-preserved c =
    let new : c.push_part.new.made.items ≡ c.loop-v.made.items ++ c.in-Some.z ∷ [] = search rules in
    key_step c.args.index.now c.loop-v.v-index c.v-item.result c.loop-v.made.items c.push_part.new.made.items c.in-Some.z _ _ c.loop-v-test.true c.v-item.is c.part.ensures c.in-Some.is new c.loop-v.invariant

pub returns-in-None : goal.returns-in-None
returns-in-None c =
    key_none c.args.index.now c.loop-v.v-index c.v-item.result c.loop-v.made.items _ _ c.loop-v-test.true c.v-item.is c.part.ensures c.in-None.is c.loop-v.invariant

pub returns : goal.returns
returns c = key_end c.args.index.now c.loop-v.v-index c.loop-v.made.items _ c.loop-v-test.false c.loop-v.invariant
