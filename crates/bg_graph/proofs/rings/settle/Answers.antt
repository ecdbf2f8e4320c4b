use Rattle.std.proofs.Common.{ℕ, List, Contains, get_or, subst, sym}
use Rattle.std.proofs.lemmas.List.{take_all}
use Rattle.bg_graph.proofs.Parts.{settled_more, kept_more, fewer_more}
use Rattle.bg_graph.proofs.rings.settle.Goals as goal

pub loop-v-preserved : goal.loop-v-preserved
loop-v-preserved c =
    let i = c.loop-v.v-index in let part = c.args.part.now in
    rw c.set_spot.ensures (record {
      settled = settled_more c.args.spots.now c.loop-v.spots part i c.loop-v-test.true c.loop-v.auto.spots c.loop-v.invariant.settled;
      kept = kept_more c.args.spots.now c.loop-v.spots part i c.loop-v-test.true c.loop-v.auto.spots c.loop-v.invariant.kept;
      fewer = fewer_more c.args.spots.now c.loop-v.spots (get_or part i 0) c.loop-v.invariant.fewer;
    })

pub returns-clause-settled : goal.returns-clause-settled
returns-clause-settled c v h =
    let P : List ℕ → Type 0 = λ l. Contains l v in
    c.loop-v.invariant.settled v (subst P (sym (take_all c.loop-v.v-index c.args.part.now c.loop-v-test.false)) h)
