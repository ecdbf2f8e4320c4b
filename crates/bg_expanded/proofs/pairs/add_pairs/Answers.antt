use Rattle.std.proofs.Common.{◌+◌, ◌-◌, length, map, refl, sym, subst, arith}
use Rattle.bg_opening.specs.Nexts.{code_of, AreNexts}
use Rattle.bg_expanded.specs.Bodies.{worth}
use Rattle.bg_expanded.specs.Pairs.{AreCounts}
use Rattle.bg_expanded.proofs.Tallies.{none_counted, from_here, one_counted, none_has, all_has, has_more, as_last}
use Rattle.bg_expanded.proofs.pairs.add_pairs.Goals as goal

pub loop-done-init : goal.loop-done-init
loop-done-init c = record {
  counted = none_counted c.args.told.now c.new-counts.result.items c.new-counts.ensures.items;
  has = λ ws. none_has c.args.told.now (worth c.args.count.now ws);
}

pub count_behind-n-requires : goal.count_behind-n-requires
count_behind-n-requires c =
    let told = c.args.told.now in
    let place = (length told - 1) - c.loop-done.done in
    let counted = c.loop-done.invariant.counted in
    let counts = sym c.deref-in-loop-done.ensures.value in
    record {
      nexts = subst (AreNexts (map code_of told)) (sym c.deref.ensures.value) c.in_ok-nexts.ensures;
      counts = subst (AreCounts told (place + 1)) counts (from_here told c.loop-done.done place c.loop-done.counts.items c.loop-done-test.true refl counted);
      place = omega (arith, c.loop-done-test.true);
      first = c.index-told-place.is;
    }

pub loop-done-preserved : goal.loop-done-preserved
loop-done-preserved c =
    let told = c.args.told.now in
    let done = c.loop-done.done in
    let x = c.index-told-place.result in
    let known = c.loop-done.invariant in
    let n = c.count_behind-n.result in
    record {
      counted =
          one_counted told done _ c.loop-done.counts.items c.loop-done-test.true refl known.counted x n c.push.new.self.items c.index-told-place.is c.count_behind-n.ensures c.in_ok-push.ensures.items;
      has =
          λ ws.
          has_more told done x n (worth c.args.count.now ws) (worth c.loop-done.count ws) (worth c.add_apart.new.count ws) c.loop-done-test.true c.index-told-place.is (as_last told done _ x n c.loop-done-test.true refl c.count_behind-n.ensures) (known.has ws) (c.add_apart.ensures ws);
    }

pub returns : goal.returns
returns c ws =
    all_has c.args.told.now (worth c.args.count.now ws) (worth c.loop-done.count ws) c.loop-done.done c.loop-done-test.false (c.loop-done.invariant.has ws)
