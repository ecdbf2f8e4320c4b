use Rattle.std.proofs.Common.{arith, get_or, length, ◌≤◌, ◌<◌}
use Rattle.bg_elim.specs.Work.{work_of, PairReady}
use Rattle.bg_elim.proofs.Orders.{in_at}
use Rattle.bg_elim.proofs.Rounds.{extends_on}
use Rattle.bg_elim.proofs.Pairs.{is_pair_extends, round_whole, gets_as, upper_step, all_in_rows}
use Rattle.bg_elim.proofs.pair.pair_all.Goals as goal

pub pair_lower-requires-clause-pairs : goal.pair_lower-requires-clause-pairs
pair_lower-requires-clause-pairs c = λ j h.
    let lt : c.loop-i.i-index < length c.args.ups.now = omega arith in
    c.loop-i.invariant.pairs (get_or c.args.ups.now c.loop-i.i-index 0) j (in_at c.args.ups.now c.loop-i.i-index lt) h

pub loop-i-preserved : goal.loop-i-preserved
loop-i-preserved c =
    let e = c.in_ok-pair_lower.ensures in
    let i = c.loop-i.invariant in
    let w = work_of c.args.work.now in
    let a = work_of c.loop-i.work in
    let b = work_of c.pair_lower.new.work in
    record {
      indexed = e.indexed;
      room = e.room;
      pairs = λ k j g h. is_pair_extends a b c.args.x k j e.extends (i.pairs k j g h);
      extends = extends_on w a b i.extends e.extends;
      sound = λ given h. e.sound given (i.sound given h);
      ready = upper_step w c.args.x c.args.ups.now c.args.lows.now a b c.loop-i.i-index i.extends i.ready
          (round_whole c.args.budget a c.args.x b _ _ e.round c.in-Whole.is);
    }

pub returns-clause-round : goal.returns-clause-round
returns-clause-round c =
    let le : length c.args.ups.now ≤ c.loop-i.i-index = omega arith in
    gets_as (work_of c.args.work.now) c.args.x (work_of c.loop-i.work) _ _
    (λ f. all_in_rows (λ i j. PairReady (work_of c.loop-i.work) c.args.x i j) c.args.ups.now c.args.lows.now c.loop-i.i-index le f)
    c.loop-i.invariant.ready
