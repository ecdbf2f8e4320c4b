use Rattle.std.proofs.Common.{arith, length, ◌≤◌}
use Rattle.bg_elim.specs.Work.{work_of, PairReady}
use Rattle.bg_elim.proofs.Rounds.{extends_on}
use Rattle.bg_elim.proofs.Pairs.{is_pair_extends, paired_ready, gets_as, lower_step, all_in}
use Rattle.bg_elim.proofs.pair.pair_lower.Goals as goal

pub loop-j-preserved : goal.loop-j-preserved
loop-j-preserved c =
    let e = c.in_ok-pair.ensures in
    let i = c.loop-j.invariant in
    let w = work_of c.args.work.now in
    let a = work_of c.loop-j.work in
    let b = work_of c.pair.new.work in
    record {
      indexed = e.indexed;
      room = e.room;
      pairs = λ j h. is_pair_extends a b c.args.x c.args.i j e.extends (i.pairs j h);
      extends = extends_on w a b i.extends e.extends;
      sound = λ given h. e.sound given (i.sound given h);
      ready = lower_step w c.args.x c.args.i c.args.lows.now a b c.loop-j.j-index i.extends i.ready
          (paired_ready c.args.budget a c.args.x c.args.i _ b _ e.paired c.in-Ready.is);
    }

pub returns-clause-round : goal.returns-clause-round
returns-clause-round c =
    let le : length c.args.lows.now ≤ c.loop-j.j-index = omega arith in
    gets_as (work_of c.args.work.now) c.args.x (work_of c.loop-j.work) _ _
    (λ f. all_in (λ j. PairReady (work_of c.loop-j.work) c.args.x c.args.i j) c.args.lows.now c.loop-j.j-index le f)
    c.loop-j.invariant.ready
