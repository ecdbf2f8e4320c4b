use Rattle.bg_wanted.specs.Rows.{row_of}
use Rattle.bg_wanted.proofs.Rowed.{map_there}
use Rattle.bg_wanted.proofs.false_here.is_pair_lost.Goals as goal

pub returns-in-Some-get : goal.returns-in-Some-get
returns-in-Some-get c =
    let x = c.in-Some.x.now in
    let y = c.in-Some-get.y.now in
    λ e.
    record {
      one = row_of x;
      other = row_of y;
      first = map_there row_of c.args.rows.now c.args.a x c.in-Some.ensures.lookup.3.0 (c.in-Some.ensures.lookup.3.1 x);
      second = map_there row_of c.args.rows.now c.args.b y c.in-Some-get.ensures.lookup.3.0 (c.in-Some-get.ensures.lookup.3.1 y);
      wrong = c.is_pair_wrong.ensures e;
    }
