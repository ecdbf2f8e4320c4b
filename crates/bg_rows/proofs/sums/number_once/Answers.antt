use Rattle.bg_rows.proofs.Once.{fits_from, product_once}
use Rattle.bg_rows.proofs.sums.number_once.Goals as goal

pub returns : goal.returns
returns c = product_once c.args.by (fits_from c.args.by c.ranges.by)
