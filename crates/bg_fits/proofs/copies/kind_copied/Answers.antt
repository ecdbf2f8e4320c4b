use Rattle.bg_kinds.specs.Views.{base_of}
use Rattle.bg_kinds.proofs.Gathered.{tower_same}
use Rattle.bg_fits.proofs.copies.kind_copied.Goals as goal

pub returns : goal.returns
returns c = tower_same c.in_ok-maps.maps.items c.args.t.maps.now (base_of c.args.t.base) c.in_ok-maps.ensures
