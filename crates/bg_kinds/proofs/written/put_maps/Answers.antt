use Rattle.std.proofs.Common.{Some, ap, ◌∙◌}
use Rattle.bg_kinds.specs.Views.{base_of, tower}
use Rattle.bg_kinds.proofs.Gathered.{maps_tower}
use Rattle.bg_kinds.proofs.written.put_maps.Goals as goal

pub returns : goal.returns
returns c = ap (λ l. Some (tower l (base_of c.args.t.base))) c.in_ok-append.ensures.items ∙ maps_tower c.args.maps.items c.args.t.maps.items c.args.t.base
