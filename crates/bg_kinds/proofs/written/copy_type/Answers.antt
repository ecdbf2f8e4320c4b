use Rattle.std.proofs.Common.{map, ap, ◌∙◌}
use Rattle.bg_kinds.specs.Views.{keys_of, base_of}
use Rattle.bg_kinds.proofs.Gathered.{tower_same}
use Rattle.bg_kinds.proofs.written.copy_type.Goals as goal

pub returns : goal.returns
returns c = tower_same c.in_ok-maps.maps.items c.args.t.now.maps.items (base_of c.args.t.now.base) (c.in_ok-maps.ensures ∙ ap (map keys_of) c.deref.ensures.value)
