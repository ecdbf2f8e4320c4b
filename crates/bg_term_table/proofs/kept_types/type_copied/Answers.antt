use Rattle.bg_kinds.specs.Views.{base_of}
use Rattle.bg_term_table.proofs.TypesRead.{same_tower}
use Rattle.bg_term_table.proofs.kept_types.type_copied.Goals as goal

pub returns : goal.returns
returns c = same_tower c.in_ok-maps.maps.items c.args.t.maps.now (base_of c.args.t.base) c.in_ok-maps.ensures
