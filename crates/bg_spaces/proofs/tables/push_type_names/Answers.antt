use Rattle.std.proofs.Common.{sym}
use Rattle.bg_text.specs.Views as v
use Rattle.bg_spaces.specs.Declarations.{type_name}
use Rattle.bg_names.proofs.Firsts.{fuse_map}
use Rattle.bg_spaces.proofs.tables.push_type_names.Goals as goal

pub returns-in-Types-clause-ok : goal.returns-in-Types-clause-ok
returns-in-Types-clause-ok c = rw (c.in-Types.is, fuse_map type_name v.new_type_of c.in-Types.ds.items, sym c.deref.ensures.value) c.push_types.ensures.ok
