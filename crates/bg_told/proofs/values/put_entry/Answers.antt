use Rattle.std.proofs.Common.{[], append_assoc}
use Rattle.bg_ast.specs.Views.{impl_of}
use Rattle.bg_told.specs.Entries.{declared_types, types_in, values_of}
use Rattle.bg_told.specs.Sheets.{head_of, variables_of}
use Rattle.bg_told.proofs.Texts.{entry_parts}
use Rattle.bg_told.proofs.values.put_entry.Goals as goal

pub returns : goal.returns
returns c =
    rw (entry_parts (types_in c.args.types.now) c.args.types.now c.args.globals.now (variables_of (declared_types c.args.types.now) [] (head_of (impl_of c.args.implementation.now))) (values_of c.args.values), c.in_ok-put_frame.ensures, c.rest_of.ensures, c.in_ok-put_values.ensures) (simp append_assoc)
