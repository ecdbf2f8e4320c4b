use Rattle.std.proofs.Common.{◌++◌, append_assoc}
use Rattle.bg_told.specs.Entries.{types_in, values_of, variables_in}
use Rattle.bg_told.proofs.Texts.{entry_parts}
use Rattle.bg_told.proofs.values.put_groups.Goals as goal

pub returns : goal.returns
returns c =
    rw (entry_parts (types_in c.args.types.now) c.args.types.now c.args.params.now (variables_in c.args.types.now c.args.results.now ++ variables_in c.args.types.now c.args.locals.now) (values_of c.args.values), ← c.rest_of-behind.ensures, entry_parts (types_in c.args.types.now) c.args.types.now c.args.results.now (variables_in c.args.types.now c.args.locals.now) (values_of c.rest_of-behind.result), c.in_ok-put_values-3.ensures, c.rest_of.ensures, c.in_ok-put_values-2.ensures, c.in_ok-put_values.ensures) (simp append_assoc)
