use Rattle.std.proofs.Common.{ap, ◌∙◌, map}
use Rattle.bg_ast.specs.Values.{Default}
use Rattle.bg_scalar.specs.Values.{value_of}
use Rattle.bg_scalar.specs.Maps.{entry_in, with_entries}
use Rattle.bg_scalar.proofs.Rows.{value_of-Map}
use Rattle.bg_wanted.proofs.tables.as_map.Goals as goal

pub returns : goal.returns
returns c =
    value_of-Map c.args.map.entries c.in_ok-default.default
    ∙ ap (λ v. with_entries (map entry_in c.args.map.entries.items) (Default (value_of v))) c.in_ok-default.ensures.ok
