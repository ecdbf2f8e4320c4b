use Rattle.std.proofs.Common.{ap, ◌∙◌, map}
use Rattle.bg_ast.specs.Values.{Default}
use Rattle.bg_scalar.specs.Values.{value_of}
use Rattle.bg_scalar.specs.Maps.{entry_in, with_entries}
use Rattle.bg_wanted.proofs.tables.no_entries.Goals as goal

pub returns : goal.returns
returns c =
    ap (λ l. with_entries (map entry_in l) (Default (value_of c.in_ok-default.default))) c.new.ensures.items ∙ ap Default c.in_ok-default.ensures
