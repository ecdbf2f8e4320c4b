use Rattle.std.proofs.Common.{◌≡◌, map, drop}
use Rattle.std.specs.List.{list_any}
use Rattle.bg_text.specs.Views as v
use Rattle.bg_spaces.specs.Declarations.{is_existential}
use Rattle.bg_spaces.proofs.values.has_existential.Given as goal

abbrev pub invariant-loop-a : goal.invariant-loop-a
invariant-loop-a l = list_any is_existential (map v.attr_of (drop l.a-index l.attributes)) ≡ list_any is_existential (map v.attr_of l.attributes)
