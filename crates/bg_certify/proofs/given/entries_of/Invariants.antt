use Rattle.std.proofs.Common.{◌≡◌, ◌++◌, map}
use Rattle.bg_ast.specs.Views.{type_name_of}
use Rattle.bg_kinds.specs.Views.{ref_in}
use Rattle.bg_scalar.specs.Views as scalar
use Rattle.bg_certtext.specs.Views as text
use Rattle.bg_certify.specs.Given.{type_names, entry_of}
use Rattle.bg_certify.proofs.given.entries_of.Given as goal

abbrev pub invariant-loop-key : goal.invariant-loop-key
invariant-loop-key l =
    map text.entry_of l.made.items ++ map (entry_of (type_names (map type_name_of l.types)) (map ref_in l.s.params.items) (ref_in l.s.value)) (map scalar.entry_in l.key-iterator)
    ≡ map (entry_of (type_names (map type_name_of l.types)) (map ref_in l.s.params.items) (ref_in l.s.value)) (map scalar.entry_in l.table.entries.entries)
