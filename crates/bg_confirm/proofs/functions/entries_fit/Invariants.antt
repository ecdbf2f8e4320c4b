use Rattle.std.proofs.Common.{◌≡◌, map, drop}
use Rattle.bg_ast.specs.Views.{type_name_of}
use Rattle.bg_kinds.specs.Views.{ref_in}
use Rattle.bg_certtext.specs.Views.{entry_of}
use Rattle.bg_confirm.specs.Typed.{entries_by}
use Rattle.bg_confirm.proofs.functions.entries_fit.Given as goal

abbrev pub invariant-loop-entry : goal.invariant-loop-entry
invariant-loop-entry l =
    entries_by (map type_name_of l.types) (map ref_in l.s.params.items) (ref_in l.s.value) (map entry_of (drop l.entry-index l.entries))
    ≡ entries_by (map type_name_of l.types) (map ref_in l.s.params.items) (ref_in l.s.value) (map entry_of l.entries)
