use Rattle.std.proofs.Common.{◌≡◌, ◌++◌, flat_map, map}
use Rattle.bg_scalar.specs.Views.{entry_in}
use Rattle.bg_told.specs.ValueTexts.{mapping_text}
use Rattle.bg_told.specs.Entries.{types_in, params_of, result_in}
use Rattle.bg_told.proofs.functions.put_mappings.Given as goal

abbrev pub invariant-loop-key : goal.invariant-loop-key
invariant-loop-key l = l.out.items ++ flat_map (mapping_text (types_in l.types) (params_of l.signature) (result_in l.signature)) (map entry_in l.key-iterator) ≡ l.fn.out.items ++ flat_map (mapping_text (types_in l.types) (params_of l.signature) (result_in l.signature)) (map entry_in l.table.entries.entries)
