use Rattle.std.proofs.Common.{◌≡◌, ◌++◌, drop, flat_map, length}
use Rattle.bg_ast.specs.Views.{impl_of}
use Rattle.bg_told.specs.Sheets.{head_of}
use Rattle.bg_told.specs.Entries.{names_for, shown_text}
use Rattle.bg_told.proofs.places.put_places.Given as goal

abbrev pub invariant-loop-of : goal.invariant-loop-of
invariant-loop-of l = l.out.items ++ flat_map (shown_text (names_for l.declared (head_of (impl_of l.implementation))) (length l.declared.globals.now)) (drop l.of-index l.judged) ≡ l.fn.out.items ++ flat_map (shown_text (names_for l.declared (head_of (impl_of l.implementation))) (length l.declared.globals.now)) l.judged
