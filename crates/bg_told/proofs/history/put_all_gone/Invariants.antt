use Rattle.std.proofs.Common.{◌≡◌, ◌++◌, map, drop, flat_map, length}
use Rattle.bg_places.specs.Views.{placed_in}
use Rattle.bg_told.specs.Entries.{told_gone, sheet_in}
use Rattle.bg_told.specs.History.{gone_text}
use Rattle.bg_told.proofs.history.put_all_gone.Given as goal

abbrev pub invariant-loop-removal : goal.invariant-loop-removal
invariant-loop-removal l = l.out.items ++ flat_map (gone_text (sheet_in l.outcome)) (map (told_gone (placed_in l.tasks) (length (sheet_in l.outcome).outer.globals)) (drop l.removal-index l.removals)) ≡ l.fn.out.items ++ flat_map (gone_text (sheet_in l.outcome)) (map (told_gone (placed_in l.tasks) (length (sheet_in l.outcome).outer.globals)) l.removals)
