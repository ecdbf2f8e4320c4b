use Rattle.std.proofs.Common.{◌≡◌, ◌++◌, map, drop, flat_map}
use Rattle.bg_certtext.specs.Lines.{line}
use Rattle.bg_certtext.specs.Texts.{row_words}
use Rattle.bg_certtext.specs.Views.{row_of}
use Rattle.bg_certtext.proofs.writer.put_table.Given as goal

abbrev pub invariant-loop-row : goal.invariant-loop-row
invariant-loop-row l = l.out.items ++ flat_map line (map row_words (map row_of (drop l.row-index l.table))) ≡ l.initial.out.items ++ flat_map line (map row_words (map row_of l.table))
