use Rattle.std.proofs.Common.{◌≡◌, map, take}
use Rattle.bg_certtext.specs.Views.{row_of}
use Rattle.bg_certify.specs.Spelled.{spelled_row}
use Rattle.bg_certify.proofs.nodes.text_table.Given as goal

abbrev pub invariant-loop-a : goal.invariant-loop-a
invariant-loop-a l = map row_of l.made.items ≡ map spelled_row (take l.a-index l.table)
