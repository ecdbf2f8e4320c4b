-- How the code's marks are read.
use Rattle.std.specs.Ordering.{nat_cmp}
use Rattle.std.specs.BTreeMap.{get}
use Rattle.bg_blocks.specs.declared.marks.Marks as code
use Rattle.bg_blocks.specs.Marks.{Marked}

abbrev pub marked : code.Marks → Marked
marked m k = get nat_cmp m.at k
