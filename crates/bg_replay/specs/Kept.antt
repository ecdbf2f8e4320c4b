-- Which clauses are assumed.
use Rattle.std.specs.Prelude.{Bool}
use Rattle.bg_flow.specs.Core.{each_one, the_checked, the_free}
use Rattle.bg_blocks.specs.declared.block.Kept.{Kept}
use Rattle.bg_blocks.specs.declared.block.Kept.TheVariants as kept

abbrev pub which_of : Kept → Bool → Bool
which_of kept.Each = each_one
which_of kept.Checked = the_checked
which_of kept.Free = the_free
