use Rattle.std.proofs.Common.{◌≡◌, ◌++◌, map, drop}
use Rattle.bg_text.specs.Views as v
use Rattle.bg_spaces.specs.Declarations.{entries_from, no_counts}
use Rattle.bg_spaces.specs.Views.{entry_of}
use Rattle.bg_spaces.specs.SpaceViews.{counts_of}
use Rattle.bg_spaces.proofs.entries.entries.Given as goal

abbrev pub invariant-loop-d : goal.invariant-loop-d
invariant-loop-d l = map entry_of l.out.items ++ entries_from (counts_of l.tally) (map v.decl_of (drop l.d-index l.decls)) ≡ entries_from no_counts (map v.decl_of l.decls)
