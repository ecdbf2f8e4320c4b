-- How what the code tells of blocks is read.
use Rattle.std.specs.Prelude.{map}
use Rattle.bg_formed.specs.Seen.{use_of}
use Rattle.bg_clause.specs.declared.tell.Telling.{Telling}
use Rattle.bg_clause.specs.Told.{Told}
use Rattle.bg_clause.specs.Cutting.{CutTold}
use Rattle.bg_clause.specs.Views.{short_in, clauses_in}

abbrev pub told_in : Telling → Told
told_in s = record { fails = map short_in s.later.fails.items; clauses = clauses_in s.clauses.items; next = s.next }

abbrev pub telling_of : Telling → CutTold
telling_of s = record { told = told_in s; uses = map use_of s.later.uses.items }
