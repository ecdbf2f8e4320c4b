-- The tasks of a program: its places that have a candidate, by implementation and place. A task's number is its place in this list.
use Rattle.std.specs.Prelude.{ℕ, Bool, List, Option, Some, None, is_some, slice_get, filter}
use Rattle.bg_ast.specs.Syntax.{Prog}
use Rattle.bg_ast.specs.Execution.{Place}
use Rattle.bg_sense.specs.Places.{places}

abbrev pub has_candidate : Place → Bool
has_candidate t = is_some t.candidate

abbrev pub tasks_of : Prog → List Place
tasks_of p = filter has_candidate (places p)

abbrev pub number_or : Option ℕ → ℕ
number_or None = 0
number_or (Some b) = b

abbrev pub candidate_at : Option Place → ℕ
candidate_at None = 0
candidate_at (Some t) = number_or t.candidate

-- the candidate of the task with this number
abbrev pub candidate_of : Prog → ℕ → ℕ
candidate_of p k = candidate_at (slice_get (tasks_of p) k)
