-- How lines of the text are read.
use Rattle.std.specs.Prelude.{◌≡◌, ℕ, ◌+◌, nat_lt, if◌then◌else◌, List, length, Option, Some, None}
use Rattle.bg_ast.specs.Values.{Ty}
use Rattle.bg_ast.specs.Syntax.{Fun}
use Rattle.bg_terms.specs.Terms.{Term}
use Rattle.bg_numbered.specs.Lines.{after_line}
use Rattle.bg_term_table.specs.Lines.{line_of}
use Rattle.bg_term_table.specs.declared.line.Line as code
use Rattle.bg_task.specs.Grown.{IsOver}
use Rattle.bg_task.specs.declared.growing.Grown.{Grown}
use Rattle.bg_certtext.specs.declared.text.Stated.{Stated}
use Rattle.bg_accept.specs.Lines.{line_said, line_in}

-- a number of so many
abbrev pub number_in : ℕ → ℕ → Option ℕ
number_in n a = if nat_lt a n then Some a else None

-- both, where both are there
abbrev pub both_of : {A B : Type 0} → Option A → Option B → Option (A × B)
both_of None q = None
both_of (Some x) None = None
both_of (Some x) (Some y) = Some (x, y)

abbrev pub two_in : (n a b : ℕ) → Option (ℕ × ℕ)
two_in n a b = both_of (number_in n a) (number_in n b)

abbrev pub three_in : (n a b c : ℕ) → Option (ℕ × (ℕ × ℕ))
three_in n a b c = both_of (number_in n a) (two_in n b c)

-- what a line of the text says, where so many incarnations and terms are there; none only where one of its numbers is none of theirs
abbrev pub IsRead : ℕ → Stated → Option code.Line → Type 0
IsRead n s None =
    (incs : List Ty) (ts : List Term) → n ≡ length incs + length ts → line_in incs ts s ≡ None
IsRead n s (Some l) = line_said s ≡ Some (line_of l)

-- what lines are read over behind a line, if there is one
abbrev pub IsBehind : List Fun → List Ty → List Term → Grown → Option code.Line → Type 0
IsBehind fs incs ts g None = Unit {0}
IsBehind fs incs ts g (Some l) = IsOver fs incs (after_line incs ts (line_of l)) g
