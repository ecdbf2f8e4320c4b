-- Expressions that are truths, or numbers.
use Rattle.std.specs.Prelude.{◌≡◌, true, List}
use Rattle.bg_ast.specs.Syntax.{Ex}
use Rattle.bg_linear.specs.declared.scalar.Sort.{Sort}
use Rattle.bg_linear.specs.Sorts.{kind_ex, is_truth, is_number}

abbrev pub IsTruth : List Sort → Ex → Type 0
IsTruth sorts e = is_truth (kind_ex sorts e) ≡ true

abbrev pub IsNumber : List Sort → Ex → Type 0
IsNumber sorts e = is_number (kind_ex sorts e) ≡ true
