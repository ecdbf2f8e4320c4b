-- Relations of numbers in an expression.
use Rattle.std.specs.Prelude.{◌≡◌, true, List}
use Rattle.bg_ast.specs.Syntax.{Ex, Not, Binary, Op}
use Rattle.bg_linear.specs.declared.scalar.Sort.{Sort}
use Rattle.bg_linear.specs.Relations.{relates}
use Rattle.bg_linear.specs.Sorts.{kind_ex, is_number}

-- some relation of two numbers stands in the expression, and of it this is so
pub data HasRelation (sorts : List Sort) (P : Op → Ex → Ex → Type 0) : Ex → Type 0 where
  here : (op : Op) (a b : Ex) → relates op ≡ true → is_number (kind_ex sorts a) ≡ true → is_number (kind_ex sorts b) ≡ true → P op a b → HasRelation sorts P (Binary op a b)
  on_left : (op : Op) (a b : Ex) → HasRelation sorts P a → HasRelation sorts P (Binary op a b)
  on_right : (op : Op) (a b : Ex) → HasRelation sorts P b → HasRelation sorts P (Binary op a b)
  denied : (e : Ex) → HasRelation sorts P e → HasRelation sorts P (Not e)
