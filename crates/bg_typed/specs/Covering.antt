-- A scope, by which types are checked, that has what a signature has.
use Rattle.std.specs.Prelude.{◌≡◌, ◌⊎◌, ℕ, [], ◌∷◌, map, Some, None, slice_get}
use Rattle.bg_ast.specs.Values as v
use Rattle.bg_ast.specs.Syntax.{Var, Fun, Proc}
use Rattle.bg_sense.specs.Variables.{type_in, decl_in}
use Rattle.bg_sense.specs.Types.{types_of}
use Rattle.bg_sense.specs.Typing.{Sig}
use Rattle.bg_sense.specs.Typed.{Around, sig_around}
use Rattle.bg_typing.specs.Sides.{Shape, Scope, kind_at, variable_kind}

-- the types of a function, by the scope
pub record IsShape (g : Scope) (k : ℕ) (f : Fun) : Type 0 where
  pub shape : Shape
  pub is_there : slice_get g.functions k ≡ Some shape
  pub params : shape.params ≡ map Some f.params
  pub results : shape.results ≡ Some f.result ∷ []

-- what has a type in the signature has it by the scope
pub record Gives (g : Scope) (s : Sig) : Type 0 where
  pub constants : (k : ℕ) (t : v.Ty) → slice_get s.constants k ≡ Some t → kind_at g.constants k ≡ Some t
  pub globals : (k : ℕ) (t : v.Ty) → slice_get s.globals k ≡ Some t → kind_at g.globals k ≡ Some t
  pub frame : (k : ℕ) (t : v.Ty) → slice_get s.frame k ≡ Some t → kind_at g.frame k ≡ Some t
  pub functions : (k : ℕ) (f : Fun) → slice_get s.functions k ≡ Some f → IsShape g k f

-- the types of a procedure, by the scope
pub record IsShapeOf (g : Scope) (k : ℕ) (q : Proc) : Type 0 where
  pub shape : Shape
  pub is_there : slice_get g.procedures k ≡ Some shape
  pub params : shape.params ≡ map Some (types_of q.params)
  pub results : shape.results ≡ map Some (types_of q.results)

-- what is around a body has its types by the scope; a variable that isn't there has none
pub record GivesAround (g : Scope) (w : Around) : Type 0 where
  pub names : Gives g (sig_around w)
  pub variables : (x : Var) → (variable_kind g x ≡ Some (type_in (decl_in w.program w.variables x))) ⊎ (variable_kind g x ≡ None)
  pub procedures : (k : ℕ) (q : Proc) → slice_get w.program.procedures k ≡ Some q → IsShapeOf g k q
