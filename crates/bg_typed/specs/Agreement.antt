-- A scope, by which types are checked, and a signature, in which expressions have them.
use Rattle.std.specs.Prelude.{◌≡◌, ℕ, [], ◌∷◌, map, Some, slice_get}
use Rattle.bg_ast.specs.Values as v
use Rattle.bg_ast.specs.Syntax.{Fun}
use Rattle.bg_sense.specs.Typing.{Sig}
use Rattle.bg_typing.specs.Sides.{Shape, Scope, kind_at}

-- a function with these types
pub record IsFunction (s : Sig) (k : ℕ) (f : Shape) : Type 0 where
  pub declared : Fun
  pub is_there : slice_get s.functions k ≡ Some declared
  pub params : f.params ≡ map Some declared.params
  pub results : f.results ≡ Some declared.result ∷ []

-- what has a type by the scope has it in the signature
pub record Agrees (g : Scope) (s : Sig) : Type 0 where
  pub constants : (k : ℕ) (t : v.Ty) → kind_at g.constants k ≡ Some t → slice_get s.constants k ≡ Some t
  pub globals : (k : ℕ) (t : v.Ty) → kind_at g.globals k ≡ Some t → slice_get s.globals k ≡ Some t
  pub frame : (k : ℕ) (t : v.Ty) → kind_at g.frame k ≡ Some t → slice_get s.frame k ≡ Some t
  pub functions : (k : ℕ) (f : Shape) → slice_get g.functions k ≡ Some f → IsFunction s k f
