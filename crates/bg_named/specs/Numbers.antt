-- Numbers that stand for names: each is the place of a declaration with the name.
use Rattle.std.specs.Prelude.{◌≡◌, ℕ, List, map, Some, None, slice_get}
use Rattle.bg_text.specs.Trees.{Id}
use Rattle.bg_ast.specs.Resolved as r
use Rattle.bg_names.specs.Spaces.{place, value_at}
use Rattle.bg_names.specs.declared.scope.Meaning.{Meaning}
use Rattle.bg_names.specs.declared.scope.Meaning.TheVariants as means
use Rattle.bg_spaces.specs.Declarations.{Spaces}

-- the declaration at this place has this name
abbrev pub IsNumber : List Id → List ℕ → ℕ → Type 0
IsNumber xs x k = (y : Id) × (slice_get xs k ≡ Some y) × (y.text ≡ x)

abbrev pub type_id : r.TypeName → Id
type_id d = d.name

abbrev pub constant_id : r.Const → Id
constant_id c = c.name

abbrev pub declared_id : r.Declared → Id
declared_id d = d.name

abbrev pub function_id : r.Fun → Id
function_id f = f.name

abbrev pub procedure_id : r.Proc → Id
procedure_id q = q.name

abbrev pub changed : r.Proc → List ℕ
changed q = q.modifies

-- what a name of a value means is declared under that name, and one of these has a meaning
abbrev pub IsMeant : List (List ℕ) → r.Program → List ℕ → Meaning → Type 0
IsMeant names p x (means.Constant k) = IsNumber (map constant_id p.constants) x k
IsMeant names p x (means.Candidate k) = IsNumber p.candidates x k
IsMeant names p x (means.Global k) = IsNumber (map declared_id p.globals) x k
IsMeant names p x (means.Local k) = ⊥
IsMeant names p x means.Nothing = place names x ≡ None

-- the numbers that names have in these spaces are those of the program's declarations; procedures change what they modify
pub record HasNumbers (g : Spaces) (p : r.Program) : Type 0 where
  pub types : (x : List ℕ) (k : ℕ) → place g.types x ≡ Some k → IsNumber (map type_id p.types) x k
  pub functions : (x : List ℕ) (k : ℕ) → place g.functions x ≡ Some k → IsNumber (map function_id p.functions) x k
  pub procedures : (x : List ℕ) (k : ℕ) → place g.procedures x ≡ Some k → IsNumber (map procedure_id p.procedures) x k
  pub values : (x : List ℕ) → IsMeant g.values p x (value_at g.meanings (place g.values x))
  pub changes : g.changes ≡ map changed p.procedures
