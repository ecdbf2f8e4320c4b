-- What a report says of a program's declarations.
use Rattle.std.specs.Prelude.{ℕ, Bool, List, ◌++◌, map, is_some}
use Rattle.bg_base.specs.declared.pos.Pos.{Pos}
use Rattle.bg_text.specs.Trees.{Id}
use Rattle.bg_ast.specs.Values.{Ty}
use Rattle.bg_ast.specs.Resolved as r
use Rattle.bg_ast.specs.Resolved.{TypeName, Declared, Fun, Impl, Program}
use Rattle.bg_ast.specs.Meaning.{type_in, named_of}
use Rattle.bg_opened.specs.Written.{global_for}
use Rattle.bg_told.specs.Places.{Variable, Named, Names}

-- of an implementation: its name, where it stands, and its variables
pub record Head : Type 0 where
  pub name : Id
  pub pos : Pos
  pub params : List Declared
  pub results : List Declared
  pub locals : List Declared

abbrev pub head_of : Impl → Head
head_of m = record { name = m.name; pos = m.pos; params = m.params; results = m.results; locals = m.locals }

abbrev pub type_name : TypeName → List ℕ
type_name t = t.name.text

-- where these types are declared
module _ (types : List TypeName) where
  -- what a written type stands for
  abbrev pub read_type : r.Ty → Ty
  read_type t = type_in (named_of types) t

  -- a variable by its name and its type
  abbrev pub variable_in : Declared → Variable
  variable_in d = record { name = d.name.text; ty = read_type d.ty }

  -- a function that has a body, or none
  abbrev pub named_as : Fun → Bool → Named
  named_as f b = record { name = f.name.text; has_body = b; params = map read_type f.params; result = read_type f.result }

  abbrev pub named_in : Fun → Named
  named_in f = named_as f (is_some f.body)

-- of what all implementations see; constants are declared as variables are
pub record Outer : Type 0 where
  pub types : List TypeName
  pub constants : List Declared
  pub functions : List Named
  pub globals : List Declared

abbrev pub outer_of : Program → Outer
outer_of p =
    record {
      types = p.types;
      constants = map global_for p.constants;
      functions = map (named_in p.types) p.functions;
      globals = p.globals;
    }

-- of a program
pub record Sheet : Type 0 where
  pub candidates : List Id
  pub outer : Outer
  pub implementations : List Head

abbrev pub sheet_of : Program → Sheet
sheet_of p =
    record { candidates = p.candidates; outer = outer_of p; implementations = map head_of p.implementations }

-- the variables that have entry values: globals, parameters, results and locals
abbrev pub variables_of : List TypeName → List Declared → Head → List Variable
variables_of types globals h =
    map (variable_in types) globals ++ (map (variable_in types) h.params ++ (map (variable_in types) h.results ++ map (variable_in types) h.locals))

-- and the names of types, the constants and the functions
abbrev pub names_of : Outer → Head → Names
names_of o h =
    record {
      types = map type_name o.types;
      constants = map (variable_in o.types) o.constants;
      functions = o.functions;
      variables = variables_of o.types o.globals h;
    }
