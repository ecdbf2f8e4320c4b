-- Of which variables the guesses of a list speak.
use Rattle.std.specs.Prelude.{ℕ, suc, Bool, if◌then◌else◌, false, not, ◌||◌, List, [], ◌∷◌, ◌++◌, map, filter, Option, Some, None, slice_get}
use Rattle.std.specs.List.{list_any}
use Rattle.std.specs.Str.{bytes_eq}
use Rattle.bg_ast.specs.declared.resolved.Variable.TheVariants as variable
use Rattle.bg_ast.specs.Values.{Ty, is_int}
use Rattle.bg_ast.specs.Resolved as r
use Rattle.bg_ast.specs.Views.{declared_of, type_name_of}
use Rattle.bg_ast.specs.Meaning.{named_of, decl_of}
use Rattle.bg_sense.specs.Types.{types_of}
use Rattle.bg_guess.specs.Claims.{Subjects}
use Rattle.bg_guess.specs.declared.frame.Frame as frame
use Rattle.bg_guess.specs.declared.frame.Sight as sight
use Rattle.bg_guess.specs.declared.frame.Base as code

-- parameters, results and locals, as far as they are seen
pub record Frame : Type 0 where
  pub params : List r.Declared
  pub results : List r.Declared
  pub locals : List r.Declared

-- what the clauses of a list see besides globals: the names of the frame and the types of its variables, which a procedure and its
-- implementation declare each for itself; and what may change
pub record Sight : Type 0 where
  pub names : Frame
  pub types : Frame
  pub modifies : List ℕ

-- the same of the code's frame
abbrev pub frame_of : frame.Frame → Frame
frame_of f = record { params = map declared_of f.params.now; results = map declared_of f.results.now; locals = map declared_of f.locals.now }

-- the same of the code's
abbrev pub sight_of : sight.Sight → Sight
sight_of s = record { names = frame_of s.names; types = frame_of s.types; modifies = s.modifies.now }

-- whether one of these has the name
abbrev pub has_name : List ℕ → List r.Declared → Bool
has_name x ds = list_any (λ d. bytes_eq d.name.text x) ds

-- whether a name of the frame hides this one
abbrev pub is_hidden : Frame → List ℕ → Bool
is_hidden f x = has_name x f.params || (has_name x f.results || has_name x f.locals)

-- the same of a global that may be there
abbrev pub is_seen_as : Frame → Option r.Declared → Bool
is_seen_as f None = false
is_seen_as f (Some d) = not (is_hidden f d.name.text)

-- a global that is there, and that no name of the frame hides
abbrev pub is_seen : List r.Declared → Frame → ℕ → Bool
is_seen globals f g = is_seen_as f (slice_get globals g)

-- the types of variables, with synonyms unfolded
abbrev pub types_by : List r.TypeName → List r.Declared → List Ty
types_by types ds = types_of (map (decl_of (named_of types)) ds)

-- the same of all variables of a frame
abbrev pub types_in : List r.TypeName → Frame → List Ty
types_in types f = types_by types f.params ++ (types_by types f.results ++ types_by types f.locals)

-- the places of whole numbers, from k on
abbrev pub places_of_numbers : ℕ → List Ty → List ℕ
places_of_numbers k [] = []
places_of_numbers k (t ∷ ts) = if is_int t then k ∷ places_of_numbers (suc k) ts else places_of_numbers (suc k) ts

-- the globals of type int
abbrev pub number_globals : List r.TypeName → List r.Declared → List ℕ
number_globals types globals = places_of_numbers 0 (types_by types globals)

-- what all lists share: the types and globals of a program, and which globals are of type int
pub record Base : Type 0 where
  pub types : List r.TypeName
  pub globals : List r.Declared
  pub numbers : List ℕ

-- the same of the code's
abbrev pub base_of : code.Base → Base
base_of g = record { types = map type_name_of g.types.now; globals = map declared_of g.globals.now; numbers = g.numbers.now }

-- of what a list speaks: of the variables of type int, globals first, and of the globals that may change and aren't hidden
abbrev pub subjects : Base → Sight → Subjects
subjects g s =
    record {
      numbers =
          map variable.Global (filter (is_seen g.globals s.names) g.numbers)
          ++ map variable.Local (places_of_numbers 0 (types_in g.types s.types));
      kept = filter (is_seen g.globals s.names) s.modifies;
    }
