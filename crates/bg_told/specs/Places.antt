-- What is told of a place.
use Rattle.std.specs.Prelude.{ℕ, Bool, if◌then◌else◌, List, [], ◌++◌, codes}
use Rattle.std.specs.Fmt.{decimal}
use Rattle.bg_ast.specs.Values.{Ty, Val, Table}
use Rattle.bg_ast.specs.Execution.{Interp, Choice, Branch, Chosen}
use Rattle.bg_places.specs.Placed.{Placed}
use Rattle.bg_sound.specs.Told.{Why, Verdict, Proved, Refuted, Unknown, Judged, Word, SomeRefuted, SomeUnknown}
use Rattle.bg_told.specs.Kept.{cause_text}
use Rattle.bg_told.specs.Lines.{texts, word_text}
use Rattle.bg_told.specs.ValueTexts.{value_text, table_text}
use Rattle.bg_lines.specs.Lines.{line}
use Rattle.bg_lines.specs.Places.{place_text}

-- a place and its word
abbrev pub told_text : Word → Placed → List ℕ
told_text word a = codes "  " ++ word_text word ++ codes " " ++ place_text a

-- a constant or a variable by its name, and its type
pub record Variable : Type 0 where
  pub name : List ℕ
  pub ty : Ty

-- a function by its name, whether it has a body, and the types of its arguments and its result
pub record Named : Type 0 where
  pub name : List ℕ
  pub has_body : Bool
  pub params : List Ty
  pub result : Ty

-- where types have these names
module _ (types : List (List ℕ)) where
  -- the value of a constant
  abbrev pub constant_text : Variable → Val → List ℕ
  constant_text x value = line (codes "    const " ++ x.name ++ codes " = " ++ value_text types x.ty value)

  -- the table of a function; one with a body has none
  abbrev pub function_text : Named → Table → List ℕ
  function_text f t =
      if f.has_body then [] else line (codes "    function " ++ f.name ++ codes " = " ++ table_text types f.params f.result t)

  -- an interpretation: the values of these constants, and the tables of these functions
  abbrev pub interp_text : List Variable → List Named → Interp → List ℕ
  interp_text constants functions i =
      texts constant_text constants i.constants ++ texts function_text functions i.tables

  -- the entry value of a variable
  abbrev pub variable_text : Variable → Val → List ℕ
  variable_text x value = line (codes "    var " ++ x.name ++ codes " = " ++ value_text types x.ty value)

  -- the number of a branch that is taken, or a value of this type that is chosen
  abbrev pub chosen_text : Ty → Choice → List ℕ
  chosen_text t (Branch k) = codes "branch " ++ decimal k
  chosen_text t (Chosen value) = value_text types t value

  abbrev pub choice_text : Ty → Choice → List ℕ
  choice_text t c = line (codes "    choice " ++ chosen_text t c)

-- the names of types, and of what has a value in a counterexample
pub record Names : Type 0 where
  pub types : List (List ℕ)
  pub constants : List Variable
  pub functions : List Named
  pub variables : List Variable

-- the interpretation, the entry values of the variables, and the choices in order, which are of these types
abbrev pub counterexample_text : Names → Interp → List Val → List Ty → List Choice → List ℕ
counterexample_text names i values ts choices =
    interp_text names.types names.constants names.functions i ++ (texts (variable_text names.types) names.variables values ++ texts (choice_text names.types) ts choices)

-- a refuted place, and how it fails
abbrev pub refuted_text : Names → Placed → Interp → List Val → List Ty → List Choice → List ℕ
refuted_text names a i values ts choices =
    line (told_text SomeRefuted a) ++ counterexample_text names i values ts choices

-- an unknown place, with its cause
abbrev pub unknown_text : Placed → Why → List ℕ
unknown_text a why = told_text SomeUnknown a ++ cause_text why

-- what is told of a place: nothing where it is proved; of a counterexample the values of the constants, the tables of the functions, the
-- values of the globals, then those of the frame
abbrev pub verdict_text : Names → Placed → Verdict → List ℕ
verdict_text names a Proved = []
verdict_text names a (Refuted i s ts choices) = refuted_text names a i (s.globals ++ s.frame) ts choices
verdict_text names a (Unknown why) = unknown_text a why

abbrev pub judged_text : Names → Judged → List ℕ
judged_text names j = verdict_text names j.placed j.verdict
