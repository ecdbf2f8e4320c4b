-- How the code's entry values and places are read.
use Rattle.std.specs.Prelude.{◌≡◌, ℕ, Bool, List, [], ◌∷◌, ◌++◌, map, take, drop, length, Option, Some, None, slice_get, if◌then◌else◌}
use Rattle.bg_ast.specs.declared.resolved.Declared.{Declared}
use Rattle.bg_ast.specs.declared.resolved.TypeName.{TypeName}
use Rattle.std.specs.Borrow.{Bor}
use Rattle.bg_ast.specs.Execution.{Interp}
use Rattle.bg_ast.specs.Values.{Ty, Val, result_of}
use Rattle.bg_ast.specs.Resolved as r
use Rattle.bg_ast.specs.Resolved.{Fun, Program}
use Rattle.bg_ast.specs.Views.{type_name_of, declared_of, fun_of, program_of}
use Rattle.bg_rounds.specs.declared.keeper.Removal.{Removal}
use Rattle.bg_houdini.specs.declared.reason.Reason.{Reason}
use Rattle.bg_told.specs.History.{Gone, found_of}
use Rattle.bg_places.specs.Placed.{Placed}
use Rattle.bg_scalar.specs.declared.value.Value.{Value}
use Rattle.bg_scalar.specs.declared.value.Entry.{Entry}
use Rattle.bg_scalar.specs.declared.choice.Choice.{Choice}
use Rattle.bg_scalar.specs.Values.{value_of}
use Rattle.bg_scalar.specs.Choices.{choice_of}
use Rattle.bg_scalar.specs.Views.{table_in}
use Rattle.bg_scalar.specs.declared.table.Table.{Table}
use Rattle.bg_model.specs.Interps.{interp_of}
use Rattle.bg_model.specs.declared.failure.Counterexample.{Counterexample}
use Rattle.bg_check.specs.declared.verdict.Judged.{Judged}
use Rattle.bg_check.specs.Kept.{why_of}
use Rattle.bg_check.specs.Outcomes.{told_one, told}
use Rattle.bg_kinds.specs.Views.{ref_in}
use Rattle.bg_told.specs.declared.values.Values.{Values}
use Rattle.bg_told.specs.declared.functions.Signature.{Signature}
use Rattle.bg_told.specs.declared.declared.Declarations.{Declarations}
use Rattle.bg_inference.specs.declared.outcome.Outcome.{Outcome}
use Rattle.bg_inference.specs.Outcomes.{judged_program, has_body}
use Rattle.bg_sound.specs.Told as t
use Rattle.bg_told.specs.ValueTexts.{index_types, front_text, index_text, value_text, part_text}
use Rattle.bg_told.specs.Places.{Variable, Named, Names, constant_text, function_text, variable_text, choice_text, judged_text}
use Rattle.bg_told.specs.Sheets.{Head, Outer, Sheet, head_of, type_name, variable_in, named_as, names_of}
use Rattle.bg_told.specs.Words.{is_ordinary}

-- the values of the globals, and behind them those of the frame
abbrev pub values_of : Values → List Value
values_of v = v.globals.now ++ v.frame.now

-- a value that is lent, if there is one
abbrev pub lent_in : Option (Bor Value) → Option Value
lent_in None = None
lent_in (Some x) = Some x.now

-- declared types
abbrev pub declared_types : List TypeName → List r.TypeName
declared_types ds = map type_name_of ds

-- and their names
abbrev pub types_in : List TypeName → List (List ℕ)
types_in ds = map type_name (declared_types ds)

-- variables, where these types are declared
abbrev pub variables_in : List TypeName → List Declared → List Variable
variables_in types ds = map (variable_in (declared_types types)) (map declared_of ds)

-- where types have these names
module _ (types : List (List ℕ)) where
  -- the line of a variable with this value
  abbrev pub entry_text : Variable → Value → List ℕ
  entry_text x v = variable_text types x (value_of v)

  -- the line of a constant with this value
  abbrev pub constant_line : Variable → Value → List ℕ
  constant_line x v = constant_text types x (value_of v)

  -- an entry of a map of this type, and what stands between it and the next one
  abbrev pub entry_front : Ty → Entry → List ℕ
  entry_front t e = front_text (index_text types (index_types t) e.key.items) (value_text types (result_of t) (value_of e.value))

  -- a part of a key, behind a comma
  abbrev pub part_behind : Ty → Value → List ℕ
  part_behind t v = part_text types t (value_of v)

  -- the line of a choice
  abbrev pub choice_line : Ty → Choice → List ℕ
  choice_line t c = choice_text types t (choice_of c)

  -- the line of a function with this table
  abbrev pub function_line : Named → Table → List ℕ
  function_line f t = function_text types f (table_in t)

abbrev pub params_of : Signature → List Ty
params_of s = map ref_in s.params.items

abbrev pub result_in : Signature → Ty
result_in s = ref_in s.result

-- functions by whether they have a body, where these types are declared
abbrev pub all_named : List r.TypeName → List Fun → List Bool → List Named
all_named types [] bs = []
all_named types (f ∷ fs) [] = []
all_named types (f ∷ fs) (b ∷ bs) = named_as types f b ∷ all_named types fs bs

-- what all implementations see
abbrev pub outer_in : Declarations → Outer
outer_in ds =
    record {
      types = declared_types ds.types.now;
      constants = map declared_of ds.constants.now;
      functions = all_named (declared_types ds.types.now) (map fun_of ds.functions.now) ds.bodies.now;
      globals = map declared_of ds.globals.now;
    }

-- the names of a counterexample
abbrev pub names_for : Declarations → Head → Names
names_for ds h = names_of (outer_in ds) h

-- its values of constants, which stand behind those of so many globals, and its tables
abbrev pub interp_by : ℕ → Counterexample → Interp
interp_by n cex = record { constants = drop n (map value_of cex.globals.items); tables = (interp_of cex).tables }

-- and its entry values
abbrev pub entry_by : ℕ → Counterexample → List Val
entry_by n cex = take n (map value_of cex.globals.items) ++ map value_of cex.frame.items

-- a verdict in which the values behind those of so many globals are the constants'
abbrev pub split_verdict : ℕ → t.Verdict → t.Verdict
split_verdict n t.Proved = t.Proved
split_verdict n (t.Refuted i s ts choices) =
    t.Refuted (record { constants = drop n s.globals; tables = i.tables }) (record { globals = take n s.globals; frame = s.frame }) ts choices
split_verdict n (t.Unknown why) = t.Unknown why

abbrev pub split_one : ℕ → t.Judged → t.Judged
split_one n j = record { placed = j.placed; verdict = split_verdict n j.verdict }

-- of the ordinary places
abbrev pub split_all : ℕ → List Judged → List t.Judged
split_all n js = map (split_one n) (told why_of js)

-- the lines of a place: none where it isn't ordinary
abbrev pub shown_text : Names → ℕ → Judged → List ℕ
shown_text names n j = if is_ordinary j.place then judged_text names (split_one n (told_one why_of j)) else []

-- ---- by the opened program

-- what is said of the program whose globals are the first so many of the opened one's, and of whose functions these have a body
abbrev pub sheet_told : ℕ → List Bool → Program → Sheet
sheet_told n bodies q =
    record {
      candidates = q.candidates;
      outer =
          record {
            types = q.types;
            constants = drop n q.globals;
            functions = all_named q.types q.functions bodies;
            globals = take n q.globals;
          };
      implementations = map head_of q.implementations;
    }

abbrev pub sheet_in : Outcome → Sheet
sheet_in o = sheet_told o.globals o.bodies.items (program_of o.opened)

-- the outcome is one of this program
abbrev pub IsOf : Program → Outcome → Type 0
IsOf p o =
    (program_of o.opened ≡ judged_program p) × (o.globals ≡ length p.globals) × (o.bodies.items ≡ map has_body p.functions)

-- an entry by the places that have a candidate
abbrev pub gone_by : List Placed → ℕ → Removal Reason → Gone
gone_by guarded n d =
    record {
      number = d.number;
      candidate = d.cand.0;
      placed = slice_get guarded d.target.0;
      snapshot = d.snapshot;
      found = split_verdict n (found_of why_of d.told);
    }

-- the entry that is referred to
abbrev pub told_gone : List Placed → ℕ → Bor (Removal Reason) → Gone
told_gone guarded n d = gone_by guarded n d.now
