-- When the values and tables that a certificate gives constants and functions are an interpretation that meets the axioms, as a replay
-- tells.
use Rattle.std.specs.Prelude.{◌≡◌, ℕ, ℤ, Bool, true, false, if◌then◌else◌, List, [], ◌∷◌, map, drop, Some, slice_get}
use Rattle.bg_ast.specs.Values as v
use Rattle.bg_ast.specs.Values.{Val, Table, Ty, UserTy, result_of}
use Rattle.bg_ast.specs.Syntax.{Fun, Proc, Impl, Prog}
use Rattle.bg_ast.specs.Resolved as r
use Rattle.bg_ast.specs.Meaning.{meaning_of}
use Rattle.bg_ast.specs.Execution.{Place}
use Rattle.bg_sense.specs.Flow.{Failed}
use Rattle.bg_sense.specs.Types.{types_of, are_of}
use Rattle.bg_sense.specs.Eval.{default_for}
use Rattle.bg_sense.specs.Tables.{has_body, are_tables}
use Rattle.bg_sense.specs.Variables.{procedure_of}
use Rattle.bg_flow.specs.Core.{frame_decls}
use Rattle.bg_block_types.specs.Typed.{blocks_in}
use Rattle.bg_replay.specs.Holds.{type_at}
use Rattle.bg_replay.specs.Said.{Said, Stops}
use Rattle.bg_replay.specs.Ways.{runs}
use Rattle.bg_replay.specs.Endings.{moment_in}
use Rattle.bg_opened.specs.Exprs.{raw_bodies}
use Rattle.bg_opened.specs.Axioms.{axiom_program, axiom_place}
use Rattle.bg_expanded.specs.Chains.{most_bodies}
use Rattle.bg_certtext.specs.Views as value
use Rattle.bg_certtext.specs.Views.{PartOf, AtNumber, AtElement, ValueOf, Item, EntryOf, FunctionOf, InterpOf}
use Rattle.bg_confirm.specs.Typed.{values_fit, functions_fit}

-- a value as one of a type: an element has its number, and the type
abbrev pub element_in : Ty → ℤ → Val
element_in (UserTy k) z = v.Element k z
element_in _ z = v.Num z

-- the number that stands for a part of an index
abbrev pub number_at : PartOf → ℤ
number_at (AtNumber z) = z
number_at (AtElement name z) = z

abbrev pub val_for : Ty → ValueOf → Val
val_for t (value.Truth b) = v.Truth b
val_for t (value.Number z) = v.Num z
val_for t (value.Element name z) = element_in t z
val_for t (value.Default d) = v.Default (val_for (result_of t) d)
val_for t (value.Slot k x m) = v.Entry (map number_at k) (val_for (result_of t) x) (val_for t m)

-- a slot as an entry of a map that gives values of a type
abbrev pub entry_for : Ty → Item → List ℤ × Val
entry_for t e = (map number_at e.0, val_for t e.1)

-- values as those of types, one by one
abbrev pub vals_for : List Ty → List ValueOf → List Val
vals_for ts [] = []
vals_for ts (x ∷ xs) = val_for (type_at ts 0) x ∷ vals_for (drop 1 ts) xs

-- a function's table
abbrev pub entry_of : Fun → EntryOf → List Val × Val
entry_of f e = (vals_for f.params e.key, val_for f.result e.value)

abbrev pub table_of : Fun → FunctionOf → Table
table_of f g = record { entries = map (entry_of f) g.entries; default = val_for f.result g.default }

-- the table without entries
abbrev pub blank : Fun → Table
blank f = record { entries = []; default = default_for f.result }

abbrev pub first_table : Fun → List FunctionOf → Table
first_table f [] = blank f
first_table f (g ∷ gs) = table_of f g

-- the tables of functions: where one has no body the next of these, else one without entries
abbrev pub tables_by : List Fun → List FunctionOf → List Table
tables_by [] gs = []
tables_by (f ∷ fs) gs = if has_body f.body then blank f ∷ tables_by fs gs else first_table f gs ∷ tables_by fs (drop 1 gs)

-- tables are these where a function has no body
abbrev pub AreTablesOf : List Fun → List FunctionOf → List Table → Type 0
AreTablesOf fs gs ts =
    (f : ℕ) → has_body (raw_bodies fs f) ≡ false → slice_get ts f ≡ slice_get (tables_by fs gs) f

-- what the run of the implementation with this number says, where functions have these tables, from these values of globals,
-- without a frame and choices
abbrev pub run_in : Prog → (ℕ → Bool) → ℕ → Impl → Proc → List Table → List Val → Said
run_in p set k m q ts xs =
    runs
    (record { set = set; tables = ts; before = xs; globals = types_of p.globals; frame = types_of (frame_decls m q) })
    0 (blocks_in p k m q) (moment_in xs [] [])

-- the implementation of a place runs so
pub record RunsTo (p : Prog) (set : ℕ → Bool) (t : Place) (ts : List Table) (xs : List Val) (said : Said) : Type 0 where
  pub implementation : Impl
  pub procedure : Proc
  pub is_there : slice_get p.implementations t.implementation ≡ Some implementation
  pub is_its : procedure_of p implementation.procedure ≡ Some procedure
  pub says : run_in p set t.implementation implementation procedure ts xs ≡ said

-- the axioms' own program, whose globals are the constants
abbrev pub axioms_of : r.Program → Prog
axioms_of p = axiom_program most_bodies (meaning_of p)

-- the types of the constants
abbrev pub constant_types : r.Program → List Ty
constant_types p = types_of (axioms_of p).globals

abbrev pub values_in : InterpOf → List ValueOf
values_in i = map (λ g. g.value) i.constants

-- The constants' names, in order, each with a value of its type in normal form; the names of the functions without a body, in order, each
-- with a table of its types in normal form; an element is of a type where it has its name; and from these values the axioms' own program
-- fails at its place, where functions have these tables. It applies no function with a body and has no candidates: all tables of such
-- functions and all sets of candidates are as good.
pub record IsMet (p : r.Program) (i : InterpOf) : Type 0 where
  pub named : map (λ g. g.name) i.constants ≡ map (λ c. c.name.text) p.constants
  pub typed : values_fit p.types (constant_types p) (values_in i) ≡ true
  pub normal : are_of (constant_types p) (vals_for (constant_types p) (values_in i)) ≡ true
  pub functions : functions_fit p.types p.functions i.functions ≡ true
  pub tables : List Table
  pub are_its : AreTablesOf (meaning_of p).functions i.functions tables
  pub typed_tables : are_tables (axioms_of p).functions tables ≡ true
  pub set : ℕ → Bool
  pub met : RunsTo (axioms_of p) set axiom_place tables (vals_for (constant_types p) (values_in i)) (Stops (Failed axiom_place.spot))
