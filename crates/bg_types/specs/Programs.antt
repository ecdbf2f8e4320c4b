-- Programs: the faults in them, where synonyms are unfolded.
use Rattle.std.specs.Prelude.{ℕ, false, List, [], ◌∷◌, ◌++◌, map, Option, Some, None, slice_get}
use Rattle.bg_ast.specs.Values as v
use Rattle.bg_ast.specs.Resolved as r
use Rattle.bg_kinds.specs.Faults.{Fault}
use Rattle.bg_kinds.specs.Kinds.{Kind, kind_in, type_faults}
use Rattle.bg_typing.specs.Sides.{Scope, Shape, Side, kind_at, matched_faults}
use Rattle.bg_typing.specs.Stmts.{wanted_faults, truths_faults, clauses_faults, sts_faults}

abbrev pub declared_kind : (ℕ → Kind) → r.Declared → Kind
declared_kind named d = kind_in named d.ty

abbrev pub declared_kinds : (ℕ → Kind) → List r.Declared → List Kind
declared_kinds named ds = map (declared_kind named) ds

abbrev pub const_kind : (ℕ → Kind) → r.Const → Kind
const_kind named c = kind_in named c.ty

abbrev pub function_shape : (ℕ → Kind) → r.Fun → Shape
function_shape named f = record { params = map (kind_in named) f.params; results = kind_in named f.result ∷ [] }

abbrev pub procedure_shape : (ℕ → Kind) → r.Proc → Shape
procedure_shape named q = record { params = declared_kinds named q.params; results = declared_kinds named q.results }

-- the faults of written types
abbrev pub written_faults : (ℕ → Kind) → List r.Ty → List Fault
written_faults named [] = []
written_faults named (t ∷ ts) = type_faults named t ++ written_faults named ts

abbrev pub declared_faults : (ℕ → Kind) → List r.Declared → List Fault
declared_faults named [] = []
declared_faults named (d ∷ ds) = type_faults named d.ty ++ declared_faults named ds

abbrev pub synonym_faults : (ℕ → Kind) → Option r.Ty → List Fault
synonym_faults named None = []
synonym_faults named (Some t) = type_faults named t

abbrev pub synonyms_faults : (ℕ → Kind) → List r.TypeName → List Fault
synonyms_faults named [] = []
synonyms_faults named (d ∷ ds) = synonym_faults named d.synonym ++ synonyms_faults named ds

abbrev pub consts_faults : (ℕ → Kind) → List r.Const → List Fault
consts_faults named [] = []
consts_faults named (c ∷ cs) = type_faults named c.ty ++ consts_faults named cs

abbrev pub shape_faults : (ℕ → Kind) → r.Fun → List Fault
shape_faults named f = written_faults named f.params ++ type_faults named f.result

abbrev pub functions_faults : (ℕ → Kind) → List r.Fun → List Fault
functions_faults named [] = []
functions_faults named (f ∷ fs) = shape_faults named f ++ functions_faults named fs

-- a row of declarations after another
abbrev pub two_lists_faults : (ℕ → Kind) → (params results : List r.Declared) → List Fault
two_lists_faults named params results = declared_faults named params ++ declared_faults named results

abbrev pub procedures_faults : (ℕ → Kind) → List r.Proc → List Fault
procedures_faults named [] = []
procedures_faults named (q ∷ qs) = two_lists_faults named q.params q.results ++ procedures_faults named qs

abbrev pub frame_faults : (ℕ → Kind) → (params results locals : List r.Declared) → List Fault
frame_faults named params results locals = two_lists_faults named params results ++ declared_faults named locals

abbrev pub implementations_faults : (ℕ → Kind) → List r.Impl → List Fault
implementations_faults named [] = []
implementations_faults named (m ∷ ms) = frame_faults named m.params m.results m.locals ++ implementations_faults named ms

-- the frame of an implementation, or of a procedure's postconditions
abbrev pub frame_kinds : (ℕ → Kind) → (params results locals : List r.Declared) → List Kind
frame_kinds named params results locals = (declared_kinds named params ++ declared_kinds named results) ++ declared_kinds named locals

abbrev pub procedure_frame : (ℕ → Kind) → r.Proc → List Kind
procedure_frame named q = frame_kinds named q.params q.results []

abbrev pub implementation_frame : (ℕ → Kind) → r.Impl → List Kind
implementation_frame named m = frame_kinds named m.params m.results m.locals

-- what names mean in a program
abbrev pub scope_in : (ℕ → Kind) → r.Program → Scope
scope_in named p =
    record {
      constants = map (const_kind named) p.constants;
      globals = declared_kinds named p.globals;
      frame = [];
      functions = map (function_shape named) p.functions;
      procedures = map (procedure_shape named) p.procedures;
    }

abbrev pub with_frame : Scope → List Kind → Scope
with_frame g frame = record g { frame = frame }

-- axioms and function bodies see no globals
abbrev pub without_globals : Scope → List Kind → Scope
without_globals g frame = record g { globals = []; frame = frame }

abbrev pub body_faults : Scope → Shape → Option r.Ex → List Fault
body_faults g f None = []
body_faults g f (Some e) = wanted_faults (without_globals g f.params) (kind_at f.results 0) e

abbrev pub bodies_faults : (ℕ → Kind) → Scope → List r.Fun → List Fault
bodies_faults named g [] = []
bodies_faults named g (f ∷ fs) = body_faults g (function_shape named f) f.body ++ bodies_faults named g fs

-- the clauses of a procedure: preconditions see parameters, postconditions see results too
abbrev pub specification_faults : (ℕ → Kind) → Scope → r.Proc → List Fault
specification_faults named g q =
    clauses_faults (with_frame g (declared_kinds named q.params)) q.requires_
    ++ clauses_faults (with_frame g (frame_kinds named q.params q.results [])) q.ensures_

abbrev pub specifications_faults : (ℕ → Kind) → Scope → List r.Proc → List Fault
specifications_faults named g [] = []
specifications_faults named g (q ∷ qs) = specification_faults named g q ++ specifications_faults named g qs

-- an implementation's parameters or results, at their names
abbrev pub declared_side : (ℕ → Kind) → r.Declared → Side
declared_side named d = record { start = d.name.pos; kind = declared_kind named d; is_constant = false }

abbrev pub declared_sides : (ℕ → Kind) → List r.Declared → List Side
declared_sides named ds = map (declared_side named) ds

-- an implementation has its procedure's parameters and results
abbrev pub matching_faults : (ℕ → Kind) → Option Shape → r.Impl → List Fault
matching_faults named None m = []
matching_faults named (Some q) m =
    matched_faults m.name.pos q.params (declared_sides named m.params)
    ++ matched_faults m.name.pos q.results (declared_sides named m.results)

abbrev pub implementation_faults : (ℕ → Kind) → Scope → r.Impl → List Fault
implementation_faults named g m =
    matching_faults named (slice_get g.procedures m.procedure) m
    ++ sts_faults (with_frame g (frame_kinds named m.params m.results m.locals)) m.body

abbrev pub impls_faults : (ℕ → Kind) → Scope → List r.Impl → List Fault
impls_faults named g [] = []
impls_faults named g (m ∷ ms) = implementation_faults named g m ++ impls_faults named g ms

-- the faults of all written types
abbrev pub types_part : (ℕ → Kind) → r.Program → List Fault
types_part named p =
    synonyms_faults named p.types
    ++ (consts_faults named p.constants
    ++ (declared_faults named p.globals
    ++ (functions_faults named p.functions
    ++ (procedures_faults named p.procedures
    ++ implementations_faults named p.implementations))))

-- the faults of all expressions and statements
abbrev pub bodies_part : (ℕ → Kind) → Scope → r.Program → List Fault
bodies_part named g p =
    bodies_faults named g p.functions
    ++ (truths_faults (without_globals g []) p.axioms
    ++ (specifications_faults named g p.procedures
    ++ impls_faults named g p.implementations))

-- the faults of a program
abbrev pub program_faults : (ℕ → Kind) → r.Program → List Fault
program_faults named p = types_part named p ++ bodies_part named (scope_in named p) p
