-- How the code's spaces are read, and what each declaration adds to a program.
use Rattle.std.specs.Prelude.{ℕ, ◌+◌, List, [], ◌∷◌, ◌++◌, flat_map}
use Rattle.bg_text.specs.Trees as t
use Rattle.bg_ast.specs.Resolved as r
use Rattle.bg_names.specs.Faults.{Fault}
use Rattle.bg_spaces.specs.Declarations.{Spaces, candidate_ids_of, sig_faults}
use Rattle.bg_resolve.specs.Program.{named_types, named_constants, named_globals, named_functions, named_axioms, named_procedures, named_implementations, decl_count, synonym_faults, consts_faults, function_faults, axiom_scope, vars_faults, spec_faults, option_faults, implementation_faults}
use Rattle.bg_names.specs.Exprs.{ex_faults}

abbrev pub no_program : r.Program
no_program = record { types = []; constants = []; candidates = []; globals = []; functions = []; axioms = []; procedures = []; implementations = [] }

-- what a declaration adds to each list, with numbers from n on
abbrev pub part_of : Spaces → ℕ → t.Decl → r.Program
part_of g n d =
    record {
      types = named_types g d;
      constants = named_constants g d;
      candidates = candidate_ids_of d;
      globals = named_globals g d;
      functions = named_functions g d;
      axioms = named_axioms g d;
      procedures = named_procedures g n d;
      implementations = named_implementations g n d;
    }

abbrev pub joined : r.Program → r.Program → r.Program
joined p q =
    record {
      types = p.types ++ q.types;
      constants = p.constants ++ q.constants;
      candidates = p.candidates ++ q.candidates;
      globals = p.globals ++ q.globals;
      functions = p.functions ++ q.functions;
      axioms = p.axioms ++ q.axioms;
      procedures = p.procedures ++ q.procedures;
      implementations = p.implementations ++ q.implementations;
    }

abbrev pub parts_from : Spaces → ℕ → List t.Decl → r.Program
parts_from g n [] = no_program
parts_from g n (d ∷ ds) = joined (part_of g n d) (parts_from g (n + decl_count d) ds)

-- the faults of one kind of declaration
abbrev pub type_faults_of : Spaces → t.Decl → List Fault
type_faults_of g (t.Types p attrs ds) = flat_map (synonym_faults g) ds
type_faults_of g _ = []

abbrev pub constant_faults_of : Spaces → t.Decl → List Fault
constant_faults_of g (t.Constants c) = consts_faults g c
constant_faults_of g _ = []

abbrev pub global_faults_of : Spaces → t.Decl → List Fault
global_faults_of g (t.Globals v) = vars_faults g v
global_faults_of g _ = []

abbrev pub function_faults_of : Spaces → t.Decl → List Fault
function_faults_of g (t.Function f) = function_faults g f
function_faults_of g _ = []

abbrev pub axiom_faults_of : Spaces → t.Decl → List Fault
axiom_faults_of g (t.Axiom p attrs e) = ex_faults (axiom_scope g) e
axiom_faults_of g _ = []

-- the signature and the clauses of a procedure
abbrev pub procedure_faults_of : Spaces → t.Decl → List Fault
procedure_faults_of g (t.Procedure q) = sig_faults g q.sig ++ flat_map (spec_faults g q.sig) q.specs
procedure_faults_of g _ = []

-- bodies
abbrev pub body_faults_of : Spaces → t.Decl → List Fault
body_faults_of g (t.Procedure q) = option_faults g q.name q.sig q.body
body_faults_of g (t.Implementation m) = implementation_faults g m
body_faults_of g _ = []
