-- The axioms' own program: its one place fails exactly under the interpretations that meet the program.
use Rattle.std.specs.Prelude.{ℕ, false, [], ◌∷◌, None}
use Rattle.bg_ast.specs.Syntax.{Fact, Skip, Then, Assert, Proc, Impl, Prog}
use Rattle.bg_ast.specs.Execution.{State, AtAssert, Place}
use Rattle.bg_opened.specs.Programs.{opened_program}

-- the procedure without parameters, results and clauses
abbrev pub bare : Proc
bare = record { params = []; results = []; modifies = []; requires_ = []; ensures_ = [] }

-- it claims what is false
abbrev pub claims_false : Impl
claims_false =
    record {
      procedure = 0;
      locals = [];
      body = Then (Assert (record { id = 0; is_free = false; candidate = None; says = Fact false })) Skip;
    }

-- the constants, functions and axioms of a program, with one implementation, which claims what is false
abbrev pub of_axioms : Prog → Prog
of_axioms p =
    record p { globals = []; procedures = bare ∷ []; implementations = claims_false ∷ []; candidates = 0 }

-- the same, opened: what is false is claimed behind the axioms, where the constants are globals
abbrev pub axiom_program : ℕ → Prog → Prog
axiom_program depth p = opened_program depth (of_axioms p)

-- its one place
abbrev pub axiom_place : Place
axiom_place = record { implementation = 0; spot = AtAssert 0; candidate = None }

-- the state of a program without variables
abbrev pub no_state : State
no_state = record { globals = []; frame = [] }
