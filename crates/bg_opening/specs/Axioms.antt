-- The axioms' own program, as it is written: what no text says has an empty name, and stands nowhere.
use Rattle.std.specs.Prelude.{ℕ, false, [], ◌∷◌, None}
use Rattle.bg_base.specs.declared.pos.Pos.{Pos}
use Rattle.bg_text.specs.Trees.{Id}
use Rattle.bg_ast.specs.Resolved as r
use Rattle.bg_opened.specs.Written.{opened_program}

abbrev pub nowhere : Pos
nowhere = record { line = 0; column = 0 }

abbrev pub no_name : Id
no_name = record { pos = nowhere; text = [] }

-- the procedure without parameters, results and clauses
abbrev pub bare : r.Proc
bare =
    record {
      pos = nowhere;
      name = no_name;
      params = [];
      results = [];
      modifies = [];
      requires_ = [];
      ensures_ = [];
    }

-- what is false is claimed
abbrev pub claim : r.Sts
claim =
    r.Then (r.Assert (record { pos = nowhere; id = 0; is_free = false; candidate = None; says = r.Truth nowhere false })) r.NoSt

-- the implementation that claims it
abbrev pub claims_false : r.Impl
claims_false =
    record {
      pos = nowhere;
      name = no_name;
      procedure = 0;
      params = [];
      results = [];
      locals = [];
      body = claim;
    }

-- the types, constants, functions and axioms of a program, with one implementation, which claims what is false
abbrev pub of_axioms : r.Program → r.Program
of_axioms p =
    record p { candidates = []; globals = []; procedures = bare ∷ []; implementations = claims_false ∷ [] }

-- the same, opened
abbrev pub axiom_program : ℕ → r.Program → r.Program
axiom_program depth p = opened_program depth (of_axioms p)
