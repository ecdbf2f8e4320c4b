-- Small programs, on which the definitions are tried.
use Rattle.std.specs.Prelude.{ℕ, pos, true, List, [], ◌∷◌, Some}
use Rattle.bg_base.specs.declared.pos.Pos.{Pos}
use Rattle.bg_text.specs.declared.expr.InfixSign.TheVariants as op
use Rattle.bg_text.specs.Trees.{Id}
use Rattle.bg_ast.specs.Values as v
use Rattle.bg_ast.specs.Syntax as s
use Rattle.bg_ast.specs.Resolved as r
use Rattle.bg_kinds.specs.Kinds.{Kind}

-- a column of the first line
abbrev pub at : ℕ → Pos
at n = record { line = 1; column = n }

abbrev pub called : ℕ → Id
called n = record { pos = at n; text = [] }

-- each declared type stands for itself
abbrev pub plain : ℕ → Kind
plain k = Some (v.UserTy k)

abbrev pub itself : List r.TypeName
itself = record { name = called 6; synonym = Some (r.DeclaredType (at 10) 0) } ∷ []

abbrev pub empty : r.Program
empty =
    record {
      types = [];
      constants = [];
      candidates = [];
      globals = [];
      functions = [];
      axioms = [];
      procedures = [];
      implementations = [];
    }

abbrev pub int_at : ℕ → ℕ → r.Declared
int_at n m = record { name = called n; ty = r.IntType (at m) }

abbrev pub procedure : List r.Declared → r.Proc
procedure params = record { pos = at 1; name = called 11; params = params; results = []; modifies = []; requires_ = []; ensures_ = [] }

abbrev pub implementation : (params locals : List r.Declared) → r.St → r.Impl
implementation params locals body =
    record { pos = at 1; name = called 11; procedure = 0; params = params; results = []; locals = locals; body = r.Then body r.NoSt }

-- procedure P() { var a: int; a := 1, 2; }
abbrev pub two_for_one : r.Program
two_for_one =
    record empty {
      procedures = procedure [] ∷ [];
      implementations =
          implementation [] (int_at 21 24 ∷ []) (r.Assign (at 31) (record { placed = record { pos = at 29; variable = s.Local 0 }; brackets = [] } ∷ []) (r.More (r.Number (at 34) (pos 1)) (r.More (r.Number (at 37) (pos 2)) r.NoMore)))
          ∷ [];
    }

abbrev pub two_ints : List r.Declared
two_ints = int_at 13 16 ∷ int_at 21 24 ∷ []

-- procedure P(x: int, y: int) { assume x * y == 0; }
abbrev pub product : r.Program
product =
    record empty {
      procedures = procedure two_ints ∷ [];
      implementations =
          implementation two_ints [] (r.Assume (r.Chain (r.Chain (r.Read (at 38) (s.Local 0)) (r.Link (at 40) op.Times (r.Read (at 42) (s.Local 1)) r.NoLink)) (r.Link (at 44) op.Equal (r.Number (at 47) (pos 0)) r.NoLink)))
          ∷ [];
    }

-- var m: [bool]int;
abbrev pub by_truth : r.Program
by_truth = record empty { globals = record { name = called 5; ty = r.MapType (r.Index (at 8) (r.OneType (r.BoolType (at 9)) r.NoType) r.NoIndex) (r.IntType (at 14)) } ∷ [] }

-- axiom 1 + true;
abbrev pub sum_of_truth : r.Program
sum_of_truth = record empty { axioms = r.Chain (r.Number (at 7) (pos 1)) (r.Link (at 9) op.Plus (r.Truth (at 11) true) r.NoLink) ∷ [] }
