-- Small texts, on which the definitions are tried.
use Rattle.std.specs.Prelude.{ℕ, ◌+◌, pos, true, List, [], ◌∷◌, Option, Some, None}
use Rattle.bg_base.specs.declared.pos.Pos.{Pos}
use Rattle.bg_text.specs.Trees as t
use Rattle.bg_names.specs.Faults.{Fault, better}
use Rattle.bg_resolve.specs.Program.{plain_faults}

-- a column of the first line
abbrev pub at : ℕ → Pos
at n = record { line = 1; column = n }

abbrev pub id : ℕ → ℕ → t.Id
id n c = record { pos = at n; text = c ∷ [] }

abbrev pub first_fault : List t.Decl → Option Fault
first_fault ds = better None (plain_faults ds)

abbrev pub no_sig : t.Sig
no_sig = record { params = []; results = None }

abbrev pub group : ℕ → ℕ → t.Ty → t.Group
group n c e = record { attrs = []; names = id n c ∷ []; ty = e }

abbrev pub vars : ℕ → t.Group → t.Vars
vars n g = record { pos = at n; groups = g ∷ [] }

-- procedure P: with this signature, these locals and these statements
abbrev pub procedure : ℕ → t.Sig → List t.Vars → t.Sts → t.Decl
procedure n s locals stmts =
    t.Procedure
    (record {
      pos = at n;
      attrs = [];
      name = id (n + 10) 80;
      sig = s;
      specs = [];
      body = Some (record { locals = locals; stmts = stmts });
    })

abbrev pub assign : ℕ → ℕ → t.Ex → t.Sts
assign n c e =
    t.Then (t.Assign (at (n + 2)) (record { name = id n c; brackets = [] } ∷ []) (t.More e t.NoMore)) t.NoSt

-- procedure P() { x := true; }
abbrev pub unknown_x : List t.Decl
unknown_x = procedure 1 no_sig [] (assign 17 120 (t.Truth (at 22) true)) ∷ []

-- procedure P(x: int) { x := 1; }
abbrev pub input_x : List t.Decl
input_x =
    procedure 1 (record { params = group 13 120 (t.IntType (at 16)) ∷ []; results = None }) [] (assign 23 120 (t.Number (at 28) (pos 1)))
    ∷ []

-- procedure P() { var a: int; var a: bool; }
abbrev pub duplicate_a : List t.Decl
duplicate_a =
    procedure 1 no_sig (vars 17 (group 21 97 (t.IntType (at 24))) ∷ vars 29 (group 33 97 (t.BoolType (at 36))) ∷ []) t.NoSt
    ∷ []

-- var g: int; procedure P() { g := 1; }
abbrev pub modifies_g : List t.Decl
modifies_g =
    t.Globals (vars 1 (group 5 103 (t.IntType (at 8))))
    ∷ procedure 13 no_sig [] (assign 29 103 (t.Number (at 34) (pos 1)))
    ∷ []

-- procedure P() { break; }
abbrev pub target_break : List t.Decl
target_break = procedure 1 no_sig [] (t.Then (t.Break (at 17) None) t.NoSt) ∷ []

-- procedure P() { A: goto A; }
abbrev pub target_a : List t.Decl
target_a = procedure 1 no_sig [] (t.Then (t.Label (id 17 65)) (t.Then (t.Goto (at 20) (id 25 65 ∷ [])) t.NoSt)) ∷ []

-- function f(int): int { 1 }
abbrev pub unnamed : List t.Decl
unnamed =
    t.Function
    (record {
      pos = at 1;
      attrs = [];
      name = id 10 102;
      args = record { name = None; ty = t.IntType (at 12) } ∷ [];
      result = t.Colon (t.IntType (at 18));
      body = Some (t.Number (at 24) (pos 1));
    })
    ∷ []

-- axiom old(true);
abbrev pub old_axiom : List t.Decl
old_axiom = t.Axiom (at 1) [] (t.Old (at 7) (t.Truth (at 11) true)) ∷ []

-- type A = A;
abbrev pub synonym : List t.Decl
synonym = t.Types (at 1) [] (record { name = id 6 65; synonym = Some (t.NamedType (at 10) (65 ∷ [])) } ∷ []) ∷ []

-- procedure P() { var a: int; a := 1, 2; }
abbrev pub two_values : List t.Decl
two_values =
    procedure
    1
    no_sig
    (vars 17 (group 21 97 (t.IntType (at 24))) ∷ [])
    (t.Then
    (t.Assign
    (at 31)
    (record { name = id 29 97; brackets = [] } ∷ [])
    (t.More (t.Number (at 34) (pos 1)) (t.More (t.Number (at 37) (pos 2)) t.NoMore)))
    t.NoSt)
    ∷ []
