-- Small programs, on which the definitions are tried.
use Rattle.std.specs.Prelude.{ℕ, pos, Bool, true, false, List, [], ◌∷◌, Some, None, ◌==◌}
use Rattle.bg_ast.specs.Values.{IntKey, IntTy, MapTy, Default, Num, Val}
use Rattle.bg_ast.specs.Syntax.{Global, Local, AtMost, Plus, Less, AtLeast, And, Equal, Update, Select, Read, Binary, Number, Fact, Old, NoMore, Ex, More, Clause, Test, Star, Label, St, Assert, Skip, If, While, Assign, Break, Goto, Return, Then, Invoke, Decl, Prog}
use Rattle.bg_ast.specs.Execution.{Interp, State}

-- a whole number
abbrev pub int_var : Decl
int_var = record { ty = IntTy; wheres = [] }

-- no constants and no tables
abbrev pub nothing : Interp
nothing = record { constants = []; tables = [] }

-- a checked clause without a candidate
abbrev pub clause : ℕ → Ex → Clause
clause n e = record { id = n; is_free = false; candidate = None; says = e }

-- a checked clause of candidate b
abbrev pub guarded : ℕ → ℕ → Ex → Clause
guarded n b e = record { id = n; is_free = false; candidate = Some b; says = e }

-- var g: int; procedure Bump(); modifies g;
-- procedure P() modifies g; { var k: int; k := 0; while (k < 1) { call Bump(); k := k + 1; } assert g == old(g); }
abbrev pub forgetful : Prog
forgetful =
    record {
      globals = int_var ∷ [];
      constants = [];
      functions = [];
      axioms = [];
      procedures =
          record { params = []; results = []; modifies = 0 ∷ []; requires_ = []; ensures_ = [] }
          ∷ record { params = []; results = []; modifies = 0 ∷ []; requires_ = []; ensures_ = [] }
          ∷ [];
      implementations =
          record {
            procedure = 1;
            locals = int_var ∷ [];
            body =
                Then
                (Assign (Local 0 ∷ []) (More (Number (pos 0)) NoMore))
                (Then
                (While
                0
                (Test (Binary Less (Read (Local 0)) (Number (pos 1))))
                []
                (Then
                (Invoke (record { site = 1; procedure = 0; args = NoMore; takes = [] }))
                (Then
                (Assign (Local 0 ∷ []) (More (Binary Plus (Read (Local 0)) (Number (pos 1))) NoMore))
                Skip)))
                (Then (Assert (clause 0 (Binary Equal (Read (Global 0)) (Old (Read (Global 0)))))) Skip));
          }
          ∷ [];
      candidates = 0;
    }

-- g is 5
abbrev pub five : State
five = record { globals = Num (pos 5) ∷ []; frame = Num (pos 0) ∷ [] }

-- procedure Count(n: int) returns (i: int) requires 0 <= n; ensures i == n;
-- { i := 0; while (i < n) invariant b0 ==> i >= 0; invariant b1 ==> i >= 1; invariant b2 ==> i <= n; { i := i + 1; } }
abbrev pub count : Prog
count =
    record {
      globals = [];
      constants = [];
      functions = [];
      axioms = [];
      procedures =
          record {
            params = int_var ∷ [];
            results = int_var ∷ [];
            modifies = [];
            requires_ = clause 0 (Binary AtMost (Number (pos 0)) (Read (Local 0))) ∷ [];
            ensures_ = clause 1 (Binary Equal (Read (Local 1)) (Read (Local 0))) ∷ [];
          }
          ∷ [];
      implementations =
          record {
            procedure = 0;
            locals = [];
            body =
                Then
                (Assign (Local 1 ∷ []) (More (Number (pos 0)) NoMore))
                (Then
                (While
                0
                (Test (Binary Less (Read (Local 1)) (Read (Local 0))))
                (guarded 2 0 (Binary AtLeast (Read (Local 1)) (Number (pos 0)))
                ∷ guarded 3 1 (Binary AtLeast (Read (Local 1)) (Number (pos 1)))
                ∷ guarded 4 2 (Binary AtMost (Read (Local 1)) (Read (Local 0)))
                ∷ [])
                (Then (Assign (Local 1 ∷ []) (More (Binary Plus (Read (Local 1)) (Number (pos 1))) NoMore)) Skip))
                Skip);
          }
          ∷ [];
      candidates = 3;
    }

-- n to count to, and some result
abbrev pub up_to : ℕ → State
up_to n = record { globals = []; frame = Num (pos n) ∷ Num (pos 9) ∷ [] }

-- every candidate
abbrev pub all_three : ℕ → Bool
all_three b = true

-- every candidate but the second
abbrev pub without_one : ℕ → Bool
without_one b = if_one (b == 1)
  where
    if_one : Bool → Bool
    if_one true = false
    if_one false = true

-- a program of one procedure with one implementation
abbrev pub single : List Decl → List Decl → List Decl → List Clause → St → Prog
single params results locals ensures_ body =
    record {
      globals = [];
      constants = [];
      functions = [];
      axioms = [];
      procedures = record { params = params; results = results; modifies = []; requires_ = []; ensures_ = ensures_ } ∷ [];
      implementations = record { procedure = 0; locals = locals; body = body } ∷ [];
      candidates = 0;
    }

-- whole numbers for the frame
abbrev pub frame : List ℕ → State
frame ns = record { globals = []; frame = numbers ns }
  where
    numbers : List ℕ → List Val
    numbers [] = []
    numbers (n ∷ ns) = Num (pos n) ∷ numbers ns

-- the frame's variable at x
abbrev pub local : ℕ → Ex
local x = Read (Local x)

-- a whole number
abbrev pub number : ℕ → Ex
number n = Number (pos n)

-- r, s := x, y; r, s := s, r; with the postcondition r == y && s == x
abbrev pub swap : Prog
swap =
    single (int_var ∷ int_var ∷ []) (int_var ∷ int_var ∷ []) []
    (clause 0 (Binary And (Binary Equal (local 2) (local 1)) (Binary Equal (local 3) (local 0))) ∷ [])
    (Then
    (Assign (Local 2 ∷ Local 3 ∷ []) (More (local 0) (More (local 1) NoMore)))
    (Then (Assign (Local 2 ∷ Local 3 ∷ []) (More (local 3) (More (local 2) NoMore))) Skip))

-- goto A, B; A: r := 1; return; B: r := 2; with the postcondition r == 1
abbrev pub two_ways : Prog
two_ways =
    single [] (int_var ∷ []) [] (clause 0 (Binary Equal (local 0) (number 1)) ∷ [])
    (Then (Goto (0 ∷ 1 ∷ []))
    (Then (Label 0)
    (Then (Assign (Local 0 ∷ []) (More (number 1) NoMore))
    (Then Return
    (Then (Label 1)
    (Then (Assign (Local 0 ∷ []) (More (number 2) NoMore)) Skip))))))

-- a map from whole numbers to whole numbers
abbrev pub map_var : Decl
map_var = record { ty = MapTy (IntKey ∷ []) IntTy; wheres = [] }

-- m[i] := 1; m[j] := 2; assert m[i] == 1; where m starts without entries
abbrev pub two_writes : Prog
two_writes =
    single (int_var ∷ int_var ∷ []) [] (map_var ∷ []) []
    (Then (Assign (Local 2 ∷ []) (More (Update (local 2) (More (local 0) NoMore) (number 1)) NoMore))
    (Then (Assign (Local 2 ∷ []) (More (Update (local 2) (More (local 1) NoMore) (number 2)) NoMore))
    (Then (Assert (clause 0 (Binary Equal (Select (local 2) (More (local 0) NoMore)) (number 1)))) Skip)))

-- two indices, and a map without entries
abbrev pub at_indices : ℕ → ℕ → State
at_indices i j = record { globals = []; frame = Num (pos i) ∷ Num (pos j) ∷ Default (Num (pos 0)) ∷ [] }

-- while (*) { if (*) { break; } assert false; } assert x == 0;
abbrev pub breaking : Prog
breaking =
    single (int_var ∷ []) [] [] []
    (Then
    (While 0 Star []
    (Then (If 1 Star (Then (Break 0) Skip) Skip)
    (Then (Assert (clause 0 (Fact false))) Skip)))
    (Then (Assert (clause 1 (Binary Equal (local 0) (number 0)))) Skip))

-- procedure Q() returns (r: int) free ensures r == 1; procedure C() { var a: int; call a := Q(); assert a == 1; }
abbrev pub trusting : Prog
trusting =
    record {
      globals = [];
      constants = [];
      functions = [];
      axioms = [];
      procedures =
          record {
            params = [];
            results = int_var ∷ [];
            modifies = [];
            requires_ = [];
            ensures_ = record { id = 0; is_free = true; candidate = None; says = Binary Equal (local 0) (number 1) } ∷ [];
          }
          ∷ record { params = []; results = []; modifies = []; requires_ = []; ensures_ = [] }
          ∷ [];
      implementations =
          record { procedure = 0; locals = []; body = Then (Assign (Local 0 ∷ []) (More (number 0) NoMore)) Skip }
          ∷ record {
            procedure = 1;
            locals = int_var ∷ [];
            body =
                Then
                (Invoke (record { site = 0; procedure = 0; args = NoMore; takes = Local 0 ∷ [] }))
                (Then (Assert (clause 1 (Binary Equal (local 0) (number 1)))) Skip);
          }
          ∷ [];
      candidates = 0;
    }

-- var g: int; var h: int; procedure Set(); modifies h, g, h; ensures g == 1; ensures h == 2;
-- procedure P() modifies g, h; { call Set(); assert g == 1; }
abbrev pub two_globals : Prog
two_globals =
    record {
      globals = int_var ∷ int_var ∷ [];
      constants = [];
      functions = [];
      axioms = [];
      procedures =
          record {
            params = [];
            results = [];
            modifies = 1 ∷ 0 ∷ 1 ∷ [];
            requires_ = [];
            ensures_ =
                clause 0 (Binary Equal (Read (Global 0)) (number 1))
                ∷ clause 1 (Binary Equal (Read (Global 1)) (number 2))
                ∷ [];
          }
          ∷ record { params = []; results = []; modifies = 0 ∷ 1 ∷ []; requires_ = []; ensures_ = [] }
          ∷ [];
      implementations =
          record {
            procedure = 1;
            locals = [];
            body =
                Then
                (Invoke (record { site = 0; procedure = 0; args = NoMore; takes = [] }))
                (Then (Assert (clause 2 (Binary Equal (Read (Global 0)) (number 1)))) Skip);
          }
          ∷ [];
      candidates = 0;
    }

-- two globals
abbrev pub at_globals : ℕ → ℕ → State
at_globals g h = record { globals = Num (pos g) ∷ Num (pos h) ∷ []; frame = [] }
