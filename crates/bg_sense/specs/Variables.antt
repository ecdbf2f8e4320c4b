-- The variables of a body: their declarations, what is put into them, and which of them a statement may change.
use Rattle.std.specs.Prelude.{ℕ, zero, suc, Bool, false, ◌||◌, List, [], ◌∷◌, length, map, Option, Some, None, slice_get, ◌++◌, filter, slice_set, ◌==◌}
use Rattle.bg_ast.specs.Values.{IntTy, Ty, Val}
use Rattle.bg_ast.specs.Syntax.{Global, Var, Local, Ex, St, If, While, Assign, Then, Invoke, Havoc, Decl, Proc, Prog}
use Rattle.bg_sense.specs.Flow.{World}
use Rattle.bg_sense.specs.Context.{Ctx}

-- a variable gets a value
abbrev pub put : Var → Val → World → World
put (Global x) v w = record w { globals = slice_set w.globals x v }
put (Local x) v w = record w { frame = slice_set w.frame x v }

-- each variable gets its value, in order
abbrev pub put_all : List Var → List Val → World → World
put_all [] vs w = w
put_all (x ∷ xs) [] w = w
put_all (x ∷ xs) (v ∷ vs) w = put_all xs vs (put x v w)

-- a declared variable's type
abbrev pub type_in : Option Decl → Ty
type_in None = IntTy
type_in (Some d) = d.ty

-- what a declaration says
abbrev pub wheres_in : Option Decl → List Ex
wheres_in None = []
wheres_in (Some d) = d.wheres

-- a variable's declaration, among these of the frame
abbrev pub decl_in : Prog → List Decl → Var → Option Decl
decl_in p ds (Global x) = slice_get p.globals x
decl_in p ds (Local x) = slice_get ds x

-- the same in the context of an execution
abbrev pub decl_of : Ctx → Var → Option Decl
decl_of c = decl_in c.program c.variables

-- what declarations say
abbrev pub wheres_of : List Decl → List Ex
wheres_of [] = []
wheres_of (d ∷ ds) = d.wheres ++ wheres_of ds

-- what the declarations of these variables say
abbrev pub wheres_at : Ctx → List Var → List Ex
wheres_at c [] = []
wheres_at c (x ∷ xs) = wheres_in (decl_of c x) ++ wheres_at c xs

-- whether two variables are the same
abbrev pub var_eq : Var → Var → Bool
var_eq (Global x) (Global y) = x == y
var_eq (Local x) (Local y) = x == y
var_eq _ _ = false

-- whether a variable is one of these
abbrev pub is_among : List Var → Var → Bool
is_among [] x = false
is_among (y ∷ ys) x = var_eq y x || is_among ys x

-- the procedure with this number
abbrev pub procedure_of : Prog → ℕ → Option Proc
procedure_of p k = slice_get p.procedures k

-- n numbers, from k on
abbrev pub count_from : ℕ → ℕ → List ℕ
count_from k zero = []
count_from k (suc n) = k ∷ count_from (suc k) n

-- the globals, by declaration
abbrev pub globals_of : Prog → List Var
globals_of p = map Global (count_from 0 (length p.globals))

-- the declared globals that a procedure modifies, by declaration, however its list names them
abbrev pub modified : Prog → Proc → List Var
modified p q = filter (is_among (map Global q.modifies)) (globals_of p)

-- the same, where the procedure is there
abbrev pub modified_by : Prog → Option Proc → List Var
modified_by p None = []
modified_by p (Some q) = modified p q

-- the variables that a statement may change
abbrev pub may_change : Prog → St → Var → Bool
may_change p (Then a b) x = may_change p a x || may_change p b x
may_change p (Havoc xs) x = is_among xs x
may_change p (Assign xs es) x = is_among xs x
may_change p (Invoke k) x = is_among k.takes x || is_among (modified_by p (procedure_of p k.procedure)) x
may_change p (If n g a b) x = may_change p a x || may_change p b x
may_change p (While n g is a) x = may_change p a x
may_change p _ x = false

-- all variables, globals first, each group by declaration
abbrev pub variables_in : Prog → List Decl → List Var
variables_in p ds = globals_of p ++ map Local (count_from 0 (length ds))

-- the same in the context of an execution
abbrev pub variables_of : Ctx → List Var
variables_of c = variables_in c.program c.variables

-- a loop's targets
abbrev pub targets : Ctx → St → List Var
targets c body = filter (may_change c.program body) (variables_of c)
