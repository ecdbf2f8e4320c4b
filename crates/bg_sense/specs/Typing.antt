-- Typed expressions and statements.
use Rattle.std.specs.Prelude.{ℕ, List, [], ◌∷◌, map, Option, Some, None, slice_get, ◌≡◌, IsTrue}
use Rattle.bg_ast.specs.Values.{IntKey, KeyType, UserKey, UserTy, IntTy, Ty, MapTy, BoolTy}
use Rattle.bg_ast.specs.Syntax.{Global, Var, Local, Op, Implies, Or, AtMost, Greater, Plus, Less, AtLeast, Iff, Times, Minus, And, Unequal, Equal, Update, Select, Constant, Read, Apply, Binary, Number, Exs, Fact, Negative, Old, NoMore, Not, Ex, More, St, If, While, Assign, Then, Invoke, Havoc, Decl, Fun, Proc, Prog}
use Rattle.bg_sense.specs.Context.{Ctx}
use Rattle.bg_sense.specs.Variables.{type_in, decl_in, is_among, procedure_of, variables_in}
use Rattle.bg_sense.specs.Types.{types_of, const_types}

-- each is a variable
abbrev pub AreVarsIn : Prog → List Decl → List Var → Type 0
AreVarsIn p ds [] = Unit {0}
AreVarsIn p ds (x ∷ xs) = IsTrue (is_among (variables_in p ds) x) × AreVarsIn p ds xs

-- the same in the context of an execution
abbrev pub AreVars : Ctx → List Var → Type 0
AreVars c = AreVarsIn c.program c.variables

-- the types of what names mean
pub record Sig : Type 0 where
  pub constants : List Ty
  pub functions : List Fun
  pub globals : List Ty
  pub frame : List Ty

-- an index type as a type
abbrev pub key_ty : KeyType → Ty
key_ty IntKey = IntTy
key_ty (UserKey t) = UserTy t

-- a variable has its declared type
abbrev pub VarHasType : Sig → Var → Ty → Type 0
VarHasType g (Global x) t = slice_get g.globals x ≡ Some t
VarHasType g (Local x) t = slice_get g.frame x ≡ Some t

-- the sides of an operator have these types, and its value that one
abbrev pub OpHasType : Op → (Ty → Type 0) → (Ty → Type 0) → Ty → Type 0
OpHasType And a b t = (t ≡ BoolTy) × a BoolTy × b BoolTy
OpHasType Or a b t = (t ≡ BoolTy) × a BoolTy × b BoolTy
OpHasType Implies a b t = (t ≡ BoolTy) × a BoolTy × b BoolTy
OpHasType Iff a b t = (t ≡ BoolTy) × a BoolTy × b BoolTy
OpHasType Equal a b t = (t ≡ BoolTy) × ((u : Ty) × a u × b u)
OpHasType Unequal a b t = (t ≡ BoolTy) × ((u : Ty) × a u × b u)
OpHasType Less a b t = (t ≡ BoolTy) × a IntTy × b IntTy
OpHasType AtMost a b t = (t ≡ BoolTy) × a IntTy × b IntTy
OpHasType Greater a b t = (t ≡ BoolTy) × a IntTy × b IntTy
OpHasType AtLeast a b t = (t ≡ BoolTy) × a IntTy × b IntTy
OpHasType Plus a b t = (t ≡ IntTy) × a IntTy × b IntTy
OpHasType Minus a b t = (t ≡ IntTy) × a IntTy × b IntTy
OpHasType Times a b t = (t ≡ IntTy) × a IntTy × b IntTy

abbrev mutual
  -- one rule for each form of expression
  pub HasType : Ex → Sig → Ty → Type 0
  HasType (Number z) g t = t ≡ IntTy
  HasType (Fact b) g t = t ≡ BoolTy
  HasType (Constant k) g t = slice_get g.constants k ≡ Some t
  HasType (Read x) g t = VarHasType g x t
  HasType (Not e) g t = (t ≡ BoolTy) × HasType e g BoolTy
  HasType (Negative e) g t = (t ≡ IntTy) × HasType e g IntTy
  HasType (Binary op a b) g t = OpHasType op (HasType a g) (HasType b g) t
  HasType (Apply f es) g t =
      (fn : Fun) × (slice_get g.functions f ≡ Some fn) × (t ≡ fn.result) × HaveTypes es g fn.params
  HasType (Select m es) g t = (ks : List KeyType) × HasType m g (MapTy ks t) × HaveTypes es g (map key_ty ks)
  HasType (Update m es e) g t =
      (ks : List KeyType) × ((u : Ty) × (t ≡ MapTy ks u) × HasType m g (MapTy ks u) × HaveTypes es g (map key_ty ks) × HasType e g u)
  HasType (Old e) g t = HasType e g t

  pub HaveTypes : Exs → Sig → List Ty → Type 0
  HaveTypes NoMore g ts = ts ≡ []
  HaveTypes (More e es) g [] = ⊥
  HaveTypes (More e es) g (t ∷ ts) = HasType e g t × HaveTypes es g ts

-- what names mean where the frame has these declarations
abbrev pub sig_in : Prog → List Decl → Sig
sig_in p ds =
    record {
      constants = const_types p.constants;
      functions = p.functions;
      globals = types_of p.globals;
      frame = types_of ds;
    }

-- the same in the context of an execution
abbrev pub sig_of : Ctx → Sig
sig_of c = sig_in c.program c.variables

-- the types of variables
abbrev pub types_in : Prog → List Decl → List Var → List Ty
types_in p ds [] = []
types_in p ds (x ∷ xs) = type_in (decl_in p ds x) ∷ types_in p ds xs

-- the same in the context of an execution
abbrev pub types_at : Ctx → List Var → List Ty
types_at c = types_in c.program c.variables

-- a call's arguments and results have the types of the procedure's
abbrev pub CallHasType : Prog → List Decl → Option Proc → Exs → List Var → Type 0
CallHasType p ds None args takes = Unit {0}
CallHasType p ds (Some q) args takes =
    HaveTypes args (sig_in p ds) (types_of q.params) × (types_in p ds takes ≡ types_of q.results)

-- the statements that change variables are typed, where the frame has these declarations
abbrev pub IsTypedIn : Prog → List Decl → St → Type 0
IsTypedIn p ds (Then a b) = IsTypedIn p ds a × IsTypedIn p ds b
IsTypedIn p ds (Havoc xs) = AreVarsIn p ds xs
IsTypedIn p ds (Assign xs es) = AreVarsIn p ds xs × HaveTypes es (sig_in p ds) (types_in p ds xs)
IsTypedIn p ds (Invoke k) =
    AreVarsIn p ds k.takes × CallHasType p ds (procedure_of p k.procedure) k.args k.takes
IsTypedIn p ds (If n g a b) = IsTypedIn p ds a × IsTypedIn p ds b
IsTypedIn p ds (While n g is a) = IsTypedIn p ds a
IsTypedIn p ds _ = Unit {0}

-- the same in the context of an execution, of which the program and the declarations alone count
abbrev pub IsTypedSt : Ctx → St → Type 0
IsTypedSt c = IsTypedIn c.program c.variables

-- each body of a function has the type of its result
abbrev pub AreTypedBodies : Prog → Type 0
AreTypedBodies p =
    (f : ℕ) (fn : Fun) (e : Ex) → slice_get p.functions f ≡ Some fn → fn.body ≡ Some e →
    HasType e (record { constants = const_types p.constants; functions = p.functions; globals = []; frame = fn.params }) fn.result
