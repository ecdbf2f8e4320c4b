-- Typed programs: one rule for each form, without order or first fault.
use Rattle.std.specs.Prelude.{◌≡◌, false, ◌⊎◌, ◌<◌, ◌≤◌, ℕ, List, [], ◌∷◌, ◌++◌, length, Some, slice_get, All, Contains}
use Rattle.bg_ast.specs.Values.{BoolTy}
use Rattle.bg_ast.specs.Syntax.{Var, Global, Local, Op, Plus, Minus, Times, Ex, Exs, Number, Not, Negative, Binary, Apply, Select, Update, Old, NoMore, More, Guard, Star, Test, Call, St, Then, Label, Assert, Assume, Havoc, Assign, Invoke, If, While, Break, Goto, Decl, Fun, Proc, Impl, Prog}
use Rattle.bg_sense.specs.Variables.{modified}
use Rattle.bg_sense.specs.Types.{types_of}
use Rattle.bg_sense.specs.Typing.{Sig, sig_in, types_in, HasType, HaveTypes, AreTypedBodies}

-- a number, or made of numbers by `-`, `+` and `*`
abbrev pub IsConstant : Ex → Type 0
IsConstant (Number z) = Unit {0}
IsConstant (Negative e) = IsConstant e
IsConstant (Binary Plus a b) = IsConstant a × IsConstant b
IsConstant (Binary Minus a b) = IsConstant a × IsConstant b
IsConstant (Binary Times a b) = IsConstant a × IsConstant b
IsConstant _ = ⊥

-- a product has a constant side
abbrev pub HasConstantSide : Op → Ex → Ex → Type 0
HasConstantSide Times a b = IsConstant a ⊎ IsConstant b
HasConstantSide _ a b = Unit {0}

abbrev mutual
  -- each product has a constant side
  pub IsLinear : Ex → Type 0
  IsLinear (Not e) = IsLinear e
  IsLinear (Negative e) = IsLinear e
  IsLinear (Binary op a b) = HasConstantSide op a b × IsLinear a × IsLinear b
  IsLinear (Apply f es) = AreLinear es
  IsLinear (Select m es) = IsLinear m × AreLinear es
  IsLinear (Update m es e) = IsLinear m × AreLinear es × IsLinear e
  IsLinear (Old e) = IsLinear e
  IsLinear _ = Unit {0}

  pub AreLinear : Exs → Type 0
  AreLinear NoMore = Unit {0}
  AreLinear (More e es) = IsLinear e × AreLinear es

abbrev mutual
  -- no `old` is in an expression
  pub HasNoOld : Ex → Type 0
  HasNoOld (Not e) = HasNoOld e
  HasNoOld (Negative e) = HasNoOld e
  HasNoOld (Binary op a b) = HasNoOld a × HasNoOld b
  HasNoOld (Apply f es) = HaveNoOld es
  HasNoOld (Select m es) = HasNoOld m × HaveNoOld es
  HasNoOld (Update m es e) = HasNoOld m × HaveNoOld es × HasNoOld e
  HasNoOld (Old e) = ⊥
  HasNoOld _ = Unit {0}

  pub HaveNoOld : Exs → Type 0
  HaveNoOld NoMore = Unit {0}
  HaveNoOld (More e es) = HasNoOld e × HaveNoOld es

-- an expression that may stand for a truth
abbrev pub IsFormula : Sig → Ex → Type 0
IsFormula g e = HasType e g BoolTy × IsLinear e

-- a guard is a free choice or a truth
abbrev pub IsGuard : Sig → Guard → Type 0
IsGuard g Star = Unit {0}
IsGuard g (Test e) = IsFormula g e

-- what a body's statements are typed in: the frame, of which the first are parameters, and what its procedure modifies
pub record Around : Type 0 where
  pub program : Prog
  pub procedure : Proc
  pub variables : List Decl

-- a body may change this variable: a global that its procedure modifies, or one of the frame that is no parameter
abbrev pub MayChange : Around → Var → Type 0
MayChange r (Global x) = Contains (modified r.program r.procedure) (Global x)
MayChange r (Local x) = (length r.procedure.params ≤ x) × (x < length r.variables)

-- no variable stands twice
abbrev pub AreApart : List Var → Type 0
AreApart [] = Unit {0}
AreApart (x ∷ xs) = (Contains xs x → ⊥) × AreApart xs

-- what names mean in a body
abbrev pub sig_around : Around → Sig
sig_around r = sig_in r.program r.variables

-- a call: its procedure is there, arguments and results have its types, and what it changes may be changed
abbrev pub IsTypedCall : Around → Call → Type 0
IsTypedCall r k =
    (q : Proc)
    × ((slice_get r.program.procedures k.procedure ≡ Some q)
    × (HaveTypes k.args (sig_around r) (types_of q.params)
    × (AreLinear k.args
    × ((types_in r.program r.variables k.takes ≡ types_of q.results)
    × (AreApart k.takes × (All (MayChange r) k.takes × All (MayChange r) (modified r.program q)))))))

-- the labels of a statement list, not those of lists inside
abbrev pub labels_of : St → List ℕ
labels_of (Then a b) = labels_of a ++ labels_of b
labels_of (Label l) = l ∷ []
labels_of _ = []

-- a statement, inside these loops and conditionals, before these labels
abbrev pub IsTypedStatement : Around → (inside before : List ℕ) → St → Type 0
IsTypedStatement r inside before (Then a b) =
    IsTypedStatement r inside (labels_of b ++ before) a × IsTypedStatement r inside before b
IsTypedStatement r inside before (Assert k) = (k.is_free ≡ false) × IsFormula (sig_around r) k.says
IsTypedStatement r inside before (Assume e) = IsFormula (sig_around r) e
IsTypedStatement r inside before (Havoc xs) = All (MayChange r) xs
IsTypedStatement r inside before (Assign xs es) =
    AreApart xs
    × All (MayChange r) xs
    × HaveTypes es (sig_around r) (types_in r.program r.variables xs)
    × AreLinear es
IsTypedStatement r inside before (Invoke k) = IsTypedCall r k
IsTypedStatement r inside before (If n g a b) =
    IsGuard (sig_around r) g
    × IsTypedStatement r (n ∷ inside) before a
    × IsTypedStatement r (n ∷ inside) before b
IsTypedStatement r inside before (While n g invariants a) =
    IsGuard (sig_around r) g
    × All (λ k. IsFormula (sig_around r) k.says) invariants
    × IsTypedStatement r (n ∷ inside) before a
IsTypedStatement r inside before (Break n) = Contains inside n
IsTypedStatement r inside before (Goto ls) = All (Contains before) ls
IsTypedStatement r inside before _ = Unit {0}

-- what declarations say, in this signature
abbrev pub AreTypedDecls : Sig → List Decl → Type 0
AreTypedDecls g ds = All (λ d. All (IsFormula g) d.wheres) ds

-- a specification: preconditions see parameters, postconditions see results too
pub record IsTypedProc (p : Prog) (q : Proc) : Type 0 where
  pub params : AreTypedDecls (sig_in p q.params) q.params
  pub results : AreTypedDecls (sig_in p (q.params ++ q.results)) q.results
  pub requires_ : All (λ k. IsFormula (sig_in p q.params) k.says × HasNoOld k.says) q.requires_
  pub ensures_ : All (λ k. IsFormula (sig_in p (q.params ++ q.results)) k.says) q.ensures_

-- the frame of an implementation
abbrev pub around : Prog → Proc → Impl → Around
around p q m = record { program = p; procedure = q; variables = q.params ++ (q.results ++ m.locals) }

-- an implementation of a procedure
pub record IsTypedImpl (p : Prog) (m : Impl) : Type 0 where
  pub procedure : Proc
  pub is_there : slice_get p.procedures m.procedure ≡ Some procedure
  pub locals : AreTypedDecls (sig_around (around p procedure m)) m.locals
  pub body : IsTypedStatement (around p procedure m) [] [] m.body

-- a program
pub record IsTyped (p : Prog) : Type 0 where
  pub globals : AreTypedDecls (sig_in p []) p.globals
  pub axioms : All (λ e. IsFormula (sig_in (record p { globals = [] }) []) e × HasNoOld e) p.axioms
  pub bodies : AreTypedBodies p
  pub plain_bodies : (f : ℕ) (fn : Fun) (e : Ex) → slice_get p.functions f ≡ Some fn → fn.body ≡ Some e → IsLinear e × HasNoOld e
  pub procedures : All (IsTypedProc p) p.procedures
  pub implementations : All (IsTypedImpl p) p.implementations
