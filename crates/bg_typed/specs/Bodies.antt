-- Names of statements: their numbers are those of declarations, and what they change and where they jump to is allowed.
use Rattle.std.specs.Prelude.{◌≡◌, false, ℕ, suc, List, [], ◌∷◌, ◌++◌, map, Some, slice_get, All, Contains}
use Rattle.bg_base.specs.declared.pos.Pos.{Pos}
use Rattle.bg_ast.specs.Syntax.{Var, Proc}
use Rattle.bg_ast.specs.Resolved as r
use Rattle.bg_ast.specs.Meaning.{sts_of, variable_of}
use Rattle.bg_sense.specs.Variables.{modified}
use Rattle.bg_sense.specs.Types.{types_of}
use Rattle.bg_sense.specs.Typing.{Sig}
use Rattle.bg_sense.specs.Typed.{Around, MayChange, AreApart, sig_around, labels_of}
use Rattle.bg_typing.specs.Sides.{Shape, Scope}
use Rattle.bg_typed.specs.Naming.{IsVariable, IsNamed, AreNamed, Matches}

abbrev pub AreNamedIndices : Sig → List (Pos × r.Exs) → Type 0
AreNamedIndices s [] = Unit {0}
AreNamedIndices s (b ∷ bs) = AreNamed s b.1 × AreNamedIndices s bs

abbrev pub AreNamedTargets : Sig → List r.Target → Type 0
AreNamedTargets s [] = Unit {0}
AreNamedTargets s (t ∷ ts) = IsVariable s t.placed.variable × AreNamedIndices s t.brackets × AreNamedTargets s ts

abbrev pub AreVariables : Sig → List r.Placed → Type 0
AreVariables s [] = Unit {0}
AreVariables s (x ∷ xs) = IsVariable s x.variable × AreVariables s xs

abbrev pub target_variable : r.Target → Var
target_variable t = t.placed.variable

-- a call's names, and that what it changes may be changed
pub record IsNamedCall (w : Around) (k : r.Call) : Type 0 where
  pub procedure : Proc
  pub is_there : slice_get w.program.procedures k.procedure ≡ Some procedure
  pub args : AreNamed (sig_around w) k.args
  pub takes : AreVariables (sig_around w) k.takes
  pub apart : AreApart (map variable_of k.takes)
  pub changed : All (MayChange w) (map variable_of k.takes)
  pub modified_ : All (MayChange w) (modified w.program procedure)

-- an assignment's left sides
pub record AreNamedSides (w : Around) (ts : List r.Target) (es : r.Exs) : Type 0 where
  pub targets : AreNamedTargets (sig_around w) ts
  pub values : AreNamed (sig_around w) es
  pub apart : AreApart (map target_variable ts)
  pub changed : All (MayChange w) (map target_variable ts)

abbrev pub IsNamedGuard : Sig → r.Guard → Type 0
IsNamedGuard s r.Star = Unit {0}
IsNamedGuard s (r.Test e) = IsNamed s e

abbrev pub AreNamedClauses : Sig → List r.Clause → Type 0
AreNamedClauses s [] = Unit {0}
AreNamedClauses s (k ∷ ks) = IsNamed s k.says × AreNamedClauses s ks

abbrev mutual
  -- a statement, inside these loops and arms, before these labels
  pub IsNamedStatement : Around → (inside before : List ℕ) → r.St → Type 0
  IsNamedStatement w inside before (r.Assert k) = (k.is_free ≡ false) × IsNamed (sig_around w) k.says
  IsNamedStatement w inside before (r.Assume e) = IsNamed (sig_around w) e
  IsNamedStatement w inside before (r.Havoc xs) = All (MayChange w) (map variable_of xs)
  IsNamedStatement w inside before (r.Assign p ts es) = AreNamedSides w ts es
  IsNamedStatement w inside before (r.Invoke k) = IsNamedCall w k
  IsNamedStatement w inside before (r.If n arms otherwise) = AreNamedArms w inside before n arms (λ around. AreNamedStatements w around before otherwise)
  IsNamedStatement w inside before (r.While n p guard is body) =
      IsNamedGuard (sig_around w) guard
      × AreNamedClauses (sig_around w) is
      × AreNamedStatements w (n ∷ inside) before body
  IsNamedStatement w inside before (r.Break n) = Contains inside n
  IsNamedStatement w inside before (r.Goto ls) = All (Contains before) ls
  IsNamedStatement w inside before _ = Unit {0}

  pub AreNamedStatements : Around → (inside before : List ℕ) → r.Sts → Type 0
  AreNamedStatements w inside before r.NoSt = Unit {0}
  AreNamedStatements w inside before (r.Then a b) =
      IsNamedStatement w inside (labels_of (sts_of b) ++ before) a × AreNamedStatements w inside before b

  -- a chain of arms from this number on, and what stands behind them, inside all of these
  pub AreNamedArms : Around → (inside before : List ℕ) → ℕ → r.Arms → (List ℕ → Type 0) → Type 0
  AreNamedArms w inside before n r.NoArm otherwise = otherwise inside
  AreNamedArms w inside before n (r.Arm guard body arms) otherwise =
      IsNamedGuard (sig_around w) guard
      × AreNamedStatements w (n ∷ inside) before body
      × AreNamedArms w (n ∷ inside) before (suc n) arms otherwise

-- the types of a procedure
abbrev pub procedure_kinds : Proc → Shape
procedure_kinds q = record { params = map Some (types_of q.params); results = map Some (types_of q.results) }

-- a scope that has the types of what is around a body
pub record MatchesAround (g : Scope) (w : Around) : Type 0 where
  pub names : Matches g (sig_around w)
  pub procedures : g.procedures ≡ map procedure_kinds w.program.procedures
