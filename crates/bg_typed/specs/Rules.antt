-- The rules of types, one for each form, without order or first fault: that of the meaning (`IsTyped`), and what the meaning
-- doesn't show: cyclic synonyms, index types, right sides that are too many, and an implementation's own parameters and results.
use Rattle.std.specs.Prelude.{◌≡◌, ℕ, suc, List, length, map, Option, Some, None, slice_get, All}
use Rattle.bg_graph.specs.Graphs.{IsAcyclic}
use Rattle.bg_ast.specs.Values as v
use Rattle.bg_ast.specs.Resolved as r
use Rattle.bg_ast.specs.Meaning.{type_in, named_of, meaning_of}
use Rattle.bg_sense.specs.Typed.{IsTyped}
use Rattle.bg_kinds.specs.Synonyms.{synonym_graph}

-- `int`, or a user type
abbrev pub IsIndex : v.Ty → Type 0
IsIndex v.IntTy = Unit {0}
IsIndex (v.UserTy t) = Unit {0}
IsIndex _ = ⊥

abbrev mutual
  -- each index type of a written type is one, synonyms unfolded
  pub HasIndices : (ℕ → v.Ty) → r.Ty → Type 0
  HasIndices named (r.InParens p t) = HasIndices named t
  HasIndices named (r.MapType is t) = HaveIndices named is × HasIndices named t
  HasIndices named _ = Unit {0}

  pub HaveIndices : (ℕ → v.Ty) → r.Indices → Type 0
  HaveIndices named r.NoIndex = Unit {0}
  HaveIndices named (r.Index p ts is) = AreIndices named ts × HaveIndices named is

  pub AreIndices : (ℕ → v.Ty) → r.Tys → Type 0
  AreIndices named r.NoType = Unit {0}
  AreIndices named (r.OneType t ts) = HasIndices named t × IsIndex (type_in named t) × AreIndices named ts

abbrev pub count : r.Exs → ℕ
count r.NoMore = 0
count (r.More e es) = suc (count es)

abbrev mutual
  -- each assignment has as many right sides as left ones
  pub IsEven : r.St → Type 0
  IsEven (r.Assign p ts es) = count es ≡ length ts
  IsEven (r.If n arms otherwise) = AreEvenArms arms × AreEven otherwise
  IsEven (r.While n p g is body) = AreEven body
  IsEven _ = Unit {0}

  pub AreEven : r.Sts → Type 0
  AreEven r.NoSt = Unit {0}
  AreEven (r.Then a b) = IsEven a × AreEven b

  pub AreEvenArms : r.Arms → Type 0
  AreEvenArms r.NoArm = Unit {0}
  AreEvenArms (r.Arm g body arms) = AreEven body × AreEvenArms arms

abbrev pub DeclaredWell : (ℕ → v.Ty) → List r.Declared → Type 0
DeclaredWell named ds = All (λ d. HasIndices named d.ty) ds

abbrev pub SynonymWell : (ℕ → v.Ty) → Option r.Ty → Type 0
SynonymWell named None = Unit {0}
SynonymWell named (Some t) = HasIndices named t

abbrev pub types_of : (ℕ → v.Ty) → List r.Declared → List v.Ty
types_of named ds = map (λ d. type_in named d.ty) ds

-- an implementation: its written types, its right sides, and its parameters and results, which are its procedure's
pub record KeepsImplementation (p : r.Program) (m : r.Impl) : Type 0 where
  pub params : DeclaredWell (named_of p.types) m.params
  pub results : DeclaredWell (named_of p.types) m.results
  pub locals : DeclaredWell (named_of p.types) m.locals
  pub procedure : r.Proc
  pub is_there : slice_get p.procedures m.procedure ≡ Some procedure
  pub same_params : types_of (named_of p.types) m.params ≡ types_of (named_of p.types) procedure.params
  pub same_results : types_of (named_of p.types) m.results ≡ types_of (named_of p.types) procedure.results
  pub even : AreEven m.body

-- a program keeps the rules of types
pub record KeepsTypes (p : r.Program) : Type 0 where
  pub acyclic : IsAcyclic (synonym_graph p.types)
  pub synonyms : All (λ d. SynonymWell (named_of p.types) d.synonym) p.types
  pub constants : All (λ c. HasIndices (named_of p.types) c.ty) p.constants
  pub globals : DeclaredWell (named_of p.types) p.globals
  pub functions : All (λ f. All (HasIndices (named_of p.types)) f.params × HasIndices (named_of p.types) f.result) p.functions
  pub procedures : All (λ q. DeclaredWell (named_of p.types) q.params × DeclaredWell (named_of p.types) q.results) p.procedures
  pub implementations : All (KeepsImplementation p) p.implementations
  pub typed : IsTyped (meaning_of p)
