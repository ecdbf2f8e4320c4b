-- What names mean in declarations and in whole programs, one rule for each form.
use Rattle.std.specs.Prelude.{◌≡◌, ℕ, ◌+◌, Bool, true, false, List, [], ◌∷◌, ◌++◌, map, flat_map, length, Option, Some, None, Contains}
use Rattle.bg_base.specs.declared.pos.Pos.{Pos}
use Rattle.bg_text.specs.Trees as t
use Rattle.bg_ast.specs.Resolved as r
use Rattle.bg_ast.specs.Meaning.{meaning_of}
use Rattle.bg_names.specs.Spaces.{Scope, place, or_zero}
use Rattle.bg_bodies.specs.Bodies.{sts_labels}
use Rattle.bg_spaces.specs.Declarations.{Spaces, result_groups, param_ids, result_ids, are_candidates, type_ids, value_ids, function_ids, procedure_ids, is_global, value_of, modifies_of, specs_count, spaces_of, text_of}
use Rattle.bg_resolve.specs.Program.{is_bool, arg_ids, has_arg_name, has_body, result_type, function_scope, axiom_scope, requires_scope, ensures_scope, frame_ids, inside, decl_count}
use Rattle.bg_resolve.specs.Parts.{no_program, joined}
use Rattle.bg_sense.specs.Recursion.{HasNoRecursion}
use Rattle.bg_meant.specs.Means.{Means}
use Rattle.bg_meant.specs.Once.{Match, Joined, Both, AreOnce}
use Rattle.bg_meant.specs.Statements.{MeansClause, MeanSts}

abbrev mutual
  -- where these types are declared the written type is this one
  pub MeansTy : List (List ℕ) → t.Ty → r.Ty → Type 0
  MeansTy types (t.IntType p) e = e ≡ r.IntType p
  MeansTy types (t.BoolType p) e = e ≡ r.BoolType p
  MeansTy types (t.NamedType p x) e = (k : ℕ) × (place types x ≡ Some k) × (e ≡ r.DeclaredType p k)
  MeansTy types (t.InParens p a) e = (x : r.Ty) × MeansTy types a x × (e ≡ r.InParens p x)
  MeansTy types (t.MapType is a) e =
      (js : r.Indices) × ((x : r.Ty) × MeanIndices types is js × MeansTy types a x × (e ≡ r.MapType js x))

  pub MeanTys : List (List ℕ) → t.Tys → r.Tys → Type 0
  MeanTys types t.NoType es = es ≡ r.NoType
  MeanTys types (t.OneType a as_) es =
      (x : r.Ty) × ((xs : r.Tys) × MeansTy types a x × MeanTys types as_ xs × (es ≡ r.OneType x xs))

  pub MeanIndices : List (List ℕ) → t.Indices → r.Indices → Type 0
  MeanIndices types t.NoIndex js = js ≡ r.NoIndex
  MeanIndices types (t.Index p as_ is) js =
      (xs : r.Tys) × ((ks : r.Indices) × MeanTys types as_ xs × MeanIndices types is ks × (js ≡ r.Index p xs ks))

-- names with one type
abbrev pub declared : r.Ty → t.Id → r.Declared
declared e x = record { name = x; ty = e }

abbrev pub MeansGroup : Spaces → t.Group → List r.Declared → Type 0
MeansGroup g x ds = (e : r.Ty) × MeansTy g.types x.ty e × (ds ≡ map (declared e) x.names)

abbrev pub MeanGroups : Spaces → List t.Group → List r.Declared → Type 0
MeanGroups g = Joined (MeansGroup g)

abbrev pub MeansVars : Spaces → t.Vars → List r.Declared → Type 0
MeansVars g v = MeanGroups g v.groups

-- a type, with what it stands for where it is a synonym
abbrev pub MeansNew : Spaces → t.NewType → r.TypeName → Type 0
MeansNew g d k = (k.name ≡ d.name) × Both (MeansTy g.types) d.synonym k.synonym

abbrev pub constant : t.Consts → r.Ty → t.Id → r.Const
constant c e x = record { name = x; is_unique = c.is_unique; ty = e }

-- constants; candidates aren't unique, and their written type is the word `bool`
abbrev pub MeansConstants : (candidates : Bool) → t.Consts → r.Ty → r.Program → Type 0
MeansConstants false c e p = p ≡ record no_program { constants = map (constant c e) c.group.names }
MeansConstants true c e p =
    ((x : t.Id) → Contains c.group.names x → (c.is_unique ≡ false) × (is_bool c.group.ty ≡ true))
    × (p ≡ record no_program { candidates = c.group.names })

-- an argument; where the function has a body it has a name
abbrev pub MeansArg : Spaces → (has_body : Bool) → t.FunArg → r.Ty → Type 0
MeansArg g has_body a e = (has_body ≡ true → has_arg_name a ≡ true) × MeansTy g.types a.ty e

pub record MeansFunction (g : Spaces) (f : t.Fun) (k : r.Fun) : Type 0 where
  pub name : k.name ≡ f.name
  pub once : AreOnce (map text_of (flat_map arg_ids f.args))
  pub params : Match (MeansArg g (has_body f.body)) f.args k.params
  pub result : MeansTy g.types (result_type f.result) k.result
  pub body : Both (Means (function_scope g f)) f.body k.body

-- preconditions and postconditions, with numbers from n on in the order of the text; all that is modified is a global
abbrev pub MeanSpecs : Spaces → (before after : Scope) → ℕ → List t.Spec → List r.Clause → List r.Clause → Type 0
MeanSpecs g before after n [] rs es = (rs ≡ []) × (es ≡ [])
MeanSpecs g before after n (t.Requires k ∷ specs) rs es =
    (c : r.Clause) × ((cs : List r.Clause) × MeansClause before n k c × MeanSpecs g before after (n + 1) specs cs es × (rs ≡ c ∷ cs))
MeanSpecs g before after n (t.Ensures k ∷ specs) rs es =
    (c : r.Clause) × ((cs : List r.Clause) × MeansClause after n k c × MeanSpecs g before after (n + 1) specs rs cs × (es ≡ c ∷ cs))
MeanSpecs g before after n (t.Modifies p xs ∷ specs) rs es =
    ((x : t.Id) → Contains xs x → is_global (value_of g.values g.meanings x.text) ≡ true) × MeanSpecs g before after n specs rs es

pub record MeansProcedure (g : Spaces) (n : ℕ) (q : t.Proc) (k : r.Proc) : Type 0 where
  pub pos : k.pos ≡ q.pos
  pub name : k.name ≡ q.name
  pub params : MeanGroups g q.sig.params k.params
  pub results : MeanGroups g (result_groups q.sig.results) k.results
  pub modifies : k.modifies ≡ modifies_of g.values g.meanings (length g.globals) q.specs
  pub specs : MeanSpecs g (requires_scope g q.sig) (ensures_scope g q.sig) n q.specs k.requires_ k.ensures_

-- a body of the procedure with this name: parameters, results and locals are one scope, and labels are declared once
pub record MeansCode (g : Spaces) (n : ℕ) (p : Pos) (q : t.Id) (s : t.Sig) (b : t.Body) (m : r.Impl) : Type 0 where
  pub pos : m.pos ≡ p
  pub name : m.name ≡ q
  pub params : MeanGroups g s.params m.params
  pub results : MeanGroups g (result_groups s.results) m.results
  pub once : AreOnce (map text_of (frame_ids s b))
  pub locals : Joined (MeansVars g) b.locals m.locals
  pub labels : AreOnce (map text_of (sts_labels b.stmts))
  pub body : MeanSts (inside g q s b) [] None [] [] n b.stmts m.body

-- a procedure's own body, where it has one
abbrev pub MeansOwnBody : Spaces → ℕ → t.Proc → Option t.Body → List r.Impl → Type 0
MeansOwnBody g n q None ms = AreOnce (map text_of (param_ids q.sig ++ result_ids q.sig)) × (ms ≡ [])
MeansOwnBody g n q (Some b) ms =
    (m : r.Impl) × MeansCode g n q.pos q.name q.sig b m × (m.procedure ≡ or_zero (place g.procedures q.name.text)) × (ms ≡ m ∷ [])

-- what a declaration gives; its own numbers begin with n
abbrev pub MeansDecl : Spaces → ℕ → t.Decl → r.Program → Type 0
MeansDecl g n (t.Types pos attrs ds) p = (ks : List r.TypeName) × Match (MeansNew g) ds ks × (p ≡ record no_program { types = ks })
MeansDecl g n (t.Constants c) p = (e : r.Ty) × MeansTy g.types c.group.ty e × MeansConstants (are_candidates c) c e p
MeansDecl g n (t.Function f) p = (k : r.Fun) × MeansFunction g f k × (p ≡ record no_program { functions = k ∷ [] })
MeansDecl g n (t.Axiom pos attrs a) p = (x : r.Ex) × Means (axiom_scope g) a x × (p ≡ record no_program { axioms = x ∷ [] })
MeansDecl g n (t.Globals v) p = (ds : List r.Declared) × MeansVars g v ds × (p ≡ record no_program { globals = ds })
MeansDecl g n (t.Procedure q) p =
    (k : r.Proc)
    × ((ms : List r.Impl)
    × MeansProcedure g n q k
    × MeansOwnBody g (n + specs_count q.specs) q q.body ms
    × (p ≡ record no_program { procedures = k ∷ []; implementations = ms }))
MeansDecl g n (t.Implementation m) p =
    (i : r.Impl)
    × (place g.procedures m.name.text ≡ Some i.procedure)
    × MeansCode g n m.pos m.name m.sig m.body i
    × (p ≡ record no_program { implementations = i ∷ [] })

abbrev pub MeanDecls : Spaces → ℕ → List t.Decl → r.Program → Type 0
MeanDecls g n [] p = p ≡ no_program
MeanDecls g n (d ∷ ds) p =
    (q : r.Program) × ((rest : r.Program) × MeansDecl g n d q × MeanDecls g (n + decl_count d) ds rest × (p ≡ joined q rest))

-- the declarations mean this program: in each space a name is declared once, each declaration means what it gives, and no function's
-- body reaches the function
pub record MeansProgram (ds : List t.Decl) (p : r.Program) : Type 0 where
  pub types : AreOnce (map text_of (type_ids ds))
  pub values : AreOnce (map text_of (value_ids ds))
  pub functions : AreOnce (map text_of (function_ids ds))
  pub procedures : AreOnce (map text_of (procedure_ids ds))
  pub decls : MeanDecls (spaces_of ds) 0 ds p
  pub no_recursion : HasNoRecursion (meaning_of p)
