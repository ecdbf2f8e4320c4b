-- Commands, edges and blocks that are fine, and such ones made flat.
use Rattle.std.specs.Prelude.{◌≡◌, ℕ, List, [], ◌∷◌}
use Rattle.bg_ast.specs.Values.{Ty, BoolTy}
use Rattle.bg_ast.specs.Syntax.{Ex, Fun}
use Rattle.bg_sense.specs.Typing.{HasType}
use Rattle.bg_sense.specs.Typed.{IsLinear}
use Rattle.bg_passive.specs.Passive.{PassiveCmd, Claims, Supposes, Edge, PassiveBlock}
use Rattle.bg_terms.specs.Terms.{Term}
use Rattle.bg_terms.specs.Flat.{IsFlat}
use Rattle.bg_terms.specs.Typed.{sig_with}
use Rattle.bg_numbered.specs.Fair.{IsHandled}

-- a truth over incarnations of these types that is linear and handled, where functions are these
pub record IsFine (fs : List Fun) (incs : List Ty) (e : Ex) : Type 0 where
  pub constants : List Ty
  pub typed : HasType e (sig_with constants fs incs) BoolTy
  pub linear : IsLinear e
  pub handled : IsHandled e

abbrev pub Each : {A : Type 0} → (A → Type 0) → List A → Type 0
Each P [] = Unit {0}
Each P (a ∷ xs) = P a × Each P xs

-- each command says a truth
abbrev pub FineCmd : List Fun → List Ty → PassiveCmd → Type 0
FineCmd fs incs (Claims s b e) = IsFine fs incs e
FineCmd fs incs (Supposes b e) = IsFine fs incs e

abbrev pub FineCmds : List Fun → List Ty → List PassiveCmd → Type 0
FineCmds fs incs ks = Each (FineCmd fs incs) ks

abbrev pub FineEdge : List Fun → List Ty → Edge → Type 0
FineEdge fs incs e = FineCmds fs incs e.cmds

abbrev pub FineEdges : List Fun → List Ty → List Edge → Type 0
FineEdges fs incs es = Each (FineEdge fs incs) es

abbrev pub FineBlock : List Fun → List Ty → PassiveBlock → Type 0
FineBlock fs incs b = FineCmds fs incs b.cmds × FineEdges fs incs b.next

abbrev pub FineBlocks : List Fun → List Ty → List PassiveBlock → Type 0
FineBlocks fs incs bs = Each (FineBlock fs incs) bs

-- one by one
abbrev pub Pairwise : {A : Type 0} → (A → A → Type 0) → List A → List A → Type 0
Pairwise P [] [] = Unit {0}
Pairwise P (a ∷ xs) (b ∷ ys) = P a b × Pairwise P xs ys
Pairwise P _ _ = ⊥

-- the second is the first one made flat
abbrev pub FlatCmd : ℕ → List Term → PassiveCmd → PassiveCmd → Type 0
FlatCmd n ts (Claims s b e) (Claims t d x) = (s ≡ t) × ((b ≡ d) × IsFlat n ts e x)
FlatCmd n ts (Supposes b e) (Supposes d x) = (b ≡ d) × IsFlat n ts e x
FlatCmd n ts _ _ = ⊥

abbrev pub CmdsFlat : ℕ → List Term → List PassiveCmd → List PassiveCmd → Type 0
CmdsFlat n ts ks ls = Pairwise (FlatCmd n ts) ks ls

abbrev pub FlatEdge : ℕ → List Term → Edge → Edge → Type 0
FlatEdge n ts e f = (e.to ≡ f.to) × CmdsFlat n ts e.cmds f.cmds

abbrev pub EdgesFlat : ℕ → List Term → List Edge → List Edge → Type 0
EdgesFlat n ts es gs = Pairwise (FlatEdge n ts) es gs

abbrev pub FlatBlock : ℕ → List Term → PassiveBlock → PassiveBlock → Type 0
FlatBlock n ts b f = CmdsFlat n ts b.cmds f.cmds × EdgesFlat n ts b.next f.next

abbrev pub BlocksFlat : ℕ → List Term → List PassiveBlock → List PassiveBlock → Type 0
BlocksFlat n ts bs gs = Pairwise (FlatBlock n ts) bs gs
