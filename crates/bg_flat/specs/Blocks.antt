-- Passive blocks over incarnations and terms that say what passive blocks over incarnations say.
use Rattle.std.specs.Prelude.{◌≡◌, ℕ, Bool, true, ◌&&◌, List, [], ◌∷◌, ◌++◌, None}
use Rattle.bg_ast.specs.Values.{Ty, BoolTy, truth_of}
use Rattle.bg_ast.specs.Syntax.{Ex}
use Rattle.bg_sense.specs.Eval.{Scope, ev}
use Rattle.bg_passive.specs.Passive.{PassiveCmd, Claims, Supposes, Edge, PassiveBlock}
use Rattle.bg_terms.specs.Terms.{Term}
use Rattle.bg_terms.specs.Flat.{IsFlat}
use Rattle.bg_terms.specs.Alike.{HasFlatType}

-- the second expression is the first one made flat, and a truth where incarnations and terms have these types
abbrev pub IsFlatTruth : List Ty → ℕ → List Term → Ex → Ex → Type 0
IsFlatTruth tys n ts e x = IsFlat n ts e x × HasFlatType tys x BoolTy

module _ (tys : List Ty) (n : ℕ) (ts : List Term) where
  abbrev pub FlatCmds : List PassiveCmd → List PassiveCmd → Type 0
  FlatCmds [] [] = Unit {0}
  FlatCmds (Claims s b e ∷ ks) (Claims t d x ∷ ls) =
      ((s ≡ t) × ((b ≡ d) × IsFlatTruth tys n ts e x)) × FlatCmds ks ls
  FlatCmds (Supposes b e ∷ ks) (Supposes d x ∷ ls) = ((b ≡ d) × IsFlatTruth tys n ts e x) × FlatCmds ks ls
  FlatCmds _ _ = ⊥

  abbrev pub FlatEdges : List Edge → List Edge → Type 0
  FlatEdges [] [] = Unit {0}
  FlatEdges (e ∷ es) (f ∷ fs) = ((e.to ≡ f.to) × FlatCmds e.cmds f.cmds) × FlatEdges es fs
  FlatEdges _ _ = ⊥

  abbrev pub FlatBlocks : List PassiveBlock → List PassiveBlock → Type 0
  FlatBlocks [] [] = Unit {0}
  FlatBlocks (b ∷ bs) (f ∷ fs) = (FlatCmds b.cmds f.cmds × FlatEdges b.next f.next) × FlatBlocks bs fs
  FlatBlocks _ _ = ⊥

-- what is supposed in front of the first block
abbrev pub supposed : List Ex → List PassiveCmd
supposed [] = []
supposed (x ∷ xs) = Supposes None x ∷ supposed xs

abbrev pub in_front : List Ex → List PassiveBlock → List PassiveBlock
in_front xs [] = []
in_front xs (b ∷ bs) = record { cmds = supposed xs ++ b.cmds; next = b.next } ∷ bs

-- whether all of these are true
abbrev pub all_true : Scope → List Ex → Bool
all_true c [] = true
all_true c (x ∷ xs) = truth_of (ev x c) && all_true c xs
