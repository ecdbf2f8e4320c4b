-- From what was made to flat blocks.
use Rattle.std.proofs.Common.{List, [], ◌∷◌, length, refl}
use Rattle.bg_ast.specs.Values.{Ty, BoolTy}
use Rattle.bg_ast.specs.Syntax.{Ex, Fun}
use Rattle.bg_passive.specs.Passive.{PassiveCmd, Claims, Supposes, Edge, PassiveBlock}
use Rattle.bg_terms.specs.Terms.{Term}
use Rattle.bg_terms.specs.Flat.{IsFlat}
use Rattle.bg_terms.specs.Alike.{HasFlatType}
use Rattle.bg_terms.specs.Typed.{types_with}
use Rattle.bg_terms.proofs.Typed.{flat_typed}
use Rattle.bg_flat.specs.Blocks.{FlatCmds, FlatEdges, FlatBlocks}
use Rattle.bg_numbered.specs.Fair.{FairTerms}
use Rattle.bg_flatten.specs.Makes.{IsFine, FineCmds, FineEdges, FineBlocks, CmdsFlat, EdgesFlat, BlocksFlat}

module _ (fs : List Fun) (incs : List Ty) (ts : List Term) (terms : FairTerms fs incs ts) where
  truth : (e x : Ex) → IsFine fs incs e → IsFlat (length incs) ts e x → HasFlatType (types_with incs ts) x BoolTy
  truth e x f h = flat_typed fs incs (length incs) ts refl terms.typed f.constants e x BoolTy f.typed h

  cmds : (ks ls : List PassiveCmd) → FineCmds fs incs ks → CmdsFlat (length incs) ts ks ls → FlatCmds (types_with incs ts) (length incs) ts ks ls
  cmds [] [] f h = tt
  cmds [] (l ∷ ls) f h = absurd h
  cmds (Claims s b e ∷ ks) [] f h = absurd h
  cmds (Supposes b e ∷ ks) [] f h = absurd h
  cmds (Claims s b e ∷ ks) (Claims t d x ∷ ls) f h =
      ((h.0.0, (h.0.1.0, (h.0.1.1, truth e x f.0 h.0.1.1))), cmds ks ls f.1 h.1)
  cmds (Supposes b e ∷ ks) (Supposes d x ∷ ls) f h =
      ((h.0.0, (h.0.1, truth e x f.0 h.0.1)), cmds ks ls f.1 h.1)
  cmds (Claims s b e ∷ ks) (Supposes d x ∷ ls) f h = absurd h.0
  cmds (Supposes b e ∷ ks) (Claims t d x ∷ ls) f h = absurd h.0

  edges : (es gs : List Edge) → FineEdges fs incs es → EdgesFlat (length incs) ts es gs → FlatEdges (types_with incs ts) (length incs) ts es gs
  edges [] [] f h = tt
  edges [] (g ∷ gs) f h = absurd h
  edges (e ∷ es) [] f h = absurd h
  edges (e ∷ es) (g ∷ gs) f h = ((h.0.0, cmds e.cmds g.cmds f.0 h.0.1), edges es gs f.1 h.1)

  pub all_blocks : (bs gs : List PassiveBlock) → FineBlocks fs incs bs → BlocksFlat (length incs) ts bs gs → FlatBlocks (types_with incs ts) (length incs) ts bs gs
  all_blocks [] [] f h = tt
  all_blocks [] (g ∷ gs) f h = absurd h
  all_blocks (b ∷ bs) [] f h = absurd h
  all_blocks (b ∷ bs) (g ∷ gs) f h =
      ((cmds b.cmds g.cmds f.0.0 h.0.0, edges b.next g.next f.0.1 h.0.1), all_blocks bs gs f.1 h.1)

pub no_terms : (fs : List Fun) (incs : List Ty) → FairTerms fs incs []
no_terms fs incs =
    record { order = refl; linear = λ a t e. absurd (let bad : ⊥ = cc in bad); typed = λ a t e. absurd (let bad : ⊥ = cc in bad) }
