-- Flat blocks over more terms.
use Rattle.std.proofs.Common.{◌≡◌, ℕ, List, [], ◌∷◌}
use Rattle.bg_ast.specs.Values.{Ty}
use Rattle.bg_ast.specs.Syntax.{Ex}
use Rattle.bg_passive.specs.Passive.{PassiveCmd, Claims, Supposes, Edge, PassiveBlock}
use Rattle.bg_terms.specs.Terms.{Term}
use Rattle.bg_flat.specs.Blocks.{IsFlatTruth, FlatCmds, FlatEdges, FlatBlocks}

module _ (tys more : List Ty) (n : ℕ) (ts us : List Term) (stay : (e x : Ex) → IsFlatTruth tys n ts e x → IsFlatTruth more n us e x) where
  cmds_stay : (ks ls : List PassiveCmd) → FlatCmds tys n ts ks ls → FlatCmds more n us ks ls
  cmds_stay [] [] h = tt
  cmds_stay [] (l ∷ ls) h = absurd h
  cmds_stay (Claims s b e ∷ ks) [] h = absurd h
  cmds_stay (Supposes b e ∷ ks) [] h = absurd h
  cmds_stay (Claims s b e ∷ ks) (Claims t d x ∷ ls) h =
      ((h.0.0, (h.0.1.0, stay e x h.0.1.1)), cmds_stay ks ls h.1)
  cmds_stay (Claims s b e ∷ ks) (Supposes d x ∷ ls) h = absurd h
  cmds_stay (Supposes b e ∷ ks) (Claims t d x ∷ ls) h = absurd h
  cmds_stay (Supposes b e ∷ ks) (Supposes d x ∷ ls) h = ((h.0.0, stay e x h.0.1), cmds_stay ks ls h.1)

  edges_stay : (es fs : List Edge) → FlatEdges tys n ts es fs → FlatEdges more n us es fs
  edges_stay [] [] h = tt
  edges_stay [] (f ∷ fs) h = absurd h
  edges_stay (e ∷ es) [] h = absurd h
  edges_stay (e ∷ es) (f ∷ fs) h = ((h.0.0, cmds_stay e.cmds f.cmds h.0.1), edges_stay es fs h.1)

  pub blocks_stay : (bs fs : List PassiveBlock) → FlatBlocks tys n ts bs fs → FlatBlocks more n us bs fs
  blocks_stay [] [] h = tt
  blocks_stay [] (f ∷ fs) h = absurd h
  blocks_stay (b ∷ bs) [] h = absurd h
  blocks_stay (b ∷ bs) (f ∷ fs) h =
      ((cmds_stay b.cmds f.cmds h.0.0, edges_stay b.next f.next h.0.1), blocks_stay bs fs h.1)
