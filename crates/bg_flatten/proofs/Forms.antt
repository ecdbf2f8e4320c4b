-- Commands, edges and blocks made flat.
use Rattle.std.proofs.Common.{ℕ, List}
use Rattle.bg_ast.specs.Values.{Ty, BoolTy}
use Rattle.bg_ast.specs.Syntax.{Ex, Fun}
use Rattle.bg_passive.specs.Passive.{PassiveCmd, Claims, Supposes, Edge, PassiveBlock}
use Rattle.bg_terms.specs.Terms.{Term}
use Rattle.bg_numbered.specs.Fair.{Fair, Grows}
use Rattle.bg_numbered.proofs.Growing.{lifted}
use Rattle.bg_flatten.specs.Makes.{IsFine, FlatCmd, FlatEdge, FlatBlock}
use Rattle.bg_flatten.proofs.Lists.{all_keep}

pub fair_of : (fs : List Fun) (incs : List Ty) (e : Ex) → IsFine fs incs e → Fair fs incs e
fair_of fs incs e h = record { constants = h.constants; ty = BoolTy; typed = h.typed; linear = h.linear; handled = h.handled }

module _ (n : ℕ) where
  pub cmd_keeps : (old new : List Term) (k l : PassiveCmd) → Grows old new → FlatCmd n old k l → FlatCmd n new k l
  cmd_keeps old new (Claims s b e) (Claims t d x) g h =
      (h.0, (h.1.0, lifted n old new e x g h.1.1))
  cmd_keeps old new (Supposes b e) (Supposes d x) g h = (h.0, lifted n old new e x g h.1)
  cmd_keeps old new (Claims s b e) (Supposes d x) g h = absurd h
  cmd_keeps old new (Supposes b e) (Claims t d x) g h = absurd h

  pub edge_keeps : (old new : List Term) (e f : Edge) → Grows old new → FlatEdge n old e f → FlatEdge n new e f
  edge_keeps old new e f g h =
      (h.0, all_keep PassiveCmd (FlatCmd n) (λ incs k. Unit {0}) cmd_keeps old new e.cmds f.cmds g h.1)

  pub block_keeps : (old new : List Term) (b f : PassiveBlock) → Grows old new → FlatBlock n old b f → FlatBlock n new b f
  block_keeps old new b f g h = (
    all_keep PassiveCmd (FlatCmd n) (λ incs k. Unit {0}) cmd_keeps old new b.cmds f.cmds g h.0,
    all_keep Edge (FlatEdge n) (λ incs k. Unit {0}) edge_keeps old new b.next f.next g h.1,
  )
