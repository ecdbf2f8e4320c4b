-- What is typed is linear.
use Rattle.std.proofs.Common.{◌≡◌, ℕ, true, List, [], ◌∷◌, Option, Some, None, refl}
use Rattle.bg_ast.specs.Syntax.{Prog}
use Rattle.bg_sense.specs.Typing.{Sig}
use Rattle.bg_passive.specs.Passive.{PassiveCmd, Claims, Supposes, Edge, PassiveBlock}
use Rattle.bg_block_types.specs.Typed.{TypedCmds, TypedEdges, TypedBlocks}
use Rattle.bg_formed.specs.Formed.{fits_candidate}
use Rattle.bg_faithful.proofs.ValueTypes.{IsDeclared}
use Rattle.bg_faithful.proofs.Passes.{FitOnes, FitEdges, FitPassives}
use Rattle.bg_flat_clauses.specs.Linear.{LinearCmds, LinearEdges, LinearBlocks}

-- what is typed names candidates that are there, too

declared_fits : (m : ℕ) (b : Option ℕ) → IsDeclared m b → fits_candidate m b ≡ true
declared_fits m None h = refl
declared_fits m (Some k) h = h

module _ (g : Sig) (p : Prog) where
  cmds_linear : (ks : List PassiveCmd) → TypedCmds g ks → FitOnes p ks → LinearCmds p.candidates ks
  cmds_linear [] h f = tt
  cmds_linear (Claims s b e ∷ ks) h f = ((declared_fits p.candidates b f.0.0, h.0.0.1), cmds_linear ks h.1 f.1)
  cmds_linear (Supposes b e ∷ ks) h f = ((declared_fits p.candidates b f.0, h.0.0.1), cmds_linear ks h.1 f.1)

  edges_linear : (es : List Edge) → TypedEdges g es → FitEdges p es → LinearEdges p.candidates es
  edges_linear [] h f = tt
  edges_linear (e ∷ es) h f = (cmds_linear e.cmds h.0 f.0, edges_linear es h.1 f.1)

  pub blocks_linear : (bs : List PassiveBlock) → TypedBlocks g bs → FitPassives p bs → LinearBlocks p.candidates bs
  blocks_linear [] h f = tt
  blocks_linear (b ∷ bs) h f = ((cmds_linear b.cmds h.0.0 f.0.0, edges_linear b.next h.0.1 f.0.1), blocks_linear bs h.1 f.1)
