-- Passive blocks that are typed over their incarnations.
use Rattle.std.specs.Prelude.{ℕ, List, [], ◌∷◌}
use Rattle.bg_ast.specs.Values.{Ty}
use Rattle.bg_ast.specs.Syntax.{Ex, Proc, Impl, Prog}
use Rattle.bg_sense.specs.Types.{const_types}
use Rattle.bg_sense.specs.Typing.{Sig}
use Rattle.bg_sense.specs.Typed.{HasNoOld, IsFormula}
use Rattle.bg_flow.specs.Core.{frame_decls, routine_of}
use Rattle.bg_flow.specs.Blocks.{Block, blocks_of}
use Rattle.bg_passive.specs.Passive.{PassiveCmd, Claims, Supposes, Edge, PassiveBlock}
use Rattle.bg_passive.specs.Incarnations.{incarnations, passives}
use Rattle.bg_passive.specs.Arrivals.{Arrived, arrived}

-- what names mean where incarnations have these types: they stand in the place of the frame, and no global is left
abbrev pub sig_over : Prog → List Ty → Sig
sig_over p incs =
    record { constants = const_types p.constants; functions = p.functions; globals = []; frame = incs }

-- a truth over incarnations, in which no `old` is left
abbrev pub IsTruth : Sig → Ex → Type 0
IsTruth g e = IsFormula g e × HasNoOld e

abbrev pub says : PassiveCmd → Ex
says (Claims s b e) = e
says (Supposes b e) = e

abbrev pub TypedCmds : Sig → List PassiveCmd → Type 0
TypedCmds g [] = Unit {0}
TypedCmds g (k ∷ ks) = IsTruth g (says k) × TypedCmds g ks

abbrev pub TypedEdges : Sig → List Edge → Type 0
TypedEdges g [] = Unit {0}
TypedEdges g (e ∷ es) = TypedCmds g e.cmds × TypedEdges g es

-- each command of the blocks says a truth
abbrev pub TypedBlocks : Sig → List PassiveBlock → Type 0
TypedBlocks g [] = Unit {0}
TypedBlocks g (b ∷ bs) = (TypedCmds g b.cmds × TypedEdges g b.next) × TypedBlocks g bs

-- the blocks of the implementation with this number, which is one of this procedure; how they are arrived at; the types of their
-- incarnations; and the same blocks made passive
abbrev pub blocks_in : Prog → ℕ → Impl → Proc → List Block
blocks_in p k m q = blocks_of (routine_of p k m q)

abbrev pub arrivals_in : Prog → ℕ → Impl → Proc → Arrived
arrivals_in p k m q = arrived p (frame_decls m q) (blocks_in p k m q)

abbrev pub incarnations_in : Prog → ℕ → Impl → Proc → List Ty
incarnations_in p k m q = incarnations p (frame_decls m q) (arrivals_in p k m q).made

abbrev pub passives_in : Prog → ℕ → Impl → Proc → List PassiveBlock
passives_in p k m q = passives (arrivals_in p k m q).arrivals (blocks_in p k m q)
