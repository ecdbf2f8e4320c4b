-- Typed commands in front of typed blocks.
use Rattle.std.proofs.Common.{Bool, true, false, List, [], ◌∷◌, ◌++◌}
use Rattle.bg_ast.specs.Syntax.{Decl, Prog}
use Rattle.bg_flow.specs.Core.{Cmd}
use Rattle.bg_flow.specs.Blocks.{Block, led}
use Rattle.bg_block_types.specs.TypedFlow.{CmdsAreTyped, CodeIsTyped}

cmds_append : (p : Prog) (ds : List Decl) (ks ls : List Cmd) → CmdsAreTyped p ds ks → CmdsAreTyped p ds ls → CmdsAreTyped p ds (ks ++ ls)
cmds_append p ds [] ls h k = k
cmds_append p ds (x ∷ ks) ls h k = (h.0, cmds_append p ds ks ls h.1 k)

pub led_typed : (p : Prog) (ds : List Decl) (o : Bool) (ks : List Cmd) (bs : List Block) → CmdsAreTyped p ds ks → CodeIsTyped p ds bs → CodeIsTyped p ds (led o ks bs)
led_typed p ds false ks bs h k = ((h, tt), k)
led_typed p ds true ks [] h k = ((h, tt), tt)
led_typed p ds true ks (b ∷ bs) h k = ((cmds_append p ds ks b.cmds h k.0.0, k.0.1), k.1)
