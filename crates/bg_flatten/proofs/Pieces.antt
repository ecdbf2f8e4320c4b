-- A block is made flat command by command, and then edge by edge.
use Rattle.std.proofs.Common.{◌≡◌, List, sym, ap, ◌∙◌}
use Rattle.bg_ast.specs.Values.{Ty}
use Rattle.bg_ast.specs.Syntax.{Fun}
use Rattle.bg_passive.specs.Passive.{PassiveCmd, Edge, PassiveBlock}
use Rattle.bg_terms.specs.Terms.{Term}
use Rattle.bg_flatten.specs.Numbered.{list_behind, list_numbered, cmd_behind, cmd_numbered, cmds_behind, cmds_numbered, edge_behind, edge_numbered, block_behind, block_numbered}
use Rattle.bg_flatten.specs.Made.{IsMade, AreMade}

pub block_made : (fs : List Fun) (incs : List Ty) (old mid new : List Term) (ks : List PassiveCmd) (es : List Edge) (b : PassiveBlock) (ls : List PassiveCmd) (gs : List Edge) → ks ≡ b.cmds → es ≡ b.next → AreMade (cmd_behind fs incs) (cmd_numbered fs incs) ks old ls mid → AreMade (edge_behind fs incs) (edge_numbered fs incs) es mid gs new → IsMade (block_behind fs incs) (block_numbered fs incs) b old (record { cmds = ls; next = gs }) new
block_made fs incs old mid new ks es b ls gs cmds next h k =
    let at : mid ≡ cmds_behind fs incs b.cmds old = h.1 ∙ ap (λ q. cmds_behind fs incs q old) cmds in (
      ap (λ q. record { cmds = q; next = gs }) (h.0 ∙ ap (λ q. cmds_numbered fs incs q old) cmds)
          ∙ ap (λ q. record { cmds = cmds_numbered fs incs b.cmds old; next = q }) (k.0 ∙ ap (λ q. list_numbered (edge_behind fs incs) (edge_numbered fs incs) q mid) next ∙ ap (list_numbered (edge_behind fs incs) (edge_numbered fs incs) b.next) at),
      k.1 ∙ ap (λ q. list_behind (edge_behind fs incs) q mid) next ∙ ap (list_behind (edge_behind fs incs) b.next) at,
    )
