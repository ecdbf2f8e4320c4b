use Rattle.std.proofs.Common.{[], subst}
use Rattle.bg_sense.specs.Types.{const_types}
use Rattle.bg_block_types.specs.Typed.{TypedBlocks}
use Rattle.bg_terms.specs.Typed.{sig_with}
use Rattle.bg_flatten.proofs.Handled.{blocks_plain}
use Rattle.bg_flatten.proofs.laws.blocks_without_functions_are_plain.Goals as goal

pub returns : goal.returns
returns c p incs blocks constants functions mapless typed =
    let bare = subst (λ cs. TypedBlocks (sig_with (const_types cs) p.functions incs) blocks) constants typed in
    blocks_plain incs mapless blocks (subst (λ fs. TypedBlocks (sig_with [] fs incs) blocks) functions bare)
