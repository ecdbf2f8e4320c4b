use Rattle.std.proofs.Common.{subst}
use Rattle.bg_sense.specs.Types.{const_types}
use Rattle.bg_block_types.specs.Typed.{TypedBlocks}
use Rattle.bg_terms.specs.Typed.{sig_with}
use Rattle.bg_flatten.proofs.Handled.{blocks_fine}
use Rattle.bg_flatten.proofs.laws.typed_blocks_are_fine.Goals as goal

pub returns : goal.returns
returns c p incs blocks none typed =
    blocks_fine p.functions incs blocks (subst (λ cs. TypedBlocks (sig_with (const_types cs) p.functions incs) blocks) none typed)
