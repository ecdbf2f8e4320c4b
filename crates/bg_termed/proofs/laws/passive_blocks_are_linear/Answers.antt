use Rattle.bg_block_types.specs.Typed.{sig_over, incarnations_in, passives_in}
use Rattle.bg_faithful.proofs.Whole.{fits_passive}
use Rattle.bg_termed.proofs.Plain.{blocks_linear}
use Rattle.bg_termed.proofs.laws.passive_blocks_are_linear.Goals as goal

pub returns : goal.returns
returns c p k m q t o im pr =
    blocks_linear (sig_over p (incarnations_in p k m q)) p (passives_in p k m q) (c.passive_blocks_are_typed.ensures p k m q t im pr) (fits_passive p o k m q im pr)
