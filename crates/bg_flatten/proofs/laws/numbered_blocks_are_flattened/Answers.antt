use Rattle.bg_flatten.proofs.Numbered.{are_flattened}
use Rattle.bg_flatten.proofs.laws.numbered_blocks_are_flattened.Goals as goal

pub returns : goal.returns
returns c fs incs blocks gives all fine =
    let law = c.numbered_expressions_are_flat.ensures in
    are_flattened law.grows law.flat law.fair law.indexed fs incs gives all blocks fine
