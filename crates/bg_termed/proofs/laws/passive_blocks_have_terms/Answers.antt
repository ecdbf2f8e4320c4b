use Rattle.bg_block_types.specs.Typed.{incarnations_in, passives_in}
use Rattle.bg_faithful.proofs.Whole.{value_types}
use Rattle.bg_termed.proofs.Tabled.{types_indexed, gives}
use Rattle.bg_termed.proofs.laws.passive_blocks_have_terms.Goals as goal

pub returns : goal.returns
returns c p k m q t o im pr =
    let incs = incarnations_in p k m q in
    c.numbered_blocks_are_flattened.ensures p.functions incs (passives_in p k m q) (gives p o) (types_indexed incs (value_types p o k m q im pr))
    (c.typed_blocks_are_fine.ensures p incs (passives_in p k m q) (c.programs_over_values_are_tabled.ensures p t o).constants (c.passive_blocks_are_typed.ensures p k m q t im pr))
