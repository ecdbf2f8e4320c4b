use Rattle.bg_block_types.specs.Typed.{incarnations_in, passives_in}
use Rattle.bg_flat.specs.Fronts.{stated}
use Rattle.bg_numbered.specs.Lines.{instances_in}
use Rattle.bg_termed.specs.Lined.{lined_terms, lined_types}
use Rattle.bg_termed.specs.Termed.{count_in, terms_in, flats_in}
use Rattle.bg_termed.proofs.laws.blocks_behind_lines_are_sorted.Goals as goal

pub returns : goal.returns
returns c p k m q flats linear ls =
    let n = count_in p k m q in
    let incs = incarnations_in p k m q in
    let ts = lined_terms p k m q ls in
    let are = c.flattened_blocks_stay.ensures p.functions incs (passives_in p k m q) (flats_in p k m q) (terms_in p k m q) ls flats in
    c.flat_blocks_are_sorted.ensures (lined_types p k m q ls) n ts p.candidates (stated n ts (instances_in ls)) (passives_in p k m q) (flats_in p k m q)
    (c.instances_are_linear_truths.ensures.truths p.functions incs ts (instances_in ls) are.terms.typed)
    (c.instances_are_linear_truths.ensures.linear n ts (instances_in ls) are.terms.linear) linear are.blocks
