use Rattle.bg_block_types.specs.Typed.{incarnations_in, passives_in}
use Rattle.bg_numbered.specs.Lines.{instances_in}
use Rattle.bg_termed.specs.Lined.{lined_terms, lined_types, lined_behind}
use Rattle.bg_termed.specs.Termed.{terms_in, flats_in}
use Rattle.bg_termed.proofs.Indices.{selects_indexed}
use Rattle.bg_termed.proofs.laws.denied_passive_blocks_have_lined_valuations.Goals as goal

pub returns : goal.returns
returns c p k m q none flats ls a is target f made i values set interp typed denied =
    let incs = incarnations_in p k m q in
    let ts = lined_terms p k m q ls in
    let are = c.flattened_blocks_stay.ensures p.functions incs (passives_in p k m q) (flats_in p k m q) (terms_in p k m q) ls flats in
    let x = c.denied_blocks_have_scalars.ensures p i incs ts values set target (instances_in ls) (passives_in p k m q) (flats_in p k m q) none interp typed are.terms.typed are.terms.order (selects_indexed ts are.indexed) are.blocks denied in
    let y = c.flat_clauses_fail_alike.ensures.met (lined_types p k m q ls) p.candidates (lined_behind p k m q ls) a target f is made x.0 set x.1.0 x.1.1 in
    (y.0, (y.1.1.0, y.1.1.1))
