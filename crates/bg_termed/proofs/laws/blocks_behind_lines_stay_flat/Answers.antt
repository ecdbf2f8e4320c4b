use Rattle.std.proofs.Common.{length, sym, subst}
use Rattle.bg_terms.specs.Typed.{types_with}
use Rattle.bg_block_types.specs.Typed.{incarnations_in, passives_in}
use Rattle.bg_flat.specs.Blocks.{FlatBlocks}
use Rattle.bg_termed.specs.Termed.{terms_in, flats_in}
use Rattle.bg_termed.proofs.laws.blocks_behind_lines_stay_flat.Goals as goal

pub returns : goal.returns
returns c =
    record {
      lined =
          λ p k m q flats ls.
          c.flattened_blocks_stay.ensures p.functions (incarnations_in p k m q) (passives_in p k m q) (flats_in p k m q) (terms_in p k m q) ls flats;
      own =
          λ p k m q flats ls.
          let incs = incarnations_in p k m q in
          let n = length incs in
          let ts = terms_in p k m q in
          let grown = c.lines_bring_fair_terms.ensures.grows incs ts ls in
          subst (λ us. FlatBlocks (types_with incs us) n ts (passives_in p k m q) (flats_in p k m q)) (sym grown.1) (c.flat_blocks_stay.ensures.types incs ts grown.0 n ts (passives_in p k m q) (flats_in p k m q) flats.blocks);
    }
