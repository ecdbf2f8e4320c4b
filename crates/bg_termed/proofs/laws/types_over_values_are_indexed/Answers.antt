use Rattle.bg_block_types.specs.Typed.{incarnations_in}
use Rattle.bg_faithful.proofs.Whole.{value_types}
use Rattle.bg_termed.specs.Lined.{lined_terms}
use Rattle.bg_termed.proofs.Indices.{all_indexed}
use Rattle.bg_termed.proofs.Tabled.{types_indexed, gives}
use Rattle.bg_termed.proofs.laws.types_over_values_are_indexed.Goals as goal

pub returns : goal.returns
returns c =
    record {
      functions = λ p t o. gives p o;
      incarnations = λ p k m q t o im pr. types_indexed (incarnations_in p k m q) (value_types p o k m q im pr);
      lined =
          λ p k m q t o im pr ls.
          let incs = incarnations_in p k m q in
          let are = c.blocks_behind_lines_stay_flat.ensures.lined p k m q (c.passive_blocks_have_terms.ensures p k m q t o im pr) ls in
          all_indexed p.functions incs (lined_terms p k m q ls) (gives p o) (types_indexed incs (value_types p o k m q im pr)) are.terms;
    }
