use Rattle.std.proofs.Common.{map}
use Rattle.bg_block_types.specs.Typed.{incarnations_in}
use Rattle.bg_linear.specs.Sorts.{scalar_values}
use Rattle.bg_terms.specs.Typed.{type_of}
use Rattle.bg_termed.specs.Lined.{lined_terms, lined_types, lined_sorts, lined_built}
use Rattle.bg_termed.specs.Termed.{count_in}
use Rattle.bg_termed.proofs.Behind.{scalars_typed, all_typed}
use Rattle.bg_termed.proofs.Firsts.{first_typed}
use Rattle.bg_termed.proofs.laws.built_values_are_typed.Goals as goal

pub returns : goal.returns
returns c =
    record {
      scalars = λ p k m q ls numbers truths. scalars_typed (lined_types p k m q ls) numbers truths;
      all =
          λ p k m q ls numbers truths.
          all_typed (count_in p k m q) (lined_terms p k m q ls) (lined_types p k m q ls) (scalar_values numbers truths (lined_sorts p k m q ls)) (scalars_typed (lined_types p k m q ls) numbers truths);
      first =
          λ p k m q ls numbers truths.
          first_typed (incarnations_in p k m q) (map type_of (lined_terms p k m q ls)) (lined_built p k m q ls (scalar_values numbers truths (lined_sorts p k m q ls)))
          (all_typed (count_in p k m q) (lined_terms p k m q ls) (lined_types p k m q ls) (scalar_values numbers truths (lined_sorts p k m q ls)) (scalars_typed (lined_types p k m q ls) numbers truths));
    }
