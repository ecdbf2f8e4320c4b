use Rattle.std.proofs.Common.{◌++◌, length, sym, subst}
use Rattle.bg_terms.specs.Typed.{types_with}
use Rattle.bg_flat.specs.Blocks.{FlatBlocks}
use Rattle.bg_flatten.proofs.laws.flattened_blocks_stay.Goals as goal

pub returns : goal.returns
returns c fs incs blocks flat ts ls h =
    let law = c.lines_bring_fair_terms.ensures in
    let grown = law.grows incs ts ls in
    let us = grown.0 in
    let n = length incs in
    record {
      terms = law.fair fs incs ts ls h.terms;
      indexed = law.indexed incs ts ls h.indexed;
      blocks =
          subst (λ vs. FlatBlocks (types_with incs vs) n vs blocks flat) (sym grown.1) (c.flat_blocks_stay.ensures.terms (types_with incs (ts ++ us)) n ts us blocks flat (c.flat_blocks_stay.ensures.types incs ts us n ts blocks flat h.blocks));
    }
