use Rattle.std.proofs.Common.{length}
use Rattle.bg_block_types.specs.Typed.{incarnations_in, passives_in}
use Rattle.bg_read_off.specs.Leaves.{silent}
use Rattle.bg_termed.specs.Lined.{lined_terms, lined_types, lined_built}
use Rattle.bg_termed.specs.Termed.{count_in, terms_in}
use Rattle.bg_termed.proofs.Behind.{are_built}
use Rattle.bg_termed.proofs.Indices.{updates_indexed}
use Rattle.bg_termed.proofs.Over.{model_over}
use Rattle.bg_termed.proofs.laws.built_values_are_models.Goals as goal

pub returns : goal.returns
returns c =
    record {
      stand =
          λ p k m q flats ls s of done.
          let n = count_in p k m q in
          let all = lined_terms p k m q ls in
          let tys = lined_types p k m q ls in
          c.finished_leaves_stand.ensures.stand n all tys s (lined_built p k m q ls s) of (are_built n all tys s of) done;
      congruent =
          λ p k m q flats ls s of done.
          let all = lined_terms p k m q ls in
          let tys = lined_types p k m q ls in
          let are = c.blocks_behind_lines_stay_flat.ensures.lined p k m q flats ls in
          c.finished_leaves_stand.ensures.congruent p.functions (incarnations_in p k m q) all s (lined_built p k m q ls s) are.terms.typed of (are_built (count_in p k m q) all tys s of) done;
      models =
          λ p k m q flats ls s of done i off.
          let incs = incarnations_in p k m q in
          let ts = terms_in p k m q in
          let all = lined_terms p k m q ls in
          let tys = lined_types p k m q ls in
          let w = lined_built p k m q ls s in
          let grown = c.lines_bring_fair_terms.ensures.grows incs ts ls in
          let are = c.blocks_behind_lines_stay_flat.ensures.lined p k m q flats ls in
          model_over p i (silent p.functions) incs ts s w
          (λ us typed scalars built finished off_it. c.finished_leaves_are_models.ensures p.functions i incs ts us s w typed (c.terms_are_ordinary.ensures p.functions incs (passives_in p k m q)) (updates_indexed ts flats.indexed) scalars built finished off_it)
          all grown.0 grown.1 are.terms.typed of (are_built (length incs) all tys s of) done off;
    }
