use Rattle.std.proofs.Common.{◌≡◌, true, false, map, sym, subst}
use Rattle.std.specs.Prelude.{slice_get}
use Rattle.bg_sense.specs.Types.{are_of}
use Rattle.bg_passive.specs.Equations.{is_well, equations}
use Rattle.bg_block_types.specs.Typed.{incarnations_in, passives_in}
use Rattle.bg_clause.specs.Tables.{there_in}
use Rattle.bg_atoms.specs.Ranks.{rank}
use Rattle.bg_terms.specs.Terms.{over}
use Rattle.bg_terms.specs.Alike.{scalar_ty}
use Rattle.bg_flat.specs.Fronts.{stated}
use Rattle.bg_numbered.specs.Lines.{instances_in}
use Rattle.bg_read_off.specs.Leaves.{silent}
use Rattle.bg_termed.specs.Lined.{lined_terms, lined_types, lined_sorts, lined_behind, lined_built}
use Rattle.bg_termed.specs.Termed.{count_in, terms_in, flats_in}
use Rattle.bg_termed.proofs.Behind.{scalars_typed, are_built}
use Rattle.bg_termed.proofs.Indices.{updates_indexed}
use Rattle.bg_termed.proofs.Over.{fail_over}
use Rattle.bg_termed.proofs.laws.lined_valuations_deny_passive_blocks.Goals as goal

pub returns : goal.returns
returns c p k m q none flats ls a is target f made v true_in s read done i off values first =
    let n = count_in p k m q in
    let incs = incarnations_in p k m q in
    let ts = terms_in p k m q in
    let all = lined_terms p k m q ls in
    let tys = lined_types p k m q ls in
    let set = there_in f.candidates v.truths in
    let grown = c.lines_bring_fair_terms.ensures.grows incs ts ls in
    let are = c.flattened_blocks_stay.ensures p.functions incs (passives_in p k m q) (flats_in p k m q) ts ls flats in
    let denied = subst (λ w. is_well (slice_get (equations set target (over w) (lined_behind p k m q ls)) 0) ≡ false) (sym read) (c.flat_clauses_fail_alike.ensures.denied tys p.candidates (lined_behind p k m q ls) a target f is made v true_in) in
    let typed = subst (λ w. are_of (map scalar_ty tys) w ≡ true) (sym read) (scalars_typed tys v.numbers (λ j. v.truths (rank (lined_sorts p k m q ls) j))) in
    let law = c.finished_leaves_fail.ensures p i (silent p.functions) incs ts in
    fail_over p i (silent p.functions) incs ts s (lined_built p k m q ls s) values set target (stated n all (instances_in ls)) (passives_in p k m q) (flats_in p k m q)
    (λ us terms of finished built off_it blocks well. law us s (lined_built p k m q ls s) values set target (stated n all (instances_in ls)) (passives_in p k m q) (flats_in p k m q) none terms of finished built off_it (λ b x e. (c.terms_are_ordinary.ensures p.functions incs (passives_in p k m q) b x e, λ t. updates_indexed ts flats.indexed b x t e)) first (c.flat_blocks_stay.ensures.types incs ts us n ts (passives_in p k m q) (flats_in p k m q) blocks) well)
    all grown.0 grown.1 are.terms.typed typed done (are_built n all tys s typed) off flats.blocks denied
