use Rattle.bg_task.proofs.LawTypes.{met_law}
use Rattle.bg_task.proofs.Failures.{no_failure}
use Rattle.bg_task.proofs.laws.proved_places_do_not_fail.Goals as goal

pub returns : goal.returns
returns c p set other t es cert typed over h us =
    no_failure c.typed_programs_have_typed_bodies.ensures.functions c.typed_programs_have_typed_bodies.ensures.implementations c.passive_blocks_fail_alike.ensures c.arrivals_fit.ensures c.equations_deny_failing_walks.ensures (met_law c.programs_over_values_are_tabled.ensures c.passive_blocks_have_terms.ensures c.denied_passive_blocks_have_lined_valuations.ensures) p typed over c.accepted_has_no_valuation.ensures.any c.accepted_where_used.ensures.above c.atoms_of_clauses.ensures.units c.atoms_of_clauses.ensures.named set other t es cert h us
