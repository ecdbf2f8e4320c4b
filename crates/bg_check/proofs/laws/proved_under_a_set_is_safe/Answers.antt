use Rattle.bg_task.proofs.LawTypes.{met_law}
use Rattle.bg_check.proofs.Safe.{proved_safe}
use Rattle.bg_check.proofs.laws.proved_under_a_set_is_safe.Goals as goal

pub returns : goal.returns
returns c p set budget outcome typed over inductive h =
    proved_safe c.typed_programs_have_typed_bodies.ensures.functions c.typed_programs_have_typed_bodies.ensures.implementations c.what_fails_at_no_place_is_safe.ensures c.placed_are_places.ensures c.passive_blocks_fail_alike.ensures c.arrivals_fit.ensures c.equations_deny_failing_walks.ensures (met_law c.programs_over_values_are_tabled.ensures c.passive_blocks_have_terms.ensures c.denied_passive_blocks_have_lined_valuations.ensures) c.accepted_has_no_valuation.ensures.any c.accepted_where_used.ensures.above c.atoms_of_clauses.ensures.units c.atoms_of_clauses.ensures.named c.accepted_where_used.ensures.inside set budget p typed over inductive outcome h
