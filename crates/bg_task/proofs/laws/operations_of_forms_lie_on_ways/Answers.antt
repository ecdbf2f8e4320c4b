use Rattle.std.proofs.Common.{sym, ap, ◌∙◌}
use Rattle.bg_formed.specs.Used.{refused}
use Rattle.bg_termed.specs.Lined.{lined_behind, lined_sorts}
use Rattle.bg_task.proofs.Onways.{lies_on_way}
use Rattle.bg_task.proofs.laws.operations_of_forms_lie_on_ways.Goals as goal

pub returns : goal.returns
returns c p t es o h =
    lies_on_way (lined_sorts p t.implementation h.implementation h.procedure es) h.encoding.first h.encoding.rows t.spot o (lined_behind p t.implementation h.implementation h.procedure es) (sym (ap (refused t.spot) h.is_own.blocks) ∙ h.is_refused)
