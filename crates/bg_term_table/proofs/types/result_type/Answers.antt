use Rattle.std.proofs.Common.{sym, ap, ◌∙◌}
use Rattle.bg_kinds.specs.Views.{ref_in}
use Rattle.bg_numbered.specs.Put.{ty_or}
use Rattle.bg_term_table.proofs.TypesRead.{there, result_at}
use Rattle.bg_term_table.proofs.types.result_type.Goals as goal

pub returns-in-Some : goal.returns-in-Some
returns-in-Some c =
    λ fs h.
    c.as_ref.ensures
    ∙ (sym (ap ty_or (there ref_in c.args.results.now c.args.f c.in-Some.t.now c.in-Some.ensures.lookup.3.0 c.in-Some.ensures.lookup.1))
    ∙ result_at fs c.args.results.now c.args.f h)
