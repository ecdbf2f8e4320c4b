use Rattle.std.proofs.Common.{sym, ap, ◌∙◌}
use Rattle.bg_certify.specs.Given.{name_or_none}
use Rattle.bg_certify.proofs.Loops.{type_there}
use Rattle.bg_certify.proofs.values.name_at.Goals as goal

pub returns-in-Some : goal.returns-in-Some
returns-in-Some c =
    c.as_slice.ensures.value
    ∙ ap name_or_none (sym (type_there c.args.types.now c.args.t c.in-Some.d.now c.in-Some.ensures.lookup.3.0 c.in-Some.ensures.lookup.1))
