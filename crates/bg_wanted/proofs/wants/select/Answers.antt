use Rattle.std.proofs.Common.{sym, ◌∙◌}
use Rattle.bg_wanted.proofs.Tells.{told_again}
use Rattle.bg_wanted.proofs.wants.select.Goals as goal

pub returns-in-Some-clause-told : goal.returns-in-Some-clause-told
returns-in-Some-clause-told c =
    λ incs ts loose fits told.
    told_again incs ts c.args.wants.now loose (c.args.map, c.args.a) c.in-Some.s told (sym (c.copied.ensures ∙ c.get.ensures.value) ∙ c.in-Some.is)
