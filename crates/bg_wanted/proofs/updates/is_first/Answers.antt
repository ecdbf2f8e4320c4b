use Rattle.std.proofs.Common.{ap, ◌∙◌}
use Rattle.bg_wanted.specs.Asked.{is_place}
use Rattle.bg_wanted.proofs.updates.is_first.Goals as goal

pub returns : goal.returns
returns c = λ rs has. c.is_at.ensures ∙ ap (is_place c.args.a) (c.in_ok-found.ensures rs has)
