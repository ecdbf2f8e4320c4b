use Rattle.std.proofs.Common.{ap, ◌∙◌}
use Rattle.bg_term_table.specs.Views.{meaning}
use Rattle.bg_fronts.specs.Two.{two}
use Rattle.bg_fronts.proofs.Forms.{chain_is}
use Rattle.bg_fronts.proofs.build.chain.Goals as goal

pub returns : goal.returns
returns c =
    chain_is c.in_ok-first.first c.push.new.self c.new-links.result.items _ c.in_ok-push.ensures.items c.new-links.ensures.items
    ∙ ap (λ x. two c.args.sign (meaning x) (meaning c.args.b)) c.in_ok-first.ensures.ok
