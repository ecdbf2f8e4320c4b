use Rattle.std.proofs.Common.{ap, ◌∙◌}
use Rattle.bg_incarnate.specs.Views.{cmds_of}
use Rattle.bg_term_table.specs.Views.{terms_in, incs_of}
use Rattle.bg_flatten.specs.Numbered.{cmds_behind, cmds_numbered}
use Rattle.bg_flatten.proofs.blocks.edge.Goals as goal

pub returns : goal.returns
returns c =
    let n = incs_of c.args.around in
    let same = ap cmds_of c.deref.ensures.value in
    λ fs g.
    let old = terms_in fs c.args.terms.now.terms.items in
    let w = c.in_ok-cmds.ensures fs g in (
      ap (λ ks. record { cmds = ks; to = c.args.e.now.to }) (w.0 ∙ ap (λ ks. cmds_numbered fs n ks old) same),
      w.1 ∙ ap (λ ks. cmds_behind fs n ks old) same,
    )
