use Rattle.std.proofs.Common.{subst, map}
use Rattle.std.proofs.lemmas.List.{take_all}
use Rattle.bg_passive.specs.Passive.{PassiveCmd}
use Rattle.bg_incarnate.specs.Views.{passive_cmd_of}
use Rattle.bg_incarnate.specs.declared.blocks.PassiveCmd as code
use Rattle.bg_term_table.specs.Views.{terms_in, incs_of}
use Rattle.bg_flatten.specs.Numbered.{cmd_behind, cmd_numbered}
use Rattle.bg_flatten.specs.Made.{AreMade}
use Rattle.bg_flatten.proofs.Lists.{made_step}
use Rattle.bg_flatten.proofs.blocks.cmds.Goals as goal

pub loop-k-preserved : goal.loop-k-preserved
loop-k-preserved c =
    λ fs g.
    let n = incs_of c.args.around in
    made_step PassiveCmd (cmd_behind fs n) (cmd_numbered fs n) code.PassiveCmd passive_cmd_of (terms_in fs c.args.terms.now.terms.items) (terms_in fs c.loop-k.terms.terms.items) (terms_in fs c.cmd.new.terms.terms.items) c.args.ks.now c.loop-k.k-index c.k-item.result c.loop-k.made.items c.push.new.self.items c.in_ok-k.k c.loop-k-test.true c.k-item.is c.in_ok-push.ensures.items (c.loop-k.invariant fs g) (c.in_ok-k.ensures fs g)

pub returns : goal.returns
returns c =
    λ fs g.
    let n = incs_of c.args.around in
    subst (λ l. AreMade (cmd_behind fs n) (cmd_numbered fs n) (map passive_cmd_of l) (terms_in fs c.args.terms.now.terms.items) (map passive_cmd_of c.loop-k.made.items) (terms_in fs c.loop-k.terms.terms.items)) (take_all c.loop-k.k-index c.args.ks.now c.loop-k-test.false) (c.loop-k.invariant fs g)
