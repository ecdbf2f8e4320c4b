use Rattle.std.proofs.Common.{subst, map}
use Rattle.std.proofs.lemmas.List.{take_all}
use Rattle.bg_passive.specs.Passive.{PassiveBlock}
use Rattle.bg_incarnate.specs.Views.{passive_block_of}
use Rattle.bg_incarnate.specs.declared.blocks.PassiveBlock as code
use Rattle.bg_term_table.specs.Views.{terms_in, incs_of}
use Rattle.bg_flatten.specs.Numbered.{block_behind, block_numbered}
use Rattle.bg_flatten.specs.Made.{AreMade}
use Rattle.bg_flatten.proofs.Lists.{made_step}
use Rattle.bg_flatten.proofs.blocks.blocks_flat.Goals as goal

pub loop-b-preserved : goal.loop-b-preserved
loop-b-preserved c =
    λ fs g.
    let n = incs_of c.args.around in
    made_step PassiveBlock (block_behind fs n) (block_numbered fs n) code.PassiveBlock passive_block_of (terms_in fs c.args.terms.now.terms.items) (terms_in fs c.loop-b.terms.terms.items) (terms_in fs c.block.new.terms.terms.items) c.args.blocks.now c.loop-b.b-index c.b-item.result c.loop-b.made.items c.push.new.self.items c.in_ok-b.b c.loop-b-test.true c.b-item.is c.in_ok-push.ensures.items (c.loop-b.invariant fs g) (c.in_ok-b.ensures fs g)

pub returns : goal.returns
returns c =
    λ fs g.
    let n = incs_of c.args.around in
    subst (λ l. AreMade (block_behind fs n) (block_numbered fs n) (map passive_block_of l) (terms_in fs c.args.terms.now.terms.items) (map passive_block_of c.loop-b.made.items) (terms_in fs c.loop-b.terms.terms.items)) (take_all c.loop-b.b-index c.args.blocks.now c.loop-b-test.false) (c.loop-b.invariant fs g)
