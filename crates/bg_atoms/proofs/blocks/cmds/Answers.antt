use Rattle.std.proofs.Common.{subst, refl}
use Rattle.std.proofs.lemmas.List.{take_all}
use Rattle.bg_incarnate.specs.Views.{cmds_of, passive_cmd_of}
use Rattle.bg_formed.specs.Views.{form_cmds_of, form_cmd_of}
use Rattle.bg_atoms.specs.Told.{CmdsTold, CmdTold}
use Rattle.bg_atoms.specs.Sources.{expression_of}
use Rattle.bg_atoms.specs.Listed.{with_cmds}
use Rattle.bg_atoms.specs.Growing.{Grows}
use Rattle.bg_atoms.proofs.Lists.{begins_on, pairs_none, pairs_more}
use Rattle.bg_atoms.proofs.Listing.{begins_ex, begins_grown, cmds_more}
use Rattle.bg_atoms.proofs.blocks.cmds.Goals as goal

pub loop-k-init : goal.loop-k-init
loop-k-init c =
    let names = c.args.names.now in
    (record { table = c.requires.table; rows = refl }, λ all b. pairs_none (CmdTold names.sorts.items names.base all) passive_cmd_of form_cmd_of c.new-made.result.items c.new-made.ensures.items)

pub loop-k-preserved : goal.loop-k-preserved
loop-k-preserved c =
    let names = c.args.names.now in (
      cmds_more names.sorts.items names.base c.args.ks.now c.loop-k.k-index c.k-item.result _ _ _ c.loop-k-test.true c.k-item.is c.loop-k.invariant.0 c.in_ok-x.ensures.grows,
      λ all b. pairs_more (CmdTold names.sorts.items names.base all) passive_cmd_of form_cmd_of c.args.ks.now c.loop-k.k-index c.k-item.result c.loop-k.made.items c.push.new.self.items _ c.loop-k-test.true c.k-item.is c.in_ok-push.ensures.items (c.loop-k.invariant.1 all (begins_on _ _ _ (begins_grown (begins_ex names.sorts.items (expression_of (passive_cmd_of c.k-item.result))) c.in_ok-x.ensures.grows) b)) (c.in_ok-x.ensures.told all b),
    )

pub returns-clause-told : goal.returns-clause-told
returns-clause-told c =
    λ all b. subst (λ l. CmdsTold c.args.names.now.sorts.items c.args.names.now.base all (cmds_of l) (form_cmds_of c.loop-k.made.items)) (take_all c.loop-k.k-index c.args.ks.now c.loop-k-test.false) (c.loop-k.invariant.1 all b)

pub returns-clause-grows : goal.returns-clause-grows
returns-clause-grows c =
    subst (λ l. Grows c.args.names.now.base (with_cmds c.args.names.now.sorts.items (cmds_of l)) c.args.table.now c.loop-k.table) (take_all c.loop-k.k-index c.args.ks.now c.loop-k-test.false) c.loop-k.invariant.0
