use Rattle.std.proofs.Common.{map, subst, refl}
use Rattle.std.proofs.lemmas.List.{take_all}
use Rattle.bg_incarnate.specs.Views.{passive_block_of}
use Rattle.bg_formed.specs.Views.{form_block_of}
use Rattle.bg_atoms.specs.Told.{BlocksTold, BlockTold}
use Rattle.bg_atoms.specs.Listed.{with_blocks}
use Rattle.bg_atoms.specs.Growing.{Grows}
use Rattle.bg_atoms.proofs.Lists.{begins_on, pairs_none, pairs_more}
use Rattle.bg_atoms.proofs.Listing.{begins_block, begins_grown, blocks_more}
use Rattle.bg_atoms.proofs.blocks.blocks_told.Goals as goal

pub loop-b-init : goal.loop-b-init
loop-b-init c =
    let names = c.args.names.now in
    (record { table = c.requires.table; rows = refl }, λ all b. pairs_none (BlockTold names.sorts.items names.base all) passive_block_of form_block_of c.new-made.result.items c.new-made.ensures.items)

pub loop-b-preserved : goal.loop-b-preserved
loop-b-preserved c =
    let names = c.args.names.now in (
      blocks_more names.sorts.items names.base c.args.bs.now c.loop-b.b-index c.b-item.result _ _ _ c.loop-b-test.true c.b-item.is c.loop-b.invariant.0 c.in_ok-x.ensures.grows,
      λ all b. pairs_more (BlockTold names.sorts.items names.base all) passive_block_of form_block_of c.args.bs.now c.loop-b.b-index c.b-item.result c.loop-b.made.items c.push.new.self.items _ c.loop-b-test.true c.b-item.is c.in_ok-push.ensures.items (c.loop-b.invariant.1 all (begins_on _ _ _ (begins_grown (begins_block names.sorts.items (passive_block_of c.b-item.result)) c.in_ok-x.ensures.grows) b)) (c.in_ok-x.ensures.told all b),
    )

pub returns-clause-told : goal.returns-clause-told
returns-clause-told c =
    λ all b. subst (λ l. BlocksTold c.args.names.now.sorts.items c.args.names.now.base all (map passive_block_of l) (map form_block_of c.loop-b.made.items)) (take_all c.loop-b.b-index c.args.bs.now c.loop-b-test.false) (c.loop-b.invariant.1 all b)

pub returns-clause-grows : goal.returns-clause-grows
returns-clause-grows c =
    subst (λ l. Grows c.args.names.now.base (with_blocks c.args.names.now.sorts.items (map passive_block_of l)) c.args.table.now c.loop-b.table) (take_all c.loop-b.b-index c.args.bs.now c.loop-b-test.false) c.loop-b.invariant.0
