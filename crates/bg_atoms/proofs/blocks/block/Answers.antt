use Rattle.std.proofs.Common.{map, ap, subst}
use Rattle.bg_incarnate.specs.Views.{cmds_of, edge_of, passive_block_of}
use Rattle.bg_formed.specs.Views.{form_cmds_of, form_edge_of}
use Rattle.bg_atoms.specs.Told.{CmdsTold, EdgesTold}
use Rattle.bg_atoms.proofs.Lists.{begins_on}
use Rattle.bg_atoms.proofs.Listing.{begins_edges, begins_grown, block_grows}
use Rattle.bg_atoms.proofs.blocks.block.Goals as goal

pub returns-clause-grows : goal.returns-clause-grows
returns-clause-grows c =
    block_grows c.args.names.now.sorts.items c.args.names.now.base (passive_block_of c.args.b.now) _ _ _ _ _ (ap cmds_of c.deref.ensures.value) (ap (map edge_of) c.deref-2.ensures.value) c.in_ok-made.ensures.grows c.in_ok-next.ensures.grows

pub returns-clause-told : goal.returns-clause-told
returns-clause-told c =
    let names = c.args.names.now in
    λ all b. (
      subst (λ l. CmdsTold names.sorts.items names.base all (cmds_of l) (form_cmds_of c.in_ok-made.made.items)) c.deref.ensures.value (c.in_ok-made.ensures.told all (begins_on _ _ _ (begins_grown (begins_edges names.sorts.items (map edge_of c.deref-2.result.now)) c.in_ok-next.ensures.grows) b)),
      subst (λ l. EdgesTold names.sorts.items names.base all (map edge_of l) (map form_edge_of c.in_ok-next.next.items)) c.deref-2.ensures.value (c.in_ok-next.ensures.told all b),
    )
