use Rattle.std.proofs.Common.{refl, subst}
use Rattle.bg_incarnate.specs.Views.{cmds_of}
use Rattle.bg_formed.specs.Views.{form_cmds_of}
use Rattle.bg_atoms.specs.Listed.{with_cmds}
use Rattle.bg_atoms.specs.Told.{CmdsTold}
use Rattle.bg_atoms.specs.Growing.{Grows}
use Rattle.bg_atoms.proofs.blocks.edge.Goals as goal

pub returns-clause-grows : goal.returns-clause-grows
returns-clause-grows c =
    subst (λ l. Grows c.args.names.now.base (with_cmds c.args.names.now.sorts.items (cmds_of l)) c.args.table.now c.cmds.new.table) c.deref.ensures.value c.in_ok-made.ensures.grows

pub returns-clause-told : goal.returns-clause-told
returns-clause-told c =
    λ all b. (refl, subst (λ l. CmdsTold c.args.names.now.sorts.items c.args.names.now.base all (cmds_of l) (form_cmds_of c.in_ok-made.made.items)) c.deref.ensures.value (c.in_ok-made.ensures.told all b))
