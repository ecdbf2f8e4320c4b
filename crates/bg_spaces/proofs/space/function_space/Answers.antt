use Rattle.std.proofs.Common.{sym}
use Rattle.bg_text.specs.Views as v
use Rattle.bg_spaces.specs.Declarations.{function_ids_of}
use Rattle.bg_names.proofs.Firsts.{fuse_flat}
use Rattle.bg_spaces.proofs.space.function_space.Goals as goal

pub returns-clause-made : goal.returns-clause-made
returns-clause-made c = rw (fuse_flat function_ids_of v.decl_of c.args.decls.now, sym c.in_ok-ids.ensures.ok, sym c.deref.ensures.value) c.declare.ensures.made

pub returns-clause-first : goal.returns-clause-first
returns-clause-first c = rw (fuse_flat function_ids_of v.decl_of c.args.decls.now, sym c.in_ok-ids.ensures.ok, sym c.deref.ensures.value) c.declare.ensures.first
