use Rattle.std.proofs.Common.{sym, map}
use Rattle.bg_text.specs.Views as v
use Rattle.bg_spaces.specs.Declarations.{no_counts}
use Rattle.bg_spaces.proofs.Joins.{entries-ids}
use Rattle.bg_spaces.proofs.space.value_space.Goals as goal

pub returns-clause-names : goal.returns-clause-names
returns-clause-names c = rw (sym (entries-ids no_counts (map v.decl_of c.args.decls.now)), sym c.in_ok-ids.ensures.ok, sym c.deref.ensures.value) c.declare_values.ensures.names

pub returns-clause-meanings : goal.returns-clause-meanings
returns-clause-meanings c = rw (sym c.in_ok-ids.ensures.ok, sym c.deref.ensures.value) c.declare_values.ensures.meanings

pub returns-clause-first : goal.returns-clause-first
returns-clause-first c = rw (sym (entries-ids no_counts (map v.decl_of c.args.decls.now)), sym c.in_ok-ids.ensures.ok, sym c.deref.ensures.value) c.declare_values.ensures.first
