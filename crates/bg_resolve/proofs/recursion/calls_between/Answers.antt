use Rattle.std.proofs.Common.{map, ap, ◌∙◌}
use Rattle.bg_text.specs.Views as v
use Rattle.bg_resolve.specs.Calls.{fun_in}
use Rattle.bg_resolve.proofs.Recursions.{rows-are}
use Rattle.bg_resolve.proofs.recursion.calls_between.Goals as goal

pub returns-clause-rows : goal.returns-clause-rows
returns-clause-rows c =
    rows-are (map v.decl_of c.args.decls.now) _ _ _ (map fun_in c.deref.result.now) (map fun_in c.deref-2.result.now) c.no_names-names.ensures (ap (map fun_in) c.deref.ensures.value ∙ c.in_ok-all.ensures.ok) c.in_ok-functions.ensures.names (ap (map fun_in) c.deref-2.ensures.value ∙ c.in_ok-functions.ensures.ok) c.in_ok-rows.ensures.ok
