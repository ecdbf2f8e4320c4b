use Rattle.std.proofs.Common.{sym, ◌∙◌, append-nil, map, flat_map, ◌++◌}
use Rattle.std.proofs.lemmas.List.{at_drop_all}
use Rattle.bg_resolve.specs.Calls.{funs_of, fun_in}
use Rattle.bg_text.specs.Views as v
use Rattle.bg_resolve.proofs.recursion.functions.Goals as goal

pub returns-clause-ok : goal.returns-clause-ok
returns-clause-ok c =
    let made = map fun_in c.loop-d.out.items in
    sym (append-nil made) ∙ sym (at_drop_all (λ l. made ++ flat_map funs_of (map v.decl_of l)) c.args.decls.now c.loop-d.d-index c.loop-d-test.false) ∙ c.loop-d.invariant
