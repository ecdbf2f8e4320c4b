use Rattle.std.proofs.Common.{sym, ◌∙◌, append-nil, map, ◌++◌}
use Rattle.std.proofs.lemmas.List.{at_drop_all}
use Rattle.bg_names.specs.Spaces.{with_names}
use Rattle.bg_names.specs.Views.{listed}
use Rattle.bg_resolve.specs.Calls.{once, fun_in, fun_id}
use Rattle.bg_resolve.proofs.recursion.numbered.Goals as goal

pub returns-clause-ok : goal.returns-clause-ok
returns-clause-ok c =
    let made = map fun_in c.loop-f.out.items in
    sym (append-nil made) ∙ sym (at_drop_all (λ l. made ++ once (listed c.loop-f.names) (map fun_in l)) c.args.fs.now c.loop-f.f-index c.loop-f-test.false) ∙ c.loop-f.invariant.functions

pub returns-clause-names : goal.returns-clause-names
returns-clause-names c =
    sym (at_drop_all (λ l. with_names (listed c.loop-f.names) (map fun_id (map fun_in l))) c.args.fs.now c.loop-f.f-index c.loop-f-test.false) ∙ c.loop-f.invariant.names
