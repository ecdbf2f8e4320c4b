use Rattle.std.proofs.Common.{sym, ◌∙◌, append-nil, map, flat_map, ◌++◌}
use Rattle.std.proofs.lemmas.List.{at_drop_all}
use Rattle.bg_resolve.specs.Program.{arg_ids}
use Rattle.bg_names.specs.Views.{id_in}
use Rattle.bg_text.specs.Views as v
use Rattle.bg_resolve.proofs.functions.arg_names.Goals as goal

pub returns-clause-ok : goal.returns-clause-ok
returns-clause-ok c =
    let made = map id_in c.loop-a.out.items in
    sym (append-nil made) ∙ sym (at_drop_all (λ l. made ++ flat_map arg_ids (map v.fun_arg_of l)) c.args.args.now c.loop-a.a-index c.loop-a-test.false) ∙ c.loop-a.invariant
