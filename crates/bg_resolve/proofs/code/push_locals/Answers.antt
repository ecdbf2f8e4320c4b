use Rattle.std.proofs.Common.{sym, ◌∙◌, append-nil, map, flat_map, ◌++◌}
use Rattle.std.proofs.lemmas.List.{at_drop_all}
use Rattle.bg_spaces.specs.Declarations.{vars_ids}
use Rattle.bg_names.specs.Views.{id_in}
use Rattle.bg_text.specs.Views as v
use Rattle.bg_resolve.proofs.code.push_locals.Goals as goal

pub returns-clause-ok : goal.returns-clause-ok
returns-clause-ok c =
    let made = map id_in c.loop-x.out.items in
    sym (append-nil made) ∙ sym (at_drop_all (λ l. made ++ flat_map vars_ids (map v.vars_of l)) c.args.xs.now c.loop-x.x-index c.loop-x-test.false) ∙ c.loop-x.invariant
