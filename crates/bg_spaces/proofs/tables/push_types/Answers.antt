use Rattle.std.proofs.Common.{sym, ◌∙◌, append-nil, map, ◌++◌}
use Rattle.std.proofs.lemmas.List.{at_drop_all}
use Rattle.bg_names.specs.Views.{id_in}
use Rattle.bg_text.specs.Views as v
use Rattle.bg_spaces.proofs.tables.push_types.Goals as goal

pub returns-clause-ok : goal.returns-clause-ok
returns-clause-ok c =
    let made = map id_in c.loop-d.out.items in
    sym (append-nil made) ∙ sym (at_drop_all (λ l. made ++ map (λ d. v.id_of d.name) l) c.args.ds.now c.loop-d.d-index c.loop-d-test.false) ∙ c.loop-d.invariant
