use Rattle.std.proofs.Common.{sym, ◌∙◌, append-nil, map, ◌++◌}
use Rattle.std.proofs.lemmas.List.{at_drop_all}
use Rattle.bg_text.specs.Views as v
use Rattle.bg_resolve.proofs.kinds.push_copies.Goals as goal

pub returns-clause-made : goal.returns-clause-made
returns-clause-made c =
    let made = map v.id_of c.loop-name.out.items in
    sym (append-nil made) ∙ sym (at_drop_all (λ l. made ++ map v.id_of l) c.args.names.now c.loop-name.name-index c.loop-name-test.false) ∙ c.loop-name.invariant
