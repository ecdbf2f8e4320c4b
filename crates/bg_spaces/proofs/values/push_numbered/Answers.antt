use Rattle.std.proofs.Common.{sym, ◌∙◌, append-nil, map, ◌++◌}
use Rattle.std.proofs.lemmas.List.{at_drop_all}
use Rattle.bg_spaces.specs.Views.{entry_of, meaning_as}
use Rattle.bg_spaces.specs.Declarations.{numbered}
use Rattle.bg_text.specs.Views as v
use Rattle.bg_spaces.proofs.values.push_numbered.Goals as goal

pub returns-clause-entries : goal.returns-clause-entries
returns-clause-entries c =
    let made = map entry_of c.loop-name.out.items in
    sym (append-nil made) ∙ sym (at_drop_all (λ l. made ++ numbered (meaning_as c.args.sort) c.loop-name.next (map v.id_of l)) c.args.names.now c.loop-name.name-index c.loop-name-test.false) ∙ c.loop-name.invariant.0
