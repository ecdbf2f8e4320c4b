use Rattle.std.proofs.Common.{sym, ◌∙◌, append-nil, map, ◌++◌}
use Rattle.std.proofs.lemmas.List.{at_drop_all}
use Rattle.bg_names.specs.Views.{id_in}
use Rattle.bg_spaces.specs.Views.{entry_of}
use Rattle.bg_spaces.specs.Declarations.{numbered}
use Rattle.bg_names.specs.declared.scope.Meaning.TheVariants as means
use Rattle.bg_spaces.proofs.entries.number_globals.Goals as goal

pub returns-clause-entries : goal.returns-clause-entries
returns-clause-entries c =
    let made = map entry_of c.loop-name.out.items in
    sym (append-nil made) ∙ sym (at_drop_all (λ l. made ++ numbered (λ n. means.Global n) c.loop-name.next (map id_in l)) c.args.names.now c.loop-name.name-index c.loop-name-test.false) ∙ c.loop-name.invariant.0
