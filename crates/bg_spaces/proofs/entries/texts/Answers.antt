use Rattle.std.proofs.Common.{sym, ◌∙◌, append-nil, map, ◌++◌}
use Rattle.std.proofs.lemmas.List.{at_drop_all}
use Rattle.bg_names.specs.Views.{id_in}
use Rattle.bg_spaces.specs.Declarations.{text_of}
use Rattle.bg_spaces.proofs.entries.texts.Goals as goal

pub returns-clause-ok : goal.returns-clause-ok
returns-clause-ok c =
    let made = map (λ x. x.now) c.loop-name.out.items in
    sym (append-nil made) ∙ sym (at_drop_all (λ l. made ++ map text_of (map id_in l)) c.args.names.now c.loop-name.name-index c.loop-name-test.false) ∙ c.loop-name.invariant
