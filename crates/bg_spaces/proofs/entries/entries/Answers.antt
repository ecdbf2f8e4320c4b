use Rattle.std.proofs.Common.{sym, ◌∙◌, append-nil, map, ◌++◌}
use Rattle.std.proofs.lemmas.List.{at_drop_all}
use Rattle.bg_spaces.specs.SpaceViews.{counts_of}
use Rattle.bg_spaces.specs.Views.{entry_of}
use Rattle.bg_spaces.specs.Declarations.{entries_from}
use Rattle.bg_text.specs.Views as v
use Rattle.bg_spaces.proofs.entries.entries.Goals as goal

pub returns-clause-ok : goal.returns-clause-ok
returns-clause-ok c =
    let made = map entry_of c.loop-d.out.items in
    sym (append-nil made) ∙ sym (at_drop_all (λ l. made ++ entries_from (counts_of c.loop-d.tally) (map v.decl_of l)) c.args.decls.now c.loop-d.d-index c.loop-d-test.false) ∙ c.loop-d.invariant
