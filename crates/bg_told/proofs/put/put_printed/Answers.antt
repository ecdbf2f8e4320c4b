use Rattle.std.proofs.Common.{sym, ◌∙◌, append-nil, ◌++◌, filter}
use Rattle.std.proofs.lemmas.List.{at_drop_all}
use Rattle.bg_told.specs.Lines.{is_printed}
use Rattle.bg_told.proofs.put.put_printed.Goals as goal

pub returns : goal.returns
returns c =
    let old = c.loop-b.out.items in
    sym (append-nil old) ∙ sym (at_drop_all (λ l. old ++ filter is_printed l) c.args.name.now c.loop-b.b-index c.loop-b-test.false) ∙ c.loop-b.invariant
