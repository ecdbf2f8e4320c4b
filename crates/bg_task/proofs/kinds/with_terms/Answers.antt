use Rattle.std.proofs.Common.{◌++◌, map, sym, ◌∙◌, append-nil}
use Rattle.std.proofs.lemmas.List.{at_drop_all}
use Rattle.bg_kinds.specs.Views.{ref_in}
use Rattle.bg_terms.specs.Typed.{type_of}
use Rattle.bg_term_table.specs.Views.{terms_in}
use Rattle.bg_task.proofs.Sorting.{next_term}
use Rattle.bg_task.proofs.kinds.with_terms.Goals as goal

pub loop-t-preserved : goal.loop-t-preserved
loop-t-preserved c fs gives =
    next_term fs c.args.terms.now c.loop-t.t-index c.t-item.result c.loop-t.made.items _ _ _ c.loop-t-test.true c.t-item.is (c.in_ok-seen_copied.ensures ∙ c.head_type.ensures fs gives) c.in_ok-push.ensures.items (c.loop-t.invariant fs gives)

pub returns : goal.returns
returns c fs gives =
    let made = map ref_in c.loop-t.made.items in
    sym (append-nil made) ∙ sym (at_drop_all (λ l. made ++ map type_of (terms_in fs l)) c.args.terms.now c.loop-t.t-index c.loop-t-test.false) ∙ c.loop-t.invariant fs gives
