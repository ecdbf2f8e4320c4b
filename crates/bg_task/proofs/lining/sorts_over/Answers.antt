use Rattle.std.proofs.Common.{[], map, sym, ap, ◌∙◌, append-nil}
use Rattle.std.proofs.lemmas.List.{take_all}
use Rattle.bg_terms.specs.Typed.{types_with}
use Rattle.bg_term_table.specs.Views.{terms_in, incs_of}
use Rattle.bg_task.specs.Sorts.{flat_sort}
use Rattle.bg_task.proofs.Sorting.{next_sort}
use Rattle.bg_task.proofs.lining.sorts_over.Goals as goal

pub loop-t-init : goal.loop-t-init
loop-t-init c = λ fs g. c.in_ok-made.ensures ∙ sym (ap (map flat_sort) (append-nil (incs_of c.args.around)))

pub loop-t-preserved : goal.loop-t-preserved
loop-t-preserved c =
    λ fs g.
    next_sort fs (incs_of c.args.around) c.args.terms.now c.loop-t.t-index c.t-item.result c.loop-t.made.items c.push.new.self.items c.seen_sort.result c.loop-t-test.true c.t-item.is (c.seen_sort.ensures ∙ ap flat_sort (c.head_type.ensures fs g)) c.in_ok-push.ensures.items (c.loop-t.invariant fs g)

pub returns : goal.returns
returns c =
    λ fs g.
    c.loop-t.invariant fs g ∙ ap (λ l. map flat_sort (types_with (incs_of c.args.around) (terms_in fs l))) (take_all c.loop-t.t-index c.args.terms.now c.loop-t-test.false)
