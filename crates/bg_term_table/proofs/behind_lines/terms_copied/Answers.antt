use Rattle.std.proofs.Common.{◌++◌, ◌∷◌, [], sym, ap, ◌∙◌}
use Rattle.std.proofs.lemmas.List.{take_all}
use Rattle.bg_term_table.specs.Views.{term_of, terms_in}
use Rattle.bg_term_table.proofs.Loops.{read_more, read_last}
use Rattle.bg_term_table.proofs.behind_lines.terms_copied.Goals as goal

pub loop-t-init : goal.loop-t-init
loop-t-init c = λ fs. ap (terms_in fs) c.new-made.ensures.items

pub loop-t-preserved : goal.loop-t-preserved
loop-t-preserved c =
    let terms = c.args.terms.now in
    let i = c.loop-t.t-index in
    let t = c.t-item.result in
    let old = c.loop-t.made.items in
    λ fs.
    read_last (term_of fs) c.push.new.self.items old c.in_ok-t.t c.in_ok-push.ensures.items
    ∙ ap (λ x. terms_in fs old ++ x ∷ []) (c.in_ok-t.ensures fs)
    ∙ ap (λ l. l ++ term_of fs t ∷ []) (c.loop-t.invariant fs)
    ∙ sym (read_more (term_of fs) terms i t c.loop-t-test.true c.t-item.is)

pub returns : goal.returns
returns c =
    λ fs.
    c.loop-t.invariant fs ∙ ap (terms_in fs) (take_all c.loop-t.t-index c.args.terms.now c.loop-t-test.false)
