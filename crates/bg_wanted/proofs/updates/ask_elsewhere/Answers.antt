use Rattle.std.proofs.Common.{sym, ◌∙◌}
use Rattle.std.proofs.lemmas.Result.{IfOk-weaker}
use Rattle.bg_term_table.specs.Views.{terms_in}
use Rattle.bg_wanted.proofs.Going.{fits_update, fits_map, asked_below}
use Rattle.bg_wanted.proofs.updates.ask_elsewhere.Goals as goal

pub returns-in-Some-clause-told : goal.returns-in-Some-clause-told
returns-in-Some-clause-told c =
    let l = c.args.looked in
    IfOk-weaker c.ask_at.result _ _
    (λ x h. λ fs incs asked told.
    let lt = asked_below fs incs l c.args.u c.args.a asked in
    h incs (terms_in fs l.terms.now) (fits_update fs incs l c.args.u c.args.a asked c.in_ok-update.update c.in_ok-update.ensures) (fits_map fs incs l c.args.u c.args.a asked c.in-Some.map (sym (c.map_read.ensures fs) ∙ c.in-Some.is)) lt.0 lt.1 told)
    c.ask_at.ensures.told
