use Rattle.std.proofs.Common.{map, ap, ◌∙◌}
use Rattle.std.proofs.lemmas.Result.{IfOk-weaker}
use Rattle.bg_places.specs.Views.{spot_of}
use Rattle.bg_formed.specs.Seen.{use_of}
use Rattle.bg_formed.specs.Views.{form_cmds_of}
use Rattle.bg_forms.specs.Forms.{any_of}
use Rattle.bg_clause.specs.Failing.{fail_later}
use Rattle.bg_clause.specs.Cutting.{Ahead, cut_cmds}
use Rattle.bg_clause.specs.Lends.{lent_in}
use Rattle.bg_clause.specs.Views.{short_in}
use Rattle.bg_clause.proofs.ways.cut_edge.Goals as goal

pub returns : goal.returns
returns c =
    let cs = c.args.units.now in
    let t = spot_of c.args.target in
    let ks = form_cmds_of c.args.e.now.cmds.items in
    let to = c.args.e.now.to in
    let fails = map short_in c.args.later.now.fails.items in
    let made =
    c.in_ok-here.ensures
    ∙ (ap (λ l. cut_cmds cs t (form_cmds_of l) (record { form = lent_in c.fail_later.result; on = use_of c.use_later.result })) c.deref.ensures.value
    ∙ (ap (λ f. cut_cmds cs t ks (record { form = f; on = use_of c.use_later.result })) c.fail_later.ensures
    ∙ ap (λ u. cut_cmds cs t ks (record { form = fail_later fails to; on = u })) c.use_later.ensures)) in
    IfOk-weaker c.any_of.result _ _ (λ x is. is ∙ ap (λ f. any_of f (lent_in c.args.rest)) (ap (λ (a : Ahead). a.form) made)) c.any_of.ensures
