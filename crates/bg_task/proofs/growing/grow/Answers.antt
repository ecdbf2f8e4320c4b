use Rattle.std.proofs.Common.{◌≡◌, map, sym, ap, ◌∙◌}
use Rattle.std.proofs.lemmas.Result.{IfOk-weaker, on_ok_weaker}
use Rattle.bg_kinds.specs.Views.{ref_in}
use Rattle.bg_numbered.specs.Lines.{after_line, is_there}
use Rattle.bg_term_table.specs.Views.{terms_in}
use Rattle.bg_term_table.specs.Lines.{line_of}
use Rattle.bg_task.proofs.growing.grow.Goals as goal

pub returns-clause-over : goal.returns-clause-over
returns-clause-over c =
    let g = c.args.grown.now in
    let l = line_of c.args.line in
    on_ok_weaker c.bring_in.result
    (λ h. λ fs incs ts o.
    record {
      incarnations = o.incarnations;
      results = o.results;
      terms =
          h fs (ap (map ref_in) c.deref.ensures.value ∙ o.results)
          ∙ (ap (λ is. after_line is (terms_in fs g.terms.items) l) o.incarnations ∙ ap (λ us. after_line incs us l) o.terms);
    })
    c.bring_in.ensures.terms

pub returns-clause-there : goal.returns-clause-there
returns-clause-there c =
    let g = c.args.grown.now in
    let l = line_of c.args.line in
    IfOk-weaker c.bring_in.result _ _
    (λ b h. λ fs incs ts o.
    h fs (ap (map ref_in) c.deref.ensures.value ∙ o.results)
    ∙ (ap (λ is. is_there is (terms_in fs g.terms.items) l) o.incarnations ∙ ap (λ us. is_there incs us l) o.terms))
    c.bring_in.ensures.there
