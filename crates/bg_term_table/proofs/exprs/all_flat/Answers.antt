use Rattle.std.proofs.Common.{ap, ◌∙◌}
use Rattle.std.proofs.lemmas.Result.{IfOk-weaker}
use Rattle.bg_term_table.specs.Views.{meanings, listed, terms_in, incs_of}
use Rattle.bg_term_table.proofs.Forms.{each_listed, each_behind}
use Rattle.bg_term_table.proofs.exprs.all_flat.Goals as goal

pub returns-clause-made : goal.returns-clause-made
returns-clause-made c =
    IfOk-weaker c.exprs.result _ _
    (λ x m. λ fs g. ap listed (m fs g).0 ∙ each_listed fs (incs_of c.args.around) (meanings c.args.es.now) (terms_in fs c.args.terms.now.terms.items))
    c.exprs.ensures

pub returns-clause-table : goal.returns-clause-table
returns-clause-table c =
    IfOk-weaker c.exprs.result _ _
    (λ x m. λ fs g. (m fs g).1 ∙ each_behind fs (incs_of c.args.around) (meanings c.args.es.now) (terms_in fs c.args.terms.now.terms.items))
    c.exprs.ensures
