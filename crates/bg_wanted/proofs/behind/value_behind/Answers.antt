use Rattle.std.proofs.Common.{length, ap, sym, ◌∙◌}
use Rattle.std.proofs.lemmas.Result.{IfOk-weaker}
use Rattle.bg_terms.specs.Built.{built}
use Rattle.bg_term_table.specs.Views.{terms_in, incs_of, seen_ty}
use Rattle.bg_scalar.specs.Values.{val_of}
use Rattle.bg_wanted.specs.Scalars.{scalars_in}
use Rattle.bg_wanted.proofs.behind.value_behind.Goals as goal

pub returns-in-Whole : goal.returns-in-Whole
returns-in-Whole c =
    let incs = incs_of c.args.around in
    IfOk-weaker c.built.result _ _
    (λ made h. λ fs values give looked.
    h fs incs values looked
    ∙ ap (λ u. built (scalars_in values) (length incs) (terms_in fs c.args.looked.terms.now) u (val_of c.args.scalar)) (ap seen_ty (sym c.in-Whole.is) ∙ c.read_type.ensures fs give))
    c.built.ensures

pub returns-in-Map : goal.returns-in-Map
returns-in-Map c =
    let incs = incs_of c.args.around in
    IfOk-weaker c.built_map.result _ _
    (λ made h. λ fs values give looked.
    h fs incs values looked
    ∙ ap (λ u. built (scalars_in values) (length incs) (terms_in fs c.args.looked.terms.now) u (val_of c.args.scalar)) (ap seen_ty (sym c.in-Map.is) ∙ c.read_type.ensures fs give))
    c.built_map.ensures
