use Rattle.std.proofs.Common.{◌≡◌, length, sym, ◌∙◌, subst}
use Rattle.bg_kinds.specs.Views.{ref_in}
use Rattle.bg_term_table.specs.Views.{terms_in, incs_of}
use Rattle.bg_wanted.specs.Scalars.{scalars_in}
use Rattle.bg_wanted.specs.Rows.{rows_of, AreRows, IsRows}
use Rattle.bg_wanted.specs.Answers.{IsTold}
use Rattle.bg_wanted.specs.Classes.{AreMet}
use Rattle.bg_wanted.proofs.Rowed.{mapped_length}
use Rattle.bg_wanted.proofs.Lacking.{nothing_lacks}
use Rattle.bg_wanted.proofs.wanted.lines_wanted.Goals as goal

pub returns-in-Leave : goal.returns-in-Leave
returns-in-Leave c =
    λ fs give leaf.
    subst (IsRows c.args.values.now (length c.args.around.incarnations.now) (terms_in fs c.args.terms.now)) c.in-Leave.is (c.in_ok-all.ensures fs)

pub returns-in-NoRows : goal.returns-in-NoRows
returns-in-NoRows c =
    λ fs give leaf.
    nothing_lacks fs (incs_of c.args.around) (terms_in fs c.args.terms.now) c.args.values.now (length c.args.around.incarnations.now) (mapped_length ref_in c.args.around.incarnations.now) leaf.terms leaf.scalars (subst (IsRows c.args.values.now (length c.args.around.incarnations.now) (terms_in fs c.args.terms.now)) c.in-NoRows.is (c.in_ok-all.ensures fs))

pub returns-in_ok-tried-in-Lines : goal.returns-in_ok-tried-in-Lines
returns-in_ok-tried-in-Lines c =
    let values = c.args.values.now in
    let incs = incs_of c.args.around in
    let count : length c.args.around.incarnations.now ≡ length incs = sym (mapped_length ref_in c.args.around.incarnations.now) in
    λ fs give leaf.
    let ts = terms_in fs c.args.terms.now in
    let rows = subst (IsRows values (length c.args.around.incarnations.now) ts) c.in-Are.is (c.in_ok-all.ensures fs) in
    let are = subst (λ n. AreRows values n ts 0 ts (rows_of c.in-Are.rows.items)) count rows.0 in
    let told = subst (IsTold incs ts (scalars_in values)) c.in-Lines.is
    (c.in_ok-told-in-Are.ensures fs give leaf (subst (λ rs. AreRows values (length incs) ts 0 ts (rows_of rs)) (sym c.deref.ensures.value) are, subst (λ m. AreMet ts (length ts) m) (sym c.deref-in-Are.ensures.value) rows.1)) in
    c.in_ok-lines-in-Lines.ensures fs give leaf.types
    (record {
      count = c.in_ok-count-in-Lines.ensures ∙ count;
      terms = leaf.terms;
      indexed = leaf.indexed;
      rows = subst (λ rs. AreRows values (length incs) ts 0 ts (rows_of rs)) (sym c.deref-in-Lines.ensures.value) are;
    })
    told

pub returns-in-Done : goal.returns-in-Done
returns-in-Done c =
    let values = c.args.values.now in
    let incs = incs_of c.args.around in
    let count : length c.args.around.incarnations.now ≡ length incs = sym (mapped_length ref_in c.args.around.incarnations.now) in
    λ fs give leaf.
    let ts = terms_in fs c.args.terms.now in
    let rows = subst (IsRows values (length c.args.around.incarnations.now) ts) c.in-Are.is (c.in_ok-all.ensures fs) in
    let are = subst (λ n. AreRows values n ts 0 ts (rows_of c.in-Are.rows.items)) count rows.0 in
    let done = subst (IsTold incs ts (scalars_in values)) c.in-Done.is
    (c.in_ok-told-in-Are.ensures fs give leaf (subst (λ rs. AreRows values (length incs) ts 0 ts (rows_of rs)) (sym c.deref.ensures.value) are, subst (λ m. AreMet ts (length ts) m) (sym c.deref-in-Are.ensures.value) rows.1)) in
    record { finished = done.0; rows = are; behind = done.1 }
