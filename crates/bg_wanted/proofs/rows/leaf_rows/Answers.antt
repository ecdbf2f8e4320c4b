use Rattle.std.proofs.Common.{map, [], ◌+◌, sym, ap, ◌∙◌, subst}
use Rattle.std.proofs.lemmas.List.{take_all}
use Rattle.bg_term_table.specs.Views.{term_of, terms_in}
use Rattle.bg_scalar.specs.Views.{vals_in}
use Rattle.bg_wanted.specs.Classes.{AreMet, first_met}
use Rattle.bg_wanted.specs.Rows.{rows_of, AreRows}
use Rattle.bg_wanted.proofs.Rowed.{leaves_first, rows_more, lacks_one, has_head, all_met}
use Rattle.bg_wanted.proofs.rows.leaf_rows.Goals as goal

pub class_of-requires-clause-there : goal.class_of-requires-clause-there
class_of-requires-clause-there c =
    λ fs.
    has_head fs c.args.terms.now c.loop-i.i c.in_ok-place.place c.index-terms-i.result c.loop-i-test.true c.index-terms-i.is c.in_ok-place.ensures

pub class_of-requires-clause-met : goal.class_of-requires-clause-met
class_of-requires-clause-met c =
    λ fs.
    subst (λ j. AreMet (terms_in fs c.args.terms.now) j c.loop-i.met.items) (sym c.in_ok-place.ensures) (c.loop-i.invariant.0 fs)

pub returns-in-Leaves : goal.returns-in-Leaves
returns-in-Leaves c =
    λ fs.
    leaves_first c.args.values.now c.args.count fs c.args.terms.now c.loop-i.i c.index-terms-i.result c.loop-i-test.true c.index-terms-i.is c.loop-i.made.items (c.loop-i.invariant.1 fs) c.in_ok-one.one c.in-Leaves.o _ c.scalar_at.result c.in-Leaves.is (c.in_ok-one.ensures fs c.args.values.now (ap vals_in c.deref.ensures.value ∙ c.in_ok-frame.ensures))

pub returns-in-NoRow : goal.returns-in-NoRow
returns-in-NoRow c =
    λ fs.
    lacks_one c.args.values.now c.args.count fs c.args.terms.now c.loop-i.i c.index-terms-i.result c.loop-i-test.true c.index-terms-i.is c.in_ok-one.one _ c.scalar_at.result c.in-NoRow.is c.scalar_at.ensures (c.in_ok-one.ensures fs c.args.values.now (ap vals_in c.deref.ensures.value ∙ c.in_ok-frame.ensures))

pub loop-i-init : goal.loop-i-init
loop-i-init c =
    (λ fs ks t. ap (first_met (terms_in fs c.args.terms.now) ks t) c.new-met.ensures.items, λ fs. subst (λ l. AreRows c.args.values.now c.args.count (terms_in fs c.args.terms.now) 0 [] (rows_of l)) (sym c.new-made.ensures.items) tt)

pub loop-i-preserved : goal.loop-i-preserved
loop-i-preserved c = (
  λ fs. subst (λ j. AreMet (terms_in fs c.args.terms.now) (j + 1) c.class_of.new.met.items) c.in_ok-place.ensures (c.in_ok-made_by.ensures.met fs),
  λ fs.
      rows_more c.args.values.now c.args.count fs c.args.terms.now c.loop-i.i c.index-terms-i.result c.loop-i-test.true c.index-terms-i.is c.loop-i.made.items (c.loop-i.invariant.1 fs) c.push.new.self.items c.in_ok-one.one c.in-Is.r c.in_ok-made_by.made_by c.scalar_at.result c.in-Is.is c.in_ok-push-in-Is.ensures.items (c.in_ok-made_by.ensures.class fs) c.scalar_at.ensures (c.in_ok-one.ensures fs c.args.values.now (ap vals_in c.deref.ensures.value ∙ c.in_ok-frame.ensures)),
)

pub returns : goal.returns
returns c =
    λ fs.
    (subst (λ l. AreRows c.args.values.now c.args.count (terms_in fs c.args.terms.now) 0 (map (term_of fs) l) (rows_of c.loop-i.made.items)) (take_all c.loop-i.i c.args.terms.now c.loop-i-test.false) (c.loop-i.invariant.1 fs), all_met fs c.args.terms.now c.loop-i.i c.loop-i.met.items c.loop-i-test.false (c.loop-i.invariant.0 fs))
