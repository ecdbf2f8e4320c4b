use Rattle.std.proofs.Common.{◌≡◌, ◌<◌, length, sym, ◌∙◌, arith}
use Rattle.std.proofs.lemmas.Result.{IfOk-weaker}
use Rattle.std.proofs.lemmas.Bool.Decides.{nat_tests}
use Rattle.bg_kinds.specs.Views.{ref_in}
use Rattle.bg_term_table.specs.Views.{terms_in, incs_of}
use Rattle.bg_wanted.specs.Rows.{rows_of}
use Rattle.bg_wanted.proofs.Rowed.{mapped_length}
use Rattle.bg_wanted.proofs.Answering.{wrong_wanted, empty_is, not_empty}
use Rattle.bg_wanted.proofs.wanted.of_rows.Goals as goal

pub returns-then-not-is_empty : goal.returns-then-not-is_empty
returns-then-not-is_empty c =
    let firsts = c.in_ok-firsts.firsts in
    let some : 0 < length firsts.wrong.items = let h = c.is_empty.ensures in let k = c.if-not-is_empty.true in grind (arith, nat_tests, h, k) in
    λ fs give leaf are.
    wrong_wanted c.args.values.now (incs_of c.args.around) (terms_in fs c.args.terms.now) (rows_of c.args.rows.now) are.0 firsts.wrong.items (not_empty firsts.wrong.items some) c.in_ok-firsts.ensures.1.0

pub returns : goal.returns
returns c =
    let firsts = c.in_ok-firsts.firsts in
    let none : length firsts.wrong.items ≡ 0 = let h = c.is_empty.ensures in let k = c.if-not-is_empty.false in grind (arith, nat_tests, h, k) in
    IfOk-weaker c.of_looked.result _ _
    (λ made h. λ fs give leaf are.
    h fs give leaf
    (record {
      count = c.in_ok-count.ensures ∙ sym (mapped_length ref_in c.args.around.incarnations.now);
      terms = leaf.terms;
      indexed = leaf.indexed;
      scalars = leaf.scalars;
      rows = are.0;
      met = are.1;
      firsts = c.in_ok-firsts.ensures.0;
      selects = c.in_ok-selects.ensures;
      agree = c.in_ok-firsts.ensures.1.1 (empty_is firsts.wrong.items none);
    }))
    c.of_looked.ensures
