use Rattle.std.proofs.Common.{map, ap, ◌∙◌}
use Rattle.bg_accept.specs.Made.{entry_of}
use Rattle.bg_base.specs.Exact.{fits}
use Rattle.bg_rows.specs.Entries.{rising}
use Rattle.bg_sense.proofs.Bools.{and_right}
use Rattle.bg_certtext.specs.Spellable.{are_terms}
use Rattle.bg_accept.proofs.Tables.{rises, made_items}
use Rattle.bg_accept.proofs.rows.row_of.Goals as goal

pub invariant_of-result : goal.invariant_of-result
invariant_of-result c = record {
  normal =
      let x = rises 0 c.args.row.now.terms.items (and_right (fits c.args.row.now.bound) (are_terms 0 c.args.row.now.terms.items) c.requires.spelled) in
      let e = made_items c.args.terms c.deref.result.now c.in_ok-entries_of.field-0 c.in-Some.entries c.in_ok-entries_of.ensures c.in-Some.is in
      ap (rising 0) (e ∙ ap (map entry_of) c.deref.ensures.value) ∙ x;
}
