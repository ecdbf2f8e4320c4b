use Rattle.std.proofs.Common.{◌≡◌, ◌<◌, List, length, arith, refl, get_or, subst}
use Rattle.std.specs.Prelude.{Some}
use Rattle.std.specs.Ordering.{nat_cmp}
use Rattle.std.specs.BTreeMap.{get}
use Rattle.bg_rows.specs.declared.entry.Entry.{Entry}
use Rattle.bg_elim.proofs.Lists.{nothing, stands_placed, named_more}
use Rattle.bg_elim.proofs.columns.list_row.Goals as goal

pub loop-t-preserved : goal.loop-t-preserved
loop-t-preserved c =
    let i = c.loop-t.invariant in
    let e = c.in_ok-note.ensures in
    let ts = c.args.row.now.entries.items in
    let k = c.loop-t.t-index in
    let lt : k < length ts = omega arith in
    let p = c.in_ok-p.ensures in
    let there = subst (λ (z : List Entry). get nat_cmp c.place_for.new.places (get_or z k nothing).variable ≡ Some c.in_ok-p.p) c.deref-t-items.ensures.value p.there in
    let start = c.loop-t.columns in
    let mid = record start { places = c.place_for.new.places; counts = c.place_for.new.counts } in
    record {
      keeps = λ y m s. stands_placed c.note.new.columns _ y m (λ x q h. h) refl refl (e.keeps y m (stands_placed start mid y m p.keeps refl refl (i.keeps y m s)));
      there = λ y h.
          stands_placed c.note.new.columns _ y c.args.n (λ x q h. h) refl refl
          (named_more start mid c.note.new.columns ts k y c.args.n c.in_ok-p.p lt p.keeps refl refl i.there e.keeps e.there there h);
    }
