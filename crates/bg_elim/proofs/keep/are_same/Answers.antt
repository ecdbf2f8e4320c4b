use Rattle.std.proofs.Common.{◌≡◌, true, sym, ◌∙◌, rules}
use Rattle.bg_rows.specs.Rows.{row_of}
use Rattle.bg_elim.specs.Kept.{entries_eq}
use Rattle.bg_elim.proofs.Places.{rows_same}
use Rattle.bg_elim.proofs.keep.are_same.Goals as goal

pub returns : goal.returns
returns c = λ h.
    let b : c.args.a.now.bound ≡ c.args.b.now.bound = search rules in
    let e : entries_eq c.args.a.now.entries.items c.args.b.now.entries.items ≡ true = rw (← c.deref.ensures.value, ← c.deref-2.ensures.value) (sym c.are_equal.ensures ∙ h) in
    rows_same (row_of c.args.a.now) (row_of c.args.b.now) e b
