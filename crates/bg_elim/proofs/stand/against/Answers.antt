use Rattle.std.proofs.Common.{◌≡◌, true, ◌≤ℤ◌, arith, sym}
use Rattle.std.proofs.lemmas.Int.{ints}
use Rattle.bg_rows.specs.Rows.{row_of}
use Rattle.bg_elim.specs.Kept.{entries_eq}
use Rattle.bg_elim.proofs.Rounds.{implied_from, nearer_from}
use Rattle.bg_elim.proofs.stand.against.Goals as goal

pub returns-then-kept-row : goal.returns-then-kept-row
returns-then-kept-row c = λ w at.
    let le : c.args.kept.now.bound ≤ℤ c.args.row.now.bound = grind (arith, ints, c.if-kept-row.true) in
    let same : entries_eq c.args.kept.now.entries.items c.args.row.now.entries.items ≡ true = rw (c.deref.ensures.value, c.deref-2.ensures.value) at (sym c.if-not-are_equal.ensures) in
    implied_from w (row_of c.args.row.now) (row_of c.args.kept.now) c.args.n at same le

pub returns-else-kept-row : goal.returns-else-kept-row
returns-else-kept-row c = λ w at.
    let le : c.args.row.now.bound ≤ℤ c.args.kept.now.bound = grind (arith, ints, c.if-kept-row.false) in
    let same : entries_eq c.args.kept.now.entries.items c.args.row.now.entries.items ≡ true = rw (c.deref.ensures.value, c.deref-2.ensures.value) at (sym c.if-not-are_equal.ensures) in
    nearer_from w (row_of c.args.row.now) (row_of c.args.kept.now) c.args.n at same le
