use Rattle.std.proofs.Common.{◌≡◌, true, rules}
use Rattle.bg_rows.specs.Entries.{coefficient}
use Rattle.bg_rows.specs.Rows.{row_of, opposite}
use Rattle.bg_elim.proofs.Places.{at_below, at_is}
use Rattle.bg_elim.proofs.Pairs.{are_opposite, opposite_at, told_at}
use Rattle.bg_elim.proofs.pair.without.Goals as goal

pub index-up-requires : goal.index-up-requires
index-up-requires c = let h = at_below row_of c.args.work.now.rows.items c.args.i c.requires.up c.requires.first in search rules

pub index-low-requires : goal.index-low-requires
index-low-requires c = let h = at_below row_of c.args.work.now.rows.items c.args.j c.requires.low c.requires.second in search rules

pub eliminate-requires : goal.eliminate-requires
eliminate-requires c =
    let u = at_is row_of c.args.work.now.rows.items c.args.i c.index-up.result.now c.requires.up c.requires.first c.index-up.ensures in
    let l = at_is row_of c.args.work.now.rows.items c.args.j c.index-low.result.now c.requires.low c.requires.second c.index-low.ensures in
    let o : opposite (coefficient c.args.x (row_of c.index-up.result.now).entries) (coefficient c.args.x (row_of c.index-low.result.now).entries) ≡ true =
    opposite_at (row_of c.index-up.result.now) c.requires.up (row_of c.index-low.result.now) c.requires.low c.args.x u l (are_opposite _ _ c.requires.above c.requires.below) in
    search rules

pub returns : goal.returns
returns c = λ u l hu hl.
    told_at (row_of c.index-up.result.now) u (row_of c.index-low.result.now) l c.args.x c.eliminate.result
    (at_is row_of c.args.work.now.rows.items c.args.i c.index-up.result.now u hu c.index-up.ensures)
    (at_is row_of c.args.work.now.rows.items c.args.j c.index-low.result.now l hl c.index-low.ensures)
    c.eliminate.ensures
