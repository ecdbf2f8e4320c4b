use Rattle.std.proofs.Common.{◌≡◌, ◌<◌, ◌≤◌, ◌&&◌, Bool, true, false, length, map, Some, None, ap, sym, ◌∙◌, rules, refl}
use Rattle.bg_rows.specs.Rows.{row_of}
use Rattle.bg_rows.specs.Steps.{row_at}
use Rattle.bg_elim.specs.Work.{is_live}
use Rattle.bg_elim.proofs.Places.{at_map, at_none}
use Rattle.bg_elim.proofs.round.is_on.Goals as goal

and_false : (b : Bool) → false ≡ (b && false)
and_false true = refl
and_false false = refl

pub returns-then-is_live : goal.returns-then-is_live
returns-then-is_live c =
    let rows = c.args.work.now.rows.items in
    let lt : c.args.n < length rows = search rules in
    let at : row_at (map row_of rows) c.args.n ≡ Some (row_of c.index.result.now) =
    at_map row_of rows c.args.n c.index.result.now lt ∙ ap (λ r. Some (row_of r)) (sym c.index.ensures) in
    let l : is_live c.args.work.now.live.items c.args.n ≡ true = search rules in
    rw (at, l) c.has_side.ensures

pub returns-else-n-len : goal.returns-else-n-len
returns-else-n-len c =
    let rows = c.args.work.now.rows.items in
    let le : length rows ≤ c.args.n = search rules in
    let at : row_at (map row_of rows) c.args.n ≡ None = at_none row_of rows c.args.n le in
    rw at (and_false (is_live c.args.work.now.live.items c.args.n))
