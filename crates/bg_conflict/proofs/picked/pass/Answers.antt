use Rattle.std.proofs.Common.{◌≡◌, map, [], ap, sym, ◌∙◌}
use Rattle.std.specs.Prelude.{Some}
use Rattle.bg_rows.specs.Rows.{row_of}
use Rattle.bg_rows.specs.Steps.{view_row}
use Rattle.bg_formula.specs.Atoms.{atom_of}
use Rattle.bg_cert.specs.Paths.{row_of_decision, in_front}
use Rattle.bg_elim.proofs.Places.{map_last}
use Rattle.bg_conflict.proofs.Places.{picked_more, picked_last}
use Rattle.bg_conflict.proofs.picked.pass.Goals as goal

pub returns-in_ok-push-in-Some-2-clause-picked : goal.returns-in_ok-push-in-Some-2-clause-picked
returns-in_ok-push-in-Some-2-clause-picked c = λ given l p.
    let x = row_of_decision (map atom_of c.args.atoms.now) c.args.d.now in
    let e : Some (row_of c.in-Some.row) ≡ x = ap view_row (sym c.in-Some.is) ∙ c.in_ok-row.ensures in
    let m = ap (map row_of) c.in_ok-push-in-Some.ensures.items ∙ map_last row_of c.args.picked.now.rows.items c.in-Some.row in
    rw (c.in_ok-push-in-Some-2.ensures.items, m)
    (picked_last given x (row_of c.in-Some.row) c.args.number c.args.picked.now.numbers.items (map row_of c.args.picked.now.rows.items) e l p)

pub returns-then-has_row-clause-picked : goal.returns-then-has_row-clause-picked
returns-then-has_row-clause-picked c = λ given l p.
    picked_more given (in_front (row_of_decision (map atom_of c.args.atoms.now) c.args.d.now) []) c.args.picked.now.numbers.items (map row_of c.args.picked.now.rows.items) p
