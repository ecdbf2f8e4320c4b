use Rattle.std.proofs.Common.{◌<◌, length, map, arith, ap, ◌∙◌}
use Rattle.bg_formula.specs.Atoms.{view_linear, row_and_denial}
use Rattle.bg_certtext.specs.Views.{row_of}
use Rattle.bg_certtext.specs.Spellable.{is_row}
use Rattle.bg_accept.specs.Sections.{row_in}
use Rattle.bg_accept.proofs.Tables.{table_never, row_there, no_atom_made}
use Rattle.bg_accept.proofs.rows.table_of.Goals as goal

pub atom_of-requires : goal.atom_of-requires
atom_of-requires c =
    let l : c.loop-row.row-index < length c.args.table.now = omega arith in
    record { spelled = ap (λ r. is_row (row_of r)) c.row-item.is ∙ row_there c.args.table.now c.loop-row.row-index c.row-item.result c.requires.rows l }

pub returns-in-None : goal.returns-in-None
returns-in-None c = λ t e.
    let l : c.loop-row.row-index < length c.args.table.now = omega arith in
    let x = no_atom_made c.args.terms (row_of c.row-item.result) c.in_ok-atom_of.field-0 c.in_ok-atom_of.ensures c.in-None.is in
    table_never c.args.terms (map view_linear c.loop-row.made.items) c.args.table.now c.loop-row.row-index c.row-item.result t l
    (λ a h. x a (ap (λ r. row_and_denial (row_in (row_of r))) c.row-item.is ∙ h)) (c.loop-row.invariant ∙ e)
