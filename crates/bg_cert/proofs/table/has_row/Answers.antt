use Rattle.std.proofs.Common.{◌≤◌, length, rules}
use Rattle.bg_cert.proofs.Wanted.{behind_row}
use Rattle.bg_cert.proofs.table.has_row.Goals as goal

pub returns-else-a-atoms : goal.returns-else-a-atoms
returns-else-a-atoms c =
    let i = c.in-Atom.is in
    let le : length c.args.atoms.now ≤ c.in-Atom.a = search rules in
    rw i (behind_row c.args.atoms.now c.args.table.now c.in-Atom.a c.in-Atom.field-1 le)
