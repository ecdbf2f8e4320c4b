use Rattle.std.proofs.Common.{◌≡◌, Some, sym, ◌∙◌, ap}
use Rattle.bg_rows.specs.Rows.{row_of}
use Rattle.bg_atoms.specs.Made.{rows_in}
use Rattle.bg_atoms.specs.Literals.{literal_of}
use Rattle.bg_atoms.specs.Tables.{literal_by}
use Rattle.bg_atoms.proofs.Tabled.{by_key, stays}
use Rattle.bg_atoms.proofs.Listing.{added_there}
use Rattle.bg_atoms.proofs.Reading.{is_literal}
use Rattle.bg_atoms.proofs.table.Table.literal.Goals as goal

pub returns-in-Some-clause-grows : goal.returns-in-Some-clause-grows
returns-in-Some-clause-grows c =
    let r = row_of c.args.a.row in
    let rows = rows_in c.args.self.now.rows in
    let there : Some c.in-Some.l ≡ literal_by (c.in_ok-at.at.0.items, c.in_ok-at.at.1) c.args.base rows = c.in-Some.ensures c.args.base c.requires.table in
    let found : literal_of r c.args.base rows ≡ Some c.in-Some.l = sym (there ∙ ap (λ k. literal_by k c.args.base rows) c.in_ok-at.ensures ∙ by_key r c.args.base rows) in
    record { table = c.requires.table; rows = added_there c.args.base c.args.a rows c.in-Some.l found }

pub returns-in-Some-clause-literal : goal.returns-in-Some-clause-literal
returns-in-Some-clause-literal c =
    let r = row_of c.args.a.row in
    let rows = rows_in c.args.self.now.rows in
    let there : Some c.in-Some.l ≡ literal_by (c.in_ok-at.at.0.items, c.in_ok-at.at.1) c.args.base rows = c.in-Some.ensures c.args.base c.requires.table in
    let found : literal_of r c.args.base rows ≡ Some c.in-Some.l = sym (there ∙ ap (λ k. literal_by k c.args.base rows) c.in_ok-at.ensures ∙ by_key r c.args.base rows) in
    λ all b. is_literal c.args.base all r c.in-Some.l (stays r c.args.base rows all c.in-Some.l b found)
