use Rattle.std.proofs.Common.{rules, ◌≡◌, ◌+◌, length, ap, ◌∙◌}
use Rattle.bg_rows.specs.Rows.{row_of}
use Rattle.bg_atoms.specs.Made.{rows_in}
use Rattle.bg_atoms.specs.Tables.{literal_by}
use Rattle.bg_atoms.proofs.Tabled.{put_both, literal_push, stays}
use Rattle.bg_atoms.proofs.Listing.{added_new}
use Rattle.bg_atoms.proofs.Reading.{is_literal}
use Rattle.bg_atoms.proofs.table.Table.add.Goals as goal

pub put_first-requires : goal.put_first-requires
put_first-requires c =
    let r = c.requires in
    r.table.indexed c.args.at ∙ ap (λ k. literal_by k c.args.base (rows_in c.args.self.now.rows)) r.key ∙ r.new

pub returns-clause-grows : goal.returns-clause-grows
returns-clause-grows c =
    let r = c.requires in
    let xs = c.args.self.now.rows.items in
    let ys = c.push.new.self.items in
    let pushed = c.in_ok-push.ensures.items in
    let place : c.in_ok-atom.atom ≡ c.args.base + length xs = search rules in
    record {
      table = record { indexed = λ k. put_both (k.0.items, k.1) c.args.base c.in_ok-atom.atom xs ys c.args.a _ _ _ _ _ pushed place r.key c.in_ok-denial.ensures (r.table.indexed k) (c.in_ok-put_first.ensures k) (c.in_ok-put.ensures k) };
      rows = added_new c.args.base xs ys c.args.a pushed r.new;
    }

pub returns-clause-literal : goal.returns-clause-literal
returns-clause-literal c =
    let xs = c.args.self.now.rows.items in
    let ys = c.push.new.self.items in
    let place : c.in_ok-atom.atom ≡ c.args.base + length xs = search rules in
    λ all b. is_literal c.args.base all (row_of c.args.a.row) _ (stays (row_of c.args.a.row) c.args.base _ all _ b (literal_push c.args.base c.in_ok-atom.atom xs ys c.args.a c.in_ok-push.ensures.items place c.requires.new))
