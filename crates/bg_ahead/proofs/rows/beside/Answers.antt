use Rattle.std.proofs.Common.{◌≡◌, ◌∙◌, ◌+◌, ◌++◌, map, drop, ap, sym}
use Rattle.std.specs.Prelude.{Some, None}
use Rattle.bg_rows.specs.Rows.{row_of}
use Rattle.bg_formula.specs.Atoms.{view_linear}
use Rattle.bg_atoms.specs.Literals.{literal_of}
use Rattle.bg_atoms.specs.Tables.{literal_by}
use Rattle.bg_atoms.specs.Made.{rows_in}
use Rattle.bg_ahead.specs.Rows.{fresh, places}
use Rattle.bg_ahead.proofs.Copying.{rows_there, goes_there, rows_new, goes_new}
use Rattle.bg_ahead.proofs.rows.beside.Goals.{in-Some+in_ok-push-in-Some, in-None+in_ok-push-in-None+in_ok-copied-in-None+in_ok-push-in-None-2+in_ok-atom-in-None}
use Rattle.bg_ahead.proofs.rows.beside.Goals as goal

pub loop-a-preserved : goal.loop-a-preserved
loop-a-preserved c =
    let m = c.args.m in
    let front = rows_in c.args.front in
    let rows = c.args.rows.now in
    let i = c.loop-a.a-index in
    let a = c.a-item.result in
    let lt = c.loop-a-test.true in
    let is = c.a-item.is in
    let found : c.in_ok-l.field-0 ≡ literal_of (row_of a.row) m front = c.in_ok-l.ensures m front (λ k. c.in_ok-table.ensures k ∙ ap (λ l. literal_by (k.0.items, k.1) m (map view_linear l)) c.deref.ensures.value) in
    elim c.match-branch-5.branch [
      | in-Some+in_ok-push-in-Some w ↦
          let there : literal_of (row_of a.row) m front ≡ Some w.in-Some.l = sym found ∙ w.in-Some.is in (
            ap (λ v. rows_in v ++ fresh front (map view_linear (drop (i + 1) rows))) w.made-is ∙ rows_there m front rows i a lt is w.in-Some.l (rows_in c.loop-a.made) _ there c.loop-a.invariant.0,
            ap (λ k. c.match-branch-5.goes.items ++ places m front (map view_linear (drop (i + 1) rows)) k) w.atom-is ∙ goes_there m front rows i a lt is w.in-Some.l c.loop-a.atom c.loop-a.goes.items c.match-branch-5.goes.items _ there (ap (λ v. v.items) w.goes-is ∙ w.in_ok-push-in-Some.ensures.items) c.loop-a.invariant.1,
          )
      | in-None+in_ok-push-in-None+in_ok-copied-in-None+in_ok-push-in-None-2+in_ok-atom-in-None w ↦
          let none : literal_of (row_of a.row) m front ≡ None = sym found ∙ w.in-None.is in (
            rows_new m front rows i a lt is c.loop-a.made.items c.match-branch-5.made.items w.in_ok-copied-in-None.field-0 _ none w.in_ok-copied-in-None.ensures (ap (λ v. v.items) w.made-is ∙ w.in_ok-push-in-None-2.ensures.items) c.loop-a.invariant.0,
            goes_new m front rows i a lt is c.loop-a.atom c.match-branch-5.atom c.loop-a.goes.items c.match-branch-5.goes.items _ none (ap (λ v. v.items) w.goes-is ∙ w.in_ok-push-in-None.ensures.items) (w.atom-is ∙ w.in_ok-atom-in-None.ensures) c.loop-a.invariant.1,
          )
    ]
