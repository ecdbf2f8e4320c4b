use Rattle.std.proofs.Common.{rules, ◌≡◌, map, inr, sym, ap, Some, None, length, ◌++◌, ◌∷◌, []}
use Rattle.std.proofs.lemmas.List.{length-map}
use Rattle.bg_rows.specs.Rows.{row_of}
use Rattle.bg_rows.specs.Keys.{key_of}
use Rattle.bg_elim.specs.Keys.{place_of}
use Rattle.bg_elim.proofs.Orders.{at_last}
use Rattle.bg_elim.proofs.Places.{found, new_from}
use Rattle.bg_elim.proofs.keep.keep.Goals as goal

pub returns-in-Some-clause-place : goal.returns-in-Some-clause-place
returns-in-Some-clause-place c =
    let e = c.in_ok-key.ensures in
    let h : place_of (key_of (row_of c.args.row)) 0 (map row_of c.args.work.now.rows.items) ≡ Some c.in-Some.n = rw (← e) (sym c.in-Some.ensures) in
    found (row_of c.args.row) c.in-Some.n (map row_of c.args.work.now.rows.items) h

pub returns-clause-kept : goal.returns-clause-kept
returns-clause-kept c =
    let rows = c.args.work.now.rows.items in
    let e = c.in_ok-key.ensures in
    let h : place_of (key_of (row_of c.args.row)) 0 (map row_of rows) ≡ None = search rules in
    inr (c.in_ok-push.ensures.work, new_from (row_of c.args.row) 0 (map row_of rows) h)

pub returns-clause-place : goal.returns-clause-place
returns-clause-place c =
    let rows = c.args.work.now.rows.items in
    let len : c.len-n.result ≡ length (map row_of rows) = rw length-map (search rules) in
    let e : map row_of c.push.new.work.rows.items ≡ map row_of rows ++ row_of c.args.row ∷ [] = ap (λ w. w.rows) c.in_ok-push.ensures.work in
    rw (e, len) (at_last (map row_of rows) (row_of c.args.row))
