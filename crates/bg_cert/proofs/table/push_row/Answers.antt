use Rattle.std.proofs.Common.{◌≡◌, ◌++◌, map, length, Option, Some, ap, ◌∙◌, subst, rules}
use Rattle.std.specs.Prelude.{is_some}
use Rattle.std.proofs.lemmas.List.{length-map}
use Rattle.bg_rows.specs.declared.row.Row.{Row}
use Rattle.bg_rows.specs.Rows.{row_of}
use Rattle.bg_rows.specs.Steps.{view_row}
use Rattle.bg_formula.specs.Atoms.{atom_of, view_linear}
use Rattle.bg_cert.specs.Paths.{row_of_decision}
use Rattle.bg_cert.specs.Wanted.{is_named}
use Rattle.bg_cert.proofs.Wanted.{place_row, map_last}
use Rattle.bg_cert.proofs.table.push_row.Goals as goal

pub returns-in_ok-push : goal.returns-in_ok-push
returns-in_ok-push c = λ rows h.
    let old = c.args.made.now.items in
    let marks = c.args.marks.now in
    let told = row_of_decision (map atom_of c.args.atoms.now ++ map view_linear c.args.table.now) c.args.d.now in
    let len : c.len.result ≡ length (map row_of old) = rw length-map (search rules) in
    let there = subst (λ (o : Option Row). is_some (view_row o) ≡ is_some told) c.in-Some.is c.in_ok-r.ensures.there in
    place_row marks (map row_of old) rows (map row_of c.push.new.self.items) (Some (row_of c.in-Some.r)) told
    (ap (map row_of) c.in_ok-push.ensures.items ∙ map_last row_of old c.in-Some.r)
    there
    (λ n. subst (λ (o : Option Row). view_row o ≡ told) c.in-Some.is (c.in_ok-r.ensures.same (c.is_named-named.ensures ∙ ap (is_named marks) len ∙ n)))
    h
