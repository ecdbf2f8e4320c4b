use Rattle.std.proofs.Common.{◌<◌, ℕ, List, length, map, sym, ap, ◌∙◌, arith}
use Rattle.std.specs.Prelude.{Option, slice_get}
use Rattle.std.proofs.lemmas.List.{length-map}
use Rattle.bg_ast.specs.Views.{program_of, impl_of}
use Rattle.bg_cert.specs.Walks.{has}
use Rattle.bg_places.specs.Views.{placed_in}
use Rattle.bg_certtext.specs.Views.{section_of}
use Rattle.bg_accept.specs.Tables.{number_at, section_of_number}
use Rattle.bg_accept.proofs.Filled.{Row, Places}
use Rattle.bg_accept.proofs.Settled.{none_needed}
use Rattle.bg_accept.proofs.Found.{places_there, row_here}
use Rattle.bg_accept.proofs.implementation.bare_of.Goals as goal

pub returns-then-not-any_needed : goal.returns-then-not-any_needed
returns-then-not-any_needed c =
    let q = c.args.reading in
    let p = program_of q.program.now in
    let k = c.args.implementation in
    let t = c.requires.reading.tables in
    let long = t.places.long in
    let e = length-map q.program.now.implementations.items impl_of in
    let l : k < length q.tables.now.all.items = omega (arith, long, e, c.requires.there) in
    let is = ap placed_in (c.deref.ensures.value ∙ ap (λ (v : Places). v.items) c.index-places.ensures) ∙ (places_there q.tables.now.all.items k c.index-places.result.now l ∙ t.places.places k) in
    none_needed p (has q.set.now) (map section_of q.sections.now) k c.deref.result.now is (sym c.any_needed.ensures ∙ c.if-not-any_needed.true)

pub bare_in-requires-clause-places : goal.bare_in-requires-clause-places
bare_in-requires-clause-places c =
    let q = c.args.reading in
    let k = c.args.implementation in
    let t = c.requires.reading.tables in
    let long = t.places.long in
    let e = length-map q.program.now.implementations.items impl_of in
    let l : k < length q.tables.now.all.items = omega (arith, long, e, c.requires.there) in
    ap placed_in (c.deref-3.ensures.value ∙ ap (λ (v : Places). v.items) c.index-places.ensures) ∙ (places_there q.tables.now.all.items k c.index-places.result.now l ∙ t.places.places k)

pub bare_in-requires-clause-row : goal.bare_in-requires-clause-row
bare_in-requires-clause-row c = λ i m.
    let q = c.args.reading in
    let k = c.args.implementation in
    let ss = map section_of q.sections.now in
    let t = c.requires.reading.tables in
    let long = t.places.long in
    let e = length-map q.program.now.implementations.items impl_of in
    let l : k < length q.tables.now.all.items = omega (arith, long, e, c.requires.there) in
    let wide = ap length (c.deref-3.ensures.value ∙ ap (λ (v : Places). v.items) c.index-places.ensures) in
    ap (λ (xs : List (Option ℕ)). section_of_number ss (number_at (slice_get xs i))) (c.deref-4.ensures.value ∙ ap (λ (v : Row). v.items) c.index-row.ensures)
    ∙ row_here ss q.tables.now.all.items q.tables.now.firsts.items k i c.index-places.result.now c.index-row.result.now t.firsts l (omega (arith, wide, m))
