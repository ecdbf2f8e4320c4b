use Rattle.std.proofs.Common.{List, map, sym, ap, ◌∙◌, subst}
use Rattle.std.specs.Prelude.{Some, IfOk}
use Rattle.std.specs.List.{list_all}
use Rattle.bg_text.specs.Trees.{Id}
use Rattle.bg_ast.specs.Meaning.{meaning_of}
use Rattle.bg_ast.specs.Views.{program_of}
use Rattle.bg_cert.specs.Walks.{has}
use Rattle.bg_places.specs.Views.{placed_of}
use Rattle.bg_certtext.specs.declared.text.Section.{Section}
use Rattle.bg_certtext.specs.Views.{section_of}
use Rattle.bg_certtext.specs.Spellable.{is_row}
use Rattle.bg_accept.specs.Tables.{section_of_number}
use Rattle.bg_accept.specs.Reading.{IsSettled}
use Rattle.bg_accept.proofs.Lookups.{there_mapped}
use Rattle.bg_accept.proofs.Settled.{spelled_rows, settled_there}
use Rattle.bg_accept.proofs.places.check_place.Goals as goal

pub shows-requires-clause-rows : goal.shows-requires-clause-rows
shows-requires-clause-rows c =
    let k = c.in-Some-get.ensures.lookup in
    let x = c.in-Some-get.section.now in
    ap (λ (t : Section). list_all is_row (section_of t).table) (k.3.1 x) ∙ spelled_rows c.args.reading.sections.now c.in-Some.number x c.requires.reading.spelled k.3.0

pub returns : goal.returns
returns c =
    let k = c.in-Some-get.ensures.lookup in
    let x = c.in-Some-get.section.now in
    let q = c.args.reading in
    let p = program_of q.program.now in
    let u = (placed_of c.args.place.now).place in
    let ss = q.sections.now in
    let is = ap (section_of_number (map section_of ss)) c.in-Some.is ∙ (there_mapped section_of ss c.in-Some.number x k.3.0 ∙ ap (λ (y : Section). Some (section_of y)) (sym (k.3.1 x))) in
    let told = subst (λ (names : List Id). IfOk c.shows.result (IsSettled (meaning_of p) (has q.set.now) names (section_of x) u)) c.requires.reading.tables.named c.shows.ensures in
    settled_there (meaning_of p) (has q.set.now) p.candidates (section_of_number (map section_of ss) c.args.first) (section_of x) u c.shows.result is told
