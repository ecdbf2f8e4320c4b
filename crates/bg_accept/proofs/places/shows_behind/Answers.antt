use Rattle.std.proofs.Common.{map, subst}
use Rattle.bg_text.specs.Views.{id_of, option_of}
use Rattle.bg_ast.specs.Meaning.{meaning_of}
use Rattle.bg_ast.specs.Views.{program_of, candidate_of}
use Rattle.bg_cert.specs.Walks.{has}
use Rattle.bg_formula.specs.Formulas.{formula_of}
use Rattle.bg_places.specs.Views.{placed_of, spot_of}
use Rattle.bg_term_table.specs.Lines.{lines_of}
use Rattle.bg_task.specs.Made.{IsMade}
use Rattle.bg_task.proofs.Prepares.{clauses_here}
use Rattle.bg_certtext.specs.Views.{section_of}
use Rattle.bg_accept.proofs.Settled.{settled}
use Rattle.bg_accept.proofs.places.shows_behind.Goals as goal

pub returns : goal.returns
returns c =
    let q = c.args.question in
    let p = program_of q.program.now in
    let u = (placed_of q.place.now).place in
    let f = formula_of c.in-Clauses.f in
    let es = lines_of c.args.lines.now in
    let made = subst (IsMade (meaning_of p) es c.in_ok-cut.cut u) c.in-Clauses.is (c.in_ok-place_clauses.ensures es c.in_ok-cut.ensures) in
    let own = clauses_here p q.place.now.implementation q.prepared.now c.requires.prepared es (spot_of q.place.now.spot) (option_of candidate_of q.place.now.candidate) c.in_ok-cut.cut f c.in_ok-cut.ensures made in
    settled (meaning_of p) (has q.set.now) (map id_of c.args.numbers.now.candidates.now) (section_of c.args.section.now) u es f own c.accepts_section.result c.accepts_section.ensures
