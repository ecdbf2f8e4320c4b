use Rattle.std.proofs.Common.{map, Ok, Err, refl, sym, ap, ◌∙◌, subst}
use Rattle.bg_ast.specs.Views.{program_of}
use Rattle.bg_formula.specs.Formulas.{formula_of}
use Rattle.bg_formula.specs.Atoms.{view_linear}
use Rattle.bg_formed.specs.Views.{form_block_of}
use Rattle.bg_slice.specs.Slices.{sliced}
use Rattle.bg_slice.specs.Marks.{marked_rows}
use Rattle.bg_clause.specs.Whole.{clauses_of}
use Rattle.bg_places.specs.Views.{spot_of}
use Rattle.bg_rows.specs.Rows.{Told}
use Rattle.bg_task.specs.Slices.{encoding_in}
use Rattle.bg_task.proofs.Prepares.{outside_here}
use Rattle.bg_task.proofs.Sliced.{clauses_by_marks}
use Rattle.bg_task.proofs.clauses.place_clauses.Goals as goal

pub returns-in-Ok : goal.returns-in-Ok
returns-in-Ok c es slice =
    let a = c.atoms_in-atoms.result.now in
    let t = spot_of c.args.question.place.now.spot in
    clauses_by_marks c.args.cut.now t a c.deref.result.now c.deref-2.result.now c.deref-3.result.now c.deref-4.result.now slice.spot c.atoms_in-atoms.ensures c.deref.ensures.value c.deref-2.ensures.value c.deref-3.ensures.value c.deref-4.ensures.value
    ∙ c.in-Ok.ensures

pub returns-in-Err-Range : goal.returns-in-Err-Range
returns-in-Err-Range c es slice =
    let p = program_of c.args.question.program.now in
    let w = c.args.question.prepared.now in
    let a = c.atoms_in-atoms.result.now in
    let x = encoding_in c.args.cut.now in
    let k = c.args.question.place.now.implementation in
    let t = spot_of c.args.question.place.now.spot in
    let same = clauses_by_marks c.args.cut.now t a c.deref.result.now c.deref-2.result.now c.deref-3.result.now c.deref-4.result.now slice.spot c.atoms_in-atoms.ensures c.deref.ensures.value c.deref-2.ensures.value c.deref-3.ensures.value c.deref-4.ensures.value in
    let told = subst (λ r. Told formula_of (Err r) (clauses_of a.first c.deref.result.now a.terms (marked_rows c.deref-2.result.now (map view_linear c.deref-3.result.now)) t (sliced t (map form_block_of c.deref-4.result.now)))) c.in-Err-Range.field-0-is c.in-Err-Range.ensures in
    outside_here p k w c.requires.prepared es t _ c.args.cut.now c.in-Err-Range.o x.named x.rows x.blocks slice refl (same ∙ told)
