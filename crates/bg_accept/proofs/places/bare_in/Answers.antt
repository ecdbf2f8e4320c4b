use Rattle.std.proofs.Common.{◌<◌, ◌≤◌, Bool, length, map, get_or, ap, ◌∙◌, subst, arith}
use Rattle.bg_ast.specs.Meaning.{meaning_of}
use Rattle.bg_ast.specs.Views.{program_of}
use Rattle.bg_cert.specs.Walks.{has}
use Rattle.bg_places.specs.Views.{placed_of}
use Rattle.bg_certtext.specs.Views.{section_of}
use Rattle.bg_accept.specs.Tables.{section_of_number}
use Rattle.bg_accept.specs.Reading.{IsFine}
use Rattle.bg_accept.proofs.Settled.{no_place, prepared_here, one_shown, one_bare, all_shown}
use Rattle.bg_accept.proofs.places.bare_in.Goals as goal

pub is_fine-requires-clause-prepared : goal.is_fine-requires-clause-prepared
is_fine-requires-clause-prepared c =
    let q = c.args.reading in
    let l : c.loop-number.number < length c.args.places.now = omega arith in
    prepared_here (program_of q.program.now) (has q.set.now) (map section_of q.sections.now) c.args.implementation c.args.places.now c.loop-number.number no_place c.args.prepared.now c.requires.places l c.requires.prepared

pub returns-then-not-branch : goal.returns-then-not-branch
returns-then-not-branch c =
    let q = c.args.reading in
    let p = program_of q.program.now in
    let ss = map section_of q.sections.now in
    let n = c.loop-number.number in
    let l : n < length c.args.places.now = omega arith in
    let u = (placed_of (get_or c.args.places.now n no_place)).place in
    let o = section_of_number ss c.first_in-first.result in
    let s = ap (section_of_number ss) c.first_in-first.ensures ∙ c.requires.row n l in
    let fine = subst (λ (b : Bool). IsFine (meaning_of p) (has q.set.now) p.candidates o u b) c.if-not-branch.true c.in_ok-is_fine.ensures in
    one_bare p (has q.set.now) ss c.args.implementation c.args.places.now n no_place o c.requires.places l s fine c.loop-number.invariant

pub loop-number-preserved : goal.loop-number-preserved
loop-number-preserved c =
    let q = c.args.reading in
    let p = program_of q.program.now in
    let ss = map section_of q.sections.now in
    let n = c.loop-number.number in
    let l : n < length c.args.places.now = omega arith in
    let u = (placed_of (get_or c.args.places.now n no_place)).place in
    let o = section_of_number ss c.first_in-first.result in
    let s = ap (section_of_number ss) c.first_in-first.ensures ∙ c.requires.row n l in
    let fine = subst (λ (b : Bool). IsFine (meaning_of p) (has q.set.now) p.candidates o u b) c.if-not-branch.false c.in_ok-is_fine.ensures in
    one_shown p (has q.set.now) ss c.args.implementation c.args.places.now n no_place o c.requires.places l s fine c.loop-number.invariant

pub returns : goal.returns
returns c =
    let q = c.args.reading in
    let l : length c.args.places.now ≤ c.loop-number.number = omega arith in
    all_shown (program_of q.program.now) (has q.set.now) (map section_of q.sections.now) c.args.implementation c.args.places.now c.loop-number.number c.requires.places l c.loop-number.invariant
