use Rattle.std.proofs.Common.{arith}
use Rattle.std.proofs.lemmas.List.{length-map}
use Rattle.bg_formula.specs.Atoms.{atom_of}
use Rattle.bg_formula.specs.Formulas.{formula_of}
use Rattle.bg_cert.specs.Causes.{units_of}
use Rattle.bg_cert.specs.Walks.{has}
use Rattle.bg_pick.proofs.Falses.{false_parts}
use Rattle.bg_pick.proofs.Rule.{unit_may_split, at_may_split, open_may_split, free_may_split}
use Rattle.bg_pick.proofs.pick.pick_atom.Goals as goal

pub returns-in-Some-clause-split : goal.returns-in-Some-clause-split
returns-in-Some-clause-split c =
    unit_may_split (formula_of c.args.problem.now.formula.now) (has c.args.problem.now.set.now) c.args.trail.now.decisions.items c.in-Some.a c.requires.whole c.in-Some.ensures.unit

pub returns-in-Some-suggest-clause-split : goal.returns-in-Some-suggest-clause-split
returns-in-Some-suggest-clause-split c =
    at_may_split (formula_of c.args.problem.now.formula.now) (has c.args.problem.now.set.now) c.args.trail.now.decisions.items c.in-Some-suggest.a c.requires.whole c.in_default.ensures.unit c.in-Some-suggest.ensures.stands

pub open_from-requires-clause-fine : goal.open_from-requires-clause-fine
open_from-requires-clause-fine c =
    let f = formula_of c.args.problem.now.formula.now in
    rw c.deref.ensures.value ((false_parts c.args.trail.now.decisions.items f.clauses (units_of f (has c.args.problem.now.set.now)) c.requires.fine).0)

pub returns-in-Some-open_from-clause-split : goal.returns-in-Some-open_from-clause-split
returns-in-Some-open_from-clause-split c =
    let v = c.deref.ensures.value in
    let h = c.in-Some-open_from.ensures.open in
    let g = rw v at h in
    open_may_split (formula_of c.args.problem.now.formula.now) (has c.args.problem.now.set.now) c.args.trail.now.decisions.items c.in-Some-open_from.a c.requires.whole c.in_default.ensures.unit g

pub returns-in-Some-free_from-clause-split : goal.returns-in-Some-free_from-clause-split
returns-in-Some-free_from-clause-split c =
    let v = c.deref.ensures.value in
    let h = c.in_default-open_from.ensures.open in
    let g = rw v at h in
    let x = c.in-Some-free_from.ensures.free in
    free_may_split (formula_of c.args.problem.now.formula.now) (has c.args.problem.now.set.now) c.args.trail.now.decisions.items c.in-Some-free_from.a c.requires.fine c.in_default.ensures.unit g x.0 (let l = x.1 in omega (arith, c.len.ensures, c.args.problem.now.formula.now.atoms.ok.0, length-map c.args.problem.now.formula.now.atoms.items atom_of))
