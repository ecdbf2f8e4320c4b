-- What is told of an opened program, as what is told of the program.
use Rattle.std.specs.Prelude.{map}
use Rattle.bg_ast.specs.Syntax.{Prog}
use Rattle.bg_opened.specs.Moments.{interp_in, without_constants}
use Rattle.bg_sound.specs.Told.{Axioms, Consistent, Contradictory, Undecided, Verdict, Proved, Refuted, Unknown, Judged, Outcome}

-- a counterexample's state holds the values of the constants, and its interpretation the tables of functions without a body
abbrev pub carried_verdict : Prog → Verdict → Verdict
carried_verdict p Proved = Proved
carried_verdict p (Refuted i s ts choices) = Refuted (interp_in p i s) (without_constants p s) ts choices
carried_verdict p (Unknown why) = Unknown why

abbrev pub carried_one : Prog → Judged → Judged
carried_one p j = record { placed = j.placed; verdict = carried_verdict p j.verdict }

-- with this word on the axioms
abbrev pub carried : Prog → Axioms → Outcome → Outcome
carried p axioms o =
    record {
      axioms = axioms;
      fates = o.fates;
      is_greatest = o.is_greatest;
      implementations = map (map (carried_one p)) o.implementations;
    }

-- the word on the axioms, by what is known of the one place of their own program
abbrev pub axioms_by : Verdict → Axioms
axioms_by Proved = Contradictory
axioms_by (Refuted i s ts choices) = Consistent
axioms_by (Unknown why) = Undecided why
