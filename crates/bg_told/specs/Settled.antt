-- What reports in which nothing is unknown have in common.
use Rattle.std.specs.Prelude.{ℕ, Bool, not, ◌&&◌, List, [], map}
use Rattle.bg_ast.specs.Resolved.{Program}
use Rattle.bg_sound.specs.Told.{Verdict, Proved, Refuted, Unknown, Judged, Outcome, is_undecided, are_settled}
use Rattle.bg_told.specs.Report.{result_text}

-- nothing is unknown: the axioms are consistent or contradictory, no candidate was dropped for a cause, and each place is proved or refuted
abbrev pub is_settled : Outcome → Bool
is_settled o = not (is_undecided o.axioms) && (o.is_greatest && are_settled o.implementations)

-- of a counterexample it is told only that there is one: no values and no choices
abbrev pub bare_verdict : Verdict → Verdict
bare_verdict Proved = Proved
bare_verdict (Refuted i s ts choices) =
    Refuted (record { constants = []; tables = [] }) (record { globals = []; frame = [] }) [] []
bare_verdict (Unknown why) = Unknown why

abbrev pub bare : Judged → Judged
bare j = record { placed = j.placed; verdict = bare_verdict j.verdict }

abbrev pub without_counterexamples : Outcome → Outcome
without_counterexamples o =
    record {
      axioms = o.axioms;
      fates = o.fates;
      is_greatest = o.is_greatest;
      implementations = map (map bare) o.implementations;
    }

-- a report without the lines of its counterexamples: its axioms, candidates and retained set, each implementation with its word, each
-- place that isn't proved with its word and cause, and the summary
abbrev pub verdict_lines : Program → Outcome → List ℕ
verdict_lines p o = result_text p (without_counterexamples o)
