-- Verdicts as what a report tells; a cause has words behind a number of rounds, and one that wasn't kept has its own.
use Rattle.std.specs.Prelude.{ℕ, Bool, List, length, map, filter}
use Rattle.bg_kinds.specs.Views.{ref_in}
use Rattle.bg_model.specs.Interps.{interp_of}
use Rattle.bg_scalar.specs.Choices.{choice_of, state_of}
use Rattle.bg_scalar.specs.Views.{vals_in}
use Rattle.bg_sound.specs.Told as t
use Rattle.bg_check.specs.declared.verdict.Cause.{Cause}
use Rattle.bg_check.specs.declared.verdict.Verdict.{Verdict}
use Rattle.bg_check.specs.declared.verdict.Verdict.TheVariants.{Proved, Refuted, Unknown, Left}
use Rattle.bg_check.specs.declared.verdict.Judged.{Judged}
use Rattle.bg_check.specs.Kept.{told_kept}
use Rattle.bg_check.specs.Verdicts.{placed_at}

abbrev pub verdict_of : (ℕ → Cause → t.Why) → Verdict → t.Verdict
verdict_of words (Proved proof) = t.Proved
verdict_of words (Refuted cex) =
    t.Refuted (interp_of cex) (state_of (vals_in cex.globals.items) (vals_in cex.frame.items)) (map ref_in cex.kinds.items) (map choice_of cex.choices.items)
verdict_of words (Unknown rounds cause) = t.Unknown (words (length rounds.items) cause)
verdict_of words (Left kept) = t.Unknown (told_kept kept)

abbrev pub told_one : (ℕ → Cause → t.Why) → Judged → t.Judged
told_one words j = record { placed = placed_at j; verdict = verdict_of words j.verdict }

abbrev pub is_ordinary : Judged → Bool
is_ordinary j = t.is_ordinary (placed_at j)

-- the ordinary places
abbrev pub told : (ℕ → Cause → t.Why) → List Judged → List t.Judged
told words js = map (told_one words) (filter is_ordinary js)
