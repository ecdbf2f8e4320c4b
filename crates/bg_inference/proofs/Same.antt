-- What is told of an outcome is the same of the program and of the opened one.
use Rattle.std.proofs.Common.{◌≡◌, ℕ, if◌then◌else◌, List, map, ap, ◌∙◌}
use Rattle.std.specs.List.{list_any}
use Rattle.bg_ast.specs.Syntax.{Prog}
use Rattle.bg_ast.specs.Resolved as r
use Rattle.bg_ast.specs.Meaning.{meaning_of}
use Rattle.bg_ast.specs.Execution.{Place}
use Rattle.bg_words.specs.Sets.{has}
use Rattle.bg_sound.specs.Told as t
use Rattle.bg_check.specs.declared.verdict.Cause.{Cause}
use Rattle.bg_check.specs.Verdicts.{judged}
use Rattle.bg_check.specs.Outcomes.{told}
use Rattle.bg_houdini.specs.declared.outcome.Outcome.{Outcome}
use Rattle.bg_houdini.specs.Told.{is_candidate, fate_by, first_of, each_below, are_known, outcome_of}
use Rattle.bg_opened.specs.Programs as o
use Rattle.bg_opened.proofs.Places.{places_alike}
use Rattle.bg_opened.proofs.WrittenPrograms.{program_means}
use Rattle.bg_expanded.specs.Chains.{most_bodies}
use Rattle.bg_inference.specs.Outcomes.{judged_program}

-- by the number of candidates and the places
abbrev told_by : (ℕ → Cause → t.Why) → Outcome → ℕ → List Place → t.Outcome
told_by words u n ts =
    record {
      axioms = t.Consistent;
      fates = each_below n (λ b. if has u.inferred.retained b then (if list_any (λ (x : Place). is_candidate b x.candidate) ts then t.Retained else t.Unchecked) else fate_by words (first_of b u.inferred.removals.items));
      is_greatest = are_known u.inferred.removals.items;
      implementations = map (told words) (judged u.verdicts.items);
    }

pub same_opened : (words : ℕ → Cause → t.Why) (u : Outcome) (p : Prog) → outcome_of words (o.opened_program most_bodies p) u ≡ outcome_of words p u
same_opened words u p = ap (told_by words u p.candidates) (places_alike most_bodies p)

pub same_told : (words : ℕ → Cause → t.Why) (u : Outcome) (p : r.Program) → outcome_of words (meaning_of (judged_program p)) u ≡ outcome_of words (meaning_of p) u
same_told words u p =
    ap (λ (q : Prog). outcome_of words q u) (program_means most_bodies p) ∙ same_opened words u (meaning_of p)
