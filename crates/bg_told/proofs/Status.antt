-- The status of what is told.
use Rattle.std.proofs.Common.{◌≡◌, ℕ, Bool, ◌||◌, List, map, if◌then◌else◌, refl, sym, ap, ◌∙◌}
use Rattle.std.specs.List.{list_any}
use Rattle.bg_ast.specs.Syntax.{Prog}
use Rattle.bg_sound.specs.Told as t
use Rattle.bg_check.specs.Kept.{why_of}
use Rattle.bg_check.specs.declared.verdict.Verdict.{Verdict}
use Rattle.bg_check.specs.declared.verdict.Verdict.TheVariants as verdict
use Rattle.bg_check.specs.declared.verdict.Judged.{Judged}
use Rattle.bg_check.specs.Outcomes.{verdict_of, told}
use Rattle.bg_check.specs.Verdicts.{judged}
use Rattle.bg_carried.specs.Carried.{carried_one, axioms_by}
use Rattle.bg_inference.specs.declared.outcome.Outcome.{Outcome}
use Rattle.bg_inference.specs.Told.{outcome_of}
use Rattle.bg_told.specs.Views.{status_in}
use Rattle.bg_told.specs.Words.{word_for, with_axioms}
use Rattle.bg_told.proofs.Told.{places_told, unknown_told}
use Rattle.bg_told.proofs.Split.{refuted_too, unknown_too}

abbrev status_by : t.Axioms → Bool → Bool → ℕ
status_by a r u =
    if t.is_contradictory a || r then 1
    else if t.is_undecided a || u then 2
    else 0

by_axioms : (v : Verdict) (os : List (List Judged)) → status_in (with_axioms v (word_for os)) ≡ status_by (axioms_by (verdict_of why_of v)) (list_any t.has_refuted (map (told why_of) os)) (list_any t.has_unknown (map (told why_of) os))
by_axioms (verdict.Proved proof) os = refl
by_axioms (verdict.Refuted cex) os = places_told os
by_axioms (verdict.Unknown rounds cause) os = unknown_told os
by_axioms (verdict.Left kept) os = unknown_told os

pub status_told : (p : Prog) (o : Outcome) → status_in (with_axioms o.axioms (word_for (judged o.judged.verdicts.items))) ≡ t.status_of (outcome_of why_of p o)
status_told p o =
    let os = map (told why_of) (judged o.judged.verdicts.items) in
    let a = axioms_by (verdict_of why_of o.axioms) in
    by_axioms o.axioms (judged o.judged.verdicts.items)
    ∙ ap (λ (r : Bool). status_by a r (list_any t.has_unknown os)) (sym (refuted_too p os))
    ∙ ap (λ (u : Bool). status_by a (list_any t.has_refuted (map (map (carried_one p)) os)) u) (sym (unknown_too p os))
