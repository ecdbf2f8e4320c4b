use Rattle.std.proofs.Common.{◌≡◌, true, sym, subst}
use Rattle.bg_ast.specs.Syntax.{Prog}
use Rattle.bg_ast.specs.Meaning.{meaning_of}
use Rattle.bg_sense.specs.Typed.{IsTyped}
use Rattle.bg_sense.specs.Resolved.{IsResolved}
use Rattle.bg_cert.specs.Walks.{no_instance}
use Rattle.bg_fits.specs.Valued.{is_over_values}
use Rattle.bg_sound.specs.Told as t
use Rattle.bg_sound.specs.Sound.{IsSound}
use Rattle.bg_check.specs.Outcomes.{verdict_of}
use Rattle.bg_houdini.specs.Told as houdini
use Rattle.bg_opened.specs.Axioms.{of_axioms, axiom_program, axiom_place}
use Rattle.bg_opened.proofs.WrittenPrograms.{program_means}
use Rattle.bg_carried.specs.Carried.{carried, axioms_by}
use Rattle.bg_expanded.specs.Chains.{most_bodies}
use Rattle.bg_inference.specs.Outcomes.{judged_program}
use Rattle.bg_inference.proofs.Same.{same_told}
use Rattle.bg_inference.proofs.Telling.{true_at}
use Rattle.bg_inference.proofs.laws.true_outcomes_are_sound.Goals as goal

pub returns : goal.returns
returns c = λ keeps budget p o words openable truth.
    let P = meaning_of p in
    let q = judged_program p in
    let means = sym (program_means most_bodies p) in
    let over = c.opened_programs_are_over_values.ensures in
    let typed : IsTyped (meaning_of q) = subst IsTyped means (over.typed most_bodies P openable) in
    let scalars : is_over_values (meaning_of q) ≡ true = subst (λ (x : Prog). is_over_values x ≡ true) means (over.scalars most_bodies P openable) in
    let resolved : IsResolved (meaning_of q) = subst IsResolved means (over.resolved most_bodies P openable) in
    let of_all = c.axioms_have_a_program.ensures.openable most_bodies P openable in
    let axioms = c.axioms_are_told.ensures most_bodies P truth.set (verdict_of words o.axioms) openable
    (true_at (axiom_program most_bodies P) truth.set budget words axiom_place
    (λ es cert h i s cs f. c.proved_places_do_not_fail.ensures (axiom_program most_bodies P) truth.set truth.set axiom_place es cert (over.typed most_bodies (of_axioms P) of_all) (over.scalars most_bodies (of_axioms P) of_all) h (λ b u. c.accepted_where_used.ensures.inside h.formula truth.set no_instance cert h.accepted b u) i s cs f)
    o.axioms truth.axioms) in
    let sound : IsSound q (houdini.outcome_of words (meaning_of q) o.judged) = c.true_outcomes_are_sound.ensures keeps budget q o.judged words typed scalars resolved truth.judged in
    let carries : IsSound p (carried P (axioms_by (verdict_of words o.axioms)) (houdini.outcome_of words (meaning_of q) o.judged)) = c.reports_of_opened_programs_are_true.ensures most_bodies p (axioms_by (verdict_of words o.axioms)) (houdini.outcome_of words (meaning_of q) o.judged) openable axioms sound in
    subst (λ (x : t.Outcome). IsSound p (carried P (axioms_by (verdict_of words o.axioms)) x)) (same_told words o.judged p) carries
