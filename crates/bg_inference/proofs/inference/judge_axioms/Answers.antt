use Rattle.std.proofs.Common.{◌≡◌, true, Some, refl, sym, ap, ◌∙◌, subst}
use Rattle.bg_ast.specs.Syntax.{Prog}
use Rattle.bg_ast.specs.Meaning.{meaning_of, named_of, impl_of}
use Rattle.bg_ast.specs.Views.{program_of}
use Rattle.bg_sense.specs.Typed.{IsTyped}
use Rattle.bg_sense.specs.Resolved.{IsResolved}
use Rattle.bg_sense.specs.Places.{places}
use Rattle.bg_fits.specs.Valued.{is_over_values}
use Rattle.bg_words.specs.Sets.{has}
use Rattle.bg_check.specs.Verdicts.{IsRight, judged}
use Rattle.bg_opened.specs.Axioms.{of_axioms, axiom_program, axiom_place}
use Rattle.bg_expanded.specs.Chains.{most_bodies}
use Rattle.bg_inference.proofs.Only.{only_one}
use Rattle.bg_inference.proofs.inference.judge_axioms.Goals as goal

pub infer-requires-clause-typed : goal.infer-requires-clause-typed
infer-requires-clause-typed g c κs within =
    let P = meaning_of (program_of c.args.program.now) in
    subst IsTyped (sym (ap meaning_of c.in_ok-axioms.ensures ∙ c.written_axiom_programs_are_those_of_the_meaning.ensures most_bodies (program_of c.args.program.now))) (c.opened_programs_are_over_values.ensures.typed most_bodies (of_axioms P) (c.axioms_have_a_program.ensures.openable most_bodies P c.requires.openable))

pub infer-requires-clause-scalars : goal.infer-requires-clause-scalars
infer-requires-clause-scalars g c κs within =
    let P = meaning_of (program_of c.args.program.now) in
    subst (λ (x : Prog). is_over_values x ≡ true) (sym (ap meaning_of c.in_ok-axioms.ensures ∙ c.written_axiom_programs_are_those_of_the_meaning.ensures most_bodies (program_of c.args.program.now))) (c.opened_programs_are_over_values.ensures.scalars most_bodies (of_axioms P) (c.axioms_have_a_program.ensures.openable most_bodies P c.requires.openable))

pub infer-requires-clause-resolved : goal.infer-requires-clause-resolved
infer-requires-clause-resolved g c κs within =
    let P = meaning_of (program_of c.args.program.now) in
    subst IsResolved (sym (ap meaning_of c.in_ok-axioms.ensures ∙ c.written_axiom_programs_are_those_of_the_meaning.ensures most_bodies (program_of c.args.program.now))) (c.opened_programs_are_over_values.ensures.resolved most_bodies (of_axioms P) (c.axioms_have_a_program.ensures.openable most_bodies P c.requires.openable))

pub returns-in-Some : goal.returns-in-Some
returns-in-Some g c =
    let P = meaning_of (program_of c.args.program.now) in
    let a = program_of c.in_ok-axioms.axioms in
    let truth = c.in_ok-outcome.ensures in
    let set = has c.in_ok-outcome.outcome.inferred.retained in
    let means = ap meaning_of c.in_ok-axioms.ensures ∙ c.written_axiom_programs_are_those_of_the_meaning.ensures most_bodies (program_of c.args.program.now) in
    let one = c.axioms_have_a_program.ensures.place most_bodies P in
    let found = only_one c.args.budget a set axiom_place refl _ (impl_of (named_of a.types)) a.implementations (judged c.in_ok-outcome.outcome.verdicts.items) (ap (λ (x : Prog). x.implementations) means) (c.placed_are_places.ensures a ∙ ap places means ∙ one) truth.ordinary in
    let same : Some c.in-Some.judged ≡ Some found.one = sym c.in-Some.is ∙ c.only.ensures found.one found.is in
    let here : c.in-Some.judged ≡ found.one = cc in
    (set, subst (λ v. IsRight c.args.budget (axiom_program most_bodies P) set axiom_place v) (ap (λ j. j.verdict) (sym here)) (subst (λ (x : Prog). IsRight c.args.budget x set axiom_place found.one.verdict) means found.right))
