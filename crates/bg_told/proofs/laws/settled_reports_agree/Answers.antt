use Rattle.std.proofs.Common.{◌≡◌, true, sym, subst}
use Rattle.bg_ast.specs.Syntax.{Prog}
use Rattle.bg_ast.specs.Meaning.{meaning_of}
use Rattle.bg_sense.specs.Typed.{IsTyped}
use Rattle.bg_sense.specs.Resolved.{IsResolved}
use Rattle.bg_fits.specs.Valued.{is_over_values}
use Rattle.bg_expanded.specs.Chains.{most_bodies}
use Rattle.bg_inference.specs.Outcomes.{judged_program}
use Rattle.bg_inference.specs.Told.{outcome_of}
use Rattle.bg_opened.proofs.WrittenPrograms.{program_means}
use Rattle.bg_told.proofs.Settled.{parts, lines_agree}
use Rattle.bg_told.proofs.laws.settled_reports_agree.Goals as goal

pub returns : goal.returns
returns c = λ keeps keeping budget other p o q words openable x y m n.
    let P = meaning_of p in
    let f = c.true_outcomes_are_sound.ensures keeps budget p o words openable x in
    let g = c.true_outcomes_are_sound.ensures keeping other p q words openable y in
    let means = sym (program_means most_bodies p) in
    let over = c.opened_programs_are_over_values.ensures in
    let typed : IsTyped (meaning_of (judged_program p)) = subst IsTyped means (over.typed most_bodies P openable) in
    let scalars : is_over_values (meaning_of (judged_program p)) ≡ true = subst (λ (s : Prog). is_over_values s ≡ true) means (over.scalars most_bodies P openable) in
    let resolved : IsResolved (meaning_of (judged_program p)) = subst IsResolved means (over.resolved most_bodies P openable) in
    lines_agree keeps keeping budget other p o q words x y f g (parts (outcome_of words P o) m) (parts (outcome_of words P q) n)
    (λ a b. c.outcomes_agree.ensures keeps keeping budget other (judged_program p) o.judged q.judged typed scalars resolved x.judged y.judged a b)
    (λ a b. c.greatest_sets_agree.ensures p (outcome_of words P o) (outcome_of words P q) f g a b)
