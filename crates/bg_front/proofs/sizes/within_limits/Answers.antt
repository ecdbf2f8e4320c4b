use Rattle.std.proofs.Common.{◌≡◌, subst, option_map}
use Rattle.bg_ast.specs.Views.{program_of}
use Rattle.bg_front.specs.Programs.{too_many, too_large, with_guesses}
use Rattle.bg_front.specs.Refusals.{refusal_of}
use Rattle.bg_front.proofs.Large.{no_limit, size_is_limit}
use Rattle.bg_front.proofs.sizes.within_limits.Goals as goal

pub returns-in-Ok-None-too_large-clause-within : goal.returns-in-Ok-None-too_large-clause-within
returns-in-Ok-None-too_large-clause-within c =
    let w = with_guesses c.args.guess (program_of c.args.program) in
    no_limit w (subst (λ o. option_map refusal_of o ≡ too_many w) c.in-Ok-None.field-0-is c.in-Ok-None.ensures)
    (subst (λ o. option_map refusal_of o ≡ too_large w) c.in-Ok-None-too_large.field-0-is (subst (λ q. option_map refusal_of c.in-Ok-None-too_large.field-0 ≡ too_large q) c.in-Ok.ensures c.in-Ok-None-too_large.ensures))

pub returns-in-Ok-Some-too_large-clause-limit : goal.returns-in-Ok-Some-too_large-clause-limit
returns-in-Ok-Some-too_large-clause-limit c =
    let w = with_guesses c.args.guess (program_of c.args.program) in
    size_is_limit w (refusal_of c.in-Ok-Some-too_large.limit) (subst (λ o. option_map refusal_of o ≡ too_many w) c.in-Ok-None.field-0-is c.in-Ok-None.ensures)
    (subst (λ o. option_map refusal_of o ≡ too_large w) c.in-Ok-Some-too_large.field-0-is (subst (λ q. option_map refusal_of c.in-Ok-Some-too_large.field-0 ≡ too_large q) c.in-Ok.ensures c.in-Ok-Some-too_large.ensures))
