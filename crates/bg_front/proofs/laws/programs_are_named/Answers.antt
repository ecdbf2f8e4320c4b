use Rattle.std.proofs.Common.{ap, ◌∙◌}
use Rattle.bg_resolve.specs.Program.{named}
use Rattle.bg_front.specs.Programs.{with_guesses}
use Rattle.bg_front.proofs.Named.{is_named_in}
use Rattle.bg_front.proofs.laws.programs_are_named.Goals as goal

pub returns : goal.returns
returns c = λ guess bytes ds p h.
    let t = h.0 in
    t.is ∙ ap (with_guesses guess) (is_named_in bytes t.tokens t.written t.spelled ∙ ap named h.1)
