use Rattle.bg_ast.specs.Meaning.{meaning_of}
use Rattle.bg_ast.specs.Views.{program_of}
use Rattle.bg_cert.specs.Walks.{has}
use Rattle.bg_places.specs.Views.{placed_of}
use Rattle.bg_check.proofs.implementation.judge.Goals as goal

pub returns-clause-right : goal.returns-clause-right
returns-clause-right c =
    c.kept_if.ensures.right c.args.effort.budget (meaning_of (program_of c.args.question.program.now)) (has c.args.question.set.now) (placed_of c.args.question.place.now).place c.in_ok-verdict.ensures.right
