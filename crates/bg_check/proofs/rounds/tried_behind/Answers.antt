use Rattle.std.proofs.Common.{[], ◌++◌, ap, ◌∙◌}
use Rattle.bg_ast.specs.Views.{program_of}
use Rattle.bg_cert.specs.Walks.{has}
use Rattle.bg_places.specs.Views.{placed_of}
use Rattle.bg_check.proofs.Standing.{round_there, more_there, first_there}
use Rattle.bg_check.proofs.rounds.tried_behind.Goals as goal

pub tried-requires-clause-there : goal.tried-requires-clause-there
tried-requires-clause-there c =
    let p = program_of c.args.question.program.now in
    let t = (placed_of c.args.question.place.now).place in
    let w = c.args.question.prepared.now in
    more_there p t.implementation w [] c.args.round.now.lines.items c.push_all.new.made.items (round_there p (has c.args.question.set.now) t w [] c.args.round.now (first_there p t.implementation w) c.requires.round) (c.in_ok-push_all.ensures ∙ (ap (λ xs. xs ++ c.deref.result.now) c.new-lines.ensures.items ∙ c.deref.ensures.value))
