use Rattle.std.proofs.Common.{drop, sym, ap, ◌∙◌, arith}
use Rattle.bg_accept.specs.Names.{unplaced}
use Rattle.bg_accept.specs.Retained.{texts}
use Rattle.bg_accept.proofs.Marking.{rest_there, candidates_gone}
use Rattle.bg_accept.proofs.retained.retained_names.Goals as goal

pub returns-then-number-names : goal.returns-then-number-names
returns-then-number-names c =
    let gone = candidates_gone c.args.candidates.now c.loop-candidate.candidate-index (omega arith) in
    sym c.loop-candidate.invariant.unplaced
    ∙ (ap (λ cs. unplaced cs (drop c.loop-candidate.number (texts c.args.names.now))) gone ∙ rest_there c.args.names.now c.loop-candidate.number _ c.if-number-names.true)
