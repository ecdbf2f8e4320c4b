use Rattle.std.proofs.Common.{◌+◌, ◌++◌, List, Bool, drop, sym, ap, ◌∙◌, arith}
use Rattle.bg_text.specs.Views.{id_of}
use Rattle.bg_accept.specs.Names.{marks}
use Rattle.bg_accept.specs.Retained.{texts}
use Rattle.bg_accept.proofs.Marking.{marked_yes, placed_yes, begins_within}
use Rattle.bg_accept.proofs.retained.mark.Goals as goal

pub returns-in_ok-push-clause-marked : goal.returns-in_ok-push-clause-marked
returns-in_ok-push-clause-marked c = λ cs.
    ap (λ (made : List Bool). made ++ marks cs (drop (c.args.number + 1) (texts c.args.names.now))) c.in_ok-push.ensures.items
    ∙ marked_yes c.args.made.now.items (id_of c.args.candidate.now) cs c.args.names.now c.args.number (sym c.is_next.ensures ∙ c.if-is_next.true)

pub returns-in_ok-push-clause-unplaced : goal.returns-in_ok-push-clause-unplaced
returns-in_ok-push-clause-unplaced c = λ cs.
    placed_yes (id_of c.args.candidate.now) cs c.args.names.now c.args.number (sym c.is_next.ensures ∙ c.if-is_next.true)

pub returns-in_ok-push-clause-within : goal.returns-in_ok-push-clause-within
returns-in_ok-push-clause-within c =
    let l = begins_within (id_of c.args.candidate.now) c.args.names.now c.args.number (sym c.is_next.ensures ∙ c.if-is_next.true) in
    omega (arith, l)
