use Rattle.std.proofs.Common.{◌≡◌, Err, ◌∷◌, [], get_or, rules, sym, ◌∙◌, arith}
use Rattle.bg_base.specs.declared.exact.OutOfRange.{OutOfRange}
use Rattle.bg_rows.specs.Rows.{negations, after}
use Rattle.bg_rows.proofs.Steps.{negations_more, negations_end, told_end, nothing}
use Rattle.bg_rows.proofs.sums.negations.Goals as goal

pub loop-t-preserved : goal.loop-t-preserved
loop-t-preserved c =
    sym (negations_more c.loop-t.made.items c.args.entries.now c.loop-t.t-index c.push_negation.new.made.items (omega arith) c.in_ok-push_negation.ensures) ∙ c.loop-t.invariant

pub returns-in_err-push_negation : goal.returns-in_err-push_negation
returns-in_err-push_negation c =
    let is : c.from_residual-in_err-push_negation.result ≡ Err c.in_err-push_negation.field-0.0 = search rules in
    let ended = λ (o : OutOfRange) (s : after c.loop-t.made.items (negations (get_or c.args.entries.now c.loop-t.t-index nothing ∷ [])) ≡ Err o). sym c.loop-t.invariant ∙ negations_end c.loop-t.made.items c.args.entries.now c.loop-t.t-index o (omega arith) s in
    told_end {A = Unit {0}} (λ _. c.push_negation.new.made.items) (λ v. v.items) c.from_residual-in_err-push_negation.result c.in_err-push_negation.field-0.0 _ (negations c.args.entries.now) ended c.in_err-push_negation.ensures is
