use Rattle.std.proofs.Common.{◌∙◌}
use Rattle.std.proofs.lemmas.Result.{IfOk-weaker}
use Rattle.bg_fronts.proofs.Heads.{first_missing, second_missing, terms_there}
use Rattle.bg_fronts.proofs.stated.numbered.Goals as goal

pub returns-in_default : goal.returns-in_default
returns-in_default c =
    λ fs. first_missing fs c.args.count c.args.a c.args.b c.args.terms.now c.in_default.ensures.lookup.3

pub returns-in_default-get : goal.returns-in_default-get
returns-in_default-get c =
    λ fs.
    second_missing fs c.args.count c.args.a c.args.b c.args.terms.now c.in-Some.s.now c.in-Some.ensures.lookup.3.0 c.in-Some.ensures.lookup.1 c.in_default-get.ensures.lookup.3

pub returns : goal.returns
returns c =
    IfOk-weaker c.congruence.result _ _
    (λ z h. λ fs.
    h fs ∙ terms_there fs c.args.count c.args.a c.args.b c.args.terms.now c.in-Some.s.now c.in-Some-get.t.now c.in-Some.ensures.lookup.3.0 c.in-Some.ensures.lookup.1 c.in-Some-get.ensures.lookup.3.0 c.in-Some-get.ensures.lookup.1)
    c.congruence.ensures
