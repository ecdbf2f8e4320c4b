use Rattle.std.proofs.lemmas.Result.{IfOk-weaker}
use Rattle.bg_kinds.specs.Views.{keys_of, ref_in}
use Rattle.bg_term_table.specs.Views.{terms_in}
use Rattle.bg_fronts.proofs.Spread.{one_map}
use Rattle.bg_fronts.proofs.parts.one_map.Goals as goal

pub returns : goal.returns
returns c =
    IfOk-weaker c.implied.result _ _
    (λ z h. λ fs.
    one_map c.args.at.count (terms_in fs c.args.at.terms.now) c.args.s.number c.args.r.number (keys_of c.args.keys.now) (ref_in c.args.gives.now) c.args.s.args.now c.args.r.args.now c.in-Some.first.now c.in-Some.index.now c.in-Some.ensures.cases.0 c.in-Some-split_first.second.now c.in-Some-split_first.others.now c.in-Some-split_first.ensures.cases.0 _ _ _ _ _ _ _ (c.in_ok-there.ensures fs) c.in_ok-same.ensures c.in_ok-there-2.ensures c.in_ok-alike.ensures c.in_ok-premise.ensures c.in_ok-conclusion.ensures h)
    c.implied.ensures
