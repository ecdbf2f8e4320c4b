use Rattle.std.proofs.Common.{arith, ◌∙◌}
use Rattle.std.proofs.lemmas.Result.{IfOk-weaker}
use Rattle.bg_keep.proofs.Forms.{behind_none, behind_some}
use Rattle.bg_keep.proofs.clauses.behind_first.Goals as goal

pub returns-then-len-eq0 : goal.returns-then-len-eq0
returns-then-len-eq0 c = behind_none c.args.e c.in-Chain.first c.in-Chain.links c.in-Chain.is (omega arith)

pub returns-else-len-eq0 : goal.returns-else-len-eq0
returns-else-len-eq0 c =
    IfOk-weaker
    c.chain.result
    _
    _
    (λ x h. h ∙ behind_some c.args.e c.in-Chain.first c.in-Chain.links c.remove-link.new.self.items c.remove-link.result c.in-Chain.is (omega arith) c.remove-link.ensures.value c.remove-link.ensures.items)
    c.chain.ensures
