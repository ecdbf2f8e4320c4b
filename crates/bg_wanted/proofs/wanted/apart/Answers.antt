use Rattle.std.proofs.Common.{length}
use Rattle.std.proofs.lemmas.Result.{IfOk-weaker}
use Rattle.bg_terms.specs.Typed.{types_with}
use Rattle.bg_wanted.proofs.Answering.{alike_of_one, alike_unfinished}
use Rattle.bg_wanted.proofs.wanted.apart.Goals as goal

pub returns : goal.returns
returns c =
    IfOk-weaker c.names_of.result _ _
    (λ made h. λ incs ts s len indexed alike.
    h incs ts s len indexed (alike_of_one s (length incs) ts (types_with incs ts) c.args.pair alike) (alike_unfinished s (length incs) ts (types_with incs ts) c.args.pair alike))
    c.names_of.ensures
