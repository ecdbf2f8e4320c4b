use Rattle.bg_ast.specs.Views.{target_of}
use Rattle.std.proofs.Common.{map, rules}
use Rattle.bg_blocks.specs.Views.{target_variable}
use Rattle.bg_model.proofs.Sharing.{forget_is, put_is}
use Rattle.bg_model.proofs.share.share_of.Goals as goal

pub returns-in-Forget : goal.returns-in-Forget
returns-in-Forget c = λ p. rw c.in-Forget.is (forget_is c.in-Forget.xs.items c.len.result (search rules))

pub returns-in-Put : goal.returns-in-Put
returns-in-Put c =
    λ p. rw (c.in-Put.is, c.assign.ensures) (put_is (map target_variable (map target_of c.in-Put.ts.now)) c.in-Put.ts.now c.in-Put.es.now _ (search rules))
