use Rattle.std.proofs.Common.{◌∙◌, ap}
use Rattle.std.proofs.lemmas.Result.{IfOk-weaker}
use Rattle.bg_ast.specs.Meaning as m
use Rattle.bg_ast.specs.Views.{ex_of}
use Rattle.bg_renamed.specs.Views.{env_of}
use Rattle.bg_renamed.proofs.Means.{renamed_means}
use Rattle.bg_renamed.proofs.exprs.renamed.Goals as goal

pub returns : goal.returns
returns c = IfOk-weaker c.expr.result _ _ (λ x is. ap m.ex_of is ∙ renamed_means (ex_of c.args.e.now) (env_of c.args.env.now)) c.expr.ensures
