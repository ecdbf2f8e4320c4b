use Rattle.std.proofs.Common.{sym, ◌∙◌, map}
use Rattle.std.proofs.lemmas.List.{at_drop_all}
use Rattle.bg_guess.specs.Lists.{has_name}
use Rattle.bg_ast.specs.Views.{declared_of}
use Rattle.bg_guess.proofs.frame.has_name.Goals as goal

pub returns : goal.returns
returns c =
    sym (at_drop_all (λ l. has_name c.args.name.now (map declared_of l)) c.args.declared.now c.loop-d.d-index c.loop-d-test.false) ∙ c.loop-d.invariant
