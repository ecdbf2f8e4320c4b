use Rattle.std.proofs.Common.{length, refl}
use Rattle.bg_terms.proofs.Typed.{flat_typed}
use Rattle.bg_terms.proofs.laws.flat_expressions_are_typed.Goals as goal

pub returns : goal.returns
returns c constants functions incs ts e x t terms ty h =
    flat_typed functions incs (length incs) ts refl terms constants e x t ty h
