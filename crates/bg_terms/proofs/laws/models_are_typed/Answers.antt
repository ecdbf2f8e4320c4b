use Rattle.std.proofs.Common.{length, refl}
use Rattle.bg_terms.proofs.Valued.{model_typed, model_fits}
use Rattle.bg_terms.proofs.laws.models_are_typed.Goals as goal

pub returns-clause-values : goal.returns-clause-values
returns-clause-values c functions i incs ts w tables terms order model first =
    model_typed functions i tables incs (length incs) refl ts terms order w model first

pub returns-clause-arguments : goal.returns-clause-arguments
returns-clause-arguments c functions i incs ts w tables terms order model first =
    model_fits functions i tables incs (length incs) refl ts terms order w model first
