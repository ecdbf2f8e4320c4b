use Rattle.std.proofs.Common.{length, refl}
use Rattle.bg_terms.proofs.Closed.{stands, all_right}
use Rattle.bg_terms.proofs.laws.finished_leaves_give_models.Goals as goal

pub returns-clause-stand : goal.returns-clause-stand
returns-clause-stand c functions incs ts s w terms typed done values =
    stands functions incs (length incs) ts refl terms s typed done w values

pub returns-clause-right : goal.returns-clause-right
returns-clause-right c functions incs ts s w i defaults terms typed done values read =
    all_right functions incs (length incs) ts refl terms s typed done w values i defaults read
