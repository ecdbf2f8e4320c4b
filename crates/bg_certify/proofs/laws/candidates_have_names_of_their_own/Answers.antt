use Rattle.std.proofs.Common.{sym, subst}
use Rattle.bg_certify.specs.Names.{HasOwnNames}
use Rattle.bg_certify.proofs.Own.{own_names}
use Rattle.bg_certify.proofs.laws.candidates_have_names_of_their_own.Goals as goal

pub returns : goal.returns
returns c = λ bytes p h. subst HasOwnNames (sym h.is) (own_names h.spelled.decls h.written h.spelled.meant)
