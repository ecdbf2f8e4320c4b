use Rattle.std.proofs.Common.{◌≡◌, ℕ, true, List, length, map}
use Rattle.bg_ast.specs.Values.{Val, Ty}
use Rattle.bg_sense.specs.Types.{are_of}
use Rattle.bg_terms.specs.Terms.{Term}
use Rattle.bg_terms.specs.Alike.{StandFor, scalar_ty}
use Rattle.bg_terms.specs.Closed.{IsFinished}
use Rattle.bg_terms.specs.Typed.{types_with}
use Rattle.bg_read_off.specs.Leaves.{AreBuilt}
use Rattle.bg_read_off.proofs.Standing.{each_scalar}
use Rattle.bg_read_off.proofs.laws.finished_leaves_stand.Goals as goal

pub returns : goal.returns
returns c =
    let stand : (n : ℕ) (ts : List Term) (tys : List Ty) (s w : List Val) → are_of (map scalar_ty tys) s ≡ true → AreBuilt n ts tys s w → IsFinished s n ts tys → StandFor tys w s = λ n ts tys s w typed built done. c.scalars_stand_for_what_is_built.ensures tys s w n ts (each_scalar tys s typed) done.apart built in
    record {
      stand = stand;
      congruent =
          λ fs incs ts s w terms typed built done.
          c.congruences_stay.ensures fs incs ts s w terms (stand (length incs) ts (types_with incs ts) s w typed built done) done.congruent;
    }
