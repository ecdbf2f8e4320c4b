use Rattle.bg_wanted.proofs.Settling.{finished, settled}
use Rattle.bg_wanted.proofs.Leaves.{each_scalar}
use Rattle.bg_wanted.proofs.laws.finished_leaves_are_settled.Goals as goal

pub returns : goal.returns
returns c =
    record {
      settled = λ fs incs ts s terms typed done. settled fs incs ts terms s (each_scalar incs ts s typed) done;
      finished = λ fs incs ts s terms typed done. finished fs incs ts terms s (each_scalar incs ts s typed) done;
    }
