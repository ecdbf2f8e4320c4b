use Rattle.bg_wanted.specs.Selects.{HasSelects}
use Rattle.bg_wanted.specs.Asked.{looked_rows, IsOf, Goes}
use Rattle.bg_wanted.proofs.Going.{EachSoFar, OldAt}
use Rattle.bg_wanted.proofs.updates.at_all_old.Given as goal

abbrev pub invariant-loop-a : goal.invariant-loop-a
invariant-loop-a l =
    IsOf (looked_rows l.looked) l.update → HasSelects l.looked.selects.now (looked_rows l.looked) →
    Goes l.looked l.initial.wants l.wants (EachSoFar l.all l.a-index (OldAt l.looked l.update))
