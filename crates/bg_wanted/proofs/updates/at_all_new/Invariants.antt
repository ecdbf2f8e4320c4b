use Rattle.bg_wanted.specs.Selects.{HasSelects}
use Rattle.bg_wanted.specs.Asked.{looked_rows, IsOf, Goes}
use Rattle.bg_wanted.proofs.Going.{EachSoFar, NewAt}
use Rattle.bg_wanted.proofs.updates.at_all_new.Given as goal

abbrev pub invariant-loop-a : goal.invariant-loop-a
invariant-loop-a l =
    IsOf (looked_rows l.looked) l.update → HasSelects l.looked.selects.now (looked_rows l.looked) →
    Goes l.looked l.initial.wants l.wants (EachSoFar l.all l.a-index (NewAt l.looked l.update))
