use Rattle.std.proofs.Common.{◌≡◌, drop}
use Rattle.bg_formed.specs.Views.{form_cmds_of}
use Rattle.bg_slice.specs.Slices.{guards_cmds}
use Rattle.bg_slice.specs.Marks.{marked}
use Rattle.bg_slice.proofs.guards.mark_guards.Given as goal

abbrev pub invariant-loop-k : goal.invariant-loop-k
invariant-loop-k l =
    marked (λ j. guards_cmds j (form_cmds_of (drop l.k-index l.cmds))) 0 l.marks ≡ marked (λ j. guards_cmds j (form_cmds_of l.cmds)) 0 l.fn.marks
