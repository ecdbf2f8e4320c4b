use Rattle.std.proofs.Common.{◌≡◌, drop}
use Rattle.bg_formed.specs.Views.{form_cmds_of}
use Rattle.bg_slice.specs.Slices.{names_cmds}
use Rattle.bg_slice.specs.Marks.{marked}
use Rattle.bg_slice.proofs.marks.mark_cmds.Given as goal

abbrev pub invariant-loop-k : goal.invariant-loop-k
invariant-loop-k l =
    marked (λ n. names_cmds n (form_cmds_of (drop l.k-index l.cmds))) l.base l.marks ≡ marked (λ n. names_cmds n (form_cmds_of l.cmds)) l.base l.fn.marks
