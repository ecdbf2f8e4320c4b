use Rattle.std.proofs.Common.{◌≡◌, drop, map}
use Rattle.bg_ast.specs.Views.{proc_of}
use Rattle.bg_guess.specs.Calls.{above_procs}
use Rattle.bg_guess.proofs.calls.above_procedures.Given as goal

abbrev pub invariant-loop-q : goal.invariant-loop-q
invariant-loop-q l = above_procs l.most (map proc_of (drop l.q-index l.procedures)) ≡ above_procs 0 (map proc_of l.procedures)
