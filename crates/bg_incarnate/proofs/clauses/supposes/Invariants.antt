use Rattle.std.proofs.Common.{◌≡◌, ◌++◌, drop}
use Rattle.bg_flow.specs.Core.{sayings}
use Rattle.bg_blocks.specs.Views.{clauses_in}
use Rattle.bg_passive.specs.Incarnations.{supposes_in}
use Rattle.bg_renamed.specs.Views.{env_of}
use Rattle.bg_incarnate.specs.Views.{cmds_of, is_kept_by}
use Rattle.bg_incarnate.proofs.clauses.supposes.Given as goal

abbrev pub invariant-loop-k : goal.invariant-loop-k
invariant-loop-k l =
    cmds_of l.out.items ++ supposes_in (env_of l.env) (sayings (is_kept_by l.which) (clauses_in (drop l.k-index l.clauses))) ≡ cmds_of l.fn.out.items ++ supposes_in (env_of l.env) (sayings (is_kept_by l.which) (clauses_in l.clauses))
