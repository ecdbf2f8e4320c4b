use Rattle.std.proofs.Common.{◌≡◌, ◌++◌, drop}
use Rattle.bg_places.specs.Views.{spot_in}
use Rattle.bg_flow.specs.Core.{demands}
use Rattle.bg_blocks.specs.Views.{clauses_in}
use Rattle.bg_passive.specs.Incarnations.{claims_in}
use Rattle.bg_renamed.specs.Views.{env_of}
use Rattle.bg_incarnate.specs.Views.{cmds_of}
use Rattle.bg_incarnate.proofs.clauses.claims.Given as goal

abbrev pub invariant-loop-k : goal.invariant-loop-k
invariant-loop-k l =
    cmds_of l.out.items ++ claims_in (env_of l.env) (demands (spot_in l.group) (clauses_in (drop l.k-index l.clauses))) ≡ cmds_of l.fn.out.items ++ claims_in (env_of l.env) (demands (spot_in l.group) (clauses_in l.clauses))
