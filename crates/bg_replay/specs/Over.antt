-- Blocks whose expressions have no constants, which were replaced.
use Rattle.std.specs.Prelude.{Bool, true, ◌&&◌, List, [], ◌∷◌}
use Rattle.bg_ast.specs.Syntax.{Star, Test}
use Rattle.bg_flow.specs.Core.{Demand, Saying, Plan, Cmd, Check, Suppose, Forget, Put, Perform, Finish}
use Rattle.bg_flow.specs.Blocks.{Exit, Leap, Either, Block}
use Rattle.bg_scalar.specs.Typed.{is_valued, are_valued}

abbrev pub over_demands : List Demand → Bool
over_demands [] = true
over_demands (d ∷ ds) = is_valued d.says && over_demands ds

abbrev pub over_sayings : List Saying → Bool
over_sayings [] = true
over_sayings (d ∷ ds) = is_valued d.says && over_sayings ds

abbrev pub over_plan : Plan → Bool
over_plan k = are_valued k.args && (over_demands k.needs && over_sayings k.gives)

abbrev pub over_cmd : Cmd → Bool
over_cmd (Check ds) = over_demands ds
over_cmd (Suppose ds) = over_sayings ds
over_cmd (Forget xs) = true
over_cmd (Put xs es) = are_valued es
over_cmd (Perform k) = over_plan k
over_cmd Finish = true

abbrev pub over_exit : Exit → Bool
over_exit (Leap ks) = true
over_exit (Either Star on off) = true
over_exit (Either (Test e) on off) = is_valued e

abbrev pub over_cmds : List Cmd → Bool
over_cmds [] = true
over_cmds (k ∷ ks) = over_cmd k && over_cmds ks

abbrev pub over_blocks : List Block → Bool
over_blocks [] = true
over_blocks (b ∷ bs) = over_cmds b.cmds && (over_exit b.exit && over_blocks bs)
