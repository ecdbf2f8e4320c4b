-- How the code's blocks are read.
use Rattle.std.specs.Prelude.{List, [], ◌∷◌, map}
use Rattle.bg_ast.specs.Syntax as s
use Rattle.bg_ast.specs.Resolved as r
use Rattle.bg_ast.specs.Meaning as m
use Rattle.bg_ast.specs.Views.{ex_of, exs_in, clause_of, guard_of, target_of, call_of, proc_of, var_of}
use Rattle.bg_ast.specs.declared.resolved.Clause.{Clause}
use Rattle.bg_places.specs.Views.{spot_in}
use Rattle.bg_flow.specs.Core.{Cmd, Check, Suppose, Forget, Put, Perform, Finish, Saying, demands, sayings, plain, each_one, the_checked, the_free, plan_of}
use Rattle.bg_flow.specs.Blocks.{Exit, Leap, Either, Block}
use Rattle.bg_blocks.specs.declared.block.Kept.{Kept}
use Rattle.bg_blocks.specs.declared.block.Kept.TheVariants as kept
use Rattle.bg_blocks.specs.declared.block.Cmd as code
use Rattle.bg_blocks.specs.declared.block.Cmd.TheVariants as cmd
use Rattle.bg_blocks.specs.declared.block.Exit as out
use Rattle.bg_blocks.specs.declared.block.Exit.TheVariants as exit
use Rattle.bg_blocks.specs.declared.block.Block as whole

abbrev pub clauses_in : List Clause → List s.Clause
clauses_in ks = map m.clause_of (map clause_of ks)

abbrev pub sayings_in : Kept → List s.Clause → List Saying
sayings_in kept.Each ks = sayings each_one ks
sayings_in kept.Checked ks = sayings the_checked ks
sayings_in kept.Free ks = sayings the_free ks

abbrev pub target_variable : r.Target → s.Var
target_variable t = t.placed.variable

abbrev pub procedure_in : r.Program → r.Proc → s.Proc
procedure_in p = m.proc_of (m.named_of p.types)

-- a command of a program
abbrev pub cmd_of : r.Program → code.Cmd → Cmd
cmd_of p (cmd.Check group ks) = Check (demands (spot_in group) (clauses_in ks.now))
cmd_of p (cmd.Suppose which ks) = Suppose (sayings_in which (clauses_in ks.now))
cmd_of p (cmd.Assume e) = Suppose (plain (m.ex_of (ex_of e.now) ∷ []) [])
cmd_of p (cmd.Forget xs) = Forget (map var_of xs.items)
cmd_of p (cmd.Put ts es) = Put (map target_variable (map target_of ts.now)) (m.values_of (map target_of ts.now) (exs_in es.now))
cmd_of p (cmd.Perform k q xs) =
    Perform (record (plan_of (m.meaning_of p) (procedure_in p (proc_of q.now)) (m.call_of (call_of k.now))) { modifies = map var_of xs.now })
cmd_of p cmd.Finish = Finish

abbrev pub exit_of : out.Exit → Exit
exit_of (exit.Leap ks) = Leap ks.items
exit_of (exit.Either g on off) = Either (m.guard_of (guard_of g.now)) on off

abbrev pub block_of : r.Program → whole.Block → Block
block_of p b = record { cmds = map (cmd_of p) b.cmds.items; exit = exit_of b.exit }
