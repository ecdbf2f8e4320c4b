-- How the code's passive blocks and incarnations are read.
use Rattle.std.specs.Prelude.{ℕ, Bool, List, ◌++◌, map}
use Rattle.bg_text.specs.Views.{option_of}
use Rattle.bg_ast.specs.declared.resolved.Variable.{Variable}
use Rattle.bg_ast.specs.Resolved as r
use Rattle.bg_ast.specs.Meaning as m
use Rattle.bg_ast.specs.Views.{ex_of, candidate_of, var_of}
use Rattle.bg_places.specs.Views.{spot_of}
use Rattle.bg_flow.specs.Core.{Plan, plan_of, each_one, the_checked, the_free}
use Rattle.bg_blocks.specs.declared.block.Kept.{Kept}
use Rattle.bg_blocks.specs.declared.block.Kept.TheVariants as kept
use Rattle.bg_blocks.specs.Views.{procedure_in}
use Rattle.bg_passive.specs.Passive.{PassiveCmd, Claims, Supposes, Edge, PassiveBlock}
use Rattle.bg_passive.specs.Incarnations.{Env, Passed, Arrival}
use Rattle.bg_incarnate.specs.declared.held.Held.{Held}
use Rattle.bg_incarnate.specs.declared.blocks.PassiveCmd as code
use Rattle.bg_incarnate.specs.declared.blocks.PassiveCmd.TheVariants as cmd
use Rattle.bg_incarnate.specs.declared.blocks.Edge as way
use Rattle.bg_incarnate.specs.declared.blocks.PassiveBlock as whole
use Rattle.bg_incarnate.specs.declared.blocks.Incarnations.{Incarnations}

abbrev pub passive_cmd_of : code.PassiveCmd → PassiveCmd
passive_cmd_of (cmd.Claims s b e) = Claims (spot_of s) (option_of candidate_of b) (m.ex_of (ex_of e))
passive_cmd_of (cmd.Supposes b e) = Supposes (option_of candidate_of b) (m.ex_of (ex_of e))

abbrev pub cmds_of : List code.PassiveCmd → List PassiveCmd
cmds_of ks = map passive_cmd_of ks

abbrev pub edge_of : way.Edge → Edge
edge_of e = record { cmds = cmds_of e.cmds.items; to = e.to }

abbrev pub passive_block_of : whole.PassiveBlock → PassiveBlock
passive_block_of b = record { cmds = cmds_of b.cmds.items; next = map edge_of b.next.items }

-- the incarnations of the globals, and those of the frame
abbrev pub incarnations_of : Incarnations → List ℕ × List ℕ
incarnations_of h = (h.globals.items, h.frame.items)

-- the same at an arrival
abbrev pub incarnations_at : Arrival → List ℕ × List ℕ
incarnations_at a = (a.env.globals, a.env.frame)

abbrev pub held_env : Held → Env
held_env h = record { globals = h.globals.items; before = h.before.now; frame = h.frame.items }

-- commands so far, and the incarnations behind them
abbrev pub passed_of : List code.PassiveCmd → Held → ℕ → Passed
passed_of ks h n = record { cmds = cmds_of ks; env = held_env h; next = n }

-- what is passed behind what was passed
abbrev pub onto : (Env → ℕ → Passed) → Passed → Passed
onto f s = let d = f s.env s.next in record { cmds = s.cmds ++ d.cmds; env = d.env; next = d.next }

-- which clauses are assumed
abbrev pub is_kept_by : Kept → Bool → Bool
is_kept_by kept.Each = each_one
is_kept_by kept.Checked = the_checked
is_kept_by kept.Free = the_free

-- a call of a procedure that modifies these variables
abbrev pub plan_in : r.Program → r.Call → r.Proc → List Variable → Plan
plan_in p k q xs = record (plan_of (m.meaning_of p) (procedure_in p q) (m.call_of k)) { modifies = map var_of xs }
