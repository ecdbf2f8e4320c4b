-- The meaning of each form of a statement that holds statements, at the lists that the code meets.
use Rattle.std.proofs.Common.{◌≡◌, ℕ, map, ap, Vec, Global}
use Rattle.bg_base.specs.declared.pos.Pos.{Pos}
use Rattle.bg_ast.specs.Syntax as s
use Rattle.bg_ast.specs.Meaning as m
use Rattle.bg_ast.specs.declared.resolved.Clause.{Clause}
use Rattle.bg_ast.specs.declared.resolved.Guard.{Guard}
use Rattle.bg_ast.specs.declared.resolved.Arm.{Arm}
use Rattle.bg_ast.specs.declared.resolved.Stmt.{Stmt}
use Rattle.bg_ast.specs.declared.resolved.Stmt.TheVariants as stmt
use Rattle.bg_ast.specs.Views.{st_of, sts_in, arms_from, arm_view, guard_of, clause_of}
use Rattle.bg_ast.proofs.Lists as w

pub st-If : (n : ℕ) (arms : Vec Arm Global) (ss : Vec Stmt Global) → m.st_of (st_of (stmt.If n arms ss)) ≡ m.arms_of n (arms_from (map arm_view arms.items)) (m.sts_of (sts_in ss.items))
st-If n arms ss = ap m.st_of (w.st_of-If n arms ss)

pub st-While : (n : ℕ) (q : Pos) (g : Guard) (is : Vec Clause Global) (ss : Vec Stmt Global) → m.st_of (st_of (stmt.While n q g is ss)) ≡ s.While n (m.guard_of (guard_of g)) (map m.clause_of (map clause_of is.items)) (m.sts_of (sts_in ss.items))
st-While n q g is ss = ap m.st_of (w.st_of-While n q g is ss)

pub ruleset st_forms = (st-If, st-While)
