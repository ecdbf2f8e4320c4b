-- What each form of a statement may change, at the lists that the code meets.
use Rattle.std.proofs.Common.{◌≡◌, ℕ, List, map, ap, Vec, Global}
use Rattle.bg_base.specs.declared.pos.Pos.{Pos}
use Rattle.bg_ast.specs.Resolved.{Proc}
use Rattle.bg_ast.specs.declared.resolved.Clause.{Clause}
use Rattle.bg_ast.specs.declared.resolved.Guard.{Guard}
use Rattle.bg_ast.specs.declared.resolved.Arm.{Arm}
use Rattle.bg_ast.specs.declared.resolved.Stmt.{Stmt}
use Rattle.bg_ast.specs.declared.resolved.Stmt.TheVariants as stmt
use Rattle.bg_ast.specs.Views.{st_of, sts_in, arms_from, arm_view}
use Rattle.bg_ast.proofs.Lists as w
use Rattle.bg_changes.specs.Marks.{Marks, mark_st, mark_sts, mark_arms}

pub mark-If : (qs : List Proc) (m : Marks) (n : ℕ) (arms : Vec Arm Global) (ss : Vec Stmt Global) → mark_st qs (st_of (stmt.If n arms ss)) m ≡ mark_sts qs (sts_in ss.items) (mark_arms qs (arms_from (map arm_view arms.items)) m)
mark-If qs m n arms ss = ap (λ s. mark_st qs s m) (w.st_of-If n arms ss)

pub mark-While : (qs : List Proc) (m : Marks) (n : ℕ) (q : Pos) (g : Guard) (is : Vec Clause Global) (ss : Vec Stmt Global) → mark_st qs (st_of (stmt.While n q g is ss)) m ≡ mark_sts qs (sts_in ss.items) m
mark-While qs m n q g is ss = ap (λ s. mark_st qs s m) (w.st_of-While n q g is ss)

pub ruleset mark_forms = (mark-If, mark-While)
