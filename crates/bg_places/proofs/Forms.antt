-- The places of each form of a statement, at the lists that the code meets.
use Rattle.std.proofs.Common.{◌≡◌, ℕ, ◌++◌, List, map, ap, None, Vec, Global}
use Rattle.bg_base.specs.declared.pos.Pos.{Pos}
use Rattle.bg_ast.specs.Execution.{AtEntry, AfterTurn}
use Rattle.bg_ast.specs.Resolved.{Proc}
use Rattle.bg_ast.specs.declared.resolved.Clause.{Clause}
use Rattle.bg_ast.specs.declared.resolved.Guard.{Guard}
use Rattle.bg_ast.specs.declared.resolved.Arm.{Arm}
use Rattle.bg_ast.specs.declared.resolved.Stmt.{Stmt}
use Rattle.bg_ast.specs.declared.resolved.Stmt.TheVariants as stmt
use Rattle.bg_ast.specs.Views.{st_of, sts_in, arms_from, arm_view, clause_of}
use Rattle.bg_ast.proofs.Lists as w
use Rattle.bg_places.specs.Placed.{placed_st, placed_sts, placed_arms, placed_clauses}

pub placed-If : (qs : List Proc) (m n : ℕ) (arms : Vec Arm Global) (ss : Vec Stmt Global) → placed_st qs m (st_of (stmt.If n arms ss)) ≡ placed_arms qs m (arms_from (map arm_view arms.items)) ++ placed_sts qs m (sts_in ss.items)
placed-If qs m n arms ss = ap (placed_st qs m) (w.st_of-If n arms ss)

pub placed-While : (qs : List Proc) (m n : ℕ) (q : Pos) (g : Guard) (is : Vec Clause Global) (ss : Vec Stmt Global) → placed_st qs m (st_of (stmt.While n q g is ss)) ≡ placed_clauses m AtEntry None (map clause_of is.items) ++ (placed_sts qs m (sts_in ss.items) ++ placed_clauses m AfterTurn None (map clause_of is.items))
placed-While qs m n q g is ss = ap (placed_st qs m) (w.st_of-While n q g is ss)

pub ruleset place_forms = (placed-If, placed-While)
