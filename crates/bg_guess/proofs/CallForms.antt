-- What is noted of each form of a statement, at the lists that the code meets.
use Rattle.std.proofs.Common.{◌≡◌, ℕ, List, Bool, map, ap, Vec, Global}
use Rattle.bg_base.specs.declared.pos.Pos.{Pos}
use Rattle.bg_ast.specs.declared.resolved.Clause.{Clause}
use Rattle.bg_ast.specs.declared.resolved.Guard.{Guard}
use Rattle.bg_ast.specs.declared.resolved.Arm.{Arm}
use Rattle.bg_ast.specs.declared.resolved.Stmt.{Stmt}
use Rattle.bg_ast.specs.declared.resolved.Stmt.TheVariants as stmt
use Rattle.bg_ast.specs.Views.{st_of, sts_in, arms_from, arm_view, clause_of}
use Rattle.bg_ast.proofs.Lists as w
use Rattle.bg_guess.specs.Calls.{mark_st, mark_sts, mark_arms, above, above_st, above_sts, above_arms}

pub mark-If : (own : ℕ) (marks : List Bool) (n : ℕ) (arms : Vec Arm Global) (ss : Vec Stmt Global) → mark_st own (st_of (stmt.If n arms ss)) marks ≡ mark_sts own (sts_in ss.items) (mark_arms own (arms_from (map arm_view arms.items)) marks)
mark-If own marks n arms ss = ap (λ a. mark_st own a marks) (w.st_of-If n arms ss)

pub mark-While : (own : ℕ) (marks : List Bool) (n : ℕ) (q : Pos) (g : Guard) (is : Vec Clause Global) (ss : Vec Stmt Global) → mark_st own (st_of (stmt.While n q g is ss)) marks ≡ mark_sts own (sts_in ss.items) marks
mark-While own marks n q g is ss = ap (λ a. mark_st own a marks) (w.st_of-While n q g is ss)

pub above-If : (most : ℕ) (n : ℕ) (arms : Vec Arm Global) (ss : Vec Stmt Global) → above_st most (st_of (stmt.If n arms ss)) ≡ above_sts (above_arms most (arms_from (map arm_view arms.items))) (sts_in ss.items)
above-If most n arms ss = ap (above_st most) (w.st_of-If n arms ss)

pub above-While : (most : ℕ) (n : ℕ) (q : Pos) (g : Guard) (is : Vec Clause Global) (ss : Vec Stmt Global) → above_st most (st_of (stmt.While n q g is ss)) ≡ above_sts (above most (map clause_of is.items)) (sts_in ss.items)
above-While most n q g is ss = ap (above_st most) (w.st_of-While n q g is ss)

pub ruleset call_forms = (mark-If, mark-While, above-If, above-While)
