-- What a table tells of changed expressions and statements.
use Rattle.std.proofs.Common.{◌≡◌, ℕ, ◌+◌, List, [], map, Option, refl, sym, ap, ◌∙◌, Vec, Global}
use Rattle.bg_base.specs.declared.pos.Pos.{Pos}
use Rattle.bg_ast.specs.Resolved as r
use Rattle.bg_ast.specs.declared.resolved.Clause.{Clause}
use Rattle.bg_ast.specs.declared.resolved.Guard.{Guard}
use Rattle.bg_ast.specs.declared.resolved.Arm.{Arm}
use Rattle.bg_ast.specs.declared.resolved.Stmt.{Stmt}
use Rattle.bg_ast.specs.declared.resolved.Stmt.TheVariants as stmt
use Rattle.bg_ast.specs.Views.{st_of, sts_in, arms_from, arm_view, guard_of, clause_of}
use Rattle.bg_ast.proofs.Lists as w
use Rattle.bg_places.specs.Counts.{capped, nodes, nodes_of, clause_nodes, guard_nodes, st_nodes, sts_nodes, arms_nodes}
use Rattle.bg_opened.specs.Changed.{opened_within}
use Rattle.bg_opened.specs.Written.{all_opened, opened_clause, opened_guard, opened_st, opened_sts, opened_arms}
use Rattle.bg_expanded.specs.Weights.{total, weight, weights, opened_weigher}
use Rattle.bg_expanded.specs.Bodies.{IsAlike, IsCountOf, IsTable, weigher}
use Rattle.bg_expanded.specs.declared.count.Count.{Count}
use Rattle.bg_expanded.proofs.Alike.{alike_sum}
use Rattle.bg_expanded.proofs.Same.{weight_same}
use Rattle.bg_expanded.proofs.Passes.{opened_nodes_are}

pub exprs_counted : (table : List (Option Count)) (o : r.Ex → r.Ex) → IsCountOf table o → (es : r.Exs) → IsAlike (nodes_of (all_opened o es)) (total (weights (weigher table) [] es))
exprs_counted table o h r.NoMore = refl
exprs_counted table o h (r.More e es) =
    alike_sum (nodes (o e)) (nodes_of (all_opened o es)) (weight (weigher table) [] e) (total (weights (weigher table) [] es)) (h e) (exprs_counted table o h es)

-- a table of opened bodies tells of opened expressions
pub table_counts : (fs : List r.Fun) (depth g : ℕ) (table : List (Option Count)) → IsTable fs depth table → IsCountOf table (opened_within depth g fs)
table_counts fs depth g table h e = ap capped (opened_nodes_are depth g fs e) ∙ sym (weight_same (opened_weigher fs depth) table h [] e)

pub counted-If : (sizes : List ℕ) (o : r.Ex → r.Ex) (n : ℕ) (arms : Vec Arm Global) (ss : Vec Stmt Global) → st_nodes sizes (opened_st o (st_of (stmt.If n arms ss))) ≡ arms_nodes sizes (opened_arms o (arms_from (map arm_view arms.items))) + sts_nodes sizes (opened_sts o (sts_in ss.items))
counted-If sizes o n arms ss = ap (λ s. st_nodes sizes (opened_st o s)) (w.st_of-If n arms ss)

pub counted-While : (sizes : List ℕ) (o : r.Ex → r.Ex) (n : ℕ) (q : Pos) (g : Guard) (is : Vec Clause Global) (ss : Vec Stmt Global) → st_nodes sizes (opened_st o (st_of (stmt.While n q g is ss))) ≡ guard_nodes (opened_guard o (guard_of g)) + (clause_nodes (map (opened_clause o) (map clause_of is.items)) + sts_nodes sizes (opened_sts o (sts_in ss.items)))
counted-While sizes o n q g is ss = ap (λ s. st_nodes sizes (opened_st o s)) (w.st_of-While n q g is ss)
