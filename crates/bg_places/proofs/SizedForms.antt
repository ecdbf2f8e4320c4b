-- The nodes of each form, at the lists that the code meets.
use Rattle.std.proofs.Common.{◌≡◌, ℕ, suc, ◌+◌, List, map, Some, None, refl, ap, Vec, Box, Global}
use Rattle.bg_base.specs.declared.pos.Pos.{Pos}
use Rattle.bg_ast.specs.Resolved as r
use Rattle.bg_ast.specs.Views.{ex_of, exs_in, link_view, links_of, bracket_view, brackets_of, behind_parts, Behind, st_of, sts_in, arms_from, arm_view, guard_of, clause_of}
use Rattle.bg_ast.specs.declared.resolved.Expr.{Expr}
use Rattle.bg_ast.specs.declared.resolved.Expr.TheVariants as expr
use Rattle.bg_ast.specs.declared.resolved.Link.{Link}
use Rattle.bg_ast.specs.declared.resolved.Bracket.{Bracket}
use Rattle.bg_ast.specs.declared.resolved.Bracket.TheVariants as bracket
use Rattle.bg_ast.specs.declared.resolved.Clause.{Clause}
use Rattle.bg_ast.specs.declared.resolved.Guard.{Guard}
use Rattle.bg_ast.specs.declared.resolved.Arm.{Arm}
use Rattle.bg_ast.specs.declared.resolved.Stmt.{Stmt}
use Rattle.bg_ast.specs.declared.resolved.Stmt.TheVariants as stmt
use Rattle.bg_ast.proofs.Lists as w
use Rattle.bg_places.specs.Checks.{checked, st_checks, sts_checks, arms_checks}
use Rattle.bg_places.specs.Counts.{nodes, nodes_of, nodes_behind, nodes_linked, bracket_nodes, clause_nodes, guard_nodes, st_nodes, sts_nodes, arms_nodes}

pub nodes-Apply : (q : Pos) (f : ℕ) (es : Vec Expr Global) → nodes (ex_of (expr.Apply q f es)) ≡ suc (nodes_of (exs_in es.items))
nodes-Apply q f es = ap nodes (w.ex_of-Apply q f es)

pub nodes-Chain : (e : Box Expr Global) (ls : Vec Link Global) → nodes (ex_of (expr.Chain e ls)) ≡ suc (nodes (ex_of e.value) + nodes_linked (links_of (map link_view ls.items)))
nodes-Chain e ls = ap nodes (w.ex_of-Chain e ls)

pub nodes-Postfix : (e : Box Expr Global) (bs : Vec Bracket Global) → nodes (ex_of (expr.Postfix e bs)) ≡ suc (nodes (ex_of e.value) + nodes_behind (brackets_of (map bracket_view bs.items)))
nodes-Postfix e bs = ap nodes (w.ex_of-Postfix e bs)

pub nodes-Select : (q : Pos) (es : Vec Expr Global) → bracket_nodes (bracket_view (bracket.Select q es)) ≡ nodes_of (exs_in es.items)
nodes-Select q es = ap bracket_nodes (w.bracket_view-Select q es)

pub nodes-Update : (q : Pos) (es : Vec Expr Global) (e : Expr) → bracket_nodes (bracket_view (bracket.Update q es e)) ≡ nodes_of (exs_in es.items) + nodes (ex_of e)
nodes-Update q es e = ap bracket_nodes (w.bracket_view-Update q es e)

-- one bracket more
pub nodes-bracket : (b : Behind) (bs : r.Brackets) → nodes_behind (behind_parts b.0 b.1 b.2 bs) ≡ bracket_nodes b + nodes_behind bs
nodes-bracket (p, es, None) bs = refl
nodes-bracket (p, es, Some e) bs = refl

pub nodes-If : (sizes : List ℕ) (n : ℕ) (arms : Vec Arm Global) (ss : Vec Stmt Global) → st_nodes sizes (st_of (stmt.If n arms ss)) ≡ arms_nodes sizes (arms_from (map arm_view arms.items)) + sts_nodes sizes (sts_in ss.items)
nodes-If sizes n arms ss = ap (st_nodes sizes) (w.st_of-If n arms ss)

pub nodes-While : (sizes : List ℕ) (n : ℕ) (q : Pos) (g : Guard) (is : Vec Clause Global) (ss : Vec Stmt Global) → st_nodes sizes (st_of (stmt.While n q g is ss)) ≡ guard_nodes (guard_of g) + (clause_nodes (map clause_of is.items) + sts_nodes sizes (sts_in ss.items))
nodes-While sizes n q g is ss = ap (st_nodes sizes) (w.st_of-While n q g is ss)

pub ruleset node_forms = (nodes-Apply, nodes-Chain, nodes-Postfix, nodes-Select, nodes-Update, nodes-If, nodes-While)

pub checks-If : (rs : List ℕ) (n : ℕ) (arms : Vec Arm Global) (ss : Vec Stmt Global) → st_checks rs (st_of (stmt.If n arms ss)) ≡ arms_checks rs (arms_from (map arm_view arms.items)) + sts_checks rs (sts_in ss.items)
checks-If rs n arms ss = ap (st_checks rs) (w.st_of-If n arms ss)

pub checks-While : (rs : List ℕ) (n : ℕ) (q : Pos) (g : Guard) (is : Vec Clause Global) (ss : Vec Stmt Global) → st_checks rs (st_of (stmt.While n q g is ss)) ≡ checked (map clause_of is.items) + (sts_checks rs (sts_in ss.items) + checked (map clause_of is.items))
checks-While rs n q g is ss = ap (st_checks rs) (w.st_of-While n q g is ss)
