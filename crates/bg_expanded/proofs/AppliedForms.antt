-- The functions that each form applies, at the lists that the code meets.
use Rattle.std.proofs.Common.{◌≡◌, ℕ, ◌++◌, map, Some, None, refl, ap, Vec, Box, Global}
use Rattle.bg_base.specs.declared.pos.Pos.{Pos}
use Rattle.bg_ast.specs.Resolved as r
use Rattle.bg_ast.specs.Views.{ex_of, exs_in, link_view, links_of, bracket_view, brackets_of, behind_parts, Behind}
use Rattle.bg_ast.specs.declared.resolved.Expr.{Expr}
use Rattle.bg_ast.specs.declared.resolved.Expr.TheVariants as expr
use Rattle.bg_ast.specs.declared.resolved.Link.{Link}
use Rattle.bg_ast.specs.declared.resolved.Bracket.{Bracket}
use Rattle.bg_ast.specs.declared.resolved.Bracket.TheVariants as bracket
use Rattle.bg_ast.proofs.Lists as w
use Rattle.bg_expanded.specs.Applied.{if_below, applied_in, applied_in_all, applied_behind, applied_linked, applied_in_bracket}

module _ (n : ℕ) where
  pub applied-Apply : (q : Pos) (f : ℕ) (es : Vec Expr Global) → applied_in n (ex_of (expr.Apply q f es)) ≡ if_below n f ++ applied_in_all n (exs_in es.items)
  applied-Apply q f es = ap (applied_in n) (w.ex_of-Apply q f es)

  pub applied-Chain : (e : Box Expr Global) (ls : Vec Link Global) → applied_in n (ex_of (expr.Chain e ls)) ≡ applied_in n (ex_of e.value) ++ applied_linked n (links_of (map link_view ls.items))
  applied-Chain e ls = ap (applied_in n) (w.ex_of-Chain e ls)

  pub applied-Postfix : (e : Box Expr Global) (bs : Vec Bracket Global) → applied_in n (ex_of (expr.Postfix e bs)) ≡ applied_in n (ex_of e.value) ++ applied_behind n (brackets_of (map bracket_view bs.items))
  applied-Postfix e bs = ap (applied_in n) (w.ex_of-Postfix e bs)

  pub applied-Select : (q : Pos) (es : Vec Expr Global) → applied_in_bracket n (bracket_view (bracket.Select q es)) ≡ applied_in_all n (exs_in es.items)
  applied-Select q es = ap (applied_in_bracket n) (w.bracket_view-Select q es)

  pub applied-Update : (q : Pos) (es : Vec Expr Global) (e : Expr) → applied_in_bracket n (bracket_view (bracket.Update q es e)) ≡ applied_in_all n (exs_in es.items) ++ applied_in n (ex_of e)
  applied-Update q es e = ap (applied_in_bracket n) (w.bracket_view-Update q es e)

  -- one bracket more
  pub applied-bracket : (b : Behind) (bs : r.Brackets) → applied_behind n (behind_parts b.0 b.1 b.2 bs) ≡ applied_in_bracket n b ++ applied_behind n bs
  applied-bracket (p, es, None) bs = refl
  applied-bracket (p, es, Some e) bs = refl

pub ruleset applied_forms = (applied-Apply, applied-Chain, applied-Postfix, applied-Select, applied-Update)
