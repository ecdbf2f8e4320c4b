-- The nodes of each form, at the lists that the code meets.
use Rattle.std.proofs.Common.{◌≡◌, ℕ, suc, ◌+◌, List, [], ◌∷◌, length, map, Some, None, refl, ap, Vec, Box, Global}
use Rattle.bg_base.specs.declared.pos.Pos.{Pos}
use Rattle.bg_ast.specs.Resolved as r
use Rattle.bg_ast.specs.Views.{ex_of, exs_in, link_view, links_of, bracket_view, brackets_of, behind_parts, Behind}
use Rattle.bg_ast.specs.declared.resolved.Expr.{Expr}
use Rattle.bg_ast.specs.declared.resolved.Expr.TheVariants as expr
use Rattle.bg_ast.specs.declared.resolved.Link.{Link}
use Rattle.bg_ast.specs.declared.resolved.Bracket.{Bracket}
use Rattle.bg_ast.specs.declared.resolved.Bracket.TheVariants as bracket
use Rattle.bg_ast.proofs.Lists as w
use Rattle.bg_expanded.specs.Weights.{Weigher, total, weight, weights, weight_behind, weight_linked, weight_of_bracket}

module _ (app : Weigher) (ws : List ℕ) where
  pub weight-Apply : (q : Pos) (f : ℕ) (es : Vec Expr Global) → weight app ws (ex_of (expr.Apply q f es)) ≡ app f (weights app ws (exs_in es.items))
  weight-Apply q f es = ap (weight app ws) (w.ex_of-Apply q f es)

  pub weight-Chain : (e : Box Expr Global) (ls : Vec Link Global) → weight app ws (ex_of (expr.Chain e ls)) ≡ suc (weight app ws (ex_of e.value) + weight_linked app ws (links_of (map link_view ls.items)))
  weight-Chain e ls = ap (weight app ws) (w.ex_of-Chain e ls)

  pub weight-Postfix : (e : Box Expr Global) (bs : Vec Bracket Global) → weight app ws (ex_of (expr.Postfix e bs)) ≡ suc (weight app ws (ex_of e.value) + weight_behind app ws (brackets_of (map bracket_view bs.items)))
  weight-Postfix e bs = ap (weight app ws) (w.ex_of-Postfix e bs)

  pub weight-Select : (q : Pos) (es : Vec Expr Global) → weight_of_bracket app ws (bracket_view (bracket.Select q es)) ≡ total (weights app ws (exs_in es.items))
  weight-Select q es = ap (weight_of_bracket app ws) (w.bracket_view-Select q es)

  pub weight-Update : (q : Pos) (es : Vec Expr Global) (e : Expr) → weight_of_bracket app ws (bracket_view (bracket.Update q es e)) ≡ total (weights app ws (exs_in es.items)) + weight app ws (ex_of e)
  weight-Update q es e = ap (weight_of_bracket app ws) (w.bracket_view-Update q es e)

  -- one bracket more
  pub weight-bracket : (b : Behind) (bs : r.Brackets) → weight_behind app ws (behind_parts b.0 b.1 b.2 bs) ≡ weight_of_bracket app ws b + weight_behind app ws bs
  weight-bracket (p, es, None) bs = refl
  weight-bracket (p, es, Some e) bs = refl

  pub weights_long : (es : List Expr) → length (weights app ws (exs_in es)) ≡ length es
  weights_long [] = refl
  weights_long (e ∷ es) = ap suc (weights_long es)
