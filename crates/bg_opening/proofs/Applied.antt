-- Where functions with a body are applied in each form of an expression, at the lists that the code meets.
use Rattle.std.proofs.Common.{◌≡◌, ℕ, ◌||◌, List, [], ◌∷◌, map, is_some, Some, None, refl, ap, ◌∙◌, Vec, Box, Global}
use Rattle.std.specs.List.{list_any}
use Rattle.bg_base.specs.declared.pos.Pos.{Pos}
use Rattle.bg_text.specs.declared.expr.InfixSign.{InfixSign}
use Rattle.bg_ast.specs.declared.resolved.Expr.{Expr}
use Rattle.bg_ast.specs.declared.resolved.Expr.TheVariants as expr
use Rattle.bg_ast.specs.declared.resolved.Link.{Link}
use Rattle.bg_ast.specs.declared.resolved.Bracket.{Bracket}
use Rattle.bg_ast.specs.declared.resolved.Bracket.TheVariants as bracket
use Rattle.bg_ast.specs.Resolved as r
use Rattle.bg_ast.specs.Views as u
use Rattle.bg_ast.proofs.Lists as z
use Rattle.bg_opened.specs.Changed.{bodies_in}
use Rattle.bg_opening.specs.Applied.{applies_some, some_among, some_behind, some_along, applies_within, applies_at}

module _ (fs : List r.Fun) where
  among-is : (es : List r.Ex) → some_among fs (u.exs_of es) ≡ list_any (applies_some fs) es
  among-is [] = refl
  among-is (e ∷ es) = ap (λ b. applies_some fs e || b) (among-is es)

  along-is : (ls : List (Pos × InfixSign × r.Ex)) → some_along fs (u.links_of ls) ≡ list_any (applies_at fs) ls
  along-is [] = refl
  along-is (l ∷ ls) = ap (λ b. applies_at fs l || b) (along-is ls)

  behind-is : (bs : List u.Behind) → some_behind fs (u.brackets_of bs) ≡ list_any (applies_within fs) bs
  behind-is [] = refl
  behind-is ((p, es, None) ∷ bs) = ap (λ b. some_among fs es || b) (behind-is bs)
  behind-is ((p, es, Some e) ∷ bs) = ap (λ b. (some_among fs es || applies_some fs e) || b) (behind-is bs)

  pub applied-Apply : (p : Pos) (f : ℕ) (args : Vec Expr Global) → applies_some fs (u.ex_of (expr.Apply p f args)) ≡ (is_some (bodies_in fs f) || list_any (applies_some fs) (map u.ex_of args.items))
  applied-Apply p f args =
      ap (applies_some fs) (z.ex_of-Apply p f args) ∙ ap (λ b. is_some (bodies_in fs f) || b) (among-is (map u.ex_of args.items))

  pub applied-Chain : (e : Box Expr Global) (ls : Vec Link Global) → applies_some fs (u.ex_of (expr.Chain e ls)) ≡ (applies_some fs (u.ex_of e.value) || list_any (applies_at fs) (map u.link_view ls.items))
  applied-Chain e ls =
      ap (applies_some fs) (z.ex_of-Chain e ls) ∙ ap (λ b. applies_some fs (u.ex_of e.value) || b) (along-is (map u.link_view ls.items))

  pub applied-Postfix : (e : Box Expr Global) (bs : Vec Bracket Global) → applies_some fs (u.ex_of (expr.Postfix e bs)) ≡ (applies_some fs (u.ex_of e.value) || list_any (applies_within fs) (map u.bracket_view bs.items))
  applied-Postfix e bs =
      ap (applies_some fs) (z.ex_of-Postfix e bs) ∙ ap (λ b. applies_some fs (u.ex_of e.value) || b) (behind-is (map u.bracket_view bs.items))

  pub applied-Select : (p : Pos) (es : Vec Expr Global) → applies_within fs (u.bracket_view (bracket.Select p es)) ≡ list_any (applies_some fs) (map u.ex_of es.items)
  applied-Select p es = ap (applies_within fs) (z.bracket_view-Select p es) ∙ among-is (map u.ex_of es.items)

  pub applied-Update : (p : Pos) (es : Vec Expr Global) (e : Expr) → applies_within fs (u.bracket_view (bracket.Update p es e)) ≡ (list_any (applies_some fs) (map u.ex_of es.items) || applies_some fs (u.ex_of e))
  applied-Update p es e =
      ap (applies_within fs) (z.bracket_view-Update p es e) ∙ ap (λ b. b || applies_some fs (u.ex_of e)) (among-is (map u.ex_of es.items))

pub ruleset applied_forms = (applied-Apply, applied-Chain, applied-Postfix, applied-Select, applied-Update)
