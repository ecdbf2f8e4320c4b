-- How each form of an expression is changed, at the lists that the code meets.
use Rattle.std.proofs.Common.{◌≡◌, ℕ, List, [], ◌∷◌, map, Option, Some, None, refl, sym, ap, ◌∙◌, Vec, Box, Global}
use Rattle.bg_base.specs.declared.pos.Pos.{Pos}
use Rattle.bg_ast.specs.declared.resolved.Expr.{Expr}
use Rattle.bg_ast.specs.declared.resolved.Expr.TheVariants as expr
use Rattle.bg_ast.specs.declared.resolved.Link.{Link}
use Rattle.bg_ast.specs.declared.resolved.Bracket.{Bracket}
use Rattle.bg_ast.specs.declared.resolved.Bracket.TheVariants as bracket
use Rattle.bg_ast.specs.Resolved as r
use Rattle.bg_ast.specs.Views as u
use Rattle.bg_ast.proofs.Lists as z
use Rattle.bg_opened.specs.Changed.{Handlers, changed, all_changed, brackets_changed, links_changed, applied, bodies_in, opening}
use Rattle.bg_opening.specs.Views.{changed_expr, changed_link, changed_value, changed_bracket}

pub both : {A B C : Type 0} {a a' : A} {b b' : B} (f : A → B → C) → a ≡ a' → b ≡ b' → f a b ≡ f a' b'
both f h k = rw (h, k) refl

pub apply_node-is : (p : Pos) (f : ℕ) (args : Vec Expr Global) → u.ex_of (expr.Apply p f args) ≡ r.Apply p f (u.exs_of (map u.ex_of args.items))
apply_node-is p f args = z.ex_of-Apply p f args

module _ (h : Handlers) where
  pub exs-of : (es : List Expr) → all_changed h (u.exs_of (map u.ex_of es)) ≡ u.exs_of (map (changed_expr h) es)
  exs-of [] = refl
  exs-of (e ∷ es) = ap (r.More (changed_expr h e)) (exs-of es)

  pub links-of : (ls : List Link) → links_changed h (u.links_of (map u.link_view ls)) ≡ u.links_of (map (changed_link h) ls)
  links-of [] = refl
  links-of (l ∷ ls) = ap (r.Link l.pos l.sign (changed_expr h l.operand)) (links-of ls)

  with_parts : (p : Pos) (es : r.Exs) (o : Option r.Ex) (bs : r.Brackets) → brackets_changed h (u.behind_parts p es o bs) ≡ u.behind_parts p (all_changed h es) (changed_value h o) (brackets_changed h bs)
  with_parts p es None bs = refl
  with_parts p es (Some e) bs = refl

  pub brackets-of : (bs : List Bracket) → brackets_changed h (u.brackets_of (map u.bracket_view bs)) ≡ u.brackets_of (map (changed_bracket h) bs)
  brackets-of [] = refl
  brackets-of (b ∷ bs) =
      let w = u.bracket_view b in
      with_parts w.0 w.1 w.2 (u.brackets_of (map u.bracket_view bs)) ∙ ap (u.behind_parts w.0 (all_changed h w.1) (changed_value h w.2)) (brackets-of bs)

  pub expr-Apply : (p : Pos) (f : ℕ) (args : Vec Expr Global) → changed_expr h (expr.Apply p f args) ≡ h.apply p f (u.exs_of (map (changed_expr h) args.items))
  expr-Apply p f args = ap (λ e. changed h e) (z.ex_of-Apply p f args) ∙ ap (h.apply p f) (exs-of args.items)

  pub expr-Chain : (e : Box Expr Global) (ls : Vec Link Global) (x : Box Expr Global) (ms : Vec Link Global) → u.ex_of x.value ≡ changed_expr h e.value → map u.link_view ms.items ≡ map (changed_link h) ls.items → u.ex_of (expr.Chain x ms) ≡ changed_expr h (expr.Chain e ls)
  expr-Chain e ls x ms a k =
      z.ex_of-Chain x ms
      ∙ both r.Chain a (ap u.links_of k ∙ sym (links-of ls.items))
      ∙ sym (ap (λ e. changed h e) (z.ex_of-Chain e ls))

  pub expr-Postfix : (e : Box Expr Global) (bs : Vec Bracket Global) (x : Box Expr Global) (ms : Vec Bracket Global) → u.ex_of x.value ≡ changed_expr h e.value → map u.bracket_view ms.items ≡ map (changed_bracket h) bs.items → u.ex_of (expr.Postfix x ms) ≡ changed_expr h (expr.Postfix e bs)
  expr-Postfix e bs x ms a k =
      z.ex_of-Postfix x ms
      ∙ both r.Postfix a (ap u.brackets_of k ∙ sym (brackets-of bs.items))
      ∙ sym (ap (λ e. changed h e) (z.ex_of-Postfix e bs))

  abbrev changed_parts : Pos × r.Exs × Option r.Ex → Pos × r.Exs × Option r.Ex
  changed_parts w = (w.0, all_changed h w.1, changed_value h w.2)

  pub bracket-Select : (p : Pos) (es : Vec Expr Global) (xs : Vec Expr Global) → map u.ex_of xs.items ≡ map (changed_expr h) es.items → u.bracket_view (bracket.Select p xs) ≡ changed_bracket h (bracket.Select p es)
  bracket-Select p es xs a =
      z.bracket_view-Select p xs
      ∙ ap (λ l. (p, l, None)) (ap u.exs_of a ∙ sym (exs-of es.items))
      ∙ sym (ap changed_parts (z.bracket_view-Select p es))

  pub bracket-Update : (p : Pos) (es : Vec Expr Global) (e : Expr) (xs : Vec Expr Global) (x : Expr) → map u.ex_of xs.items ≡ map (changed_expr h) es.items → u.ex_of x ≡ changed_expr h e → u.bracket_view (bracket.Update p xs x) ≡ changed_bracket h (bracket.Update p es e)
  bracket-Update p es e xs x a k =
      z.bracket_view-Update p xs x
      ∙ both (λ l i. (p, l, Some i)) (ap u.exs_of a ∙ sym (exs-of es.items)) k
      ∙ sym (ap changed_parts (z.bracket_view-Update p es e))

-- an application, in one pass
pub passed-Apply : (g : ℕ) (fs : List r.Fun) (e : Expr) (p : Pos) (f : ℕ) (args : Vec Expr Global) (es : List Expr) (xs : List r.Ex) (x : r.Ex) → e ≡ expr.Apply p f args → es ≡ args.items → xs ≡ map (changed_expr (opening g fs)) es → x ≡ applied (bodies_in fs f) p f (u.exs_of xs) → x ≡ changed_expr (opening g fs) e
passed-Apply g fs e p f args es xs x at is made h =
    h
    ∙ ap (λ l. applied (bodies_in fs f) p f (u.exs_of l)) (made ∙ ap (map (changed_expr (opening g fs))) is)
    ∙ sym (ap (changed_expr (opening g fs)) at ∙ expr-Apply (opening g fs) p f args)

pub ruleset forms = (apply_node-is, expr-Apply, expr-Chain, expr-Postfix, bracket-Select, bracket-Update)
