-- How each form of an expression is named, at the lists that the code meets.
use Rattle.std.proofs.Common.{◌≡◌, ℕ, List, [], ◌∷◌, ◌++◌, map, flat_map, Option, Some, None, refl, sym, ap, ◌∙◌, append-nil, ◌<◌, length, arith, Vec, Box, Global}
use Rattle.bg_base.specs.declared.pos.Pos.{Pos}
use Rattle.bg_text.specs.declared.expr.Name.{Name}
use Rattle.bg_text.specs.declared.expr.TreeExpr.{TreeExpr}
use Rattle.bg_text.specs.declared.expr.TreeExpr.TheVariants as expr
use Rattle.bg_text.specs.declared.expr.TreeBracket.{TreeBracket}
use Rattle.bg_text.specs.declared.expr.TreeBracket.TheVariants as bracket
use Rattle.bg_text.specs.declared.expr.TreeLink.{TreeLink}
use Rattle.bg_text.specs.Trees as t
use Rattle.bg_text.specs.Views as v
use Rattle.bg_text.proofs.Lists as w
use Rattle.bg_ast.specs.declared.resolved.Expr.{Expr}
use Rattle.bg_ast.specs.declared.resolved.Expr.TheVariants as made
use Rattle.bg_ast.specs.declared.resolved.Link.{Link}
use Rattle.bg_ast.specs.declared.resolved.Bracket.{Bracket}
use Rattle.bg_ast.specs.declared.resolved.Bracket.TheVariants as behind
use Rattle.bg_ast.specs.Resolved as r
use Rattle.bg_ast.specs.Views as u
use Rattle.bg_ast.proofs.Lists as z
use Rattle.bg_names.specs.Faults.{Fault}
use Rattle.bg_names.proofs.Firsts.{better_append}
use Rattle.bg_names.specs.Spaces.{Scope, place, or_zero, use_faults}
use Rattle.bg_names.specs.Exprs.{named_ex, named_exs, named_links, named_brackets, ex_faults, exs_faults, links_faults, brackets_faults}
use Rattle.bg_names.specs.Clauses.{chain_of}
use Rattle.bg_names.specs.Views.{named_expr, expr_faults, named_link, link_faults, named_bracket, bracket_faults, named_value, value_faults}

pub both : {A B C : Type 0} {a a' : A} {b b' : B} (f : A → B → C) → a ≡ a' → b ≡ b' → f a b ≡ f a' b'
both f h k = rw (h, k) refl

abbrev pub call : Pos → ℕ → Pos → ℕ → r.Exs → List r.Placed → r.Call
call p n q k es xs = record { pos = p; site = n; name_pos = q; procedure = k; args = es; takes = xs }

pub same_call : (p q : Pos) (n : ℕ) (k k' : ℕ) (es es' : r.Exs) (xs xs' : List r.Placed) → k ≡ k' → es ≡ es' → xs ≡ xs' → call p n q k es xs ≡ call p n q k' es' xs'
same_call p q n k k' es es' xs xs' a b c = rw (a, b, c) refl

pub apply_node-is : (p : Pos) (f : ℕ) (args : Vec Expr Global) → u.ex_of (made.Apply p f args) ≡ r.Apply p f (u.exs_of (map u.ex_of args.items))
apply_node-is p f args = z.ex_of-Apply p f args

module _ (s : Scope) where
  pub named_exs-of : (es : List TreeExpr) → named_exs s (v.exs_of (map v.ex_of es)) ≡ u.exs_of (map (named_expr s) es)
  named_exs-of [] = refl
  named_exs-of (e ∷ es) = ap (r.More (named_expr s e)) (named_exs-of es)

  pub exs_faults-of : (es : List TreeExpr) → exs_faults s (v.exs_of (map v.ex_of es)) ≡ flat_map (expr_faults s) es
  exs_faults-of [] = refl
  exs_faults-of (e ∷ es) = ap (λ l. expr_faults s e ++ l) (exs_faults-of es)

  pub named_links-of : (ls : List TreeLink) → named_links s (v.links_of (map v.link_view ls)) ≡ u.links_of (map (named_link s) ls)
  named_links-of [] = refl
  named_links-of (l ∷ ls) = ap (r.Link l.pos l.sign (named_expr s l.operand)) (named_links-of ls)

  pub links_faults-of : (ls : List TreeLink) → links_faults s (v.links_of (map v.link_view ls)) ≡ flat_map (link_faults s) ls
  links_faults-of [] = refl
  links_faults-of (l ∷ ls) = ap (λ x. link_faults s l ++ x) (links_faults-of ls)

  with_named : (p : Pos) (es : t.Exs) (o : Option t.Ex) (bs : t.Brackets) → named_brackets s (v.bracket_of_parts p es o bs) ≡ u.behind_parts p (named_exs s es) (named_value s o) (named_brackets s bs)
  with_named p es None bs = refl
  with_named p es (Some e) bs = refl

  pub named_brackets-of : (bs : List TreeBracket) → named_brackets s (v.brackets_of (map v.bracket_view bs)) ≡ u.brackets_of (map (named_bracket s) bs)
  named_brackets-of [] = refl
  named_brackets-of (b ∷ bs) =
      let w = v.bracket_view b in
      with_named w.0 w.1 w.2 (v.brackets_of (map v.bracket_view bs)) ∙ ap (u.behind_parts w.0 (named_exs s w.1) (named_value s w.2)) (named_brackets-of bs)

  with_faults : (p : Pos) (es : t.Exs) (o : Option t.Ex) (bs : t.Brackets) → brackets_faults s (v.bracket_of_parts p es o bs) ≡ (exs_faults s es ++ value_faults s o) ++ brackets_faults s bs
  with_faults p es None bs = ap (λ l. l ++ brackets_faults s bs) (sym (append-nil (exs_faults s es)))
  with_faults p es (Some e) bs = refl

  pub brackets_faults-of : (bs : List TreeBracket) → brackets_faults s (v.brackets_of (map v.bracket_view bs)) ≡ flat_map (bracket_faults s) bs
  brackets_faults-of [] = refl
  brackets_faults-of (b ∷ bs) =
      let w = v.bracket_view b in
      with_faults w.0 w.1 w.2 (v.brackets_of (map v.bracket_view bs)) ∙ ap (λ l. bracket_faults s b ++ l) (brackets_faults-of bs)

  pub expr-Apply : (name : Name) (args : Vec TreeExpr Global) → named_expr s (expr.Apply name args) ≡ r.Apply name.pos (or_zero (place s.functions name.text.items)) (u.exs_of (map (named_expr s) args.items))
  expr-Apply name args = ap (named_ex s) (w.ex_of-Apply name args) ∙ ap (r.Apply name.pos (or_zero (place s.functions name.text.items))) (named_exs-of args.items)

  pub faults-Apply : (name : Name) (args : Vec TreeExpr Global) → expr_faults s (expr.Apply name args) ≡ use_faults s.functions (v.id_of name) ++ flat_map (expr_faults s) args.items
  faults-Apply name args = ap (ex_faults s) (w.ex_of-Apply name args) ∙ ap (λ l. use_faults s.functions (v.id_of name) ++ l) (exs_faults-of args.items)

  pub expr-Chain : (e : Box TreeExpr Global) (ls : Vec TreeLink Global) (x : Box Expr Global) (ms : Vec Link Global) → u.ex_of x.value ≡ named_expr s e.value → map u.link_view ms.items ≡ map (named_link s) ls.items → u.ex_of (made.Chain x ms) ≡ named_expr s (expr.Chain e ls)
  expr-Chain e ls x ms h k =
      z.ex_of-Chain x ms
      ∙ both r.Chain h (ap u.links_of k ∙ sym (named_links-of ls.items))
      ∙ sym (ap (named_ex s) (w.ex_of-Chain e ls))

  pub faults-Chain : (e : Box TreeExpr Global) (ls : Vec TreeLink Global) → expr_faults s (expr.Chain e ls) ≡ expr_faults s e.value ++ flat_map (link_faults s) ls.items
  faults-Chain e ls = ap (ex_faults s) (w.ex_of-Chain e ls) ∙ ap (λ l. expr_faults s e.value ++ l) (links_faults-of ls.items)

  pub expr-Postfix : (e : Box TreeExpr Global) (bs : Vec TreeBracket Global) (x : Box Expr Global) (ms : Vec Bracket Global) → u.ex_of x.value ≡ named_expr s e.value → map u.bracket_view ms.items ≡ map (named_bracket s) bs.items → u.ex_of (made.Postfix x ms) ≡ named_expr s (expr.Postfix e bs)
  expr-Postfix e bs x ms h k =
      z.ex_of-Postfix x ms
      ∙ both r.Postfix h (ap u.brackets_of k ∙ sym (named_brackets-of bs.items))
      ∙ sym (ap (named_ex s) (w.ex_of-Postfix e bs))

  pub faults-Postfix : (e : Box TreeExpr Global) (bs : Vec TreeBracket Global) → expr_faults s (expr.Postfix e bs) ≡ expr_faults s e.value ++ flat_map (bracket_faults s) bs.items
  faults-Postfix e bs = ap (ex_faults s) (w.ex_of-Postfix e bs) ∙ ap (λ l. expr_faults s e.value ++ l) (brackets_faults-of bs.items)

  abbrev named_parts : Pos × t.Exs × Option t.Ex → Pos × r.Exs × Option r.Ex
  named_parts b = (b.0, named_exs s b.1, named_value s b.2)

  abbrev parts_faults : Pos × t.Exs × Option t.Ex → List Fault
  parts_faults b = exs_faults s b.1 ++ value_faults s b.2

  pub bracket-Select : (p : Pos) (es : Vec TreeExpr Global) (xs : Vec Expr Global) → map u.ex_of xs.items ≡ map (named_expr s) es.items → u.bracket_view (behind.Select p xs) ≡ named_bracket s (bracket.Select p es)
  bracket-Select p es xs h =
      z.bracket_view-Select p xs
      ∙ ap (λ l. (p, l, None)) (ap u.exs_of h ∙ sym (named_exs-of es.items))
      ∙ sym (ap named_parts (w.bracket_view-Select p es))

  pub bracket-Update : (p : Pos) (es : Vec TreeExpr Global) (e : TreeExpr) (xs : Vec Expr Global) (x : Expr) → map u.ex_of xs.items ≡ map (named_expr s) es.items → u.ex_of x ≡ named_expr s e → u.bracket_view (behind.Update p xs x) ≡ named_bracket s (bracket.Update p es e)
  bracket-Update p es e xs x h k =
      z.bracket_view-Update p xs x
      ∙ both (λ l i. (p, l, Some i)) (ap u.exs_of h ∙ sym (named_exs-of es.items)) k
      ∙ sym (ap named_parts (w.bracket_view-Update p es e))

  pub faults-Select : (p : Pos) (es : Vec TreeExpr Global) → bracket_faults s (bracket.Select p es) ≡ flat_map (expr_faults s) es.items
  faults-Select p es = ap parts_faults (w.bracket_view-Select p es) ∙ append-nil _ ∙ exs_faults-of es.items

  pub faults-Update : (p : Pos) (es : Vec TreeExpr Global) (e : TreeExpr) → bracket_faults s (bracket.Update p es e) ≡ flat_map (expr_faults s) es.items ++ expr_faults s e
  faults-Update p es e = ap parts_faults (w.bracket_view-Update p es e) ∙ ap (λ l. l ++ expr_faults s e) (exs_faults-of es.items)

  pub chained-made : (e : TreeExpr) (ls : List TreeLink) (x : Box Expr Global) (ms : Vec Link Global) → 0 < length ls → u.ex_of x.value ≡ named_expr s e → map u.link_view ms.items ≡ map (named_link s) ls → u.ex_of (made.Chain x ms) ≡ named_ex s (chain_of (v.ex_of e) (v.links_of (map v.link_view ls)))
  chained-made e [] x ms some h k = absurd (omega (arith, some))
  chained-made e (l ∷ ls) x ms some h k = z.ex_of-Chain x ms ∙ both r.Chain h (ap u.links_of k ∙ sym (named_links-of (l ∷ ls)))

  pub chained-first : (e : TreeExpr) (ls : List TreeLink) → 0 < length ls → ex_faults s (chain_of (v.ex_of e) (v.links_of (map v.link_view ls))) ≡ expr_faults s e ++ flat_map (link_faults s) ls
  chained-first e [] some = absurd (omega (arith, some))
  chained-first e (l ∷ ls) some = ap (λ x. expr_faults s e ++ x) (links_faults-of (l ∷ ls))

pub ruleset forms = (apply_node-is, expr-Apply, faults-Apply, expr-Chain, faults-Chain, expr-Postfix, faults-Postfix, bracket-Select, bracket-Update, faults-Select, faults-Update, better_append)
