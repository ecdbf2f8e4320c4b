-- How each form of an expression is renamed, at the lists that the code meets.
use Rattle.std.proofs.Common.{◌≡◌, ℕ, List, [], ◌∷◌, ◌++◌, map, Option, Some, None, refl, sym, ap, ◌∙◌, Vec, Box, Global}
use Rattle.bg_base.specs.declared.pos.Pos.{Pos}
use Rattle.bg_ast.specs.declared.resolved.Expr.{Expr}
use Rattle.bg_ast.specs.declared.resolved.Expr.TheVariants as expr
use Rattle.bg_ast.specs.declared.resolved.Link.{Link}
use Rattle.bg_ast.specs.declared.resolved.Bracket.{Bracket}
use Rattle.bg_ast.specs.declared.resolved.Bracket.TheVariants as bracket
use Rattle.bg_text.specs.declared.expr.InfixSign.TheVariants as op
use Rattle.bg_ast.specs.Syntax as s
use Rattle.bg_ast.specs.Meaning as m
use Rattle.bg_ast.specs.Resolved as r
use Rattle.bg_ast.specs.Views as u
use Rattle.bg_ast.proofs.Lists as z
use Rattle.bg_passive.specs.Incarnations.{Env}
use Rattle.bg_renamed.specs.Renamed.{rename_r, renames_r, rename_brackets, rename_links}
use Rattle.bg_renamed.specs.Views.{renamed_expr, renamed_link, renamed_value, renamed_bracket}

pub both : {A B C : Type 0} {a a' : A} {b b' : B} (f : A → B → C) → a ≡ a' → b ≡ b' → f a b ≡ f a' b'
both f h k = rw (h, k) refl

pub apply_node-is : (p : Pos) (f : ℕ) (args : Vec Expr Global) → u.ex_of (expr.Apply p f args) ≡ r.Apply p f (u.exs_of (map u.ex_of args.items))
apply_node-is p f args = z.ex_of-Apply p f args

one_link : (ls old : List Link) (l : Link) → ls ≡ old ++ l ∷ [] → old ≡ [] → map u.link_view ls ≡ u.link_view l ∷ []
one_link ls old l h k = rw (h, k) refl

-- a chain of two with `==`
pub equal-is : (b : Box Expr Global) (ls : Vec Link Global) (old : List Link) (l : Link) (q : Pos) (j : ℕ) → u.ex_of b.value ≡ r.Read q (s.Local j) → ls.items ≡ old ++ l ∷ [] → old ≡ [] → l.sign ≡ op.Equal → m.ex_of (u.ex_of (expr.Chain b ls)) ≡ s.Binary s.Equal (s.Read (s.Local j)) (m.ex_of (u.ex_of l.operand))
equal-is b ls old l q j h is none sign =
    ap m.ex_of (z.ex_of-Chain b ls ∙ both (λ x ms. r.Chain x (u.links_of ms)) h (one_link ls.items old l is none))
    ∙ ap (λ g. m.chained (s.Read (s.Local j)) (r.Link l.pos g (u.ex_of l.operand) r.NoLink)) sign

module _ (v : Env) where
  pub exs-of : (es : List Expr) → renames_r (u.exs_of (map u.ex_of es)) v ≡ u.exs_of (map (renamed_expr v) es)
  exs-of [] = refl
  exs-of (e ∷ es) = ap (r.More (renamed_expr v e)) (exs-of es)

  pub links-of : (ls : List Link) → rename_links (u.links_of (map u.link_view ls)) v ≡ u.links_of (map (renamed_link v) ls)
  links-of [] = refl
  links-of (l ∷ ls) = ap (r.Link l.pos l.sign (renamed_expr v l.operand)) (links-of ls)

  with_parts : (p : Pos) (es : r.Exs) (o : Option r.Ex) (bs : r.Brackets) → rename_brackets (u.behind_parts p es o bs) v ≡ u.behind_parts p (renames_r es v) (renamed_value v o) (rename_brackets bs v)
  with_parts p es None bs = refl
  with_parts p es (Some e) bs = refl

  pub brackets-of : (bs : List Bracket) → rename_brackets (u.brackets_of (map u.bracket_view bs)) v ≡ u.brackets_of (map (renamed_bracket v) bs)
  brackets-of [] = refl
  brackets-of (b ∷ bs) =
      let w = u.bracket_view b in
      with_parts w.0 w.1 w.2 (u.brackets_of (map u.bracket_view bs)) ∙ ap (u.behind_parts w.0 (renames_r w.1 v) (renamed_value v w.2)) (brackets-of bs)

  pub expr-Apply : (p : Pos) (f : ℕ) (args : Vec Expr Global) → renamed_expr v (expr.Apply p f args) ≡ r.Apply p f (u.exs_of (map (renamed_expr v) args.items))
  expr-Apply p f args = ap (λ e. rename_r e v) (z.ex_of-Apply p f args) ∙ ap (r.Apply p f) (exs-of args.items)

  pub expr-Chain : (e : Box Expr Global) (ls : Vec Link Global) (x : Box Expr Global) (ms : Vec Link Global) → u.ex_of x.value ≡ renamed_expr v e.value → map u.link_view ms.items ≡ map (renamed_link v) ls.items → u.ex_of (expr.Chain x ms) ≡ renamed_expr v (expr.Chain e ls)
  expr-Chain e ls x ms h k =
      z.ex_of-Chain x ms
      ∙ both r.Chain h (ap u.links_of k ∙ sym (links-of ls.items))
      ∙ sym (ap (λ e. rename_r e v) (z.ex_of-Chain e ls))

  pub expr-Postfix : (e : Box Expr Global) (bs : Vec Bracket Global) (x : Box Expr Global) (ms : Vec Bracket Global) → u.ex_of x.value ≡ renamed_expr v e.value → map u.bracket_view ms.items ≡ map (renamed_bracket v) bs.items → u.ex_of (expr.Postfix x ms) ≡ renamed_expr v (expr.Postfix e bs)
  expr-Postfix e bs x ms h k =
      z.ex_of-Postfix x ms
      ∙ both r.Postfix h (ap u.brackets_of k ∙ sym (brackets-of bs.items))
      ∙ sym (ap (λ e. rename_r e v) (z.ex_of-Postfix e bs))

  abbrev renamed_parts : Pos × r.Exs × Option r.Ex → Pos × r.Exs × Option r.Ex
  renamed_parts w = (w.0, renames_r w.1 v, renamed_value v w.2)

  pub bracket-Select : (p : Pos) (es : Vec Expr Global) (xs : Vec Expr Global) → map u.ex_of xs.items ≡ map (renamed_expr v) es.items → u.bracket_view (bracket.Select p xs) ≡ renamed_bracket v (bracket.Select p es)
  bracket-Select p es xs h =
      z.bracket_view-Select p xs
      ∙ ap (λ l. (p, l, None)) (ap u.exs_of h ∙ sym (exs-of es.items))
      ∙ sym (ap renamed_parts (z.bracket_view-Select p es))

  pub bracket-Update : (p : Pos) (es : Vec Expr Global) (e : Expr) (xs : Vec Expr Global) (x : Expr) → map u.ex_of xs.items ≡ map (renamed_expr v) es.items → u.ex_of x ≡ renamed_expr v e → u.bracket_view (bracket.Update p xs x) ≡ renamed_bracket v (bracket.Update p es e)
  bracket-Update p es e xs x h k =
      z.bracket_view-Update p xs x
      ∙ both (λ l i. (p, l, Some i)) (ap u.exs_of h ∙ sym (exs-of es.items)) k
      ∙ sym (ap renamed_parts (z.bracket_view-Update p es e))

pub ruleset forms = (apply_node-is, expr-Apply, expr-Chain, expr-Postfix, bracket-Select, bracket-Update)
