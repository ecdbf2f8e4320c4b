-- Copies of expressions, form by form, at the lists that the code meets.
use Rattle.std.proofs.Common.{◌≡◌, ℕ, List, [], ◌∷◌, map, Some, None, refl, sym, ap, ◌∙◌, Vec, Box, Global}
use Rattle.bg_base.specs.declared.pos.Pos.{Pos}
use Rattle.bg_ast.specs.declared.resolved.Expr.{Expr}
use Rattle.bg_ast.specs.declared.resolved.Expr.TheVariants as expr
use Rattle.bg_ast.specs.declared.resolved.Link.{Link}
use Rattle.bg_ast.specs.declared.resolved.Bracket.{Bracket}
use Rattle.bg_ast.specs.declared.resolved.Bracket.TheVariants as bracket
use Rattle.bg_ast.specs.Resolved as r
use Rattle.bg_ast.specs.Views as u
use Rattle.bg_ast.specs.Meaning as m
use Rattle.bg_ast.proofs.Lists as z
use Rattle.bg_term_table.specs.Views.{meaning, meanings}

both : {A B C : Type 0} {a a' : A} {b b' : B} (f : A → B → C) → a ≡ a' → b ≡ b' → f a b ≡ f a' b'
both f h k = rw (h, k) refl

pub apply_node-is : (p : Pos) (f : ℕ) (args : Vec Expr Global) → u.ex_of (expr.Apply p f args) ≡ r.Apply p f (u.exs_of (map u.ex_of args.items))
apply_node-is p f args = z.ex_of-Apply p f args

pub expr-Chain : (e : Box Expr Global) (ls : Vec Link Global) (x : Box Expr Global) (ms : Vec Link Global) → u.ex_of x.value ≡ u.ex_of e.value → map u.link_view ms.items ≡ map u.link_view ls.items → u.ex_of (expr.Chain x ms) ≡ u.ex_of (expr.Chain e ls)
expr-Chain e ls x ms a k = z.ex_of-Chain x ms ∙ both r.Chain a (ap u.links_of k) ∙ sym (z.ex_of-Chain e ls)

pub expr-Postfix : (e : Box Expr Global) (bs : Vec Bracket Global) (x : Box Expr Global) (ms : Vec Bracket Global) → u.ex_of x.value ≡ u.ex_of e.value → map u.bracket_view ms.items ≡ map u.bracket_view bs.items → u.ex_of (expr.Postfix x ms) ≡ u.ex_of (expr.Postfix e bs)
expr-Postfix e bs x ms a k = z.ex_of-Postfix x ms ∙ both r.Postfix a (ap u.brackets_of k) ∙ sym (z.ex_of-Postfix e bs)

pub bracket-Select : (p : Pos) (es : Vec Expr Global) (xs : Vec Expr Global) → map u.ex_of xs.items ≡ map u.ex_of es.items → u.bracket_view (bracket.Select p xs) ≡ u.bracket_view (bracket.Select p es)
bracket-Select p es xs a =
    z.bracket_view-Select p xs ∙ ap (λ l. (p, u.exs_of l, None)) a ∙ sym (z.bracket_view-Select p es)

pub bracket-Update : (p : Pos) (es : Vec Expr Global) (e : Expr) (xs : Vec Expr Global) (x : Expr) → map u.ex_of xs.items ≡ map u.ex_of es.items → u.ex_of x ≡ u.ex_of e → u.bracket_view (bracket.Update p xs x) ≡ u.bracket_view (bracket.Update p es e)
bracket-Update p es e xs x a k =
    z.bracket_view-Update p xs x ∙ both (λ l i. (p, u.exs_of l, Some i)) a k ∙ sym (z.bracket_view-Update p es e)

pub ruleset forms = (apply_node-is, expr-Chain, expr-Postfix, bracket-Select, bracket-Update)

meanings_are : (xs : List Expr) → meanings xs ≡ map m.ex_of (map u.ex_of xs)
meanings_are [] = refl
meanings_are (x ∷ xs) = ap (λ l. meaning x ∷ l) (meanings_are xs)

pub same_meanings : (xs ys : List Expr) → map u.ex_of xs ≡ map u.ex_of ys → meanings xs ≡ meanings ys
same_meanings xs ys h = meanings_are xs ∙ ap (map m.ex_of) h ∙ sym (meanings_are ys)
