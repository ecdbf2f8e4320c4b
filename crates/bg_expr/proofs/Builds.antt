-- What is built of parts.
use Rattle.std.proofs.Common.{◌≡◌, ℕ, List, [], ◌∷◌, map, length, refl, sym, ap, ◌∙◌, Vec, Box, Global, ◌<◌, arith, Option, Some, None}
use Rattle.bg_base.specs.declared.pos.Pos.{Pos}
use Rattle.bg_text.specs.declared.expr.Name.{Name}
use Rattle.bg_text.specs.declared.expr.TreeExpr.{TreeExpr}
use Rattle.bg_text.specs.declared.expr.TreeExpr.TheVariants as expr
use Rattle.bg_text.specs.declared.expr.TreeBracket.{TreeBracket}
use Rattle.bg_text.specs.declared.expr.TreeLink.{TreeLink}
use Rattle.bg_text.specs.Trees as t
use Rattle.bg_text.specs.Views.{links_of, brackets_of, bracket_of_parts, Bracket, link_view, bracket_view, exs_of, ex_of}
use Rattle.bg_expr.specs.Exprs.{chain_of, postfix_of}
use Rattle.bg_text.proofs.Lists.{ex_of-Apply, ex_of-Chain, ex_of-Postfix}

chain_some : (e : t.Ex) (ls : List TreeLink) → 0 < length ls → chain_of e (links_of (map link_view ls)) ≡ t.Chain e (links_of (map link_view ls))
chain_some e [] h = absurd (omega arith)
chain_some e (l ∷ ls) h = refl

pub chained_is : (e : Box TreeExpr Global) (ls : Vec TreeLink Global) (a : TreeExpr) → e.value ≡ a → 0 < length ls.items → ex_of (expr.Chain e ls) ≡ chain_of (ex_of a) (links_of (map link_view ls.items))
chained_is e ls a h k = ex_of-Chain e ls ∙ sym (chain_some (ex_of e.value) ls.items k) ∙ ap (λ (x : TreeExpr). chain_of (ex_of x) (links_of (map link_view ls.items))) h

postfix_by : (e : t.Ex) (b : Bracket) (bs : t.Brackets) → postfix_of e (bracket_of_parts b.0 b.1 b.2 bs) ≡ t.Postfix e (bracket_of_parts b.0 b.1 b.2 bs)
postfix_by e b bs = by b.0 b.1 b.2
  where
    by : (q : Pos) (es : t.Exs) (o : Option t.Ex) → postfix_of e (bracket_of_parts q es o bs) ≡ t.Postfix e (bracket_of_parts q es o bs)
    by q es None = refl
    by q es (Some v) = refl

postfix_some : (e : t.Ex) (ls : List TreeBracket) → 0 < length ls → postfix_of e (brackets_of (map bracket_view ls)) ≡ t.Postfix e (brackets_of (map bracket_view ls))
postfix_some e [] h = absurd (omega arith)
postfix_some e (l ∷ ls) h = postfix_by e (bracket_view l) (brackets_of (map bracket_view ls))

pub marked_is : (e : Box TreeExpr Global) (ls : Vec TreeBracket Global) (a : TreeExpr) → e.value ≡ a → 0 < length ls.items → ex_of (expr.Postfix e ls) ≡ postfix_of (ex_of a) (brackets_of (map bracket_view ls.items))
marked_is e ls a h k = ex_of-Postfix e ls ∙ sym (postfix_some (ex_of e.value) ls.items k) ∙ ap (λ (x : TreeExpr). postfix_of (ex_of x) (brackets_of (map bracket_view ls.items))) h

pub apply_is : (name : Name) (args : Vec TreeExpr Global) (p : Pos) (x : List ℕ) → name.pos ≡ p → name.text.items ≡ x → t.Apply p x (exs_of (map ex_of args.items)) ≡ ex_of (expr.Apply name args)
apply_is name args p x h k = rw (sym h, sym k) (sym (ex_of-Apply name args))
