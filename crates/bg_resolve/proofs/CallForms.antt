-- The calls of each form of an expression, at the lists that the code meets.
use Rattle.std.proofs.Common.{◌≡◌, ℕ, ◌+◌, ◌<◌, List, [], ◌∷◌, ◌++◌, map, flat_map, length, get_or, drop, Option, Some, None, refl, sym, ap, ◌∙◌, append-nil, append_assoc, Vec, Box, Global}
use Rattle.bg_base.specs.declared.pos.Pos.{Pos}
use Rattle.bg_text.specs.declared.expr.Name.{Name}
use Rattle.bg_text.specs.declared.expr.TreeExpr.{TreeExpr}
use Rattle.bg_text.specs.declared.expr.TreeExpr.TheVariants as expr
use Rattle.bg_text.specs.declared.expr.TreeBracket.{TreeBracket}
use Rattle.bg_text.specs.declared.expr.TreeBracket.TheVariants as bracket
use Rattle.bg_text.specs.declared.expr.TreeLink.{TreeLink}
use Rattle.bg_text.specs.Trees as t
use Rattle.bg_text.specs.Views as v
use Rattle.bg_text.proofs.Lists as w
use Rattle.bg_names.specs.Spaces.{place}
use Rattle.bg_names.proofs.Firsts.{drop_item}
use Rattle.bg_resolve.specs.Calls.{called, ex_calls, exs_calls, brackets_calls, links_calls, tree_calls, link_calls, value_calls, bracket_calls}

module _ (fs : List (List ℕ)) where
  exs-of : (es : List TreeExpr) → exs_calls fs (v.exs_of (map v.ex_of es)) ≡ flat_map (tree_calls fs) es
  exs-of [] = refl
  exs-of (e ∷ es) = ap (λ l. tree_calls fs e ++ l) (exs-of es)

  links-of : (ls : List TreeLink) → links_calls fs (v.links_of (map v.link_view ls)) ≡ flat_map (link_calls fs) ls
  links-of [] = refl
  links-of (l ∷ ls) = ap (λ x. link_calls fs l ++ x) (links-of ls)

  with_calls : (p : Pos) (es : t.Exs) (o : Option t.Ex) (bs : t.Brackets) → brackets_calls fs (v.bracket_of_parts p es o bs) ≡ (exs_calls fs es ++ value_calls fs o) ++ brackets_calls fs bs
  with_calls p es None bs = ap (λ l. l ++ brackets_calls fs bs) (sym (append-nil (exs_calls fs es)))
  with_calls p es (Some e) bs = refl

  brackets-of : (bs : List TreeBracket) → brackets_calls fs (v.brackets_of (map v.bracket_view bs)) ≡ flat_map (bracket_calls fs) bs
  brackets-of [] = refl
  brackets-of (b ∷ bs) =
      let w = v.bracket_view b in
      with_calls w.0 w.1 w.2 (v.brackets_of (map v.bracket_view bs)) ∙ ap (λ l. bracket_calls fs b ++ l) (brackets-of bs)

  pub calls-Apply : (name : Name) (args : Vec TreeExpr Global) → tree_calls fs (expr.Apply name args) ≡ called (place fs name.text.items) ++ flat_map (tree_calls fs) args.items
  calls-Apply name args = ap (ex_calls fs) (w.ex_of-Apply name args) ∙ ap (λ l. called (place fs name.text.items) ++ l) (exs-of args.items)

  pub calls-Chain : (e : Box TreeExpr Global) (ls : Vec TreeLink Global) → tree_calls fs (expr.Chain e ls) ≡ tree_calls fs e.value ++ flat_map (link_calls fs) ls.items
  calls-Chain e ls = ap (ex_calls fs) (w.ex_of-Chain e ls) ∙ ap (λ l. tree_calls fs e.value ++ l) (links-of ls.items)

  pub calls-Postfix : (e : Box TreeExpr Global) (bs : Vec TreeBracket Global) → tree_calls fs (expr.Postfix e bs) ≡ tree_calls fs e.value ++ flat_map (bracket_calls fs) bs.items
  calls-Postfix e bs = ap (ex_calls fs) (w.ex_of-Postfix e bs) ∙ ap (λ l. tree_calls fs e.value ++ l) (brackets-of bs.items)

  abbrev parts_calls : Pos × t.Exs × Option t.Ex → List ℕ
  parts_calls b = exs_calls fs b.1 ++ value_calls fs b.2

  pub calls-Select : (p : Pos) (es : Vec TreeExpr Global) → bracket_calls fs (bracket.Select p es) ≡ flat_map (tree_calls fs) es.items
  calls-Select p es = ap parts_calls (w.bracket_view-Select p es) ∙ append-nil _ ∙ exs-of es.items

  pub calls-Update : (p : Pos) (es : Vec TreeExpr Global) (e : TreeExpr) → bracket_calls fs (bracket.Update p es e) ≡ flat_map (tree_calls fs) es.items ++ tree_calls fs e
  calls-Update p es e = ap parts_calls (w.bracket_view-Update p es e) ∙ ap (λ l. l ++ tree_calls fs e) (exs-of es.items)

-- calls that are added, one item of a list further
pub calls_step : {A : Type 0} (f : A → List ℕ) (old new : List ℕ) (xs : List A) (i : ℕ) (x : A) (whole : List ℕ) → i < length xs → x ≡ get_or xs i x → old ++ flat_map f (drop i xs) ≡ whole → new ≡ old ++ f x → new ++ flat_map f (drop (i + 1) xs) ≡ whole
calls_step f old new xs i x whole h at known e =
    let rest = flat_map f (drop (i + 1) xs) in
    ap (λ l. l ++ rest) e
    ∙ append_assoc old (f x) rest
    ∙ ap (λ l. old ++ flat_map f l) (sym (drop_item xs i x h at))
    ∙ known

pub ruleset call_forms = (calls-Apply, calls-Chain, calls-Postfix, calls-Select, calls-Update)
