-- An expression without its positions has its marks, at no place.
use Rattle.std.proofs.Common.{List, [], ◌∷◌, map}
use Rattle.bg_text.specs.declared.token.Kind.TheVariants as kinds
use Rattle.bg_text.specs.declared.expr.TreePrefix.{TreePrefix}
use Rattle.bg_text.specs.Trees.{Ex, Number, Truth, Named, Apply, Old, Parens, Prefix, Postfix, Chain, Exs, NoMore, More, Brackets, NoBracket, Select, Update, Links, NoLink, Link}
use Rattle.bg_text.specs.Marks.{sign, sign_at, name_at}
use Rattle.bg_text.specs.Spelling.{truth_kind, infix_kind, ex_marks, list_marks, more_marks, bracket_marks, link_marks, prefix_mark}
use Rattle.bg_expr.specs.Bare.{bare, bare_list, bare_brackets, bare_links, bare_sign}
use Rattle.bg_reread.proofs.Stripped.{Strips, none, put, last, join}

prefixes_strip : (signs : List TreePrefix) → Strips (map prefix_mark (map bare_sign signs)) (map prefix_mark signs)
prefixes_strip [] = none
prefixes_strip (s ∷ signs) = put (prefix_mark s) (prefixes_strip signs)

mutual
  pub ex_strips : (e : Ex) → Strips (ex_marks (bare e)) (ex_marks e)
  ex_strips (Number p z) = last (sign_at p (kinds.Number z))
  ex_strips (Truth p b) = last (sign_at p (truth_kind b))
  ex_strips (Named p x) = last (name_at p x)
  ex_strips (Apply p x es) = join (put (name_at p x) (put (sign kinds.Open) (list_strips es))) (last (sign kinds.Close))
  ex_strips (Old p e) = join (put (sign_at p kinds.Old) (put (sign kinds.Open) (ex_strips e))) (last (sign kinds.Close))
  ex_strips (Parens p e) = join (put (sign_at p kinds.Open) (ex_strips e)) (last (sign kinds.Close))
  ex_strips (Prefix signs e) = join (prefixes_strip signs) (ex_strips e)
  ex_strips (Postfix e bs) = join (ex_strips e) (brackets_strip bs)
  ex_strips (Chain e links) = join (ex_strips e) (links_strip links)

  pub list_strips : (es : Exs) → Strips (list_marks (bare_list es)) (list_marks es)
  list_strips NoMore = none
  list_strips (More e es) = join (ex_strips e) (more_strips es)

  more_strips : (es : Exs) → Strips (more_marks (bare_list es)) (more_marks es)
  more_strips NoMore = none
  more_strips (More e es) = join (put (sign kinds.Comma) (ex_strips e)) (more_strips es)

  brackets_strip : (bs : Brackets) → Strips (bracket_marks (bare_brackets bs)) (bracket_marks bs)
  brackets_strip NoBracket = none
  brackets_strip (Select p es bs) = join (put (sign_at p kinds.OpenBracket) (list_strips es)) (put (sign kinds.CloseBracket) (brackets_strip bs))
  brackets_strip (Update p es e bs) =
      join (join (put (sign_at p kinds.OpenBracket) (list_strips es)) (put (sign kinds.Becomes) (ex_strips e))) (put (sign kinds.CloseBracket) (brackets_strip bs))

  links_strip : (ls : Links) → Strips (link_marks (bare_links ls)) (link_marks ls)
  links_strip NoLink = none
  links_strip (Link p s e ls) = join (put (sign_at p (infix_kind s)) (ex_strips e)) (links_strip ls)
