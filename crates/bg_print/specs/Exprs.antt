-- How expressions and types are printed.
use Rattle.std.specs.Prelude.{Bool, true, false}
use Rattle.bg_text.specs.declared.token.Kind.TheVariants as kinds
use Rattle.bg_text.specs.declared.expr.TreePrefix.{TreePrefix}
use Rattle.bg_text.specs.Spelling.{truth_kind, prefix_kind, infix_kind}
use Rattle.bg_text.specs.Trees.{Ex, Number, Truth, Named, Apply, Old, Parens, Prefix, Postfix, Chain, Exs, NoMore, More, Brackets, NoBracket, Select, Update, Links, NoLink, Link, Ty, IntType, BoolType, NamedType, InParens, MapType, Tys, NoType, OneType, Indices, NoIndex, Index}
use Rattle.bg_print.specs.Docs.{Doc, Empty, Say, Called, ◌⨾◌, each, gap, in_parens, in_brackets, spaced}

-- a prefix sign, with no space behind it
abbrev pub prefix_doc : TreePrefix → Doc
prefix_doc s = Say (prefix_kind s.sign)

abbrev mutual
  -- an expression
  pub ex_doc : Ex → Doc
  ex_doc (Number p z) = Say (kinds.Number z)
  ex_doc (Truth p b) = Say (truth_kind b)
  ex_doc (Named p name) = Called name
  ex_doc (Apply p name es) = Called name ⨾ in_parens (list_from false es)
  ex_doc (Old p e) = Say kinds.Old ⨾ in_parens (ex_doc e)
  ex_doc (Parens p e) = in_parens (ex_doc e)
  ex_doc (Prefix signs e) = each prefix_doc signs ⨾ ex_doc e
  ex_doc (Postfix e bs) = ex_doc e ⨾ brackets_doc bs
  ex_doc (Chain e links) = ex_doc e ⨾ links_doc links

  -- the rest of a list of expressions, or the whole of it
  pub list_from : Bool → Exs → Doc
  list_from behind NoMore = Empty
  list_from behind (More e es) = gap behind ⨾ ex_doc e ⨾ list_from true es

  -- `[e, f]` and `[e, f := g]`
  pub brackets_doc : Brackets → Doc
  brackets_doc NoBracket = Empty
  brackets_doc (Select p es bs) = in_brackets (list_from false es) ⨾ brackets_doc bs
  brackets_doc (Update p es e bs) = in_brackets (list_from false es ⨾ spaced kinds.Becomes (ex_doc e)) ⨾ brackets_doc bs

  -- each sign with one space on both sides, and its operand
  pub links_doc : Links → Doc
  links_doc NoLink = Empty
  links_doc (Link p s e links) = spaced (infix_kind s) (ex_doc e) ⨾ links_doc links

abbrev mutual
  -- a type
  pub type_doc : Ty → Doc
  type_doc (IntType p) = Say kinds.Int
  type_doc (BoolType p) = Say kinds.Bool
  type_doc (NamedType p name) = Called name
  type_doc (InParens p t) = in_parens (type_doc t)
  type_doc (MapType is t) = indices_doc is ⨾ type_doc t

  -- `[T1, T2]`
  pub indices_doc : Indices → Doc
  indices_doc NoIndex = Empty
  indices_doc (Index p ts is) = in_brackets (types_from false ts) ⨾ indices_doc is

  -- the rest of a list of types, or the whole of it
  pub types_from : Bool → Tys → Doc
  types_from behind NoType = Empty
  types_from behind (OneType t ts) = gap behind ⨾ type_doc t ⨾ types_from true ts

-- a list of expressions
abbrev pub list_doc : Exs → Doc
list_doc = list_from false
