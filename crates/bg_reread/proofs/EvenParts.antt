-- Each bracket of an expression, of a type and of an attribute is closed.
use Rattle.std.proofs.Common.{◌≡◌, Bool, true, false, List, [], ◌∷◌, map, refl}
use Rattle.bg_text.specs.declared.token.Kind.TheVariants as kinds
use Rattle.bg_text.specs.declared.expr.InfixSign.{InfixSign}
use Rattle.bg_text.specs.declared.expr.InfixSign.TheVariants as op
use Rattle.bg_text.specs.declared.expr.PrefixSign.{PrefixSign}
use Rattle.bg_text.specs.declared.expr.PrefixSign.TheVariants as prefix
use Rattle.bg_text.specs.declared.expr.TreePrefix.{TreePrefix}
use Rattle.bg_text.specs.Brackets.{Neither, turn}
use Rattle.bg_text.specs.Trees.{Ex, Number, Truth, Named, Apply, Old, Parens, Prefix, Postfix, Chain, Exs, NoMore, More, Brackets, NoBracket, Select, Update, Links, NoLink, Link, Id, Ty, IntType, BoolType, NamedType, InParens, MapType, Tys, NoType, OneType, Indices, NoIndex, Index, Arg, Formula, Quoted, Attr, Group}
use Rattle.bg_text.specs.Marks.{sign, sign_at, name_at, id_mark, each}
use Rattle.bg_text.specs.Spelling.{truth_kind, infix_kind, prefix_kind, ex_marks, list_marks, more_marks, bracket_marks, link_marks, prefix_mark}
use Rattle.bg_text.specs.Types.{quoted, type_marks, index_marks, types_marks, more_types_marks, arg_marks, attr_marks, ids_marks, group_marks}
use Rattle.bg_reread.proofs.Even.{Even, calm, plain, chain, nest, round, curly, each_even, commas_even}

truth_plain : (b : Bool) → turn (truth_kind b) ≡ Neither
truth_plain true = refl
truth_plain false = refl

prefix_plain : (s : PrefixSign) → turn (prefix_kind s) ≡ Neither
prefix_plain prefix.Not = refl
prefix_plain prefix.Minus = refl

infix_plain : (s : InfixSign) → turn (infix_kind s) ≡ Neither
infix_plain op.Iff = refl
infix_plain op.Implies = refl
infix_plain op.Explies = refl
infix_plain op.And = refl
infix_plain op.Or = refl
infix_plain op.Equal = refl
infix_plain op.Unequal = refl
infix_plain op.Less = refl
infix_plain op.AtMost = refl
infix_plain op.Greater = refl
infix_plain op.AtLeast = refl
infix_plain op.Plus = refl
infix_plain op.Minus = refl
infix_plain op.Times = refl

prefixes_even : (signs : List TreePrefix) → Even (map prefix_mark signs)
prefixes_even [] = calm
prefixes_even (s ∷ signs) = plain (prefix_mark s) (prefix_plain s.sign) (prefixes_even signs)

mutual
  pub ex_even : (e : Ex) → Even (ex_marks e)
  ex_even (Number p z) = plain (sign_at p (kinds.Number z)) refl calm
  ex_even (Truth p b) = plain (sign_at p (truth_kind b)) (truth_plain b) calm
  ex_even (Named p x) = plain (name_at p x) refl calm
  ex_even (Apply p x es) = plain (name_at p x) refl (round (list_even es) calm)
  ex_even (Old p e) = plain (sign_at p kinds.Old) refl (round (ex_even e) calm)
  ex_even (Parens p e) = nest (sign_at p kinds.Open) (sign kinds.Close) refl refl (ex_even e) calm
  ex_even (Prefix signs e) = chain (prefixes_even signs) (ex_even e)
  ex_even (Postfix e bs) = chain (ex_even e) (brackets_even bs)
  ex_even (Chain e links) = chain (ex_even e) (links_even links)

  pub list_even : (es : Exs) → Even (list_marks es)
  list_even NoMore = calm
  list_even (More e es) = chain (ex_even e) (more_even es)

  more_even : (es : Exs) → Even (more_marks es)
  more_even NoMore = calm
  more_even (More e es) = chain (plain (sign kinds.Comma) refl (ex_even e)) (more_even es)

  brackets_even : (bs : Brackets) → Even (bracket_marks bs)
  brackets_even NoBracket = calm
  brackets_even (Select p es bs) = nest (sign_at p kinds.OpenBracket) (sign kinds.CloseBracket) refl refl (list_even es) (brackets_even bs)
  brackets_even (Update p es e bs) = nest (sign_at p kinds.OpenBracket) (sign kinds.CloseBracket) refl refl (chain (list_even es) (plain (sign kinds.Becomes) refl (ex_even e))) (brackets_even bs)

  links_even : (ls : Links) → Even (link_marks ls)
  links_even NoLink = calm
  links_even (Link p s e ls) = chain (plain (sign_at p (infix_kind s)) (infix_plain s) (ex_even e)) (links_even ls)

mutual
  pub type_even : (t : Ty) → Even (type_marks t)
  type_even (IntType p) = plain (sign_at p kinds.Int) refl calm
  type_even (BoolType p) = plain (sign_at p kinds.Bool) refl calm
  type_even (NamedType p x) = plain (name_at p x) refl calm
  type_even (InParens p t) = nest (sign_at p kinds.Open) (sign kinds.Close) refl refl (type_even t) calm
  type_even (MapType is t) = chain (indices_even is) (type_even t)

  indices_even : (is : Indices) → Even (index_marks is)
  indices_even NoIndex = calm
  indices_even (Index p ts is) = nest (sign_at p kinds.OpenBracket) (sign kinds.CloseBracket) refl refl (types_even ts) (indices_even is)

  types_even : (ts : Tys) → Even (types_marks ts)
  types_even NoType = calm
  types_even (OneType t ts) = chain (type_even t) (more_types_even ts)

  more_types_even : (ts : Tys) → Even (more_types_marks ts)
  more_types_even NoType = calm
  more_types_even (OneType t ts) = chain (plain (sign kinds.Comma) refl (type_even t)) (more_types_even ts)

pub ids_even : (xs : List Id) → Even (ids_marks xs)
ids_even xs = commas_even (λ x. id_mark x ∷ []) (λ x. plain (id_mark x) refl calm) xs

arg_even : (a : Arg) → Even (arg_marks a)
arg_even (Formula e) = ex_even e
arg_even (Quoted text) = plain (quoted text) refl calm

attr_even : (a : Attr) → Even (attr_marks a)
attr_even a = curly (plain (sign kinds.Colon) refl (plain (id_mark a.name) refl (commas_even arg_marks arg_even a.args)))

pub attrs_even : (xs : List Attr) → Even (each attr_marks xs)
attrs_even xs = each_even attr_marks attr_even xs

pub group_even : (g : Group) → Even (group_marks g)
group_even g = chain (chain (attrs_even g.attrs) (ids_even g.names)) (plain (sign kinds.Colon) refl (type_even g.ty))
