-- How the code's terms are read.
use Rattle.std.specs.Prelude.{◌≡◌, List, [], ◌∷◌, map}
use Rattle.bg_text.specs.declared.expr.InfixSign.{InfixSign}
use Rattle.bg_text.specs.declared.expr.PrefixSign.{PrefixSign}
use Rattle.bg_text.specs.declared.expr.TreePrefix.{TreePrefix}
use Rattle.bg_ast.specs.Values.{Ty, MapTy}
use Rattle.bg_ast.specs.Syntax.{Ex, Exs, NoMore, More, Fun}
use Rattle.bg_ast.specs.Meaning as m
use Rattle.bg_ast.specs.Views.{ex_of}
use Rattle.bg_ast.specs.declared.resolved.Expr.{Expr}
use Rattle.bg_ast.specs.declared.resolved.Link.{Link}
use Rattle.bg_kinds.specs.Views.{keys_of, ref_in, ref_of}
use Rattle.bg_terms.specs.Terms.{Head, Applies, Selects, Updates, Differs, Term}
use Rattle.bg_numbered.specs.Put.{made}
pub use Rattle.bg_numbered.specs.Put.{key_or, head_ty}
use Rattle.bg_term_table.specs.declared.table.Head as code
use Rattle.bg_term_table.specs.declared.table.Head.TheVariants as head
use Rattle.bg_term_table.specs.declared.table.Term as kept
use Rattle.bg_term_table.specs.declared.around.Around.{Around}
use Rattle.bg_term_table.specs.declared.seen.Seen.{Seen}
use Rattle.bg_term_table.specs.declared.seen.Seen.TheVariants as seen

-- what an expression of the code's means
abbrev pub meaning : Expr → Ex
meaning e = m.ex_of (ex_of e)

-- expressions of a list
abbrev pub listed : List Ex → Exs
listed [] = NoMore
listed (e ∷ es) = More e (listed es)

abbrev pub meanings : List Expr → List Ex
meanings es = map meaning es

-- the signs of a row of prefix signs
abbrev pub prefix_in : TreePrefix → PrefixSign
prefix_in s = s.sign

abbrev pub prefixes : List TreePrefix → List PrefixSign
prefixes ss = map prefix_in ss

-- the operands and the signs of a chain
abbrev pub operand_meaning : Link → Ex
operand_meaning l = meaning l.operand

abbrev pub operands : List Link → List Ex
operands ls = map operand_meaning ls

abbrev pub sign_in : Link → InfixSign
sign_in l = l.sign

abbrev pub signs : List Link → List InfixSign
signs ls = map sign_in ls

abbrev pub head_of : code.Head → Head
head_of (head.Function f) = Applies f
head_of (head.Selects k t) = Selects (keys_of k) (ref_in t)
head_of (head.Updates k t) = Updates (keys_of k) (ref_in t)
head_of (head.Differs k t j) = Differs (keys_of k) (ref_in t) j

-- the term of this head and these arguments
abbrev pub term_with : List Fun → Head → List Ex → Term
term_with functions h xs = made functions h (listed xs)

abbrev pub term_of : List Fun → kept.Term → Term
term_of functions t = term_with functions (head_of t.head) (meanings t.args.items)

abbrev pub terms_in : List Fun → List kept.Term → List Term
terms_in functions ts = map (term_of functions) ts

-- ---- types

-- the types of incarnations
abbrev pub incs_of : Around → List Ty
incs_of a = map ref_in a.incarnations.now

abbrev pub result_ty : Fun → Ty
result_ty f = f.result

-- the types of what functions give are these functions' ones
abbrev pub GiveThese : List Fun → Around → Type 0
GiveThese fs a = map ref_in a.results.now ≡ map result_ty fs

abbrev pub seen_ty : Seen → Ty
seen_ty (seen.Whole t) = ref_of t
seen_ty (seen.Map k t) = MapTy (keys_of k.now) (ref_of t)
