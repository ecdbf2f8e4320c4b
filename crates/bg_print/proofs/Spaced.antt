-- What stands behind each word and sign of a printed text: nothing that it could go on with.
use Rattle.std.proofs.Common.{◌≡◌, ℕ, zero, suc, ◌+◌, Bool, true, false, List, [], ◌∷◌, refl, Option, Some, None}
use Rattle.bg_base.specs.declared.pos.Pos.{Pos}
use Rattle.bg_text.specs.declared.token.Kind.{Kind}
use Rattle.bg_text.specs.declared.token.Kind.TheVariants as kinds
use Rattle.bg_text.specs.declared.expr.InfixSign.{InfixSign}
use Rattle.bg_text.specs.declared.expr.InfixSign.TheVariants as op
use Rattle.bg_text.specs.declared.expr.PrefixSign.{PrefixSign}
use Rattle.bg_text.specs.declared.expr.PrefixSign.TheVariants as prefix
use Rattle.bg_text.specs.declared.expr.TreePrefix.{TreePrefix}
use Rattle.bg_text.specs.Spelling.{truth_kind, prefix_kind, infix_kind}
use Rattle.bg_text.specs.Trees as t
use Rattle.bg_print.specs.Docs.{Doc, Empty, Say, Called, Quote, Space, Newline, ◌⨾◌, each, gap, commas, commas_from, if_there, in_parens, in_brackets, margin, line, block}
use Rattle.bg_print.specs.Exprs.{prefix_doc, ex_doc, list_from, list_doc, brackets_doc, links_doc, type_doc, types_from, indices_doc}
use Rattle.bg_print.specs.Parts.{id_doc, arg_doc, args_doc, attr_doc, group_doc, word_doc, says_doc, clause_doc, guard_doc, bracket_doc, target_doc, takes_doc, call_doc}
use Rattle.bg_print.specs.Stmts.{behind_doc, else_if, while_doc, st_doc, sts_doc, arms_from}
use Rattle.bg_print.specs.Printed.{synonym_doc, new_type_doc, typed_doc, fun_arg_doc, fun_result_doc, fun_end_doc, returns_doc, sig_doc, modified_doc, spec_doc, vars_doc, local_doc, body_doc, tail_doc, const_doc, fun_doc, decl_doc}

infixr 30 ◌&◌
abbrev ◌&◌ : {A B : Type 0} → A → B → A × B
a & b = (a, b)

-- how a text begins: with a byte of words, with a byte that may end a sign (one of = : > + *), or otherwise
pub data First : Type 0 where
  Wordy Tail Other : First

abbrev pub not_word : First → Bool
not_word Wordy = false
not_word _ = true

abbrev pub not_tail : First → Bool
not_tail Tail = false
not_tail _ = true

abbrev pub starts : Kind → First
starts kinds.Open = Other
starts kinds.Close = Other
starts kinds.OpenBracket = Other
starts kinds.CloseBracket = Other
starts kinds.OpenBrace = Other
starts kinds.CloseBrace = Other
starts kinds.Comma = Other
starts kinds.Semicolon = Other
starts kinds.Colon = Tail
starts kinds.Becomes = Tail
starts kinds.Sets = Tail
starts kinds.Less = Other
starts kinds.AtMost = Other
starts kinds.Greater = Tail
starts kinds.AtLeast = Tail
starts kinds.Equal = Tail
starts kinds.Unequal = Other
starts kinds.Implies = Tail
starts kinds.Explies = Other
starts kinds.Iff = Other
starts kinds.And = Other
starts kinds.Or = Other
starts kinds.Not = Other
starts kinds.Plus = Tail
starts kinds.Minus = Other
starts kinds.Times = Tail
starts kinds.Quoted = Other
starts _ = Wordy

-- what may not follow: a byte of words, a byte that ends signs, or nothing; and kinds without a text of their own
pub data Ender : Type 0 where
  AtWords AtTails Free Textless : Ender

abbrev pub ends : Kind → Ender
ends kinds.Name = Textless
ends kinds.Quoted = Textless
ends kinds.Open = Free
ends kinds.Close = Free
ends kinds.OpenBracket = Free
ends kinds.CloseBracket = Free
ends kinds.OpenBrace = Free
ends kinds.CloseBrace = Free
ends kinds.Comma = Free
ends kinds.Semicolon = Free
ends kinds.Colon = AtTails
ends kinds.Becomes = AtTails
ends kinds.Sets = AtTails
ends kinds.Less = AtTails
ends kinds.AtMost = AtTails
ends kinds.Greater = AtTails
ends kinds.AtLeast = AtTails
ends kinds.Equal = AtTails
ends kinds.Unequal = AtTails
ends kinds.Implies = AtTails
ends kinds.Explies = AtTails
ends kinds.Iff = AtTails
ends kinds.And = AtTails
ends kinds.Or = AtTails
ends kinds.Not = AtTails
ends kinds.Plus = AtTails
ends kinds.Minus = AtTails
ends kinds.Times = AtTails
ends _ = AtWords

abbrev pub MayFollow : Ender → First → Type 0
MayFollow AtWords s = not_word s ≡ true
MayFollow AtTails s = not_tail s ≡ true
MayFollow Free s = Unit {0}
MayFollow Textless s = ⊥

-- how what is printed begins, where s is how the text behind it begins
abbrev pub first : Doc → First → First
first Empty s = s
first (Say k) s = starts k
first (Called x) s = Wordy
first (Quote x) s = Other
first Space s = Other
first Newline s = Other
first (a ⨾ b) s = first a (first b s)

-- each word and sign ends where it does, where s is how the text behind begins
abbrev pub IsSpaced : Doc → First → Type 0
IsSpaced Empty s = Unit {0}
IsSpaced (Say k) s = MayFollow (ends k) s
IsSpaced (Called x) s = not_word s ≡ true
IsSpaced (Quote x) s = Unit {0}
IsSpaced Space s = Unit {0}
IsSpaced Newline s = Unit {0}
IsSpaced (a ⨾ b) s = IsSpaced a (first b s) × IsSpaced b s

-- spaced where no word follows
abbrev Settled : Doc → Type 0
Settled d = (s : First) → not_word s ≡ true → IsSpaced d s

-- spaced whatever follows, and it begins no word, whatever follows, where it is printed behind one
each_settled : {A : Type 0} (f : A → Doc) → ((a : A) (s : First) → IsSpaced (f a) s) → (xs : List A) (s : First) → IsSpaced (each f xs) s
each_settled f h [] s = tt
each_settled f h (a ∷ rest) s = (h a (first (each f rest) s), each_settled f h rest s)

gap_spaced : (b : Bool) (s : First) → IsSpaced (gap b) s
gap_spaced true s = (tt, tt)
gap_spaced false s = tt

-- behind a part of a list no word begins
commas_first : {A : Type 0} (f : A → Doc) (xs : List A) (s : First) → not_word s ≡ true → not_word (first (commas_from true f xs) s) ≡ true
commas_first f [] s h = h
commas_first f (a ∷ rest) s h = refl

commas_settled : {A : Type 0} (f : A → Doc) → ((a : A) → Settled (f a)) → (b : Bool) (xs : List A) → Settled (commas_from b f xs)
commas_settled f h b [] s k = tt
commas_settled f h b (a ∷ rest) s k = gap_spaced b _ & h a _ (commas_first f rest s k) & commas_settled f h true rest s k

truth_spaced : (b : Bool) → Settled (Say (truth_kind b))
truth_spaced true s h = h
truth_spaced false s h = h

prefix_spaced : (p : PrefixSign) (s : First) → not_tail s ≡ true → IsSpaced (Say (prefix_kind p)) s
prefix_spaced prefix.Not s h = h
prefix_spaced prefix.Minus s h = h

prefix_first : (p : PrefixSign) → not_tail (starts (prefix_kind p)) ≡ true
prefix_first prefix.Not = refl
prefix_first prefix.Minus = refl

infix_spaced : (i : InfixSign) → MayFollow (ends (infix_kind i)) Other
infix_spaced op.Iff = refl
infix_spaced op.Implies = refl
infix_spaced op.Explies = refl
infix_spaced op.And = refl
infix_spaced op.Or = refl
infix_spaced op.Equal = refl
infix_spaced op.Unequal = refl
infix_spaced op.Less = refl
infix_spaced op.AtMost = refl
infix_spaced op.Greater = refl
infix_spaced op.AtLeast = refl
infix_spaced op.Plus = refl
infix_spaced op.Minus = refl
infix_spaced op.Times = refl

truth_first : (b : Bool) → not_tail (starts (truth_kind b)) ≡ true
truth_first true = refl
truth_first false = refl

prefixes_first : (signs : List TreePrefix) (s : First) → not_tail s ≡ true → not_tail (first (each prefix_doc signs) s) ≡ true
prefixes_first [] s h = h
prefixes_first (p ∷ ps) s h = prefix_first p.sign

prefixes_spaced : (signs : List TreePrefix) (s : First) → not_tail s ≡ true → IsSpaced (each prefix_doc signs) s
prefixes_spaced [] s h = tt
prefixes_spaced (p ∷ ps) s h = (prefix_spaced p.sign _ (prefixes_first ps s h), prefixes_spaced ps s h)

-- an expression begins with no byte that ends signs
ex_first : (e : t.Ex) (s : First) → not_tail (first (ex_doc e) s) ≡ true
ex_first (t.Number p z) s = refl
ex_first (t.Truth p b) s = truth_first b
ex_first (t.Named p x) s = refl
ex_first (t.Apply p x es) s = refl
ex_first (t.Old p e) s = refl
ex_first (t.Parens p e) s = refl
ex_first (t.Prefix signs e) s = prefixes_first signs _ (ex_first e s)
ex_first (t.Postfix e bs) s = ex_first e _
ex_first (t.Chain e links) s = ex_first e _

list_first : (es : t.Exs) (s : First) → not_word s ≡ true → not_word (first (list_from true es) s) ≡ true
list_first t.NoMore s h = h
list_first (t.More e es) s h = refl

brackets_first : (bs : t.Brackets) (s : First) → not_word s ≡ true → not_word (first (brackets_doc bs) s) ≡ true
brackets_first t.NoBracket s h = h
brackets_first (t.Select p es bs) s h = refl
brackets_first (t.Update p es e bs) s h = refl

links_first : (ls : t.Links) (s : First) → not_word s ≡ true → not_word (first (links_doc ls) s) ≡ true
links_first t.NoLink s h = h
links_first (t.Link p i e ls) s h = refl

-- spaced whatever follows
abbrev pub Loose : Doc → Type 0
Loose d = (s : First) → IsSpaced d s

parens_spaced : (d : Doc) → Settled d → Loose (in_parens d)
parens_spaced d h s = tt & h Other refl & tt

brackets_loose : (d : Doc) → Settled d → Loose (in_brackets d)
brackets_loose d h s = tt & h Other refl & tt

mutual
  pub ex_spaced : (e : t.Ex) → Settled (ex_doc e)
  ex_spaced (t.Number p z) s h = h
  ex_spaced (t.Truth p b) s h = truth_spaced b s h
  ex_spaced (t.Named p x) s h = h
  ex_spaced (t.Apply p x es) s h = (refl, parens_spaced (list_from false es) (list_spaced false es) s)
  ex_spaced (t.Old p e) s h = (refl, parens_spaced (ex_doc e) (ex_spaced e) s)
  ex_spaced (t.Parens p e) s h = parens_spaced (ex_doc e) (ex_spaced e) s
  ex_spaced (t.Prefix signs e) s h = (prefixes_spaced signs _ (ex_first e s), ex_spaced e s h)
  ex_spaced (t.Postfix e bs) s h = (ex_spaced e _ (brackets_first bs s h), brackets_spaced bs s h)
  ex_spaced (t.Chain e links) s h = (ex_spaced e _ (links_first links s h), links_spaced links s h)

  list_spaced : (b : Bool) (es : t.Exs) → Settled (list_from b es)
  list_spaced b t.NoMore s h = tt
  list_spaced b (t.More e es) s h = gap_spaced b _ & ex_spaced e _ (list_first es s h) & list_spaced true es s h

  brackets_spaced : (bs : t.Brackets) → Settled (brackets_doc bs)
  brackets_spaced t.NoBracket s h = tt
  brackets_spaced (t.Select p es bs) s h = (brackets_loose (list_from false es) (list_spaced false es) Other, brackets_spaced bs s h)
  brackets_spaced (t.Update p es e bs) s h = (tt & (list_spaced false es Other refl & tt & refl & tt & ex_spaced e Other refl) & tt, brackets_spaced bs s h)

  links_spaced : (ls : t.Links) → Settled (links_doc ls)
  links_spaced t.NoLink s h = tt
  links_spaced (t.Link p i e ls) s h = (tt & infix_spaced i & tt & ex_spaced e _ (links_first ls s h), links_spaced ls s h)

types_first : (ts : t.Tys) (s : First) → not_word s ≡ true → not_word (first (types_from true ts) s) ≡ true
types_first t.NoType s h = h
types_first (t.OneType e ts) s h = refl

mutual
  type_spaced : (e : t.Ty) → Settled (type_doc e)
  type_spaced (t.IntType p) s h = h
  type_spaced (t.BoolType p) s h = h
  type_spaced (t.NamedType p x) s h = h
  type_spaced (t.InParens p e) s h = parens_spaced (type_doc e) (type_spaced e) s
  type_spaced (t.MapType is e) s h = (indices_spaced is _, type_spaced e s h)

  indices_spaced : (is : t.Indices) → Loose (indices_doc is)
  indices_spaced t.NoIndex s = tt
  indices_spaced (t.Index p ts is) s = (brackets_loose (types_from false ts) (types_spaced false ts) Other, indices_spaced is s)

  types_spaced : (b : Bool) (ts : t.Tys) → Settled (types_from b ts)
  types_spaced b t.NoType s h = tt
  types_spaced b (t.OneType e ts) s h = gap_spaced b _ & type_spaced e _ (types_first ts s h) & types_spaced true ts s h

ids_spaced : (xs : List t.Id) → Settled (commas id_doc xs)
ids_spaced xs = commas_settled id_doc (λ x s h. h) false xs

arg_spaced : (a : t.Arg) → Settled (arg_doc a)
arg_spaced (t.Formula e) s h = ex_spaced e s h
arg_spaced (t.Quoted q) s h = tt

args_first : (as' : List t.Arg) → not_word (first (args_doc as') Other) ≡ true
args_first [] = refl
args_first (a ∷ rest) = refl

args_spaced : (as' : List t.Arg) → IsSpaced (args_doc as') Other
args_spaced [] = tt
args_spaced (a ∷ rest) = (tt, commas_settled arg_doc arg_spaced false (a ∷ rest) Other refl)

attr_spaced : (a : t.Attr) → Loose (attr_doc a)
attr_spaced a s = tt & refl & args_first a.args & args_spaced a.args & tt & tt

attrs_spaced : (as' : List t.Attr) → Loose (each attr_doc as')
attrs_spaced as' s = each_settled attr_doc attr_spaced as' s

group_spaced : (g : t.Group) → Settled (group_doc g)
group_spaced g s h = attrs_spaced g.attrs _ & ids_spaced g.names Tail refl & refl & tt & type_spaced g.ty s h

groups_spaced : (gs : List t.Group) → Settled (commas group_doc gs)
groups_spaced gs = commas_settled group_doc group_spaced false gs

word_spaced : (b : Bool) (k : Kind) → MayFollow (ends k) Other → Loose (word_doc b k)
word_spaced true k h s = (h, tt)
word_spaced false k h s = tt

says_spaced : (c : t.Clause) → Loose (says_doc c)
says_spaced c s = attrs_spaced c.attrs _ & ex_spaced c.says Other refl & tt

clause_spaced : (k : Kind) (c : t.Clause) → MayFollow (ends k) Other → Loose (clause_doc k c)
clause_spaced k c h s = word_spaced c.is_free kinds.Free refl _ & h & tt & says_spaced c s

guard_spaced : (g : t.Guard) → Loose (guard_doc g)
guard_spaced (t.Star p) s = tt & refl & tt
guard_spaced (t.Test e) s = parens_spaced (ex_doc e) (ex_spaced e) s

target_brackets_first : (bs : List (Pos × t.Exs)) (s : First) → not_word s ≡ true → not_word (first (each bracket_doc bs) s) ≡ true
target_brackets_first [] s h = h
target_brackets_first (b ∷ bs) s h = refl

target_spaced : (x : t.Target) → Settled (target_doc x)
target_spaced x s h = (target_brackets_first x.brackets s h, each_settled bracket_doc (λ b r. brackets_loose (list_doc b.1) (list_spaced false b.1) r) x.brackets s)

takes_spaced : (xs : List t.Id) → Loose (takes_doc xs)
takes_spaced [] s = tt
takes_spaced (x ∷ xs) s = ids_spaced (x ∷ xs) Other refl & tt & refl & tt

call_spaced : (c : t.Call) → Loose (call_doc c)
call_spaced c s = refl & tt & attrs_spaced c.attrs _ & takes_spaced c.takes _ & refl & parens_spaced (list_doc c.args) (list_spaced false c.args) Other & tt

margin_spaced : (n : ℕ) → Loose (margin n)
margin_spaced zero s = tt
margin_spaced (suc n) s = (tt, margin_spaced n s)

line_spaced : (n : ℕ) (d : Doc) → IsSpaced d Other → Loose (line n d)
line_spaced n d h s = margin_spaced n _ & h & tt

block_spaced : (n : ℕ) (d : Doc) → Loose d → Loose (block n d)
block_spaced n d h s = tt & tt & h _ & margin_spaced n _ & tt

else_spaced : (b : Bool) → IsSpaced (else_if b) Other
else_spaced true = tt & refl & tt & refl
else_spaced false = tt

behind_spaced : (x : Option t.Id) → IsSpaced (if_there behind_doc x) Other
behind_spaced None = tt
behind_spaced (Some x) = (tt, refl)

behind_first : (x : Option t.Id) → not_word (first (if_there behind_doc x) Other) ≡ true
behind_first None = refl
behind_first (Some x) = refl

arms_first : (b : Bool) (n : ℕ) (as' : t.Arms) (s : First) → not_word s ≡ true → not_word (first (arms_from b n as') s) ≡ true
arms_first b n t.NoArm s h = h
arms_first true n (t.Arm g ss as') s h = refl
arms_first false n (t.Arm g ss as') s h = refl

while_spaced : (n : ℕ) (g : t.Guard) (cs : List t.Clause) → Loose (while_doc n g cs)
while_spaced n g cs s =
    (line_spaced n (Say kinds.While ⨾ Space ⨾ guard_doc g) (refl & tt & guard_spaced g Other) Other, each_settled (λ c. line (n + 2) (clause_doc kinds.Invariant c)) (λ c r. line_spaced (n + 2) (clause_doc kinds.Invariant c) (clause_spaced kinds.Invariant c refl Other) r) cs s)

mutual
  st_spaced : (n : ℕ) (x : t.St) → Loose (st_doc n x)
  st_spaced n (t.Label x) s = margin_spaced n _ & (refl, refl) & tt
  st_spaced n (t.Assert c) s = line_spaced n (clause_doc kinds.Assert c) (clause_spaced kinds.Assert c refl Other) s
  st_spaced n (t.Assume c) s = line_spaced n (clause_doc kinds.Assume c) (clause_spaced kinds.Assume c refl Other) s
  st_spaced n (t.Havoc p xs) s = margin_spaced n _ & (refl & tt & ids_spaced xs Other refl & tt) & tt
  st_spaced n (t.Assign p ts es) s = margin_spaced n _ & (commas_settled target_doc target_spaced false ts Other refl & (tt & refl & tt & list_spaced false es Other refl) & tt) & tt
  st_spaced n (t.Invoke c) s = line_spaced n (call_doc c) (call_spaced c Other) s
  st_spaced n (t.If p arms) s = margin_spaced n _ & (arms_first false n arms Other refl, arms_spaced false n arms Other) & tt
  st_spaced n (t.IfElse p arms ss) s = margin_spaced n _ & (arms_first false n arms Other refl & arms_spaced false n arms Other & tt & refl & tt & block_spaced n (sts_doc (n + 2) ss) (sts_spaced (n + 2) ss) Other) & tt
  st_spaced n (t.While p g cs ss) s = (while_spaced n g cs _, margin_spaced n _ & (block_spaced n (sts_doc (n + 2) ss) (sts_spaced (n + 2) ss) Other) & tt)
  st_spaced n (t.Break p x) s = margin_spaced n _ & (behind_first x & behind_spaced x & tt) & tt
  st_spaced n (t.Goto p xs) s = margin_spaced n _ & (refl & tt & ids_spaced xs Other refl & tt) & tt
  st_spaced n (t.Return p) s = margin_spaced n _ & (refl, tt) & tt

  sts_spaced : (n : ℕ) (ss : t.Sts) → Loose (sts_doc n ss)
  sts_spaced n t.NoSt s = tt
  sts_spaced n (t.Then x ss) s = (st_spaced n x _, sts_spaced n ss s)

  arms_spaced : (b : Bool) (n : ℕ) (as' : t.Arms) → Loose (arms_from b n as')
  arms_spaced b n t.NoArm s = tt
  arms_spaced b n (t.Arm g ss as') s = else_spaced b & (tt & guard_spaced g _ & tt & block_spaced n (sts_doc (n + 2) ss) (sts_spaced (n + 2) ss) Other) & arms_spaced true n as' s

synonym_spaced : (x : Option t.Ty) → Settled (if_there synonym_doc x)
synonym_spaced None s h = tt
synonym_spaced (Some e) s h = tt & refl & tt & type_spaced e s h

synonym_first : (x : Option t.Ty) (s : First) → not_word s ≡ true → not_word (first (if_there synonym_doc x) s) ≡ true
synonym_first None s h = h
synonym_first (Some e) s h = refl

new_type_spaced : (d : t.NewType) → Settled (new_type_doc d)
new_type_spaced d s h = (synonym_first d.synonym s h, synonym_spaced d.synonym s h)

typed_spaced : (x : Option t.Id) → Loose (if_there typed_doc x)
typed_spaced None s = tt
typed_spaced (Some x) s = refl & refl & tt

fun_arg_spaced : (a : t.FunArg) → Settled (fun_arg_doc a)
fun_arg_spaced a s h = (typed_spaced a.name _, type_spaced a.ty s h)

fun_result_spaced : (r : t.FunResult) → Settled (fun_result_doc r)
fun_result_spaced (t.Returns a) s h = tt & refl & tt & parens_spaced (fun_arg_doc a) (fun_arg_spaced a) s
fun_result_spaced (t.Colon e) s h = refl & tt & type_spaced e s h

fun_end_first : (x : Option t.Ex) → not_word (first (fun_end_doc x) Other) ≡ true
fun_end_first None = refl
fun_end_first (Some e) = refl

fun_end_spaced : (x : Option t.Ex) → IsSpaced (fun_end_doc x) Other
fun_end_spaced None = tt
fun_end_spaced (Some e) = tt & tt & tt & ex_spaced e Other refl & tt & tt

results_spaced : (x : Option (List t.Group)) → Loose (if_there returns_doc x)
results_spaced None s = tt
results_spaced (Some gs) s = tt & refl & tt & parens_spaced (commas group_doc gs) (groups_spaced gs) s

sig_spaced : (x : t.Sig) → Loose (sig_doc x)
sig_spaced x s = (parens_spaced (commas group_doc x.params) (groups_spaced x.params) Other, results_spaced x.results s)

modified_first : (xs : List t.Id) → not_word (first (modified_doc xs) Other) ≡ true
modified_first [] = refl
modified_first (x ∷ xs) = refl

modified_spaced : (xs : List t.Id) → IsSpaced (modified_doc xs) Other
modified_spaced [] = tt
modified_spaced (x ∷ xs) = (tt, ids_spaced (x ∷ xs) Other refl)

spec_spaced : (x : t.Spec) → Loose (spec_doc x)
spec_spaced (t.Requires c) s = line_spaced 2 (clause_doc kinds.Requires c) (clause_spaced kinds.Requires c refl Other) s
spec_spaced (t.Ensures c) s = line_spaced 2 (clause_doc kinds.Ensures c) (clause_spaced kinds.Ensures c refl Other) s
spec_spaced (t.Modifies p xs) s = margin_spaced 2 Other & (modified_first xs & modified_spaced xs & tt) & tt

vars_spaced : (v : t.Vars) → Loose (vars_doc v)
vars_spaced v s = refl & tt & groups_spaced v.groups Other refl & tt

body_spaced : (b : t.Body) → Loose (body_doc b)
body_spaced b s =
    line_spaced 0 (block 0 (each local_doc b.locals ⨾ sts_doc 2 b.stmts))
    (block_spaced 0 (each local_doc b.locals ⨾ sts_doc 2 b.stmts) (λ r. (each_settled local_doc (λ v q. line_spaced 2 (vars_doc v) (vars_spaced v Other) q) b.locals _, sts_spaced 2 b.stmts r)) Other) s

specs_spaced : (xs : List t.Spec) → Loose (each spec_doc xs)
specs_spaced xs s = each_settled spec_doc spec_spaced xs s

tail_spaced : (xs : List t.Spec) (b : Option t.Body) → Loose (tail_doc xs b)
tail_spaced xs None s = tt & tt & specs_spaced xs s
tail_spaced xs (Some b) s = tt & specs_spaced xs _ & body_spaced b s

const_spaced : (c : t.Consts) → Loose (const_doc c)
const_spaced c s = refl & tt & attrs_spaced c.group.attrs _ & word_spaced c.is_unique kinds.Unique refl _ & ids_spaced c.group.names Tail refl & refl & tt & type_spaced c.group.ty Other refl & tt

fun_result_first : (r : t.FunResult) (s : First) → not_word (first (fun_result_doc r) s) ≡ true
fun_result_first (t.Returns a) s = refl
fun_result_first (t.Colon e) s = refl

fun_spaced : (f : t.Fun) → IsSpaced (fun_doc f) Other
fun_spaced f =
    refl & tt & attrs_spaced f.attrs _ & refl & parens_spaced (commas fun_arg_doc f.args) (commas_settled fun_arg_doc fun_arg_spaced false f.args) Other
    & fun_result_spaced f.result _ (fun_end_first f.body) & fun_end_spaced f.body

decl_spaced : (d : t.Decl) → Loose (decl_doc d)
decl_spaced (t.Types p attrs ds) s = margin_spaced 0 Other & (refl & tt & attrs_spaced attrs _ & commas_settled new_type_doc new_type_spaced false ds Other refl & tt) & tt
decl_spaced (t.Constants c) s = line_spaced 0 (const_doc c) (const_spaced c Other) s
decl_spaced (t.Function f) s = line_spaced 0 (fun_doc f) (fun_spaced f) s
decl_spaced (t.Axiom p attrs e) s = margin_spaced 0 Other & (refl & tt & attrs_spaced attrs _ & ex_spaced e Other refl & tt) & tt
decl_spaced (t.Globals v) s = line_spaced 0 (vars_doc v) (vars_spaced v Other) s
decl_spaced (t.Procedure q) s = refl & tt & attrs_spaced q.attrs _ & refl & sig_spaced q.sig _ & tail_spaced q.specs q.body s
decl_spaced (t.Implementation q) s = refl & tt & attrs_spaced q.attrs _ & refl & sig_spaced q.sig _ & tt & body_spaced q.body s

-- each word and sign of a printed program ends where it does
pub decls_spaced : (ds : List t.Decl) → Loose (each decl_doc ds)
decls_spaced ds s = each_settled decl_doc decl_spaced ds s
