-- The words of a printed tree are the tree's marks.
use Rattle.std.proofs.Common.{◌≡◌, ℕ, zero, suc, ◌+◌, Bool, true, false, List, [], ◌∷◌, ◌++◌, map, refl, sym, ap, ◌∙◌, Option, Some, None, append_assoc, append-nil}
use Rattle.std.proofs.lemmas.List.{map-append}
use Rattle.bg_base.specs.declared.pos.Pos.{Pos}
use Rattle.bg_text.specs.declared.token.Kind.{Kind}
use Rattle.bg_text.specs.declared.token.Kind.TheVariants as kinds
use Rattle.bg_text.specs.declared.expr.TreePrefix.{TreePrefix}
use Rattle.bg_text.specs.Marks as m
use Rattle.bg_text.specs.Marks.{Mark, sign, sign_at, name_at, id_mark, unplaced, after_commas}
use Rattle.bg_text.specs.Spelling.{ex_marks, list_marks, more_marks, bracket_marks, link_marks, prefix_mark, prefix_kind, infix_kind}
use Rattle.bg_text.specs.Types.{quoted, type_marks, index_marks, types_marks, more_types_marks, arg_marks, attr_marks, ids_marks, group_marks}
use Rattle.bg_text.specs.Statements.{clause_word, clause_marks, guard_marks, target_marks, takes_marks, call_marks, in_braces, st_marks, sts_marks, arms_marks, more_arms_marks}
use Rattle.bg_text.specs.Statements as statements
use Rattle.bg_text.specs.Declarations.{new_type_marks, fun_arg_marks, fun_result_marks, sig_marks, spec_marks, vars_marks, body_marks, tail_marks, unique_marks, fun_end_marks, decl_marks}
use Rattle.bg_text.specs.Trees as t
use Rattle.bg_print.specs.Docs.{Doc, Empty, Say, Called, Quote, Space, Newline, ◌⨾◌, each, commas, commas_from, if_there, spaced, margin, line, block}
use Rattle.bg_print.specs.Exprs.{prefix_doc, ex_doc, list_from, list_doc, brackets_doc, links_doc, type_doc, types_from, indices_doc}
use Rattle.bg_print.specs.Parts.{id_doc, arg_doc, args_doc, attr_doc, group_doc, word_doc, clause_doc, guard_doc, bracket_doc, target_doc, takes_doc, call_doc}
use Rattle.bg_print.specs.Stmts.{behind_doc, arm_doc, while_doc, st_doc, sts_doc, arms_from}
use Rattle.bg_print.specs.Printed.{synonym_doc, new_type_doc, typed_doc, fun_arg_doc, fun_result_doc, fun_end_doc, groups_doc, returns_doc, sig_doc, modified_doc, spec_doc, vars_doc, local_doc, body_doc, tail_doc, types_line, const_doc, fun_doc, decl_doc}

abbrev pub named : List ℕ → Mark
named x = record { kind = kinds.Name; text = Some x; pos = None }

-- the words and signs of what is printed
abbrev pub marks : Doc → List Mark
marks Empty = []
marks (Say k) = sign k ∷ []
marks (Called x) = named x ∷ []
marks (Quote x) = quoted x ∷ []
marks Space = []
marks Newline = []
marks (a ⨾ b) = marks a ++ marks b

-- marks without where they stand
abbrev bare : List Mark → List Mark
bare ms = map unplaced ms

bare_append : (a b : List Mark) → bare (a ++ b) ≡ bare a ++ bare b
bare_append a b = map-append unplaced a b

-- what is printed has these marks
abbrev Has : Doc → List Mark → Type 0
Has d ms = marks d ≡ bare ms

then_has : (a b : Doc) (as' bs : List Mark) → Has a as' → Has b bs → Has (a ⨾ b) (as' ++ bs)
then_has a b as' bs h k = ap (λ l. l ++ marks b) h ∙ ap (λ l. bare as' ++ l) k ∙ sym (bare_append as' bs)

each_has : {A : Type 0} (f : A → Doc) (g : A → List Mark) → ((a : A) → Has (f a) (g a)) → (xs : List A) → Has (each f xs) (m.each g xs)
each_has f g h [] = refl
each_has f g h (a ∷ rest) = then_has (f a) (each f rest) (g a) (m.each g rest) (h a) (each_has f g h rest)

after_has : {A : Type 0} (f : A → Doc) (g : A → List Mark) → ((a : A) → Has (f a) (g a)) → (xs : List A) → Has (commas_from true f xs) (after_commas g xs)
after_has f g h [] = refl
after_has f g h (a ∷ rest) = ap (λ l. sign kinds.Comma ∷ l) (then_has (f a) (commas_from true f rest) (g a) (after_commas g rest) (h a) (after_has f g h rest))

commas_has : {A : Type 0} (f : A → Doc) (g : A → List Mark) → ((a : A) → Has (f a) (g a)) → (xs : List A) → Has (commas f xs) (m.commas g xs)
commas_has f g h [] = refl
commas_has f g h (a ∷ rest) = then_has (f a) (commas_from true f rest) (g a) (after_commas g rest) (h a) (after_has f g h rest)

-- a sign behind
close_has : (d : Doc) (ms : List Mark) (k : Kind) → Has d ms → Has (d ⨾ Say k) (ms ++ sign k ∷ [])
close_has d ms k h = then_has d (Say k) ms (sign k ∷ []) h refl

prefixes_has : (signs : List TreePrefix) → Has (each prefix_doc signs) (map prefix_mark signs)
prefixes_has [] = refl
prefixes_has (p ∷ ps) = ap (λ l. sign (prefix_kind p.sign) ∷ l) (prefixes_has ps)

assoc : (a b c : List Mark) → (a ++ b) ++ c ≡ a ++ (b ++ c)
assoc a b c = append_assoc a b c

update_has : (x y z a b c : List Mark) → x ≡ bare a → y ≡ bare b → z ≡ bare c → ((x ++ (sign kinds.Becomes ∷ y)) ++ sign kinds.CloseBracket ∷ []) ++ z ≡ bare (a ++ sign kinds.Becomes ∷ b ++ sign kinds.CloseBracket ∷ c)
update_has x y z a b c h k l = rw (h, k, l) (simp (bare_append, append_assoc))

mutual
  ex_has : (e : t.Ex) → Has (ex_doc e) (ex_marks e)
  ex_has (t.Number p z) = refl
  ex_has (t.Truth p b) = refl
  ex_has (t.Named p x) = refl
  ex_has (t.Apply p x es) = ap (λ l. named x ∷ sign kinds.Open ∷ l) (close_has (list_from false es) (list_marks es) kinds.Close (list_has es))
  ex_has (t.Old p e) = ap (λ l. sign kinds.Old ∷ sign kinds.Open ∷ l) (close_has (ex_doc e) (ex_marks e) kinds.Close (ex_has e))
  ex_has (t.Parens p e) = ap (λ l. sign kinds.Open ∷ l) (close_has (ex_doc e) (ex_marks e) kinds.Close (ex_has e))
  ex_has (t.Prefix signs e) = then_has (each prefix_doc signs) (ex_doc e) (map prefix_mark signs) (ex_marks e) (prefixes_has signs) (ex_has e)
  ex_has (t.Postfix e bs) = then_has (ex_doc e) (brackets_doc bs) (ex_marks e) (bracket_marks bs) (ex_has e) (brackets_has bs)
  ex_has (t.Chain e links) = then_has (ex_doc e) (links_doc links) (ex_marks e) (link_marks links) (ex_has e) (links_has links)

  list_has : (es : t.Exs) → Has (list_from false es) (list_marks es)
  list_has t.NoMore = refl
  list_has (t.More e es) = then_has (ex_doc e) (list_from true es) (ex_marks e) (more_marks es) (ex_has e) (more_has es)

  more_has : (es : t.Exs) → Has (list_from true es) (more_marks es)
  more_has t.NoMore = refl
  more_has (t.More e es) = ap (λ l. sign kinds.Comma ∷ l) (then_has (ex_doc e) (list_from true es) (ex_marks e) (more_marks es) (ex_has e) (more_has es))

  brackets_has : (bs : t.Brackets) → Has (brackets_doc bs) (bracket_marks bs)
  brackets_has t.NoBracket = refl
  brackets_has (t.Select p es bs) =
      ap (λ l. sign kinds.OpenBracket ∷ l)
      (assoc (marks (list_from false es)) (sign kinds.CloseBracket ∷ []) (marks (brackets_doc bs))
      ∙ then_has (list_from false es) (Say kinds.CloseBracket ⨾ brackets_doc bs) (list_marks es) (sign kinds.CloseBracket ∷ bracket_marks bs) (list_has es) (ap (λ l. sign kinds.CloseBracket ∷ l) (brackets_has bs)))
  brackets_has (t.Update p es e bs) =
      ap (λ l. sign kinds.OpenBracket ∷ l)
      (update_has (marks (list_from false es)) (marks (ex_doc e)) (marks (brackets_doc bs)) (list_marks es) (ex_marks e) (bracket_marks bs) (list_has es) (ex_has e) (brackets_has bs))

  links_has : (ls : t.Links) → Has (links_doc ls) (link_marks ls)
  links_has t.NoLink = refl
  links_has (t.Link p i e ls) = ap (λ l. sign (infix_kind i) ∷ l) (then_has (ex_doc e) (links_doc ls) (ex_marks e) (link_marks ls) (ex_has e) (links_has ls))

mutual
  type_has : (e : t.Ty) → Has (type_doc e) (type_marks e)
  type_has (t.IntType p) = refl
  type_has (t.BoolType p) = refl
  type_has (t.NamedType p x) = refl
  type_has (t.InParens p e) = ap (λ l. sign kinds.Open ∷ l) (close_has (type_doc e) (type_marks e) kinds.Close (type_has e))
  type_has (t.MapType is e) = then_has (indices_doc is) (type_doc e) (index_marks is) (type_marks e) (indices_has is) (type_has e)

  indices_has : (is : t.Indices) → Has (indices_doc is) (index_marks is)
  indices_has t.NoIndex = refl
  indices_has (t.Index p ts is) =
      ap (λ l. sign kinds.OpenBracket ∷ l)
      (assoc (marks (types_from false ts)) (sign kinds.CloseBracket ∷ []) (marks (indices_doc is))
      ∙ then_has (types_from false ts) (Say kinds.CloseBracket ⨾ indices_doc is) (types_marks ts) (sign kinds.CloseBracket ∷ index_marks is) (types_has ts) (ap (λ l. sign kinds.CloseBracket ∷ l) (indices_has is)))

  types_has : (ts : t.Tys) → Has (types_from false ts) (types_marks ts)
  types_has t.NoType = refl
  types_has (t.OneType e ts) = then_has (type_doc e) (types_from true ts) (type_marks e) (more_types_marks ts) (type_has e) (more_types_has ts)

  more_types_has : (ts : t.Tys) → Has (types_from true ts) (more_types_marks ts)
  more_types_has t.NoType = refl
  more_types_has (t.OneType e ts) = ap (λ l. sign kinds.Comma ∷ l) (then_has (type_doc e) (types_from true ts) (type_marks e) (more_types_marks ts) (type_has e) (more_types_has ts))

ids_has : (xs : List t.Id) → Has (commas id_doc xs) (ids_marks xs)
ids_has xs = commas_has id_doc (λ x. id_mark x ∷ []) (λ x. refl) xs

arg_has : (a : t.Arg) → Has (arg_doc a) (arg_marks a)
arg_has (t.Formula e) = ex_has e
arg_has (t.Quoted q) = refl

args_has : (as' : List t.Arg) → Has (args_doc as') (m.commas arg_marks as')
args_has [] = refl
args_has (a ∷ rest) = commas_has arg_doc arg_marks arg_has (a ∷ rest)

attr_has : (a : t.Attr) → Has (attr_doc a) (attr_marks a)
attr_has a = ap (λ l. sign kinds.OpenBrace ∷ sign kinds.Colon ∷ named a.name.text ∷ l) (close_has (args_doc a.args) (m.commas arg_marks a.args) kinds.CloseBrace (args_has a.args))

attrs_has : (as' : List t.Attr) → Has (each attr_doc as') (m.each attr_marks as')
attrs_has as' = each_has attr_doc attr_marks attr_has as'

three : (x y z a b c : List Mark) → x ≡ bare a → y ≡ bare b → z ≡ bare c → x ++ (y ++ z) ≡ bare ((a ++ b) ++ c)
three x y z a b c h k l = rw (h, k, l) (simp (bare_append, append_assoc))

group_has : (g : t.Group) → Has (group_doc g) (group_marks g)
group_has g =
    three (marks (each attr_doc g.attrs)) (marks (commas id_doc g.names)) (sign kinds.Colon ∷ marks (type_doc g.ty)) (m.each attr_marks g.attrs) (ids_marks g.names) (sign kinds.Colon ∷ type_marks g.ty)
    (attrs_has g.attrs) (ids_has g.names) (ap (λ l. sign kinds.Colon ∷ l) (type_has g.ty))

groups_has : (gs : List t.Group) → Has (commas group_doc gs) (m.commas group_marks gs)
groups_has gs = commas_has group_doc group_marks group_has gs

word_has : (k : Kind) (c : t.Clause) (b : Bool) → c.is_free ≡ b → marks (word_doc b kinds.Free) ++ sign k ∷ [] ≡ bare (clause_word k c)
word_has k c true e = rw e refl
word_has k c false e = rw e refl

clause_shape : (w cw x y a b : List Mark) (k : Kind) → w ++ sign k ∷ [] ≡ bare cw → x ≡ bare a → y ≡ bare b → w ++ (sign k ∷ (x ++ (y ++ sign kinds.Semicolon ∷ []))) ≡ bare (((cw ++ a) ++ b) ++ sign kinds.Semicolon ∷ [])
clause_shape w cw x y a b k hw h l =
    sym (append_assoc w (sign k ∷ []) (x ++ (y ++ sign kinds.Semicolon ∷ [])))
    ∙ ap (λ v. v ++ (x ++ (y ++ sign kinds.Semicolon ∷ []))) hw
    ∙ (rw (h, l) (simp (bare_append, append_assoc)))

clause_has : (k : Kind) (c : t.Clause) → Has (clause_doc k c) (clause_marks k c)
clause_has k c =
    clause_shape (marks (word_doc c.is_free kinds.Free)) (clause_word k c) (marks (each attr_doc c.attrs)) (marks (ex_doc c.says)) (m.each attr_marks c.attrs) (ex_marks c.says) k
    (word_has k c c.is_free refl) (attrs_has c.attrs) (ex_has c.says)

guard_has : (g : t.Guard) → Has (guard_doc g) (guard_marks g)
guard_has (t.Star p) = refl
guard_has (t.Test e) = ap (λ l. sign kinds.Open ∷ l) (close_has (ex_doc e) (ex_marks e) kinds.Close (ex_has e))

target_bracket_has : (b : Pos × t.Exs) → Has (bracket_doc b) (statements.bracket_marks b)
target_bracket_has b = ap (λ l. sign kinds.OpenBracket ∷ l) (close_has (list_doc b.1) (list_marks b.1) kinds.CloseBracket (list_has b.1))

target_has : (x : t.Target) → Has (target_doc x) (target_marks x)
target_has x = ap (λ l. named x.name.text ∷ l) (each_has bracket_doc statements.bracket_marks target_bracket_has x.brackets)

takes_has : (xs : List t.Id) → Has (takes_doc xs) (takes_marks xs)
takes_has [] = refl
takes_has (x ∷ xs) = close_has (commas id_doc (x ∷ xs)) (ids_marks (x ∷ xs)) kinds.Becomes (ids_has (x ∷ xs))

call_shape : (x y z p r a b c q u : List Mark) → x ≡ bare a → y ≡ bare b → z ≡ bare c → p ≡ bare q → r ≡ bare u → x ++ (y ++ ((z ++ p) ++ r)) ≡ bare (((a ++ b) ++ c) ++ (q ++ u))
call_shape x y z p r a b c q u h l n o v = rw (h, l, n, o, v) (simp (bare_append, append_assoc))

call_has : (c : t.Call) → Has (call_doc c) (call_marks c)
call_has c =
    call_shape (sign kinds.Call ∷ marks (each attr_doc c.attrs)) (marks (takes_doc c.takes)) (named c.procedure.text ∷ sign kinds.Open ∷ marks (list_doc c.args)) (sign kinds.Close ∷ []) (sign kinds.Semicolon ∷ [])
    (sign_at c.pos kinds.Call ∷ m.each attr_marks c.attrs) (takes_marks c.takes) (id_mark c.procedure ∷ sign kinds.Open ∷ list_marks c.args) (sign kinds.Close ∷ []) (sign kinds.Semicolon ∷ [])
    (ap (λ l. sign kinds.Call ∷ l) (attrs_has c.attrs)) (takes_has c.takes) (ap (λ l. named c.procedure.text ∷ sign kinds.Open ∷ l) (list_has c.args)) refl refl

margin_none : (n : ℕ) → marks (margin n) ≡ []
margin_none zero = refl
margin_none (suc n) = margin_none n

line_has : (n : ℕ) (d : Doc) (ms : List Mark) → Has d ms → Has (line n d) ms
line_has n d ms h = ap (λ l. l ++ (marks d ++ [])) (margin_none n) ∙ append-nil (marks d) ∙ h

block_has : (n : ℕ) (d : Doc) (ms : List Mark) → Has d ms → Has (block n d) (in_braces ms)
block_has n d ms h = ap (λ l. sign kinds.OpenBrace ∷ (marks d ++ (l ++ sign kinds.CloseBrace ∷ []))) (margin_none n) ∙ ap (λ l. sign kinds.OpenBrace ∷ l) (close_has d ms kinds.CloseBrace h)

assign_shape : (x y a b : List Mark) (k : Mark) → x ≡ bare a → y ≡ bare b → x ++ ((unplaced k ∷ y) ++ sign kinds.Semicolon ∷ []) ≡ bare ((a ++ (k ∷ b)) ++ sign kinds.Semicolon ∷ [])
assign_shape x y a b k h l = rw (h, l) (simp (bare_append, append_assoc))

behind_has : (x : Option t.Id) → Has (if_there behind_doc x) (m.if_there (λ y. id_mark y ∷ []) x)
behind_has None = refl
behind_has (Some x) = refl

invariants_has : (n : ℕ) (cs : List t.Clause) → Has (each (λ c. line n (clause_doc kinds.Invariant c)) cs) (m.each (clause_marks kinds.Invariant) cs)
invariants_has n cs = each_has (λ c. line n (clause_doc kinds.Invariant c)) (clause_marks kinds.Invariant) (λ c. line_has n (clause_doc kinds.Invariant c) (clause_marks kinds.Invariant c) (clause_has kinds.Invariant c)) cs

while_has : (n : ℕ) (p : Pos) (g : t.Guard) (cs : List t.Clause) → Has (while_doc n g cs) ((sign_at p kinds.While ∷ guard_marks g) ++ m.each (clause_marks kinds.Invariant) cs)
while_has n p g cs =
    then_has (line n (Say kinds.While ⨾ Space ⨾ guard_doc g)) (each (λ c. line (n + 2) (clause_doc kinds.Invariant c)) cs) (sign_at p kinds.While ∷ guard_marks g) (m.each (clause_marks kinds.Invariant) cs)
    (line_has n (Say kinds.While ⨾ Space ⨾ guard_doc g) (sign_at p kinds.While ∷ guard_marks g) (ap (λ l. sign kinds.While ∷ l) (guard_has g))) (invariants_has (n + 2) cs)

mutual
  st_has : (n : ℕ) (x : t.St) → Has (st_doc n x) (st_marks x)
  st_has n (t.Label x) = line_has n (id_doc x ⨾ Say kinds.Colon) (id_mark x ∷ sign kinds.Colon ∷ []) refl
  st_has n (t.Assert c) = line_has n (clause_doc kinds.Assert c) (clause_marks kinds.Assert c) (clause_has kinds.Assert c)
  st_has n (t.Assume c) = line_has n (clause_doc kinds.Assume c) (clause_marks kinds.Assume c) (clause_has kinds.Assume c)
  st_has n (t.Havoc p xs) = line_has n (Say kinds.Havoc ⨾ Space ⨾ commas id_doc xs ⨾ Say kinds.Semicolon) (st_marks (t.Havoc p xs)) (ap (λ l. sign kinds.Havoc ∷ l) (close_has (commas id_doc xs) (ids_marks xs) kinds.Semicolon (ids_has xs)))
  st_has n (t.Assign p ts es) =
      line_has n (commas target_doc ts ⨾ spaced kinds.Becomes (list_doc es) ⨾ Say kinds.Semicolon) (st_marks (t.Assign p ts es))
      (assign_shape (marks (commas target_doc ts)) (marks (list_doc es)) (m.commas target_marks ts) (list_marks es) (sign_at p kinds.Becomes) (commas_has target_doc target_marks target_has ts) (list_has es))
  st_has n (t.Invoke c) = line_has n (call_doc c) (call_marks c) (call_has c)
  st_has n (t.If p arms) = line_has n (Say kinds.If ⨾ arms_from false n arms) (st_marks (t.If p arms)) (ap (λ l. sign kinds.If ∷ l) (arms_has n arms))
  st_has n (t.IfElse p arms ss) =
      line_has n (Say kinds.If ⨾ arms_from false n arms ⨾ spaced kinds.Else (block n (sts_doc (n + 2) ss))) (st_marks (t.IfElse p arms ss))
      (ap (λ l. sign kinds.If ∷ l) (then_has (arms_from false n arms) (spaced kinds.Else (block n (sts_doc (n + 2) ss))) (arms_marks arms) (sign kinds.Else ∷ in_braces (sts_marks ss)) (arms_has n arms) (ap (λ l. sign kinds.Else ∷ l) (block_has n (sts_doc (n + 2) ss) (sts_marks ss) (sts_has (n + 2) ss)))))
  st_has n (t.While p g cs ss) =
      then_has (while_doc n g cs) (line n (block n (sts_doc (n + 2) ss))) ((sign_at p kinds.While ∷ guard_marks g) ++ m.each (clause_marks kinds.Invariant) cs) (in_braces (sts_marks ss)) (while_has n p g cs)
      (line_has n (block n (sts_doc (n + 2) ss)) (in_braces (sts_marks ss)) (block_has n (sts_doc (n + 2) ss) (sts_marks ss) (sts_has (n + 2) ss)))
  st_has n (t.Break p x) = line_has n (Say kinds.Break ⨾ if_there behind_doc x ⨾ Say kinds.Semicolon) (st_marks (t.Break p x)) (ap (λ l. sign kinds.Break ∷ l) (close_has (if_there behind_doc x) (m.if_there (λ y. id_mark y ∷ []) x) kinds.Semicolon (behind_has x)))
  st_has n (t.Goto p xs) = line_has n (Say kinds.Goto ⨾ Space ⨾ commas id_doc xs ⨾ Say kinds.Semicolon) (st_marks (t.Goto p xs)) (ap (λ l. sign kinds.Goto ∷ l) (close_has (commas id_doc xs) (ids_marks xs) kinds.Semicolon (ids_has xs)))
  st_has n (t.Return p) = line_has n (Say kinds.Return ⨾ Say kinds.Semicolon) (st_marks (t.Return p)) refl

  sts_has : (n : ℕ) (ss : t.Sts) → Has (sts_doc n ss) (sts_marks ss)
  sts_has n t.NoSt = refl
  sts_has n (t.Then x ss) = then_has (st_doc n x) (sts_doc n ss) (st_marks x) (sts_marks ss) (st_has n x) (sts_has n ss)

  arms_has : (n : ℕ) (as' : t.Arms) → Has (arms_from false n as') (arms_marks as')
  arms_has n t.NoArm = refl
  arms_has n (t.Arm g ss as') =
      then_has (arm_doc n g (sts_doc (n + 2) ss)) (arms_from true n as') (guard_marks g ++ in_braces (sts_marks ss)) (more_arms_marks as')
      (then_has (guard_doc g) (block n (sts_doc (n + 2) ss)) (guard_marks g) (in_braces (sts_marks ss)) (guard_has g) (block_has n (sts_doc (n + 2) ss) (sts_marks ss) (sts_has (n + 2) ss))) (more_arms_has n as')

  more_arms_has : (n : ℕ) (as' : t.Arms) → Has (arms_from true n as') (more_arms_marks as')
  more_arms_has n t.NoArm = refl
  more_arms_has n (t.Arm g ss as') =
      ap (λ l. sign kinds.Else ∷ sign kinds.If ∷ l)
      (then_has (arm_doc n g (sts_doc (n + 2) ss)) (arms_from true n as') (guard_marks g ++ in_braces (sts_marks ss)) (more_arms_marks as')
      (then_has (guard_doc g) (block n (sts_doc (n + 2) ss)) (guard_marks g) (in_braces (sts_marks ss)) (guard_has g) (block_has n (sts_doc (n + 2) ss) (sts_marks ss) (sts_has (n + 2) ss))) (more_arms_has n as'))

synonym_has : (x : Option t.Ty) → Has (if_there synonym_doc x) (m.if_there (λ e. sign kinds.Sets ∷ type_marks e) x)
synonym_has None = refl
synonym_has (Some e) = ap (λ l. sign kinds.Sets ∷ l) (type_has e)

new_type_has : (d : t.NewType) → Has (new_type_doc d) (new_type_marks d)
new_type_has d = ap (λ l. named d.name.text ∷ l) (synonym_has d.synonym)

typed_has : (x : Option t.Id) → Has (if_there typed_doc x) (m.if_there (λ y. id_mark y ∷ sign kinds.Colon ∷ []) x)
typed_has None = refl
typed_has (Some x) = refl

fun_arg_has : (a : t.FunArg) → Has (fun_arg_doc a) (fun_arg_marks a)
fun_arg_has a = then_has (if_there typed_doc a.name) (type_doc a.ty) (m.if_there (λ y. id_mark y ∷ sign kinds.Colon ∷ []) a.name) (type_marks a.ty) (typed_has a.name) (type_has a.ty)

fun_result_has : (r : t.FunResult) → Has (fun_result_doc r) (fun_result_marks r)
fun_result_has (t.Returns a) = ap (λ l. sign kinds.Returns ∷ sign kinds.Open ∷ l) (close_has (fun_arg_doc a) (fun_arg_marks a) kinds.Close (fun_arg_has a))
fun_result_has (t.Colon e) = ap (λ l. sign kinds.Colon ∷ l) (type_has e)

fun_end_has : (x : Option t.Ex) → Has (fun_end_doc x) (fun_end_marks x)
fun_end_has None = refl
fun_end_has (Some e) = ap (λ l. sign kinds.OpenBrace ∷ l) (close_has (ex_doc e) (ex_marks e) kinds.CloseBrace (ex_has e))

fun_shape : (x y p z w a b q c d : List Mark) → x ≡ bare a → y ≡ bare b → p ≡ bare q → z ≡ bare c → w ≡ bare d → x ++ ((y ++ p) ++ (z ++ w)) ≡ bare (((a ++ b) ++ (q ++ c)) ++ d)
fun_shape x y p z w a b q c d h l n o v = rw (h, l, n, o, v) (simp (bare_append, append_assoc))

fun_has : (f : t.Fun) → Has (fun_doc f) (decl_marks (t.Function f))
fun_has f =
    fun_shape (sign kinds.Function ∷ marks (each attr_doc f.attrs)) (named f.name.text ∷ sign kinds.Open ∷ marks (commas fun_arg_doc f.args)) (sign kinds.Close ∷ []) (marks (fun_result_doc f.result)) (marks (fun_end_doc f.body))
    (sign_at f.pos kinds.Function ∷ m.each attr_marks f.attrs) (id_mark f.name ∷ sign kinds.Open ∷ m.commas fun_arg_marks f.args) (sign kinds.Close ∷ []) (fun_result_marks f.result) (fun_end_marks f.body)
    (ap (λ l. sign kinds.Function ∷ l) (attrs_has f.attrs)) (ap (λ l. named f.name.text ∷ sign kinds.Open ∷ l) (commas_has fun_arg_doc fun_arg_marks fun_arg_has f.args)) refl (fun_result_has f.result) (fun_end_has f.body)

parens_has : (gs : List t.Group) → Has (groups_doc gs) (sign kinds.Open ∷ m.commas group_marks gs ++ sign kinds.Close ∷ [])
parens_has gs = ap (λ l. sign kinds.Open ∷ l) (close_has (commas group_doc gs) (m.commas group_marks gs) kinds.Close (groups_has gs))

results_has : (x : Option (List t.Group)) → Has (if_there returns_doc x) (m.if_there (λ gs. sign kinds.Returns ∷ (sign kinds.Open ∷ m.commas group_marks gs ++ sign kinds.Close ∷ [])) x)
results_has None = refl
results_has (Some gs) = ap (λ l. sign kinds.Returns ∷ l) (parens_has gs)

sig_has : (x : t.Sig) → Has (sig_doc x) (sig_marks x)
sig_has x = then_has (groups_doc x.params) (if_there returns_doc x.results) (sign kinds.Open ∷ m.commas group_marks x.params ++ sign kinds.Close ∷ []) (m.if_there (λ gs. sign kinds.Returns ∷ (sign kinds.Open ∷ m.commas group_marks gs ++ sign kinds.Close ∷ [])) x.results) (parens_has x.params) (results_has x.results)

modified_has : (xs : List t.Id) → Has (modified_doc xs) (ids_marks xs)
modified_has [] = refl
modified_has (x ∷ xs) = ids_has (x ∷ xs)

spec_has : (x : t.Spec) → Has (spec_doc x) (spec_marks x)
spec_has (t.Requires c) = line_has 2 (clause_doc kinds.Requires c) (clause_marks kinds.Requires c) (clause_has kinds.Requires c)
spec_has (t.Ensures c) = line_has 2 (clause_doc kinds.Ensures c) (clause_marks kinds.Ensures c) (clause_has kinds.Ensures c)
spec_has (t.Modifies p xs) = line_has 2 (Say kinds.Modifies ⨾ modified_doc xs ⨾ Say kinds.Semicolon) (spec_marks (t.Modifies p xs)) (ap (λ l. sign kinds.Modifies ∷ l) (close_has (modified_doc xs) (ids_marks xs) kinds.Semicolon (modified_has xs)))

vars_has : (v : t.Vars) → Has (vars_doc v) (vars_marks v)
vars_has v = ap (λ l. sign kinds.Var ∷ l) (close_has (commas group_doc v.groups) (m.commas group_marks v.groups) kinds.Semicolon (groups_has v.groups))

local_has : (v : t.Vars) → Has (local_doc v) (vars_marks v)
local_has v = line_has 2 (vars_doc v) (vars_marks v) (vars_has v)

body_has : (b : t.Body) → Has (body_doc b) (body_marks b)
body_has b =
    line_has 0 (block 0 (each local_doc b.locals ⨾ sts_doc 2 b.stmts)) (body_marks b)
    (block_has 0 (each local_doc b.locals ⨾ sts_doc 2 b.stmts) (m.each vars_marks b.locals ++ sts_marks b.stmts)
    (then_has (each local_doc b.locals) (sts_doc 2 b.stmts) (m.each vars_marks b.locals) (sts_marks b.stmts) (each_has local_doc vars_marks local_has b.locals) (sts_has 2 b.stmts)))

specs_has : (xs : List t.Spec) → Has (each spec_doc xs) (m.each spec_marks xs)
specs_has xs = each_has spec_doc spec_marks spec_has xs

tail_has : (xs : List t.Spec) (b : Option t.Body) → Has (tail_doc xs b) (tail_marks xs b)
tail_has xs None = ap (λ l. sign kinds.Semicolon ∷ l) (specs_has xs)
tail_has xs (Some b) = then_has (each spec_doc xs) (body_doc b) (m.each spec_marks xs) (body_marks b) (specs_has xs) (body_has b)

unique_has : (b : Bool) → Has (word_doc b kinds.Unique) (unique_marks b)
unique_has true = refl
unique_has false = refl

const_shape : (x y z w v a b c d e : List Mark) → x ≡ bare a → y ≡ bare b → z ≡ bare c → w ≡ bare d → v ≡ bare e → x ++ (y ++ (z ++ (w ++ v))) ≡ bare ((((a ++ b) ++ c) ++ d) ++ e)
const_shape x y z w v a b c d e h l n o r = rw (h, l, n, o, r) (simp (bare_append, append_assoc))

const_has : (c : t.Consts) → Has (const_doc c) (decl_marks (t.Constants c))
const_has c =
    const_shape (sign kinds.Const ∷ marks (each attr_doc c.group.attrs)) (marks (word_doc c.is_unique kinds.Unique)) (marks (commas id_doc c.group.names)) (sign kinds.Colon ∷ marks (type_doc c.group.ty)) (sign kinds.Semicolon ∷ [])
    (sign_at c.pos kinds.Const ∷ m.each attr_marks c.group.attrs) (unique_marks c.is_unique) (ids_marks c.group.names) (sign kinds.Colon ∷ type_marks c.group.ty) (sign kinds.Semicolon ∷ [])
    (ap (λ l. sign kinds.Const ∷ l) (attrs_has c.group.attrs)) (unique_has c.is_unique) (ids_has c.group.names) (ap (λ l. sign kinds.Colon ∷ l) (type_has c.group.ty)) refl

decl_has : (d : t.Decl) → Has (decl_doc d) (decl_marks d)
decl_has (t.Types p attrs ds) =
    line_has 0 (Say kinds.Type ⨾ Space ⨾ each attr_doc attrs ⨾ types_line ds) (decl_marks (t.Types p attrs ds))
    (three (sign kinds.Type ∷ marks (each attr_doc attrs)) (marks (commas new_type_doc ds)) (sign kinds.Semicolon ∷ []) (sign_at p kinds.Type ∷ m.each attr_marks attrs) (m.commas new_type_marks ds) (sign kinds.Semicolon ∷ [])
    (ap (λ l. sign kinds.Type ∷ l) (attrs_has attrs)) (commas_has new_type_doc new_type_marks new_type_has ds) refl)
decl_has (t.Constants c) = line_has 0 (const_doc c) (decl_marks (t.Constants c)) (const_has c)
decl_has (t.Function f) = line_has 0 (fun_doc f) (decl_marks (t.Function f)) (fun_has f)
decl_has (t.Axiom p attrs e) =
    line_has 0 (Say kinds.Axiom ⨾ Space ⨾ each attr_doc attrs ⨾ ex_doc e ⨾ Say kinds.Semicolon) (decl_marks (t.Axiom p attrs e))
    (three (sign kinds.Axiom ∷ marks (each attr_doc attrs)) (marks (ex_doc e)) (sign kinds.Semicolon ∷ []) (sign_at p kinds.Axiom ∷ m.each attr_marks attrs) (ex_marks e) (sign kinds.Semicolon ∷ [])
    (ap (λ l. sign kinds.Axiom ∷ l) (attrs_has attrs)) (ex_has e) refl)
decl_has (t.Globals v) = line_has 0 (vars_doc v) (vars_marks v) (vars_has v)
decl_has (t.Procedure q) =
    three (sign kinds.Procedure ∷ marks (each attr_doc q.attrs)) (named q.name.text ∷ marks (sig_doc q.sig)) (marks (tail_doc q.specs q.body)) (sign_at q.pos kinds.Procedure ∷ m.each attr_marks q.attrs) (id_mark q.name ∷ sig_marks q.sig) (tail_marks q.specs q.body)
    (ap (λ l. sign kinds.Procedure ∷ l) (attrs_has q.attrs)) (ap (λ l. named q.name.text ∷ l) (sig_has q.sig)) (tail_has q.specs q.body)
decl_has (t.Implementation q) =
    three (sign kinds.Implementation ∷ marks (each attr_doc q.attrs)) (named q.name.text ∷ marks (sig_doc q.sig)) (marks (body_doc q.body)) (sign_at q.pos kinds.Implementation ∷ m.each attr_marks q.attrs) (id_mark q.name ∷ sig_marks q.sig) (body_marks q.body)
    (ap (λ l. sign kinds.Implementation ∷ l) (attrs_has q.attrs)) (ap (λ l. named q.name.text ∷ l) (sig_has q.sig)) (body_has q.body)

-- the words of a printed program are the marks of its tree
pub decls_have : (ds : List t.Decl) → marks (each decl_doc ds) ≡ map unplaced (m.each decl_marks ds)
decls_have ds = each_has decl_doc decl_marks decl_has ds
