-- How declarations are printed: each on lines of its own.
use Rattle.std.specs.Prelude.{ℕ, List, [], ◌∷◌, Option, Some, None}
use Rattle.bg_text.specs.declared.token.Kind.TheVariants as kinds
use Rattle.bg_text.specs.Trees.{Id, Ex, Ty, Group, NewType, FunArg, FunResult, Returns, Colon, Sig, Spec, Requires, Ensures, Modifies, Vars, Body, Consts, Fun, Proc, Impl, Decl, Types, Constants, Function, Axiom, Globals, Procedure, Implementation}
use Rattle.bg_print.specs.Docs.{Doc, Empty, Say, Space, Newline, ◌⨾◌, each, commas, if_there, in_parens, spaced, line, block, text}
use Rattle.bg_print.specs.Exprs.{ex_doc, type_doc}
use Rattle.bg_print.specs.Parts.{id_doc, attr_doc, group_doc, word_doc, clause_doc}
use Rattle.bg_print.specs.Stmts.{sts_doc}

-- what a type stands for
abbrev pub synonym_doc : Ty → Doc
synonym_doc t = spaced kinds.Sets (type_doc t)

-- `T`, or `T = U`
abbrev pub new_type_doc : NewType → Doc
new_type_doc d = id_doc d.name ⨾ if_there synonym_doc d.synonym

-- a name before its type
abbrev pub typed_doc : Id → Doc
typed_doc x = id_doc x ⨾ Say kinds.Colon ⨾ Space

-- `T`, or `x: T`
abbrev pub fun_arg_doc : FunArg → Doc
fun_arg_doc a = if_there typed_doc a.name ⨾ type_doc a.ty

-- ` returns (T)`, or `: T`
abbrev pub fun_result_doc : FunResult → Doc
fun_result_doc (Returns a) = spaced kinds.Returns (in_parens (fun_arg_doc a))
fun_result_doc (Colon t) = Say kinds.Colon ⨾ Space ⨾ type_doc t

-- what ends a function: a semicolon, or its body on the same line
abbrev pub fun_end_doc : Option Ex → Doc
fun_end_doc None = Say kinds.Semicolon
fun_end_doc (Some e) = Space ⨾ Say kinds.OpenBrace ⨾ Space ⨾ ex_doc e ⨾ Space ⨾ Say kinds.CloseBrace

-- parameters, or results
abbrev pub groups_doc : List Group → Doc
groups_doc gs = in_parens (commas group_doc gs)

-- results behind ` returns `
abbrev pub returns_doc : List Group → Doc
returns_doc gs = spaced kinds.Returns (groups_doc gs)

-- parameters and, where they are written, results
abbrev pub sig_doc : Sig → Doc
sig_doc s = groups_doc s.params ⨾ if_there returns_doc s.results

-- names behind `modifies`, where there are any
abbrev pub modified_doc : List Id → Doc
modified_doc [] = Empty
modified_doc (x ∷ xs) = Space ⨾ commas id_doc (x ∷ xs)

-- a part of a specification, indented by two
abbrev pub spec_doc : Spec → Doc
spec_doc (Requires c) = line 2 (clause_doc kinds.Requires c)
spec_doc (Ensures c) = line 2 (clause_doc kinds.Ensures c)
spec_doc (Modifies p xs) = line 2 (Say kinds.Modifies ⨾ modified_doc xs ⨾ Say kinds.Semicolon)

-- `var` with its groups
abbrev pub vars_doc : Vars → Doc
vars_doc v = Say kinds.Var ⨾ Space ⨾ commas group_doc v.groups ⨾ Say kinds.Semicolon

-- `var` in a body
abbrev pub local_doc : Vars → Doc
local_doc v = line 2 (vars_doc v)

-- braces on lines of their own, with the content two deeper
abbrev pub body_doc : Body → Doc
body_doc b = line 0 (block 0 (each local_doc b.locals ⨾ sts_doc 2 b.stmts))

-- what follows a procedure's signature: the end of its line and its specification, and its body where it has one
abbrev pub tail_doc : List Spec → Option Body → Doc
tail_doc specs None = Say kinds.Semicolon ⨾ Newline ⨾ each spec_doc specs
tail_doc specs (Some b) = Newline ⨾ each spec_doc specs ⨾ body_doc b

-- types, and the end of their declaration
abbrev pub types_line : List NewType → Doc
types_line ds = commas new_type_doc ds ⨾ Say kinds.Semicolon

-- names with their type
abbrev pub const_doc : Consts → Doc
const_doc c =
    Say kinds.Const ⨾ Space ⨾ each attr_doc c.group.attrs ⨾ word_doc c.is_unique kinds.Unique ⨾ commas id_doc c.group.names
    ⨾ Say kinds.Colon ⨾ Space ⨾ type_doc c.group.ty ⨾ Say kinds.Semicolon

-- a function, without its line
abbrev pub fun_doc : Fun → Doc
fun_doc f =
    Say kinds.Function ⨾ Space ⨾ each attr_doc f.attrs ⨾ id_doc f.name ⨾ in_parens (commas fun_arg_doc f.args)
    ⨾ fun_result_doc f.result ⨾ fun_end_doc f.body

-- a procedure with the lines below it
abbrev pub proc_doc : Proc → Doc
proc_doc q = Say kinds.Procedure ⨾ Space ⨾ each attr_doc q.attrs ⨾ id_doc q.name ⨾ sig_doc q.sig ⨾ tail_doc q.specs q.body

-- an implementation with the lines below it
abbrev pub impl_doc : Impl → Doc
impl_doc q = Say kinds.Implementation ⨾ Space ⨾ each attr_doc q.attrs ⨾ id_doc q.name ⨾ sig_doc q.sig ⨾ Newline ⨾ body_doc q.body

-- the lines of a declaration
abbrev pub decl_doc : Decl → Doc
decl_doc (Types p attrs ds) = line 0 (Say kinds.Type ⨾ Space ⨾ each attr_doc attrs ⨾ types_line ds)
decl_doc (Constants c) = line 0 (const_doc c)
decl_doc (Function f) = line 0 (fun_doc f)
decl_doc (Axiom p attrs e) = line 0 (Say kinds.Axiom ⨾ Space ⨾ each attr_doc attrs ⨾ ex_doc e ⨾ Say kinds.Semicolon)
decl_doc (Globals v) = line 0 (vars_doc v)
decl_doc (Procedure q) = proc_doc q
decl_doc (Implementation q) = impl_doc q

-- a program as it is printed
abbrev pub printed : List Decl → List ℕ
printed ds = text (each decl_doc ds)
