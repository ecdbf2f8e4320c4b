-- How attributes, groups of names, clauses and left sides are printed.
use Rattle.std.specs.Prelude.{List, [], ◌∷◌, Bool, true, false}
use Rattle.bg_base.specs.declared.pos.Pos.{Pos}
use Rattle.bg_text.specs.declared.token.Kind.{Kind}
use Rattle.bg_text.specs.declared.token.Kind.TheVariants as kinds
use Rattle.bg_text.specs.Trees.{Id, Exs, Arg, Formula, Quoted, Attr, Group, Clause, Guard, Star, Test, Target, Call}
use Rattle.bg_print.specs.Docs.{Doc, Empty, Say, Called, Quote, Space, ◌⨾◌, each, commas, in_parens, in_brackets}
use Rattle.bg_print.specs.Exprs.{ex_doc, list_doc, type_doc}

-- a name
abbrev pub id_doc : Id → Doc
id_doc x = Called x.text

-- an argument of an attribute
abbrev pub arg_doc : Arg → Doc
arg_doc (Formula e) = ex_doc e
arg_doc (Quoted quoted) = Quote quoted

-- the arguments of an attribute, behind its name
abbrev pub args_doc : List Arg → Doc
args_doc [] = Empty
args_doc (a ∷ rest) = Space ⨾ commas arg_doc (a ∷ rest)

-- `{:name arg, arg}` and a space
abbrev pub attr_doc : Attr → Doc
attr_doc a = Say kinds.OpenBrace ⨾ Say kinds.Colon ⨾ id_doc a.name ⨾ args_doc a.args ⨾ Say kinds.CloseBrace ⨾ Space

-- `x, y: T`, with the attributes before them
abbrev pub group_doc : Group → Doc
group_doc g = each attr_doc g.attrs ⨾ commas id_doc g.names ⨾ Say kinds.Colon ⨾ Space ⨾ type_doc g.ty

-- a keyword and a space, where it stands
abbrev pub word_doc : Bool → Kind → Doc
word_doc true k = Say k ⨾ Space
word_doc false k = Empty

-- what a clause says, with its attributes
abbrev pub says_doc : Clause → Doc
says_doc c = each attr_doc c.attrs ⨾ ex_doc c.says ⨾ Say kinds.Semicolon

-- a clause that begins with this word, or with `free` before it
abbrev pub clause_doc : Kind → Clause → Doc
clause_doc k c = word_doc c.is_free kinds.Free ⨾ Say k ⨾ Space ⨾ says_doc c

-- `(g)`
abbrev pub guard_doc : Guard → Doc
guard_doc (Star p) = in_parens (Say kinds.Times)
guard_doc (Test e) = in_parens (ex_doc e)

-- one bracket of a left side
abbrev pub bracket_doc : Pos × Exs → Doc
bracket_doc b = in_brackets (list_doc b.1)

-- the left side of an assignment
abbrev pub target_doc : Target → Doc
target_doc t = id_doc t.name ⨾ each bracket_doc t.brackets

-- the names that take the results of a call
abbrev pub takes_doc : List Id → Doc
takes_doc [] = Empty
takes_doc (x ∷ xs) = commas id_doc (x ∷ xs) ⨾ Space ⨾ Say kinds.Becomes ⨾ Space

-- the procedure and its arguments
abbrev pub invoked_doc : Call → Doc
invoked_doc c = id_doc c.procedure ⨾ in_parens (list_doc c.args) ⨾ Say kinds.Semicolon

-- a call, without its line
abbrev pub call_doc : Call → Doc
call_doc c = Say kinds.Call ⨾ Space ⨾ each attr_doc c.attrs ⨾ takes_doc c.takes ⨾ invoked_doc c
