-- Reading attributes, groups of names, and clauses.
use Rattle.std.specs.Prelude.{ℕ, List, Bool, true, false}
use Rattle.bg_base.specs.declared.pos.Pos.{Pos}
use Rattle.bg_text.specs.declared.token.Kind.{Kind}
use Rattle.bg_text.specs.declared.token.Kind.TheVariants as kinds
use Rattle.bg_text.specs.Trees.{Id, Ex, Exs, Arg, Formula, Quoted, Attr, Group, Clause}
use Rattle.bg_text.specs.Views.{exs_of}
use Rattle.bg_reader.specs.Reading.{Reader, with_read, both, one, a_sign, a_text}
use Rattle.bg_expr.specs.Exprs.{expr_at}
use Rattle.bg_grammar.specs.Rules.{choose, rows, after, before, commas_at, opened, list_closed, text_at, below, room}
use Rattle.bg_parts.specs.Types.{id_at, type_in}

-- expressions with commas between them
unfoldable pub exs_at : ℕ → ℕ → Reader Exs
exs_at n d ts = with_read exs_of (commas_at (expr_at n d) n ts)

-- expressions with commas between them, or none, and the closing parenthesis
unfoldable pub args_in : ℕ → ℕ → Reader Exs
args_in n d ts = with_read exs_of (list_closed kinds.Close (expr_at n d) n ts)

-- an argument of an attribute
unfoldable pub arg_at : ℕ → ℕ → Reader Arg
arg_at n d = choose (a_text kinds.Quoted) (λ ts. with_read Quoted (text_at kinds.Quoted ts)) (λ ts. with_read Formula (expr_at n d ts))

-- an attribute behind its brace
unfoldable pub attr_rest : ℕ → ℕ → Reader Attr
attr_rest n d ts = with_read (λ v. record { name = v.0; args = v.1 }) (after kinds.Colon (both id_at (list_closed kinds.CloseBrace (arg_at n d) n)) ts)

unfoldable pub attr_at : ℕ → ℕ → Reader Attr
attr_at n d ts = with_read (λ v. v.1) (opened kinds.OpenBrace (room (attr_rest n) (below d)) ts)

unfoldable pub attrs_at : ℕ → ℕ → Reader (List Attr)
attrs_at n d = rows (a_sign kinds.OpenBrace) (attr_at n d) n

-- names with commas between them
unfoldable pub ids_at : ℕ → Reader (List Id)
ids_at n = commas_at id_at n

-- names and their type, with the attributes before them
unfoldable pub group_at : ℕ → ℕ → Reader Group
group_at n d ts = with_read (λ v. record { attrs = v.0; names = v.1.0; ty = v.1.1 }) (both (attrs_at n d) (both (ids_at n) (after kinds.Colon (type_in n d))) ts)

-- what a clause says, behind its first words
unfoldable pub says_at : ℕ → ℕ → Reader (List Attr × Ex)
says_at n d = both (attrs_at n d) (before (expr_at n d) kinds.Semicolon)

abbrev pub clause : Bool → Pos → List Attr × Ex → Clause
clause free p v = record { pos = p; is_free = free; attrs = v.0; says = v.1 }

-- a clause that begins with the word
unfoldable pub clause_at : ℕ → ℕ → Kind → Reader Clause
clause_at n d k ts = with_read (λ v. clause false v.0 v.1) (both (one (a_sign k)) (says_at n d) ts)

-- an invariant, with `free` before it or without
unfoldable pub invariant_at : ℕ → ℕ → Reader Clause
invariant_at n d =
    choose (a_sign kinds.Free) (λ ts. with_read (λ v. clause true v.0 v.1) (both (one (a_sign kinds.Free)) (after kinds.Invariant (says_at n d)) ts))
    (clause_at n d kinds.Invariant)
