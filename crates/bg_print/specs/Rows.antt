-- How parts of the code's trees are printed.
use Rattle.std.specs.Prelude.{ℕ, ◌+◌, List, [], ◌∷◌, Bool, true, false, Option, Some, None}
use Rattle.bg_text.specs.declared.token.Kind.TheVariants as kinds
use Rattle.bg_text.specs.declared.expr.TreeExpr.{TreeExpr}
use Rattle.bg_text.specs.declared.expr.TreeBracket.{TreeBracket}
use Rattle.bg_text.specs.declared.expr.TreeLink.{TreeLink}
use Rattle.bg_text.specs.declared.tree.TreeType.{TreeType}
use Rattle.bg_text.specs.declared.tree.TypeBracket.{TypeBracket}
use Rattle.bg_text.specs.declared.tree.TreeStmt.{TreeStmt}
use Rattle.bg_text.specs.declared.tree.TreeArm.{TreeArm}
use Rattle.bg_text.specs.Spelling.{infix_kind}
use Rattle.bg_text.specs.Trees as t
use Rattle.bg_text.specs.Views.{ex_of, bracket_view, type_of, st_of, guard_of}
use Rattle.bg_print.specs.Docs.{Doc, Empty, ◌⨾◌, each, commas, in_brackets, spaced, block}
use Rattle.bg_print.specs.Exprs.{ex_doc, list_from, type_doc}
use Rattle.bg_print.specs.Stmts.{st_doc, else_if, arm_doc}

-- an expression
abbrev pub expr_doc : TreeExpr → Doc
expr_doc e = ex_doc (ex_of e)

-- a bracket: an index, or an update with its value
abbrev pub index_doc : t.Exs → Option t.Ex → Doc
index_doc es None = in_brackets (list_from false es)
index_doc es (Some e) = in_brackets (list_from false es ⨾ spaced kinds.Becomes (ex_doc e))

-- a bracket of the code
abbrev pub tree_bracket_doc : TreeBracket → Doc
tree_bracket_doc b = let v = bracket_view b in index_doc v.1 v.2

-- a link of a chain
abbrev pub link_doc : TreeLink → Doc
link_doc l = spaced (infix_kind l.sign) (expr_doc l.operand)

-- a type
abbrev pub tree_type_doc : TreeType → Doc
tree_type_doc t = type_doc (type_of t)

-- a bracket of a map type
abbrev pub type_bracket_doc : TypeBracket → Doc
type_bracket_doc b = in_brackets (commas tree_type_doc b.indices.items)

-- a statement
abbrev pub stmt_doc : ℕ → TreeStmt → Doc
stmt_doc n s = st_doc n (st_of s)

-- statements in braces
abbrev pub tree_block : ℕ → List TreeStmt → Doc
tree_block n ss = block n (each (stmt_doc (n + 2)) ss)

-- arms, with ` else if` before each behind the first
abbrev pub tree_arms_from : Bool → ℕ → List TreeArm → Doc
tree_arms_from behind n [] = Empty
tree_arms_from behind n (a ∷ rest) = else_if behind ⨾ arm_doc n (guard_of a.guard) (each (stmt_doc (n + 2)) a.block.items) ⨾ tree_arms_from true n rest
