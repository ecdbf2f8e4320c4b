-- How each form of an expression, a type and a statement is printed, at the lists that the code meets.
use Rattle.std.proofs.Common.{◌≡◌, ℕ, ◌+◌, List, [], ◌∷◌, Bool, true, false, map, refl, sym, ap, ◌∙◌, Option, Some, None, Vec, Box, Global}
use Rattle.bg_base.specs.declared.pos.Pos.{Pos}
use Rattle.bg_text.specs.declared.token.Kind.TheVariants as kinds
use Rattle.bg_text.specs.declared.expr.Name.{Name}
use Rattle.bg_text.specs.declared.expr.TreeExpr.{TreeExpr}
use Rattle.bg_text.specs.declared.expr.TreeExpr.TheVariants as expr
use Rattle.bg_text.specs.declared.expr.TreeBracket.{TreeBracket}
use Rattle.bg_text.specs.declared.expr.TreeBracket.TheVariants as bracket
use Rattle.bg_text.specs.declared.expr.TreeLink.{TreeLink}
use Rattle.bg_text.specs.declared.tree.TreeType.{TreeType}
use Rattle.bg_text.specs.declared.tree.TreeType.TheVariants as type
use Rattle.bg_text.specs.declared.tree.TypeBracket.{TypeBracket}
use Rattle.bg_text.specs.declared.tree.TreeStmt.{TreeStmt}
use Rattle.bg_text.specs.declared.tree.TreeStmt.TheVariants as stmt
use Rattle.bg_text.specs.declared.tree.TreeArm.{TreeArm}
use Rattle.bg_text.specs.declared.tree.TreeGuard.{TreeGuard}
use Rattle.bg_text.specs.declared.tree.TreeClause.{TreeClause}
use Rattle.bg_text.specs.Trees as t
use Rattle.bg_text.specs.Views as v
use Rattle.bg_text.specs.Views.{ex_of, exs_in, links_of, link_view, brackets_of, bracket_view, type_of, tys_of, indexed_of, index_view, sts_in, arm_view, guard_of, clause_of}
use Rattle.bg_text.proofs.Lists as lists
use Rattle.bg_print.specs.Docs.{Called, Say, line, block, ◌⨾◌, each, gap, commas, commas_from, in_parens, in_brackets, spaced}
use Rattle.bg_print.specs.Exprs.{ex_doc, list_from, brackets_doc, links_doc, type_doc, types_from, indices_doc}
use Rattle.bg_print.specs.Stmts.{st_doc, sts_doc, arms_from, while_doc, else_if, arm_doc}
use Rattle.bg_print.specs.Rows.{expr_doc, index_doc, tree_bracket_doc, link_doc, tree_type_doc, type_bracket_doc, stmt_doc, tree_block, tree_arms_from}

-- a list of expressions as data
pub list_doc-in : (b : Bool) (es : List TreeExpr) → list_from b (exs_in es) ≡ commas_from b expr_doc es
list_doc-in b [] = refl
list_doc-in b (e ∷ es) = ap (λ d. gap b ⨾ expr_doc e ⨾ d) (list_doc-in true es)

links_doc-in : (ls : List TreeLink) → links_doc (links_of (map link_view ls)) ≡ each link_doc ls
links_doc-in [] = refl
links_doc-in (l ∷ ls) = ap (λ d. link_doc l ⨾ d) (links_doc-in ls)

bracket_doc-in : (p : Pos) (es : t.Exs) (o : Option t.Ex) (bs : t.Brackets) → brackets_doc (v.bracket_of_parts p es o bs) ≡ index_doc es o ⨾ brackets_doc bs
bracket_doc-in p es None bs = refl
bracket_doc-in p es (Some e) bs = refl

brackets_doc-in : (bs : List TreeBracket) → brackets_doc (brackets_of (map bracket_view bs)) ≡ each tree_bracket_doc bs
brackets_doc-in [] = refl
brackets_doc-in (b ∷ bs) =
    let w = bracket_view b in
    bracket_doc-in w.0 w.1 w.2 (brackets_of (map bracket_view bs)) ∙ ap (λ d. tree_bracket_doc b ⨾ d) (brackets_doc-in bs)

types_doc-in : (b : Bool) (es : List TreeType) → types_from b (tys_of (map type_of es)) ≡ commas_from b tree_type_doc es
types_doc-in b [] = refl
types_doc-in b (e ∷ es) = ap (λ d. gap b ⨾ tree_type_doc e ⨾ d) (types_doc-in true es)

indices_doc-in : (bs : List TypeBracket) → indices_doc (indexed_of (map index_view bs)) ≡ each type_bracket_doc bs
indices_doc-in [] = refl
indices_doc-in (b ∷ bs) =
    ap (λ d. in_brackets d ⨾ indices_doc (indexed_of (map index_view bs))) (types_doc-in false b.indices.items) ∙ ap (λ d. type_bracket_doc b ⨾ d) (indices_doc-in bs)

-- a list of statements as data
pub sts_doc-in : (n : ℕ) (ss : List TreeStmt) → sts_doc n (sts_in ss) ≡ each (stmt_doc n) ss
sts_doc-in n [] = refl
sts_doc-in n (s ∷ ss) = ap (λ d. stmt_doc n s ⨾ d) (sts_doc-in n ss)

arms_doc-in : (b : Bool) (n : ℕ) (as' : List TreeArm) → arms_from b n (v.arms_from (map arm_view as')) ≡ tree_arms_from b n as'
arms_doc-in b n [] = refl
arms_doc-in b n (a ∷ as') =
    ap (λ d. else_if b ⨾ arm_doc n (guard_of a.guard) d ⨾ arms_from true n (v.arms_from (map arm_view as'))) (sts_doc-in (n + 2) a.block.items)
    ∙ ap (λ d. else_if b ⨾ arm_doc n (guard_of a.guard) (each (stmt_doc (n + 2)) a.block.items) ⨾ d) (arms_doc-in true n as')

pub expr_doc-Apply : (name : Name) (args : Vec TreeExpr Global) (es : List TreeExpr) → es ≡ args.items → expr_doc (expr.Apply name args) ≡ Called name.text.items ⨾ in_parens (commas expr_doc es)
expr_doc-Apply name args es h = ap ex_doc (lists.ex_of-Apply name args) ∙ ap (λ d. Called name.text.items ⨾ in_parens d) (list_doc-in false args.items ∙ ap (commas expr_doc) (sym h))

pub expr_doc-Chain : (e : Box TreeExpr Global) (links : Vec TreeLink Global) (x : TreeExpr) (ls : List TreeLink) → x ≡ e.value → ls ≡ links.items → expr_doc (expr.Chain e links) ≡ expr_doc x ⨾ each link_doc ls
expr_doc-Chain e links x ls he hl =
    ap ex_doc (lists.ex_of-Chain e links) ∙ ap (λ d. expr_doc e.value ⨾ d) (links_doc-in links.items ∙ ap (each link_doc) (sym hl)) ∙ ap (λ y. expr_doc y ⨾ each link_doc ls) (sym he)

pub expr_doc-Postfix : (e : Box TreeExpr Global) (brackets : Vec TreeBracket Global) (x : TreeExpr) (bs : List TreeBracket) → x ≡ e.value → bs ≡ brackets.items → expr_doc (expr.Postfix e brackets) ≡ expr_doc x ⨾ each tree_bracket_doc bs
expr_doc-Postfix e brackets x bs he hb =
    ap ex_doc (lists.ex_of-Postfix e brackets) ∙ ap (λ d. expr_doc e.value ⨾ d) (brackets_doc-in brackets.items ∙ ap (each tree_bracket_doc) (sym hb)) ∙ ap (λ y. expr_doc y ⨾ each tree_bracket_doc bs) (sym he)

pub bracket_doc-Select : (q : Pos) (indices : Vec TreeExpr Global) (es : List TreeExpr) → es ≡ indices.items → tree_bracket_doc (bracket.Select q indices) ≡ in_brackets (commas expr_doc es)
bracket_doc-Select q indices es h = ap (λ w. index_doc w.1 w.2) (lists.bracket_view-Select q indices) ∙ ap in_brackets (list_doc-in false indices.items ∙ ap (commas expr_doc) (sym h))

pub bracket_doc-Update : (q : Pos) (indices : Vec TreeExpr Global) (e : TreeExpr) (es : List TreeExpr) → es ≡ indices.items → tree_bracket_doc (bracket.Update q indices e) ≡ in_brackets (commas expr_doc es ⨾ spaced kinds.Becomes (expr_doc e))
bracket_doc-Update q indices e es h =
    ap (λ w. index_doc w.1 w.2) (lists.bracket_view-Update q indices e) ∙ ap (λ d. in_brackets (d ⨾ spaced kinds.Becomes (expr_doc e))) (list_doc-in false indices.items ∙ ap (commas expr_doc) (sym h))

pub type_doc-Map : (brackets : Vec TypeBracket Global) (e : Box TreeType Global) (x : TreeType) (bs : List TypeBracket) → x ≡ e.value → bs ≡ brackets.items → tree_type_doc (type.Map brackets e) ≡ each type_bracket_doc bs ⨾ tree_type_doc x
type_doc-Map brackets e x bs he hb =
    ap type_doc (lists.type_of-Map brackets e) ∙ ap (λ d. d ⨾ tree_type_doc e.value) (indices_doc-in brackets.items ∙ ap (each type_bracket_doc) (sym hb)) ∙ ap (λ y. each type_bracket_doc bs ⨾ tree_type_doc y) (sym he)

arms_as : (n : ℕ) (arms : Vec TreeArm Global) (xs : List TreeArm) → xs ≡ arms.items → arms_from false n (v.arms_from (map arm_view arms.items)) ≡ tree_arms_from false n xs
arms_as n arms xs h = arms_doc-in false n arms.items ∙ ap (tree_arms_from false n) (sym h)

block_as : (n : ℕ) (ss : Vec TreeStmt Global) (ys : List TreeStmt) → ys ≡ ss.items → block n (sts_doc (n + 2) (sts_in ss.items)) ≡ tree_block n ys
block_as n ss ys h = ap (block n) (sts_doc-in (n + 2) ss.items) ∙ ap (tree_block n) (sym h)

pub stmt_doc-If : (n : ℕ) (p : Pos) (arms : Vec TreeArm Global) (xs : List TreeArm) → xs ≡ arms.items → stmt_doc n (stmt.If p arms) ≡ line n (Say kinds.If ⨾ tree_arms_from false n xs)
stmt_doc-If n p arms xs h = ap (st_doc n) (lists.st_of-If p arms) ∙ ap (λ d. line n (Say kinds.If ⨾ d)) (arms_as n arms xs h)

pub stmt_doc-IfElse : (n : ℕ) (p : Pos) (arms : Vec TreeArm Global) (ss : Vec TreeStmt Global) (xs : List TreeArm) (ys : List TreeStmt) → xs ≡ arms.items → ys ≡ ss.items → stmt_doc n (stmt.IfElse p arms ss) ≡ line n (Say kinds.If ⨾ tree_arms_from false n xs ⨾ spaced kinds.Else (tree_block n ys))
stmt_doc-IfElse n p arms ss xs ys h k =
    ap (st_doc n) (lists.st_of-IfElse p arms ss)
    ∙ ap (λ d. line n (Say kinds.If ⨾ d ⨾ spaced kinds.Else (block n (sts_doc (n + 2) (sts_in ss.items))))) (arms_as n arms xs h)
    ∙ ap (λ d. line n (Say kinds.If ⨾ tree_arms_from false n xs ⨾ spaced kinds.Else d)) (block_as n ss ys k)

pub stmt_doc-While : (n : ℕ) (p : Pos) (g : TreeGuard) (cs : Vec TreeClause Global) (ss : Vec TreeStmt Global) (xs : List TreeClause) (ys : List TreeStmt) → xs ≡ cs.items → ys ≡ ss.items → stmt_doc n (stmt.While p g cs ss) ≡ while_doc n (guard_of g) (map clause_of xs) ⨾ line n (tree_block n ys)
stmt_doc-While n p g cs ss xs ys h k =
    ap (st_doc n) (lists.st_of-While p g cs ss)
    ∙ ap (λ d. while_doc n (guard_of g) (map clause_of cs.items) ⨾ line n d) (block_as n ss ys k)
    ∙ ap (λ l. while_doc n (guard_of g) (map clause_of l) ⨾ line n (tree_block n ys)) (sym h)
