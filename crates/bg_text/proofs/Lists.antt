-- How each form of the code's trees is read, at the lists that code meets.
use Rattle.std.proofs.Common.{◌≡◌, map, Some, None, refl, sym, ap, ◌∙◌, Vec, Box, Global}
use mathlib.Core.Former.{Count}
use Rattle.bg_base.specs.declared.pos.Pos.{Pos}
use Rattle.bg_text.specs.declared.expr.Name.{Name}
use Rattle.bg_text.specs.declared.expr.TreeExpr.{TreeExpr, Row_of-TreeExpr, end_of-TreeExpr, more_of-TreeExpr, items-the_row-TreeExpr, items_hidden-the_row-TreeExpr-0, Row_of-TreeLink, end_of-TreeLink, more_of-TreeLink, items-the_row-TreeLink, items_hidden-the_row-TreeLink-2, Row_of-TreeBracket, end_of-TreeBracket, more_of-TreeBracket, items-the_row-TreeBracket, items_hidden-the_row-TreeBracket-1}
use Rattle.bg_text.specs.declared.expr.TreeExpr.TheVariants as expr
use Rattle.bg_text.specs.declared.expr.TreeBracket.{TreeBracket}
use Rattle.bg_text.specs.declared.expr.TreeBracket.TheVariants as bracket
use Rattle.bg_text.specs.declared.expr.TreeLink.{TreeLink}
use Rattle.bg_text.specs.declared.tree.TreeType.{TreeType, Row_of-TreeType, end_of-TreeType, more_of-TreeType, items-the_row-TreeType, items_shown-the_row-TreeType-0, Row_of-TypeBracket, end_of-TypeBracket, more_of-TypeBracket, items-the_row-TypeBracket, items_hidden-the_row-TypeBracket-1}
use Rattle.bg_text.specs.declared.tree.TreeType.TheVariants as type
use Rattle.bg_text.specs.declared.tree.TypeBracket.{TypeBracket}
use Rattle.bg_text.specs.declared.tree.TreeClause.{TreeClause}
use Rattle.bg_text.specs.declared.tree.TreeGuard.{TreeGuard}
use Rattle.bg_text.specs.declared.tree.TreeArm.{TreeArm}
use Rattle.bg_text.specs.declared.tree.TreeStmt.{TreeStmt, Row_of-TreeStmt, end_of-TreeStmt, more_of-TreeStmt, items-the_row-TreeStmt, items_hidden-the_row-TreeStmt-0, items_shown-the_row-TreeStmt-0, Row_of-TreeArm, end_of-TreeArm, more_of-TreeArm, items-the_row-TreeArm, items_hidden-the_row-TreeArm-1}
use Rattle.bg_text.specs.declared.tree.TreeStmt.TheVariants as stmt
use Rattle.bg_text.specs.Trees as t
use Rattle.bg_text.specs.Views.{ex_of, row_of, chain_of, behind_of, with_bracket, exs_of, link_view, links_of, bracket_of_parts, brackets_of, bracket_view, type_of, types_of, indices_of, tys_of, indexed_of, index_view, guard_of, clause_of, st_of, sts_of, sts_from, arms_of, arms_from, arm_view}

exs_row : (n : _) (row : Row_of-TreeExpr n) → row_of row ≡ exs_of (map ex_of (items-the_row-TreeExpr n row))
exs_row n end_of-TreeExpr = refl
exs_row n (more_of-TreeExpr e es) = ap (t.More (ex_of e)) (exs_row _ es)

links_row : (n : _) (row : Row_of-TreeLink n) → chain_of row ≡ links_of (map link_view (items-the_row-TreeLink n row))
links_row n end_of-TreeLink = refl
links_row n (more_of-TreeLink q s e ls) = ap (t.Link q s (ex_of e)) (links_row _ ls)

with_view : (b : TreeBracket) (bs : t.Brackets) → with_bracket b bs ≡ (let v = bracket_view b in bracket_of_parts v.0 v.1 v.2 bs)
with_view (bracket.Select' q shape es) bs = refl
with_view (bracket.Update' q shape es e) bs = refl

brackets_row : (n : _) (row : Row_of-TreeBracket n) → behind_of row ≡ brackets_of (map bracket_view (items-the_row-TreeBracket n row))
brackets_row n end_of-TreeBracket = refl
brackets_row n (more_of-TreeBracket b bs) = ap (with_bracket b) (brackets_row _ bs) ∙ with_view b _

abbrev exprs_in : TreeExpr → (n : Count) × Row_of-TreeExpr n
exprs_in (expr.Apply' name shape row) = (_, row)
exprs_in _ = (_, end_of-TreeExpr)

abbrev links_in : TreeExpr → (n : Count) × Row_of-TreeLink n
links_in (expr.Chain' p e shape row) = (_, row)
links_in _ = (_, end_of-TreeLink)

abbrev behind_in : TreeExpr → (n : Count) × Row_of-TreeBracket n
behind_in (expr.Postfix' p e shape row) = (_, row)
behind_in _ = (_, end_of-TreeBracket)

abbrev parts_in : TreeBracket → (n : Count) × Row_of-TreeExpr n
parts_in (bracket.Select' q shape row) = (_, row)
parts_in (bracket.Update' q shape row e) = (_, row)

pub ex_of-Apply : (name : Name) (args : Vec TreeExpr Global) → ex_of (expr.Apply name args) ≡ t.Apply name.pos name.text.items (exs_of (map ex_of args.items))
ex_of-Apply name args =
    let row = exprs_in (expr.Apply name args) in
    ap (t.Apply name.pos name.text.items) (exs_row row.0 row.1 ∙ ap (λ l. exs_of (map ex_of l)) (items_hidden-the_row-TreeExpr-0 args))

pub ex_of-Chain : (e : Box TreeExpr Global) (ls : Vec TreeLink Global) → ex_of (expr.Chain e ls) ≡ t.Chain (ex_of e.value) (links_of (map link_view ls.items))
ex_of-Chain e ls =
    let row = links_in (expr.Chain e ls) in
    ap (t.Chain (ex_of e.value)) (links_row row.0 row.1 ∙ ap (λ l. links_of (map link_view l)) (items_hidden-the_row-TreeLink-2 ls))

pub ex_of-Postfix : (e : Box TreeExpr Global) (bs : Vec TreeBracket Global) → ex_of (expr.Postfix e bs) ≡ t.Postfix (ex_of e.value) (brackets_of (map bracket_view bs.items))
ex_of-Postfix e bs =
    let row = behind_in (expr.Postfix e bs) in
    ap (t.Postfix (ex_of e.value)) (brackets_row row.0 row.1 ∙ ap (λ l. brackets_of (map bracket_view l)) (items_hidden-the_row-TreeBracket-1 bs))

pub bracket_view-Select : (q : Pos) (es : Vec TreeExpr Global) → bracket_view (bracket.Select q es) ≡ (q, exs_of (map ex_of es.items), None)
bracket_view-Select q es =
    let row = parts_in (bracket.Select q es) in
    ap (λ l. (q, l, None)) (exs_row row.0 row.1 ∙ ap (λ l. exs_of (map ex_of l)) (items_hidden-the_row-TreeExpr-0 es))

pub bracket_view-Update : (q : Pos) (es : Vec TreeExpr Global) (e : TreeExpr) → bracket_view (bracket.Update q es e) ≡ (q, exs_of (map ex_of es.items), Some (ex_of e))
bracket_view-Update q es e =
    let row = parts_in (bracket.Update q es e) in
    ap (λ l. (q, l, Some (ex_of e))) (exs_row row.0 row.1 ∙ ap (λ l. exs_of (map ex_of l)) (items_hidden-the_row-TreeExpr-0 es))

-- types
types_row : (n : _) (row : Row_of-TreeType n) → types_of row ≡ tys_of (map type_of (items-the_row-TreeType n row))
types_row n end_of-TreeType = refl
types_row n (more_of-TreeType e es) = ap (t.OneType (type_of e)) (types_row _ es)

same_index : (q : Pos) (a b : t.Tys) (is js : t.Indices) → a ≡ b → is ≡ js → t.Index q a is ≡ t.Index q b js
same_index q a b is js h k = rw (h, k) refl

indices_row : (n : _) (row : Row_of-TypeBracket n) → indices_of row ≡ indexed_of (map index_view (items-the_row-TypeBracket n row))
indices_row n end_of-TypeBracket = refl
indices_row n (more_of-TypeBracket q shape es bs) =
    same_index q _ _ _ _ (types_row _ es ∙ ap (λ l. tys_of (map type_of l)) (sym (items_shown-the_row-TreeType-0 shape es))) (indices_row _ bs)

abbrev indices_in : TreeType → (n : Count) × Row_of-TypeBracket n
indices_in (type.Map' shape row p e) = (_, row)
indices_in _ = (_, end_of-TypeBracket)

pub type_of-Map : (bs : Vec TypeBracket Global) (e : Box TreeType Global) → type_of (type.Map bs e) ≡ t.MapType (indexed_of (map index_view bs.items)) (type_of e.value)
type_of-Map bs e =
    let row = indices_in (type.Map bs e) in
    ap (λ l. t.MapType l (type_of e.value)) (indices_row row.0 row.1 ∙ ap (λ l. indexed_of (map index_view l)) (items_hidden-the_row-TypeBracket-1 bs))

-- statements
sts_row : (n : _) (row : Row_of-TreeStmt n) → sts_of row ≡ sts_from (map st_of (items-the_row-TreeStmt n row))
sts_row n end_of-TreeStmt = refl
sts_row n (more_of-TreeStmt s ss) = ap (t.Then (st_of s)) (sts_row _ ss)

same_arm : (g : t.Guard) (a b : t.Sts) (is js : t.Arms) → a ≡ b → is ≡ js → t.Arm g a is ≡ t.Arm g b js
same_arm g a b is js h k = rw (h, k) refl

arms_row : (n : _) (row : Row_of-TreeArm n) → arms_of row ≡ arms_from (map arm_view (items-the_row-TreeArm n row))
arms_row n end_of-TreeArm = refl
arms_row n (more_of-TreeArm g shape ss arms) =
    same_arm (guard_of g) _ _ _ _ (sts_row _ ss ∙ ap (λ l. sts_from (map st_of l)) (sym (items_shown-the_row-TreeStmt-0 shape ss))) (arms_row _ arms)

abbrev arms_in : TreeStmt → (n : Count) × Row_of-TreeArm n
arms_in (stmt.If' p shape row) = (_, row)
arms_in (stmt.IfElse' p shape row shape' ss) = (_, row)
arms_in _ = (_, end_of-TreeArm)

abbrev sts_within : TreeStmt → (n : Count) × Row_of-TreeStmt n
sts_within (stmt.IfElse' p shape arms shape' row) = (_, row)
sts_within (stmt.While' p g cs shape row) = (_, row)
sts_within _ = (_, end_of-TreeStmt)

pub st_of-If : (p : Pos) (arms : Vec TreeArm Global) → st_of (stmt.If p arms) ≡ t.If p (arms_from (map arm_view arms.items))
st_of-If p arms =
    let row = arms_in (stmt.If p arms) in
    ap (t.If p) (arms_row row.0 row.1 ∙ ap (λ l. arms_from (map arm_view l)) (items_hidden-the_row-TreeArm-1 arms))

pub st_of-IfElse : (p : Pos) (arms : Vec TreeArm Global) (ss : Vec TreeStmt Global) → st_of (stmt.IfElse p arms ss) ≡ t.IfElse p (arms_from (map arm_view arms.items)) (sts_from (map st_of ss.items))
st_of-IfElse p arms ss =
    let row = arms_in (stmt.IfElse p arms ss) in
    let body = sts_within (stmt.IfElse p arms ss) in
    ap (λ l. t.IfElse p l (sts_of body.1)) (arms_row row.0 row.1 ∙ ap (λ l. arms_from (map arm_view l)) (items_hidden-the_row-TreeArm-1 arms))
    ∙ ap (t.IfElse p (arms_from (map arm_view arms.items))) (sts_row body.0 body.1 ∙ ap (λ l. sts_from (map st_of l)) (items_hidden-the_row-TreeStmt-0 ss))

pub st_of-While : (p : Pos) (g : TreeGuard) (cs : Vec TreeClause Global) (ss : Vec TreeStmt Global) → st_of (stmt.While p g cs ss) ≡ t.While p (guard_of g) (map clause_of cs.items) (sts_from (map st_of ss.items))
st_of-While p g cs ss =
    let body = sts_within (stmt.While p g cs ss) in
    ap (t.While p (guard_of g) (map clause_of cs.items)) (sts_row body.0 body.1 ∙ ap (λ l. sts_from (map st_of l)) (items_hidden-the_row-TreeStmt-0 ss))
