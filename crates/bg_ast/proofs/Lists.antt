-- How each form of the code's resolved programs is read, at the lists that code meets.
use Rattle.std.proofs.Common.{◌≡◌, ℕ, map, Some, None, refl, sym, ap, ◌∙◌, Vec, Box, Global}
use mathlib.Core.Former.{Count}
use Rattle.bg_base.specs.declared.pos.Pos.{Pos}
use Rattle.bg_ast.specs.declared.resolved.Expr.{Expr, Row_of-Expr, end_of-Expr, more_of-Expr, items-the_row-Expr, items_hidden-the_row-Expr-0, Row_of-Link, end_of-Link, more_of-Link, items-the_row-Link, items_hidden-the_row-Link-2, Row_of-Bracket, end_of-Bracket, more_of-Bracket, items-the_row-Bracket, items_hidden-the_row-Bracket-1}
use Rattle.bg_ast.specs.declared.resolved.Expr.TheVariants as expr
use Rattle.bg_ast.specs.declared.resolved.Bracket.{Bracket}
use Rattle.bg_ast.specs.declared.resolved.Bracket.TheVariants as bracket
use Rattle.bg_ast.specs.declared.resolved.Link.{Link}
use Rattle.bg_ast.specs.declared.resolved.WrittenType.{WrittenType, Row_of-WrittenType, end_of-WrittenType, more_of-WrittenType, items-the_row-WrittenType, items_shown-the_row-WrittenType-0, Row_of-IndexTypes, end_of-IndexTypes, more_of-IndexTypes, items-the_row-IndexTypes, items_hidden-the_row-IndexTypes-1}
use Rattle.bg_ast.specs.declared.resolved.WrittenType.TheVariants as type
use Rattle.bg_ast.specs.declared.resolved.IndexTypes.{IndexTypes}
use Rattle.bg_ast.specs.declared.resolved.Clause.{Clause}
use Rattle.bg_ast.specs.declared.resolved.Guard.{Guard}
use Rattle.bg_ast.specs.declared.resolved.Arm.{Arm}
use Rattle.bg_ast.specs.declared.resolved.Stmt.{Stmt, Row_of-Stmt, end_of-Stmt, more_of-Stmt, items-the_row-Stmt, items_hidden-the_row-Stmt-0, items_shown-the_row-Stmt-0, Row_of-Arm, end_of-Arm, more_of-Arm, items-the_row-Arm, items_hidden-the_row-Arm-1}
use Rattle.bg_ast.specs.declared.resolved.Stmt.TheVariants as stmt
use Rattle.bg_ast.specs.Resolved as t
use Rattle.bg_ast.specs.Views.{ex_of, row_of, chain_of, behind_of, with_bracket, exs_of, link_view, links_of, behind_parts, brackets_of, bracket_view, type_of, types_of, indices_of, tys_of, indexed_of, index_view, guard_of, clause_of, st_of, sts_of, sts_from, arms_of, arms_from, arm_view}

exs_row : (n : _) (row : Row_of-Expr n) → row_of row ≡ exs_of (map ex_of (items-the_row-Expr n row))
exs_row n end_of-Expr = refl
exs_row n (more_of-Expr e es) = ap (t.More (ex_of e)) (exs_row _ es)

links_row : (n : _) (row : Row_of-Link n) → chain_of row ≡ links_of (map link_view (items-the_row-Link n row))
links_row n end_of-Link = refl
links_row n (more_of-Link q s e ls) = ap (t.Link q s (ex_of e)) (links_row _ ls)

with_view : (b : Bracket) (bs : t.Brackets) → with_bracket b bs ≡ (let v = bracket_view b in behind_parts v.0 v.1 v.2 bs)
with_view (bracket.Select' q shape es) bs = refl
with_view (bracket.Update' q shape es e) bs = refl

brackets_row : (n : _) (row : Row_of-Bracket n) → behind_of row ≡ brackets_of (map bracket_view (items-the_row-Bracket n row))
brackets_row n end_of-Bracket = refl
brackets_row n (more_of-Bracket b bs) = ap (with_bracket b) (brackets_row _ bs) ∙ with_view b _

abbrev exprs_in : Expr → (n : Count) × Row_of-Expr n
exprs_in (expr.Apply' q f shape row) = (_, row)
exprs_in _ = (_, end_of-Expr)

abbrev links_in : Expr → (n : Count) × Row_of-Link n
links_in (expr.Chain' p e shape row) = (_, row)
links_in _ = (_, end_of-Link)

abbrev behind_in : Expr → (n : Count) × Row_of-Bracket n
behind_in (expr.Postfix' p e shape row) = (_, row)
behind_in _ = (_, end_of-Bracket)

abbrev parts_in : Bracket → (n : Count) × Row_of-Expr n
parts_in (bracket.Select' q shape row) = (_, row)
parts_in (bracket.Update' q shape row e) = (_, row)

pub ex_of-Apply : (q : Pos) (f : ℕ) (args : Vec Expr Global) → ex_of (expr.Apply q f args) ≡ t.Apply q f (exs_of (map ex_of args.items))
ex_of-Apply q f args =
    let row = exprs_in (expr.Apply q f args) in
    ap (t.Apply q f) (exs_row row.0 row.1 ∙ ap (λ l. exs_of (map ex_of l)) (items_hidden-the_row-Expr-0 args))

pub ex_of-Chain : (e : Box Expr Global) (ls : Vec Link Global) → ex_of (expr.Chain e ls) ≡ t.Chain (ex_of e.value) (links_of (map link_view ls.items))
ex_of-Chain e ls =
    let row = links_in (expr.Chain e ls) in
    ap (t.Chain (ex_of e.value)) (links_row row.0 row.1 ∙ ap (λ l. links_of (map link_view l)) (items_hidden-the_row-Link-2 ls))

pub ex_of-Postfix : (e : Box Expr Global) (bs : Vec Bracket Global) → ex_of (expr.Postfix e bs) ≡ t.Postfix (ex_of e.value) (brackets_of (map bracket_view bs.items))
ex_of-Postfix e bs =
    let row = behind_in (expr.Postfix e bs) in
    ap (t.Postfix (ex_of e.value)) (brackets_row row.0 row.1 ∙ ap (λ l. brackets_of (map bracket_view l)) (items_hidden-the_row-Bracket-1 bs))

pub bracket_view-Select : (q : Pos) (es : Vec Expr Global) → bracket_view (bracket.Select q es) ≡ (q, exs_of (map ex_of es.items), None)
bracket_view-Select q es =
    let row = parts_in (bracket.Select q es) in
    ap (λ l. (q, l, None)) (exs_row row.0 row.1 ∙ ap (λ l. exs_of (map ex_of l)) (items_hidden-the_row-Expr-0 es))

pub bracket_view-Update : (q : Pos) (es : Vec Expr Global) (e : Expr) → bracket_view (bracket.Update q es e) ≡ (q, exs_of (map ex_of es.items), Some (ex_of e))
bracket_view-Update q es e =
    let row = parts_in (bracket.Update q es e) in
    ap (λ l. (q, l, Some (ex_of e))) (exs_row row.0 row.1 ∙ ap (λ l. exs_of (map ex_of l)) (items_hidden-the_row-Expr-0 es))

-- types
types_row : (n : _) (row : Row_of-WrittenType n) → types_of row ≡ tys_of (map type_of (items-the_row-WrittenType n row))
types_row n end_of-WrittenType = refl
types_row n (more_of-WrittenType e es) = ap (t.OneType (type_of e)) (types_row _ es)

same_index : (q : Pos) (a b : t.Tys) (is js : t.Indices) → a ≡ b → is ≡ js → t.Index q a is ≡ t.Index q b js
same_index q a b is js h k = rw (h, k) refl

indices_row : (n : _) (row : Row_of-IndexTypes n) → indices_of row ≡ indexed_of (map index_view (items-the_row-IndexTypes n row))
indices_row n end_of-IndexTypes = refl
indices_row n (more_of-IndexTypes q shape es bs) =
    same_index q _ _ _ _ (types_row _ es ∙ ap (λ l. tys_of (map type_of l)) (sym (items_shown-the_row-WrittenType-0 shape es))) (indices_row _ bs)

abbrev indices_in : WrittenType → (n : Count) × Row_of-IndexTypes n
indices_in (type.Map' shape row p e) = (_, row)
indices_in _ = (_, end_of-IndexTypes)

pub type_of-Map : (bs : Vec IndexTypes Global) (e : Box WrittenType Global) → type_of (type.Map bs e) ≡ t.MapType (indexed_of (map index_view bs.items)) (type_of e.value)
type_of-Map bs e =
    let row = indices_in (type.Map bs e) in
    ap (λ l. t.MapType l (type_of e.value)) (indices_row row.0 row.1 ∙ ap (λ l. indexed_of (map index_view l)) (items_hidden-the_row-IndexTypes-1 bs))

-- statements
sts_row : (n : _) (row : Row_of-Stmt n) → sts_of row ≡ sts_from (map st_of (items-the_row-Stmt n row))
sts_row n end_of-Stmt = refl
sts_row n (more_of-Stmt s ss) = ap (t.Then (st_of s)) (sts_row _ ss)

same_arm : (g : t.Guard) (a b : t.Sts) (is js : t.Arms) → a ≡ b → is ≡ js → t.Arm g a is ≡ t.Arm g b js
same_arm g a b is js h k = rw (h, k) refl

arms_row : (n : _) (row : Row_of-Arm n) → arms_of row ≡ arms_from (map arm_view (items-the_row-Arm n row))
arms_row n end_of-Arm = refl
arms_row n (more_of-Arm g shape ss arms) =
    same_arm (guard_of g) _ _ _ _ (sts_row _ ss ∙ ap (λ l. sts_from (map st_of l)) (sym (items_shown-the_row-Stmt-0 shape ss))) (arms_row _ arms)

abbrev arms_in : Stmt → (n : Count) × Row_of-Arm n
arms_in (stmt.If' n shape row shape' ss) = (_, row)
arms_in _ = (_, end_of-Arm)

abbrev sts_within : Stmt → (n : Count) × Row_of-Stmt n
sts_within (stmt.If' n shape arms shape' row) = (_, row)
sts_within (stmt.While' n q g cs shape row) = (_, row)
sts_within _ = (_, end_of-Stmt)

pub st_of-If : (n : ℕ) (arms : Vec Arm Global) (ss : Vec Stmt Global) → st_of (stmt.If n arms ss) ≡ t.If n (arms_from (map arm_view arms.items)) (sts_from (map st_of ss.items))
st_of-If n arms ss =
    let row = arms_in (stmt.If n arms ss) in
    let body = sts_within (stmt.If n arms ss) in
    ap (λ l. t.If n l (sts_of body.1)) (arms_row row.0 row.1 ∙ ap (λ l. arms_from (map arm_view l)) (items_hidden-the_row-Arm-1 arms))
    ∙ ap (t.If n (arms_from (map arm_view arms.items))) (sts_row body.0 body.1 ∙ ap (λ l. sts_from (map st_of l)) (items_hidden-the_row-Stmt-0 ss))

pub st_of-While : (n : ℕ) (q : Pos) (g : Guard) (cs : Vec Clause Global) (ss : Vec Stmt Global) → st_of (stmt.While n q g cs ss) ≡ t.While n q (guard_of g) (map clause_of cs.items) (sts_from (map st_of ss.items))
st_of-While n q g cs ss =
    let body = sts_within (stmt.While n q g cs ss) in
    ap (t.While n q (guard_of g) (map clause_of cs.items)) (sts_row body.0 body.1 ∙ ap (λ l. sts_from (map st_of l)) (items_hidden-the_row-Stmt-0 ss))
