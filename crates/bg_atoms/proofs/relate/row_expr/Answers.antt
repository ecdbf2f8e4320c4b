use Rattle.std.proofs.Common.{◌≡◌, length, pos, sym, ◌∙◌, arith, subst, rules}
use Rattle.std.specs.Prelude.{int_le}
use Rattle.bg_ast.specs.Meaning as m
use Rattle.bg_ast.specs.Syntax.{Fact}
use Rattle.bg_ast.specs.Views.{ex_of}
use Rattle.std.proofs.lemmas.Bool.Decides.{nat_tests}
use Rattle.std.proofs.lemmas.Result.{IfOk-weaker}
use Rattle.bg_rows.specs.Rows.{row_of}
use Rattle.bg_atoms.specs.Worlds.{SaysRow}
use Rattle.bg_atoms.proofs.Listing.{row_empty, row_some}
use Rattle.bg_atoms.proofs.Reading.{plain_says, literal_says, empty_list, some_list}
use Rattle.bg_atoms.proofs.relate.row_expr.Goals as goal

pub returns-then-is_empty-clause-grows : goal.returns-then-is_empty-clause-grows
returns-then-is_empty-clause-grows c =
    let empty : length c.args.a.row.entries.items ≡ 0 = let h = c.is_empty.ensures in let k = c.if-is_empty.true in grind (arith, nat_tests, h, k) in
    record { table = c.requires.table; rows = row_empty c.args.a _ (empty_list c.args.a.row.entries.items empty) }

pub returns-then-is_empty-clause-row : goal.returns-then-is_empty-clause-row
returns-then-is_empty-clause-row c =
    let empty : length c.args.a.row.entries.items ≡ 0 = let h = c.is_empty.ensures in let k = c.if-is_empty.true in grind (arith, nat_tests, h, k) in
    let is : m.ex_of (ex_of c.plain.result) ≡ Fact (int_le (pos 0) c.args.a.row.bound) = search rules in
    λ all b. plain_says c.args.base all (row_of c.args.a.row) _ (empty_list c.args.a.row.entries.items empty) is

pub returns-clause-grows : goal.returns-clause-grows
returns-clause-grows c =
    let some : length c.args.a.row.entries.items ≡ 0 → ⊥ = λ e. let h = c.is_empty.ensures in let k = c.if-is_empty.false in grind (arith, nat_tests, h, k, e) in
    let h = c.in_ok-l.ensures.grows in
    IfOk-weaker c.literal-2.result _ _ (λ x is. record { table = h.table; rows = h.rows ∙ row_some c.args.a _ (some_list c.args.a.row.entries.items some) }) c.literal-2.ensures

pub returns-clause-row : goal.returns-clause-row
returns-clause-row c =
    let some : length c.args.a.row.entries.items ≡ 0 → ⊥ = λ e. let h = c.is_empty.ensures in let k = c.if-is_empty.false in grind (arith, nat_tests, h, k, e) in
    IfOk-weaker c.literal-2.result _ _ (λ x is all b. subst (SaysRow c.args.base all (row_of c.args.a.row)) (sym is) (literal_says c.args.base all (row_of c.args.a.row) c.in_ok-l.l (some_list c.args.a.row.entries.items some) (c.in_ok-l.ensures.literal all b))) c.literal-2.ensures
