use Rattle.std.proofs.Common.{◌≡◌, ℕ, List, [], map, Option, nat_lt, length, sym, ap, ◌∙◌, subst}
use Rattle.std.proofs.lemmas.Result.{IfOk-weaker}
use Rattle.bg_ast.specs.Resolved.{Ex}
use Rattle.bg_ast.specs.declared.resolved.Function.{Function}
use Rattle.bg_ast.specs.declared.resolved.Procedure.{Procedure}
use Rattle.bg_ast.specs.declared.resolved.Implementation.{Implementation}
use Rattle.bg_ast.specs.Views.{fun_of, proc_of, impl_of, program_of}
use Rattle.bg_places.specs.Counts.{most_expanded, capped, spec_nodes, expanded_count, is_any_above}
use Rattle.bg_opened.specs.Written.{opened_in, opened_proc, opened_impl}
use Rattle.bg_expanded.specs.Chains.{most_bodies}
use Rattle.bg_expanded.specs.Bodies.{IsTable, IsCountOf}
use Rattle.bg_expanded.specs.declared.count.Count.{Count}
use Rattle.bg_expanded.proofs.Counted.{table_counts}
use Rattle.bg_expanded.proofs.Whole.{claims_above, others_above}
use Rattle.bg_expanded.proofs.expanded.is_any_too_large.Goals as goal

-- the table is of these functions, wherever it stands
known : (depth : ℕ) (functions others : List Function) (table there : List (Option Count)) → functions ≡ others → there ≡ table → IsTable (map fun_of functions) depth table → IsTable (map fun_of others) depth there
known depth functions others table there f t h =
    let P : List Function → Type 0 = λ l. IsTable (map fun_of l) depth there in
    let Q : List (Option Count) → Type 0 = λ l. IsTable (map fun_of functions) depth l in
    subst P f (subst Q (sym t) h)

pub returns-then-branch : goal.returns-then-branch
returns-then-branch c =
    let q = c.args.program.now in
    let p = program_of q in
    let o : Ex → Ex = opened_in most_bodies p in
    let tells : IsCountOf c.deref-2.result.now o = table_counts p.functions most_bodies (length p.globals) c.deref-2.result.now (known most_bodies c.deref.result.now q.functions.items c.in_ok-table.table.items c.deref-2.result.now c.deref.ensures.value c.deref-2.ensures.value c.in_ok-table.ensures) in
    claims_above most_bodies p (sym c.if-branch.true ∙ c.in_ok-are_claims_too_large.ensures o tells)

pub returns : goal.returns
returns c =
    let q = c.args.program.now in
    let p = program_of q in
    let o : Ex → Ex = opened_in most_bodies p in
    let tells : (there : List (Option Count)) → there ≡ c.in_ok-table.table.items → IsCountOf there o =
    (λ there t. table_counts p.functions most_bodies (length p.globals) there (known most_bodies c.deref.result.now q.functions.items c.in_ok-table.table.items there c.deref.ensures.value t c.in_ok-table.ensures)) in
    let none = sym c.if-branch.false ∙ c.in_ok-are_claims_too_large.ensures o (tells c.deref-2.result.now c.deref-2.ensures.value) in
    let sizes = c.deref-6.ensures.value ∙ (c.in_ok-sizes.ensures o (tells c.deref-3.result.now c.deref-3.ensures.value) ∙ ap (λ (l : List Procedure). map capped (map spec_nodes (map (opened_proc o) (map proc_of l)))) c.deref-4.ensures.value) in
    let above = others_above most_bodies p none in
    IfOk-weaker c.is_any_of.result _ _ (λ b h.
    h o (tells c.deref-5.result.now c.deref-5.ensures.value)
    ∙ (ap (λ (l : List ℕ). is_any_above most_expanded (map (expanded_count l) (map (opened_impl o []) (map impl_of c.deref-7.result.now)))) sizes
    ∙ (ap (λ (l : List Implementation). is_any_above most_expanded (map (expanded_count (map capped (map spec_nodes (map (opened_proc o) p.procedures)))) (map (opened_impl o []) (map impl_of l)))) c.deref-7.ensures.value
    ∙ sym above))) c.is_any_of.ensures
