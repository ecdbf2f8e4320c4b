use Rattle.std.proofs.Common.{◌≡◌, ◌++◌, List, ℕ, map, length, sym, ap, ◌∙◌}
use Rattle.std.proofs.lemmas.List.{length-map}
use Rattle.std.proofs.lemmas.Result.{on_ok_weaker}
use Rattle.bg_ast.specs.Meaning.{meaning_of, named_of, decl_of}
use Rattle.bg_ast.specs.Views.{declared_of, impl_of}
use Rattle.bg_check.specs.Verdicts.{judged}
use Rattle.bg_told.specs.Lines.{texts}
use Rattle.bg_told.specs.Report.{implementation_text}
use Rattle.bg_told.specs.Sheets.{Head, Outer, Sheet, head_of, sheet_of}
use Rattle.bg_check.specs.declared.verdict.Judged.{Judged}
use Rattle.bg_told.specs.Entries.{split_all, outer_in, sheet_in}
use Rattle.bg_told.proofs.Fitting.{program_fits}
use Rattle.bg_told.proofs.Split.{implementations_same}
use Rattle.bg_told.proofs.Sheet.{outer_same, sheet_same}
use Rattle.bg_told.proofs.report.put_judged.Goals as goal

pub returns : goal.returns
returns c = on_ok_weaker c.put_implementations.result (λ put p h.
    let o = c.args.outcome.now in
    let s = sheet_of p in
    let js = judged o.judged.verdicts.items in
    let ds = c.declared_in-declared.result in
    let same : sheet_in o ≡ s = sheet_same p o h in
    let its = c.declared_in-declared.ensures in
    let outer : outer_in ds ≡ s.outer = outer_same ds (sheet_in o) its.types its.constants its.functions its.globals ∙ ap (λ (x : Sheet). x.outer) same in
    let globals : map declared_of ds.globals.now ≡ p.globals = ap (λ (u : Outer). u.globals) outer in
    let count : length ds.globals.now ≡ length (meaning_of p).globals = sym (length-map ds.globals.now declared_of) ∙ ap length globals ∙ sym (length-map p.globals (decl_of (named_of p.types))) in
    let heads : map head_of (map impl_of o.opened.implementations.items) ≡ s.implementations = ap (λ (x : Sheet). x.implementations) same in
    let text = λ (u : Outer) (hs : List Head) (n : ℕ) (os : List (List Judged)). c.args.out.now.items ++ texts (implementation_text u) hs (map (split_all n) os) in
    let n = length ds.globals.now in
    put
    ∙ ap (λ ms. text (outer_in ds) (map head_of (map impl_of ms)) n (judged c.deref-2.result.now)) c.deref.ensures.value
    ∙ ap (λ os. text (outer_in ds) (map head_of (map impl_of o.opened.implementations.items)) n (judged os)) c.deref-2.ensures.value
    ∙ ap (λ u. text u (map head_of (map impl_of o.opened.implementations.items)) n js) outer
    ∙ ap (λ hs. text s.outer hs n js) heads
    ∙ ap (λ k. text s.outer s.implementations k js) count
    ∙ ap (λ (x : List ℕ). c.args.out.now.items ++ x) (implementations_same s.outer (meaning_of p) (program_fits p) s.implementations js))
    c.put_implementations.ensures
