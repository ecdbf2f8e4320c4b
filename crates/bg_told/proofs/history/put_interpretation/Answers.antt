use Rattle.std.proofs.Common.{◌≡◌, ◌++◌, List, ℕ, codes, map, sym, ap, ◌∙◌, subst, append_assoc}
use Rattle.std.proofs.lemmas.Result.{on_ok_weaker}
use Rattle.bg_ast.specs.Views.{fun_of}
use Rattle.bg_scalar.specs.Values.{value_of}
use Rattle.bg_scalar.specs.Views.{tables_in}
use Rattle.bg_check.specs.Kept.{why_of}
use Rattle.bg_check.specs.declared.verdict.Verdict.{Verdict}
use Rattle.bg_check.specs.Outcomes.{verdict_of}
use Rattle.bg_lines.specs.Lines.{line}
use Rattle.bg_told.specs.Lines.{texts}
use Rattle.bg_told.specs.Places.{constant_text, function_text}
use Rattle.bg_told.specs.History.{interpretation_text}
use Rattle.bg_told.specs.Entries.{declared_types, types_in, variables_in, constant_line, function_line, all_named, outer_in, split_verdict}
use Rattle.bg_told.proofs.Told.{constants_all, functions_told}
use Rattle.bg_told.proofs.history.put_interpretation.Goals as goal

pub returns-in_ok-put_constants-in-Refuted : goal.returns-in_ok-put_constants-in-Refuted
returns-in_ok-put_constants-in-Refuted c =
    let ds = c.args.declared in
    let types = types_in ds.types.now in
    let names = variables_in ds.types.now ds.constants.now in
    let named = all_named (declared_types ds.types.now) (map fun_of ds.functions.now) ds.bodies.now in
    let gs = c.in-Refuted.cex.globals.items in
    let ts = c.in-Refuted.cex.tables.items in
    let out = c.args.out.now.items in
    let head = line (codes "interpretation:") in
    on_ok_weaker c.put_functions.result (λ put.
    let made : c.put_functions.new.out.items ≡ out ++ (head ++ (texts (constant_line types) names gs ++ texts (function_line types) named ts)) =
    put ∙ (rw (c.in_ok-put_constants-in-Refuted.ensures, c.in_ok-extend_from_slice-in-Refuted.ensures.items, c.deref.ensures.value, c.deref-in-Refuted.ensures.value) (simp append_assoc)) in
    let told : c.put_functions.new.out.items ≡ out ++ (head ++ (texts (constant_text types) names (map value_of gs) ++ texts (function_text types) named (tables_in ts))) =
    made
    ∙ ap (λ (t : List ℕ). out ++ (head ++ (t ++ texts (function_line types) named ts))) (constants_all types names gs)
    ∙ ap (λ (t : List ℕ). out ++ (head ++ (texts (constant_text types) names (map value_of gs) ++ t))) (functions_told types named ts) in
    subst (λ (v : Verdict). c.put_functions.new.out.items ≡ out ++ interpretation_text (outer_in ds) (split_verdict 0 (verdict_of why_of v))) (sym c.in-Refuted.is) told)
    c.put_functions.ensures
