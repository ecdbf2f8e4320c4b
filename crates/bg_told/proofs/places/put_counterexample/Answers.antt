use Rattle.std.proofs.Common.{◌≡◌, ◌++◌, List, ℕ, map, take, drop, length, ap, ◌∙◌, append_assoc}
use Rattle.bg_ast.specs.Views.{declared_of, fun_of, impl_of}
use Rattle.bg_scalar.specs.Choices.{choice_of}
use Rattle.bg_scalar.specs.Values.{value_of}
use Rattle.bg_kinds.specs.Views.{ref_in}
use Rattle.bg_told.specs.Lines.{texts}
use Rattle.bg_scalar.specs.Views.{tables_in}
use Rattle.bg_told.specs.Places.{choice_text, constant_text, function_text}
use Rattle.bg_told.specs.Sheets.{head_of, variables_of}
use Rattle.bg_told.specs.Entries.{declared_types, types_in, variables_in, entry_text, constant_line, function_line, choice_line, all_named}
use Rattle.bg_told.proofs.Told.{entries_told, functions_told, constants_told, choices_told}
use Rattle.bg_told.proofs.places.put_counterexample.Goals as goal

pub returns : goal.returns
returns c =
    let ds = c.args.declared in
    let types = types_in ds.types.now in
    let names = variables_of (declared_types ds.types.now) (map declared_of ds.globals.now) (head_of (impl_of c.args.implementation.now)) in
    let n = length ds.globals.now in
    let gs = c.args.cex.now.globals.items in
    let fs = c.args.cex.now.frame.items in
    let ts = c.args.cex.now.tables.items in
    let named = all_named (declared_types ds.types.now) (map fun_of ds.functions.now) ds.bodies.now in
    let kinds = map ref_in c.args.cex.now.kinds.items in
    let lines = texts (choice_line types) kinds c.args.cex.now.choices.items in
    let choices = texts (choice_text types) kinds (map choice_of c.args.cex.now.choices.items) in
    let made : c.put_choices.new.out.items ≡ c.args.out.now.items ++ ((texts (constant_line types) (variables_in ds.types.now ds.constants.now) (drop n gs) ++ texts (function_line types) named ts) ++ (texts (entry_text types) names (take n gs ++ fs) ++ lines)) = rw (c.in_ok-put_choices.ensures, c.in_ok-put_entry.ensures, c.in_ok-put_functions.ensures, c.in_ok-put_constants.ensures, c.front.ensures, c.behind.ensures, c.deref.ensures.value, c.deref-2.ensures.value, c.deref-3.ensures.value, c.deref-4.ensures.value, c.deref-5.ensures.value, c.deref-6.ensures.value) (simp append_assoc) in
    made
    ∙ ap (λ (values : List ℕ). c.args.out.now.items ++ ((texts (constant_line types) (variables_in ds.types.now ds.constants.now) (drop n gs) ++ texts (function_line types) named ts) ++ (texts (entry_text types) names (take n gs ++ fs) ++ values))) (choices_told types kinds c.args.cex.now.choices.items)
    ∙ ap (λ (values : List ℕ). c.args.out.now.items ++ ((values ++ texts (function_line types) named ts) ++ (texts (entry_text types) names (take n gs ++ fs) ++ choices))) (constants_told types (variables_in ds.types.now ds.constants.now) n gs)
    ∙ ap (λ (values : List ℕ). c.args.out.now.items ++ ((texts (constant_text types) (variables_in ds.types.now ds.constants.now) (drop n (map value_of gs)) ++ values) ++ (texts (entry_text types) names (take n gs ++ fs) ++ choices))) (functions_told types named ts)
    ∙ ap (λ (values : List ℕ). c.args.out.now.items ++ ((texts (constant_text types) (variables_in ds.types.now ds.constants.now) (drop n (map value_of gs)) ++ texts (function_text types) named (tables_in ts)) ++ (values ++ choices))) (entries_told types names n gs fs)
