use Rattle.std.proofs.Common.{◌≡◌, ◌++◌, ℕ, List, false, [], ◌∷◌, codes, refl, ap, ◌∙◌}
use Rattle.bg_scalar.specs.Views.{table_in}
use Rattle.bg_ast.specs.Views.{fun_of}
use Rattle.bg_told.specs.ValueTexts.{table_text}
use Rattle.bg_told.specs.Places.{Named}
use Rattle.bg_told.specs.Sheets.{named_as}
use Rattle.bg_told.specs.Entries.{declared_types, types_in, params_of, result_in}
use Rattle.bg_told.proofs.Texts.{four_in_front}
use Rattle.bg_told.proofs.functions.put_bodiless.Goals as goal

pub returns : goal.returns
returns c =
    let out = c.args.out.now.items in
    let name = c.args.function.now.name.text.items in
    let types = types_in c.args.types.now in
    let table = table_in c.args.table.now in
    let signature = c.in_ok-signature.signature in
    let f : Named = named_as (declared_types c.args.types.now) (fun_of c.args.function.now) false in
    let t = table_text types (params_of signature) (result_in signature) table in
    let told : List ℕ → List ℕ = λ text. out ++ ((((codes "    function " ++ name) ++ codes " = ") ++ text) ++ (10 ∷ [])) in
    let made : c.extend_from_slice-4.new.self.items ≡ ((((out ++ codes "    function ") ++ name) ++ codes " = ") ++ t) ++ (10 ∷ []) = rw (c.in_ok-extend_from_slice-4.ensures.items, c.in_ok-put_table.ensures, c.in_ok-extend_from_slice-3.ensures.items, c.in_ok-extend_from_slice-2.ensures.items, c.deref.ensures.value, c.in_ok-extend_from_slice.ensures.items) refl in
    made
    ∙ four_in_front out (codes "    function ") name (codes " = ") t (10 ∷ [])
    ∙ ap (λ ts. told (table_text types ts (result_in signature) table)) (c.in_ok-signature.ensures.params false)
    ∙ ap (λ r. told (table_text types f.params r table)) (c.in_ok-signature.ensures.result false)
