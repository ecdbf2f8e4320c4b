use Rattle.std.proofs.Common.{flat_map, ◌++◌, false, [], sym, ap, ◌∙◌, append_assoc}
use Rattle.std.proofs.lemmas.Result.{IfOk-weaker}
use Rattle.bg_text.specs.Views as v
use Rattle.bg_names.specs.Exprs.{named_ex, ty_faults}
use Rattle.bg_names.specs.Faults.{better}
use Rattle.bg_names.specs.Views.{first_of}
use Rattle.bg_spaces.specs.SpaceViews.{spaces_in}
use Rattle.bg_resolve.specs.Program.{arg_ids, arg_faults, result_type, function_scope, has_body, body_faults, named_function}
use Rattle.bg_spaces.specs.Declarations.{scope_in}
use Rattle.bg_names.specs.Spaces.{repeats}
use Rattle.bg_names.proofs.Firsts.{after}
use Rattle.bg_resolve.proofs.functions.function.Goals as goal

pub returns-clause-made : goal.returns-clause-made
returns-clause-made c =
    let g = spaces_in c.args.g.now in
    let f = v.fun_of c.args.f.now in
    let names = rw c.deref.ensures.value at c.in_ok-frame.ensures.made in
    IfOk-weaker
    c.with_body.result
    _
    _
    (λ x h. h ∙ ap (λ b. record (named_function g f) { body = b }) (c.in_ok-body.ensures.made ∙ ap (λ l. v.option_of (named_ex (scope_in g l false false)) f.body) names))
    c.with_body.ensures.made

pub returns-clause-first : goal.returns-clause-first
returns-clause-first c =
    let g = spaces_in c.args.g.now in
    let f = v.fun_of c.args.f.now in
    let names = rw c.deref.ensures.value at c.in_ok-frame.ensures.made in
    let second = repeats [] (flat_map arg_ids f.args) in
    let args = flat_map (arg_faults g (has_body f.body)) f.args in
    let result = ty_faults g.types (result_type f.result) in
    let early = after _ _ _ second (args ++ result) (rw c.deref.ensures.value at c.in_ok-frame.ensures.first) c.in_ok-note_types.ensures.first ∙ ap (better (first_of c.args.notes.now)) (sym (append_assoc second args result)) in
    let all = after _ _ _ (second ++ args ++ result) (body_faults (function_scope g f) f.body) early (rw names at c.in_ok-body.ensures.first) in
    IfOk-weaker c.with_body.result _ _ (λ x h. all) c.with_body.ensures.made
