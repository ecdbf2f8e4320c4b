use Rattle.std.proofs.Common.{◌≡◌, Option, Some, None, flat_map, refl, ◌∙◌}
use Rattle.std.specs.Option.{is_some}
use Rattle.std.proofs.lemmas.Result.{on_ok_weaker}
use Rattle.bg_text.specs.declared.expr.TreeExpr.{TreeExpr}
use Rattle.bg_text.specs.Views as v
use Rattle.bg_names.specs.Exprs.{ty_faults}
use Rattle.bg_spaces.specs.SpaceViews.{spaces_in}
use Rattle.bg_resolve.specs.Program.{arg_faults, result_type, has_body}
use Rattle.bg_names.proofs.Firsts.{after}
use Rattle.bg_resolve.proofs.functions.note_types.Goals as goal

body_there : (o : Option TreeExpr) → is_some o ≡ has_body (v.option_of v.ex_of o)
body_there None = refl
body_there (Some e) = refl

pub returns-clause-first : goal.returns-clause-first
returns-clause-first c =
    let g = spaces_in c.args.g.now in
    let f = v.fun_of c.args.f.now in
    on_ok_weaker
    c.note_ty.result
    (λ h. after _ _ _ (flat_map (arg_faults g (has_body f.body)) f.args) (ty_faults g.types (result_type f.result)) (rw (c.is_some.ensures ∙ body_there c.args.f.now.body, c.deref.ensures.value) at c.in_ok-note_args.ensures.first) (rw c.result_type.ensures at h))
    c.note_ty.ensures.first
