use Rattle.std.proofs.Common.{◌≡◌, sym, ap, ◌∙◌}
use Rattle.std.proofs.lemmas.Result.{IfOk-weaker}
use Rattle.bg_ast.specs.Values.{MapTy}
use Rattle.bg_sense.specs.Eval.{value_at}
use Rattle.bg_terms.specs.Built.{built}
use Rattle.bg_kinds.specs.Views.{keys_of, ref_of}
use Rattle.bg_term_table.specs.Views.{terms_in}
use Rattle.bg_scalar.specs.Values.{val_of}
use Rattle.bg_wanted.specs.Scalars.{scalars_in}
use Rattle.std.proofs.Common.{length}
use Rattle.bg_wanted.proofs.Grouping.{value_there}
use Rattle.bg_wanted.proofs.names.table.Goals as goal

pub returns-in-Some : goal.returns-in-Some
returns-in-Some c =
    let s = scalars_in c.args.values.now in
    let x = c.in-Some.x.now in
    let value : val_of x ≡ value_at s c.args.j = sym (value_there c.args.values.now c.args.j x c.in-Some.ensures.lookup.3.0 (c.in-Some.ensures.lookup.3.1 x)) in
    IfOk-weaker c.built_map.result _ _
    (λ made h. λ fs incs looked.
    h fs incs c.args.values.now looked
    ∙ ap (built s (length incs) (terms_in fs c.args.looked.terms.now) (MapTy (keys_of c.args.group.now.keys.now) (ref_of c.args.group.now.gives))) value)
    c.built_map.ensures
