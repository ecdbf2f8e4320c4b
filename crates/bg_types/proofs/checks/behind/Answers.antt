use Rattle.std.proofs.Common.{length, map, drop, ap, sym, ◌∙◌}
use Rattle.std.proofs.lemmas.List.{take_rest, drop-map, length-map}
use Rattle.bg_ast.specs.Views.{declared_of}
use Rattle.bg_kinds.specs.KindViews.{kind_in_of}
use Rattle.bg_types.proofs.checks.behind.Goals as goal

pub returns-clause-kinds : goal.returns-clause-kinds
returns-clause-kinds c =
    let n = length c.args.ds.now in
    ap (map kind_in_of) (take_rest c.args.kinds.now n)
    ∙ (sym (drop-map kind_in_of n c.args.kinds.now) ∙ ap (λ n. drop n (map kind_in_of c.args.kinds.now)) (sym (length-map c.args.ds.now declared_of)))
