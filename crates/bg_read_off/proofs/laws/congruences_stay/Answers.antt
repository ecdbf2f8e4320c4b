use Rattle.std.proofs.Common.{length, refl, sym, ap, ◌∙◌}
use Rattle.bg_ast.specs.Values.{BoolTy, truth_of}
use Rattle.bg_terms.specs.Instances.{Congruent, instance_ex}
use Rattle.bg_terms.specs.Typed.{types_with}
use Rattle.bg_read_off.proofs.laws.congruences_stay.Goals as goal

pub returns : goal.returns
returns c fs incs ts s w terms stand congruent a b =
    let same = c.scalars_say_the_same.ensures (types_with incs ts) w s (instance_ex (length incs) ts (Congruent a b)) BoolTy stand (c.instances_are_typed.ensures fs incs ts (Congruent a b) terms) refl in
    ap truth_of (sym same) ∙ congruent a b
