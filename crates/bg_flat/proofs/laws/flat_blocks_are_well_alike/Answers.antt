use Rattle.std.proofs.Common.{length, refl, ap, ◌∙◌}
use Rattle.std.specs.Prelude.{not, ◌||◌, slice_get}
use Rattle.bg_ast.specs.Values.{BoolTy, truth_of}
use Rattle.bg_passive.specs.Incarnations.{passive_scope}
use Rattle.bg_passive.specs.Equations.{is_well}
use Rattle.bg_terms.specs.Terms.{over}
use Rattle.bg_flat.specs.Blocks.{all_true}
use Rattle.bg_flat.proofs.Alike.{blocks_same, front_first}
use Rattle.bg_flat.proofs.laws.flat_blocks_are_well_alike.Goals as goal

pub returns : goal.returns
returns c p i tys n ts w scalars values set target front blocks flat none model first stand made =
    front_first set target (over scalars) front flat
    ∙ ap (λ es. not (all_true (over scalars) front) || is_well (slice_get es 0)) (blocks_same tys n ts set target (passive_scope p i values) (over scalars) (λ e x h. ap truth_of (c.scalars_say_the_same.ensures tys w scalars x BoolTy stand h.1 refl ∙ c.flat_expressions_say_the_same.ensures i n (length p.functions) p.functions ts w values e x none model first h.0)) blocks flat made)
