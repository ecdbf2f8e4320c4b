use Rattle.std.proofs.Common.{◌≡◌, Bool, true, false, sym, ◌∙◌}
use Rattle.std.specs.Prelude.{not, ◌||◌, slice_get}
use Rattle.bg_passive.specs.Incarnations.{passive_scope}
use Rattle.bg_passive.specs.Equations.{is_well, equations}
use Rattle.bg_terms.specs.Terms.{over}
use Rattle.bg_flat.specs.Blocks.{all_true}
use Rattle.bg_flat.proofs.laws.denied_flat_blocks_fail.Goals as goal

second : (a b : Bool) → (not a || b) ≡ false → b ≡ false
second true b e = e
second false b e = absurd (let bad : ⊥ = cc in bad)

pub returns : goal.returns
returns c p i tys n ts w s values set target front blocks flat none model stand begins made denied =
    second (all_true (over s) front) (is_well (slice_get (equations set target (passive_scope p i values) blocks) 0)) (sym (c.flat_blocks_are_well_alike.ensures p i tys n ts w s values set target front blocks flat none model begins stand made) ∙ denied)
