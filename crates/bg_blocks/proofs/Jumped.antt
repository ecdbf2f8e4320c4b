-- Where jumps lead.
use Rattle.std.proofs.Common.{◌≡◌, ℕ, ◌<◌, List, [], ◌∷◌, length, map, refl, ap, arith}
use Rattle.bg_flow.specs.Core.{to_each}
use Rattle.bg_flow.specs.Blocks.{to_points}
use Rattle.bg_blocks.specs.declared.emit.Emitted as code
use Rattle.bg_blocks.specs.EmittedViews.{ahead_in, label_in}

each_label : (e : code.Emitted) (ls : List ℕ) → map (label_in e) ls ≡ map (ahead_in e) (to_each ls)
unfolding label_in
each_label e [] = refl
each_label e (l ∷ ls) = ap (λ ks. label_in e l ∷ ks) (each_label e ls)

pub points_to : (e : code.Emitted) (ls : List ℕ) → 0 < length ls → map (label_in e) ls ≡ to_points (ahead_in e) (to_each ls)
points_to e [] h = absurd (omega (arith, h))
points_to e (l ∷ ls) h = each_label e (l ∷ ls)
