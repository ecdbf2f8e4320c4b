-- What stands in front of blocks.
use Rattle.std.proofs.Common.{◌≡◌, ◌<◌, List, [], ◌∷◌, ◌++◌, length, map, ap, arith}
use Rattle.std.specs.Prelude.{slice_set, get_or}
use Rattle.bg_ast.specs.Syntax.{Ex}
use Rattle.bg_passive.specs.Passive.{PassiveCmd, PassiveBlock}
use Rattle.bg_incarnate.specs.declared.blocks.PassiveBlock as code
use Rattle.bg_incarnate.specs.Views.{passive_block_of}
use Rattle.bg_flat.specs.Blocks.{supposed, in_front}

abbrev pub ahead : List PassiveCmd → PassiveBlock → PassiveBlock
ahead ks b = record { cmds = ks ++ b.cmds; next = b.next }

-- the first block is put back with what stands in front
pub in_front_is : (front : List Ex) (bs : List code.PassiveBlock) (d blank made : code.PassiveBlock) → 0 < length bs → passive_block_of made ≡ ahead (supposed front) (passive_block_of (get_or bs 0 d)) → map passive_block_of (slice_set (slice_set bs 0 blank) 0 made) ≡ in_front front (map passive_block_of bs)
in_front_is front [] d blank made l h = absurd (omega (arith, l))
in_front_is front (b ∷ bs) d blank made l h = ap (λ x. x ∷ map passive_block_of bs) h

-- nothing stands in front where there is no block
pub none_in_front : (front : List Ex) (bs : List code.PassiveBlock) (flats : List PassiveBlock) → length bs ≡ 0 → map passive_block_of bs ≡ flats → map passive_block_of bs ≡ in_front front flats
none_in_front front [] flats h e = ap (in_front front) e
none_in_front front (b ∷ bs) flats h e = absurd (omega (arith, h))
