use Rattle.bg_turns.proofs.Cutting.{begins, spans}
use Rattle.bg_turns.proofs.chunks.chunk_count.Goals as goal

pub returns : goal.returns
returns c =
    let count = c.div_ceil.result in
    let size = c.args.size in
    let len = c.args.len in
    record { is = c.div_ceil.ensures; inside = λ n l. begins n count size len l (spans count len size c.requires c.div_ceil.ensures) }
