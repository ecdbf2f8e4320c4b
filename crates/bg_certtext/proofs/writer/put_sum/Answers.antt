use Rattle.std.proofs.Common.{[], ◌∷◌, flat_map, codes}
use Rattle.std.specs.Fmt.{decimal, signed_decimal}
use Rattle.std.proofs.lemmas.Int.{to_z-of_z}
use Rattle.bg_certtext.specs.Lines.{behind_space}
use Rattle.bg_certtext.proofs.Written.{line_written}
use Rattle.bg_certtext.proofs.writer.put_sum.Goals as goal

pub returns : goal.returns
returns c =
    let four = simp (to_z-of_z, c.ranges.p, c.ranges.q) at c.in_ok-put_four.ensures in
    line_written c.args.out.now.items (codes "sum") (flat_map behind_space (decimal c.args.r ∷ signed_decimal c.args.p ∷ decimal c.args.s ∷ signed_decimal c.args.q ∷ [])) c.extend_from_slice.new.self.items c.put_four.new.out.items c.push.new.self.items c.in_ok-extend_from_slice.ensures.items four c.in_ok-push.ensures.items
