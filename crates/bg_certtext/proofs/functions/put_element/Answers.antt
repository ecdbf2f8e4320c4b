use Rattle.std.specs.Fmt.{signed_decimal}
use Rattle.std.proofs.lemmas.Int.{to_z-of_z}
use Rattle.std.proofs.lemmas.Result.{on_ok_weaker}
use Rattle.bg_certtext.proofs.Written.{element_written}
use Rattle.bg_certtext.proofs.functions.put_element.Goals as goal

pub returns : goal.returns
returns c =
    let number = simp (to_z-of_z, c.ranges.n) at c.put_plain_number.ensures in
    on_ok_weaker c.put_plain_number.result
    (element_written c.args.out.now.items c.args.t.now (signed_decimal c.args.n) c.extend_from_slice.new.self.items c.push.new.self.items c.put_plain_number.new.out.items c.in_ok-extend_from_slice.ensures.items c.in_ok-push.ensures.items)
    number
