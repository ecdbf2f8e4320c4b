use Rattle.std.proofs.Common.{◌++◌, ◌∙◌, codes, ap, sym}
use Rattle.std.specs.Fmt.{decimal}
use Rattle.bg_gen.specs.Generated.{call}
use Rattle.bg_gen.proofs.Pieces.{and_then}
use Rattle.bg_gen.proofs.put.put_call.Goals as goal

pub returns : goal.returns
returns c =
    let o = c.args.out.now.items in
    let x = codes "  var j: int;\n  call j := G" ++ decimal c.in-Some.k in
    let y = codes "(n);\n  assert j == n + " ++ decimal c.in-Some.a in
    let z = codes ";\n" in
    let e1 = and_then o c.put.new.out.items c.put-2.new.out.items x y c.in_ok-put.ensures c.in_ok-put-2.ensures in
    and_then o c.put-2.new.out.items c.extend_from_slice.new.self.items (x ++ y) z e1 c.in_ok-extend_from_slice.ensures.items ∙ ap (λ b. o ++ call b) (sym c.in-Some.is)
