use Rattle.std.proofs.Common.{◌++◌, codes}
use Rattle.std.specs.Fmt.{decimal}
use Rattle.bg_gen.proofs.Pieces.{and_then}
use Rattle.bg_gen.proofs.put.put_constant.Goals as goal

pub returns : goal.returns
returns c =
    let a = codes "const {:existential true} " in
    let b = c.args.letter.now ++ decimal c.args.k in
    let d = codes ": bool;\n" in
    and_then c.args.out.now.items c.extend_from_slice.new.self.items c.extend_from_slice-2.new.self.items a (b ++ d) c.in_ok-extend_from_slice.ensures.items
    (and_then c.extend_from_slice.new.self.items c.put.new.out.items c.extend_from_slice-2.new.self.items b d c.in_ok-put.ensures c.in_ok-extend_from_slice-2.ensures.items)
