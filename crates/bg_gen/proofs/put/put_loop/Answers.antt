use Rattle.std.proofs.Common.{◌++◌, codes}
use Rattle.std.specs.Fmt.{decimal}
use Rattle.bg_gen.specs.Generated.{bound}
use Rattle.bg_gen.proofs.Pieces.{and_then}
use Rattle.bg_gen.proofs.put.put_loop.Goals as goal

pub returns : goal.returns
returns c =
    let o = c.args.out.now.items in
    let s = codes "  i := " ++ decimal c.args.a in
    let t = codes ";\n  while (i < n + " ++ decimal c.args.a in
    let u = codes ")\n" in
    let v = bound (codes "a") c.args.k (codes ">= ") c.args.a in
    let w = bound (codes "e") c.args.k (codes "<= n + ") c.args.a in
    let x = bound (codes "d") c.args.k (codes ">= ") c.args.b in
    let y = codes "  {\n    i := i + 1;\n  }\n}\n" in
    let e1 = and_then o c.put.new.out.items c.put-2.new.out.items s t c.in_ok-put.ensures c.in_ok-put-2.ensures in
    let e2 = and_then o c.put-2.new.out.items c.extend_from_slice.new.self.items (s ++ t) u e1 c.in_ok-extend_from_slice.ensures.items in
    let e3 = and_then o c.extend_from_slice.new.self.items c.put_bound.new.out.items (s ++ t ++ u) v e2 c.in_ok-put_bound.ensures in
    let e4 = and_then o c.put_bound.new.out.items c.put_bound-2.new.out.items (s ++ t ++ u ++ v) w e3 c.in_ok-put_bound-2.ensures in
    let e5 = and_then o c.put_bound-2.new.out.items c.put_bound-3.new.out.items (s ++ t ++ u ++ v ++ w) x e4 c.in_ok-put_bound-3.ensures in
    and_then o c.put_bound-3.new.out.items c.extend_from_slice-2.new.self.items (s ++ t ++ u ++ v ++ w ++ x) y e5 c.in_ok-extend_from_slice-2.ensures.items
