use Rattle.std.proofs.Common.{◌++◌, codes}
use Rattle.bg_gen.specs.Generated.{constant, head, call, loop_text}
use Rattle.bg_gen.proofs.Pieces.{and_then}
use Rattle.bg_gen.proofs.put.put_part.Goals as goal

pub returns : goal.returns
returns c =
    let o = c.args.out.now.items in
    let t = constant (codes "a") c.args.k in
    let u = constant (codes "d") c.args.k in
    let v = constant (codes "e") c.args.k in
    let w = head c.args.k c.args.a in
    let x = call c.args.before in
    let y = loop_text c.args.k c.args.a c.args.b in
    let e1 = and_then o c.put_constant.new.out.items c.put_constant-2.new.out.items t u c.in_ok-put_constant.ensures c.in_ok-put_constant-2.ensures in
    let e2 = and_then o c.put_constant-2.new.out.items c.put_constant-3.new.out.items (t ++ u) v e1 c.in_ok-put_constant-3.ensures in
    let e3 = and_then o c.put_constant-3.new.out.items c.put_head.new.out.items (t ++ u ++ v) w e2 c.in_ok-put_head.ensures in
    let e4 = and_then o c.put_head.new.out.items c.put_call.new.out.items (t ++ u ++ v ++ w) x e3 c.in_ok-put_call.ensures in
    and_then o c.put_call.new.out.items c.put_loop.new.out.items (t ++ u ++ v ++ w ++ x) y e4 c.in_ok-put_loop.ensures
