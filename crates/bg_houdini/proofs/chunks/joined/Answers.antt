use Rattle.std.proofs.Common.{rules, ◌≡◌, length}
use Rattle.bg_houdini.proofs.Pieces.{joins_more, done}
use Rattle.bg_houdini.proofs.chunks.joined.Goals as goal

pub loop-piece-preserved : goal.loop-piece-preserved
loop-piece-preserved g c =
    joins_more c.args.pieces.items c.in-Some.piece c.loop-piece.piece-iterator.rest.items c.next.new.self.rest.items c.loop-piece.made.items c.take_in.new.made.items c.in-Some.ensures.steps.0 c.in_ok-take_in.ensures c.loop-piece.invariant

pub returns : goal.returns
returns g c =
    let none : length c.loop-piece.piece-iterator.rest.items ≡ 0 = search (rules, c.in-None.ensures) in
    done c.args.pieces.items c.loop-piece.piece-iterator.rest.items c.loop-piece.made.items none c.loop-piece.invariant
