use Rattle.std.proofs.Common.{◌*◌, refl, arith}
use Rattle.bg_houdini.proofs.Truths.{none_there}
use Rattle.bg_houdini.proofs.sets.keep_word.Goals as goal

pub returns-then-none_of : goal.returns-then-none_of
returns-then-none_of c =
    let m = c.min-to.ensures in let n = c.declared.ensures in
    none_there _ c.args.i (c.args.i * 64) c.min-to.result c.args.truths.now c.args.set.now c.set_word.new.self refl (omega (arith, m, n)) c.requires.long c.requires.begun c.set_word.ensures.members
    (c.none_of.ensures c.if-none_of.true)
