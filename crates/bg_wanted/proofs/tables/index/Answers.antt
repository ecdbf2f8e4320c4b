use Rattle.std.proofs.Common.{rules, ◌≡◌, ◌++◌, [], ◌∷◌, ap, ◌∙◌}
use Rattle.std.proofs.lemmas.List.{take_all}
use Rattle.bg_wanted.specs.Scalars.{key_of}
use Rattle.bg_wanted.proofs.Building.{parts_more}
use Rattle.bg_wanted.proofs.tables.index.Goals as goal

pub loop-j-init : goal.loop-j-init
loop-j-init c = c.new-made.ensures.items

pub loop-j-preserved : goal.loop-j-preserved
loop-j-preserved c =
    let new : c.put_part.new.made.items ≡ c.loop-j.made.items ++ c.number_in-z.result ∷ [] = search rules in
    parts_more c.args.scalars.now c.loop-j.j _ c.number_in-z.result c.loop-j.made.items c.put_part.new.made.items c.loop-j-test.true c.number_in-z.ensures new c.loop-j.invariant

pub returns : goal.returns
returns c = c.loop-j.invariant ∙ ap key_of (take_all c.loop-j.j c.args.scalars.now c.loop-j-test.false)
