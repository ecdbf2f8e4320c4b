use Rattle.std.proofs.Common.{sym, ◌∙◌, append-nil, map, ◌++◌}
use Rattle.std.proofs.lemmas.List.{at_drop_all}
use Rattle.bg_kinds.specs.Views.{keys_of}
use Rattle.bg_fits.proofs.copies.maps_copied.Goals as goal

pub returns : goal.returns
returns c =
    let made = map keys_of c.loop-k.made.items in
    sym (append-nil made) ∙ sym (at_drop_all (λ l. made ++ map keys_of l) c.args.maps.now c.loop-k.k-index c.loop-k-test.false) ∙ c.loop-k.invariant
