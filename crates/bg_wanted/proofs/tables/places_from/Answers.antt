use Rattle.std.proofs.Common.{sym, ap, ◌∙◌}
use Rattle.bg_kinds.specs.Views.{keys_of, ref_of}
use Rattle.bg_wanted.specs.Asked.{looked_rows}
use Rattle.bg_wanted.specs.Behind.{places_by}
use Rattle.bg_wanted.proofs.tables.places_from.Goals as goal

pub returns-in-None : goal.returns-in-None
returns-in-None c =
    let l = c.args.looked in
    λ fs incs values looked.
    ap (λ o. places_by o c.args.scalar (looked_rows l)) (sym c.in-None.is ∙ (c.found.ensures fs ∙ looked.met (keys_of c.args.keys.now) (ref_of c.args.gives)))

pub returns-in-Some : goal.returns-in-Some
returns-in-Some c =
    let l = c.args.looked in
    λ fs incs values looked.
    c.places.ensures
    ∙ (looked.selects (c.in-Some.maps, c.args.scalar)
    ∙ ap (λ o. places_by o c.args.scalar (looked_rows l)) (sym c.in-Some.is ∙ (c.found.ensures fs ∙ looked.met (keys_of c.args.keys.now) (ref_of c.args.gives))))
