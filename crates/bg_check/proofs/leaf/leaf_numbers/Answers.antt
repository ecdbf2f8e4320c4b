use Rattle.std.proofs.Common.{◌≡◌, length, map, false, replicate, ap, ◌∙◌, arith}
use Rattle.std.proofs.lemmas.List.{with_items_is}
use Rattle.bg_formula.specs.Atoms.{atom_of}
use Rattle.bg_point.specs.Points.{target_of}
use Rattle.bg_check.specs.Leaves.{noted, numbered, unnamed, unnamed_by}
use Rattle.bg_check.proofs.Leaves.{numbered_length, unnamed_are}
use Rattle.bg_check.proofs.leaf.leaf_numbers.Goals as goal

pub returns : goal.returns
returns c =
    let spots = c.args.spots.now in
    let targets = target_of c.args.targets.now in
    let atoms = map atom_of c.args.f.now.atoms.items in
    let marks = c.deref-2.ensures.value ∙ (c.in_ok-named.ensures ∙ ap (λ xs. noted (map atom_of xs) (replicate c.args.count false)) c.deref.ensures.value) in
    let first : c.in_ok-numbers.numbers.items ≡ unnamed targets atoms 0 c.args.count = c.in_ok-numbers.ensures ∙ (ap (unnamed_by targets 0) marks ∙ unnamed_are targets atoms c.args.count) in
    let set : c.place_all.new.numbers ≡ numbered spots c.in_ok-numbers.numbers.items = c.place_all.ensures ∙ ap (numbered spots) c.deref_mut.ensures.value in
    let long : length c.place_all.new.numbers ≡ length c.in_ok-numbers.numbers.items = ap (λ l. length l) set ∙ numbered_length spots c.in_ok-numbers.numbers.items in
    with_items_is c.in_ok-numbers.numbers c.place_all.new.numbers (omega (arith, long, c.in_ok-numbers.numbers.ok.0))
    ∙ (set ∙ ap (numbered spots) first)
