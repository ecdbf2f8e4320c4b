use Rattle.std.proofs.Common.{◌+◌, ◌<◌, List, length, sym, subst, arith}
use Rattle.std.proofs.lemmas.List.{length-map}
use Rattle.bg_ast.specs.Views.{program_of, impl_of}
use Rattle.bg_accept.specs.Places.{ArePlacesOf}
use Rattle.bg_accept.proofs.Filled.{Places}
use Rattle.bg_accept.proofs.Whole.{none_of, one_more_of}
use Rattle.bg_accept.proofs.all.all_places.Goals as goal

pub loop-number-init : goal.loop-number-init
loop-number-init c = subst (λ (t : List Places). ArePlacesOf (program_of c.args.program.now) 0 t) (sym c.new-made.ensures.items) (none_of (program_of c.args.program.now))

pub loop-number-preserved : goal.loop-number-preserved
loop-number-preserved c =
    let p = program_of c.args.program.now in
    let e = length-map c.args.program.now.implementations.items impl_of in
    let l : c.loop-number.number < length p.implementations = omega (arith, e) in
    subst (λ (t : List Places). ArePlacesOf p (c.loop-number.number + 1) t) (sym c.in_ok-push.ensures.items)
    (one_more_of p c.loop-number.number c.loop-number.made.items _ c.loop-number.invariant l c.in_ok-places_of.ensures)
