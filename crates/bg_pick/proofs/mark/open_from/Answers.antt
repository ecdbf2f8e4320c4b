use Rattle.std.proofs.Common.{map, sym, ap, ◌∙◌, arith}
use Rattle.std.specs.Prelude.{Some}
use Rattle.std.proofs.lemmas.List.{length-map}
use Rattle.bg_cert.proofs.Places.{at_map_there}
use Rattle.bg_pick.proofs.Marked.{true_next, true_all}
use Rattle.bg_pick.proofs.mark.open_from.Goals as goal

pub loop-k-preserved : goal.loop-k-preserved
loop-k-preserved c =
    let v = c.deref.ensures.value in
    let h = c.in_default.ensures in
    let g = rw v at h in
    true_next c.args.trail.now.decisions.items (map (λ c. c.items) c.args.clauses.now) c.loop-k.k c.index-clauses-k.result.items c.requires.fine (at_map_there (λ c. c.items) c.args.clauses.now c.loop-k.k c.index-clauses-k.result c.loop-k-test.true ∙ ap (λ v. Some v.items) (sym c.index-clauses-k.is)) (sym g) c.loop-k.invariant

pub returns-clause-open : goal.returns-clause-open
returns-clause-open c =
    true_all c.args.trail.now.decisions.items (map (λ c. c.items) c.args.clauses.now) c.loop-k.k (omega (arith, length-map c.args.clauses.now (λ c. c.items))) c.loop-k.invariant
