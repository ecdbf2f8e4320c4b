use Rattle.std.proofs.Common.{◌≡◌, replicate}
use Rattle.bg_cert.specs.declared.tally.Tally.{Tally}
use Rattle.bg_cert.proofs.Counts.{counted_from}
use Rattle.bg_cert.proofs.trail.first_trail.Goals as goal

pub invariant_of-result : goal.invariant_of-result
invariant_of-result c =
    let z : Tally = record { yes = 0; no = 0 } in
    let e : c.in_ok-counts.counts.items ≡ replicate c.args.atoms z = c.in_ok-counts.ensures.items_if_clones_equal (λ x e. e) in
    record { counted = counted_from c.args.atoms c.in_ok-counts.counts.items c.new-decisions.result.items e c.new-decisions.ensures.items }
