use Rattle.std.proofs.Common.{◌+◌, drop, map, refl, sym, ◌∙◌, append-nil, ◌++◌}
use Rattle.std.proofs.lemmas.List.{at_drop_all}
use Rattle.bg_kinds.specs.Views.{ref_in}
use Rattle.bg_kinds.proofs.Loops.{dropped, step_made}
use Rattle.bg_fits.proofs.copies.push_copies.Goals as goal

pub loop-t-preserved : goal.loop-t-preserved
loop-t-preserved c =
    let x = c.t-item.result in
    let rest = drop (c.loop-t.t-index + 1) c.args.kinds.now in
    let at = dropped c.args.kinds.now c.loop-t.t-index x c.loop-t-test.true c.t-item.is in
    step_made (λ l. map ref_in l) ref_in (ref_in x) c.loop-t.made.items _ _ _ rest x at refl c.in_ok-push.ensures.items (c.in_ok-kind_copied.ensures ∙ c.as_ref.ensures) ∙ c.loop-t.invariant

pub returns : goal.returns
returns c =
    let made = map ref_in c.loop-t.made.items in
    sym (append-nil made) ∙ sym (at_drop_all (λ l. made ++ map ref_in l) c.args.kinds.now c.loop-t.t-index c.loop-t-test.false) ∙ c.loop-t.invariant
