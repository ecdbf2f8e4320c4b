use Rattle.std.proofs.Common.{◌≡◌, Err, ◌∷◌, [], get_or, rules, sym, ◌∙◌, arith}
use Rattle.std.proofs.lemmas.Int.{to_z-of_z}
use Rattle.bg_base.specs.declared.exact.OutOfRange.{OutOfRange}
use Rattle.bg_rows.specs.Rows.{multiples, after}
use Rattle.bg_rows.proofs.Steps.{multiples_more, multiples_end, told_end, nothing}
use Rattle.bg_rows.proofs.sums.multiples.Goals as goal

pub loop-t-preserved : goal.loop-t-preserved
loop-t-preserved c =
    let h = simp (to_z-of_z, c.ranges.k) at c.in_ok-push_multiple.ensures in
    let more = multiples_more c.loop-t.made.items c.args.entries.now c.args.k c.loop-t.t-index c.push_multiple.new.made.items (omega arith) h in
    simp (to_z-of_z, c.ranges.k) (sym more ∙ (simp (to_z-of_z, c.ranges.k) at c.loop-t.invariant))

pub returns-in_err-push_multiple : goal.returns-in_err-push_multiple
returns-in_err-push_multiple c =
    let i = simp (to_z-of_z, c.ranges.k) at c.loop-t.invariant in
    let is : c.from_residual-in_err-push_multiple.result ≡ Err c.in_err-push_multiple.field-0.0 = search rules in
    let ended = λ (o : OutOfRange) (s : after c.loop-t.made.items (multiples c.args.k (get_or c.args.entries.now c.loop-t.t-index nothing ∷ [])) ≡ Err o). sym i ∙ multiples_end c.loop-t.made.items c.args.entries.now c.args.k c.loop-t.t-index o (omega arith) s in
    told_end {A = Unit {0}} (λ _. c.push_multiple.new.made.items) (λ v. v.items) c.from_residual-in_err-push_multiple.result c.in_err-push_multiple.field-0.0 _ (multiples c.args.k c.args.entries.now) ended (simp (to_z-of_z, c.ranges.k) at c.in_err-push_multiple.ensures) is
