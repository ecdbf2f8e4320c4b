use Rattle.std.proofs.Common.{rules, ◌≡◌, ◌++◌, [], ◌∷◌, true, not, sym, ap, ◌∙◌, append_assoc}
use Rattle.bg_clause.proofs.Once.{clash_at}
use Rattle.bg_clause.proofs.few.distinct_few.Goals as goal

pub returns-then-not-branch : goal.returns-then-not-branch
returns-then-not-branch c =
    let cut : c.loop-last.left.now ≡ c.in-Some.before.now ++ c.in-Some.last.now ∷ [] = search rules in
    let done = c.loop-last.invariant.0 in
    clash_at c.in_ok-keep.field-0 c.in-Some.before.now c.in-Some.last.now done c.args.ls.now c.loop-last.left.now cut c.loop-last.invariant.1 (c.in_ok-keep.ensures done c.loop-last.invariant.2).0 (ap (λ b. not b) c.if-not-branch.true)

pub loop-last-preserved : goal.loop-last-preserved
loop-last-preserved c =
    let before = c.in-Some.before.now in
    let last = c.in-Some.last.now in
    let cut : c.loop-last.left.now ≡ before ++ last ∷ [] = search rules in
    let done = c.loop-last.invariant.0 in
    let kept : c.in_ok-keep.field-0 ≡ true = c.if-not-branch.false in (
      last ∷ done,
      sym (append_assoc before (last ∷ []) done) ∙ (ap (λ l. l ++ done) (sym cut) ∙ c.loop-last.invariant.1),
      (c.in_ok-keep.ensures done c.loop-last.invariant.2).1 kept,
    )
