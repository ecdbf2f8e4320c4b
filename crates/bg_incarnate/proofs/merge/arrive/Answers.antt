use Rattle.std.proofs.Common.{◌≡◌, [], ◌∷◌, ◌++◌, refl, sym, ap, ◌∙◌, rules}
use Rattle.bg_incarnate.specs.Views.{held_env}
use Rattle.bg_incarnate.proofs.Meeting.{arrive_met, same_env}
use Rattle.bg_incarnate.proofs.merge.arrive.Goals as goal

pub returns-in_ok-frame-in-Some-clause-env : goal.returns-in_ok-frame-in-Some-clause-env
returns-in_ok-frame-in-Some-clause-env c =
    let hs = c.args.ways.now in
    let last = c.in-Some.first.now in
    let front = c.in-Some.field-0-1.now in
    let parts : hs ≡ front ++ last ∷ [] = search rules in
    same_env _ _ last.before.now _ _
    (c.in_ok-globals-in-Some.ensures.made ∙ rw c.deref.ensures.value refl)
    (c.in_ok-frame-in-Some.ensures.made ∙ rw (c.in_ok-globals-in-Some.ensures.more, c.deref.ensures.value, c.deref-in-Some.ensures.value) refl)
    ∙ sym (ap (λ a. a.env) (arrive_met hs front last (held_env c.args.entry.now) c.args.next.now parts))

pub returns-in_ok-frame-in-Some-clause-more : goal.returns-in_ok-frame-in-Some-clause-more
returns-in_ok-frame-in-Some-clause-more c =
    let hs = c.args.ways.now in
    let last = c.in-Some.first.now in
    let front = c.in-Some.field-0-1.now in
    let parts : hs ≡ front ++ last ∷ [] = search rules in
    (c.in_ok-frame-in-Some.ensures.more ∙ rw (c.in_ok-globals-in-Some.ensures.more, c.deref.ensures.value, c.deref-in-Some.ensures.value) refl)
    ∙ sym (ap (λ a. a.next) (arrive_met hs front last (held_env c.args.entry.now) c.args.next.now parts))
