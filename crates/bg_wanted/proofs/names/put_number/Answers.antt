use Rattle.std.proofs.Common.{[], ◌∷◌, ◌++◌, sym, ap, ◌∙◌}
use Rattle.std.specs.Prelude.{if◌then◌else◌}
use Rattle.bg_wanted.proofs.names.put_number.Goals as goal

pub returns-then-is_new : goal.returns-then-is_new
returns-then-is_new c =
    let js = c.args.numbers.now.items in
    c.in_ok-push.ensures.items ∙ sym (ap (λ b. if b then js ++ c.args.number ∷ [] else js) c.if-is_new.true)

pub returns : goal.returns
returns c =
    let js = c.args.numbers.now.items in
    sym (ap (λ b. if b then js ++ c.args.number ∷ [] else js) c.if-is_new.false)
