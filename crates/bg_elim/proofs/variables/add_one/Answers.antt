use Rattle.std.proofs.Common.{◌≡◌, false, rules}
use Rattle.bg_elim.specs.Kept.{is_in}
use Rattle.bg_elim.proofs.Names.{once_last}
use Rattle.bg_elim.proofs.variables.add_one.Goals as goal

pub returns-in_ok-push-clause-once : goal.returns-in_ok-push-clause-once
returns-in_ok-push-clause-once c =
    let t = c.requires.tied c.args.x in
    let n : is_in c.args.x c.args.all.now.items ≡ false = search rules in
    rw c.in_ok-push.ensures.items (once_last c.args.all.now.items c.args.x c.requires.once n)
