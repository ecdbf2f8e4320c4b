use Rattle.std.proofs.Common.{rules, ◌≡◌, true, false}
use Rattle.std.specs.Prelude.{is_some}
use Rattle.bg_atoms.specs.Tables.{known_at}
use Rattle.bg_ahead.proofs.Knowing.{put_there, put_new}
use Rattle.bg_ahead.proofs.known.put.Goals as goal

pub returns-then-is_some : goal.returns-then-is_some
returns-then-is_some c =
    let there : is_some (known_at c.args.known.now (c.args.at.0.items, c.args.at.1)) ≡ true = search rules in
    λ q. put_there (c.args.at.0.items, c.args.at.1) (q.0.items, q.1) c.args.l (λ k. known_at c.args.known.now k) there

pub returns : goal.returns
returns c =
    let none : is_some (known_at c.args.known.now (c.args.at.0.items, c.args.at.1)) ≡ false = search rules in
    λ q. put_new (c.args.at.0.items, c.args.at.1) (q.0.items, q.1) c.args.l (λ k. known_at c.args.known.now k) _ none (c.in_ok-insert.ensures.updates.0 q)
