use Rattle.std.proofs.Common.{◌≡◌, false, ap}
use Rattle.std.specs.Prelude.{is_some}
use Rattle.bg_atoms.specs.Tables.{known_at}
use Rattle.bg_atoms.proofs.Tabled.{put_new}
use Rattle.bg_atoms.proofs.table.put_first.Goals as goal

pub returns : goal.returns
returns c =
    let none : is_some (known_at c.args.known.now (c.args.at.0.items, c.args.at.1)) ≡ false = ap is_some c.requires in
    λ q. put_new (c.args.at.0.items, c.args.at.1) (q.0.items, q.1) c.args.l (λ k. known_at c.args.known.now k) _ none (c.in_ok-insert.ensures.updates.0 q)
