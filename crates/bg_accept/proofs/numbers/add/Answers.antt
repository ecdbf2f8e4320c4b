use Rattle.std.proofs.Common.{◌∙◌, cond, ap}
use Rattle.std.specs.Prelude.{Some}
use Rattle.std.specs.Str.{bytes_eq}
use Rattle.std.proofs.lemmas.Map.Text.{hash_map_updates_str}
use Rattle.bg_accept.specs.Numbers.{found}
use Rattle.bg_accept.proofs.numbers.add.Goals as goal

pub returns : goal.returns
returns c = λ text.
    hash_map_updates_str c.as_slice.result.now c.args.table.now c.insert.new.self (Some c.args.number) c.in_ok-insert.ensures.updates text
    ∙ ap (λ bs. cond (bytes_eq bs text) (Some c.args.number) (found text c.args.table.now.entries)) c.as_slice.ensures.value
