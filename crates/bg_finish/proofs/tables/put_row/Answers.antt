use Rattle.std.proofs.Common.{◌<◌, ◌≤◌, length, rules}
use Rattle.std.proofs.lemmas.Result.{IfOk-weaker}
use Rattle.bg_finish.specs.Filled.{put_in}
use Rattle.bg_finish.proofs.Held.{place_past, set_place}
use Rattle.bg_finish.proofs.tables.put_row.Goals as goal

pub returns-then-f-len : goal.returns-then-f-len
returns-then-f-len c =
    let past : length c.args.tables.now.items ≤ c.args.function = search rules in
    place_past c.args.function (λ t. put_in t c.args.args.items c.args.value) c.args.tables.now.items past

pub returns : goal.returns
returns c =
    let there : c.args.function < length c.args.tables.now.items = search rules in
    IfOk-weaker c.put.result _ _
    (λ x h. set_place c.args.tables.now.items c.args.function c.put.new.table c.index_mut.result.now (λ t. put_in t c.args.args.items c.args.value) there c.index_mut.ensures.value h)
    c.put.ensures
