use Rattle.std.proofs.Common.{◌≡◌, ◌<◌, length, map, refl, rules}
use Rattle.std.specs.Prelude.{Some}
use Rattle.bg_rows.specs.Rows.{row_of}
use Rattle.bg_rows.specs.Steps.{row_at}
use Rattle.bg_elim.proofs.Begins.{given_at}
use Rattle.bg_elim.proofs.Live.{joined_is}
use Rattle.bg_elim.proofs.Listed.{join_listed}
use Rattle.bg_elim.proofs.take.join.Goals as goal

pub returns-clause-indexed : goal.returns-clause-indexed
returns-clause-indexed c =
    let w = c.args.work.now in
    let lt : c.args.m < length w.live.items = search rules in
    let at : row_at (map row_of w.rows.items) c.args.m ≡ Some (row_of c.index.result.now) = given_at w.rows.items c.args.m c.index.result.now c.requires.there c.index.ensures in
    record {
      keys = c.requires.indexed.keys;
      sized = search rules;
      listed = join_listed (map row_of w.rows.items) w.columns c.list_row.new.columns w.live.items c.retire.new.live.items _ c.args.m c.args.stand (row_of c.index.result.now) at
          c.requires.indexed.listed c.in_ok-list_row.ensures.keeps c.in_ok-list_row.ensures.there (search rules) c.retire.ensures.back refl;
    }

pub returns-clause-joined : goal.returns-clause-joined
returns-clause-joined c =
    let w = c.args.work.now in
    let lt : c.args.m < length c.retire.new.live.items = search rules in
    record { same = refl; live = λ q. joined_is w.live.items c.retire.new.live.items _ c.args.m q c.args.stand lt (c.retire.ensures.back q) refl }
