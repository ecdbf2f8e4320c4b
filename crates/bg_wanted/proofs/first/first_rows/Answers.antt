use Rattle.std.proofs.Common.{◌≡◌, length, take, sym, ◌∙◌, subst}
use Rattle.std.proofs.lemmas.List.{take_all}
use Rattle.bg_term_table.proofs.Loops.{read_more}
use Rattle.bg_wanted.specs.Rows.{row_of, rows_of}
use Rattle.bg_wanted.specs.Firsts.{IsSoFar}
use Rattle.bg_wanted.proofs.Rowed.{take_length}
use Rattle.bg_wanted.proofs.Earliest.{none_at, none_yet}
use Rattle.bg_wanted.proofs.first.first_rows.Goals as goal

pub loop-i-init : goal.loop-i-init
loop-i-init c =
    none_yet c.new-known.result c.new-wrong.result.items (λ k. none_at c.new-known.result k c.new-known.ensures.empty) c.new-wrong.ensures.items

pub loop-i-preserved : goal.loop-i-preserved
loop-i-preserved c =
    let rows = c.args.rows.now in
    let i = c.loop-i.i in
    let x = c.index-rows-i.result in
    let len : length (rows_of (take i rows)) ≡ c.in_ok-b.b = take_length row_of rows i c.loop-i-test.true ∙ sym c.in_ok-b.ensures in
    subst (IsSoFar c.compare.new.known c.compare.new.wrong.items) (sym (read_more row_of rows i x c.loop-i-test.true c.index-rows-i.is)) (c.in_ok-compare.ensures (rows_of (take i rows)) len c.loop-i.invariant)

pub returns : goal.returns
returns c =
    subst (λ l. IsSoFar c.loop-i.known c.loop-i.wrong.items (rows_of l)) (take_all c.loop-i.i c.args.rows.now c.loop-i-test.false) c.loop-i.invariant
