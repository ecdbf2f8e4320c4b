use Rattle.std.proofs.Common.{◌≡◌, length, take, sym, ◌∙◌, subst}
use Rattle.std.proofs.lemmas.List.{take_all}
use Rattle.bg_term_table.proofs.Loops.{read_more}
use Rattle.bg_wanted.specs.Rows.{row_of, rows_of}
use Rattle.bg_wanted.specs.Selects.{HasSelects}
use Rattle.bg_wanted.proofs.Rowed.{take_length}
use Rattle.bg_wanted.proofs.Mapping.{no_selects}
use Rattle.bg_wanted.proofs.maps.all_selects.Goals as goal

pub loop-i-init : goal.loop-i-init
loop-i-init c = λ k. no_selects c.new-made.result k c.new-made.ensures.empty

pub loop-i-preserved : goal.loop-i-preserved
loop-i-preserved c =
    let rows = c.args.rows.now in
    let i = c.loop-i.i in
    let x = c.index-rows-i.result in
    let len : c.in_ok-place.place ≡ length (rows_of (take i rows)) = c.in_ok-place.ensures ∙ sym (take_length row_of rows i c.loop-i-test.true) in
    subst (HasSelects c.put_row.new.selects) (sym (read_more row_of rows i x c.loop-i-test.true c.index-rows-i.is)) (c.in_ok-put_row.ensures (rows_of (take i rows)) len c.loop-i.invariant)

pub returns : goal.returns
returns c =
    subst (λ l. HasSelects c.loop-i.made (rows_of l)) (take_all c.loop-i.i c.args.rows.now c.loop-i-test.false) c.loop-i.invariant
