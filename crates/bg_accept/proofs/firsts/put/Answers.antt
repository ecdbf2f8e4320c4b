use Rattle.std.proofs.Common.{◌<◌, ◌≤◌, ◌∙◌, ap, sym, subst, length, arith}
use Rattle.std.specs.Vec as vec
use Rattle.std.proofs.lemmas.List.{with_items_is}
use Rattle.bg_accept.proofs.Filled.{Row, widths_set, first_put, first_past, PutIn}
use Rattle.bg_accept.proofs.firsts.put.Goals as goal

pub returns-then-section-len-clause-widths : goal.returns-then-section-len-clause-widths
returns-then-section-len-clause-widths c =
    let o = c.args.table.now.ok.0 in
    let l : c.args.section.now.implementation < length c.args.table.now.items = omega (arith, o, c.len.ensures, c.if-section-len.true) in
    let old = c.index_mut.result.now in
    let long = c.put_at.ensures.long ∙ ap length c.deref_mut.ensures.value in
    let is = with_items_is old c.put_at.new.row (long ∙ sym old.ok.0) in
    widths_set c.args.table.now.items c.args.section.now.implementation old (vec.with_items old c.put_at.new.row) l
    (ap length is ∙ (long ∙ ap (λ (v : Row). length v.items) c.index_mut.ensures.value))

pub returns-then-section-len-clause-put : goal.returns-then-section-len-clause-put
returns-then-section-len-clause-put c =
    let o = c.args.table.now.ok.0 in
    let l : c.args.section.now.implementation < length c.args.table.now.items = omega (arith, o, c.len.ensures, c.if-section-len.true) in
    let old = c.index_mut.result.now in
    let long = c.put_at.ensures.long ∙ ap length c.deref_mut.ensures.value in
    let is = with_items_is old c.put_at.new.row (long ∙ sym old.ok.0) in
    let place = c.args.section.now.place in
    let number = c.args.number in
    let put = subst (λ row. PutIn row place number c.put_at.new.row) (c.deref_mut.ensures.value ∙ ap (λ (v : Row). v.items) c.index_mut.ensures.value) c.put_at.ensures.put in
    first_put c.args.table.now.items c.args.section.now.implementation old (vec.with_items old c.put_at.new.row) place number l
    (subst (PutIn _ place number) (sym is) put)

pub returns-else-section-len-clause-put : goal.returns-else-section-len-clause-put
returns-else-section-len-clause-put c =
    let o = c.args.table.now.ok.0 in
    let l : length c.args.table.now.items ≤ c.args.section.now.implementation = omega (arith, o, c.len.ensures, c.if-section-len.false) in
    first_past c.args.table.now.items c.args.section.now.implementation c.args.section.now.place c.args.number l
