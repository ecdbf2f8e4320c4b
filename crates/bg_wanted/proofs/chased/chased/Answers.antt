use Rattle.std.proofs.Common.{◌<◌, length, arith}
use Rattle.std.proofs.lemmas.Bool.Decides.{nat_tests}
use Rattle.bg_term_table.specs.Views.{terms_in}
use Rattle.bg_wanted.specs.Scalars.{scalars_in}
use Rattle.bg_wanted.proofs.Answering.{not_empty}
use Rattle.bg_wanted.proofs.Leading.{chase_wanted}
use Rattle.bg_wanted.proofs.chased.chased.Goals as goal

pub returns-then-is_empty : goal.returns-then-is_empty
returns-then-is_empty c = λ fs incs si wanting. wanting

pub returns : goal.returns
returns c =
    let x = c.args.sight in
    let made = c.in_ok-made.made.items in
    let some : 0 < length made = let h = c.is_empty.ensures in let k = c.if-is_empty.false in grind (arith, nat_tests, h, k) in
    λ fs incs si wanting.
    let way = c.in_ok-along_claim.ensures fs incs si (c.in_ok-way.ensures fs incs) in
    let lost = c.in_ok-put_all_near.ensures fs incs si way.0 in
    let all = c.in_ok-along_rest.ensures fs incs si (lost, way.1) in
    chase_wanted incs (terms_in fs x.terms.now) (scalars_in x.values.now) _ _ made all.0 all.1 c.in_ok-made.ensures (not_empty made some) wanting.unfinished
