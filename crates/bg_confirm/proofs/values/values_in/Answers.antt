use Rattle.std.proofs.Common.{List, map, drop, refl, ap, arith}
use Rattle.std.proofs.lemmas.List.{drop_all}
use Rattle.bg_kinds.specs.Views.{ref_in, ref_of}
use Rattle.bg_certtext.specs.declared.text.Given.{Given}
use Rattle.bg_certtext.specs.Views.{ValueOf, given_of}
use Rattle.bg_confirm.specs.Met.{vals_for}
use Rattle.bg_confirm.proofs.Reading.{reads_more, all_read}
use Rattle.bg_confirm.proofs.values.values_in.Goals as goal

abbrev values : List Given → List ValueOf
values gs = map (λ g. g.value) (map given_of gs)

pub loop-k-preserved : goal.loop-k-preserved
loop-k-preserved c =
    let hs = map ref_in c.args.kinds.now in
    let gs = c.args.given.now in
    reads_more values (λ (g : Given). (given_of g).value) (λ g l. refl) hs c.loop-k.k gs c.index-given-k.result (ref_of c.type_at.result) c.loop-k.made.items c.push.new.self.items c.in_ok-value.value (vals_for hs (values gs))
    c.loop-k-test.true c.in_ok-push.ensures.items c.in_ok-value.ensures c.type_at.ensures c.loop-k.invariant

pub returns : goal.returns
returns c =
    let gs = c.args.given.now in
    all_read (drop c.loop-k.k (map ref_in c.args.kinds.now)) (values (drop c.loop-k.k gs)) c.loop-k.made.items (vals_for (map ref_in c.args.kinds.now) (values gs)) (ap values (drop_all c.loop-k.k gs (omega (arith, c.loop-k-test.false)))) c.loop-k.invariant
