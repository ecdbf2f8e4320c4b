use Rattle.std.proofs.Common.{map, drop, refl, ap, ◌∙◌, arith}
use Rattle.std.proofs.lemmas.List.{drop_all}
use Rattle.bg_kinds.specs.Views.{ref_in, ref_of}
use Rattle.bg_certtext.specs.declared.text.Value.{Value}
use Rattle.bg_certtext.specs.Views.{value_of}
use Rattle.bg_confirm.specs.Met.{val_for, vals_for}
use Rattle.bg_confirm.proofs.Reading.{reads_more, all_read}
use Rattle.bg_confirm.proofs.tables.key_of.Goals as goal

pub loop-k-preserved : goal.loop-k-preserved
loop-k-preserved c =
    let hs = map ref_in c.args.kinds.now in
    let xs = c.args.key.now in
    reads_more (map value_of) value_of (λ x l. refl) hs c.loop-k.k xs c.index-key-k.result (ref_of c.type_at.result) c.loop-k.made.items c.push.new.self.items c.in_ok-value.value (vals_for hs (map value_of xs))
    c.loop-k-test.true c.in_ok-push.ensures.items (c.in_ok-value.ensures ∙ ap (λ (x : Value). val_for (ref_of c.type_at.result) (value_of x)) c.index-key-k.is) c.type_at.ensures c.loop-k.invariant

pub returns : goal.returns
returns c =
    let hs = map ref_in c.args.kinds.now in
    let xs = c.args.key.now in
    all_read (drop c.loop-k.k hs) (map value_of (drop c.loop-k.k xs)) c.loop-k.made.items (vals_for hs (map value_of xs)) (ap (map value_of) (drop_all c.loop-k.k xs (omega (arith, c.loop-k-test.false)))) c.loop-k.invariant
