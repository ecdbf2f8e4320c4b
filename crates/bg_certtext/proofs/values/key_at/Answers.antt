use Rattle.std.proofs.Common.{map, sym, ap, ◌∙◌}
use Rattle.std.specs.Prelude.{option_map}
use Rattle.std.proofs.lemmas.List.{map_push}
use Rattle.bg_certtext.specs.Views.{value_of}
use Rattle.bg_certtext.specs.Got.{value_got}
use Rattle.bg_certtext.proofs.ReadsKeys.{values_at}
use Rattle.bg_certtext.proofs.ReadsLoops.{in_front, no_front, more_values, value_less}
use Rattle.bg_certtext.proofs.values.key_at.Goals as goal

pub loop-values-init : goal.loop-values-init
loop-values-init c =
    let bs = c.args.bytes.now in
    ap (λ vs. in_front (map value_of vs) (values_at bs)) c.new-values.ensures.items ∙ no_front (values_at bs)

pub loop-values-smaller : goal.loop-values-smaller
loop-values-smaller c =
    value_less c.loop-values.rest.now c.in-Some-behind.next.now (value_of c.in-Some.value, c.in-Some.more.now) (sym c.in_ok-value.ensures ∙ ap (option_map value_got) c.in-Some.is) (sym c.in-Some-behind.ensures)

pub loop-values-preserved : goal.loop-values-preserved
loop-values-preserved c =
    more_values (map value_of c.loop-values.values.items) (map value_of c.push.new.self.items) c.loop-values.rest.now c.in-Some-behind.next.now (value_of c.in-Some.value, c.in-Some.more.now) _
    (ap (map value_of) c.in_ok-push.ensures.items ∙ map_push value_of c.loop-values.values.items c.in-Some.value)
    (sym c.in_ok-value.ensures ∙ ap (option_map value_got) c.in-Some.is) (sym c.in-Some-behind.ensures) c.loop-values.invariant
