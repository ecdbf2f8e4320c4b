use Rattle.std.proofs.Common.{List, ℕ, map, Option, sym, ap, ◌∙◌}
use Rattle.std.specs.Prelude.{option_map}
use Rattle.std.proofs.lemmas.Result.{IfOk-weaker}
use Rattle.std.proofs.lemmas.List.{map_push}
use Rattle.bg_certtext.specs.Views.{slot_of}
use Rattle.bg_certtext.specs.Spellable.{is_index}
use Rattle.bg_certtext.specs.Texts.{index_word}
use Rattle.bg_certtext.specs.Machine.{then_, either, index_from, plain_from, map_of}
use Rattle.bg_certtext.specs.Got.{slots_at, slot_got}
use Rattle.bg_certtext.proofs.ReadsFuel.{index_cuts, value_step}
use Rattle.bg_certtext.proofs.ReadsLoops.{more_rows, row_less}
use Rattle.bg_certtext.proofs.values.+value_from.Goals as goal

pub value_from-returns-else-depth-eq0 : goal.value_from-returns-else-depth-eq0
value_from-returns-else-depth-eq0 t c =
    let bytes = c.args.bytes.now in
    IfOk-weaker c.map_from.result _ _
    (λ o h. h ∙ sym (value_step bytes ∙ ap (λ (o : Option (List ℕ)). either o (λ r. then_ (slots_at r) map_of) (plain_from bytes)) (sym c.in-Some.ensures)))
    c.map_from.ensures

pub map_from-loop-last-smaller : goal.map_from-loop-last-smaller
map_from-loop-last-smaller t c =
    row_less index_from index_word is_index index_cuts c.loop-last.rest.now (slot_of c.in-Some-2.slot, c.in-Some-2.more.now) (sym c.in_ok-slot.ensures ∙ ap (option_map slot_got) c.in-Some-2.is)

pub map_from-loop-last-preserved : goal.map_from-loop-last-preserved
map_from-loop-last-preserved t c =
    more_rows index_from index_word is_index index_cuts (map slot_of c.loop-last.slots.items) (map slot_of c.push.new.self.items) c.loop-last.rest.now (slot_of c.in-Some-2.slot, c.in-Some-2.more.now) _
    (ap (map slot_of) c.in_ok-push.ensures.items ∙ map_push slot_of c.loop-last.slots.items c.in-Some-2.slot)
    (sym c.in_default.ensures) (sym c.in_ok-slot.ensures ∙ ap (option_map slot_got) c.in-Some-2.is) c.loop-last.invariant
