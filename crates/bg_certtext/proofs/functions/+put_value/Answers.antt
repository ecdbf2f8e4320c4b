use Rattle.std.proofs.lemmas.Result.{on_ok_weaker}
use Rattle.bg_certtext.proofs.Items.{map_written}
use Rattle.bg_certtext.proofs.functions.+put_value.Goals as goal

pub put_value-returns-in_ok-put_slots-in-Map : goal.put_value-returns-in_ok-put_slots-in-Map
put_value-returns-in_ok-put_slots-in-Map t c =
    on_ok_weaker c.put_default.result
    (map_written c.in-Map.slots c.in-Map.default c.args.value.now c.args.out.now.items c.put_slots.new.out.items c.put_default.new.out.items c.deref.result.now c.deref-in-Map.result.now c.in-Map.is c.deref.ensures.value c.deref-in-Map.ensures c.in_ok-put_slots-in-Map.ensures)
    c.put_default.ensures
