use Rattle.std.proofs.Common.{◌++◌, sym, ap, ◌∙◌}
use Rattle.std.proofs.lemmas.Result.{on_ok_weaker}
use Rattle.bg_scalar.specs.Values.{value_of}
use Rattle.bg_told.specs.ValueTexts.{value_text}
use Rattle.bg_kinds.specs.Views.{ref_of}
use Rattle.bg_told.specs.Entries.{types_in}
use Rattle.bg_told.proofs.Maps.{map_put}
use Rattle.bg_told.proofs.value.+put_value.Goals as goal

pub put_value-returns-in-Plain : goal.put_value-returns-in-Plain
put_value-returns-in-Plain t c =
    on_ok_weaker c.put_scalar.result
    (λ told. told (ref_of c.args.t) ∙ ap (λ v. c.args.out.now.items ++ value_text (types_in c.args.types.now) (ref_of c.args.t) (value_of v)) (sym c.in-Plain.is))
    c.put_scalar.ensures

pub put_value-returns-in_ok-put_entries-in-Map : goal.put_value-returns-in_ok-put_entries-in-Map
put_value-returns-in_ok-put_entries-in-Map t c =
    on_ok_weaker c.put_default.result
    (map_put (types_in c.args.types.now) (ref_of c.args.t) c.in-Map.entries c.in-Map.default c.args.value.now c.args.out.now.items c.put_entries.new.out.items c.put_default.new.out.items c.deref.result.now c.deref-in-Map.result.now c.in-Map.is c.deref.ensures.value c.deref-in-Map.ensures c.in_ok-put_entries-in-Map.ensures)
    c.put_default.ensures
