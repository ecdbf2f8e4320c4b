use Rattle.std.proofs.Common.{◌≡◌, true, map, sym, ap, ◌∙◌}
use Rattle.std.specs.Prelude.{slice_get}
use Rattle.bg_scalar.specs.Maps.{entry_in, key_in, is_key, taken_out}
use Rattle.bg_scalar.proofs.Places.{map_remove}
use Rattle.bg_scalar.proofs.map.take_out.Goals as goal

pub returns-then-is_at : goal.returns-then-is_at
returns-then-is_at c =
    let es = c.args.entries.now.items in
    let i = c.args.i in
    let q = c.args.key.now in
    let at : is_key (slice_get (map key_in es) i) q ≡ true = sym (ap (λ l. is_key (slice_get (map key_in l) i) q) c.deref.ensures.value) ∙ (sym c.is_at.ensures ∙ c.if-is_at.true) in
    ap (map entry_in) c.remove.ensures.items
    ∙ (map_remove entry_in es i ∙ sym (ap (λ b. taken_out b i (map entry_in es)) at))
