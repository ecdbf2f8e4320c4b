use Rattle.std.proofs.Common.{[], ◌∷◌, ◌++◌, map, ap, ◌∙◌}
use Rattle.bg_kinds.specs.Views.{key_of, base_of}
use Rattle.bg_fits.proofs.Towers.{one_in_front}
use Rattle.bg_fits.proofs.copies.map_kind.Goals as goal

pub returns : goal.returns
returns c =
    let k = c.in_ok-keys_copied.field-0 in
    one_in_front _ c.push.new.self.items k _ c.args.keys.now c.args.t.maps.now (base_of c.args.t.base) c.in_ok-append.ensures.items (c.in_ok-push.ensures.items ∙ ap (λ l. l ++ k ∷ []) c.new-maps.ensures.items) (c.in_ok-keys_copied.ensures ∙ ap (map key_of) c.deref.ensures.value) c.in_ok-inner.ensures
