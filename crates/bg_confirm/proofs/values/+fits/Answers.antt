use Rattle.std.proofs.Common.{◌≡◌, ◌-◌, Bool, ◌&&◌, List, length, map, take, drop, sym, ap, ◌∙◌}
use Rattle.bg_ast.specs.Views.{type_name_of}
use Rattle.bg_kinds.specs.declared.kinds.IndexType.{IndexType}
use Rattle.bg_kinds.specs.Views.{key_of, base_of, keys_of, tower}
use Rattle.bg_certtext.specs.declared.text.Slot.{Slot}
use Rattle.bg_certtext.specs.declared.text.Value.{Value}
use Rattle.bg_certtext.specs.Views.{value_of, slot_of}
use Rattle.bg_confirm.specs.Typed.{value_fits, slots_fit}
use Rattle.bg_confirm.proofs.Slots.{fit_by}
use Rattle.bg_confirm.proofs.values.+fits.Goals as goal

pub fits-returns-then-slots_fit : goal.fits-returns-then-slots_fit
fits-returns-then-slots_fit t c =
    let types = map type_name_of c.args.types.now in
    let ms = c.args.t.maps.now in
    let k = c.keys-item.result in
    let b = base_of c.args.t.base in
    let inner = tower (take (length ms - 1) (drop 1 ms)) b in
    let slots : c.slots_fit.result ≡ slots_fit types (keys_of k) inner (map slot_of c.in-Map.slots.items) =
    c.slots_fit.ensures
    ∙ (ap (λ (ks : List IndexType). slots_fit types (map key_of ks) inner (map slot_of c.deref-in-Map.result.now)) c.deref.ensures.value
    ∙ ap (λ (ss : List Slot). slots_fit types (keys_of k) inner (map slot_of ss)) c.deref-in-Map.ensures.value) in
    c.fits.ensures
    ∙ (ap (λ (x : Value). value_fits types inner (value_of x)) c.deref-then-slots_fit.ensures
    ∙ (ap (λ (y : Bool). y && value_fits types inner (value_of c.in-Map.default.value)) (sym c.if-slots_fit.true ∙ slots)
    ∙ sym (fit_by types ms k b c.in-Map.slots c.in-Map.default c.args.value.now c.in-len1-up.len_at_least c.keys-item.is c.in-Map.is)))

pub fits-returns-else-slots_fit : goal.fits-returns-else-slots_fit
fits-returns-else-slots_fit t c =
    let types = map type_name_of c.args.types.now in
    let ms = c.args.t.maps.now in
    let k = c.keys-item.result in
    let b = base_of c.args.t.base in
    let inner = tower (take (length ms - 1) (drop 1 ms)) b in
    let slots : c.slots_fit.result ≡ slots_fit types (keys_of k) inner (map slot_of c.in-Map.slots.items) =
    c.slots_fit.ensures
    ∙ (ap (λ (ks : List IndexType). slots_fit types (map key_of ks) inner (map slot_of c.deref-in-Map.result.now)) c.deref.ensures.value
    ∙ ap (λ (ss : List Slot). slots_fit types (keys_of k) inner (map slot_of ss)) c.deref-in-Map.ensures.value) in
    c.if-slots_fit.false
    ∙ (ap (λ (y : Bool). y && value_fits types inner (value_of c.in-Map.default.value)) (sym c.if-slots_fit.false ∙ slots)
    ∙ sym (fit_by types ms k b c.in-Map.slots c.in-Map.default c.args.value.now c.in-len1-up.len_at_least c.keys-item.is c.in-Map.is))
