use Rattle.std.proofs.Common.{◌≡◌, ◌≤◌, ◌<◌, true, length, map, ap, ◌∙◌, arith}
use Rattle.std.specs.Prelude.{slice_get}
use Rattle.std.proofs.lemmas.List.{length-map}
use Rattle.std.proofs.lemmas.Result.{on_ok_weaker}
use Rattle.bg_scalar.specs.Values.{value_of}
use Rattle.bg_scalar.specs.Maps.{entry_in, key_in, is_key, place_in, taken_out}
use Rattle.bg_scalar.proofs.Places.{place_within, key_within, still_within, updated}
use Rattle.bg_scalar.proofs.map.update.Goals as goal

pub put_in-requires : goal.put_in-requires
put_in-requires c =
    let es = c.args.entries.now.items in
    let q = c.args.key.items in
    let i = c.place-i.result in
    let b = is_key (slice_get (map key_in es) i) q in
    let n = length-map es key_in in
    let m = length-map es entry_in in
    let k = length-map c.take_out-old.new.entries.items entry_in in
    let at : i ≡ place_in (map key_in es) q = c.place-i.ensures ∙ (ap (λ l. place_in (map key_in l) c.deref-2.result.now) c.deref.ensures.value ∙ ap (λ l. place_in (map key_in es) l) c.deref-2.ensures.value) in
    let near : i ≤ length (map entry_in es) = let h = place_within (map key_in es) q in omega (arith, at, h, n, m) in
    let inside : b ≡ true → i < length (map entry_in es) = λ e. let h = key_within (map key_in es) i q e in omega (arith, h, n, m) in
    let out = c.take_out-old.ensures ∙ ap (λ l. taken_out (is_key (slice_get (map key_in es) i) l) i (map entry_in es)) c.deref-3.ensures.value in
    let left = still_within (map entry_in es) i b near inside in
    let same = ap length out in
    omega (arith, left, same, k)

pub returns : goal.returns
returns c =
    let es = c.args.entries.now.items in
    let q = c.args.key.items in
    let i = c.place-i.result in
    let at : i ≡ place_in (map key_in es) q = c.place-i.ensures ∙ (ap (λ l. place_in (map key_in l) c.deref-2.result.now) c.deref.ensures.value ∙ ap (λ l. place_in (map key_in es) l) c.deref-2.ensures.value) in
    let out = c.take_out-old.ensures ∙ ap (λ l. taken_out (is_key (slice_get (map key_in es) i) l) i (map entry_in es)) c.deref-3.ensures.value in
    on_ok_weaker c.put_in.result
    (λ put. updated es c.take_out-old.new.entries.items c.put_in.new.entries.items (value_of c.args.default.now) (value_of c.args.value) q i at out put) c.put_in.ensures
