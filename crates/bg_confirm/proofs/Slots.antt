-- Values of a certificate that are maps.
use Rattle.std.proofs.Common.{◌≡◌, ◌≢◌, ◌≤◌, ◌-◌, suc, Bool, true, false, ◌&&◌, List, [], ◌∷◌, length, map, take, drop, get_or, refl, sym, ap, ◌∙◌, arith, Vec, Box, Global}
use Rattle.std.proofs.lemmas.List.{take_rest}
use Rattle.bg_ast.specs.Values.{KeyType, Ty, MapTy, Val, result_of}
use Rattle.bg_ast.specs.Values as v
use Rattle.bg_ast.specs.Resolved as r
use Rattle.bg_kinds.specs.declared.kinds.Base.{Base}
use Rattle.bg_kinds.specs.declared.kinds.Base.TheVariants as base
use Rattle.bg_kinds.specs.declared.kinds.IndexType.{IndexType}
use Rattle.bg_kinds.specs.declared.kinds.Keys.{Keys}
use Rattle.bg_kinds.specs.Views.{key_of, base_of, keys_of, tower}
use Rattle.bg_scalar.specs.declared.value.Value as code
use Rattle.bg_scalar.specs.declared.value.Value.TheVariants as made
use Rattle.bg_scalar.specs.declared.value.Entry as kept
use Rattle.bg_scalar.specs.Values as scalar
use Rattle.bg_scalar.specs.Maps.{entry_in, with_entries}
use Rattle.bg_scalar.proofs.Rows as scalar_rows
use Rattle.bg_certtext.specs.declared.text.Part.{Part}
use Rattle.bg_certtext.specs.declared.text.Value.{Value}
use Rattle.bg_certtext.specs.declared.text.Value.TheVariants as value
use Rattle.bg_certtext.specs.declared.text.Slot.{Slot}
use Rattle.bg_certtext.specs.Views.{ValueOf, Default, Item, part_of, value_of, slot_of, with_slots}
use Rattle.bg_certtext.proofs.Rows.{value_of-Map}
use Rattle.bg_confirm.specs.Typed.{part_fits, index_fits, value_fits, slots_fit}
use Rattle.bg_confirm.specs.Met.{val_for, entry_for}

and_false : (a b : Bool) → b ≡ false → (a && b) ≡ false
and_false true b h = h
and_false false b h = refl

regrouped : (a b c d : Bool) → (a && (b && (c && d))) ≡ (((a && b) && c) && d)
regrouped true true c d = refl
regrouped true false c d = refl
regrouped false b c d = refl

-- ---- types

pub base_result : (b : Base) → result_of (base_of b) ≡ base_of b
base_result base.Int = refl
base_result base.Bool = refl
base_result (base.User k) = refl

pub indices_differ : (types : List r.TypeName) (ks : List IndexType) (ps : List Part) → length ks ≢ length ps → index_fits types (map key_of ks) (map part_of ps) ≡ false
indices_differ types [] [] h = absurd (h refl)
indices_differ types [] (p ∷ ps) h = refl
indices_differ types (k ∷ ks) [] h = refl
indices_differ types (k ∷ ks) (p ∷ ps) h = and_false (part_fits types (key_of k) (part_of p)) (index_fits types (map key_of ks) (map part_of ps)) (indices_differ types ks ps (λ e. h (ap suc e)))

-- ---- whether a map fits

base_first : (types : List r.TypeName) (b : Base) (es : List Item) (d : ValueOf) → value_fits types (base_of b) (with_slots es (Default d)) ≡ false
base_first types base.Int [] d = refl
base_first types base.Bool [] d = refl
base_first types (base.User k) [] d = refl
base_first types base.Int (e ∷ es) d = refl
base_first types base.Bool (e ∷ es) d = refl
base_first types (base.User k) (e ∷ es) d = refl

pub base_no_map : (types : List r.TypeName) (b : Base) (ss : Vec Slot Global) (d : Box Value Global) → value_fits types (base_of b) (value_of (value.Map ss d)) ≡ false
base_no_map types b ss d = ap (value_fits types (base_of b)) (value_of-Map ss d) ∙ base_first types b (map slot_of ss.items) (value_of d.value)

slots_first : (types : List r.TypeName) (ks : List KeyType) (t : Ty) (es : List Item) (d : ValueOf) → value_fits types (MapTy ks t) (with_slots es (Default d)) ≡ (slots_fit types ks t es && value_fits types t d)
slots_first types ks t [] d = refl
slots_first types ks t (e ∷ es) d =
    ap (λ (b : Bool). index_fits types ks e.0 && (value_fits types t e.1 && b)) (slots_first types ks t es d)
    ∙ regrouped (index_fits types ks e.0) (value_fits types t e.1) (slots_fit types ks t es) (value_fits types t d)

pub map_fits : (types : List r.TypeName) (ks : List KeyType) (t : Ty) (ss : Vec Slot Global) (d : Box Value Global) → value_fits types (MapTy ks t) (value_of (value.Map ss d)) ≡ (slots_fit types ks t (map slot_of ss.items) && value_fits types t (value_of d.value))
map_fits types ks t ss d = ap (value_fits types (MapTy ks t)) (value_of-Map ss d) ∙ slots_first types ks t (map slot_of ss.items) (value_of d.value)

-- a map type behind its first bracket
tower_first : (ms : List Keys) (k : Keys) (b : Ty) → 1 ≤ length ms → k ≡ get_or ms 0 k → tower ms b ≡ MapTy (keys_of k) (tower (take (length ms - 1) (drop 1 ms)) b)
tower_first [] k b l e = absurd (omega (arith, l))
tower_first (m ∷ ms) k b l e =
    ap (λ (x : Keys). MapTy (keys_of x) (tower ms b)) (sym e) ∙ ap (λ (ns : List Keys). MapTy (keys_of k) (tower ns b)) (sym (take_rest (m ∷ ms) 1))

pub fit_by : (types : List r.TypeName) (ms : List Keys) (k : Keys) (b : Ty) (ss : Vec Slot Global) (d : Box Value Global) (x : Value) → 1 ≤ length ms → k ≡ get_or ms 0 k → x ≡ value.Map ss d →
    value_fits types (tower ms b) (value_of x) ≡ (slots_fit types (keys_of k) (tower (take (length ms - 1) (drop 1 ms)) b) (map slot_of ss.items) && value_fits types (tower (take (length ms - 1) (drop 1 ms)) b) (value_of d.value))
fit_by types ms k b ss d x l e is =
    let inner = tower (take (length ms - 1) (drop 1 ms)) b in
    ap (λ (u : Ty). value_fits types u (value_of x)) (tower_first ms k b l e)
    ∙ (ap (λ (y : Value). value_fits types (MapTy (keys_of k) inner) (value_of y)) is ∙ map_fits types (keys_of k) inner ss d)

-- ---- a map as one of a type

entered : (t : Ty) (es : List Item) (d : ValueOf) → with_entries (map (entry_for (result_of t)) es) (v.Default (val_for (result_of t) d)) ≡ val_for t (with_slots es (Default d))
entered t [] d = refl
entered t (e ∷ es) d = ap (v.Entry (entry_for (result_of t) e).0 (entry_for (result_of t) e).1) (entered t es d)

pub map_made : (t : Ty) (ss : Vec Slot Global) (d : Box Value Global) (xs : Vec kept.Entry Global) (x : Box code.Value Global) → map entry_in xs.items ≡ map (entry_for (result_of t)) (map slot_of ss.items) → scalar.value_of x.value ≡ val_for (result_of t) (value_of d.value) →
    scalar.value_of (made.Map xs x) ≡ val_for t (value_of (value.Map ss d))
map_made t ss d xs x h k =
    scalar_rows.value_of-Map xs x
    ∙ (ap (λ l. with_entries l (v.Default (scalar.value_of x.value))) h
    ∙ (ap (λ (y : Val). with_entries (map (entry_for (result_of t)) (map slot_of ss.items)) (v.Default y)) k
    ∙ (entered t (map slot_of ss.items) (value_of d.value)
    ∙ ap (val_for t) (sym (value_of-Map ss d)))))

pub ruleset map_for = (map_made)
