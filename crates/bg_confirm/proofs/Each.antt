-- Values fit types where each fits its own.
use Rattle.std.proofs.Common.{◌≡◌, ℕ, suc, ◌+◌, ◌<◌, Bool, true, false, List, [], ◌∷◌, length, map, drop, get_or, refl, sym, ap, ◌∙◌}
use Rattle.std.specs.Prelude.{◌&&◌}
use Rattle.std.proofs.lemmas.List.{drop_more}
use Rattle.bg_ast.specs.Resolved as r
use Rattle.bg_ast.specs.Values.{Ty}
use Rattle.bg_kinds.specs.declared.kinds.ValueType.{ValueType}
use Rattle.bg_kinds.specs.Views.{ref_in}
use Rattle.bg_certtext.specs.declared.text.Value.{Value}
use Rattle.bg_certtext.specs.Views.{value_of}
use Rattle.bg_confirm.specs.Pairs.{each_fits}
use Rattle.bg_confirm.specs.Typed.{value_fits, values_fit}

abbrev pub kind_fits : List r.TypeName → ValueType → Value → Bool
kind_fits types w x = value_fits types (ref_in w) (value_of x)

pub each_is : (types : List r.TypeName) (ws : List ValueType) (xs : List Value) → each_fits (kind_fits types) ws xs ≡ values_fit types (map ref_in ws) (map value_of xs)
each_is types [] [] = refl
each_is types [] (x ∷ xs) = refl
each_is types (w ∷ ws) [] = refl
each_is types (w ∷ ws) (x ∷ xs) = ap (λ (b : Bool). kind_fits types w x && b) (each_is types ws xs)

fails_too : (b c : Bool) → c ≡ false → (b && c) ≡ false
fails_too true c h = h
fails_too false c h = refl

pub unlike : (types : List r.TypeName) (ws : List ValueType) (xs : List Value) → (length ws ≡ length xs → ⊥) → each_fits (kind_fits types) ws xs ≡ false
unlike types [] [] h = absurd (h refl)
unlike types [] (x ∷ xs) h = refl
unlike types (w ∷ ws) [] h = refl
unlike types (w ∷ ws) (x ∷ xs) h = fails_too (kind_fits types w x) (each_fits (kind_fits types) ws xs) (unlike types ws xs (λ e. h (ap suc e)))

-- one more of each
pub one_fits : (types : List r.TypeName) (ws : List ValueType) (xs : List Value) (k : ℕ) (w : ValueType) (d : Value) (b whole : Bool) → k < length ws → k < length xs → w ≡ get_or ws k w → b ≡ kind_fits types w (get_or xs k d) →
    each_fits (kind_fits types) (drop k ws) (drop k xs) ≡ whole → (b && each_fits (kind_fits types) (drop (k + 1) ws) (drop (k + 1) xs)) ≡ whole
one_fits types ws xs k w d b whole l m e is h =
    let us = drop_more ws k w l ∙ ap (λ (y : ValueType). y ∷ drop (k + 1) ws) (sym e) in
    ap (λ (c : Bool). c && each_fits (kind_fits types) (drop (k + 1) ws) (drop (k + 1) xs)) is
    ∙ (sym (ap (λ (u : List ValueType). each_fits (kind_fits types) u (drop k xs)) us
    ∙ ap (λ (v : List Value). each_fits (kind_fits types) (w ∷ drop (k + 1) ws) v) (drop_more xs k d m))
    ∙ h)

-- a value fits the type that a written one is
pub fits_at : (types : List r.TypeName) (t u : Ty) (x : Value) (b : Bool) → b ≡ value_fits types t (value_of x) → t ≡ u → b ≡ value_fits types u (value_of x)
fits_at types t u x b h e = h ∙ ap (λ (s : Ty). value_fits types s (value_of x)) e
