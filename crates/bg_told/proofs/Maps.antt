-- Texts of maps.
use Rattle.std.proofs.Common.{◌≡◌, ℕ, List, [], ◌∷◌, ◌++◌, map, flat_map, codes, refl, sym, ap, ◌∙◌, append_assoc, Vec, Box, Global}
use Rattle.bg_ast.specs.Values.{Ty, Val, Default, result_of}
use Rattle.bg_scalar.specs.declared.value.Value.{Value}
use Rattle.bg_scalar.specs.declared.value.Value.TheVariants as value
use Rattle.bg_scalar.specs.declared.value.Entry as kept
use Rattle.bg_scalar.specs.Values.{value_of}
use Rattle.bg_scalar.specs.Maps.{entry_in, with_entries}
use Rattle.bg_scalar.proofs.Rows.{value_of-Map}
use Rattle.bg_told.specs.ValueTexts.{default_text, value_text, inside_text}
use Rattle.bg_told.specs.Entries.{entry_front}

-- where types have these names
module _ (types : List (List ℕ)) (t : Ty) where
  -- what stands behind the default's text
  abbrev default_in : Val → List ℕ
  default_in d = default_text (value_text types (result_of t) d)

  inside_is : (es : List kept.Entry) (d : Val) → inside_text types t (with_entries (map entry_in es) (Default d)) ≡ flat_map (entry_front types t) es ++ default_in d
  inside_is [] d = refl
  inside_is (e ∷ es) d =
      ap (λ (x : List ℕ). entry_front types t e ++ x) (inside_is es d)
      ∙ sym (append_assoc (entry_front types t e) (flat_map (entry_front types t) es) (default_in d))

  map_text_is : (es : List kept.Entry) (d : Val) → value_text types t (with_entries (map entry_in es) (Default d)) ≡ codes "[" ++ (flat_map (entry_front types t) es ++ default_in d)
  map_text_is [] d = refl
  map_text_is (e ∷ es) d = ap (λ (x : List ℕ). codes "[" ++ x) (inside_is (e ∷ es) d)

  -- a map's entries and its default are put one behind the other
  pub map_put : (es : Vec kept.Entry Global) (d : Box Value Global) (v : Value) (old one new : List ℕ) (entries : List kept.Entry) (default : Value) → v ≡ value.Map es d → entries ≡ es.items → default ≡ d.value → one ≡ old ++ (91 ∷ flat_map (entry_front types t) entries) → new ≡ one ++ default_in (value_of default) → new ≡ old ++ value_text types t (value_of v)
  map_put es d v old one new entries default is are its a b =
      b
      ∙ (ap (λ (x : List ℕ). x ++ default_in (value_of default)) a
      ∙ (append_assoc old (91 ∷ flat_map (entry_front types t) entries) (default_in (value_of default))
      ∙ (ap (λ (l : List kept.Entry). old ++ (codes "[" ++ (flat_map (entry_front types t) l ++ default_in (value_of default)))) are
      ∙ (ap (λ (x : Value). old ++ (codes "[" ++ (flat_map (entry_front types t) es.items ++ default_in (value_of x)))) its
      ∙ (ap (λ (x : List ℕ). old ++ x) (sym (map_text_is es.items (value_of d.value)))
      ∙ (ap (λ (m : Val). old ++ value_text types t m) (sym (value_of-Map es d))
      ∙ ap (λ (x : Value). old ++ value_text types t (value_of x)) (sym is)))))))
