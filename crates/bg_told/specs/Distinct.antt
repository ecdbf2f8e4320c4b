-- When texts of values tell the values apart.
use Rattle.std.specs.Prelude.{◌≡◌, ℕ, ℤ, Bool, true, not, ◌&&◌, List, [], ◌∷◌, Some, slice_get}
use Rattle.std.specs.List.{list_all}
use Rattle.bg_base.specs.Exact.{fits}
use Rattle.bg_text.specs.declared.token.Kind.TheVariants as kinds
use Rattle.bg_text.specs.Pieces.{Token, piece_of, is_digit}
use Rattle.bg_ast.specs.Values.{Val, Num, Truth, Element, Default, Entry}

-- types have names of a text
abbrev pub HaveNames : List (List ℕ) → Type 0
HaveNames types =
    (t : ℕ) (name : List ℕ) → slice_get types t ≡ Some name → piece_of name ≡ Some (Token kinds.Name)

-- each number of a value has 128 bits
abbrev pub fits_in : Val → Bool
fits_in (Num z) = fits z
fits_in (Truth b) = true
fits_in (Element t z) = fits z
fits_in (Default d) = fits_in d
fits_in (Entry k v m) = list_all fits k && (fits_in v && fits_in m)

-- where this comes next, a number is at its end
abbrev pub ends : List ℕ → Bool
ends [] = true
ends (b ∷ bs) = not (is_digit b)
