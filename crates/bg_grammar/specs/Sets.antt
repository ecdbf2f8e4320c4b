-- Sets of kinds of tokens.
use Rattle.std.specs.Prelude.{ℕ, List, [], ◌∷◌, Bool, true, false, ◌==◌, ◌&&◌, ◌||◌, not}
use Rattle.bg_text.specs.declared.token.Kind.{Kind}
use Rattle.bg_reader.specs.Kinds.{number}

abbrev pub has : List Kind → ℕ → Bool
has [] n = false
has (k ∷ ks) n = n == number k || has ks n

-- the kind is one of these
abbrev pub is_in : List Kind → Kind → Bool
is_in ks k = has ks (number k)

-- each of the first is one of the second
abbrev pub within : List Kind → List Kind → Bool
within [] ks = true
within (j ∷ js) ks = is_in ks j && within js ks

-- none of the first is one of the second
abbrev pub apart : List Kind → List Kind → Bool
apart [] ks = true
apart (j ∷ js) ks = not (is_in ks j) && apart js ks
