-- Signs, looked up by their first byte, the longer ones first.
use Rattle.std.specs.Prelude.{ℕ, List, [], ◌∷◌, length, take, Bool, Option, Some, None, ◌==◌, if◌then◌else◌, codes, bytes_eq}
use Rattle.bg_text.specs.declared.token.Kind.{Kind}
use Rattle.bg_text.specs.declared.token.Kind.TheVariants as kinds
use Rattle.bg_lex.specs.declared.sign.Sign.{Sign}

-- the bytes begin with these
abbrev pub is_front : List ℕ → List ℕ → Bool
is_front front bytes = bytes_eq front (take (length front) bytes)

-- the first of these that stands in front, or the other; a sign without a kind is reserved
abbrev pub sign_in : List (List ℕ × Option Kind) → Option Sign → List ℕ → Option Sign
sign_in [] other bytes = other
sign_in (entry ∷ rest) other bytes = if is_front entry.0 bytes then Some (record { kind = entry.1; len = length entry.0 }) else sign_in rest other bytes

-- a sign of one byte
abbrev pub one : Option Kind → Option Sign
one kind = Some (record { kind = kind; len = 1 })

abbrev pub colon_signs : List (List ℕ × Option Kind)
colon_signs = (codes ":=", Some kinds.Becomes) ∷ (codes "::", None) ∷ []

abbrev pub equals_signs : List (List ℕ × Option Kind)
equals_signs = (codes "==>", Some kinds.Implies) ∷ (codes "==", Some kinds.Equal) ∷ []

abbrev pub less_signs : List (List ℕ × Option Kind)
less_signs = (codes "<==>", Some kinds.Iff) ∷ (codes "<==", Some kinds.Explies) ∷ (codes "<=", Some kinds.AtMost) ∷ (codes "<:", None) ∷ []

abbrev pub greater_signs : List (List ℕ × Option Kind)
greater_signs = (codes ">=", Some kinds.AtLeast) ∷ []

abbrev pub bang_signs : List (List ℕ × Option Kind)
bang_signs = (codes "!=", Some kinds.Unequal) ∷ []

abbrev pub ampersand_signs : List (List ℕ × Option Kind)
ampersand_signs = (codes "&&", Some kinds.And) ∷ []

abbrev pub bar_signs : List (List ℕ × Option Kind)
bar_signs = (codes "||", Some kinds.Or) ∷ []

abbrev pub plus_signs : List (List ℕ × Option Kind)
plus_signs = (codes "++", None) ∷ []

abbrev pub star_signs : List (List ℕ × Option Kind)
star_signs = (codes "**", None) ∷ []

-- the longest sign in front
abbrev pub sign_at : List ℕ → Option Sign
sign_at [] = None
sign_at (b ∷ bs) =
    if b == 40 then one (Some kinds.Open) else (
    if b == 41 then one (Some kinds.Close) else (
    if b == 91 then one (Some kinds.OpenBracket) else (
    if b == 93 then one (Some kinds.CloseBracket) else (
    if b == 123 then one (Some kinds.OpenBrace) else (
    if b == 125 then one (Some kinds.CloseBrace) else (
    if b == 44 then one (Some kinds.Comma) else (
    if b == 59 then one (Some kinds.Semicolon) else (
    if b == 45 then one (Some kinds.Minus) else (
    if b == 37 then one None else (
    if b == 92 then one None else (
    if b == 58 then sign_in colon_signs (one (Some kinds.Colon)) (b ∷ bs) else (
    if b == 61 then sign_in equals_signs (one (Some kinds.Sets)) (b ∷ bs) else (
    if b == 60 then sign_in less_signs (one (Some kinds.Less)) (b ∷ bs) else (
    if b == 62 then sign_in greater_signs (one (Some kinds.Greater)) (b ∷ bs) else (
    if b == 33 then sign_in bang_signs (one (Some kinds.Not)) (b ∷ bs) else (
    if b == 38 then sign_in ampersand_signs None (b ∷ bs) else (
    if b == 124 then sign_in bar_signs None (b ∷ bs) else (
    if b == 43 then sign_in plus_signs (one (Some kinds.Plus)) (b ∷ bs) else (
    if b == 42 then sign_in star_signs (one (Some kinds.Times)) (b ∷ bs) else (
    None))))))))))))))))))))
