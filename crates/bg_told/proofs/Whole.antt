-- Names in a text have no byte below that of a space.
use Rattle.std.proofs.Common.{◌≡◌, ℕ, ◌-◌, ◌^◌, ◌<◌, pos, Bool, true, false, ◌&&◌, ◌||◌, ◌==◌, not, if◌then◌else◌, cond, nat_le, List, [], ◌∷◌, filter, length, refl, sym, ap, ◌∙◌, Option, Some, None, arith}
use Rattle.std.specs.List.{list_all}
use Rattle.std.specs.Str.{bytes_eq}
use Rattle.std.proofs.lemmas.Bool.{and_parts, lt-leb, leb-false, ne_eqb}
use Rattle.bg_text.specs.declared.token.Kind.TheVariants as kinds
use Rattle.bg_text.specs.Pieces.{Piece, Token, Layout, TooBig, is_digit, is_ident, is_space, is_closed, piece_of, when, number_of, value_from, word_of, is_quoted, or_else, comment_of, sign_of, signs}
use Rattle.bg_told.specs.Lines.{is_printed}

-- ---- bytes of names

under : (m b : ℕ) → b < m → nat_le m b ≡ false
under m b h = lt-leb m b h

apart : (b v : ℕ) → b < v → (b == v) ≡ false
apart b v h = ne_eqb b v (λ e. omega (arith, e, h))

low_is_no_ident : (b : ℕ) → b < 32 → is_ident b ≡ false
unfolding is_ident is_digit
low_is_no_ident b h =
    rw (under 97 b (omega (arith, h)), under 65 b (omega (arith, h)), under 48 b (omega (arith, h)), apart b 39 (omega (arith, h)), apart b 126 (omega (arith, h)), apart b 35 (omega (arith, h)), apart b 36 (omega (arith, h)), apart b 94 (omega (arith, h)), apart b 95 (omega (arith, h)), apart b 46 (omega (arith, h)), apart b 63 (omega (arith, h)), apart b 96 (omega (arith, h))) refl

ident_is_printed : (b : ℕ) → is_ident b ≡ true → is_printed b ≡ true
ident_is_printed b h = by (nat_le 32 b) refl
  where
    by : (t : Bool) → nat_le 32 b ≡ t → nat_le 32 b ≡ true
    by true e = e
    by false e = absurd (let x : true ≡ false = sym h ∙ low_is_no_ident b (leb-false 32 b e) in cc)

idents_are_printed : (bs : List ℕ) → list_all is_ident bs ≡ true → filter is_printed bs ≡ bs
idents_are_printed [] h = refl
idents_are_printed (b ∷ bs) h =
    let both = and_parts (is_ident b) (list_all is_ident bs) h in
    kept (is_printed b) (ident_is_printed b both.0) (idents_are_printed bs both.1)
  where
    kept : (t : Bool) → t ≡ true → filter is_printed bs ≡ bs → cond t (b ∷ filter is_printed bs) (filter is_printed bs) ≡ b ∷ bs
    kept true e r = ap (λ (l : List ℕ). b ∷ l) r
    kept false e r = absurd (let x : false ≡ true = e in cc)

-- ---- which pieces are names

-- no name
abbrev is_other : Piece → Bool
is_other (Token kinds.Name) = false
is_other _ = true

no_other : (k : Piece) → k ≡ Token kinds.Name → is_other k ≡ true → ⊥
no_other k e h = let x : false ≡ true = ap is_other (sym e) ∙ h in cc

abbrev name : Piece
name = Token kinds.Name

when_is : (t : Bool) (p : Piece) → when t p ≡ Some name → (t ≡ true) × (p ≡ name)
when_is true p h = let e : p ≡ name = cc in (refl, e)
when_is false p h = absurd (let x : None ≡ Some name = h in cc)

number_is_other : (t : Bool) (n : ℕ) → is_other (if t then Token (kinds.Number (pos n)) else TooBig) ≡ true
number_is_other true n = refl
number_is_other false n = refl

abbrev are_others : List (List ℕ × Piece) → Bool
are_others [] = true
are_others (e ∷ es) = is_other e.1 && are_others es

no_sign : (es : List (List ℕ × Piece)) (text : List ℕ) → are_others es ≡ true → sign_of es text ≡ Some name → ⊥
no_sign [] text h e = let x : None ≡ Some name = e in cc
no_sign (s ∷ es) text h e =
    let both = and_parts (is_other s.1) (are_others es) h in
    by (bytes_eq text s.0) both.0 (no_sign es text both.1) e
  where
    by : (t : Bool) → is_other s.1 ≡ true → (sign_of es text ≡ Some name → ⊥) → (if t then Some s.1 else sign_of es text) ≡ Some name → ⊥
    by true k rest g = let same : s.1 ≡ name = cc in no_other s.1 same k
    by false k rest g = rest g

no_layout : (t : Bool) → when t Layout ≡ Some name → ⊥
no_layout t h = no_other Layout (when_is t Layout h).1 refl

no_comment : (bs : List ℕ) → comment_of bs ≡ Some name → ⊥
no_comment [] h = let x : None ≡ Some name = h in cc
no_comment (b ∷ bs) h = by (b == 47) (b == 42) h
  where
    by : (s t : Bool) → (if s then when (list_all (λ c. not (c == 10)) bs) Layout else (if t then when (is_closed 0 0 bs) Layout else None)) ≡ Some name → ⊥
    by true t g = no_layout (list_all (λ c. not (c == 10)) bs) g
    by false true g = no_layout (is_closed 0 0 bs) g
    by false false g = let x : None ≡ Some name = g in cc

neither : (o r : Option Piece) → (o ≡ Some name → ⊥) → (r ≡ Some name → ⊥) → or_else o r ≡ Some name → ⊥
neither None r f g h = g h
neither (Some p) r f g h = f h

no_sign_at : (t : Bool) (b : ℕ) (bs : List ℕ) → or_else (if t then comment_of bs else None) (sign_of signs (b ∷ bs)) ≡ Some name → ⊥
no_sign_at true b bs h = neither (comment_of bs) (sign_of signs (b ∷ bs)) (no_comment bs) (no_sign signs (b ∷ bs) refl) h
no_sign_at false b bs h = no_sign signs (b ∷ bs) refl h

-- all bytes of a name are those of names
idents : (b : ℕ) (bs : List ℕ) (s d i q : Bool) → i ≡ is_ident b
    → (if s then when (length bs == 0) Layout else (if d then when (list_all is_digit bs) (number_of (value_from 0 (b ∷ bs))) else (if i then when (list_all is_ident bs) (word_of (b ∷ bs)) else (if q then when (is_quoted false bs) (Token kinds.Quoted) else or_else (if b == 47 then comment_of bs else None) (sign_of signs (b ∷ bs)))))) ≡ Some name
    → list_all is_ident (b ∷ bs) ≡ true
idents b bs true d i q hi h = absurd (no_layout (length bs == 0) h)
idents b bs false true i q hi h =
    let n = value_from 0 (b ∷ bs) in
    absurd (no_other (number_of n) (when_is (list_all is_digit bs) (number_of n) h).1 (number_is_other (nat_le n (2 ^ 127 - 1)) n))
idents b bs false false true q hi h =
    ap (λ (t : Bool). t && list_all is_ident bs) (sym hi) ∙ (when_is (list_all is_ident bs) (word_of (b ∷ bs)) h).0
idents b bs false false false true hi h =
    absurd (no_other (Token kinds.Quoted) (when_is (is_quoted false bs) (Token kinds.Quoted) h).1 refl)
idents b bs false false false false hi h = absurd (no_sign_at (b == 47) b bs h)

pub name_bytes : (word : List ℕ) → piece_of word ≡ Some name → list_all is_ident word ≡ true
name_bytes [] h = refl
name_bytes (b ∷ bs) h = idents b bs (is_space b) (is_digit b) (is_ident b) (b == 34) refl h

pub names_are_printed : (word : List ℕ) → piece_of word ≡ Some (Token kinds.Name) → filter is_printed word ≡ word
names_are_printed [] h = absurd (let x : None ≡ Some name = h in cc)
names_are_printed (b ∷ bs) h = idents_are_printed (b ∷ bs) (name_bytes (b ∷ bs) h)
