-- What kind of piece bytes are, by their first byte.
use Rattle.std.proofs.Common.{◌≡◌, ℕ, Bool, true, false, ◌&&◌, ◌||◌, ◌==◌, not, if◌then◌else◌, List, [], ◌∷◌, length, refl, sym, ap, ◌∙◌, Option, Some, None}
use Rattle.std.specs.List.{list_all}
use Rattle.std.specs.Str.{bytes_eq}
use Rattle.std.proofs.lemmas.Bool.{eqb-true}
use Rattle.bg_text.specs.declared.token.Kind.TheVariants as kinds
use Rattle.bg_text.specs.Pieces.{Piece, Token, Layout, Reserved, is_digit, is_ident, is_space, is_closed, piece_of, when, number_of, value_from, word_of, named, keywords, reserved_words, is_one_of, is_bit_vector, is_quoted, or_else, comment_of, sign_of, signs}

-- no name, no number and no string
abbrev pub is_plain : Piece → Bool
is_plain (Token kinds.Name) = false
is_plain (Token kinds.Quoted) = false
is_plain (Token (kinds.Number z)) = false
is_plain _ = true

-- no number and no string
abbrev pub is_worded : Piece → Bool
is_worded (Token kinds.Quoted) = false
is_worded (Token (kinds.Number z)) = false
is_worded _ = true

abbrev all_entries : (Piece → Bool) → List (List ℕ × Piece) → Bool
all_entries P [] = true
all_entries P (entry ∷ rest) = P entry.1 && all_entries P rest

and_first : (a b : Bool) → (a && b) ≡ true → a ≡ true
and_first true b h = refl
and_first false b h = h

and_second : (a b : Bool) → (a && b) ≡ true → b ≡ true
and_second true b h = h
and_second false b h = absurd (let e : false ≡ true = h in cc)

pub when_true : (b : Bool) (p k : Piece) → when b p ≡ Some k → b ≡ true
when_true true p k h = refl
when_true false p k h = absurd (let e : None ≡ Some k = h in cc)

pub when_is : (b : Bool) (p k : Piece) → when b p ≡ Some k → p ≡ k
when_is true p k h = cc
when_is false p k h = absurd (let e : None ≡ Some k = h in cc)

named_by : (P : Piece → Bool) (t : Bool) (p q : Piece) → P p ≡ true → P q ≡ true → P (if t then p else q) ≡ true
named_by P true p q h k = h
named_by P false p q h k = k

named_among : (P : Piece → Bool) (table : List (List ℕ × Piece)) (word : List ℕ) (other : Piece) → all_entries P table ≡ true → P other ≡ true → P (named table word other) ≡ true
named_among P [] word other h k = k
named_among P (entry ∷ rest) word other h k =
    named_by P (bytes_eq word entry.0) entry.1 (named rest word other) (and_first (P entry.1) (all_entries P rest) h) (named_among P rest word other (and_second (P entry.1) (all_entries P rest) h) k)

sign_by : (P : Piece → Bool) (t : Bool) (p k : Piece) (o : Option Piece) → P p ≡ true → (o ≡ Some k → P k ≡ true) → (if t then Some p else o) ≡ Some k → P k ≡ true
sign_by P true p k o h g e = let same : p ≡ k = cc in ap P (sym same) ∙ h
sign_by P false p k o h g e = g e

sign_among : (P : Piece → Bool) (table : List (List ℕ × Piece)) (text : List ℕ) (k : Piece) → all_entries P table ≡ true → sign_of table text ≡ Some k → P k ≡ true
sign_among P [] text k h e = absurd (let x : None ≡ Some k = e in cc)
sign_among P (entry ∷ rest) text k h e =
    sign_by P (bytes_eq text entry.0) entry.1 k (sign_of rest text) (and_first (P entry.1) (all_entries P rest) h) (λ g. sign_among P rest text k (and_second (P entry.1) (all_entries P rest) h) g) e

word_is_worded : (w : List ℕ) → is_worded (word_of w) ≡ true
word_is_worded w = named_by is_worded (is_one_of reserved_words w || is_bit_vector w) (Reserved w) (named keywords w (Token kinds.Name)) refl (named_among is_worded keywords w (Token kinds.Name) refl refl)

or_else_by : (P : Piece → Bool) (o r : Option Piece) (k : Piece) → (o ≡ Some k → P k ≡ true) → (r ≡ Some k → P k ≡ true) → or_else o r ≡ Some k → P k ≡ true
or_else_by P None r k f g h = g h
or_else_by P (Some p) r k f g h = f h

layout_by : (b : Bool) (k : Piece) → when b Layout ≡ Some k → is_plain k ≡ true
layout_by b k h = ap is_plain (sym (when_is b Layout k h))

comment_by : (s t a b : Bool) (k : Piece) → (if s then when a Layout else (if t then when b Layout else None)) ≡ Some k → is_plain k ≡ true
comment_by true t a b k h = layout_by a k h
comment_by false true a b k h = layout_by b k h
comment_by false false a b k h = absurd (let x : None ≡ Some k = h in cc)

comment_plain : (bs : List ℕ) (k : Piece) → comment_of bs ≡ Some k → is_plain k ≡ true
comment_plain [] k h = absurd (let x : None ≡ Some k = h in cc)
comment_plain (b ∷ bs) k h = comment_by (b == 47) (b == 42) (list_all (λ c. not (c == 10)) bs) (is_closed 0 0 bs) k h

slash_by : (t : Bool) (bs : List ℕ) (k : Piece) → (if t then comment_of bs else None) ≡ Some k → is_plain k ≡ true
slash_by true bs k h = comment_plain bs k h
slash_by false bs k h = absurd (let x : None ≡ Some k = h in cc)

pub data Case (b : ℕ) (bs : List ℕ) (k : Piece) : Type 0 where
  a_layout : is_plain k ≡ true → Case b bs k
  a_number : (n : ℕ) → is_digit b ≡ true → k ≡ number_of n → Case b bs k
  a_word : is_ident b ≡ true → is_worded k ≡ true → Case b bs k
  a_string : b ≡ 34 → is_quoted false bs ≡ true → k ≡ Token kinds.Quoted → Case b bs k

case_by : (b : ℕ) (bs : List ℕ) (k : Piece) (s d i q : Bool) → s ≡ is_space b → d ≡ is_digit b → i ≡ is_ident b → q ≡ (b == 34)
    → (if s then when (length bs == 0) Layout else (if d then when (list_all is_digit bs) (number_of (value_from 0 (b ∷ bs))) else (if i then when (list_all is_ident bs) (word_of (b ∷ bs)) else (if q then when (is_quoted false bs) (Token kinds.Quoted) else or_else (if b == 47 then comment_of bs else None) (sign_of signs (b ∷ bs)))))) ≡ Some k
    → Case b bs k
case_by b bs k true d i q hs hd hi hq h = a_layout (layout_by (length bs == 0) k h)
case_by b bs k false true i q hs hd hi hq h = a_number (value_from 0 (b ∷ bs)) (sym hd) (sym (when_is (list_all is_digit bs) (number_of (value_from 0 (b ∷ bs))) k h))
case_by b bs k false false true q hs hd hi hq h = a_word (sym hi) (ap is_worded (sym (when_is (list_all is_ident bs) (word_of (b ∷ bs)) k h)) ∙ word_is_worded (b ∷ bs))
case_by b bs k false false false true hs hd hi hq h = a_string (eqb-true b 34 (sym hq)) (when_true (is_quoted false bs) (Token kinds.Quoted) k h) (sym (when_is (is_quoted false bs) (Token kinds.Quoted) k h))
case_by b bs k false false false false hs hd hi hq h = a_layout (or_else_by is_plain (if b == 47 then comment_of bs else None) (sign_of signs (b ∷ bs)) k (slash_by (b == 47) bs k) (sign_among is_plain signs (b ∷ bs) k refl) h)

pub case_of : (b : ℕ) (bs : List ℕ) (k : Piece) → piece_of (b ∷ bs) ≡ Some k → Case b bs k
case_of b bs k h = case_by b bs k (is_space b) (is_digit b) (is_ident b) (b == 34) refl refl refl refl h
