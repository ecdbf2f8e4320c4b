-- A piece is the longest one at its place, where no longer one can begin as it does and go on as what stands behind it.
use Rattle.std.proofs.Common.{◌≡◌, ℕ, ◌≤◌, Bool, true, false, ◌&&◌, ◌||◌, ◌==◌, not, if◌then◌else◌, List, [], ◌∷◌, ◌++◌, length, refl, sym, ap, ◌∙◌, subst, arith, Option, Some, None, ◌⊎◌, inl, inr}
use Rattle.std.specs.List.{list_all}
use Rattle.std.proofs.Math.Dec.{eqb-suc-zero}
use Rattle.bg_text.specs.declared.token.Kind.TheVariants as kinds
use Rattle.bg_text.specs.Pieces.{Piece, Token, Layout, is_digit, is_ident, is_space, piece_of, when, number_of, value_from, word_of, is_quoted}
use Rattle.bg_text.specs.Text.{IsPiece, IsLongest}

-- what a longer beginning of a text goes on with
record Longer (p q rest : List ℕ) : Type 0 where
  byte : ℕ
  more : List ℕ
  after : List ℕ
  goes_on : rest ≡ byte ∷ after
  is : q ≡ p ++ byte ∷ more

longer_by : (a b : ℕ) (p q rest : List ℕ) → a ≡ b → Longer p q rest → Longer (a ∷ p) (b ∷ q) rest
longer_by a b p q rest e l = record { byte = l.byte; more = l.more; after = l.after; goes_on = l.goes_on; is = ap (λ x. b ∷ x) l.is ∙ ap (λ x. x ∷ (p ++ l.byte ∷ l.more)) (sym e) }

compared : (p rest q r : List ℕ) → p ++ rest ≡ q ++ r → (length q ≤ length p) ⊎ Longer p q rest
compared [] rest [] r h = inl (omega arith)
compared [] rest (c ∷ q) r h = inr record { byte = c; more = q; after = q ++ r; goes_on = h; is = refl }
compared (a ∷ p) rest [] r h = inl (omega arith)
compared (a ∷ p) rest (b ∷ q) r h =
    let e : a ≡ b = cc in
    let t : p ++ rest ≡ q ++ r = cc in
    elim (compared p rest q r t) [
      | inl le ↦ inl (omega (arith, le))
      | inr l ↦ inr (longer_by a b p q rest e l)
    ]

-- the piece does not go on with what stands behind it
unfoldable pub Ends : List ℕ → List ℕ → Type 0
Ends p rest = (c : ℕ) (s t : List ℕ) → rest ≡ c ∷ t → IsPiece (p ++ c ∷ s) → ⊥

pub longest_from : (p rest : List ℕ) → Ends p rest → IsLongest p (p ++ rest)
unfolding Ends
longest_from p rest ends q r h i = elim (compared p rest q r h) [
  | inl le ↦ le
  | inr l ↦ absurd (ends l.byte l.more l.after l.goes_on (subst IsPiece l.is i))
]

not_empty : (bs : List ℕ) (c : ℕ) (s : List ℕ) → (length (bs ++ c ∷ s) == 0) ≡ false
not_empty [] c s = eqb-suc-zero (length s)
not_empty (b ∷ bs) c s = eqb-suc-zero (length (bs ++ c ∷ s))

and_false : (a b : Bool) → b ≡ false → (a && b) ≡ false
and_false true b h = h
and_false false b h = refl

all_stops : (p : ℕ → Bool) (bs : List ℕ) (c : ℕ) (s : List ℕ) → p c ≡ false → list_all p (bs ++ c ∷ s) ≡ false
all_stops p [] c s h = rw h refl
all_stops p (b ∷ bs) c s h = and_false (p b) (list_all p (bs ++ c ∷ s)) (all_stops p bs c s h)

when_not : (b : Bool) (p : Piece) → b ≡ false → when b p ≡ None
when_not b p h = rw h refl

none_by : (s d i : Bool) (x y z w : Option Piece) → i ≡ true → x ≡ None → y ≡ None → z ≡ None → (if s then x else (if d then y else (if i then z else w))) ≡ None
none_by true d i x y z w h hx hy hz = hx
none_by false true i x y z w h hx hy hz = hy
none_by false false true x y z w h hx hy hz = hz
none_by false false false x y z w h hx hy hz = absurd (let e : false ≡ true = h in cc)

or_right : (a : Bool) → (a || true) ≡ true
or_right true = refl
or_right false = refl

pub digit_ident : (b : ℕ) → is_digit b ≡ true → is_ident b ≡ true
unfolding is_ident
digit_ident b h = rw (h, or_right) refl

not_digit : (b : ℕ) → is_ident b ≡ false → is_digit b ≡ false
not_digit b h = by (is_digit b) refl
  where
    by : (d : Bool) → d ≡ is_digit b → d ≡ false
    by false e = refl
    by true e = absurd (let x : true ≡ false = sym (digit_ident b (sym e)) ∙ h in cc)

pub no_piece : (p : List ℕ) → piece_of p ≡ None → IsPiece p → ⊥
no_piece p h i = let e : None ≡ Some i.0 = sym h ∙ i.1 in absurd cc

-- a word, or a number
pub word_ends : (b : ℕ) (bs : List ℕ) (c : ℕ) (s : List ℕ) → is_ident b ≡ true → is_ident c ≡ false → IsPiece (b ∷ (bs ++ c ∷ s)) → ⊥
word_ends b bs c s hb hc =
    no_piece (b ∷ (bs ++ c ∷ s))
    (none_by (is_space b) (is_digit b) (is_ident b) (when (length (bs ++ c ∷ s) == 0) Layout) (when (list_all is_digit (bs ++ c ∷ s)) (number_of (value_from 0 (b ∷ (bs ++ c ∷ s))))) (when (list_all is_ident (bs ++ c ∷ s)) (word_of (b ∷ (bs ++ c ∷ s)))) _ hb
    (when_not (length (bs ++ c ∷ s) == 0) Layout (not_empty bs c s))
    (when_not (list_all is_digit (bs ++ c ∷ s)) (number_of (value_from 0 (b ∷ (bs ++ c ∷ s)))) (all_stops is_digit bs c s (not_digit c hc)))
    (when_not (list_all is_ident (bs ++ c ∷ s)) (word_of (b ∷ (bs ++ c ∷ s))) (all_stops is_ident bs c s hc)))

quoted_by : (t u v : Bool) (bs more : List ℕ) → ((length bs == 0) ≡ true → (length more == 0) ≡ false) → (is_quoted true bs ≡ true → is_quoted true more ≡ false) → (is_quoted false bs ≡ true → is_quoted false more ≡ false)
    → (if t then length bs == 0 else (if u then is_quoted true bs else v && is_quoted false bs)) ≡ true → (if t then length more == 0 else (if u then is_quoted true more else v && is_quoted false more)) ≡ false
quoted_by true u v bs more f g h e = f e
quoted_by false true v bs more f g h e = g e
quoted_by false false true bs more f g h e = h e
quoted_by false false false bs more f g h e = refl

escaped_by : (v : Bool) (bs more : List ℕ) → (is_quoted false bs ≡ true → is_quoted false more ≡ false) → (v && is_quoted false bs) ≡ true → (v && is_quoted false more) ≡ false
escaped_by true bs more h e = h e
escaped_by false bs more h e = refl

-- a string is over at its last quote
quoted_stops : (escaped : Bool) (bs : List ℕ) (c : ℕ) (s : List ℕ) → is_quoted escaped bs ≡ true → is_quoted escaped (bs ++ c ∷ s) ≡ false
quoted_stops true [] c s h = absurd (let e : false ≡ true = h in cc)
quoted_stops false [] c s h = absurd (let e : false ≡ true = h in cc)
quoted_stops true (b ∷ bs) c s h = escaped_by (not (b == 10)) bs (bs ++ c ∷ s) (quoted_stops false bs c s) h
quoted_stops false (b ∷ bs) c s h = quoted_by (b == 34) (b == 92) (not (b == 10)) bs (bs ++ c ∷ s) (λ e. not_empty bs c s) (quoted_stops true bs c s) (quoted_stops false bs c s) h

pub string_ends : (bs : List ℕ) (c : ℕ) (s : List ℕ) → is_quoted false bs ≡ true → IsPiece (34 ∷ (bs ++ c ∷ s)) → ⊥
unfolding is_space is_digit is_ident
string_ends bs c s h = no_piece (34 ∷ (bs ++ c ∷ s)) (when_not (is_quoted false (bs ++ c ∷ s)) (Token kinds.Quoted) (quoted_stops false bs c s h))

pub space_ends : (c : ℕ) (s : List ℕ) → IsPiece (32 ∷ c ∷ s) → ⊥
unfolding is_space
space_ends c s = no_piece (32 ∷ c ∷ s) (when_not (length (c ∷ s) == 0) Layout (not_empty [] c s))

pub newline_ends : (c : ℕ) (s : List ℕ) → IsPiece (10 ∷ c ∷ s) → ⊥
unfolding is_space
newline_ends c s = no_piece (10 ∷ c ∷ s) (when_not (length (c ∷ s) == 0) Layout (not_empty [] c s))
