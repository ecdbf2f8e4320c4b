-- There are no more tokens than bytes.
use Rattle.std.proofs.Common.{◌≡◌, ◌≤◌, ℕ, suc, List, [], ◌∷◌, ◌++◌, length, Bool, true, false, Option, Some, None, ◌+◌, refl, ap, length-append, arith}
use Rattle.bg_base.specs.declared.pos.Pos.{Pos}
use Rattle.bg_text.specs.Tokens.{Tok, views}
use Rattle.bg_text.specs.declared.token.Token as code
use Rattle.bg_text.specs.Pieces.{Piece, Layout, Token, Reserved, TooBig, piece_of}
use Rattle.bg_text.specs.Text.{Text, Cut, Have, HaveBy, after_bytes, start, starts_ident}

is_there : Option Piece → Bool
is_there None = false
is_there (Some p) = true

none_some : (p : Piece) → None ≡ Some p → ⊥
unfolding is_there
none_some p e = let k : false ≡ true = ap is_there e in absurd (cc)

cut_length : (ps : List (List ℕ)) (bytes rest : List ℕ) → Cut ps bytes rest → length ps ≤ length bytes
cut_length [] bytes rest h = omega arith
cut_length ([] ∷ ps) bytes rest h = absurd (none_some h.2.0 h.2.1)
cut_length ((b ∷ p) ∷ ps) bytes rest h =
    let e : length bytes ≡ length ((b ∷ p) ++ h.0) = ap length h.1 in
    let l : length ((b ∷ p) ++ h.0) ≡ suc (length (p ++ h.0)) = refl in
    let k : length (p ++ h.0) ≡ length p + length h.0 = length-append p h.0 in
    omega (arith, e, l, k, cut_length ps h.0 rest h.4)

by_length : (pos : Pos) (p : List ℕ) (ident : Bool) (o : Option Piece) (More : List Tok → Type 0) (n : ℕ) → ((us : List Tok) → More us → length us ≤ n) → (ts : List Tok) → HaveBy pos p ident o More ts → length ts ≤ suc n
by_length pos p ident (Some Layout) More n f ts h = omega (arith, f ts h)
by_length pos p ident (Some (Token k)) More n f ts h =
    let e : length ts ≡ suc (length h.1) = ap length h.2 in
    omega (arith, e, f h.1 h.7)
by_length pos p ident (Some (Reserved name)) More n f ts h = absurd h
by_length pos p ident (Some TooBig) More n f ts h = absurd h
by_length pos p ident None More n f ts h = absurd h

have_length : (pos : Pos) (ps : List (List ℕ)) (rest : List ℕ) (ts : List Tok) → Have pos ps rest ts → length ts ≤ length ps
have_length pos [] rest ts h = let e : length ts ≡ 0 = ap length h in omega (arith, e)
have_length pos (p ∷ ps) rest ts h = by_length pos p (starts_ident ps rest) (piece_of p) (Have (after_bytes p pos) ps rest) (length ps) (λ us k. have_length (after_bytes p pos) ps rest us k) ts h

pub tokens_are_few : (bytes : List ℕ) (ts : List Tok) → Text bytes ts → length ts ≤ length bytes
tokens_are_few bytes ts h = omega (arith, cut_length h.0 bytes [] h.1, have_length start h.0 [] ts h.2)

views_length : (items : List code.Token) → length (views items) ≡ length items
views_length [] = refl
views_length (t ∷ items) = ap suc (views_length items)

pub items_are_few : (bytes : List ℕ) (items : List code.Token) → Text bytes (views items) → length items ≤ length bytes
items_are_few bytes items h = omega (arith, views_length items, tokens_are_few bytes (views items) h)
