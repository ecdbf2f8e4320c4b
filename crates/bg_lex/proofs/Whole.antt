-- What the loop over a text rests on.
use Rattle.std.proofs.Common.{◌≡◌, ℕ, ◌<◌, ◌≤◌, List, [], ◌∷◌, ◌++◌, length, take, drop, Option, Some, refl, sym, ap, ◌∙◌, subst, arith, length-append}
use Rattle.std.proofs.lemmas.List.{take_at, drop_at, map-append}
use Rattle.bg_base.specs.declared.pos.Pos.{Pos}
use Rattle.bg_text.specs.declared.token.Kind.{Kind}
use Rattle.bg_text.specs.declared.token.Token.{Token}
use Rattle.bg_text.specs.Tokens.{Tok, view, views}
use Rattle.bg_text.specs.Pieces.{piece_of}
use Rattle.bg_text.specs.Text.{after_bytes, start}
use Rattle.bg_lex.specs.Fronts.{Found, Adds, piece_for}
use Rattle.bg_lex.proofs.Steps.{SoFar, so_far_more, so_far_end}

-- what is found has at least a byte
pub found_some : (bytes : List ℕ) (o : Option Kind) (n : ℕ) → Found bytes o n → 0 < n
found_some bytes o n f = by f.text f.len f.is_piece
  where
    by : (text : List ℕ) → length text ≡ n → piece_of text ≡ Some (piece_for o) → 0 < n
    by [] len p = absurd cc
    by (b ∷ text) len p = omega (arith, len)

pub found_fits : (bytes : List ℕ) (o : Option Kind) (n : ℕ) → Found bytes o n → n ≤ length bytes
found_fits bytes o n f =
    let size : length bytes ≡ length (f.text ++ f.after) = ap length f.cut in
    omega (arith, size, length-append f.text f.after, f.len)

found_text : (bytes : List ℕ) (o : Option Kind) (n : ℕ) (f : Found bytes o n) → f.text ≡ take n bytes
found_text bytes o n f = sym (ap (take n) f.cut ∙ take_at f.text f.after n f.len)

found_after : (bytes : List ℕ) (o : Option Kind) (n : ℕ) (f : Found bytes o n) → f.after ≡ drop n bytes
found_after bytes o n f = sym (ap (drop n) f.cut ∙ drop_at f.text f.after n f.len)

pub text_is_piece : (bytes text : List ℕ) (o : Option Kind) (n : ℕ) → Found bytes o n → text ≡ take n bytes → piece_of text ≡ Some (piece_for o)
text_is_piece bytes text o n f e = ap piece_of (e ∙ sym (found_text bytes o n f)) ∙ f.is_piece

-- one piece more, as the code holds it
pub one_more : (bytes rest text after : List ℕ) (ts us : List Tok) (at : Pos) (o : Option Kind) (n : ℕ) → SoFar bytes rest ts at → Found rest o n → text ≡ take n rest → after ≡ drop n rest → Adds o at text ts us → SoFar bytes after us (after_bytes text at)
one_more bytes rest text after ts us at o n s f e g a =
    let t : f.text ≡ text = found_text rest o n f ∙ sym e in
    let r : f.after ≡ after = found_after rest o n f ∙ sym g in
    let more = so_far_more bytes rest ts us at o n s f (subst (λ t. Adds o at t ts us) (sym t) a) in
    subst (λ t. SoFar bytes after us (after_bytes t at)) t (subst (λ r. SoFar bytes r us (after_bytes f.text at)) r more)

-- a token more in the code's list
pub token_more : (old new : List Token) (token : Token) (k : Kind) (text : List ℕ) (at : Pos) → new ≡ old ++ token ∷ [] → token.kind ≡ k → token.text.now ≡ text → token.pos ≡ at → Adds (Some k) at text (views old) (views new)
token_more old new token k text at e f g h = (view token, f, g, h, ap views e ∙ map-append view old (token ∷ []))

pub nil_of : (xs : List ℕ) → length xs ≡ 0 → xs ≡ []
nil_of [] h = refl
nil_of (x ∷ xs) h = absurd (omega (arith, h))

pub at_end : (bytes rest : List ℕ) (ts : List Tok) (at : Pos) → SoFar bytes rest ts at → length rest ≡ 0 → at ≡ after_bytes bytes start
at_end bytes rest ts at s h = so_far_end bytes ts at (subst (λ rest. SoFar bytes rest ts at) (nil_of rest h) s)
