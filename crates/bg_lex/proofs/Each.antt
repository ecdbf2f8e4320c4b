-- Each text holds tokens or is refused.
use Rattle.std.proofs.Common.{◌≡◌, ℕ, zero, suc, ◌+◌, ◌-◌, ◌^◌, ◌<◌, ◌≤◌, List, [], ◌∷◌, ◌++◌, length, take, drop, get_or, Bool, true, false, Option, Some, None, refl, ap, arith, ◌⊎◌, inl, inr, length-append}
use Rattle.std.specs.Prelude.{◌==◌, if◌then◌else◌, nat_le, pos, codes}
use Rattle.std.proofs.lemmas.Bool.{eqb-true, eqb-false, leb-true, leb-false}
use Rattle.bg_base.specs.declared.pos.Pos.{Pos}
use Rattle.bg_text.specs.declared.token.Kind.{Kind}
use Rattle.bg_text.specs.declared.token.Kind.TheVariants as kinds
use Rattle.bg_text.specs.Tokens.{Tok}
use Rattle.bg_text.specs.Pieces.{Token, TooBig, piece_of, is_space, is_digit, is_ident, value_from}
use Rattle.bg_text.specs.Text.{Text, Refused, Fault, Stands, BadByte, OpenComment, NumberTooBig, Unsupported, begins_ident, after_bytes, start}
use Rattle.bg_lex.specs.declared.sign.Sign.{Sign}
use Rattle.bg_lex.specs.Bytes.{digits_in, word_in, line_in}
use Rattle.bg_lex.specs.Words.{word_kind}
use Rattle.bg_lex.specs.Signs.{sign_at}
use Rattle.bg_lex.specs.Ends.{quote_end, comment_end}
use Rattle.bg_lex.specs.Fronts.{Found, Adds, piece_for}
use Rattle.bg_lex.proofs.Runs.{space_found, number_found, number_big, number_unsupported, word_found, word_reserved}
use Rattle.bg_lex.proofs.Quotes.{quote_found, quote_none}
use Rattle.bg_lex.proofs.Comments.{line_comment, star_comment, open_comment, lone_slash, opened}
use Rattle.bg_lex.proofs.Signs.{SignAt, SignIs}
use Rattle.bg_lex.proofs.SignTables.{sign_right}
use Rattle.bg_lex.proofs.Steps.{SoFar, at_start, so_far_more, so_far_text, so_far_refused}
use Rattle.bg_lex.proofs.Whole.{found_some}

data Front (bytes : List ℕ) : Type 0 where
  Piece : (o : Option Kind) (n : ℕ) → Found bytes o n → Front bytes
  Wrong : (fault : Fault) → Stands bytes fault → Front bytes

-- what stands in front of some bytes
module _ (bytes : List ℕ) (some : 0 < length bytes) where
  a_number : is_digit (get_or bytes 0 0) ≡ true → Front bytes
  a_number h = by (begins_ident (drop (digits_in bytes) bytes)) refl
    where
      fitting : begins_ident (drop (digits_in bytes) bytes) ≡ false → (c : Bool) → nat_le (value_from 0 (take (digits_in bytes) bytes)) (2 ^ 127 - 1) ≡ c → Front bytes
      fitting e true f = Piece (Some (kinds.Number (pos (value_from 0 (take (digits_in bytes) bytes))))) (digits_in bytes) (number_found bytes (kinds.Number (pos (value_from 0 (take (digits_in bytes) bytes)))) some h e (ap (λ (c : Bool). if c then Token (kinds.Number (pos (value_from 0 (take (digits_in bytes) bytes)))) else TooBig) f))
      fitting e false f = Wrong NumberTooBig (number_big bytes some h e (ap (λ (c : Bool). if c then Token (kinds.Number (pos (value_from 0 (take (digits_in bytes) bytes)))) else TooBig) f))

      by : (c : Bool) → begins_ident (drop (digits_in bytes) bytes) ≡ c → Front bytes
      by true e = Wrong (Unsupported (codes "number")) (number_unsupported bytes some h e)
      by false e = fitting e (nat_le (value_from 0 (take (digits_in bytes) bytes)) (2 ^ 127 - 1)) refl

  a_word : is_space (get_or bytes 0 0) ≡ false → is_digit (get_or bytes 0 0) ≡ false → is_ident (get_or bytes 0 0) ≡ true → Front bytes
  a_word s d h = by (word_kind (take (word_in bytes) bytes)) refl
    where
      by : (o : Option Kind) → word_kind (take (word_in bytes) bytes) ≡ o → Front bytes
      by (Some k) e = Piece (Some k) (word_in bytes) (word_found bytes k some s d h e)
      by None e = Wrong (Unsupported (take (word_in bytes) bytes)) (word_reserved bytes some s d h e)

  a_string : get_or bytes 0 0 ≡ 34 → Front bytes
  a_string h = by (quote_end 0 false (drop 1 bytes)) refl
    where
      by : (o : Option ℕ) → quote_end 0 false (drop 1 bytes) ≡ o → Front bytes
      by (Some n) e = Piece (Some kinds.Quoted) (n + 1) (quote_found bytes n some h e)
      by None e = Wrong BadByte (quote_none bytes some h e)

  a_comment : 2 ≤ length bytes → get_or bytes 0 0 ≡ 47 → get_or bytes 1 0 ≡ 42 → Front bytes
  a_comment long h k = by (comment_end 0 opened (drop 2 bytes)) refl
    where
      by : (o : Option ℕ) → comment_end 0 opened (drop 2 bytes) ≡ o → Front bytes
      by (Some n) e = Piece None (n + 2) (star_comment bytes n long h k e)
      by None e = Wrong OpenComment (open_comment bytes long h k e)

  a_slash : get_or bytes 0 0 ≡ 47 → Front bytes
  a_slash h = by (nat_le 2 (length bytes)) refl (get_or bytes 1 0 == 47) refl (get_or bytes 1 0 == 42) refl
    where
      by : (c : Bool) → nat_le 2 (length bytes) ≡ c → (x : Bool) → (get_or bytes 1 0 == 47) ≡ x → (y : Bool) → (get_or bytes 1 0 == 42) ≡ y → Front bytes
      by true l true e y f = Piece None (line_in (drop 2 bytes) + 2) (line_comment bytes (leb-true 2 (length bytes) l) h (eqb-true (get_or bytes 1 0) 47 e))
      by true l false e true f = a_comment (leb-true 2 (length bytes) l) h (eqb-true (get_or bytes 1 0) 42 f)
      by true l false e false f = Wrong (Unsupported (codes "/")) (lone_slash bytes (codes "/") some h refl (λ long. eqb-false (get_or bytes 1 0) 47 e) (λ long. eqb-false (get_or bytes 1 0) 42 f))
      by false l x e y f =
          let short : length bytes < 2 = leb-false 2 (length bytes) l in
          Wrong (Unsupported (codes "/")) (lone_slash bytes (codes "/") some h refl (λ long. absurd (omega (arith, short, long))) (λ long. absurd (omega (arith, short, long))))

  a_kind : (o : Option Kind) (n : ℕ) → SignIs bytes o n → Front bytes
  unfolding SignIs
  a_kind (Some k) n h = Piece (Some k) n h
  a_kind None n h = Wrong (Unsupported (take n bytes)) h

  a_sign : (o : Option Sign) → SignAt bytes o → Front bytes
  unfolding SignAt
  a_sign (Some s) h = a_kind s.kind s.len h
  a_sign None h = Wrong BadByte h

  front : Front bytes
  front = by (is_space (get_or bytes 0 0)) refl (is_digit (get_or bytes 0 0)) refl (is_ident (get_or bytes 0 0)) refl (get_or bytes 0 0 == 34) refl (get_or bytes 0 0 == 47) refl
    where
      by : (s : Bool) → is_space (get_or bytes 0 0) ≡ s → (d : Bool) → is_digit (get_or bytes 0 0) ≡ d → (i : Bool) → is_ident (get_or bytes 0 0) ≡ i → (q : Bool) → (get_or bytes 0 0 == 34) ≡ q → (c : Bool) → (get_or bytes 0 0 == 47) ≡ c → Front bytes
      by true s d e i f q g c h = Piece None 1 (space_found bytes some s)
      by false s true e i f q g c h = a_number e
      by false s false e true f q g c h = a_word s e f
      by false s false e false f true g c h = a_string (eqb-true (get_or bytes 0 0) 34 g)
      by false s false e false f false g true h = a_slash (eqb-true (get_or bytes 0 0) 47 h)
      by false s false e false f false g false h = a_sign (sign_at bytes) (sign_right bytes some s e f g h)

abbrev Answer : List ℕ → Type 0
Answer bytes = ((ts : List Tok) × Text bytes ts) ⊎ ((at : Pos) × (fault : Fault) × Refused bytes at fault)

added : (o : Option Kind) (at : Pos) (text : List ℕ) (ts : List Tok) → piece_of text ≡ Some (piece_for o) → (us : List Tok) × Adds o at text ts us
added None at text ts h = (ts, refl)
added (Some k) at text ts h = (ts ++ record { kind = k; text = text; pos = at; is_token = h } ∷ [], (record { kind = k; text = text; pos = at; is_token = h }, refl, refl, refl, refl))

-- on from a place
onward : (n : ℕ) (bytes rest : List ℕ) (ts : List Tok) (at : Pos) → length rest ≤ n → SoFar bytes rest ts at → Answer bytes
onward n bytes [] ts at le s = inl (ts, so_far_text bytes ts at s)
onward zero bytes (b ∷ rest) ts at le s = absurd (omega (arith, le))
onward (suc n) bytes (b ∷ rest) ts at le s = by (front (b ∷ rest) (omega arith)) (λ after us at. onward n bytes after us at)
  where
    by : Front (b ∷ rest) → ((after : List ℕ) (us : List Tok) (at : Pos) → length after ≤ n → SoFar bytes after us at → Answer bytes) → Answer bytes
    by (Wrong fault h) more = inr (at, fault, so_far_refused bytes (b ∷ rest) ts at fault s h)
    by (Piece o m f) more =
        let a = added o at f.text ts f.is_piece in
        let size : suc (length rest) ≡ length (f.text ++ f.after) = ap length f.cut in
        let some : 0 < m = found_some (b ∷ rest) o m f in
        more f.after a.0 (after_bytes f.text at) (omega (arith, size, length-append f.text f.after, f.len, some, le)) (so_far_more bytes (b ∷ rest) ts a.0 at o m s f a.1)

-- each text holds tokens or is refused
pub each_text : (bytes : List ℕ) → ((ts : List Tok) × Text bytes ts) ⊎ ((at : Pos) × (fault : Fault) × Refused bytes at fault)
each_text bytes = onward (length bytes) bytes bytes [] start (omega arith) (at_start bytes)
