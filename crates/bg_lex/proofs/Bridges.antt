-- What the code's fronts rest on, with what the code holds named apart.
use Rattle.std.proofs.Common.{◌≡◌, ℕ, ◌<◌, List, length, take, drop, get_or, true, false, Some, None, sym, ap, ◌∙◌, subst, arith, ◌-◌, length-drop}
use Rattle.std.specs.Prelude.{codes}
use Rattle.std.proofs.lemmas.List.{take_all}
use Rattle.bg_text.specs.declared.token.Kind.{Kind}
use Rattle.bg_text.specs.Pieces.{is_space, is_digit, is_ident, number_of, value_from, TooBig, Token}
use Rattle.bg_text.specs.Text.{begins_ident, Stands, NumberTooBig, Unsupported}
use Rattle.bg_lex.specs.Bytes.{digits_in, word_in}
use Rattle.bg_lex.specs.Words.{word_kind}
use Rattle.bg_lex.specs.Fronts.{Found}
use Rattle.bg_lex.proofs.Runs.{number_found, number_big, number_unsupported, word_found, word_reserved}

module _ (bytes digits after : List ℕ) (n : ℕ) (some : 0 < length bytes) (digit : is_digit (get_or bytes 0 0) ≡ true) (len : n ≡ digits_in bytes) (front : digits ≡ take n bytes) (back : after ≡ drop n bytes) where
  pub a_number : (k : Kind) → begins_ident after ≡ false → number_of (value_from 0 digits) ≡ Token k → Found bytes (Some k) n
  a_number k e v =
      subst (Found bytes (Some k)) (sym len)
      (number_found bytes k some digit (ap (λ n. begins_ident (drop n bytes)) (sym len) ∙ (ap begins_ident (sym back) ∙ e))
      (ap (λ n. number_of (value_from 0 (take n bytes))) (sym len) ∙ (ap (λ l. number_of (value_from 0 l)) (sym front) ∙ v)))

  pub too_big : begins_ident after ≡ false → number_of (value_from 0 digits) ≡ TooBig → Stands bytes NumberTooBig
  too_big e v =
      number_big bytes some digit (ap (λ n. begins_ident (drop n bytes)) (sym len) ∙ (ap begins_ident (sym back) ∙ e))
      (ap (λ n. number_of (value_from 0 (take n bytes))) (sym len) ∙ (ap (λ l. number_of (value_from 0 l)) (sym front) ∙ v))

  pub no_number : (name : List ℕ) → name ≡ codes "number" → begins_ident after ≡ true → Stands bytes (Unsupported name)
  no_number name is e =
      subst (λ name. Stands bytes (Unsupported name)) (sym is) (number_unsupported bytes some digit (ap (λ n. begins_ident (drop n bytes)) (sym len) ∙ (ap begins_ident (sym back) ∙ e)))

module _ (bytes text : List ℕ) (n : ℕ) (some : 0 < length bytes) (space : is_space (get_or bytes 0 0) ≡ false) (digit : is_digit (get_or bytes 0 0) ≡ false) (ident : is_ident (get_or bytes 0 0) ≡ true) (len : n ≡ word_in bytes) (front : text ≡ take n bytes) where
  pub a_word : (k : Kind) → word_kind text ≡ Some k → Found bytes (Some k) n
  a_word k e =
      subst (Found bytes (Some k)) (sym len) (word_found bytes k some space digit ident (ap (λ n. word_kind (take n bytes)) (sym len) ∙ (ap word_kind (sym front) ∙ e)))

  pub no_word : word_kind text ≡ None → Stands bytes (Unsupported text)
  no_word e =
      let same : text ≡ take (word_in bytes) bytes = front ∙ ap (λ n. take n bytes) len in
      subst (λ name. Stands bytes (Unsupported name)) (sym same) (word_reserved bytes some space digit ident (ap word_kind (sym same) ∙ e))

-- what stands behind the first bytes, as the code takes it
pub behind : (n : ℕ) (bytes : List ℕ) → take (length bytes - n) (drop n bytes) ≡ drop n bytes
behind n bytes = take_all (length bytes - n) (drop n bytes) (omega (arith, length-drop n bytes))
