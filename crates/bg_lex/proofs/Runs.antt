-- A run of bytes of one class is the longest piece where it stands: numbers and words.
use Rattle.std.proofs.Common.{◌≡◌, ℕ, suc, ◌≤◌, ◌<◌, List, [], ◌∷◌, ◌++◌, length, take, drop, get_or, Bool, true, false, Some, None, refl, sym, ap, ◌∙◌, subst, arith, cond}
use Rattle.std.specs.Prelude.{take_while, ◌==◌, codes, if◌then◌else◌, nat_le, pos, ◌^◌, ◌-◌}
use Rattle.std.specs.List.{list_all}
use Rattle.std.proofs.lemmas.Bool.{eqb-true, leb-true, ne_eqb, and_parts}
use Rattle.std.proofs.lemmas.List.{take-append-drop}
use Rattle.std.proofs.lemmas.List.Sums.{take_while-cons}
use Rattle.bg_text.specs.declared.token.Kind.{Kind}
use Rattle.bg_text.specs.declared.token.Kind.TheVariants as kinds
use Rattle.bg_text.specs.Pieces.{Piece, Layout, Token, Reserved, TooBig, piece_of, when, word_of, number_of, value_from, is_ident, is_space, is_digit}
use Rattle.bg_text.specs.Text.{IsLongest, begins_ident, opens_comment, Stands, Bad, Fault, NumberTooBig, Unsupported}
use Rattle.bg_lex.specs.Bytes.{digits_in, word_in}
use Rattle.bg_lex.specs.Words.{word_kind}
use Rattle.bg_lex.specs.Fronts.{Found}
use Rattle.bg_lex.proofs.Words.{word_piece, word_kind_is}

all_by : (f : ℕ → Bool) (b : ℕ) (c : Bool) (t : List ℕ) → f b ≡ c → list_all f t ≡ true → list_all f (cond c (b ∷ t) []) ≡ true
all_by f b true t e h = rw (e, h) refl
all_by f b false t e h = refl

pub all_take : (f : ℕ → Bool) (bs : List ℕ) → list_all f (take_while f bs) ≡ true
all_take f [] = refl
all_take f (b ∷ bs) = subst (λ l. list_all f l ≡ true) (sym (take_while-cons f b bs)) (all_by f b (f b) (take_while f bs) refl (all_take f bs))

-- a front of which each byte is so is no longer than what is taken
pub within : (f : ℕ → Bool) (q r : List ℕ) → list_all f q ≡ true → length q ≤ length (take_while f (q ++ r))
within f [] r h = omega arith
within f (b ∷ q) r h =
    let first : f b ≡ true = (and_parts (f b) (list_all f q) h).0 in
    let more = within f q r (and_parts (f b) (list_all f q) h).1 in
    subst (λ l. suc (length q) ≤ length l) (sym (take_while-cons f b (q ++ r))) (subst (λ c. suc (length q) ≤ length (cond c (b ∷ take_while f (q ++ r)) [])) (sym first) (omega (arith, more)))

taken_by : (b : ℕ) (bs t : List ℕ) (c : Bool) → take (length t) bs ≡ t → take (length (cond c (b ∷ t) [])) (b ∷ bs) ≡ cond c (b ∷ t) []
taken_by b bs t true h = ap (λ l. b ∷ l) h
taken_by b bs t false h = refl

pub taken : (f : ℕ → Bool) (bs : List ℕ) → take (length (take_while f bs)) bs ≡ take_while f bs
taken f [] = refl
taken f (b ∷ bs) = subst (λ l. take (length l) (b ∷ bs) ≡ l) (sym (take_while-cons f b bs)) (taken_by b bs (take_while f bs) (f b) (taken f bs))

pub head_is : (ℕ → Bool) → List ℕ → Bool
head_is f [] = false
head_is f (b ∷ bs) = f b

stops_by : (f : ℕ → Bool) (b : ℕ) (bs t : List ℕ) (c : Bool) → f b ≡ c → head_is f (drop (length t) bs) ≡ false → head_is f (drop (length (cond c (b ∷ t) [])) (b ∷ bs)) ≡ false
unfolding head_is
stops_by f b bs t true e h = h
stops_by f b bs t false e h = e

stops : (f : ℕ → Bool) (bs : List ℕ) → head_is f (drop (length (take_while f bs)) bs) ≡ false
unfolding head_is
stops f [] = refl
stops f (b ∷ bs) = subst (λ l. head_is f (drop (length l) (b ∷ bs)) ≡ false) (sym (take_while-cons f b bs)) (stops_by f b bs (take_while f bs) (f b) refl (stops f bs))

pub when_some : (c : Bool) (p : Piece) (o : Piece) → when c p ≡ Some o → c ≡ true
when_some true p o h = refl
when_some false p o h = absurd cc

-- the first n bytes are a run, and the longest piece that stands there
pub record Run (f : ℕ → Bool) (P : List ℕ → Piece) (bytes : List ℕ) (n : ℕ) : Type 0 where
  pub cut : bytes ≡ take n bytes ++ drop n bytes
  pub len : length (take n bytes) ≡ n
  pub is_piece : piece_of (take n bytes) ≡ Some (P (take n bytes))
  pub longest : IsLongest (take n bytes) bytes
  pub stop : head_is f (drop n bytes) ≡ false

module _ (f : ℕ → Bool) (P : List ℕ → Piece) (b : ℕ) (bs : List ℕ) (first : f b ≡ true) (shape : (q : List ℕ) → piece_of (b ∷ q) ≡ when (list_all f q) (P (b ∷ q))) where
  run_is : take_while f (b ∷ bs) ≡ b ∷ take_while f bs
  run_is = take_while-cons f b bs ∙ rw first refl

  run_piece : piece_of (b ∷ take_while f bs) ≡ Some (P (b ∷ take_while f bs))
  run_piece = shape (take_while f bs) ∙ rw (all_take f bs) refl

  run_longest : IsLongest (b ∷ take_while f bs) (b ∷ bs)
  run_longest [] r e i = omega arith
  run_longest (c ∷ q) r e i =
      let first : b ≡ c = cc in
      let rest : bs ≡ q ++ r = cc in
      let p : when (list_all f q) (P (b ∷ q)) ≡ Some i.0 = sym (shape q) ∙ ap (λ x. piece_of (x ∷ q)) first ∙ i.1 in
      let le = within f q r (when_some (list_all f q) (P (b ∷ q)) i.0 p) in
      subst (λ l. suc (length q) ≤ suc (length (take_while f l))) (sym rest) (omega (arith, le))

  run_taken : take (length (take_while f (b ∷ bs))) (b ∷ bs) ≡ b ∷ take_while f bs
  run_taken = taken f (b ∷ bs) ∙ run_is

  pub run : Run f P (b ∷ bs) (length (take_while f (b ∷ bs)))
  run = record {
    cut = sym (take-append-drop (length (take_while f (b ∷ bs))) (b ∷ bs));
    len = ap length (taken f (b ∷ bs));
    is_piece = subst (λ l. piece_of l ≡ Some (P l)) (sym run_taken) run_piece;
    longest = subst (λ l. IsLongest l (b ∷ bs)) (sym run_taken) run_longest;
    stop = stops f (b ∷ bs);
  }

-- ---- the three runs

not_slash : (f : ℕ → Bool) (bytes : List ℕ) → f (get_or bytes 0 0) ≡ true → f 47 ≡ false → opens_comment bytes ≡ true → ⊥
not_slash f [] h e o = absurd cc
not_slash f (b ∷ []) h e o = absurd cc
not_slash f (b ∷ c ∷ bs) h e o =
    let is : b ≡ 47 = eqb-true b 47 (and_parts (b == 47) (c == 42) o).0 in
    let t : true ≡ false = sym h ∙ ap f is ∙ e in
    absurd cc

one_space : (b : ℕ) (q : List ℕ) → is_space b ≡ true → piece_of (b ∷ q) ≡ when (length q == 0) Layout
one_space b q h = rw h refl

pub space_found : (bytes : List ℕ) → 0 < length bytes → is_space (get_or bytes 0 0) ≡ true → Found bytes None 1
space_found [] some h = absurd (omega arith)
space_found (b ∷ bs) some h = record {
  text = b ∷ [];
  after = bs;
  cut = refl;
  len = refl;
  is_piece = one_space b [] h;
  longest = longest;
  ends = tt;
}
  where
    longest : IsLongest (b ∷ []) (b ∷ bs)
    longest [] r e i = omega arith
    longest (c ∷ []) r e i = omega arith
    longest (c ∷ d ∷ q) r e i =
        let first : b ≡ c = cc in
        let none : when (length (d ∷ q) == 0) Layout ≡ None = ap (λ (c : Bool). when c Layout) (ne_eqb (length (d ∷ q)) 0 (λ e. absurd (omega arith))) in
        let p : None ≡ Some i.0 = sym none ∙ sym (one_space b (d ∷ q) h) ∙ ap (λ x. piece_of (x ∷ d ∷ q)) first ∙ i.1 in
        absurd cc

digit_no_space : (b : ℕ) → is_digit b ≡ true → is_space b ≡ false
unfolding is_digit is_space
digit_no_space b h = grind (arith, leb-true, eqb-true)

number_shape : (b : ℕ) (q : List ℕ) → is_digit b ≡ true → piece_of (b ∷ q) ≡ when (list_all is_digit q) (number_of (value_from 0 (b ∷ q)))
number_shape b q h = rw (digit_no_space b h, h) refl

number_run : (bytes : List ℕ) → 0 < length bytes → is_digit (get_or bytes 0 0) ≡ true → Run is_digit (λ t. number_of (value_from 0 t)) bytes (digits_in bytes)
number_run [] some h = absurd (omega arith)
number_run (b ∷ bs) some h = run is_digit (λ t. number_of (value_from 0 t)) b bs h (λ q. number_shape b q h)

slash_digit : is_digit 47 ≡ false
unfolding is_digit
slash_digit = refl

slash_ident : is_ident 47 ≡ false
unfolding is_ident is_digit
slash_ident = refl

pub number_found : (bytes : List ℕ) (k : Kind) → 0 < length bytes → is_digit (get_or bytes 0 0) ≡ true → begins_ident (drop (digits_in bytes) bytes) ≡ false → number_of (value_from 0 (take (digits_in bytes) bytes)) ≡ Token k → Found bytes (Some k) (digits_in bytes)
number_found bytes k some h ends value =
    let r = number_run bytes some h in
    record {
      text = take (digits_in bytes) bytes;
      after = drop (digits_in bytes) bytes;
      cut = r.cut;
      len = r.len;
      is_piece = r.is_piece ∙ ap (λ (p : Piece). Some p) value;
      longest = r.longest;
      ends = λ n. ends;
    }

-- a fault at a run
run_stands : (f : ℕ → Bool) (P : List ℕ → Piece) (bytes : List ℕ) (n : ℕ) → Run f P bytes n → (opens_comment bytes ≡ true → ⊥) → (fault : Fault) → Bad (Some (P (take n bytes))) (drop n bytes) fault → ((opens_comment bytes ≡ true) → (q : List ℕ) × (r : List ℕ) × (bytes ≡ q ++ r) × (piece_of q ≡ Some Layout)) × ((p : List ℕ) × (after : List ℕ) × (bytes ≡ p ++ after) × IsLongest p bytes × Bad (piece_of p) after fault)
run_stands f P bytes n r never fault bad =
    (λ o. absurd (never o), (take n bytes, drop n bytes, r.cut, r.longest, subst (λ p. Bad p (drop n bytes) fault) (sym r.is_piece) bad))

pub number_big : (bytes : List ℕ) → 0 < length bytes → is_digit (get_or bytes 0 0) ≡ true → begins_ident (drop (digits_in bytes) bytes) ≡ false → number_of (value_from 0 (take (digits_in bytes) bytes)) ≡ TooBig → Stands bytes NumberTooBig
number_big bytes some h ends value =
    let r = number_run bytes some h in
    run_stands is_digit (λ t. number_of (value_from 0 t)) bytes (digits_in bytes) r (not_slash is_digit bytes h slash_digit) NumberTooBig
    (subst (λ p. Bad (Some p) (drop (digits_in bytes) bytes) NumberTooBig) (sym value) (rw ends refl))

bad_number : (v : ℕ) (after : List ℕ) → begins_ident after ≡ true → Bad (Some (number_of v)) after (Unsupported (codes "number"))
bad_number v after h = by (nat_le v (2 ^ 127 - 1))
  where
    by : (c : Bool) → Bad (Some (if c then Token (kinds.Number (pos v)) else TooBig)) after (Unsupported (codes "number"))
    by true = (refl, h, refl)
    by false = rw h refl

pub number_unsupported : (bytes : List ℕ) → 0 < length bytes → is_digit (get_or bytes 0 0) ≡ true → begins_ident (drop (digits_in bytes) bytes) ≡ true → Stands bytes (Unsupported (codes "number"))
number_unsupported bytes some h ends =
    run_stands is_digit (λ t. number_of (value_from 0 t)) bytes (digits_in bytes) (number_run bytes some h) (not_slash is_digit bytes h slash_digit) (Unsupported (codes "number"))
    (bad_number (value_from 0 (take (digits_in bytes) bytes)) (drop (digits_in bytes) bytes) ends)

word_shape : (b : ℕ) (q : List ℕ) → is_space b ≡ false → is_digit b ≡ false → is_ident b ≡ true → piece_of (b ∷ q) ≡ when (list_all is_ident q) (word_of (b ∷ q))
word_shape b q s d h = rw (s, d, h) refl

word_run : (bytes : List ℕ) → 0 < length bytes → is_space (get_or bytes 0 0) ≡ false → is_digit (get_or bytes 0 0) ≡ false → is_ident (get_or bytes 0 0) ≡ true → Run is_ident word_of bytes (word_in bytes)
word_run [] some s d h = absurd (omega arith)
word_run (b ∷ bs) some s d h = run is_ident word_of b bs h (λ q. word_shape b q s d h)

no_ident : (bytes : List ℕ) → head_is is_ident bytes ≡ false → begins_ident bytes ≡ false
unfolding head_is
no_ident [] h = refl
no_ident (b ∷ bs) h = h

pub word_found : (bytes : List ℕ) (k : Kind) → 0 < length bytes → is_space (get_or bytes 0 0) ≡ false → is_digit (get_or bytes 0 0) ≡ false → is_ident (get_or bytes 0 0) ≡ true → word_kind (take (word_in bytes) bytes) ≡ Some k → Found bytes (Some k) (word_in bytes)
unfolding word_piece
word_found bytes k some s d h is =
    let r = word_run bytes some s d h in
    record {
      text = take (word_in bytes) bytes;
      after = drop (word_in bytes) bytes;
      cut = r.cut;
      len = r.len;
      is_piece = r.is_piece ∙ ap (λ (p : Piece). Some p) (word_kind_is (take (word_in bytes) bytes) ∙ ap (word_piece (take (word_in bytes) bytes)) is);
      longest = r.longest;
      ends = λ n. no_ident (drop (word_in bytes) bytes) r.stop;
    }

pub word_reserved : (bytes : List ℕ) → 0 < length bytes → is_space (get_or bytes 0 0) ≡ false → is_digit (get_or bytes 0 0) ≡ false → is_ident (get_or bytes 0 0) ≡ true → word_kind (take (word_in bytes) bytes) ≡ None → Stands bytes (Unsupported (take (word_in bytes) bytes))
unfolding word_piece
word_reserved bytes some s d h is =
    let t = take (word_in bytes) bytes in
    let reserved : word_of t ≡ Reserved t = word_kind_is t ∙ ap (word_piece t) is in
    run_stands is_ident word_of bytes (word_in bytes) (word_run bytes some s d h) (not_slash is_ident bytes h slash_ident) (Unsupported t)
    (subst (λ p. Bad (Some p) (drop (word_in bytes) bytes) (Unsupported t)) (sym reserved) refl)
