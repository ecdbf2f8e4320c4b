-- The text of each word and sign: what piece it is, how it begins, and that it ends where nothing that goes on with it follows.
use Rattle.std.proofs.Common.{◌≡◌, ℕ, ◌+◌, ◌-◌, ◌^◌, Bool, true, false, ◌||◌, ◌==◌, nat_le, if◌then◌else◌, List, [], ◌∷◌, ◌++◌, refl, sym, ap, ◌∙◌, subst, Some, None, ℤ, pos}
use Rattle.std.specs.Fmt.{decimal}
use Rattle.std.proofs.lemmas.Bool.{ne_eqb}
use Rattle.bg_text.specs.declared.token.Kind.{Kind}
use Rattle.bg_text.specs.declared.token.Kind.TheVariants as kinds
use Rattle.bg_text.specs.Pieces.{Token, TooBig, is_digit, is_ident, is_space, is_quoted, piece_of}
use Rattle.bg_text.specs.Text.{IsPiece, begins_ident}
use Rattle.bg_print.specs.Docs.{word}
use Rattle.bg_print.proofs.Cases.{Case, a_layout, a_number, a_word, a_string, case_of}
use Rattle.bg_print.proofs.Digits.{IsDigits, decimal_are, digit_of, number_piece}
use Rattle.bg_print.proofs.Longest.{Ends, no_piece, word_ends, string_ends, digit_ident}
use Rattle.bg_print.proofs.Spaced.{First, Wordy, Tail, Other, not_word, not_tail, starts, Ender, AtWords, AtTails, Free, Textless, ends, MayFollow}

abbrev pub is_tail : ℕ → Bool
is_tail b = b == 61 || b == 58 || b == 62 || b == 43 || b == 42

abbrev pub begins_tail : List ℕ → Bool
begins_tail [] = false
begins_tail (b ∷ bs) = is_tail b

-- the text begins so
pub record Begins (rest : List ℕ) (s : First) : Type 0 where
  pub no_word : not_word s ≡ true → begins_ident rest ≡ false
  pub no_tail : not_tail s ≡ true → begins_tail rest ≡ false

-- a number of the language
pub record IsNumber (z : ℤ) : Type 0 where
  pub size : ℕ
  pub is : z ≡ pos size
  pub fits : nat_le size (2 ^ 127 - 1) ≡ true

abbrev pub Sayable : Kind → Type 0
Sayable (kinds.Number z) = IsNumber z
Sayable _ = Unit {0}

absurd_first : not_word Wordy ≡ true → ⊥
absurd_first e = let x : false ≡ true = e in absurd cc

absurd_tail : not_tail Tail ≡ true → ⊥
absurd_tail e = let x : false ≡ true = e in absurd cc

-- keywords and signs are their kinds
said_piece : (k : Kind) (s : First) → Sayable k → MayFollow (ends k) s → piece_of (word k) ≡ Some (Token k)
unfolding is_space is_digit is_ident
said_piece kinds.Name s v h = absurd h
said_piece kinds.Quoted s v h = absurd h
said_piece (kinds.Number z) s v h = subst (λ x. piece_of (word (kinds.Number x)) ≡ Some (Token (kinds.Number x))) (sym v.is) (number_piece v.size v.fits)
said_piece _ s v h = refl

pub said : (k : Kind) (s : First) → Sayable k → MayFollow (ends k) s → piece_of (word k) ≡ Some (Token k)
said = said_piece

digits_begin : (xs : List ℕ) → IsDigits xs → begins_ident xs ≡ true
digits_begin xs h = ap begins_ident h.is ∙ digit_ident (48 + h.digit) (digit_of h.digit h.low)

number_begins : (z : ℤ) → IsNumber z → begins_ident (word (kinds.Number z)) ≡ true
number_begins z v = ap (λ x. begins_ident (word (kinds.Number x))) v.is ∙ digits_begin (decimal v.size) (decimal_are v.size)

wordy : (k : Kind) → Sayable k → ends k ≡ AtWords → begins_ident (word k) ≡ true
unfolding is_ident is_digit
wordy kinds.Name v e = cc
wordy kinds.Quoted v e = cc
wordy (kinds.Number z) v e = number_begins z v
wordy kinds.Open v e = cc
wordy kinds.Close v e = cc
wordy kinds.OpenBracket v e = cc
wordy kinds.CloseBracket v e = cc
wordy kinds.OpenBrace v e = cc
wordy kinds.CloseBrace v e = cc
wordy kinds.Comma v e = cc
wordy kinds.Semicolon v e = cc
wordy kinds.Colon v e = cc
wordy kinds.Becomes v e = cc
wordy kinds.Sets v e = cc
wordy kinds.Less v e = cc
wordy kinds.AtMost v e = cc
wordy kinds.Greater v e = cc
wordy kinds.AtLeast v e = cc
wordy kinds.Equal v e = cc
wordy kinds.Unequal v e = cc
wordy kinds.Implies v e = cc
wordy kinds.Explies v e = cc
wordy kinds.Iff v e = cc
wordy kinds.And v e = cc
wordy kinds.Or v e = cc
wordy kinds.Not v e = cc
wordy kinds.Plus v e = cc
wordy kinds.Minus v e = cc
wordy kinds.Times v e = cc
wordy _ v e = refl

pub wordy_ends : (p : List ℕ) (c : ℕ) (s : List ℕ) → begins_ident p ≡ true → is_ident c ≡ false → IsPiece (p ++ c ∷ s) → ⊥
wordy_ends [] c s h k i = absurd (let x : false ≡ true = h in cc)
wordy_ends (b ∷ bs) c s h k i = word_ends b bs c s h k i

free_ends : (k : Kind) (c : ℕ) (s : List ℕ) → ends k ≡ Free → IsPiece (word k ++ c ∷ s) → ⊥
unfolding is_space is_digit is_ident
free_ends kinds.Open c s e = no_piece (40 ∷ c ∷ s) refl
free_ends kinds.Close c s e = no_piece (41 ∷ c ∷ s) refl
free_ends kinds.OpenBracket c s e = no_piece (91 ∷ c ∷ s) refl
free_ends kinds.CloseBracket c s e = no_piece (93 ∷ c ∷ s) refl
free_ends kinds.OpenBrace c s e = no_piece (123 ∷ c ∷ s) refl
free_ends kinds.CloseBrace c s e = no_piece (125 ∷ c ∷ s) refl
free_ends kinds.Comma c s e = no_piece (44 ∷ c ∷ s) refl
free_ends kinds.Semicolon c s e = no_piece (59 ∷ c ∷ s) refl
free_ends _ c s e = cc

or_first : (a b : Bool) → (a || b) ≡ false → a ≡ false
or_first true b h = h
or_first false b h = refl

or_second : (a b : Bool) → (a || b) ≡ false → b ≡ false
or_second true b h = absurd (let x : true ≡ false = h in cc)
or_second false b h = h

record NoTail (c : ℕ) : Type 0 where
  equal : (c == 61) ≡ false
  colon : (c == 58) ≡ false
  greater : (c == 62) ≡ false
  plus : (c == 43) ≡ false
  times : (c == 42) ≡ false

no_tail_of : (c : ℕ) → is_tail c ≡ false → NoTail c
no_tail_of c h =
    let h4 = or_first (c == 61 || c == 58 || c == 62 || c == 43) (c == 42) h in
    let h3 = or_first (c == 61 || c == 58 || c == 62) (c == 43) h4 in
    let h2 = or_first (c == 61 || c == 58) (c == 62) h3 in
    record {
      equal = or_first (c == 61) (c == 58) h2;
      colon = or_second (c == 61) (c == 58) h2;
      greater = or_second (c == 61 || c == 58) (c == 62) h3;
      plus = or_second (c == 61 || c == 58 || c == 62) (c == 43) h4;
      times = or_second (c == 61 || c == 58 || c == 62 || c == 43) (c == 42) h;
    }

tails_end : (k : Kind) (c : ℕ) (s : List ℕ) → ends k ≡ AtTails → NoTail c → IsPiece (word k ++ c ∷ s) → ⊥
unfolding is_space is_digit is_ident
tails_end kinds.Colon c s e n = no_piece (58 ∷ c ∷ s) (rw (n.equal, n.colon))
tails_end kinds.Becomes c s e n = no_piece (58 ∷ 61 ∷ c ∷ s) refl
tails_end kinds.Sets c s e n = no_piece (61 ∷ c ∷ s) (rw n.equal)
tails_end kinds.Less c s e n = no_piece (60 ∷ c ∷ s) (rw (n.equal, n.colon))
tails_end kinds.AtMost c s e n = no_piece (60 ∷ 61 ∷ c ∷ s) (rw n.equal)
tails_end kinds.Greater c s e n = no_piece (62 ∷ c ∷ s) (rw n.equal)
tails_end kinds.AtLeast c s e n = no_piece (62 ∷ 61 ∷ c ∷ s) refl
tails_end kinds.Equal c s e n = no_piece (61 ∷ 61 ∷ c ∷ s) (rw n.greater)
tails_end kinds.Unequal c s e n = no_piece (33 ∷ 61 ∷ c ∷ s) refl
tails_end kinds.Implies c s e n = no_piece (61 ∷ 61 ∷ 62 ∷ c ∷ s) refl
tails_end kinds.Explies c s e n = no_piece (60 ∷ 61 ∷ 61 ∷ c ∷ s) (rw n.greater)
tails_end kinds.Iff c s e n = no_piece (60 ∷ 61 ∷ 61 ∷ 62 ∷ c ∷ s) refl
tails_end kinds.And c s e n = no_piece (38 ∷ 38 ∷ c ∷ s) refl
tails_end kinds.Or c s e n = no_piece (124 ∷ 124 ∷ c ∷ s) refl
tails_end kinds.Not c s e n = no_piece (33 ∷ c ∷ s) (rw n.equal)
tails_end kinds.Plus c s e n = no_piece (43 ∷ c ∷ s) (rw n.plus)
tails_end kinds.Minus c s e n = no_piece (45 ∷ c ∷ s) refl
tails_end kinds.Times c s e n = no_piece (42 ∷ c ∷ s) (rw n.times)
tails_end _ c s e n = cc

ends_by : (k : Kind) (w : Ender) (s : First) (rest : List ℕ) → ends k ≡ w → Sayable k → MayFollow w s → Begins rest s → Ends (word k) rest
unfolding Ends
ends_by k AtWords s rest e v h b c more after goes i = wordy_ends (word k) c more (wordy k v e) (ap begins_ident (sym goes) ∙ b.no_word h) i
ends_by k AtTails s rest e v h b c more after goes i = tails_end k c more e (no_tail_of c (ap begins_tail (sym goes) ∙ b.no_tail h)) i
ends_by k Free s rest e v h b c more after goes i = free_ends k c more e i
ends_by k Textless s rest e v h b c more after goes i = absurd h

-- a word or a sign ends where what may follow does
pub said_ends : (k : Kind) (s : First) (rest : List ℕ) → Sayable k → MayFollow (ends k) s → Begins rest s → Ends (word k) rest
said_ends k s rest v h b = ends_by k (ends k) s rest refl v h b

not_eq : (b v : ℕ) → is_ident b ≡ true → is_ident v ≡ false → (b == v) ≡ false
not_eq b v h k = ne_eqb b v (λ e. let x : true ≡ false = sym h ∙ ap is_ident e ∙ k in absurd cc)

ident_no_tail : (b : ℕ) → is_ident b ≡ true → is_tail b ≡ false
unfolding is_ident is_digit
ident_no_tail b h = rw (not_eq b 61 h refl, not_eq b 58 h refl, not_eq b 62 h refl, not_eq b 43 h refl, not_eq b 42 h refl) refl

pub words_begin : (p rest : List ℕ) → begins_ident p ≡ true → Begins (p ++ rest) Wordy
words_begin [] rest h = absurd (let x : false ≡ true = h in cc)
words_begin (b ∷ bs) rest h = record { no_word = λ e. absurd (absurd_first e); no_tail = λ e. ident_no_tail b h }

-- how a word or a sign begins
said_begins : (k : Kind) (s : First) (rest : List ℕ) → Sayable k → MayFollow (ends k) s → Begins (word k ++ rest) (starts k)
unfolding is_ident is_digit
said_begins kinds.Name s rest v h = absurd h
said_begins kinds.Quoted s rest v h = absurd h
said_begins (kinds.Number z) s rest v h = words_begin (word (kinds.Number z)) rest (number_begins z v)
said_begins kinds.Open s rest v h = record { no_word = λ e. refl; no_tail = λ e. refl }
said_begins kinds.Close s rest v h = record { no_word = λ e. refl; no_tail = λ e. refl }
said_begins kinds.OpenBracket s rest v h = record { no_word = λ e. refl; no_tail = λ e. refl }
said_begins kinds.CloseBracket s rest v h = record { no_word = λ e. refl; no_tail = λ e. refl }
said_begins kinds.OpenBrace s rest v h = record { no_word = λ e. refl; no_tail = λ e. refl }
said_begins kinds.CloseBrace s rest v h = record { no_word = λ e. refl; no_tail = λ e. refl }
said_begins kinds.Comma s rest v h = record { no_word = λ e. refl; no_tail = λ e. refl }
said_begins kinds.Semicolon s rest v h = record { no_word = λ e. refl; no_tail = λ e. refl }
said_begins kinds.Less s rest v h = record { no_word = λ e. refl; no_tail = λ e. refl }
said_begins kinds.AtMost s rest v h = record { no_word = λ e. refl; no_tail = λ e. refl }
said_begins kinds.Unequal s rest v h = record { no_word = λ e. refl; no_tail = λ e. refl }
said_begins kinds.Explies s rest v h = record { no_word = λ e. refl; no_tail = λ e. refl }
said_begins kinds.Iff s rest v h = record { no_word = λ e. refl; no_tail = λ e. refl }
said_begins kinds.And s rest v h = record { no_word = λ e. refl; no_tail = λ e. refl }
said_begins kinds.Or s rest v h = record { no_word = λ e. refl; no_tail = λ e. refl }
said_begins kinds.Not s rest v h = record { no_word = λ e. refl; no_tail = λ e. refl }
said_begins kinds.Minus s rest v h = record { no_word = λ e. refl; no_tail = λ e. refl }
said_begins kinds.Colon s rest v h = record { no_word = λ e. refl; no_tail = λ e. absurd (absurd_tail e) }
said_begins kinds.Becomes s rest v h = record { no_word = λ e. refl; no_tail = λ e. absurd (absurd_tail e) }
said_begins kinds.Sets s rest v h = record { no_word = λ e. refl; no_tail = λ e. absurd (absurd_tail e) }
said_begins kinds.Greater s rest v h = record { no_word = λ e. refl; no_tail = λ e. absurd (absurd_tail e) }
said_begins kinds.AtLeast s rest v h = record { no_word = λ e. refl; no_tail = λ e. absurd (absurd_tail e) }
said_begins kinds.Equal s rest v h = record { no_word = λ e. refl; no_tail = λ e. absurd (absurd_tail e) }
said_begins kinds.Implies s rest v h = record { no_word = λ e. refl; no_tail = λ e. absurd (absurd_tail e) }
said_begins kinds.Plus s rest v h = record { no_word = λ e. refl; no_tail = λ e. absurd (absurd_tail e) }
said_begins kinds.Times s rest v h = record { no_word = λ e. refl; no_tail = λ e. absurd (absurd_tail e) }
said_begins _ s rest v h = record { no_word = λ e. absurd (absurd_first e); no_tail = λ e. refl }

pub begins_said : (k : Kind) (s : First) (rest : List ℕ) → Sayable k → MayFollow (ends k) s → Begins (word k ++ rest) (starts k)
begins_said = said_begins

number_by : (t : Bool) (n : ℕ) (k : Kind) → Token k ≡ (if t then Token (kinds.Number (pos n)) else TooBig) → k ≡ kinds.Number (pos n)
number_by true n k h = cc
number_by false n k h = cc

number_fits : (t : Bool) (n : ℕ) (k : Kind) → Token k ≡ (if t then Token (kinds.Number (pos n)) else TooBig) → t ≡ true
number_fits true n k h = refl
number_fits false n k h = cc

same_number : (z : ℤ) (n : ℕ) → kinds.Number z ≡ kinds.Number (pos n) → z ≡ pos n
same_number z n h = cc

name_by : (b : ℕ) (bs : List ℕ) → Case b bs (Token kinds.Name) → is_ident b ≡ true
name_by b bs (a_layout h) = absurd (let x : false ≡ true = h in cc)
name_by b bs (a_number n h e) = digit_ident b h
name_by b bs (a_word h e) = h
name_by b bs (a_string h q e) = cc

-- a name begins with a byte of words
pub name_begins : (x : List ℕ) → piece_of x ≡ Some (Token kinds.Name) → begins_ident x ≡ true
name_begins [] h = absurd (let x : None ≡ Some (Token kinds.Name) = h in cc)
name_begins (b ∷ bs) h = name_by b bs (case_of b bs (Token kinds.Name) h)

pub record IsString (x : List ℕ) : Type 0 where
  pub more : List ℕ
  pub is : x ≡ 34 ∷ more
  pub closed : is_quoted false more ≡ true

string_by : (b : ℕ) (bs : List ℕ) → Case b bs (Token kinds.Quoted) → IsString (b ∷ bs)
string_by b bs (a_layout h) = absurd (let x : false ≡ true = h in cc)
string_by b bs (a_number n h e) = absurd (let x : kinds.Quoted ≡ kinds.Number (pos n) = number_by (nat_le n (2 ^ 127 - 1)) n kinds.Quoted e in cc)
string_by b bs (a_word h e) = absurd (let x : false ≡ true = e in cc)
string_by b bs (a_string h q e) = record { more = bs; is = ap (λ c. c ∷ bs) h; closed = q }

pub string_is : (x : List ℕ) → piece_of x ≡ Some (Token kinds.Quoted) → IsString x
string_is [] h = absurd (let x : None ≡ Some (Token kinds.Quoted) = h in cc)
string_is (b ∷ bs) h = string_by b bs (case_of b bs (Token kinds.Quoted) h)

number_case : (b : ℕ) (bs : List ℕ) (z : ℤ) → Case b bs (Token (kinds.Number z)) → IsNumber z
number_case b bs z (a_layout h) = absurd (let x : false ≡ true = h in cc)
number_case b bs z (a_number n h e) = record { size = n; is = same_number z n (number_by (nat_le n (2 ^ 127 - 1)) n (kinds.Number z) e); fits = number_fits (nat_le n (2 ^ 127 - 1)) n (kinds.Number z) e }
number_case b bs z (a_word h e) = absurd (let x : false ≡ true = e in cc)
number_case b bs z (a_string h q e) = absurd (let x : kinds.Number z ≡ kinds.Quoted = cc in cc)

-- the number of a token is one of the language
pub number_is : (x : List ℕ) (z : ℤ) → piece_of x ≡ Some (Token (kinds.Number z)) → IsNumber z
number_is [] z h = absurd (let x : None ≡ Some (Token (kinds.Number z)) = h in cc)
number_is (b ∷ bs) z h = number_case b bs z (case_of b bs (Token (kinds.Number z)) h)

string_ends_by : (x : List ℕ) (c : ℕ) (s more : List ℕ) → x ≡ 34 ∷ more → is_quoted false more ≡ true → IsPiece (x ++ c ∷ s) → ⊥
string_ends_by x c s more e h i = string_ends more c s h (subst (λ y. IsPiece (y ++ c ∷ s)) e i)

pub strings_end : (x rest : List ℕ) → IsString x → Ends x rest
unfolding Ends
strings_end x rest h c more after goes i = string_ends_by x c more h.more h.is h.closed i

pub strings_begin : (x rest : List ℕ) → IsString x → Begins (x ++ rest) Other
unfolding is_ident is_digit
strings_begin x rest h = subst (λ y. Begins (y ++ rest) Other) (sym h.is) (let b : Begins (34 ∷ (h.more ++ rest)) Other = record { no_word = λ e. refl; no_tail = λ e. refl } in b)

pub names_end : (x rest : List ℕ) (s : First) → piece_of x ≡ Some (Token kinds.Name) → not_word s ≡ true → Begins rest s → Ends x rest
unfolding Ends
names_end x rest s h k b c more after goes i = wordy_ends x c more (name_begins x h) (ap begins_ident (sym goes) ∙ b.no_word k) i
