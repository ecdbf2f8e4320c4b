-- The tables of words say what the whole list says.
use Rattle.std.proofs.Common.{◌≡◌, ℕ, List, [], ◌∷◌, Bool, true, false, Option, Some, None, refl, sym, ap, ◌∙◌, subst, inl, inr}
use Rattle.std.specs.Prelude.{◌==◌, ◌&&◌, ◌||◌, not, if◌then◌else◌, map, bytes_eq}
use Rattle.std.proofs.lemmas.Bool.{eqb-true, cond_both, or_cases, or_parts}
use Rattle.bg_text.specs.declared.token.Kind.{Kind}
use Rattle.bg_text.specs.declared.token.Kind.TheVariants as kinds
use Rattle.bg_text.specs.Pieces.{Piece, Token, Reserved, is_one_of, is_bit_vector, named, keywords, reserved_words, word_of}
use Rattle.bg_lex.specs.Words.{kind_in, look_up, word_kind, a_reserved, a_keywords, b_reserved, b_keywords, c_reserved, c_keywords, de_reserved, de_keywords, f_reserved, f_keywords, ghi_reserved, ghi_keywords, lmo_reserved, lmo_keywords, pr_reserved, pr_keywords, t_reserved, t_keywords, uvwy_reserved, uvwy_keywords}

unfoldable pub begins : ℕ → List ℕ → Bool
begins b [] = false
begins b (c ∷ w) = b == c

starting : ℕ → List (List ℕ) → List (List ℕ)
starting b [] = []
starting b (w ∷ ws) = if begins b w then w ∷ starting b ws else starting b ws

unfoldable pub entries : {X : Type 0} → ℕ → List (List ℕ × X) → List (List ℕ × X)
entries b [] = []
entries b (e ∷ es) = if begins b e.0 then e ∷ entries b es else entries b es

-- a word is no other than those that begin with its first byte
one_starting : (b : ℕ) (q : List ℕ) (ws : List (List ℕ)) → is_one_of ws (b ∷ q) ≡ is_one_of (starting b ws) (b ∷ q)
unfolding starting begins
one_starting b q [] = refl
one_starting b q ([] ∷ ws) = one_starting b q ws
one_starting b q ((c ∷ w) ∷ ws) = by (b == c) refl (one_starting b q ws)
  where
    by : (d : Bool) → (b == c) ≡ d → is_one_of ws (b ∷ q) ≡ is_one_of (starting b ws) (b ∷ q) → ((d && bytes_eq q w) || is_one_of ws (b ∷ q)) ≡ is_one_of (if d then (c ∷ w) ∷ starting b ws else starting b ws) (b ∷ q)
    by true e h = rw (e, h) refl
    by false e h = h

named_starting : (b : ℕ) (q : List ℕ) (o : Piece) (es : List (List ℕ × Piece)) → named es (b ∷ q) o ≡ named (entries b es) (b ∷ q) o
unfolding entries begins
named_starting b q o [] = refl
named_starting b q o (([], x) ∷ es) = named_starting b q o es
named_starting b q o ((c ∷ w, x) ∷ es) = by (b == c) refl (named_starting b q o es)
  where
    by : (d : Bool) → (b == c) ≡ d → named es (b ∷ q) o ≡ named (entries b es) (b ∷ q) o → (if d && bytes_eq q w then x else named es (b ∷ q) o) ≡ named (if d then (c ∷ w, x) ∷ entries b es else entries b es) (b ∷ q) o
    by true e h = rw (e, h) refl
    by false e h = h

as_tokens : List (List ℕ × Kind) → List (List ℕ × Piece)
as_tokens = map (λ e. (e.0, Token e.1))

named_kind : (es : List (List ℕ × Kind)) (word : List ℕ) → named (as_tokens es) word (Token kinds.Name) ≡ Token (kind_in es word)
unfolding as_tokens
named_kind [] word = refl
named_kind (e ∷ es) word = by (bytes_eq word e.0) (named_kind es word)
  where
    by : (d : Bool) → named (as_tokens es) word (Token kinds.Name) ≡ Token (kind_in es word) → (if d then Token e.1 else named (as_tokens es) word (Token kinds.Name)) ≡ Token (if d then e.1 else kind_in es word)
    by true h = refl
    by false h = h

unfoldable pub word_piece : List ℕ → Option Kind → Piece
word_piece word None = Reserved word
word_piece word (Some k) = Token k

looked_up : (rs : List (List ℕ)) (es : List (List ℕ × Kind)) (word : List ℕ) → word_piece word (look_up rs es word) ≡ (if is_one_of rs word then Reserved word else Token (kind_in es word))
unfolding word_piece
looked_up [] es word = refl
looked_up (w ∷ ws) es word = by (bytes_eq word w) (looked_up ws es word)
  where
    by : (d : Bool) → word_piece word (look_up ws es word) ≡ (if is_one_of ws word then Reserved word else Token (kind_in es word)) → word_piece word (if d then None else look_up ws es word) ≡ (if d || is_one_of ws word then Reserved word else Token (kind_in es word))
    by true h = refl
    by false h = h

put : (r s b : Bool) (w : List ℕ) (n k : Piece) → r ≡ s → b ≡ false → n ≡ k → (if r || b then Reserved w else n) ≡ (if s then Reserved w else k)
put r s true w n k e f g = absurd cc
put true s false w n k e f g = subst (λ s. Reserved w ≡ (if s then Reserved w else k)) e refl
put false s false w n k e f g = subst (λ s. n ≡ (if s then Reserved w else k)) e g

Same : (b : ℕ) (rs : List (List ℕ)) (es : List (List ℕ × Kind)) → Type 0
Same b rs es = (starting b reserved_words ≡ starting b rs) × (entries b keywords ≡ entries b (as_tokens es))

is_looked_up : (b : ℕ) (q : List ℕ) (rs : List (List ℕ)) (es : List (List ℕ × Kind)) → Same b rs es → is_bit_vector (b ∷ q) ≡ false → word_of (b ∷ q) ≡ word_piece (b ∷ q) (look_up rs es (b ∷ q))
unfolding Same
is_looked_up b q rs es same bits =
    let one : is_one_of reserved_words (b ∷ q) ≡ is_one_of rs (b ∷ q) = one_starting b q reserved_words ∙ ap (λ ws. is_one_of ws (b ∷ q)) same.0 ∙ sym (one_starting b q rs) in
    let name : named keywords (b ∷ q) (Token kinds.Name) ≡ Token (kind_in es (b ∷ q)) = named_starting b q (Token kinds.Name) keywords ∙ ap (λ es. named es (b ∷ q) (Token kinds.Name)) same.1 ∙ sym (named_starting b q (Token kinds.Name) (as_tokens es)) ∙ named_kind es (b ∷ q) in
    put (is_one_of reserved_words (b ∷ q)) (is_one_of rs (b ∷ q)) (is_bit_vector (b ∷ q)) (b ∷ q) (named keywords (b ∷ q) (Token kinds.Name)) (Token (kind_in es (b ∷ q))) one bits name ∙ sym (looked_up rs es (b ∷ q))

other_bits : (b : ℕ) (q : List ℕ) → (b == 98) ≡ false → is_bit_vector (b ∷ q) ≡ false
other_bits b [] h = refl
other_bits b (v ∷ []) h = refl
other_bits b (v ∷ d ∷ ds) h = rw h refl

are_bits : (word : List ℕ) → is_bit_vector word ≡ true → word_of word ≡ Reserved word
are_bits word h = by (is_one_of reserved_words word) (is_bit_vector word) h
  where
    by : (x y : Bool) → y ≡ true → (if x || y then Reserved word else named keywords word (Token kinds.Name)) ≡ Reserved word
    by true true h = refl
    by false true h = refl
    by x false h = absurd cc

none_start : ℕ → List (List ℕ) → Bool
none_start b [] = true
none_start b (w ∷ ws) = not (begins b w) && none_start b ws

unfoldable pub none_enter : {X : Type 0} → ℕ → List (List ℕ × X) → Bool
none_enter b [] = true
none_enter b (e ∷ es) = not (begins b e.0) && none_enter b es

none_starts : (b : ℕ) (ws : List (List ℕ)) → none_start b ws ≡ true → starting b ws ≡ []
unfolding none_start starting
none_starts b [] h = refl
none_starts b (w ∷ ws) h = by (begins b w) h (none_starts b ws)
  where
    by : (c : Bool) → (not c && none_start b ws) ≡ true → (none_start b ws ≡ true → starting b ws ≡ []) → (if c then w ∷ starting b ws else starting b ws) ≡ []
    by true h k = absurd cc
    by false h k = k h

pub none_enters : {X : Type 0} (b : ℕ) (es : List (List ℕ × X)) → none_enter b es ≡ true → entries b es ≡ []
unfolding none_enter entries
none_enters b [] h = refl
none_enters {X} b (e ∷ es) h = by (begins b e.0) h (none_enters b es)
  where
    by : (c : Bool) → (not c && none_enter b es) ≡ true → (none_enter b es ≡ true → entries b es ≡ []) → (if c then e ∷ entries b es else entries b es) ≡ []
    by true h k = absurd cc
    by false h k = k h

module _ (q : List ℕ) where
  Right : ℕ → Option Kind → Type 0
  Right b o = word_of (b ∷ q) ≡ word_piece (b ∷ q) o

  moved : (b c : ℕ) (rs : List (List ℕ)) (es : List (List ℕ × Kind)) → (b == c) ≡ true → Right c (look_up rs es (c ∷ q)) → Right b (look_up rs es (b ∷ q))
  moved b c rs es h r = subst (λ b. Right b (look_up rs es (b ∷ q))) (sym (eqb-true b c h)) r

  is_a_97 : Right 97 (look_up a_reserved a_keywords (97 ∷ q))
  unfolding Right Same starting entries begins as_tokens
  is_a_97 = is_looked_up 97 q a_reserved a_keywords (refl, refl) (other_bits 97 q refl)

  is_b_98 : is_bit_vector (98 ∷ q) ≡ false → Right 98 (look_up b_reserved b_keywords (98 ∷ q))
  unfolding Right Same starting entries begins as_tokens
  is_b_98 h = is_looked_up 98 q b_reserved b_keywords (refl, refl) h

  is_c_99 : Right 99 (look_up c_reserved c_keywords (99 ∷ q))
  unfolding Right Same starting entries begins as_tokens
  is_c_99 = is_looked_up 99 q c_reserved c_keywords (refl, refl) (other_bits 99 q refl)

  is_de_100 : Right 100 (look_up de_reserved de_keywords (100 ∷ q))
  unfolding Right Same starting entries begins as_tokens
  is_de_100 = is_looked_up 100 q de_reserved de_keywords (refl, refl) (other_bits 100 q refl)

  is_de_101 : Right 101 (look_up de_reserved de_keywords (101 ∷ q))
  unfolding Right Same starting entries begins as_tokens
  is_de_101 = is_looked_up 101 q de_reserved de_keywords (refl, refl) (other_bits 101 q refl)

  is_f_102 : Right 102 (look_up f_reserved f_keywords (102 ∷ q))
  unfolding Right Same starting entries begins as_tokens
  is_f_102 = is_looked_up 102 q f_reserved f_keywords (refl, refl) (other_bits 102 q refl)

  is_ghi_103 : Right 103 (look_up ghi_reserved ghi_keywords (103 ∷ q))
  unfolding Right Same starting entries begins as_tokens
  is_ghi_103 = is_looked_up 103 q ghi_reserved ghi_keywords (refl, refl) (other_bits 103 q refl)

  is_ghi_104 : Right 104 (look_up ghi_reserved ghi_keywords (104 ∷ q))
  unfolding Right Same starting entries begins as_tokens
  is_ghi_104 = is_looked_up 104 q ghi_reserved ghi_keywords (refl, refl) (other_bits 104 q refl)

  is_ghi_105 : Right 105 (look_up ghi_reserved ghi_keywords (105 ∷ q))
  unfolding Right Same starting entries begins as_tokens
  is_ghi_105 = is_looked_up 105 q ghi_reserved ghi_keywords (refl, refl) (other_bits 105 q refl)

  is_lmo_108 : Right 108 (look_up lmo_reserved lmo_keywords (108 ∷ q))
  unfolding Right Same starting entries begins as_tokens
  is_lmo_108 = is_looked_up 108 q lmo_reserved lmo_keywords (refl, refl) (other_bits 108 q refl)

  is_lmo_109 : Right 109 (look_up lmo_reserved lmo_keywords (109 ∷ q))
  unfolding Right Same starting entries begins as_tokens
  is_lmo_109 = is_looked_up 109 q lmo_reserved lmo_keywords (refl, refl) (other_bits 109 q refl)

  is_lmo_111 : Right 111 (look_up lmo_reserved lmo_keywords (111 ∷ q))
  unfolding Right Same starting entries begins as_tokens
  is_lmo_111 = is_looked_up 111 q lmo_reserved lmo_keywords (refl, refl) (other_bits 111 q refl)

  is_pr_112 : Right 112 (look_up pr_reserved pr_keywords (112 ∷ q))
  unfolding Right Same starting entries begins as_tokens
  is_pr_112 = is_looked_up 112 q pr_reserved pr_keywords (refl, refl) (other_bits 112 q refl)

  is_pr_114 : Right 114 (look_up pr_reserved pr_keywords (114 ∷ q))
  unfolding Right Same starting entries begins as_tokens
  is_pr_114 = is_looked_up 114 q pr_reserved pr_keywords (refl, refl) (other_bits 114 q refl)

  is_t_116 : Right 116 (look_up t_reserved t_keywords (116 ∷ q))
  unfolding Right Same starting entries begins as_tokens
  is_t_116 = is_looked_up 116 q t_reserved t_keywords (refl, refl) (other_bits 116 q refl)

  is_uvwy_117 : Right 117 (look_up uvwy_reserved uvwy_keywords (117 ∷ q))
  unfolding Right Same starting entries begins as_tokens
  is_uvwy_117 = is_looked_up 117 q uvwy_reserved uvwy_keywords (refl, refl) (other_bits 117 q refl)

  is_uvwy_118 : Right 118 (look_up uvwy_reserved uvwy_keywords (118 ∷ q))
  unfolding Right Same starting entries begins as_tokens
  is_uvwy_118 = is_looked_up 118 q uvwy_reserved uvwy_keywords (refl, refl) (other_bits 118 q refl)

  is_uvwy_119 : Right 119 (look_up uvwy_reserved uvwy_keywords (119 ∷ q))
  unfolding Right Same starting entries begins as_tokens
  is_uvwy_119 = is_looked_up 119 q uvwy_reserved uvwy_keywords (refl, refl) (other_bits 119 q refl)

  is_uvwy_121 : Right 121 (look_up uvwy_reserved uvwy_keywords (121 ∷ q))
  unfolding Right Same starting entries begins as_tokens
  is_uvwy_121 = is_looked_up 121 q uvwy_reserved uvwy_keywords (refl, refl) (other_bits 121 q refl)

  is_other : (b : ℕ) → (b == 97) ≡ false → (b == 98) ≡ false → (b == 99) ≡ false → (b == 100) ≡ false → (b == 101) ≡ false → (b == 102) ≡ false → (b == 103) ≡ false → (b == 104) ≡ false → (b == 105) ≡ false → (b == 108) ≡ false → (b == 109) ≡ false → (b == 111) ≡ false → (b == 112) ≡ false → (b == 114) ≡ false → (b == 116) ≡ false → (b == 117) ≡ false → (b == 118) ≡ false → (b == 119) ≡ false → (b == 121) ≡ false → Right b (Some kinds.Name)
  unfolding Right Same none_start none_enter begins as_tokens starting entries
  is_other b not_a not_b not_c not_d not_e not_f not_g not_h not_i not_l not_m not_o not_p not_r not_t not_u not_v not_w not_y =
      is_looked_up b q [] []
      (none_starts b reserved_words (rw (not_a, not_c, not_d, not_e, not_f, not_l, not_m, not_p, not_r, not_t, not_w, not_y) refl), none_enters b keywords (rw (not_a, not_b, not_c, not_e, not_f, not_g, not_h, not_i, not_m, not_o, not_p, not_r, not_t, not_u, not_v, not_w) refl))
      (other_bits b q not_b)

  bits_98 : is_bit_vector (98 ∷ q) ≡ true → Right 98 None
  unfolding Right word_piece
  bits_98 h = are_bits (98 ∷ q) h

  bit_word : (b : ℕ) → (b == 98) ≡ true → Right b (if is_bit_vector (b ∷ q) then None else look_up b_reserved b_keywords (b ∷ q))
  bit_word b e = subst (λ b. Right b (if is_bit_vector (b ∷ q) then None else look_up b_reserved b_keywords (b ∷ q))) (sym (eqb-true b 98 e))
      (cond_both (is_bit_vector (98 ∷ q)) None (look_up b_reserved b_keywords (98 ∷ q)) (Right 98) bits_98 is_b_98)

  dispatch : (b : ℕ) → Right b (word_kind (b ∷ q))
  dispatch b =
      cond_both (b == 97) _ _ (Right b) (λ e. moved b 97 a_reserved a_keywords e is_a_97) (λ not_a.
      cond_both (b == 98) _ _ (Right b) (λ e. bit_word b e) (λ not_b.
      cond_both (b == 99) _ _ (Right b) (λ e. moved b 99 c_reserved c_keywords e is_c_99) (λ not_c.
      cond_both ((b == 100) || (b == 101)) _ _ (Right b) (λ e. (elim (or_cases (b == 100) (b == 101) e) [ inl x ↦ moved b 100 de_reserved de_keywords x is_de_100 | inr x ↦ moved b 101 de_reserved de_keywords x is_de_101 ])) (λ nde.
      cond_both (b == 102) _ _ (Right b) (λ e. moved b 102 f_reserved f_keywords e is_f_102) (λ not_f.
      cond_both (((b == 103) || (b == 104)) || (b == 105)) _ _ (Right b) (λ e. (elim (or_cases ((b == 103) || (b == 104)) (b == 105) e) [ inl x ↦ (elim (or_cases (b == 103) (b == 104) x) [ inl x ↦ moved b 103 ghi_reserved ghi_keywords x is_ghi_103 | inr x ↦ moved b 104 ghi_reserved ghi_keywords x is_ghi_104 ]) | inr x ↦ moved b 105 ghi_reserved ghi_keywords x is_ghi_105 ])) (λ nghi.
      cond_both (((b == 108) || (b == 109)) || (b == 111)) _ _ (Right b) (λ e. (elim (or_cases ((b == 108) || (b == 109)) (b == 111) e) [ inl x ↦ (elim (or_cases (b == 108) (b == 109) x) [ inl x ↦ moved b 108 lmo_reserved lmo_keywords x is_lmo_108 | inr x ↦ moved b 109 lmo_reserved lmo_keywords x is_lmo_109 ]) | inr x ↦ moved b 111 lmo_reserved lmo_keywords x is_lmo_111 ])) (λ nlmo.
      cond_both ((b == 112) || (b == 114)) _ _ (Right b) (λ e. (elim (or_cases (b == 112) (b == 114) e) [ inl x ↦ moved b 112 pr_reserved pr_keywords x is_pr_112 | inr x ↦ moved b 114 pr_reserved pr_keywords x is_pr_114 ])) (λ npr.
      cond_both (b == 116) _ _ (Right b) (λ e. moved b 116 t_reserved t_keywords e is_t_116) (λ not_t.
      cond_both ((((b == 117) || (b == 118)) || (b == 119)) || (b == 121)) _ _ (Right b) (λ e. (elim (or_cases (((b == 117) || (b == 118)) || (b == 119)) (b == 121) e) [ inl x ↦ (elim (or_cases ((b == 117) || (b == 118)) (b == 119) x) [ inl x ↦ (elim (or_cases (b == 117) (b == 118) x) [ inl x ↦ moved b 117 uvwy_reserved uvwy_keywords x is_uvwy_117 | inr x ↦ moved b 118 uvwy_reserved uvwy_keywords x is_uvwy_118 ]) | inr x ↦ moved b 119 uvwy_reserved uvwy_keywords x is_uvwy_119 ]) | inr x ↦ moved b 121 uvwy_reserved uvwy_keywords x is_uvwy_121 ])) (λ nuvwy.
      is_other b not_a not_b not_c (or_parts (b == 100) (b == 101) nde).0 (or_parts (b == 100) (b == 101) nde).1 not_f (or_parts (b == 103) (b == 104) (or_parts ((b == 103) || (b == 104)) (b == 105) nghi).0).0 (or_parts (b == 103) (b == 104) (or_parts ((b == 103) || (b == 104)) (b == 105) nghi).0).1 (or_parts ((b == 103) || (b == 104)) (b == 105) nghi).1 (or_parts (b == 108) (b == 109) (or_parts ((b == 108) || (b == 109)) (b == 111) nlmo).0).0 (or_parts (b == 108) (b == 109) (or_parts ((b == 108) || (b == 109)) (b == 111) nlmo).0).1 (or_parts ((b == 108) || (b == 109)) (b == 111) nlmo).1 (or_parts (b == 112) (b == 114) npr).0 (or_parts (b == 112) (b == 114) npr).1 not_t (or_parts (b == 117) (b == 118) (or_parts ((b == 117) || (b == 118)) (b == 119) (or_parts (((b == 117) || (b == 118)) || (b == 119)) (b == 121) nuvwy).0).0).0 (or_parts (b == 117) (b == 118) (or_parts ((b == 117) || (b == 118)) (b == 119) (or_parts (((b == 117) || (b == 118)) || (b == 119)) (b == 121) nuvwy).0).0).1 (or_parts ((b == 117) || (b == 118)) (b == 119) (or_parts (((b == 117) || (b == 118)) || (b == 119)) (b == 121) nuvwy).0).1 (or_parts (((b == 117) || (b == 118)) || (b == 119)) (b == 121) nuvwy).1))))))))))

as_right : (b : ℕ) (q : List ℕ) → word_of (b ∷ q) ≡ word_piece (b ∷ q) (word_kind (b ∷ q))
unfolding Right
as_right b q = dispatch q b

-- what the tables say of a word
pub word_kind_is : (word : List ℕ) → word_of word ≡ word_piece word (word_kind word)
unfolding word_piece
word_kind_is [] = refl
word_kind_is (b ∷ q) = as_right b q
