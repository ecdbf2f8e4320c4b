-- The tables of signs say what the whole list says, and the sign found is the longest.
use Rattle.std.proofs.Common.{◌≡◌, ℕ, ◌≤◌, List, [], ◌∷◌, ◌++◌, length, take, drop, Bool, true, false, Option, Some, None, refl, sym, ap, ◌∙◌, subst, arith, length-append}
use Rattle.std.specs.Prelude.{◌&&◌, ◌==◌, not, if◌then◌else◌, nat_le, map, bytes_eq, IfSome}
use Rattle.std.proofs.lemmas.Bool.{leb-true, and_parts, not-true}
use Rattle.std.proofs.lemmas.Bool.Decides.{Decides-eqb}
use Rattle.std.proofs.lemmas.Slice.Eq.{bytes_eq-Decides, starts_is}
use Rattle.std.proofs.lemmas.List.{take_at}
use Rattle.std.proofs.lemmas.Option.{same_Some}
use Rattle.bg_text.specs.declared.token.Kind.{Kind}
use Rattle.bg_text.specs.Pieces.{Piece, Token, Reserved, piece_of, sign_of, signs}
use Rattle.bg_text.specs.Text.{IsPiece, IsLongest, Stands, Bad, BadByte, Unsupported, is_number, opens_comment}
use Rattle.bg_lex.specs.declared.sign.Sign.{Sign}
use Rattle.bg_lex.specs.Signs.{is_front, sign_in}
use Rattle.bg_lex.specs.Fronts.{Found}
use Rattle.bg_lex.proofs.Words.{word_piece, begins, entries}

unfoldable pub as_signs : List (List ℕ × Option Kind) → List (List ℕ × Piece)
as_signs = map (λ e. (e.0, word_piece e.0 e.1))

-- each sign of the first list is one of the second
unfoldable pub Covers : List (List ℕ × Piece) → List (List ℕ × Piece) → Type 0
Covers [] us = Unit {0}
Covers (e ∷ es) us = (sign_of us e.0 ≡ Some e.1) × Covers es us

covered : (es us : List (List ℕ × Piece)) (q : List ℕ) (x : Piece) → Covers es us → sign_of es q ≡ Some x → sign_of us q ≡ Some x
unfolding Covers
covered [] us q x c h = absurd cc
covered (e ∷ es) us q x c h = by (bytes_eq q e.0) refl h (covered es us q x c.1)
  where
    by : (t : Bool) → bytes_eq q e.0 ≡ t → (if t then Some e.1 else sign_of es q) ≡ Some x → (sign_of es q ≡ Some x → sign_of us q ≡ Some x) → sign_of us q ≡ Some x
    by true s h more = ap (sign_of us) ((bytes_eq-Decides q e.0).0 s) ∙ c.0 ∙ h
    by false s h more = more h

same_text : (t : List ℕ) → bytes_eq t t ≡ true
same_text t = (bytes_eq-Decides t t).1 refl

is_front_cut : (p bytes : List ℕ) → is_front p bytes ≡ true → bytes ≡ p ++ drop (length p) bytes
is_front_cut p bytes h = (starts_is Decides-eqb bytes p (is_front p bytes) refl).0 h

front_is : (p bytes rest : List ℕ) → bytes ≡ p ++ rest → is_front p bytes ≡ true
front_is p bytes rest e = (starts_is Decides-eqb bytes p (is_front p bytes) refl).1 rest e

-- what is found is a sign of the list
record Picked (es : List (List ℕ × Option Kind)) (bytes : List ℕ) (s : Sign) : Type 0 where
  text : List ℕ
  after : List ℕ
  cut : bytes ≡ text ++ after
  len : length text ≡ s.len
  is_sign : sign_of (as_signs es) text ≡ Some (word_piece text s.kind)

not_front : (p bytes text after : List ℕ) → is_front p bytes ≡ false → bytes ≡ text ++ after → bytes_eq text p ≡ false
not_front p bytes text after h e = by (bytes_eq text p) refl
  where
    by : (t : Bool) → bytes_eq text p ≡ t → t ≡ false
    by true s = let same : text ≡ p = (bytes_eq-Decides text p).0 s in let t : true ≡ false = sym (front_is p bytes after (e ∙ ap (λ l. l ++ after) same)) ∙ h in cc
    by false s = refl

picked : (es : List (List ℕ × Option Kind)) (bytes : List ℕ) (s : Sign) → sign_in es None bytes ≡ Some s → Picked es bytes s
unfolding as_signs
picked [] bytes s h = absurd cc
picked (e ∷ es) bytes s h = by (is_front e.0 bytes) refl h (picked es bytes s)
  where
    by : (t : Bool) → is_front e.0 bytes ≡ t → (if t then Some (record { kind = e.1; len = length e.0 }) else sign_in es None bytes) ≡ Some s → (sign_in es None bytes ≡ Some s → Picked es bytes s) → Picked (e ∷ es) bytes s
    by true f h more = subst (Picked (e ∷ es) bytes) (same_Some _ _ h) (record { text = e.0; after = drop (length e.0) bytes; cut = is_front_cut e.0 bytes f; len = refl; is_sign = rw (same_text e.0) refl })
    by false f h more =
        let p = more h in
        record { text = p.text; after = p.after; cut = p.cut; len = p.len; is_sign = rw (not_front e.0 bytes p.text p.after f p.cut) p.is_sign }

unfoldable pub at_most : ℕ → List (List ℕ × Option Kind) → Bool
at_most n [] = true
at_most n (e ∷ es) = nat_le (length e.0) n && at_most n es

unfoldable pub descends : List (List ℕ × Option Kind) → Bool
descends [] = true
descends (e ∷ es) = at_most (length e.0) es && descends es

within_most : (n : ℕ) (es : List (List ℕ × Option Kind)) (q : List ℕ) (x : Piece) → at_most n es ≡ true → sign_of (as_signs es) q ≡ Some x → length q ≤ n
unfolding at_most as_signs
within_most n [] q x m h = absurd cc
within_most n (e ∷ es) q x m h = by (bytes_eq q e.0) refl h (within_most n es q x (and_parts (nat_le (length e.0) n) (at_most n es) m).1)
  where
    by : (t : Bool) → bytes_eq q e.0 ≡ t → (if t then Some (word_piece e.0 e.1) else sign_of (as_signs es) q) ≡ Some x → (sign_of (as_signs es) q ≡ Some x → length q ≤ n) → length q ≤ n
    by true s h more =
        let same : length q ≡ length e.0 = ap length ((bytes_eq-Decides q e.0).0 s) in
        let le : length e.0 ≤ n = leb-true (length e.0) n (and_parts (nat_le (length e.0) n) (at_most n es) m).0 in
        omega (arith, same, le)
    by false s h more = more h

longest_of : (es : List (List ℕ × Option Kind)) (bytes q r : List ℕ) (s : Sign) (x : Piece) → descends es ≡ true → sign_in es None bytes ≡ Some s → bytes ≡ q ++ r → sign_of (as_signs es) q ≡ Some x → length q ≤ s.len
unfolding descends as_signs
longest_of [] bytes q r s x d h e i = absurd cc
longest_of (e ∷ es) bytes q r s x d h cut i = by (is_front e.0 bytes) refl h (λ h i. longest_of es bytes q r s x (and_parts (at_most (length e.0) es) (descends es) d).1 h cut i)
  where
    first : (t : Bool) → bytes_eq q e.0 ≡ t → (if t then Some (word_piece e.0 e.1) else sign_of (as_signs es) q) ≡ Some x → length q ≤ length e.0
    first true s h = let same : length q ≡ length e.0 = ap length ((bytes_eq-Decides q e.0).0 s) in omega (arith, same)
    first false s h = within_most (length e.0) es q x (and_parts (at_most (length e.0) es) (descends es) d).0 h

    by : (t : Bool) → is_front e.0 bytes ≡ t → (if t then Some (record { kind = e.1; len = length e.0 }) else sign_in es None bytes) ≡ Some s → (sign_in es None bytes ≡ Some s → sign_of (as_signs es) q ≡ Some x → length q ≤ s.len) → length q ≤ s.len
    by true f h more = let le = first (bytes_eq q e.0) refl i in let same : length e.0 ≡ s.len = ap (λ (s : Sign). s.len) (same_Some _ _ h) in omega (arith, le, same)
    by false f h more = more h (sym (rw (not_front e.0 bytes q r f cut) refl) ∙ i)

none_of : (es : List (List ℕ × Option Kind)) (bytes q r : List ℕ) (x : Piece) → sign_in es None bytes ≡ None → bytes ≡ q ++ r → sign_of (as_signs es) q ≡ Some x → ⊥
unfolding as_signs
none_of [] bytes q r x h cut i = cc
none_of (e ∷ es) bytes q r x h cut i = by (is_front e.0 bytes) refl h (λ h i. none_of es bytes q r x h cut i)
  where
    by : (t : Bool) → is_front e.0 bytes ≡ t → (if t then Some (record { kind = e.1; len = length e.0 }) else sign_in es None bytes) ≡ None → (sign_in es None bytes ≡ None → sign_of (as_signs es) q ≡ Some x → ⊥) → ⊥
    by true f h more = cc
    by false f h more = more h (sym (rw (not_front e.0 bytes q r f cut) refl) ∙ i)

unfoldable pub is_plain : List (List ℕ × Option Kind) → Bool
is_plain [] = true
is_plain ((t, None) ∷ es) = is_plain es
is_plain ((t, Some k) ∷ es) = not (is_number k) && is_plain es

plain : (es : List (List ℕ × Option Kind)) (bytes : List ℕ) (k : Kind) (n : ℕ) → is_plain es ≡ true → sign_in es None bytes ≡ Some (record { kind = Some k; len = n }) → is_number k ≡ false
unfolding is_plain
plain [] bytes k n p h = absurd cc
plain ((t, None) ∷ es) bytes k n p h = by (is_front t bytes) h (plain es bytes k n p)
  where
    by : (c : Bool) → (if c then Some (record { kind = None; len = length t }) else sign_in es None bytes) ≡ Some (record { kind = Some k; len = n }) → (sign_in es None bytes ≡ Some (record { kind = Some k; len = n }) → is_number k ≡ false) → is_number k ≡ false
    by true h more = let e : None ≡ Some k = ap (λ (s : Sign). s.kind) (same_Some _ _ h) in absurd cc
    by false h more = more h
plain ((t, Some j) ∷ es) bytes k n p h = by (is_front t bytes) h (plain es bytes k n (and_parts (not (is_number j)) (is_plain es) p).1)
  where
    by : (c : Bool) → (if c then Some (record { kind = Some j; len = length t }) else sign_in es None bytes) ≡ Some (record { kind = Some k; len = n }) → (sign_in es None bytes ≡ Some (record { kind = Some k; len = n }) → is_number k ≡ false) → is_number k ≡ false
    by true h more =
        let e : Some j ≡ Some k = ap (λ (s : Sign). s.kind) (same_Some _ _ h) in
        let is : j ≡ k = same_Some _ _ e in
        subst (λ k. is_number k ≡ false) is (not-true (is_number j) (and_parts (not (is_number j)) (is_plain es) p).0)
    by false h more = more h

-- what is found is no longer than the bytes
pub fits : (es : List (List ℕ × Option Kind)) (o : Option Sign) (bytes : List ℕ) → IfSome o (λ s. s.len ≤ length bytes) → IfSome (sign_in es o bytes) (λ s. s.len ≤ length bytes)
fits [] o bytes h = h
fits (e ∷ es) o bytes h = by (is_front e.0 bytes) refl (fits es o bytes h)
  where
    by : (t : Bool) → is_front e.0 bytes ≡ t → IfSome (sign_in es o bytes) (λ s. s.len ≤ length bytes) → IfSome (if t then Some (record { kind = e.1; len = length e.0 }) else sign_in es o bytes) (λ s. s.len ≤ length bytes)
    by true f k = let size : length bytes ≡ length (e.0 ++ drop (length e.0) bytes) = ap length (is_front_cut e.0 bytes f) in omega (arith, size, length-append e.0 (drop (length e.0) bytes))
    by false f k = k

-- ---- at a first byte

sign_starting : (b : ℕ) (q : List ℕ) (es : List (List ℕ × Piece)) → sign_of es (b ∷ q) ≡ sign_of (entries b es) (b ∷ q)
unfolding entries begins
sign_starting b q [] = refl
sign_starting b q (([], x) ∷ es) = sign_starting b q es
sign_starting b q ((c ∷ w, x) ∷ es) = by (b == c) refl (sign_starting b q es)
  where
    by : (d : Bool) → (b == c) ≡ d → sign_of es (b ∷ q) ≡ sign_of (entries b es) (b ∷ q) → (if d && bytes_eq q w then Some x else sign_of es (b ∷ q)) ≡ sign_of (if d then (c ∷ w, x) ∷ entries b es else entries b es) (b ∷ q)
    by true e h = rw (e, h) refl
    by false e h = h

-- the table of the signs that begin with a byte
pub record Table (b : ℕ) (es : List (List ℕ × Option Kind)) : Type 0 where
  pub down : Covers (as_signs es) signs
  pub up : Covers (entries b signs) (as_signs es)
  pub longer_first : descends es ≡ true
  pub no_number : is_plain es ≡ true

-- what is found stands in front
unfoldable pub SignIs : List ℕ → Option Kind → ℕ → Type 0
SignIs bytes (Some k) n = Found bytes (Some k) n
SignIs bytes None n = Stands bytes (Unsupported (take n bytes))

unfoldable pub SignAt : List ℕ → Option Sign → Type 0
SignAt bytes (Some s) = SignIs bytes s.kind s.len
SignAt bytes None = Stands bytes BadByte

no_slash : (b : ℕ) (bs : List ℕ) → (b == 47) ≡ false → opens_comment (b ∷ bs) ≡ true → ⊥
no_slash b [] h o = cc
no_slash b (c ∷ bs) h o = let t : true ≡ false = sym (and_parts (b == 47) (c == 42) o).0 ∙ h in cc

module _ (b : ℕ) (es : List (List ℕ × Option Kind)) (table : Table b es) (slash : (b == 47) ≡ false) (shape : (q : List ℕ) → piece_of (b ∷ q) ≡ sign_of signs (b ∷ q)) where
  in_table : (q : List ℕ) (x : Piece) → piece_of (b ∷ q) ≡ Some x → sign_of (as_signs es) (b ∷ q) ≡ Some x
  in_table q x h = covered (entries b signs) (as_signs es) (b ∷ q) x table.up (sym (sign_starting b q signs) ∙ (sym (shape q) ∙ h))

  piece_in_table : (bs q r : List ℕ) → b ∷ bs ≡ q ++ r → (i : IsPiece q) → sign_of (as_signs es) q ≡ Some i.0
  piece_in_table bs [] r e i = absurd (let h : None ≡ Some i.0 = i.1 in cc)
  piece_in_table bs (c ∷ q) r e i = let first : b ≡ c = cc in subst (λ c. sign_of (as_signs es) (c ∷ q) ≡ Some i.0) first (in_table q i.0 (ap (λ c. piece_of (c ∷ q)) first ∙ i.1))

  sign_piece : (bs text after : List ℕ) (x : Piece) → b ∷ bs ≡ text ++ after → sign_of (as_signs es) text ≡ Some x → piece_of text ≡ Some x
  sign_piece bs [] after x e h = absurd (let t : None ≡ Some x = sym (covered_none) ∙ covered (as_signs es) signs [] x table.down h in cc)
    where
      covered_none : sign_of signs [] ≡ None
      covered_none = refl
  sign_piece bs (c ∷ q) after x e h =
      let first : b ≡ c = cc in
      subst (λ c. piece_of (c ∷ q) ≡ Some x) first (shape q ∙ covered (as_signs es) signs (b ∷ q) x table.down (ap (λ c. sign_of (as_signs es) (c ∷ q)) first ∙ h))

  longest_is : (bs text : List ℕ) (s : Sign) → sign_in es None (b ∷ bs) ≡ Some s → length text ≡ s.len → IsLongest text (b ∷ bs)
  longest_is bs text s h len q r e i =
      let le = longest_of es (b ∷ bs) q r s i.0 table.longer_first h e (piece_in_table bs q r e i) in
      omega (arith, le, len)

  sign_is : (bs : List ℕ) (o : Option Kind) (n : ℕ) → sign_in es None (b ∷ bs) ≡ Some (record { kind = o; len = n }) → SignIs (b ∷ bs) o n
  unfolding SignIs word_piece
  sign_is bs (Some k) n h =
      let p = picked es (b ∷ bs) (record { kind = Some k; len = n }) h in
      record {
        text = p.text;
        after = p.after;
        cut = p.cut;
        len = p.len;
        is_piece = sign_piece bs p.text p.after (Token k) p.cut p.is_sign;
        longest = longest_is bs p.text (record { kind = Some k; len = n }) h p.len;
        ends = λ m. absurd (let t : true ≡ false = sym m ∙ plain es (b ∷ bs) k n table.no_number h in cc);
      }
  sign_is bs None n h =
      let p = picked es (b ∷ bs) (record { kind = None; len = n }) h in
      let text : take n (b ∷ bs) ≡ p.text = ap (take n) p.cut ∙ take_at p.text p.after n p.len in
      let is : piece_of p.text ≡ Some (Reserved p.text) = sign_piece bs p.text p.after (Reserved p.text) p.cut p.is_sign in
      let bad : Bad (piece_of p.text) p.after (Unsupported (take n (b ∷ bs))) = rw is (ap Unsupported text) in
      (λ o. absurd (no_slash b bs slash o), (p.text, p.after, p.cut, longest_is bs p.text (record { kind = None; len = n }) h p.len, bad))

  pub table_right : (bs : List ℕ) (o : Option Sign) → sign_in es None (b ∷ bs) ≡ o → SignAt (b ∷ bs) o
  unfolding SignAt
  table_right bs (Some s) h = sign_is bs s.kind s.len h
  table_right bs None h = (λ e. absurd cc, λ q r e i. none_of es (b ∷ bs) q r i.0 h e (piece_in_table bs q r e i))
