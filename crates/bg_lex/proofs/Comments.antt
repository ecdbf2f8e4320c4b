-- A comment is the longest piece where it stands; where one opens and isn't closed, no layout stands.
use Rattle.std.proofs.Common.{◌≡◌, ◌≢◌, ℕ, suc, ◌+◌, ◌≤◌, ◌<◌, List, [], ◌∷◌, ◌++◌, length, take, drop, get_or, Bool, true, false, Option, Some, None, refl, sym, ap, ◌∙◌, subst, arith, length-take}
use Rattle.std.specs.Prelude.{◌==◌, not, take_while, codes}
use Rattle.std.specs.List.{list_all}
use Rattle.std.proofs.lemmas.Bool.{eqb-true, ne_eqb}
use Rattle.std.proofs.lemmas.List.{take-append-drop}
use Rattle.std.proofs.lemmas.Option.{same_Some}
use Rattle.bg_text.specs.Pieces.{Piece, Layout, Reserved, piece_of, when, or_else, is_ident, is_space, is_digit, is_closed}
use Rattle.bg_text.specs.Text.{IsPiece, IsLongest, Stands, OpenComment, Unsupported, opens_comment}
use Rattle.bg_lex.specs.declared.comment.Half.{Half}
use Rattle.bg_lex.specs.declared.comment.Half.TheVariants.{Nothing, Opening, Closing}
use Rattle.bg_lex.specs.declared.comment.Inside.{Inside}
use Rattle.bg_lex.specs.Bytes.{is_inside_line, line_in}
use Rattle.bg_lex.specs.Ends.{comment_step, comment_on, comment_end}
use Rattle.bg_lex.specs.Fronts.{Found}
use Rattle.bg_lex.proofs.Runs.{when_some, within, taken, all_take}

number : Half → ℕ
number Nothing = 0
number Opening = 1
number Closing = 2

-- a comment from here on, in terms of what its next byte does
closed_on : Option Inside → (Inside → Bool) → ℕ → Bool
closed_on None more left = left == 0
closed_on (Some inside) more left = more inside

closed : Inside → List ℕ → Bool
closed s bs = is_closed s.depth (number s.half) bs

closed_step : (s : Inside) (b : ℕ) (bs : List ℕ) → closed s (b ∷ bs) ≡ closed_on (comment_step s b) (λ t. closed t bs) (length bs)
unfolding closed_on closed number
closed_step s b bs = by s.depth s.half (b == 42) (b == 47) (s.depth == 0) refl refl refl
  where
    by : (d : ℕ) (h : Half) (x y z : Bool) → (b == 42) ≡ x → (b == 47) ≡ y → (d == 0) ≡ z → is_closed d (number h) (b ∷ bs) ≡ closed_on (comment_step (record { depth = d; half = h }) b) (λ t. closed t bs) (length bs)
    by d Nothing true true z e f g = rw (e, f) refl
    by d Nothing true false z e f g = rw (e, f) refl
    by d Nothing false true z e f g = rw (e, f) refl
    by d Nothing false false z e f g = rw (e, f) refl
    by d Opening true y z e f g = rw e refl
    by d Opening false true z e f g = rw (e, f) refl
    by d Opening false false z e f g = rw (e, f) refl
    by d Closing x true true e f g = rw (f, g) refl
    by d Closing x true false e f g = rw (f, g) refl
    by d Closing true false z e f g = rw (e, f) refl
    by d Closing false false z e f g = rw (e, f) refl

-- where a front is a comment from here on, it is what the code counts
full : (q r : List ℕ) (i : ℕ) (s : Inside) → closed s q ≡ true → comment_end i s (q ++ r) ≡ Some (i + length q)
unfolding closed_on closed
full [] r i s h = absurd cc
full (b ∷ q) r i s h = by (comment_step s b) (sym (closed_step s b q) ∙ h) (λ t. full q r (i + 1) t)
  where
    by : (o : Option Inside) → closed_on o (λ t. closed t q) (length q) ≡ true → ((t : Inside) → closed t q ≡ true → comment_end (i + 1) t (q ++ r) ≡ Some (i + 1 + length q)) → comment_on i o (λ t. comment_end (i + 1) t (q ++ r)) ≡ Some (i + suc (length q))
    by None h more = let none : length q ≡ 0 = eqb-true (length q) 0 h in ap (λ (n : ℕ). Some n) (omega (arith, none))
    by (Some t) h more = more t h ∙ ap (λ (n : ℕ). Some n) (omega arith)

-- what the code counts is a comment
record Counted (i n : ℕ) (s : Inside) (bs : List ℕ) : Type 0 where
  m : ℕ
  is : n ≡ i + m
  le : m ≤ length bs
  whole : closed s (take m bs) ≡ true

counted : (bs : List ℕ) (i n : ℕ) (s : Inside) → comment_end i s bs ≡ Some n → Counted i n s bs
unfolding closed_on
counted [] i n s h = absurd cc
counted (b ∷ bs) i n s h = by (comment_step s b) refl h (λ t. counted bs (i + 1) n t)
  where
    by : (o : Option Inside) → comment_step s b ≡ o → comment_on i o (λ t. comment_end (i + 1) t bs) ≡ Some n → ((t : Inside) → comment_end (i + 1) t bs ≡ Some n → Counted (i + 1) n t bs) → Counted i n s (b ∷ bs)
    by None e h more = record { m = 1; is = sym (same_Some _ _ h); le = omega arith; whole = closed_step s b [] ∙ rw e refl }
    by (Some t) e h more =
        let c = more t h in
        record { m = suc c.m; is = omega (arith, c.is); le = omega (arith, c.le); whole = closed_step s b (take c.m bs) ∙ rw e c.whole }

abbrev pub opened : Inside
opened = record { depth = 0; half = Nothing }

or_none : (o : Option Piece) → or_else o None ≡ o
or_none None = refl
or_none (Some p) = refl

slash_one : (q : List ℕ) → piece_of (47 ∷ []) ≡ Some (Reserved (codes "/"))
unfolding is_space is_digit is_ident
slash_one q = refl

-- ---- a comment in slash and star
module _ (bs : List ℕ) where
  star_shape : (q : List ℕ) → piece_of (47 ∷ 42 ∷ q) ≡ when (closed opened q) Layout
  unfolding is_space is_digit is_ident closed number
  star_shape q = or_none (when (is_closed 0 0 q) Layout)

  star_front : (q r : List ℕ) → bs ≡ q ++ r → IsPiece (47 ∷ 42 ∷ q) → comment_end 0 opened bs ≡ Some (length q)
  star_front q r e i =
      let p : when (closed opened q) Layout ≡ Some i.0 = sym (star_shape q) ∙ i.1 in
      ap (comment_end 0 opened) e ∙ full q r 0 opened (when_some (closed opened q) Layout i.0 p) ∙ ap (λ (n : ℕ). Some n) (omega arith)

  star_longest : (n m : ℕ) → comment_end 0 opened bs ≡ Some n → (text : List ℕ) → length text ≡ n + 2 → IsLongest text (47 ∷ 42 ∷ bs)
  star_longest n m h text len [] r e i = omega arith
  star_longest n m h text len (c ∷ []) r e i = omega (arith, len)
  star_longest n m h text len (c ∷ d ∷ q) r e i =
      let first : c ≡ 47 = cc in
      let second : d ≡ 42 = cc in
      let rest : bs ≡ q ++ r = cc in
      let piece : IsPiece (47 ∷ 42 ∷ q) = subst (λ d. IsPiece (47 ∷ d ∷ q)) second (subst (λ c. IsPiece (c ∷ d ∷ q)) first i) in
      let same : length q ≡ n = same_Some _ _ (sym (star_front q r rest piece) ∙ h) in
      omega (arith, len, same)

  star_found : (n : ℕ) → comment_end 0 opened bs ≡ Some n → Found (47 ∷ 42 ∷ bs) None (n + 2)
  star_found n h =
      let c = counted bs 0 n opened h in
      let size : length (take c.m bs) ≡ c.m = omega (arith, length-take c.m bs, c.le) in
      let len : length (47 ∷ 42 ∷ take c.m bs) ≡ n + 2 = omega (arith, size, c.is) in
      record {
        text = 47 ∷ 42 ∷ take c.m bs;
        after = drop c.m bs;
        cut = ap (λ l. 47 ∷ 42 ∷ l) (sym (take-append-drop c.m bs));
        len = len;
        is_piece = star_shape (take c.m bs) ∙ rw c.whole refl;
        longest = star_longest n 0 h (47 ∷ 42 ∷ take c.m bs) len;
        ends = tt;
      }

  star_none : comment_end 0 opened bs ≡ None → Stands (47 ∷ 42 ∷ bs) OpenComment
  star_none h = (refl, never)
    where
      never : (q r : List ℕ) → 47 ∷ 42 ∷ bs ≡ q ++ r → piece_of q ≢ Some Layout
      never [] r e i = absurd cc
      never (c ∷ []) r e i =
          let first : c ≡ 47 = cc in
          let t : Some (Reserved (codes "/")) ≡ Some Layout = sym (slash_one []) ∙ ap (λ c. piece_of (c ∷ [])) (sym first) ∙ i in
          absurd cc
      never (c ∷ d ∷ q) r e i =
          let first : c ≡ 47 = cc in
          let second : d ≡ 42 = cc in
          let rest : bs ≡ q ++ r = cc in
          let piece : piece_of (47 ∷ 42 ∷ q) ≡ Some Layout = subst (λ d. piece_of (47 ∷ d ∷ q) ≡ Some Layout) second (subst (λ c. piece_of (c ∷ d ∷ q) ≡ Some Layout) first i) in
          let t : None ≡ Some (length q) = sym h ∙ star_front q r rest (Layout, piece) in
          absurd cc

-- ---- a comment to the end of the line
module _ (bs : List ℕ) where
  line_shape : (q : List ℕ) → piece_of (47 ∷ 47 ∷ q) ≡ when (list_all is_inside_line q) Layout
  unfolding is_space is_digit is_ident is_inside_line
  line_shape q = or_none (when (list_all (λ c. not (c == 10)) q) Layout)

  line_longest : IsLongest (47 ∷ 47 ∷ take (line_in bs) bs) (47 ∷ 47 ∷ bs)
  line_longest [] r e i = omega arith
  line_longest (c ∷ []) r e i = omega arith
  line_longest (c ∷ d ∷ q) r e i =
      let first : c ≡ 47 = cc in
      let second : d ≡ 47 = cc in
      let rest : bs ≡ q ++ r = cc in
      let p : when (list_all is_inside_line q) Layout ≡ Some i.0 = sym (line_shape q) ∙ subst (λ d. piece_of (47 ∷ d ∷ q) ≡ Some i.0) second (subst (λ c. piece_of (c ∷ d ∷ q) ≡ Some i.0) first i.1) in
      let le : length q ≤ length (take_while is_inside_line (q ++ r)) = within is_inside_line q r (when_some (list_all is_inside_line q) Layout i.0 p) in
      let same : length (take_while is_inside_line (q ++ r)) ≡ line_in bs = ap line_in (sym rest) in
      let size : length (take (line_in bs) bs) ≡ line_in bs = ap length (taken is_inside_line bs) in
      omega (arith, le, same, size)

  line_found : Found (47 ∷ 47 ∷ bs) None (line_in bs + 2)
  line_found =
      let size : length (take (line_in bs) bs) ≡ line_in bs = ap length (taken is_inside_line bs) in
      record {
        text = 47 ∷ 47 ∷ take (line_in bs) bs;
        after = drop (line_in bs) bs;
        cut = ap (λ l. 47 ∷ 47 ∷ l) (sym (take-append-drop (line_in bs) bs));
        len = omega (arith, size);
        is_piece = line_shape (take (line_in bs) bs) ∙ rw (taken is_inside_line bs, all_take is_inside_line bs) refl;
        longest = line_longest;
        ends = tt;
      }

-- ---- a slash that begins no comment
no_comment : (b : ℕ) (q : List ℕ) → (b == 47) ≡ false → (b == 42) ≡ false → piece_of (47 ∷ b ∷ q) ≡ None
unfolding is_space is_digit is_ident
no_comment b q e f = rw (e, f) refl

abbrev pub Divides : List ℕ → Type 0
Divides [] = Unit {0}
Divides (b ∷ bs) = ((b == 47) ≡ false) × ((b == 42) ≡ false)

slash_longest : (bs : List ℕ) → Divides bs → IsLongest (47 ∷ []) (47 ∷ bs)
slash_longest bs h [] r e i = omega arith
slash_longest bs h (c ∷ []) r e i = omega arith
slash_longest [] h (c ∷ d ∷ q) r e i = absurd cc
slash_longest (b ∷ bs) h (c ∷ d ∷ q) r e i =
    let first : c ≡ 47 = cc in
    let second : d ≡ b = cc in
    let p : None ≡ Some i.0 = sym (no_comment b q h.0 h.1) ∙ subst (λ d. piece_of (47 ∷ d ∷ q) ≡ Some i.0) second (subst (λ c. piece_of (c ∷ d ∷ q) ≡ Some i.0) first i.1) in
    absurd cc

slash_opens : (bs : List ℕ) → Divides bs → opens_comment (47 ∷ bs) ≡ true → ⊥
slash_opens [] h o = absurd cc
slash_opens (b ∷ bs) h o = let t : false ≡ true = sym h.1 ∙ o in absurd cc

slash_stands : (bs : List ℕ) → Divides bs → Stands (47 ∷ bs) (Unsupported (47 ∷ []))
slash_stands bs h = (λ o. absurd (slash_opens bs h o), (47 ∷ [], bs, refl, slash_longest bs h, rw (slash_one []) refl))

-- ---- what the code holds
pub line_comment : (bytes : List ℕ) → 2 ≤ length bytes → get_or bytes 0 0 ≡ 47 → get_or bytes 1 0 ≡ 47 → Found bytes None (line_in (drop 2 bytes) + 2)
line_comment [] long a b = absurd (omega arith)
line_comment (x ∷ []) long a b = absurd (omega arith)
line_comment (x ∷ y ∷ bs) long a b = subst (λ x. Found (x ∷ y ∷ bs) None (line_in bs + 2)) (sym a) (subst (λ y. Found (47 ∷ y ∷ bs) None (line_in bs + 2)) (sym b) (line_found bs))

pub star_comment : (bytes : List ℕ) (n : ℕ) → 2 ≤ length bytes → get_or bytes 0 0 ≡ 47 → get_or bytes 1 0 ≡ 42 → comment_end 0 opened (drop 2 bytes) ≡ Some n → Found bytes None (n + 2)
star_comment [] n long a b h = absurd (omega arith)
star_comment (x ∷ []) n long a b h = absurd (omega arith)
star_comment (x ∷ y ∷ bs) n long a b h = subst (λ x. Found (x ∷ y ∷ bs) None (n + 2)) (sym a) (subst (λ y. Found (47 ∷ y ∷ bs) None (n + 2)) (sym b) (star_found bs n h))

pub open_comment : (bytes : List ℕ) → 2 ≤ length bytes → get_or bytes 0 0 ≡ 47 → get_or bytes 1 0 ≡ 42 → comment_end 0 opened (drop 2 bytes) ≡ None → Stands bytes OpenComment
open_comment [] long a b h = absurd (omega arith)
open_comment (x ∷ []) long a b h = absurd (omega arith)
open_comment (x ∷ y ∷ bs) long a b h = subst (λ x. Stands (x ∷ y ∷ bs) OpenComment) (sym a) (subst (λ y. Stands (47 ∷ y ∷ bs) OpenComment) (sym b) (star_none bs h))

pub lone_slash : (bytes name : List ℕ) → 0 < length bytes → get_or bytes 0 0 ≡ 47 → name ≡ codes "/" → (2 ≤ length bytes → get_or bytes 1 0 ≢ 47) → (2 ≤ length bytes → get_or bytes 1 0 ≢ 42) → Stands bytes (Unsupported name)
lone_slash [] name some a is b c = absurd (omega arith)
lone_slash (x ∷ []) name some a is b c = subst (λ n. Stands (x ∷ []) (Unsupported n)) (sym is) (subst (λ x. Stands (x ∷ []) (Unsupported (codes "/"))) (sym a) (slash_stands [] tt))
lone_slash (x ∷ y ∷ bs) name some a is b c =
    subst (λ n. Stands (x ∷ y ∷ bs) (Unsupported n)) (sym is) (subst (λ x. Stands (x ∷ y ∷ bs) (Unsupported (codes "/"))) (sym a) (slash_stands (y ∷ bs) (ne_eqb y 47 (b (omega arith)), ne_eqb y 42 (c (omega arith)))))
