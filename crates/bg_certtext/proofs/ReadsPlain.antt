-- Values that are no maps, and parts of indices, are read back from their words, and their words are theirs.
use Rattle.std.proofs.Common.{◌≡◌, ◌++◌, ◌==◌, not, cond, take, drop, length, suc, ⊎_elim, ℕ, Bool, true, false, List, [], ◌∷◌, if◌then◌else◌, ◌||◌, Option, Some, None, ℤ, codes, bytes_eq, refl, ap, sym, subst, ◌∙◌, append_assoc, append-nil}
use Rattle.std.proofs.lemmas.Bool.{eqb-true}
use Rattle.std.proofs.lemmas.List.{take-append-drop}
use Rattle.std.proofs.lemmas.List.Sums.{take_while-cons}
use Rattle.std.specs.List.{list_all, take_while}
use Rattle.std.specs.Fmt.{signed_decimal}
use Rattle.bg_base.specs.Exact.{fits}
use Rattle.bg_text.specs.Pieces.{is_digit}
use Rattle.bg_certtext.specs.Views.{PartOf, AtNumber, AtElement, ValueOf, Truth, Number, Element, Default, Slot}
use Rattle.bg_certtext.specs.Spellable.{is_name, is_type, is_inside_type, is_part, is_value}
use Rattle.bg_certtext.specs.Texts.{part_word, value_text}
use Rattle.bg_certtext.specs.Words.{integer, is_in_type, type_in}
use Rattle.bg_certtext.specs.Machine.{then_, when, marked_in, part_in, as_value, value_in}
use Rattle.bg_certtext.proofs.ReadsOptions.{then_made, when_made, if_made, same_some, both, all_of}
use Rattle.bg_certtext.proofs.ReadsNumbers.{integer_back, integer_read}
use Rattle.bg_certtext.proofs.ReadsWords.{same_word}
use Rattle.bg_certtext.proofs.Late.{numeral_in_type}
use Rattle.bg_certtext.proofs.Orders.{IsPlain}

-- ---- values

abbrev pub IsPart : List ℕ → PartOf → Type 0
IsPart w p = (w ≡ part_word p) × (is_part p ≡ true)

abbrev pub IsValue : List ℕ → ValueOf → Type 0
IsValue w v = (w ≡ value_text v) × (is_value v ≡ true)

number_back : (w : List ℕ) (v : PartOf) → then_ (integer w) (λ k. Some (AtNumber k)) ≡ Some v → IsPart w v
number_back w v h =
    let (k, e, g) = then_made (integer w) (λ (k : ℤ). Some (AtNumber k)) v h in
    let p = integer_back w k e in
    subst (IsPart w) (same_some (AtNumber k) v g) (p.0, p.1)

-- ---- what stands in front of the first exclamation mark, and from there on

is_outside : (b : ℕ) → (b == 33) ≡ true → is_in_type b ≡ false
unfolding is_in_type
is_outside b e = rw e refl

is_inside : (b : ℕ) → (b == 33) ≡ false → is_in_type b ≡ true
unfolding is_in_type
is_inside b e = rw e refl

abbrev length_if : ℕ → List ℕ → Bool → ℕ
length_if b bs t = length (cond t (b ∷ take_while is_in_type bs) [])

at_mark : (b : ℕ) (bs : List ℕ) → (b == 33) ≡ true → type_in (b ∷ bs) ≡ 0
at_mark b bs e = ap length (take_while-cons is_in_type b bs) ∙ ap (length_if b bs) (is_outside b e)

at_other : (b : ℕ) (bs : List ℕ) → is_in_type b ≡ true → type_in (b ∷ bs) ≡ suc (type_in bs)
at_other b bs e = ap length (take_while-cons is_in_type b bs) ∙ ap (length_if b bs) e

first_by : (x : ℕ) (xs : List ℕ) (t : Bool) → (x == 33) ≡ t → ((b : ℕ) (bs : List ℕ) → drop (type_in xs) xs ≡ b ∷ bs → b ≡ 33) → (b : ℕ) (bs : List ℕ) → drop (type_in (x ∷ xs)) (x ∷ xs) ≡ b ∷ bs → b ≡ 33
first_by x xs true e on b bs h =
    let here : x ∷ xs ≡ b ∷ bs = ap (λ (n : ℕ). drop n (x ∷ xs)) (sym (at_mark x xs e)) ∙ h in
    let same : x ≡ b = cc in
    sym same ∙ eqb-true x 33 e
first_by x xs false e on b bs h = on b bs (ap (λ (n : ℕ). drop n (x ∷ xs)) (sym (at_other x xs (is_inside x e))) ∙ h)

-- what begins there is the mark
first_mark : (w : List ℕ) (b : ℕ) (bs : List ℕ) → drop (type_in w) w ≡ b ∷ bs → b ≡ 33
first_mark [] b bs h = absurd (cc)
first_mark (x ∷ xs) b bs h = first_by x xs (x == 33) refl (first_mark xs) b bs h

element_back : (w t bs : List ℕ) (v : PartOf) → w ≡ t ++ 33 ∷ bs → then_ (integer bs) (λ k. when (is_type t) (AtElement t k)) ≡ Some v → IsPart w v
element_back w t bs v e h =
    let (k, f, g) = then_made (integer bs) (λ (k : ℤ). when (is_type t) (AtElement t k)) v h in
    let p = integer_back bs k f in
    let q = when_made (is_type t) (AtElement t k) v g in
    subst (IsPart w) q.1 (e ∙ ap (λ (ds : List ℕ). t ++ 33 ∷ ds) p.0 ∙ sym (append_assoc t (33 ∷ []) (signed_decimal k)), all_of (is_type t) (fits k) q.0 p.1)

marked_back : (w t rest : List ℕ) (v : PartOf) → w ≡ t ++ rest → ((b : ℕ) (bs : List ℕ) → rest ≡ b ∷ bs → b ≡ 33) → marked_in t rest ≡ Some v → IsPart w v
marked_back w t [] v e m h = number_back w v (ap (λ (u : List ℕ). then_ (integer u) (λ k. Some (AtNumber k))) (e ∙ append-nil t) ∙ h)
marked_back w t (b ∷ bs) v e m h =
    element_back w t bs v (e ∙ ap (λ (c : ℕ). t ++ c ∷ bs) (m b bs refl)) h

pub part_back : (w : List ℕ) (p : PartOf) → part_in w ≡ Some p → IsPart w p
part_back w p h = marked_back w (take (type_in w) w) (drop (type_in w) w) p (sym (take-append-drop (type_in w) w)) (first_mark w) h

as_value_is : (w : List ℕ) (p : PartOf) → IsPart w p → IsValue w (as_value p)
as_value_is w (AtNumber k) h = h
as_value_is w (AtElement t k) h = h

other_back : (w : List ℕ) (v : ValueOf) → then_ (part_in w) (λ p. Some (as_value p)) ≡ Some v → IsValue w v
other_back w v h =
    let (p, e, g) = then_made (part_in w) (λ (p : PartOf). Some (as_value p)) v h in
    subst (IsValue w) (same_some (as_value p) v g) (as_value_is w p (part_back w p e))

pub plain_back : (w : List ℕ) (v : ValueOf) → value_in w ≡ Some v → IsValue w v
plain_back w v h =
    ⊎_elim (λ p. subst (IsValue w) (same_some (Truth true) v p.1) (same_word w (codes "true") p.0, refl)) (λ q.
    ⊎_elim (λ p. subst (IsValue w) (same_some (Truth false) v p.1) (same_word w (codes "false") p.0, refl)) (λ r. other_back w v r.1)
    (if_made (bytes_eq w (codes "false")) _ _ v q.1))
    (if_made (bytes_eq w (codes "true")) _ _ v h)

true_is_none : integer (codes "true") ≡ None
unfolding is_digit
true_is_none = refl

false_is_none : integer (codes "false") ≡ None
unfolding is_digit
false_is_none = refl

-- a numeral is no word that isn't read as a number
apart : (k : ℤ) (key : List ℕ) → fits k ≡ true → integer key ≡ None → bytes_eq (signed_decimal k) key ≡ false
apart k key f none = by k key (bytes_eq (signed_decimal k) key) refl f none
  where
    by : (k : ℤ) (key : List ℕ) (t : Bool) → bytes_eq (signed_decimal k) key ≡ t → fits k ≡ true → integer key ≡ None → t ≡ false
    by k key false e f none = refl
    by k key true e f none =
        let same : signed_decimal k ≡ key = same_word (signed_decimal k) key e in
        let clash : None ≡ Some k = sym none ∙ ap integer (sym same) ∙ integer_read k f in
        absurd (cc)

-- a word of bytes that are no mark, and behind it a text that is empty or begins with one

type_of : (t rest : List ℕ) → list_all is_in_type t ≡ true → type_in rest ≡ 0 → type_in (t ++ rest) ≡ length t
type_of [] rest h k = k
type_of (b ∷ bs) rest h k =
    let p = both (is_in_type b) (list_all is_in_type bs) h in
    at_other b (bs ++ rest) p.0 ∙ ap (λ (n : ℕ). suc n) (type_of bs rest p.1 k)

take_front : (u ys : List ℕ) → take (length u) (u ++ ys) ≡ u
take_front [] ys = refl
take_front (x ∷ xs) ys = ap (λ (zs : List ℕ). x ∷ zs) (take_front xs ys)

drop_front : (u ys : List ℕ) → drop (length u) (u ++ ys) ≡ ys
drop_front [] ys = refl
drop_front (x ∷ xs) ys = drop_front xs ys

-- a word that is cut at n
abbrev cut_at : List ℕ → ℕ → Option PartOf
cut_at w n = marked_in (take n w) (drop n w)

marked_read : (t rest : List ℕ) → list_all is_in_type t ≡ true → type_in rest ≡ 0 → cut_at (t ++ rest) (type_in (t ++ rest)) ≡ marked_in t rest
marked_read t rest h k =
    ap (cut_at (t ++ rest)) (type_of t rest h k)
    ∙ ap (λ (u : List ℕ). marked_in u (drop (length t) (t ++ rest))) (take_front t rest)
    ∙ ap (marked_in t) (drop_front t rest)

-- a word that is neither of the two
abbrev value_by : Bool → Bool → Option PartOf → Option ValueOf
value_by a b o = if a then Some (Truth true) else (if b then Some (Truth false) else then_ o (λ p. Some (as_value p)))

value_other : (w : List ℕ) → bytes_eq w (codes "true") ≡ false → bytes_eq w (codes "false") ≡ false → value_in w ≡ then_ (part_in w) (λ p. Some (as_value p))
value_other w a b =
    ap (λ (t : Bool). value_by t (bytes_eq w (codes "false")) (part_in w)) a
    ∙ ap (λ (t : Bool). value_by false t (part_in w)) b

-- a word with a mark is neither of the two
abbrev has_mark : List ℕ → Bool
has_mark [] = false
has_mark (b ∷ bs) = (b == 33) || has_mark bs

or_else : (a b : Bool) → b ≡ true → (a || b) ≡ true
or_else true b h = refl
or_else false b h = h

marked_has : (t ds : List ℕ) → has_mark (t ++ 33 ∷ ds) ≡ true
marked_has [] ds = refl
marked_has (b ∷ bs) ds = or_else (b == 33) (has_mark (bs ++ 33 ∷ ds)) (marked_has bs ds)

unmarked : (has_mark (codes "true") ≡ false) × (has_mark (codes "false") ≡ false)
unmarked = (refl, refl)

other_by : (w key : List ℕ) (t : Bool) → bytes_eq w key ≡ t → has_mark w ≡ true → has_mark key ≡ false → t ≡ false
other_by w key false e h k = refl
other_by w key true e h k =
    let same : w ≡ key = same_word w key e in
    let clash : true ≡ false = sym h ∙ (ap has_mark same ∙ k) in
    absurd (cc)

other_word : (w key : List ℕ) → has_mark w ≡ true → has_mark key ≡ false → bytes_eq w key ≡ false
other_word w key h k = other_by w key (bytes_eq w key) refl h k

inside_no_mark : (b : ℕ) → is_inside_type b ≡ true → is_in_type b ≡ true
unfolding is_inside_type is_in_type
inside_no_mark b h = (both (not (b == 33)) _ h).0

no_marks : (t : List ℕ) → list_all is_inside_type t ≡ true → list_all is_in_type t ≡ true
no_marks [] h = refl
no_marks (b ∷ bs) h =
    let p = both (is_inside_type b) (list_all is_inside_type bs) h in
    all_of (is_in_type b) (list_all is_in_type bs) (inside_no_mark b p.0) (no_marks bs p.1)

element_read : (t : List ℕ) (k : ℤ) → is_type t ≡ true → fits k ≡ true → part_in (t ++ 33 ∷ signed_decimal k) ≡ Some (AtElement t k)
element_read t k h f =
    let ds = signed_decimal k in
    marked_read t (33 ∷ ds) (no_marks t (both (is_name t) (list_all is_inside_type t) h).1) (at_mark 33 ds refl)
    ∙ (ap (λ (o : Option ℤ). then_ o (λ k. when (is_type t) (AtElement t k))) (integer_read k f)
    ∙ ap (λ (b : Bool). when b (AtElement t k)) h)

number_read : (k : ℤ) → fits k ≡ true → part_in (signed_decimal k) ≡ Some (AtNumber k)
number_read k h =
    let ds = signed_decimal k in
    ap (λ (w : List ℕ). cut_at w (type_in w)) (sym (append-nil ds))
    ∙ (marked_read ds [] (numeral_in_type k h) refl
    ∙ ap (λ (o : Option ℤ). then_ o (λ k. Some (AtNumber k))) (integer_read k h))

pub part_read : (p : PartOf) → is_part p ≡ true → part_in (part_word p) ≡ Some p
part_read (AtNumber k) h = number_read k h
part_read (AtElement t k) h =
    let p = both (is_type t) (fits k) h in
    ap part_in (append_assoc t (33 ∷ []) (signed_decimal k)) ∙ element_read t k p.0 p.1

pub plain_read : (v : ValueOf) → IsPlain v → is_value v ≡ true → value_in (value_text v) ≡ Some v
plain_read (Truth true) i h = refl
plain_read (Truth false) i h = refl
plain_read (Number k) i h =
    let ds = signed_decimal k in
    value_other ds (apart k (codes "true") h true_is_none) (apart k (codes "false") h false_is_none)
    ∙ ap (λ (o : Option PartOf). then_ o (λ p. Some (as_value p))) (number_read k h)
plain_read (Element t k) i h =
    let p = both (is_type t) (fits k) h in
    let ds = signed_decimal k in
    let marked = marked_has t ds in
    ap value_in (append_assoc t (33 ∷ []) ds)
    ∙ (value_other (t ++ 33 ∷ ds) (other_word (t ++ 33 ∷ ds) (codes "true") marked unmarked.0) (other_word (t ++ 33 ∷ ds) (codes "false") marked unmarked.1)
    ∙ ap (λ (o : Option PartOf). then_ o (λ p. Some (as_value p))) (element_read t k p.0 p.1))
plain_read (Default d) i h = absurd i
plain_read (Slot k v m) i h = absurd i
