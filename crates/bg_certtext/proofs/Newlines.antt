-- Where the first line of bytes ends.
use Rattle.std.proofs.Common.{◌≡◌, ℕ, suc, Bool, true, false, cond, ◌==◌, List, [], ◌∷◌, length, take, drop, ◌++◌, ◌<◌, ◌≤◌, ◌-◌, refl, ap, sym, subst, ◌∙◌, arith}
use Rattle.std.specs.List.{take_while, list_all}
use Rattle.std.proofs.lemmas.Bool.{eqb-true}
use Rattle.std.proofs.lemmas.List.{take-append-drop, take_rest}
use Rattle.std.proofs.lemmas.List.Sums.{take_while-cons}
use Rattle.bg_certtext.specs.Words.{is_in_line, line_in}

is_outside : (b : ℕ) → (b == 10) ≡ true → is_in_line b ≡ false
unfolding is_in_line
is_outside b e = rw e refl

is_inside : (b : ℕ) → (b == 10) ≡ false → is_in_line b ≡ true
unfolding is_in_line
is_inside b e = rw e refl

abbrev length_if : ℕ → List ℕ → Bool → ℕ
length_if b bs t = length (cond t (b ∷ take_while is_in_line bs) [])

at_newline : (b : ℕ) (bs : List ℕ) → (b == 10) ≡ true → line_in (b ∷ bs) ≡ 0
at_newline b bs e = ap length (take_while-cons is_in_line b bs) ∙ ap (length_if b bs) (is_outside b e)

at_other : (b : ℕ) (bs : List ℕ) → (b == 10) ≡ false → line_in (b ∷ bs) ≡ suc (line_in bs)
at_other b bs e = ap length (take_while-cons is_in_line b bs) ∙ ap (length_if b bs) (is_inside b e)

-- the first n bytes are inside the line, and behind them stands a newline or nothing
record EndsAt (bs : List ℕ) (n : ℕ) : Type 0 where
  pub inside : list_all is_in_line (take n bs) ≡ true
  pub ends : (x : ℕ) (rest : List ℕ) → drop n bs ≡ x ∷ rest → x ≡ 10
  pub none : drop n bs ≡ [] → list_all is_in_line bs ≡ true

here : (b : ℕ) (bs : List ℕ) → (b == 10) ≡ true → EndsAt (b ∷ bs) 0
here b bs e =
    record {
      inside = refl;
      ends = λ x rest h. let same : b ≡ 10 = eqb-true b 10 e in cc;
      none = λ h. absurd (cc);
    }

later : (b n : ℕ) (bs : List ℕ) → (b == 10) ≡ false → EndsAt bs n → EndsAt (b ∷ bs) (suc n)
later b n bs e h =
    record {
      inside = rw (is_inside b e, h.inside) refl;
      ends = h.ends;
      none = λ k. rw (is_inside b e, h.none k) refl;
    }

ends_by : (b : ℕ) (bs : List ℕ) (t : Bool) → (b == 10) ≡ t → EndsAt bs (line_in bs) → EndsAt (b ∷ bs) (line_in (b ∷ bs))
ends_by b bs true e h = let P : ℕ → Type 0 = EndsAt (b ∷ bs) in subst P (sym (at_newline b bs e)) (here b bs e)
ends_by b bs false e h = let P : ℕ → Type 0 = EndsAt (b ∷ bs) in subst P (sym (at_other b bs e)) (later b (line_in bs) bs e h)

ends_at : (bs : List ℕ) → EndsAt bs (line_in bs)
ends_at [] = record { inside = refl; ends = λ x rest h. absurd (cc); none = λ h. refl }
ends_at (b ∷ bs) = ends_by b bs (b == 10) refl (ends_at bs)

pub line_is_inside : (bs : List ℕ) → list_all is_in_line (take (line_in bs) bs) ≡ true
line_is_inside bs = (ends_at bs).inside

pub newline_behind : (bs : List ℕ) (x : ℕ) (rest : List ℕ) → drop (line_in bs) bs ≡ x ∷ rest → x ≡ 10
newline_behind bs = (ends_at bs).ends

pub no_newline : (bs : List ℕ) → drop (line_in bs) bs ≡ [] → list_all is_in_line bs ≡ true
no_newline bs = (ends_at bs).none

-- no byte is behind the first line
pub nothing_behind : (bs back : List ℕ) (k : ℕ) → k ≡ line_in bs → back ≡ drop k bs → length back < 1 → list_all is_in_line bs ≡ true
nothing_behind bs [] k at aft h = no_newline bs (ap (λ (n : ℕ). drop n bs) (sym at) ∙ sym aft)
nothing_behind bs (x ∷ xs) k at aft h = absurd (omega arith)

-- the first line, its newline and what is behind that
pub cut_there : (bs fore back : List ℕ) (k : ℕ) → k ≡ line_in bs → fore ≡ take k bs → back ≡ drop k bs → 1 ≤ length back → bs ≡ fore ++ 10 ∷ take (length back - 1) (drop 1 back)
cut_there bs fore [] k at before aft h = absurd (omega arith)
cut_there bs fore (x ∷ xs) k at before aft h =
    let newline : x ≡ 10 = newline_behind bs x xs (ap (λ (n : ℕ). drop n bs) (sym at) ∙ sym aft) in
    sym (take-append-drop k bs)
    ∙ ap (λ (ys : List ℕ). take k bs ++ ys) (sym aft)
    ∙ ap (λ (ys : List ℕ). ys ++ x ∷ xs) (sym before)
    ∙ ap (λ (y : ℕ). fore ++ y ∷ xs) newline
    ∙ ap (λ (ys : List ℕ). fore ++ 10 ∷ ys) (sym (take_rest (x ∷ xs) 1))
