-- What marks say behind marking.
use Rattle.std.proofs.Common.{◌≡◌, ℕ, zero, suc, Bool, true, false, List, [], ◌∷◌, length, refl, sym, ap, ◌∙◌, arith, nat_lt}
use Rattle.std.specs.Prelude.{◌&&◌, ◌||◌, ◌==◌, slice_set, get_or}
use Rattle.std.proofs.lemmas.Bool.Decides.{nat_tests}
use Rattle.std.proofs.Math.Dec.{eqb-zero-suc, eqb-suc-zero, eqb-suc-suc}
use Rattle.std.proofs.lemmas.List.{length-set}
use Rattle.bg_ast.specs.Syntax.{Var, Global, Local}
use Rattle.bg_sense.specs.Variables.{var_eq, is_among}
use Rattle.bg_changes.specs.Marks.{Marks, has_mark, with_mark, with_marks}

-- a variable that there is, of so many globals and so many in the frame
abbrev pub is_in : ℕ → ℕ → Var → Bool
is_in g f (Global k) = nat_lt k g
is_in g f (Local k) = nat_lt k f

pub record Sized (g f : ℕ) (m : Marks) : Type 0 where
  pub globals : length m.globals ≡ g
  pub frame : length m.frame ≡ f

none : (x b : Bool) → ((x && false) || b) ≡ b
none true b = refl
none false b = refl

below : (n : ℕ) → nat_lt zero (suc n) ≡ true
below n = grind (arith, nat_tests)

not_below : (j : ℕ) → nat_lt j zero ≡ false
not_below j = grind (arith, nat_tests)

next_below : (j n : ℕ) → nat_lt (suc j) (suc n) ≡ nat_lt j n
next_below j n = grind (arith, nat_tests)

set_read : (bs : List Bool) (k j : ℕ) → get_or (slice_set bs k true) j false ≡ ((nat_lt j (length bs) && (k == j)) || get_or bs j false)
set_read [] k j = sym (ap (λ b. (b && (k == j)) || false) (not_below j))
set_read (b ∷ bs) zero zero = sym (ap (λ c. (c && true) || b) (below (length bs)))
set_read (b ∷ bs) zero (suc j) =
    sym (ap (λ c. (nat_lt (suc j) (length (b ∷ bs)) && c) || get_or bs j false) (eqb-zero-suc j) ∙ none (nat_lt (suc j) (length (b ∷ bs))) (get_or bs j false))
set_read (b ∷ bs) (suc k) zero =
    sym (ap (λ c. (nat_lt zero (length (b ∷ bs)) && c) || b) (eqb-suc-zero k) ∙ none (nat_lt zero (length (b ∷ bs))) b)
set_read (b ∷ bs) (suc k) (suc j) =
    set_read bs k j
    ∙ sym (ap (λ c. (c && (suc k == suc j)) || get_or bs j false) (next_below j (length bs))
    ∙ ap (λ c. (nat_lt j (length bs) && c) || get_or bs j false) (eqb-suc-suc k j))

pub mark_sized : (g f : ℕ) (x : Var) (m : Marks) → Sized g f m → Sized g f (with_mark x m)
mark_sized g f (Global k) m s = record { globals = length-set m.globals k true ∙ s.globals; frame = s.frame }
mark_sized g f (Local k) m s = record { globals = s.globals; frame = length-set m.frame k true ∙ s.frame }

mark_read : (g f : ℕ) (x y : Var) (m : Marks) → Sized g f m → has_mark (with_mark x m) y ≡ ((is_in g f y && var_eq x y) || has_mark m y)
mark_read g f (Global k) (Global j) m s = set_read m.globals k j ∙ ap (λ n. (nat_lt j n && (k == j)) || get_or m.globals j false) s.globals
mark_read g f (Global k) (Local j) m s = sym (none (is_in g f (Local j)) (has_mark m (Local j)))
mark_read g f (Local k) (Global j) m s = sym (none (is_in g f (Global j)) (has_mark m (Global j)))
mark_read g f (Local k) (Local j) m s = set_read m.frame k j ∙ ap (λ n. (nat_lt j n && (k == j)) || get_or m.frame j false) s.frame

-- what is marked in two steps
pub two : (i a b g x h : Bool) → h ≡ ((i && b) || x) → x ≡ ((i && a) || g) → h ≡ ((i && (a || b)) || g)
two true true b g x h p q = p ∙ (ap (λ c. b || c) q ∙ last b)
  where
    last : (b : Bool) → (b || true) ≡ true
    last true = refl
    last false = refl
two true false true g x h p q = p
two true false false g x h p q = p ∙ q
two false a b g x h p q = p ∙ q

pub marks_sized : (g f : ℕ) (xs : List Var) (m : Marks) → Sized g f m → Sized g f (with_marks xs m)
marks_sized g f [] m s = s
marks_sized g f (x ∷ xs) m s = marks_sized g f xs (with_mark x m) (mark_sized g f x m s)

pub marks_read : (g f : ℕ) (xs : List Var) (y : Var) (m : Marks) → Sized g f m → has_mark (with_marks xs m) y ≡ ((is_in g f y && is_among xs y) || has_mark m y)
marks_read g f [] y m s = sym (none (is_in g f y) (has_mark m y))
marks_read g f (x ∷ xs) y m s =
    two (is_in g f y) (var_eq x y) (is_among xs y) _ _ _ (marks_read g f xs y (with_mark x m) (mark_sized g f x m s)) (mark_read g f x y m s)
