-- Denials of denials, and rows with their denials.
use Rattle.std.proofs.Common.{◌≡◌, ℕ, Bool, true, false, List, [], ◌∷◌, ℤ, negsuc, ◌-ℤ◌, neg_ℤ, refl, sym, ap, ◌∙◌, arith, subst}
use Rattle.std.specs.Prelude.{◌==◌, ◌&&◌, Result, Ok}
use Rattle.std.specs.Ordering.{int_eq}
use Rattle.std.proofs.lemmas.Int.{ints}
use Rattle.std.proofs.lemmas.Bool.Decides.{nat_tests}
use Rattle.bg_base.specs.declared.exact.Op.TheVariants as way
use Rattle.bg_base.specs.declared.exact.OutOfRange.{OutOfRange}
use Rattle.bg_base.specs.Exact.{negation_of, difference_of}
use Rattle.bg_ast.specs.Syntax as s
use Rattle.bg_rows.specs.declared.entry.Entry.{Entry}
use Rattle.bg_rows.specs.Rows.{RowOf, entry, negations, denied}
use Rattle.bg_rows.proofs.Meaning.{first_of_two, negation_is, difference_is}
use Rattle.bg_formula.specs.Atoms.{AtomOf, IsTruth, IsRow, entries_eq, row_eq}
use Rattle.bg_formula.specs.Meaning.{AtomsAgree}
use Rattle.bg_formed.specs.Agree.{AreRows}
use Rattle.bg_formed.proofs.Below.{and_left, and_right, and_both}
use Rattle.bg_linear.specs.Lins.{LinOf, together}
use Rattle.bg_linear.specs.Forms.{linear}
use Rattle.bg_linear.specs.Relations.{bounded, compared, alone, both_ways, related, relation}

-- ---- rows that are equal

same_entry : (t u : Entry) → t.variable ≡ u.variable → t.by ≡ u.by → t ≡ u
same_entry t u h k = λ i. record { variable = h i; by = k i }

same_row : (r e : RowOf) → r.entries ≡ e.entries → r.bound ≡ e.bound → r ≡ e
same_row r e h k = λ i. record { entries = h i; bound = k i }

same_number : (x y : ℕ) → (x == y) ≡ true → x ≡ y
same_number x y h = grind (arith, nat_tests)

same_whole : (x y : ℤ) → int_eq x y ≡ true → x ≡ y
same_whole x y h = grind (arith, ints)

same_entries : (ts us : List Entry) → entries_eq ts us ≡ true → ts ≡ us
same_entries [] [] h = refl
same_entries [] (u ∷ us) h = absurd (let bad : ⊥ = cc in bad)
same_entries (t ∷ ts) [] h = absurd (let bad : ⊥ = cc in bad)
same_entries (t ∷ ts) (u ∷ us) h =
    let more = and_right (t.variable == u.variable) (int_eq t.by u.by && entries_eq ts us) h in
    let first = same_entry t u (same_number t.variable u.variable (and_left (t.variable == u.variable) (int_eq t.by u.by && entries_eq ts us) h)) (same_whole t.by u.by (and_left (int_eq t.by u.by) (entries_eq ts us) more)) in
    let rest = same_entries ts us (and_right (int_eq t.by u.by) (entries_eq ts us) more) in
    λ i. first i ∷ rest i

pub same_rows : (r s : RowOf) → row_eq r s ≡ true → r ≡ s
same_rows r s h =
    same_row r s (same_entries r.entries s.entries (and_left (entries_eq r.entries s.entries) (int_eq r.bound s.bound) h)) (same_whole r.bound s.bound (and_right (entries_eq r.entries s.entries) (int_eq r.bound s.bound) h))

number_itself : (n : ℕ) → (n == n) ≡ true
number_itself n = grind (arith, nat_tests)

whole_itself : (z : ℤ) → int_eq z z ≡ true
whole_itself z = grind (arith, ints)

entries_themselves : (ts : List Entry) → entries_eq ts ts ≡ true
entries_themselves [] = refl
entries_themselves (t ∷ ts) =
    and_both (t.variable == t.variable) _ (number_itself t.variable) (and_both (int_eq t.by t.by) _ (whole_itself t.by) (entries_themselves ts))

pub row_itself : (r : RowOf) → row_eq r r ≡ true
row_itself r = and_both (entries_eq r.entries r.entries) _ (entries_themselves r.entries) (whole_itself r.bound)

-- ---- entries

neg_back : (a b c : ℤ) → b ≡ neg_ℤ a → c ≡ neg_ℤ b → c ≡ a
neg_back a b c h k = omega (arith, ints, h, k)

neg_one : (a b c : ℤ) → c ≡ neg_ℤ a → c ≡ neg_ℤ b → a ≡ b
neg_one a b c h k = omega (arith, ints, h, k)

-- what negations are made of
record Negated (t : Entry) (ts us : List Entry) : Type 0 where
  pub by : ℤ
  pub rest : List Entry
  pub first : by ≡ neg_ℤ t.by
  pub more : negations ts ≡ Ok rest
  pub is : us ≡ entry t.variable by ∷ rest

negated : (t : Entry) (ts us : List Entry) → negations (t ∷ ts) ≡ Ok us → Negated t ts us
negated t ts us h =
    let one = first_of_two (negation_of t.by) _ us h in
    let two = first_of_two (negations ts) _ us one.2 in
    record { by = one.0; rest = two.0; first = negation_is t.by one.0 one.1; more = two.1; is = cc }

negations_back : (ts us vs : List Entry) → negations ts ≡ Ok us → negations us ≡ Ok vs → vs ≡ ts
negations_back [] us vs h k = let none : us ≡ [] = cc in let g : negations [] ≡ Ok vs = subst (λ x. negations x ≡ Ok vs) none k in cc
negations_back (t ∷ ts) us vs h k =
    let a = negated t ts us h in
    let b = negated (entry t.variable a.by) a.rest vs (subst (λ x. negations x ≡ Ok vs) a.is k) in
    let first = same_entry (entry t.variable b.by) t refl (neg_back t.by a.by b.by a.first b.first) in
    let rest = negations_back ts a.rest b.rest a.more b.more in
    b.is ∙ (λ i. first i ∷ rest i)

negations_one : (ts us vs : List Entry) → negations ts ≡ Ok vs → negations us ≡ Ok vs → ts ≡ us
negations_one [] [] vs h k = refl
negations_one [] (u ∷ us) vs h k = absurd (let b = negated u us vs k in let e = b.is in let bad : ⊥ = cc in bad)
negations_one (t ∷ ts) [] vs h k = absurd (let a = negated t ts vs h in let e = a.is in let bad : ⊥ = cc in bad)
negations_one (t ∷ ts) (u ∷ us) vs h k =
    let a = negated t ts vs h in
    let b = negated u us vs k in
    let e : entry t.variable a.by ∷ a.rest ≡ entry u.variable b.by ∷ b.rest = sym a.is ∙ b.is in
    let one : entry t.variable a.by ≡ entry u.variable b.by = cc in
    let two : a.rest ≡ b.rest = cc in
    let first = same_entry t u (ap (λ x. x.variable) one) (neg_one t.by u.by b.by (sym (ap (λ x. x.by) one) ∙ a.first) b.first) in
    let rest = negations_one ts us b.rest (a.more ∙ ap Ok two) b.more in
    λ i. first i ∷ rest i

-- ---- rows

record Denied (r d : RowOf) : Type 0 where
  pub entries : negations r.entries ≡ Ok d.entries
  pub bound : d.bound ≡ negsuc 0 -ℤ r.bound

is_denied : (r d : RowOf) → denied r ≡ Ok d → Denied r d
is_denied r d h =
    let one = first_of_two (negations r.entries) _ d h in
    let two = first_of_two (difference_of (negsuc 0) r.bound) _ d one.2 in
    let is : d ≡ record { entries = one.0; bound = two.0 } = cc in
    record { entries = one.1 ∙ sym (ap (λ x. Ok x.entries) is); bound = ap (λ x. x.bound) is ∙ difference_is (negsuc 0) r.bound two.0 two.1 }

bound_back : (a b c : ℤ) → b ≡ negsuc 0 -ℤ a → c ≡ negsuc 0 -ℤ b → c ≡ a
bound_back a b c h k = omega (arith, ints, h, k)

bound_one : (a b c : ℤ) → c ≡ negsuc 0 -ℤ a → c ≡ negsuc 0 -ℤ b → a ≡ b
bound_one a b c h k = omega (arith, ints, h, k)

bound_other : (a : ℤ) → a ≡ negsuc 0 -ℤ a → ⊥
bound_other a h = omega (arith, ints, h)

-- the denial of a row's denial is the row
pub denied_back : (r d e : RowOf) → denied r ≡ Ok d → denied d ≡ Ok e → e ≡ r
denied_back r d e h k =
    let a = is_denied r d h in
    let b = is_denied d e k in
    same_row e r (negations_back r.entries d.entries e.entries a.entries b.entries) (bound_back r.bound d.bound e.bound a.bound b.bound)

-- rows with the same denial are the same
pub denied_one : (r s d : RowOf) → denied r ≡ Ok d → denied s ≡ Ok d → r ≡ s
denied_one r s d h k =
    let a = is_denied r d h in
    let b = is_denied s d k in
    same_row r s (negations_one r.entries s.entries d.entries a.entries b.entries) (bound_one r.bound s.bound d.bound a.bound b.bound)

-- a row has one denial
pub denied_once : (r d e : RowOf) → denied r ≡ Ok d → denied r ≡ Ok e → d ≡ e
denied_once r d e h k = cc

-- and isn't its own
pub denied_other : (r : RowOf) → denied r ≡ Ok r → ⊥
denied_other r h = bound_other r.bound (is_denied r r h).bound

-- ---- the rows of a relation

compared_agrees : (strict : Bool) (f g : LinOf) (a : AtomOf) → compared strict f g ≡ Ok a → AtomsAgree (a ∷ []) × AreRows (a ∷ [])
compared_agrees strict f g a h =
    let one = first_of_two (together way.Minus f g) _ a h in
    let two = first_of_two (bounded strict one.0) _ a one.2 in
    let three = first_of_two (denied two.0) _ a two.2 in
    let is : IsRow two.0 three.0 ≡ a = cc in
    subst (λ x. AtomsAgree (x ∷ []) × AreRows (x ∷ [])) is ((three.1, tt), tt)

alone_agrees : (strict : Bool) (f g : LinOf) (rs : List AtomOf) → alone (compared strict f g) ≡ Ok rs → AtomsAgree rs × AreRows rs
alone_agrees strict f g rs h =
    let one = first_of_two (compared strict f g) _ rs h in
    let is : one.0 ∷ [] ≡ rs = cc in
    subst (λ x. AtomsAgree x × AreRows x) is (compared_agrees strict f g one.0 one.1)

two_agree : (a b : AtomOf) → AtomsAgree (a ∷ []) × AreRows (a ∷ []) → AtomsAgree (b ∷ []) × AreRows (b ∷ []) → AtomsAgree (a ∷ b ∷ []) × AreRows (a ∷ b ∷ [])
two_agree (IsTruth x) b h k = absurd h.1
two_agree (IsRow r d) b h k = ((h.0.0, k.0), k.1)

both_agree : (f g : LinOf) (rs : List AtomOf) → both_ways f g ≡ Ok rs → AtomsAgree rs × AreRows rs
both_agree f g rs h =
    let one = first_of_two (compared false f g) _ rs h in
    let two = first_of_two (compared false g f) _ rs one.2 in
    let is : one.0 ∷ two.0 ∷ [] ≡ rs = cc in
    subst (λ x. AtomsAgree x × AreRows x) is (two_agree one.0 two.0 (compared_agrees false f g one.0 one.1) (compared_agrees false g f two.0 two.1))

none_agree : (rs : List AtomOf) → ◌≡◌ {A = Result (List AtomOf) OutOfRange} (Ok []) (Ok rs) → AtomsAgree rs × AreRows rs
none_agree rs h = let is : [] ≡ rs = cc in subst (λ x. AtomsAgree x × AreRows x) is (tt, tt)

related_agrees : (op : s.Op) (f g : LinOf) (rs : List AtomOf) → related op f g ≡ Ok rs → AtomsAgree rs × AreRows rs
related_agrees s.AtMost f g rs h = alone_agrees false f g rs h
related_agrees s.Less f g rs h = alone_agrees true f g rs h
related_agrees s.AtLeast f g rs h = alone_agrees false g f rs h
related_agrees s.Greater f g rs h = alone_agrees true g f rs h
related_agrees s.Equal f g rs h = both_agree f g rs h
related_agrees s.Unequal f g rs h = both_agree f g rs h
related_agrees s.And f g rs h = none_agree rs h
related_agrees s.Or f g rs h = none_agree rs h
related_agrees s.Implies f g rs h = none_agree rs h
related_agrees s.Iff f g rs h = none_agree rs h
related_agrees s.Plus f g rs h = none_agree rs h
related_agrees s.Minus f g rs h = none_agree rs h
related_agrees s.Times f g rs h = none_agree rs h

-- each is a row with its denial
pub relation_agrees : (op : s.Op) (a b : s.Ex) (rs : List AtomOf) → relation op a b ≡ Ok rs → AtomsAgree rs × AreRows rs
relation_agrees op a b rs h =
    let one = first_of_two (linear a) _ rs h in
    let two = first_of_two (linear b) _ rs one.2 in
    related_agrees op one.0 two.0 rs two.2
