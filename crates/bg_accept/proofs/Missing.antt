-- How lines of the text are read, and those whose numbers are too large.
use Rattle.std.proofs.Common.{◌≡◌, ℕ, zero, suc, ◌+◌, ◌≤◌, Bool, true, false, List, [], ◌∷◌, length, map, Option, Some, None, refl, sym, ap, ◌∙◌, subst, ◌⊎◌, inl, inr, length-append, arith}
use Rattle.std.specs.Prelude.{slice_get, nat_lt, ◌&&◌, if◌then◌else◌, option_map}
use Rattle.std.proofs.lemmas.Bool.{ltb-false, le-ltb}
use Rattle.std.proofs.lemmas.List.{length-map}
use Rattle.bg_ast.specs.Values.{Ty, IntTy, BoolTy, UserTy, MapTy}
use Rattle.bg_ast.specs.Syntax.{Fun}
use Rattle.bg_kinds.specs.Views.{ref_in}
use Rattle.bg_terms.specs.Terms.{Term}
use Rattle.bg_terms.specs.Typed.{types_with, type_of}
use Rattle.bg_terms.specs.Instances.{Congruent, AtIndex, Elsewhere, Apart}
use Rattle.bg_numbered.specs.Lines.{Line, Pick, Names, Says, pick_by, names_by, is_any, is_there}
use Rattle.bg_term_table.specs.Lines.{line_of}
use Rattle.bg_term_table.specs.Views as table
use Rattle.bg_term_table.specs.declared.line.Line as code
use Rattle.bg_task.specs.Grown.{IsOver}
use Rattle.bg_task.specs.declared.growing.Grown.{Grown}
use Rattle.bg_certtext.specs.declared.text.Stated.{Stated}
use Rattle.bg_accept.specs.Lines.{then_, line_said, if_there, line_in}
use Rattle.bg_accept.specs.Read.{number_in, both_of, two_in, three_in, IsRead}

-- ---- numbers

one_none : (n a : ℕ) → number_in n a ≡ None → n ≤ a
one_none n a h = ltb-false a n (by (nat_lt a n) refl h)
  where
    by : (b : Bool) → nat_lt a n ≡ b → (if b then Some a else None) ≡ None → nat_lt a n ≡ false
    by true e g = absurd (let bad : ⊥ = cc in bad)
    by false e g = e

one_some : (n a i : ℕ) → number_in n a ≡ Some i → a ≡ i
one_some n a i h = by (nat_lt a n) h
  where
    by : (b : Bool) → (if b then Some a else None) ≡ Some i → a ≡ i
    by true g = let e : a ≡ i = cc in e
    by false g = absurd (let bad : ⊥ = cc in bad)

both_none : {A B : Type 0} (o : Option A) (q : Option B) → both_of o q ≡ None → (o ≡ None) ⊎ (q ≡ None)
both_none None q h = inl refl
both_none (Some x) None h = inr refl
both_none (Some x) (Some y) h = absurd (let bad : ⊥ = cc in bad)

both_some : {A B : Type 0} (o : Option A) (q : Option B) (z : A × B) → both_of o q ≡ Some z → (o ≡ Some z.0) × (q ≡ Some z.1)
both_some {A = A} {B = B} None q z h = absurd (let bad : ⊥ = cc in bad)
both_some {A = A} {B = B} (Some x) None z h = absurd (let bad : ⊥ = cc in bad)
both_some {A = A} {B = B} (Some x) (Some y) z h =
    let e : (x, y) ≡ z = cc in
    (ap (λ (w : A × B). Some w.0) e, ap (λ (w : A × B). Some w.1) e)

two_none : (n a b : ℕ) → two_in n a b ≡ None → (n ≤ a) ⊎ (n ≤ b)
two_none n a b h = by (both_none (number_in n a) (number_in n b) h)
  where
    by : (number_in n a ≡ None) ⊎ (number_in n b ≡ None) → (n ≤ a) ⊎ (n ≤ b)
    by (inl e) = inl (one_none n a e)
    by (inr e) = inr (one_none n b e)

two_some : (n a b : ℕ) (z : ℕ × ℕ) → two_in n a b ≡ Some z → (a ≡ z.0) × (b ≡ z.1)
two_some n a b z h =
    let p = both_some (number_in n a) (number_in n b) z h in
    (one_some n a z.0 p.0, one_some n b z.1 p.1)

three_none : (n a b c : ℕ) → three_in n a b c ≡ None → (n ≤ a) ⊎ ((n ≤ b) ⊎ (n ≤ c))
three_none n a b c h = by (both_none (number_in n a) (two_in n b c) h)
  where
    by : (number_in n a ≡ None) ⊎ (two_in n b c ≡ None) → (n ≤ a) ⊎ ((n ≤ b) ⊎ (n ≤ c))
    by (inl e) = inl (one_none n a e)
    by (inr e) = inr (two_none n b c e)

three_some : (n a b c : ℕ) (z : ℕ × (ℕ × ℕ)) → three_in n a b c ≡ Some z → (a ≡ z.0) × ((b ≡ z.1.0) × (c ≡ z.1.1))
three_some n a b c z h =
    let p = both_some (number_in n a) (two_in n b c) z h in
    (one_some n a z.0 p.0, two_some n b c z.1 p.1)

-- ---- what isn't there

past : {A : Type 0} (xs : List A) (a : ℕ) → length xs ≤ a → slice_get xs a ≡ None
past [] a h = refl
past (x ∷ xs) zero h = absurd (omega (arith, h))
past (x ∷ xs) (suc a) h = past xs a (omega (arith, h))

no_term : (o : Option Ty) (m : ℕ) → is_any (pick_by o m None) ≡ false
no_term None m = refl
no_term (Some IntTy) m = refl
no_term (Some BoolTy) m = refl
no_term (Some (UserTy u)) m = refl
no_term (Some (MapTy [] t)) m = refl
no_term (Some (MapTy (k ∷ ks) t)) m = refl

no_other : (o : Option Ty) (n m k : ℕ) → is_any (names_by o None n m k) ≡ false
no_other None n m k = refl
no_other (Some IntTy) n m k = refl
no_other (Some BoolTy) n m k = refl
no_other (Some (UserTy u)) n m k = refl
no_other (Some (MapTy [] t)) n m k = refl
no_other (Some (MapTy (l ∷ ls) t)) n m k = refl

or_not : (a b : Bool) → (a ≡ false) ⊎ (b ≡ false) → (a && b) ≡ false
or_not a b (inl h) = ap (λ c. c && b) h
or_not false b (inr h) = refl
or_not true b (inr h) = h

module _ (incs : List Ty) (ts : List Term) where
  none_of : (l : Line) → is_there incs ts l ≡ false → if_there incs ts l ≡ None
  none_of l h = ap (λ b. if b then Some l else None) h

  module _ (n : ℕ) (whole : n ≡ length incs + length ts) where
    no_type : (m : ℕ) → n ≤ m → slice_get (types_with incs ts) m ≡ None
    no_type m h =
        let a = length-append incs (map type_of ts) in
        let b = length-map ts type_of in
        past (types_with incs ts) m (omega (arith, a, b, whole, h))

    not_below : (a : ℕ) → n ≤ a → nat_lt a (length ts) ≡ false
    not_below a h = le-ltb a (length ts) (omega (arith, whole, h))

    pub no_pick : (m a : ℕ) → (n ≤ m) ⊎ (n ≤ a) → is_there incs ts (Pick m a) ≡ false
    no_pick m a (inl h) = ap (λ o. is_any (pick_by o m (slice_get ts a))) (no_type m h)
    no_pick m a (inr h) =
        ap (λ o. is_any (pick_by (slice_get (types_with incs ts) m) m o)) (past ts a (omega (arith, whole, h))) ∙ no_term (slice_get (types_with incs ts) m) m

    pub no_names : (m o : ℕ) → (n ≤ m) ⊎ (n ≤ o) → is_there incs ts (Names m o) ≡ false
    no_names m o (inl h) =
        ap (λ x. is_any (names_by x (slice_get (types_with incs ts) o) (length incs + length ts) m o)) (no_type m h)
    no_names m o (inr h) =
        ap (λ x. is_any (names_by (slice_get (types_with incs ts) m) x (length incs + length ts) m o)) (no_type o h)
        ∙ no_other (slice_get (types_with incs ts) m) (length incs + length ts) m o

    pub no_two : (a b : ℕ) → (n ≤ a) ⊎ (n ≤ b) → (nat_lt a (length ts) && nat_lt b (length ts)) ≡ false
    no_two a b (inl h) = or_not (nat_lt a (length ts)) (nat_lt b (length ts)) (inl (not_below a h))
    no_two a b (inr h) = or_not (nat_lt a (length ts)) (nat_lt b (length ts)) (inr (not_below b h))

    pub no_three : (a b c : ℕ) → (n ≤ a) ⊎ ((n ≤ b) ⊎ (n ≤ c)) → (nat_lt a (length ts) && (nat_lt b (length ts) && nat_lt c (length ts))) ≡ false
    no_three a b c (inl h) =
        or_not (nat_lt a (length ts)) (nat_lt b (length ts) && nat_lt c (length ts)) (inl (not_below a h))
    no_three a b c (inr h) =
        or_not (nat_lt a (length ts)) (nat_lt b (length ts) && nat_lt c (length ts)) (inr (no_two b c h))

-- so many incarnations and terms
pub over_whole : (fs : List Fun) (incs : List Ty) (ts : List Term) (g : Grown) (n : ℕ) → IsOver fs incs ts g → n ≡ length g.incarnations.now + length g.terms.items → n ≡ length incs + length ts
over_whole fs incs ts g n over e =
    let a = ap (λ xs. length xs) over.incarnations in
    let b = length-map g.incarnations.now ref_in in
    let c = ap (λ xs. length xs) over.terms in
    let d = length-map g.terms.items (table.term_of fs) in
    omega (arith, a, b, c, d, e)

-- ---- what is read

abbrev pub then_line : List Ty → List Term → Option Line → Option Line
then_line incs ts o = then_ o (if_there incs ts)

-- two numbers
pub read_two : (F : ℕ → ℕ → Line) (L : ℕ → ℕ → code.Line) (K : ℕ → ℕ → Stated) → ((a b : ℕ) → line_said (K a b) ≡ Some (F a b)) → ((a b : ℕ) → line_of (L a b) ≡ F a b) → (n a b : ℕ) → ((incs : List Ty) (ts : List Term) → n ≡ length incs + length ts → (n ≤ a) ⊎ (n ≤ b) → is_there incs ts (F a b) ≡ false) → (s : Stated) (o : Option code.Line) → s ≡ K a b → o ≡ option_map (λ p. L p.0 p.1) (two_in n a b) → IsRead n s o
read_two F L K said same n a b gone s o e g = subst (IsRead n s) (sym g) (by (two_in n a b) refl)
  where
    by : (q : Option (ℕ × ℕ)) → two_in n a b ≡ q → IsRead n s (option_map (λ p. L p.0 p.1) q)
    by None k =
        λ incs ts whole.
        ap (line_in incs ts) e
        ∙ (ap (λ x. then_line incs ts x) (said a b) ∙ none_of incs ts (F a b) (gone incs ts whole (two_none n a b k)))
    by (Some z) k =
        let p = two_some n a b z k in
        ap line_said e ∙ (said a b ∙ (ap (λ x. Some (F x b)) p.0 ∙ (ap (λ y. Some (F z.0 y)) p.1 ∙ ap Some (sym (same z.0 z.1)))))

-- three numbers
pub read_three : (F : ℕ → ℕ → ℕ → Line) (L : ℕ → ℕ → ℕ → code.Line) (K : ℕ → ℕ → ℕ → Stated) → ((a b c : ℕ) → line_said (K a b c) ≡ Some (F a b c)) → ((a b c : ℕ) → line_of (L a b c) ≡ F a b c) → (n a b c : ℕ) → ((incs : List Ty) (ts : List Term) → n ≡ length incs + length ts → (n ≤ a) ⊎ ((n ≤ b) ⊎ (n ≤ c)) → is_there incs ts (F a b c) ≡ false) → (s : Stated) (o : Option code.Line) → s ≡ K a b c → o ≡ option_map (λ p. L p.0 p.1.0 p.1.1) (three_in n a b c) → IsRead n s o
read_three F L K said same n a b c gone s o e g = subst (IsRead n s) (sym g) (by (three_in n a b c) refl)
  where
    by : (q : Option (ℕ × (ℕ × ℕ))) → three_in n a b c ≡ q → IsRead n s (option_map (λ p. L p.0 p.1.0 p.1.1) q)
    by None k =
        λ incs ts whole.
        ap (line_in incs ts) e
        ∙ (ap (λ x. then_line incs ts x) (said a b c) ∙ none_of incs ts (F a b c) (gone incs ts whole (three_none n a b c k)))
    by (Some z) k =
        let p = three_some n a b c z k in
        ap line_said e
        ∙ (said a b c
        ∙ (ap (λ x. Some (F x b c)) p.0 ∙ (ap (λ y. Some (F z.0 y c)) p.1.0 ∙ (ap (λ w. Some (F z.0 z.1.0 w)) p.1.1 ∙ ap Some (sym (same z.0 z.1.0 z.1.1))))))
