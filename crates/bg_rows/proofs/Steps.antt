-- The steps of the loops over entries: what is made so far, in front of what is left.
use Rattle.std.proofs.Common.{◌≡◌, ℕ, suc, ◌+◌, ◌<◌, true, false, List, [], ◌∷◌, ◌++◌, ℤ, pos, refl, sym, ap, ◌∙◌, arith, drop, length, cond, append_assoc, append-nil, drop-cons, add-one, get_or, nat_lt, ◌≤◌, ◌⊎◌, inl, inr, take, ◌-◌}
use Rattle.std.proofs.lemmas.Bool.Decides.{nat_tests}
use Rattle.std.proofs.lemmas.List.{drop_all, take_all, length-drop}
use Rattle.std.specs.Prelude.{Result, Ok, Err}
use Rattle.bg_base.specs.declared.exact.OutOfRange.{OutOfRange}
use Rattle.bg_base.specs.Exact.{product_of, negation_of, sum_of}
use Rattle.bg_rows.specs.declared.entry.Entry.{Entry}
use Rattle.bg_rows.specs.Entries.{is_zero}
use Rattle.bg_rows.specs.declared.refused.Refused.{Refused}
use Rattle.bg_rows.specs.declared.refused.Refused.TheVariants.{Range, Memory}
use Rattle.bg_rows.specs.Rows.{Told, after, and_then, put, entry, multiples, negations, divided, merged, put_first}

pub after_after : (a b : List Entry) (x : Result (List Entry) OutOfRange) → after a (after b x) ≡ after (a ++ b) x
after_after a b (Ok ts) = ap Ok (sym (append_assoc a b ts))
after_after a b (Err e) = refl

pub after_nothing : (x : Result (List Entry) OutOfRange) → after [] x ≡ x
after_nothing (Ok ts) = refl
after_nothing (Err e) = refl

-- an entry in front is made already
pub put_made : (made : List Entry) (x : ℕ) (c : ℤ) (us : Result (List Entry) OutOfRange) → after made (and_then us (λ ts. Ok (put x c ts))) ≡ after (made ++ put x c []) us
put_made made x c (Err e) = refl
put_made made x c (Ok ts) =
    elim (is_zero c) as (λ b. after made (Ok (cond b ts (entry x c ∷ ts))) ≡ after (made ++ cond b [] (entry x c ∷ [])) (Ok ts))
    [ true ↦ rw append-nil refl | false ↦ rw append_assoc refl ]

-- where a step leaves the range the whole does
pub told_end : {A B : Type 0} (view : A → List Entry) (whole_view : B → List Entry) (result : Result B Refused) (e : Refused) (step whole : Result (List Entry) OutOfRange) → ((o : OutOfRange) → step ≡ Err o → whole ≡ Err o) → Told view (Err e) step → result ≡ Err e → Told whole_view result whole
told_end view whole_view result (Range o) step whole ended h is = rw is (ended o h)
told_end view whole_view result Memory step whole ended h is = rw is tt

-- one more multiple is made
pub multiples_step : (made : List Entry) (k : ℤ) (t : Entry) (ts : List Entry) (c : Result ℤ OutOfRange) → c ≡ product_of k t.by → (us : List Entry) → after made (multiples k (t ∷ [])) ≡ Ok us → after made (multiples k (t ∷ ts)) ≡ after us (multiples k ts)
multiples_step made k t ts (Ok c) e us h =
    rw (← e) (put_made made t.variable c (multiples k ts) ∙ ap (λ vs. after vs (multiples k ts)) (let g = rw (← e) at h in cc))
multiples_step made k t ts (Err o) e us h = absurd (let g = rw (← e) at h in cc)

pub multiples_stop : (made : List Entry) (k : ℤ) (t : Entry) (ts : List Entry) (c : Result ℤ OutOfRange) → c ≡ product_of k t.by → (o : OutOfRange) → after made (multiples k (t ∷ [])) ≡ Err o → after made (multiples k (t ∷ ts)) ≡ Err o
multiples_stop made k t ts (Ok c) e o h = absurd (let g = rw (← e) at h in cc)
multiples_stop made k t ts (Err p) e o h = rw (← e) (let g = rw (← e) at h in g)

-- the entry that no place has
abbrev pub nothing : Entry
nothing = record { variable = 0; by = pos 0 }

pub multiples_more : (made ts : List Entry) (k : ℤ) (i : ℕ) (us : List Entry) → i < length ts → after made (multiples k (get_or ts i nothing ∷ [])) ≡ Ok us → after made (multiples k (drop i ts)) ≡ after us (multiples k (drop (i + 1) ts))
multiples_more made ts k i us h e = rw (drop-cons ts i nothing h, add-one) (multiples_step made k (get_or ts i nothing) (drop (suc i) ts) (product_of k (get_or ts i nothing).by) refl us e)

pub multiples_end : (made ts : List Entry) (k : ℤ) (i : ℕ) (o : OutOfRange) → i < length ts → after made (multiples k (get_or ts i nothing ∷ [])) ≡ Err o → after made (multiples k (drop i ts)) ≡ Err o
multiples_end made ts k i o h e = rw (drop-cons ts i nothing h) (multiples_stop made k (get_or ts i nothing) (drop (suc i) ts) (product_of k (get_or ts i nothing).by) refl o e)

-- one more quotient is made
pub divided_more : (made ts : List Entry) (g i : ℕ) → i < length ts → (made ++ divided g (get_or ts i nothing ∷ [])) ++ divided g (drop (i + 1) ts) ≡ made ++ divided g (drop i ts)
divided_more made ts g i h = rw (drop-cons ts i nothing h, add-one, append_assoc) refl

-- one more negation is made
pub negations_step : (made : List Entry) (t : Entry) (ts us : List Entry) → after made (negations (t ∷ [])) ≡ Ok us → after made (negations (t ∷ ts)) ≡ after us (negations ts)
negations_step made t ts us h =
    negated (negation_of t.by) h
  where
    back : (c : ℤ) (rest : Result (List Entry) OutOfRange) → after made (and_then rest (λ vs. Ok (entry t.variable c ∷ vs))) ≡ after (made ++ (entry t.variable c ∷ [])) rest
    back c (Ok vs) = rw append_assoc refl
    back c (Err e) = refl

    negated : (n : Result ℤ OutOfRange) → after made (and_then n (λ c. Ok (entry t.variable c ∷ []))) ≡ Ok us → after made (and_then n (λ c. and_then (negations ts) (λ vs. Ok (entry t.variable c ∷ vs)))) ≡ after us (negations ts)
    negated (Ok c) h = back c (negations ts) ∙ ap (λ vs. after vs (negations ts)) (cc)
    negated (Err e) h = absurd (cc)

pub negations_stop : (made : List Entry) (t : Entry) (ts : List Entry) (o : OutOfRange) → after made (negations (t ∷ [])) ≡ Err o → after made (negations (t ∷ ts)) ≡ Err o
negations_stop made t ts o h = negated (negation_of t.by) h
  where
    negated : (n : Result ℤ OutOfRange) → after made (and_then n (λ c. Ok (entry t.variable c ∷ []))) ≡ Err o → after made (and_then n (λ c. and_then (negations ts) (λ vs. Ok (entry t.variable c ∷ vs)))) ≡ Err o
    negated (Ok c) h = absurd (cc)
    negated (Err e) h = cc

pub negations_more : (made ts : List Entry) (i : ℕ) (us : List Entry) → i < length ts → after made (negations (get_or ts i nothing ∷ [])) ≡ Ok us → after made (negations (drop i ts)) ≡ after us (negations (drop (i + 1) ts))
negations_more made ts i us h e = rw (drop-cons ts i nothing h, add-one) (negations_step made (get_or ts i nothing) (drop (suc i) ts) us e)

pub negations_end : (made ts : List Entry) (i : ℕ) (o : OutOfRange) → i < length ts → after made (negations (get_or ts i nothing ∷ [])) ≡ Err o → after made (negations (drop i ts)) ≡ Err o
negations_end made ts i o h e = rw (drop-cons ts i nothing h) (negations_stop made (get_or ts i nothing) (drop (suc i) ts) o e)

-- ---- sums

pub nlt : (a b : ℕ) → b ≤ a → nat_lt a b ≡ false
nlt a b h = grind (arith, nat_tests)

pub ylt : (a b : ℕ) → a < b → nat_lt a b ≡ true
ylt a b h = grind (arith, nat_tests)

put_first_after : (made : List Entry) (t : Entry) (rest : Result (List Entry) OutOfRange) → after made (put_first t rest) ≡ after (made ++ (t ∷ [])) rest
put_first_after made t (Ok ts) = rw append_assoc refl
put_first_after made t (Err e) = refl

pub lower_left : (made a b : List Entry) (i j : ℕ) → i < length a → j < length b → (get_or a i nothing).variable < (get_or b j nothing).variable → after made (merged (drop i a) (drop j b)) ≡ after (made ++ (get_or a i nothing ∷ [])) (merged (drop (i + 1) a) (drop j b))
lower_left made a b i j h k lt =
    rw (drop-cons a i nothing h, add-one, drop-cons b j nothing k)
    (rw (ylt _ _ lt) (put_first_after made (get_or a i nothing) (merged (drop (suc i) a) (get_or b j nothing ∷ drop (suc j) b))))

pub lower_right : (made a b : List Entry) (i j : ℕ) → i < length a → j < length b → (get_or b j nothing).variable < (get_or a i nothing).variable → after made (merged (drop i a) (drop j b)) ≡ after (made ++ (get_or b j nothing ∷ [])) (merged (drop i a) (drop (j + 1) b))
lower_right made a b i j h k lt =
    rw (drop-cons a i nothing h, drop-cons b j nothing k, add-one)
    (rw (nlt (get_or a i nothing).variable (get_or b j nothing).variable (omega arith), ylt _ _ lt)
    (put_first_after made (get_or b j nothing) (merged (get_or a i nothing ∷ drop (suc i) a) (drop (suc j) b))))

abbrev summed : Entry → Entry → List Entry → Result (List Entry) OutOfRange
summed t u made = and_then (sum_of t.by u.by) (λ c. Ok (made ++ put t.variable c []))

pub same_left : (made a b us : List Entry) (i j : ℕ) → i < length a → j < length b → (get_or b j nothing).variable ≤ (get_or a i nothing).variable → (get_or a i nothing).variable ≤ (get_or b j nothing).variable → summed (get_or a i nothing) (get_or b j nothing) made ≡ Ok us → after made (merged (drop i a) (drop j b)) ≡ after us (merged (drop (i + 1) a) (drop (j + 1) b))
same_left made a b us i j h k p q e =
    rw (drop-cons a i nothing h, drop-cons b j nothing k, add-one, add-one)
    (rw (nlt (get_or a i nothing).variable (get_or b j nothing).variable p, nlt (get_or b j nothing).variable (get_or a i nothing).variable q)
    (of_sum (sum_of (get_or a i nothing).by (get_or b j nothing).by) e))
  where
    of_sum : (s : Result ℤ OutOfRange) → and_then s (λ c. Ok (made ++ put (get_or a i nothing).variable c [])) ≡ Ok us → after made (and_then s (λ c. and_then (merged (drop (suc i) a) (drop (suc j) b)) (λ ts. Ok (put (get_or a i nothing).variable c ts)))) ≡ after us (merged (drop (suc i) a) (drop (suc j) b))
    of_sum (Ok c) e = put_made made (get_or a i nothing).variable c (merged (drop (suc i) a) (drop (suc j) b)) ∙ ap (λ vs. after vs (merged (drop (suc i) a) (drop (suc j) b))) (cc)
    of_sum (Err o) e = absurd (cc)

pub same_stop : (made a b : List Entry) (o : OutOfRange) (i j : ℕ) → i < length a → j < length b → (get_or b j nothing).variable ≤ (get_or a i nothing).variable → (get_or a i nothing).variable ≤ (get_or b j nothing).variable → summed (get_or a i nothing) (get_or b j nothing) made ≡ Err o → after made (merged (drop i a) (drop j b)) ≡ Err o
same_stop made a b o i j h k p q e =
    rw (drop-cons a i nothing h, drop-cons b j nothing k)
    (rw (nlt (get_or a i nothing).variable (get_or b j nothing).variable p, nlt (get_or b j nothing).variable (get_or a i nothing).variable q)
    (of_sum (sum_of (get_or a i nothing).by (get_or b j nothing).by) e))
  where
    of_sum : (s : Result ℤ OutOfRange) → and_then s (λ c. Ok (made ++ put (get_or a i nothing).variable c [])) ≡ Err o → after made (and_then s (λ c. and_then (merged (drop (suc i) a) (drop (suc j) b)) (λ ts. Ok (put (get_or a i nothing).variable c ts)))) ≡ Err o
    of_sum (Ok c) e = absurd (cc)
    of_sum (Err p) e = cc

pub merged_nothing : (ts : List Entry) → merged ts [] ≡ Ok ts
merged_nothing [] = refl
merged_nothing (t ∷ ts) = rw (merged_nothing ts) refl

-- one of the two is used up
pub rest_is : (made a b : List Entry) (i j : ℕ) → (length a ≤ i) ⊎ (length b ≤ j) → after made (merged (drop i a) (drop j b)) ≡ Ok (made ++ drop i a ++ drop j b)
rest_is made a b i j (inl h) = rw (drop_all i a h, append-nil) refl
rest_is made a b i j (inr h) = rw (drop_all j b h, merged_nothing (drop i a), append-nil) refl

pub ruleset merging = (lower_left, lower_right, same_left, same_stop)

pub whole : (xs : List Entry) (i : ℕ) → take (length xs - i) (drop i xs) ≡ drop i xs
whole xs i = take_all (length xs - i) (drop i xs) (omega (arith, length-drop i xs))
