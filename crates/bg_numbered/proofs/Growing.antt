-- One term more in a table of terms.
use Rattle.std.proofs.Common.{◌≡◌, ◌⊎◌, ℕ, zero, suc, ◌+◌, true, List, [], ◌∷◌, ◌++◌, length, Option, Some, None, refl, sym, ap, ◌∙◌, subst, arith, inl, inr, ⊎_elim}
use Rattle.std.specs.Prelude.{slice_get}
use Rattle.std.proofs.lemmas.List.{append-nil, append_assoc}
use Rattle.bg_ast.specs.Values.{Ty}
use Rattle.bg_ast.specs.Syntax.{Ex, Exs, Read, Local, Fun}
use Rattle.bg_sense.specs.Typed.{AreLinear}
use Rattle.bg_terms.specs.Terms.{Head, Term, are_below}
use Rattle.bg_terms.specs.Flat.{IsTerm, IsFlat, AreFlat}
use Rattle.bg_terms.specs.Typed.{HeadHasType, types_with}
use Rattle.bg_terms.proofs.Typed.{at_back}
use Rattle.bg_terms.proofs.Stays.{flat_stays, flats_stay, head_stays}
use Rattle.bg_numbered.specs.Fair.{FairTerms, Grows}
use Rattle.bg_numbered.specs.Put.{found_from, made, with_by, place_by, with_term, place_term}
use Rattle.bg_numbered.proofs.Below.{in_order_more}
use Rattle.bg_numbered.proofs.Found.{found_at}

pub stays : (ts : List Term) → Grows ts ts
stays ts = ([], sym (append-nil ts))

pub grows_on : (a b c : List Term) → Grows a b → Grows b c → Grows a c
grows_on a b c (us, h) (vs, k) = (us ++ vs, k ∙ ap (λ l. l ++ vs) h ∙ append_assoc a us vs)

pub lifted : (n : ℕ) (old new : List Term) (e x : Ex) → Grows old new → IsFlat n old e x → IsFlat n new e x
lifted n old new e x (us, g) h = subst (λ ts. IsFlat n ts e x) (sym g) (flat_stays n old us e x h)

pub all_lifted : (n : ℕ) (old new : List Term) (es xs : Exs) → Grows old new → AreFlat n old es xs → AreFlat n new es xs
all_lifted n old new es xs (us, g) h = subst (λ ts. AreFlat n ts es xs) (sym g) (flats_stay n old us es xs h)

-- what stands in a list with one more
pub last_or : {A : Type 0} (xs : List A) (y : A) (a : ℕ) (x : A) → slice_get (xs ++ y ∷ []) a ≡ Some x → (slice_get xs a ≡ Some x) ⊎ (x ≡ y)
last_or [] y zero x e = let same : y ≡ x = cc in inr (sym same)
last_or [] y (suc a) x e = absurd (let bad : ⊥ = cc in bad)
last_or (z ∷ xs) y zero x e = inl e
last_or (z ∷ xs) y (suc a) x e = last_or xs y a x e

pub fair_more : (fs : List Fun) (incs : List Ty) (ts : List Term) (t : Term) → FairTerms fs incs ts → are_below (length incs + length ts) t.args ≡ true → AreLinear t.args → HeadHasType fs (types_with incs ts) t.head t.args t.ty → FairTerms fs incs (ts ++ t ∷ [])
fair_more fs incs ts t f b l h =
    record {
      order = in_order_more (length incs) ts t f.order b;
      linear = λ a u e. ⊎_elim (f.linear a u) (λ same. subst (λ v. AreLinear v.args) (sym same) l) (last_or ts t a u e);
      typed =
          λ a u e.
          head_stays fs incs ts (t ∷ []) u.head u.args u.ty (⊎_elim (f.typed a u) (λ same. subst (λ v. HeadHasType fs (types_with incs ts) v.head v.args v.ty) (sym same) h) (last_or ts t a u e));
    }

module _ (fs : List Fun) (h : Head) (xs : Exs) (ts : List Term) where
  abbrev t : Term
  t = made fs h xs

  pub put_grows : Grows ts (with_term fs h xs ts)
  put_grows = on (found_from 0 h xs ts)
    where
      on : (o : Option ℕ) → Grows ts (with_by o t ts)
      on (Some a) = stays ts
      on None = (t ∷ [], refl)

  pub put_term : (n : ℕ) → IsTerm n (with_term fs h xs ts) h xs (Read (Local (n + place_term h xs ts)))
  put_term n = on (found_from 0 h xs ts) refl
    where
      on : (o : Option ℕ) → found_from 0 h xs ts ≡ o → IsTerm n (with_by o t ts) h xs (Read (Local (n + place_by o ts)))
      on (Some a) e =
          let found = found_at 0 h xs ts a e in
          record {
            number = found.number;
            term = found.term;
            is_there = found.there;
            head = found.head;
            args = found.args;
            reads = ap (λ k. Read (Local (n + k))) (let s = found.is in let q : a ≡ found.number = omega (arith, s) in q);
          }
      on None e =
          record {
            number = length ts;
            term = t;
            is_there =
                ap (slice_get (ts ++ t ∷ [])) (let q : length ts ≡ length ts + 0 = omega arith in q) ∙ at_back ts (t ∷ []) 0 (length ts) refl;
            head = refl;
            args = refl;
            reads = refl;
          }

  pub put_fair : (incs : List Ty) → FairTerms fs incs ts → are_below (length incs + length ts) xs ≡ true → AreLinear xs → HeadHasType fs (types_with incs ts) h xs t.ty → FairTerms fs incs (with_term fs h xs ts)
  put_fair incs fair b l k = on (found_from 0 h xs ts)
    where
      on : (o : Option ℕ) → FairTerms fs incs (with_by o t ts)
      on (Some a) = fair
      on None = fair_more fs incs ts t fair b l k
