-- Verdicts, one after the other.
use Rattle.std.proofs.Common.{◌≡◌, ℕ, zero, suc, ◌+◌, ◌<◌, Bool, List, [], ◌∷◌, ◌++◌, length, map, Option, Some, None, is_none, true, false, cond, refl, sym, ap, ◌∙◌, subst, inl, inr, take, arith}
use Rattle.std.specs.Prelude.{slice_get, get_or, filter}
use Rattle.std.proofs.lemmas.List.{map-append}
use Rattle.bg_ast.specs.Syntax.{Prog}
use Rattle.bg_ast.specs.Resolved as r
use Rattle.bg_ast.specs.Meaning.{meaning_of}
use Rattle.bg_ast.specs.Execution as run
use Rattle.bg_sense.specs.Clauses.{is_kept}
use Rattle.bg_sense.specs.Places.{places}
use Rattle.bg_sense.specs.Resolved.{IsResolved}
use Rattle.bg_sense.proofs.Members.{In, in_left, in_right, contained}
use Rattle.bg_sound.specs.Told.{is_ordinary}
use Rattle.bg_places.specs.declared.place.Place.{Place}
use Rattle.bg_places.specs.Views.{placed_of, placed_in}
use Rattle.bg_tree.specs.declared.outcome.Budget.{Budget}
use Rattle.bg_check.specs.declared.verdict.Judged.{Judged}
use Rattle.bg_places.specs.Placed.{Placed, place_in, placed_impl, placed_from, placed}
use Rattle.bg_task.specs.declared.prepared.Prepared.{Prepared}
use Rattle.bg_task.specs.Prepared.{IsPrepared, ArePrepared}
use Rattle.bg_task.specs.Asked.{IsAsked, AreAsked}
use Rattle.bg_task.proofs.Numbered.{OfNumber}
use Rattle.bg_check.specs.Verdicts.{IsRight, placed_at, AreRightAt, AreRightOf, AreRightFrom}

-- one more verdict
pub one_more : (budget : Budget) (p : Prog) (set : ℕ → Bool) (js : List Judged) (j : Judged) → AreRightAt budget p set js → IsRight budget p set (placed_at j).place j.verdict → AreRightAt budget p set (js ++ (j ∷ []))
one_more budget p set [] j h k = (k, tt)
one_more budget p set (i ∷ js) j h k = (h.0, one_more budget p set js j h.1 k)

pub places_more : (js : List Judged) (j : Judged) (ps : List Place) (n : ℕ) (x : Place) → map placed_at js ≡ placed_in (take n ps) → n < length ps → j.place ≡ get_or ps n x → map placed_at (js ++ (j ∷ [])) ≡ placed_in (take (n + 1) ps)
places_more js j ps n x h l e = appended js ∙ (ap (λ xs. xs ++ (placed_at j ∷ [])) h ∙ (ap (λ q. placed_in (take n ps) ++ (placed_of q ∷ [])) e ∙ sym (next ps n l)))
  where
    appended : (is : List Judged) → map placed_at (is ++ (j ∷ [])) ≡ map placed_at is ++ (placed_at j ∷ [])
    appended [] = refl
    appended (i ∷ is) = ap (λ xs. placed_at i ∷ xs) (appended is)

    next : (qs : List Place) (m : ℕ) → m < length qs → placed_in (take (m + 1) qs) ≡ placed_in (take m qs) ++ (placed_of (get_or qs m x) ∷ [])
    next [] m k = absurd (omega arith)
    next (q ∷ qs) zero k = refl
    next (q ∷ qs) (suc m) k =
        let s : suc m + 1 ≡ suc (m + 1) = omega arith in
        ap (λ c. placed_in (take c (q ∷ qs))) s ∙ ap (λ xs. placed_of q ∷ xs) (next qs m (omega arith))

-- places of an implementation that is prepared
pub are_prepared : (p : r.Program) (w : Prepared) (k : ℕ) (xs : List Placed) → IsPrepared p k w → OfNumber k xs → ArePrepared p w xs
are_prepared p w k [] h n = tt
are_prepared p w k (x ∷ xs) h n = (subst (λ i. IsPrepared p i w) (sym n.0) h, are_prepared p w k xs h n.1)

pub prepared_at : (p : r.Program) (w : Prepared) (ps : List Place) (n : ℕ) (x : Place) → ArePrepared p w (placed_in ps) → n < length ps → IsPrepared p (get_or ps n x).implementation w
prepared_at p w [] n x h l = absurd (omega arith)
prepared_at p w (q ∷ ps) zero x h l = h.0
prepared_at p w (q ∷ ps) (suc n) x h l = prepared_at p w ps n x h.1 (omega arith)

pub asked_at : (p : Prog) (set : ℕ → Bool) (ps : List Place) (n : ℕ) (x : Place) → AreAsked p set (placed_in ps) → n < length ps → IsAsked p set (placed_of (get_or ps n x)).place
asked_at p set [] n x h l = absurd (omega arith)
asked_at p set (q ∷ ps) zero x h l = h.0
asked_at p set (q ∷ ps) (suc n) x h l = asked_at p set ps n x h.1 (omega arith)

-- ordinary places of a program are asked under any set
pub ordinary_asked : (p : Prog) (set : ℕ → Bool) (xs : List Placed) → IsResolved p → ((u : run.Place) → In (map place_in xs) u → In (places p) u) → AreAsked p set (filter is_ordinary xs)
ordinary_asked p set [] h w = tt
ordinary_asked p set (x ∷ xs) h w = by (is_ordinary x) refl (ordinary_asked p set xs h (λ u i. w u (inr i)))
  where
    bare : (o : Option ℕ) → is_none o ≡ true → is_kept set o ≡ true
    bare None e = refl
    bare (Some b) e = absurd (let bad : ⊥ = cc in bad)

    by : (b : Bool) → is_ordinary x ≡ b → AreAsked p set (filter is_ordinary xs) → AreAsked p set (cond b (x ∷ filter is_ordinary xs) (filter is_ordinary xs))
    by true e k =
        (record { resolved = h; is_place = contained (places p) x.place (w x.place (inl refl)); kept = bare x.place.candidate e }, k)
    by false e k = k

-- so are those of an implementation
module _ (p : r.Program) (all : map place_in (placed p) ≡ places (meaning_of p)) where
  impl_among : (n k : ℕ) (ms : List r.Impl) (m : r.Impl) (u : run.Place) → slice_get ms k ≡ Some m → In (map place_in (placed_impl p.procedures (n + k) m)) u → In (map place_in (placed_from p.procedures n ms)) u
  impl_among n k [] m u e h = absurd (let bad : ⊥ = cc in bad)
  impl_among n zero (x ∷ ms) m u e h =
      let same : x ≡ m = cc in
      let zero_is : n + 0 ≡ n = omega arith in
      let here = subst (λ y. In (map place_in (placed_impl p.procedures n y)) u) (sym same) (subst (λ j. In (map place_in (placed_impl p.procedures j m)) u) zero_is h) in
      subst (λ l. In l u) (sym (map-append place_in (placed_impl p.procedures n x) (placed_from p.procedures (suc n) ms))) (in_left (map place_in (placed_impl p.procedures n x)) _ u here)
  impl_among n (suc k) (x ∷ ms) m u e h =
      let next : n + suc k ≡ suc n + k = omega arith in
      let there = impl_among (suc n) k ms m u e (subst (λ j. In (map place_in (placed_impl p.procedures j m)) u) next h) in
      subst (λ l. In l u) (sym (map-append place_in (placed_impl p.procedures n x) (placed_from p.procedures (suc n) ms))) (in_right (map place_in (placed_impl p.procedures n x)) _ u there)

  pub its_asked : (set : ℕ → Bool) (k : ℕ) (m : r.Impl) → IsResolved (meaning_of p) → slice_get p.implementations k ≡ Some m → AreAsked (meaning_of p) set (filter is_ordinary (placed_impl p.procedures k m))
  its_asked set k m h e =
      ordinary_asked (meaning_of p) set (placed_impl p.procedures k m) h
      (λ u i. subst (λ l. In l u) all (impl_among 0 k p.implementations m u e (subst (λ j. In (map place_in (placed_impl p.procedures j m)) u) zero_plus i)))
    where
      zero_plus : k ≡ 0 + k
      zero_plus = omega arith

-- one more implementation
pub from_more : (budget : Budget) (p : r.Program) (set : ℕ → Bool) (k : ℕ) (ms : List r.Impl) (os : List (List Judged)) (m : r.Impl) (js : List Judged) → AreRightFrom budget p set k ms os → AreRightOf budget p set (k + length ms) m js → AreRightFrom budget p set k (ms ++ (m ∷ [])) (os ++ (js ∷ []))
from_more budget p set k [] [] m js h g =
    let e : k + 0 ≡ k = omega arith in (subst (λ i. AreRightOf budget p set i m js) e g, tt)
from_more budget p set k [] (o ∷ os) m js h g = absurd h
from_more budget p set k (i ∷ ms) [] m js h g = absurd h
from_more budget p set k (i ∷ ms) (o ∷ os) m js h g =
    let e : k + suc (length ms) ≡ suc k + length ms = omega arith in
    (h.0, from_more budget p set (suc k) ms os m js h.1 (subst (λ j. AreRightOf budget p set j m js) e g))
