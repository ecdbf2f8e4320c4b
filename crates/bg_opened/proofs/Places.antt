-- Opened programs have the places of the program.
use Rattle.std.proofs.Common.{◌≡◌, ℕ, suc, Bool, true, false, List, [], ◌∷◌, ◌++◌, map, Option, Some, None, refl, sym, ap, ◌∙◌}
use Rattle.std.specs.Prelude.{if◌then◌else◌, slice_get, option_map}
use Rattle.bg_ast.specs.Syntax.{Ex, Clause, St, Skip, Then, Label, Assert, Assume, Havoc, Assign, Invoke, If, While, Break, Goto, Return, Proc, Impl, Prog}
use Rattle.bg_ast.specs.Execution.{Spot, AtAssert, AtCall, AtEntry, AfterTurn, AtReturn, Place}
use Rattle.bg_sense.specs.Variables.{procedure_of}
use Rattle.bg_sense.specs.Places.{checks_of, requires_in, ensures_in, places_in, places_from, places}
use Rattle.bg_opened.specs.Unique.{claims}
use Rattle.bg_opened.specs.Programs.{supposing, opened_clause, opened_st, opened_proc, opened_impl, bodies_of, opened_program}

pub at_mapped : {A B : Type 0} (f : A → B) (xs : List A) (k : ℕ) → slice_get (map f xs) k ≡ option_map f (slice_get xs k)
at_mapped f [] k = refl
at_mapped f (x ∷ xs) ℕ.zero = refl
at_mapped f (x ∷ xs) (suc k) = at_mapped f xs k

module _ (g : ℕ) (bodies : ℕ → Option Ex) where
  checks_if : (b : Bool) (p : Place) (xs ys : List Place) → xs ≡ ys → (if b then xs else p ∷ xs) ≡ (if b then ys else p ∷ ys)
  checks_if true p xs ys e = e
  checks_if false p xs ys e = ap (λ l. p ∷ l) e

  pub checks_alike : (m : ℕ) (spot : ℕ → Spot) (ks : List Clause) → checks_of m spot (map (opened_clause g bodies) ks) ≡ checks_of m spot ks
  checks_alike m spot [] = refl
  checks_alike m spot (k ∷ ks) =
      checks_if k.is_free (record { implementation = m; spot = spot k.id; candidate = k.candidate }) _ _ (checks_alike m spot ks)

  requires_alike : (m : ℕ) (spot : ℕ → Spot) (q : Option Proc) → checks_of m spot (requires_in (option_map (opened_proc g bodies) q)) ≡ checks_of m spot (requires_in q)
  requires_alike m spot None = refl
  requires_alike m spot (Some q) = checks_alike m spot q.requires_

  ensures_alike : (m : ℕ) (spot : ℕ → Spot) (q : Option Proc) → checks_of m spot (ensures_in (option_map (opened_proc g bodies) q)) ≡ checks_of m spot (ensures_in q)
  ensures_alike m spot None = refl
  ensures_alike m spot (Some q) = checks_alike m spot q.ensures_

  module _ (p o : Prog) (same : o.procedures ≡ map (opened_proc g bodies) p.procedures) where
    its_procedure : (k : ℕ) → procedure_of o k ≡ option_map (opened_proc g bodies) (procedure_of p k)
    its_procedure k = ap (λ qs. slice_get qs k) same ∙ at_mapped (opened_proc g bodies) p.procedures k

    in_alike : (m : ℕ) (s : St) → places_in o m (opened_st g bodies s) ≡ places_in p m s
    in_alike m Skip = refl
    in_alike m (Then a b) =
        ap (λ l. l ++ places_in o m (opened_st g bodies b)) (in_alike m a) ∙ ap (λ l. places_in p m a ++ l) (in_alike m b)
    in_alike m (Label l) = refl
    in_alike m (Assert k) = checks_alike m AtAssert (k ∷ [])
    in_alike m (Assume e) = refl
    in_alike m (Havoc xs) = refl
    in_alike m (Assign xs es) = refl
    in_alike m (Invoke k) =
        ap (λ q. checks_of m (AtCall k.site) (requires_in q)) (its_procedure k.procedure) ∙ requires_alike m (AtCall k.site) (procedure_of p k.procedure)
    in_alike m (If n e a b) =
        ap (λ l. l ++ places_in o m (opened_st g bodies b)) (in_alike m a) ∙ ap (λ l. places_in p m a ++ l) (in_alike m b)
    in_alike m (While n e is a) =
        ap (λ l. l ++ (places_in o m (opened_st g bodies a) ++ checks_of m AfterTurn (map (opened_clause g bodies) is))) (checks_alike m AtEntry is)
        ∙ ap (λ l. checks_of m AtEntry is ++ (l ++ checks_of m AfterTurn (map (opened_clause g bodies) is))) (in_alike m a)
        ∙ ap (λ l. checks_of m AtEntry is ++ (places_in p m a ++ l)) (checks_alike m AfterTurn is)
    in_alike m (Break n) = refl
    in_alike m (Goto ls) = refl
    in_alike m Return = refl

    supposing_alike : (m : ℕ) (es : List Ex) (s : St) → places_in o m (supposing es s) ≡ places_in o m s
    supposing_alike m [] s = refl
    supposing_alike m (e ∷ es) s = supposing_alike m es s

    from_alike : (axioms : List Ex) (m : ℕ) (is : List Impl) → places_from o m (map (opened_impl g bodies axioms) is) ≡ places_from p m is
    from_alike axioms m [] = refl
    from_alike axioms m (i ∷ is) =
        let front = places_in o m (opened_impl g bodies axioms i).body in
        let behind = checks_of m (AtReturn m) (ensures_in (procedure_of o i.procedure)) in
        ap (λ l. (front ++ behind) ++ l) (from_alike axioms (suc m) is)
        ∙ ap (λ l. (l ++ behind) ++ places_from p (suc m) is) (supposing_alike m (map (Rattle.bg_opened.specs.Exprs.opened g bodies) axioms) (opened_st g bodies i.body) ∙ in_alike m i.body)
        ∙ ap (λ l. (places_in p m i.body ++ l) ++ places_from p (suc m) is) (ap (λ q. checks_of m (AtReturn m) (ensures_in q)) (its_procedure i.procedure) ∙ ensures_alike m (AtReturn m) (procedure_of p i.procedure))

pub places_alike : (depth : ℕ) (p : Prog) → places (opened_program depth p) ≡ places p
places_alike depth p =
    from_alike (Rattle.std.proofs.Common.length p.globals) (bodies_of depth p) p (opened_program depth p) refl (claims p) 0 p.implementations
