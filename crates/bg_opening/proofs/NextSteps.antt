-- The next place with the same code, from the last place on; and pairs of constants by these.
use Rattle.std.proofs.Common.{◌≡◌, ◌≢◌, ◌<◌, ◌≤◌, ℕ, zero, suc, ◌+◌, ◌-◌, nat_lt, Bool, true, false, List, [], ◌∷◌, ◌++◌, length, map, get_or, drop, Option, Some, None, refl, sym, ap, subst, ◌∙◌, append_assoc, append-nil, arith, eq-eqb}
use Rattle.std.specs.Prelude.{◌==◌, if◌then◌else◌, unwrap_or}
use Rattle.std.proofs.lemmas.Bool.{eqb-true, ltb-true, ltb-false}
use Rattle.std.proofs.lemmas.List.{drop_all, map-append, length_push, get_or_push}
use Rattle.std.proofs.lemmas.Option.{none-some, same_Some}
use Rattle.bg_ast.specs.Values.{Ty}
use Rattle.bg_sense.specs.Types.{ty_eq}
use Rattle.bg_kinds.specs.Views.{ref_in}
use Rattle.bg_kinds.proofs.Sameness.{types_same}
use Rattle.bg_opened.specs.Unique.{pair_of, pairs_with}
use Rattle.bg_opening.specs.Constants.{unique_of}
use Rattle.bg_opening.specs.declared.uniques.Unique.{Unique}
use Rattle.bg_opening.specs.Nexts.{type_code, code_of, Kept, set_to, IsNext, AreNexts}
use Rattle.bg_opening.proofs.UniqueSteps.{here}

-- ---- lists

pub length_mapped : {A B : Type 0} (f : A → B) (xs : List A) → length (map f xs) ≡ length xs
length_mapped f [] = refl
length_mapped f (x ∷ xs) = ap suc (length_mapped f xs)

pub at_mapped : {A : Type 0} (f : A → ℕ) (xs : List A) (i : ℕ) (x : A) → i < length xs → x ≡ get_or xs i x → f x ≡ get_or (map f xs) i 0
at_mapped f [] i x l e = absurd (omega (arith, l))
at_mapped f (y ∷ ys) zero x l e = ap f e
at_mapped f (y ∷ ys) (suc i) x l e = at_mapped f ys i x (omega (arith, l)) e

there : {A : Type 0} (xs : List A) (i : ℕ) → i < length xs → (x : A) × (x ≡ get_or xs i x)
there [] i l = absurd (omega (arith, l))
there (y ∷ ys) zero l = (y, refl)
there (y ∷ ys) (suc i) l = there ys i (omega (arith, l))

pub at_front : (xs : List ℕ) (y i : ℕ) → i < length xs → get_or (xs ++ y ∷ []) i 0 ≡ get_or xs i 0
at_front [] y i l = absurd (omega (arith, l))
at_front (x ∷ xs) y zero l = refl
at_front (x ∷ xs) y (suc i) l = at_front xs y i (omega (arith, l))

-- ---- what is kept

pub record First (k : Kept) (c j : ℕ) : Type 0 where
  pub place : ℕ
  pub is : k c ≡ Some place
  pub within : place ≤ j

-- of the places from one on, the first at each code
pub record Keeps (cs : List ℕ) (from : ℕ) (k : Kept) : Type 0 where
  pub places : (c q : ℕ) → k c ≡ Some q → (from ≤ q) × ((q < length cs) × (get_or cs q 0 ≡ c))
  pub each : (j : ℕ) → from ≤ j → j < length cs → First k (get_or cs j 0) j

pub nothing_kept : (cs : List ℕ) (from : ℕ) (k : Kept) → length cs ≤ from → k ≡ (λ c. None) → Keeps cs from k
nothing_kept cs from k l e = record {
  places = λ c q is. absurd (none-some q (sym (ap (λ (m : Kept). m c) e) ∙ is));
  each = λ j a b. absurd (omega (arith, l, a, b));
}

module _ (cs : List ℕ) (p : ℕ) (k : Kept) (inside : p < length cs) (keeps : Keeps cs (p + 1) k) where
  abbrev C : ℕ
  C = get_or cs p 0

  found_at : (o : Option ℕ) → k C ≡ o → IsNext cs p (unwrap_or o (length cs))
  found_at None e = record {
    later = inside;
    between = λ j a b l same.
        let f = keeps.each j (omega (arith, a)) l in
        none-some f.place (sym e ∙ (ap k (sym same) ∙ f.is));
    same = λ l. absurd (omega (arith, l));
  }
  found_at (Some q) e =
      let is = keeps.places C q e in
      record {
        later = omega (arith, is.0);
        between = λ j a b l same.
            let f = keeps.each j (omega (arith, a)) l in
            let one : q ≡ f.place = same_Some q f.place (sym e ∙ (ap k (sym same) ∙ f.is)) in
            let no' : ⊥ = omega (arith, one, b, f.within) in
            no';
        same = λ l. is.1.1;
      }

  pub next_found : IsNext cs p (unwrap_or (k C) (length cs))
  next_found = found_at (k C) refl

  kept_places : (d q : ℕ) (b : Bool) → (C == d) ≡ b → (if b then Some p else k d) ≡ Some q → (p ≤ q) × ((q < length cs) × (get_or cs q 0 ≡ d))
  kept_places d q true t e =
      let one : p ≡ q = same_Some p q e in
      subst (λ (i : ℕ). (p ≤ i) × ((i < length cs) × (get_or cs i 0 ≡ d))) one (omega arith, (inside, eqb-true C d t))
  kept_places d q false t e =
      let is = keeps.places d q e in (omega (arith, is.0), is.1)

  kept_each : (j : ℕ) → p ≤ j → j < length cs → (b : Bool) → (C == get_or cs j 0) ≡ b → First (set_to C (Some p) k) (get_or cs j 0) j
  kept_each j a l true t = record {
    place = p;
    is = ap (λ (b : Bool). if b then Some p else k (get_or cs j 0)) t;
    within = a;
  }
  kept_each j a l false t = further (nat_lt p j) refl
    where
      further : (b : Bool) → nat_lt p j ≡ b → First (set_to C (Some p) k) (get_or cs j 0) j
      further true u =
          let f = keeps.each j (let h = ltb-true p j u in omega (arith, h)) l in
          record {
            place = f.place;
            is = ap (λ (b : Bool). if b then Some p else k (get_or cs j 0)) t ∙ f.is;
            within = f.within;
          }
      further false u =
          let h = ltb-false p j u in
          let one : p ≡ j = omega (arith, a, h) in
          let same : (C == get_or cs j 0) ≡ true = eq-eqb C (get_or cs j 0) (ap (λ (i : ℕ). get_or cs i 0) one) in
          absurd (let bad : ⊥ = cc in bad)

  pub one_kept : (new : Kept) → new ≡ set_to C (Some p) k → Keeps cs p new
  one_kept new e =
      subst (Keeps cs p) (sym e) (record {
        places = λ d q is. kept_places d q (C == d) refl is;
        each = λ j a l. kept_each j a l (C == get_or cs j 0) refl;
      })

-- the places that were found
abbrev pub Found : List ℕ → ℕ → List ℕ → Type 0
Found cs done made = (p : ℕ) → length cs ≤ p + done → p < length cs → IsNext cs p (get_or made ((length cs - 1) - p) 0)

pub none_found : (cs made : List ℕ) → Found cs 0 made
none_found cs made p a b = absurd (omega (arith, a, b))

pub one_found : (cs made : List ℕ) (done p m : ℕ) → done < length cs → length made ≡ done → p ≡ (length cs - 1) - done → IsNext cs p m → Found cs done made → Found cs (done + 1) (made ++ m ∷ [])
one_found cs made done p m h many is next found j a b = by (nat_lt p j) refl
  where
    by : (c : Bool) → nat_lt p j ≡ c → IsNext cs j (get_or (made ++ m ∷ []) ((length cs - 1) - j) 0)
    by true u =
        let less = ltb-true p j u in
        subst (λ (n : ℕ). IsNext cs j n) (sym (at_front made m ((length cs - 1) - j) (omega (arith, less, is, many, h, b)))) (found j (omega (arith, less, is, h)) b)
    by false u =
        let more = ltb-false p j u in
        let one : p ≡ j = omega (arith, more, a, is, h) in
        let place : length made ≡ (length cs - 1) - j = omega (arith, one, is, many, h) in
        subst (λ (n : ℕ). IsNext cs j n) (sym (get_or_push made m 0 ((length cs - 1) - j) place)) (subst (λ (i : ℕ). IsNext cs i m) one next)

pub all_found : (cs made : List ℕ) (done : ℕ) → length cs ≤ done → length made ≡ length cs → Found cs done made → AreNexts cs made
all_found cs made done h many found = record {
  all = many;
  each = λ p l.
      subst (λ (n : ℕ). IsNext cs p (get_or made ((n - 1) - p) 0)) (sym many) (found p (omega (arith, h)) (omega (arith, l, many)));
}

-- what is known when so many are done
pub record Done (told : List Unique) (done : ℕ) (k : Kept) (made : List ℕ) : Type 0 where
  pub fits : done ≤ length told
  pub keeps : Keeps (map code_of told) (length (map code_of told) - done) k
  pub found : Found (map code_of told) done made
  pub many : length made ≡ done

pub none_done : (told : List Unique) (k : Kept) (made : List ℕ) → k ≡ (λ c. None) → made ≡ [] → Done told 0 k made
none_done told k made e is = record {
  fits = omega arith;
  keeps = nothing_kept (map code_of told) (length (map code_of told) - 0) k (omega arith) e;
  found = none_found (map code_of told) made;
  many = ap length is;
}

pub one_done : (told : List Unique) (done p : ℕ) (x : Unique) (code m : ℕ) (old new : Kept) (made more : List ℕ) → done < length told → p ≡ (length told - 1) - done → x ≡ get_or told p x → code ≡ code_of x → m ≡ unwrap_or (old code) (length told) → new ≡ set_to code (Some p) old → more ≡ made ++ m ∷ [] → Done told done old made → Done told (done + 1) new more
one_done told done p x code m old new made more h at e coded is put pushed s =
    let cs = map code_of told in
    let long : length cs ≡ length told = length_mapped code_of told in
    let inside : p < length cs = omega (arith, at, h, long) in
    let code_is : code ≡ get_or cs p 0 = coded ∙ at_mapped code_of told p x (omega (arith, at, h)) e in
    let from : length cs - done ≡ p + 1 = omega (arith, at, h, long) in
    let here' : length cs - (done + 1) ≡ p = omega (arith, at, h, long) in
    let keeps : Keeps cs (p + 1) old = subst (λ (i : ℕ). Keeps cs i old) from s.keeps in
    let is_next : m ≡ unwrap_or (old (get_or cs p 0)) (length cs) =
    is ∙ (ap (λ (c : ℕ). unwrap_or (old c) (length told)) code_is ∙ ap (λ (n : ℕ). unwrap_or (old (get_or cs p 0)) n) (sym long)) in
    let next : IsNext cs p m = subst (IsNext cs p) (sym is_next) (next_found cs p old inside keeps) in
    let now : Keeps cs p new = one_kept cs p old inside keeps new (put ∙ ap (λ (c : ℕ). set_to c (Some p) old) code_is) in
    record {
      fits = omega (arith, h);
      keeps = subst (λ (i : ℕ). Keeps cs i new) (sym here') now;
      found =
          subst (Found cs (done + 1)) (sym pushed) (one_found cs made done p m (omega (arith, h, long)) s.many (omega (arith, at, long)) next s.found);
      many = ap length pushed ∙ (length_push made m ∙ ap (λ (n : ℕ). n + 1) s.many);
    }

pub all_done : (told : List Unique) (done : ℕ) (k : Kept) (made : List ℕ) → length told ≤ done → Done told done k made → AreNexts (map code_of told) made
all_done told done k made h s =
    let long = length_mapped code_of told in
    let fits = s.fits in
    let many = s.many in
    all_found (map code_of told) made done (omega (arith, h, long)) (omega (arith, h, fits, many, long)) s.found

-- a place that is inside has its next one
pub next_in : (told : List Unique) (nexts : List ℕ) (p m : ℕ) → p < length told → AreNexts (map code_of told) nexts → m ≡ get_or nexts ((length nexts - 1) - p) 0 → IsNext (map code_of told) p m
next_in told nexts p m l are e =
    let all = are.all in
    let long = length_mapped code_of told in
    subst (IsNext (map code_of told) p) (sym e) (are.each p (omega (arith, l, all, long)))

-- ---- pairs

module _ (told : List Unique) (n : ℕ) (t : Ty) where
  abbrev pub Pairs : ℕ → List (ℕ × ℕ)
  Pairs i = pairs_with n t (map unique_of (drop i told))

  none_behind : (i : ℕ) → length told ≤ i → Pairs i ≡ []
  none_behind i l = ap (λ (xs : List Unique). pairs_with n t (map unique_of xs)) (drop_all i told l)

  one_here : (i : ℕ) (x : Unique) → i < length told → x ≡ get_or told i x → Pairs i ≡ pair_of n t (unique_of x) ++ Pairs (i + 1)
  one_here i x l e = ap (λ (xs : List Unique). pairs_with n t (map unique_of xs)) (here told i x l e)

  abbrev one_or : Bool → ℕ × ℕ → List (ℕ × ℕ)
  one_or b q = if b then q ∷ [] else []

  -- no pair with one of another code
  no_pair : (x : Unique) → code_of x ≢ type_code 0 t → pair_of n t (unique_of x) ≡ []
  no_pair x differ = by (ty_eq t (ref_in x.kind)) refl
    where
      by : (b : Bool) → ty_eq t (ref_in x.kind) ≡ b → one_or b (n, x.number) ≡ []
      by true e = absurd (differ (ap (type_code 0) (sym (types_same t (ref_in x.kind) e))))
      by false e = refl

  skipped : (p m : ℕ) → IsNext (map code_of told) p m → get_or (map code_of told) p 0 ≡ type_code 0 t → (d j : ℕ) → j + d ≡ m → p < j → Pairs j ≡ Pairs m
  skipped p m next code zero j e less =
      let one : j ≡ m = omega (arith, e) in ap Pairs one
  skipped p m next code (suc d) j e less =
      by (nat_lt j (length told)) refl (skipped p m next code d (j + 1) (omega (arith, e)) (omega (arith, less)))
    where
      by : (b : Bool) → nat_lt j (length told) ≡ b → Pairs (j + 1) ≡ Pairs m → Pairs j ≡ Pairs m
      by true u rest =
          let l = ltb-true j (length told) u in
          let x = there told j l in
          let long = length_mapped code_of told in
          let differ = next.between j less (omega (arith, e)) (omega (arith, l, long)) in
          let none = no_pair x.0 (λ same. differ (sym (at_mapped code_of told j x.0 l x.1) ∙ (same ∙ sym code))) in
          one_here j x.0 l x.1 ∙ (ap (λ (qs : List (ℕ × ℕ)). qs ++ Pairs (j + 1)) none ∙ rest)
      by false u rest =
          let l = ltb-false j (length told) u in
          none_behind j l ∙ sym (none_behind m (omega (arith, l, e)))

  pub to_next : (p m : ℕ) → IsNext (map code_of told) p m → get_or (map code_of told) p 0 ≡ type_code 0 t → Pairs (p + 1) ≡ Pairs m
  to_next p m next code =
      let less = next.later in skipped p m next code (m - (p + 1)) (p + 1) (omega (arith, less)) (omega arith)

  -- ---- as what is told

  pub one_apart : {A : Type 0} (f : ℕ × ℕ → A) (old new whole : List A) (i next : ℕ) (x : Unique) → i < length told → x ≡ get_or told i x → get_or (map code_of told) i 0 ≡ type_code 0 t → IsNext (map code_of told) i next → new ≡ old ++ map f (pair_of n t (unique_of x)) → old ++ map f (Pairs i) ≡ whole → new ++ map f (Pairs next) ≡ whole
  one_apart f old new whole i next x l e code is more inv =
      let one = pair_of n t (unique_of x) in
      ap (λ l. l ++ map f (Pairs next)) more
      ∙ (append_assoc old (map f one) (map f (Pairs next))
      ∙ (ap (λ l. old ++ l) (sym (map-append f one (Pairs next)))
      ∙ (ap (λ qs. old ++ map f qs) (ap (λ qs. one ++ qs) (sym (to_next i next is code)) ∙ sym (one_here i x l e)) ∙ inv)))

  pub all_apart : {A : Type 0} (f : ℕ × ℕ → A) (old whole : List A) (i : ℕ) → length told ≤ i → old ++ map f (Pairs i) ≡ whole → old ≡ whole
  all_apart f old whole i l inv =
      sym (append-nil old) ∙ (ap (λ (qs : List (ℕ × ℕ)). old ++ map f qs) (sym (none_behind i l)) ∙ inv)
