-- What is claimed of constants holds exactly where the unique ones differ and the axioms are true; the claims are typed.
use Rattle.std.proofs.Common.{◌≡◌, ℕ, suc, ◌+◌, Bool, true, false, List, [], ◌∷◌, ◌++◌, length, map, Some, refl, sym, ap, ◌∙◌, subst, arith}
use Rattle.std.specs.Prelude.{◌&&◌, ◌||◌, not, if◌then◌else◌, slice_get, All}
use Rattle.std.specs.List.{list_all}
use Rattle.bg_ast.specs.Values.{Val, Ty, val_eq}
use Rattle.bg_ast.specs.Syntax.{Ex, Const, Prog}
use Rattle.bg_ast.specs.Execution.{Interp}
use Rattle.bg_sense.specs.Eval.{value_at, holds_alone}
use Rattle.bg_sense.specs.Types.{const_types, ty_eq}
use Rattle.bg_sense.specs.Interps.{differs, are_distinct, all_hold}
use Rattle.bg_sense.specs.Typing.{Sig, sig_in}
use Rattle.bg_sense.specs.Typed.{HasNoOld, IsFormula}
use Rattle.bg_kinds.proofs.Sameness.{types_same}
use Rattle.bg_opened.specs.Unique.{uniques, pairs_with, pairs, unique_pairs, apart, claims}
use Rattle.bg_opened.proofs.Runs.{Each}
use Rattle.bg_opened.proofs.Resolves.{map_append, each_all}
use Rattle.bg_opened.proofs.Fairs.{each_append}

-- ---- truth values

and_assoc : (a b c : Bool) → ((a && b) && c) ≡ (a && (b && c))
and_assoc true b c = refl
and_assoc false b c = refl

-- ---- claims hold

module _ (p : Prog) (i : Interp) where
  hold_append : (xs ys : List Ex) → all_hold p i (xs ++ ys) ≡ (all_hold p i xs && all_hold p i ys)
  hold_append [] ys = refl
  hold_append (x ∷ xs) ys =
      ap (λ b. holds_alone p i x && b) (hold_append xs ys)
      ∙ sym (and_assoc (holds_alone p i x) (all_hold p i xs) (all_hold p i ys))

  -- a constant's value
  abbrev At : ℕ → Val
  At k = value_at i.constants k

  -- one constant, of this type, differs from each of these of its type
  abbrev With : ℕ → Ty → List (ℕ × Ty) → Bool
  With a h xs = all_hold p i (map apart (pairs_with a h xs))

  -- these are the values of the constants from this number on
  abbrev From : ℕ → List Val → Type 0
  From k vs = (j : ℕ) → At (k + j) ≡ value_at vs j

  first : (k : ℕ) (v : Val) (vs : List Val) → From k (v ∷ vs) → At k ≡ v
  first k v vs at = let same : k ≡ k + 0 = omega arith in ap At same ∙ at 0

  rest : (k : ℕ) (v : Val) (vs : List Val) → From k (v ∷ vs) → From (suc k) vs
  rest k v vs at j = let same : suc k + j ≡ k + suc j = omega arith in ap At same ∙ at (suc j)

  -- one pair, or none
  pair_hold : (a k : ℕ) (w : Val) (b : Bool) (qs : List (ℕ × ℕ)) (x : Bool) → At k ≡ w → all_hold p i (map apart qs) ≡ x → all_hold p i (map apart ((if b then (a, k) ∷ [] else []) ++ qs)) ≡ (not (b && val_eq (At a) w) && x)
  pair_hold a k w true qs x e h =
      ap (λ v. not (val_eq (At a) v) && all_hold p i (map apart qs)) e ∙ ap (λ c. not (val_eq (At a) w) && c) h
  pair_hold a k w false qs x e h = h

  later_hold : (c : Const) (a k : ℕ) (ds : List Const) (ws : List Val) → From k ws → length ws ≡ length (const_types ds) → With a c.ty (uniques k ds) ≡ differs c (At a) ds ws
  later_hold c a k [] ws at len = refl
  later_hold c a k (d ∷ ds) [] at len = absurd (omega (arith, len))
  later_hold c a k (d ∷ ds) (w ∷ ws) at len =
      by d.is_unique (first k w ws at) (later_hold c a (suc k) ds ws (rest k w ws at) (omega (arith, len)))
    where
      by : (u : Bool) → At k ≡ w → With a c.ty (uniques (suc k) ds) ≡ differs c (At a) ds ws → With a c.ty (if u then (k, d.ty) ∷ uniques (suc k) ds else uniques (suc k) ds) ≡ (not (u && (ty_eq c.ty d.ty && val_eq (At a) w)) && differs c (At a) ds ws)
      by true e h =
          let others = pairs_with a c.ty (uniques (suc k) ds) in
          pair_hold a k w (ty_eq c.ty d.ty) others (differs c (At a) ds ws) e h
      by false e h = h

  pairs_hold : (k : ℕ) (cs : List Const) (vs : List Val) → From k vs → length vs ≡ length (const_types cs) → all_hold p i (map apart (pairs (uniques k cs))) ≡ are_distinct cs vs
  pairs_hold k [] vs at len = refl
  pairs_hold k (c ∷ cs) [] at len = absurd (omega (arith, len))
  pairs_hold k (c ∷ cs) (v ∷ vs) at len =
      let more = rest k v vs at in
      let others = later_hold c k (suc k) cs vs more (omega (arith, len)) in
      by (uniques (suc k) cs) c.is_unique (others ∙ ap (λ x. differs c x cs vs) (first k v vs at)) (pairs_hold (suc k) cs vs more (omega (arith, len)))
    where
      by : (us : List (ℕ × Ty)) (b : Bool) → With k c.ty us ≡ differs c v cs vs → all_hold p i (map apart (pairs us)) ≡ are_distinct cs vs → all_hold p i (map apart (pairs (if b then (k, c.ty) ∷ us else us))) ≡ ((not b || differs c v cs vs) && are_distinct cs vs)
      by us true d h =
          ap (all_hold p i) (map_append apart (pairs_with k c.ty us) (pairs us))
          ∙ hold_append (map apart (pairs_with k c.ty us)) (map apart (pairs us))
          ∙ ap (λ x. x && all_hold p i (map apart (pairs us))) d
          ∙ ap (λ x. differs c v cs vs && x) h
      by us false d h = h

  pub claims_hold : length i.constants ≡ length (const_types p.constants) → all_hold p i (claims p) ≡ (are_distinct p.constants i.constants && all_hold p i p.axioms)
  claims_hold len =
      let whole : From 0 i.constants = (λ j. let same : 0 + j ≡ j = omega arith in ap At same) in
      hold_append (map apart (unique_pairs p.constants)) p.axioms
      ∙ ap (λ b. b && all_hold p i p.axioms) (pairs_hold 0 p.constants i.constants whole len)

-- ---- claims are typed

module _ (p : Prog) where
  abbrev Alone : Sig
  Alone = sig_in (record p { globals = [] }) []

  -- it may be an axiom
  abbrev Good : Ex → Type 0
  Good e = IsFormula Alone e × HasNoOld e

  -- a constant of this type
  abbrev Has : Ty → ℕ → Type 0
  Has t k = slice_get (const_types p.constants) k ≡ Some t

  -- it is there, and of the type that is said
  abbrev Holds : ℕ × Ty → Type 0
  Holds x = Has x.1 x.0

  uniques_typed : (k : ℕ) (cs : List Const) → ((j : ℕ) → slice_get (const_types p.constants) (k + j) ≡ slice_get (const_types cs) j) → Each Holds (uniques k cs)
  uniques_typed k [] at = tt
  uniques_typed k (c ∷ cs) at =
      by c.is_unique (uniques_typed (suc k) cs (λ j. let same : suc k + j ≡ k + suc j = omega arith in ap (slice_get (const_types p.constants)) same ∙ at (suc j)))
    where
      by : (b : Bool) → Each Holds (uniques (suc k) cs) → Each Holds (if b then (k, c.ty) ∷ uniques (suc k) cs else uniques (suc k) cs)
      by true h =
          let same : k ≡ k + 0 = omega arith in
          (ap (slice_get (const_types p.constants)) same ∙ at 0, h)
      by false h = h

  with_good : (a : ℕ) (t : Ty) → Has t a → (xs : List (ℕ × Ty)) → Each Holds xs → Each Good (map apart (pairs_with a t xs))
  with_good a t there [] g = tt
  with_good a t there (x ∷ xs) g = by (ty_eq t x.1) refl (with_good a t there xs g.1)
    where
      by : (b : Bool) → ty_eq t x.1 ≡ b → Each Good (map apart (pairs_with a t xs)) → Each Good (map apart ((if b then (a, x.0) ∷ [] else []) ++ pairs_with a t xs))
      by true e k = ((((refl, (t, there, g.0 ∙ ap Some (sym (types_same t x.1 e)))), (tt, tt, tt)), (tt, tt)), k)
      by false e k = k

  pairs_good : (xs : List (ℕ × Ty)) → Each Holds xs → Each Good (map apart (pairs xs))
  pairs_good [] g = tt
  pairs_good (x ∷ xs) g =
      subst (Each Good) (sym (map_append apart (pairs_with x.0 x.1 xs) (pairs xs))) (each_append Good (map apart (pairs_with x.0 x.1 xs)) (map apart (pairs xs)) (with_good x.0 x.1 g.0 xs g.1) (pairs_good xs g.1))

  pub claims_typed : All Good p.axioms → Each Good (claims p)
  claims_typed typed =
      let unique = uniques_typed 0 p.constants (λ j. let same : 0 + j ≡ j = omega arith in ap (slice_get (const_types p.constants)) same) in
      each_append Good (map apart (unique_pairs p.constants)) p.axioms (pairs_good (uniques 0 p.constants) unique) (each_all Good p.axioms typed)
