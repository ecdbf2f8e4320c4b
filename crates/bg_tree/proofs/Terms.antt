-- A gap of a path's rows is at a term that is there: rows that are made mention what the given ones mention alone.
use Rattle.std.proofs.Common.{◌≡◌, ℕ, zero, suc, ◌<◌, ◌/◌, Bool, true, false, ◌||◌, ◌==◌, List, [], ◌∷◌, ◌++◌, ℤ, pos, negsuc, map, refl, arith, subst, nat_lt}
use Rattle.std.specs.Prelude.{Option, Some, None, Ok, unsigned_abs, int_lt}
use Rattle.std.proofs.lemmas.Bool.{and_parts, and_from}
use Rattle.std.proofs.lemmas.Bool.Decides.{nat_tests}
use Rattle.bg_base.specs.Exact.{negation_of, difference_of, gcd_of}
use Rattle.bg_rows.specs.declared.entry.Entry.{Entry}
use Rattle.bg_rows.specs.declared.row.Row.{Row}
use Rattle.bg_rows.specs.Entries.{mentions, coefficient}
use Rattle.bg_rows.specs.Rows.{RowOf, row_of, IsNormal, tightened, eliminated, negations, denied, multiplier, entry}
use Rattle.bg_rows.specs.Steps.{row_at, tight_of}
use Rattle.bg_rows.proofs.Meaning.{first_of_two}
use Rattle.bg_rows.proofs.Normal.{no_coefficient, combined_stays, tightened_stays, still}
use Rattle.bg_elim.specs.declared.order.Reason.{Reason}
use Rattle.bg_elim.specs.declared.order.Reason.TheVariants.{Given, Tightened, Eliminated}
use Rattle.bg_elim.specs.Kept.{reason_row, made_rows}
use Rattle.bg_elim.proofs.Covers.{covers_tightened, covers_mentions}
use Rattle.bg_elim.proofs.Derive.{gone_parts}
use Rattle.bg_point.specs.declared.spot.Spot.{Spot}
use Rattle.bg_point.specs.Points.{value_of, bounds_below, keeps_above, IsGap}
use Rattle.bg_formula.specs.Atoms.{AtomOf, IsTruth, IsRow, at}
use Rattle.bg_formula.specs.Formulas.{entries_below, rows_below}
use Rattle.bg_formula.specs.Meaning.{AtomsAgree}
use Rattle.bg_cert.specs.declared.cert.Decision.{Decision}
use Rattle.bg_cert.specs.declared.cert.Decision.TheVariants.{Atom, AtMost}
use Rattle.bg_cert.specs.Paths.{at_most, above, row_of_atom, row_of_decision, in_front, rows_on}
use Rattle.bg_tree.specs.Once.{bound_in, bounds_in}

-- ---- rows without a term

pub record Without (x : ℕ) (r : RowOf) : Type 0 where
  pub normal : IsNormal r
  pub gone : mentions x r.entries ≡ false

abbrev pub AllWithout : ℕ → List RowOf → Type 0
AllWithout x [] = Unit {0}
AllWithout x (r ∷ rs) = Without x r × AllWithout x rs

at_without : (x : ℕ) (rs : List RowOf) (n : ℕ) (r : RowOf) → AllWithout x rs → row_at rs n ≡ Some r → Without x r
at_without x [] n r h e = absurd (cc)
at_without x (q ∷ rs) zero r h e = let is : q ≡ r = cc in subst (Without x) is h.0
at_without x (q ∷ rs) (suc n) r h e = at_without x rs n r h.1 e

snoc_without : (x : ℕ) (rs : List RowOf) (r : RowOf) → AllWithout x rs → Without x r → AllWithout x (rs ++ (r ∷ []))
snoc_without x [] r h w = (w, tt)
snoc_without x (q ∷ rs) r h w = (h.0, snoc_without x rs r h.1 w)

tight_without : (x : ℕ) (r : RowOf) → Without x r → Without x (tightened r)
tight_without x r w =
    let n = tightened_stays r w.normal in
    record { normal = n; gone = covers_mentions x (tightened r) r n (covers_tightened r) w.gone }

gone_without : (x y : ℕ) (u l t : RowOf) → Without x u → Without x l → eliminated u l y ≡ Ok t → Without x t
gone_without x y u l t a b h =
    let n = unsigned_abs (coefficient y u.entries) in
    let m = unsigned_abs (coefficient y l.entries) in
    let one = first_of_two (multiplier (m / gcd_of n m)) _ t h in
    let two = first_of_two (multiplier (n / gcd_of n m)) _ t one.2 in
    record {
      normal = combined_stays u one.0 l two.0 t a.normal b.normal two.2;
      gone = still x u one.0 l two.0 t a.normal b.normal two.2 a.gone b.gone;
    }

tight_option : (x : ℕ) (o : Option RowOf) (r : RowOf) → ((s : RowOf) → o ≡ Some s → Without x s) → tight_of o ≡ Some r → Without x r
tight_option x None r h e = absurd (cc)
tight_option x (Some s) r h e = let is : tightened s ≡ r = cc in subst (Without x) is (tight_without x s (h s refl))

reason_without : (x : ℕ) (given : List RowOf) (order : List ℕ) (made : List RowOf) (reason : Reason) (r : RowOf) → AllWithout x given → AllWithout x made → reason_row given order made reason ≡ Some r → Without x r
reason_without x given order made (Given j) r g m e = at_without x given j r g e
reason_without x given order made (Tightened i) r g m e = tight_option x (row_at made i) r (λ s h. at_without x made i s m h) e
reason_without x given order made (Eliminated i j y) r g m e =
    let p = gone_parts order y (row_at made i) (row_at made j) r e in
    gone_without x y p.up p.low r (at_without x made i p.up m p.first) (at_without x made j p.low m p.second) p.is

made_without : (x : ℕ) (given : List RowOf) (order : List ℕ) (made : List RowOf) (reasons : List Reason) (rows : List RowOf) → AllWithout x given → AllWithout x made → made_rows given order made reasons ≡ Some rows → AllWithout x rows
made_without x given order made [] rows g m e = let is : made ≡ rows = cc in subst (AllWithout x) is m
made_without x given order made (r ∷ reasons) rows g m e = by_row (λ q h k. made_without x given order (made ++ (q ∷ [])) reasons rows g (snoc_without x made q m k) h) (reason_row given order made r) refl e
  where
    by_row : ((q : RowOf) → made_rows given order (made ++ (q ∷ [])) reasons ≡ Some rows → Without x q → AllWithout x rows) → (o : Option RowOf) → reason_row given order made r ≡ o → (elim o [ None ↦ None | Some q ↦ made_rows given order (made ++ (q ∷ [])) reasons ]) ≡ Some rows → AllWithout x rows
    by_row f None a h = absurd (cc)
    by_row f (Some q) a h = f q h (reason_without x given order made r q g m a)

-- ---- rows of a path

abbrev pub AllBelow : ℕ → List RowOf → Type 0
AllBelow n [] = Unit {0}
AllBelow n (r ∷ rs) = (entries_below n r.entries ≡ true) × AllBelow n rs

negations_below : (n : ℕ) (ts us : List Entry) → negations ts ≡ Ok us → entries_below n ts ≡ true → entries_below n us ≡ true
negations_below n [] us h b = let is : [] ≡ us = cc in subst (λ (z : List Entry). entries_below n z ≡ true) is refl
negations_below n (t ∷ ts) us h b =
    let one = first_of_two (negation_of t.by) _ us h in
    let two = first_of_two (negations ts) _ us one.2 in
    let p = and_parts (nat_lt t.variable n) (entries_below n ts) b in
    let is : entry t.variable one.0 ∷ two.0 ≡ us = let w = two.2 in cc in
    subst (λ (z : List Entry). entries_below n z ≡ true) is (and_from (nat_lt t.variable n) (entries_below n two.0) p.0 (negations_below n ts two.0 two.1 p.1))

denied_below : (n : ℕ) (q d : RowOf) → denied q ≡ Ok d → entries_below n q.entries ≡ true → entries_below n d.entries ≡ true
denied_below n q d h b =
    let one = first_of_two (negations q.entries) _ d h in
    let two = first_of_two (difference_of (negsuc 0) q.bound) _ d one.2 in
    let is : record { entries = one.0; bound = two.0 } ≡ d = let w = two.2 in cc in
    subst (λ (z : RowOf). entries_below n z.entries ≡ true) is (negations_below n q.entries one.0 one.1 b)

row_below : (n : ℕ) (xs : List AtomOf) (a : ℕ) (s : Bool) (r : RowOf) → rows_below n xs ≡ true → AtomsAgree xs → row_of_atom (at xs a) s ≡ Some r → entries_below n r.entries ≡ true
row_below n [] a s r w g e = absurd (cc)
row_below n (IsTruth y ∷ xs) zero true r w g e = absurd (cc)
row_below n (IsTruth y ∷ xs) zero false r w g e = absurd (cc)
row_below n (IsRow q d ∷ xs) zero true r w g e =
    let is : q ≡ r = cc in
    subst (λ (z : RowOf). entries_below n z.entries ≡ true) is (and_parts (entries_below n q.entries) (rows_below n xs) w).0
row_below n (IsRow q d ∷ xs) zero false r w g e =
    let is : d ≡ r = cc in
    subst (λ (z : RowOf). entries_below n z.entries ≡ true) is (denied_below n q d g.0 (and_parts (entries_below n q.entries) (rows_below n xs) w).0)
row_below n (IsTruth y ∷ xs) (suc a) s r w g e = row_below n xs a s r w g e
row_below n (IsRow q d ∷ xs) (suc a) s r w g e = row_below n xs a s r (and_parts (entries_below n q.entries) (rows_below n xs) w).1 g.1 e

decision_below : (n : ℕ) (xs : List AtomOf) (d : Decision) (r : RowOf) → rows_below n xs ≡ true → AtomsAgree xs → bound_in n d ≡ true → row_of_decision xs d ≡ Some r → entries_below n r.entries ≡ true
decision_below n xs (Atom a s) r w g b e = row_below n xs a s r w g e
decision_below n xs (AtMost x k true) r w g b e =
    let is : at_most x k ≡ r = cc in
    subst (λ (z : RowOf). entries_below n z.entries ≡ true) is (and_from (nat_lt x n) true b refl)
decision_below n xs (AtMost x k false) r w g b e =
    let is : above x k ≡ r = cc in
    subst (λ (z : RowOf). entries_below n z.entries ≡ true) is (and_from (nat_lt x n) true b refl)

front_below : (n : ℕ) (o : Option RowOf) (rs : List RowOf) → ((r : RowOf) → o ≡ Some r → entries_below n r.entries ≡ true) → AllBelow n rs → AllBelow n (in_front o rs)
front_below n None rs h b = b
front_below n (Some r) rs h b = (h r refl, b)

pub path_below : (n : ℕ) (xs : List AtomOf) (ds : List Decision) → rows_below n xs ≡ true → AtomsAgree xs → bounds_in n ds ≡ true → AllBelow n (rows_on xs ds)
path_below n xs [] w g b = tt
path_below n xs (d ∷ ds) w g b =
    let p = and_parts (bound_in n d) (bounds_in n ds) b in
    front_below n (row_of_decision xs d) (rows_on xs ds) (λ r e. decision_below n xs d r w g p.0 e) (path_below n xs ds w g p.1)

-- ---- a term that isn't there

not_there : (n x : ℕ) (ts : List Entry) → nat_lt x n ≡ false → entries_below n ts ≡ true → mentions x ts ≡ false
not_there n x [] l b = refl
not_there n x (t ∷ ts) l b =
    let p = and_parts (nat_lt t.variable n) (entries_below n ts) b in
    by_same p.0 (t.variable == x) refl (not_there n x ts l p.1)
  where
    by_same : nat_lt t.variable n ≡ true → (z : Bool) → (t.variable == x) ≡ z → mentions x ts ≡ false → (z || mentions x ts) ≡ false
    by_same q true e r = let v : t.variable ≡ x = grind (arith, nat_tests) in absurd (let u = rw v at q in cc)
    by_same q false e r = r

all_without : (n x : ℕ) (rows : List Row) → nat_lt x n ≡ false → AllBelow n (map row_of rows) → AllWithout x (map row_of rows)
all_without n x [] l b = tt
all_without n x (r ∷ rows) l b =
    (record { normal = r.normal; gone = not_there n x r.entries.items l b.0 }, all_without n x rows l b.1)

kept_mentions : (order : List ℕ) (v : ℕ → ℤ) (x : ℕ) (k : ℤ) (o : Option RowOf) → ((r : RowOf) → o ≡ Some r → Without x r) → keeps_above order v x k o ≡ true → ⊥
kept_mentions order v x k None w h = cc
kept_mentions order v x k (Some r) w h =
    let p = and_parts (bounds_below order x r) _ h in
    let q = (and_parts _ (int_lt (coefficient x r.entries) (pos 0)) p.0).1 in
    let z = no_coefficient x r.entries (w r refl).gone in
    let u = rw z at q in
    cc

pub gap_is_there : (targets : ℕ → ℤ) (n : ℕ) (path : List Row) (order : List ℕ) (reasons : List Reason) (rows : List RowOf) (spots : List Spot) (x : ℕ) (k : ℤ) (low up : ℕ) → AllBelow n (map row_of path) → made_rows (map row_of path) order [] reasons ≡ Some rows → IsGap targets order rows spots x k low up → x < n
gap_is_there targets n path order reasons rows spots x k low up b m g = by_test (nat_lt x n) refl
  where
    by_test : (t : Bool) → nat_lt x n ≡ t → x < n
    by_test true e = grind (arith, nat_tests)
    by_test false e =
        let w = made_without x (map row_of path) order [] reasons rows (all_without n x path e b) tt m in
        absurd (kept_mentions order (value_of spots) x k (row_at rows low) (λ r h. at_without x rows low r w h) g.above)
