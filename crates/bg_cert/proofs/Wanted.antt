-- Steps derive the same from rows of which those that they name are the same.
use Rattle.std.proofs.Common.{◌≡◌, ℕ, zero, suc, ◌+◌, ◌<◌, ◌≤◌, ◌-◌, Bool, true, false, ◌||◌, List, [], ◌∷◌, ◌++◌, length, map, drop, take, get_or, nat_eq, nat_lt, subst, refl, sym, ap, ◌∙◌, arith, drop-cons, add-one, append-nil}
use Rattle.std.specs.Prelude.{Option, Some, None, is_some}
use Rattle.std.proofs.lemmas.Bool.{eqb-true, eq-eqb}
use Rattle.std.proofs.lemmas.Bool.Decides.{nat_tests}
use Rattle.std.proofs.lemmas.List.{take_more}
use Rattle.bg_rows.specs.Rows.{RowOf, row_of, is_false}
use Rattle.bg_rows.specs.declared.step.Step.{Step}
use Rattle.bg_rows.specs.declared.step.Step.TheVariants.{Path, Sum, Tight}
use Rattle.bg_rows.specs.Steps.{row_at, step_row, derives}
use Rattle.bg_formula.specs.declared.atom.Linear.{Linear}
use Rattle.bg_formula.specs.declared.atom.Atom.{Atom}
use Rattle.bg_formula.specs.Atoms.{AtomOf, IsRow, at, atom_of, view_linear}
use Rattle.bg_cert.specs.declared.cert.Decision.{Decision}
use Rattle.bg_cert.specs.Paths.{row_of_atom, row_of_decision, in_front, rows_on}
use Rattle.bg_cert.specs.Wanted.{is_path, names_row, is_named, AreInPlace}

or_true : (b : Bool) → (b || true) ≡ true
or_true true = refl
or_true false = refl

-- ---- the same is derived

same_step : (p q made : List RowOf) (s : Step) (ss : List Step) → ((j : ℕ) → names_row j (s ∷ ss) ≡ true → row_at p j ≡ row_at q j) → step_row p made s ≡ step_row q made s
same_step p q made (Path j) ss h = h j (rw (eq-eqb j j refl) refl)
same_step p q made (Sum r k s l) ss h = refl
same_step p q made (Tight r) ss h = refl

pub derives_same : (p q made : List RowOf) (last : Bool) (ss : List Step) → ((j : ℕ) → names_row j ss ≡ true → row_at p j ≡ row_at q j) → derives p made last ss ≡ derives q made last ss
derives_same p q made last [] h = refl
derives_same p q made last (s ∷ ss) h =
    subst (λ (z : Option RowOf). ◌≡◌ {A = Bool} (elim (step_row p made s) [ None ↦ false | Some r ↦ derives p (made ++ (r ∷ [])) (is_false r) ss ]) (elim z [ None ↦ false | Some r ↦ derives q (made ++ (r ∷ [])) (is_false r) ss ]))
    (same_step p q made s ss h)
    (by_row (λ r. derives_same p q (made ++ (r ∷ [])) (is_false r) ss (λ j g. h j (ap (λ b. is_path j s || b) g ∙ or_true (is_path j s)))) (step_row p made s))
  where
    by_row : ((r : RowOf) → derives p (made ++ (r ∷ [])) (is_false r) ss ≡ derives q (made ++ (r ∷ [])) (is_false r) ss) → (o : Option RowOf) → ◌≡◌ {A = Bool} (elim o [ None ↦ false | Some r ↦ derives p (made ++ (r ∷ [])) (is_false r) ss ]) (elim o [ None ↦ false | Some r ↦ derives q (made ++ (r ∷ [])) (is_false r) ss ])
    by_row more None = refl
    by_row more (Some r) = more r

-- ---- marks

-- one more step's row is marked
pub named_more : (old new : List Bool) (ss : List Step) (k j : ℕ) (d : Step) → k < length ss → is_named new j ≡ (is_named old j || is_path j (get_or ss k d)) → (is_named old j || names_row j (drop k ss)) ≡ true → (is_named new j || names_row j (drop (k + 1) ss)) ≡ true
named_more old new ss k j d lt e h =
    let g = rw (drop-cons ss k d lt) at h in
    rw (e, add-one) (by_parts (is_named old j) (is_path j (get_or ss k d)) (names_row j (drop (suc k) ss)) g)
  where
    by_parts : (a b c : Bool) → (a || (b || c)) ≡ true → ((a || b) || c) ≡ true
    by_parts true b c h = refl
    by_parts false b c h = h

-- ---- rows

at_end : (rows : List RowOf) (r : RowOf) (j : ℕ) → j ≡ length rows → row_at (rows ++ (r ∷ [])) j ≡ Some r
at_end [] r zero e = refl
at_end [] r (suc j) e = absurd (omega (arith, e))
at_end (s ∷ rows) r zero e = absurd (omega (arith, e))
at_end (s ∷ rows) r (suc j) e = at_end rows r j (omega (arith, e))

not_end : (rows : List RowOf) (r : RowOf) (j : ℕ) → (j ≡ length rows → ⊥) → row_at (rows ++ (r ∷ [])) j ≡ row_at rows j
not_end [] r zero n = absurd (n refl)
not_end [] r (suc j) n = refl
not_end (s ∷ rows) r zero n = refl
not_end (s ∷ rows) r (suc j) n = not_end rows r j (λ e. n (ap suc e))

length_last : (rows : List RowOf) (r : RowOf) → length (rows ++ (r ∷ [])) ≡ suc (length rows)
length_last [] r = refl
length_last (s ∷ rows) r = ap suc (length_last rows r)

place_more : (marks : List Bool) (made rows : List RowOf) (r s : RowOf) → (is_named marks (length made) ≡ true → r ≡ s) → AreInPlace marks made rows → AreInPlace marks (made ++ (r ∷ [])) (rows ++ (s ∷ []))
place_more marks made rows r s e p = record {
  many = length_last made r ∙ ap suc p.many ∙ sym (length_last rows s);
  same = λ j n. by_last j n (nat_eq j (length made)) refl;
}
  where
    apart : (j : ℕ) → nat_eq j (length made) ≡ false → j ≡ length made → ⊥
    apart j f same = let g = eq-eqb j (length made) same in absurd (cc)

    by_last : (j : ℕ) → is_named marks j ≡ true → (b : Bool) → nat_eq j (length made) ≡ b → row_at (made ++ (r ∷ [])) j ≡ row_at (rows ++ (s ∷ [])) j
    by_last j n true f =
        let same : j ≡ length made = eqb-true j (length made) f in
        at_end made r j same ∙ ap Some (e (ap (is_named marks) (sym same) ∙ n)) ∙ sym (at_end rows s j (same ∙ p.many))
    by_last j n false f =
        not_end made r j (apart j f) ∙ p.same j n ∙ sym (not_end rows s j (λ same. apart j f (same ∙ sym p.many)))

pub place_row : (marks : List Bool) (made rows new : List RowOf) (o p : Option RowOf) → new ≡ made ++ in_front o [] → is_some o ≡ is_some p → (is_named marks (length made) ≡ true → o ≡ p) → AreInPlace marks made rows → AreInPlace marks new (rows ++ in_front p [])
place_row marks made rows new None None e t s h = rw (e, append-nil, append-nil) h
place_row marks made rows new (Some r) None e t s h = absurd (cc)
place_row marks made rows new None (Some r) e t s h = absurd (cc)
place_row marks made rows new (Some r) (Some q) e t s h =
    rw e (place_more marks made rows r q (λ n. inside r q (s n)) h)
  where
    inside : (a b : RowOf) → Some a ≡ Some b → a ≡ b
    inside a b i = cc

in_front_more : {A : Type 0} (o : Option A) (xs ys : List A) → in_front o xs ++ ys ≡ in_front o (xs ++ ys)
in_front_more None xs ys = refl
in_front_more (Some x) xs ys = refl

rows_last : (atoms : List AtomOf) (ds : List Decision) (d : Decision) → rows_on atoms (ds ++ (d ∷ [])) ≡ rows_on atoms ds ++ in_front (row_of_decision atoms d) []
rows_last atoms [] d = refl
rows_last atoms (e ∷ ds) d = ap (in_front (row_of_decision atoms e)) (rows_last atoms ds d) ∙ sym (in_front_more (row_of_decision atoms e) (rows_on atoms ds) (in_front (row_of_decision atoms d) []))

-- one more decision
pub decision_more : (marks : List Bool) (atoms : List AtomOf) (ds : List Decision) (k : ℕ) (d : Decision) (made : List RowOf) → k < length ds → AreInPlace marks made (rows_on atoms (take k ds) ++ in_front (row_of_decision atoms (get_or ds k d)) []) → AreInPlace marks made (rows_on atoms (take (k + 1) ds))
decision_more marks atoms ds k d made lt h =
    subst (AreInPlace marks made) (sym (rows_last atoms (take k ds) (get_or ds k d)) ∙ ap (rows_on atoms) (sym (take_more ds k d lt))) h

-- all the rows that steps name are in place
pub rows_serve : (marks : List Bool) (made rows : List RowOf) (ss : List Step) → ((j : ℕ) → names_row j ss ≡ true → is_named marks j ≡ true) → AreInPlace marks made rows → derives made [] false ss ≡ derives rows [] false ss
rows_serve marks made rows ss n p = derives_same made rows [] false ss (λ j h. p.same j (n j h))

-- ---- whether a decision has a row

row_there : (a d : RowOf) (s : Bool) → true ≡ is_some (row_of_atom (Some (IsRow a d)) s)
row_there a d true = refl
row_there a d false = refl

none_there : (s : Bool) → false ≡ is_some (row_of_atom None s)
none_there true = refl
none_there false = refl

view_in : (table : List Linear) (n : ℕ) (s : Bool) → n < length table → true ≡ is_some (row_of_atom (at (map view_linear table) n) s)
view_in [] n s h = absurd (omega arith)
view_in (l ∷ table) zero s h = row_there (row_of l.row) (row_of l.denial) s
view_in (l ∷ table) (suc n) s h = view_in table n s (omega (arith, h))

view_out : (table : List Linear) (n : ℕ) (s : Bool) → length table ≤ n → false ≡ is_some (row_of_atom (at (map view_linear table) n) s)
view_out [] n s h = none_there s
view_out (l ∷ table) zero s h = absurd (omega arith)
view_out (l ∷ table) (suc n) s h = view_out table n s (omega (arith, h))

table_row : (table : List Linear) (n : ℕ) (s : Bool) → nat_lt n (length table) ≡ is_some (row_of_atom (at (map view_linear table) n) s)
table_row table n s = by_test (nat_lt n (length table)) refl
  where
    by_test : (b : Bool) → nat_lt n (length table) ≡ b → b ≡ is_some (row_of_atom (at (map view_linear table) n) s)
    by_test true e = view_in table n s (let lt : n < length table = grind (arith, nat_tests) in lt)
    by_test false e = view_out table n s (let le : length table ≤ n = grind (arith, nat_tests) in le)

at_behind : {A B : Type 0} (f : A → B) (xs : List A) (ys : List B) (a : ℕ) → length xs ≤ a → at (map f xs ++ ys) a ≡ at ys (a - length xs)
at_behind f [] ys a h = ap (at ys) (let e : a ≡ a - 0 = omega arith in e)
at_behind f (x ∷ xs) ys zero h = absurd (omega arith)
at_behind f (x ∷ xs) ys (suc a) h =
    at_behind f xs ys a (omega (arith, h)) ∙ ap (at ys) (let e : a - length xs ≡ suc a - length (x ∷ xs) = omega arith in e)

-- the table's rows stand behind the atoms
pub behind_row : (atoms : List Atom) (table : List Linear) (a : ℕ) (s : Bool) → length atoms ≤ a → nat_lt (a - length atoms) (length table) ≡ is_some (row_of_atom (at (map atom_of atoms ++ map view_linear table) a) s)
behind_row atoms table a s h =
    table_row table (a - length atoms) s ∙ ap (λ (o : Option AtomOf). is_some (row_of_atom o s)) (sym (at_behind atom_of atoms (map view_linear table) a h))

pub map_last : {A B : Type 0} (f : A → B) (xs : List A) (x : A) → map f (xs ++ (x ∷ [])) ≡ map f xs ++ (f x ∷ [])
map_last f [] x = refl
map_last f (y ∷ xs) x = ap (λ zs. f y ∷ zs) (map_last f xs x)
