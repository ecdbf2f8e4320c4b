use Rattle.std.proofs.Common.{◌≡◌, Bool, ℕ, zero, suc, ◌+◌, ◌-◌, ◌<◌, ◌≤◌, List, [], ◌∷◌, ◌++◌, Some, None, map, drop, length, refl, sym, ap, ◌∙◌, append_assoc, arith, add-one, get_or, drop-cons, append-nil}
use Rattle.std.specs.List.{slice_get}
use Rattle.std.proofs.lemmas.List.{length-map}
use Rattle.std.proofs.Math.Seq.{drop-append-add}
use Rattle.bg_ast.specs.declared.resolved.Declared.{Declared}
use Rattle.bg_ast.specs.declared.resolved.TypeName.{TypeName}
use Rattle.bg_ast.specs.Resolved as r
use Rattle.bg_ast.specs.declared.resolved.Function.{Function}
use Rattle.bg_ast.specs.Views.{declared_of, fun_of}
use Rattle.bg_scalar.specs.declared.value.Value.{Value}
use Rattle.bg_told.specs.Lines.{texts}
use Rattle.bg_scalar.specs.declared.table.Table.{Table}
use Rattle.bg_told.specs.Places.{Variable, Named}
use Rattle.bg_told.specs.Sheets.{variable_in, named_as}
use Rattle.bg_told.specs.Entries.{declared_types, variables_in, entry_text, constant_line, all_named}

pub texts_nil : {A B : Type 0} (text : A → B → List ℕ) (xs : List A) → texts text xs [] ≡ []
texts_nil text [] = refl
texts_nil text (x ∷ xs) = refl

-- the texts of two rows of names, of which the second takes the values that the first leaves
texts_of_parts : {A B : Type 0} (text : A → B → List ℕ) (xs ys : List A) (zs : List B) → texts text (xs ++ ys) zs ≡ texts text xs zs ++ texts text ys (drop (length xs) zs)
texts_of_parts text [] ys zs = refl
texts_of_parts text (x ∷ xs) ys [] = sym (texts_nil text ys)
texts_of_parts text (x ∷ xs) ys (z ∷ zs) = rw (texts_of_parts text xs ys zs) (sym (append_assoc (text x z) (texts text xs zs) (texts text ys (drop (length xs) zs))))

many : (ts : List TypeName) (ds : List Declared) → length (variables_in ts ds) ≡ length ds
many ts ds = length-map (map declared_of ds) (variable_in (declared_types ts)) ∙ length-map ds declared_of

-- the values of the first variables, and of those behind them
pub entry_parts : (types : List (List ℕ)) (ts : List TypeName) (ds : List Declared) (names : List Variable) (vs : List Value) → texts (entry_text types) (variables_in ts ds ++ names) vs ≡ texts (entry_text types) (variables_in ts ds) vs ++ texts (entry_text types) names (drop (length ds) vs)
entry_parts types ts ds names vs =
    texts_of_parts (entry_text types) (variables_in ts ds) names vs
    ∙ ap (λ (n : ℕ). texts (entry_text types) (variables_in ts ds) vs ++ texts (entry_text types) names (drop n vs)) (many ts ds)

-- no value has this number: none is left behind it
none_left : {A : Type 0} (xs : List A) (i : ℕ) → slice_get xs i ≡ None → drop i xs ≡ []
none_left [] zero h = refl
none_left [] (suc i) h = refl
none_left (x ∷ xs) zero h = cc
none_left (x ∷ xs) (suc i) h = none_left xs i h

-- the value with this number is the first that is left
next_from : {A : Type 0} (xs : List A) (i : ℕ) (x : A) → slice_get xs i ≡ Some x → drop i xs ≡ x ∷ drop (suc i) xs
next_from [] zero x h = cc
next_from [] (suc i) x h = cc
next_from (y ∷ xs) zero x h = cc
next_from (y ∷ xs) (suc i) x h = next_from xs i x h

-- where no value is left, the text is at its end
pub values_end : (types : List (List ℕ)) (ts : List TypeName) (ds : List Declared) (vs : List Value) (i : ℕ) (o w : List ℕ) → None ≡ slice_get vs i → o ++ texts (entry_text types) (variables_in ts (drop i ds)) (drop i vs) ≡ w → o ≡ w
values_end types ts ds vs i o w h k =
    let e : drop i vs ≡ [] = none_left vs i (sym h) in
    sym (append-nil o)
    ∙ ap (λ (t : List ℕ). o ++ t) (sym (texts_nil (entry_text types) (variables_in ts (drop i ds))))
    ∙ ap (λ (l : List Value). o ++ texts (entry_text types) (variables_in ts (drop i ds)) l) (sym e)
    ∙ k

-- one variable with its value
pub values_step : (types : List (List ℕ)) (ts : List TypeName) (ds : List Declared) (vs : List Value) (i : ℕ) (d : Declared) (v : Value) (o w : List ℕ) → i < length ds → d ≡ get_or ds i d → Some v ≡ slice_get vs i → o ++ texts (entry_text types) (variables_in ts (drop i ds)) (drop i vs) ≡ w → (o ++ entry_text types (variable_in (declared_types ts) (declared_of d)) v) ++ texts (entry_text types) (variables_in ts (drop (i + 1) ds)) (drop (i + 1) vs) ≡ w
values_step types ts ds vs i d v o w l e h k =
    let a : drop i ds ≡ d ∷ drop (suc i) ds = drop-cons ds i d l ∙ ap (λ (x : Declared). x ∷ drop (suc i) ds) (sym e) in
    let b : drop i vs ≡ v ∷ drop (suc i) vs = next_from vs i v (sym h) in
    rw add-one
    (append_assoc o (entry_text types (variable_in (declared_types ts) (declared_of d)) v) (texts (entry_text types) (variables_in ts (drop (suc i) ds)) (drop (suc i) vs))
    ∙ ap (λ (x : List Declared). o ++ texts (entry_text types) (variables_in ts x) (v ∷ drop (suc i) vs)) (sym a)
    ∙ ap (λ (l : List Value). o ++ texts (entry_text types) (variables_in ts (drop i ds)) l) (sym b)
    ∙ k)

-- one text of two rows that are made of these
pub texts_step : {A B C D E F : Type 0} (text : C → F → List ℕ) (f : B → C) (of : A → B) (g : E → F) (by : D → E) (xs : List A) (ys : List D) (i : ℕ) (x : A) (y : D) (o w : List ℕ) → i < length xs → x ≡ get_or xs i x → i < length ys → y ≡ get_or ys i y → o ++ texts text (map f (map of (drop i xs))) (map g (map by (drop i ys))) ≡ w → (o ++ text (f (of x)) (g (by y))) ++ texts text (map f (map of (drop (i + 1) xs))) (map g (map by (drop (i + 1) ys))) ≡ w
texts_step {A} {B} {C} {D} text f of g by xs ys i x y o w l e m d h =
    let a : drop i xs ≡ x ∷ drop (suc i) xs = drop-cons xs i x l ∙ ap (λ (z : A). z ∷ drop (suc i) xs) (sym e) in
    let b : drop i ys ≡ y ∷ drop (suc i) ys = drop-cons ys i y m ∙ ap (λ (z : D). z ∷ drop (suc i) ys) (sym d) in
    rw add-one
    (append_assoc o (text (f (of x)) (g (by y))) (texts text (map f (map of (drop (suc i) xs))) (map g (map by (drop (suc i) ys))))
    ∙ ap (λ (z : List A). o ++ texts text (map f (map of z)) (map g (map by (y ∷ drop (suc i) ys)))) (sym a)
    ∙ ap (λ (z : List D). o ++ texts text (map f (map of (drop i xs))) (map g (map by z))) (sym b)
    ∙ h)

-- the texts of two rows are at their end where the second is
pub pairs_end : {A B C : Type 0} (text : B → C → List ℕ) (f : A → B) (xs : List A) (ys : List C) (i : ℕ) (o w : List ℕ) → length ys ≤ i → o ++ texts text (map f (drop i xs)) (drop i ys) ≡ w → o ≡ w
pairs_end {A} {B} {C} text f xs ys i o w l h =
    sym (append-nil o)
    ∙ ap (λ (t : List ℕ). o ++ t) (sym (texts_nil text (map f (drop i xs))))
    ∙ ap (λ (z : List C). o ++ texts text (map f (drop i xs)) z) (sym (all_past ys i l))
    ∙ h
  where
    all_past : (zs : List C) (k : ℕ) → length zs ≤ k → drop k zs ≡ []
    all_past [] zero m = refl
    all_past [] (suc k) m = refl
    all_past (z ∷ zs) zero m = absurd (omega (arith, m))
    all_past (z ∷ zs) (suc k) m = all_past zs k (omega (arith, m))

-- and go on with one of each
pub pairs_step : {A B C : Type 0} (text : B → C → List ℕ) (f : A → B) (xs : List A) (ys : List C) (i : ℕ) (x : A) (y : C) (o w : List ℕ) → i < length xs → x ≡ get_or xs i x → i < length ys → y ≡ get_or ys i y → o ++ texts text (map f (drop i xs)) (drop i ys) ≡ w → (o ++ text (f x) y) ++ texts text (map f (drop (i + 1) xs)) (drop (i + 1) ys) ≡ w
pairs_step {A} {B} {C} text f xs ys i x y o w l e m d h =
    let a : drop i xs ≡ x ∷ drop (suc i) xs = drop-cons xs i x l ∙ ap (λ (z : A). z ∷ drop (suc i) xs) (sym e) in
    let b : drop i ys ≡ y ∷ drop (suc i) ys = drop-cons ys i y m ∙ ap (λ (z : C). z ∷ drop (suc i) ys) (sym d) in
    rw add-one
    (append_assoc o (text (f x) y) (texts text (map f (drop (suc i) xs)) (drop (suc i) ys))
    ∙ ap (λ (z : List A). o ++ texts text (map f z) (y ∷ drop (suc i) ys)) (sym a)
    ∙ ap (λ (z : List C). o ++ texts text (map f (drop i xs)) z) (sym b)
    ∙ h)

-- a default isn't taken where there is an item
any_default : {A : Type 0} (xs : List A) (i : ℕ) (d e : A) → i < length xs → get_or xs i d ≡ get_or xs i e
any_default [] i d e l = absurd (omega (arith, l))
any_default (x ∷ xs) zero d e l = refl
any_default (x ∷ xs) (suc i) d e l = any_default xs i d e (omega (arith, l))

pub pairs_at : {A B C : Type 0} (text : B → C → List ℕ) (f : A → B) (xs : List A) (ys : List C) (i : ℕ) (d : A) (e : C) (o w : List ℕ) → i < length xs → i < length ys → o ++ texts text (map f (drop i xs)) (drop i ys) ≡ w → (o ++ text (f (get_or xs i d)) (get_or ys i e)) ++ texts text (map f (drop (i + 1) xs)) (drop (i + 1) ys) ≡ w
pairs_at text f xs ys i d e o w l m h =
    pairs_step text f xs ys i (get_or xs i d) (get_or ys i e) o w l (any_default xs i d (get_or xs i d) l) m (any_default ys i e (get_or ys i e) m) h

-- functions go on with one of each
pub functions_step : (types : List r.TypeName) (text : Named → Table → List ℕ) (fs : List Function) (bs : List Bool) (us : List Table) (i : ℕ) (f : Function) (d : Bool) (u : Table) (o w : List ℕ) → i < length fs → f ≡ get_or fs i f → i < length bs → i < length us → u ≡ get_or us i u → o ++ texts text (all_named types (map fun_of (drop i fs)) (drop i bs)) (drop i us) ≡ w → (o ++ text (named_as types (fun_of f) (get_or bs i d)) u) ++ texts text (all_named types (map fun_of (drop (i + 1) fs)) (drop (i + 1) bs)) (drop (i + 1) us) ≡ w
functions_step types text fs bs us i f d u o w l e m n g h =
    let a : drop i fs ≡ f ∷ drop (suc i) fs = drop-cons fs i f l ∙ ap (λ (z : Function). z ∷ drop (suc i) fs) (sym e) in
    let b : drop i bs ≡ get_or bs i d ∷ drop (suc i) bs = drop-cons bs i d m in
    let c : drop i us ≡ u ∷ drop (suc i) us = drop-cons us i u n ∙ ap (λ (z : Table). z ∷ drop (suc i) us) (sym g) in
    rw add-one
    (append_assoc o (text (named_as types (fun_of f) (get_or bs i d)) u) (texts text (all_named types (map fun_of (drop (suc i) fs)) (drop (suc i) bs)) (drop (suc i) us))
    ∙ ap (λ (z : List Function). o ++ texts text (all_named types (map fun_of z) (get_or bs i d ∷ drop (suc i) bs)) (u ∷ drop (suc i) us)) (sym a)
    ∙ ap (λ (z : List Bool). o ++ texts text (all_named types (map fun_of (drop i fs)) z) (u ∷ drop (suc i) us)) (sym b)
    ∙ ap (λ (z : List Table). o ++ texts text (all_named types (map fun_of (drop i fs)) (drop i bs)) z) (sym c)
    ∙ h)

-- past the first of two rows
pub drop_past : {A : Type 0} (xs ys : List A) (n : ℕ) → length xs ≤ n → drop n (xs ++ ys) ≡ drop (n - length xs) ys
drop_past xs ys n h =
    let e : n ≡ length xs + (n - length xs) = omega (arith, h) in
    ap (λ (k : ℕ). drop k (xs ++ ys)) e ∙ drop-append-add xs ys (n - length xs)

-- what is put behind a text, piece by piece
pub four_in_front : (o a b c d z : List ℕ) → ((((o ++ a) ++ b) ++ c) ++ d) ++ z ≡ o ++ ((((a ++ b) ++ c) ++ d) ++ z)
four_in_front o a b c d z = simp append_assoc

-- the item with this number from the end, and those behind it
pub one_back : {A : Type 0} (xs : List A) (i k : ℕ) (d : A) → i < length xs → d ≡ get_or xs k d → k ≡ length xs - (i + 1) → drop (length xs - (i + 1)) xs ≡ d ∷ drop (length xs - i) xs
one_back xs i k d h e is =
    let low : k < length xs = omega (arith, h, is) in
    let next : suc k ≡ length xs - i = omega (arith, h, is) in
    ap (λ (n : ℕ). drop n xs) (sym is)
    ∙ drop-cons xs k d low
    ∙ ap (λ x. x ∷ drop (suc k) xs) (sym e)
    ∙ ap (λ (n : ℕ). d ∷ drop n xs) next
