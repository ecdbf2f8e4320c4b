-- The order in which tables keep their arguments is that of values.
use Rattle.std.proofs.Common.{◌≡◌, ◌∙◌, ℕ, ℤ, Bool, true, false, List, [], ◌∷◌, cond, refl, ap, subst}
use Rattle.std.specs.Prelude.{◌&&◌, ◌==◌, if◌then◌else◌, int_lt}
use Rattle.std.specs.declared.cmp.Ordering.{Ordering}
use Rattle.std.specs.declared.cmp.Ordering.TheVariants.{Less, Equal, Greater}
use Rattle.std.specs.Ordering.{is_eq, ordering_then, nat_cmp, int_cmp, int_eq}
use Rattle.std.specs.Cmp.{unsigned_tied}
use Rattle.std.specs.Cmp.Lexicographic.{slice_cmp}
use Rattle.bg_ast.specs.Values.{Val, Default, Entry, keys_lt, keys_eq, val_eq}
use Rattle.bg_sense.specs.Tables.{val_lt, vals_lt}
use Rattle.bg_sense.proofs.Bools.{and_left, and_right}
use Rattle.bg_sense.proofs.MapLaws.{val_same, val_eq_refl}
use Rattle.bg_scalar.specs.Values.{val_of, value_of, entered}
use Rattle.bg_scalar.specs.Views.{vals_in}
use Rattle.bg_scalar.specs.declared.scalar.Scalar.{Scalar}
use Rattle.bg_scalar.specs.declared.scalar.Scalar.TheVariants.{Truth, Number, Element}
use Rattle.bg_scalar.specs.declared.value.Value.{Value, Row_of-Entry, end_of-Entry, more_of-Entry, items-the_row-Entry}
use Rattle.bg_scalar.specs.declared.value.Value.TheVariants as value
use Rattle.bg_scalar.specs.declared.value.Entry as kept
use Rattle.bg_scalar.proofs.Ordered.{scalar_cmp, value_cmp, entry_cmp, values_alike, cmp_is, entry_is, plain_cmp, plain_first, maps_cmp}

abbrev pub args_cmp : List Value → List Value → Ordering
args_cmp xs ys = slice_cmp value_cmp xs ys

tied : (o : Ordering) → is_eq o ≡ true → o ≡ Equal
tied Less h = absurd (let bad : ⊥ = cc in bad)
tied Equal h = refl
tied Greater h = absurd (let bad : ⊥ = cc in bad)

then_assoc : (o p q : Ordering) → ordering_then (ordering_then o p) q ≡ ordering_then o (ordering_then p q)
then_assoc Less p q = refl
then_assoc Equal p q = refl
then_assoc Greater p q = refl

-- the first that differ decide
decided : (l e b : Bool) (o p : Ordering) → (l ≡ true → o ≡ Less) → (e ≡ true → o ≡ Equal) → (b ≡ true → p ≡ Less) → (if l then true else e && b) ≡ true → ordering_then o p ≡ Less
decided true e b o p f g h k = ap (λ x. ordering_then x p) (f refl)
decided false e b o p f g h k = ap (λ x. ordering_then x p) (g (and_left e b k)) ∙ h (and_right e b k)

int_less : (x y : ℤ) → int_lt x y ≡ true → int_cmp x y ≡ Less
int_less x y h = ap (λ c. cond c Less (cond (int_lt y x) Greater Equal)) h

int_tied : (x y : ℤ) → int_eq x y ≡ true → int_cmp x y ≡ Equal
int_tied x y h = tied (int_cmp x y) h

-- ---- scalars

scalars_less : (x y : Scalar) → val_lt (val_of x) (val_of y) ≡ true → scalar_cmp x y ≡ Less
scalars_less (Truth false) (Truth true) h = refl
scalars_less (Truth false) (Truth false) h = absurd (let bad : ⊥ = cc in bad)
scalars_less (Truth true) (Truth b) h = absurd (let bad : ⊥ = cc in bad)
scalars_less (Truth a) (Number y) h = absurd (let bad : ⊥ = cc in bad)
scalars_less (Truth a) (Element u y) h = absurd (let bad : ⊥ = cc in bad)
scalars_less (Number x) (Truth b) h = absurd (let bad : ⊥ = cc in bad)
scalars_less (Number x) (Number y) h = int_less x y h
scalars_less (Number x) (Element u y) h = absurd (let bad : ⊥ = cc in bad)
scalars_less (Element t x) (Truth b) h = absurd (let bad : ⊥ = cc in bad)
scalars_less (Element t x) (Number y) h = absurd (let bad : ⊥ = cc in bad)
scalars_less (Element t x) (Element u y) h =
    ap (λ o. ordering_then o (int_cmp x y)) (tied (nat_cmp t u) (unsigned_tied t u ∙ and_left (t == u) (int_lt x y) h)) ∙ int_less x y (and_right (t == u) (int_lt x y) h)

-- ---- keys

keys_less : (ks ls : List ℤ) → keys_lt ks ls ≡ true → slice_cmp int_cmp ks ls ≡ Less
keys_less [] [] h = absurd (let bad : ⊥ = cc in bad)
keys_less [] (l ∷ ls) h = refl
keys_less (k ∷ ks) [] h = absurd (let bad : ⊥ = cc in bad)
keys_less (k ∷ ks) (l ∷ ls) h =
    decided (int_lt k l) (int_eq k l) (keys_lt ks ls) (int_cmp k l) (slice_cmp int_cmp ks ls) (int_less k l) (int_tied k l) (keys_less ks ls) h

keys_tied : (ks ls : List ℤ) → keys_eq ks ls ≡ true → slice_cmp int_cmp ks ls ≡ Equal
keys_tied [] [] h = refl
keys_tied [] (l ∷ ls) h = absurd (let bad : ⊥ = cc in bad)
keys_tied (k ∷ ks) [] h = absurd (let bad : ⊥ = cc in bad)
keys_tied (k ∷ ks) (l ∷ ls) h =
    ap (λ o. ordering_then o (slice_cmp int_cmp ks ls)) (int_tied k l (and_left (int_eq k l) (keys_eq ks ls) h)) ∙ keys_tied ks ls (and_right (int_eq k l) (keys_eq ks ls) h)

-- ---- values

turned : (v w : Val) → val_eq v w ≡ true → val_eq w v ≡ true
turned v w e = subst (λ x. val_eq x v ≡ true) (val_same v w e) (val_eq_refl v)

values_tied : (x y : Value) → val_eq (value_of x) (value_of y) ≡ true → value_cmp x y ≡ Equal
values_tied x y h = tied (value_cmp x y) (values_alike x y ∙ turned (value_of x) (value_of y) h)

map_no_less : {n : _} (q : Row_of-Entry n) (a : Val) (x : Scalar) → val_lt (entered q (Default a)) (val_of x) ≡ true → ⊥
map_no_less end_of-Entry a (Truth b) h = let bad : ⊥ = cc in bad
map_no_less end_of-Entry a (Number z) h = let bad : ⊥ = cc in bad
map_no_less end_of-Entry a (Element t z) h = let bad : ⊥ = cc in bad
map_no_less (more_of-Entry k u es) a (Truth b) h = let bad : ⊥ = cc in bad
map_no_less (more_of-Entry k u es) a (Number z) h = let bad : ⊥ = cc in bad
map_no_less (more_of-Entry k u es) a (Element t z) h = let bad : ⊥ = cc in bad

mutual
  pub values_less : (x y : Value) → val_lt (value_of x) (value_of y) ≡ true → value_cmp x y ≡ Less
  values_less (value.Plain x) (value.Plain y) h = cmp_is (value.Plain x) (value.Plain y) ∙ (plain_cmp x y ∙ scalars_less x y h)
  values_less (value.Plain x) (value.Map' s r p d) h = cmp_is (value.Plain x) (value.Map' s r p d) ∙ plain_first x s r p d
  values_less (value.Map' s r p d) (value.Plain y) h = absurd (map_no_less r (value_of d) y h)
  values_less (value.Map' s r p d) (value.Map' s2 r2 p2 d2) h =
      cmp_is (value.Map' s r p d) (value.Map' s2 r2 p2 d2)
      ∙ (maps_cmp s r p d s2 r2 p2 d2 ∙ rows_less r r2 (value_of d) (value_of d2) (value_cmp d d2) (λ k. values_less d d2 k) h)

  rows_less : {n m : _} (q : Row_of-Entry n) (r : Row_of-Entry m) (a b : Val) (o : Ordering) → (val_lt a b ≡ true → o ≡ Less) → val_lt (entered q (Default a)) (entered r (Default b)) ≡ true → ordering_then (slice_cmp entry_cmp (items-the_row-Entry _ q) (items-the_row-Entry _ r)) o ≡ Less
  rows_less end_of-Entry end_of-Entry a b o f h = f h
  rows_less end_of-Entry (more_of-Entry l w fs) a b o f h = refl
  rows_less (more_of-Entry k u es) end_of-Entry a b o f h = absurd (let bad : ⊥ = cc in bad)
  rows_less (more_of-Entry k u es) (more_of-Entry l w fs) a b o f h =
      let e : kept.Entry = record { key = k; value = u } in
      let g : kept.Entry = record { key = l; value = w } in
      let keys = slice_cmp int_cmp k.items l.items in
      let rest = slice_cmp entry_cmp (items-the_row-Entry _ es) (items-the_row-Entry _ fs) in
      let more = val_lt (entered es (Default a)) (entered fs (Default b)) in
      then_assoc (entry_cmp e g) rest o
      ∙ (ap (λ x. ordering_then x (ordering_then rest o)) (entry_is e g)
      ∙ (then_assoc keys (value_cmp u w) (ordering_then rest o)
      ∙ decided (keys_lt k.items l.items) (keys_eq k.items l.items) (if val_lt (value_of u) (value_of w) then true else val_eq (value_of u) (value_of w) && more) keys (ordering_then (value_cmp u w) (ordering_then rest o)) (keys_less k.items l.items) (keys_tied k.items l.items)
      (decided (val_lt (value_of u) (value_of w)) (val_eq (value_of u) (value_of w)) more (value_cmp u w) (ordering_then rest o) (λ x. values_less u w x) (values_tied u w) (λ x. rows_less es fs a b o f x)) h))

pub args_less : (xs ys : List Value) → vals_lt (vals_in xs) (vals_in ys) ≡ true → args_cmp xs ys ≡ Less
args_less [] [] h = absurd (let bad : ⊥ = cc in bad)
args_less [] (y ∷ ys) h = refl
args_less (x ∷ xs) [] h = absurd (let bad : ⊥ = cc in bad)
args_less (x ∷ xs) (y ∷ ys) h =
    decided (val_lt (value_of x) (value_of y)) (val_eq (value_of x) (value_of y)) (vals_lt (vals_in xs) (vals_in ys)) (value_cmp x y) (args_cmp xs ys) (values_less x y) (values_tied x y) (args_less xs ys) h
