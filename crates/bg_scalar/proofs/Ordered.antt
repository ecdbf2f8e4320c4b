-- The order of values by which tables find their entries: the same values are equal in it, and no others.
use Rattle.std.proofs.Common.{◌≡◌, ◌∙◌, ℕ, ℤ, Bool, true, false, List, [], ◌∷◌, refl, sym, ap, Vec, Box, Global}
use Rattle.std.specs.Prelude.{◌&&◌, ◌==◌}
use Rattle.std.specs.declared.cmp.Ordering.{Ordering}
use Rattle.std.specs.declared.cmp.Ordering.TheVariants.{Less, Equal, Greater}
use Rattle.std.specs.Ordering.{is_eq, ordering_then, nat_cmp, int_cmp, int_eq}
use Rattle.std.specs.Cmp.{int_eq_equiv, nat_eq_equiv, unsigned_tied}
use Rattle.std.specs.Cmp.Lexicographic.{slice_cmp}
use denote.Hole.Compared as compared
use Rattle.bg_ast.specs.Values as v
use Rattle.bg_scalar.specs.Values.{val_of, value_of, entered}
use Rattle.bg_scalar.specs.declared.scalar.Scalar.{Scalar}
use Rattle.bg_scalar.specs.declared.scalar.Scalar.TheVariants.{Truth, Number, Element}
use Rattle.bg_scalar.specs.declared.value.Value.{Value, Row_of-Entry, end_of-Entry, more_of-Entry, items-the_row-Entry, items_shown-the_row-Entry-0}
use Rattle.bg_scalar.specs.declared.value.Value.TheVariants as value
use Rattle.bg_scalar.specs.declared.value.Value.TheBlock as block
use Rattle.bg_scalar.specs.declared.value.Entry as kept
use Rattle.bg_scalar.specs.contracts.scalar.ScalarOrd.TheImpl as scalar_ord
use Rattle.bg_scalar.specs.contracts.value.ValueOrd.TheImpl as ord
use Rattle.bg_scalar.specs.contracts.value.ValueOrd.TheImpl.Laws as laws

pub then_is : (o p : Ordering) (a b : Bool) → is_eq o ≡ a → is_eq p ≡ b → is_eq (ordering_then o p) ≡ (a && b)
then_is Less p a b h k = ap (λ c. c && b) h
then_is Equal p a b h k = k ∙ ap (λ c. c && b) h
then_is Greater p a b h k = ap (λ c. c && b) h

-- ---- scalars

abbrev pub scalar_cmp : Scalar → Scalar → Ordering
scalar_cmp = (scalar_ord.ghosts).cmp

types_alike : (t u : ℕ) → is_eq (nat_cmp t u) ≡ (u == t)
types_alike t u = unsigned_tied t u ∙ nat_eq_equiv.symm t u

scalars_alike : (x y : Scalar) → is_eq (scalar_cmp x y) ≡ v.val_eq (val_of y) (val_of x)
scalars_alike (Truth true) (Truth true) = refl
scalars_alike (Truth true) (Truth false) = refl
scalars_alike (Truth false) (Truth true) = refl
scalars_alike (Truth false) (Truth false) = refl
scalars_alike (Truth true) (Number y) = refl
scalars_alike (Truth false) (Number y) = refl
scalars_alike (Truth true) (Element u y) = refl
scalars_alike (Truth false) (Element u y) = refl
scalars_alike (Number x) (Truth true) = refl
scalars_alike (Number x) (Truth false) = refl
scalars_alike (Number x) (Number y) = int_eq_equiv.symm x y
scalars_alike (Number x) (Element u y) = refl
scalars_alike (Element t x) (Truth true) = refl
scalars_alike (Element t x) (Truth false) = refl
scalars_alike (Element t x) (Number y) = refl
scalars_alike (Element t x) (Element u y) =
    then_is (nat_cmp t u) (int_cmp x y) (u == t) (int_eq y x) (types_alike t u) (int_eq_equiv.symm x y)

-- ---- keys

keys_alike : (ks ls : List ℤ) → is_eq (slice_cmp int_cmp ks ls) ≡ v.keys_eq ls ks
keys_alike [] [] = refl
keys_alike [] (l ∷ ls) = refl
keys_alike (k ∷ ks) [] = refl
keys_alike (k ∷ ks) (l ∷ ls) =
    then_is (int_cmp k l) (slice_cmp int_cmp ks ls) (int_eq l k) (v.keys_eq ls ks) (int_eq_equiv.symm k l) (keys_alike ks ls)

-- ---- values

abbrev pub value_cmp : Value → Value → Ordering
value_cmp = (ord.ghosts).cmp

abbrev pub entry_cmp : kept.Entry → kept.Entry → Ordering
entry_cmp = laws.family block.member-Entry

pub cmp_is : (x y : Value) → value_cmp x y ≡ laws.unfolded x y
cmp_is x y = compared.compared_is _ _ _ _ _ _ laws.local block.member-Value x y

pub entry_is : (e f : kept.Entry) → entry_cmp e f ≡ ordering_then (slice_cmp int_cmp e.key.items f.key.items) (value_cmp e.value f.value)
entry_is e f = compared.compared_is _ _ _ _ _ _ laws.local block.member-Entry e f

pub plain_cmp : (x y : Scalar) → laws.unfolded (value.Plain x) (value.Plain y) ≡ scalar_cmp x y
unfolding Rattle.bg_scalar.specs.declared.value.Value.TheViews.out-Value denote.Hole.Carrier.out
plain_cmp x y = refl

pub plain_first : (x : Scalar) (s : _) (r : _) (p : _) (d : Value) → laws.unfolded (value.Plain x) (value.Map' s r p d) ≡ Less
unfolding Rattle.bg_scalar.specs.declared.value.Value.TheViews.out-Value denote.Hole.Carrier.out
plain_first x s r p d = refl

pub map_last : (s : _) (r : _) (p : _) (d : Value) (x : Scalar) → laws.unfolded (value.Map' s r p d) (value.Plain x) ≡ Greater
unfolding Rattle.bg_scalar.specs.declared.value.Value.TheViews.out-Value denote.Hole.Carrier.out
map_last s r p d x = refl

pub maps_cmp : (s : _) (r : _) (p : _) (d : Value) (s2 : _) (r2 : _) (p2 : _) (d2 : Value) → laws.unfolded (value.Map' s r p d) (value.Map' s2 r2 p2 d2) ≡ ordering_then (slice_cmp entry_cmp (items-the_row-Entry _ r) (items-the_row-Entry _ r2)) (value_cmp d d2)
unfolding Rattle.bg_scalar.specs.declared.value.Value.TheViews.out-Value denote.Hole.Carrier.out
maps_cmp s r p d s2 r2 p2 d2 =
    ap (λ xs. ordering_then (slice_cmp entry_cmp xs (block.shown-the_row-Entry-0 s2 r2).items) (value_cmp d d2)) (items_shown-the_row-Entry-0 s r)
    ∙ ap (λ xs. ordering_then (slice_cmp entry_cmp (items-the_row-Entry _ r) xs) (value_cmp d d2)) (items_shown-the_row-Entry-0 s2 r2)

-- rows of entries that are the same
abbrev rows_eq : {n m : _} → Row_of-Entry n → Row_of-Entry m → Bool
rows_eq end_of-Entry end_of-Entry = true
rows_eq end_of-Entry (more_of-Entry l w fs) = false
rows_eq (more_of-Entry k u es) end_of-Entry = false
rows_eq (more_of-Entry k u es) (more_of-Entry l w fs) =
    (v.keys_eq k.items l.items && v.val_eq (value_of u) (value_of w)) && rows_eq es fs

apart : (a b c d : Bool) → (a && (b && (c && d))) ≡ (((a && b) && c) && d)
apart true true c d = refl
apart true false c d = refl
apart false b c d = refl

entered_eq : {n m : _} (q : Row_of-Entry n) (r : Row_of-Entry m) (a b : v.Val) → v.val_eq (entered q (v.Default a)) (entered r (v.Default b)) ≡ (rows_eq q r && v.val_eq a b)
entered_eq end_of-Entry end_of-Entry a b = refl
entered_eq end_of-Entry (more_of-Entry l w fs) a b = refl
entered_eq (more_of-Entry k u es) end_of-Entry a b = refl
entered_eq (more_of-Entry k u es) (more_of-Entry l w fs) a b =
    ap (λ c. v.keys_eq k.items l.items && (v.val_eq (value_of u) (value_of w) && c)) (entered_eq es fs a b)
    ∙ apart (v.keys_eq k.items l.items) (v.val_eq (value_of u) (value_of w)) (rows_eq es fs) (v.val_eq a b)

map_no_scalar : {n : _} (q : Row_of-Entry n) (a : v.Val) (x : Scalar) → false ≡ v.val_eq (entered q (v.Default a)) (val_of x)
map_no_scalar end_of-Entry a (Truth b) = refl
map_no_scalar end_of-Entry a (Number z) = refl
map_no_scalar end_of-Entry a (Element t z) = refl
map_no_scalar (more_of-Entry k u es) a (Truth b) = refl
map_no_scalar (more_of-Entry k u es) a (Number z) = refl
map_no_scalar (more_of-Entry k u es) a (Element t z) = refl

scalar_no_map : {n : _} (q : Row_of-Entry n) (a : v.Val) (x : Scalar) → false ≡ v.val_eq (val_of x) (entered q (v.Default a))
scalar_no_map end_of-Entry a (Truth true) = refl
scalar_no_map end_of-Entry a (Truth false) = refl
scalar_no_map end_of-Entry a (Number z) = refl
scalar_no_map end_of-Entry a (Element t z) = refl
scalar_no_map (more_of-Entry k u es) a (Truth true) = refl
scalar_no_map (more_of-Entry k u es) a (Truth false) = refl
scalar_no_map (more_of-Entry k u es) a (Number z) = refl
scalar_no_map (more_of-Entry k u es) a (Element t z) = refl

mutual
  pub values_alike : (x y : Value) → is_eq (value_cmp x y) ≡ v.val_eq (value_of y) (value_of x)
  values_alike (value.Plain x) (value.Plain y) =
      ap is_eq (cmp_is (value.Plain x) (value.Plain y) ∙ plain_cmp x y) ∙ scalars_alike x y
  values_alike (value.Plain x) (value.Map' s r p d) =
      ap is_eq (cmp_is (value.Plain x) (value.Map' s r p d) ∙ plain_first x s r p d) ∙ map_no_scalar r (value_of d) x
  values_alike (value.Map' s r p d) (value.Plain y) =
      ap is_eq (cmp_is (value.Map' s r p d) (value.Plain y) ∙ map_last s r p d y) ∙ scalar_no_map r (value_of d) y
  values_alike (value.Map' s r p d) (value.Map' s2 r2 p2 d2) =
      ap is_eq (cmp_is (value.Map' s r p d) (value.Map' s2 r2 p2 d2) ∙ maps_cmp s r p d s2 r2 p2 d2)
      ∙ (then_is (slice_cmp entry_cmp (items-the_row-Entry _ r) (items-the_row-Entry _ r2)) (value_cmp d d2) (rows_eq r2 r) (v.val_eq (value_of d2) (value_of d)) (rows_alike r r2) (values_alike d d2)
      ∙ sym (entered_eq r2 r (value_of d2) (value_of d)))

  rows_alike : {n m : _} (q : Row_of-Entry n) (r : Row_of-Entry m) → is_eq (slice_cmp entry_cmp (items-the_row-Entry _ q) (items-the_row-Entry _ r)) ≡ rows_eq r q
  rows_alike end_of-Entry end_of-Entry = refl
  rows_alike end_of-Entry (more_of-Entry l w fs) = refl
  rows_alike (more_of-Entry k u es) end_of-Entry = refl
  rows_alike (more_of-Entry k u es) (more_of-Entry l w fs) =
      let e : kept.Entry = record { key = k; value = u } in
      let f : kept.Entry = record { key = l; value = w } in
      then_is (entry_cmp e f) (slice_cmp entry_cmp (items-the_row-Entry _ es) (items-the_row-Entry _ fs)) (v.keys_eq l.items k.items && v.val_eq (value_of w) (value_of u)) (rows_eq fs es)
      (ap is_eq (entry_is e f) ∙ then_is (slice_cmp int_cmp k.items l.items) (value_cmp u w) (v.keys_eq l.items k.items) (v.val_eq (value_of w) (value_of u)) (keys_alike k.items l.items) (values_alike u w))
      (rows_alike es fs)
