-- Typed expressions are worth values of their types.
use Rattle.std.proofs.Common.{◌≡◌, arith, ℕ, zero, suc, ℤ, Bool, true, false, ◌&&◌, List, [], ◌∷◌, length, map, Some, refl, sym, ap, ◌∙◌, subst}
use Rattle.std.specs.Prelude.{◌==◌, if◌then◌else◌, slice_get, ◌+ℤ◌, ◌-ℤ◌, ◌*ℤ◌, neg_ℤ, pos, Ok, Err}
use Rattle.std.specs.Ordering.{int_eq}
use Rattle.std.proofs.lemmas.Bool.Decides.{nat_tests}
use Rattle.bg_base.specs.Exact.{fits, exactly}
use Rattle.bg_base.specs.declared.exact.Op.{Op}
use Rattle.bg_base.specs.declared.exact.Op.TheVariants as exact_op
use Rattle.bg_base.specs.declared.exact.OutOfRange.{OutOfRange}
use Rattle.bg_ast.specs.Values.{Val, Num, Truth, Element, Default, Entry, KeyType, IntKey, UserKey, Ty, IntTy, BoolTy, UserTy, MapTy, is_of, number_of, select, update, val_eq}
use Rattle.bg_ast.specs.Syntax as s
use Rattle.bg_ast.specs.Syntax.{Fun}
use Rattle.bg_sense.specs.Eval.{look_up}
use Rattle.bg_sense.specs.Types.{are_of}
use Rattle.bg_sense.specs.Typing.{Sig, HasType, HaveTypes, key_ty}
use Rattle.bg_sense.proofs.Bools.{and_left, and_right, both}
use Rattle.bg_sense.proofs.TypedMaps.{select_typed, update_typed}
use Rattle.bg_scalar.specs.Worths.{WorthOf, Is, Leaves, NoValue, Seen, and_then, exact, on_truths, on_numbers, by_equality, is_table, operate, takes, joined, not_on, minus_on, is_part, are_parts, chosen, written, known, at_entry, Listed, Are, Leave, NoValues, cons, and_then_all, worth, worths}
use Rattle.bg_scalar.specs.Typed.{is_valued, are_valued, HaveTables, Sees, HasWorth, HaveWorths}

-- ---- values of a type

truth_is : (x : Val) → is_of BoolTy x ≡ true → (b : Bool) × (x ≡ Truth b)
truth_is (Num z) h = absurd (let bad : ⊥ = cc in bad)
truth_is (Truth b) h = (b, refl)
truth_is (Element t z) h = absurd (let bad : ⊥ = cc in bad)
truth_is (Default d) h = absurd (let bad : ⊥ = cc in bad)
truth_is (Entry k v m) h = absurd (let bad : ⊥ = cc in bad)

number_is : (x : Val) → is_of IntTy x ≡ true → (z : ℤ) × (x ≡ Num z)
number_is (Num z) h = (z, refl)
number_is (Truth b) h = absurd (let bad : ⊥ = cc in bad)
number_is (Element t z) h = absurd (let bad : ⊥ = cc in bad)
number_is (Default d) h = absurd (let bad : ⊥ = cc in bad)
number_is (Entry k v m) h = absurd (let bad : ⊥ = cc in bad)

element_is : (u : ℕ) (x : Val) → is_of (UserTy u) x ≡ true → (t : ℕ) × ((z : ℤ) × ((x ≡ Element t z) × ((u == t) ≡ true)))
element_is u (Num z) h = absurd (let bad : ⊥ = cc in bad)
element_is u (Truth b) h = absurd (let bad : ⊥ = cc in bad)
element_is u (Element t z) h = (t, (z, (refl, h)))
element_is u (Default d) h = absurd (let bad : ⊥ = cc in bad)
element_is u (Entry k v m) h = absurd (let bad : ⊥ = cc in bad)

map_is : (ks : List KeyType) (t : Ty) (x : Val) → is_of (MapTy ks t) x ≡ true → is_table x ≡ true
map_is ks t (Num z) h = absurd (let bad : ⊥ = cc in bad)
map_is ks t (Truth b) h = absurd (let bad : ⊥ = cc in bad)
map_is ks t (Element u z) h = absurd (let bad : ⊥ = cc in bad)
map_is ks t (Default d) h = refl
map_is ks t (Entry k v m) h = refl

-- ---- operators

if_number : (b : Bool) (z : ℤ) (o : OutOfRange) → HasWorth IntTy (exact (if b then Ok z else Err o))
if_number true z o = refl
if_number false z o = tt

number : (op : Op) (a b z : ℤ) → HasWorth IntTy (exact (exactly op a b z))
number op a b z = if_number (fits z) z (record { op = op; a = a; b = b })

-- what goes on from a typed operand
goes : (op : s.Op) (t u : Ty) (x : Val) (b : WorthOf) → takes op x ≡ true → HasWorth u b → ((y : Val) → is_of u y ≡ true → HasWorth t (operate op x y)) → HasWorth t (joined op (Is x) b)
goes op t u x (Is y) e h k = rw e (k y h)
goes op t u x (Leaves o) e h k = rw e tt
goes op t u x NoValue e h k = absurd h

joins_typed : (op : s.Op) (t u : Ty) (a b : WorthOf) → HasWorth u a → HasWorth u b → ((x : Val) → is_of u x ≡ true → takes op x ≡ true) → ((x y : Val) → is_of u x ≡ true → is_of u y ≡ true → HasWorth t (operate op x y)) → HasWorth t (joined op a b)
joins_typed op t u (Is x) b h l tk k = goes op t u x b (tk x h) l (λ y. k x y h)
joins_typed op t u (Leaves o) b h l tk k = tt
joins_typed op t u NoValue b h l tk k = absurd h

module _ (op : s.Op) where
  truths : ((p q : Bool) → HasWorth BoolTy (on_truths op p q)) → ((p : Bool) → takes op (Truth p) ≡ true) → (a b : WorthOf) → HasWorth BoolTy a → HasWorth BoolTy b → HasWorth BoolTy (joined op a b)
  truths k tk a b h l =
      joins_typed op BoolTy BoolTy a b h l (λ x i. let p = truth_is x i in rw (p.1) (tk p.0)) (λ x y i j. let p = truth_is x i in let q = truth_is y j in rw (p.1, q.1) (k p.0 q.0))

  numbers : (t : Ty) → ((x y : ℤ) → HasWorth t (on_numbers op x y)) → ((x : ℤ) → takes op (Num x) ≡ true) → (a b : WorthOf) → HasWorth IntTy a → HasWorth IntTy b → HasWorth t (joined op a b)
  numbers t k tk a b h l =
      joins_typed op t IntTy a b h l (λ x i. let p = number_is x i in rw (p.1) (tk p.0)) (λ x y i j. let p = number_is x i in let q = number_is y j in rw (p.1, q.1) (k p.0 q.0))

one_number : (k t s : ℕ) → (k == t) ≡ true → (k == s) ≡ true → (t == s) ≡ true
one_number k t s h l = grind (arith, nat_tests)

-- what an operator makes of elements of one type, and of maps
module _ (op : s.Op) (k : (b : Bool) → HasWorth BoolTy (by_equality op b)) where
  if_equal : (c b : Bool) → c ≡ true → HasWorth BoolTy (if c then by_equality op b else NoValue)
  if_equal c b h = rw h (k b)

  elements : (t u : ℕ) (x y : ℤ) → (t == u) ≡ true → HasWorth BoolTy (operate op (Element t x) (Element u y))
  elements t u x y h = if_equal (t == u) (int_eq x y) h

  maps : (x y : Val) → is_table x ≡ true → is_table y ≡ true → HasWorth BoolTy (operate op x y)
  maps (Num z) y h l = absurd (let bad : ⊥ = cc in bad)
  maps (Truth b) y h l = absurd (let bad : ⊥ = cc in bad)
  maps (Element t z) y h l = absurd (let bad : ⊥ = cc in bad)
  maps (Default d) y h l = if_equal (is_table y) (val_eq (Default d) y) l
  maps (Entry q v m) y h l = if_equal (is_table y) (val_eq (Entry q v m) y) l

  module _ (truth_too : (p q : Bool) → HasWorth BoolTy (on_truths op p q)) (number_too : (x y : ℤ) → HasWorth BoolTy (on_numbers op x y)) where
    equal_values : (u : Ty) (x y : Val) → is_of u x ≡ true → is_of u y ≡ true → HasWorth BoolTy (operate op x y)
    equal_values IntTy x y h l =
        let p = number_is x h in
        let q = number_is y l in
        rw (p.1, q.1) (number_too p.0 q.0)
    equal_values BoolTy x y h l =
        let p = truth_is x h in
        let q = truth_is y l in
        rw (p.1, q.1) (truth_too p.0 q.0)
    equal_values (UserTy u) x y h l =
        let p = element_is u x h in
        let q = element_is u y l in
        rw (p.1.1.0, q.1.1.0) (elements p.0 q.0 p.1.0 q.1.0 (one_number u p.0 q.0 p.1.1.1 q.1.1.1))
    equal_values (MapTy ks t) x y h l = maps x y (map_is ks t x h) (map_is ks t y l)

    equals : ((x : Val) → takes op x ≡ true) → (u : Ty) (a b : WorthOf) → HasWorth u a → HasWorth u b → HasWorth BoolTy (joined op a b)
    equals tk u a b h l = joins_typed op BoolTy u a b h l (λ x i. tk x) (equal_values u)

-- a type's name, by its equation
by_type : (t u : Ty) (a : WorthOf) → t ≡ u → HasWorth u a → HasWorth t a
by_type t u a e h = subst (λ x. HasWorth x a) (sym e) h

reads : (ts : List Ty) (xs : List Val) (k : ℕ) (t : Ty) → are_of ts xs ≡ true → slice_get ts k ≡ Some t → HasWorth t (known (slice_get xs k))
reads [] xs k t h e = absurd (let bad : ⊥ = cc in bad)
reads (u ∷ ts) [] k t h e = absurd (let bad : ⊥ = cc in bad)
reads (u ∷ ts) (x ∷ xs) zero t h e =
    let same : u ≡ t = cc in
    subst (λ y. is_of y x ≡ true) same (and_left (is_of u x) (are_of ts xs) h)
reads (u ∷ ts) (x ∷ xs) (suc k) t h e = reads ts xs k t (and_right (is_of u x) (are_of ts xs) h) e

nots : (a : WorthOf) → HasWorth BoolTy a → HasWorth BoolTy (and_then a not_on)
nots (Is x) h = let p = truth_is x h in rw (p.1) refl
nots (Leaves o) h = tt
nots NoValue h = absurd h

minus : (a : WorthOf) → HasWorth IntTy a → HasWorth IntTy (and_then a minus_on)
minus (Is x) h = let p = number_is x h in rw (p.1) (number exact_op.Negate p.0 (pos 0) (neg_ℤ p.0))
minus (Leaves o) h = tt
minus NoValue h = absurd h

cons_have : (t : Ty) (ts : List Ty) (a : WorthOf) (l : Listed) → HasWorth t a → HaveWorths ts l → HaveWorths (t ∷ ts) (cons a l)
cons_have t ts (Is x) (Are xs) h k = both (is_of t x) (are_of ts xs) h k
cons_have t ts (Is x) (Leave o) h k = tt
cons_have t ts (Is x) NoValues h k = absurd k
cons_have t ts (Leaves o) l h k = tt
cons_have t ts NoValue l h k = absurd h

applied : (fs : List Fun) (w : Seen) (f : ℕ) (fn : Fun) (l : Listed) → HaveTables fs w.tables → slice_get fs f ≡ Some fn → HaveWorths fn.params l → HasWorth fn.result (and_then_all l (λ xs. Is (look_up (slice_get w.tables f) xs)))
applied fs w f fn (Are xs) h e k = h f fn xs e
applied fs w f fn (Leave o) h e k = tt
applied fs w f fn NoValues h e k = k

-- ---- indices

part_is : (k : KeyType) (q : Val) → is_of (key_ty k) q ≡ true → is_part q ≡ true
part_is IntKey q h = let p = number_is q h in rw (p.1) refl
part_is (UserKey t) q h = let p = element_is t q h in rw (p.1.1.0) refl

parts_are : (ks : List KeyType) (qs : List Val) → are_of (map key_ty ks) qs ≡ true → are_parts qs ≡ true
parts_are [] [] h = refl
parts_are [] (q ∷ qs) h = absurd (let bad : ⊥ = cc in bad)
parts_are (k ∷ ks) [] h = absurd (let bad : ⊥ = cc in bad)
parts_are (k ∷ ks) (q ∷ qs) h =
    both (is_part q) (are_parts qs) (part_is k q (and_left (is_of (key_ty k) q) (are_of (map key_ty ks) qs) h)) (parts_are ks qs (and_right (is_of (key_ty k) q) (are_of (map key_ty ks) qs) h))

one_more : (a b : ℕ) → (a == b) ≡ true → (suc a == suc b) ≡ true
one_more a b h = grind (arith, nat_tests)

as_long : (ks : List KeyType) (qs : List Val) → are_of (map key_ty ks) qs ≡ true → (length ks == length (map number_of qs)) ≡ true
as_long [] [] h = refl
as_long [] (q ∷ qs) h = absurd (let bad : ⊥ = cc in bad)
as_long (k ∷ ks) [] h = absurd (let bad : ⊥ = cc in bad)
as_long (k ∷ ks) (q ∷ qs) h =
    one_more (length ks) (length (map number_of qs)) (as_long ks qs (and_right (is_of (key_ty k) q) (are_of (map key_ty ks) qs) h))

if_typed : (t : Ty) (c : Bool) (x : Val) → c ≡ true → is_of t x ≡ true → HasWorth t (if c then Is x else NoValue)
if_typed t c x h k = rw h k

module _ (ks : List KeyType) (t : Ty) where
  fit : (m : Val) (qs : List Val) → is_of (MapTy ks t) m ≡ true → are_of (map key_ty ks) qs ≡ true → (is_table m && are_parts qs) ≡ true
  fit m qs h k = both (is_table m) (are_parts qs) (map_is ks t m h) (parts_are ks qs k)

  chosen_typed : (m : Val) (l : Listed) → is_of (MapTy ks t) m ≡ true → HaveWorths (map key_ty ks) l → HasWorth t (and_then_all l (chosen m))
  chosen_typed m (Are qs) h k =
      if_typed t (is_table m && are_parts qs) (select m (map number_of qs)) (fit m qs h k) (select_typed ks t m (map number_of qs) h)
  chosen_typed m (Leave o) h k = tt
  chosen_typed m NoValues h k = k

  selects_typed : (a : WorthOf) (l : Listed) → HasWorth (MapTy ks t) a → HaveWorths (map key_ty ks) l → HasWorth t (and_then a (λ x. and_then_all l (chosen x)))
  selects_typed (Is m) l h k = chosen_typed m l h k
  selects_typed (Leaves o) l h k = tt
  selects_typed NoValue l h k = absurd h

  written_typed : (m : Val) (qs : List Val) (b : WorthOf) → is_of (MapTy ks t) m ≡ true → are_of (map key_ty ks) qs ≡ true → HasWorth t b → HasWorth (MapTy ks t) (and_then b (written m qs))
  written_typed m qs (Is v) h k i =
      if_typed (MapTy ks t) (is_table m && are_parts qs) (update m (map number_of qs) v) (fit m qs h k) (update_typed ks t m (map number_of qs) v h (as_long ks qs k) i)
  written_typed m qs (Leaves o) h k i = tt
  written_typed m qs NoValue h k i = absurd i

  all_written_typed : (m : Val) (l : Listed) (b : WorthOf) → is_of (MapTy ks t) m ≡ true → HaveWorths (map key_ty ks) l → HasWorth t b → HasWorth (MapTy ks t) (and_then_all l (λ qs. and_then b (written m qs)))
  all_written_typed m (Are qs) b h k i = written_typed m qs b h k i
  all_written_typed m (Leave o) b h k i = tt
  all_written_typed m NoValues b h k i = absurd k

  updates_typed : (a : WorthOf) (l : Listed) (b : WorthOf) → HasWorth (MapTy ks t) a → HaveWorths (map key_ty ks) l → HasWorth t b → HasWorth (MapTy ks t) (and_then a (λ x. and_then_all l (λ qs. and_then b (written x qs))))
  updates_typed (Is m) l b h k i = all_written_typed m l b h k i
  updates_typed (Leaves o) l b h k i = tt
  updates_typed NoValue l b h k i = absurd h

-- ---- expressions

module _ (g : Sig) where
  -- an operand that is worth a value of its type
  abbrev Good : WorthOf → s.Ex → Type 0
  Good a e = (t : Ty) → is_valued e ≡ true → HasType e g t → HasWorth t a

  joins : (op : s.Op) (a b : WorthOf) (x y : s.Ex) → Good a x → Good b y → Good (joined op a b) (s.Binary op x y)
  joins op a b x y h k t c j = on op j
    where
      first : (u : Ty) → HasType x g u → HasWorth u a
      first u = h u (and_left (is_valued x) (is_valued y) c)

      second : (u : Ty) → HasType y g u → HasWorth u b
      second u = k u (and_right (is_valued x) (is_valued y) c)

      on : (p : s.Op) → HasType (s.Binary p x y) g t → HasWorth t (joined p a b)
      on s.And i = by_type t BoolTy _ i.0 (truths s.And (λ p q. refl) (λ p. refl) a b (first BoolTy i.1) (second BoolTy i.2))
      on s.Or i = by_type t BoolTy _ i.0 (truths s.Or (λ p q. refl) (λ p. refl) a b (first BoolTy i.1) (second BoolTy i.2))
      on s.Implies i = by_type t BoolTy _ i.0 (truths s.Implies (λ p q. refl) (λ p. refl) a b (first BoolTy i.1) (second BoolTy i.2))
      on s.Iff i = by_type t BoolTy _ i.0 (truths s.Iff (λ p q. refl) (λ p. refl) a b (first BoolTy i.1) (second BoolTy i.2))
      on s.Equal i =
          by_type t BoolTy _ i.0 (equals s.Equal (λ p. refl) (λ p q. refl) (λ p q. refl) (λ p. refl) i.1.0 a b (first i.1.0 i.1.1) (second i.1.0 i.1.2))
      on s.Unequal i =
          by_type t BoolTy _ i.0 (equals s.Unequal (λ p. refl) (λ p q. refl) (λ p q. refl) (λ p. refl) i.1.0 a b (first i.1.0 i.1.1) (second i.1.0 i.1.2))
      on s.Less i = by_type t BoolTy _ i.0 (numbers s.Less BoolTy (λ p q. refl) (λ p. refl) a b (first IntTy i.1) (second IntTy i.2))
      on s.AtMost i = by_type t BoolTy _ i.0 (numbers s.AtMost BoolTy (λ p q. refl) (λ p. refl) a b (first IntTy i.1) (second IntTy i.2))
      on s.Greater i = by_type t BoolTy _ i.0 (numbers s.Greater BoolTy (λ p q. refl) (λ p. refl) a b (first IntTy i.1) (second IntTy i.2))
      on s.AtLeast i = by_type t BoolTy _ i.0 (numbers s.AtLeast BoolTy (λ p q. refl) (λ p. refl) a b (first IntTy i.1) (second IntTy i.2))
      on s.Plus i = by_type t IntTy _ i.0 (numbers s.Plus IntTy (λ p q. number exact_op.Plus p q (p +ℤ q)) (λ p. refl) a b (first IntTy i.1) (second IntTy i.2))
      on s.Minus i = by_type t IntTy _ i.0 (numbers s.Minus IntTy (λ p q. number exact_op.Minus p q (p -ℤ q)) (λ p. refl) a b (first IntTy i.1) (second IntTy i.2))
      on s.Times i = by_type t IntTy _ i.0 (numbers s.Times IntTy (λ p q. number exact_op.Times p q (p *ℤ q)) (λ p. refl) a b (first IntTy i.1) (second IntTy i.2))

  mutual
    good : (e : s.Ex) (w : Seen) → Sees g w → Good (worth e w) e
    good (s.Number z) w v t c j = by_type t IntTy (Is (Num z)) j refl
    good (s.Fact b) w v t c j = by_type t BoolTy (Is (Truth b)) j refl
    good (s.Constant k) w v t c j = absurd (let bad : ⊥ = cc in bad)
    good (s.Read (s.Global x)) w v t c j = reads g.globals w.globals x t v.globals j
    good (s.Read (s.Local x)) w v t c j = reads g.frame w.frame x t v.frame j
    good (s.Not e) w v t c j = by_type t BoolTy _ j.0 (nots (worth e w) (good e w v BoolTy c j.1))
    good (s.Negative e) w v t c j = by_type t IntTy _ j.0 (minus (worth e w) (good e w v IntTy c j.1))
    good (s.Binary op a b) w v t c j = joins op (worth a w) (worth b w) a b (good a w v) (good b w v) t c j
    good (s.Apply f es) w v t c j =
        by_type t j.0.result _ j.2 (applied g.functions w f j.0 (worths es w) v.tables j.1 (goods es w v j.0.params c j.3))
    good (s.Select m es) w v t c j =
        selects_typed j.0 t (worth m w) (worths es w) (good m w v (MapTy j.0 t) (and_left (is_valued m) (are_valued es) c) j.1) (goods es w v (map key_ty j.0) (and_right (is_valued m) (are_valued es) c) j.2)
    good (s.Update m es e) w v t c j =
        let ks = j.0 in
        let u = j.1.0 in
        let behind = and_right (is_valued m) (are_valued es && is_valued e) c in
        by_type t (MapTy ks u) _ j.1.1 (updates_typed ks u (worth m w) (worths es w) (worth e w) (good m w v (MapTy ks u) (and_left (is_valued m) (are_valued es && is_valued e) c) j.1.2) (goods es w v (map key_ty ks) (and_left (are_valued es) (is_valued e) behind) j.1.3) (good e w v u (and_right (are_valued es) (is_valued e) behind) j.1.4))
    good (s.Old e) w v t c j =
        good e (at_entry w) (record { tables = v.tables; globals = v.before; before = v.before; frame = v.frame }) t c j

    goods : (es : s.Exs) (w : Seen) → Sees g w → (ts : List Ty) → are_valued es ≡ true → HaveTypes es g ts → HaveWorths ts (worths es w)
    goods s.NoMore w v ts c j = ap (λ l. are_of l []) j
    goods (s.More e es) w v [] c j = absurd j
    goods (s.More e es) w v (t ∷ ts) c j =
        cons_have t ts (worth e w) (worths es w) (good e w v t (and_left (is_valued e) (are_valued es) c) j.0) (goods es w v ts (and_right (is_valued e) (are_valued es) c) j.1)

pub has_worth : (e : s.Ex) (w : Seen) (g : Sig) (t : Ty) → is_valued e ≡ true → HasType e g t → Sees g w → HasWorth t (worth e w)
has_worth e w g t c j v = good g e w v t c j

pub have_worths : (es : s.Exs) (w : Seen) (g : Sig) (ts : List Ty) → are_valued es ≡ true → HaveTypes es g ts → Sees g w → HaveWorths ts (worths es w)
have_worths es w g ts c j v = goods g es w v ts c j
