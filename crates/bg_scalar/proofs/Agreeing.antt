-- What an expression is worth is its value, where no operation leaves the range.
use Rattle.std.proofs.Common.{◌≡◌, ℕ, zero, suc, ℤ, Bool, true, false, List, [], ◌∷◌, map, refl, ap, ◌∙◌}
use Rattle.std.specs.Prelude.{not, ◌&&◌, ◌==◌, if◌then◌else◌, slice_get, ◌+ℤ◌, ◌-ℤ◌, ◌*ℤ◌, neg_ℤ, pos, Ok, Err}
use Rattle.std.specs.Ordering.{int_eq}
use Rattle.bg_base.specs.Exact.{fits, exactly}
use Rattle.bg_base.specs.declared.exact.Op.{Op}
use Rattle.bg_base.specs.declared.exact.Op.TheVariants as exact_op
use Rattle.bg_base.specs.declared.exact.OutOfRange.{OutOfRange}
use Rattle.bg_ast.specs.Values as v
use Rattle.bg_ast.specs.Values.{Val}
use Rattle.bg_ast.specs.Syntax as s
use Rattle.bg_sense.specs.Eval as sense
use Rattle.bg_sense.specs.Eval.{Scope, ev, evs, value_at}
use Rattle.bg_scalar.specs.Worths.{WorthOf, Is, Leaves, NoValue, Seen, and_then, exact, same, takes, on_truths, on_numbers, by_equality, is_table, operate, joined, not_on, minus_on, are_parts, chosen, written, known, at_entry, Listed, Are, Leave, NoValues, cons, and_then_all, worth, worths}
use Rattle.bg_scalar.specs.Values.{MeanTables, scope_in}

-- the value is this one, where there is one
abbrev pub Agrees : WorthOf → Val → Type 0
Agrees (Is x) y = y ≡ x
Agrees (Leaves o) y = Unit {0}
Agrees NoValue y = Unit {0}

truths_same : (a b : Bool) → v.val_eq (v.Truth a) (v.Truth b) ≡ same a b
truths_same true b = refl
truths_same false b = refl

if_exact : (b : Bool) (z : ℤ) (o : OutOfRange) (y : Val) → y ≡ v.Num z → Agrees (exact (if b then Ok z else Err o)) y
if_exact true z o y h = h
if_exact false z o y h = tt

exactly_is : (op : Op) (a b z : ℤ) (y : Val) → y ≡ v.Num z → Agrees (exact (exactly op a b z)) y
exactly_is op a b z y h = if_exact (fits z) z (record { op = op; a = a; b = b }) y h

-- an operator between truth values and between numbers
truths_are : (o : s.Op) (a b : Bool) → Agrees (on_truths o a b) (sense.operate o (v.Truth a) (v.Truth b))
truths_are s.And a b = refl
truths_are s.Or a b = refl
truths_are s.Implies a b = refl
truths_are s.Iff a b = ap v.Truth (truths_same a b)
truths_are s.Equal a b = ap v.Truth (truths_same a b)
truths_are s.Unequal a b = ap (λ x. v.Truth (not x)) (truths_same a b)
truths_are s.Less a b = tt
truths_are s.AtMost a b = tt
truths_are s.Greater a b = tt
truths_are s.AtLeast a b = tt
truths_are s.Plus a b = tt
truths_are s.Minus a b = tt
truths_are s.Times a b = tt

numbers_are : (o : s.Op) (x y : ℤ) → Agrees (on_numbers o x y) (sense.operate o (v.Num x) (v.Num y))
numbers_are s.And x y = tt
numbers_are s.Or x y = tt
numbers_are s.Implies x y = tt
numbers_are s.Iff x y = tt
numbers_are s.Equal x y = refl
numbers_are s.Unequal x y = refl
numbers_are s.Less x y = refl
numbers_are s.AtMost x y = refl
numbers_are s.Greater x y = refl
numbers_are s.AtLeast x y = refl
numbers_are s.Plus x y = exactly_is exact_op.Plus x y (x +ℤ y) _ refl
numbers_are s.Minus x y = exactly_is exact_op.Minus x y (x -ℤ y) _ refl
numbers_are s.Times x y = exactly_is exact_op.Times x y (x *ℤ y) _ refl

-- one that asks whether two values are the same
sames_are : (o : s.Op) (x y : Val) (b : Bool) → v.val_eq x y ≡ b → Agrees (by_equality o b) (sense.operate o x y)
sames_are s.And x y b h = tt
sames_are s.Or x y b h = tt
sames_are s.Implies x y b h = tt
sames_are s.Iff x y b h = tt
sames_are s.Equal x y b h = ap v.Truth h
sames_are s.Unequal x y b h = ap (λ c. v.Truth (not c)) h
sames_are s.Less x y b h = tt
sames_are s.AtMost x y b h = tt
sames_are s.Greater x y b h = tt
sames_are s.AtLeast x y b h = tt
sames_are s.Plus x y b h = tt
sames_are s.Minus x y b h = tt
sames_are s.Times x y b h = tt

elements_are : (o : s.Op) (t u : ℕ) (x y : ℤ) (b : Bool) → (t == u) ≡ b → Agrees (if b then by_equality o (int_eq x y) else NoValue) (sense.operate o (v.Element t x) (v.Element u y))
elements_are o t u x y false h = tt
elements_are o t u x y true h =
    sames_are o (v.Element t x) (v.Element u y) (int_eq x y) (ap (λ b. b && int_eq x y) h)

if_same : (o : s.Op) (x y : Val) (b : Bool) → Agrees (if b then by_equality o (v.val_eq x y) else NoValue) (sense.operate o x y)
if_same o x y true = sames_are o x y (v.val_eq x y) refl
if_same o x y false = tt

operates : (o : s.Op) (x y : Val) → Agrees (operate o x y) (sense.operate o x y)
operates o (v.Truth a) (v.Truth b) = truths_are o a b
operates o (v.Truth a) (v.Num y) = tt
operates o (v.Truth a) (v.Element u y) = tt
operates o (v.Truth a) (v.Default d) = tt
operates o (v.Truth a) (v.Entry k w m) = tt
operates o (v.Num x) (v.Truth b) = tt
operates o (v.Num x) (v.Num y) = numbers_are o x y
operates o (v.Num x) (v.Element u y) = tt
operates o (v.Num x) (v.Default d) = tt
operates o (v.Num x) (v.Entry k w m) = tt
operates o (v.Element t x) (v.Truth b) = tt
operates o (v.Element t x) (v.Num y) = tt
operates o (v.Element t x) (v.Element u y) = elements_are o t u x y (t == u) refl
operates o (v.Element t x) (v.Default d) = tt
operates o (v.Element t x) (v.Entry k w m) = tt
operates o (v.Default d) y = if_same o (v.Default d) y (is_table y)
operates o (v.Entry k w m) y = if_same o (v.Entry k w m) y (is_table y)

-- what goes on where an operand has a value
goes_on : (t : Bool) (b : WorthOf) (f : Val → WorthOf) (z y : Val) → Agrees b z → ((x : Val) → z ≡ x → Agrees (f x) y) → Agrees (if t then and_then b f else NoValue) y
goes_on true (Is x) f z y h k = k x h
goes_on true (Leaves o) f z y h k = tt
goes_on true NoValue f z y h k = tt
goes_on false b f z y h k = tt

joins : (o : s.Op) (a b : WorthOf) (y z : Val) → Agrees a y → Agrees b z → Agrees (joined o a b) (sense.operate o y z)
joins o (Is x) b y z h k =
    goes_on (takes o x) b (operate o x) z (sense.operate o y z) k (λ u e. rw (h, e) (operates o x u))
joins o (Leaves l) b y z h k = tt
joins o NoValue b y z h k = tt

nots : (a : WorthOf) (y : Val) → Agrees a y → Agrees (and_then a not_on) (v.Truth (not (v.truth_of y)))
nots (Is (v.Truth b)) y h = rw h refl
nots (Is (v.Num z)) y h = tt
nots (Is (v.Element t z)) y h = tt
nots (Is (v.Default d)) y h = tt
nots (Is (v.Entry k w m)) y h = tt
nots (Leaves o) y h = tt
nots NoValue y h = tt

minuses : (a : WorthOf) (y : Val) → Agrees a y → Agrees (and_then a minus_on) (v.Num (neg_ℤ (v.number_of y)))
minuses (Is (v.Truth b)) y h = tt
minuses (Is (v.Num z)) y h = exactly_is exact_op.Negate z (pos 0) (neg_ℤ z) _ (rw h refl)
minuses (Is (v.Element t z)) y h = tt
minuses (Is (v.Default d)) y h = tt
minuses (Is (v.Entry k w m)) y h = tt
minuses (Leaves o) y h = tt
minuses NoValue y h = tt

reads : (xs : List Val) (k : ℕ) → Agrees (known (slice_get xs k)) (value_at xs k)
reads [] k = tt
reads (x ∷ xs) zero = refl
reads (x ∷ xs) (suc k) = reads xs k

-- the values are these, where there are some
abbrev pub AllAgree : Listed → List Val → Type 0
AllAgree (Are xs) ys = ys ≡ xs
AllAgree (Leave o) ys = Unit {0}
AllAgree NoValues ys = Unit {0}

cons_agrees : (a : WorthOf) (l : Listed) (y : Val) (ys : List Val) → Agrees a y → AllAgree l ys → AllAgree (cons a l) (y ∷ ys)
cons_agrees (Is x) (Are xs) y ys h k = rw (h, k) refl
cons_agrees (Is x) (Leave o) y ys h k = tt
cons_agrees (Is x) NoValues y ys h k = tt
cons_agrees (Leaves o) l y ys h k = tt
cons_agrees NoValue l y ys h k = tt

-- ---- selects and updates

if_is : (b : Bool) (x y : Val) → y ≡ x → Agrees (if b then Is x else NoValue) y
if_is true x y h = h
if_is false x y h = tt

chooses : (x y : Val) (l : Listed) (ys : List Val) → y ≡ x → AllAgree l ys → Agrees (and_then_all l (chosen x)) (v.select y (map v.number_of ys))
chooses x y (Are qs) ys h k =
    if_is (is_table x && are_parts qs) (v.select x (map v.number_of qs)) _ (rw (h, k) refl)
chooses x y (Leave o) ys h k = tt
chooses x y NoValues ys h k = tt

selects : (a : WorthOf) (l : Listed) (y : Val) (ys : List Val) → Agrees a y → AllAgree l ys → Agrees (and_then a (λ x. and_then_all l (chosen x))) (v.select y (map v.number_of ys))
selects (Is x) l y ys h k = chooses x y l ys h k
selects (Leaves o) l y ys h k = tt
selects NoValue l y ys h k = tt

writes : (x y : Val) (qs ys : List Val) (b : WorthOf) (z : Val) → y ≡ x → ys ≡ qs → Agrees b z → Agrees (and_then b (written x qs)) (v.update y (map v.number_of ys) z)
writes x y qs ys (Is u) z h k i =
    if_is (is_table x && are_parts qs) (v.update x (map v.number_of qs) u) _ (rw (h, k, i) refl)
writes x y qs ys (Leaves o) z h k i = tt
writes x y qs ys NoValue z h k i = tt

writes_all : (x y : Val) (l : Listed) (ys : List Val) (b : WorthOf) (z : Val) → y ≡ x → AllAgree l ys → Agrees b z → Agrees (and_then_all l (λ qs. and_then b (written x qs))) (v.update y (map v.number_of ys) z)
writes_all x y (Are qs) ys b z h k i = writes x y qs ys b z h k i
writes_all x y (Leave o) ys b z h k i = tt
writes_all x y NoValues ys b z h k i = tt

updates : (a : WorthOf) (l : Listed) (b : WorthOf) (y : Val) (ys : List Val) (z : Val) → Agrees a y → AllAgree l ys → Agrees b z → Agrees (and_then a (λ x. and_then_all l (λ qs. and_then b (written x qs)))) (v.update y (map v.number_of ys) z)
updates (Is x) l b y ys z h k i = writes_all x y l ys b z h k i
updates (Leaves o) l b y ys z h k i = tt
updates NoValue l b y ys z h k i = tt

module _ (fs : ℕ → List Val → Val) (cs : List Val) where
  abbrev here : Seen → Scope
  here = scope_in fs cs

  applies : (f : ℕ) (ts : List v.Table) (l : Listed) (ys : List Val) → MeanTables fs ts → AllAgree l ys → Agrees (and_then_all l (λ xs. Is (sense.look_up (slice_get ts f) xs))) (fs f ys)
  applies f ts (Are xs) ys m h = ap (fs f) h ∙ m f xs
  applies f ts (Leave o) ys m h = tt
  applies f ts NoValues ys m h = tt

  mutual
    pub agrees : (e : s.Ex) (w : Seen) → MeanTables fs w.tables → Agrees (worth e w) (ev e (here w))
    agrees (s.Number z) w m = refl
    agrees (s.Fact b) w m = refl
    agrees (s.Constant k) w m = tt
    agrees (s.Read (s.Global x)) w m = reads w.globals x
    agrees (s.Read (s.Local x)) w m = reads w.frame x
    agrees (s.Not e) w m = nots (worth e w) (ev e (here w)) (agrees e w m)
    agrees (s.Negative e) w m = minuses (worth e w) (ev e (here w)) (agrees e w m)
    agrees (s.Binary o a b) w m =
        joins o (worth a w) (worth b w) (ev a (here w)) (ev b (here w)) (agrees a w m) (agrees b w m)
    agrees (s.Apply f es) w m = applies f w.tables (worths es w) (evs es (here w)) m (all_agree es w m)
    agrees (s.Select x es) w m =
        selects (worth x w) (worths es w) (ev x (here w)) (evs es (here w)) (agrees x w m) (all_agree es w m)
    agrees (s.Update x es e) w m =
        updates (worth x w) (worths es w) (worth e w) (ev x (here w)) (evs es (here w)) (ev e (here w)) (agrees x w m) (all_agree es w m) (agrees e w m)
    agrees (s.Old e) w m = agrees e (at_entry w) m

    pub all_agree : (es : s.Exs) (w : Seen) → MeanTables fs w.tables → AllAgree (worths es w) (evs es (here w))
    all_agree s.NoMore w m = refl
    all_agree (s.More e es) w m =
        cons_agrees (worth e w) (worths es w) (ev e (here w)) (evs es (here w)) (agrees e w m) (all_agree es w m)

-- where there is one, it is the value
pub worth_is : (fs : ℕ → List Val → Val) (cs : List Val) (e : s.Ex) (w : Seen) (x : Val) → MeanTables fs w.tables → worth e w ≡ Is x → ev e (scope_in fs cs w) ≡ x
worth_is fs cs e w x m h = on (worth e w) h (agrees fs cs e w m)
  where
    on : (a : WorthOf) → a ≡ Is x → Agrees a (ev e (scope_in fs cs w)) → ev e (scope_in fs cs w) ≡ x
    on (Is y) h k = let same : y ≡ x = cc in k ∙ same
    on (Leaves o) h k = absurd (let bad : ⊥ = cc in bad)
    on NoValue h k = absurd (let bad : ⊥ = cc in bad)
