-- Where a run meets an operation that leaves the range, it is the first that does.
use Rattle.std.proofs.Common.{◌≡◌, ℕ, zero, suc, ℤ, Bool, true, false, List, [], ◌∷◌, ◌++◌, Option, Some, None, map, refl, sym, ap, ◌∙◌, subst, append_assoc}
use Rattle.std.specs.Prelude.{◌&&◌, ◌==◌, if◌then◌else◌, slice_get, ◌+ℤ◌, ◌-ℤ◌, ◌*ℤ◌, neg_ℤ, pos, Ok, Err}
use Rattle.std.specs.Ordering.{int_eq}
use Rattle.bg_base.specs.Exact.{fits, exactly}
use Rattle.bg_base.specs.declared.exact.Op as exact
use Rattle.bg_base.specs.declared.exact.Op.TheVariants as arith
use Rattle.bg_base.specs.declared.exact.OutOfRange.{OutOfRange}
use Rattle.bg_ast.specs.Values.{Val, Num, Truth, Element, Default, Entry, Table, number_of, truth_of, val_eq, select, update}
use Rattle.bg_ast.specs.Syntax as s
use Rattle.bg_ast.specs.Syntax.{Var, Ex, Exs, NoMore, More, Star, Test}
use Rattle.bg_sense.specs.Eval.{Scope, ev, look_up}
use Rattle.bg_sense.specs.Flow.{Answer, Blocked, Failed}
use Rattle.bg_sense.specs.Clauses.{is_kept}
use Rattle.bg_sense.specs.Types.{types_of}
use Rattle.bg_flow.specs.Core.{Demand, Saying, Plan, Cmd, Check, Suppose, Forget, Put, Perform, Finish}
use Rattle.bg_flow.specs.Blocks.{Exit, Leap, Either, Block}
use Rattle.bg_scalar.specs.Worths as w
use Rattle.bg_scalar.specs.Worths.{Seen, WorthOf, and_then, exact, takes, on_truths, on_numbers, by_equality, is_table, operate, joined, not_on, minus_on, are_parts, selected, updated, known, at_entry, and_then_all, worth}
use Rattle.bg_scalar.specs.Lists as lists
use Rattle.bg_scalar.specs.Lists.{Listed, Are, Leave, NoValues, worths}
use Rattle.bg_scalar.specs.Values.{MeanTables, scope_in}
use Rattle.bg_scalar.proofs.Agreeing.{worth_is}
use Rattle.bg_replay.specs.Holds.{variable_type}
use Rattle.bg_replay.specs.Moments.{Moment, Around, Out, Goes, Over, Outside, Unknown, and_so, seen_at}
use Rattle.bg_replay.specs.Said.{Said, Fine, Stops, Leaves, Unsaid, then_said, on_said, or_stops, checks, supposes}
use Rattle.bg_replay.specs.Acts.{taken, moved, choose_by, put, put_each, forgotten, assigned, chosen, skipped, given_back, called_with, acts}
use Rattle.bg_replay.specs.Ways.{Way, On, Off, Beyond, Nowhere, branched, go_to, branch_to, test_to, leaves, acts_each, enters, ran, runs}
use Rattle.bg_replay.specs.Operations.{Operation, result, first_outside, operation, operations, operations_of, of_checks, of_supposes, behind, behind_way, of_results, of_call, of_act, of_acts, of_exit, of_run}

-- ---- lists of operations

none_then : (xs ys : List Operation) → first_outside xs ≡ None → first_outside (xs ++ ys) ≡ first_outside ys
none_then [] ys h = refl
none_then (o ∷ xs) ys h = by (fits (result o.op o.a o.b)) refl (none_then xs ys)
  where
    by : (b : Bool) → fits (result o.op o.a o.b) ≡ b → (first_outside xs ≡ None → first_outside (xs ++ ys) ≡ first_outside ys) → first_outside (o ∷ (xs ++ ys)) ≡ first_outside ys
    by true e more = rw e (more (rw e at h))
    by false e more = absurd (let bad = rw e at h in let worse : ⊥ = cc in worse)

some_then : (xs ys : List Operation) (x : Operation) → first_outside xs ≡ Some x → first_outside (xs ++ ys) ≡ Some x
some_then [] ys x h = absurd (let bad : ⊥ = cc in bad)
some_then (o ∷ xs) ys x h = by (fits (result o.op o.a o.b)) refl (some_then xs ys x)
  where
    by : (b : Bool) → fits (result o.op o.a o.b) ≡ b → (first_outside xs ≡ Some x → first_outside (xs ++ ys) ≡ Some x) → first_outside (o ∷ (xs ++ ys)) ≡ Some x
    by true e more = rw e (more (rw e at h))
    by false e more = rw e (rw e at h)

-- ---- expressions

-- all operations are within the range, or this is the first that leaves it
abbrev Worthy : WorthOf → List Operation → Type 0
Worthy (w.Is x) os = first_outside os ≡ None
Worthy (w.Leaves o) os = first_outside os ≡ Some o
Worthy w.NoValue os = Unit {0}

-- one operation more
last_one : (op : exact.Op) (a b z : ℤ) (xs : List Operation) → result op a b ≡ z → first_outside xs ≡ None → Worthy (exact (exactly op a b z)) (xs ++ (record { op = op; a = a; b = b } ∷ []))
last_one op a b z xs r h = by (fits z) refl
  where
    by : (f : Bool) → fits z ≡ f → Worthy (exact (if f then Ok z else Err (record { op = op; a = a; b = b }))) (xs ++ (record { op = op; a = a; b = b } ∷ []))
    by true e =
        none_then xs (record { op = op; a = a; b = b } ∷ []) h ∙ (let k : fits (result op a b) ≡ true = ap fits r ∙ e in rw k refl)
    by false e =
        none_then xs (record { op = op; a = a; b = b } ∷ []) h ∙ (let k : fits (result op a b) ≡ false = ap fits r ∙ e in rw k refl)

no_more : (xs : List Operation) → first_outside xs ≡ None → first_outside (xs ++ []) ≡ None
no_more xs h = none_then xs [] h

truths_fine : (o : s.Op) (a b : Bool) (x y : ℤ) (xs : List Operation) → first_outside xs ≡ None → Worthy (on_truths o a b) (xs ++ operation o x y)
truths_fine s.And a b x y xs h = no_more xs h
truths_fine s.Or a b x y xs h = no_more xs h
truths_fine s.Implies a b x y xs h = no_more xs h
truths_fine s.Iff a b x y xs h = no_more xs h
truths_fine s.Equal a b x y xs h = no_more xs h
truths_fine s.Unequal a b x y xs h = no_more xs h
truths_fine s.Less a b x y xs h = tt
truths_fine s.AtMost a b x y xs h = tt
truths_fine s.Greater a b x y xs h = tt
truths_fine s.AtLeast a b x y xs h = tt
truths_fine s.Plus a b x y xs h = tt
truths_fine s.Minus a b x y xs h = tt
truths_fine s.Times a b x y xs h = tt

numbers_fine : (o : s.Op) (x y : ℤ) (xs : List Operation) → first_outside xs ≡ None → Worthy (on_numbers o x y) (xs ++ operation o x y)
numbers_fine s.And x y xs h = tt
numbers_fine s.Or x y xs h = tt
numbers_fine s.Implies x y xs h = tt
numbers_fine s.Iff x y xs h = tt
numbers_fine s.Equal x y xs h = no_more xs h
numbers_fine s.Unequal x y xs h = no_more xs h
numbers_fine s.Less x y xs h = no_more xs h
numbers_fine s.AtMost x y xs h = no_more xs h
numbers_fine s.Greater x y xs h = no_more xs h
numbers_fine s.AtLeast x y xs h = no_more xs h
numbers_fine s.Plus x y xs h = last_one arith.Plus x y (x +ℤ y) xs refl h
numbers_fine s.Minus x y xs h = last_one arith.Minus x y (x -ℤ y) xs refl h
numbers_fine s.Times x y xs h = last_one arith.Times x y (x *ℤ y) xs refl h

-- one that asks whether two values are the same
same_fine : (o : s.Op) (b : Bool) (x y : ℤ) (xs : List Operation) → first_outside xs ≡ None → Worthy (by_equality o b) (xs ++ operation o x y)
same_fine s.And b x y xs h = tt
same_fine s.Or b x y xs h = tt
same_fine s.Implies b x y xs h = tt
same_fine s.Iff b x y xs h = tt
same_fine s.Equal b x y xs h = no_more xs h
same_fine s.Unequal b x y xs h = no_more xs h
same_fine s.Less b x y xs h = tt
same_fine s.AtMost b x y xs h = tt
same_fine s.Greater b x y xs h = tt
same_fine s.AtLeast b x y xs h = tt
same_fine s.Plus b x y xs h = tt
same_fine s.Minus b x y xs h = tt
same_fine s.Times b x y xs h = tt

if_same : (o : s.Op) (c b : Bool) (x y : ℤ) (xs : List Operation) → first_outside xs ≡ None → Worthy (if c then by_equality o b else w.NoValue) (xs ++ operation o x y)
if_same o false b x y xs h = tt
if_same o true b x y xs h = same_fine o b x y xs h

operates : (o : s.Op) (x y : Val) (xs : List Operation) → first_outside xs ≡ None → Worthy (operate o x y) (xs ++ operation o (number_of x) (number_of y))
operates o (Truth a) (Truth b) xs h = truths_fine o a b _ _ xs h
operates o (Truth a) (Num y) xs h = tt
operates o (Truth a) (Element u y) xs h = tt
operates o (Truth a) (Default d) xs h = tt
operates o (Truth a) (Entry k v m) xs h = tt
operates o (Num x) (Truth b) xs h = tt
operates o (Num x) (Num y) xs h = numbers_fine o x y xs h
operates o (Num x) (Element u y) xs h = tt
operates o (Num x) (Default d) xs h = tt
operates o (Num x) (Entry k v m) xs h = tt
operates o (Element t x) (Truth b) xs h = tt
operates o (Element t x) (Num y) xs h = tt
operates o (Element t x) (Element u y) xs h = if_same o (t == u) (int_eq x y) x y xs h
operates o (Element t x) (Default d) xs h = tt
operates o (Element t x) (Entry k v m) xs h = tt
operates o (Default d) y xs h = if_same o (is_table y) (val_eq (Default d) y) _ _ xs h
operates o (Entry k v m) y xs h = if_same o (is_table y) (val_eq (Entry k v m) y) _ _ xs h

module _ (fs : ℕ → List Val → Val) (cs : List Val) where
  abbrev sees : Seen → Scope
  sees = scope_in fs cs

  value : (e : Ex) (c : Seen) (x : Val) → MeanTables fs c.tables → worth e c ≡ w.Is x → ev e (sees c) ≡ x
  value = worth_is fs cs

  module _ (o : s.Op) (a b : Ex) (c : Seen) (mean : MeanTables fs c.tables) where
    abbrev A : List Operation
    A = operations a (sees c)

    abbrev B : List Operation
    B = operations b (sees c)

    abbrev last : List Operation
    last = operation o (number_of (ev a (sees c))) (number_of (ev b (sees c)))

    both : (x y : Val) → worth a c ≡ w.Is x → worth b c ≡ w.Is y → first_outside A ≡ None → first_outside B ≡ None → Worthy (operate o x y) (A ++ (B ++ last))
    both x y ea eb f g =
        subst (λ z. Worthy (operate o x y) (A ++ (B ++ operation o (number_of z) (number_of (ev b (sees c)))))) (sym (value a c x mean ea))
        (subst (λ z. Worthy (operate o x y) (A ++ (B ++ operation o (number_of x) (number_of z)))) (sym (value b c y mean eb))
        (subst (Worthy (operate o x y)) (append_assoc A B (operation o (number_of x) (number_of y))) (operates o x y (A ++ B) (none_then A B f ∙ g))))

    taken_by : (t : Bool) (x : Val) (wb : WorthOf) → worth a c ≡ w.Is x → worth b c ≡ wb → first_outside A ≡ None → Worthy wb B → Worthy (if t then and_then wb (operate o x) else w.NoValue) (A ++ (B ++ last))
    taken_by false x wb ea eb f g = tt
    taken_by true x (w.Is y) ea eb f g = both x y ea eb f g
    taken_by true x (w.Leaves z) ea eb f g = none_then A (B ++ last) f ∙ some_then B last z g
    taken_by true x w.NoValue ea eb f g = tt

    joins_by : (wa wb : WorthOf) → worth a c ≡ wa → worth b c ≡ wb → Worthy wa A → Worthy wb B → Worthy (joined o wa wb) (A ++ (B ++ last))
    joins_by (w.Is x) wb ea eb f g = taken_by (takes o x) x wb ea eb f g
    joins_by (w.Leaves z) wb ea eb f g = some_then A (B ++ last) z f
    joins_by w.NoValue wb ea eb f g = tt

  denies : (x : WorthOf) (os : List Operation) → Worthy x os → Worthy (and_then x not_on) os
  denies (w.Is (Truth b)) os h = h
  denies (w.Is (Num z)) os h = tt
  denies (w.Is (Element u z)) os h = tt
  denies (w.Is (Default d)) os h = tt
  denies (w.Is (Entry q u n)) os h = tt
  denies (w.Leaves o) os h = h
  denies w.NoValue os h = tt

  negates : (e : Ex) (c : Seen) → MeanTables fs c.tables → (x : WorthOf) → worth e c ≡ x → Worthy x (operations e (sees c)) → Worthy (and_then x minus_on) (operations (s.Negative e) (sees c))
  negates e c mean (w.Is (Truth b)) k h = tt
  negates e c mean (w.Is (Num z)) k h =
      subst (λ y. Worthy (minus_on (Num z)) (operations e (sees c) ++ (record { op = arith.Negate; a = number_of y; b = pos 0 } ∷ []))) (sym (value e c (Num z) mean k))
      (last_one arith.Negate z (pos 0) (neg_ℤ z) (operations e (sees c)) refl h)
  negates e c mean (w.Is (Element u z)) k h = tt
  negates e c mean (w.Is (Default d)) k h = tt
  negates e c mean (w.Is (Entry q u n)) k h = tt
  negates e c mean (w.Leaves o) k h =
      some_then (operations e (sees c)) (record { op = arith.Negate; a = number_of (ev e (sees c)); b = pos 0 } ∷ []) o h
  negates e c mean w.NoValue k h = tt

  reads : (x : Option Val) → Worthy (known x) []
  reads None = tt
  reads (Some x) = refl

  -- ---- expressions and lists of them

  abbrev Listing : Listed → List Operation → Type 0
  Listing (Are xs) os = first_outside os ≡ None
  Listing (Leave o) os = first_outside os ≡ Some o
  Listing NoValues os = Unit {0}

  one_more : (x : WorthOf) (l : Listed) (xs ys : List Operation) → Worthy x xs → Listing l ys → Listing (lists.cons x l) (xs ++ ys)
  one_more (w.Is x) (Are zs) xs ys h k = none_then xs ys h ∙ k
  one_more (w.Is x) (Leave o) xs ys h k = none_then xs ys h ∙ k
  one_more (w.Is x) NoValues xs ys h k = tt
  one_more (w.Leaves o) l xs ys h k = some_then xs ys o h
  one_more w.NoValue l xs ys h k = tt

  applied : (f : ℕ) (ts : List Table) (l : Listed) (os : List Operation) → Listing l os → Worthy (and_then_all l (λ xs. w.Is (look_up (slice_get ts f) xs))) os
  applied f ts (Are xs) os h = h
  applied f ts (Leave o) os h = h
  applied f ts NoValues os h = tt

  -- ---- selects and updates

  if_worthy : (b : Bool) (v : Val) (os : List Operation) → first_outside os ≡ None → Worthy (if b then w.Is v else w.NoValue) os
  if_worthy true v os h = h
  if_worthy false v os h = tt

  selects : (a : WorthOf) (l : Listed) (xs ys : List Operation) → Worthy a xs → Listing l ys → Worthy (selected a l) (xs ++ ys)
  selects (w.Is x) (Are qs) xs ys h k =
      if_worthy (is_table x && are_parts qs) (select x (map number_of qs)) (xs ++ ys) (none_then xs ys h ∙ k)
  selects (w.Is x) (Leave o) xs ys h k = none_then xs ys h ∙ k
  selects (w.Is x) NoValues xs ys h k = tt
  selects (w.Leaves o) l xs ys h k = some_then xs ys o h
  selects w.NoValue l xs ys h k = tt

  updates : (a : WorthOf) (l : Listed) (b : WorthOf) (xs ys zs : List Operation) → Worthy a xs → Listing l ys → Worthy b zs → Worthy (updated a l b) (xs ++ (ys ++ zs))
  updates (w.Is x) (Are qs) (w.Is v) xs ys zs h k i =
      if_worthy (is_table x && are_parts qs) (update x (map number_of qs) v) (xs ++ (ys ++ zs)) (none_then xs (ys ++ zs) h ∙ (none_then ys zs k ∙ i))
  updates (w.Is x) (Are qs) (w.Leaves o) xs ys zs h k i = none_then xs (ys ++ zs) h ∙ (none_then ys zs k ∙ i)
  updates (w.Is x) (Are qs) w.NoValue xs ys zs h k i = tt
  updates (w.Is x) (Leave o) b xs ys zs h k i = none_then xs (ys ++ zs) h ∙ some_then ys zs o k
  updates (w.Is x) NoValues b xs ys zs h k i = tt
  updates (w.Leaves o) l b xs ys zs h k i = some_then xs (ys ++ zs) o h
  updates w.NoValue l b xs ys zs h k i = tt

  mutual
    first_of_ex : (e : Ex) (c : Seen) → MeanTables fs c.tables → Worthy (worth e c) (operations e (sees c))
    first_of_ex (s.Number z) c mean = refl
    first_of_ex (s.Fact b) c mean = refl
    first_of_ex (s.Read (s.Global x)) c mean = reads (slice_get c.globals x)
    first_of_ex (s.Read (s.Local x)) c mean = reads (slice_get c.frame x)
    first_of_ex (s.Not e) c mean = denies (worth e c) (operations e (sees c)) (first_of_ex e c mean)
    first_of_ex (s.Negative e) c mean = negates e c mean (worth e c) refl (first_of_ex e c mean)
    first_of_ex (s.Binary o a b) c mean =
        joins_by o a b c mean (worth a c) (worth b c) refl refl (first_of_ex a c mean) (first_of_ex b c mean)
    first_of_ex (s.Old e) c mean = first_of_ex e (at_entry c) mean
    first_of_ex (s.Constant k) c mean = tt
    first_of_ex (s.Apply f es) c mean =
        applied f c.tables (worths es c) (operations_of es (sees c)) (first_of_exs es c mean)
    first_of_ex (s.Select m es) c mean =
        selects (worth m c) (worths es c) (operations m (sees c)) (operations_of es (sees c)) (first_of_ex m c mean) (first_of_exs es c mean)
    first_of_ex (s.Update m es e) c mean =
        updates (worth m c) (worths es c) (worth e c) (operations m (sees c)) (operations_of es (sees c)) (operations e (sees c)) (first_of_ex m c mean) (first_of_exs es c mean) (first_of_ex e c mean)

    first_of_exs : (es : Exs) (c : Seen) → MeanTables fs c.tables → Listing (worths es c) (operations_of es (sees c))
    first_of_exs NoMore c mean = refl
    first_of_exs (More e es) c mean =
        one_more (worth e c) (worths es c) (operations e (sees c)) (operations_of es (sees c)) (first_of_ex e c mean) (first_of_exs es c mean)

  -- ---- clauses

  abbrev Saying_so : Said → List Operation → Type 0
  Saying_so Fine os = first_outside os ≡ None
  Saying_so (Stops a) os = first_outside os ≡ None
  Saying_so (Leaves o) os = first_outside os ≡ Some o
  Saying_so Unsaid os = Unit {0}

  behind_it : (y : Said) (xs os : List Operation) → Saying_so y os → first_outside xs ≡ None → Saying_so y (xs ++ os)
  behind_it Fine xs os k f = none_then xs os f ∙ k
  behind_it (Stops b) xs os k f = none_then xs os f ∙ k
  behind_it (Leaves o) xs os k f = none_then xs os f ∙ k
  behind_it Unsaid xs os k f = tt

  -- a clause, and those behind it where it is true
  one_clause : (a : Answer) (e : Ex) (c : Seen) → MeanTables fs c.tables → (x : Said) (os : List Operation) → Saying_so x os → Saying_so (then_said (or_stops a (worth e c)) x) (operations e (sees c) ++ (if truth_of (ev e (sees c)) then os else []))
  one_clause a e c mean x os h = by (worth e c) refl (first_of_ex e c mean)
    where
      by : (y : WorthOf) → worth e c ≡ y → Worthy y (operations e (sees c)) → Saying_so (then_said (or_stops a y) x) (operations e (sees c) ++ (if truth_of (ev e (sees c)) then os else []))
      by (w.Is (Truth true)) k f =
          subst (λ z. Saying_so x (operations e (sees c) ++ (if truth_of z then os else []))) (sym (value e c (Truth true) mean k)) (behind_it x (operations e (sees c)) os h f)
      by (w.Is (Truth false)) k f =
          subst (λ z. first_outside (operations e (sees c) ++ (if truth_of z then os else [])) ≡ None) (sym (value e c (Truth false) mean k)) (no_more (operations e (sees c)) f)
      by (w.Is (Num z)) k f = tt
      by (w.Is (Element u z)) k f = tt
      by (w.Is (Default d)) k f = tt
      by (w.Is (Entry q u n)) k f = tt
      by (w.Leaves o) k f = some_then (operations e (sees c)) (if truth_of (ev e (sees c)) then os else []) o f
      by w.NoValue k f = tt

  first_of_checks : (set : ℕ → Bool) (c : Seen) → MeanTables fs c.tables → (ds : List Demand) → Saying_so (checks set c ds) (of_checks set (sees c) ds)
  first_of_checks set c mean [] = refl
  first_of_checks set c mean (d ∷ ds) = by (is_kept set d.candidate) (first_of_checks set c mean ds)
    where
      by : (b : Bool) → Saying_so (checks set c ds) (of_checks set (sees c) ds) → Saying_so (then_said (if b then or_stops (Failed d.spot) (worth d.says c) else Fine) (checks set c ds)) (if b then operations d.says (sees c) ++ (if truth_of (ev d.says (sees c)) then of_checks set (sees c) ds else []) else of_checks set (sees c) ds)
      by true h = one_clause (Failed d.spot) d.says c mean (checks set c ds) (of_checks set (sees c) ds) h
      by false h = h

  first_of_supposes : (set : ℕ → Bool) (c : Seen) → MeanTables fs c.tables → (ds : List Saying) → Saying_so (supposes set c ds) (of_supposes set (sees c) ds)
  first_of_supposes set c mean [] = refl
  first_of_supposes set c mean (d ∷ ds) = by (is_kept set d.candidate) (first_of_supposes set c mean ds)
    where
      by : (b : Bool) → Saying_so (supposes set c ds) (of_supposes set (sees c) ds) → Saying_so (then_said (if b then or_stops Blocked (worth d.says c) else Fine) (supposes set c ds)) (if b then operations d.says (sees c) ++ (if truth_of (ev d.says (sees c)) then of_supposes set (sees c) ds else []) else of_supposes set (sees c) ds)
      by true h = one_clause Blocked d.says c mean (supposes set c ds) (of_supposes set (sees c) ds) h
      by false h = h

  -- ---- commands

  abbrev Leaving : Out → List Operation → Type 0
  Leaving (Goes m) os = first_outside os ≡ None
  Leaving (Over a) os = first_outside os ≡ None
  Leaving (Outside o) os = first_outside os ≡ Some o
  Leaving Unknown os = Unit {0}

  on_leaving : (x : Said) (m : Moment) (os : List Operation) → Saying_so x os → Leaving (on_said x m) os
  on_leaving Fine m os h = h
  on_leaving (Stops a) m os h = h
  on_leaving (Leaves o) m os h = h
  on_leaving Unsaid m os h = tt

  behind_none : (x : Out) (xs ys : List Operation) → first_outside xs ≡ None → Leaving x ys → Leaving x (xs ++ ys)
  behind_none (Goes m) xs ys f h = none_then xs ys f ∙ h
  behind_none (Over a) xs ys f h = none_then xs ys f ∙ h
  behind_none (Outside o) xs ys f h = none_then xs ys f ∙ h
  behind_none Unknown xs ys f h = tt

  so_leaving : (x : Out) (xs : List Operation) (k : Moment → Out) (f : Moment → List Operation) → Leaving x xs → ((m : Moment) → Leaving (k m) (f m)) → Leaving (and_so x k) (xs ++ behind x f)
  so_leaving (Goes m) xs k f h g = behind_none (k m) xs (f m) h (g m)
  so_leaving (Over a) xs k f h g = no_more xs h
  so_leaving (Outside o) xs k f h g = some_then xs [] o h
  so_leaving Unknown xs k f h g = tt

  chooses : (o : Option Val) (m : Moment) (k : Val → Moment → Out) → ((x : Val) (n : Moment) → Leaving (k x n) []) → Leaving (choose_by o m k) []
  chooses None m k h = refl
  chooses (Some x) m k h = h x m

  forgets : (a : Around) (xs : List Var) (m : Moment) → Leaving (forgotten a xs m) []
  forgets a [] m = refl
  forgets a (x ∷ xs) m =
      chooses (taken (variable_type a x) m.choices) (moved m) (λ y n. forgotten a xs (put x y n)) (λ y n. forgets a xs (put x y n))

  assigns : (l : Listed) (xs : List Var) (m : Moment) (os : List Operation) → Listing l os → Leaving (assigned l xs m) os
  assigns (Are ys) xs m os h = h
  assigns (Leave o) xs m os h = h
  assigns NoValues xs m os h = tt

  -- what goes on without an operation
  so_plain : (x : Out) (os : List Operation) (k : Moment → Out) → Leaving x os → ((m : Moment) → Leaving (k m) []) → Leaving (and_so x k) os
  so_plain (Goes m) os k h g = by (k m) (g m)
    where
      by : (y : Out) → Leaving y [] → Leaving y os
      by (Goes n) e = h
      by (Over a) e = h
      by (Outside o) e = absurd (let bad : ⊥ = cc in bad)
      by Unknown e = tt
  so_plain (Over a) os k h g = h
  so_plain (Outside o) os k h g = h
  so_plain Unknown os k h g = tt

  gives : (a : Around) → MeanTables fs a.tables → (k : Plan) (was args : List Val) (o : Option (List Val)) (m : Moment) → Leaving (given_back o a was args k.gives k.takes m) (of_results sees a k was args o m)
  gives a mean k was args None m = refl
  gives a mean k was args (Some xs) m =
      let inside : Seen = record { tables = a.tables; globals = (skipped xs m).globals; before = was; frame = args ++ xs } in
      so_plain (on_said (supposes a.set inside k.gives) (skipped xs m)) (of_supposes a.set (sees inside) k.gives) (λ n. Goes (put_each k.takes xs n)) (on_leaving (supposes a.set inside k.gives) (skipped xs m) (of_supposes a.set (sees inside) k.gives) (first_of_supposes a.set inside mean k.gives)) (λ n. refl)

  calls : (a : Around) → MeanTables fs a.tables → (k : Plan) (l : Listed) (m : Moment) (os : List Operation) → Listing l os → Leaving (called_with l a k.needs k.modifies (types_of k.results) k.gives k.takes m) (os ++ of_call sees a k l m)
  calls a mean k (Are args) m os h =
      let inside : Seen = record { tables = a.tables; globals = m.globals; before = m.globals; frame = args } in
      let rest : Moment → Out = λ n. and_so (forgotten a k.modifies n) (λ u. given_back (chosen (types_of k.results) u.choices) a n.globals args k.gives k.takes u) in
      let more : Moment → List Operation = λ n. behind (forgotten a k.modifies n) (λ u. of_results sees a k n.globals args (chosen (types_of k.results) u.choices) u) in
      behind_none (and_so (on_said (checks a.set inside k.needs) m) rest) os (of_checks a.set (sees inside) k.needs ++ behind (on_said (checks a.set inside k.needs) m) more) h
      (so_leaving (on_said (checks a.set inside k.needs) m) (of_checks a.set (sees inside) k.needs) rest more (on_leaving (checks a.set inside k.needs) m (of_checks a.set (sees inside) k.needs) (first_of_checks a.set inside mean k.needs)) (λ n. so_leaving (forgotten a k.modifies n) [] (λ u. given_back (chosen (types_of k.results) u.choices) a n.globals args k.gives k.takes u) (λ u. of_results sees a k n.globals args (chosen (types_of k.results) u.choices) u) (forgets a k.modifies n) (λ u. gives a mean k n.globals args (chosen (types_of k.results) u.choices) u)))
  calls a mean k (Leave o) m os h = some_then os [] o h
  calls a mean k NoValues m os h = tt

  first_of_act : (a : Around) → MeanTables fs a.tables → (k : Cmd) (m : Moment) → Leaving (acts a k m) (of_act sees a k m)
  first_of_act a mean (Check ds) m =
      on_leaving (checks a.set (seen_at a m) ds) m (of_checks a.set (sees (seen_at a m)) ds) (first_of_checks a.set (seen_at a m) mean ds)
  first_of_act a mean (Suppose ds) m =
      on_leaving (supposes a.set (seen_at a m) ds) m (of_supposes a.set (sees (seen_at a m)) ds) (first_of_supposes a.set (seen_at a m) mean ds)
  first_of_act a mean (Forget xs) m = forgets a xs m
  first_of_act a mean (Put xs es) m =
      assigns (worths es (seen_at a m)) xs m (operations_of es (sees (seen_at a m))) (first_of_exs es (seen_at a m) mean)
  first_of_act a mean (Perform k) m =
      calls a mean k (worths k.args (seen_at a m)) m (operations_of k.args (sees (seen_at a m))) (first_of_exs k.args (seen_at a m) mean)
  first_of_act a mean Finish m = refl

  first_of_acts : (a : Around) → MeanTables fs a.tables → (ks : List Cmd) (m : Moment) → Leaving (acts_each a ks m) (of_acts sees a ks m)
  first_of_acts a mean [] m = refl
  first_of_acts a mean (k ∷ ks) m =
      so_leaving (acts a k m) (of_act sees a k m) (acts_each a ks) (of_acts sees a ks) (first_of_act a mean k m) (first_of_acts a mean ks)

  -- ---- blocks

  abbrev Leading : Way → List Operation → Type 0
  Leading (On k m) os = first_outside os ≡ None
  Leading (Off x) os = first_outside os ≡ None
  Leading (Beyond o) os = first_outside os ≡ Some o
  Leading Nowhere os = Unit {0}

  goes : (o : Option ℕ) (m : Moment) → Leading (go_to o m) []
  goes None m = refl
  goes (Some k) m = refl

  branches : (o : Option ℕ) (ks : List ℕ) (m : Moment) → Leading (branch_to o ks m) []
  branches None ks m = refl
  branches (Some j) ks m = goes (slice_get ks j) m

  tests : (x : WorthOf) (on off : ℕ) (m : Moment) (os : List Operation) → Worthy x os → Leading (test_to x on off m) os
  tests (w.Is (Truth true)) on off m os h = h
  tests (w.Is (Truth false)) on off m os h = h
  tests (w.Is (Num z)) on off m os h = tt
  tests (w.Is (Element u z)) on off m os h = tt
  tests (w.Is (Default d)) on off m os h = tt
  tests (w.Is (Entry q u n)) on off m os h = tt
  tests (w.Leaves o) on off m os h = h
  tests w.NoValue on off m os h = tt

  first_of_exit : (a : Around) → MeanTables fs a.tables → (x : Exit) (m : Moment) → Leading (leaves a x m) (of_exit sees a x m)
  first_of_exit a mean (Leap []) m = refl
  first_of_exit a mean (Leap (k ∷ [])) m = refl
  first_of_exit a mean (Leap (k ∷ l ∷ ks)) m = branches (branched m.choices) (k ∷ l ∷ ks) (moved m)
  first_of_exit a mean (Either Star on off) m = branches (branched m.choices) (on ∷ off ∷ []) (moved m)
  first_of_exit a mean (Either (Test e) on off) m =
      tests (worth e (seen_at a m)) on off m (operations e (sees (seen_at a m))) (first_of_ex e (seen_at a m) mean)

  so_ran : (x : Out) (xs : List Operation) (k : Moment → Said) (f : Moment → List Operation) → Leaving x xs → ((m : Moment) → Saying_so (k m) (f m)) → Saying_so (ran x k) (xs ++ behind x f)
  so_ran (Goes m) xs k f h g = behind_it (k m) xs (f m) (g m) h
  so_ran (Over a) xs k f h g = no_more xs h
  so_ran (Outside o) xs k f h g = some_then xs [] o h
  so_ran Unknown xs k f h g = tt

  so_enters : (x : Way) (xs : List Operation) (k : ℕ → Moment → Said) (f : ℕ → Moment → List Operation) → Leading x xs → ((j : ℕ) (m : Moment) → Saying_so (k j m) (f j m)) → Saying_so (enters x k) (xs ++ behind_way x f)
  so_enters (On j m) xs k f h g = behind_it (k j m) xs (f j m) (g j m) h
  so_enters (Off a) xs k f h g = no_more xs h
  so_enters (Beyond o) xs k f h g = some_then xs [] o h
  so_enters Nowhere xs k f h g = tt

  first_of_run : (a : Around) → MeanTables fs a.tables → (k : ℕ) (bs : List Block) (m : Moment) → Saying_so (runs a k bs m) (of_run sees a k bs m)
  first_of_run a mean zero [] m = refl
  first_of_run a mean (suc k) [] m = refl
  first_of_run a mean (suc k) (b ∷ bs) m = first_of_run a mean k bs m
  first_of_run a mean zero (b ∷ bs) m =
      so_ran (acts_each a b.cmds m) (of_acts sees a b.cmds m) (λ n. enters (leaves a b.exit n) (λ k u. runs a k bs u)) (λ n. of_exit sees a b.exit n ++ behind_way (leaves a b.exit n) (λ k u. of_run sees a k bs u)) (first_of_acts a mean b.cmds m)
      (λ n. so_enters (leaves a b.exit n) (of_exit sees a b.exit n) (λ k u. runs a k bs u) (λ k u. of_run sees a k bs u) (first_of_exit a mean b.exit n) (λ k u. first_of_run a mean k bs u))

  -- what ends at an operation ends at the first that leaves the range; what ends with an answer has none
  pub leaves_first : (a : Around) → MeanTables fs a.tables → (k : ℕ) (bs : List Block) (m : Moment) (o : OutOfRange) → runs a k bs m ≡ Leaves o → first_outside (of_run sees a k bs m) ≡ Some o
  leaves_first a mean k bs m o e = subst (λ x. Saying_so x (of_run sees a k bs m)) e (first_of_run a mean k bs m)

  pub stops_within : (a : Around) → MeanTables fs a.tables → (k : ℕ) (bs : List Block) (m : Moment) (x : Answer) → runs a k bs m ≡ Stops x → first_outside (of_run sees a k bs m) ≡ None
  stops_within a mean k bs m x e = subst (λ y. Saying_so y (of_run sees a k bs m)) e (first_of_run a mean k bs m)
