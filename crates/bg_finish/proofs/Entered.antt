-- One entry more in a table.
use Rattle.std.proofs.Common.{◌≡◌, ◌⊎◌, Bool, true, false, List, [], ◌∷◌, map, refl, sym, ap, ◌∙◌, ⊎_elim}
use Rattle.std.specs.Prelude.{if◌then◌else◌, not, ◌&&◌}
use Rattle.std.specs.declared.cmp.Ordering.{Ordering}
use Rattle.std.specs.declared.cmp.Ordering.TheVariants.{Less, Equal, Greater}
use Rattle.std.specs.Ordering.{ordering_reverse, is_eq, match_ordering}
use Rattle.std.specs.Cmp.{IsTotalOrder}
use Rattle.std.proofs.lemmas.Cmp.{lists_total}
use Rattle.bg_ast.specs.Values.{Val, Ty, is_of, val_eq}
use Rattle.bg_ast.specs.Syntax.{Fun}
use Rattle.bg_sense.specs.Eval.{vals_eq, entry_for}
use Rattle.bg_sense.specs.Tables.{vals_lt, is_before, are_entries}
use Rattle.bg_sense.specs.Types.{are_of}
use Rattle.bg_sense.proofs.Bools.{both}
use Rattle.bg_sense.proofs.MapLaws.{val_eq_refl}
use Rattle.bg_sense.proofs.Order.{vals_same, vals_compared}
use Rattle.bg_scalar.specs.contracts.value.ValueOrd.TheImpl.Laws as laws
use Rattle.bg_scalar.specs.declared.value.Value.{Value}
use Rattle.bg_scalar.specs.Values.{value_of}
use Rattle.bg_scalar.specs.Views.{vals_in}
use Rattle.bg_scalar.proofs.Ordered.{then_is, value_cmp, values_alike}
use Rattle.bg_scalar.proofs.Below as below
use Rattle.bg_finish.specs.Filled.{args_cmp, EntryOf, with_entry}

abbrev pub Entries : Type 0
Entries = List EntryOf

-- as arguments' values and a value
abbrev pub entry_of : EntryOf → List Val × Val
entry_of e = (vals_in e.0, value_of e.1)

-- what entries tell
abbrev pub told : Entries → List Val → Val → Val
told es args d = entry_for (map entry_of es) args d

-- ---- the order of arguments

pub total : IsTotalOrder args_cmp
total = lists_total laws.total-law

vals_refl : (vs : List Val) → vals_eq vs vs ≡ true
vals_refl [] = refl
vals_refl (v ∷ vs) = ap (λ c. c && vals_eq vs vs) (val_eq_refl v) ∙ vals_refl vs

args_alike : (xs ys : List Value) → is_eq (args_cmp xs ys) ≡ vals_eq (vals_in ys) (vals_in xs)
args_alike [] [] = refl
args_alike [] (y ∷ ys) = refl
args_alike (x ∷ xs) [] = refl
args_alike (x ∷ xs) (y ∷ ys) =
    then_is (value_cmp x y) (args_cmp xs ys) (val_eq (value_of y) (value_of x)) (vals_eq (vals_in ys) (vals_in xs)) (values_alike x y) (args_alike xs ys)

equal_is : (o : Ordering) → is_eq o ≡ true → o ≡ Equal
equal_is Less h = absurd (let bad : ⊥ = cc in bad)
equal_is Equal h = refl
equal_is Greater h = absurd (let bad : ⊥ = cc in bad)

-- equal arguments have the same values, and no others are equal
known : (xs ys : List Value) → args_cmp xs ys ≡ Equal → vals_in xs ≡ vals_in ys
known xs ys h = sym (vals_same (vals_in ys) (vals_in xs) (sym (args_alike xs ys) ∙ ap is_eq h))

tied : (xs ys : List Value) → vals_in xs ≡ vals_in ys → args_cmp xs ys ≡ Equal
tied xs ys e =
    equal_is (args_cmp xs ys) (args_alike xs ys ∙ (ap (vals_eq (vals_in ys)) e ∙ vals_refl (vals_in ys)))

-- ---- what is told with one entry more

pub entered : (k : List Value) (x : Value) (es : Entries) (args : List Val) (d : Val) → told (with_entry k x es) args d ≡ (if vals_eq (vals_in k) args then value_of x else told es args d)
entered k x [] args d = refl
entered k x (e ∷ es) args d = on (args_cmp k e.0) refl (entered k x es args d)
  where
    twice : (c : Bool) (u v w : Val) → (if c then u else w) ≡ (if c then u else if c then v else w)
    twice true u v w = refl
    twice false u v w = refl

    apart : (c b : Bool) → vals_eq (vals_in k) args ≡ c → vals_eq (vals_in e.0) args ≡ b → args_cmp k e.0 ≡ Greater → (u v w : Val) → (if b then v else if c then u else w) ≡ (if c then u else if b then v else w)
    apart true true h g o u v w =
        let same : vals_in k ≡ vals_in e.0 = vals_same (vals_in k) args h ∙ sym (vals_same (vals_in e.0) args g) in
        let both_ways : Greater ≡ Equal = sym o ∙ tied k e.0 same in
        absurd (let bad : ⊥ = cc in bad)
    apart true false h g o u v w = refl
    apart false b h g o u v w = refl

    on : (o : Ordering) → args_cmp k e.0 ≡ o → told (with_entry k x es) args d ≡ (if vals_eq (vals_in k) args then value_of x else told es args d) → told (match_ordering o ((k, x) ∷ e ∷ es) ((e.0, x) ∷ es) (e ∷ with_entry k x es)) args d ≡ (if vals_eq (vals_in k) args then value_of x else told (e ∷ es) args d)
    on Less q later = refl
    on Equal q later =
        twice (vals_eq (vals_in e.0) args) (value_of x) (value_of e.1) (told es args d)
        ∙ ap (λ l. if vals_eq l args then value_of x else told (e ∷ es) args d) (sym (known k e.0 q))
    on Greater q later =
        ap (λ v. if vals_eq (vals_in e.0) args then value_of e.1 else v) later
        ∙ apart (vals_eq (vals_in k) args) (vals_eq (vals_in e.0) args) refl refl q (value_of x) (value_of e.1) (told es args d)

-- ---- entries stay in order

abbrev pub Before : List Value → Entries → Type 0
Before k [] = Unit {0}
Before k (e ∷ es) = args_cmp k e.0 ≡ Less

abbrev pub InOrder : Entries → Type 0
InOrder [] = Unit {0}
InOrder (e ∷ es) = Before e.0 es × InOrder es

before_entry : (l k : List Value) (x : Value) (es : Entries) → args_cmp l k ≡ Less → Before l es → Before l (with_entry k x es)
before_entry l k x [] h b = h
before_entry l k x (e ∷ es) h b = on (args_cmp k e.0)
  where
    on : (o : Ordering) → Before l (match_ordering o ((k, x) ∷ e ∷ es) ((e.0, x) ∷ es) (e ∷ with_entry k x es))
    on Less = h
    on Equal = b
    on Greater = b

pub in_order : (k : List Value) (x : Value) (es : Entries) → InOrder es → InOrder (with_entry k x es)
in_order k x [] h = (tt, tt)
in_order k x (e ∷ es) h = on (args_cmp k e.0) refl (in_order k x es h.1)
  where
    on : (o : Ordering) → args_cmp k e.0 ≡ o → InOrder (with_entry k x es) → InOrder (match_ordering o ((k, x) ∷ e ∷ es) ((e.0, x) ∷ es) (e ∷ with_entry k x es))
    on Less q later = (q, h)
    on Equal q later = h
    on Greater q later = (before_entry e.0 k x es (total.antisymm e.0 k ∙ ap ordering_reverse q) h.0, later)

-- ---- keys and values stay what they are

abbrev pub Fit : (List Value → Type 0) → (Value → Type 0) → Entries → Type 0
Fit P Q [] = Unit {0}
Fit P Q (e ∷ es) = (P e.0 × Q e.1) × Fit P Q es

pub fit_entry : (P : List Value → Type 0) (Q : Value → Type 0) (k : List Value) (x : Value) (es : Entries) → P k → Q x → Fit P Q es → Fit P Q (with_entry k x es)
fit_entry P Q k x [] p q h = ((p, q), tt)
fit_entry P Q k x (e ∷ es) p q h = on (args_cmp k e.0) (fit_entry P Q k x es p q h.1)
  where
    on : (o : Ordering) → Fit P Q (with_entry k x es) → Fit P Q (match_ordering o ((k, x) ∷ e ∷ es) ((e.0, x) ∷ es) (e ∷ with_entry k x es))
    on Less later = ((p, q), h)
    on Equal later = ((h.0.0, q), h.1)
    on Greater later = (h.0, later)

-- ---- entries of a table in normal form

-- arguments of a function that come first are below
args_less : (ts : List Ty) (xs ys : List Value) → are_of ts (vals_in xs) ≡ true → are_of ts (vals_in ys) ≡ true → args_cmp xs ys ≡ Less → vals_lt (vals_in xs) (vals_in ys) ≡ true
args_less ts xs ys h k q =
    ⊎_elim (λ lt. lt) (λ other. absurd (⊎_elim same above other)) (vals_compared ts (vals_in xs) (vals_in ys) h k)
  where
    same : vals_eq (vals_in xs) (vals_in ys) ≡ true → ⊥
    same e = let both_ways : Less ≡ Equal = sym q ∙ tied xs ys (vals_same (vals_in xs) (vals_in ys) e) in let bad : ⊥ = cc in bad

    above : vals_lt (vals_in ys) (vals_in xs) ≡ true → ⊥
    above e =
        let both_ways : Less ≡ Greater = sym q ∙ (total.antisymm xs ys ∙ ap ordering_reverse (below.args_less ys xs e)) in
        let bad : ⊥ = cc in
        bad

-- arguments of a function, and values of it that aren't its default
abbrev pub IsArgs : Fun → List Value → Type 0
IsArgs f k = are_of f.params (vals_in k) ≡ true

abbrev pub IsTold : Fun → Val → Value → Type 0
IsTold f d x = (is_of f.result (value_of x) ≡ true) × (val_eq (value_of x) d ≡ false)

pub entries_are : (f : Fun) (d : Val) (es : Entries) → InOrder es → Fit (IsArgs f) (IsTold f d) es → are_entries f d (map entry_of es) ≡ true
entries_are f d [] h k = refl
entries_are f d (e ∷ es) h k =
    both (are_of f.params (vals_in e.0)) _ k.0.0
    (both (is_of f.result (value_of e.1)) _ k.0.1.0
    (both (not (val_eq (value_of e.1) d)) _ (ap not k.0.1.1)
    (both (is_before (vals_in e.0) (map entry_of es)) (are_entries f d (map entry_of es)) (before es h.0 k.1) (entries_are f d es h.1 k.1))))
  where
    before : (us : Entries) → Before e.0 us → Fit (IsArgs f) (IsTold f d) us → is_before (vals_in e.0) (map entry_of us) ≡ true
    before [] b g = refl
    before (u ∷ us) b g = args_less f.params e.0 u.0 k.0.0 g.0.0 b
