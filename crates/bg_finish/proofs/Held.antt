-- Tables as the code holds them.
use Rattle.std.proofs.Common.{◌≡◌, ℕ, zero, suc, ◌+◌, ◌<◌, ◌≤◌, true, false, List, [], ◌∷◌, ◌++◌, length, get_or, take, drop, map, Vec, Global, refl, sym, ap, ◌∙◌, arith}
use Rattle.std.specs.Prelude.{if◌then◌else◌, slice_get, slice_set, ◌==◌}
use Rattle.std.specs.declared.cmp.Ordering.{Ordering}
use Rattle.std.specs.declared.cmp.Ordering.TheVariants.{Less, Equal, Greater}
use Rattle.std.specs.Ordering.{match_ordering}
use Rattle.std.specs.BTreeMap.{insert_entry}
use Rattle.std.proofs.lemmas.List.{drop_more, drop_all, append-nil, append_assoc}
use Rattle.bg_ast.specs.Values.{Val, val_eq}
use Rattle.bg_ast.specs.declared.resolved.Expr.{Expr}
use Rattle.bg_sense.specs.Eval.{value_at}
use Rattle.bg_kinds.specs.Views.{ref_in}
use Rattle.bg_kinds.specs.declared.kinds.ValueType.{ValueType}
use Rattle.bg_terms.specs.Terms.{Head, Applies}
use Rattle.bg_term_table.specs.declared.table.Term as kept
use Rattle.bg_term_table.specs.Locals.{local_in}
use Rattle.bg_term_table.specs.Views.{meaning, meanings, head_of}
use Rattle.bg_term_table.proofs.Loops.{read_more, read_last}
use Rattle.bg_scalar.specs.declared.scalar.Scalar.{Scalar}
use Rattle.bg_scalar.specs.declared.value.Value.{Value}
use Rattle.bg_scalar.specs.declared.table.Table.{Table}
use Rattle.bg_scalar.specs.Values.{val_of, value_of}
use Rattle.bg_scalar.specs.Views.{vals_in}
use Rattle.bg_wanted.specs.declared.row.Row.{Row}
use Rattle.bg_wanted.specs.Scalars.{scalars_in}
use Rattle.bg_finish.specs.Filled.{args_cmp, EntryOf, TableOf, RowOf, entry_in, held_in, all_held, with_entry, put_in, blank_for, blanks, at_place, with_row, filled, rows_for, read_or, args_in, entries_at, IsPut, scalars_at, entry_from, entries_from, AreTables}
use Rattle.bg_finish.proofs.Filling.{rows_more, filled_more}

pub inserted : (k : Vec Value Global) (x : Value) (es : List (Vec Value Global × Value)) → map entry_in (insert_entry (λ a b. args_cmp a.items b.items) es k x) ≡ with_entry k.items x (map entry_in es)
inserted k x [] = refl
inserted k x (e ∷ es) = on (args_cmp k.items (e.0).items) (inserted k x es)
  where
    on : (o : Ordering) → map entry_in (insert_entry (λ a b. args_cmp a.items b.items) es k x) ≡ with_entry k.items x (map entry_in es) → map entry_in (match_ordering o ((k, x) ∷ e ∷ es) ((e.0, x) ∷ es) (e ∷ insert_entry (λ a b. args_cmp a.items b.items) es k x)) ≡ match_ordering o ((k.items, x) ∷ entry_in e ∷ map entry_in es) (((e.0).items, x) ∷ map entry_in es) (entry_in e ∷ with_entry k.items x (map entry_in es))
    on Less later = refl
    on Equal later = refl
    on Greater later = ap (λ l. entry_in e ∷ l) later

-- what the default tells is told already
pub put_told : (t : TableOf) (k : List Value) (x : Value) → val_eq (value_of x) t.default ≡ true → t ≡ put_in t k x
put_told t k x h = sym (ap (λ c. if c then t else record t { entries = with_entry k x t.entries }) h)

pub put_new : (t : TableOf) (k : List Value) (x : Value) (es : List EntryOf) → val_eq (value_of x) t.default ≡ false → es ≡ with_entry k x t.entries → (record { entries = es; default = t.default }) ≡ put_in t k x
put_new t k x es h e =
    ap (λ l. record { entries = l; default = t.default }) e ∙ sym (ap (λ c. if c then t else record t { entries = with_entry k x t.entries }) h)

-- ---- tables without entries

abbrev pub blank_of : ValueType → TableOf
blank_of t = blank_for (ref_in t)

pub blanks_are : (ts : List ValueType) → map blank_of ts ≡ blanks (map ref_in ts)
blanks_are [] = refl
blanks_are (t ∷ ts) = ap (λ l. blank_of t ∷ l) (blanks_are ts)

pub blank_more : (ts : List ValueType) (i : ℕ) (t : ValueType) (made now : List Table) (b : Table) → i < length ts → t ≡ get_or ts i t → now ≡ made ++ b ∷ [] → held_in b ≡ blank_of t → all_held made ≡ map blank_of (take i ts) → all_held now ≡ map blank_of (take (i + 1) ts)
blank_more ts i t made now b lt is push h so =
    read_last held_in now made b push
    ∙ (ap (λ l. l ++ held_in b ∷ []) so
    ∙ (ap (λ x. map blank_of (take i ts) ++ x ∷ []) h ∙ sym (read_more blank_of ts i t lt is)))

-- ---- values of arguments

pub value_there : (values : List Value) (j : ℕ) (x : Value) → j < length values → x ≡ get_or values j x → value_of x ≡ value_at (vals_in values) j
value_there [] j x h e = absurd (omega (arith, h))
value_there (v ∷ values) zero x h e = ap value_of e
value_there (v ∷ values) (suc j) x h e = value_there values j x (omega (arith, h)) e

-- arguments so far, in front of the rest
pub args_start : (w : List Val) (es : List Expr) (ss : List Scalar) → [] ++ args_in w (meanings (drop 0 es)) (scalars_in (drop 0 ss)) ≡ args_in w (meanings es) (scalars_in ss)
args_start w es ss = refl

args_step : (w : List Val) (es : List Expr) (ss : List Scalar) (i : ℕ) (d : Expr) (c : Scalar) → i < length es → i < length ss → args_in w (meanings (drop i es)) (scalars_in (drop i ss)) ≡ read_or (local_in (meaning (get_or es i d))) w (val_of (get_or ss i c)) ∷ args_in w (meanings (drop (i + 1) es)) (scalars_in (drop (i + 1) ss))
args_step w [] ss i d c h k = absurd (omega (arith, h))
args_step w (e ∷ es) [] i d c h k = absurd (omega (arith, k))
args_step w (e ∷ es) (s ∷ ss) zero d c h k = refl
args_step w (e ∷ es) (s ∷ ss) (suc i) d c h k =
    args_step w es ss i d c (omega (arith, h)) (omega (arith, k))
    ∙ ap (λ j. read_or (local_in (meaning (get_or es i d))) w (val_of (get_or ss i c)) ∷ args_in w (meanings (drop j (e ∷ es))) (scalars_in (drop j (s ∷ ss)))) (let q : suc (i + 1) ≡ suc i + 1 = omega arith in q)

pub args_more : (w : List Val) (es : List Expr) (ss : List Scalar) (i : ℕ) (d e : Expr) (c s : Scalar) (made now : List Value) (x : Value) (all : List Val) → i < length es → i < length ss → e ≡ get_or es i d → s ≡ get_or ss i c → now ≡ made ++ x ∷ [] → value_of x ≡ read_or (local_in (meaning e)) w (val_of s) → vals_in made ++ args_in w (meanings (drop i es)) (scalars_in (drop i ss)) ≡ all → vals_in now ++ args_in w (meanings (drop (i + 1) es)) (scalars_in (drop (i + 1) ss)) ≡ all
args_more w es ss i d e c s made now x all h k at scalar push is so =
    let rest = args_in w (meanings (drop (i + 1) es)) (scalars_in (drop (i + 1) ss)) in
    ap (λ l. l ++ rest) (read_last value_of now made x push)
    ∙ (append_assoc (vals_in made) (value_of x ∷ []) rest
    ∙ (ap (λ v. vals_in made ++ v ∷ rest) (is ∙ (ap (λ y. read_or (local_in (meaning y)) w (val_of s)) at ∙ ap (λ y. read_or (local_in (meaning (get_or es i d))) w (val_of y)) scalar))
    ∙ (ap (λ l. vals_in made ++ l) (sym (args_step w es ss i d c h k)) ∙ so)))

no_more : (w : List Val) (es : List Expr) (ss : List Scalar) → ss ≡ [] → args_in w (meanings es) (scalars_in ss) ≡ []
no_more w [] ss e = refl
no_more w (x ∷ es) ss e = ap (λ l. args_in w (meanings (x ∷ es)) (scalars_in l)) e

pub args_short : (w : List Val) (es : List Expr) (ss : List Scalar) (i : ℕ) (made : List Value) (all : List Val) → length ss ≤ i → vals_in made ++ args_in w (meanings (drop i es)) (scalars_in (drop i ss)) ≡ all → vals_in made ≡ all
args_short w es ss i made all h so =
    sym (append-nil (vals_in made)) ∙ (ap (λ l. vals_in made ++ l) (sym (no_more w (drop i es) (drop i ss) (drop_all i ss h))) ∙ so)

pub args_end : (w : List Val) (es : List Expr) (ss : List Scalar) (i : ℕ) (made : List Value) (all : List Val) → length es ≤ i → vals_in made ++ args_in w (meanings (drop i es)) (scalars_in (drop i ss)) ≡ all → vals_in made ≡ all
args_end w es ss i made all h so =
    sym (append-nil (vals_in made))
    ∙ (ap (λ l. vals_in made ++ args_in w (meanings l) (scalars_in (drop i ss))) (sym (drop_all i es h)) ∙ so)

-- ---- rows

pub row_missing : (rows : List Row) (i : ℕ) → length rows ≤ i → [] ≡ scalars_at (slice_get rows i)
row_missing [] i h = refl
row_missing (r ∷ rows) zero h = absurd (omega (arith, h))
row_missing (r ∷ rows) (suc i) h = row_missing rows i (omega (arith, h))

pub row_there : (rows : List Row) (i : ℕ) (r : Row) → i < length rows → r ≡ get_or rows i r → scalars_in r.args.items ≡ scalars_at (slice_get rows i)
row_there [] i r h e = absurd (omega (arith, h))
row_there (q ∷ rows) zero r h e = ap (λ x. scalars_in x.args.items) e
row_there (q ∷ rows) (suc i) r h e = row_there rows i r (omega (arith, h)) e

-- ---- one table

pub place_past : (i : ℕ) (g : TableOf → TableOf) (ts : List Table) → length ts ≤ i → all_held ts ≡ at_place i g (all_held ts)
place_past i g [] h = refl
place_past zero g (t ∷ ts) h = absurd (omega (arith, h))
place_past (suc i) g (t ∷ ts) h = ap (λ l. held_in t ∷ l) (place_past i g ts (omega (arith, h)))

pub set_place : (ts : List Table) (i : ℕ) (w x : Table) (g : TableOf → TableOf) → i < length ts → x ≡ get_or ts i x → held_in w ≡ g (held_in x) → all_held (slice_set ts i w) ≡ at_place i g (all_held ts)
set_place [] i w x g lt is h = absurd (omega (arith, lt))
set_place (t ∷ ts) zero w x g lt is h = ap (λ y. y ∷ all_held ts) (h ∙ ap (λ y. g (held_in y)) is)
set_place (t ∷ ts) (suc i) w x g lt is h = ap (λ l. held_in t ∷ l) (set_place ts i w x g (omega (arith, lt)) is h)

-- ---- one term

-- an application
pub put_one : (f : ℕ) (h : Head) (args : List Value) (x : Value) (k : List Val) (v : Val) (old now : List TableOf) → h ≡ Applies f → vals_in args ≡ k → value_of x ≡ v → now ≡ with_row (record { function = f; args = args; value = x }) old → IsPut h k v old now
put_one f h args x k v old now is key value e =
    record {
      applied = record { function = f; args = args; value = x } ∷ [];
      filled_by = e;
      say =
          λ g. ap (λ l. if f == g then (l, value_of x) ∷ [] else []) key
          ∙ (ap (λ y. if f == g then (k, y) ∷ [] else []) value ∙ ap (λ a. entries_at g a k v) (sym is));
    }

-- any other
pub put_none : (h : Head) (k : List Val) (v : Val) (old : List TableOf) → ((g : ℕ) → entries_at g h k v ≡ []) → IsPut h k v old old
put_none h k v old none = record { applied = []; filled_by = refl; say = λ g. sym (none g) }

-- ---- all terms

abbrev pub AreSoFar : List Val → List kept.Term → List Row → ℕ → List TableOf → ℕ → List Table → Type 0
AreSoFar w terms rows n first i made =
    (rs : List RowOf) × ((all_held made ≡ filled rs first) × ((f : ℕ) → rows_for f rs ++ entries_from f w rows n i (drop i terms) ≡ entries_from f w rows n 0 terms))

pub none_so_far : (w : List Val) (terms : List kept.Term) (rows : List Row) (n : ℕ) (first : List TableOf) (made : List Table) → all_held made ≡ first → AreSoFar w terms rows n first 0 made
none_so_far w terms rows n first made e = ([], (e, λ f. refl))

term_step : (f : ℕ) (w : List Val) (rows : List Row) (n : ℕ) (terms : List kept.Term) (i b : ℕ) (t : kept.Term) → i < length terms → t ≡ get_or terms i t → entries_from f w rows n b (drop i terms) ≡ entry_from f w rows n b t ++ entries_from f w rows n (suc b) (drop (i + 1) terms)
term_step f w rows n terms i b t lt is =
    ap (entries_from f w rows n b) (drop_more terms i t lt ∙ ap (λ y. y ∷ drop (i + 1) terms) (sym is))

pub more_so_far : (w : List Val) (terms : List kept.Term) (rows : List Row) (n : ℕ) (first : List TableOf) (i number : ℕ) (t : kept.Term) (scalars : List Scalar) (made now : List Table) → i < length terms → t ≡ get_or terms i t → number ≡ n + i → scalars_in scalars ≡ scalars_at (slice_get rows i) → IsPut (head_of t.head) (args_in w (meanings t.args.items) (scalars_in scalars)) (value_at w number) (all_held made) (all_held now) → AreSoFar w terms rows n first i made → AreSoFar w terms rows n first (i + 1) now
more_so_far w terms rows n first i number t scalars made now lt is at row put so =
    (so.0 ++ put.applied, (put.filled_by ∙ (ap (filled put.applied) so.1.0 ∙ sym (filled_more so.0 put.applied first)), λ f. said f))
  where
    same : (f : ℕ) → rows_for f put.applied ≡ entry_from f w rows n i t
    same f =
        put.say f
        ∙ (ap (λ l. entries_at f (head_of t.head) (args_in w (meanings t.args.items) l) (value_at w number)) row
        ∙ ap (λ j. entries_at f (head_of t.head) (args_in w (meanings t.args.items) (scalars_at (slice_get rows i))) (value_at w j)) at)

    said : (f : ℕ) → rows_for f (so.0 ++ put.applied) ++ entries_from f w rows n (i + 1) (drop (i + 1) terms) ≡ entries_from f w rows n 0 terms
    said f =
        let next = entries_from f w rows n (suc i) (drop (i + 1) terms) in
        ap (λ j. rows_for f (so.0 ++ put.applied) ++ entries_from f w rows n j (drop (i + 1) terms)) (let q : i + 1 ≡ suc i = omega arith in q)
        ∙ (ap (λ l. l ++ next) (rows_more f so.0 put.applied)
        ∙ (append_assoc (rows_for f so.0) (rows_for f put.applied) next
        ∙ (ap (λ l. rows_for f so.0 ++ (l ++ next)) (same f)
        ∙ (ap (λ l. rows_for f so.0 ++ l) (sym (term_step f w rows n terms i i t lt is)) ∙ so.1.1 f))))

pub all_so_far : (w : List Val) (terms : List kept.Term) (rows : List Row) (n : ℕ) (types : List ValueType) (i : ℕ) (made : List Table) → length terms ≤ i → AreSoFar w terms rows n (blanks (map ref_in types)) i made → AreTables w terms rows n (map ref_in types) made
all_so_far w terms rows n types i made end so =
    record {
      applied = so.0;
      filled_by = so.1.0;
      say =
          λ f. sym (append-nil (rows_for f so.0))
          ∙ (ap (λ l. rows_for f so.0 ++ entries_from f w rows n i l) (sym (drop_all i terms end)) ∙ so.1.1 f);
    }
