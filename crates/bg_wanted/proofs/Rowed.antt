-- Terms, and what they come to.
use Rattle.std.proofs.Common.{◌≡◌, ℕ, zero, suc, ◌+◌, ◌<◌, ◌≤◌, true, List, [], ◌∷◌, ◌++◌, length, get_or, take, drop, map, Option, Some, None, Vec, Global, refl, sym, ap, ◌∙◌, subst, arith, inl, inr, ⊎_elim}
use Rattle.std.specs.Prelude.{slice_get, MatchOption}
use Rattle.std.proofs.lemmas.List.{drop_all}
use Rattle.bg_base.specs.declared.exact.OutOfRange.{OutOfRange}
use Rattle.bg_ast.specs.Values.{Val}
use Rattle.bg_ast.specs.Syntax.{More, Fun}
use Rattle.bg_ast.specs.Meaning.{exs_of}
use Rattle.bg_ast.specs.Views.{exs_in}
use Rattle.bg_ast.specs.declared.resolved.Expr.{Expr}
use Rattle.bg_sense.proofs.Bools.{or_true_left, or_true_right}
use Rattle.bg_terms.specs.Terms.{Term}
use Rattle.bg_term_table.specs.declared.table.Term as kept
use Rattle.bg_term_table.specs.Views.{meaning, meanings, listed, head_of, term_of, terms_in}
use Rattle.bg_term_table.proofs.Loops.{read_more, read_last}
use Rattle.bg_scalar.specs.declared.scalar.Scalar.{Scalar}
use Rattle.bg_scalar.specs.declared.value.Value.{Value}
use Rattle.bg_scalar.specs.declared.value.Value.TheVariants as value
use Rattle.bg_scalar.specs.Worths.{Listed, Are, worths, is_table}
use Rattle.bg_scalar.specs.Values.{val_of, value_of}
use Rattle.bg_scalar.specs.Views.{vals_in}
use Rattle.bg_wanted.specs.Scalars.{scalars_in, has_table}
use Rattle.bg_wanted.specs.declared.class.Class.{Class}
use Rattle.bg_wanted.specs.declared.row.Row.{Row}
use Rattle.bg_wanted.specs.declared.row.One.{One}
use Rattle.bg_wanted.specs.declared.row.One.TheVariants as one
use Rattle.bg_wanted.specs.Classes.{class_in, AreMet, HasHead}
use Rattle.bg_wanted.specs.Rows.{RowOf, row_of, rows_of, IsRow, have_none, IsOne, one_with, AreRows, LacksOne, LeavesFirst, seen_at}
use Rattle.bg_wanted.proofs.ClassLaws.{before_beyond}

-- ---- lists

pub map_there : {A B : Type 0} (f : A → B) (xs : List A) (i : ℕ) (x : A) → i < length xs → x ≡ get_or xs i x → slice_get (map f xs) i ≡ Some (f x)
map_there f [] i x h e = absurd (omega (arith, h))
map_there f (y ∷ xs) zero x h e = ap (λ z. Some (f z)) (sym e)
map_there f (y ∷ xs) (suc i) x h e = map_there f xs i x (omega (arith, h)) e

pub map_missing : {A B : Type 0} (f : A → B) (xs : List A) (i : ℕ) → length xs ≤ i → slice_get (map f xs) i ≡ None
map_missing f [] i h = refl
map_missing f (y ∷ xs) zero h = absurd (omega (arith, h))
map_missing f (y ∷ xs) (suc i) h = map_missing f xs i (omega (arith, h))

pub take_there : {A B : Type 0} (f : A → B) (xs : List A) (i a : ℕ) (t : B) → a < i → slice_get (map f xs) a ≡ Some t → slice_get (map f (take i xs)) a ≡ Some t
take_there f xs zero a t lt e = absurd (omega (arith, lt))
take_there f [] (suc i) a t lt e = e
take_there f (x ∷ xs) (suc i) zero t lt e = e
take_there f (x ∷ xs) (suc i) (suc a) t lt e = take_there f xs i a t (omega (arith, lt)) e

pub take_length : {A B : Type 0} (f : A → B) (xs : List A) (i : ℕ) → i < length xs → length (map f (take i xs)) ≡ i
take_length f xs zero h = refl
take_length f [] (suc i) h = absurd (omega (arith, h))
take_length f (x ∷ xs) (suc i) h = let later = take_length f xs i (omega (arith, h)) in omega (arith, later)

-- ---- rows

module _ (values : List Scalar) (n : ℕ) (whole : List Term) where
  abbrev pub Row_at : Term → RowOf → ℕ → Type 0
  Row_at t r b = IsRow values t (class_in whole t.head) (slice_get (drop n values) b) r

  at_row : (t : Term) (r : RowOf) (b c : ℕ) → b ≡ c → Row_at t r b → Row_at t r c
  at_row t r b c e h = subst (Row_at t r) e h

  pub are_more : (b : ℕ) (ts : List Term) (rs : List RowOf) (t : Term) (r : RowOf) → AreRows values n whole b ts rs → Row_at t r (b + length ts) → AreRows values n whole b (ts ++ t ∷ []) (rs ++ r ∷ [])
  are_more b [] [] t r h k = (at_row t r (b + 0) b (omega arith) k, tt)
  are_more b [] (q ∷ rs) t r h k = absurd h
  are_more b (u ∷ ts) [] t r h k = absurd h
  are_more b (u ∷ ts) (q ∷ rs) t r h k =
      (h.0, are_more (suc b) ts rs t r h.1 (at_row t r (b + suc (length ts)) (suc b + length ts) (omega arith) k))

  pub its_row : (b : ℕ) (ts : List Term) (rs : List RowOf) → AreRows values n whole b ts rs → (a : ℕ) (t : Term) → slice_get ts a ≡ Some t → (r : RowOf) × ((slice_get rs a ≡ Some r) × Row_at t r (b + a))
  its_row b [] rs h a t e = absurd (let bad : ⊥ = cc in bad)
  its_row b (u ∷ ts) [] h a t e = absurd h
  its_row b (u ∷ ts) (q ∷ rs) h zero t e =
      let same : u ≡ t = cc in
      (q, (refl, subst (λ x. Row_at x q (b + 0)) same (at_row u q b (b + 0) (omega arith) h.0)))
  its_row b (u ∷ ts) (q ∷ rs) h (suc a) t e =
      let w = its_row (suc b) ts rs h.1 a t e in
      (w.0, (w.1.0, at_row t w.0 (suc b + a) (b + suc a) (omega arith) w.1.1))

  pub its_term : (b : ℕ) (ts : List Term) (rs : List RowOf) → AreRows values n whole b ts rs → (a : ℕ) (r : RowOf) → slice_get rs a ≡ Some r → (t : Term) × ((slice_get ts a ≡ Some t) × Row_at t r (b + a))
  its_term b [] [] h a r e = absurd (let bad : ⊥ = cc in bad)
  its_term b [] (q ∷ rs) h a r e = absurd h
  its_term b (u ∷ ts) [] h a r e = absurd h
  its_term b (u ∷ ts) (q ∷ rs) h zero r e =
      let same : q ≡ r = cc in
      (u, (refl, subst (λ x. Row_at u x (b + 0)) same (at_row u q b (b + 0) (omega arith) h.0)))
  its_term b (u ∷ ts) (q ∷ rs) h (suc a) r e =
      let w = its_term (suc b) ts rs h.1 a r e in
      (w.0, (w.1.0, at_row w.0 r (suc b + a) (b + suc a) (omega arith) w.1.1))

-- ---- a turn of the loop

module _ (values : List Scalar) (n : ℕ) (fs : List Fun) (terms : List kept.Term) (i : ℕ) (x : kept.Term) (lt : i < length terms) (is : x ≡ get_or terms i x) where
  abbrev whole : List Term
  whole = terms_in fs terms

  abbrev so_far : List Term
  so_far = map (term_of fs) (take i terms)

  module _ (made : List Row) (rows : AreRows values n (terms_in fs terms) 0 (map (term_of fs) (take i terms)) (rows_of made)) where
    pub leaves_first : (it : One) (o : OutOfRange) (c : Class) (value : Option Scalar) → it ≡ one.Leaves o → IsOne values (term_of fs x) c value it → LeavesFirst (terms_in fs terms) (scalars_in values) o
    leaves_first it o c value e h =
        record {
          number = i;
          term = term_of fs x;
          is_there = map_there (term_of fs) terms i x lt is;
          leaves = subst (IsOne values (term_of fs x) c value) e h;
          before = λ a t la there. let w = its_row values n whole 0 so_far (rows_of made) rows a t (take_there (term_of fs) terms i a t la there) in (scalars_in w.0.args, w.1.1.1.0);
        }

    pub rows_more : (now : List Row) (it : One) (r : Row) (c : Class) (value : Option Scalar) → it ≡ one.Is r → now ≡ made ++ r ∷ [] → c ≡ class_in (terms_in fs terms) (head_of x.head) → value ≡ slice_get (drop n values) i → IsOne values (term_of fs x) c value it → AreRows values n (terms_in fs terms) 0 (map (term_of fs) (take (i + 1) terms)) (rows_of now)
    rows_more now it r c value e push k v h =
        let place : i ≡ 0 + length so_far = let q = take_length (term_of fs) terms i lt in omega (arith, q) in
        let row : Row_at values n whole (term_of fs x) (row_of r) (0 + length so_far) = subst (λ y. IsRow values (term_of fs x) (class_in whole (head_of x.head)) y (row_of r)) (v ∙ ap (slice_get (drop n values)) place) (subst (λ d. IsRow values (term_of fs x) d value (row_of r)) k (subst (IsOne values (term_of fs x) c value) e h)) in
        subst (λ l. AreRows values n whole 0 l (rows_of now)) (sym (read_more (term_of fs) terms i x lt is)) (subst (λ l. AreRows values n whole 0 (so_far ++ term_of fs x ∷ []) l) (sym (read_last row_of now made r push)) (are_more values n whole 0 so_far (rows_of made) (term_of fs x) (row_of r) rows row))

  pub lacks_one : (it : One) (c : Class) (value : Option Scalar) → it ≡ one.NoRow → value ≡ slice_get (drop n values) i → IsOne values (term_of fs x) c value it → LacksOne values n (terms_in fs terms)
  lacks_one it c value e v h =
      record {
        number = i;
        term = term_of fs x;
        is_there = map_there (term_of fs) terms i x lt is;
        lacks = ⊎_elim (λ k. inl k) (λ k. inr (sym v ∙ k)) (subst (IsOne values (term_of fs x) c value) e h);
      }

-- ---- one term

-- arguments as the code has them
all_listed : (es : List Expr) → exs_of (exs_in es) ≡ listed (meanings es)
all_listed [] = refl
all_listed (e ∷ es) = ap (More (meaning e)) (all_listed es)

pub args_are : (values : List Scalar) (fs : List Fun) (x : kept.Term) (es : List Expr) (w : List Val) (l m : Listed) → w ≡ scalars_in values → es ≡ x.args.items → l ≡ worths (exs_of (exs_in es)) (seen_at w) → l ≡ m → worths (term_of fs x).args (seen_at (scalars_in values)) ≡ m
args_are values fs x es w l m frame same is e =
    ap (λ v. worths (term_of fs x).args (seen_at v)) (sym frame)
    ∙ (ap (λ a. worths a (seen_at w)) (sym (all_listed x.args.items) ∙ ap (λ a. exs_of (exs_in a)) (sym same)) ∙ (sym is ∙ e))

-- what has no value, or a map among its values
pub none_made : (values : List Scalar) (t : Term) (l : Listed) → worths t.args (seen_at (scalars_in values)) ≡ l → have_none l ≡ true → have_none (worths t.args (seen_at (scalars_in values))) ≡ true
none_made values t l e h = ap have_none e ∙ h

pub one_made : (values : List Scalar) (fs : List Fun) (x : kept.Term) (c : Class) (args : Option (Vec Scalar Global)) (value : Option Scalar) (vs : List Val) → worths (term_of fs x).args (seen_at (scalars_in values)) ≡ Are vs → MatchOption args (has_table vs ≡ true) (λ ss. scalars_in ss.items ≡ vs) → IsOne values (term_of fs x) c value (one_with c args value)
one_made values fs x c None value vs h k = inl (none_made values (term_of fs x) (Are vs) h k)
one_made values fs x c (Some args) None vs h k = inr refl
one_made values fs x c (Some args) (Some v) vs h k = (refl, (h ∙ ap Are (sym k), refl))

-- scalars as values, and values as scalars

same_or : (ss : List Scalar) (i : ℕ) (d e : Scalar) → i < length ss → get_or ss i d ≡ get_or ss i e
same_or [] i d e lt = absurd (omega (arith, lt))
same_or (s ∷ ss) zero d e lt = refl
same_or (s ∷ ss) (suc i) d e lt = same_or ss i d e (omega (arith, lt))

pub plain_more : (ss : List Scalar) (i : ℕ) (d : Scalar) (made now : List Value) → i < length ss → now ≡ made ++ value.Plain (get_or ss i d) ∷ [] → vals_in made ≡ scalars_in (take i ss) → vals_in now ≡ scalars_in (take (i + 1) ss)
plain_more ss i d made now lt push so =
    read_last value_of now made (value.Plain (get_or ss i d)) push
    ∙ (ap (λ l. l ++ val_of (get_or ss i d) ∷ []) so
    ∙ sym (read_more val_of ss i (get_or ss i d) lt (same_or ss i d (get_or ss i d) lt)))

pub scalar_more : (vs : List Value) (i : ℕ) (v : Value) (s : Scalar) (made now : List Scalar) → i < length vs → v ≡ get_or vs i v → val_of s ≡ value_of v → now ≡ made ++ s ∷ [] → scalars_in made ≡ vals_in (take i vs) → scalars_in now ≡ vals_in (take (i + 1) vs)
scalar_more vs i v s made now lt is same push so =
    read_last val_of now made s push
    ∙ (ap (λ l. l ++ val_of s ∷ []) so
    ∙ (ap (λ x. vals_in (take i vs) ++ x ∷ []) same ∙ sym (read_more value_of vs i v lt is)))

pub table_there : (vs : List Value) (i : ℕ) (v : Value) → i < length vs → v ≡ get_or vs i v → is_table (value_of v) ≡ true → has_table (vals_in vs) ≡ true
table_there [] i v lt is h = absurd (omega (arith, lt))
table_there (u ∷ vs) zero v lt is h =
    or_true_left (is_table (value_of u)) (has_table (vals_in vs)) (ap (λ x. is_table (value_of x)) (sym is) ∙ h)
table_there (u ∷ vs) (suc i) v lt is h =
    or_true_right (is_table (value_of u)) (has_table (vals_in vs)) (table_there vs i v (omega (arith, lt)) is h)

-- ---- places of types of maps

-- the term at a place has its head
pub has_head : (fs : List Fun) (terms : List kept.Term) (i place : ℕ) (x : kept.Term) → i < length terms → x ≡ get_or terms i x → place ≡ i → HasHead (terms_in fs terms) place (head_of x.head)
has_head fs terms i place x lt is at =
    record {
      term = term_of fs x;
      is_there = ap (slice_get (terms_in fs terms)) at ∙ map_there (term_of fs) terms i x lt is;
      head = refl;
    }

pub mapped_length : {A B : Type 0} (f : A → B) (xs : List A) → length (map f xs) ≡ length xs
mapped_length f [] = refl
mapped_length f (x ∷ xs) = let e = mapped_length f xs in omega (arith, e)

-- as many rows as there are, as the code has them
pub rows_length : (rows : List Row) (i : ℕ) → length rows ≤ i → length (rows_of rows) ≤ i
rows_length rows i h = let e = mapped_length row_of rows in omega (arith, e, h)

pub all_met : (fs : List Fun) (terms : List kept.Term) (i : ℕ) (met : List ℕ) → length terms ≤ i → AreMet (terms_in fs terms) i met → AreMet (terms_in fs terms) (length (terms_in fs terms)) met
all_met fs terms i met end so ks t =
    so ks t
    ∙ before_beyond ks t i 0 (terms_in fs terms) (let e = mapped_length (term_of fs) terms in omega (arith, e, end))

-- ---- past the end

pub none_beyond : (values : List Scalar) (n i : ℕ) → length values ≤ n → None ≡ slice_get (drop n values) i
none_beyond values n i h = ap (λ l. slice_get l i) (sym (drop_all n values h))
