-- The tables are what is read off.
use Rattle.std.proofs.Common.{◌≡◌, ℕ, zero, suc, ◌+◌, Bool, true, false, List, [], ◌∷◌, ◌++◌, length, map, Option, Some, None, refl, sym, ap, ◌∙◌, subst, arith}
use Rattle.std.specs.Prelude.{slice_get, not, ◌||◌, if◌then◌else◌, unwrap_or, pos}
use Rattle.bg_ast.specs.Values as v
use Rattle.bg_ast.specs.Values.{Val, Num, Ty, is_of, truth_of, val_eq}
use Rattle.bg_ast.specs.Syntax.{Ex, Number, Fact, Constant, Read, Local, Global, Not, Negative, Binary, And, Or, Implies, Iff, Equal, Unequal, Less, AtMost, Greater, AtLeast, Plus, Minus, Times, Apply, Select, Update, Old, Fun, Op}
use Rattle.bg_sense.specs.Eval.{value_at, ev, evs, look_up, entry_for, body_of, default_for, default_result}
use Rattle.bg_sense.specs.Types.{are_of}
use Rattle.bg_sense.specs.Typing.{OpHasType}
use Rattle.bg_sense.specs.Tables.{has_body, is_blank, is_table, is_table_of, are_entries, are_tables}
use Rattle.bg_sense.proofs.Bools.{both}
use Rattle.bg_sense.proofs.MapLaws.{val_same}
use Rattle.bg_sense.proofs.TypedRuns.{default_typed}
use Rattle.bg_kinds.specs.Views.{ref_in}
use Rattle.bg_kinds.specs.declared.kinds.ValueType.{ValueType}
use Rattle.bg_terms.specs.Terms.{Applies, Term, over, head_eq}
use Rattle.bg_terms.specs.Alike.{HasFlatType, StandFor, is_scalar}
use Rattle.bg_terms.specs.Instances.{term, equal, all_equal, congruent}
use Rattle.bg_terms.specs.Built.{built}
use Rattle.bg_terms.specs.Tables.{entries_of}
use Rattle.bg_terms.specs.Typed.{HaveFlatTypes, types_with}
use Rattle.bg_terms.proofs.Built.{built_typed}
use Rattle.bg_terms.proofs.Heads.{head_same, head_refl}
use Rattle.bg_terms.proofs.Same.{says_same}
use Rattle.bg_terms.proofs.True.{equal_back}
use Rattle.bg_read_off.specs.Leaves.{AreBuilt, AreCongruent}
use Rattle.bg_read_off.specs.Built.{each_built, built_all}
use Rattle.bg_read_off.proofs.Entries.{EachTyped, entries_typed, no_entries}
use Rattle.bg_term_table.specs.declared.table.Term as kept
use Rattle.bg_term_table.specs.Locals.{local_in}
use Rattle.bg_term_table.specs.Views.{listed, meanings, head_of, term_of, terms_in, result_ty}
use Rattle.bg_scalar.specs.declared.scalar.Scalar.{Scalar}
use Rattle.bg_scalar.specs.declared.table.Table.{Table}
use Rattle.bg_scalar.specs.Values.{value_of}
use Rattle.bg_scalar.specs.Views as views
use Rattle.bg_wanted.specs.declared.row.Row.{Row}
use Rattle.bg_wanted.specs.Scalars.{scalars_in}
use Rattle.bg_wanted.specs.Rows.{row_of, rows_of}
use Rattle.bg_wanted.specs.Answers.{IsDone}
use Rattle.bg_wanted.proofs.Lacking.{args_types}
use Rattle.bg_wanted.proofs.Leaves.{as_long}
use Rattle.bg_wanted.proofs.Settlement.{of_term}
use Rattle.bg_finish.specs.Finished.{IsScalarLeaf, AreReadOff, AreFinal}
use Rattle.bg_finish.specs.Filled as f
use Rattle.bg_finish.specs.Filled.{TableOf, held_in, all_held, blank_for, blanks, filled, rows_for, read_or, args_in, scalars_at, entries_from, AreTables}
use Rattle.bg_finish.proofs.Entered.{entry_of, entries_are}
use Rattle.bg_finish.proofs.Filling.{fill, filled_at, filled_none, fill_tells, AreAgreed, EachFits, fill_keeps}

-- ---- lists

map_some : {A B : Type 0} (h : A → B) (xs : List A) (f : ℕ) (x : A) → slice_get xs f ≡ Some x → slice_get (map h xs) f ≡ Some (h x)
map_some h [] f x e = absurd (let bad : ⊥ = cc in bad)
map_some h (y ∷ xs) zero x e = let same : y ≡ x = cc in ap (λ z. Some (h z)) same
map_some h (y ∷ xs) (suc f) x e = map_some h xs f x e

map_none : {A B : Type 0} (h : A → B) (xs : List A) (f : ℕ) → slice_get xs f ≡ None → slice_get (map h xs) f ≡ None
map_none h [] f e = refl
map_none h (y ∷ xs) zero e = absurd (let bad : ⊥ = cc in bad)
map_none h (y ∷ xs) (suc f) e = map_none h xs f e

pub map_back : {A B : Type 0} (h : A → B) (xs : List A) (f : ℕ) (y : B) → slice_get (map h xs) f ≡ Some y → (x : A) × ((slice_get xs f ≡ Some x) × (h x ≡ y))
map_back h [] f y e = absurd (let bad : ⊥ = cc in bad)
map_back h (x ∷ xs) zero y e = let same : h x ≡ y = cc in (x, (refl, same))
map_back h (x ∷ xs) (suc f) y e = map_back h xs f y e

-- one by one
tables_are : (fs : List Fun) (ts : List v.Table) → ((f : ℕ) → slice_get fs f ≡ None → slice_get ts f ≡ None) → ((f : ℕ) (g : Fun) → slice_get fs f ≡ Some g → (t : v.Table) × ((slice_get ts f ≡ Some t) × (is_table_of g t ≡ true))) → are_tables fs ts ≡ true
tables_are [] [] none some = refl
tables_are [] (t ∷ ts) none some = absurd (let q : Some t ≡ None = none 0 refl in let bad : ⊥ = cc in bad)
tables_are (g ∷ fs) [] none some = absurd (let w = some 0 g refl in let q : None ≡ Some w.0 = w.1.0 in let bad : ⊥ = cc in bad)
tables_are (g ∷ fs) (t ∷ ts) none some =
    both (is_table_of g t) (are_tables fs ts) (first (some 0 g refl)) (tables_are fs ts (λ f. none (suc f)) (λ f. some (suc f)))
  where
    first : (u : v.Table) × ((Some t ≡ Some u) × (is_table_of g u ≡ true)) → is_table_of g t ≡ true
    first (u, (e, h)) = let same : t ≡ u = cc in subst (λ z. is_table_of g z ≡ true) (sym same) h

bodiless : (f : Fun) (t : v.Table) → f.body ≡ None → is_table f t ≡ true → is_table_of f t ≡ true
bodiless f t e h =
    both (is_table f t) (not (has_body f.body) || is_blank f t) h (ap (λ b. not (has_body b) || is_blank f t) e)

each_fits : (g : Fun) (es : List (List Val × Val)) → EachTyped g es → EachFits g es
each_fits g [] h = tt
each_fits g (e ∷ es) h = ((h.0.0, h.0.1), each_fits g es h.1)

-- as values of the program
abbrev table_of : TableOf → v.Table
table_of t = record { entries = map entry_of t.entries; default = t.default }

entries_alike : (es : List _) → map entry_of (map f.entry_in es) ≡ map views.entry_in es
entries_alike [] = refl
entries_alike (e ∷ es) = ap (λ (l : List (List Val × Val)). views.entry_in e ∷ l) (entries_alike es)

table_alike : (t : Table) → table_of (held_in t) ≡ views.table_in t
table_alike t =
    ap (λ (es : List (List Val × Val)). (let u : v.Table = record { entries = es; default = value_of t.default } in u)) (entries_alike t.entries.entries)

tables_alike : (ts : List Table) → map table_of (all_held ts) ≡ views.tables_in ts
tables_alike [] = refl
tables_alike (t ∷ ts) =
    ap (λ (u : v.Table). u ∷ map table_of (all_held ts)) (table_alike t)
    ∙ ap (λ (l : List v.Table). views.table_in t ∷ l) (tables_alike ts)

-- an entry in front, if there is one
split : (c : Bool) (k : List Val) (v : Val) (l : List (List Val × Val)) → (if c then (k, v) ∷ l else l) ≡ (if c then (k, v) ∷ [] else []) ++ l
split true k v l = refl
split false k v l = refl

-- ---- values behind scalars

module _ (h : Ty → Val → Val) where
  each_is : (tys : List Ty) (s w : List Val) → length s ≡ length tys → length w ≡ length tys → ((j : ℕ) (t : Ty) → slice_get tys j ≡ Some t → slice_get w j ≡ Some (h t (value_at s j))) → w ≡ each_built h tys s
  each_is [] s [] e g each = refl
  each_is [] s (x ∷ w) e g each = absurd (let bad : ⊥ = cc in bad)
  each_is (t ∷ tys) [] w e g each = absurd (let bad : ⊥ = cc in bad)
  each_is (t ∷ tys) (y ∷ s) [] e g each = absurd (let bad : ⊥ = cc in bad)
  each_is (t ∷ tys) (y ∷ s) (x ∷ w) e g each =
      let first : Some x ≡ Some (h t y) = each 0 t refl in
      let same : x ≡ h t y = cc in
      ap (λ z. z ∷ w) same
      ∙ ap (λ l. h t y ∷ l) (each_is tys s w (omega (arith, e)) (omega (arith, g)) (λ j u q. each (suc j) u q))

  each_typed : (tys : List Ty) (s : List Val) → length s ≡ length tys → ((t : Ty) (x : Val) → is_of t (h t x) ≡ true) → are_of tys (each_built h tys s) ≡ true
  each_typed [] s e typed = refl
  each_typed (t ∷ tys) [] e typed = absurd (let bad : ⊥ = cc in bad)
  each_typed (t ∷ tys) (y ∷ s) e typed =
      both (is_of t (h t y)) (are_of tys (each_built h tys s)) (typed t y) (each_typed tys s (omega (arith, e)) typed)

-- ---- arguments

pub op_scalar : (o : Op) (A B : Ty → Type 0) (t : Ty) → OpHasType o A B t → is_scalar t ≡ true
op_scalar And A B t h = ap is_scalar h.0
op_scalar Or A B t h = ap is_scalar h.0
op_scalar Implies A B t h = ap is_scalar h.0
op_scalar Iff A B t h = ap is_scalar h.0
op_scalar Equal A B t h = ap is_scalar h.0
op_scalar Unequal A B t h = ap is_scalar h.0
op_scalar Less A B t h = ap is_scalar h.0
op_scalar AtMost A B t h = ap is_scalar h.0
op_scalar Greater A B t h = ap is_scalar h.0
op_scalar AtLeast A B t h = ap is_scalar h.0
op_scalar Plus A B t h = ap is_scalar h.0
op_scalar Minus A B t h = ap is_scalar h.0
op_scalar Times A B t h = ap is_scalar h.0

module _ (tys : List Ty) (w s : List Val) (stand : StandFor tys w s) where
  by_scalar : (x : Ex) (t : Ty) (z : Val) → HasFlatType tys x t → is_scalar t ≡ true → ev x (over s) ≡ z → ev x (over w) ≡ z
  by_scalar x t z h k e = sym (says_same tys w s stand x t h k) ∙ e

  arg_value : (x : Ex) (t : Ty) (z : Val) → HasFlatType tys x t → ev x (over s) ≡ z → ev x (over w) ≡ read_or (local_in x) w z
  arg_value (Number n) t z h e = by_scalar (Number n) t z h (ap is_scalar h) e
  arg_value (Fact b) t z h e = by_scalar (Fact b) t z h (ap is_scalar h) e
  arg_value (Constant k) t z h e = absurd h
  arg_value (Read (Local j)) t z h e = refl
  arg_value (Read (Global j)) t z h e = absurd h
  arg_value (Not x) t z h e = by_scalar (Not x) t z h (ap is_scalar h.0) e
  arg_value (Negative x) t z h e = by_scalar (Negative x) t z h (ap is_scalar h.0) e
  arg_value (Binary o a b) t z h e =
      by_scalar (Binary o a b) t z h (op_scalar o (HasFlatType tys a) (HasFlatType tys b) t h) e
  arg_value (Apply k es) t z h e = absurd h
  arg_value (Select m es) t z h e = absurd h
  arg_value (Update m es x) t z h e = absurd h
  arg_value (Old x) t z h e = absurd h

  args_values : (xs : List Ex) (ps : List Ty) (zs : List Val) → HaveFlatTypes tys (listed xs) ps → evs (listed xs) (over s) ≡ zs → evs (listed xs) (over w) ≡ args_in w xs zs
  args_values [] ps zs h e = refl
  args_values (x ∷ xs) [] zs h e = absurd h
  args_values (x ∷ xs) (p ∷ ps) [] h e = absurd (let bad : ⊥ = cc in bad)
  args_values (x ∷ xs) (p ∷ ps) (z ∷ zs) h e =
      let first : ev x (over s) ≡ z = cc in
      let rest : evs (listed xs) (over s) ≡ zs = cc in
      ap (λ y. y ∷ evs (listed xs) (over w)) (arg_value x p z h.0 first)
      ∙ ap (λ l. read_or (local_in x) w z ∷ l) (args_values xs ps zs h.1 rest)

-- ---- entries of terms agree

implied : (a b : Bool) → a ≡ true → (not a || b) ≡ true → b ≡ true
implied true b e h = h
implied false b e h = absurd (let bad : ⊥ = cc in bad)

module _ (w : List Val) (n : ℕ) (ts : List Term) (con : AreCongruent w n ts) where
  functions : (a b : ℕ) (t u : Term) → slice_get ts a ≡ Some t → slice_get ts b ≡ Some u → t.head ≡ u.head → evs t.args (over w) ≡ evs u.args (over w) → value_at w (n + a) ≡ value_at w (n + b)
  functions a b t u e g h args =
      val_same (value_at w (n + a)) (value_at w (n + b)) (on (head_eq t.head u.head) (head_refl t.head u.head h) (sym (ap (λ o. truth_of (ev (congruent n a b o (slice_get ts b)) (over w))) e ∙ ap (λ o. truth_of (ev (congruent n a b (Some t) o) (over w))) g) ∙ con a b))
    where
      on : (c : Bool) → c ≡ true → truth_of (ev (if c then Binary Implies (all_equal t.args u.args) (equal (term n a) (term n b)) else Fact true) (over w)) ≡ true → val_eq (value_at w (n + a)) (value_at w (n + b)) ≡ true
      on true q r = implied (truth_of (ev (all_equal t.args u.args) (over w))) (val_eq (value_at w (n + a)) (value_at w (n + b))) (equal_back w t.args u.args args) r
      on false q r = absurd (let bad : ⊥ = cc in bad)

  -- a term that an entry of a function is of
  record Entry (k : ℕ) (e : List Val × Val) : Type 0 where
    number : ℕ
    its : Term
    there : slice_get ts number ≡ Some its
    head : its.head ≡ Applies k
    args : e.0 ≡ evs its.args (over w)
    value : e.1 ≡ value_at w (n + number)

  its_entry : (k m b : ℕ) (us : List Term) (i : ℕ) (e : List Val × Val) → m ≡ n + b → ((j : ℕ) (u : Term) → slice_get us j ≡ Some u → slice_get ts (b + j) ≡ Some u) → slice_get (entries_of (Applies k) w m us) i ≡ Some e → Entry k e
  its_entry k m b [] i e at rest h = absurd (let bad : ⊥ = cc in bad)
  its_entry k m b (u ∷ us) i e at rest h =
      on (head_eq u.head (Applies k)) refl i h (λ j g. its_entry k (suc m) (suc b) us j e (omega (arith, at)) later g)
    where
      later : (j : ℕ) (x : Term) → slice_get us j ≡ Some x → slice_get ts (suc b + j) ≡ Some x
      later j x q = ap (slice_get ts) (let p : suc b + j ≡ b + suc j = omega arith in p) ∙ rest (suc j) x q

      on : (c : Bool) → head_eq u.head (Applies k) ≡ c → (j : ℕ) → slice_get (if c then (evs u.args (over w), value_at w m) ∷ entries_of (Applies k) w (suc m) us else entries_of (Applies k) w (suc m) us) j ≡ Some e → ((l : ℕ) → slice_get (entries_of (Applies k) w (suc m) us) l ≡ Some e → Entry k e) → Entry k e
      on false q j g behind = behind j g
      on true q (suc j) g behind = behind j g
      on true q zero g behind =
          let same : (evs u.args (over w), value_at w m) ≡ e = cc in
          record {
            number = b;
            its = u;
            there = ap (slice_get ts) (let p : b ≡ b + 0 = omega arith in p) ∙ rest 0 u refl;
            head = head_same u.head (Applies k) q;
            args = sym (ap (λ (x : List Val × Val). x.0) same);
            value = sym (ap (λ (x : List Val × Val). x.1) same) ∙ ap (value_at w) at;
          }

  agreed : (k : ℕ) → AreAgreed (entries_of (Applies k) w n ts)
  agreed k i j e g p q same =
      let all : (l : ℕ) (u : Term) → slice_get ts l ≡ Some u → slice_get ts (0 + l) ≡ Some u = λ l u r. ap (slice_get ts) (let z : 0 + l ≡ l = omega arith in z) ∙ r in
      let start : n ≡ n + 0 = omega arith in
      let x = its_entry k n 0 ts i e start all p in
      let y = its_entry k n 0 ts j g start all q in
      x.value
      ∙ (functions x.number y.number x.its y.its x.there y.there (x.head ∙ sym y.head) (sym x.args ∙ (same ∙ y.args)) ∙ sym y.value)

-- ---- a finished leaf

module _ (fs : List Fun) (incs : List Ty) (terms : List kept.Term) (scalars : List Scalar) (w : List Val) (rows : List Row) (leaf : IsScalarLeaf fs incs (terms_in fs terms) (scalars_in scalars)) (done : IsDone incs (terms_in fs terms) scalars (rows_of rows) w) where
  abbrev ts : List Term
  ts = terms_in fs terms

  abbrev s : List Val
  s = scalars_in scalars

  abbrev n : ℕ
  n = length incs

  abbrev tys : List Ty
  tys = types_with incs ts

  mapped : (xs : List Scalar) → length (scalars_in xs) ≡ length xs
  mapped [] = refl
  mapped (x ∷ xs) = let e = mapped xs in omega (arith, e)

  long : length s ≡ length tys
  long = mapped scalars ∙ as_long tys scalars leaf.scalars

  pub built_so : w ≡ built_all n ts tys s
  built_so = each_is (built s n ts) tys s w long done.behind.count done.behind.each

  pub are_built : AreBuilt (length incs) (terms_in fs terms) (types_with incs (terms_in fs terms)) (scalars_in scalars) w
  are_built j t e = ap (λ o. unwrap_or o (Num (pos 0))) (done.behind.each j t e)

  typed : are_of tys w ≡ true
  typed = ap (are_of tys) built_so ∙ each_typed (built s n ts) tys s long (λ t x. built_typed s n ts t x)

  module _ (stand : StandFor (types_with incs (terms_in fs terms)) w (scalars_in scalars)) (con : AreCongruent w (length incs) (terms_in fs terms)) (results : List ValueType) (made : List Table) (gives : map ref_in results ≡ map result_ty fs) (tables : AreTables w terms rows (length incs) (map ref_in results) made) where
    -- the scalars of a term's row are its arguments'
    args_at : (i : ℕ) (t : kept.Term) → slice_get terms i ≡ Some t → evs (term_of fs t).args (over w) ≡ args_in w (meanings t.args.items) (scalars_at (slice_get rows i))
    args_at i t e =
        let there = map_some (term_of fs) terms i t e in
        let its = of_term scalars n ts (rows_of rows) done.rows i (term_of fs t) there in
        let row = map_back row_of rows i its.0 its.1.there in
        let p = args_types fs tys (term_of fs t).head (term_of fs t).args (term_of fs t).ty (leaf.terms.typed i (term_of fs t) there) in
        args_values tys w s stand (meanings t.args.items) p.0 (scalars_in its.0.args) p.1 its.1.args
        ∙ (ap (λ r. args_in w (meanings t.args.items) (scalars_in r.args)) (sym row.1.1)
        ∙ sym (ap (λ o. args_in w (meanings t.args.items) (scalars_at o)) row.1.0))

    entries_same : (k m i : ℕ) (us : List kept.Term) → m ≡ n + i → ((j : ℕ) (t : kept.Term) → slice_get us j ≡ Some t → slice_get terms (i + j) ≡ Some t) → entries_of (Applies k) w m (map (term_of fs) us) ≡ entries_from k w rows n i us
    entries_same k m i [] at rest = refl
    entries_same k m i (t ∷ us) at rest =
        let next = entries_from k w rows n (suc i) us in
        let c = head_eq (head_of t.head) (Applies k) in
        let key = args_in w (meanings t.args.items) (scalars_at (slice_get rows i)) in
        ap (λ l. if head_eq (head_of t.head) (Applies k) then (evs (term_of fs t).args (over w), value_at w m) ∷ l else l) (entries_same k (suc m) (suc i) us (omega (arith, at)) later)
        ∙ (ap (λ a. if c then (a, value_at w m) ∷ next else next) (args_at i t here)
        ∙ (ap (λ j. if c then (key, value_at w j) ∷ next else next) at ∙ split c key (value_at w (n + i)) next))
      where
        here : slice_get terms i ≡ Some t
        here = ap (slice_get terms) (let p : i ≡ i + 0 = omega arith in p) ∙ rest 0 t refl

        later : (j : ℕ) (u : kept.Term) → slice_get us j ≡ Some u → slice_get terms (suc i + j) ≡ Some u
        later j u q = ap (slice_get terms) (let p : suc i + j ≡ i + suc j = omega arith in p) ∙ rest (suc j) u q

    rows_are : (k : ℕ) → rows_for k tables.applied ≡ entries_of (Applies k) w n ts
    rows_are k =
        tables.say k
        ∙ sym (entries_same k n 0 terms (let p : n ≡ n + 0 = omega arith in p) (λ j t e. ap (slice_get terms) (let p : 0 + j ≡ j = omega arith in p) ∙ e))

    whole : (b : ℕ) (t : Term) → slice_get ts b ≡ Some t → slice_get ts (0 + b) ≡ Some t
    whole b t e = ap (slice_get ts) (let q : 0 + b ≡ b = omega arith in q) ∙ e

    abbrev table_for : ℕ → Ty → TableOf
    table_for k t = fill k tables.applied (blank_for t)

    fits : (k : ℕ) (g : Fun) → slice_get fs k ≡ Some g → EachFits g (rows_for k tables.applied)
    fits k g e =
        subst (EachFits g) (sym (rows_are k)) (each_fits g (entries_of (Applies k) w n ts) (entries_typed fs incs ts leaf.terms.typed w typed k g e n 0 ts (omega arith) whole))

    tells : (k : ℕ) (t : Ty) (args : List Val) → look_up (Some (table_of (table_for k t))) args ≡ entry_for (entries_of (Applies k) w n ts) args (default_for t)
    tells k t args =
        let x = fill_tells k (default_for t) [] tables.applied (blank_for t) (subst AreAgreed (sym (rows_are k)) (agreed w n ts con k)) (refl, λ q. refl) in
        ap (λ e. entry_for (map entry_of (table_for k t).entries) args e) x.0
        ∙ (x.1 args ∙ ap (λ es. entry_for es args (default_for t)) (rows_are k))

    normal : (k : ℕ) (g : Fun) → slice_get fs k ≡ Some g → is_table_of g (table_of (table_for k g.result)) ≡ true
    normal k g e =
        let t = table_for k g.result in
        let keeps = fill_keeps k g (default_for g.result) tables.applied (blank_for g.result) (fits k g e) (refl, (tt, tt)) in
        let body : g.body ≡ None = sym (ap body_of e) ∙ leaf.bodiless k in
        bodiless g (table_of t) body
        (both (is_of g.result t.default) (are_entries g t.default (map entry_of t.entries))
        (ap (is_of g.result) keeps.0 ∙ default_typed g.result)
        (ap (λ c. are_entries g c (map entry_of t.entries)) keeps.0 ∙ entries_are g (default_for g.result) t.entries keeps.1.0 keeps.1.1))

    abbrev all : List v.Table
    all = map table_of (filled tables.applied (blanks (map ref_in results)))

    type_at : (k : ℕ) (g : Fun) → slice_get fs k ≡ Some g → slice_get (map ref_in results) k ≡ Some g.result
    type_at k g e = ap (λ l. slice_get l k) gives ∙ map_some result_ty fs k g e

    there : (k : ℕ) (g : Fun) → slice_get fs k ≡ Some g → slice_get all k ≡ Some (table_of (table_for k g.result))
    there k g e =
        map_some table_of (filled tables.applied (blanks (map ref_in results))) k (table_for k g.result) (filled_at k tables.applied (blanks (map ref_in results)) (blank_for g.result) (map_some blank_for (map ref_in results) k g.result (type_at k g e)))

    missing : (k : ℕ) → slice_get fs k ≡ None → slice_get all k ≡ None
    missing k e =
        map_none table_of (filled tables.applied (blanks (map ref_in results))) k (filled_none k tables.applied (blanks (map ref_in results)) (map_none blank_for (map ref_in results) k (ap (λ l. slice_get l k) gives ∙ map_none result_ty fs k e)))

    reads : (k : ℕ) (args : List Val) → look_up (slice_get all k) args ≡ entry_for (entries_of (Applies k) w n ts) args (default_result (slice_get fs k))
    reads k args = on (slice_get fs k) refl
      where
        on : (o : Option Fun) → slice_get fs k ≡ o → look_up (slice_get all k) args ≡ entry_for (entries_of (Applies k) w n ts) args (default_result o)
        on None e =
            ap (λ t. look_up t args) (missing k e)
            ∙ sym (ap (λ es. entry_for es args (default_result None)) (no_entries fs incs ts leaf.terms.typed w k e n 0 ts whole))
        on (Some g) e = ap (λ t. look_up t args) (there k g e) ∙ tells k g.result args

    made_are : views.tables_in made ≡ all
    made_are = sym (tables_alike made) ∙ ap (map table_of) tables.filled_by

    are_read_off : AreReadOff fs n ts w all
    are_read_off =
        record {
          congruent = con;
          normal = tables_are fs all missing (λ k g e. (table_of (table_for k g.result), (there k g e, normal k g e)));
          read_off = λ i same. record { tables = λ k args. ap (λ l. look_up (slice_get l k) args) same ∙ reads k args };
        }

    pub are_final : AreFinal fs incs (terms_in fs terms) (scalars_in scalars) w (views.tables_in made)
    are_final =
        record {
          finished = done.finished;
          built = built_so;
          read_off = subst (AreReadOff fs n ts w) (sym made_are) are_read_off;
        }
