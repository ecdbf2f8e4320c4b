-- What runs ask of an opened program follows from its types and from its test.
use Rattle.std.proofs.Common.{◌≡◌, ◌<◌, ◌≤◌, ℕ, zero, suc, ◌+◌, arith, Bool, true, false, List, [], ◌∷◌, ◌++◌, length, map, Option, Some, None, refl, sym, ap, ◌∙◌, subst, inl, inr, ⊎_elim}
use Rattle.std.specs.Prelude.{◌&&◌, ◌||◌, if◌then◌else◌, ◌==◌, slice_get, option_map, filter, pos, unwrap_or, All}
use Rattle.std.specs.List.{list_all}
use Rattle.std.proofs.lemmas.Bool.{eqb-true}
use Rattle.bg_ast.specs.Values.{Val, Num, Ty, BoolTy}
use Rattle.bg_ast.specs.Syntax.{Var, Global, Local, Ex, Exs, Number, Fact, Constant, Read, Not, Negative, Binary, Apply, Select, Update, Old, NoMore, More, Clause, Guard, Star, Test, St, Skip, Then, Label, Assert, Assume, Havoc, Assign, Invoke, If, While, Break, Goto, Return, Decl, Fun, Proc, Prog}
use Rattle.bg_ast.specs.Execution.{Interp}
use Rattle.bg_sense.specs.Eval.{ev, functions_of}
use Rattle.bg_sense.specs.Types.{types_of}
use Rattle.bg_sense.specs.Variables.{is_among, count_from, globals_of, modified, modified_by, may_change, procedure_of, variables_in, decl_in, wheres_in}
use Rattle.bg_sense.specs.Typing.{HasType, HaveTypes, sig_in}
use Rattle.bg_sense.specs.Typed.{IsFormula, IsGuard, MayChange, IsTypedStatement, IsTyped}
use Rattle.bg_sense.specs.Recursion.{HasNoRecursion}
use Rattle.bg_sense.specs.Resolved.{IsResolved}
use Rattle.bg_sense.proofs.Bools.{and_left, and_right, both, bool_cases}
use Rattle.bg_sense.proofs.Members.{In, member}
use Rattle.bg_sense.proofs.Modified.{as_listed}
use Rattle.bg_fits.specs.Valued.{is_value_type, exs_pass, clause_passes, guard_passes, st_passes, decl_passes, decls_pass, is_declared}
use Rattle.bg_opened.proofs.Plain.{is_plain}
use Rattle.bg_opened.proofs.Tables.{Agree, same_functions}
use Rattle.bg_opened.specs.Exprs.{opened, all_opened}
use Rattle.bg_opened.specs.Programs.{global_for, opened_clause, opened_guard, opened_st, opened_decl, opened_proc, bodies_of, opened_program}
use Rattle.bg_opened.proofs.Places.{at_mapped}
use Rattle.bg_opened.proofs.Worths.{ReadsBelow, EachReadsBelow, typed_reads, behind_at, front_at, opens_to, opened_worth, plain_worth}
use Rattle.bg_opened.proofs.Runs.{Each, Fair, FairAll, FairVar, FairClause, FairGuard, FairDecl, FairSt}
use Rattle.bg_opened.proofs.Resolves.{map_append, map_length, append_length, each_all, resolved}

-- ---- lists

pub types_length : (ds : List Decl) → length (types_of ds) ≡ length ds
types_length [] = refl
types_length (d ∷ ds) = ap suc (types_length ds)

pub each_weaker : {A : Type 0} (P Q : A → Type 0) (xs : List A) → ((x : A) → Q x → P x) → Each Q xs → Each P xs
each_weaker P Q [] h k = tt
each_weaker P Q (x ∷ xs) h k = (h x k.0, each_weaker P Q xs h k.1)

each_at : {A : Type 0} (P : A → Type 0) (xs : List A) (k : ℕ) (x : A) → Each P xs → slice_get xs k ≡ Some x → P x
each_at P [] k x h e = absurd (let bad : ⊥ = cc in bad)
each_at P (y ∷ xs) zero x h e = let same : y ≡ x = cc in subst P same h.0
each_at P (y ∷ xs) (suc k) x h e = each_at P xs k x h.1 e

each_in : {A : Type 0} (P : A → Type 0) (xs : List A) (x : A) → Each P xs → In xs x → P x
each_in P [] x h i = absurd i
each_in P (y ∷ xs) x h (inl e) = subst P e h.0
each_in P (y ∷ xs) x h (inr i) = each_in P xs x h.1 i

pub each_append : {A : Type 0} (P : A → Type 0) (xs ys : List A) → Each P xs → Each P ys → Each P (xs ++ ys)
each_append P [] ys h k = k
each_append P (x ∷ xs) ys h k = (h.0, each_append P xs ys h.1 k)

each_filter : {A : Type 0} (P : A → Type 0) (f : A → Bool) (xs : List A) → Each P xs → Each P (filter f xs)
each_filter P f [] h = tt
each_filter P f (x ∷ xs) h = on (f x) (each_filter P f xs h.1)
  where
    on : (b : Bool) → Each P (filter f xs) → Each P (if b then x ∷ filter f xs else filter f xs)
    on true k = (h.0, k)
    on false k = k

pub list_all_left : {A : Type 0} (f : A → Bool) (xs ys : List A) → list_all f (xs ++ ys) ≡ true → list_all f xs ≡ true
list_all_left f [] ys h = refl
list_all_left f (x ∷ xs) ys h =
    both (f x) (list_all f xs) (and_left (f x) (list_all f (xs ++ ys)) h) (list_all_left f xs ys (and_right (f x) (list_all f (xs ++ ys)) h))

pub list_all_at : {A : Type 0} (f : A → Bool) (xs : List A) (k : ℕ) (x : A) → list_all f xs ≡ true → slice_get xs k ≡ Some x → f x ≡ true
list_all_at f [] k x h e = absurd (let bad : ⊥ = cc in bad)
list_all_at f (y ∷ xs) zero x h e =
    let same : y ≡ x = cc in subst (λ z. f z ≡ true) same (and_left (f y) (list_all f xs) h)
list_all_at f (y ∷ xs) (suc k) x h e = list_all_at f xs k x (and_right (f y) (list_all f xs) h) e

filter_append : {A : Type 0} (f : A → Bool) (xs ys : List A) → filter f (xs ++ ys) ≡ filter f xs ++ filter f ys
filter_append f [] ys = refl
filter_append f (x ∷ xs) ys = on (f x) (filter_append f xs ys)
  where
    on : (b : Bool) → filter f (xs ++ ys) ≡ filter f xs ++ filter f ys → (if b then x ∷ filter f (xs ++ ys) else filter f (xs ++ ys)) ≡ (if b then x ∷ filter f xs else filter f xs) ++ filter f ys
    on true e = ap (λ l. x ∷ l) e
    on false e = e

filter_alike : {A : Type 0} (f h : A → Bool) (xs : List A) → ((x : A) → f x ≡ h x) → filter f xs ≡ filter h xs
filter_alike f h [] same = refl
filter_alike f h (x ∷ xs) same =
    ap (λ b. if b then x ∷ filter f xs else filter f xs) (same x)
    ∙ ap (λ l. if h x then x ∷ l else l) (filter_alike f h xs same)

filter_none : {A : Type 0} (f : A → Bool) (xs : List A) → Each (λ x. f x ≡ false) xs → filter f xs ≡ []
filter_none f [] h = refl
filter_none f (x ∷ xs) h =
    ap (λ b. if b then x ∷ filter f xs else filter f xs) h.0 ∙ filter_none f xs h.1

count_split : (k n m : ℕ) → count_from k (n + m) ≡ count_from k n ++ count_from (k + n) m
count_split k zero m =
    let e : zero + m ≡ m = omega arith in
    let f : k + zero ≡ k = omega arith in
    ap (λ x. count_from k x) e ∙ sym (ap (λ x. count_from x m) f)
count_split k (suc n) m =
    let e : suc n + m ≡ suc (n + m) = omega arith in
    let f : suc k + n ≡ k + suc n = omega arith in
    ap (λ x. count_from k x) e ∙ ap (λ l. k ∷ l) (count_split (suc k) n m ∙ ap (λ x. count_from (suc k) n ++ count_from x m) f)

numbers_apart : (x y : ℕ) → x < y → (x == y) ≡ false
numbers_apart x y l =
    ⊎_elim (λ t. let same : x ≡ y = eqb-true x y t in absurd (omega arith)) (λ f. f) (bool_cases (x == y))

or_false : (a b : Bool) → a ≡ false → b ≡ false → (a || b) ≡ false
or_false true b e f = e
or_false false b e f = f

-- ---- what reads no variable

mutual
  pub reads_more : (n : ℕ) (e : Ex) → ReadsBelow 0 e → ReadsBelow n e
  reads_more n (Number z) h = tt
  reads_more n (Fact b) h = tt
  reads_more n (Constant k) h = tt
  reads_more n (Read (Global x)) h = absurd (omega arith)
  reads_more n (Read (Local x)) h = tt
  reads_more n (Not e) h = reads_more n e h
  reads_more n (Negative e) h = reads_more n e h
  reads_more n (Binary op a b) h = (reads_more n a h.0, reads_more n b h.1)
  reads_more n (Apply f es) h = each_reads_more n es h
  reads_more n (Select m es) h = (reads_more n m h.0, each_reads_more n es h.1)
  reads_more n (Update m es e) h = (reads_more n m h.0, (each_reads_more n es h.1.0, reads_more n e h.1.1))
  reads_more n (Old e) h = reads_more n e h

  each_reads_more : (n : ℕ) (es : Exs) → EachReadsBelow 0 es → EachReadsBelow n es
  each_reads_more n NoMore h = tt
  each_reads_more n (More e es) h = (reads_more n e h.0, each_reads_more n es h.1)

module _ (depth : ℕ) (p : Prog) (cs : List Val) where
  abbrev g : ℕ
  g = length p.globals

  abbrev b : ℕ → Option Ex
  b = bodies_of depth p

  abbrev F : List Fun
  F = p.functions

  abbrev o : Prog
  o = opened_program depth p

  abbrev O : Ex → Ex
  O = opened g b

  module _ (ds : List Decl) where
    fair_one : (e : Ex) (t : Ty) → HasType e (sig_in p ds) t → is_plain F (O e) ≡ true → Fair g b F cs e
    fair_one e t h s = (subst (λ n. ReadsBelow n e) (types_length p.globals) (typed_reads e (sig_in p ds) t h), s)

    fair_exs : (es : Exs) (ts : List Ty) → HaveTypes es (sig_in p ds) ts → exs_pass (is_plain F) (all_opened g b es) ≡ true → FairAll g b F cs es
    fair_exs NoMore ts h s = tt
    fair_exs (More e es) [] h s = absurd h
    fair_exs (More e es) (t ∷ ts) h s = (
      fair_one e t h.0 (and_left (is_plain F (O e)) _ s),
      fair_exs es ts h.1 (and_right (is_plain F (O e)) (exs_pass (is_plain F) (all_opened g b es)) s),
    )

    pub fair_list : (es : List Ex) → Each (IsFormula (sig_in p ds)) es → list_all (is_plain F) (map O es) ≡ true → Each (Fair g b F cs) es
    fair_list [] h s = tt
    fair_list (e ∷ es) h s = (
      fair_one e BoolTy h.0.0 (and_left (is_plain F (O e)) (list_all (is_plain F) (map O es)) s),
      fair_list es h.1 (and_right (is_plain F (O e)) (list_all (is_plain F) (map O es)) s),
    )

    pub fair_clauses : (n : ℕ) (ks : List Clause) → Each (λ k. IsFormula (sig_in p ds) k.says) ks → list_all (clause_passes n (is_plain F)) (map (opened_clause g b) ks) ≡ true → Each (FairClause g b F cs) ks
    fair_clauses n [] h s = tt
    fair_clauses n (k ∷ ks) h s = (
      fair_one k.says BoolTy h.0.0 (and_right (is_declared n k.candidate) (is_plain F (O k.says)) (and_left (clause_passes n (is_plain F) (opened_clause g b k)) (list_all (clause_passes n (is_plain F)) (map (opened_clause g b) ks)) s)),
      fair_clauses n ks h.1 (and_right (clause_passes n (is_plain F) (opened_clause g b k)) (list_all (clause_passes n (is_plain F)) (map (opened_clause g b) ks)) s),
    )

    pub fair_decls : (es : List Decl) → Each (λ d. All (IsFormula (sig_in p ds)) d.wheres) es → decls_pass is_value_type (is_plain F) (map (opened_decl g b) es) ≡ true → Each (FairDecl g b F cs) es
    fair_decls [] h s = tt
    fair_decls (d ∷ es) h s = (
      fair_list d.wheres (each_all (IsFormula (sig_in p ds)) d.wheres h.0) (and_right (is_value_type d.ty) (list_all (is_plain F) (map O d.wheres)) (and_left (decl_passes is_value_type (is_plain F) (opened_decl g b d)) (decls_pass is_value_type (is_plain F) (map (opened_decl g b) es)) s)),
      fair_decls es h.1 (and_right (decl_passes is_value_type (is_plain F) (opened_decl g b d)) (decls_pass is_value_type (is_plain F) (map (opened_decl g b) es)) s),
    )

    fair_guard : (e : Guard) → IsGuard (sig_in p ds) e → guard_passes (is_plain F) (opened_guard g b e) ≡ true → FairGuard g b F cs e
    fair_guard Star h s = tt
    fair_guard (Test e) h s = fair_one e BoolTy h.0 s

  -- ---- variables

  fair_counted : (k n : ℕ) → k + n ≤ g → Each (FairVar g b F cs) (map Global (count_from k n))
  fair_counted k zero h = tt
  fair_counted k (suc n) h = ((let l : k < g = omega arith in l), fair_counted (suc k) n (omega arith))

  pub fair_modified : (q : Proc) → Each (FairVar g b F cs) (modified p q)
  fair_modified q =
      each_filter (FairVar g b F cs) (is_among (map Global q.modifies)) (globals_of p) (fair_counted 0 g (omega arith))

  fair_var : (q : Proc) (ds : List Decl) (x : Var) → MayChange (record { program = p; procedure = q; variables = ds }) x → FairVar g b F cs x
  fair_var q ds (Global x) h =
      each_in (FairVar g b F cs) (modified p q) (Global x) (fair_modified q) (member (modified p q) (Global x) h)
  fair_var q ds (Local x) h = tt

  pub fair_vars : (q : Proc) (ds : List Decl) (xs : List Var) → All (MayChange (record { program = p; procedure = q; variables = ds })) xs → Each (FairVar g b F cs) xs
  fair_vars q ds xs h =
      each_weaker (FairVar g b F cs) (MayChange (record { program = p; procedure = q; variables = ds })) xs (fair_var q ds) (each_all (MayChange (record { program = p; procedure = q; variables = ds })) xs h)

  -- ---- statements

  pub fair_st : (n : ℕ) (q : Proc) (ds : List Decl) (inside before : List ℕ) (s : St) → IsTypedStatement (record { program = p; procedure = q; variables = ds }) inside before s → st_passes n (is_plain F) (opened_st g b s) ≡ true → FairSt g b F cs s
  fair_st n q ds inside before Skip h s = tt
  fair_st n q ds inside before (Then x y) h s = (
    fair_st n q ds inside _ x h.0 (and_left (st_passes n (is_plain F) (opened_st g b x)) (st_passes n (is_plain F) (opened_st g b y)) s),
    fair_st n q ds inside before y h.1 (and_right (st_passes n (is_plain F) (opened_st g b x)) (st_passes n (is_plain F) (opened_st g b y)) s),
  )
  fair_st n q ds inside before (Label l) h s = tt
  fair_st n q ds inside before (Assert k) h s =
      fair_one ds k.says BoolTy h.1.0 (and_right (is_declared n k.candidate) (is_plain F (O k.says)) s)
  fair_st n q ds inside before (Assume e) h s = fair_one ds e BoolTy h.0 s
  fair_st n q ds inside before (Havoc xs) h s = fair_vars q ds xs h
  fair_st n q ds inside before (Assign xs es) h s = (fair_vars q ds xs h.1, fair_exs ds es _ h.2 s)
  fair_st n q ds inside before (Invoke k) h s =
      (fair_vars q ds k.takes h.1.1.1.1.1.1.0, fair_exs ds k.args _ h.1.1.0 s)
  fair_st n q ds inside before (If i e x y) h s = (
    fair_guard ds e h.0 (and_left (guard_passes (is_plain F) (opened_guard g b e)) _ s),
    (
      fair_st n q ds (i ∷ inside) before x h.1 (and_left (st_passes n (is_plain F) (opened_st g b x)) (st_passes n (is_plain F) (opened_st g b y)) (and_right (guard_passes (is_plain F) (opened_guard g b e)) _ s)),
      fair_st n q ds (i ∷ inside) before y h.2 (and_right (st_passes n (is_plain F) (opened_st g b x)) (st_passes n (is_plain F) (opened_st g b y)) (and_right (guard_passes (is_plain F) (opened_guard g b e)) _ s)),
    ),
  )
  fair_st n q ds inside before (While i e is x) h s =
      let t = and_right (guard_passes (is_plain F) (opened_guard g b e)) (list_all (clause_passes n (is_plain F)) (map (opened_clause g b) is) && st_passes n (is_plain F) (opened_st g b x)) s in (
        fair_guard ds e h.0 (and_left (guard_passes (is_plain F) (opened_guard g b e)) _ s),
        (
          fair_clauses ds n is (each_all (λ k. IsFormula (sig_in p ds) k.says) is h.1) (and_left (list_all (clause_passes n (is_plain F)) (map (opened_clause g b) is)) (st_passes n (is_plain F) (opened_st g b x)) t),
          fair_st n q ds (i ∷ inside) before x h.2 (and_right (list_all (clause_passes n (is_plain F)) (map (opened_clause g b) is)) (st_passes n (is_plain F) (opened_st g b x)) t),
        ),
      )
  fair_st n q ds inside before (Break i) h s = tt
  fair_st n q ds inside before (Goto ls) h s = tt
  fair_st n q ds inside before Return h s = tt

  pub its_procedure : (k : ℕ) → procedure_of o k ≡ option_map (opened_proc g b) (procedure_of p k)
  its_procedure k = at_mapped (opened_proc g b) p.procedures k

  -- ---- what statements change

  module _ (res : IsResolved p) where
    pub modified_alike : (k : ℕ) (q : Proc) → procedure_of p k ≡ Some q → modified o (opened_proc g b q) ≡ modified p q
    modified_alike k q e =
        as_listed o k (opened_proc g b q) (resolved depth p res) (its_procedure k ∙ ap (option_map (opened_proc g b)) e) ∙ sym (as_listed p k q res e)

    modified_if : (k : ℕ) (q : Option Proc) → procedure_of p k ≡ q → modified_by o (option_map (opened_proc g b) q) ≡ modified_by p q
    modified_if k None e = refl
    modified_if k (Some q) e = modified_alike k q e

    changes_alike : (s : St) (x : Var) → may_change o (opened_st g b s) x ≡ may_change p s x
    changes_alike Skip x = refl
    changes_alike (Then y z) x =
        ap (λ t. t || may_change o (opened_st g b z) x) (changes_alike y x) ∙ ap (λ t. may_change p y x || t) (changes_alike z x)
    changes_alike (Label l) x = refl
    changes_alike (Assert k) x = refl
    changes_alike (Assume e) x = refl
    changes_alike (Havoc xs) x = refl
    changes_alike (Assign xs es) x = refl
    changes_alike (Invoke k) x =
        ap (λ m. is_among k.takes x || is_among (modified_by o m) x) (its_procedure k.procedure)
        ∙ ap (λ m. is_among k.takes x || is_among m x) (modified_if k.procedure (procedure_of p k.procedure) refl)
    changes_alike (If n e y z) x =
        ap (λ t. t || may_change o (opened_st g b z) x) (changes_alike y x) ∙ ap (λ t. may_change p y x || t) (changes_alike z x)
    changes_alike (While n e is y) x = changes_alike y x
    changes_alike (Break n) x = refl
    changes_alike (Goto ls) x = refl
    changes_alike Return x = refl

  among_none : (xs : List Var) (y : ℕ) → Each (FairVar g b F cs) xs → g ≤ y → is_among xs (Global y) ≡ false
  among_none [] y h l = refl
  among_none (Global x ∷ xs) y h l =
      or_false (x == y) (is_among xs (Global y)) (numbers_apart x y (let m : x < g = h.0 in omega arith)) (among_none xs y h.1 l)
  among_none (Local x ∷ xs) y h l = among_none xs y h.1 l

  modified_none : (q : Option Proc) (y : ℕ) → g ≤ y → is_among (modified_by p q) (Global y) ≡ false
  modified_none None y l = refl
  modified_none (Some q) y l = among_none (modified p q) y (fair_modified q) l

  no_change : (s : St) → FairSt g b F cs s → (y : ℕ) → g ≤ y → may_change p s (Global y) ≡ false
  no_change Skip h y l = refl
  no_change (Then u v) h y l =
      or_false (may_change p u (Global y)) (may_change p v (Global y)) (no_change u h.0 y l) (no_change v h.1 y l)
  no_change (Label n) h y l = refl
  no_change (Assert k) h y l = refl
  no_change (Assume e) h y l = refl
  no_change (Havoc xs) h y l = among_none xs y h l
  no_change (Assign xs es) h y l = among_none xs y h.0 l
  no_change (Invoke k) h y l =
      or_false (is_among k.takes (Global y)) (is_among (modified_by p (procedure_of p k.procedure)) (Global y)) (among_none k.takes y h.0 l) (modified_none (procedure_of p k.procedure) y l)
  no_change (If n e u v) h y l =
      or_false (may_change p u (Global y)) (may_change p v (Global y)) (no_change u h.1.0 y l) (no_change v h.1.1 y l)
  no_change (While n e is u) h y l = no_change u h.1.1 y l
  no_change (Break n) h y l = refl
  no_change (Goto ls) h y l = refl
  no_change Return h y l = refl

  none_changed : (s : St) → FairSt g b F cs s → (k n : ℕ) → g ≤ k → Each (λ x. may_change p s x ≡ false) (map Global (count_from k n))
  none_changed s h k zero l = tt
  none_changed s h k (suc n) l = (no_change s h k l, none_changed s h (suc k) n (omega arith))

  fair_locals : (k n : ℕ) → Each (FairVar g b F cs) (map Local (count_from k n))
  fair_locals k zero = tt
  fair_locals k (suc n) = (tt, fair_locals (suc k) n)

  globals_split : globals_of o ≡ globals_of p ++ map Global (count_from g (length p.constants))
  globals_split =
      let e : length o.globals ≡ g + length p.constants = (let x = append_length (map (opened_decl g b) p.globals) (map global_for p.constants) in let y = map_length (opened_decl g b) p.globals in let z = map_length global_for p.constants in omega arith) in
      let f : 0 + g ≡ g = omega arith in
      ap (λ n. map Global (count_from 0 n)) e
      ∙ ap (map Global) (count_split 0 g (length p.constants))
      ∙ map_append Global (count_from 0 g) (count_from (0 + g) (length p.constants))
      ∙ ap (λ n. map Global (count_from 0 g) ++ map Global (count_from n (length p.constants))) f

  pub targets_alike : (ds : List Decl) (s : St) → IsResolved p → FairSt g b F cs s → (filter (may_change o (opened_st g b s)) (variables_in o (map (opened_decl g b) ds)) ≡ filter (may_change p s) (variables_in p ds)) × Each (FairVar g b F cs) (filter (may_change p s) (variables_in p ds))
  targets_alike ds s res h =
      let K = map Global (count_from g (length p.constants)) in
      let L = map Local (count_from 0 (length ds)) in
      let f = may_change p s in (
        filter_alike (may_change o (opened_st g b s)) f (variables_in o (map (opened_decl g b) ds)) (changes_alike res s)
            ∙ ap (λ l. filter f (l ++ map Local (count_from 0 (length (map (opened_decl g b) ds))))) globals_split
            ∙ ap (λ n. filter f ((globals_of p ++ K) ++ map Local (count_from 0 n))) (map_length (opened_decl g b) ds)
            ∙ filter_append f (globals_of p ++ K) L
            ∙ ap (λ l. l ++ filter f L) (filter_append f (globals_of p) K)
            ∙ ap (λ l. (filter f (globals_of p) ++ l) ++ filter f L) (filter_none f K (none_changed s h g (length p.constants) (omega arith)))
            ∙ ap (λ l. l ++ filter f L) (nil_behind (filter f (globals_of p)))
            ∙ sym (filter_append f (globals_of p) L),
        each_filter (FairVar g b F cs) f (variables_in p ds) (each_append (FairVar g b F cs) (globals_of p) L (fair_counted 0 g (omega arith)) (fair_locals 0 (length ds))),
      )
    where
      nil_behind : (xs : List Var) → xs ++ [] ≡ xs
      nil_behind [] = refl
      nil_behind (x ∷ xs) = ap (λ l. x ∷ l) (nil_behind xs)

  -- ---- declarations

  pub decls_alike : (ds : List Decl) (x : Var) → FairVar g b F cs x → decl_in o (map (opened_decl g b) ds) x ≡ option_map (opened_decl g b) (decl_in p ds x)
  decls_alike ds (Global x) h =
      front_at (map (opened_decl g b) p.globals) (map global_for p.constants) x (subst (λ n. x < n) (sym (map_length (opened_decl g b) p.globals)) h)
      ∙ at_mapped (opened_decl g b) p.globals x
  decls_alike ds (Local x) h = at_mapped (opened_decl g b) ds x

  wheres_at_fair : (ds : List Decl) (x : ℕ) → Each (FairDecl g b F cs) ds → Each (Fair g b F cs) (wheres_in (slice_get ds x))
  wheres_at_fair [] x h = tt
  wheres_at_fair (d ∷ ds) zero h = h.0
  wheres_at_fair (d ∷ ds) (suc x) h = wheres_at_fair ds x h.1

  pub decl_fair : (ds : List Decl) → Each (FairDecl g b F cs) p.globals → Each (FairDecl g b F cs) ds → (x : Var) → Each (Fair g b F cs) (wheres_in (decl_in p ds x))
  decl_fair ds h k (Global x) = wheres_at_fair p.globals x h
  decl_fair ds h k (Local x) = wheres_at_fair ds x k

-- ---- worth

module _ (depth : ℕ) (p : Prog) (i j : Interp) (agree : Agree p.functions i j) (typed : IsTyped p) (none : HasNoRecursion p) where
  abbrev n : ℕ
  n = length p.globals

  constants_behind : (gs : List Val) → length gs ≡ n → (k : ℕ) → Rattle.bg_sense.specs.Eval.value_at (gs ++ i.constants) (n + k) ≡ Rattle.bg_sense.specs.Eval.value_at i.constants k
  constants_behind gs l k =
      ap (λ v. unwrap_or v (Num (pos 0))) (ap (λ m. slice_get (gs ++ i.constants) (m + k)) (sym l) ∙ behind_at gs i.constants k)

  begins_with : (gs : List Val) → length gs ≡ n → (x : ℕ) → x < n → Rattle.bg_sense.specs.Eval.value_at (gs ++ i.constants) x ≡ Rattle.bg_sense.specs.Eval.value_at gs x
  begins_with gs l x h = ap (λ v. unwrap_or v (Num (pos 0))) (front_at gs i.constants x (omega arith))

  pub worth : (e : Ex) (gs bs r : List Val) → length gs ≡ n → length bs ≡ n → Fair n (bodies_of depth p) p.functions i.constants e → ev (opened n (bodies_of depth p) e) (record { functions = functions_of (opened_program depth p) j; constants = j.constants; globals = gs ++ i.constants; before = bs ++ i.constants; frame = r }) ≡ ev e (record { functions = functions_of p i; constants = i.constants; globals = gs; before = bs; frame = r })
  worth e gs bs r l m h =
      plain_worth p.functions (functions_of (opened_program depth p) j) (functions_of p i) (same_functions depth p i j agree) j.constants j.constants (bs ++ i.constants) (opened n (bodies_of depth p) e) r (gs ++ i.constants) h.1
      ∙ opened_worth (functions_of p i) n n i.constants j.constants (bodies_of depth p) (opens_to p i n j.constants none typed.bodies (λ f fn x q s. (typed.plain_bodies f fn x q s).1) depth) e gs bs (gs ++ i.constants) (bs ++ i.constants) r (constants_behind gs l) (constants_behind bs m) (begins_with gs l) (begins_with bs m) h.0
