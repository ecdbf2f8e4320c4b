-- A program that is opened as it is written means what it means, opened.
use Rattle.std.proofs.Common.{◌≡◌, ℕ, suc, List, [], ◌∷◌, ◌++◌, length, map, Option, refl, sym, ap, ◌∙◌}
use Rattle.bg_base.specs.declared.pos.Pos.{Pos}
use Rattle.bg_ast.specs.Values as v
use Rattle.bg_ast.specs.Syntax as s
use Rattle.bg_ast.specs.Resolved as r
use Rattle.bg_ast.specs.Meaning as m
use Rattle.bg_opened.specs.Exprs as e
use Rattle.bg_opened.specs.Unique as u
use Rattle.bg_opened.specs.Programs as o
use Rattle.bg_opened.specs.Written as w
use Rattle.bg_opened.proofs.WrittenExprs.{Means, opened_means}

map_length : {A B : Type 0} (f : A → B) (xs : List A) → length (map f xs) ≡ length xs
map_length f [] = refl
map_length f (x ∷ xs) = ap suc (map_length f xs)

map_append : {A B : Type 0} (f : A → B) (xs ys : List A) → map f (xs ++ ys) ≡ map f xs ++ map f ys
map_append f [] ys = refl
map_append f (x ∷ xs) ys = ap (λ l. f x ∷ l) (map_append f xs ys)

-- two ways to change what a list holds
map_twice : {A B C D : Type 0} (f : B → D) (h : A → B) (k : C → D) (j : A → C) → ((x : A) → f (h x) ≡ k (j x)) → (xs : List A) → map f (map h xs) ≡ map k (map j xs)
map_twice f h k j same [] = refl
map_twice f h k j same (x ∷ xs) = ap (λ y. y ∷ map f (map h xs)) (same x) ∙ ap (λ l. k (j x) ∷ l) (map_twice f h k j same xs)

same_more : (a b : s.Ex) (as' bs : s.Exs) → a ≡ b → as' ≡ bs → s.More a as' ≡ s.More b bs
same_more a b as' bs h k = rw (h, k) refl

same_update : (x : s.Ex) (es fs : s.Exs) (a b : s.Ex) → es ≡ fs → a ≡ b → s.Update x es a ≡ s.Update x fs b
same_update x es fs a b h k = rw (h, k) refl

module _ (g : ℕ) (b : ℕ → Option s.Ex) (O : r.Ex → r.Ex) (is : (x : r.Ex) → m.ex_of (O x) ≡ e.opened g b (m.ex_of x)) where
  exs_mean : (es : r.Exs) → m.exs_of (w.all_opened O es) ≡ e.all_opened g b (m.exs_of es)
  exs_mean r.NoMore = refl
  exs_mean (r.More x es) = same_more _ _ _ _ (is x) (exs_mean es)

  clause_means : (k : r.Clause) → m.clause_of (w.opened_clause O k) ≡ o.opened_clause g b (m.clause_of k)
  clause_means k = ap (λ x. record { id = k.id; is_free = k.is_free; candidate = k.candidate; says = x }) (is k.says)

  clauses_mean : (ks : List r.Clause) → map m.clause_of (map (w.opened_clause O) ks) ≡ map (o.opened_clause g b) (map m.clause_of ks)
  clauses_mean = map_twice m.clause_of (w.opened_clause O) (o.opened_clause g b) m.clause_of clause_means

  guard_means : (x : r.Guard) → m.guard_of (w.opened_guard O x) ≡ o.opened_guard g b (m.guard_of x)
  guard_means r.Star = refl
  guard_means (r.Test x) = ap s.Test (is x)

  written_means : (x : s.Ex) (bs : List (Pos × r.Exs)) (y : s.Ex) → m.written (e.opened g b x) (map (w.opened_bracket O) bs) (e.opened g b y) ≡ e.opened g b (m.written x bs y)
  written_means x [] y = refl
  written_means x (c ∷ bs) y =
      ap (λ es. s.Update (e.opened g b x) es (m.written (s.Select (e.opened g b x) es) (map (w.opened_bracket O) bs) (e.opened g b y))) (exs_mean c.1)
      ∙ ap (s.Update (e.opened g b x) (e.all_opened g b (m.exs_of c.1))) (written_means (s.Select x (m.exs_of c.1)) bs y)

  values_mean : (ts : List r.Target) (es : r.Exs) → m.values_of (map (w.opened_target O) ts) (w.all_opened O es) ≡ e.all_opened g b (m.values_of ts es)
  values_mean [] es = refl
  values_mean (t ∷ ts) r.NoMore = refl
  values_mean (t ∷ ts) (r.More x es) =
      same_more _ _ _ _ (ap (m.written (s.Read t.placed.variable) (map (w.opened_bracket O) t.brackets)) (is x) ∙ written_means (s.Read t.placed.variable) t.brackets (m.ex_of x)) (values_mean ts es)

  places_kept : (ts : List r.Target) → map (λ (t : r.Target). t.placed.variable) (map (w.opened_target O) ts) ≡ map (λ (t : r.Target). t.placed.variable) ts
  places_kept [] = refl
  places_kept (t ∷ ts) = ap (λ l. t.placed.variable ∷ l) (places_kept ts)

  same_assign : (xs ys : List s.Var) (es fs : s.Exs) → xs ≡ ys → es ≡ fs → s.Assign xs es ≡ s.Assign ys fs
  same_assign xs ys es fs h k = rw (h, k) refl

  same_if : (n : ℕ) (a c : s.Guard) (x y z t : s.St) → a ≡ c → x ≡ y → z ≡ t → s.If n a x z ≡ s.If n c y t
  same_if n a c x y z t h k l = rw (h, k, l) refl

  same_while : (n : ℕ) (a c : s.Guard) (ks ls : List s.Clause) (x y : s.St) → a ≡ c → ks ≡ ls → x ≡ y → s.While n a ks x ≡ s.While n c ls y
  same_while n a c ks ls x y h k l = rw (h, k, l) refl

  same_then : (x y z t : s.St) → x ≡ y → z ≡ t → s.Then x z ≡ s.Then y t
  same_then x y z t h k = rw (h, k) refl

  mutual
    st_means : (x : r.St) → m.st_of (w.opened_st O x) ≡ o.opened_st g b (m.st_of x)
    st_means (r.Label l) = refl
    st_means (r.Assert k) = ap s.Assert (clause_means k)
    st_means (r.Assume x) = ap s.Assume (is x)
    st_means (r.Havoc xs) = refl
    st_means (r.Assign p ts es) = same_assign _ _ _ _ (places_kept ts) (values_mean ts es)
    st_means (r.Invoke k) =
        ap (λ es. s.Invoke (record { site = k.site; procedure = k.procedure; args = es; takes = map m.variable_of k.takes })) (exs_mean k.args)
    st_means (r.If n arms otherwise) =
        ap (m.arms_of n (w.opened_arms O arms)) (sts_mean otherwise) ∙ arms_mean n arms (m.sts_of otherwise)
    st_means (r.While n p x is body) = same_while n _ _ _ _ _ _ (guard_means x) (clauses_mean is) (sts_mean body)
    st_means (r.Break n) = refl
    st_means (r.Goto ls) = refl
    st_means r.Return = refl

    sts_mean : (xs : r.Sts) → m.sts_of (w.opened_sts O xs) ≡ o.opened_st g b (m.sts_of xs)
    sts_mean r.NoSt = refl
    sts_mean (r.Then x xs) = same_then _ _ _ _ (st_means x) (sts_mean xs)

    arms_mean : (n : ℕ) (arms : r.Arms) (x : s.St) → m.arms_of n (w.opened_arms O arms) (o.opened_st g b x) ≡ o.opened_st g b (m.arms_of n arms x)
    arms_mean n r.NoArm x = refl
    arms_mean n (r.Arm y body arms) x =
        same_if n _ _ _ _ _ _ (guard_means y) (sts_mean body) (arms_mean (suc n) arms x)

  supposing_means : (es : List r.Ex) (xs : r.Sts) → m.sts_of (w.supposing (map O es) xs) ≡ o.supposing (map (e.opened g b) (map m.ex_of es)) (m.sts_of xs)
  supposing_means [] xs = refl
  supposing_means (x ∷ es) xs = same_then _ _ _ _ (ap s.Assume (is x)) (supposing_means es xs)

  module _ (named : ℕ → v.Ty) where
    decls_kept : (ds : List r.Declared) → map (m.decl_of named) ds ≡ map (o.opened_decl g b) (map (m.decl_of named) ds)
    decls_kept [] = refl
    decls_kept (d ∷ ds) = ap (λ l. m.decl_of named d ∷ l) (decls_kept ds)

    same_proc : (ps qs rs ts : List s.Decl) (n : List ℕ) (as' bs cs ds : List s.Clause) → ps ≡ qs → rs ≡ ts → as' ≡ bs → cs ≡ ds → record { params = ps; results = rs; modifies = n; requires_ = as'; ensures_ = cs } ≡ (let q : s.Proc = record { params = qs; results = ts; modifies = n; requires_ = bs; ensures_ = ds } in q)
    same_proc ps qs rs ts n as' bs cs ds h i j k = rw (h, i, j, k) refl

    proc_means : (q : r.Proc) → m.proc_of named (w.opened_proc O q) ≡ o.opened_proc g b (m.proc_of named q)
    proc_means q =
        same_proc _ _ _ _ q.modifies _ _ _ _ (decls_kept q.params) (decls_kept q.results) (clauses_mean q.requires_) (clauses_mean q.ensures_)

    same_impl : (k : ℕ) (ds es : List s.Decl) (x y : s.St) → ds ≡ es → x ≡ y → record { procedure = k; locals = ds; body = x } ≡ (let q : s.Impl = record { procedure = k; locals = es; body = y } in q)
    same_impl k ds es x y h i = rw (h, i) refl

    impl_means : (axioms : List r.Ex) (x : r.Impl) → m.impl_of named (w.opened_impl O axioms x) ≡ o.opened_impl g b (map m.ex_of axioms) (m.impl_of named x)
    impl_means axioms x =
        same_impl x.procedure _ _ _ _ (decls_kept x.locals) (supposing_means axioms (w.opened_sts O x.body) ∙ ap (o.supposing (map (e.opened g b) (map m.ex_of axioms))) (sts_mean x.body))

constants_mean : (named : ℕ → v.Ty) (cs : List r.Const) → map (m.decl_of named) (map w.global_for cs) ≡ map o.global_for (map (m.const_of named) cs)
constants_mean named = map_twice (m.decl_of named) w.global_for o.global_for (m.const_of named) (λ c. refl)

apart_means : (qs : List (ℕ × ℕ)) → map m.ex_of (map w.apart qs) ≡ map u.apart qs
apart_means [] = refl
apart_means (x ∷ qs) = ap (λ l. u.apart x ∷ l) (apart_means qs)

claims_mean : (p : r.Program) → map m.ex_of (w.claims p) ≡ u.claims (m.meaning_of p)
claims_mean p =
    map_append m.ex_of (map w.apart (u.unique_pairs (w.constants_of p))) p.axioms
    ∙ ap (λ l. l ++ map m.ex_of p.axioms) (apart_means (u.unique_pairs (w.constants_of p)))

functions_mean : (named : ℕ → v.Ty) (fs : List r.Fun) → map (m.fun_of named) (map w.bodiless fs) ≡ map o.bodiless (map (m.fun_of named) fs)
functions_mean named = map_twice (m.fun_of named) w.bodiless o.bodiless (m.fun_of named) (λ f. refl)

pub program_means : (depth : ℕ) (p : r.Program) → m.meaning_of (w.opened_program depth p) ≡ o.opened_program depth (m.meaning_of p)
program_means depth p =
    let named = m.named_of p.types in
    let q = m.meaning_of p in
    let n = length p.globals in
    let g = length q.globals in
    let b = o.bodies_of depth q in
    let same : n ≡ g = sym (map_length (m.decl_of named) p.globals) in
    let is : (x : r.Ex) → m.ex_of (w.opened_in depth p x) ≡ e.opened g b (m.ex_of x) = (λ x. opened_means n named depth p.functions x ∙ ap (λ k. e.opened k (e.bodies_to k (Means n named p.functions) depth) (m.ex_of x)) same) in
    let globals : map (m.decl_of named) (p.globals ++ map w.global_for p.constants) ≡ o.opened_globals depth q =
    map_append (m.decl_of named) p.globals (map w.global_for p.constants)
    ∙ ap (λ l. l ++ map (m.decl_of named) (map w.global_for p.constants)) (decls_kept g b (w.opened_in depth p) is named p.globals)
    ∙ ap (λ l. map (o.opened_decl g b) (map (m.decl_of named) p.globals) ++ l) (constants_mean named p.constants) in
    let procs = map_twice (m.proc_of named) (w.opened_proc (w.opened_in depth p)) (o.opened_proc g b) (m.proc_of named) (proc_means g b (w.opened_in depth p) is named) p.procedures in
    let impls : map (m.impl_of named) (map (w.opened_impl (w.opened_in depth p) (w.claims p)) p.implementations) ≡ map (o.opened_impl g b (u.claims q)) (map (m.impl_of named) p.implementations) =
    map_twice (m.impl_of named) (w.opened_impl (w.opened_in depth p) (w.claims p)) (o.opened_impl g b (map m.ex_of (w.claims p))) (m.impl_of named) (impl_means g b (w.opened_in depth p) is named (w.claims p)) p.implementations
    ∙ ap (λ es. map (o.opened_impl g b es) (map (m.impl_of named) p.implementations)) (claims_mean p) in
    same_program _ _ _ _ _ _ _ _ (length p.candidates) globals (functions_mean named p.functions) procs impls
  where
    same_program : (ds es : List s.Decl) (fs gs : List s.Fun) (ps qs : List s.Proc) (ms ns : List s.Impl) (n : ℕ) → ds ≡ es → fs ≡ gs → ps ≡ qs → ms ≡ ns → record { globals = ds; constants = []; functions = fs; axioms = []; procedures = ps; implementations = ms; candidates = n } ≡ (let q : s.Prog = record { globals = es; constants = []; functions = gs; axioms = []; procedures = qs; implementations = ns; candidates = n } in q)
    same_program ds es fs gs ps qs ms ns n h k i j = rw (h, k, i, j) refl
