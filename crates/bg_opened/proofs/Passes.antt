-- Bodies may be opened in passes.
use Rattle.std.proofs.Common.{◌≡◌, ℕ, zero, suc, List, Option, Some, None, refl, sym, ap, ◌∙◌}
use Rattle.std.specs.Prelude.{slice_get}
use Rattle.bg_ast.specs.Syntax.{Global, Local, Ex, Exs, Number, Fact, Constant, Read, Not, Negative, Binary, Apply, Select, Update, Old, NoMore, More, Fun}
use Rattle.bg_opened.specs.Exprs.{ex_at, put_in, put_in_all, applied, opened, all_opened, opened_body, opened_fun, bodies_to, body_in, raw_bodies}

at_put_in : (ys xs : Exs) (j : ℕ) → put_in (ex_at ys j) xs ≡ ex_at (put_in_all ys xs) j
at_put_in NoMore xs j = refl
at_put_in (More y ys) xs zero = refl
at_put_in (More y ys) xs (suc j) = at_put_in ys xs j

mutual
  put_in_twice : (c : Ex) (ys xs : Exs) → put_in (put_in c ys) xs ≡ put_in c (put_in_all ys xs)
  put_in_twice (Number z) ys xs = refl
  put_in_twice (Fact b) ys xs = refl
  put_in_twice (Constant k) ys xs = refl
  put_in_twice (Read (Global x)) ys xs = refl
  put_in_twice (Read (Local j)) ys xs = at_put_in ys xs j
  put_in_twice (Not e) ys xs = ap Not (put_in_twice e ys xs)
  put_in_twice (Negative e) ys xs = ap Negative (put_in_twice e ys xs)
  put_in_twice (Binary op a b) ys xs =
      ap (λ e. Binary op e (put_in (put_in b ys) xs)) (put_in_twice a ys xs)
      ∙ ap (Binary op (put_in a (put_in_all ys xs))) (put_in_twice b ys xs)
  put_in_twice (Apply f es) ys xs = ap (Apply f) (put_in_all_twice es ys xs)
  put_in_twice (Select m es) ys xs =
      ap (λ e. Select e (put_in_all (put_in_all es ys) xs)) (put_in_twice m ys xs)
      ∙ ap (Select (put_in m (put_in_all ys xs))) (put_in_all_twice es ys xs)
  put_in_twice (Update m es e) ys xs =
      ap (λ x. Update x (put_in_all (put_in_all es ys) xs) (put_in (put_in e ys) xs)) (put_in_twice m ys xs)
      ∙ ap (λ x. Update (put_in m (put_in_all ys xs)) x (put_in (put_in e ys) xs)) (put_in_all_twice es ys xs)
      ∙ ap (Update (put_in m (put_in_all ys xs)) (put_in_all es (put_in_all ys xs))) (put_in_twice e ys xs)
  put_in_twice (Old e) ys xs = ap Old (put_in_twice e ys xs)

  put_in_all_twice : (es ys xs : Exs) → put_in_all (put_in_all es ys) xs ≡ put_in_all es (put_in_all ys xs)
  put_in_all_twice NoMore ys xs = refl
  put_in_all_twice (More e es) ys xs =
      ap (λ x. More x (put_in_all (put_in_all es ys) xs)) (put_in_twice e ys xs)
      ∙ ap (More (put_in e (put_in_all ys xs))) (put_in_all_twice es ys xs)

module _ (g : ℕ) (bodies : ℕ → Option Ex) where
  abbrev O : Ex → Ex
  O = opened g bodies

  abbrev Os : Exs → Exs
  Os = all_opened g bodies

  at_opened : (xs : Exs) (j : ℕ) → O (ex_at xs j) ≡ ex_at (Os xs) j
  at_opened NoMore j = refl
  at_opened (More x xs) zero = refl
  at_opened (More x xs) (suc j) = at_opened xs j

  applied_put_in : (o : Option Ex) (f : ℕ) (ys xs : Exs) → applied o f (put_in_all ys xs) ≡ put_in (applied o f ys) xs
  applied_put_in None f ys xs = refl
  applied_put_in (Some c) f ys xs = sym (put_in_twice c ys xs)

  mutual
    opened_put_in : (b : Ex) (xs : Exs) → O (put_in b xs) ≡ put_in (O b) (Os xs)
    opened_put_in (Number z) xs = refl
    opened_put_in (Fact t) xs = refl
    opened_put_in (Constant k) xs = refl
    opened_put_in (Read (Global x)) xs = refl
    opened_put_in (Read (Local j)) xs = at_opened xs j
    opened_put_in (Not e) xs = ap Not (opened_put_in e xs)
    opened_put_in (Negative e) xs = ap Negative (opened_put_in e xs)
    opened_put_in (Binary op a b) xs =
        ap (λ e. Binary op e (O (put_in b xs))) (opened_put_in a xs)
        ∙ ap (Binary op (put_in (O a) (Os xs))) (opened_put_in b xs)
    opened_put_in (Apply f es) xs =
        ap (applied (bodies f) f) (all_opened_put_in es xs) ∙ applied_put_in (bodies f) f (Os es) (Os xs)
    opened_put_in (Select m es) xs =
        ap (λ e. Select e (Os (put_in_all es xs))) (opened_put_in m xs)
        ∙ ap (Select (put_in (O m) (Os xs))) (all_opened_put_in es xs)
    opened_put_in (Update m es e) xs =
        ap (λ x. Update x (Os (put_in_all es xs)) (O (put_in e xs))) (opened_put_in m xs)
        ∙ ap (λ x. Update (put_in (O m) (Os xs)) x (O (put_in e xs))) (all_opened_put_in es xs)
        ∙ ap (Update (put_in (O m) (Os xs)) (put_in_all (Os es) (Os xs))) (opened_put_in e xs)
    opened_put_in (Old e) xs = ap Old (opened_put_in e xs)

    all_opened_put_in : (es xs : Exs) → Os (put_in_all es xs) ≡ put_in_all (Os es) (Os xs)
    all_opened_put_in NoMore xs = refl
    all_opened_put_in (More e es) xs =
        ap (λ x. More x (Os (put_in_all es xs))) (opened_put_in e xs)
        ∙ ap (More (put_in (O e) (Os xs))) (all_opened_put_in es xs)

module _ (g : ℕ) (fs : List Fun) (d : ℕ) where
  abbrev Now : Ex → Ex
  Now = opened g (bodies_to g fs d)

  abbrev Later : Ex → Ex
  Later = opened g (bodies_to g fs (suc d))

  -- an application, whose function is this one if it is there
  applied_later : (f : ℕ) (o : Option Fun) (ys zs : Exs) → all_opened g (bodies_to g fs d) ys ≡ zs → slice_get fs f ≡ o → Now (applied (body_in o) f ys) ≡ applied (opened_fun Now o) f zs
  applied_later f None ys zs e q =
      ap (λ o. applied o f (all_opened g (bodies_to g fs d) ys)) (none_to d) ∙ ap (Apply f) e
    where
      none_to : (k : ℕ) → bodies_to g fs k f ≡ None
      none_to zero = refl
      none_to (suc k) = ap (opened_fun (opened g (bodies_to g fs k))) q
  applied_later f (Some fn) ys zs e q = by_body fn.body refl
    where
      none_to : (k : ℕ) → fn.body ≡ None → bodies_to g fs k f ≡ None
      none_to zero b = refl
      none_to (suc k) b = ap (opened_fun (opened g (bodies_to g fs k))) q ∙ ap (opened_body (opened g (bodies_to g fs k))) b

      by_body : (b : Option Ex) → fn.body ≡ b → Now (applied b f ys) ≡ applied (opened_body Now b) f zs
      by_body None b = ap (λ o. applied o f (all_opened g (bodies_to g fs d) ys)) (none_to d b) ∙ ap (Apply f) e
      by_body (Some x) b = opened_put_in g (bodies_to g fs d) x ys ∙ ap (put_in (Now x)) e

  mutual
    pub passes : (e : Ex) → Now (opened g (raw_bodies fs) e) ≡ Later e
    passes (Number z) = refl
    passes (Fact t) = refl
    passes (Constant k) = refl
    passes (Read x) = refl
    passes (Not e) = ap Not (passes e)
    passes (Negative e) = ap Negative (passes e)
    passes (Binary op a b) =
        ap (λ e. Binary op e (Now (opened g (raw_bodies fs) b))) (passes a) ∙ ap (Binary op (Later a)) (passes b)
    passes (Apply f es) =
        applied_later f (slice_get fs f) (all_opened g (raw_bodies fs) es) (all_opened g (bodies_to g fs (suc d)) es) (all_pass es) refl
    passes (Select m es) =
        ap (λ e. Select e (all_opened g (bodies_to g fs d) (all_opened g (raw_bodies fs) es))) (passes m)
        ∙ ap (Select (Later m)) (all_pass es)
    passes (Update m es e) =
        ap (λ x. Update x (all_opened g (bodies_to g fs d) (all_opened g (raw_bodies fs) es)) (Now (opened g (raw_bodies fs) e))) (passes m)
        ∙ ap (λ x. Update (Later m) x (Now (opened g (raw_bodies fs) e))) (all_pass es)
        ∙ ap (Update (Later m) (all_opened g (bodies_to g fs (suc d)) es)) (passes e)
    passes (Old e) = ap Old (passes e)

    all_pass : (es : Exs) → all_opened g (bodies_to g fs d) (all_opened g (raw_bodies fs) es) ≡ all_opened g (bodies_to g fs (suc d)) es
    all_pass NoMore = refl
    all_pass (More e es) =
        ap (λ x. More x (all_opened g (bodies_to g fs d) (all_opened g (raw_bodies fs) es))) (passes e) ∙ ap (More (Later e)) (all_pass es)
