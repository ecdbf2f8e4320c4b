-- Expressions in which no function is applied that has a body, and programs of these: they are over values.
use Rattle.std.proofs.Common.{◌≡◌, ℕ, Bool, true, false, List, [], ◌∷◌, refl}
use Rattle.std.specs.Prelude.{◌&&◌, not}
use Rattle.std.specs.List.{list_all}
use Rattle.bg_ast.specs.Values.{Ty}
use Rattle.bg_ast.specs.Syntax.{Ex, Number, Fact, Constant, Read, Not, Negative, Binary, Apply, Select, Update, Old, Exs, NoMore, More, Clause, Guard, Star, Test, St, Skip, Then, Label, Assert, Assume, Havoc, Assign, Invoke, If, While, Break, Goto, Return, Decl, Fun, Proc, Impl, Prog}
use Rattle.bg_sense.specs.Tables.{has_body}
use Rattle.bg_sense.proofs.Bools.{and_left, and_right, both}
use Rattle.bg_fits.specs.Valued.{is_empty, is_declared, exs_pass, clause_passes, guard_passes, st_passes, decl_passes, decls_pass, fun_passes, proc_passes, impl_passes, passes, is_value_type, any_ex, is_over_values}
use Rattle.bg_opened.specs.Exprs.{raw_bodies}

abbrev mutual
  -- no constant, and applications of functions that have no body alone
  pub is_plain : List Fun → Ex → Bool
  is_plain fs (Number z) = true
  is_plain fs (Fact b) = true
  is_plain fs (Read x) = true
  is_plain fs (Not e) = is_plain fs e
  is_plain fs (Negative e) = is_plain fs e
  is_plain fs (Binary o a b) = is_plain fs a && is_plain fs b
  is_plain fs (Old e) = is_plain fs e
  is_plain fs (Apply f es) = not (has_body (raw_bodies fs f)) && are_plain fs es
  is_plain fs (Select m es) = is_plain fs m && are_plain fs es
  is_plain fs (Update m es e) = is_plain fs m && (are_plain fs es && is_plain fs e)
  is_plain fs (Constant k) = false

  pub are_plain : List Fun → Exs → Bool
  are_plain fs NoMore = true
  are_plain fs (More e es) = is_plain fs e && are_plain fs es

-- a program in which no function is applied that has a body among these
abbrev pub is_over_plain : List Fun → Prog → Bool
is_over_plain fs p = passes is_value_type (is_plain fs) p

-- a list of which each is plain
pub as_are : (fs : List Fun) (es : Exs) → exs_pass (is_plain fs) es ≡ true → are_plain fs es ≡ true
as_are fs NoMore h = refl
as_are fs (More e es) h =
    both (is_plain fs e) (are_plain fs es) (and_left (is_plain fs e) (exs_pass (is_plain fs) es) h) (as_are fs es (and_right (is_plain fs e) (exs_pass (is_plain fs) es) h))

all_more : {A : Type 0} (f g : A → Bool) → ((x : A) → f x ≡ true → g x ≡ true) → (xs : List A) → list_all f xs ≡ true → list_all g xs ≡ true
all_more f g k [] h = refl
all_more f g k (x ∷ xs) h =
    both (g x) (list_all g xs) (k x (and_left (f x) (list_all f xs) h)) (all_more f g k xs (and_right (f x) (list_all f xs) h))

-- what passes a test passes one that lets more through
module _ (ty : Ty → Bool) (f g : Ex → Bool) (more : (e : Ex) → f e ≡ true → g e ≡ true) where
  exs_more : (es : Exs) → exs_pass f es ≡ true → exs_pass g es ≡ true
  exs_more NoMore h = refl
  exs_more (More e es) h =
      both (g e) (exs_pass g es) (more e (and_left (f e) (exs_pass f es) h)) (exs_more es (and_right (f e) (exs_pass f es) h))

  clause_more : (n : ℕ) (k : Clause) → clause_passes n f k ≡ true → clause_passes n g k ≡ true
  clause_more n k h =
      both (is_declared n k.candidate) (g k.says) (and_left (is_declared n k.candidate) (f k.says) h) (more k.says (and_right (is_declared n k.candidate) (f k.says) h))

  clauses_more : (n : ℕ) (ks : List Clause) → list_all (clause_passes n f) ks ≡ true → list_all (clause_passes n g) ks ≡ true
  clauses_more n ks h = all_more (clause_passes n f) (clause_passes n g) (clause_more n) ks h

  guard_more : (x : Guard) → guard_passes f x ≡ true → guard_passes g x ≡ true
  guard_more Star h = refl
  guard_more (Test e) h = more e h

  st_more : (n : ℕ) (s : St) → st_passes n f s ≡ true → st_passes n g s ≡ true
  st_more n Skip h = refl
  st_more n (Then a b) h =
      both (st_passes n g a) (st_passes n g b) (st_more n a (and_left (st_passes n f a) (st_passes n f b) h)) (st_more n b (and_right (st_passes n f a) (st_passes n f b) h))
  st_more n (Label l) h = refl
  st_more n (Assert k) h = clause_more n k h
  st_more n (Assume e) h = more e h
  st_more n (Havoc xs) h = refl
  st_more n (Assign xs es) h = exs_more es h
  st_more n (Invoke k) h = exs_more k.args h
  st_more n (If t x a b) h =
      let i = and_right (guard_passes f x) (st_passes n f a && st_passes n f b) h in
      both (guard_passes g x) (st_passes n g a && st_passes n g b) (guard_more x (and_left (guard_passes f x) (st_passes n f a && st_passes n f b) h))
      (both (st_passes n g a) (st_passes n g b) (st_more n a (and_left (st_passes n f a) (st_passes n f b) i)) (st_more n b (and_right (st_passes n f a) (st_passes n f b) i)))
  st_more n (While t x is a) h =
      let i = and_right (guard_passes f x) (list_all (clause_passes n f) is && st_passes n f a) h in
      both (guard_passes g x) (list_all (clause_passes n g) is && st_passes n g a) (guard_more x (and_left (guard_passes f x) (list_all (clause_passes n f) is && st_passes n f a) h))
      (both (list_all (clause_passes n g) is) (st_passes n g a) (clauses_more n is (and_left (list_all (clause_passes n f) is) (st_passes n f a) i)) (st_more n a (and_right (list_all (clause_passes n f) is) (st_passes n f a) i)))
  st_more n (Break t) h = refl
  st_more n (Goto ls) h = refl
  st_more n Return h = refl

  decl_more : (d : Decl) → decl_passes ty f d ≡ true → decl_passes ty g d ≡ true
  decl_more d h =
      both (ty d.ty) (list_all g d.wheres) (and_left (ty d.ty) (list_all f d.wheres) h) (all_more f g more d.wheres (and_right (ty d.ty) (list_all f d.wheres) h))

  decls_more : (ds : List Decl) → decls_pass ty f ds ≡ true → decls_pass ty g ds ≡ true
  decls_more ds h = all_more (decl_passes ty f) (decl_passes ty g) decl_more ds h

  proc_more : (n : ℕ) (q : Proc) → proc_passes n ty f q ≡ true → proc_passes n ty g q ≡ true
  proc_more n q h =
      let a = list_all (clause_passes n f) q.requires_ in
      let b = list_all (clause_passes n f) q.ensures_ in
      let a' = list_all (clause_passes n g) q.requires_ in
      let b' = list_all (clause_passes n g) q.ensures_ in
      let i = and_right (decls_pass ty f q.params) (decls_pass ty f q.results && (a && b)) h in
      let j = and_right (decls_pass ty f q.results) (a && b) i in
      both (decls_pass ty g q.params) (decls_pass ty g q.results && (a' && b')) (decls_more q.params (and_left (decls_pass ty f q.params) (decls_pass ty f q.results && (a && b)) h))
      (both (decls_pass ty g q.results) (a' && b') (decls_more q.results (and_left (decls_pass ty f q.results) (a && b) i))
      (both a' b' (clauses_more n q.requires_ (and_left a b j)) (clauses_more n q.ensures_ (and_right a b j))))

  impl_more : (n : ℕ) (m : Impl) → impl_passes n ty f m ≡ true → impl_passes n ty g m ≡ true
  impl_more n m h =
      both (decls_pass ty g m.locals) (st_passes n g m.body) (decls_more m.locals (and_left (decls_pass ty f m.locals) (st_passes n f m.body) h)) (st_more n m.body (and_right (decls_pass ty f m.locals) (st_passes n f m.body) h))

  program_more : (p : Prog) → passes ty f p ≡ true → passes ty g p ≡ true
  program_more p h =
      let n = p.candidates in
      let procs = list_all (proc_passes n ty f) p.procedures in
      let impls = list_all (impl_passes n ty f) p.implementations in
      let procs' = list_all (proc_passes n ty g) p.procedures in
      let impls' = list_all (impl_passes n ty g) p.implementations in
      let funs = list_all (fun_passes ty) p.functions in
      let one = and_right (decls_pass ty f p.globals) (is_empty p.constants && (funs && (is_empty p.axioms && (procs && impls)))) h in
      let two = and_right (is_empty p.constants) (funs && (is_empty p.axioms && (procs && impls))) one in
      let three = and_right funs (is_empty p.axioms && (procs && impls)) two in
      let four = and_right (is_empty p.axioms) (procs && impls) three in
      both (decls_pass ty g p.globals) (is_empty p.constants && (funs && (is_empty p.axioms && (procs' && impls'))))
      (decls_more p.globals (and_left (decls_pass ty f p.globals) (is_empty p.constants && (funs && (is_empty p.axioms && (procs && impls)))) h))
      (both (is_empty p.constants) (funs && (is_empty p.axioms && (procs' && impls'))) (and_left (is_empty p.constants) (funs && (is_empty p.axioms && (procs && impls))) one)
      (both funs (is_empty p.axioms && (procs' && impls')) (and_left funs (is_empty p.axioms && (procs && impls)) two)
      (both (is_empty p.axioms) (procs' && impls') (and_left (is_empty p.axioms) (procs && impls) three)
      (both procs' impls' (all_more (proc_passes n ty f) (proc_passes n ty g) (proc_more n) p.procedures (and_left procs impls four)) (all_more (impl_passes n ty f) (impl_passes n ty g) (impl_more n) p.implementations (and_right procs impls four))))))

pub over_plain : (fs : List Fun) (p : Prog) → is_over_plain fs p ≡ true → is_over_values p ≡ true
over_plain fs p h = program_more is_value_type (is_plain fs) any_ex (λ e k. refl) p h
