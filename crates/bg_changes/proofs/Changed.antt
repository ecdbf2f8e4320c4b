-- What statements mark is what they may change.
use Rattle.std.proofs.Common.{◌≡◌, ℕ, zero, suc, Bool, true, false, if◌then◌else◌, List, [], ◌∷◌, length, map, filter, slice_get, refl, sym, ap, ◌∙◌, arith, nat_lt}
use Rattle.std.specs.Prelude.{◌&&◌, ◌||◌, ◌==◌, ◌+◌}
use Rattle.std.proofs.lemmas.Bool.Decides.{nat_tests}
use Rattle.std.proofs.lemmas.Bool.{eqb-true}
use Rattle.std.proofs.lemmas.List.{length-map}
use Rattle.bg_ast.specs.Values.{Ty}
use Rattle.bg_ast.specs.Syntax.{Var, Global, Local, St}
use Rattle.bg_ast.specs.Resolved as r
use Rattle.bg_ast.specs.Meaning.{meaning_of, named_of, proc_of, decl_of, st_of, sts_of, arms_of, variable_of}
use Rattle.bg_sense.specs.Variables.{var_eq, is_among, count_from, modified_by, procedure_of, may_change}
use Rattle.bg_changes.specs.Marks.{Marks, has_mark, with_marks, target_variable, modifies_of, mark_st, mark_sts, mark_arms}
use Rattle.bg_changes.proofs.Read.{is_in, Sized, two, marks_sized, marks_read}

-- variables that are the same are among the same
same_variable : (x y : Var) → var_eq x y ≡ true → x ≡ y
same_variable (Global a) (Global b) h = ap Global (eqb-true a b h)
same_variable (Global a) (Local b) h = absurd (let bad : ⊥ = cc in bad)
same_variable (Local a) (Global b) h = absurd (let bad : ⊥ = cc in bad)
same_variable (Local a) (Local b) h = ap Local (eqb-true a b h)

both_of : (e a b : Bool) → (e ≡ true → a ≡ true) → (e || (a && b)) ≡ (a && (e || b))
both_of true true b h = refl
both_of true false b h = absurd (let bad : false ≡ true = h refl in cc)
both_of false a b h = refl

drop_of : (e a b : Bool) → (e ≡ true → a ≡ false) → (a && b) ≡ (a && (e || b))
drop_of true true b h = absurd (let bad : true ≡ false = h refl in cc)
drop_of true false b h = refl
drop_of false a b h = refl

-- those that are kept are those that are among both
filter_among : (zs xs : List Var) (y : Var) → is_among (filter (is_among zs) xs) y ≡ (is_among zs y && is_among xs y)
filter_among zs [] y = no (is_among zs y)
  where
    no : (b : Bool) → false ≡ (b && false)
    no true = refl
    no false = refl
filter_among zs (x ∷ xs) y = on (is_among zs x) refl (filter_among zs xs y)
  where
    rest : List Var
    rest = filter (is_among zs) xs

    on : (b : Bool) → is_among zs x ≡ b → is_among rest y ≡ (is_among zs y && is_among xs y) → is_among (if b then x ∷ rest else rest) y ≡ (is_among zs y && (var_eq x y || is_among xs y))
    on true e h =
        ap (λ c. var_eq x y || c) h
        ∙ both_of (var_eq x y) (is_among zs y) (is_among xs y) (λ same. sym (ap (is_among zs) (same_variable x y same)) ∙ e)
    on false e h =
        h ∙ drop_of (var_eq x y) (is_among zs y) (is_among xs y) (λ same. sym (ap (is_among zs) (same_variable x y same)) ∙ e)

-- a global is among the globals, where there are so many
counted : (k n j : ℕ) → nat_lt j k ≡ false → nat_lt j (k + n) ≡ true → is_among (map Global (count_from k n)) (Global j) ≡ true
counted k zero j h l = absurd (let bad : ⊥ = grind (arith, nat_tests, h, l) in bad)
counted k (suc n) j h l = on (k == j) refl (counted (suc k) n j)
  where
    on : (b : Bool) → (k == j) ≡ b → (nat_lt j (suc k) ≡ false → nat_lt j (suc k + n) ≡ true → is_among (map Global (count_from (suc k) n)) (Global j) ≡ true) → (b || is_among (map Global (count_from (suc k) n)) (Global j)) ≡ true
    on true e more = refl
    on false e more = more (grind (arith, nat_tests, h, e)) (grind (arith, nat_tests, l))

no_local : (ks : List ℕ) (j : ℕ) → is_among (map Global ks) (Local j) ≡ false
no_local [] j = refl
no_local (k ∷ ks) j = no_local ks j

-- of the variables that there are, the declared globals that a list names are those that it names
same_in : (i z g : Bool) → (i ≡ true → z ≡ true → g ≡ true) → (i && z) ≡ (i && (z && g))
same_in true true true h = refl
same_in true true false h = absurd (let bad : false ≡ true = h refl refl in cc)
same_in true false g h = refl
same_in false z g h = refl

declared : (g f : ℕ) (ks : List ℕ) (y : Var) → (is_in g f y && is_among (map Global ks) y) ≡ (is_in g f y && is_among (filter (is_among (map Global ks)) (map Global (count_from 0 g))) y)
declared g f ks (Global j) =
    same_in (is_in g f (Global j)) (is_among (map Global ks) (Global j)) (is_among (map Global (count_from 0 g)) (Global j)) (λ i z. counted 0 g j (grind (arith, nat_tests)) (grind (arith, nat_tests, i)))
    ∙ sym (ap (λ c. is_in g f (Global j) && c) (filter_among (map Global ks) (map Global (count_from 0 g)) (Global j)))
declared g f ks (Local j) =
    same_in (is_in g f (Local j)) (is_among (map Global ks) (Local j)) (is_among (map Global (count_from 0 g)) (Local j)) (λ i z. absurd (let bad : ⊥ = (let no = no_local ks j in cc) in bad))
    ∙ sym (ap (λ c. is_in g f (Local j) && c) (filter_among (map Global ks) (map Global (count_from 0 g)) (Local j)))

no_change : (i : Bool) → (i && false) ≡ (i && false)
no_change i = refl

-- what a procedure modifies
callee : (named : ℕ → Ty) (p : r.Program) (g f : ℕ) → g ≡ length p.globals → (qs : List r.Proc) (k : ℕ) (y : Var) → (is_in g f y && is_among (modifies_of (slice_get qs k)) y) ≡ (is_in g f y && is_among (modified_by (meaning_of p) (slice_get (map (proc_of named) qs) k)) y)
callee named p g f h [] k y = refl
callee named p g f h (q ∷ qs) zero y =
    declared g f q.modifies y
    ∙ ap (λ n. is_in g f y && is_among (filter (is_among (map Global q.modifies)) (map Global (count_from 0 n))) y) (h ∙ sym (length-map p.globals (decl_of (named_of p.types))))
callee named p g f h (q ∷ qs) (suc k) y = callee named p g f h qs k y

mutual
  pub st_sized : (g f : ℕ) (qs : List r.Proc) (s : r.St) (m : Marks) → Sized g f m → Sized g f (mark_st qs s m)
  st_sized g f qs (r.Label l) m z = z
  st_sized g f qs (r.Assert k) m z = z
  st_sized g f qs (r.Assume e) m z = z
  st_sized g f qs (r.Havoc xs) m z = marks_sized g f (map variable_of xs) m z
  st_sized g f qs (r.Assign p ts es) m z = marks_sized g f (map target_variable ts) m z
  st_sized g f qs (r.Invoke k) m z = marks_sized g f (modifies_of (slice_get qs k.procedure)) _ (marks_sized g f (map variable_of k.takes) m z)
  st_sized g f qs (r.If n arms otherwise) m z = sts_sized g f qs otherwise _ (arms_sized g f qs arms m z)
  st_sized g f qs (r.While n p guard is body) m z = sts_sized g f qs body m z
  st_sized g f qs (r.Break n) m z = z
  st_sized g f qs (r.Goto ls) m z = z
  st_sized g f qs r.Return m z = z

  pub sts_sized : (g f : ℕ) (qs : List r.Proc) (ss : r.Sts) (m : Marks) → Sized g f m → Sized g f (mark_sts qs ss m)
  sts_sized g f qs r.NoSt m z = z
  sts_sized g f qs (r.Then a b) m z = sts_sized g f qs b _ (st_sized g f qs a m z)

  pub arms_sized : (g f : ℕ) (qs : List r.Proc) (arms : r.Arms) (m : Marks) → Sized g f m → Sized g f (mark_arms qs arms m)
  arms_sized g f qs r.NoArm m z = z
  arms_sized g f qs (r.Arm guard body arms) m z = arms_sized g f qs arms _ (sts_sized g f qs body m z)

nothing : (i b : Bool) → b ≡ ((i && false) || b)
nothing true b = refl
nothing false b = refl

mutual
  pub st_read : (p : r.Program) (g f : ℕ) → g ≡ length p.globals → (s : r.St) (y : Var) (m : Marks) → Sized g f m → has_mark (mark_st p.procedures s m) y ≡ ((is_in g f y && may_change (meaning_of p) (st_of s) y) || has_mark m y)
  st_read p g f h (r.Label l) y m z = nothing (is_in g f y) (has_mark m y)
  st_read p g f h (r.Assert k) y m z = nothing (is_in g f y) (has_mark m y)
  st_read p g f h (r.Assume e) y m z = nothing (is_in g f y) (has_mark m y)
  st_read p g f h (r.Havoc xs) y m z = marks_read g f (map variable_of xs) y m z
  st_read p g f h (r.Assign q ts es) y m z = marks_read g f (map target_variable ts) y m z
  st_read p g f h (r.Invoke k) y m z =
      two (is_in g f y) (is_among (map variable_of k.takes) y) (is_among (modified_by (meaning_of p) (procedure_of (meaning_of p) k.procedure)) y) _ _ _
      (marks_read g f (modifies_of (slice_get p.procedures k.procedure)) y _ (marks_sized g f (map variable_of k.takes) m z)
      ∙ ap (λ c. c || has_mark (with_marks (map variable_of k.takes) m) y) (callee (named_of p.types) p g f h p.procedures k.procedure y))
      (marks_read g f (map variable_of k.takes) y m z)
  st_read p g f h (r.If n arms otherwise) y m z =
      arms_then p g f h n arms (sts_of otherwise) (mark_sts p.procedures otherwise) y (λ v s. sts_read p g f h otherwise y v s) m z
  st_read p g f h (r.While n q guard is body) y m z = sts_read p g f h body y m z
  st_read p g f h (r.Break n) y m z = nothing (is_in g f y) (has_mark m y)
  st_read p g f h (r.Goto ls) y m z = nothing (is_in g f y) (has_mark m y)
  st_read p g f h r.Return y m z = nothing (is_in g f y) (has_mark m y)

  pub sts_read : (p : r.Program) (g f : ℕ) → g ≡ length p.globals → (ss : r.Sts) (y : Var) (m : Marks) → Sized g f m → has_mark (mark_sts p.procedures ss m) y ≡ ((is_in g f y && may_change (meaning_of p) (sts_of ss) y) || has_mark m y)
  sts_read p g f h r.NoSt y m z = nothing (is_in g f y) (has_mark m y)
  sts_read p g f h (r.Then a b) y m z =
      two (is_in g f y) (may_change (meaning_of p) (st_of a) y) (may_change (meaning_of p) (sts_of b) y) _ _ _
      (sts_read p g f h b y _ (st_sized g f p.procedures a m z))
      (st_read p g f h a y m z)

  pub arms_then : (p : r.Program) (g f : ℕ) → g ≡ length p.globals → (n : ℕ) (arms : r.Arms) (rest : St) (more : Marks → Marks) (y : Var) → ((v : Marks) → Sized g f v → has_mark (more v) y ≡ ((is_in g f y && may_change (meaning_of p) rest y) || has_mark v y)) → (m : Marks) → Sized g f m → has_mark (more (mark_arms p.procedures arms m)) y ≡ ((is_in g f y && may_change (meaning_of p) (arms_of n arms rest) y) || has_mark m y)
  arms_then p g f h n r.NoArm rest more y e m z = e m z
  arms_then p g f h n (r.Arm guard body arms) rest more y e m z =
      two (is_in g f y) (may_change (meaning_of p) (sts_of body) y) (may_change (meaning_of p) (arms_of (suc n) arms rest) y) _ _ _
      (arms_then p g f h (suc n) arms rest more y e _ (sts_sized g f p.procedures body m z))
      (sts_read p g f h body y m z)
