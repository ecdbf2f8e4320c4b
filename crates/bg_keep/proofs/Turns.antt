-- One turn of each loop, and its end.
use Rattle.std.proofs.Common.{◌≡◌, ℕ, zero, suc, ◌+◌, ◌<◌, ◌≤◌, List, [], ◌∷◌, ◌++◌, map, take, drop, length, slice_set, Option, refl, ap, sym, ◌∙◌, append_assoc, arith}
use Rattle.std.specs.Prelude.{get_or}
use Rattle.bg_text.specs.declared.tree.TreeClause.{TreeClause}
use Rattle.bg_text.specs.declared.tree.TreeArm.{TreeArm}
use Rattle.bg_text.specs.declared.tree.TreeStmt.{TreeStmt}
use Rattle.bg_text.specs.declared.tree.Spec.{Spec}
use Rattle.bg_text.specs.declared.tree.Decl.{Decl}
use Rattle.bg_text.specs.Trees as t
use Rattle.bg_text.specs.Views as v
use Rattle.bg_ast.specs.declared.resolved.Arm.{Arm}
use Rattle.bg_ast.specs.declared.resolved.Stmt.{Stmt}
use Rattle.bg_ast.specs.Resolved as r
use Rattle.bg_ast.specs.Views as u
use Rattle.bg_words.specs.Sets.{Numbers}
use Rattle.bg_names.proofs.Firsts.{drop_item}
use Rattle.bg_keep.specs.Kept.{before}
use Rattle.bg_keep.specs.Guesses.{Names}
use Rattle.bg_keep.specs.Told as s
use Rattle.bg_keep.proofs.Rows.{drop_set, drop_next}

-- what is made, with what one more item gives before what is left
pub one_more : {A : Type 0} (made new here rest whole : List A) → made ++ (here ++ rest) ≡ whole → new ≡ made ++ here → new ++ rest ≡ whole
one_more made new here rest whole known is = ap (λ x. x ++ rest) is ∙ append_assoc made here rest ∙ known

module _ (set : Numbers) (f : Names) where
  pub clauses_turn : (told : List r.Clause) (made new : List t.Clause) (ks : List TreeClause) (i : ℕ) (k k' : TreeClause) (c : Option ℕ) (whole : List t.Clause) → i < length ks → k ≡ get_or ks i k → c ≡ s.first_candidate (drop i told) → made ++ s.told_clauses set f (drop i told) (map v.clause_of (drop i ks)) ≡ whole → new ≡ made ++ s.told_clause set c (v.clause_of k) → new ++ s.told_clauses set f (drop (i + 1) told) (map v.clause_of (drop (i + 1) (slice_set ks i k'))) ≡ whole
  clauses_turn told made new ks i k k' c whole lt at first known is =
      let here = s.told_clause set (s.first_candidate (drop i told)) (v.clause_of k) in
      let rest = s.told_clauses set f (drop 1 (drop i told)) (map v.clause_of (drop (i + 1) ks)) in
      ap (λ l. new ++ s.told_clauses set f (drop (i + 1) told) (map v.clause_of l)) (drop_set ks i k')
      ∙ ap (λ l. new ++ s.told_clauses set f l (map v.clause_of (drop (i + 1) ks))) (sym (drop_next told i))
      ∙ one_more made new here rest whole (ap (λ l. made ++ s.told_clauses set f (drop i told) (map v.clause_of l)) (sym (drop_item ks i k lt at)) ∙ known) (is ∙ ap (λ x. made ++ s.told_clause set x (v.clause_of k)) first)

  pub specs_turn : (qs es : List r.Clause) (made new : List t.Spec) (parts : List Spec) (i a b a' b' : ℕ) (p p' : Spec) (whole : List t.Spec) → i < length parts → p ≡ get_or parts i p → drop a' qs ≡ drop (s.requires_count (v.spec_of p)) (drop a qs) → drop b' es ≡ drop (s.ensures_count (v.spec_of p)) (drop b es) → made ++ s.told_specs set f (drop a qs) (drop b es) (map v.spec_of (drop i parts)) ≡ whole → new ≡ made ++ s.told_spec set (drop a qs) (drop b es) (v.spec_of p) → new ++ s.told_specs set f (drop a' qs) (drop b' es) (map v.spec_of (drop (i + 1) (slice_set parts i p'))) ≡ whole
  specs_turn qs es made new parts i a b a' b' p p' whole lt at one two known is =
      rw (drop_set parts i p', one, two) (
      one_more made new (s.told_spec set (drop a qs) (drop b es) (v.spec_of p)) (s.told_specs set f (drop (s.requires_count (v.spec_of p)) (drop a qs)) (drop (s.ensures_count (v.spec_of p)) (drop b es)) (map v.spec_of (drop (i + 1) parts))) whole (ap (λ l. made ++ s.told_specs set f (drop a qs) (drop b es) (map v.spec_of l)) (sym (drop_item parts i p lt at)) ∙ known) is
      )

module _ (set : Numbers) (gs : List r.Declared) where
  pub decls_turn : (qs : List r.Proc) (ms : List r.Impl) (made new : List t.Decl) (ds : List Decl) (i a b a' b' : ℕ) (d d' : Decl) (whole : List t.Decl) → i < length ds → d ≡ get_or ds i d → drop a' qs ≡ drop (s.procedure_count (v.decl_of d)) (drop a qs) → drop b' ms ≡ drop (s.implementation_count (v.decl_of d)) (drop b ms) → made ++ s.told_decls set gs (drop a qs) (drop b ms) (map v.decl_of (drop i ds)) ≡ whole → new ≡ made ++ s.told_decl set gs (drop a qs) (drop b ms) (v.decl_of d) → new ++ s.told_decls set gs (drop a' qs) (drop b' ms) (map v.decl_of (drop (i + 1) (slice_set ds i d'))) ≡ whole
  decls_turn qs ms made new ds i a b a' b' d d' whole lt at one two known is =
      rw (drop_set ds i d', one, two) (
      one_more made new (s.told_decl set gs (drop a qs) (drop b ms) (v.decl_of d)) (s.told_decls set gs (drop (s.procedure_count (v.decl_of d)) (drop a qs)) (drop (s.implementation_count (v.decl_of d)) (drop b ms)) (map v.decl_of (drop (i + 1) ds))) whole (ap (λ l. made ++ s.told_decls set gs (drop a qs) (drop b ms) (map v.decl_of l)) (sym (drop_item ds i d lt at)) ∙ known) is
      )

-- statements before others, one list behind the other
before_append : (xs ys : List t.St) (rest : t.Sts) → before (xs ++ ys) rest ≡ before xs (before ys rest)
before_append [] ys rest = refl
before_append (x ∷ xs) ys rest = ap (t.Then x) (before_append xs ys rest)

before_none : (xs : List t.St) → before xs t.NoSt ≡ v.sts_from xs
before_none [] = refl
before_none (x ∷ xs) = ap (t.Then x) (before_none xs)

-- arms before others
abbrev pub arms_before : List v.Armed → t.Arms → t.Arms
arms_before [] rest = rest
arms_before (x ∷ xs) rest = t.Arm x.0 x.1 (arms_before xs rest)

module _ (set : Numbers) (f : Names) where
  pub sts_turn : (told : List Stmt) (made new : List t.St) (ss : List TreeStmt) (i : ℕ) (b : Stmt) (a a' : TreeStmt) (whole : t.Sts) → i < length ss → i < length told → a ≡ get_or ss i a → b ≡ get_or told i b → before made (s.told_sts set f (v.sts_in (drop i ss)) (u.sts_in (drop i told))) ≡ whole → new ≡ made ++ s.told_st set f (v.st_of a) (u.st_of b) → before new (s.told_sts set f (v.sts_in (drop (i + 1) (slice_set ss i a'))) (u.sts_in (drop (i + 1) told))) ≡ whole
  sts_turn told made new ss i b a a' whole lt lt' at at' known is =
      let rest = s.told_sts set f (v.sts_in (drop (i + 1) ss)) (u.sts_in (drop (i + 1) told)) in
      ap (λ l. before new (s.told_sts set f (v.sts_in l) (u.sts_in (drop (i + 1) told)))) (drop_set ss i a')
      ∙ ap (λ x. before x rest) is
      ∙ before_append made (s.told_st set f (v.st_of a) (u.st_of b)) rest
      ∙ ap (λ l. before made (s.told_sts set f (v.sts_in l) (u.sts_in (b ∷ drop (i + 1) told)))) (sym (drop_item ss i a lt at))
      ∙ ap (λ l. before made (s.told_sts set f (v.sts_in (drop i ss)) (u.sts_in l))) (sym (drop_item told i b lt' at'))
      ∙ known

  none_told : (ss : t.Sts) → s.told_sts set f ss r.NoSt ≡ t.NoSt
  none_told t.NoSt = refl
  none_told (t.Then a rest) = refl

  nothing_left : (ss : List TreeStmt) (told : List Stmt) (i : ℕ) → (i < length ss → length told ≤ i) → s.told_sts set f (v.sts_in (drop i ss)) (u.sts_in (drop i told)) ≡ t.NoSt
  nothing_left [] told zero end = refl
  nothing_left [] told (suc i) end = refl
  nothing_left (a ∷ ss) [] zero end = refl
  nothing_left (a ∷ ss) [] (suc i) end = none_told (v.sts_in (drop i ss))
  nothing_left (a ∷ ss) (b ∷ told) zero end = absurd (omega (arith, end (omega arith)))
  nothing_left (a ∷ ss) (b ∷ told) (suc i) end = nothing_left ss told i (λ lt. omega (arith, end (omega (arith, lt))))

  -- what is made is all, once one of the lists is at its end
  pub sts_end : (told : List Stmt) (made : List t.St) (ss : List TreeStmt) (i : ℕ) (whole : t.Sts) → (i < length ss → length told ≤ i) → before made (s.told_sts set f (v.sts_in (drop i ss)) (u.sts_in (drop i told))) ≡ whole → v.sts_from made ≡ whole
  sts_end told made ss i whole end known =
      sym (before_none made)
      ∙ ap (before made) (sym (nothing_left ss told i end))
      ∙ known

  arms_same : (rs : r.Arms) (xs : List TreeArm) (i : ℕ) (a a' : TreeArm) → i < length xs → a ≡ get_or xs i a → v.guard_of a'.guard ≡ v.guard_of a.guard → v.sts_in a'.block.items ≡ s.told_sts set f (v.sts_in a.block.items) (s.first_body rs) →
      arms_before (map v.arm_view (take (suc i) (slice_set xs i a'))) (s.told_arms set f (v.arms_from (map v.arm_view (drop (suc i) (slice_set xs i a')))) (s.next_arms rs))
      ≡ arms_before (map v.arm_view (take i xs)) (s.told_arms set f (v.arms_from (map v.arm_view (drop i xs))) rs)
  arms_same rs [] i a a' lt e d f = absurd (omega arith)
  arms_same rs (x ∷ xs) zero a a' lt e d f = rw (d, f, e) refl
  arms_same rs (x ∷ xs) (suc i) a a' lt e d f = ap (t.Arm (v.guard_of x.guard) (v.sts_in x.block.items)) (arms_same rs xs i a a' (omega arith) e d f)

  next_arm : (told : List Arm) (i : ℕ) → s.next_arms (u.arms_from (map u.arm_view (drop i told))) ≡ u.arms_from (map u.arm_view (drop (suc i) told))
  next_arm [] zero = refl
  next_arm [] (suc i) = refl
  next_arm (x ∷ told) zero = refl
  next_arm (x ∷ told) (suc i) = next_arm told i

  pub arms_turn : (told : List Arm) (xs : List TreeArm) (i : ℕ) (a a' : TreeArm) → i < length xs → a ≡ get_or xs i a → v.guard_of a'.guard ≡ v.guard_of a.guard → v.sts_in a'.block.items ≡ s.told_sts set f (v.sts_in a.block.items) (s.first_body (u.arms_from (map u.arm_view (drop i told)))) →
      arms_before (map v.arm_view (take (i + 1) (slice_set xs i a'))) (s.told_arms set f (v.arms_from (map v.arm_view (drop (i + 1) (slice_set xs i a')))) (u.arms_from (map u.arm_view (drop (i + 1) told))))
      ≡ arms_before (map v.arm_view (take i xs)) (s.told_arms set f (v.arms_from (map v.arm_view (drop i xs))) (u.arms_from (map u.arm_view (drop i told))))
  arms_turn told xs i a a' lt e d f =
      let n : i + 1 ≡ suc i = omega arith in
      rw (n, sym (next_arm told i)) (arms_same (u.arms_from (map u.arm_view (drop i told))) xs i a a' lt e d f)

  arms_done : (rs : r.Arms) (xs : List TreeArm) (i : ℕ) → length xs < suc i → arms_before (map v.arm_view (take i xs)) (s.told_arms set f (v.arms_from (map v.arm_view (drop i xs))) rs) ≡ v.arms_from (map v.arm_view xs)
  arms_done rs [] zero lt = refl
  arms_done rs [] (suc i) lt = refl
  arms_done rs (x ∷ xs) zero lt = absurd (omega arith)
  arms_done rs (x ∷ xs) (suc i) lt = ap (t.Arm (v.guard_of x.guard) (v.sts_in x.block.items)) (arms_done rs xs i (omega arith))

  pub arms_end : (told : List Arm) (xs : List TreeArm) (i : ℕ) (whole : t.Arms) → length xs < suc i → arms_before (map v.arm_view (take i xs)) (s.told_arms set f (v.arms_from (map v.arm_view (drop i xs))) (u.arms_from (map u.arm_view (drop i told)))) ≡ whole → v.arms_from (map v.arm_view xs) ≡ whole
  arms_end told xs i whole lt known = sym (arms_done (u.arms_from (map u.arm_view (drop i told))) xs i lt) ∙ known
