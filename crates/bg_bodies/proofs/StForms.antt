-- How each form of a statement is named, at the lists that the code meets.
use Rattle.std.proofs.Common.{◌≡◌, ℕ, zero, suc, ◌+◌, ◌<◌, ◌≤◌, Bool, true, List, [], ◌∷◌, ◌++◌, map, flat_map, length, drop, get_or, Option, refl, sym, ap, ◌∙◌, append_assoc, arith, Vec, Global}
use Rattle.std.proofs.lemmas.List.{map-append, length-map}
use Rattle.bg_base.specs.declared.pos.Pos.{Pos}
use Rattle.bg_text.specs.declared.tree.TreeClause.{TreeClause}
use Rattle.bg_text.specs.declared.tree.TreeGuard.{TreeGuard}
use Rattle.bg_text.specs.declared.tree.TreeArm.{TreeArm}
use Rattle.bg_text.specs.declared.tree.TreeStmt.{TreeStmt}
use Rattle.bg_text.specs.declared.tree.TreeStmt.TheVariants as stmt
use Rattle.bg_text.specs.Trees as t
use Rattle.bg_text.specs.Views as v
use Rattle.bg_text.proofs.Lists as w
use Rattle.bg_ast.specs.declared.resolved.Arm.{Arm}
use Rattle.bg_ast.specs.declared.resolved.Clause.{Clause}
use Rattle.bg_ast.specs.declared.resolved.Guard.{Guard}
use Rattle.bg_names.proofs.Forms.{both}
use Rattle.bg_ast.specs.declared.resolved.Stmt.{Stmt}
use Rattle.bg_ast.specs.declared.resolved.Stmt.TheVariants as made
use Rattle.bg_ast.specs.Resolved as r
use Rattle.bg_ast.specs.Views as u
use Rattle.bg_ast.proofs.Lists as z
use Rattle.bg_names.specs.Faults.{Fault, better}
use Rattle.bg_names.specs.Spaces.{Scope}
use Rattle.bg_names.specs.Clauses.{clause_faults, named_clause, named_clauses}
use Rattle.bg_names.specs.Inside.{Inside, entered}
use Rattle.bg_bodies.specs.Bodies.{arm_count, st_faults, sts_faults, arms_faults, named_guard, guard_faults, named_st, named_sts, named_arms, st_count, sts_count, arms_count, labels_in, before_next, pass}
use Rattle.bg_bodies.specs.Views.{tree_sts, tree_arms}
use Rattle.bg_names.proofs.Firsts.{better_append, drop_item, after, fuse_flat}

pub if_node-is : (n : ℕ) (arms : Vec Arm Global) (ss : Vec Stmt Global) → u.st_of (made.If n arms ss) ≡ r.If n (u.arms_from (map u.arm_view arms.items)) (u.sts_in ss.items)
if_node-is n arms ss = z.st_of-If n arms ss

pub arm_count-of : (arms : List TreeArm) → arm_count (tree_arms arms) ≡ length arms
arm_count-of [] = refl
arm_count-of (a ∷ arms) = let h = arm_count-of arms in omega (arith, h)

-- clauses that are made, before the rest
pub clauses_step : (s : Scope) (made new : List Clause) (ks : List TreeClause) (i : ℕ) (k : TreeClause) (x : Clause) (n m : ℕ) (whole : List r.Clause) → i < length ks → k ≡ get_or ks i k → map u.clause_of made ++ named_clauses s n (map v.clause_of (drop i ks)) ≡ whole → u.clause_of x ≡ named_clause s n (v.clause_of k) → new ≡ made ++ x ∷ [] → m ≡ n + 1 → map u.clause_of new ++ named_clauses s m (map v.clause_of (drop (i + 1) ks)) ≡ whole
clauses_step s made new ks i k x n m whole lt at known is e next =
    let rest = map v.clause_of (drop (i + 1) ks) in
    ap (λ l. map u.clause_of l ++ named_clauses s m rest) e
    ∙ ap (λ l. l ++ named_clauses s m rest) (map-append u.clause_of made (x ∷ []))
    ∙ append_assoc (map u.clause_of made) (u.clause_of x ∷ []) (named_clauses s m rest)
    ∙ rw (is, next) (ap (λ l. map u.clause_of made ++ named_clauses s n (map v.clause_of l)) (sym (drop_item ks i k lt at)))
    ∙ known

pub count_step : {A : Type 0} (ks : List A) (i : ℕ) (k : A) (n m whole : ℕ) → i < length ks → k ≡ get_or ks i k → n + length (drop i ks) ≡ whole → m ≡ n + 1 → m + length (drop (i + 1) ks) ≡ whole
count_step ks i k n m whole lt at known next =
    let one = ap length (drop_item ks i k lt at) in
    omega (arith, one, known, next)

-- statements that are made, before the rest
abbrev pub onto : List r.St → r.Sts → r.Sts
onto [] rest = rest
onto (x ∷ xs) rest = r.Then x (onto xs rest)

pub onto_none : (xs : List r.St) → onto xs r.NoSt ≡ u.sts_from xs
onto_none [] = refl
onto_none (x ∷ xs) = ap (r.Then x) (onto_none xs)

pub onto_more : (xs : List r.St) (x : r.St) (rest : r.Sts) → onto (xs ++ x ∷ []) rest ≡ onto xs (r.Then x rest)
onto_more [] x rest = refl
onto_more (y ∷ ys) x rest = ap (r.Then y) (onto_more ys x rest)

abbrev pub arms_onto : List u.Armed → r.Arms → r.Arms
arms_onto [] rest = rest
arms_onto (x ∷ xs) rest = r.Arm x.0 x.1 (arms_onto xs rest)

pub arms_none : (xs : List u.Armed) → arms_onto xs r.NoArm ≡ u.arms_from xs
arms_none [] = refl
arms_none (x ∷ xs) = ap (r.Arm x.0 x.1) (arms_none xs)

pub arms_more : (xs : List u.Armed) (x : u.Armed) (rest : r.Arms) → arms_onto (xs ++ x ∷ []) rest ≡ arms_onto xs (r.Arm x.0 x.1 rest)
arms_more [] x rest = refl
arms_more (y ∷ ys) x rest = ap (r.Arm y.0 y.1) (arms_more ys x rest)

-- the labels of the rest
pub labels_pass : (b : Inside) (s : t.St) (ss : t.Sts) (ahead : List ℕ) → pass s (labels_in b (t.Then s ss) ++ ahead) ≡ labels_in b ss ++ ahead
labels_pass b (t.Label x) ss ahead = refl
labels_pass b (t.Assert k) ss ahead = refl
labels_pass b (t.Assume k) ss ahead = refl
labels_pass b (t.Havoc p xs) ss ahead = refl
labels_pass b (t.Assign p xs es) ss ahead = refl
labels_pass b (t.Invoke c) ss ahead = refl
labels_pass b (t.If p arms) ss ahead = refl
labels_pass b (t.IfElse p arms body) ss ahead = refl
labels_pass b (t.While p g is body) ss ahead = refl
labels_pass b (t.Break p x) ss ahead = refl
labels_pass b (t.Goto p xs) ss ahead = refl
labels_pass b (t.Return p) ss ahead = refl

pub while_node-is : (n : ℕ) (p : Pos) (g : Guard) (ks : Vec Clause Global) (ss : Vec Stmt Global) → u.st_of (made.While n p g ks ss) ≡ r.While n p (u.guard_of g) (map u.clause_of ks.items) (u.sts_in ss.items)
while_node-is n p g ks ss = z.st_of-While n p g ks ss

pub drop_end : {A : Type 0} (xs : List A) (i : ℕ) → length xs ≤ i → drop i xs ≡ []
drop_end [] zero h = refl
drop_end [] (suc i) h = refl
drop_end (x ∷ xs) zero h = absurd (omega (arith, h))
drop_end (x ∷ xs) (suc i) h = drop_end xs i (omega (arith, h))

module _ (b : Inside) (loop : ℕ) (in_loop : Bool) (blocks : List (ℕ × ℕ)) (around outer : List ℕ) where
  pub sts_step : (made new : List Stmt) (ss : List TreeStmt) (i : ℕ) (s : TreeStmt) (x : Stmt) (n m : ℕ) (before before' ahead ahead' : List ℕ) (best best' : Option Fault) (whole : r.Sts) (first : Option Fault) (count : ℕ) → i < length ss → s ≡ get_or ss i s → onto (map u.st_of made) (named_sts b n loop blocks before (tree_sts (drop i ss))) ≡ whole → better best (sts_faults b outer in_loop around before (tree_sts (drop i ss))) ≡ first → n + sts_count (tree_sts (drop i ss)) ≡ count → ahead ≡ labels_in b (tree_sts (drop i ss)) ++ outer → u.st_of x ≡ named_st b n loop blocks before (v.st_of s) → best' ≡ better best (st_faults b (pass (v.st_of s) ahead) in_loop around before (v.st_of s)) → m ≡ n + st_count (v.st_of s) → ahead' ≡ pass (v.st_of s) ahead → before' ≡ before_next b before (v.st_of s) → new ≡ made ++ x ∷ [] → (onto (map u.st_of new) (named_sts b m loop blocks before' (tree_sts (drop (i + 1) ss))) ≡ whole) × (better best' (sts_faults b outer in_loop around before' (tree_sts (drop (i + 1) ss))) ≡ first) × (m + sts_count (tree_sts (drop (i + 1) ss)) ≡ count) × (ahead' ≡ labels_in b (tree_sts (drop (i + 1) ss)) ++ outer)
  sts_step made new ss i s x n m before before' ahead ahead' best best' whole first count lt at known1 known2 known3 known4 hx hbest hm hahead hbefore is =
      let S = v.st_of s in
      let rest = tree_sts (drop (i + 1) ss) in
      let here = drop_item ss i s lt at in
      let counts = ap (λ l. sts_count (tree_sts l)) here in
      let passed : pass S ahead ≡ labels_in b rest ++ outer = ap (pass S) (known4 ∙ ap (λ l. labels_in b (tree_sts l) ++ outer) here) ∙ labels_pass b S rest outer in (
        ap (λ l. onto (map u.st_of l) (named_sts b m loop blocks before' rest)) is
            ∙ ap (λ l. onto l (named_sts b m loop blocks before' rest)) (map-append u.st_of made (x ∷ []))
            ∙ onto_more (map u.st_of made) (u.st_of x) (named_sts b m loop blocks before' rest)
            ∙ ap (onto (map u.st_of made)) (both r.Then hx (both (λ k l. named_sts b k loop blocks l rest) hm hbefore))
            ∙ ap (λ l. onto (map u.st_of made) (named_sts b n loop blocks before (tree_sts l))) (sym here)
            ∙ known1,
        both better hbest (ap (λ l. sts_faults b outer in_loop around l rest) hbefore)
            ∙ sym (better_append best (st_faults b (pass S ahead) in_loop around before S) (sts_faults b outer in_loop around (before_next b before S) rest))
            ∙ ap (λ a. better best (st_faults b a in_loop around before S ++ sts_faults b outer in_loop around (before_next b before S) rest)) passed
            ∙ ap (λ l. better best (sts_faults b outer in_loop around before (tree_sts l))) (sym here)
            ∙ known2,
        omega (arith, counts, known3, hm),
        hahead ∙ passed,
      )

  pub arms_step : (made new : List Arm) (ss : List TreeArm) (i : ℕ) (a : TreeArm) (x : Arm) (n m : ℕ) (best best' : Option Fault) (whole : r.Arms) (first : Option Fault) (count : ℕ) → i < length ss → a ≡ get_or ss i a → arms_onto (map u.arm_view made) (named_arms b n loop blocks (tree_arms (drop i ss))) ≡ whole → better best (arms_faults b outer in_loop around (tree_arms (drop i ss))) ≡ first → n + arms_count (tree_arms (drop i ss)) ≡ count → u.arm_view x ≡ (named_guard b (v.guard_of a.guard), named_sts b n loop blocks [] (tree_sts a.block.items)) → best' ≡ better best (guard_faults b (v.guard_of a.guard) ++ sts_faults b outer in_loop around [] (tree_sts a.block.items)) → m ≡ n + sts_count (tree_sts a.block.items) → new ≡ made ++ x ∷ [] → (arms_onto (map u.arm_view new) (named_arms b m loop blocks (tree_arms (drop (i + 1) ss))) ≡ whole) × (better best' (arms_faults b outer in_loop around (tree_arms (drop (i + 1) ss))) ≡ first) × (m + arms_count (tree_arms (drop (i + 1) ss)) ≡ count)
  arms_step made new ss i a x n m best best' whole first count lt at known1 known2 known3 hx hbest hm is =
      let rest = tree_arms (drop (i + 1) ss) in
      let here = drop_item ss i a lt at in
      let counts = ap (λ l. arms_count (tree_arms l)) here in
      let now = guard_faults b (v.guard_of a.guard) ++ sts_faults b outer in_loop around [] (tree_sts a.block.items) in (
        ap (λ l. arms_onto (map u.arm_view l) (named_arms b m loop blocks rest)) is
            ∙ ap (λ l. arms_onto l (named_arms b m loop blocks rest)) (map-append u.arm_view made (x ∷ []))
            ∙ arms_more (map u.arm_view made) (u.arm_view x) (named_arms b m loop blocks rest)
            ∙ ap (arms_onto (map u.arm_view made)) (both (λ p l. r.Arm p.0 p.1 l) hx (ap (λ k. named_arms b k loop blocks rest) hm))
            ∙ ap (λ l. arms_onto (map u.arm_view made) (named_arms b n loop blocks (tree_arms l))) (sym here)
            ∙ known1,
        ap (λ l. better l (arms_faults b outer in_loop around rest)) hbest
            ∙ sym (better_append best now (arms_faults b outer in_loop around rest))
            ∙ ap (λ l. better best (arms_faults b outer in_loop around (tree_arms l))) (sym here)
            ∙ known2,
        omega (arith, counts, known3, hm),
      )

module _ (b : Inside) (loop : ℕ) (in_loop : Bool) (before : List ℕ) where
  if_is : (p : Pos) (arms : Vec TreeArm Global) (s : TreeStmt) → s ≡ stmt.If p arms → v.st_of s ≡ t.If p (tree_arms arms.items)
  if_is p arms s h = ap v.st_of h ∙ w.st_of-If p arms

  else_is : (p : Pos) (arms : Vec TreeArm Global) (ss : Vec TreeStmt Global) (s : TreeStmt) → s ≡ stmt.IfElse p arms ss → v.st_of s ≡ t.IfElse p (tree_arms arms.items) (tree_sts ss.items)
  else_is p arms ss s h = ap v.st_of h ∙ w.st_of-IfElse p arms ss

  while_is : (p : Pos) (g : TreeGuard) (ks : Vec TreeClause Global) (ss : Vec TreeStmt Global) (s : TreeStmt) → s ≡ stmt.While p g ks ss → v.st_of s ≡ t.While p (v.guard_of g) (map v.clause_of ks.items) (tree_sts ss.items)
  while_is p g ks ss s h = ap v.st_of h ∙ w.st_of-While p g ks ss

  arms_made : (arms : List TreeArm) (n n1 len block : ℕ) (B B1 : List (ℕ × ℕ)) (items : List TreeArm) (M : r.Arms) → M ≡ named_arms b n1 loop (entered before block B1) (tree_arms items) → n1 ≡ n + len → len ≡ length arms → block ≡ n → B1 ≡ B → items ≡ arms → M ≡ named_arms b (n + arm_count (tree_arms arms)) loop (entered before n B) (tree_arms arms)
  arms_made arms n n1 len block B B1 items M h hn hlen hblock hB hitems =
      h
      ∙ rw (hn, hlen, hblock, hB, hitems) (ap (λ k. named_arms b (n + k) loop (entered before n B) (tree_arms arms)) (sym (arm_count-of arms)))

  pub if_made : (p : Pos) (arms : Vec TreeArm Global) (s : TreeStmt) (n n1 len block : ℕ) (B B1 : List (ℕ × ℕ)) (items : List TreeArm) (M : r.Arms) (other : List Stmt) (x : r.St) → s ≡ stmt.If p arms → x ≡ r.If block M (u.sts_in other) → other ≡ [] → M ≡ named_arms b n1 loop (entered before block B1) (tree_arms items) → n1 ≡ n + len → len ≡ length arms.items → block ≡ n → B1 ≡ B → items ≡ arms.items → x ≡ named_st b n loop B before (v.st_of s)
  if_made p arms s n n1 len block B B1 items M other x hs hx hother h hn hlen hblock hB hitems =
      hx
      ∙ ap (λ o. r.If block M (u.sts_in o)) hother
      ∙ both (λ k m. r.If k m r.NoSt) hblock (arms_made arms.items n n1 len block B B1 items M h hn hlen hblock hB hitems)
      ∙ sym (ap (named_st b n loop B before) (if_is p arms s hs))

  pub if_first : (p : Pos) (arms : Vec TreeArm Global) (s : TreeStmt) (items : List TreeArm) (f f1 new : Option Fault) (a a1 r r1 : List ℕ) → s ≡ stmt.If p arms → items ≡ arms.items → f1 ≡ f → a1 ≡ a → r1 ≡ r → new ≡ better f1 (arms_faults b a1 in_loop (before ++ r1) (tree_arms items)) → new ≡ better f (st_faults b a in_loop r before (v.st_of s))
  if_first p arms s items f f1 new a a1 r r1 hs hitems hf ha hr h =
      h
      ∙ rw (hitems, hf, ha, hr) refl
      ∙ sym (ap (λ x. better f (st_faults b a in_loop r before x)) (if_is p arms s hs))

  pub if_next : (p : Pos) (arms : Vec TreeArm Global) (s : TreeStmt) (items : List TreeArm) (n n1 m len : ℕ) → s ≡ stmt.If p arms → items ≡ arms.items → n1 ≡ n + len → len ≡ length arms.items → m ≡ n1 + arms_count (tree_arms items) → m ≡ n + st_count (v.st_of s)
  if_next p arms s items n n1 m len hs hitems hn hlen hm =
      let all = ap st_count (if_is p arms s hs) in
      let many = arm_count-of arms.items in
      let same = ap (λ l. arms_count (tree_arms l)) hitems in
      omega (arith, all, many, same, hn, hlen, hm)

  pub else_made : (p : Pos) (arms : Vec TreeArm Global) (ss : Vec TreeStmt Global) (s : TreeStmt) (n n1 n2 len block : ℕ) (B B1 B2 : List (ℕ × ℕ)) (items : List TreeArm) (others : List TreeStmt) (M : r.Arms) (other : List Stmt) (x : r.St) → s ≡ stmt.IfElse p arms ss → x ≡ r.If block M (u.sts_in other) → M ≡ named_arms b n1 loop (entered before block B1) (tree_arms items) → n1 ≡ n + len → len ≡ length arms.items → block ≡ n → B1 ≡ B → items ≡ arms.items → u.sts_in other ≡ named_sts b n2 loop (entered before block B2) [] (tree_sts others) → n2 ≡ n1 + arms_count (tree_arms items) → B2 ≡ B1 → others ≡ ss.items → x ≡ named_st b n loop B before (v.st_of s)
  else_made p arms ss s n n1 n2 len block B B1 B2 items others M other x hs hx h hn hlen hblock hB hitems k kn kB kothers =
      let many = arm_count-of arms.items in
      let same = ap (λ l. arms_count (tree_arms l)) hitems in
      let next : n2 ≡ n + arm_count (tree_arms arms.items) + arms_count (tree_arms arms.items) = omega (arith, many, same, hn, hlen, kn) in
      hx
      ∙ both (λ m o. r.If block m o) (arms_made arms.items n n1 len block B B1 items M h hn hlen hblock hB hitems) (k ∙ rw (next, hblock, kB, hB, kothers) refl)
      ∙ ap (λ l. r.If l (named_arms b (n + arm_count (tree_arms arms.items)) loop (entered before n B) (tree_arms arms.items)) (named_sts b (n + arm_count (tree_arms arms.items) + arms_count (tree_arms arms.items)) loop (entered before n B) [] (tree_sts ss.items))) hblock
      ∙ sym (ap (named_st b n loop B before) (else_is p arms ss s hs))

  pub else_first : (p : Pos) (arms : Vec TreeArm Global) (ss : Vec TreeStmt Global) (s : TreeStmt) (items : List TreeArm) (others : List TreeStmt) (f f1 f2 new : Option Fault) (a a1 a2 r r1 r2 : List ℕ) → s ≡ stmt.IfElse p arms ss → items ≡ arms.items → others ≡ ss.items → f1 ≡ f → a1 ≡ a → r1 ≡ r → a2 ≡ a1 → r2 ≡ r1 → f2 ≡ better f1 (arms_faults b a1 in_loop (before ++ r1) (tree_arms items)) → new ≡ better f2 (sts_faults b a2 in_loop (before ++ r2) [] (tree_sts others)) → new ≡ better f (st_faults b a in_loop r before (v.st_of s))
  else_first p arms ss s items others f f1 f2 new a a1 a2 r r1 r2 hs hitems hothers hf ha hr ka kr h k =
      after f f2 new (arms_faults b a in_loop (before ++ r) (tree_arms arms.items)) (sts_faults b a in_loop (before ++ r) [] (tree_sts ss.items)) (h ∙ rw (hitems, hf, ha, hr) refl) (k ∙ rw (hothers, ka, kr, ha, hr) refl)
      ∙ sym (ap (λ x. better f (st_faults b a in_loop r before x)) (else_is p arms ss s hs))

  pub else_next : (p : Pos) (arms : Vec TreeArm Global) (ss : Vec TreeStmt Global) (s : TreeStmt) (items : List TreeArm) (others : List TreeStmt) (n n1 n2 m len : ℕ) → s ≡ stmt.IfElse p arms ss → items ≡ arms.items → others ≡ ss.items → n1 ≡ n + len → len ≡ length arms.items → n2 ≡ n1 + arms_count (tree_arms items) → m ≡ n2 + sts_count (tree_sts others) → m ≡ n + st_count (v.st_of s)
  else_next p arms ss s items others n n1 n2 m len hs hitems hothers hn hlen hn2 hm =
      let all = ap st_count (else_is p arms ss s hs) in
      let many = arm_count-of arms.items in
      let same = ap (λ l. arms_count (tree_arms l)) hitems in
      let other = ap (λ l. sts_count (tree_sts l)) hothers in
      omega (arith, all, many, same, other, hn, hlen, hn2, hm)

  pub while_made : (p : Pos) (g : TreeGuard) (ks : Vec TreeClause Global) (ss : Vec TreeStmt Global) (s : TreeStmt) (n n1 n2 block : ℕ) (B B1 : List (ℕ × ℕ)) (clauses : List TreeClause) (body : List TreeStmt) (G : r.Guard) (K : List r.Clause) (S : r.Sts) (x : r.St) → s ≡ stmt.While p g ks ss → x ≡ r.While block p G K S → block ≡ n → n1 ≡ n + 1 → G ≡ named_guard b (v.guard_of g) → clauses ≡ ks.items → K ≡ named_clauses b.scope n1 (map v.clause_of clauses) → n2 ≡ n1 + length clauses → B1 ≡ B → body ≡ ss.items → S ≡ named_sts b n2 block (entered before block B1) [] (tree_sts body) → x ≡ named_st b n loop B before (v.st_of s)
  while_made p g ks ss s n n1 n2 block B B1 clauses body G K S x hs hx hblock hn hG hclauses hK hn2 hB hbody hS =
      let long : length (map v.clause_of ks.items) ≡ length ks.items = length-map ks.items v.clause_of in
      let many = ap length hclauses in
      let next : n2 ≡ n + 1 + length (map v.clause_of ks.items) = omega (arith, long, many, hn, hn2) in
      hx
      ∙ both (λ l m. r.While l p m K S) hblock hG
      ∙ both (r.While n p (named_guard b (v.guard_of g))) (hK ∙ rw (hn, hclauses) refl) (hS ∙ rw (next, hblock, hB, hbody) refl)
      ∙ sym (ap (named_st b n loop B before) (while_is p g ks ss s hs))

  pub while_first : (p : Pos) (g : TreeGuard) (ks : Vec TreeClause Global) (ss : Vec TreeStmt Global) (s : TreeStmt) (clauses : List TreeClause) (body : List TreeStmt) (f f1 f2 f3 new : Option Fault) (a a1 r r1 : List ℕ) → s ≡ stmt.While p g ks ss → f1 ≡ f → f2 ≡ better f1 (guard_faults b (v.guard_of g)) → clauses ≡ ks.items → f3 ≡ better f2 (flat_map (λ k. clause_faults b.scope (v.clause_of k)) clauses) → a1 ≡ a → r1 ≡ r → body ≡ ss.items → new ≡ better f3 (sts_faults b a1 true (before ++ r1) [] (tree_sts body)) → new ≡ better f (st_faults b a in_loop r before (v.st_of s))
  while_first p g ks ss s clauses body f f1 f2 f3 new a a1 r r1 hs hf hf2 hclauses hf3 ha hr hbody h =
      let gs = guard_faults b (v.guard_of g) in
      let is = flat_map (clause_faults b.scope) (map v.clause_of ks.items) in
      let bs = sts_faults b a true (before ++ r) [] (tree_sts ss.items) in
      after f f3 new (gs ++ is) bs (after f f2 f3 gs is (hf2 ∙ ap (λ l. better l gs) hf) (hf3 ∙ ap (better f2) (ap (flat_map (λ k. clause_faults b.scope (v.clause_of k))) hclauses ∙ sym (fuse_flat (clause_faults b.scope) v.clause_of ks.items)))) (h ∙ rw (ha, hr, hbody) refl)
      ∙ sym (ap (λ x. better f (st_faults b a in_loop r before x)) (while_is p g ks ss s hs))

  pub while_next : (p : Pos) (g : TreeGuard) (ks : Vec TreeClause Global) (ss : Vec TreeStmt Global) (s : TreeStmt) (clauses : List TreeClause) (body : List TreeStmt) (n n1 n2 m : ℕ) → s ≡ stmt.While p g ks ss → clauses ≡ ks.items → body ≡ ss.items → n1 ≡ n + 1 → n2 ≡ n1 + length clauses → m ≡ n2 + sts_count (tree_sts body) → m ≡ n + st_count (v.st_of s)
  while_next p g ks ss s clauses body n n1 n2 m hs hclauses hbody hn hn2 hm =
      let all = ap st_count (while_is p g ks ss s hs) in
      let long : length (map v.clause_of ks.items) ≡ length ks.items = length-map ks.items v.clause_of in
      let many = ap length hclauses in
      let other = ap (λ l. sts_count (tree_sts l)) hbody in
      omega (arith, all, long, many, other, hn, hn2, hm)
