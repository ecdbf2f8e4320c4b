-- Rows that come, behind rows in front.
use Rattle.std.proofs.Common.{◌≡◌, Bool, true, false, List, [], ◌∷◌, ◌++◌, refl, sym, ap, ◌∙◌, subst, append_assoc}
use Rattle.std.specs.Prelude.{◌||◌, if◌then◌else◌, Result, Ok, Err}
use Rattle.bg_base.specs.declared.exact.OutOfRange.{OutOfRange}
use Rattle.bg_ast.specs.Syntax as s
use Rattle.bg_passive.specs.Passive.{PassiveCmd, Edge, PassiveBlock}
use Rattle.bg_rows.specs.Rows.{RowOf, denied, is_empty}
use Rattle.bg_formula.specs.Atoms.{AtomOf, IsTruth, IsRow, row_eq}
use Rattle.bg_formula.specs.Meaning.{AtomsAgree}
use Rattle.bg_linear.specs.declared.scalar.Sort.{Sort}
use Rattle.bg_linear.specs.Relations.{relation}
use Rattle.bg_atoms.specs.Over.{relates_numbers}
use Rattle.bg_atoms.specs.Sources.{expression_of}
use Rattle.bg_atoms.specs.Listed.{is_there, add_row, with_row, with_rows, with_relation, with_ex, with_cmds, with_edges, with_block, with_blocks}
use Rattle.bg_ahead.specs.Rows.{fresh}
use Rattle.bg_ahead.proofs.Denials.{same_rows, row_itself, denied_back, denied_once, relation_agrees}

-- ---- lists

nil_behind : {A : Type 0} (xs : List A) → xs ++ [] ≡ xs
nil_behind [] = refl
nil_behind (x ∷ xs) = ap (λ l. x ∷ l) (nil_behind xs)

-- ---- rows that are there

pub there_append : (r : RowOf) (xs ys : List AtomOf) → is_there r (xs ++ ys) ≡ (is_there r xs || is_there r ys)
there_append r [] ys = refl
there_append r (IsTruth x ∷ xs) ys = there_append r xs ys
there_append r (IsRow a d ∷ xs) ys = ap (λ b. row_eq a r || (row_eq d r || b)) (there_append r xs ys) ∙ shuffle (row_eq a r) (row_eq d r)
  where
    shuffle : (b c : Bool) → (b || (c || (is_there r xs || is_there r ys))) ≡ ((b || (c || is_there r xs)) || is_there r ys)
    shuffle true c = refl
    shuffle false true = refl
    shuffle false false = refl

-- a row that stands in front, with its denial
pub there_first : (a d : RowOf) (rs : List AtomOf) → is_there a (IsRow a d ∷ rs) ≡ true
there_first a d rs = ap (λ b. b || (row_eq d a || is_there a rs)) (row_itself a)

there_second : (a d : RowOf) (rs : List AtomOf) → is_there d (IsRow a d ∷ rs) ≡ true
there_second a d rs = ap (λ b. row_eq a d || (b || is_there d rs)) (row_itself d) ∙ by_test (row_eq a d)
  where
    by_test : (b : Bool) → (b || true) ≡ true
    by_test true = refl
    by_test false = refl

there_on : (r a d : RowOf) (rs : List AtomOf) → is_there r rs ≡ true → is_there r (IsRow a d ∷ rs) ≡ true
there_on r a d rs h = by_tests (row_eq a r) (row_eq d r)
  where
    by_tests : (b c : Bool) → (b || (c || is_there r rs)) ≡ true
    by_tests true c = refl
    by_tests false true = refl
    by_tests false false = h

-- with a row its denial is there
pub there_denied : (r e : RowOf) (rows : List AtomOf) → AtomsAgree rows → denied r ≡ Ok e → is_there r rows ≡ true → is_there e rows ≡ true
there_denied r e [] h k t = absurd (let bad : ⊥ = cc in bad)
there_denied r e (IsTruth x ∷ rs) h k t = there_denied r e rs h k t
there_denied r e (IsRow a d ∷ rs) h k t = by_tests (there_denied r e rs h.1 k) (row_eq a r) (row_eq d r) refl refl t
  where
    by_tests : (is_there r rs ≡ true → is_there e rs ≡ true) → (b c : Bool) → row_eq a r ≡ b → row_eq d r ≡ c → (b || (c || is_there r rs)) ≡ true → is_there e (IsRow a d ∷ rs) ≡ true
    by_tests on true c f g t =
        let is : d ≡ e = denied_once r d e (ap denied (sym (same_rows a r f)) ∙ h.0) k in
        subst (λ x. is_there x (IsRow a d ∷ rs) ≡ true) is (there_second a d rs)
    by_tests on false true f g t =
        let is : e ≡ a = denied_back a d e h.0 (ap denied (same_rows d r g) ∙ k) in
        subst (λ x. is_there x (IsRow a d ∷ rs) ≡ true) (sym is) (there_first a d rs)
    by_tests on false false f g t = there_on e a d rs (on t)

module _ (front : List AtomOf) (agree : AtomsAgree front) where
  -- a row is there in front or among the fresh ones where it is in front or among those that came
  pub there_fresh : (r : RowOf) (rows : List AtomOf) → AtomsAgree rows → (is_there r front || is_there r (fresh front rows)) ≡ (is_there r front || is_there r rows)
  there_fresh r [] h = refl
  there_fresh r (IsTruth x ∷ rs) h = there_fresh r rs h
  there_fresh r (IsRow a d ∷ rs) h = by_test (there_fresh r rs h.1) (is_there a front) refl
    where
      kept : (t b c p q : Bool) → (t || p) ≡ (t || q) → (t || (b || (c || p))) ≡ (t || (b || (c || q)))
      kept true b c p q e = refl
      kept false true c p q e = refl
      kept false false true p q e = refl
      kept false false false p q e = e

      first : is_there a front ≡ true → row_eq a r ≡ true → is_there r front ≡ true
      first t f = subst (λ x. is_there x front ≡ true) (same_rows a r f) t

      second : is_there a front ≡ true → row_eq d r ≡ true → is_there r front ≡ true
      second t f = subst (λ x. is_there x front ≡ true) (same_rows d r f) (there_denied a d front agree h.0 t)

      left_out : (t b c p q : Bool) → (b ≡ true → t ≡ true) → (c ≡ true → t ≡ true) → (t || p) ≡ (t || q) → (t || p) ≡ (t || (b || (c || q)))
      left_out true b c p q f g e = refl
      left_out false true c p q f g e = absurd (let no = f refl in let bad : ⊥ = cc in bad)
      left_out false false true p q f g e = absurd (let no = g refl in let bad : ⊥ = cc in bad)
      left_out false false false p q f g e = e

      by_test : (is_there r front || is_there r (fresh front rs)) ≡ (is_there r front || is_there r rs) → (b : Bool) → is_there a front ≡ b → (is_there r front || is_there r (if b then fresh front rs else IsRow a d ∷ fresh front rs)) ≡ (is_there r front || is_there r (IsRow a d ∷ rs))
      by_test on true t = left_out (is_there r front) (row_eq a r) (row_eq d r) (is_there r (fresh front rs)) (is_there r rs) (first t) (second t) on
      by_test on false t = kept (is_there r front) (row_eq a r) (row_eq d r) (is_there r (fresh front rs)) (is_there r rs) on

  there_beside : (r : RowOf) (rows : List AtomOf) → AtomsAgree rows → is_there r (front ++ fresh front rows) ≡ (is_there r front || is_there r rows)
  there_beside r rows h = there_append r front (fresh front rows) ∙ there_fresh r rows h

  fresh_append : (xs ys : List AtomOf) → fresh front (xs ++ ys) ≡ fresh front xs ++ fresh front ys
  fresh_append [] ys = refl
  fresh_append (IsTruth x ∷ xs) ys = fresh_append xs ys
  fresh_append (IsRow a d ∷ xs) ys = by_test (fresh_append xs ys) (is_there a front)
    where
      by_test : fresh front (xs ++ ys) ≡ fresh front xs ++ fresh front ys → (b : Bool) → (if b then fresh front (xs ++ ys) else IsRow a d ∷ fresh front (xs ++ ys)) ≡ (if b then fresh front xs else IsRow a d ∷ fresh front xs) ++ fresh front ys
      by_test on true = on
      by_test on false = ap (λ l. IsRow a d ∷ l) on

  agree_append : (xs ys : List AtomOf) → AtomsAgree xs → AtomsAgree ys → AtomsAgree (xs ++ ys)
  agree_append [] ys h k = k
  agree_append (IsTruth x ∷ xs) ys h k = agree_append xs ys h k
  agree_append (IsRow r d ∷ xs) ys h k = (h.0, agree_append xs ys h.1 k)

  -- what makes more rows makes the same behind these, and they agree
  abbrev Beside : (List AtomOf → List AtomOf) → Type 0
  Beside more = (rows : List AtomOf) → AtomsAgree rows → AtomsAgree (more rows) × (more (front ++ fresh front rows) ≡ front ++ fresh front (more rows))

  beside_none : Beside (λ rows. rows)
  beside_none rows h = (h, refl)

  beside_then : (f g : List AtomOf → List AtomOf) → Beside f → Beside g → Beside (λ rows. g (f rows))
  beside_then f g p q rows h =
      let one = p rows h in
      let two = q (f rows) one.0 in
      (two.0, ap g one.1 ∙ two.1)

  beside_add : (r d : RowOf) → denied r ≡ Ok d → Beside (add_row (IsRow r d))
  beside_add r d e rows h = (agrees (is_there r rows), by_tests (is_there r front) refl (is_there r rows) refl)
    where
      agrees : (b : Bool) → AtomsAgree (if b then rows else rows ++ IsRow r d ∷ [])
      agrees true = h
      agrees false = agree_append rows (IsRow r d ∷ []) h (e, tt)

      added : Bool → List AtomOf → List AtomOf
      added b l = if b then l else l ++ IsRow r d ∷ []

      one_more : (b : Bool) → is_there r front ≡ b → fresh front (rows ++ IsRow r d ∷ []) ≡ fresh front rows ++ (if b then [] else IsRow r d ∷ [])
      one_more b t = fresh_append rows (IsRow r d ∷ []) ∙ ap (λ x. fresh front rows ++ (if x then [] else IsRow r d ∷ [])) t

      by_tests : (t : Bool) → is_there r front ≡ t → (u : Bool) → is_there r rows ≡ u → add_row (IsRow r d) (front ++ fresh front rows) ≡ front ++ fresh front (add_row (IsRow r d) rows)
      by_tests true t u f =
          ap (λ b. added b (front ++ fresh front rows)) (there_beside r rows h ∙ ap (λ b. b || is_there r rows) t)
          ∙ stays u f
        where
          stays : (u : Bool) → is_there r rows ≡ u → front ++ fresh front rows ≡ front ++ fresh front (add_row (IsRow r d) rows)
          stays true f = ap (λ b. front ++ fresh front (added b rows)) (sym f)
          stays false f =
              ap (λ l. front ++ l) (sym (nil_behind (fresh front rows)) ∙ sym (one_more true t))
              ∙ ap (λ b. front ++ fresh front (added b rows)) (sym f)
      by_tests false t true f =
          ap (λ b. added b (front ++ fresh front rows)) (there_beside r rows h ∙ ap (λ b. b || is_there r rows) t ∙ f)
          ∙ ap (λ b. front ++ fresh front (added b rows)) (sym f)
      by_tests false t false f =
          ap (λ b. added b (front ++ fresh front rows)) (there_beside r rows h ∙ ap (λ b. b || is_there r rows) t ∙ f)
          ∙ (append_assoc front (fresh front rows) (IsRow r d ∷ [])
          ∙ (ap (λ l. front ++ l) (sym (one_more false t))
          ∙ ap (λ b. front ++ fresh front (added b rows)) (sym f)))

  beside_rows : (more : List AtomOf) → AtomsAgree more → Beside (with_rows more)
  beside_rows [] h = beside_none
  beside_rows (IsTruth x ∷ more) h = beside_rows more h
  beside_rows (IsRow r d ∷ more) h = beside_then (with_rows more) (with_row (IsRow r d)) (beside_rows more h.1) (by_test (is_empty r.entries))
    where
      by_test : (b : Bool) → Beside (λ rows. if b then rows else add_row (IsRow r d) rows)
      by_test true = beside_none
      by_test false = beside_add r d h.0

  beside_relation : (op : s.Op) (a b : s.Ex) (x : Result (List AtomOf) OutOfRange) → relation op a b ≡ x → Beside (with_relation x)
  beside_relation op a b (Ok more) h = beside_rows more (relation_agrees op a b more h).0
  beside_relation op a b (Err o) h = beside_none

  module _ (ss : List Sort) where
    pub beside_ex : (e : s.Ex) → Beside (with_ex ss e)
    beside_ex (s.Not e) = beside_ex e
    beside_ex (s.Negative e) = beside_ex e
    beside_ex (s.Binary o a b) = by_test (relates_numbers ss o a b) (beside_then (with_ex ss a) (with_ex ss b) (beside_ex a) (beside_ex b))
      where
        by_test : (t : Bool) → Beside (λ rows. with_ex ss b (with_ex ss a rows)) → Beside (λ rows. if t then with_relation (relation o a b) rows else with_ex ss b (with_ex ss a rows))
        by_test true h = beside_relation o a b (relation o a b) refl
        by_test false h = h
    beside_ex (s.Number z) = beside_none
    beside_ex (s.Fact b) = beside_none
    beside_ex (s.Constant k) = beside_none
    beside_ex (s.Read x) = beside_none
    beside_ex (s.Apply f es) = beside_none
    beside_ex (s.Select e es) = beside_none
    beside_ex (s.Update e es v) = beside_none
    beside_ex (s.Old e) = beside_none

    pub beside_cmds : (ks : List PassiveCmd) → Beside (with_cmds ss ks)
    beside_cmds [] = beside_none
    beside_cmds (k ∷ ks) = beside_then (with_ex ss (expression_of k)) (with_cmds ss ks) (beside_ex (expression_of k)) (beside_cmds ks)

    pub beside_edges : (es : List Edge) → Beside (with_edges ss es)
    beside_edges [] = beside_none
    beside_edges (e ∷ es) = beside_then (with_cmds ss e.cmds) (with_edges ss es) (beside_cmds e.cmds) (beside_edges es)

    pub beside_block : (b : PassiveBlock) → Beside (with_block ss b)
    beside_block b = beside_then (with_cmds ss b.cmds) (with_edges ss b.next) (beside_cmds b.cmds) (beside_edges b.next)

    pub beside_blocks : (bs : List PassiveBlock) → Beside (with_blocks ss bs)
    beside_blocks [] = beside_none
    beside_blocks (b ∷ bs) = beside_then (with_block ss b) (with_blocks ss bs) (beside_block b) (beside_blocks bs)

-- ---- the same, each by itself

module _ (ss : List Sort) where
  pub ex_beside : (e : s.Ex) (front rows : List AtomOf) → AtomsAgree front → AtomsAgree rows → with_ex ss e (front ++ fresh front rows) ≡ front ++ fresh front (with_ex ss e rows)
  ex_beside e front rows h k = (beside_ex front h ss e rows k).1

  pub cmds_beside : (ks : List PassiveCmd) (front rows : List AtomOf) → AtomsAgree front → AtomsAgree rows → with_cmds ss ks (front ++ fresh front rows) ≡ front ++ fresh front (with_cmds ss ks rows)
  cmds_beside ks front rows h k = (beside_cmds front h ss ks rows k).1

  pub edges_beside : (es : List Edge) (front rows : List AtomOf) → AtomsAgree front → AtomsAgree rows → with_edges ss es (front ++ fresh front rows) ≡ front ++ fresh front (with_edges ss es rows)
  edges_beside es front rows h k = (beside_edges front h ss es rows k).1

  pub blocks_beside : (bs : List PassiveBlock) (front rows : List AtomOf) → AtomsAgree front → AtomsAgree rows → with_blocks ss bs (front ++ fresh front rows) ≡ front ++ fresh front (with_blocks ss bs rows)
  blocks_beside bs front rows h k = (beside_blocks front h ss bs rows k).1

  -- behind rows in front
  pub cmds_behind : (ks : List PassiveCmd) (front : List AtomOf) → AtomsAgree front → with_cmds ss ks front ≡ front ++ fresh front (with_cmds ss ks [])
  cmds_behind ks front h = ap (with_cmds ss ks) (sym (nil_behind front)) ∙ cmds_beside ks front [] h tt

  pub edges_behind : (es : List Edge) (front : List AtomOf) → AtomsAgree front → with_edges ss es front ≡ front ++ fresh front (with_edges ss es [])
  edges_behind es front h = ap (with_edges ss es) (sym (nil_behind front)) ∙ edges_beside es front [] h tt

  pub blocks_behind : (bs : List PassiveBlock) (front : List AtomOf) → AtomsAgree front → with_blocks ss bs front ≡ front ++ fresh front (with_blocks ss bs [])
  blocks_behind bs front h = ap (with_blocks ss bs) (sym (nil_behind front)) ∙ blocks_beside bs front [] h tt

  -- the rows agree that come
  pub cmds_agree : (ks : List PassiveCmd) (rows : List AtomOf) → AtomsAgree rows → AtomsAgree (with_cmds ss ks rows)
  cmds_agree ks rows h = (beside_cmds [] tt ss ks rows h).0

  pub edges_agree : (es : List Edge) (rows : List AtomOf) → AtomsAgree rows → AtomsAgree (with_edges ss es rows)
  edges_agree es rows h = (beside_edges [] tt ss es rows h).0

  pub blocks_agree : (bs : List PassiveBlock) (rows : List AtomOf) → AtomsAgree rows → AtomsAgree (with_blocks ss bs rows)
  blocks_agree bs rows h = (beside_blocks [] tt ss bs rows h).0
