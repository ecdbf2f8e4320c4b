-- Rows of relations are there once they have come.
use Rattle.std.proofs.Common.{◌≡◌, Bool, true, false, List, [], ◌∷◌, ◌++◌, refl, sym, ap, ◌∙◌}
use Rattle.std.specs.Prelude.{◌||◌, if◌then◌else◌, Result, Ok, Err}
use Rattle.bg_base.specs.declared.exact.OutOfRange.{OutOfRange}
use Rattle.bg_ast.specs.Syntax as s
use Rattle.bg_passive.specs.Passive.{PassiveCmd, Edge, PassiveBlock}
use Rattle.bg_rows.specs.Rows.{RowOf, is_empty}
use Rattle.bg_formula.specs.Atoms.{AtomOf, IsTruth, IsRow, row_eq}
use Rattle.bg_linear.specs.declared.scalar.Sort.{Sort}
use Rattle.bg_linear.specs.Relations.{relation}
use Rattle.bg_atoms.specs.Over.{relates_numbers}
use Rattle.bg_atoms.specs.Sources.{expression_of}
use Rattle.bg_atoms.specs.Worlds.{Begins}
use Rattle.bg_atoms.specs.Listed.{is_there, add_row, with_row, with_rows, with_relation, with_ex, with_cmds, with_edges, with_block, with_blocks}
use Rattle.bg_ahead.proofs.There.{AllThere, RelationThere, OneOf, ExThere, CmdsThere, EdgesThere, BlocksThere}
use Rattle.bg_ahead.proofs.Fresh.{there_append, there_first}

-- ---- what is there stays there

-- what is there in the first list is there in the second one
abbrev pub Within : List AtomOf → List AtomOf → Type 0
Within xs ys = (r : RowOf) → is_there r xs ≡ true → is_there r ys ≡ true

within_itself : (xs : List AtomOf) → Within xs xs
within_itself xs r h = h

within_on : (xs ys zs : List AtomOf) → Within xs ys → Within ys zs → Within xs zs
within_on xs ys zs f g r h = g r (f r h)

pub within_append : (xs ys : List AtomOf) → Within xs (xs ++ ys)
within_append xs ys r h = there_append r xs ys ∙ ap (λ b. b || is_there r ys) h

or_on : (b c p q : Bool) → (p ≡ true → q ≡ true) → (b || (c || p)) ≡ true → (b || (c || q)) ≡ true
or_on true c p q f h = refl
or_on false true p q f h = refl
or_on false false p q f h = f h

pub within_begins : (xs ys : List AtomOf) → Begins xs ys → Within xs ys
within_begins [] ys b r h = absurd (let bad : ⊥ = cc in bad)
within_begins (x ∷ xs) [] b r h = absurd b
within_begins (IsTruth x ∷ xs) (y ∷ ys) b r h =
    ap (λ z. is_there r (z ∷ ys)) (sym b.0) ∙ within_begins xs ys b.1 r h
within_begins (IsRow a d ∷ xs) (y ∷ ys) b r h =
    ap (λ z. is_there r (z ∷ ys)) (sym b.0) ∙ or_on (row_eq a r) (row_eq d r) (is_there r xs) (is_there r ys) (within_begins xs ys b.1 r) h

within_add : (a : AtomOf) (rows : List AtomOf) → Within rows (add_row a rows)
within_add (IsTruth x) rows = within_itself rows
within_add (IsRow r d) rows = by_test (is_there r rows)
  where
    by_test : (b : Bool) → Within rows (if b then rows else rows ++ IsRow r d ∷ [])
    by_test true = within_itself rows
    by_test false = within_append rows (IsRow r d ∷ [])

within_row : (a : AtomOf) (rows : List AtomOf) → Within rows (with_row a rows)
within_row (IsTruth x) rows = within_itself rows
within_row (IsRow r d) rows = by_test (is_empty r.entries)
  where
    by_test : (b : Bool) → Within rows (if b then rows else add_row (IsRow r d) rows)
    by_test true = within_itself rows
    by_test false = within_add (IsRow r d) rows

within_rows : (more rows : List AtomOf) → Within rows (with_rows more rows)
within_rows [] rows = within_itself rows
within_rows (a ∷ more) rows = within_on rows (with_rows more rows) (with_row a (with_rows more rows)) (within_rows more rows) (within_row a (with_rows more rows))

within_relation : (r : Result (List AtomOf) OutOfRange) (rows : List AtomOf) → Within rows (with_relation r rows)
within_relation (Ok more) rows = within_rows more rows
within_relation (Err o) rows = within_itself rows

module _ (ss : List Sort) where
  pub within_ex : (e : s.Ex) (rows : List AtomOf) → Within rows (with_ex ss e rows)
  within_ex (s.Not e) rows = within_ex e rows
  within_ex (s.Negative e) rows = within_ex e rows
  within_ex (s.Binary o a b) rows =
      by_test (relates_numbers ss o a b) (within_on rows (with_ex ss a rows) (with_ex ss b (with_ex ss a rows)) (within_ex a rows) (within_ex b (with_ex ss a rows)))
    where
      by_test : (t : Bool) → Within rows (with_ex ss b (with_ex ss a rows)) → Within rows (if t then with_relation (relation o a b) rows else with_ex ss b (with_ex ss a rows))
      by_test true h = within_relation (relation o a b) rows
      by_test false h = h
  within_ex (s.Number z) rows = within_itself rows
  within_ex (s.Fact b) rows = within_itself rows
  within_ex (s.Constant k) rows = within_itself rows
  within_ex (s.Read x) rows = within_itself rows
  within_ex (s.Apply f es) rows = within_itself rows
  within_ex (s.Select e es) rows = within_itself rows
  within_ex (s.Update e es v) rows = within_itself rows
  within_ex (s.Old e) rows = within_itself rows

  pub within_cmds : (ks : List PassiveCmd) (rows : List AtomOf) → Within rows (with_cmds ss ks rows)
  within_cmds [] rows = within_itself rows
  within_cmds (k ∷ ks) rows =
      within_on rows (with_ex ss (expression_of k) rows) (with_cmds ss (k ∷ ks) rows) (within_ex (expression_of k) rows) (within_cmds ks (with_ex ss (expression_of k) rows))

  pub within_edges : (es : List Edge) (rows : List AtomOf) → Within rows (with_edges ss es rows)
  within_edges [] rows = within_itself rows
  within_edges (e ∷ es) rows =
      within_on rows (with_cmds ss e.cmds rows) (with_edges ss (e ∷ es) rows) (within_cmds e.cmds rows) (within_edges es (with_cmds ss e.cmds rows))

  pub within_block : (b : PassiveBlock) (rows : List AtomOf) → Within rows (with_block ss b rows)
  within_block b rows =
      within_on rows (with_cmds ss b.cmds rows) (with_block ss b rows) (within_cmds b.cmds rows) (within_edges b.next (with_cmds ss b.cmds rows))

  pub within_blocks : (bs : List PassiveBlock) (rows : List AtomOf) → Within rows (with_blocks ss bs rows)
  within_blocks [] rows = within_itself rows
  within_blocks (b ∷ bs) rows =
      within_on rows (with_block ss b rows) (with_blocks ss (b ∷ bs) rows) (within_block b rows) (within_blocks bs (with_block ss b rows))

-- ---- relations whose rows are there keep them

module _ (xs ys : List AtomOf) (all : Within xs ys) where
  pub all_within : (rs : List AtomOf) → AllThere xs rs → AllThere ys rs
  all_within [] h = tt
  all_within (IsTruth x ∷ rs) h = all_within rs h
  all_within (IsRow r d ∷ rs) h = (λ e. all r (h.0 e), all_within rs h.1)

  relation_within : (x : Result (List AtomOf) OutOfRange) → RelationThere xs x → RelationThere ys x
  relation_within (Ok rs) h = all_within rs h
  relation_within (Err o) h = tt

  one_within : (t : Bool) (A B C D : Type 0) → (A → C) → (B → D) → OneOf t A B → OneOf t C D
  one_within true A B C D f g h = f h
  one_within false A B C D f g h = g h

  module _ (ss : List Sort) where
    pub ex_within : (e : s.Ex) → ExThere ss xs e → ExThere ss ys e
    ex_within (s.Not e) h = ex_within e h
    ex_within (s.Negative e) h = ex_within e h
    ex_within (s.Binary o a b) h =
        one_within (relates_numbers ss o a b) (RelationThere xs (relation o a b)) (ExThere ss xs a × ExThere ss xs b) (RelationThere ys (relation o a b)) (ExThere ss ys a × ExThere ss ys b) (relation_within (relation o a b)) (λ k. (ex_within a k.0, ex_within b k.1)) h
    ex_within (s.Number z) h = tt
    ex_within (s.Fact b) h = tt
    ex_within (s.Constant k) h = tt
    ex_within (s.Read x) h = tt
    ex_within (s.Apply f es) h = tt
    ex_within (s.Select e es) h = tt
    ex_within (s.Update e es v) h = tt
    ex_within (s.Old e) h = tt

    pub cmds_within : (ks : List PassiveCmd) → CmdsThere ss xs ks → CmdsThere ss ys ks
    cmds_within [] h = tt
    cmds_within (k ∷ ks) h = (ex_within (expression_of k) h.0, cmds_within ks h.1)

    pub edges_within : (es : List Edge) → EdgesThere ss xs es → EdgesThere ss ys es
    edges_within [] h = tt
    edges_within (e ∷ es) h = (cmds_within e.cmds h.0, edges_within es h.1)

    pub blocks_within : (bs : List PassiveBlock) → BlocksThere ss xs bs → BlocksThere ss ys bs
    blocks_within [] h = tt
    blocks_within (b ∷ bs) h = ((cmds_within b.cmds h.0.0, edges_within b.next h.0.1), blocks_within bs h.1)

-- ---- what has come is there

or_true : (b : Bool) → (b || true) ≡ true
or_true true = refl
or_true false = refl

row_there : (r d : RowOf) (rows : List AtomOf) → is_empty r.entries ≡ false → is_there r (with_row (IsRow r d) rows) ≡ true
row_there r d rows e = ap (λ b. is_there r (if b then rows else add_row (IsRow r d) rows)) e ∙ by_test (is_there r rows) refl
  where
    by_test : (b : Bool) → is_there r rows ≡ b → is_there r (if b then rows else rows ++ IsRow r d ∷ []) ≡ true
    by_test true h = h
    by_test false h = there_append r rows (IsRow r d ∷ []) ∙ (ap (λ b. is_there r rows || b) (there_first r d []) ∙ or_true (is_there r rows))

rows_there : (rs rows : List AtomOf) → AllThere (with_rows rs rows) rs
rows_there [] rows = tt
rows_there (IsTruth x ∷ rs) rows = rows_there rs rows
rows_there (IsRow r d ∷ rs) rows =
    (row_there r d (with_rows rs rows), all_within (with_rows rs rows) (with_row (IsRow r d) (with_rows rs rows)) (within_row (IsRow r d) (with_rows rs rows)) rs (rows_there rs rows))

relation_there : (x : Result (List AtomOf) OutOfRange) (rows : List AtomOf) → RelationThere (with_relation x rows) x
relation_there (Ok rs) rows = rows_there rs rows
relation_there (Err o) rows = tt

module _ (ss : List Sort) where
  pub ex_there : (e : s.Ex) (rows : List AtomOf) → ExThere ss (with_ex ss e rows) e
  ex_there (s.Not e) rows = ex_there e rows
  ex_there (s.Negative e) rows = ex_there e rows
  ex_there (s.Binary o a b) rows = by_test (relates_numbers ss o a b) (ex_within one two (within_ex ss b one) ss a (ex_there a rows), ex_there b one)
    where
      one : List AtomOf
      one = with_ex ss a rows

      two : List AtomOf
      two = with_ex ss b one

      by_test : (t : Bool) → ExThere ss two a × ExThere ss two b → OneOf t (RelationThere (if t then with_relation (relation o a b) rows else two) (relation o a b)) (ExThere ss (if t then with_relation (relation o a b) rows else two) a × ExThere ss (if t then with_relation (relation o a b) rows else two) b)
      by_test true h = relation_there (relation o a b) rows
      by_test false h = h
  ex_there (s.Number z) rows = tt
  ex_there (s.Fact b) rows = tt
  ex_there (s.Constant k) rows = tt
  ex_there (s.Read x) rows = tt
  ex_there (s.Apply f es) rows = tt
  ex_there (s.Select e es) rows = tt
  ex_there (s.Update e es v) rows = tt
  ex_there (s.Old e) rows = tt

  pub cmds_there_from : (ks : List PassiveCmd) (rows : List AtomOf) → CmdsThere ss (with_cmds ss ks rows) ks
  cmds_there_from [] rows = tt
  cmds_there_from (k ∷ ks) rows =
      let one = with_ex ss (expression_of k) rows in
      (ex_within one (with_cmds ss ks one) (within_cmds ss ks one) ss (expression_of k) (ex_there (expression_of k) rows), cmds_there_from ks one)

  pub edges_there_from : (es : List Edge) (rows : List AtomOf) → EdgesThere ss (with_edges ss es rows) es
  edges_there_from [] rows = tt
  edges_there_from (e ∷ es) rows =
      let one = with_cmds ss e.cmds rows in
      (cmds_within one (with_edges ss es one) (within_edges ss es one) ss e.cmds (cmds_there_from e.cmds rows), edges_there_from es one)

  pub blocks_there_from : (bs : List PassiveBlock) (rows : List AtomOf) → BlocksThere ss (with_blocks ss bs rows) bs
  blocks_there_from [] rows = tt
  blocks_there_from (b ∷ bs) rows =
      let one = with_cmds ss b.cmds rows in
      let two = with_edges ss b.next one in
      let all = with_blocks ss bs two in
      let cmds = cmds_within one two (within_edges ss b.next one) ss b.cmds (cmds_there_from b.cmds rows) in
      ((cmds_within two all (within_blocks ss bs two) ss b.cmds cmds, edges_within two all (within_blocks ss bs two) ss b.next (edges_there_from b.next one)), blocks_there_from bs two)

  pub cmds_there : (ks : List PassiveCmd) → CmdsThere ss (with_cmds ss ks []) ks
  cmds_there ks = cmds_there_from ks []

  pub blocks_there : (bs : List PassiveBlock) → BlocksThere ss (with_blocks ss bs []) bs
  blocks_there bs = blocks_there_from bs []

-- ---- rows behind others

pub ex_there_begins : (ss : List Sort) (rows more : List AtomOf) (e : s.Ex) → ExThere ss rows e → Begins rows more → ExThere ss more e
ex_there_begins ss rows more e h b = ex_within rows more (within_begins rows more b) ss e h
