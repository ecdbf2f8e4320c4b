-- Rows as they come: what stays so.
use Rattle.std.proofs.Common.{◌≡◌, ◌<◌, ◌+◌, ℕ, suc, Bool, true, false, List, [], ◌∷◌, ◌++◌, length, get_or, take, map, refl, sym, ap, ◌∙◌, subst, cond}
use Rattle.std.proofs.lemmas.List.{take_more, map-append}
use Rattle.std.specs.Prelude.{◌&&◌, ◌||◌, if◌then◌else◌, Some, None, Result, Ok, Err}
use Rattle.bg_base.specs.declared.exact.OutOfRange.{OutOfRange}
use Rattle.bg_ast.specs.Syntax as s
use Rattle.bg_passive.specs.Passive.{PassiveCmd, Edge, PassiveBlock}
use Rattle.bg_incarnate.specs.declared.blocks.PassiveCmd as code
use Rattle.bg_incarnate.specs.declared.blocks.Edge as way
use Rattle.bg_incarnate.specs.declared.blocks.PassiveBlock as whole
use Rattle.bg_incarnate.specs.Views.{passive_cmd_of, cmds_of, edge_of, passive_block_of}
use Rattle.bg_rows.specs.Rows.{RowOf, row_of, is_empty}
use Rattle.bg_rows.specs.Keys.{key_of}
use Rattle.bg_rows.specs.declared.refused.Refused.{Refused}
use Rattle.bg_rows.specs.declared.refused.Refused.TheVariants.{Range, Memory}
use Rattle.bg_formula.specs.declared.atom.Literal.{Literal}
use Rattle.bg_formula.specs.declared.atom.Linear.{Linear}
use Rattle.bg_formula.specs.Atoms.{AtomOf, IsTruth, IsRow, view_linear, row_eq}
use Rattle.bg_formed.proofs.Below.{and_both}
use Rattle.bg_linear.specs.declared.scalar.Sort.{Sort}
use Rattle.bg_linear.specs.Relations.{relation, relates}
use Rattle.bg_linear.specs.Sorts.{kind_ex, is_number}
use Rattle.bg_atoms.specs.declared.made.Made.{Made}
use Rattle.bg_atoms.specs.declared.table.Table.{Table}
use Rattle.bg_atoms.specs.Literals.{literal_of, are_apart}
use Rattle.bg_atoms.specs.Over.{relates_numbers}
use Rattle.bg_atoms.specs.Sources.{expression_of}
use Rattle.bg_atoms.specs.Worlds.{Begins}
use Rattle.bg_atoms.specs.Made.{rows_in, IsRange}
use Rattle.bg_atoms.specs.Listed.{is_there, add_row, with_row, with_rows, with_relation, with_ex, with_cmds, with_edges, with_block, with_blocks}
use Rattle.bg_atoms.specs.Tables.{literal_by, IsTable}
use Rattle.bg_atoms.specs.Growing.{Grows}
use Rattle.bg_atoms.proofs.Lists.{begins_itself, begins_on}
use Rattle.bg_atoms.proofs.Adding.{pushed}
use Rattle.bg_atoms.proofs.Tabled.{by_key, not_first, apart_last}

-- what is so of a list and itself, of what it becomes by one row, and of what it becomes in two steps
module _ (K : List AtomOf → List AtomOf → Type 0) (itself : (xs : List AtomOf) → K xs xs) (on : (xs ys zs : List AtomOf) → K xs ys → K ys zs → K xs zs) (one : (a : AtomOf) (xs : List AtomOf) → K xs (add_row a xs)) where
  kept_row : (a : AtomOf) (rows : List AtomOf) → K rows (with_row a rows)
  kept_row (IsTruth x) rows = itself rows
  kept_row (IsRow r d) rows = by_test (is_empty r.entries)
    where
      by_test : (b : Bool) → K rows (if b then rows else add_row (IsRow r d) rows)
      by_test true = itself rows
      by_test false = one (IsRow r d) rows

  kept_rows : (more rows : List AtomOf) → K rows (with_rows more rows)
  kept_rows [] rows = itself rows
  kept_rows (a ∷ more) rows = on rows (with_rows more rows) _ (kept_rows more rows) (kept_row a (with_rows more rows))

  kept_relation : (r : Result (List AtomOf) OutOfRange) (rows : List AtomOf) → K rows (with_relation r rows)
  kept_relation (Ok more) rows = kept_rows more rows
  kept_relation (Err o) rows = itself rows

  module _ (sorts : List Sort) where
    kept_ex : (e : s.Ex) (rows : List AtomOf) → K rows (with_ex sorts e rows)
    kept_ex (s.Not e) rows = kept_ex e rows
    kept_ex (s.Negative e) rows = kept_ex e rows
    kept_ex (s.Binary o a b) rows =
        by_test (relates_numbers sorts o a b) (on rows (with_ex sorts a rows) (with_ex sorts b (with_ex sorts a rows)) (kept_ex a rows) (kept_ex b (with_ex sorts a rows)))
      where
        by_test : (t : Bool) → K rows (with_ex sorts b (with_ex sorts a rows)) → K rows (if t then with_relation (relation o a b) rows else with_ex sorts b (with_ex sorts a rows))
        by_test true h = kept_relation (relation o a b) rows
        by_test false h = h
    kept_ex (s.Number z) rows = itself rows
    kept_ex (s.Fact b) rows = itself rows
    kept_ex (s.Constant k) rows = itself rows
    kept_ex (s.Read x) rows = itself rows
    kept_ex (s.Apply f es) rows = itself rows
    kept_ex (s.Select e es) rows = itself rows
    kept_ex (s.Update e es v) rows = itself rows
    kept_ex (s.Old e) rows = itself rows

    kept_cmds : (ks : List PassiveCmd) (rows : List AtomOf) → K rows (with_cmds sorts ks rows)
    kept_cmds [] rows = itself rows
    kept_cmds (k ∷ ks) rows =
        on rows (with_ex sorts (expression_of k) rows) _ (kept_ex (expression_of k) rows) (kept_cmds ks (with_ex sorts (expression_of k) rows))

    kept_edges : (es : List Edge) (rows : List AtomOf) → K rows (with_edges sorts es rows)
    kept_edges [] rows = itself rows
    kept_edges (e ∷ es) rows =
        on rows (with_cmds sorts e.cmds rows) _ (kept_cmds e.cmds rows) (kept_edges es (with_cmds sorts e.cmds rows))

    kept_block : (b : PassiveBlock) (rows : List AtomOf) → K rows (with_block sorts b rows)
    kept_block b rows =
        on rows (with_cmds sorts b.cmds rows) _ (kept_cmds b.cmds rows) (kept_edges b.next (with_cmds sorts b.cmds rows))

    kept_blocks : (bs : List PassiveBlock) (rows : List AtomOf) → K rows (with_blocks sorts bs rows)
    kept_blocks [] rows = itself rows
    kept_blocks (b ∷ bs) rows =
        on rows (with_block sorts b rows) _ (kept_block b rows) (kept_blocks bs (with_block sorts b rows))

-- ---- rows that stand behind others

begins_append : (xs ys : List AtomOf) → Begins xs (xs ++ ys)
begins_append [] ys = tt
begins_append (x ∷ xs) ys = (refl, begins_append xs ys)

pub begins_add : (a : AtomOf) (rows : List AtomOf) → Begins rows (add_row a rows)
begins_add (IsTruth x) rows = begins_itself rows
begins_add (IsRow r d) rows = by_test (is_there r rows)
  where
    by_test : (b : Bool) → Begins rows (if b then rows else rows ++ IsRow r d ∷ [])
    by_test true = begins_itself rows
    by_test false = begins_append rows (IsRow r d ∷ [])

pub begins_row : (a : AtomOf) (rows : List AtomOf) → Begins rows (with_row a rows)
begins_row = kept_row Begins begins_itself begins_on begins_add

pub begins_ex : (sorts : List Sort) (e : s.Ex) (rows : List AtomOf) → Begins rows (with_ex sorts e rows)
begins_ex sorts = kept_ex Begins begins_itself begins_on begins_add sorts

pub begins_edges : (sorts : List Sort) (es : List Edge) (rows : List AtomOf) → Begins rows (with_edges sorts es rows)
begins_edges sorts = kept_edges Begins begins_itself begins_on begins_add sorts

pub begins_block : (sorts : List Sort) (b : PassiveBlock) (rows : List AtomOf) → Begins rows (with_block sorts b rows)
begins_block sorts = kept_block Begins begins_itself begins_on begins_add sorts

pub begins_cmds : (sorts : List Sort) (ks : List PassiveCmd) (rows : List AtomOf) → Begins rows (with_cmds sorts ks rows)
begins_cmds sorts = kept_cmds Begins begins_itself begins_on begins_add sorts

-- the rows of a table that grew begin with those that it had
pub begins_grown : {base : ℕ} {more : List AtomOf → List AtomOf} {old new : Table} → ((rows : List AtomOf) → Begins rows (more rows)) → Grows base more old new → Begins (rows_in old.rows) (rows_in new.rows)
begins_grown {base} {more} {old} {new} behind_it h = subst (Begins (rows_in old.rows)) (sym h.rows) (behind_it (rows_in old.rows))

-- ---- rows that are apart

-- a row that is not there has no literal
pub no_literal : (r : RowOf) (n : ℕ) (rows : List AtomOf) → is_there r rows ≡ false → literal_of r n rows ≡ None
no_literal r n [] h = refl
no_literal r n (IsTruth x ∷ rs) h = no_literal r (suc n) rs h
no_literal r n (IsRow a d ∷ rs) h = by_tests (row_eq a r) (row_eq d r) (no_literal r (suc n) rs) h
  where
    by_tests : (b c : Bool) → (is_there r rs ≡ false → literal_of r (suc n) rs ≡ None) → (b || (c || is_there r rs)) ≡ false → cond b (Some (record { atom = n; sign = true })) (cond c (Some (record { atom = n; sign = false })) (literal_of r (suc n) rs)) ≡ None
    by_tests true c f k = absurd (let bad : ⊥ = cc in bad)
    by_tests false true f k = absurd (let bad : ⊥ = cc in bad)
    by_tests false false f k = f k

-- a row without a literal is not there
not_there : (r : RowOf) (n : ℕ) (rows : List AtomOf) → literal_of r n rows ≡ None → is_there r rows ≡ false
not_there r n [] h = refl
not_there r n (IsTruth x ∷ rs) h = not_there r (suc n) rs h
not_there r n (IsRow a d ∷ rs) h =
    let new = not_first r a d n rs h in
    ap (λ b. b || (row_eq d r || is_there r rs)) new.0 ∙ ap (λ b. b || is_there r rs) new.1.0 ∙ not_there r (suc n) rs new.1.1

-- a row with one is there
some_there : (r : RowOf) (n : ℕ) (rows : List AtomOf) (l : Literal) → literal_of r n rows ≡ Some l → is_there r rows ≡ true
some_there r n rows l h = by_test (is_there r rows) refl
  where
    by_test : (b : Bool) → is_there r rows ≡ b → is_there r rows ≡ true
    by_test true k = k
    by_test false k = absurd (let none : literal_of r n rows ≡ None = no_literal r n rows k in let bad : ⊥ = cc in bad)

abbrev added_by : Linear → List AtomOf → Bool → List AtomOf
added_by a rows b = if b then rows else rows ++ view_linear a ∷ []

pub added_there : (n : ℕ) (a : Linear) (rows : List AtomOf) (l : Literal) → literal_of (row_of a.row) n rows ≡ Some l → rows ≡ add_row (view_linear a) rows
added_there n a rows l h = sym (ap (added_by a rows) (some_there (row_of a.row) n rows l h))

pub added_new : (n : ℕ) (xs ys : List Linear) (a : Linear) → ys ≡ xs ++ a ∷ [] → literal_by (key_of (row_of a.row)) n (map view_linear xs) ≡ None → map view_linear ys ≡ add_row (view_linear a) (map view_linear xs)
added_new n xs ys a push new =
    pushed xs ys a push ∙ sym (ap (added_by a (map view_linear xs)) (not_there (row_of a.row) n (map view_linear xs) (sym (by_key (row_of a.row) n (map view_linear xs)) ∙ new)))

abbrev StaysApart : List AtomOf → List AtomOf → Type 0
StaysApart xs ys = are_apart xs ≡ true → are_apart ys ≡ true

apart_add : (a : AtomOf) (rows : List AtomOf) → StaysApart rows (add_row a rows)
apart_add (IsTruth x) rows h = h
apart_add (IsRow r d) rows h = by_test (is_there r rows) refl
  where
    by_test : (b : Bool) → is_there r rows ≡ b → are_apart (if b then rows else rows ++ IsRow r d ∷ []) ≡ true
    by_test true k = h
    by_test false k = apart_last 0 rows r d h (no_literal r 0 rows k)

pub apart_blocks : (sorts : List Sort) (bs : List PassiveBlock) → are_apart (with_blocks sorts bs []) ≡ true
apart_blocks sorts bs = kept_blocks StaysApart (λ xs h. h) (λ xs ys zs h k i. k (h i)) apart_add sorts bs [] refl

-- ---- rows that come from the last one on

pub rows_end : (xs : List Linear) (a : Linear) (rows : List AtomOf) → with_rows (map view_linear (xs ++ a ∷ [])) rows ≡ with_rows (map view_linear xs) (with_row (view_linear a) rows)
rows_end [] a rows = refl
rows_end (x ∷ xs) a rows = ap (with_row (view_linear x)) (rows_end xs a rows)

-- rows of which these are left, behind a table's
pub record Adding (base : ℕ) (left whole : List AtomOf) (old new : Table) : Type 0 where
  pub table : IsTable base new
  pub begins : Begins (rows_in old.rows) (rows_in new.rows)
  pub rows : with_rows left (rows_in new.rows) ≡ with_rows whole (rows_in old.rows)

pub adding_none : (base : ℕ) (whole : List AtomOf) (t : Table) → IsTable base t → Adding base whole whole t t
adding_none base whole t is = record { table = is; begins = begins_itself (rows_in t.rows); rows = refl }

pub adding_more : (base : ℕ) (ys xs : List Linear) (a : Linear) (whole : List AtomOf) (t u v : Table) → ys ≡ xs ++ a ∷ [] → Adding base (map view_linear ys) whole t u → Grows base (with_row (view_linear a)) u v → Adding base (map view_linear xs) whole t v
adding_more base ys xs a whole t u v split h k =
    record {
      table = k.table;
      begins = begins_on (rows_in t.rows) (rows_in u.rows) (rows_in v.rows) h.begins (begins_grown (begins_row (view_linear a)) k);
      rows =
          ap (with_rows (map view_linear xs)) k.rows
          ∙ sym (rows_end xs a (rows_in u.rows))
          ∙ ap (λ l. with_rows (map view_linear l) (rows_in u.rows)) (sym split)
          ∙ h.rows;
    }

pub added : (base : ℕ) (left : List Linear) (whole : List AtomOf) (t u : Table) → left ≡ [] → Adding base (map view_linear left) whole t u → Grows base (with_rows whole) t u
added base left whole t u none h =
    record { table = h.table; rows = ap (λ l. with_rows (map view_linear l) (rows_in u.rows)) (sym none) ∙ h.rows }

-- a row without entries, and one with some
pub row_empty : (a : Linear) (rows : List AtomOf) → is_empty (row_of a.row).entries ≡ true → rows ≡ with_row (view_linear a) rows
row_empty a rows h = sym (ap (λ b. if b then rows else add_row (view_linear a) rows) h)

pub row_some : (a : Linear) (rows : List AtomOf) → is_empty (row_of a.row).entries ≡ false → add_row (view_linear a) rows ≡ with_row (view_linear a) rows
row_some a rows h = sym (ap (λ b. if b then rows else add_row (view_linear a) rows) h)

-- ---- relations

module _ (sorts : List Sort) (o : s.Op) (a b : s.Ex) (r : relates o ≡ true) (ka : is_number (kind_ex sorts a) ≡ true) (kb : is_number (kind_ex sorts b) ≡ true) where
  numbers : relates_numbers sorts o a b ≡ true
  numbers = and_both (relates o) (is_number (kind_ex sorts a) && is_number (kind_ex sorts b)) r (and_both (is_number (kind_ex sorts a)) (is_number (kind_ex sorts b)) ka kb)

  relation_rows : (rows : List AtomOf) → with_ex sorts (s.Binary o a b) rows ≡ with_relation (relation o a b) rows
  relation_rows rows = ap (λ c. if c then with_relation (relation o a b) rows else with_ex sorts b (with_ex sorts a rows)) numbers

  pub relation_grows : (base : ℕ) (t u : Table) (more : List AtomOf) → relation o a b ≡ Ok more → Grows base (with_rows more) t u → Grows base (with_ex sorts (s.Binary o a b)) t u
  relation_grows base t u more made h =
      record { table = h.table; rows = h.rows ∙ sym (relation_rows (rows_in t.rows) ∙ ap (λ x. with_relation x (rows_in t.rows)) made) }

  pub refused_grows : (base : ℕ) (t : Table) (q : Refused) (y : Made) → IsTable base t → ((x : OutOfRange) → q ≡ Range x → relation o a b ≡ Err x) → IsRange q y → Grows base (with_ex sorts (s.Binary o a b)) t t
  refused_grows base t (Range x) y is made k =
      record { table = is; rows = sym (relation_rows (rows_in t.rows) ∙ ap (λ z. with_relation z (rows_in t.rows)) (made x refl)) }
  refused_grows base t Memory y is made k = absurd k

-- ---- lists of commands, of edges and of blocks

module _ (sorts : List Sort) (base : ℕ) where
  cmds_end : (ks : List PassiveCmd) (k : PassiveCmd) (rows : List AtomOf) → with_cmds sorts (ks ++ k ∷ []) rows ≡ with_ex sorts (expression_of k) (with_cmds sorts ks rows)
  cmds_end [] k rows = refl
  cmds_end (x ∷ ks) k rows = cmds_end ks k (with_ex sorts (expression_of x) rows)

  edges_end : (es : List Edge) (e : Edge) (rows : List AtomOf) → with_edges sorts (es ++ e ∷ []) rows ≡ with_cmds sorts e.cmds (with_edges sorts es rows)
  edges_end [] e rows = refl
  edges_end (x ∷ es) e rows = edges_end es e (with_cmds sorts x.cmds rows)

  blocks_end : (bs : List PassiveBlock) (b : PassiveBlock) (rows : List AtomOf) → with_blocks sorts (bs ++ b ∷ []) rows ≡ with_block sorts b (with_blocks sorts bs rows)
  blocks_end [] b rows = refl
  blocks_end (x ∷ bs) b rows = blocks_end bs b (with_block sorts x rows)

  -- one more of a list
  taken : {X Y : Type 0} (f : X → Y) (xs : List X) (i : ℕ) (x : X) → i < length xs → x ≡ get_or xs i x → map f (take (i + 1) xs) ≡ map f (take i xs) ++ f x ∷ []
  taken f xs i x lt is =
      ap (map f) (take_more xs i x lt ∙ ap (λ z. take i xs ++ z ∷ []) (sym is)) ∙ map-append f (take i xs) (x ∷ [])

  one_grown : {Y : Type 0} (all : List Y → List AtomOf → List AtomOf) (one : Y → List AtomOf → List AtomOf) → ((ys : List Y) (y : Y) (rows : List AtomOf) → all (ys ++ y ∷ []) rows ≡ one y (all ys rows)) → (ys zs : List Y) (y : Y) → zs ≡ ys ++ y ∷ [] → (t u v : Table) → Grows base (all ys) t u → Grows base (one y) u v → Grows base (all zs) t v
  one_grown all one end ys zs y is t u v h k =
      record {
        table = k.table;
        rows = k.rows ∙ ap (one y) h.rows ∙ sym (ap (λ l. all l (rows_in t.rows)) is ∙ end ys y (rows_in t.rows));
      }

  pub cmds_more : (ks : List code.PassiveCmd) (i : ℕ) (k : code.PassiveCmd) (t u v : Table) → i < length ks → k ≡ get_or ks i k → Grows base (with_cmds sorts (cmds_of (take i ks))) t u → Grows base (with_ex sorts (expression_of (passive_cmd_of k))) u v → Grows base (with_cmds sorts (cmds_of (take (i + 1) ks))) t v
  cmds_more ks i k t u v lt is h g =
      one_grown (with_cmds sorts) (λ x. with_ex sorts (expression_of x)) cmds_end (cmds_of (take i ks)) (cmds_of (take (i + 1) ks)) (passive_cmd_of k) (taken passive_cmd_of ks i k lt is) t u v h g

  pub edges_more : (es : List way.Edge) (i : ℕ) (e : way.Edge) (t u v : Table) → i < length es → e ≡ get_or es i e → Grows base (with_edges sorts (map edge_of (take i es))) t u → Grows base (with_cmds sorts (edge_of e).cmds) u v → Grows base (with_edges sorts (map edge_of (take (i + 1) es))) t v
  edges_more es i e t u v lt is h g =
      one_grown (with_edges sorts) (λ x. with_cmds sorts x.cmds) edges_end (map edge_of (take i es)) (map edge_of (take (i + 1) es)) (edge_of e) (taken edge_of es i e lt is) t u v h g

  pub blocks_more : (bs : List whole.PassiveBlock) (i : ℕ) (b : whole.PassiveBlock) (t u v : Table) → i < length bs → b ≡ get_or bs i b → Grows base (with_blocks sorts (map passive_block_of (take i bs))) t u → Grows base (with_block sorts (passive_block_of b)) u v → Grows base (with_blocks sorts (map passive_block_of (take (i + 1) bs))) t v
  blocks_more bs i b t u v lt is h g =
      one_grown (with_blocks sorts) (with_block sorts) blocks_end (map passive_block_of (take i bs)) (map passive_block_of (take (i + 1) bs)) (passive_block_of b) (taken passive_block_of bs i b lt is) t u v h g

  pub block_grows : (b : PassiveBlock) (ks : List PassiveCmd) (es : List Edge) (t u v : Table) → ks ≡ b.cmds → es ≡ b.next → Grows base (with_cmds sorts ks) t u → Grows base (with_edges sorts es) u v → Grows base (with_block sorts b) t v
  block_grows b ks es t u v same_cmds same_edges h k =
      record {
        table = k.table;
        rows =
            k.rows
            ∙ ap (λ x. with_edges sorts x (rows_in u.rows)) same_edges
            ∙ ap (with_edges sorts b.next) (h.rows ∙ ap (λ x. with_cmds sorts x (rows_in t.rows)) same_cmds);
      }
