-- What is known of the rows of blocks: where they are from, and what they name.
use Rattle.std.proofs.Common.{◌≡◌, ℕ, zero, suc, Bool, true, false, List, [], ◌∷◌, ◌++◌, length, map, inl, inr, ⊎_elim, Any, Contains, refl, ap, ◌∙◌, subst, arith}
use Rattle.std.specs.Prelude.{◌&&◌, ◌⊎◌, if◌then◌else◌, Result, Ok, Err, IsOkAnd}
use Rattle.std.proofs.lemmas.List.Elements.{All-contains, All-weaker, All-contains_itself, Contains-push_cases}
use Rattle.bg_base.specs.declared.exact.OutOfRange.{OutOfRange}
use Rattle.bg_ast.specs.Syntax as s
use Rattle.bg_passive.specs.Passive.{PassiveCmd, Claims, Supposes, Edge, PassiveBlock}
use Rattle.bg_rows.specs.Rows.{is_empty}
use Rattle.bg_formula.specs.declared.atom.Linear.{Linear}
use Rattle.bg_formula.specs.Atoms as f
use Rattle.bg_formula.specs.Formulas.{atom_below, rows_below}
use Rattle.bg_formed.specs.Formed.{fits_candidate}
use Rattle.bg_formed.proofs.Below.{and_left, and_right, and_both}
use Rattle.bg_linear.specs.declared.scalar.Sort.{Sort}
use Rattle.bg_linear.specs.Relations.{relates, relation}
use Rattle.bg_linear.specs.Sorts.{kind_ex, is_truth, is_number}
use Rattle.bg_linear.proofs.Inside.{relation_inside}
use Rattle.bg_atoms.specs.declared.table.Table.{Table}
use Rattle.bg_atoms.specs.Kinds.{IsTruth}
use Rattle.bg_atoms.specs.Parts.{here, on_left, on_right, denied}
use Rattle.bg_atoms.specs.Over.{relates_numbers}
use Rattle.bg_atoms.specs.Sorted.{cmds_sorted, edges_sorted, blocks_sorted}
use Rattle.bg_atoms.specs.Sources.{InCmds, InEdges, InBlock, InBlocks, IsFrom, AreFrom}
use Rattle.bg_atoms.specs.Listed.{is_there, add_row, with_row, with_rows, with_relation, with_ex, with_cmds, with_edges, with_block, with_blocks, rows_of}
use Rattle.bg_atoms.specs.Growing.{Grows}
use Rattle.bg_atoms.proofs.Heading.{three}
use Rattle.bg_atoms.proofs.Chained.{truth_given, number_alone, two_truths, no_sides, equal_truths, equal_sides, no_sum, no_product}

-- ---- lists

any_first : {X : Type 0} (P : X → Type 0) (x : X) (xs : List X) → P x → Any P (x ∷ xs)
any_first P x xs p = (0, x, omega arith, refl, p)

any_later : {X : Type 0} (P : X → Type 0) (x : X) (xs : List X) → Any P xs → Any P (x ∷ xs)
any_later P x xs a = (suc a.0, a.1, omega (arith, a.2), a.3, a.4)

first_in : {X : Type 0} (x y : X) (xs : List X) → x ≡ y → Contains (x ∷ xs) y
first_in x y xs h = (0, omega arith, h)

later_in : {X : Type 0} (x y : X) (xs : List X) → Contains xs y → Contains (x ∷ xs) y
later_in x y xs c = (suc c.0, omega (arith, c.1), c.2)

-- ---- where rows are from

add_from : (a : f.AtomOf) (rows : List f.AtomOf) (r : f.AtomOf) → Contains (add_row a rows) r → Contains rows r ⊎ (a ≡ r)
add_from (f.IsTruth x) rows r c = inl c
add_from (f.IsRow q d) rows r c = by_test (is_there q rows) c
  where
    by_test : (b : Bool) → Contains (if b then rows else rows ++ f.IsRow q d ∷ []) r → Contains rows r ⊎ (f.IsRow q d ≡ r)
    by_test true h = inl h
    by_test false h = Contains-push_cases rows (f.IsRow q d) r h

row_from : (a : f.AtomOf) (rows : List f.AtomOf) (r : f.AtomOf) → Contains (with_row a rows) r → Contains rows r ⊎ (a ≡ r)
row_from (f.IsTruth x) rows r c = inl c
row_from (f.IsRow q d) rows r c = by_test (is_empty q.entries) c
  where
    by_test : (b : Bool) → Contains (if b then rows else add_row (f.IsRow q d) rows) r → Contains rows r ⊎ (f.IsRow q d ≡ r)
    by_test true h = inl h
    by_test false h = add_from (f.IsRow q d) rows r h

rows_from : (more rows : List f.AtomOf) (r : f.AtomOf) → Contains (with_rows more rows) r → Contains rows r ⊎ Contains more r
rows_from [] rows r c = inl c
rows_from (a ∷ more) rows r c =
    ⊎_elim (λ h. ⊎_elim inl (λ k. inr (later_in a r more k)) (rows_from more rows r h)) (λ e. inr (first_in a r more e)) (row_from a (with_rows more rows) r c)

relation_from : (x : Result (List f.AtomOf) OutOfRange) (rows : List f.AtomOf) (r : f.AtomOf) → Contains (with_relation x rows) r → Contains rows r ⊎ IsOkAnd x (λ rs. Contains rs r)
relation_from (Ok more) rows r c = rows_from more rows r c
relation_from (Err o) rows r c = inl c

module _ (sorts : List Sort) where
  -- a truth that relates no numbers has two truths
  sides : (o : s.Op) (a b : s.Ex) → IsTruth sorts (s.Binary o a b) → relates_numbers sorts o a b ≡ false → IsTruth sorts a × IsTruth sorts b
  sides s.And a b t k = two_truths (kind_ex sorts a) (kind_ex sorts b) t
  sides s.Or a b t k = two_truths (kind_ex sorts a) (kind_ex sorts b) t
  sides s.Implies a b t k = two_truths (kind_ex sorts a) (kind_ex sorts b) t
  sides s.Iff a b t k = two_truths (kind_ex sorts a) (kind_ex sorts b) t
  sides s.Equal a b t k =
      let left = equal_sides (kind_ex sorts a) (kind_ex sorts b) t k in
      (left, equal_truths (kind_ex sorts a) (kind_ex sorts b) left t)
  sides s.Unequal a b t k =
      let left = equal_sides (kind_ex sorts a) (kind_ex sorts b) t k in
      (left, equal_truths (kind_ex sorts a) (kind_ex sorts b) left t)
  sides s.Less a b t k = absurd (no_sides (kind_ex sorts a) (kind_ex sorts b) t k)
  sides s.AtMost a b t k = absurd (no_sides (kind_ex sorts a) (kind_ex sorts b) t k)
  sides s.Greater a b t k = absurd (no_sides (kind_ex sorts a) (kind_ex sorts b) t k)
  sides s.AtLeast a b t k = absurd (no_sides (kind_ex sorts a) (kind_ex sorts b) t k)
  sides s.Plus a b t k = absurd (no_sum (kind_ex sorts a) (kind_ex sorts b) t)
  sides s.Minus a b t k = absurd (no_sum (kind_ex sorts a) (kind_ex sorts b) t)
  sides s.Times a b t k = absurd (no_product (kind_ex sorts a) (kind_ex sorts b) t)

  abbrev ExFrom : s.Ex → Type 0
  ExFrom e = IsTruth sorts e → (rows : List f.AtomOf) (r : f.AtomOf) → Contains (with_ex sorts e rows) r → Contains rows r ⊎ IsFrom sorts e r

  binary_from : (o : s.Op) (a b : s.Ex) → ExFrom a → ExFrom b → ExFrom (s.Binary o a b)
  binary_from o a b from_a from_b t rows r c = by_test (relates_numbers sorts o a b) refl c
    where
      by_test : (q : Bool) → relates_numbers sorts o a b ≡ q → Contains (if q then with_relation (relation o a b) rows else with_ex sorts b (with_ex sorts a rows)) r → Contains rows r ⊎ IsFrom sorts (s.Binary o a b) r
      by_test true k h =
          let all = three (relates o) (is_number (kind_ex sorts a)) (is_number (kind_ex sorts b)) k in
          ⊎_elim inl (λ p. inr (here o a b all.0 all.1 all.2 p)) (relation_from (relation o a b) rows r h)
      by_test false k h =
          let both = sides o a b t k in
          ⊎_elim (λ g. ⊎_elim inl (λ p. inr (on_left o a b p)) (from_a both.0 rows r g)) (λ p. inr (on_right o a b p)) (from_b both.1 (with_ex sorts a rows) r h)

  ex_from : (e : s.Ex) → ExFrom e
  ex_from (s.Not e) t rows r c =
      ⊎_elim inl (λ h. inr (denied e h)) (ex_from e (truth_given (is_truth (kind_ex sorts e)) t) rows r c)
  ex_from (s.Negative e) t rows r c = absurd (number_alone (kind_ex sorts e) t)
  ex_from (s.Binary o a b) t rows r c = binary_from o a b (ex_from a) (ex_from b) t rows r c
  ex_from (s.Number z) t rows r c = inl c
  ex_from (s.Fact b) t rows r c = inl c
  ex_from (s.Constant k) t rows r c = inl c
  ex_from (s.Read x) t rows r c = inl c
  ex_from (s.Apply g es) t rows r c = inl c
  ex_from (s.Select e es) t rows r c = inl c
  ex_from (s.Update e es v) t rows r c = inl c
  ex_from (s.Old e) t rows r c = inl c

  module _ (m : ℕ) where
    cmd_from : (k : PassiveCmd) (ks : List PassiveCmd) (e : s.Ex) (rows : List f.AtomOf) (r : f.AtomOf) → (IsFrom sorts e r → InCmds (λ x. IsFrom sorts x r) (k ∷ ks)) → IsTruth sorts e → Contains (with_ex sorts e rows) r ⊎ InCmds (λ x. IsFrom sorts x r) ks → Contains rows r ⊎ InCmds (λ x. IsFrom sorts x r) (k ∷ ks)
    cmd_from k ks e rows r first t h =
        ⊎_elim (λ c. ⊎_elim inl (λ p. inr (first p)) (ex_from e t rows r c)) (λ a. inr (any_later _ k ks a)) h

    cmds_from : (ks : List PassiveCmd) → cmds_sorted sorts m ks ≡ true → (rows : List f.AtomOf) (r : f.AtomOf) → Contains (with_cmds sorts ks rows) r → Contains rows r ⊎ InCmds (λ x. IsFrom sorts x r) ks
    cmds_from [] h rows r c = inl c
    cmds_from (Claims p b e ∷ ks) h rows r c =
        let more = and_right (fits_candidate m b) (is_truth (kind_ex sorts e) && cmds_sorted sorts m ks) h in
        cmd_from (Claims p b e) ks e rows r (any_first _ (Claims p b e) ks) (and_left (is_truth (kind_ex sorts e)) (cmds_sorted sorts m ks) more) (cmds_from ks (and_right (is_truth (kind_ex sorts e)) (cmds_sorted sorts m ks) more) (with_ex sorts e rows) r c)
    cmds_from (Supposes b e ∷ ks) h rows r c =
        let more = and_right (fits_candidate m b) (is_truth (kind_ex sorts e) && cmds_sorted sorts m ks) h in
        cmd_from (Supposes b e) ks e rows r (any_first _ (Supposes b e) ks) (and_left (is_truth (kind_ex sorts e)) (cmds_sorted sorts m ks) more) (cmds_from ks (and_right (is_truth (kind_ex sorts e)) (cmds_sorted sorts m ks) more) (with_ex sorts e rows) r c)

    edges_from : (es : List Edge) → edges_sorted sorts m es ≡ true → (rows : List f.AtomOf) (r : f.AtomOf) → Contains (with_edges sorts es rows) r → Contains rows r ⊎ InEdges (λ x. IsFrom sorts x r) es
    edges_from [] h rows r c = inl c
    edges_from (e ∷ es) h rows r c =
        ⊎_elim (λ k. ⊎_elim inl (λ p. inr (any_first _ e es p)) (cmds_from e.cmds (and_left (cmds_sorted sorts m e.cmds) (edges_sorted sorts m es) h) rows r k)) (λ a. inr (any_later _ e es a)) (edges_from es (and_right (cmds_sorted sorts m e.cmds) (edges_sorted sorts m es) h) (with_cmds sorts e.cmds rows) r c)

    block_from : (b : PassiveBlock) → cmds_sorted sorts m b.cmds ≡ true → edges_sorted sorts m b.next ≡ true → (rows : List f.AtomOf) (r : f.AtomOf) → Contains (with_block sorts b rows) r → Contains rows r ⊎ InBlock (λ x. IsFrom sorts x r) b
    block_from b h k rows r c =
        ⊎_elim (λ g. ⊎_elim inl (λ p. inr (inl p)) (cmds_from b.cmds h rows r g)) (λ p. inr (inr p)) (edges_from b.next k (with_cmds sorts b.cmds rows) r c)

    blocks_from : (bs : List PassiveBlock) → blocks_sorted sorts m bs ≡ true → (rows : List f.AtomOf) (r : f.AtomOf) → Contains (with_blocks sorts bs rows) r → Contains rows r ⊎ InBlocks (λ x. IsFrom sorts x r) bs
    blocks_from [] h rows r c = inl c
    blocks_from (b ∷ bs) h rows r c =
        let more = and_right (cmds_sorted sorts m b.cmds) (edges_sorted sorts m b.next && blocks_sorted sorts m bs) h in
        ⊎_elim (λ k. ⊎_elim inl (λ p. inr (any_first _ b bs p)) (block_from b (and_left (cmds_sorted sorts m b.cmds) (edges_sorted sorts m b.next && blocks_sorted sorts m bs) h) (and_left (edges_sorted sorts m b.next) (blocks_sorted sorts m bs) more) rows r k)) (λ a. inr (any_later _ b bs a)) (blocks_from bs (and_right (edges_sorted sorts m b.next) (blocks_sorted sorts m bs) more) (with_block sorts b rows) r c)

    pub all_from : (bs : List PassiveBlock) → blocks_sorted sorts m bs ≡ true → AreFrom sorts bs (rows_of sorts bs)
    all_from bs h =
        All-weaker (Contains (rows_of sorts bs)) (λ r. InBlocks (λ e. IsFrom sorts e r) bs) (λ r c. ⊎_elim (λ none. absurd (omega (arith, none.1))) (λ p. p) (blocks_from bs h [] r c)) (rows_of sorts bs) (All-contains_itself (rows_of sorts bs))

-- ---- what they name

below_in : (n : ℕ) (rs : List f.AtomOf) (r : f.AtomOf) → rows_below n rs ≡ true → Contains rs r → atom_below n r ≡ true
below_in n [] r h c = absurd (omega (arith, c.1))
below_in n (a ∷ rs) r h (zero, lt, e) = subst (λ x. atom_below n x ≡ true) e (and_left (atom_below n a) (rows_below n rs) h)
below_in n (a ∷ rs) r h (suc k, lt, e) =
    below_in n rs r (and_right (atom_below n a) (rows_below n rs) h) (k, omega (arith, lt), e)

all_below : (n : ℕ) (rs : List f.AtomOf) → ((r : f.AtomOf) → Contains rs r → atom_below n r ≡ true) → rows_below n rs ≡ true
all_below n [] h = refl
all_below n (a ∷ rs) h =
    and_both (atom_below n a) (rows_below n rs) (h a (first_in a a rs refl)) (all_below n rs (λ r c. h r (later_in a r rs c)))

module _ (sorts : List Sort) where
  row_below : (o : s.Op) (a b : s.Ex) (r : f.AtomOf) → is_number (kind_ex sorts a) ≡ true → is_number (kind_ex sorts b) ≡ true → (x : Result (List f.AtomOf) OutOfRange) → relation o a b ≡ x → IsOkAnd x (λ rs. Contains rs r) → atom_below (length sorts) r ≡ true
  row_below o a b r ka kb (Ok rs) e c = below_in (length sorts) rs r (relation_inside sorts o a b rs ka kb e) c
  row_below o a b r ka kb (Err x) e c = absurd c

  has_below : (r : f.AtomOf) (e : s.Ex) → IsFrom sorts e r → atom_below (length sorts) r ≡ true
  has_below r _ (here o a b rel ka kb p) = row_below o a b r ka kb (relation o a b) refl p
  has_below r _ (on_left o a b h) = has_below r a h
  has_below r _ (on_right o a b h) = has_below r b h
  has_below r _ (denied e h) = has_below r e h

  in_cmds : (ks : List PassiveCmd) (r : f.AtomOf) → InCmds (λ e. IsFrom sorts e r) ks → atom_below (length sorts) r ≡ true
  in_cmds ks r a = has_below r _ a.4

  in_block : (b : PassiveBlock) (r : f.AtomOf) → InBlock (λ e. IsFrom sorts e r) b → atom_below (length sorts) r ≡ true
  in_block b r a = ⊎_elim (in_cmds b.cmds r) (λ x. in_cmds _ r x.4) a

  pub from_below : (bs : List PassiveBlock) (rows : List f.AtomOf) → AreFrom sorts bs rows → rows_below (length sorts) rows ≡ true
  from_below bs rows h =
      all_below (length sorts) rows (λ r c. let a = All-contains (λ x. InBlocks (λ e. IsFrom sorts e x) bs) rows r h c in in_block _ r a.4)

-- the rows of a table that went on behind none
pub listed_now : (sorts sorts' : List Sort) (base : ℕ) (start end : Table) (rows : List Linear) (bs : List PassiveBlock) → sorts ≡ sorts' → start.rows.items ≡ [] → rows ≡ end.rows.items → Grows base (with_blocks sorts bs) start end → map f.view_linear rows ≡ rows_of sorts' bs
listed_now sorts sorts' base start end rows bs same none is grows =
    ap (map f.view_linear) is
    ∙ grows.rows
    ∙ ap (λ l. with_blocks sorts bs (map f.view_linear l)) none
    ∙ ap (λ q. rows_of q bs) same
