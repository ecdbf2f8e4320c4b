-- Truths over more sorts, and over rows that stand elsewhere: their forms are the same ones, of atoms that went there.
use Rattle.std.proofs.Common.{◌≡◌, ◌<◌, ℕ, suc, Bool, true, false, List, [], ◌∷◌, ◌++◌, map, refl, sym, ap, ◌∙◌, subst, cond, inl, inr}
use Rattle.std.specs.Prelude.{◌&&◌, ◌||◌, if◌then◌else◌, Option, Some, None, Result, Ok, Err, slice_get, pos, int_le}
use Rattle.bg_base.specs.declared.exact.OutOfRange.{OutOfRange}
use Rattle.bg_ast.specs.Syntax.{Ex, Number, Fact, Read, Local, Not, Negative, Binary, Op, And, Unequal}
use Rattle.bg_passive.specs.Passive.{PassiveCmd, Claims, Supposes, Edge, PassiveBlock}
use Rattle.bg_rows.specs.Rows.{RowOf, is_empty}
use Rattle.bg_formula.specs.declared.atom.Literal.{Literal}
use Rattle.bg_formula.specs.Atoms.{AtomOf, IsTruth, IsRow, row_eq}
use Rattle.bg_forms.specs.Forms.{Is, denied, joined_by, form_of}
use Rattle.bg_formed.specs.Formed.{Asks, Takes, fits_candidate}
use Rattle.bg_formed.proofs.Below.{and_left, and_right}
use Rattle.bg_linear.specs.declared.scalar.Sort.{Sort}
use Rattle.bg_linear.specs.Relations.{relation}
use Rattle.bg_linear.specs.Sorts.{kind_at, kind_ex, is_truth}
use Rattle.bg_atoms.specs.Ranks.{truths, rank, ranks_from, read_by}
use Rattle.bg_atoms.specs.Built.{literal_ex, says_ex}
use Rattle.bg_atoms.specs.Literals.{literal_of}
use Rattle.bg_atoms.specs.Listed.{is_there}
use Rattle.bg_atoms.specs.Over.{relates_numbers, read_literal, row_ex, rows_ex, relation_ex, over, first_refused, says_unless, says_over}
use Rattle.bg_atoms.specs.Encoded.{cmd_over, edge_over, blocks_over}
use Rattle.bg_atoms.specs.Sorted.{cmds_sorted, edges_sorted, blocks_sorted}
use Rattle.bg_ahead.specs.Rows.{itself}
use Rattle.bg_ahead.specs.Moved.{moved_atom, moved, moved_form, moved_says, moved_cmd, moved_edge, moved_blocks}
use Rattle.bg_ahead.proofs.There.{AllThere, RelationThere, OneOf, ExThere, CmdsThere, EdgesThere, BlocksThere}
use Rattle.bg_ahead.proofs.Sorts.{ranks_more, ranked_truth, rank_below, truth_at, truth_denied, Sides, sides, relates_more, unrelated, truth_more, refused_more}
use Rattle.bg_ahead.proofs.Turning.{denied_moved, joined_moved}

-- ---- literals of rows that are there

-- a row that is there has a literal
pub found_there : (r : RowOf) (n : ℕ) (rows : List AtomOf) → is_there r rows ≡ true → (l : Literal) × (literal_of r n rows ≡ Some l)
found_there r n [] h = absurd (let bad : ⊥ = cc in bad)
found_there r n (IsTruth x ∷ rs) h = found_there r (suc n) rs h
found_there r n (IsRow a d ∷ rs) h = by_tests (row_eq a r) (row_eq d r) (found_there r (suc n) rs) h
  where
    by_tests : (b c : Bool) → (is_there r rs ≡ true → (l : Literal) × (literal_of r (suc n) rs ≡ Some l)) → (b || (c || is_there r rs)) ≡ true → (l : Literal) × (cond b (Some (record { atom = n; sign = true })) (cond c (Some (record { atom = n; sign = false })) (literal_of r (suc n) rs)) ≡ Some l)
    by_tests true c f k = (record { atom = n; sign = true }, refl)
    by_tests false true f k = (record { atom = n; sign = false }, refl)
    by_tests false false f k = f k

-- and it has the same one where there are more rows behind them
found_on : (r : RowOf) (n : ℕ) (rows more : List AtomOf) → is_there r rows ≡ true → literal_of r n (rows ++ more) ≡ literal_of r n rows
found_on r n [] more h = absurd (let bad : ⊥ = cc in bad)
found_on r n (IsTruth x ∷ rs) more h = found_on r (suc n) rs more h
found_on r n (IsRow a d ∷ rs) more h = by_tests (row_eq a r) (row_eq d r) (found_on r (suc n) rs more) h
  where
    by_tests : (b c : Bool) → (is_there r rs ≡ true → literal_of r (suc n) (rs ++ more) ≡ literal_of r (suc n) rs) → (b || (c || is_there r rs)) ≡ true → cond b (Some (record { atom = n; sign = true })) (cond c (Some (record { atom = n; sign = false })) (literal_of r (suc n) (rs ++ more))) ≡ cond b (Some (record { atom = n; sign = true })) (cond c (Some (record { atom = n; sign = false })) (literal_of r (suc n) rs))
    by_tests true c f k = refl
    by_tests false true f k = refl
    by_tests false false f k = f k

literal_form_by : (s : Bool) (a : ℕ) → form_of (literal_ex s a) ≡ Is (record { atom = a; sign = s })
literal_form_by true a = refl
literal_form_by false a = refl

pub literal_form : (l : Literal) → form_of (literal_ex l.sign l.atom) ≡ Is l
literal_form l = literal_form_by l.sign l.atom

-- ---- what is there of an operator

module _ (ss : List Sort) (rows : List AtomOf) (op : Op) (a b : Ex) where
  abbrev BothThere : Bool → Type 0
  BothThere c = OneOf c (RelationThere rows (relation op a b)) (ExThere ss rows a × ExThere ss rows b)

  related_there : relates_numbers ss op a b ≡ true → ExThere ss rows (Binary op a b) → RelationThere rows (relation op a b)
  related_there r t = subst BothThere r t

  parts_there : relates_numbers ss op a b ≡ false → ExThere ss rows (Binary op a b) → ExThere ss rows a × ExThere ss rows b
  parts_there r t = subst BothThere r t

abbrev over_by : List Sort → ℕ → List AtomOf → Op → Ex → Ex → Bool → Ex
over_by ss n rows op a b c = if c then relation_ex n rows op (relation op a b) else Binary op (over ss n rows a) (over ss n rows b)

abbrev row_by : ℕ → List AtomOf → RowOf → Bool → Ex
row_by n rows r c = if c then Fact (int_le (pos 0) r.bound) else read_literal (literal_of r n rows)

-- ---- forms over rows that stand elsewhere

module _ (ss ts : List Sort) (n m : ℕ) (rows rows' : List AtomOf) (to : List Literal) (stay : (a : ℕ) → a < truths ss → moved_atom to a ≡ itself a) (go : (r : RowOf) (l : Literal) → literal_of r n rows ≡ Some l → literal_of r m rows' ≡ Some (moved to l)) where
  literal_moved : (r : RowOf) → is_there r rows ≡ true → form_of (read_literal (literal_of r m rows')) ≡ moved_form to (form_of (read_literal (literal_of r n rows)))
  literal_moved r h =
      let f = found_there r n rows h in
      ap (λ o. form_of (read_literal o)) (go r f.0 f.1)
      ∙ literal_form (moved to f.0)
      ∙ ap (moved_form to) (sym (literal_form f.0))
      ∙ ap (λ o. moved_form to (form_of (read_literal o))) (sym f.1)

  row_moved : (r : RowOf) → (is_empty r.entries ≡ false → is_there r rows ≡ true) → form_of (row_ex m rows' r) ≡ moved_form to (form_of (row_ex n rows r))
  row_moved r h = by_test (is_empty r.entries) h
    where
      by_test : (b : Bool) → (b ≡ false → is_there r rows ≡ true) → form_of (row_by m rows' r b) ≡ moved_form to (form_of (row_by n rows r b))
      by_test true k = refl
      by_test false k = literal_moved r (k refl)

  rows_moved : (rs : List AtomOf) → AllThere rows rs → form_of (rows_ex m rows' rs) ≡ moved_form to (form_of (rows_ex n rows rs))
  rows_moved [] t = refl
  rows_moved (IsTruth x ∷ rs) t = rows_moved rs t
  rows_moved (IsRow r d ∷ rs) t =
      ap (λ f. joined_by And f (form_of (rows_ex m rows' rs))) (row_moved r t.0)
      ∙ ap (joined_by And (moved_form to (form_of (row_ex n rows r)))) (rows_moved rs t.1)
      ∙ joined_moved to And (form_of (row_ex n rows r)) (form_of (rows_ex n rows rs))

  says_ex_moved : (op : Op) (x y : Ex) → form_of x ≡ moved_form to (form_of y) → form_of (says_ex op x) ≡ moved_form to (form_of (says_ex op y))
  says_ex_moved Unequal x y h = ap denied h ∙ denied_moved to (form_of y)
  says_ex_moved _ x y h = h

  relation_moved : (op : Op) (q : Result (List AtomOf) OutOfRange) → RelationThere rows q → form_of (relation_ex m rows' op q) ≡ moved_form to (form_of (relation_ex n rows op q))
  relation_moved op (Ok rs) t = says_ex_moved op (rows_ex m rows' rs) (rows_ex n rows rs) (rows_moved rs t)
  relation_moved op (Err o) t = refl

  read_moved : (j : ℕ) → is_truth (kind_at (slice_get ss j)) ≡ true → form_of (read_by (slice_get (ranks_from 0 (ss ++ ts)) j)) ≡ moved_form to (form_of (read_by (slice_get (ranks_from 0 ss) j)))
  read_moved j h =
      let there = truth_at (slice_get ss j) h in
      let place = ranked_truth ss j there in
      ap (λ o. form_of (read_by o)) (ranks_more ss ts j (rank ss j) place)
      ∙ ap Is (sym (stay (rank ss j) (rank_below ss j there)))
      ∙ ap (λ o. moved_form to (form_of (read_by o))) (sym place)

  pub form_moved : (e : Ex) → is_truth (kind_ex ss e) ≡ true → ExThere ss rows e → form_of (over (ss ++ ts) m rows' e) ≡ moved_form to (form_of (over ss n rows e))
  form_moved (Fact b) h t = refl
  form_moved (Read (Local j)) h t = read_moved j h
  form_moved (Not e) h t = ap denied (form_moved e (truth_denied (kind_ex ss e) h) t) ∙ denied_moved to (form_of (over ss n rows e))
  form_moved (Negative e) h t = refl
  form_moved (Binary op a b) h t = by_sides (form_moved a) (form_moved b) (sides op (kind_ex ss a) (kind_ex ss b) h)
    where
      by_sides : (is_truth (kind_ex ss a) ≡ true → ExThere ss rows a → form_of (over (ss ++ ts) m rows' a) ≡ moved_form to (form_of (over ss n rows a))) → (is_truth (kind_ex ss b) ≡ true → ExThere ss rows b → form_of (over (ss ++ ts) m rows' b) ≡ moved_form to (form_of (over ss n rows b))) → Sides op (kind_ex ss a) (kind_ex ss b) → form_of (over (ss ++ ts) m rows' (Binary op a b)) ≡ moved_form to (form_of (over ss n rows (Binary op a b)))
      by_sides f g (inl r) =
          ap (λ c. form_of (over_by (ss ++ ts) m rows' op a b c)) (relates_more ss ts op a b r)
          ∙ relation_moved op (relation op a b) (related_there ss rows op a b r t)
          ∙ ap (λ c. moved_form to (form_of (over_by ss n rows op a b c))) (sym r)
      by_sides f g (inr p) =
          let apart = unrelated ss op a b p.0 in
          let parts = parts_there ss rows op a b apart t in
          ap (λ c. form_of (over_by (ss ++ ts) m rows' op a b c)) (unrelated (ss ++ ts) op a b (truth_more ss ts a p.0))
          ∙ ap (λ x. joined_by op x (form_of (over (ss ++ ts) m rows' b))) (f p.0 parts.0)
          ∙ ap (joined_by op (moved_form to (form_of (over ss n rows a)))) (g p.1 parts.1)
          ∙ joined_moved to op (form_of (over ss n rows a)) (form_of (over ss n rows b))
          ∙ ap (λ c. moved_form to (form_of (over_by ss n rows op a b c))) (sym apart)
  form_moved _ h t = absurd (let bad : ⊥ = cc in bad)

  unless_moved : (o : Option OutOfRange) (x y : Ex) → form_of x ≡ moved_form to (form_of y) → says_unless o x ≡ moved_says to (says_unless o y)
  unless_moved None x y h = ap Ok h
  unless_moved (Some o) x y h = refl

  pub says_moved : (e : Ex) → is_truth (kind_ex ss e) ≡ true → ExThere ss rows e → says_over (ss ++ ts) m rows' e ≡ moved_says to (says_over ss n rows e)
  says_moved e h t =
      ap (λ o. says_unless o (over (ss ++ ts) m rows' e)) (refused_more ss ts e h)
      ∙ unless_moved (first_refused ss e) (over (ss ++ ts) m rows' e) (over ss n rows e) (form_moved e h t)

  module _ (k : ℕ) where
    pub cmds_moved : (ks : List PassiveCmd) → cmds_sorted ss k ks ≡ true → CmdsThere ss rows ks → map (cmd_over (ss ++ ts) m rows') ks ≡ map (moved_cmd to) (map (cmd_over ss n rows) ks)
    cmds_moved [] h t = refl
    cmds_moved (Claims s b e ∷ ks) h t =
        let more = and_right (fits_candidate k b) (is_truth (kind_ex ss e) && cmds_sorted ss k ks) h in
        let first = says_moved e (and_left (is_truth (kind_ex ss e)) (cmds_sorted ss k ks) more) t.0 in
        let rest = cmds_moved ks (and_right (is_truth (kind_ex ss e)) (cmds_sorted ss k ks) more) t.1 in
        λ i. Asks s b (first i) ∷ rest i
    cmds_moved (Supposes b e ∷ ks) h t =
        let more = and_right (fits_candidate k b) (is_truth (kind_ex ss e) && cmds_sorted ss k ks) h in
        let first = says_moved e (and_left (is_truth (kind_ex ss e)) (cmds_sorted ss k ks) more) t.0 in
        let rest = cmds_moved ks (and_right (is_truth (kind_ex ss e)) (cmds_sorted ss k ks) more) t.1 in
        λ i. Takes b (first i) ∷ rest i

    pub edges_moved : (es : List Edge) → edges_sorted ss k es ≡ true → EdgesThere ss rows es → map (edge_over (ss ++ ts) m rows') es ≡ map (moved_edge to) (map (edge_over ss n rows) es)
    edges_moved [] h t = refl
    edges_moved (e ∷ es) h t =
        let cmds = cmds_moved e.cmds (and_left (cmds_sorted ss k e.cmds) (edges_sorted ss k es) h) t.0 in
        let rest = edges_moved es (and_right (cmds_sorted ss k e.cmds) (edges_sorted ss k es) h) t.1 in
        λ i. record { cmds = cmds i; to = e.to } ∷ rest i

    pub blocks_moved : (bs : List PassiveBlock) → blocks_sorted ss k bs ≡ true → BlocksThere ss rows bs → blocks_over (ss ++ ts) m rows' bs ≡ moved_blocks to (blocks_over ss n rows bs)
    blocks_moved [] h t = refl
    blocks_moved (b ∷ bs) h t =
        let more = and_right (cmds_sorted ss k b.cmds) (edges_sorted ss k b.next && blocks_sorted ss k bs) h in
        let cmds = cmds_moved b.cmds (and_left (cmds_sorted ss k b.cmds) (edges_sorted ss k b.next && blocks_sorted ss k bs) h) t.0.0 in
        let next = edges_moved b.next (and_left (edges_sorted ss k b.next) (blocks_sorted ss k bs) more) t.0.1 in
        let rest = blocks_moved bs (and_right (edges_sorted ss k b.next) (blocks_sorted ss k bs) more) t.1 in
        λ i. record { cmds = cmds i; next = next i } ∷ rest i

-- ---- more rows behind those that are there

module _ (ss : List Sort) (m : ℕ) (rows more : List AtomOf) where
  row_on : (r : RowOf) → (is_empty r.entries ≡ false → is_there r rows ≡ true) → row_ex m (rows ++ more) r ≡ row_ex m rows r
  row_on r h = by_test (is_empty r.entries) h
    where
      by_test : (b : Bool) → (b ≡ false → is_there r rows ≡ true) → row_by m (rows ++ more) r b ≡ row_by m rows r b
      by_test true k = refl
      by_test false k = ap read_literal (found_on r m rows more (k refl))

  rows_on : (rs : List AtomOf) → AllThere rows rs → rows_ex m (rows ++ more) rs ≡ rows_ex m rows rs
  rows_on [] t = refl
  rows_on (IsTruth x ∷ rs) t = rows_on rs t
  rows_on (IsRow r d ∷ rs) t =
      let first = row_on r t.0 in
      let rest = rows_on rs t.1 in
      λ i. Binary And (first i) (rest i)

  relation_on : (op : Op) (q : Result (List AtomOf) OutOfRange) → RelationThere rows q → relation_ex m (rows ++ more) op q ≡ relation_ex m rows op q
  relation_on op (Ok rs) t = ap (says_ex op) (rows_on rs t)
  relation_on op (Err o) t = refl

  pub over_on : (e : Ex) → ExThere ss rows e → over ss m (rows ++ more) e ≡ over ss m rows e
  over_on (Not e) t = ap Not (over_on e t)
  over_on (Binary op a b) t = by_test (over_on a) (over_on b) (relates_numbers ss op a b) t
    where
      by_test : (ExThere ss rows a → over ss m (rows ++ more) a ≡ over ss m rows a) → (ExThere ss rows b → over ss m (rows ++ more) b ≡ over ss m rows b) → (c : Bool) → BothThere ss rows op a b c → over_by ss m (rows ++ more) op a b c ≡ over_by ss m rows op a b c
      by_test f g true k = relation_on op (relation op a b) k
      by_test f g false k =
          let x = f k.0 in
          let y = g k.1 in
          λ i. Binary op (x i) (y i)
  over_on (Number z) t = refl
  over_on _ t = refl

  pub says_on : (e : Ex) → ExThere ss rows e → says_over ss m (rows ++ more) e ≡ says_over ss m rows e
  says_on e t = ap (says_unless (first_refused ss e)) (over_on e t)

  pub cmds_on : (ks : List PassiveCmd) → CmdsThere ss rows ks → map (cmd_over ss m (rows ++ more)) ks ≡ map (cmd_over ss m rows) ks
  cmds_on [] t = refl
  cmds_on (Claims s b e ∷ ks) t =
      let first = says_on e t.0 in
      let rest = cmds_on ks t.1 in
      λ i. Asks s b (first i) ∷ rest i
  cmds_on (Supposes b e ∷ ks) t =
      let first = says_on e t.0 in
      let rest = cmds_on ks t.1 in
      λ i. Takes b (first i) ∷ rest i
