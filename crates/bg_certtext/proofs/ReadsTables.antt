-- One line more, in a table or among steps: what is read stays right.
use Rattle.std.proofs.Common.{◌≡◌, ⊎_elim, ℕ, zero, suc, ◌+◌, ◌-◌, Bool, true, false, not, ◌==◌, if◌then◌else◌, List, [], ◌∷◌, ◌++◌, map, length, codes, Some, refl, ap, sym, ◌∙◌, append_assoc, append-nil, arith}
use Rattle.std.proofs.lemmas.Bool.{ne_eqb}
use Rattle.bg_rows.specs.declared.step.Step.{Step}
use Rattle.bg_certtext.specs.declared.draft.Stage.TheVariants as at
use Rattle.bg_certtext.specs.declared.text.Stated.{Stated}
use Rattle.bg_certtext.specs.Views.{RowOf, NodeOf, Derives}
use Rattle.bg_certtext.specs.Spellable.{is_empty, is_number, is_row, is_step, is_stated}
use Rattle.bg_certtext.specs.Texts.{place_words, stated_words}
use Rattle.bg_certtext.specs.Machine.{DraftOf, then_, count_in, row_in, step_in, stated_in, with_node, with_rows, with_row, with_step, with_stated, on_node, on_table, on_stated}
use Rattle.bg_certtext.proofs.ReadsOptions.{then_made, or_made, same_some}
use Rattle.bg_certtext.proofs.ReadsWords.{count_in_back}
use Rattle.bg_certtext.proofs.ReadsLists.{row_back}
use Rattle.bg_certtext.proofs.ReadsSteps.{step_back}
use Rattle.bg_certtext.proofs.ReadsStated.{stated_back}
use Rattle.bg_certtext.proofs.ReadsStates.{Head, Lines, AtTable, AtRows, AtNodes, AtSteps, Stays, Goes, GoodPlace, GoodRows, GoodNodes, GoodSteps, open_draft, head_lines, nodes_lines, steps_lines, rows_lines, counted}
use Rattle.bg_certtext.proofs.ReadsLines.{stated_more, steps_more, steps_whole, rows_more, table_whole, all_one, steps_one, length_one}
use Rattle.bg_certtext.proofs.ReadsMoves.{node_stays, on_node_goes, along, became}

-- ---- steps

pub steps_good : (steps : List Step) (s : Step) (n : ℕ) → GoodSteps steps (length steps + suc n) → is_step (length steps) s ≡ true → GoodSteps (steps ++ s ∷ []) (length (steps ++ s ∷ []) + n)
steps_good steps s n g k =
    let first : length steps ≡ 0 + length steps = omega arith in
    let same : length (steps ++ s ∷ []) + n ≡ length steps + suc n = omega (arith, length_one steps s) in
    record {
      fine = steps_one 0 steps s g.fine (ap (λ (m : ℕ). is_step m s) (sym first) ∙ k);
      count = ap is_number same ∙ g.count;
    }

last_step : (h : Head) (table : List RowOf) (nodes : List NodeOf) (t : ℕ) (steps : List Step) (s : Step) → GoodNodes h table nodes (suc t) → GoodSteps (steps ++ s ∷ []) (length (steps ++ s ∷ []) + 0) → Stays (nodes_lines h table (nodes ++ Derives (steps ++ s ∷ []) ∷ [])) (with_node (Derives (steps ++ s ∷ [])) (open_draft at.Steps h table nodes [] (suc t) 0))
last_step h table nodes t steps s g k =
    let same : length (steps ++ s ∷ []) + 0 ≡ length (steps ++ s ∷ []) = omega arith in
    let count : is_number (length (steps ++ s ∷ [])) ≡ true = ap is_number (sym same) ∙ k.count in
    node_stays at.Steps h table nodes t (Derives (steps ++ s ∷ [])) g (rw (filled steps s, count, k.fine) refl)
  where
    filled : (steps : List Step) (s : Step) → is_empty (steps ++ s ∷ []) ≡ false
    filled [] s = refl
    filled (r ∷ rs) s = refl

pub not_last : (h : Head) (table : List RowOf) (nodes : List NodeOf) (t : ℕ) (steps : List Step) (s : Step) (m : ℕ) → with_step s (open_draft at.Steps h table nodes steps (suc t) (suc (suc m))) ≡ open_draft at.Steps h table nodes (steps ++ s ∷ []) (suc t) (suc m)
not_last h table nodes t steps s m =
    let whole : DraftOf = with_node (Derives (steps ++ s ∷ [])) (open_draft at.Steps h table nodes [] (suc t) 0) in
    let other : (suc m == 0) ≡ false = ne_eqb (suc m) 0 (λ e. omega (arith, e)) in
    let same : suc (suc m) - 1 ≡ suc m = omega arith in
    ap (λ (k : ℕ). if k == 0 then whole else open_draft at.Steps h table nodes (steps ++ s ∷ []) (suc t) k) same
    ∙ ap (λ (b : Bool). if b then whole else open_draft at.Steps h table nodes (steps ++ s ∷ []) (suc t) (suc m)) other

step_goes : (h : Head) (table : List RowOf) (nodes : List NodeOf) (t : ℕ) (steps : List Step) (m : ℕ) (ws : List (List ℕ)) (s : Step) → GoodNodes h table nodes (suc t) → GoodSteps steps (length steps + suc m) → step_in (length steps) ws ≡ Some s → Goes (steps_lines h table nodes steps (length steps + suc m)) ws (with_step s (open_draft at.Steps h table nodes steps (suc t) (suc m)))
step_goes h table nodes t steps zero ws s g k e =
    let p = step_back (length steps) ws s e in
    let n : ℕ = length steps + 1 in
    let same : n ≡ length (steps ++ s ∷ []) = sym (length_one steps s) in
    along (steps_lines h table nodes steps n ++ ws ∷ []) (nodes_lines h table (nodes ++ Derives (steps ++ s ∷ []) ∷ [])) (with_node (Derives (steps ++ s ∷ [])) (open_draft at.Steps h table nodes [] (suc t) 0))
    (ap (λ (us : List (List ℕ)). steps_lines h table nodes steps n ++ us ∷ []) p.0
    ∙ sym (steps_more h table nodes steps s n)
    ∙ ap (steps_lines h table nodes (steps ++ s ∷ [])) same
    ∙ sym (steps_whole h table nodes (steps ++ s ∷ [])))
    (last_step h table nodes t steps s g (steps_good steps s 0 k p.1))
step_goes h table nodes t steps (suc m) ws s g k e =
    let p = step_back (length steps) ws s e in
    let n : ℕ = length steps + suc (suc m) in
    let same : n ≡ length (steps ++ s ∷ []) + suc m = omega (arith, length_one steps s) in
    record {
      state = AtSteps h table nodes t (steps ++ s ∷ []) m;
      good = (g, steps_good steps s (suc m) k p.1);
      is = not_last h table nodes t steps s m;
      lines_are =
          ap (λ (us : List (List ℕ)). steps_lines h table nodes steps n ++ us ∷ []) p.0
          ∙ sym (steps_more h table nodes steps s n)
          ∙ ap (steps_lines h table nodes (steps ++ s ∷ [])) same;
    }

pub on_steps_goes : (h : Head) (table : List RowOf) (nodes : List NodeOf) (t : ℕ) (steps : List Step) (m : ℕ) (ws : List (List ℕ)) (e : DraftOf) → GoodNodes h table nodes (suc t) → GoodSteps steps (length steps + suc m) → then_ (step_in (length steps) ws) (λ s. Some (with_step s (open_draft at.Steps h table nodes steps (suc t) (suc m)))) ≡ Some e → Goes (steps_lines h table nodes steps (length steps + suc m)) ws e
on_steps_goes h table nodes t steps m ws e g k i =
    let d : DraftOf = open_draft at.Steps h table nodes steps (suc t) (suc m) in
    let (s, f, l) = then_made (step_in (length steps) ws) (λ (s : Step). Some (with_step s d)) e i in
    became (steps_lines h table nodes steps (length steps + suc m) ++ ws ∷ []) (with_step s d) e (same_some (with_step s d) e l) (step_goes h table nodes t steps m ws s g k f)

-- ---- rows

pub rows_good : (h : Head) (table : List RowOf) (r : RowOf) (n : ℕ) → GoodRows h table (length table + suc n) → is_row r ≡ true → GoodRows h (table ++ r ∷ []) (length (table ++ r ∷ []) + n)
rows_good h table r n g k =
    let same : length (table ++ r ∷ []) + n ≡ length table + suc n = omega (arith, length_one table r) in
    record { place = g.place; rows = all_one is_row table r g.rows k; count = ap is_number same ∙ g.count }

pub table_is_whole : (h : Head) (table : List RowOf) (r : RowOf) → rows_lines h (table ++ r ∷ []) (length (table ++ r ∷ [])) ≡ nodes_lines h (table ++ r ∷ []) []
table_is_whole h [] r = table_whole h r []
table_is_whole h (q ∷ qs) r = table_whole h q (qs ++ r ∷ [])

pub not_last_row : (h : Head) (table : List RowOf) (r : RowOf) (m : ℕ) → with_row r (open_draft at.Rows h table [] [] 1 (suc (suc m))) ≡ open_draft at.Rows h (table ++ r ∷ []) [] [] 1 (suc m)
not_last_row h table r m =
    let other : (suc m == 0) ≡ false = ne_eqb (suc m) 0 (λ e. omega (arith, e)) in
    let same : suc (suc m) - 1 ≡ suc m = omega arith in
    ap (λ (k : ℕ). open_draft (if k == 0 then at.Nodes else at.Rows) h (table ++ r ∷ []) [] [] 1 k) same
    ∙ ap (λ (b : Bool). open_draft (if b then at.Nodes else at.Rows) h (table ++ r ∷ []) [] [] 1 (suc m)) other

row_goes : (h : Head) (table : List RowOf) (m : ℕ) (ws : List (List ℕ)) (r : RowOf) → GoodRows h table (length table + suc m) → row_in ws ≡ Some r → Goes (rows_lines h table (length table + suc m)) ws (with_row r (open_draft at.Rows h table [] [] 1 (suc m)))
row_goes h table zero ws r g e =
    let p = row_back ws r e in
    let n : ℕ = length table + 1 in
    let k = rows_good h table r 0 g p.1 in
    let none : length (table ++ r ∷ []) + 0 ≡ length (table ++ r ∷ []) = omega arith in
    record {
      state = AtNodes h (table ++ r ∷ []) [] 0;
      good = record { rows = record { place = k.place; rows = k.rows; count = ap is_number (sym none) ∙ k.count }; fine = refl; trees = λ rest. refl };
      is = refl;
      lines_are =
          ap (λ (us : List (List ℕ)). rows_lines h table n ++ us ∷ []) p.0
          ∙ sym (rows_more h table r n)
          ∙ ap (rows_lines h (table ++ r ∷ [])) (sym (length_one table r))
          ∙ table_is_whole h table r;
    }
row_goes h table (suc m) ws r g e =
    let p = row_back ws r e in
    let n : ℕ = length table + suc (suc m) in
    let same : n ≡ length (table ++ r ∷ []) + suc m = omega (arith, length_one table r) in
    record {
      state = AtRows h (table ++ r ∷ []) m;
      good = rows_good h table r (suc m) g p.1;
      is = not_last_row h table r m;
      lines_are =
          ap (λ (us : List (List ℕ)). rows_lines h table n ++ us ∷ []) p.0
          ∙ sym (rows_more h table r n)
          ∙ ap (rows_lines h (table ++ r ∷ [])) same;
    }

pub on_rows_goes : (h : Head) (table : List RowOf) (m : ℕ) (ws : List (List ℕ)) (e : DraftOf) → GoodRows h table (length table + suc m) → then_ (row_in ws) (λ r. Some (with_row r (open_draft at.Rows h table [] [] 1 (suc m)))) ≡ Some e → Goes (rows_lines h table (length table + suc m)) ws e
on_rows_goes h table m ws e g i =
    let d : DraftOf = open_draft at.Rows h table [] [] 1 (suc m) in
    let (r, f, l) = then_made (row_in ws) (λ (r : RowOf). Some (with_row r d)) e i in
    became (rows_lines h table (length table + suc m) ++ ws ∷ []) (with_row r d) e (same_some (with_row r d) e l) (row_goes h table m ws r g f)

-- ---- behind a place

pub place_good : (h : Head) → GoodPlace h → GoodNodes h [] [] 1
place_good h g = record { rows = record { place = g; rows = refl; count = refl }; fine = refl; trees = λ rest. refl }

table_goes : (h : Head) (m : ℕ) (ws : List (List ℕ)) → GoodPlace h → ws ≡ counted (codes "table") m → is_number m ≡ true → not (m == 0) ≡ true → Goes (nodes_lines h [] []) ws (open_draft at.Rows h [] [] [] 1 m)
table_goes h zero ws g e k some = absurd (cc)
table_goes h (suc m) ws g e k some =
    let same : 0 + suc m ≡ suc m = omega arith in
    record {
      state = AtRows h [] m;
      good = record { place = g; rows = refl; count = ap is_number same ∙ k };
      is = refl;
      lines_are =
          append_assoc (head_lines h) (place_words h.implementation h.place ∷ (map stated_words h.stated ++ [])) (ws ∷ [])
          ∙ ap (λ (ls : Lines). head_lines h ++ place_words h.implementation h.place ∷ (ls ++ ws ∷ [])) (append-nil (map stated_words h.stated))
          ∙ ap (λ (us : List (List ℕ)). head_lines h ++ place_words h.implementation h.place ∷ (map stated_words h.stated ++ us ∷ [])) (e ∙ ap (counted (codes "table")) (sym same));
    }

on_table_goes : (h : Head) (ws : List (List ℕ)) (e : DraftOf) → GoodPlace h → on_table ws (open_draft at.Table h [] [] [] 1 0) ≡ Some e → Goes (nodes_lines h [] []) ws e
on_table_goes h ws e g i =
    let d : DraftOf = open_draft at.Table h [] [] [] 1 0 in
    ⊎_elim
    (λ p.
    let (m, f, l) = then_made (count_in (codes "table") ws) (λ (m : ℕ). Some (with_rows m d)) e p in
    let q = count_in_back (codes "table") ws m f in
    became (nodes_lines h [] [] ++ ws ∷ []) (with_rows m d) e (same_some (with_rows m d) e l) (table_goes h m ws g q.0 q.1 q.2))
    (λ p. on_node_goes at.Table h [] [] 0 ws e (place_good h g) p)
    (or_made (then_ (count_in (codes "table") ws) (λ m. Some (with_rows m d))) (on_node ws d) e i)

-- behind one more instance
stated_goes : (h : Head) (s : Stated) (ws : List (List ℕ)) → GoodPlace h → stated_in ws ≡ Some s → Goes (nodes_lines h [] []) ws (with_stated s (open_draft at.Table h [] [] [] 1 0))
stated_goes h s ws g e =
    let p = stated_back ws s e in
    record {
      state = AtTable (record h { stated = h.stated ++ s ∷ [] });
      good = record { head = record { interp = g.head.interp; names = g.head.names; sections = g.head.sections }; implementation = g.implementation; place = g.place; stated = all_one is_stated h.stated s g.stated p.1 };
      is = refl;
      lines_are = ap (λ (us : List (List ℕ)). nodes_lines h [] [] ++ us ∷ []) p.0 ∙ sym (stated_more h s);
    }

pub on_stated_goes : (h : Head) (ws : List (List ℕ)) (e : DraftOf) → GoodPlace h → on_stated ws (open_draft at.Table h [] [] [] 1 0) ≡ Some e → Goes (nodes_lines h [] []) ws e
on_stated_goes h ws e g i =
    let d : DraftOf = open_draft at.Table h [] [] [] 1 0 in
    ⊎_elim
    (λ p.
    let (s, f, l) = then_made (stated_in ws) (λ (s : Stated). Some (with_stated s d)) e p in
    became (nodes_lines h [] [] ++ ws ∷ []) (with_stated s d) e (same_some (with_stated s d) e l) (stated_goes h s ws g f))
    (λ p. on_table_goes h ws e g p)
    (or_made (then_ (stated_in ws) (λ s. Some (with_stated s d))) (on_table ws d) e i)
