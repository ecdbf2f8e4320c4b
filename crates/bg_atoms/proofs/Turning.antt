-- The rows of chains, and what was made of what stands behind `<==`.
use Rattle.std.proofs.Common.{◌≡◌, ◌<◌, ◌≤◌, ◌+◌, ℕ, zero, suc, Bool, true, false, List, [], ◌∷◌, ◌++◌, length, get_or, take, drop, map, Option, Some, None, refl, sym, ap, ◌∙◌, subst, arith, Vec, Box, Global}
use Rattle.std.specs.Prelude.{if◌then◌else◌, reverse}
use Rattle.std.proofs.lemmas.List.{reverse-append, drop-drop, length-drop}
use Rattle.bg_base.specs.declared.pos.Pos.{Pos}
use Rattle.bg_text.specs.declared.expr.InfixSign.{InfixSign}
use Rattle.bg_text.specs.declared.expr.InfixSign.TheVariants as op
use Rattle.bg_text.specs.declared.expr.PrefixSign.{PrefixSign}
use Rattle.bg_text.specs.declared.expr.PrefixSign.TheVariants as prefix
use Rattle.bg_text.specs.declared.expr.TreePrefix.{TreePrefix}
use Rattle.bg_ast.specs.declared.resolved.Expr.{Expr}
use Rattle.bg_ast.specs.declared.resolved.Expr.TheVariants as expr
use Rattle.bg_ast.specs.declared.resolved.Link.{Link}
use Rattle.bg_ast.specs.declared.resolved.Bracket.{Bracket}
use Rattle.bg_ast.specs.Syntax as s
use Rattle.bg_ast.specs.Meaning as m
use Rattle.bg_ast.specs.Resolved as r
use Rattle.bg_ast.specs.Views as u
use Rattle.bg_ast.proofs.Lists as z
use Rattle.bg_formula.specs.Atoms.{AtomOf}
use Rattle.bg_linear.specs.declared.scalar.Sort.{Sort}
use Rattle.bg_linear.specs.Chains.{is_implies}
use Rattle.bg_linear.specs.Relations.{relation, op_of}
use Rattle.bg_linear.proofs.Chained.{drop_item}
use Rattle.bg_atoms.specs.declared.made.Made.{Made}
use Rattle.bg_atoms.specs.declared.table.Table.{Table}
use Rattle.bg_atoms.specs.Over.{relates_numbers}
use Rattle.bg_atoms.specs.Pairs.{Pairs}
use Rattle.bg_atoms.specs.Worlds.{Begins}
use Rattle.bg_atoms.specs.Made.{rows_in, IsMade, behind}
use Rattle.bg_atoms.specs.Listed.{with_relation, with_ex}
use Rattle.bg_atoms.specs.Turned.{is_explies, until_implies, turned_by, turned_in, with_turned, with_links, with_operand, operand_in, AreTurned}
use Rattle.bg_atoms.specs.Tables.{IsTable}
use Rattle.bg_atoms.specs.Growing.{Grows}
use Rattle.bg_atoms.specs.Heads.{Relates, IsRelation, NoneRelates, IsHead, IsNext, IsNextIn}
use Rattle.bg_atoms.proofs.Lists.{begins_itself, begins_on}
use Rattle.bg_atoms.proofs.Listing.{begins_ex}
use Rattle.bg_atoms.proofs.Chained.{next_is, implies_is}

-- ---- links

module _ (l : Link) (ls : List Link) where
  abbrev e : s.Ex
  e = m.ex_of (u.ex_of l.operand)

  implied : (g : InfixSign) → l.sign ≡ g → g ≡ op.Implies → (a : s.Ex) → behind a (l ∷ ls) ≡ s.Binary s.Implies a (behind e ls)
  implied g h i a = ap (λ q. m.chained a (r.Link l.pos q (u.ex_of l.operand) (u.links_of (map u.link_view ls)))) (h ∙ i)

  pub turned_none : is_implies l.sign ≡ true → turned_in (l ∷ ls) ≡ []
  turned_none i = ap (λ c. if c then [] else turned_by l ++ turned_in ls) i

  pub turned_more : is_implies l.sign ≡ false → turned_in (l ∷ ls) ≡ turned_by l ++ turned_in ls
  turned_more i = ap (λ c. if c then [] else turned_by l ++ turned_in ls) i

  module _ (sorts : List Sort) (rows : List AtomOf) where
    links_anew : is_implies l.sign ≡ true → with_links sorts (l ∷ ls) rows ≡ with_ex sorts (behind e ls) rows
    links_anew i = ap (λ c. if c then with_ex sorts (behind e ls) rows else with_links sorts ls (if is_explies l.sign then rows else with_ex sorts e rows)) i

    links_more : is_implies l.sign ≡ false → with_links sorts (l ∷ ls) rows ≡ with_links sorts ls (if is_explies l.sign then rows else with_ex sorts e rows)
    links_more i = ap (λ c. if c then with_ex sorts (behind e ls) rows else with_links sorts ls (if is_explies l.sign then rows else with_ex sorts e rows)) i

    module _ (n : ℕ) where
      abbrev by_implies : Bool → List AtomOf
      by_implies c = if c then with_ex sorts (behind e (take n ls)) (with_turned sorts (turned_in (drop n ls)) rows) else if is_explies l.sign then rows else with_ex sorts e rows

      pub operand_anew : is_implies l.sign ≡ true → with_operand sorts (l ∷ ls) n rows ≡ with_ex sorts (behind e (take n ls)) (with_turned sorts (turned_in (drop n ls)) rows)
      operand_anew i = ap by_implies i

      pub operand_more : is_implies l.sign ≡ false → with_operand sorts (l ∷ ls) n rows ≡ (if is_explies l.sign then rows else with_ex sorts e rows)
      operand_more i = ap by_implies i

module _ (sorts : List Sort) where
  with_parts : (o : s.Op) (a b : s.Ex) (rows : List AtomOf) → relates_numbers sorts o a b ≡ false → with_ex sorts (s.Binary o a b) rows ≡ with_ex sorts b (with_ex sorts a rows)
  with_parts o a b rows h =
      ap (λ c. if c then with_relation (relation o a b) rows else with_ex sorts b (with_ex sorts a rows)) h

  infix_rows : (sign : InfixSign) → is_implies sign ≡ false → (a e : s.Ex) (rows : List AtomOf) → relates_numbers sorts (op_of sign) a e ≡ false → with_ex sorts (m.infix_of sign a e) rows ≡ (if is_explies sign then with_ex sorts a (with_ex sorts e rows) else with_ex sorts e (with_ex sorts a rows))
  infix_rows op.Iff i a e rows h = with_parts s.Iff a e rows h
  infix_rows op.Implies i a e rows h = absurd (let bad : ⊥ = cc in bad)
  infix_rows op.Explies i a e rows h = refl
  infix_rows op.And i a e rows h = with_parts s.And a e rows h
  infix_rows op.Or i a e rows h = with_parts s.Or a e rows h
  infix_rows op.Equal i a e rows h = with_parts s.Equal a e rows h
  infix_rows op.Unequal i a e rows h = with_parts s.Unequal a e rows h
  infix_rows op.Less i a e rows h = with_parts s.Less a e rows h
  infix_rows op.AtMost i a e rows h = with_parts s.AtMost a e rows h
  infix_rows op.Greater i a e rows h = with_parts s.Greater a e rows h
  infix_rows op.AtLeast i a e rows h = with_parts s.AtLeast a e rows h
  infix_rows op.Plus i a e rows h = with_parts s.Plus a e rows h
  infix_rows op.Minus i a e rows h = with_parts s.Minus a e rows h
  infix_rows op.Times i a e rows h = with_parts s.Times a e rows h

  -- the rows of a chain: of what stands behind `<==`, of what stands in front, and of the links
  chain_rows : (ls : List Link) (a : s.Ex) → NoneRelates sorts a ls → (rows : List AtomOf) → with_ex sorts (behind a ls) rows ≡ with_links sorts ls (with_ex sorts a (with_turned sorts (turned_in ls) rows))
  chain_rows [] a none rows = refl
  chain_rows (l ∷ ls) a none rows = by_implies (is_implies l.sign) refl (λ i. chain_rows ls (m.infix_of l.sign a (m.ex_of (u.ex_of l.operand))) (none i).1 rows)
    where
      either : (c : Bool) → (if c then with_ex sorts a (with_ex sorts (m.ex_of (u.ex_of l.operand)) (with_turned sorts (turned_in ls) rows)) else with_ex sorts (m.ex_of (u.ex_of l.operand)) (with_ex sorts a (with_turned sorts (turned_in ls) rows))) ≡ (if c then with_ex sorts a (with_turned sorts ((if c then (m.ex_of (u.ex_of l.operand)) ∷ [] else []) ++ turned_in ls) rows) else with_ex sorts (m.ex_of (u.ex_of l.operand)) (with_ex sorts a (with_turned sorts ((if c then (m.ex_of (u.ex_of l.operand)) ∷ [] else []) ++ turned_in ls) rows)))
      either true = refl
      either false = refl

      by_implies : (b : Bool) → is_implies l.sign ≡ b → (is_implies l.sign ≡ false → with_ex sorts (behind (m.infix_of l.sign a (m.ex_of (u.ex_of l.operand))) ls) rows ≡ with_links sorts ls (with_ex sorts (m.infix_of l.sign a (m.ex_of (u.ex_of l.operand))) (with_turned sorts (turned_in ls) rows))) → with_ex sorts (behind a (l ∷ ls)) rows ≡ with_links sorts (l ∷ ls) (with_ex sorts a (with_turned sorts (turned_in (l ∷ ls)) rows))
      by_implies true i rest =
          ap (λ w. with_ex sorts w rows) (implied l ls l.sign refl (implies_is l.sign i) a)
          ∙ sym (ap (λ es. with_links sorts (l ∷ ls) (with_ex sorts a (with_turned sorts es rows))) (turned_none l ls i) ∙ links_anew l ls sorts (with_ex sorts a rows) i)
      by_implies false i rest =
          ap (λ w. with_ex sorts w rows) (next_is l.sign i l.pos (u.ex_of l.operand) (u.links_of (map u.link_view ls)) a)
          ∙ rest i
          ∙ ap (with_links sorts ls) (infix_rows l.sign i a (m.ex_of (u.ex_of l.operand)) (with_turned sorts (turned_in ls) rows) (none i).0 ∙ either (is_explies l.sign))
          ∙ sym (ap (λ es. with_links sorts (l ∷ ls) (with_ex sorts a (with_turned sorts es rows))) (turned_more l ls i) ∙ links_more l ls sorts _ i)

  pub head_rows : (a : s.Ex) (links : List Link) (n : ℕ) → IsHead sorts a links n → (rows : List AtomOf) → with_ex sorts (behind a links) rows ≡ with_links sorts (drop n links) (with_ex sorts (behind a (take n links)) (with_turned sorts (turned_in (drop n links)) rows))
  head_rows a links n head rows =
      ap (λ w. with_ex sorts w rows) head.apart ∙ chain_rows (drop n links) (behind a (take n links)) head.others rows

  -- one operand with the links of the relation that it begins, and then the links behind these
  pub next_rows : (l : Link) (ls : List Link) (n : ℕ) → IsNext sorts l ls n → (rows : List AtomOf) → with_links sorts (l ∷ ls) rows ≡ with_links sorts (drop n ls) (with_operand sorts (l ∷ ls) n rows)
  next_rows l ls n next rows = by_implies (is_implies l.sign) refl
    where
      by_implies : (b : Bool) → is_implies l.sign ≡ b → with_links sorts (l ∷ ls) rows ≡ with_links sorts (drop n ls) (with_operand sorts (l ∷ ls) n rows)
      by_implies true i =
          links_anew l ls sorts rows i ∙ head_rows (m.ex_of (u.ex_of l.operand)) ls n (next.anew i) rows ∙ ap (with_links sorts (drop n ls)) (sym (operand_anew l ls sorts rows n i))
      by_implies false i =
          links_more l ls sorts rows i
          ∙ ap (λ j. with_links sorts (drop j ls) (if is_explies l.sign then rows else with_ex sorts (m.ex_of (u.ex_of l.operand)) rows)) (sym (next.alone i))
          ∙ ap (with_links sorts (drop n ls)) (sym (operand_more l ls sorts rows n i))

  -- ---- rows that stand behind others

  pub begins_turned : (es : List s.Ex) (rows : List AtomOf) → Begins rows (with_turned sorts es rows)
  begins_turned [] rows = begins_itself rows
  begins_turned (e ∷ es) rows =
      begins_on rows (with_turned sorts es rows) _ (begins_turned es rows) (begins_ex sorts e (with_turned sorts es rows))

  pub begins_links : (ls : List Link) (rows : List AtomOf) → Begins rows (with_links sorts ls rows)
  begins_links [] rows = begins_itself rows
  begins_links (l ∷ ls) rows = by_tests (is_implies l.sign) (is_explies l.sign) (begins_links ls)
    where
      by_tests : (b c : Bool) → ((xs : List AtomOf) → Begins xs (with_links sorts ls xs)) → Begins rows (if b then with_ex sorts (behind (m.ex_of (u.ex_of l.operand)) ls) rows else with_links sorts ls (if c then rows else with_ex sorts (m.ex_of (u.ex_of l.operand)) rows))
      by_tests true c more = begins_ex sorts (behind (m.ex_of (u.ex_of l.operand)) ls) rows
      by_tests false true more = more rows
      by_tests false false more = begins_on rows (with_ex sorts (m.ex_of (u.ex_of l.operand)) rows) _ (begins_ex sorts (m.ex_of (u.ex_of l.operand)) rows) (more (with_ex sorts (m.ex_of (u.ex_of l.operand)) rows))

  pub begins_operand : (ls : List Link) (n : ℕ) (rows : List AtomOf) → Begins rows (with_operand sorts ls n rows)
  begins_operand [] n rows = begins_itself rows
  begins_operand (l ∷ ls) n rows = by_tests (is_implies l.sign) (is_explies l.sign)
    where
      by_tests : (b c : Bool) → Begins rows (if b then with_ex sorts (behind (m.ex_of (u.ex_of l.operand)) (take n ls)) (with_turned sorts (turned_in (drop n ls)) rows) else if c then rows else with_ex sorts (m.ex_of (u.ex_of l.operand)) rows)
      by_tests true c = begins_on rows (with_turned sorts (turned_in (drop n ls)) rows) _ (begins_turned (turned_in (drop n ls)) rows) (begins_ex sorts (behind (m.ex_of (u.ex_of l.operand)) (take n ls)) (with_turned sorts (turned_in (drop n ls)) rows))
      by_tests false true = begins_itself rows
      by_tests false false = begins_ex sorts (m.ex_of (u.ex_of l.operand)) rows

module _ (sorts : List Sort) (base : ℕ) where
  pub grows_same : (a b : s.Ex) (t u : Table) → a ≡ b → Grows base (with_ex sorts a) t u → Grows base (with_ex sorts b) t u
  grows_same a b t u h k = subst (λ e. Grows base (with_ex sorts e) t u) h k

  -- what has no rows
  pub grows_none : (a b : s.Ex) (t : Table) → a ≡ b → ((rows : List AtomOf) → with_ex sorts b rows ≡ rows) → IsTable base t → Grows base (with_ex sorts a) t t
  grows_none a b t h none is = record { table = is; rows = sym (ap (λ e. with_ex sorts e (rows_in t.rows)) h ∙ none (rows_in t.rows)) }

  signed_rows : (signs : List TreePrefix) (a : s.Ex) (rows : List AtomOf) → with_ex sorts (m.signed signs a) rows ≡ with_ex sorts a rows
  signed_rows [] a rows = refl
  signed_rows (x ∷ signs) a rows = by_sign x.sign ∙ signed_rows signs a rows
    where
      by_sign : (g : PrefixSign) → with_ex sorts (m.prefix_of g (m.signed signs a)) rows ≡ with_ex sorts (m.signed signs a) rows
      by_sign prefix.Not = refl
      by_sign prefix.Minus = refl

  pub grows_signed : (signs : List TreePrefix) (a b : s.Ex) (t u : Table) → m.signed signs a ≡ b → Grows base (with_ex sorts a) t u → Grows base (with_ex sorts b) t u
  grows_signed signs a b t u h k =
      record { table = k.table; rows = k.rows ∙ sym (ap (λ e. with_ex sorts e (rows_in t.rows)) (sym h) ∙ signed_rows signs a (rows_in t.rows)) }

  no_rows : (bs : r.Brackets) (e : s.Ex) → ((rows : List AtomOf) → with_ex sorts e rows ≡ rows) → (rows : List AtomOf) → with_ex sorts (m.behind e bs) rows ≡ rows
  no_rows r.NoBracket e h rows = h rows
  no_rows (r.Select p es bs) e h rows = no_rows bs (s.Select e (m.exs_of es)) (λ xs. refl) rows
  no_rows (r.Update p es v bs) e h rows = no_rows bs (s.Update e (m.exs_of es) (m.ex_of v)) (λ xs. refl) rows

  some_brackets : (w : Pos × r.Exs × Option r.Ex) (bs : r.Brackets) (e : s.Ex) (rows : List AtomOf) → with_ex sorts (m.behind e (u.behind_parts w.0 w.1 w.2 bs)) rows ≡ rows
  some_brackets (p, es, None) bs e rows = no_rows bs (s.Select e (m.exs_of es)) (λ xs. refl) rows
  some_brackets (p, es, Some v) bs e rows = no_rows bs (s.Update e (m.exs_of es) (m.ex_of v)) (λ xs. refl) rows

  behind_brackets : (bs : List Bracket) (e : s.Ex) → 0 < length bs → (rows : List AtomOf) → with_ex sorts (m.behind e (u.brackets_of (map u.bracket_view bs))) rows ≡ rows
  behind_brackets [] e h rows = absurd (omega (arith, h))
  behind_brackets (b ∷ bs) e h rows = some_brackets (u.bracket_view b) (u.brackets_of (map u.bracket_view bs)) e rows

  pub grows_brackets : (e : Box Expr Global) (bs : Vec Bracket Global) (whole : Expr) (t : Table) → whole ≡ expr.Postfix e bs → 0 < length bs.items → IsTable base t → Grows base (with_ex sorts (m.ex_of (u.ex_of whole))) t t
  grows_brackets e bs whole t is h table =
      grows_none (m.ex_of (u.ex_of whole)) (m.behind (m.ex_of (u.ex_of e.value)) (u.brackets_of (map u.bracket_view bs.items))) t (ap (λ x. m.ex_of (u.ex_of x)) is ∙ ap m.ex_of (z.ex_of-Postfix e bs)) (behind_brackets bs.items (m.ex_of (u.ex_of e.value)) h) table

  pub grows_relation : (a : s.Ex) (front before : List Link) (l : Link) (t o : Table) → front ≡ before ++ l ∷ [] → Relates sorts a before l → Grows base (with_ex sorts (s.Binary (op_of l.sign) (behind a before) (m.ex_of (u.ex_of l.operand)))) t o → Grows base (with_ex sorts (behind a front)) t o
  grows_relation a front before l t o split is h =
      grows_same _ (behind a front) t o (sym is.whole ∙ ap (behind a) (sym split)) h

  -- ---- one link

  module _ (l : Link) where
    abbrev right : s.Ex
    right = m.ex_of (u.ex_of l.operand)

    turned_no : is_explies l.sign ≡ false → turned_by l ≡ []
    turned_no x = ap (λ c. if c then right ∷ [] else []) x

    turned_yes : is_explies l.sign ≡ true → turned_by l ≡ right ∷ []
    turned_yes x = ap (λ c. if c then right ∷ [] else []) x

    pub turn_none : (t : Table) → is_explies l.sign ≡ false → IsTable base t → Grows base (with_turned sorts (turned_by l)) t t
    turn_none t x is = record { table = is; rows = sym (ap (λ es. with_turned sorts es (rows_in t.rows)) (turned_no x)) }

    pub turn_one : (t u : Table) → is_explies l.sign ≡ true → Grows base (with_ex sorts right) t u → Grows base (with_turned sorts (turned_by l)) t u
    turn_one t u x h = record { table = h.table; rows = h.rows ∙ sym (ap (λ es. with_turned sorts es (rows_in t.rows)) (turned_yes x)) }

    module _ (rows : List AtomOf) where
      pub turn_none_made : (es : List s.Ex) (xs : List Made) → is_explies l.sign ≡ false → AreTurned sorts base rows es xs → AreTurned sorts base rows (turned_by l ++ es) xs
      turn_none_made es xs x h = subst (λ fs. AreTurned sorts base rows (fs ++ es) xs) (sym (turned_no x)) h

      last_first : (old new : List Made) (y : Made) → new ≡ old ++ y ∷ [] → reverse new ≡ y ∷ reverse old
      last_first old new y push = ap reverse push ∙ reverse-append old (y ∷ [])

      pub turn_one_made : (es : List s.Ex) (old new : List Made) (y : Made) → is_explies l.sign ≡ true → new ≡ old ++ y ∷ [] → IsMade sorts base rows right y → AreTurned sorts base rows es old → AreTurned sorts base rows (turned_by l ++ es) new
      turn_one_made es old new y x push made h =
          let both : Pairs (IsMade sorts base rows) (right ∷ es) (reverse new) = subst (Pairs (IsMade sorts base rows) (right ∷ es)) (sym (last_first old new y push)) (made, h) in
          subst (λ fs. AreTurned sorts base rows (fs ++ es) new) (sym (turned_yes x)) both

      module _ (ls : List Link) (i : is_implies l.sign ≡ false) where
        on_top : is_explies l.sign ≡ true → turned_in (l ∷ ls) ≡ right ∷ turned_in ls
        on_top x = turned_more l ls i ∙ ap (λ fs. fs ++ turned_in ls) (turned_yes x)

        pub pop_made : (old new : List Made) (y : Made) → is_explies l.sign ≡ true → old ≡ new ++ y ∷ [] → AreTurned sorts base rows (turned_in (l ∷ ls)) old → IsMade sorts base rows right y × AreTurned sorts base rows (turned_in ls) new
        pop_made old new y x push h =
            let both : Pairs (IsMade sorts base rows) (right ∷ turned_in ls) (y ∷ reverse new) = subst (Pairs (IsMade sorts base rows) (right ∷ turned_in ls)) (last_first new old y push) (subst (λ fs. AreTurned sorts base rows fs old) (on_top x) h) in
            (both.0, both.1)

        pub pop_none : (old : List Made) → is_explies l.sign ≡ true → old ≡ [] → AreTurned sorts base rows (turned_in (l ∷ ls)) old → ⊥
        pop_none old x none h =
            let both : Pairs (IsMade sorts base rows) (right ∷ turned_in ls) [] = subst (λ ys. AreTurned sorts base rows (right ∷ turned_in ls) ys) none (subst (λ fs. AreTurned sorts base rows fs old) (on_top x) h) in
            both

        pub left_made : (xs : List Made) → is_explies l.sign ≡ false → AreTurned sorts base rows (turned_in (l ∷ ls)) xs → AreTurned sorts base rows (turned_in ls) xs
        left_made xs x h = subst (λ fs. AreTurned sorts base rows fs xs) (turned_more l ls i ∙ ap (λ fs. fs ++ turned_in ls) (turned_no x)) h

      pub none_taken : (ls : List Link) (n : ℕ) (y : Made) → n ≡ 0 → IsMade sorts base rows right y → IsMade sorts base rows (behind right (take n ls)) y
      none_taken ls n y none h = subst (λ j. IsMade sorts base rows (behind right (take j ls)) y) (sym none) h

    module _ (ls : List Link) (n : ℕ) where
      pub grows_anew : (front back : List Link) (t u v : Table) → is_implies l.sign ≡ true → front ≡ take n ls → back ≡ drop n ls → Grows base (with_turned sorts (turned_in back)) t u → Grows base (with_ex sorts (behind right front)) u v → Grows base (with_operand sorts (l ∷ ls) n) t v
      grows_anew front back t u v i f b h k =
          record {
            table = k.table;
            rows =
                k.rows
                ∙ ap (λ x. with_ex sorts (behind right x) (rows_in u.rows)) f
                ∙ ap (with_ex sorts (behind right (take n ls))) (h.rows ∙ ap (λ x. with_turned sorts (turned_in x) (rows_in t.rows)) b)
                ∙ sym (operand_anew l ls sorts (rows_in t.rows) n i);
          }

      pub grows_turned : (t : Table) → is_implies l.sign ≡ false → is_explies l.sign ≡ true → IsTable base t → Grows base (with_operand sorts (l ∷ ls) n) t t
      grows_turned t i x is =
          record { table = is; rows = sym (operand_more l ls sorts (rows_in t.rows) n i ∙ ap (λ c. if c then rows_in t.rows else with_ex sorts right (rows_in t.rows)) x) }

      pub grows_other : (t u : Table) → is_implies l.sign ≡ false → is_explies l.sign ≡ false → Grows base (with_ex sorts right) t u → Grows base (with_operand sorts (l ∷ ls) n) t u
      grows_other t u i x h =
          record { table = h.table; rows = h.rows ∙ sym (operand_more l ls sorts (rows_in t.rows) n i ∙ ap (λ c. if c then rows_in t.rows else with_ex sorts right (rows_in t.rows)) x) }

-- ---- links before the next `==>`, from the last one on

until_none : (links : List Link) → turned_in (drop (until_implies links) links) ≡ []
until_none [] = refl
until_none (l ∷ ls) = by_implies (is_implies l.sign) refl (until_none ls)
  where
    by_implies : (b : Bool) → is_implies l.sign ≡ b → turned_in (drop (until_implies ls) ls) ≡ [] → turned_in (drop (if b then zero else suc (until_implies ls)) (l ∷ ls)) ≡ []
    by_implies true i h = turned_none l ls i
    by_implies false i h = h

until_within : (links : List Link) → until_implies links ≤ length links
until_within [] = omega arith
until_within (l ∷ ls) = by_implies (is_implies l.sign) (until_within ls)
  where
    by_implies : (b : Bool) → until_implies ls ≤ length ls → (if b then zero else suc (until_implies ls)) ≤ suc (length ls)
    by_implies true h = omega arith
    by_implies false h = omega (arith, h)

pub until_behind : (links : List Link) (from : ℕ) → from ≤ length links → from + until_implies (drop from links) ≤ length links
until_behind links from h = let k = until_within (drop from links) in omega (arith, h, k, length-drop from links)

sign_first : (links : List Link) (k : ℕ) (l : Link) → k < until_implies links → l ≡ get_or links k l → is_implies l.sign ≡ false
sign_first [] k l lt is = absurd (omega (arith, lt))
sign_first (x ∷ ls) zero l lt is = by_implies (is_implies x.sign) refl lt
  where
    by_implies : (b : Bool) → is_implies x.sign ≡ b → zero < (if b then zero else suc (until_implies ls)) → is_implies l.sign ≡ false
    by_implies true i h = absurd (omega (arith, h))
    by_implies false i h = ap (λ y. is_implies y.sign) is ∙ i
sign_first (x ∷ ls) (suc k) l lt is = by_implies (is_implies x.sign) refl lt (λ h. sign_first ls k l h is)
  where
    by_implies : (b : Bool) → is_implies x.sign ≡ b → suc k < (if b then zero else suc (until_implies ls)) → (k < until_implies ls → is_implies l.sign ≡ false) → is_implies l.sign ≡ false
    by_implies true i h f = absurd (omega (arith, h))
    by_implies false i h f = f (omega (arith, h))

sign_before : (links : List Link) (from k : ℕ) (l : Link) → from ≤ k → k < from + until_implies (drop from links) → l ≡ get_or links k l → is_implies l.sign ≡ false
sign_before links zero k l le lt is = sign_first links k l (omega (arith, lt)) is
sign_before [] (suc from) k l le lt is = absurd (omega (arith, le, lt))
sign_before (x ∷ ls) (suc from) zero l le lt is = absurd (omega (arith, le))
sign_before (x ∷ ls) (suc from) (suc k) l le lt is = sign_before ls from k l (omega (arith, le)) (omega (arith, lt)) is

module _ (sorts : List Sort) (base : ℕ) (links : List Link) (from k i : ℕ) (l : Link) (within : from ≤ length links) (at : k + 1 ≡ i) (le : from ≤ k) (lt : i ≤ from + until_implies (drop from links)) (is : l ≡ get_or links k l) where
  turned_at : turned_in (drop k links) ≡ turned_by l ++ turned_in (drop i links)
  turned_at =
      let all = until_behind links from within in
      let there : k < length links = omega (arith, all, at, lt) in
      ap turned_in (drop_item links k l there is)
      ∙ turned_more l (drop (k + 1) links) (sign_before links from k l le (omega (arith, at, lt)) is)
      ∙ ap (λ j. turned_by l ++ turned_in (drop j links)) at

  turned_both : (xs ys : List s.Ex) (rows : List AtomOf) → with_turned sorts (xs ++ ys) rows ≡ with_turned sorts xs (with_turned sorts ys rows)
  turned_both [] ys rows = refl
  turned_both (x ∷ xs) ys rows = ap (with_ex sorts x) (turned_both xs ys rows)

  pub turned_grows : (t u v : Table) → Grows base (with_turned sorts (turned_in (drop i links))) t u → Grows base (with_turned sorts (turned_by l)) u v → Grows base (with_turned sorts (turned_in (drop k links))) t v
  turned_grows t u v h g =
      record {
        table = g.table;
        rows =
            g.rows
            ∙ ap (with_turned sorts (turned_by l)) h.rows
            ∙ sym (ap (λ es. with_turned sorts es (rows_in t.rows)) turned_at ∙ turned_both (turned_by l) (turned_in (drop i links)) (rows_in t.rows));
      }

  pub turned_made : (rows : List AtomOf) (xs ys : List Made) → ((es : List s.Ex) → AreTurned sorts base rows es xs → AreTurned sorts base rows (turned_by l ++ es) ys) → AreTurned sorts base rows (turned_in (drop i links)) xs → AreTurned sorts base rows (turned_in (drop k links)) ys
  turned_made rows xs ys more h = subst (λ es. AreTurned sorts base rows es ys) (sym turned_at) (more (turned_in (drop i links)) h)

module _ (sorts : List Sort) (base : ℕ) (links part : List Link) (from n : ℕ) (rest : part ≡ drop from links) (last : n ≡ until_implies part) where
  pub turned_last : n ≡ until_implies (drop from links)
  turned_last = last ∙ ap until_implies rest

  turned_end : turned_in (drop (from + n) links) ≡ []
  turned_end =
      ap turned_in (sym (drop-drop n from links))
      ∙ ap (λ j. turned_in (drop j (drop from links))) turned_last
      ∙ until_none (drop from links)

  pub turned_start : (t : Table) → IsTable base t → Grows base (with_turned sorts (turned_in (drop (from + n) links))) t t
  turned_start t is = record { table = is; rows = sym (ap (λ es. with_turned sorts es (rows_in t.rows)) turned_end) }

  pub turned_begin : (rows : List AtomOf) (xs : List Made) → xs ≡ [] → AreTurned sorts base rows (turned_in (drop (from + n) links)) xs
  turned_begin rows xs none =
      subst (λ es. AreTurned sorts base rows es xs) (sym turned_end) (subst (λ ys. AreTurned sorts base rows [] ys) (sym none) tt)

-- ---- the operand of a link

module _ (sorts : List Sort) (base : ℕ) (links : List Link) (i n : ℕ) (l : Link) (lt : i < length links) (is : l ≡ get_or links i l) (next : IsNextIn sorts (drop i links) n) where
  abbrev behind_it : List Link
  behind_it = drop (i + 1) links

  abbrev its : s.Ex
  its = m.ex_of (u.ex_of l.operand)

  place : drop i links ≡ l ∷ behind_it
  place = drop_item links i l lt is

  next_at : IsNext sorts l behind_it n
  next_at = subst (λ d. IsNextIn sorts d n) place next

  pub front_relation : (front : List Link) → front ≡ take n behind_it → IsRelation sorts its front
  front_relation front h = subst (IsRelation sorts its) (sym h) next_at.relation

  none_more : is_implies l.sign ≡ false → i + 1 + n ≡ i + 1
  none_more left = let none = next_at.alone left in omega (arith, none)

  pub anew_at : (front : List Link) (t o v : Table) → front ≡ take n behind_it → is_implies l.sign ≡ true → Grows base (with_turned sorts (turned_in (drop (i + 1 + n) links))) t o → Grows base (with_ex sorts (behind its front)) o v → Grows base (with_operand sorts (drop i links) n) t v
  anew_at front t o v f anew h k =
      subst (λ d. Grows base (with_operand sorts d n) t v) (sym place) (grows_anew sorts base l behind_it n front (drop (i + 1 + n) links) t o v anew f (sym (drop-drop n (i + 1) links)) h k)

  pub turned_grown : (t : Table) → is_implies l.sign ≡ false → is_explies l.sign ≡ true → IsTable base t → Grows base (with_operand sorts (drop i links) n) t t
  turned_grown t left x table =
      subst (λ d. Grows base (with_operand sorts d n) t t) (sym place) (grows_turned sorts base l behind_it n t left x table)

  pub other_grown : (t v : Table) → is_implies l.sign ≡ false → is_explies l.sign ≡ false → Grows base (with_ex sorts its) t v → Grows base (with_operand sorts (drop i links) n) t v
  other_grown t v left x h =
      subst (λ d. Grows base (with_operand sorts d n) t v) (sym place) (grows_other sorts base l behind_it n t v left x h)

  module _ (rows : List AtomOf) where
    pub made_anew : (front : List Link) (y : Made) → front ≡ take n behind_it → IsMade sorts base rows (behind its front) y → IsMade sorts base rows (operand_in (drop i links) n) y
    made_anew front y f h =
        subst (λ d. IsMade sorts base rows (operand_in d n) y) (sym place) (subst (λ d. IsMade sorts base rows (behind its d) y) f h)

    pub made_alone : (y : Made) → is_implies l.sign ≡ false → IsMade sorts base rows its y → IsMade sorts base rows (operand_in (drop i links) n) y
    made_alone y left h =
        subst (λ d. IsMade sorts base rows (operand_in d n) y) (sym place) (none_taken sorts base l rows behind_it n y (next_at.alone left) h)

    pub pop_at : (old new : List Made) (y : Made) → is_implies l.sign ≡ false → is_explies l.sign ≡ true → old ≡ new ++ y ∷ [] → AreTurned sorts base rows (turned_in (drop i links)) old → IsMade sorts base rows (operand_in (drop i links) n) y × AreTurned sorts base rows (turned_in (drop (i + 1 + n) links)) new
    pop_at old new y left x push h =
        let both = pop_made sorts base l rows behind_it left old new y x push (subst (λ d. AreTurned sorts base rows (turned_in d) old) place h) in
        (made_alone y left both.0, subst (λ j. AreTurned sorts base rows (turned_in (drop j links)) new) (sym (none_more left)) both.1)

    pub pop_some : (old : List Made) → is_implies l.sign ≡ false → is_explies l.sign ≡ true → AreTurned sorts base rows (turned_in (drop i links)) old → 0 < length old
    pop_some [] left x h = absurd (pop_none sorts base l rows behind_it left [] x refl (subst (λ d. AreTurned sorts base rows (turned_in d) []) place h))
    pop_some (y ∷ old) left x h = omega arith

    pub left_at : (xs : List Made) → is_implies l.sign ≡ false → is_explies l.sign ≡ false → AreTurned sorts base rows (turned_in (drop i links)) xs → AreTurned sorts base rows (turned_in (drop (i + 1 + n) links)) xs
    left_at xs left x h =
        let here = left_made sorts base l rows behind_it left xs x (subst (λ d. AreTurned sorts base rows (turned_in d) xs) place h) in
        subst (λ j. AreTurned sorts base rows (turned_in (drop j links)) xs) (sym (none_more left)) here
