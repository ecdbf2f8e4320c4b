-- Chains of what was made of their operands.
use Rattle.std.proofs.Common.{◌≡◌, ◌<◌, ◌≤◌, ◌+◌, ℕ, Bool, true, false, List, [], ◌∷◌, ◌++◌, length, get_or, take, drop, map, Option, Some, None, refl, sym, ap, ◌∙◌, subst, arith, Vec, Box, Global}
use Rattle.std.proofs.lemmas.List.{drop-drop, drop_all, append_assoc, append-nil}
use Rattle.bg_base.specs.declared.exact.OutOfRange.{OutOfRange}
use Rattle.bg_text.specs.declared.expr.InfixSign.{InfixSign}
use Rattle.bg_text.specs.declared.expr.InfixSign.TheVariants as op
use Rattle.bg_text.specs.declared.expr.TreePrefix.{TreePrefix}
use Rattle.bg_ast.specs.declared.resolved.Expr.{Expr}
use Rattle.bg_ast.specs.declared.resolved.Expr.TheVariants as expr
use Rattle.bg_ast.specs.declared.resolved.Link.{Link}
use Rattle.bg_ast.specs.declared.resolved.Bracket.{Bracket}
use Rattle.bg_ast.specs.Syntax as s
use Rattle.bg_ast.specs.Meaning as m
use Rattle.bg_ast.specs.Resolved as r
use Rattle.bg_ast.specs.Views as u
use Rattle.bg_ast.proofs.Lists as z
use Rattle.bg_formula.specs.Atoms.{AtomOf}
use Rattle.bg_formed.specs.Used.{first_of}
use Rattle.bg_linear.specs.declared.scalar.Sort.{Sort}
use Rattle.bg_linear.specs.declared.scalar.Kind.{Kind}
use Rattle.bg_linear.specs.Chains.{is_implies}
use Rattle.bg_linear.specs.Relations.{op_of}
use Rattle.bg_linear.specs.Sorts.{kind_ex, is_truth}
use Rattle.bg_linear.proofs.Chained.{drop_item}
use Rattle.bg_atoms.specs.declared.made.Made.{Made}
use Rattle.bg_atoms.specs.declared.made.Linked.{Linked}
use Rattle.bg_atoms.specs.Orders.{before_sign, behind_sign}
use Rattle.bg_atoms.specs.Over.{first_refused}
use Rattle.bg_atoms.specs.Kinds.{IsTruth}
use Rattle.bg_atoms.specs.declared.table.Table.{Table}
use Rattle.bg_atoms.specs.Worlds.{Begins, Means}
use Rattle.bg_atoms.specs.Made.{rows_in, Shows, Makes, IsMade, AreMade, Carries, Refuses, behind}
use Rattle.bg_atoms.specs.Listed.{with_ex}
use Rattle.bg_atoms.specs.Turned.{turned_in, with_turned, with_links, with_operand, operand_in}
use Rattle.bg_atoms.specs.Tables.{IsTable}
use Rattle.bg_atoms.specs.Growing.{Grows}
use Rattle.bg_atoms.specs.Heads.{IsHead, IsNext, Relates}
use Rattle.bg_atoms.proofs.Lists.{begins_itself, begins_on}
use Rattle.bg_atoms.proofs.Listing.{begins_grown}
use Rattle.bg_atoms.proofs.Turning.{head_rows, next_rows, begins_operand}
use Rattle.bg_atoms.proofs.Chained.{two_truths, implies_is, step_means, implies_means, signed_truth, signed_means, signed_refused, step_refused, before_left}

-- what stands behind signs
pub signed_made : (sorts : List Sort) (n : ℕ) (rows : List AtomOf) (signs : List TreePrefix) (a : s.Ex) (x y : Made) (kept : List TreePrefix) → kept ≡ signs → Shows (m.signed kept (m.ex_of (u.ex_of x.says))) x.refused y → IsMade sorts n rows a x → IsMade sorts n rows (m.signed signs a) y
signed_made sorts n rows signs a x y kept same is h t =
    let made = h (signed_truth sorts signs a t) in
    let says = is.says ∙ ap (λ l. m.signed l (m.ex_of (u.ex_of x.says))) same in
    record {
      means = subst (Means sorts n rows (m.signed signs a)) (sym says) (signed_means sorts n rows signs a (m.ex_of (u.ex_of x.says)) t made.means);
      refused = signed_refused sorts signs a t ∙ made.refused ∙ sym is.refused;
    }

pub chain_shows : (first : Expr) (b : Box Expr Global) (links : Vec Link Global) (o : Option OutOfRange) → b.value ≡ first → Shows (behind (m.ex_of (u.ex_of first)) links.items) o (record { says = expr.Chain b links; refused = o })
chain_shows first b links o h =
    record {
      says = ap m.ex_of (z.ex_of-Chain b links) ∙ ap (λ x. behind (m.ex_of (u.ex_of x)) links.items) h;
      refused = refl;
    }

-- what has no relations of numbers
pub plain_made : (sorts : List Sort) (n : ℕ) (rows : List AtomOf) (e y : s.Ex) (x : Made) → first_refused sorts e ≡ None → Shows y None x → (IsTruth sorts e → Means sorts n rows e y) → IsMade sorts n rows e x
plain_made sorts n rows e y x fine is h t =
    record { means = subst (Means sorts n rows e) (sym is.says) (h t); refused = fine ∙ sym is.refused }

-- ---- nodes of the code's

no_brackets : (bs : List Bracket) (e : s.Ex) → length bs ≡ 0 → m.behind e (u.brackets_of (map u.bracket_view bs)) ≡ e
no_brackets [] e h = refl
no_brackets (b ∷ bs) e h = absurd (omega (arith, h))

pub postfix_bare : (e : Box Expr Global) (bs : Vec Bracket Global) → length bs.items ≡ 0 → m.ex_of (u.ex_of (expr.Postfix e bs)) ≡ m.ex_of (u.ex_of e.value)
postfix_bare e bs h = ap m.ex_of (z.ex_of-Postfix e bs) ∙ no_brackets bs.items (m.ex_of (u.ex_of e.value)) h

pub none_truth : (k : Option Kind) → k ≡ None → is_truth k ≡ true → ⊥
none_truth k h t = let bad : is_truth None ≡ true = subst (λ x. is_truth x ≡ true) h t in let no_way : ⊥ = cc in no_way

pub chain_node : (x : Expr) (ls : List Link) (e : Box Expr Global) (links : Vec Link Global) (whole : Expr) → x ≡ e.value → ls ≡ links.items → whole ≡ expr.Chain e links → m.chained (m.ex_of (u.ex_of x)) (u.links_of (map u.link_view ls)) ≡ m.ex_of (u.ex_of whole)
chain_node x ls e links whole h k is =
    ap (λ y. m.chained (m.ex_of (u.ex_of y)) (u.links_of (map u.link_view ls))) h
    ∙ ap (λ l. m.chained (m.ex_of (u.ex_of e.value)) (u.links_of (map u.link_view l))) k
    ∙ sym (ap m.ex_of (z.ex_of-Chain e links))
    ∙ ap (λ y. m.ex_of (u.ex_of y)) (sym is)

-- a chain of what was made of a truth and of the links behind it
behind_made : (sorts : List Sort) (n : ℕ) (rows : List AtomOf) (a : s.Ex) (ls : List Link) (first : Made) (rest : Linked) (y : Made) → (IsTruth sorts (behind a ls) → IsTruth sorts a) → Shows (behind (m.ex_of (u.ex_of first.says)) rest.links.items) rest.refused y → IsMade sorts n rows a first → AreMade sorts n rows first.refused ls rest → IsMade sorts n rows (behind a ls) y
behind_made sorts n rows a ls first rest y leads shows made are t =
    let begins = made (leads t) in
    record {
      means = subst (Means sorts n rows (behind a ls)) (sym shows.says) (are.carries a (m.ex_of (u.ex_of first.says)) (leads t) t begins.means);
      refused = are.refuses a (leads t) t begins.refused ∙ sym shows.refused;
    }

-- a chain of what its head makes, and of what the links behind it make
pub chain_whole : (sorts : List Sort) (n : ℕ) (rows : List AtomOf) (x1 x2 : Expr) (l1 l2 l3 : List Link) (e : Box Expr Global) (links : Vec Link Global) (whole : Expr) (k : ℕ) (first : Made) (rest : Linked) (y : Made) → x1 ≡ e.value → x2 ≡ e.value → l1 ≡ links.items → l2 ≡ links.items → l3 ≡ links.items → whole ≡ expr.Chain e links → IsHead sorts (m.ex_of (u.ex_of x1)) l1 k → IsMade sorts n rows (behind (m.ex_of (u.ex_of x2)) (take k l2)) first → AreMade sorts n rows first.refused (drop k l3) rest → Shows (behind (m.ex_of (u.ex_of first.says)) rest.links.items) rest.refused y → IsMade sorts n rows (m.ex_of (u.ex_of whole)) y
chain_whole sorts n rows x1 x2 l1 l2 l3 e links whole k first rest y h1 h2 k1 k2 k3 is head made are shows =
    let first' = subst (λ l. IsMade sorts n rows (behind (m.ex_of (u.ex_of x1)) (take k l)) first) (k2 ∙ sym k1) (subst (λ x. IsMade sorts n rows (behind (m.ex_of (u.ex_of x)) (take k l2)) first) (h2 ∙ sym h1) made) in
    let rest' = subst (λ l. AreMade sorts n rows first.refused (drop k l) rest) (k3 ∙ sym k1) are in
    let front = behind (m.ex_of (u.ex_of x1)) (take k l1) in
    let led = λ (t : IsTruth sorts (behind front (drop k l1))). head.leads (subst (IsTruth sorts) (sym head.apart) t) in
    subst (λ w. IsMade sorts n rows w y) (sym head.apart ∙ chain_node x1 l1 e links whole h1 k1 is) (behind_made sorts n rows front (drop k l1) first rest y led shows first' rest')

pub no_front : (a : s.Ex) (ls : List Link) → length ls ≡ 0 → a ≡ behind a ls
no_front a [] h = refl
no_front a (l ∷ ls) h = absurd (omega (arith, h))

-- what was made of a relation of numbers is what the links make
pub relation_made : (sorts : List Sort) (n : ℕ) (rows : List AtomOf) (a : s.Ex) (front before : List Link) (l : Link) (x : Made) → front ≡ before ++ l ∷ [] → Relates sorts a before l → Makes sorts n rows (s.Binary (op_of l.sign) (behind a before) (m.ex_of (u.ex_of l.operand))) x → IsMade sorts n rows (behind a front) x
relation_made sorts n rows a front before l x split is h t =
    subst (λ f. Makes sorts n rows (behind a f) x) (sym split) (subst (λ e. Makes sorts n rows e x) (sym is.whole) h)

-- ---- links

first_assoc : (a b c : Option OutOfRange) → first_of (first_of a b) c ≡ first_of a (first_of b c)
first_assoc None b c = refl
first_assoc (Some o) b c = refl

-- what the links on the right refuse, put behind what stands before, is what all of them refuse
abbrev pub Ordered : List Sort → Option OutOfRange → List Link → Option OutOfRange → Option OutOfRange → List Link → Type 0
Ordered sorts first whole before here rest =
    (all : Option OutOfRange) → Refuses sorts here rest all → Refuses sorts first whole (first_of before all)

module _ (sorts : List Sort) (l : Link) (links : List Link) (k : ℕ) (next : IsNext sorts l links k) where
  abbrev right : s.Ex
  right = m.ex_of (u.ex_of l.operand)

  abbrev ls : r.Links
  ls = u.links_of (map u.link_view links)

  -- `==>` begins a chain on its right
  implied : (g : InfixSign) → l.sign ≡ g → g ≡ op.Implies → (a : s.Ex) → behind a (l ∷ links) ≡ s.Binary s.Implies a (behind right links)
  implied g h i a = ap (λ q. m.chained a (r.Link l.pos q (u.ex_of l.operand) ls)) (h ∙ i)

  module _ (n : ℕ) (rows : List AtomOf) where
    carry_left : (y : Link) (zs : List Link) → is_implies l.sign ≡ false → l.sign ≡ y.sign → (IsTruth sorts (behind right (take k links)) → Means sorts n rows (behind right (take k links)) (m.ex_of (u.ex_of y.operand))) → Carries sorts n rows (drop k links) zs → Carries sorts n rows (l ∷ links) (y ∷ zs)
    carry_left y zs i same h rest =
        let none = next.alone i in
        let operand = subst (λ j. IsTruth sorts (behind right (take j links)) → Means sorts n rows (behind right (take j links)) (m.ex_of (u.ex_of y.operand))) none h in
        let others = subst (λ j. Carries sorts n rows (drop j links) zs) none rest in
        subst (λ g. (a x : s.Ex) → IsTruth sorts a → IsTruth sorts (behind a (l ∷ links)) → Means sorts n rows a x → Means sorts n rows (behind a (l ∷ links)) (m.chained x (r.Link y.pos g (u.ex_of y.operand) (u.links_of (map u.link_view zs))))) same (step_means sorts n rows l.sign i l.pos y.pos (u.ex_of l.operand) (u.ex_of y.operand) ls (u.links_of (map u.link_view zs)) operand others)

    carry_right : (y : Link) (zs : List Link) → is_implies l.sign ≡ true → l.sign ≡ y.sign → (IsTruth sorts (behind right (take k links)) → Means sorts n rows (behind right (take k links)) (m.ex_of (u.ex_of y.operand))) → Carries sorts n rows (drop k links) zs → Carries sorts n rows (l ∷ links) (y ∷ zs)
    carry_right y zs i same h rest a x t w means =
        let head = next.anew i in
        let sign = implies_is l.sign i in
        let whole = implied l.sign refl sign a in
        let right_truth = (two_truths (kind_ex sorts a) (kind_ex sorts (behind right links)) (subst (IsTruth sorts) whole w)).1 in
        let front = head.leads right_truth in
        let made = rest (behind right (take k links)) (m.ex_of (u.ex_of y.operand)) front (subst (IsTruth sorts) head.apart right_truth) (h front) in
        let both = implies_means sorts n rows a x (behind right links) (behind (m.ex_of (u.ex_of y.operand)) zs) means (subst (λ b. Means sorts n rows b (behind (m.ex_of (u.ex_of y.operand)) zs)) (sym head.apart) made) in
        let other : s.Binary s.Implies x (behind (m.ex_of (u.ex_of y.operand)) zs) ≡ behind x (y ∷ zs) = ap (λ q. m.chained x (r.Link y.pos q (u.ex_of y.operand) (u.links_of (map u.link_view zs)))) (sym sign ∙ same) in
        subst (λ b. Means sorts n rows b (behind x (y ∷ zs))) (sym whole) (subst (Means sorts n rows (s.Binary s.Implies a (behind right links))) other both)

    pub carry : (y : Link) (zs : List Link) → l.sign ≡ y.sign → (IsTruth sorts (behind right (take k links)) → Means sorts n rows (behind right (take k links)) (m.ex_of (u.ex_of y.operand))) → Carries sorts n rows (drop k links) zs → Carries sorts n rows (l ∷ links) (y ∷ zs)
    carry y zs same h rest = by_sign (is_implies l.sign) refl
      where
        by_sign : (b : Bool) → is_implies l.sign ≡ b → Carries sorts n rows (l ∷ links) (y ∷ zs)
        by_sign true i = carry_right y zs i same h rest
        by_sign false i = carry_left y zs i same h rest

  refuse_left : is_implies l.sign ≡ false → (before operand all : Option OutOfRange) → (IsTruth sorts (behind right (take k links)) → first_refused sorts (behind right (take k links)) ≡ operand) → Refuses sorts (behind_sign l.sign before operand) (drop k links) all → Refuses sorts before (l ∷ links) all
  refuse_left i before operand all h rest =
      let none = next.alone i in
      let made = subst (λ j. IsTruth sorts (behind right (take j links)) → first_refused sorts (behind right (take j links)) ≡ operand) none h in
      let others = subst (λ j. Refuses sorts (behind_sign l.sign before operand) (drop j links) all) none rest in
      step_refused sorts l.sign i l.pos (u.ex_of l.operand) ls before operand all made others

  refuse_right : is_implies l.sign ≡ true → (before operand all : Option OutOfRange) → (IsTruth sorts (behind right (take k links)) → first_refused sorts (behind right (take k links)) ≡ operand) → Refuses sorts operand (drop k links) all → Refuses sorts before (l ∷ links) (first_of before all)
  refuse_right i before operand all h rest a t w is =
      let head = next.anew i in
      let whole = implied l.sign refl (implies_is l.sign i) a in
      let right_truth = (two_truths (kind_ex sorts a) (kind_ex sorts (behind right links)) (subst (IsTruth sorts) whole w)).1 in
      let front = head.leads right_truth in
      let made = rest (behind right (take k links)) front (subst (IsTruth sorts) head.apart right_truth) (h front) in
      ap (first_refused sorts) whole
      ∙ ap (λ o. first_of o (first_refused sorts (behind right links))) is
      ∙ ap (λ e. first_of before (first_refused sorts e)) head.apart
      ∙ ap (first_of before) made

  -- what comes first before the last `==>` and behind it, behind one more sign
  pub refuse : (first : Option OutOfRange) (whole : List Link) (before here before' here' operand : Option OutOfRange) → before' ≡ before_sign l.sign before here → here' ≡ behind_sign l.sign here operand → (IsTruth sorts (behind right (take k links)) → first_refused sorts (behind right (take k links)) ≡ operand) → Ordered sorts first whole before here (l ∷ links) → Ordered sorts first whole before' here' (drop k links)
  refuse first whole before here before' here' operand b' h' h ordered = by_sign (is_implies l.sign) refl
    where
      by_sign : (b : Bool) → is_implies l.sign ≡ b → Ordered sorts first whole before' here' (drop k links)
      by_sign true i all rest =
          let sign = implies_is l.sign i in
          let behind_it : here' ≡ operand = h' ∙ ap (λ g. behind_sign g here operand) sign in
          let before_it : before' ≡ first_of before here = b' ∙ ap (λ g. before_sign g before here) sign in
          let made = ordered (first_of here all) (refuse_right i here operand all h (subst (λ o. Refuses sorts o (drop k links) all) behind_it rest)) in
          subst (Refuses sorts first whole) (sym (ap (λ o. first_of o all) before_it ∙ first_assoc before here all)) made
      by_sign false i all rest =
          let before_it = b' ∙ before_left sorts l.sign i before here in
          let made = ordered all (refuse_left i here operand all h (subst (λ o. Refuses sorts o (drop k links) all) h' rest)) in
          subst (Refuses sorts first whole) (sym (ap (λ o. first_of o all) before_it)) made

-- ---- the loop over links

abbrev pub Going : List Sort → ℕ → List AtomOf → List Link → List Link → List Link → Type 0
Going sorts n rows whole rest made = (zs : List Link) → Carries sorts n rows rest zs → Carries sorts n rows whole (made ++ zs)

-- as far as the links that are left make a chain, all do
pub record Linking (sorts : List Sort) (n : ℕ) (rows : List AtomOf) (first before here : Option OutOfRange) (whole rest made : List Link) : Type 0 where
  pub going : Going sorts n rows whole rest made
  pub ordered : Ordered sorts first whole before here rest

-- as far as the links are gone through, their rows are there
pub record Passing (sorts : List Sort) (base : ℕ) (whole rest : List Link) (old new : Table) : Type 0 where
  pub table : IsTable base new
  pub begins : Begins (rows_in old.rows) (rows_in new.rows)
  pub rows : with_links sorts whole (rows_in old.rows) ≡ with_links sorts rest (rows_in new.rows)

module _ (sorts : List Sort) (links : List Link) (i : ℕ) (l : Link) (rest : List Link) (k : ℕ) (lt : i < length links) (is : l ≡ get_or links i l) (behind_it : rest ≡ drop (i + 1) links) (next : IsNext sorts l rest k) where
  here : drop i links ≡ l ∷ rest
  here = drop_item links i l lt is ∙ ap (λ x. l ∷ x) (sym behind_it)

  later : (j : ℕ) → j ≡ i + 1 + k → drop j links ≡ drop k rest
  later j h = ap (λ x. drop x links) h ∙ sym (drop-drop k (i + 1) links) ∙ ap (drop k) (sym behind_it)

  going_on : (n : ℕ) (rows : List AtomOf) (whole old new : List Link) (y : Link) (x : Made) (j : ℕ) → j ≡ i + 1 + k → l.sign ≡ y.sign → y.operand ≡ x.says → new ≡ old ++ y ∷ [] → IsMade sorts n rows (behind (m.ex_of (u.ex_of l.operand)) (take k rest)) x → Going sorts n rows whole (drop i links) old → Going sorts n rows whole (drop j links) new
  going_on n rows whole old new y x j next_at same operand push h going zs more =
      let made_of = λ (t : IsTruth sorts (behind (m.ex_of (u.ex_of l.operand)) (take k rest))). subst (λ q. Means sorts n rows (behind (m.ex_of (u.ex_of l.operand)) (take k rest)) (m.ex_of (u.ex_of q))) (sym operand) (h t).means in
      let step = carry sorts l rest k next n rows y zs same made_of (subst (λ d. Carries sorts n rows d zs) (later j next_at) more) in
      let so_far = going (y ∷ zs) (subst (λ d. Carries sorts n rows d (y ∷ zs)) (sym here) step) in
      subst (Carries sorts n rows whole) (sym (append_assoc old (y ∷ []) zs) ∙ ap (λ d. d ++ zs) (sym push)) so_far

  ordered_on : (first : Option OutOfRange) (whole : List Link) (before now before' now' operand : Option OutOfRange) (j : ℕ) → j ≡ i + 1 + k → before' ≡ before_sign l.sign before now → now' ≡ behind_sign l.sign now operand → (IsTruth sorts (behind (m.ex_of (u.ex_of l.operand)) (take k rest)) → first_refused sorts (behind (m.ex_of (u.ex_of l.operand)) (take k rest)) ≡ operand) → Ordered sorts first whole before now (drop i links) → Ordered sorts first whole before' now' (drop j links)
  ordered_on first whole before now before' now' operand j next_at b' n' h ordered =
      subst (Ordered sorts first whole before' now') (sym (later j next_at)) (refuse sorts l rest k next first whole before now before' now' operand b' n' h (subst (Ordered sorts first whole before now) here ordered))

  pub linking_on : (n : ℕ) (rows : List AtomOf) (first before now before' now' : Option OutOfRange) (whole old new : List Link) (y : Link) (x : Made) (j : ℕ) → j ≡ i + 1 + k → l.sign ≡ y.sign → y.operand ≡ x.says → new ≡ old ++ y ∷ [] → before' ≡ before_sign l.sign before now → now' ≡ behind_sign l.sign now x.refused → IsMade sorts n rows (behind (m.ex_of (u.ex_of l.operand)) (take k rest)) x → Linking sorts n rows first before now whole (drop i links) old → Linking sorts n rows first before' now' whole (drop j links) new
  linking_on n rows first before now before' now' whole old new y x j next_at same operand push b' n' h linking =
      record {
        going = going_on n rows whole old new y x j next_at same operand push h linking.going;
        ordered = ordered_on first whole before now before' now' x.refused j next_at b' n' (λ t. (h t).refused) linking.ordered;
      }

  -- so much of the links is gone through
  pub passing_on : (base : ℕ) (whole : List Link) (t o v : Table) (j : ℕ) → j ≡ i + 1 + k → Passing sorts base whole (drop i links) t o → Grows base (with_operand sorts (drop i links) k) o v → Passing sorts base whole (drop j links) t v
  passing_on base whole t o v j next_at h g =
      record {
        table = g.table;
        begins = begins_on (rows_in t.rows) (rows_in o.rows) (rows_in v.rows) h.begins (begins_grown (begins_operand sorts (drop i links) k) g);
        rows =
            h.rows
            ∙ ap (λ d. with_links sorts d (rows_in o.rows)) here
            ∙ next_rows sorts l rest k next (rows_in o.rows)
            ∙ ap (with_links sorts (drop k rest)) (ap (λ d. with_operand sorts d k (rows_in o.rows)) (sym here) ∙ sym g.rows)
            ∙ ap (λ d. with_links sorts d (rows_in v.rows)) (sym (later j next_at));
      }

  pub made_here : (n : ℕ) (rows : List AtomOf) (y : Made) → IsMade sorts n rows (operand_in (drop i links) k) y → IsMade sorts n rows (behind (m.ex_of (u.ex_of l.operand)) (take k rest)) y
  made_here n rows y h = subst (λ d. IsMade sorts n rows (operand_in d k) y) here h

pub passing_none : (sorts : List Sort) (base : ℕ) (whole : List Link) (t : Table) → IsTable base t → Passing sorts base whole whole t t
passing_none sorts base whole t is = record { table = is; begins = begins_itself (rows_in t.rows); rows = refl }

pub passed : (sorts : List Sort) (base : ℕ) (whole links : List Link) (i : ℕ) (t v : Table) → length links ≤ i → Passing sorts base whole (drop i links) t v → Grows base (with_links sorts whole) t v
passed sorts base whole links i t v end h =
    record { table = h.table; rows = sym (h.rows ∙ ap (λ d. with_links sorts d (rows_in v.rows)) (drop_all i links end)) }

-- a chain's rows: those of what stands behind `<==`s, of its head, and of the links behind it
pub chain_grows : (sorts : List Sort) (base : ℕ) (x1 x2 : Expr) (l1 l2 l3 l4 : List Link) (e : Box Expr Global) (links : Vec Link Global) (whole : Expr) (k : ℕ) (t o v w : Table) → x1 ≡ e.value → x2 ≡ e.value → l1 ≡ links.items → l2 ≡ links.items → l3 ≡ links.items → l4 ≡ links.items → whole ≡ expr.Chain e links → IsHead sorts (m.ex_of (u.ex_of x1)) l1 k → Grows base (with_turned sorts (turned_in (drop k l4))) t o → Grows base (with_ex sorts (behind (m.ex_of (u.ex_of x2)) (take k l2))) o v → Grows base (with_links sorts (drop k l3)) v w → Grows base (with_ex sorts (m.ex_of (u.ex_of whole))) t w
chain_grows sorts base x1 x2 l1 l2 l3 l4 e links whole k t o v w h1 h2 k1 k2 k3 k4 is head turned first rest =
    record {
      table = rest.table;
      rows =
          rest.rows
          ∙ ap (λ d. with_links sorts (drop k d) (rows_in v.rows)) (k3 ∙ sym k1)
          ∙ ap (with_links sorts (drop k l1)) (first.rows ∙ ap (λ x. with_ex sorts (behind (m.ex_of (u.ex_of x)) (take k l2)) (rows_in o.rows)) (h2 ∙ sym h1) ∙ ap (λ d. with_ex sorts (behind (m.ex_of (u.ex_of x1)) (take k d)) (rows_in o.rows)) (k2 ∙ sym k1) ∙ ap (with_ex sorts (behind (m.ex_of (u.ex_of x1)) (take k l1))) (turned.rows ∙ ap (λ d. with_turned sorts (turned_in (drop k d)) (rows_in t.rows)) (k4 ∙ sym k1)))
          ∙ sym (head_rows sorts (m.ex_of (u.ex_of x1)) l1 k head (rows_in t.rows))
          ∙ ap (λ y. with_ex sorts y (rows_in t.rows)) (chain_node x1 l1 e links whole h1 k1 is);
    }

pub linking_none : (sorts : List Sort) (n : ℕ) (rows : List AtomOf) (first before now : Option OutOfRange) (whole old : List Link) → before ≡ None → now ≡ first → old ≡ [] → Linking sorts n rows first before now whole whole old
linking_none sorts n rows first before now whole old b h none =
    record {
      going = λ zs c. subst (λ d. Carries sorts n rows whole (d ++ zs)) (sym none) c;
      ordered = λ all r. subst (Refuses sorts first whole) (sym (ap (λ o. first_of o all) b)) (subst (λ o. Refuses sorts o whole all) h r);
    }

pub linked : (sorts : List Sort) (n : ℕ) (rows : List AtomOf) (first before now : Option OutOfRange) (whole links : List Link) (made : Linked) (i : ℕ) → length links ≤ i → made.refused ≡ first_of before now → Linking sorts n rows first before now whole (drop i links) made.links.items → AreMade sorts n rows first whole made
linked sorts n rows first before now whole links made i end same h =
    let nothing = λ (a x : s.Ex) (t : IsTruth sorts a) (w : IsTruth sorts a) (g : Means sorts n rows a x). g in
    let none = λ (a : s.Ex) (t : IsTruth sorts a) (w : IsTruth sorts a) (g : first_refused sorts a ≡ now). g in
    record {
      carries = subst (Carries sorts n rows whole) (append-nil made.links.items) (h.going [] (subst (λ d. Carries sorts n rows d []) (sym (drop_all i links end)) nothing));
      refuses = subst (Refuses sorts first whole) (sym same) (h.ordered now (subst (λ d. Refuses sorts now d now) (sym (drop_all i links end)) none));
    }
