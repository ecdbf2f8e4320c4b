-- Steps of what is told.
use Rattle.std.proofs.Common.{◌≡◌, ℕ, zero, suc, ◌+◌, ◌<◌, ◌≤◌, Bool, true, false, cond, List, [], ◌∷◌, ◌++◌, length, Option, Some, None, refl, sym, ap, ◌∙◌, subst, arith, inl, inr, ⊎_elim}
use Rattle.std.specs.Prelude.{nat_lt, ◌&&◌, ◌||◌, ◌==◌, ◌⊎◌}
use Rattle.std.specs.BTreeMap.{is_at}
use Rattle.std.specs.Map.{lookup}
use Rattle.std.specs.Ordering.{nat_cmp, ordering_then}
use Rattle.std.proofs.lemmas.List.{map-append}
use Rattle.std.proofs.lemmas.Bool.Decides.{nat_tests}
use Rattle.bg_ast.specs.Values.{Ty}
use Rattle.bg_terms.specs.Terms.{Term}
use Rattle.bg_terms.specs.Instances.{Instance, AtIndex, Elsewhere}
use Rattle.bg_numbered.specs.Lines.{Line, Pick, Says, after_lines, brought, instances_in, is_within, is_any, are_there, picked}
use Rattle.bg_term_table.specs.declared.line.Line as code
use Rattle.bg_term_table.specs.Lines.{line_of, lines_of}
use Rattle.bg_wanted.specs.declared.wants.Wants.{Wants}
use Rattle.bg_wanted.specs.Wanting.{Each, is_in, are_naming, names}
use Rattle.bg_wanted.specs.Telling.{AreTold, Fits, is_among, brought_for}
use Rattle.bg_wanted.proofs.Growth.{after_more, there_more, instances_more, each_more, one_picked, fits_on, length_behind, grown_length, naming_on, named_last, its_own, or_right}

lines_pushed : (now old : List code.Line) (l : code.Line) → now ≡ old ++ l ∷ [] → lines_of now ≡ lines_of old ++ line_of l ∷ []
lines_pushed now old l e = ap lines_of e ∙ map-append line_of old (l ∷ [])

among_more : (a b : ℕ) (bs : List ℕ) → is_among a bs ≡ true → is_among a (b ∷ bs) ≡ true
among_more a b bs h = or_right (a == b) (is_among a bs) h

among_first : (a b : ℕ) (bs : List ℕ) → a ≡ b → is_among a (b ∷ bs) ≡ true
among_first a b bs e = let yes : (a == b) ≡ true = grind (arith, nat_tests, e) in ap (λ c. c || is_among a bs) yes

lt_is : (a b : ℕ) → a < b → nat_lt a b ≡ true
lt_is a b h = grind (arith, nat_tests, h)

not_lt : (a b : ℕ) → b ≤ a → nat_lt a b ≡ false
not_lt a b h = grind (arith, nat_tests, h)

lt_or : (a b : ℕ) → a < suc b → (a < b) ⊎ (a ≡ b)
lt_or zero zero h = inr refl
lt_or zero (suc b) h = inl (omega arith)
lt_or (suc a) zero h = absurd (omega (arith, h))
lt_or (suc a) (suc b) h = ⊎_elim (λ l. inl (omega (arith, l))) (λ e. inr (ap suc e)) (lt_or a b (omega (arith, h)))

-- what a table of picks has after one more
pub picks_by : (c : Bool) (b : ℕ) (o : Option ℕ) {n : Option ℕ} → n ≡ cond c (Some b) o → (p : ℕ) → n ≡ Some p → (p ≡ b) ⊎ (o ≡ Some p)
picks_by true b o is p e = let same : Some b ≡ Some p = sym is ∙ e in let q : b ≡ p = cc in inl (sym q)
picks_by false b o is p e = inr (sym is ∙ e)

module _ (incs : List Ty) (ts : List Term) where
  abbrev all : List Line → List Term
  all ls = after_lines incs ts ls

  abbrev Picks : Wants → Type 0
  Picks w = (k : ℕ × ℕ) (p : ℕ) → brought_for w.picked k ≡ Some p → (length ts ≤ p) × (p < w.next)

  pub told_nothing : (w : Wants) → w.made.items ≡ [] → w.next ≡ length ts → Picks w → AreTold incs ts w []
  told_nothing w none next picks =
      record {
        there = ap (λ ls. are_there incs ts (lines_of ls)) none;
        count = next ∙ sym (ap (λ ls. length (all (lines_of ls))) none);
        fresh = subst (λ ls. Each (λ e. is_within (length ts) e ≡ false) (instances_in (lines_of ls))) (sym none) tt;
        used = λ a low high. absurd (omega (arith, next, low, high));
        picks = picks;
      }

  -- more is loose
  pub told_loose : (w : Wants) (loose : List ℕ) (b : ℕ) → AreTold incs ts w loose → AreTold incs ts w (b ∷ loose)
  told_loose w loose b told =
      record {
        there = told.there;
        count = told.count;
        fresh = told.fresh;
        used = λ a low high. ⊎_elim (λ h. inl h) (λ h. inr (among_more a b loose h)) (told.used a low high);
        picks = told.picks;
      }

  -- a number of a term is below those of what comes in
  pub below_next : (w : Wants) (loose : List ℕ) (u : ℕ) → AreTold incs ts w loose → u < length ts → u < w.next
  below_next w loose u told lt =
      let g = grown_length incs ts (lines_of w.made.items) in
      let c = told.count in
      omega (arith, g, c, lt)

  -- a pick that a line brought
  pub told_again : (w : Wants) (loose : List ℕ) (k : ℕ × ℕ) (p : ℕ) → AreTold incs ts w loose → brought_for w.picked k ≡ Some p → AreTold incs ts w (p ∷ loose) × ((length ts ≤ p) × (p < w.next))
  told_again w loose k p told e = (told_loose w loose p told, told.picks k p e)

  -- ---- a pick

  module _ (old now : Wants) (m a : ℕ) (pick : code.Line) (is : line_of pick ≡ Pick m a) (loose : List ℕ) (fits : Fits incs ts m a) (told : AreTold incs ts old loose) (push : now.made.items ≡ old.made.items ++ pick ∷ []) (next : now.next ≡ old.next + 1) where
    abbrev before : List Line
    before = lines_of old.made.items

    lines : lines_of now.made.items ≡ lines_of old.made.items ++ Pick m a ∷ []
    lines = lines_pushed now.made.items old.made.items pick push ∙ ap (λ l. lines_of old.made.items ++ l ∷ []) is

    brings : brought incs (all before) (Pick m a) ≡ picked incs ts m a
    brings = fits_on incs ts before m a fits

    behind : all (lines_of now.made.items) ≡ all before ++ picked incs ts m a
    behind =
        ap all lines
        ∙ (after_more incs ts before (Pick m a) ∙ ap (λ us. all before ++ us) brings)

    size : length (all (lines_of now.made.items)) ≡ length (all before) + 1
    size =
        ap length behind
        ∙ (length_behind (all before) (picked incs ts m a) ∙ ap (λ k. length (all before) + k) (one_picked incs ts m a fits))

    instances : instances_in (lines_of now.made.items) ≡ instances_in before
    instances = ap instances_in lines ∙ (instances_more before (Pick m a) ∙ none (instances_in before))
      where
        none : {A : Type 0} (xs : List A) → xs ++ [] ≡ xs
        none [] = refl
        none (x ∷ xs) = ap (λ l. x ∷ l) (none xs)

    still : (b : ℕ) → are_naming (length incs) (all before) b (instances_in before) ≡ true → are_naming (length incs) (all (lines_of now.made.items)) b (instances_in (lines_of now.made.items)) ≡ true
    still b h =
        ap (λ us. are_naming (length incs) us b (instances_in (lines_of now.made.items))) behind
        ∙ (ap (are_naming (length incs) (all before ++ picked incs ts m a) b) (ap instances_in lines ∙ instances_more before (Pick m a))
        ∙ naming_on (length incs) (all before) (picked incs ts m a) b (instances_in before) [] h)

    low : length ts ≤ old.next
    low = let g = grown_length incs ts before in let c = told.count in omega (arith, g, c)

    pub told_pick : ((k : ℕ × ℕ) (p : ℕ) → brought_for now.picked k ≡ Some p → (p ≡ old.next) ⊎ (brought_for old.picked k ≡ Some p)) → AreTold incs ts now (old.next ∷ loose) × ((length ts ≤ old.next) × (old.next < now.next))
    told_pick picks = (
      record {
        there =
            ap (are_there incs ts) lines
            ∙ there_more incs ts before (Pick m a) told.there (ap is_any brings ∙ fits);
        count = next ∙ (ap (λ k. k + 1) told.count ∙ sym size);
        fresh = subst (Each (λ e. is_within (length ts) e ≡ false)) (sym instances) told.fresh;
        used =
            λ b least high.
            let h : b < suc old.next = omega (arith, next, high) in
            ⊎_elim
            (λ l. ⊎_elim (λ k. inl (still b k)) (λ k. inr (among_more b old.next loose k)) (told.used b least l))
            (λ e. inr (among_first b old.next loose e)) (lt_or b old.next h);
        picks =
            λ k p e.
            ⊎_elim (λ f. let l = low in (omega (arith, f, l), omega (arith, f, next))) (λ f. let g = told.picks k p f in let hi = g.1 in (g.0, omega (arith, hi, next))) (picks k p e);
      },
      (low, omega (arith, next)),
    )

  -- ---- an instance

  module _ (old now : Wants) (e : Instance) (line : code.Line) (is : line_of line ≡ Says e) (loose : List ℕ) (told : AreTold incs ts old loose) (push : now.made.items ≡ old.made.items ++ line ∷ []) (next : now.next ≡ old.next) (same : now.picked ≡ old.picked) (within : is_within old.next e ≡ true) (fresh : is_within (length ts) e ≡ false) (named : (a : ℕ) → is_among a loose ≡ true → names (length incs) (after_lines incs ts (lines_of old.made.items)) a e ≡ true) where
    abbrev so_far : List Line
    so_far = lines_of old.made.items

    its_lines : lines_of now.made.items ≡ lines_of old.made.items ++ Says e ∷ []
    its_lines =
        lines_pushed now.made.items old.made.items line push ∙ ap (λ l. lines_of old.made.items ++ l ∷ []) is

    none : {A : Type 0} (xs : List A) → xs ++ [] ≡ xs
    none [] = refl
    none (x ∷ xs) = ap (λ l. x ∷ l) (none xs)

    same_terms : all (lines_of now.made.items) ≡ all so_far
    same_terms = ap all its_lines ∙ (after_more incs ts so_far (Says e) ∙ none (all so_far))

    its_instances : instances_in (lines_of now.made.items) ≡ instances_in so_far ++ e ∷ []
    its_instances = ap instances_in its_lines ∙ instances_more so_far (Says e)

    naming : (b : ℕ) → are_naming (length incs) (all so_far) b (instances_in so_far ++ e ∷ []) ≡ true → are_naming (length incs) (all (lines_of now.made.items)) b (instances_in (lines_of now.made.items)) ≡ true
    naming b h =
        ap (λ us. are_naming (length incs) us b (instances_in (lines_of now.made.items))) same_terms
        ∙ (ap (are_naming (length incs) (all so_far) b) its_instances ∙ h)

    kept : (b : ℕ) → are_naming (length incs) (all so_far) b (instances_in so_far) ≡ true → are_naming (length incs) (all so_far) b (instances_in so_far ++ e ∷ []) ≡ true
    kept b h =
        ap (λ us. are_naming (length incs) us b (instances_in so_far ++ e ∷ [])) (sym (none (all so_far)))
        ∙ naming_on (length incs) (all so_far) [] b (instances_in so_far) (e ∷ []) h

    pub told_instance : AreTold incs ts now []
    told_instance =
        record {
          there =
              ap (are_there incs ts) its_lines
              ∙ there_more incs ts so_far (Says e) told.there (ap (λ k. is_within k e) (sym told.count) ∙ within);
          count = next ∙ (told.count ∙ sym (ap length same_terms));
          fresh =
              subst (Each (λ x. is_within (length ts) x ≡ false)) (sym its_instances)
              (each_more (λ x. is_within (length ts) x ≡ false) (instances_in so_far) (e ∷ []) told.fresh (fresh, tt));
          used =
              λ b low high.
              inl (naming b (⊎_elim (λ h. kept b h) (λ h. named_last (length incs) (all so_far) b (instances_in so_far) e (named b h)) (told.used b low (let l : b < old.next = omega (arith, next, high) in l))));
          picks =
              λ k p f.
              let g = told.picks k p (ap (λ m. brought_for m k) (sym same) ∙ f) in
              let hi = g.1 in
              (g.0, omega (arith, hi, next));
        }

-- ---- which terms an instance names

among_one : (a s : ℕ) → is_among a (s ∷ []) ≡ true → a ≡ s
among_one a s h = grind (arith, nat_tests, h)

among_two : (a s r : ℕ) → is_among a (r ∷ s ∷ []) ≡ true → (a ≡ s) ⊎ (a ≡ r)
among_two a s r h = on (a == r) refl h
  where
    on : (c : Bool) → (a == r) ≡ c → (c || is_among a (s ∷ [])) ≡ true → (a ≡ s) ⊎ (a ≡ r)
    on true e k = inr (grind (arith, nat_tests, e))
    on false e k = inl (among_one a s k)

pub here_names : (n : ℕ) (us : List Term) (u s a : ℕ) → is_among a (s ∷ []) ≡ true → names n us a (AtIndex u s) ≡ true
here_names n us u s a h = or_right (is_in n us a u) (is_in n us a s) (its_own n us a s (among_one a s h))

pub elsewhere_names : (n : ℕ) (us : List Term) (u s r a : ℕ) → is_among a (r ∷ s ∷ []) ≡ true → names n us a (Elsewhere u s r) ≡ true
elsewhere_names n us u s r a h =
    or_right (is_in n us a u) (is_in n us a s || is_in n us a r)
    (⊎_elim (λ e. ap (λ c. c || is_in n us a r) (its_own n us a s e)) (λ e. or_right (is_in n us a s) (is_in n us a r) (its_own n us a r e)) (among_two a s r h))

-- ---- which instances are there, and of terms that come in

pub here_within : (n u s : ℕ) → u < n → s < n → is_within n (AtIndex u s) ≡ true
here_within n u s h k = ap (λ c. c && nat_lt s n) (lt_is u n h) ∙ lt_is s n k

pub here_fresh : (n u s : ℕ) → n ≤ s → is_within n (AtIndex u s) ≡ false
here_fresh n u s h = ap (λ c. nat_lt u n && c) (not_lt s n h) ∙ no (nat_lt u n)
  where
    no : (b : Bool) → (b && false) ≡ false
    no true = refl
    no false = refl

pub elsewhere_within : (n u s r : ℕ) → u < n → s < n → r < n → is_within n (Elsewhere u s r) ≡ true
elsewhere_within n u s r h k l =
    ap (λ c. c && (nat_lt s n && nat_lt r n)) (lt_is u n h) ∙ (ap (λ c. c && nat_lt r n) (lt_is s n k) ∙ lt_is r n l)

pub elsewhere_fresh : (n u s r : ℕ) → (n ≤ s) ⊎ (n ≤ r) → is_within n (Elsewhere u s r) ≡ false
elsewhere_fresh n u s r h = ap (λ c. nat_lt u n && c) (inner h) ∙ no (nat_lt u n)
  where
    no : (b : Bool) → (b && false) ≡ false
    no true = refl
    no false = refl

    inner : (n ≤ s) ⊎ (n ≤ r) → (nat_lt s n && nat_lt r n) ≡ false
    inner (inl k) = ap (λ c. c && nat_lt r n) (not_lt s n k)
    inner (inr k) = ap (λ c. nat_lt s n && c) (not_lt r n k) ∙ no (nat_lt s n)

-- nothing is picked where nothing was put
pub no_picks : (ts : List Term) (w : Wants) → w.picked.entries ≡ [] → (k : ℕ × ℕ) (p : ℕ) → brought_for w.picked k ≡ Some p → (length ts ≤ p) × (p < w.next)
no_picks ts w none k p e =
    absurd (let no : brought_for w.picked k ≡ None = ap (λ es. lookup (is_at (λ (y : ℕ × ℕ). ordering_then (nat_cmp k.0 y.0) (nat_cmp k.1 y.1))) es) none in let bad : ⊥ = cc in bad)

pub not_empty : {A : Type 0} (xs : List A) (x : A) {now : List A} → now ≡ xs ++ x ∷ [] → now ≡ [] → ⊥
not_empty [] x e h = let bad : x ∷ [] ≡ [] = sym e ∙ h in let no : ⊥ = cc in no
not_empty (y ∷ xs) x e h = let bad : y ∷ (xs ++ x ∷ []) ≡ [] = sym e ∙ h in let no : ⊥ = cc in no
