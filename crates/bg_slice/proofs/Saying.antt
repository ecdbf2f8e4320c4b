-- What is left says what the whole says, since it doesn't name the rows that are left out.
use Rattle.std.proofs.Common.{◌≡◌, ℕ, suc, ◌<◌, ◌≤◌, Bool, true, false, List, [], ◌∷◌, refl, sym, ap, ◌∙◌, subst, arith}
use Rattle.std.specs.Prelude.{◌==◌, ◌||◌, not, if◌then◌else◌, ℤ, Option, Ok, Err}
use Rattle.std.proofs.lemmas.Bool.Decides.{nat_tests}
use Rattle.bg_rows.specs.Rows.{holds}
use Rattle.bg_formula.specs.Atoms.{AtomOf, IsTruth, IsRow}
use Rattle.bg_formula.specs.Meaning.{same}
use Rattle.bg_ast.specs.Syntax.{Ex}
use Rattle.bg_ast.specs.Execution.{Spot}
use Rattle.bg_sense.specs.Eval.{Scope}
use Rattle.bg_passive.specs.Passive.{PassiveCmd, Claims, Supposes, Edge, PassiveBlock, spot_eq}
use Rattle.bg_forms.specs.Forms.{Form, Plain, Is, NotSo, Both, Same, form_true}
use Rattle.bg_formed.specs.Formed.{Says, FormCmd, Asks, Takes, FormEdge, FormBlock, said}
use Rattle.bg_formed.specs.Said.{IsSaid, SaidCmds, SaidEdges, SaidBlocks}
use Rattle.bg_formed.specs.Used.{Use, use_cmds, use_later, use_edges, uses}
use Rattle.bg_formed.specs.Agree.{AreRows, RowsAgree}
use Rattle.bg_slice.specs.Slices.{kept, kept_guard, slice_cmds, slice_edges, sliced, names_form, names_cmds, names_edges, names_blocks, row_if, sliced_rows}

pub or_left : (a b : Bool) → a ≡ true → (a || b) ≡ true
or_left true b e = refl
or_left false b e = absurd (let bad : ⊥ = cc in bad)

pub or_right : (a b : Bool) → b ≡ true → (a || b) ≡ true
or_right true b e = refl
or_right false b e = e

pub own : (n : ℕ) → (n == n) ≡ true
own n = grind (arith, nat_tests)

is_own : (j n : ℕ) → (j == n) ≡ true → j ≡ n
is_own j n e = grind (arith, nat_tests)

not_own : (j n : ℕ) → suc n ≤ j → (j == n) ≡ false
not_own j n h = grind (arith, nat_tests)

not_below : (j n : ℕ) → j < n → (j == n) ≡ false
not_below j n h = grind (arith, nat_tests)

up : (j n : ℕ) → j < n → j < suc n
up j n h = search (h, arith)

over : (j n : ℕ) → suc n ≤ j → n ≤ j
over j n h = search (h, arith)

-- ---- truth values that agree with all rows

module _ (numbers : ℕ → ℤ) (truth : ℕ → Bool) where
  abbrev wholes : ℕ → List AtomOf → ℕ → Bool
  wholes n [] j = truth j
  wholes n (IsTruth x ∷ rows) j = truth j
  wholes n (IsRow r d ∷ rows) j = if j == n then holds numbers r else wholes (suc n) rows j

  in_front_same : (n : ℕ) (rows : List AtomOf) (j : ℕ) → j < n → wholes n rows j ≡ truth j
  in_front_same n [] j h = refl
  in_front_same n (IsTruth x ∷ rows) j h = refl
  in_front_same n (IsRow r d ∷ rows) j h = rw (not_below j n h) (in_front_same (suc n) rows j (up j n h))

  agree_by : (n : ℕ) (rows : List AtomOf) → AreRows rows → (w : ℕ → Bool) → ((j : ℕ) → n ≤ j → w j ≡ wholes n rows j) → RowsAgree numbers w n rows
  agree_by n [] a w h = tt
  agree_by n (IsTruth x ∷ rows) a w h = absurd a
  agree_by n (IsRow r d ∷ rows) a w h =
      let here : (if n == n then holds numbers r else wholes (suc n) rows n) ≡ holds numbers r = rw (own n) refl in
      (h n (search arith) ∙ here, agree_by (suc n) rows a w (λ j le. h j (over j n le) ∙ on j le))
    where
      on : (j : ℕ) → suc n ≤ j → (if j == n then holds numbers r else wholes (suc n) rows j) ≡ wholes (suc n) rows j
      on j le = rw (not_own j n le) refl

  named_same : (bs : List FormBlock) (n : ℕ) (rows : List AtomOf) → RowsAgree numbers truth n (sliced_rows n bs rows) → (j : ℕ) → names_blocks j bs ≡ true → wholes n rows j ≡ truth j
  named_same bs n [] h j e = refl
  named_same bs n (IsTruth x ∷ rows) h j e = refl
  named_same bs n (IsRow r d ∷ rows) h j e =
      on (j == n) refl (named_same bs (suc n) rows (rest (names_blocks n bs) h) j e)
    where
      rest : (z : Bool) → RowsAgree numbers truth n (row_if z (IsRow r d) ∷ sliced_rows (suc n) bs rows) → RowsAgree numbers truth (suc n) (sliced_rows (suc n) bs rows)
      rest true k = k.1
      rest false k = k.1

      first : (z : Bool) → z ≡ true → RowsAgree numbers truth n (row_if z (IsRow r d) ∷ sliced_rows (suc n) bs rows) → truth n ≡ holds numbers r
      first true q k = k.0
      first false q k = absurd (let bad : ⊥ = cc in bad)

      on : (z : Bool) → (j == n) ≡ z → wholes (suc n) rows j ≡ truth j → (if z then holds numbers r else wholes (suc n) rows j) ≡ truth j
      on true q k =
          let at_n = is_own j n q in
          sym (ap truth at_n ∙ first (names_blocks n bs) (subst (λ i. names_blocks i bs ≡ true) at_n e) h)
      on false q k = k

-- ---- what is left is worth the same where the atoms that it names are

module _ (w v : ℕ → Bool) where
  form_same : (f : Form) → ((j : ℕ) → names_form j f ≡ true → w j ≡ v j) → form_true v f ≡ form_true w f
  form_same (Plain b) h = refl
  form_same (Is l) h = ap (λ b. same b l.sign) (sym (h l.atom (own l.atom)))
  form_same (NotSo f) h = ap not (form_same f h)
  form_same (Both f g) h =
      rw (form_same f (λ j e. h j (or_left (names_form j f) (names_form j g) e)), form_same g (λ j e. h j (or_right (names_form j f) (names_form j g) e))) refl
  form_same (Same f g) h =
      rw (form_same f (λ j e. h j (or_left (names_form j f) (names_form j g) e)), form_same g (λ j e. h j (or_right (names_form j f) (names_form j g) e))) refl

  module _ (t : Spot) (c : Scope) where
    kept_said : (x : Bool) (b : Option ℕ) (e : Ex) (d : Option ℕ) (r : Says) → ((j : ℕ) → names_form j (said (kept x r)) ≡ true → w j ≡ v j) → IsSaid w c b e d r → IsSaid v c b e (kept_guard x d) (kept x r)
    kept_said true b e d (Ok f) h s = (s.0, form_same f h ∙ s.1)
    kept_said true b e d (Err x) h s = s
    kept_said false b e d r h s = tt

    cmds_left : (ps : List PassiveCmd) (ks : List FormCmd) (u : Use) → ((j : ℕ) → names_cmds j (slice_cmds t ks u) ≡ true → w j ≡ v j) → SaidCmds w c ps ks → SaidCmds v c ps (slice_cmds t ks u)
    cmds_left [] [] u h s = tt
    cmds_left [] (Asks d b r ∷ ks) u h s = absurd s
    cmds_left [] (Takes b r ∷ ks) u h s = absurd s
    cmds_left (Claims d b e ∷ ps) [] u h s = absurd s
    cmds_left (Supposes b e ∷ ps) [] u h s = absurd s
    cmds_left (Supposes b e ∷ ps) (Asks s2 d r ∷ ks) u h s = absurd s
    cmds_left (Claims s2 b e ∷ ps) (Takes d r ∷ ks) u h s = absurd s
    cmds_left (Claims s1 b e ∷ ps) (Asks s2 d r ∷ ks) u h s =
        let x = spot_eq s2 t || (use_cmds t ks u).reached in
        ((s.0.0, kept_said x b e d r (λ j q. h j (or_left (names_form j (said (kept x r))) (names_cmds j (slice_cmds t ks u)) q)) s.0.1), cmds_left ps ks u (λ j q. h j (or_right (names_form j (said (kept x r))) (names_cmds j (slice_cmds t ks u)) q)) s.1)
    cmds_left (Supposes b e ∷ ps) (Takes d r ∷ ks) u h s =
        let x = (use_cmds t ks u).reached in
        (kept_said x b e d r (λ j q. h j (or_left (names_form j (said (kept x r))) (names_cmds j (slice_cmds t ks u)) q)) s.0, cmds_left ps ks u (λ j q. h j (or_right (names_form j (said (kept x r))) (names_cmds j (slice_cmds t ks u)) q)) s.1)

    edges_left : (ps : List Edge) (later : List Use) (es : List FormEdge) → ((j : ℕ) → names_edges j (slice_edges t later es) ≡ true → w j ≡ v j) → SaidEdges w c ps es → SaidEdges v c ps (slice_edges t later es)
    edges_left [] later [] h s = tt
    edges_left [] later (e ∷ es) h s = absurd s
    edges_left (p ∷ ps) later [] h s = absurd s
    edges_left (p ∷ ps) later (e ∷ es) h s =
        ((s.0.0, cmds_left p.cmds e.cmds (use_later later e.to) (λ j q. h j (or_left (names_cmds j (slice_cmds t e.cmds (use_later later e.to))) (names_edges j (slice_edges t later es)) q)) s.0.1), edges_left ps later es (λ j q. h j (or_right (names_cmds j (slice_cmds t e.cmds (use_later later e.to))) (names_edges j (slice_edges t later es)) q)) s.1)

    blocks_left : (ps : List PassiveBlock) (bs : List FormBlock) → ((j : ℕ) → names_blocks j (sliced t bs) ≡ true → w j ≡ v j) → SaidBlocks w c ps bs → SaidBlocks v c ps (sliced t bs)
    blocks_left [] [] h s = tt
    blocks_left [] (b ∷ bs) h s = absurd s
    blocks_left (p ∷ ps) [] h s = absurd s
    blocks_left (p ∷ ps) (b ∷ bs) h s =
        let us = uses t bs in
        let ks = slice_cmds t b.cmds (use_edges t us b.next) in
        let es = slice_edges t us b.next in
        ((cmds_left p.cmds b.cmds (use_edges t us b.next) (λ j q. h j (or_left (names_cmds j ks || names_edges j es) (names_blocks j (sliced t bs)) (or_left (names_cmds j ks) (names_edges j es) q))) s.0.0, edges_left p.next us b.next (λ j q. h j (or_left (names_cmds j ks || names_edges j es) (names_blocks j (sliced t bs)) (or_right (names_cmds j ks) (names_edges j es) q))) s.0.1), blocks_left ps bs (λ j q. h j (or_right (names_cmds j ks || names_edges j es) (names_blocks j (sliced t bs)) q)) s.1)

pub say_the_same : (numbers : ℕ → ℤ) (truth : ℕ → Bool) (base : ℕ) (rows : List AtomOf) (t : Spot) (bs : List FormBlock) → AreRows rows → RowsAgree numbers truth base (sliced_rows base (sliced t bs) rows) → (whole : ℕ → Bool) × ((((j : ℕ) → j < base → whole j ≡ truth j) × RowsAgree numbers whole base rows) × ((c : Scope) (ps : List PassiveBlock) → SaidBlocks whole c ps bs → SaidBlocks truth c ps (sliced t bs)))
say_the_same numbers truth base rows t bs are agree =
    let w = wholes numbers truth base rows in
    (w, ((in_front_same numbers truth base rows, agree_by numbers truth base rows are w (λ j le. refl)), λ c ps. blocks_left w truth t c ps bs (named_same numbers truth (sliced t bs) base rows agree)))
