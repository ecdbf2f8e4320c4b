-- Where the clauses are true, the equations deny the entry.
use Rattle.std.proofs.Common.{◌≡◌, ℕ, zero, suc, Bool, true, false, List, [], ◌∷◌, refl, sym, ◌∙◌}
use Rattle.std.specs.Prelude.{not, ◌&&◌, ◌||◌, if◌then◌else◌, slice_get, Option}
use Rattle.bg_ast.specs.Execution.{Spot}
use Rattle.bg_passive.specs.Passive.{spot_eq}
use Rattle.bg_passive.specs.Equations.{is_well}
use Rattle.bg_formed.specs.Wells.{is_met, form_equation, all_form_well, form_equations}
use Rattle.bg_forms.specs.Forms.{Form, form_true, is_true}
use Rattle.bg_formed.specs.Formed.{FormCmd, Asks, Takes, FormEdge, FormBlock, cmds_below, edges_below, blocks_below}
use Rattle.bg_clause.specs.Tables.{there_in}
use Rattle.bg_clause.specs.Failing.{fail_block}
use Rattle.bg_clause.specs.Emitted.{denies, emitted}
use Rattle.bg_clause.specs.Told.{Told, nothing, is_short, told_by, told, entry_told}
use Rattle.bg_forms.proofs.Meaning.{same_true, and_left, and_right}
use Rattle.bg_clause.proofs.Failing.{wells, block_true}
use Rattle.bg_clause.proofs.Clausal.{all_in}
use Rattle.bg_clause.proofs.Defining.{all_first, all_second}
use Rattle.bg_clause.proofs.Emitting.{emitted_sound, implied}

-- what is true in the first list is true in the second
abbrev pub Within : List Bool → List Bool → Type 0
Within [] [] = Unit {0}
Within [] (y ∷ ys) = ⊥
Within (x ∷ xs) [] = ⊥
Within (x ∷ xs) (y ∷ ys) = (x ≡ true → y ≡ true) × Within xs ys

well_within : (xs ys : List Bool) (k : ℕ) → Within xs ys → is_well (slice_get xs k) ≡ true → is_well (slice_get ys k) ≡ true
well_within [] [] k h e = e
well_within [] (y ∷ ys) k h e = absurd h
well_within (x ∷ xs) [] k h e = absurd h
well_within (x ∷ xs) (y ∷ ys) zero h e = h.0 e
well_within (x ∷ xs) (y ∷ ys) (suc k) h e = well_within xs ys k h.1 e

suppose_within : (a p q : Bool) → (p ≡ true → q ≡ true) → (not a || p) ≡ true → (not a || q) ≡ true
suppose_within true p q h e = h e
suppose_within false p q h e = refl

claim_within : (s a p q : Bool) → (p ≡ true → q ≡ true) → (if s then a && p else (not a || p)) ≡ true → (if s then a && q else (not a || q)) ≡ true
claim_within true true p q h e = h e
claim_within true false p q h e = e
claim_within false a p q h e = suppose_within a p q h e

and_within : (a b p q : Bool) → (a ≡ true → p ≡ true) → (b ≡ true → q ≡ true) → (a && b) ≡ true → (p && q) ≡ true
and_within true b p q h k e = rw (h refl) (k e)
and_within false b p q h k e = absurd (let bad : ⊥ = cc in bad)

module _ (set : ℕ → Bool) (target : Spot) (c : ℕ → Bool) where
  cmds_within : (ks : List FormCmd) (x y : Bool) → (x ≡ true → y ≡ true) → form_equation set target c ks x ≡ true → form_equation set target c ks y ≡ true
  cmds_within [] x y h e = h e
  cmds_within (Asks s b r ∷ ks) x y h e =
      claim_within (spot_eq s target) (is_met set c b r) (form_equation set target c ks x) (form_equation set target c ks y) (cmds_within ks x y h) e
  cmds_within (Takes b r ∷ ks) x y h e =
      suppose_within (is_met set c b r) (form_equation set target c ks x) (form_equation set target c ks y) (cmds_within ks x y h) e

  all_within : (xs ys : List Bool) → Within xs ys → (es : List FormEdge) → all_form_well set target c xs es ≡ true → all_form_well set target c ys es ≡ true
  all_within xs ys h [] e = refl
  all_within xs ys h (k ∷ ks) e =
      and_within (form_equation set target c k.cmds (is_well (slice_get xs k.to))) (all_form_well set target c xs ks) (form_equation set target c k.cmds (is_well (slice_get ys k.to))) (all_form_well set target c ys ks) (cmds_within k.cmds (is_well (slice_get xs k.to)) (is_well (slice_get ys k.to)) (well_within xs ys k.to h)) (all_within xs ys h ks) e

clash : (x y : Bool) → x ≡ not y → x ≡ true → y ≡ true → ⊥
clash x true p e q = cc
clash x false p e q = cc

denied : (x : Bool) → (x ≡ true → ⊥) → not x ≡ true
denied true h = absurd (h refl)
denied false h = refl

not_true : (x : Bool) → (x ≡ true → ⊥) → x ≡ false
not_true true h = absurd (h refl)
not_true false h = refl

-- what stands in a block's place is true only where its form is
place_sound : (t : ℕ → Bool) (x : Bool) (f : Form) (s : Told) (ws : List Bool) → all_in t (told_by x f s).clauses ≡ true → (y : Bool) → (y ≡ true → form_true t f ≡ true → ⊥) → Within ws (wells t s.fails) → Within (y ∷ ws) (wells t (told_by x f s).fails)
place_sound t true f s ws h y never rest = (λ e. denied (form_true t f) (never e), rest)
place_sound t false f s ws h y never rest =
    let sound = implied t s.next f (suc s.next) (all_second t s.clauses (emitted (denies s.next ∷ []) f (suc s.next)) h) in
    (λ e. denied (form_true t (is_true s.next)) (λ q. never e (sound (sym (same_true (t s.next)) ∙ q))), rest)

place_first : (t : ℕ → Bool) (x : Bool) (f : Form) (s : Told) → all_in t (told_by x f s).clauses ≡ true → all_in t s.clauses ≡ true
place_first t true f s h = h
place_first t false f s h = all_first t s.clauses (emitted (denies s.next ∷ []) f (suc s.next)) h

module _ (cs : List (Option ℕ)) (these : ℕ → Bool) (target : Spot) (a : ℕ) (t set : ℕ → Bool) (agree : (b : ℕ) → these b ≡ true → there_in cs t b ≡ set b) where
  -- a block that is well by its equation doesn't fail by its form
  not_failing : (later : List Form) (es : List Bool) (b : FormBlock) → cmds_below a these b.cmds ≡ true → edges_below a these b.next ≡ true → Within es (wells t later) → form_equation set target t b.cmds (all_form_well set target t es b.next) ≡ true → form_true t (fail_block cs target later b) ≡ true → ⊥
  not_failing later es b fk fe rest e q =
      let ws = wells t later in
      let well = cmds_within set target t b.cmds (all_form_well set target t es b.next) (all_form_well set target t ws b.next) (all_within set target t es ws rest b.next) e in
      clash (form_true t (fail_block cs target later b)) (form_equation set target t b.cmds (all_form_well set target t ws b.next)) (block_true cs these a target t set agree later b fk fe) q well

  blocks_within : (bs : List FormBlock) → blocks_below a these bs ≡ true → all_in t (told cs target (nothing a) bs).clauses ≡ true → Within (form_equations set target t bs) (wells t (told cs target (nothing a) bs).fails)
  blocks_within [] fits h = tt
  blocks_within (b ∷ bs) fits h =
      let s = told cs target (nothing a) bs in
      let f = fail_block cs target s.fails b in
      let es = form_equations set target t bs in
      let more = and_right (cmds_below a these b.cmds) (edges_below a these b.next && blocks_below a these bs) fits in
      let rest = blocks_within bs (and_right (edges_below a these b.next) (blocks_below a these bs) more) (place_first t (is_short f) f s h) in
      place_sound t (is_short f) f s es h (form_equation set target t b.cmds (all_form_well set target t es b.next)) (not_failing s.fails es b (and_left (cmds_below a these b.cmds) (edges_below a these b.next && blocks_below a these bs) fits) (and_left (edges_below a these b.next) (blocks_below a these bs) more) rest) rest

  -- the clauses deny the entry's truth variable
  pub entry_denied : (bs : List FormBlock) → blocks_below a these bs ≡ true → all_in t (entry_told cs target a bs).clauses ≡ true → is_well (slice_get (form_equations set target t bs) 0) ≡ false
  entry_denied [] fits h = absurd (let bad : ⊥ = cc in bad)
  entry_denied (b ∷ bs) fits h =
      let s = told cs target (nothing a) bs in
      let f = fail_block cs target s.fails b in
      let es = form_equations set target t bs in
      let more = and_right (cmds_below a these b.cmds) (edges_below a these b.next && blocks_below a these bs) fits in
      let rest = blocks_within bs (and_right (edges_below a these b.next) (blocks_below a these bs) more) (all_first t s.clauses (emitted [] f s.next) h) in
      let fails = emitted_sound t f [] s.next (all_second t s.clauses (emitted [] f s.next) h) in
      not_true (form_equation set target t b.cmds (all_form_well set target t es b.next)) (λ e. not_failing s.fails es b (and_left (cmds_below a these b.cmds) (edges_below a these b.next && blocks_below a these bs) fits) (and_left (edges_below a these b.next) (blocks_below a these bs) more) rest e fails)
