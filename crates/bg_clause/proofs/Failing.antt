-- The forms of failure are worth what the equations say, where later blocks are worth their atoms.
use Rattle.std.proofs.Common.{◌≡◌, ℕ, zero, suc, Bool, true, false, List, [], ◌∷◌, refl, sym, ap, ◌∙◌}
use Rattle.std.specs.Prelude.{not, ◌&&◌, ◌||◌, if◌then◌else◌, slice_get, Option, Some, None}
use Rattle.bg_ast.specs.Execution.{Spot}
use Rattle.bg_passive.specs.Passive.{spot_eq, is_absent}
use Rattle.bg_passive.specs.Equations.{is_well}
use Rattle.bg_forms.specs.Forms.{Form, form_true, both_of, any_of, denied}
use Rattle.bg_formed.specs.Formed.{Says, FormCmd, Asks, Takes, FormEdge, FormBlock, said, form_below, is_of, cmds_below, edges_below}
use Rattle.bg_formed.specs.Wells.{is_met, form_equation, all_form_well}
use Rattle.bg_clause.specs.Tables.{atom_in, is_true_at, there_in}
use Rattle.bg_clause.specs.Failing.{is_true_atom, is_there, is_not_there, fail_cmds, fail_later, fail_edges, fail_block}
use Rattle.bg_forms.proofs.Meaning.{not_not, same_true, both_true, any_true, denied_true, and_left, and_right}

suppose_bools : (x w : Bool) → (x && not w) ≡ not (not x || w)
suppose_bools true w = refl
suppose_bools false w = refl

claim_bools : (a e w : Bool) → ((not a && not e) || not w) ≡ not ((a || e) && w)
claim_bools true e w = refl
claim_bools false true w = refl
claim_bools false false w = refl

either_bools : (x y : Bool) → (not x || not y) ≡ not (x && y)
either_bools true y = refl
either_bools false y = refl

-- whether the later blocks are well
abbrev pub wells : (ℕ → Bool) → List Form → List Bool
wells t [] = []
wells t (f ∷ fs) = not (form_true t f) ∷ wells t fs

later_at : (t : ℕ → Bool) (later : List Form) (k : ℕ) → not (form_true t (fail_later later k)) ≡ is_well (slice_get (wells t later) k)
later_at t [] k = refl
later_at t (f ∷ fs) zero = refl
later_at t (f ∷ fs) (suc k) = later_at t fs k

-- a candidate with an atom is there where its atom is true
atom_true : (t : ℕ → Bool) (o : Option ℕ) → form_true t (is_true_atom o) ≡ is_true_at t o
atom_true t None = refl
atom_true t (Some a) = same_true (t a)

-- the candidates with these atoms are there as in the set, as far as they are among those that guard commands
module _ (cs : List (Option ℕ)) (these : ℕ → Bool) (k : ℕ) (target : Spot) (t set : ℕ → Bool) (agree : (b : ℕ) → these b ≡ true → there_in cs t b ≡ set b) where
  there_true : (b : Option ℕ) → is_of these b ≡ true → form_true t (is_there cs b) ≡ not (is_absent set b)
  there_true None fits = refl
  there_true (Some b) fits = rw (atom_true t (atom_in cs b), agree b fits) (sym (not_not (set b)))

  not_there_true : (b : Option ℕ) → is_of these b ≡ true → form_true t (is_not_there cs b) ≡ is_absent set b
  not_there_true b fits = rw (denied_true t (is_there cs b), there_true b fits) (not_not (is_absent set b))

  suppose_true : (b : Option ℕ) (r : Says) (f : Form) (w : Bool) → is_of these b ≡ true → form_true t f ≡ not w → form_true t (both_of (any_of (is_not_there cs b) (said r)) f) ≡ not (not (is_met set t b r) || w)
  suppose_true b r f w fb q =
      rw (both_true t (any_of (is_not_there cs b) (said r)) f, any_true t (is_not_there cs b) (said r), not_there_true b fb, q)
      (suppose_bools (is_absent set b || form_true t (said r)) w)

  claim_true : (b : Option ℕ) (r : Says) (f : Form) (w : Bool) → is_of these b ≡ true → form_true t f ≡ not w → form_true t (any_of (both_of (is_there cs b) (denied (said r))) f) ≡ not (is_met set t b r && w)
  claim_true b r f w fb q =
      rw (any_true t (both_of (is_there cs b) (denied (said r))) f, both_true t (is_there cs b) (denied (said r)), denied_true t (said r), there_true b fb, q)
      (claim_bools (is_absent set b) (form_true t (said r)) w)

  claims_true : (x : Bool) (b : Option ℕ) (r : Says) (f : Form) (w : Bool) → is_of these b ≡ true → form_true t f ≡ not w → form_true t (if x then any_of (both_of (is_there cs b) (denied (said r))) f else both_of (any_of (is_not_there cs b) (said r)) f) ≡ not (if x then is_met set t b r && w else not (is_met set t b r) || w)
  claims_true true b r f w fb q = claim_true b r f w fb q
  claims_true false b r f w fb q = suppose_true b r f w fb q

  cmds_true : (ks : List FormCmd) (rest : Form) → cmds_below k these ks ≡ true → form_true t (fail_cmds cs target ks rest) ≡ not (form_equation set target t ks (not (form_true t rest)))
  cmds_true [] rest fits = sym (not_not (form_true t rest))
  cmds_true (Asks s b r ∷ ks) rest fits =
      let more = and_right (is_of these b) (form_below k (said r) && cmds_below k these ks) fits in
      claims_true (spot_eq s target) b r (fail_cmds cs target ks rest) (form_equation set target t ks (not (form_true t rest))) (and_left (is_of these b) (form_below k (said r) && cmds_below k these ks) fits) (cmds_true ks rest (and_right (form_below k (said r)) (cmds_below k these ks) more))
  cmds_true (Takes b r ∷ ks) rest fits =
      let more = and_right (is_of these b) (form_below k (said r) && cmds_below k these ks) fits in
      suppose_true b r (fail_cmds cs target ks rest) (form_equation set target t ks (not (form_true t rest))) (and_left (is_of these b) (form_below k (said r) && cmds_below k these ks) fits) (cmds_true ks rest (and_right (form_below k (said r)) (cmds_below k these ks) more))

  edges_true : (later : List Form) (es : List FormEdge) → edges_below k these es ≡ true → form_true t (fail_edges cs target later es) ≡ not (all_form_well set target t (wells t later) es)
  edges_true later [] fits = refl
  edges_true later (e ∷ es) fits =
      let ahead = fail_later later e.to in
      let first = cmds_true e.cmds ahead (and_left (cmds_below k these e.cmds) (edges_below k these es) fits) in
      let w = form_equation set target t e.cmds (is_well (slice_get (wells t later) e.to)) in
      let here : form_true t (fail_cmds cs target e.cmds ahead) ≡ not w =
      first ∙ ap (λ x. not (form_equation set target t e.cmds x)) (later_at t later e.to) in
      rw (any_true t (fail_cmds cs target e.cmds ahead) (fail_edges cs target later es), here, edges_true later es (and_right (cmds_below k these e.cmds) (edges_below k these es) fits))
      (either_bools w (all_form_well set target t (wells t later) es))

  -- a block's form is true where its equation denies it
  pub block_true : (later : List Form) (b : FormBlock) → cmds_below k these b.cmds ≡ true → edges_below k these b.next ≡ true → form_true t (fail_block cs target later b) ≡ not (form_equation set target t b.cmds (all_form_well set target t (wells t later) b.next))
  block_true later b fk fe =
      let w = all_form_well set target t (wells t later) b.next in
      cmds_true b.cmds (fail_edges cs target later b.next) fk
      ∙ ap (λ x. not (form_equation set target t b.cmds x)) (ap not (edges_true later b.next fe) ∙ not_not w)
