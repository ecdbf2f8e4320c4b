-- Equations of blocks speak of the candidates of their commands alone.
use Rattle.std.proofs.Common.{◌≡◌, ℕ, Bool, true, List, [], ◌∷◌, refl, ap}
use Rattle.std.specs.Prelude.{not, ◌&&◌, ◌||◌, Option, Some, None, slice_get}
use Rattle.bg_ast.specs.Execution.{Spot}
use Rattle.bg_passive.specs.Passive.{is_absent}
use Rattle.bg_passive.specs.Equations.{is_well}
use Rattle.bg_forms.specs.Forms.{form_true}
use Rattle.bg_formed.specs.Formed.{Says, FormCmd, Asks, Takes, FormEdge, FormBlock, said, form_below, is_of, cmds_below, edges_below, blocks_below}
use Rattle.bg_formed.specs.Wells.{is_met, form_equation, all_form_well, form_equations}
use Rattle.bg_formed.proofs.Below.{and_left, and_right}

module _ (n : ℕ) (these : ℕ → Bool) (set other : ℕ → Bool) (same : (b : ℕ) → these b ≡ true → set b ≡ other b) (t : Spot) (w : ℕ → Bool) where
  absent_knows : (b : Option ℕ) → is_of these b ≡ true → is_absent set b ≡ is_absent other b
  absent_knows None h = refl
  absent_knows (Some b) h = ap not (same b h)

  met_knows : (b : Option ℕ) (r : Says) → is_of these b ≡ true → is_met set w b r ≡ is_met other w b r
  met_knows b r h = ap (λ x. x || form_true w (said r)) (absent_knows b h)

  cmds_know : (ks : List FormCmd) (rest : Bool) → cmds_below n these ks ≡ true → form_equation set t w ks rest ≡ form_equation other t w ks rest
  cmds_know [] rest h = refl
  cmds_know (Asks s b r ∷ ks) rest h =
      let met = met_knows b r (and_left (is_of these b) (form_below n (said r) && cmds_below n these ks) h) in
      let on = cmds_know ks rest (and_right (form_below n (said r)) (cmds_below n these ks) (and_right (is_of these b) (form_below n (said r) && cmds_below n these ks) h)) in
      rw (met, on) refl
  cmds_know (Takes b r ∷ ks) rest h =
      let met = met_knows b r (and_left (is_of these b) (form_below n (said r) && cmds_below n these ks) h) in
      let on = cmds_know ks rest (and_right (form_below n (said r)) (cmds_below n these ks) (and_right (is_of these b) (form_below n (said r) && cmds_below n these ks) h)) in
      rw (met, on) refl

  edges_know : (later : List Bool) (es : List FormEdge) → edges_below n these es ≡ true → all_form_well set t w later es ≡ all_form_well other t w later es
  edges_know later [] h = refl
  edges_know later (e ∷ es) h =
      let first = cmds_know e.cmds (is_well (slice_get later e.to)) (and_left (cmds_below n these e.cmds) (edges_below n these es) h) in
      rw (first, edges_know later es (and_right (cmds_below n these e.cmds) (edges_below n these es) h)) refl

  pub blocks_know : (bs : List FormBlock) → blocks_below n these bs ≡ true → form_equations set t w bs ≡ form_equations other t w bs
  blocks_know [] h = refl
  blocks_know (b ∷ bs) h =
      let rest = and_right (cmds_below n these b.cmds) (edges_below n these b.next && blocks_below n these bs) h in
      let later = form_equations other t w bs in
      let ways = edges_know later b.next (and_left (edges_below n these b.next) (blocks_below n these bs) rest) in
      let whole = cmds_know b.cmds (all_form_well other t w later b.next) (and_left (cmds_below n these b.cmds) (edges_below n these b.next && blocks_below n these bs) h) in
      let on = blocks_know bs (and_right (edges_below n these b.next) (blocks_below n these bs) rest) in
      rw (on, ways, whole) refl
