-- What the equations of forms deny under truth values of the candidates they deny under a smaller set that has the target's candidate.
use Rattle.std.proofs.Common.{◌≡◌, ℕ, zero, suc, Bool, true, false, if◌then◌else◌, List, [], ◌∷◌, Option, Some, None, Ok, Err, refl, sym, ap, ◌∙◌, subst}
use Rattle.std.specs.Prelude.{◌&&◌, ◌||◌, not, slice_get, Contains}
use Rattle.bg_ast.specs.Syntax.{Ex, Prog}
use Rattle.bg_ast.specs.Execution.{Spot, Place}
use Rattle.bg_sense.specs.Eval.{Scope}
use Rattle.bg_sense.specs.Clauses.{is_kept}
use Rattle.bg_sense.specs.Places.{places}
use Rattle.bg_sense.proofs.Bools.{and_left, and_right}
use Rattle.bg_passive.specs.Passive.{PassiveCmd, Claims, Supposes, Edge, PassiveBlock, spot_eq, is_absent}
use Rattle.bg_passive.specs.Equations.{is_well}
use Rattle.bg_passive.proofs.Renaming.{spot_true}
use Rattle.bg_forms.specs.Forms.{form_true}
use Rattle.bg_formed.specs.Formed.{Says, FormCmd, Asks, Takes, FormEdge, FormBlock, said, form_below, is_of, cmds_below, edges_below, blocks_below}
use Rattle.bg_formed.specs.Said.{IsSaid, SaidCmds, SaidEdges, SaidBlocks}
use Rattle.bg_formed.specs.Wells.{is_met, form_equation, all_form_well, form_equations}
use Rattle.bg_faithful.specs.Checks.{CmdsPlaced, EdgesPlaced, BlocksPlaced}

-- the set has the candidate of each check at the target, if there is one
abbrev KeptCmds : (ℕ → Bool) → Spot → List FormCmd → Type 0
KeptCmds set t [] = Unit {0}
KeptCmds set t (Asks s b r ∷ ks) = (s ≡ t → is_kept set b ≡ true) × KeptCmds set t ks
KeptCmds set t (Takes b r ∷ ks) = KeptCmds set t ks

abbrev KeptEdges : (ℕ → Bool) → Spot → List FormEdge → Type 0
KeptEdges set t [] = Unit {0}
KeptEdges set t (e ∷ es) = KeptCmds set t e.cmds × KeptEdges set t es

abbrev pub KeptBlocks : (ℕ → Bool) → Spot → List FormBlock → Type 0
KeptBlocks set t [] = Unit {0}
KeptBlocks set t (b ∷ bs) = (KeptCmds set t b.cmds × KeptEdges set t b.next) × KeptBlocks set t bs

-- ---- the checks of forms are at places

module _ (p : Prog) (set : ℕ → Bool) (t : Spot) (w : ℕ → Bool) (c : Scope) (kept : (u : Place) → Contains (places p) u → u.spot ≡ t → is_kept set u.candidate ≡ true) where
  -- the candidate of a form is the same, or none
  its_kept : (b d : Option ℕ) (e : Ex) (r : Says) → IsSaid w c b e d r → is_kept set b ≡ true → is_kept set d ≡ true
  its_kept b d e (Ok f) h k = subst (λ x. is_kept set x ≡ true) h.0 k
  its_kept b None e (Err x) h k = refl
  its_kept b (Some d) e (Err x) h k = subst (λ y. is_kept set y ≡ true) h k

  cmds_kept : (ks : List PassiveCmd) (ls : List FormCmd) → SaidCmds w c ks ls → CmdsPlaced p ks → KeptCmds set t ls
  cmds_kept [] [] h g = tt
  cmds_kept [] (l ∷ ls) h g = absurd h
  cmds_kept (k ∷ ks) [] h g = absurd (none k h)
    where
      none : (x : PassiveCmd) → SaidCmds w c (x ∷ ks) [] → ⊥
      none (Claims s b e) z = z
      none (Supposes b e) z = z
  cmds_kept (Claims s b e ∷ ks) (Asks a d r ∷ ls) h g =
      ((λ same. its_kept b d e r h.0.1 (subst (λ x. is_kept set x ≡ true) g.0.1.1.1 (kept g.0.0 g.0.1.0 (g.0.1.1.0 ∙ (h.0.0 ∙ same))))), cmds_kept ks ls h.1 g.1)
  cmds_kept (Claims s b e ∷ ks) (Takes d r ∷ ls) h g = absurd h
  cmds_kept (Supposes b e ∷ ks) (Asks a d r ∷ ls) h g = absurd h
  cmds_kept (Supposes b e ∷ ks) (Takes d r ∷ ls) h g = cmds_kept ks ls h.1 g

  edges_kept : (es : List Edge) (fs : List FormEdge) → SaidEdges w c es fs → EdgesPlaced p es → KeptEdges set t fs
  edges_kept [] [] h g = tt
  edges_kept [] (f ∷ fs) h g = absurd h
  edges_kept (e ∷ es) [] h g = absurd h
  edges_kept (e ∷ es) (f ∷ fs) h g = (cmds_kept e.cmds f.cmds h.0.1 g.0, edges_kept es fs h.1 g.1)

  pub blocks_kept : (bs : List PassiveBlock) (fs : List FormBlock) → SaidBlocks w c bs fs → BlocksPlaced p bs → KeptBlocks set t fs
  blocks_kept [] [] h g = tt
  blocks_kept [] (f ∷ fs) h g = absurd h
  blocks_kept (b ∷ bs) [] h g = absurd h
  blocks_kept (b ∷ bs) (f ∷ fs) h g =
      ((cmds_kept b.cmds f.cmds h.0.0 g.0.0, edges_kept b.next f.next h.0.1 g.0.1), blocks_kept bs fs h.1 g.1)

-- ---- truth values

both_deny : (a b x y : Bool) → (a ≡ false → x ≡ false) → (b ≡ false → y ≡ false) → (a && b) ≡ false → (x && y) ≡ false
both_deny false b x y f g h = ap (λ z. z && y) (f refl)
both_deny true b true y f g h = g h
both_deny true b false y f g h = refl

-- a command's equation, by what is met and what the rest is: under the candidates' truth values, and under the set
one_denies : (here met rest met' rest' : Bool) → (met ≡ true → met' ≡ true) → (rest ≡ false → rest' ≡ false) → (here ≡ true → met ≡ false → met' ≡ false) → (if here then met && rest else not met || rest) ≡ false → (if here then met' && rest' else not met' || rest') ≡ false
one_denies true met rest met' rest' more less same h = both_deny met rest met' rest' (same refl) less h
one_denies false true rest met' rest' more less same h = ap (λ z. not z || rest') (more refl) ∙ less h
one_denies false false rest met' rest' more less same h = absurd (let bad : ⊥ = cc in bad)

module _ (n : ℕ) (these set other : ℕ → Bool) (part : (b : ℕ) → these b ≡ true → set b ≡ true → other b ≡ true) (t : Spot) (w : ℕ → Bool) where
  absent_more : (b : Option ℕ) → is_of these b ≡ true → is_absent other b ≡ true → is_absent set b ≡ true
  absent_more None f a = a
  absent_more (Some b) f a = by (set b) (other b) (part b f) a
    where
      by : (x y : Bool) → (x ≡ true → y ≡ true) → not y ≡ true → not x ≡ true
      by false y g h = refl
      by true y g h = ap not (sym (g refl)) ∙ h

  met_more : (b : Option ℕ) (r : Says) → is_of these b ≡ true → is_met other w b r ≡ true → is_met set w b r ≡ true
  met_more b r f = by (is_absent other b) (is_absent set b) (form_true w (said r)) (absent_more b f)
    where
      by : (y x z : Bool) → (y ≡ true → x ≡ true) → (y || z) ≡ true → (x || z) ≡ true
      by true x z g h = ap (λ v. v || z) (g refl)
      by false true z g h = refl
      by false false z g h = h

  -- a check that is there is met under the set exactly where what it says holds
  kept_denies : (b : Option ℕ) (r : Says) → is_kept set b ≡ true → is_met other w b r ≡ false → is_met set w b r ≡ false
  kept_denies b r k h = ap (λ v. v || form_true w (said r)) (there b k) ∙ behind (is_absent other b) (form_true w (said r)) h
    where
      there : (x : Option ℕ) → is_kept set x ≡ true → is_absent set x ≡ false
      there None e = refl
      there (Some x) e = ap not e

      behind : (x y : Bool) → (x || y) ≡ false → y ≡ false
      behind true y e = absurd (let bad : ⊥ = cc in bad)
      behind false y e = e

  cmds_fewer : (ks : List FormCmd) (rest rest' : Bool) → cmds_below n these ks ≡ true → KeptCmds set t ks → (rest ≡ false → rest' ≡ false) → form_equation other t w ks rest ≡ false → form_equation set t w ks rest' ≡ false
  cmds_fewer [] rest rest' l k h = h
  cmds_fewer (Asks a b r ∷ ks) rest rest' l k h =
      let fits = and_left (is_of these b) _ l in
      let more = and_right (form_below n (said r)) (cmds_below n these ks) (and_right (is_of these b) _ l) in
      one_denies (spot_eq a t) (is_met other w b r) (form_equation other t w ks rest) (is_met set w b r) (form_equation set t w ks rest') (met_more b r fits) (cmds_fewer ks rest rest' more k.1 h) (λ e. kept_denies b r (k.0 (spot_true a t e)))
  cmds_fewer (Takes b r ∷ ks) rest rest' l k h =
      let fits = and_left (is_of these b) _ l in
      let more = and_right (form_below n (said r)) (cmds_below n these ks) (and_right (is_of these b) _ l) in
      one_denies false (is_met other w b r) (form_equation other t w ks rest) (is_met set w b r) (form_equation set t w ks rest') (met_more b r fits) (cmds_fewer ks rest rest' more k h) (λ e. absurd (let bad : ⊥ = cc in bad))

  edges_fewer : (later later' : List Bool) (es : List FormEdge) → edges_below n these es ≡ true → KeptEdges set t es → ((k : ℕ) → is_well (slice_get later k) ≡ false → is_well (slice_get later' k) ≡ false) → all_form_well other t w later es ≡ false → all_form_well set t w later' es ≡ false
  edges_fewer later later' [] l k h = λ e. e
  edges_fewer later later' (x ∷ es) l k h =
      both_deny (form_equation other t w x.cmds (is_well (slice_get later x.to))) (all_form_well other t w later es) (form_equation set t w x.cmds (is_well (slice_get later' x.to))) (all_form_well set t w later' es)
      (cmds_fewer x.cmds (is_well (slice_get later x.to)) (is_well (slice_get later' x.to)) (and_left (cmds_below n these x.cmds) _ l) k.0 (h x.to))
      (edges_fewer later later' es (and_right (cmds_below n these x.cmds) _ l) k.1 h)

  -- what is denied under the candidates' truth values is denied under the set
  pub blocks_fewer : (bs : List FormBlock) → blocks_below n these bs ≡ true → KeptBlocks set t bs → (k : ℕ) → is_well (slice_get (form_equations other t w bs) k) ≡ false → is_well (slice_get (form_equations set t w bs) k) ≡ false
  blocks_fewer [] l h k e = e
  blocks_fewer (b ∷ bs) l h zero e =
      let l1 = and_right (cmds_below n these b.cmds) _ l in
      let later = blocks_fewer bs (and_right (edges_below n these b.next) _ l1) h.1 in
      cmds_fewer b.cmds (all_form_well other t w (form_equations other t w bs) b.next) (all_form_well set t w (form_equations set t w bs) b.next) (and_left (cmds_below n these b.cmds) _ l) h.0.0
      (edges_fewer (form_equations other t w bs) (form_equations set t w bs) b.next (and_left (edges_below n these b.next) _ l1) h.0.1 later) e
  blocks_fewer (b ∷ bs) l h (suc k) e =
      blocks_fewer bs (and_right (edges_below n these b.next) _ (and_right (cmds_below n these b.cmds) _ l)) h.1 k e
