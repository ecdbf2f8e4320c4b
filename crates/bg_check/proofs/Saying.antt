-- What forms say of flat blocks they say of the blocks that were made flat, without what stands in front.
use Rattle.std.proofs.Common.{◌≡◌, ℕ, zero, suc, Bool, true, false, if◌then◌else◌, List, [], ◌∷◌, ◌++◌, length, drop, Option, Ok, Err, refl, sym, ◌∙◌, subst}
use Rattle.std.specs.Prelude.{not, ◌&&◌, ◌||◌, slice_get, Some, None}
use Rattle.bg_ast.specs.Values.{Ty, truth_of}
use Rattle.bg_ast.specs.Syntax.{Ex}
use Rattle.bg_ast.specs.Execution.{Spot}
use Rattle.bg_sense.specs.Eval.{Scope, ev}
use Rattle.bg_passive.specs.Passive.{PassiveCmd, Claims, Supposes, Edge, PassiveBlock}
use Rattle.bg_passive.specs.Equations.{is_well}
use Rattle.bg_formed.specs.Formed.{Says, FormCmd, Asks, Takes, FormEdge, FormBlock}
use Rattle.bg_formed.specs.Said.{IsSame, IsSaid, SaidCmds, SaidEdges, SaidBlocks}
use Rattle.bg_base.specs.declared.exact.OutOfRange.{OutOfRange}
use Rattle.bg_formed.specs.Formed.{cmds_below, edges_below, blocks_below, is_of, form_below, said}
use Rattle.bg_formed.specs.Used.{Use, refusal_of, first_of, use_cmds, use_edges, uses, refused}
use Rattle.bg_formed.specs.Used as used
use Rattle.bg_formed.specs.Wells.{is_met, form_equation, all_form_well, form_equations}
use Rattle.bg_sense.proofs.Bools.{and_left, and_right, both}
use Rattle.bg_terms.specs.Terms.{Term}
use Rattle.bg_flat.specs.Blocks.{IsFlatTruth, FlatCmds, FlatEdges, FlatBlocks, supposed, in_front}
use Rattle.bg_model.specs.Behind.{behind_front}

module _ (tys : List Ty) (n : ℕ) (ts : List Term) (w : ℕ → Bool) (c d : Scope) (same : (e x : Ex) → IsFlatTruth tys n ts e x → truth_of (ev x d) ≡ truth_of (ev e c)) where
  one_said : (b q : Option ℕ) (e x : Ex) (o : Option ℕ) (r : Says) → b ≡ q → IsFlatTruth tys n ts e x → IsSaid w d q x o r → IsSaid w c b e o r
  one_said b q e x o (Ok f) h g s = (h ∙ s.0, s.1 ∙ same e x g)
  one_said b q e x o (Err y) h g s = subst (λ z. IsSame z o) (sym h) s

  cmds_said : (ks ls : List PassiveCmd) (fs : List FormCmd) → FlatCmds tys n ts ks ls → SaidCmds w d ls fs → SaidCmds w c ks fs
  cmds_said [] [] [] h g = tt
  cmds_said [] [] (f ∷ fs) h g = absurd g
  cmds_said [] (l ∷ ls) fs h g = absurd h
  cmds_said (Claims s b e ∷ ks) [] fs h g = absurd h
  cmds_said (Supposes b e ∷ ks) [] fs h g = absurd h
  cmds_said (Claims s b e ∷ ks) (Supposes q x ∷ ls) fs h g = absurd h
  cmds_said (Supposes b e ∷ ks) (Claims u q x ∷ ls) fs h g = absurd h
  cmds_said (Claims s b e ∷ ks) (Claims u q x ∷ ls) [] h g = absurd g
  cmds_said (Claims s b e ∷ ks) (Claims u q x ∷ ls) (Takes o r ∷ fs) h g = absurd g
  cmds_said (Claims s b e ∷ ks) (Claims u q x ∷ ls) (Asks v o r ∷ fs) h g =
      ((h.0.0 ∙ g.0.0, one_said b q e x o r h.0.1.0 h.0.1.1 g.0.1), cmds_said ks ls fs h.1 g.1)
  cmds_said (Supposes b e ∷ ks) (Supposes q x ∷ ls) [] h g = absurd g
  cmds_said (Supposes b e ∷ ks) (Supposes q x ∷ ls) (Asks v o r ∷ fs) h g = absurd g
  cmds_said (Supposes b e ∷ ks) (Supposes q x ∷ ls) (Takes o r ∷ fs) h g =
      (one_said b q e x o r h.0.0 h.0.1 g.0, cmds_said ks ls fs h.1 g.1)

  edges_said : (es gs : List Edge) (fs : List FormEdge) → FlatEdges tys n ts es gs → SaidEdges w d gs fs → SaidEdges w c es fs
  edges_said [] [] [] h g = tt
  edges_said [] [] (f ∷ fs) h g = absurd g
  edges_said [] (x ∷ gs) fs h g = absurd h
  edges_said (e ∷ es) [] fs h g = absurd h
  edges_said (e ∷ es) (x ∷ gs) [] h g = absurd g
  edges_said (e ∷ es) (x ∷ gs) (f ∷ fs) h g =
      ((h.0.0 ∙ g.0.0, cmds_said e.cmds x.cmds f.cmds h.0.1 g.0.1), edges_said es gs fs h.1 g.1)

  blocks_said : (bs gs : List PassiveBlock) (fs : List FormBlock) → FlatBlocks tys n ts bs gs → SaidBlocks w d gs fs → SaidBlocks w c bs fs
  blocks_said [] [] [] h g = tt
  blocks_said [] [] (f ∷ fs) h g = absurd g
  blocks_said [] (x ∷ gs) fs h g = absurd h
  blocks_said (b ∷ bs) [] fs h g = absurd h
  blocks_said (b ∷ bs) (x ∷ gs) [] h g = absurd g
  blocks_said (b ∷ bs) (x ∷ gs) (f ∷ fs) h g =
      ((cmds_said b.cmds x.cmds f.cmds h.0.0 g.0.0, edges_said b.next x.next f.next h.0.1 g.0.1), blocks_said bs gs fs h.1 g.1)

  -- ---- what stands in front

  behind_cmds : (xs : List Ex) (ks : List PassiveCmd) (fs : List FormCmd) → SaidCmds w d (supposed xs ++ ks) fs → SaidCmds w d ks (drop (length xs) fs)
  behind_cmds [] ks fs g = g
  behind_cmds (x ∷ xs) ks [] g = absurd g
  behind_cmds (x ∷ xs) ks (Asks v o r ∷ fs) g = absurd g
  behind_cmds (x ∷ xs) ks (Takes o r ∷ fs) g = behind_cmds xs ks fs g.1

  behind_blocks : (xs : List Ex) (gs : List PassiveBlock) (fs : List FormBlock) → SaidBlocks w d (in_front xs gs) fs → SaidBlocks w d gs (behind_front (length xs) fs)
  behind_blocks xs [] [] g = tt
  behind_blocks xs [] (f ∷ fs) g = absurd g
  behind_blocks xs (x ∷ gs) [] g = absurd g
  behind_blocks xs (x ∷ gs) (f ∷ fs) g = ((behind_cmds xs x.cmds f.cmds g.0.0, g.0.1), g.1)

  pub said_alike : (xs : List Ex) (bs gs : List PassiveBlock) (fs : List FormBlock) → FlatBlocks tys n ts bs gs → SaidBlocks w d (in_front xs gs) fs → SaidBlocks w c bs (behind_front (length xs) fs)
  said_alike xs bs gs fs h g = blocks_said bs gs (behind_front (length xs) fs) h (behind_blocks xs gs fs g)

-- what is denied behind a front is denied without it
module _ (set : ℕ → Bool) (t : Spot) (w : ℕ → Bool) (d : Scope) where
  both_false : (a b : Bool) → (a || b) ≡ false → b ≡ false
  both_false true b e = absurd (let bad : ⊥ = cc in bad)
  both_false false b e = e

  denied_cmds : (xs : List Ex) (ks : List PassiveCmd) (fs : List FormCmd) (rest : Bool) → SaidCmds w d (supposed xs ++ ks) fs → form_equation set t w fs rest ≡ false → form_equation set t w (drop (length xs) fs) rest ≡ false
  denied_cmds [] ks fs rest g e = e
  denied_cmds (x ∷ xs) ks [] rest g e = absurd g
  denied_cmds (x ∷ xs) ks (Asks v o r ∷ fs) rest g e = absurd g
  denied_cmds (x ∷ xs) ks (Takes o r ∷ fs) rest g e =
      denied_cmds xs ks fs rest g.1 (both_false (not (is_met set w o r)) (form_equation set t w fs rest) e)

  pub denied_behind : (xs : List Ex) (gs : List PassiveBlock) (fs : List FormBlock) → SaidBlocks w d (in_front xs gs) fs → is_well (slice_get (form_equations set t w fs) 0) ≡ false → is_well (slice_get (form_equations set t w (behind_front (length xs) fs)) 0) ≡ false
  denied_behind xs [] [] g e = e
  denied_behind xs [] (f ∷ fs) g e = absurd g
  denied_behind xs (x ∷ gs) [] g e = absurd g
  denied_behind xs (x ∷ gs) (f ∷ fs) g e =
      denied_cmds xs x.cmds f.cmds (all_form_well set t w (form_equations set t w fs) f.next) g.0.0 e

-- no operation leaves the range without what stands in front, where none does behind it
module _ (t : Spot) (w : ℕ → Bool) (d : Scope) where
  no_first : (o q : Option OutOfRange) → first_of o q ≡ None → q ≡ None
  no_first None q h = h
  no_first (Some e) q h = absurd (let bad : ⊥ = cc in bad)

  front_none : (r : Says) (v : Use) → (used.in_front r v).refusal ≡ None → v.refusal ≡ None
  front_none r v h = by v.reached h
    where
      by : (b : Bool) → (if b then record { reached = true; refusal = first_of (refusal_of r) v.refusal } else v).refusal ≡ None → v.refusal ≡ None
      by true h = no_first (refusal_of r) v.refusal h
      by false h = h

  none_cmds : (xs : List Ex) (ks : List PassiveCmd) (fs : List FormCmd) (u : Use) → SaidCmds w d (supposed xs ++ ks) fs → (use_cmds t fs u).refusal ≡ None → (use_cmds t (drop (length xs) fs) u).refusal ≡ None
  none_cmds [] ks fs u g e = e
  none_cmds (x ∷ xs) ks [] u g e = absurd g
  none_cmds (x ∷ xs) ks (Asks v o r ∷ fs) u g e = absurd g
  none_cmds (x ∷ xs) ks (Takes o r ∷ fs) u g e = none_cmds xs ks fs u g.1 (front_none r (use_cmds t fs u) e)

  pub none_behind : (xs : List Ex) (gs : List PassiveBlock) (fs : List FormBlock) → SaidBlocks w d (in_front xs gs) fs → refused t fs ≡ None → refused t (behind_front (length xs) fs) ≡ None
  none_behind xs [] [] g e = e
  none_behind xs [] (f ∷ fs) g e = absurd g
  none_behind xs (x ∷ gs) [] g e = absurd g
  none_behind xs (x ∷ gs) (f ∷ fs) g e = none_cmds xs x.cmds f.cmds (use_edges t (uses t fs) f.next) g.0.0 e

-- what is left names no more
module _ (n : ℕ) (these : ℕ → Bool) where
  drop_below : (k : ℕ) (fs : List FormCmd) → cmds_below n these fs ≡ true → cmds_below n these (drop k fs) ≡ true
  drop_below zero fs h = h
  drop_below (suc k) [] h = refl
  drop_below (suc k) (Asks v o r ∷ fs) h =
      drop_below k fs (and_right (form_below n (said r)) (cmds_below n these fs) (and_right (is_of these o) _ h))
  drop_below (suc k) (Takes o r ∷ fs) h =
      drop_below k fs (and_right (form_below n (said r)) (cmds_below n these fs) (and_right (is_of these o) _ h))

  pub below_behind : (k : ℕ) (fs : List FormBlock) → blocks_below n these fs ≡ true → blocks_below n these (behind_front k fs) ≡ true
  below_behind k [] h = refl
  below_behind k (f ∷ fs) h =
      both (cmds_below n these (drop k f.cmds)) (edges_below n these f.next && blocks_below n these fs) (drop_below k f.cmds (and_left (cmds_below n these f.cmds) _ h)) (and_right (cmds_below n these f.cmds) _ h)
