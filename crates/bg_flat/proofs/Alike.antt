-- Flat blocks are well where the blocks are.
use Rattle.std.proofs.Common.{◌≡◌, ℕ, Bool, true, false, List, [], ◌∷◌, ◌++◌, Option, refl, sym, ap, ◌∙◌}
use Rattle.std.specs.Prelude.{not, ◌&&◌, ◌||◌, if◌then◌else◌, slice_get}
use Rattle.bg_ast.specs.Values.{Ty, truth_of}
use Rattle.bg_ast.specs.Syntax.{Ex}
use Rattle.bg_ast.specs.Execution.{Spot}
use Rattle.bg_sense.specs.Eval.{Scope, ev}
use Rattle.bg_passive.specs.Passive.{PassiveCmd, Claims, Supposes, Edge, PassiveBlock, spot_eq, is_absent}
use Rattle.bg_passive.specs.Equations.{equation_cmds, is_well, all_well, equations}
use Rattle.bg_terms.specs.Terms.{Term}
use Rattle.bg_flat.specs.Blocks.{IsFlatTruth, FlatCmds, FlatEdges, FlatBlocks, supposed, in_front, all_true}

module _ (tys : List Ty) (n : ℕ) (ts : List Term) (set : ℕ → Bool) (t : Spot) (c d : Scope) (same : (e x : Ex) → IsFlatTruth tys n ts e x → truth_of (ev x d) ≡ truth_of (ev e c)) where
  -- what a command says under the set
  abbrev met : Scope → Option ℕ → Ex → Bool
  met s b e = is_absent set b || truth_of (ev e s)

  met_same : (b q : Option ℕ) (e x : Ex) → b ≡ q → IsFlatTruth tys n ts e x → met d q x ≡ met c b e
  met_same b q e x h f =
      ap (λ o. is_absent set o || truth_of (ev x d)) (sym h) ∙ ap (λ v. is_absent set b || v) (same e x f)

  abbrev claimed : Bool → Bool → Bool → Bool
  claimed hit m rest = if hit then m && rest else (not m || rest)

  cmds_same : (ks ls : List PassiveCmd) (r : Bool) → FlatCmds tys n ts ks ls → equation_cmds set t d ls r ≡ equation_cmds set t c ks r
  cmds_same [] [] r h = refl
  cmds_same [] (l ∷ ls) r h = absurd h
  cmds_same (k ∷ ks) [] r h = absurd (no_end k ks h)
    where
      no_end : (k : PassiveCmd) (ks : List PassiveCmd) → FlatCmds tys n ts (k ∷ ks) [] → ⊥
      no_end (Claims s b e) ks h = h
      no_end (Supposes b e) ks h = h
  cmds_same (Claims s b e ∷ ks) (Claims u q x ∷ ls) r h =
      ap (λ z. claimed (spot_eq z t) (met d q x) (equation_cmds set t d ls r)) (sym h.0.0)
      ∙ ap (λ m. claimed (spot_eq s t) m (equation_cmds set t d ls r)) (met_same b q e x h.0.1.0 h.0.1.1)
      ∙ ap (λ z. claimed (spot_eq s t) (met c b e) z) (cmds_same ks ls r h.1)
  cmds_same (Claims s b e ∷ ks) (Supposes q x ∷ ls) r h = absurd h
  cmds_same (Supposes b e ∷ ks) (Claims u q x ∷ ls) r h = absurd h
  cmds_same (Supposes b e ∷ ks) (Supposes q x ∷ ls) r h =
      ap (λ m. not m || equation_cmds set t d ls r) (met_same b q e x h.0.0 h.0.1)
      ∙ ap (λ z. not (met c b e) || z) (cmds_same ks ls r h.1)

  edges_same : (later : List Bool) (es gs : List Edge) → FlatEdges tys n ts es gs → all_well set t d later gs ≡ all_well set t c later es
  edges_same later [] [] h = refl
  edges_same later [] (g ∷ gs) h = absurd h
  edges_same later (e ∷ es) [] h = absurd h
  edges_same later (e ∷ es) (g ∷ gs) h =
      ap (λ k. equation_cmds set t d g.cmds (is_well (slice_get later k)) && all_well set t d later gs) (sym h.0.0)
      ∙ ap (λ z. z && all_well set t d later gs) (cmds_same e.cmds g.cmds (is_well (slice_get later e.to)) h.0.1)
      ∙ ap (λ z. equation_cmds set t c e.cmds (is_well (slice_get later e.to)) && z) (edges_same later es gs h.1)

  pub blocks_same : (bs xs : List PassiveBlock) → FlatBlocks tys n ts bs xs → equations set t d xs ≡ equations set t c bs
  blocks_same [] [] h = refl
  blocks_same [] (x ∷ xs) h = absurd h
  blocks_same (b ∷ bs) [] h = absurd h
  blocks_same (b ∷ bs) (x ∷ xs) h =
      ap (λ later. equation_cmds set t d x.cmds (all_well set t d later x.next) ∷ later) (blocks_same bs xs h.1)
      ∙ ap (λ z. equation_cmds set t d x.cmds z ∷ equations set t c bs) (edges_same (equations set t c bs) b.next x.next h.0.1)
      ∙ ap (λ z. z ∷ equations set t c bs) (cmds_same b.cmds x.cmds (all_well set t c (equations set t c bs) b.next) h.0.0)

module _ (set : ℕ → Bool) (t : Spot) (c : Scope) where
  implied : (a b r : Bool) → (not a || (not b || r)) ≡ (not (a && b) || r)
  implied true b r = refl
  implied false b r = refl

  supposed_first : (xs : List Ex) (ks : List PassiveCmd) (r : Bool) → equation_cmds set t c (supposed xs ++ ks) r ≡ (not (all_true c xs) || equation_cmds set t c ks r)
  supposed_first [] ks r = refl
  supposed_first (x ∷ xs) ks r =
      ap (λ z. not (truth_of (ev x c)) || z) (supposed_first xs ks r)
      ∙ implied (truth_of (ev x c)) (all_true c xs) (equation_cmds set t c ks r)

  or_well : (b : Bool) → (not b || true) ≡ true
  or_well true = refl
  or_well false = refl

  -- what is in front is true, or all is well
  pub front_first : (xs : List Ex) (bs : List PassiveBlock) → is_well (slice_get (equations set t c (in_front xs bs)) 0) ≡ (not (all_true c xs) || is_well (slice_get (equations set t c bs) 0))
  front_first xs [] = sym (or_well (all_true c xs))
  front_first xs (b ∷ bs) = supposed_first xs b.cmds (all_well set t c (equations set t c bs) b.next)
