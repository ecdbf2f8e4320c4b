-- Flat blocks behind a front are sorted.
use Rattle.std.proofs.Common.{◌≡◌, ℕ, true, List, [], ◌∷◌, ◌++◌, refl, sym, ap, ◌∙◌}
use Rattle.std.specs.Prelude.{◌&&◌}
use Rattle.bg_ast.specs.Values.{Ty}
use Rattle.bg_ast.specs.Syntax.{Ex}
use Rattle.bg_sense.specs.Typed.{IsLinear}
use Rattle.bg_passive.specs.Passive.{PassiveCmd, Claims, Supposes, Edge, PassiveBlock}
use Rattle.bg_formed.specs.Formed.{fits_candidate}
use Rattle.bg_linear.specs.declared.scalar.Sort.{Sort}
use Rattle.bg_linear.specs.Sorts.{kind_ex, is_truth}
use Rattle.bg_atoms.specs.Sorted.{cmds_sorted, edges_sorted, blocks_sorted}
use Rattle.bg_terms.specs.Terms.{Term}
use Rattle.bg_terms.specs.Flat.{IsFlat}
use Rattle.bg_flat.specs.Blocks.{IsFlatTruth, FlatCmds, FlatEdges, FlatBlocks, supposed, in_front}
use Rattle.bg_flat.specs.Fronts.{AreTruths, EachLinear}
use Rattle.bg_flat_clauses.specs.Sorts.{flat_sorts}
use Rattle.bg_flat_clauses.specs.Linear.{LinearCmds, LinearEdges, LinearBlocks}
use Rattle.bg_flat_clauses.proofs.Sorted.{truth_sorted}

abbrev LinearLaw : Type 0
LinearLaw = (n : ℕ) (ts : List Term) (e x : Ex) → IsLinear e → IsFlat n ts e x → IsLinear x

and_both : {a b : _} → a ≡ true → b ≡ true → (a && b) ≡ true
and_both h k = rw (h, k) refl

module _ (law : LinearLaw) (tys : List Ty) (n : ℕ) (ts : List Term) (m : ℕ) where
  abbrev sorts : List Sort
  sorts = flat_sorts tys

  truth : (e x : Ex) → IsLinear e → IsFlatTruth tys n ts e x → is_truth (kind_ex sorts x) ≡ true
  truth e x l h = truth_sorted tys x h.1 (law n ts e x l h.0)

  cmds : (ks ls : List PassiveCmd) → LinearCmds m ks → FlatCmds tys n ts ks ls → cmds_sorted sorts m ls ≡ true
  cmds [] [] l h = refl
  cmds (Claims s b e ∷ ks) (Claims t d x ∷ ls) l h =
      and_both (ap (fits_candidate m) (sym h.0.1.0) ∙ l.0.0) (and_both (truth e x l.0.1 h.0.1.1) (cmds ks ls l.1 h.1))
  cmds (Supposes b e ∷ ks) (Supposes d x ∷ ls) l h =
      and_both (ap (fits_candidate m) (sym h.0.0) ∙ l.0.0) (and_both (truth e x l.0.1 h.0.1) (cmds ks ls l.1 h.1))
  cmds [] (k ∷ ls) l h = absurd h
  cmds (Claims s b e ∷ ks) [] l h = absurd h
  cmds (Supposes b e ∷ ks) [] l h = absurd h
  cmds (Claims s b e ∷ ks) (Supposes d x ∷ ls) l h = absurd h
  cmds (Supposes b e ∷ ks) (Claims t d x ∷ ls) l h = absurd h

  edges : (es gs : List Edge) → LinearEdges m es → FlatEdges tys n ts es gs → edges_sorted sorts m gs ≡ true
  edges [] [] l h = refl
  edges (e ∷ es) (g ∷ gs) l h = and_both (cmds e.cmds g.cmds l.0 h.0.1) (edges es gs l.1 h.1)
  edges [] (g ∷ gs) l h = absurd h
  edges (e ∷ es) [] l h = absurd h

  blocks : (bs gs : List PassiveBlock) → LinearBlocks m bs → FlatBlocks tys n ts bs gs → blocks_sorted sorts m gs ≡ true
  blocks [] [] l h = refl
  blocks (b ∷ bs) (g ∷ gs) l h =
      and_both (cmds b.cmds g.cmds l.0.0 h.0.0) (and_both (edges b.next g.next l.0.1 h.0.1) (blocks bs gs l.1 h.1))
  blocks [] (g ∷ gs) l h = absurd h
  blocks (b ∷ bs) [] l h = absurd h

  behind : (front : List Ex) (ks : List PassiveCmd) → AreTruths tys front → EachLinear front → cmds_sorted sorts m ks ≡ true → cmds_sorted sorts m (supposed front ++ ks) ≡ true
  behind [] ks h l k = k
  behind (x ∷ xs) ks h l k = and_both refl (and_both (truth_sorted tys x h.0 l.0) (behind xs ks h.1 l.1 k))

  pub all_sorted : (front : List Ex) (bs gs : List PassiveBlock) → AreTruths tys front → EachLinear front → LinearBlocks m bs → FlatBlocks tys n ts bs gs → blocks_sorted sorts m (in_front front gs) ≡ true
  all_sorted front [] [] f e l h = refl
  all_sorted front (b ∷ bs) (g ∷ gs) f e l h =
      and_both (behind front g.cmds f e (cmds b.cmds g.cmds l.0.0 h.0.0)) (and_both (edges b.next g.next l.0.1 h.0.1) (blocks bs gs l.1 h.1))
  all_sorted front [] (g ∷ gs) f e l h = absurd h
  all_sorted front (b ∷ bs) [] f e l h = absurd h
