-- Blocks whose commands are made flat one after the other are flat.
use Rattle.std.proofs.Common.{◌≡◌, ℕ, true, List, [], ◌∷◌, length, refl}
use Rattle.bg_ast.specs.Values.{Ty}
use Rattle.bg_ast.specs.Syntax.{Ex, Fun}
use Rattle.bg_passive.specs.Passive.{PassiveCmd, Claims, Supposes, Edge, PassiveBlock}
use Rattle.bg_terms.specs.Terms.{Term}
use Rattle.bg_terms.specs.Flat.{IsFlat}
use Rattle.bg_numbered.specs.Fair.{Fair, FairTerms, Grows}
use Rattle.bg_numbered.specs.Lines.{HaveIndices}
use Rattle.bg_numbered.specs.Indexed.{are_indexed, GiveIndexed}
use Rattle.bg_numbered.specs.Numbered.{behind, numbered}
use Rattle.bg_numbered.proofs.Growing.{stays, grows_on}
use Rattle.bg_flatten.specs.Makes.{Each, Pairwise, FineCmd, FineCmds, FineEdge, FineEdges, FineBlock, FineBlocks, FlatCmd, CmdsFlat, FlatEdge, EdgesFlat, FlatBlock}
use Rattle.bg_flatten.specs.Flattens.{AreFlattened}
use Rattle.bg_flatten.specs.Numbered.{list_behind, list_numbered, cmd_behind, cmd_numbered, cmds_behind, cmds_numbered, edge_behind, edge_numbered, block_behind, block_numbered, terms_of, flat_of}
use Rattle.bg_flatten.proofs.Forms.{fair_of, cmd_keeps, edge_keeps, block_keeps}
use Rattle.bg_flatten.proofs.Lists.{all_keep}
use Rattle.bg_flatten.proofs.Joined.{all_blocks, no_terms}

-- ---- lists

module _ (A : Type 0) (Is : List Term → A → A → Type 0) (Fine : A → Type 0) (Good : List Term → Type 0) (f : A → List Term → List Term) (g : A → List Term → A) (keeps : (old new : List Term) (e x : A) → Grows old new → Is old e x → Is new e x) (grows : (e : A) (ts : List Term) → Grows ts (f e ts)) (flat : (e : A) (ts : List Term) → Fine e → Is (f e ts) e (g e ts)) (good : (e : A) (ts : List Term) → Fine e → Good ts → Good (f e ts)) where
  list_grows : (es : List A) (ts : List Term) → Grows ts (list_behind f es ts)
  list_grows [] ts = stays ts
  list_grows (e ∷ es) ts = grows_on ts (f e ts) (list_behind f es (f e ts)) (grows e ts) (list_grows es (f e ts))

  list_flat : (es : List A) (ts : List Term) → Each Fine es → Pairwise (Is (list_behind f es ts)) es (list_numbered f g es ts)
  list_flat [] ts h = tt
  list_flat (e ∷ es) ts h =
      (keeps (f e ts) (list_behind f es (f e ts)) e (g e ts) (list_grows es (f e ts)) (flat e ts h.0), list_flat es (f e ts) h.1)

  list_good : (es : List A) (ts : List Term) → Each Fine es → Good ts → Good (list_behind f es ts)
  list_good [] ts h k = k
  list_good (e ∷ es) ts h k = list_good es (f e ts) h.1 (good e ts h.0 k)

-- ---- commands, edges, blocks

abbrev GrowsLaw : Type 0
GrowsLaw = (fs : List Fun) (incs : List Ty) (ts : List Term) (e : Ex) → Grows ts (behind fs incs e ts)

abbrev FlatLaw : Type 0
FlatLaw =
    (fs : List Fun) (incs : List Ty) (ts : List Term) (e : Ex) → Fair fs incs e → IsFlat (length incs) (behind fs incs e ts) e (numbered fs incs e ts)

abbrev FairLaw : Type 0
FairLaw =
    (fs : List Fun) (incs : List Ty) (ts : List Term) (e : Ex) → Fair fs incs e → FairTerms fs incs ts → FairTerms fs incs (behind fs incs e ts)

abbrev IndexedLaw : Type 0
IndexedLaw =
    (fs : List Fun) (incs : List Ty) (ts : List Term) (e : Ex) → GiveIndexed fs → are_indexed incs ≡ true → Fair fs incs e → FairTerms fs incs ts → HaveIndices ts → HaveIndices (behind fs incs e ts)

module _ (grows : GrowsLaw) (flat : FlatLaw) (fair : FairLaw) (indexed : IndexedLaw) (fs : List Fun) (incs : List Ty) (gives : GiveIndexed fs) (all : are_indexed incs ≡ true) where
  abbrev n : ℕ
  n = length incs

  abbrev Good : List Term → Type 0
  Good ts = FairTerms fs incs ts × HaveIndices ts

  cmd_grows : (k : PassiveCmd) (ts : List Term) → Grows ts (cmd_behind fs incs k ts)
  cmd_grows (Claims s b e) ts = grows fs incs ts e
  cmd_grows (Supposes b e) ts = grows fs incs ts e

  cmd_flat : (k : PassiveCmd) (ts : List Term) → FineCmd fs incs k → FlatCmd n (cmd_behind fs incs k ts) k (cmd_numbered fs incs k ts)
  cmd_flat (Claims s b e) ts h = (refl, (refl, flat fs incs ts e (fair_of fs incs e h)))
  cmd_flat (Supposes b e) ts h = (refl, flat fs incs ts e (fair_of fs incs e h))

  cmd_good : (k : PassiveCmd) (ts : List Term) → FineCmd fs incs k → Good ts → Good (cmd_behind fs incs k ts)
  cmd_good (Claims s b e) ts h g = (fair fs incs ts e (fair_of fs incs e h) g.0, indexed fs incs ts e gives all (fair_of fs incs e h) g.0 g.1)
  cmd_good (Supposes b e) ts h g = (fair fs incs ts e (fair_of fs incs e h) g.0, indexed fs incs ts e gives all (fair_of fs incs e h) g.0 g.1)

  cmds_grow : (ks : List PassiveCmd) (ts : List Term) → Grows ts (cmds_behind fs incs ks ts)
  cmds_grow =
      list_grows PassiveCmd (FlatCmd n) (FineCmd fs incs) Good (cmd_behind fs incs) (cmd_numbered fs incs) (cmd_keeps n) cmd_grows cmd_flat cmd_good

  cmds_flat : (ks : List PassiveCmd) (ts : List Term) → FineCmds fs incs ks → CmdsFlat n (cmds_behind fs incs ks ts) ks (cmds_numbered fs incs ks ts)
  cmds_flat =
      list_flat PassiveCmd (FlatCmd n) (FineCmd fs incs) Good (cmd_behind fs incs) (cmd_numbered fs incs) (cmd_keeps n) cmd_grows cmd_flat cmd_good

  cmds_good : (ks : List PassiveCmd) (ts : List Term) → FineCmds fs incs ks → Good ts → Good (cmds_behind fs incs ks ts)
  cmds_good =
      list_good PassiveCmd (FlatCmd n) (FineCmd fs incs) Good (cmd_behind fs incs) (cmd_numbered fs incs) (cmd_keeps n) cmd_grows cmd_flat cmd_good

  edge_grows : (e : Edge) (ts : List Term) → Grows ts (edge_behind fs incs e ts)
  edge_grows e ts = cmds_grow e.cmds ts

  edge_flat : (e : Edge) (ts : List Term) → FineEdge fs incs e → FlatEdge n (edge_behind fs incs e ts) e (edge_numbered fs incs e ts)
  edge_flat e ts h = (refl, cmds_flat e.cmds ts h)

  edge_good : (e : Edge) (ts : List Term) → FineEdge fs incs e → Good ts → Good (edge_behind fs incs e ts)
  edge_good e ts h g = cmds_good e.cmds ts h g

  edges_grow : (es : List Edge) (ts : List Term) → Grows ts (list_behind (edge_behind fs incs) es ts)
  edges_grow =
      list_grows Edge (FlatEdge n) (FineEdge fs incs) Good (edge_behind fs incs) (edge_numbered fs incs) (edge_keeps n) edge_grows edge_flat edge_good

  edges_flat : (es : List Edge) (ts : List Term) → FineEdges fs incs es → EdgesFlat n (list_behind (edge_behind fs incs) es ts) es (list_numbered (edge_behind fs incs) (edge_numbered fs incs) es ts)
  edges_flat =
      list_flat Edge (FlatEdge n) (FineEdge fs incs) Good (edge_behind fs incs) (edge_numbered fs incs) (edge_keeps n) edge_grows edge_flat edge_good

  edges_good : (es : List Edge) (ts : List Term) → FineEdges fs incs es → Good ts → Good (list_behind (edge_behind fs incs) es ts)
  edges_good =
      list_good Edge (FlatEdge n) (FineEdge fs incs) Good (edge_behind fs incs) (edge_numbered fs incs) (edge_keeps n) edge_grows edge_flat edge_good

  block_grows : (b : PassiveBlock) (ts : List Term) → Grows ts (block_behind fs incs b ts)
  block_grows b ts =
      grows_on ts (cmds_behind fs incs b.cmds ts) (block_behind fs incs b ts) (cmds_grow b.cmds ts) (edges_grow b.next (cmds_behind fs incs b.cmds ts))

  block_flat : (b : PassiveBlock) (ts : List Term) → FineBlock fs incs b → FlatBlock n (block_behind fs incs b ts) b (block_numbered fs incs b ts)
  block_flat b ts h =
      let mid = cmds_behind fs incs b.cmds ts in
      (all_keep PassiveCmd (FlatCmd n) (λ i k. Unit {0}) (cmd_keeps n) mid (block_behind fs incs b ts) b.cmds (cmds_numbered fs incs b.cmds ts) (edges_grow b.next mid) (cmds_flat b.cmds ts h.0), edges_flat b.next mid h.1)

  block_good : (b : PassiveBlock) (ts : List Term) → FineBlock fs incs b → Good ts → Good (block_behind fs incs b ts)
  block_good b ts h g = edges_good b.next (cmds_behind fs incs b.cmds ts) h.1 (cmds_good b.cmds ts h.0 g)

  pub are_flattened : (bs : List PassiveBlock) → FineBlocks fs incs bs → AreFlattened fs incs bs (terms_of fs incs bs) (flat_of fs incs bs)
  are_flattened bs h =
      let made = list_flat PassiveBlock (FlatBlock n) (FineBlock fs incs) Good (block_behind fs incs) (block_numbered fs incs) (block_keeps n) block_grows block_flat block_good bs [] h in
      let good = list_good PassiveBlock (FlatBlock n) (FineBlock fs incs) Good (block_behind fs incs) (block_numbered fs incs) (block_keeps n) block_grows block_flat block_good bs [] h (no_terms fs incs, λ a u e. absurd (let bad : ⊥ = cc in bad)) in
      record {
        terms = good.0;
        indexed = good.1;
        blocks = all_blocks fs incs (terms_of fs incs bs) good.0 bs (flat_of fs incs bs) h made;
      }
