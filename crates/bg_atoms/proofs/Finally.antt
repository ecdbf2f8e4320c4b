-- What is known of blocks whose commands say truths.
use Rattle.std.proofs.Common.{◌≡◌, ◌+◌, ℕ, Bool, true, List, [], ◌∷◌, length, map, ℤ, refl, sym, ap, ◌∙◌, subst}
use Rattle.std.specs.Prelude.{◌&&◌, nat_lt, Option, Some, None, Ok, Err}
use Rattle.bg_ast.specs.Syntax.{Ex}
use Rattle.bg_sense.specs.Eval.{Scope}
use Rattle.bg_passive.specs.Passive.{PassiveCmd, Claims, Supposes, Edge, PassiveBlock}
use Rattle.bg_formula.specs.declared.atom.Linear.{Linear}
use Rattle.bg_formula.specs.Atoms.{AtomOf, view_linear}
use Rattle.bg_formula.specs.Meaning.{AtomsAgree}
use Rattle.bg_formed.specs.Agree.{AreRows, RowsAgree}
use Rattle.bg_formed.specs.Formed.{Says, FormCmd, Asks, Takes, FormEdge, FormBlock, form_below, said, fits_candidate, cmds_below, edges_below, blocks_below}
use Rattle.bg_formed.specs.Said.{IsSaid, SaidCmds, SaidEdges, SaidBlocks}
use Rattle.bg_formed.proofs.Below.{and_left, and_right, and_both}
use Rattle.bg_linear.specs.declared.scalar.Sort.{Sort}
use Rattle.bg_linear.specs.Sorts.{kind_ex, is_truth, HoldScalars}
use Rattle.bg_atoms.specs.Ranks.{rank}
use Rattle.bg_atoms.specs.Encoded.{cmd_over, edge_over, blocks_over}
use Rattle.bg_atoms.specs.Worlds.{Begins}
use Rattle.bg_atoms.specs.Sorted.{cmds_sorted, edges_sorted, blocks_sorted}
use Rattle.bg_atoms.specs.Told.{IsWorth, CmdsTold, EdgesTold, BlocksTold}
use Rattle.bg_atoms.proofs.Lists.{begins_itself}

pub are_rows : (rows : List Linear) → AreRows (map view_linear rows)
are_rows [] = tt
are_rows (a ∷ rows) = are_rows rows

pub rows_agree : (rows : List Linear) → AtomsAgree (map view_linear rows)
rows_agree [] = tt
rows_agree (a ∷ rows) = (a.denies, rows_agree rows)

-- the same candidate, and a form that is worth what the expression is
said_by : (truth : ℕ → Bool) (c : Scope) (b : Option ℕ) (e : Ex) (d : Option ℕ) (r : Says) → b ≡ d → IsWorth truth c e r → IsSaid truth c b e d r
said_by truth c b e d (Ok f) same h = (same, h)
said_by truth c b e None (Err x) same h = tt
said_by truth c b e (Some d) (Err x) same h = same

-- what a command says, where it says a truth
module _ (sorts : List Sort) (m n : ℕ) (rows : List AtomOf) where
  said_on : (numbers : ℕ → ℤ) (truth : ℕ → Bool) (c : Scope) → RowsAgree numbers truth n rows → AtomsAgree rows → HoldScalars sorts numbers (λ j. truth (rank sorts j)) c.frame → (ks : List PassiveCmd) (ls : List FormCmd) → cmds_sorted sorts m ks ≡ true → CmdsTold sorts n rows ks ls → SaidCmds truth c ks ls
  said_on z w c a d held [] [] h t = tt
  said_on z w c a d held [] (l ∷ ls) h t = absurd t
  said_on z w c a d held (k ∷ ks) [] h t = absurd t
  said_on z w c a d held (Claims s b e ∷ ks) (Asks p q r ∷ ls) h t =
      let more = and_right (fits_candidate m b) (is_truth (kind_ex sorts e) && cmds_sorted sorts m ks) h in
      let tells = t.0.1.1 (and_left (is_truth (kind_ex sorts e)) (cmds_sorted sorts m ks) more) in
      ((t.0.0, said_by w c b e q r t.0.1.0 (tells.same z w c a d held)), said_on z w c a d held ks ls (and_right (is_truth (kind_ex sorts e)) (cmds_sorted sorts m ks) more) t.1)
  said_on z w c a d held (Supposes b e ∷ ks) (Takes q r ∷ ls) h t =
      let more = and_right (fits_candidate m b) (is_truth (kind_ex sorts e) && cmds_sorted sorts m ks) h in
      let tells = t.0.1 (and_left (is_truth (kind_ex sorts e)) (cmds_sorted sorts m ks) more) in
      (said_by w c b e q r t.0.0 (tells.same z w c a d held), said_on z w c a d held ks ls (and_right (is_truth (kind_ex sorts e)) (cmds_sorted sorts m ks) more) t.1)
  said_on z w c a d held (Claims s b e ∷ ks) (Takes q r ∷ ls) h t = absurd t.0
  said_on z w c a d held (Supposes b e ∷ ks) (Asks p q r ∷ ls) h t = absurd t.0

  edges_said : (numbers : ℕ → ℤ) (truth : ℕ → Bool) (c : Scope) → RowsAgree numbers truth n rows → AtomsAgree rows → HoldScalars sorts numbers (λ j. truth (rank sorts j)) c.frame → (es : List Edge) (fs : List FormEdge) → edges_sorted sorts m es ≡ true → EdgesTold sorts n rows es fs → SaidEdges truth c es fs
  edges_said z w c a d held [] [] h t = tt
  edges_said z w c a d held [] (f ∷ fs) h t = absurd t
  edges_said z w c a d held (e ∷ es) [] h t = absurd t
  edges_said z w c a d held (e ∷ es) (f ∷ fs) h t =
      ((t.0.0, said_on z w c a d held e.cmds f.cmds (and_left (cmds_sorted sorts m e.cmds) (edges_sorted sorts m es) h) t.0.1), edges_said z w c a d held es fs (and_right (cmds_sorted sorts m e.cmds) (edges_sorted sorts m es) h) t.1)

  pub blocks_said : (numbers : ℕ → ℤ) (truth : ℕ → Bool) (c : Scope) → RowsAgree numbers truth n rows → AtomsAgree rows → HoldScalars sorts numbers (λ j. truth (rank sorts j)) c.frame → (bs : List PassiveBlock) (fs : List FormBlock) → blocks_sorted sorts m bs ≡ true → BlocksTold sorts n rows bs fs → SaidBlocks truth c bs fs
  blocks_said z w c a d held [] [] h t = tt
  blocks_said z w c a d held [] (f ∷ fs) h t = absurd t
  blocks_said z w c a d held (b ∷ bs) [] h t = absurd t
  blocks_said z w c a d held (b ∷ bs) (f ∷ fs) h t =
      let more = and_right (cmds_sorted sorts m b.cmds) (edges_sorted sorts m b.next && blocks_sorted sorts m bs) h in
      ((said_on z w c a d held b.cmds f.cmds (and_left (cmds_sorted sorts m b.cmds) (edges_sorted sorts m b.next && blocks_sorted sorts m bs) h) t.0.0, edges_said z w c a d held b.next f.next (and_left (edges_sorted sorts m b.next) (blocks_sorted sorts m bs) more) t.0.1), blocks_said z w c a d held bs fs (and_right (edges_sorted sorts m b.next) (blocks_sorted sorts m bs) more) t.1)

  abbrev many : ℕ
  many = n + length rows

  cmds_under : (ks : List PassiveCmd) (ls : List FormCmd) → cmds_sorted sorts m ks ≡ true → CmdsTold sorts n rows ks ls → cmds_below many (λ j. nat_lt j m) ls ≡ true
  cmds_under [] [] h t = refl
  cmds_under [] (l ∷ ls) h t = absurd t
  cmds_under (k ∷ ks) [] h t = absurd t
  cmds_under (Claims s b e ∷ ks) (Asks p q r ∷ ls) h t =
      let more = and_right (fits_candidate m b) (is_truth (kind_ex sorts e) && cmds_sorted sorts m ks) h in
      let tells = t.0.1.1 (and_left (is_truth (kind_ex sorts e)) (cmds_sorted sorts m ks) more) in
      and_both (fits_candidate m q) _ (ap (fits_candidate m) (sym t.0.1.0) ∙ and_left (fits_candidate m b) (is_truth (kind_ex sorts e) && cmds_sorted sorts m ks) h) (and_both (form_below many (said r)) _ tells.below (cmds_under ks ls (and_right (is_truth (kind_ex sorts e)) (cmds_sorted sorts m ks) more) t.1))
  cmds_under (Supposes b e ∷ ks) (Takes q r ∷ ls) h t =
      let more = and_right (fits_candidate m b) (is_truth (kind_ex sorts e) && cmds_sorted sorts m ks) h in
      let tells = t.0.1 (and_left (is_truth (kind_ex sorts e)) (cmds_sorted sorts m ks) more) in
      and_both (fits_candidate m q) _ (ap (fits_candidate m) (sym t.0.0) ∙ and_left (fits_candidate m b) (is_truth (kind_ex sorts e) && cmds_sorted sorts m ks) h) (and_both (form_below many (said r)) _ tells.below (cmds_under ks ls (and_right (is_truth (kind_ex sorts e)) (cmds_sorted sorts m ks) more) t.1))
  cmds_under (Claims s b e ∷ ks) (Takes q r ∷ ls) h t = absurd t.0
  cmds_under (Supposes b e ∷ ks) (Asks p q r ∷ ls) h t = absurd t.0

  edges_under : (es : List Edge) (fs : List FormEdge) → edges_sorted sorts m es ≡ true → EdgesTold sorts n rows es fs → edges_below many (λ j. nat_lt j m) fs ≡ true
  edges_under [] [] h t = refl
  edges_under [] (f ∷ fs) h t = absurd t
  edges_under (e ∷ es) [] h t = absurd t
  edges_under (e ∷ es) (f ∷ fs) h t =
      and_both (cmds_below many (λ j. nat_lt j m) f.cmds) _ (cmds_under e.cmds f.cmds (and_left (cmds_sorted sorts m e.cmds) (edges_sorted sorts m es) h) t.0.1) (edges_under es fs (and_right (cmds_sorted sorts m e.cmds) (edges_sorted sorts m es) h) t.1)

  pub blocks_under : (bs : List PassiveBlock) (fs : List FormBlock) → blocks_sorted sorts m bs ≡ true → BlocksTold sorts n rows bs fs → blocks_below many (λ j. nat_lt j m) fs ≡ true
  blocks_under [] [] h t = refl
  blocks_under [] (f ∷ fs) h t = absurd t
  blocks_under (b ∷ bs) [] h t = absurd t
  blocks_under (b ∷ bs) (f ∷ fs) h t =
      let more = and_right (cmds_sorted sorts m b.cmds) (edges_sorted sorts m b.next && blocks_sorted sorts m bs) h in
      and_both (cmds_below many (λ j. nat_lt j m) f.cmds) _ (cmds_under b.cmds f.cmds (and_left (cmds_sorted sorts m b.cmds) (edges_sorted sorts m b.next && blocks_sorted sorts m bs) h) t.0.0) (and_both (edges_below many (λ j. nat_lt j m) f.next) _ (edges_under b.next f.next (and_left (edges_sorted sorts m b.next) (blocks_sorted sorts m bs) more) t.0.1) (blocks_under bs fs (and_right (edges_sorted sorts m b.next) (blocks_sorted sorts m bs) more) t.1))

  cmds_exact : (ks : List PassiveCmd) (ls : List FormCmd) → cmds_sorted sorts m ks ≡ true → CmdsTold sorts n rows ks ls → ls ≡ map (cmd_over sorts n rows) ks
  cmds_exact [] [] h t = refl
  cmds_exact [] (l ∷ ls) h t = absurd t
  cmds_exact (k ∷ ks) [] h t = absurd t
  cmds_exact (Claims s b e ∷ ks) (Asks p q r ∷ ls) h t =
      let more = and_right (fits_candidate m b) (is_truth (kind_ex sorts e) && cmds_sorted sorts m ks) h in
      let tells = t.0.1.1 (and_left (is_truth (kind_ex sorts e)) (cmds_sorted sorts m ks) more) in
      let place : p ≡ s = sym t.0.0 in
      let candidate : q ≡ b = sym t.0.1.0 in
      let rest = cmds_exact ks ls (and_right (is_truth (kind_ex sorts e)) (cmds_sorted sorts m ks) more) t.1 in
      let said_so = tells.exact in
      λ i. Asks (place i) (candidate i) (said_so i) ∷ rest i
  cmds_exact (Supposes b e ∷ ks) (Takes q r ∷ ls) h t =
      let more = and_right (fits_candidate m b) (is_truth (kind_ex sorts e) && cmds_sorted sorts m ks) h in
      let tells = t.0.1 (and_left (is_truth (kind_ex sorts e)) (cmds_sorted sorts m ks) more) in
      let candidate : q ≡ b = sym t.0.0 in
      let rest = cmds_exact ks ls (and_right (is_truth (kind_ex sorts e)) (cmds_sorted sorts m ks) more) t.1 in
      let said_so = tells.exact in
      λ i. Takes (candidate i) (said_so i) ∷ rest i
  cmds_exact (Claims s b e ∷ ks) (Takes q r ∷ ls) h t = absurd t.0
  cmds_exact (Supposes b e ∷ ks) (Asks p q r ∷ ls) h t = absurd t.0

  edges_exact : (es : List Edge) (fs : List FormEdge) → edges_sorted sorts m es ≡ true → EdgesTold sorts n rows es fs → fs ≡ map (edge_over sorts n rows) es
  edges_exact [] [] h t = refl
  edges_exact [] (f ∷ fs) h t = absurd t
  edges_exact (e ∷ es) [] h t = absurd t
  edges_exact (e ∷ es) (f ∷ fs) h t =
      let cmds = cmds_exact e.cmds f.cmds (and_left (cmds_sorted sorts m e.cmds) (edges_sorted sorts m es) h) t.0.1 in
      let target : f.to ≡ e.to = sym t.0.0 in
      let rest = edges_exact es fs (and_right (cmds_sorted sorts m e.cmds) (edges_sorted sorts m es) h) t.1 in
      λ i. record { cmds = cmds i; to = target i } ∷ rest i

  pub blocks_exact : (bs : List PassiveBlock) (fs : List FormBlock) → blocks_sorted sorts m bs ≡ true → BlocksTold sorts n rows bs fs → fs ≡ blocks_over sorts n rows bs
  blocks_exact [] [] h t = refl
  blocks_exact [] (f ∷ fs) h t = absurd t
  blocks_exact (b ∷ bs) [] h t = absurd t
  blocks_exact (b ∷ bs) (f ∷ fs) h t =
      let more = and_right (cmds_sorted sorts m b.cmds) (edges_sorted sorts m b.next && blocks_sorted sorts m bs) h in
      let cmds = cmds_exact b.cmds f.cmds (and_left (cmds_sorted sorts m b.cmds) (edges_sorted sorts m b.next && blocks_sorted sorts m bs) h) t.0.0 in
      let next = edges_exact b.next f.next (and_left (edges_sorted sorts m b.next) (blocks_sorted sorts m bs) more) t.0.1 in
      let rest = blocks_exact bs fs (and_right (edges_sorted sorts m b.next) (blocks_sorted sorts m bs) more) t.1 in
      λ i. record { cmds = cmds i; next = next i } ∷ rest i

-- what is told of blocks, where the rows and what they are from are named otherwise
pub told_now : (sorts sorts' : List Sort) (n n' : ℕ) (rows rows' : List Linear) (bs : List PassiveBlock) (fs : List FormBlock) → sorts ≡ sorts' → n ≡ n' → rows' ≡ rows → ((all : List AtomOf) → Begins (map view_linear rows) all → BlocksTold sorts n all bs fs) → BlocksTold sorts' n' (map view_linear rows') bs fs
told_now sorts sorts' n n' rows rows' bs fs h k is told =
    subst (λ l. BlocksTold l n' (map view_linear rows') bs fs) h (subst (λ b. BlocksTold sorts b (map view_linear rows') bs fs) k (told (map view_linear rows') (subst (λ l. Begins (map view_linear rows) (map view_linear l)) (sym is) (begins_itself (map view_linear rows)))))
