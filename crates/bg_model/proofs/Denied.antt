-- A block of forms is turned from exactly where its equation denies it.
use Rattle.std.proofs.Common.{◌≡◌, ℕ, zero, suc, Bool, true, false, List, [], ◌∷◌, Some, refl, sym, ap, ◌∙◌}
use Rattle.std.specs.Prelude.{not, ◌&&◌, ◌||◌, if◌then◌else◌, slice_get}
use Rattle.bg_ast.specs.Execution.{Spot}
use Rattle.bg_passive.specs.Passive.{spot_eq, Walked, On, Stopped, Hit}
use Rattle.bg_passive.specs.Equations.{is_well}
use Rattle.bg_formed.specs.Formed.{FormCmd, Asks, Takes, FormEdge, FormBlock}
use Rattle.bg_formed.specs.Wells.{is_met, form_equation, all_form_well, form_equations}
use Rattle.bg_model.specs.declared.turn.Turn.{Turn}
use Rattle.bg_model.specs.declared.turn.Turn.TheVariants.{Leads}
use Rattle.bg_model.specs.Over.{walk_over}
use Rattle.bg_model.specs.Turns.{fails, fails_by, edge_fails, lowest, turn_by, turns}
use Rattle.bg_model.specs.Counterexamples.{is_denied}

-- the commands' equation, by how a walk through them goes
abbrev Told : Walked → Bool → Bool → Type 0
Told On b rest = b ≡ rest
Told Stopped b rest = b ≡ true
Told Hit b rest = b ≡ false

claim_told : (x y : Bool) (w : Walked) (b rest : Bool) → Told w b rest → Told (if x then w else (if y then Hit else Stopped)) (if y then x && b else (not x || b)) rest
claim_told true true w b rest h = h
claim_told true false w b rest h = h
claim_told false true w b rest h = refl
claim_told false false w b rest h = refl

suppose_told : (x : Bool) (w : Walked) (b rest : Bool) → Told w b rest → Told (if x then w else Stopped) (not x || b) rest
suppose_told true w b rest h = h
suppose_told false w b rest h = refl

by_told : (w : Walked) (b rest : Bool) (f : Bool) → Told w b rest → f ≡ not rest → fails_by w f ≡ not b
by_told On b rest f h e = e ∙ ap not (sym h)
by_told Stopped b rest f h e = sym (ap not h)
by_told Hit b rest f h e = sym (ap not h)

or_fails : (x : Bool) (j : ℕ) (behind : Turn) (b rest : Bool) → x ≡ not b → fails (Some behind) ≡ not rest → fails (Some (if x then Leads j else behind)) ≡ not (b && rest)
or_fails true j behind true rest e h = absurd (let bad : ⊥ = cc in bad)
or_fails true j behind false rest e h = refl
or_fails false j behind true rest e h = h
or_fails false j behind false rest e h = absurd (let bad : ⊥ = cc in bad)

turn_told : (w : Walked) (b rest : Bool) (behind : Turn) → Told w b rest → fails (Some behind) ≡ not rest → fails (Some (turn_by w behind)) ≡ not b
turn_told On b rest behind h e = e ∙ ap not (sym h)
turn_told Stopped b rest behind h e = sym (ap not h)
turn_told Hit b rest behind h e = sym (ap not h)

module _ (set : ℕ → Bool) (t : Spot) (w : ℕ → Bool) where
  abbrev over : List FormCmd → Walked
  over ks = walk_over set t w ks

  cmds_told : (ks : List FormCmd) (rest : Bool) → Told (over ks) (form_equation set t w ks rest) rest
  cmds_told [] rest = refl
  cmds_told (Asks s b r ∷ ks) rest =
      claim_told (is_met set w b r) (spot_eq s t) (over ks) (form_equation set t w ks rest) rest (cmds_told ks rest)
  cmds_told (Takes b r ∷ ks) rest =
      suppose_told (is_met set w b r) (over ks) (form_equation set t w ks rest) rest (cmds_told ks rest)

  module _ (later : List Turn) (wells : List Bool) (same : (k : ℕ) → fails (slice_get later k) ≡ not (is_well (slice_get wells k))) where
    edge_same : (e : FormEdge) → edge_fails over later e ≡ not (form_equation set t w e.cmds (is_well (slice_get wells e.to)))
    edge_same e =
        by_told (over e.cmds) (form_equation set t w e.cmds (is_well (slice_get wells e.to))) (is_well (slice_get wells e.to)) (fails (slice_get later e.to)) (cmds_told e.cmds (is_well (slice_get wells e.to))) (same e.to)

    lowest_same : (j : ℕ) (es : List FormEdge) → fails (Some (lowest over later j es)) ≡ not (all_form_well set t w wells es)
    lowest_same j [] = refl
    lowest_same j (e ∷ es) =
        or_fails (edge_fails over later e) j (lowest over later (suc j) es) (form_equation set t w e.cmds (is_well (slice_get wells e.to))) (all_form_well set t w wells es) (edge_same e) (lowest_same (suc j) es)

  -- a block fails exactly where its equation denies it
  turns_same : (bs : List FormBlock) (k : ℕ) → fails (slice_get (turns over bs) k) ≡ not (is_well (slice_get (form_equations set t w bs) k))
  turns_same [] k = refl
  turns_same (b ∷ bs) zero =
      let later = turns over bs in
      let wells = form_equations set t w bs in
      turn_told (over b.cmds) (form_equation set t w b.cmds (all_form_well set t w wells b.next)) (all_form_well set t w wells b.next) (lowest over later 0 b.next) (cmds_told b.cmds (all_form_well set t w wells b.next)) (lowest_same later wells (turns_same bs) 0 b.next)
  turns_same (b ∷ bs) (suc k) = turns_same bs k

  -- the equations deny the entry block exactly where it has a turn
  pub denied_is : (bs : List FormBlock) → is_denied set t w bs ≡ fails (slice_get (turns (walk_over set t w) bs) 0)
  denied_is bs = sym (turns_same bs 0)
