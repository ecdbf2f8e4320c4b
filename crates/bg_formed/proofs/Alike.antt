-- What counts for a target is well by its forms where it is by its expressions.
use Rattle.std.proofs.Common.{◌≡◌, ℕ, zero, suc, Bool, true, false, List, [], ◌∷◌, Option, Some, None, Ok, Err, refl, sym, ◌∙◌}
use Rattle.std.specs.Prelude.{not, ◌&&◌, ◌||◌, if◌then◌else◌, slice_get}
use Rattle.bg_base.specs.declared.exact.OutOfRange.{OutOfRange}
use Rattle.bg_ast.specs.Values.{truth_of}
use Rattle.bg_ast.specs.Syntax.{Ex}
use Rattle.bg_ast.specs.Execution.{Spot}
use Rattle.bg_sense.specs.Eval.{Scope, ev}
use Rattle.bg_passive.specs.Passive.{PassiveCmd, Claims, Supposes, Edge, PassiveBlock, spot_eq, is_absent}
use Rattle.bg_passive.specs.Equations.{equation_cmds, is_well, all_well, equations}
use Rattle.bg_formed.specs.Formed.{Says, FormCmd, Asks, Takes, FormEdge, FormBlock}
use Rattle.bg_formed.specs.Wells.{is_met, form_equation, all_form_well, form_equations}
use Rattle.bg_formed.specs.Said.{IsSaid, SaidCmds, SaidEdges, SaidBlocks}
use Rattle.bg_formed.specs.Used.{Use, unused, refusal_of, first_of, in_front, use_cmds, use_either, use_later, use_edges, uses, refused}

-- what is not reached is well, and holds no refusal; without a refusal both are the same
record Fine (u : Use) (x y : Bool) : Type 0 where
  away : u.reached ≡ false → (u.refusal ≡ None) × ((x ≡ true) × (y ≡ true))
  same : u.refusal ≡ None → x ≡ y

none_first : (o p : Option OutOfRange) → first_of o p ≡ None → (o ≡ None) × (p ≡ None)
none_first None p e = (refl, e)
none_first (Some x) p e = absurd (let bad : ⊥ = cc in bad)

or_true : (a : Bool) → (a || true) ≡ true
or_true true = refl
or_true false = refl

or_none : (a b : Bool) → (a || b) ≡ false → (a ≡ false) × (b ≡ false)
or_none true b e = absurd (let bad : ⊥ = cc in bad)
or_none false b e = (refl, e)

module _ (set w : ℕ → Bool) (t : Spot) (c : Scope) where
  met_same : (b d : Option ℕ) (e : Ex) (r : Says) → IsSaid w c b e d r → refusal_of r ≡ None → is_met set w d r ≡ (is_absent set b || truth_of (ev e c))
  met_same b d e (Ok f) h q = rw (sym h.0, h.1) refl
  met_same b d e (Err x) h q = absurd (let bad : ⊥ = cc in bad)

  front_fine : (u : Use) (b d : Option ℕ) (e : Ex) (r : Says) (x y : Bool) → IsSaid w c b e d r → Fine u x y → Fine (in_front r u) (not (is_met set w d r) || x) (not (is_absent set b || truth_of (ev e c)) || y)
  front_fine u b d e r x y h f = on u.reached refl
    where
      on : (z : Bool) → u.reached ≡ z → Fine (if z then record { reached = true; refusal = first_of (refusal_of r) u.refusal } else u) (not (is_met set w d r) || x) (not (is_absent set b || truth_of (ev e c)) || y)
      on true q =
          record {
            away = λ k. absurd (let bad : ⊥ = cc in bad);
            same =
                λ k.
                let n = none_first (refusal_of r) u.refusal k in
                rw (met_same b d e r h n.0, f.same n.1) refl;
          }
      on false q =
          let a = f.away q in
          let left : (not (is_met set w d r) || x) ≡ true = rw a.1.0 (or_true (not (is_met set w d r))) in
          let right : (not (is_absent set b || truth_of (ev e c)) || y) ≡ true = rw a.1.1 (or_true (not (is_absent set b || truth_of (ev e c)))) in
          record { away = λ k. (a.0, (left, right)); same = λ k. left ∙ sym right }

  cmds_fine : (u : Use) (ks : List PassiveCmd) (ls : List FormCmd) (x y : Bool) → SaidCmds w c ks ls → Fine u x y → Fine (use_cmds t ls u) (form_equation set t w ls x) (equation_cmds set t c ks y)
  cmds_fine u [] [] x y h f = f
  cmds_fine u [] (l ∷ ls) x y h f = absurd h
  cmds_fine u (Claims s b e ∷ ks) [] x y h f = absurd h
  cmds_fine u (Supposes b e ∷ ks) [] x y h f = absurd h
  cmds_fine u (Supposes b e ∷ ks) (Asks s d r ∷ ls) x y h f = absurd h
  cmds_fine u (Claims s b e ∷ ks) (Takes d r ∷ ls) x y h f = absurd h
  cmds_fine u (Claims s b e ∷ ks) (Asks s2 d r ∷ ls) x y h f =
      rw (h.0.0) (on (spot_eq s2 t) (cmds_fine u ks ls x y h.1 f))
    where
      v : Use
      v = use_cmds t ls u

      on : (z : Bool) → Fine v (form_equation set t w ls x) (equation_cmds set t c ks y) → Fine (if z then record { reached = true; refusal = first_of (refusal_of r) v.refusal } else in_front r v) (if z then is_met set w d r && form_equation set t w ls x else not (is_met set w d r) || form_equation set t w ls x) (if z then (is_absent set b || truth_of (ev e c)) && equation_cmds set t c ks y else not (is_absent set b || truth_of (ev e c)) || equation_cmds set t c ks y)
      on true g =
          record {
            away = λ k. absurd (let bad : ⊥ = cc in bad);
            same =
                λ k.
                let n = none_first (refusal_of r) v.refusal k in
                rw (met_same b d e r h.0.1 n.0, g.same n.1) refl;
          }
      on false g = front_fine v b d e r (form_equation set t w ls x) (equation_cmds set t c ks y) h.0.1 g
  cmds_fine u (Supposes b e ∷ ks) (Takes d r ∷ ls) x y h f =
      front_fine (use_cmds t ls u) b d e r (form_equation set t w ls x) (equation_cmds set t c ks y) h.0 (cmds_fine u ks ls x y h.1 f)

  abbrev AllFine : List Use → List Bool → List Bool → Type 0
  AllFine [] [] [] = Unit {0}
  AllFine (u ∷ us) (x ∷ xs) (y ∷ ys) = Fine u x y × AllFine us xs ys
  AllFine _ _ _ = ⊥

  unused_fine : Fine unused true true
  unused_fine = record { away = λ k. (refl, (refl, refl)); same = λ k. refl }

  later_fine : (us : List Use) (xs ys : List Bool) (k : ℕ) → AllFine us xs ys → Fine (use_later us k) (is_well (slice_get xs k)) (is_well (slice_get ys k))
  later_fine [] [] [] k h = unused_fine
  later_fine [] [] (y ∷ ys) k h = absurd h
  later_fine [] (x ∷ xs) ys k h = absurd h
  later_fine (u ∷ us) [] ys k h = absurd h
  later_fine (u ∷ us) (x ∷ xs) [] k h = absurd h
  later_fine (u ∷ us) (x ∷ xs) (y ∷ ys) zero h = h.0
  later_fine (u ∷ us) (x ∷ xs) (y ∷ ys) (suc k) h = later_fine us xs ys k h.1

  either_fine : (u v : Use) (x y a b : Bool) → Fine u x y → Fine v a b → Fine (use_either u v) (x && a) (y && b)
  either_fine u v x y a b f g =
      record {
        away =
            λ k.
            let n = or_none u.reached v.reached k in
            let p = f.away n.0 in
            let q = g.away n.1 in
            (rw (p.0, q.0) refl, (rw (p.1.0, q.1.0) refl, rw (p.1.1, q.1.1) refl));
        same = λ k. let n = none_first u.refusal v.refusal k in rw (f.same n.0, g.same n.1) refl;
      }

  edges_fine : (us : List Use) (xs ys : List Bool) (es : List Edge) (fs : List FormEdge) → AllFine us xs ys → SaidEdges w c es fs → Fine (use_edges t us fs) (all_form_well set t w xs fs) (all_well set t c ys es)
  edges_fine us xs ys [] [] a h = unused_fine
  edges_fine us xs ys [] (f ∷ fs) a h = absurd h
  edges_fine us xs ys (e ∷ es) [] a h = absurd h
  edges_fine us xs ys (e ∷ es) (f ∷ fs) a h =
      let ahead : Fine (use_later us f.to) (is_well (slice_get xs f.to)) (is_well (slice_get ys e.to)) = rw h.0.0 (later_fine us xs ys f.to a) in
      either_fine (use_cmds t f.cmds (use_later us f.to)) (use_edges t us fs) (form_equation set t w f.cmds (is_well (slice_get xs f.to))) (equation_cmds set t c e.cmds (is_well (slice_get ys e.to))) (all_form_well set t w xs fs) (all_well set t c ys es) (cmds_fine (use_later us f.to) e.cmds f.cmds (is_well (slice_get xs f.to)) (is_well (slice_get ys e.to)) h.0.1 ahead) (edges_fine us xs ys es fs a h.1)

  blocks_fine : (bs : List PassiveBlock) (fs : List FormBlock) → SaidBlocks w c bs fs → AllFine (uses t fs) (form_equations set t w fs) (equations set t c bs)
  blocks_fine [] [] h = tt
  blocks_fine [] (f ∷ fs) h = absurd h
  blocks_fine (b ∷ bs) [] h = absurd h
  blocks_fine (b ∷ bs) (f ∷ fs) h =
      let a = blocks_fine bs fs h.1 in
      let us = uses t fs in
      let xs = form_equations set t w fs in
      let ys = equations set t c bs in
      (cmds_fine (use_edges t us f.next) b.cmds f.cmds (all_form_well set t w xs f.next) (all_well set t c ys b.next) h.0.0 (edges_fine us xs ys b.next f.next a h.0.1), a)

  pub alike : (bs : List PassiveBlock) (fs : List FormBlock) → SaidBlocks w c bs fs → refused t fs ≡ None → is_well (slice_get (form_equations set t w fs) 0) ≡ is_well (slice_get (equations set t c bs) 0)
  alike bs fs h q =
      (later_fine (uses t fs) (form_equations set t w fs) (equations set t c bs) 0 (blocks_fine bs fs h)).same q
