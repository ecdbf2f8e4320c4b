-- A walk over forms that fails goes as the walk over their expressions does, where no operation that counts for the target leaves the
-- range.
use Rattle.std.proofs.Common.{◌≡◌, ℕ, Bool, true, false, List, [], ◌∷◌, ◌++◌, Option, Some, None, Ok, Err, refl, sym, ap, ◌∙◌}
use Rattle.std.specs.Prelude.{◌||◌, if◌then◌else◌}
use Rattle.bg_base.specs.declared.exact.OutOfRange.{OutOfRange}
use Rattle.bg_ast.specs.Values.{truth_of}
use Rattle.bg_ast.specs.Syntax.{Ex}
use Rattle.bg_ast.specs.Execution.{Spot}
use Rattle.bg_sense.specs.Eval.{Scope, ev}
use Rattle.bg_passive.specs.Passive.{PassiveCmd, Claims, Supposes, spot_eq, is_absent, Walked, Stopped, Hit, walk_cmds}
use Rattle.bg_formed.specs.Formed.{Says, FormCmd, Asks, Takes}
use Rattle.bg_formed.specs.Wells.{is_met}
use Rattle.bg_formed.specs.Said.{IsSaid, SaidCmds}
use Rattle.bg_formed.specs.Used.{Use, refusal_of, first_of, in_front, use_cmds}
use Rattle.bg_model.specs.Over.{walk_over}
use Rattle.bg_model.specs.Turns.{fails_by}

pub none_first : (o p : Option OutOfRange) → first_of o p ≡ None → (o ≡ None) × (p ≡ None)
none_first None p e = (refl, e)
none_first (Some x) p e = absurd (let bad : ⊥ = cc in bad)

-- ---- one command in front of others

-- a check that is the target, or another command, in front of what is behind it
abbrev use_one : Bool → Says → Use → Use
use_one q r u = if q then record { reached = true; refusal = first_of (refusal_of r) u.refusal } else in_front r u

abbrev walk_one : Bool → Bool → Walked → Walked
walk_one q m x = if m then x else (if q then Hit else Stopped)

front_reached : (r : Says) (u : Use) → u.reached ≡ true → (in_front r u).reached ≡ true
front_reached r u h = on u.reached h
  where
    on : (z : Bool) → z ≡ true → (if z then record { reached = true; refusal = first_of (refusal_of r) u.refusal } else u).reached ≡ true
    on true h = refl
    on false h = absurd (let bad : ⊥ = cc in bad)

front_none : (r : Says) (u : Use) → u.reached ≡ true → (in_front r u).refusal ≡ None → (refusal_of r ≡ None) × (u.refusal ≡ None)
front_none r u h e = on u.reached h e
  where
    on : (z : Bool) → z ≡ true → (if z then record { reached = true; refusal = first_of (refusal_of r) u.refusal } else u).refusal ≡ None → (refusal_of r ≡ None) × (u.refusal ≡ None)
    on true h e = none_first (refusal_of r) u.refusal e
    on false h e = absurd (let bad : ⊥ = cc in bad)

one_reached : (q m : Bool) (x : Walked) (r : Says) (u : Use) (g : Bool) → (fails_by x g ≡ true → u.reached ≡ true) → fails_by (walk_one q m x) g ≡ true → (use_one q r u).reached ≡ true
one_reached true m x r u g h e = refl
one_reached false true x r u g h e = front_reached r u (h e)
one_reached false false x r u g h e = absurd (let bad : ⊥ = cc in bad)

one_behind : (q : Bool) (r : Says) (u : Use) → (use_one q r u).refusal ≡ None → u.refusal ≡ None
one_behind true r u e = (none_first (refusal_of r) u.refusal e).1
one_behind false r u e = on u.reached e
  where
    on : (z : Bool) → (if z then record { reached = true; refusal = first_of (refusal_of r) u.refusal } else u).refusal ≡ None → u.refusal ≡ None
    on true e = (none_first (refusal_of r) u.refusal e).1
    on false e = e

one_alike : (q m n : Bool) (x y : Walked) (r : Says) (u : Use) (g : Bool) → (refusal_of r ≡ None → m ≡ n) → (u.refusal ≡ None → fails_by x g ≡ true → x ≡ y) → (fails_by x g ≡ true → u.reached ≡ true) → (use_one q r u).refusal ≡ None → fails_by (walk_one q m x) g ≡ true → walk_one q m x ≡ walk_one q n y
one_alike true true n x y r u g met next reached none e =
    let o = none_first (refusal_of r) u.refusal none in
    next o.1 e ∙ ap (λ z. walk_one true z y) (met o.0)
one_alike true false n x y r u g met next reached none e =
    ap (λ z. walk_one true z y) (met (none_first (refusal_of r) u.refusal none).0)
one_alike false true n x y r u g met next reached none e =
    let o = front_none r u (reached e) none in
    next o.1 e ∙ ap (λ z. walk_one false z y) (met o.0)
one_alike false false n x y r u g met next reached none e = absurd (let bad : ⊥ = cc in bad)

one_append : (q m : Bool) (x y : Walked) (g h : Bool) → fails_by x g ≡ fails_by y h → fails_by (walk_one q m x) g ≡ fails_by (walk_one q m y) h
one_append q true x y g h e = e
one_append true false x y g h e = refl
one_append false false x y g h e = refl

-- ---- commands

module _ (set w : ℕ → Bool) (t : Spot) where
  abbrev over : List FormCmd → Walked
  over ls = walk_over set t w ls

  -- where a walk fails, the check is reached
  pub fails_reached : (ls : List FormCmd) (u : Use) (g : Bool) → (g ≡ true → u.reached ≡ true) → fails_by (over ls) g ≡ true → (use_cmds t ls u).reached ≡ true
  fails_reached [] u g h e = h e
  fails_reached (Asks s b r ∷ ls) u g h e =
      one_reached (spot_eq s t) (is_met set w b r) (over ls) r (use_cmds t ls u) g (fails_reached ls u g h) e
  fails_reached (Takes b r ∷ ls) u g h e =
      one_reached false (is_met set w b r) (over ls) r (use_cmds t ls u) g (fails_reached ls u g h) e

  -- what is refused behind commands is refused in front of them
  pub behind_none : (ls : List FormCmd) (u : Use) → (use_cmds t ls u).refusal ≡ None → u.refusal ≡ None
  behind_none [] u e = e
  behind_none (Asks s b r ∷ ls) u e = behind_none ls u (one_behind (spot_eq s t) r (use_cmds t ls u) e)
  behind_none (Takes b r ∷ ls) u e = behind_none ls u (one_behind false r (use_cmds t ls u) e)

  -- commands behind others
  pub use_append : (ks ls : List FormCmd) (u : Use) → use_cmds t (ks ++ ls) u ≡ use_cmds t ks (use_cmds t ls u)
  use_append [] ls u = refl
  use_append (Asks s b r ∷ ks) ls u = ap (use_one (spot_eq s t) r) (use_append ks ls u)
  use_append (Takes b r ∷ ks) ls u = ap (use_one false r) (use_append ks ls u)

  pub fails_append : (ks ls : List FormCmd) (g : Bool) → fails_by (over (ks ++ ls)) g ≡ fails_by (over ks) (fails_by (over ls) g)
  fails_append [] ls g = refl
  fails_append (Asks s b r ∷ ks) ls g =
      one_append (spot_eq s t) (is_met set w b r) (over (ks ++ ls)) (over ks) g (fails_by (over ls) g) (fails_append ks ls g)
  fails_append (Takes b r ∷ ks) ls g =
      one_append false (is_met set w b r) (over (ks ++ ls)) (over ks) g (fails_by (over ls) g) (fails_append ks ls g)

  module _ (c : Scope) where
    met_same : (b d : Option ℕ) (e : Ex) (r : Says) → IsSaid w c b e d r → refusal_of r ≡ None → is_met set w d r ≡ (is_absent set b || truth_of (ev e c))
    met_same b d e (Ok f) h q = rw (sym h.0, h.1) refl
    met_same b d e (Err x) h q = absurd (let bad : ⊥ = cc in bad)

    -- a walk over forms that fails goes as the walk over their expressions
    pub walks_alike : (ks : List PassiveCmd) (ls : List FormCmd) (u : Use) (g : Bool) → SaidCmds w c ks ls → (use_cmds t ls u).refusal ≡ None → (g ≡ true → u.reached ≡ true) → fails_by (over ls) g ≡ true → over ls ≡ walk_cmds set t c ks
    walks_alike [] [] u g h none reached e = refl
    walks_alike [] (l ∷ ls) u g h none reached e = absurd h
    walks_alike (Claims s b x ∷ ks) [] u g h none reached e = absurd h
    walks_alike (Supposes b x ∷ ks) [] u g h none reached e = absurd h
    walks_alike (Supposes b x ∷ ks) (Asks s d r ∷ ls) u g h none reached e = absurd h
    walks_alike (Claims s b x ∷ ks) (Takes d r ∷ ls) u g h none reached e = absurd h
    walks_alike (Claims s b x ∷ ks) (Asks s2 d r ∷ ls) u g h none reached e =
        one_alike (spot_eq s2 t) (is_met set w d r) (is_absent set b || truth_of (ev x c)) (over ls) (walk_cmds set t c ks) r (use_cmds t ls u) g (met_same b d x r h.0.1) (λ n f. walks_alike ks ls u g h.1 n reached f) (fails_reached ls u g reached) none e
        ∙ ap (λ s1. walk_one (spot_eq s1 t) (is_absent set b || truth_of (ev x c)) (walk_cmds set t c ks)) (sym h.0.0)
    walks_alike (Supposes b x ∷ ks) (Takes d r ∷ ls) u g h none reached e =
        one_alike false (is_met set w d r) (is_absent set b || truth_of (ev x c)) (over ls) (walk_cmds set t c ks) r (use_cmds t ls u) g (met_same b d x r h.0) (λ n f. walks_alike ks ls u g h.1 n reached f) (fails_reached ls u g reached) none e
