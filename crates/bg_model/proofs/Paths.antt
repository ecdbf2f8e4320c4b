-- The turns of blocks of forms lead along a walk that fails, where no operation that counts for the target leaves the range.
use Rattle.std.proofs.Common.{◌≡◌, ℕ, zero, suc, ◌+◌, Bool, true, false, List, [], ◌∷◌, Option, Some, None, refl, sym, ap, ◌∙◌, subst, arith}
use Rattle.std.specs.Prelude.{◌||◌, if◌then◌else◌, slice_get}
use Rattle.bg_sense.specs.Eval.{Scope}
use Rattle.bg_ast.specs.Execution.{Spot}
use Rattle.bg_passive.specs.Passive.{Edge, PassiveBlock, Walked, On, Stopped, Hit, walk_cmds, walk_on, walk_at, walk_edge, follow, walks}
use Rattle.bg_formed.specs.Formed.{FormCmd, FormEdge, FormBlock}
use Rattle.bg_formed.specs.Said.{SaidCmds, SaidEdges, SaidBlocks}
use Rattle.bg_formed.specs.Used.{Use, use_cmds, use_later, use_edges, uses}
use Rattle.bg_model.specs.declared.turn.Turn.{Turn}
use Rattle.bg_model.specs.declared.turn.Turn.TheVariants.{Well, Ends, Leads}
use Rattle.bg_model.specs.Over.{walk_over}
use Rattle.bg_model.specs.Turns.{fails, fails_by, edge_fails, lowest, turn_by, turns}
use Rattle.bg_model.proofs.Alike.{none_first, fails_reached, behind_none, walks_alike}

-- the walk that turns lead along, from the block that is so far ahead
abbrev pub to_of : Option FormEdge → ℕ
to_of None = 0
to_of (Some e) = e.to

abbrev pub path : List FormBlock → List Turn → ℕ → List ℕ
path [] ts k = []
path (b ∷ bs) [] k = []
path (b ∷ bs) (t ∷ ts) (suc k) = path bs ts k
path (b ∷ bs) (Leads j ∷ ts) zero = j ∷ path bs ts (to_of (slice_get b.next j))
path (b ∷ bs) (t ∷ ts) zero = []

-- a turn at the ways of a block leads along one of them
abbrev pub IfLeads : (ℕ → Type 0) → Turn → Type 0
IfLeads P (Leads j) = P j
IfLeads P Well = Unit {0}
IfLeads P Ends = ⊥

or_left : (a b : Bool) → a ≡ true → (a || b) ≡ true
or_left true b e = refl
or_left false b e = absurd (let bad : ⊥ = cc in bad)

or_right : (a b : Bool) → b ≡ true → (a || b) ≡ true
or_right true b e = refl
or_right false b e = e

-- the first of several ways fails, or a later one
by_first : (x : Bool) (j : ℕ) (behind : Turn) (a b : Bool) → (x ≡ true → a ≡ true) → (fails (Some behind) ≡ true → b ≡ true) → fails (Some (if x then Leads j else behind)) ≡ true → (a || b) ≡ true
by_first true j behind a b here next e = or_left a b (here refl)
by_first false j behind a b here next e = or_right a b (next e)

pub turn_fails : (x : Walked) (y : Turn) → fails (Some (turn_by x y)) ≡ true → fails_by x (fails (Some y)) ≡ true
turn_fails On y e = e
turn_fails Stopped y e = e
turn_fails Hit y e = refl

by_edge : (x : Walked) (f : Bool) (g : List ℕ → Bool) (walk : List ℕ) → fails_by x f ≡ true → (f ≡ true → g walk ≡ true) → walk_on x g walk ≡ true
by_edge On f g walk e h = h e
by_edge Stopped f g walk e h = e
by_edge Hit f g walk e h = refl

module _ (set w : ℕ → Bool) (t : Spot) where
  abbrev over : List FormCmd → Walked
  over ks = walk_over set t w ks

  lowest_reached : (us : List Use) (ts : List Turn) → ((k : ℕ) → fails (slice_get ts k) ≡ true → (use_later us k).reached ≡ true) → (j : ℕ) (es : List FormEdge) → fails (Some (lowest over ts j es)) ≡ true → (use_edges t us es).reached ≡ true
  lowest_reached us ts h j [] e = absurd (let bad : ⊥ = cc in bad)
  lowest_reached us ts h j (f ∷ es) e =
      by_first (edge_fails over ts f) j (lowest over ts (suc j) es) (use_cmds t f.cmds (use_later us f.to)).reached (use_edges t us es).reached (fails_reached set w t f.cmds (use_later us f.to) (fails (slice_get ts f.to)) (h f.to)) (lowest_reached us ts h (suc j) es) e

  -- where a block fails, the check is reached
  reached_at : (fs : List FormBlock) (k : ℕ) → fails (slice_get (turns over fs) k) ≡ true → (use_later (uses t fs) k).reached ≡ true
  reached_at [] k e = absurd (let bad : ⊥ = cc in bad)
  reached_at (f ∷ fs) zero e =
      fails_reached set w t f.cmds (use_edges t (uses t fs) f.next) (fails (Some (lowest over (turns over fs) 0 f.next))) (lowest_reached (uses t fs) (turns over fs) (reached_at fs) 0 f.next) (turn_fails (over f.cmds) (lowest over (turns over fs) 0 f.next) e)
  reached_at (f ∷ fs) (suc k) e = reached_at fs k e

  pub ways_reached : (fs : List FormBlock) (es : List FormEdge) → fails (Some (lowest over (turns over fs) 0 es)) ≡ true → (use_edges t (uses t fs) es).reached ≡ true
  ways_reached fs es e = lowest_reached (uses t fs) (turns over fs) (reached_at fs) 0 es e

  module _ (c : Scope) (fs : List FormBlock) where
    -- an edge along which a walk fails, with the one whose forms it has
    pub record Way (es : List Edge) (ls : List FormEdge) (j : ℕ) : Type 0 where
      pub edge : Edge
      pub form : FormEdge
      pub edge_at : slice_get es j ≡ Some edge
      pub form_at : slice_get ls j ≡ Some form
      pub to : edge.to ≡ form.to
      pub said : SaidCmds w c edge.cmds form.cmds
      pub none : (use_cmds t form.cmds (use_later (uses t fs) form.to)).refusal ≡ None
      pub failing : fails_by (walk_over set t w form.cmds) (fails (slice_get (turns (walk_over set t w) fs) form.to)) ≡ true

    abbrev Ahead : List Edge → List FormEdge → ℕ → ℕ → Type 0
    Ahead es ls i j = (k : ℕ) × ((j ≡ i + k) × Way es ls k)

    one_on : (e : Edge) (l : FormEdge) (es : List Edge) (ls : List FormEdge) (k : ℕ) → Way es ls k → Way (e ∷ es) (l ∷ ls) (suc k)
    one_on e l es ls k h =
        record {
          edge = h.edge;
          form = h.form;
          edge_at = h.edge_at;
          form_at = h.form_at;
          to = h.to;
          said = h.said;
          none = h.none;
          failing = h.failing;
        }

    shifted : (e : Edge) (l : FormEdge) (es : List Edge) (ls : List FormEdge) (i : ℕ) (x : Turn) → IfLeads (Ahead es ls (suc i)) x → IfLeads (Ahead (e ∷ es) (l ∷ ls) i) x
    shifted e l es ls i (Leads j) h = (suc h.0, (let a = h.1.0 in omega (arith, a), one_on e l es ls h.0 h.1.1))
    shifted e l es ls i Well h = tt
    shifted e l es ls i Ends h = h

    first_way : (x : Bool) (e : Edge) (l : FormEdge) (es : List Edge) (ls : List FormEdge) (i : ℕ) (y : Turn) → (x ≡ true → Way (e ∷ es) (l ∷ ls) 0) → IfLeads (Ahead es ls (suc i)) y → IfLeads (Ahead (e ∷ es) (l ∷ ls) i) (if x then Leads i else y)
    first_way true e l es ls i y here h = (0, (omega arith, here refl))
    first_way false e l es ls i y here h = shifted e l es ls i y h

    ways_ahead : (es : List Edge) (ls : List FormEdge) → SaidEdges w c es ls → (use_edges t (uses t fs) ls).refusal ≡ None → (i : ℕ) → IfLeads (Ahead es ls i) (lowest over (turns over fs) i ls)
    ways_ahead [] [] h n i = tt
    ways_ahead [] (l ∷ ls) h n i = absurd h
    ways_ahead (e ∷ es) [] h n i = absurd h
    ways_ahead (e ∷ es) (l ∷ ls) h n i =
        let o = none_first (use_cmds t l.cmds (use_later (uses t fs) l.to)).refusal (use_edges t (uses t fs) ls).refusal n in
        first_way (edge_fails over (turns over fs) l) e l es ls i (lowest over (turns over fs) (suc i) ls) (λ x. record {
          edge = e;
          form = l;
          edge_at = refl;
          form_at = refl;
          to = h.0.0;
          said = h.0.1;
          none = o.0;
          failing = x;
        }) (ways_ahead es ls h.1 o.1 (suc i))

    from_first : (es : List Edge) (ls : List FormEdge) (x : Turn) → IfLeads (Ahead es ls 0) x → IfLeads (Way es ls) x
    from_first es ls (Leads j) h =
        let a = h.1.0 in
        let same : h.0 ≡ j = omega (arith, a) in
        subst (Way es ls) same h.1.1
    from_first es ls Well h = h
    from_first es ls Ends h = h

    -- the lowest edge that fails is there
    pub way_led : (es : List Edge) (ls : List FormEdge) → SaidEdges w c es ls → (use_edges t (uses t fs) ls).refusal ≡ None → IfLeads (Way es ls) (lowest (walk_over set t w) (turns (walk_over set t w) fs) 0 ls)
    way_led es ls h n = from_first es ls (lowest over (turns over fs) 0 ls) (ways_ahead es ls h n 0)

    pub way_alike : (es : List Edge) (ls : List FormEdge) (j : ℕ) (h : Way es ls j) → walk_over set t w h.form.cmds ≡ walk_cmds set t c h.edge.cmds
    way_alike es ls j h =
        walks_alike set w t c h.edge.cmds h.form.cmds (use_later (uses t fs) h.form.to) (fails (slice_get (turns over fs) h.form.to)) h.said h.none (reached_at fs h.form.to) h.failing

  module _ (c : Scope) where
    -- a block's commands go alike where a walk from it fails
    pub block_alike : (q : PassiveBlock) (f : FormBlock) (fs : List FormBlock) → SaidCmds w c q.cmds f.cmds → (use_cmds t f.cmds (use_edges t (uses t fs) f.next)).refusal ≡ None → fails (slice_get (turns (walk_over set t w) (f ∷ fs)) 0) ≡ true → walk_over set t w f.cmds ≡ walk_cmds set t c q.cmds
    block_alike q f fs h n e =
        walks_alike set w t c q.cmds f.cmds (use_edges t (uses t fs) f.next) (fails (Some (lowest over (turns over fs) 0 f.next))) h n (ways_reached fs f.next) (turn_fails (over f.cmds) (lowest over (turns over fs) 0 f.next) e)

    module _ (q : PassiveBlock) (qs : List PassiveBlock) (f : FormBlock) (fs : List FormBlock) (found : (k : ℕ) → fails (slice_get (turns over fs) k) ≡ true → (use_later (uses t fs) k).refusal ≡ None → walk_at (slice_get (walks set t c qs) k) (path fs (turns over fs) k) ≡ true) where
      abbrev behind : List (List ℕ → Bool)
      behind = walks set t c qs

      along : (j : ℕ) → Way c fs q.next f.next j → walk_edge set t c behind (slice_get q.next j) (path fs (turns over fs) (to_of (slice_get f.next j))) ≡ true
      along j h =
          let to = h.form.to in
          let walk = path fs (turns over fs) to in
          let on : walk_at (slice_get behind h.edge.to) walk ≡ walk_at (slice_get behind to) walk = ap (λ k. walk_at (slice_get behind k) walk) h.to in
          ap (λ o. walk_edge set t c behind o (path fs (turns over fs) (to_of (slice_get f.next j)))) h.edge_at
          ∙ (ap (λ o. walk_edge set t c behind (Some h.edge) (path fs (turns over fs) (to_of o))) h.form_at
          ∙ (ap (λ x. walk_on x (walk_at (slice_get behind h.edge.to)) walk) (sym (way_alike c fs q.next f.next j h))
          ∙ by_edge (over h.form.cmds) (fails (slice_get (turns over fs) to)) (walk_at (slice_get behind h.edge.to)) walk h.failing (λ e. on ∙ found to e (behind_none set w t h.form.cmds (use_later (uses t fs) to) h.none))))

      here : (x : Walked) (y : Turn) → IfLeads (Way c fs q.next f.next) y → fails (Some (turn_by x y)) ≡ true → walk_on x (follow set t c behind q.next) (path (f ∷ fs) (turn_by x y ∷ turns over fs) 0) ≡ true
      here On (Leads j) h e = along j h
      here On Well h e = absurd (let bad : ⊥ = cc in bad)
      here On Ends h e = absurd h
      here Stopped y h e = absurd (let bad : ⊥ = cc in bad)
      here Hit y h e = refl

    -- the turns lead along a walk through the passive blocks that fails
    pub path_fails : (qs : List PassiveBlock) (fs : List FormBlock) → SaidBlocks w c qs fs → (k : ℕ) → fails (slice_get (turns (walk_over set t w) fs) k) ≡ true → (use_later (uses t fs) k).refusal ≡ None → walk_at (slice_get (walks set t c qs) k) (path fs (turns (walk_over set t w) fs) k) ≡ true
    path_fails [] [] h k e n = absurd (let bad : ⊥ = cc in bad)
    path_fails [] (f ∷ fs) h k e n = absurd h
    path_fails (q ∷ qs) [] h k e n = absurd h
    path_fails (q ∷ qs) (f ∷ fs) h (suc k) e n = path_fails qs fs h.1 k e n
    path_fails (q ∷ qs) (f ∷ fs) h zero e n =
        let low = lowest over (turns over fs) 0 f.next in
        let way = way_led c fs q.next f.next h.0.1 (behind_none set w t f.cmds (use_edges t (uses t fs) f.next) n) in
        ap (λ x. walk_on x (follow set t c (walks set t c qs) q.next) (path (f ∷ fs) (turn_by (over f.cmds) low ∷ turns over fs) 0)) (sym (block_alike q f fs h.0.0 n e))
        ∙ here q qs f fs (path_fails qs fs h.1) (over f.cmds) low way e
