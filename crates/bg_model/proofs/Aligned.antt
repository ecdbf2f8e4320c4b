-- The choices by what the code has at hand are those along the walk, where a walk fails and no operation that counts for the target
-- leaves the range.
use Rattle.std.proofs.Common.{◌≡◌, ℕ, zero, suc, Bool, true, false, List, [], ◌∷◌, ◌++◌, length, map, take, drop, Option, Some, None, refl, sym, ap, ◌∙◌, subst, arith, length-append}
use Rattle.std.specs.Prelude.{if◌then◌else◌, slice_get, ◌==◌}
use Rattle.bg_ast.specs.Values.{Val}
use Rattle.bg_ast.specs.Syntax.{Local, Exs, NoMore, More, Read, Not, Star, Test}
use Rattle.bg_ast.specs.Execution.{Choice, Spot}
use Rattle.bg_sense.specs.Eval.{Scope}
use Rattle.bg_flow.specs.Core.{Demand, Saying, Cmd, Check, Suppose, Forget, Put, Perform, Finish}
use Rattle.bg_flow.specs.Blocks.{Exit, Leap, Either, Block}
use Rattle.bg_passive.specs.Passive.{PassiveCmd, Claims, Supposes, Edge, Walked, On, Stopped, Hit, walk_cmds}
use Rattle.bg_passive.specs.Incarnations.{Env, rename, hold_next, after_vars, after_exs, each_ex, each_decl, claims_in, supposes_in, is_worth, set_to, pass, pass_all, Arrival, joins, join_env, edge_to, edges, passives, targets_of}
use Rattle.bg_passive.specs.ReadBack.{cmd_choices, exit_choices, choices_at, choices_to, follow_choices}
use Rattle.bg_incarnate.specs.Even.{how_many}
use Rattle.bg_incarnate.specs.Walked.{next_in}
use Rattle.bg_formed.specs.Formed.{FormCmd, Asks, Takes, FormBlock}
use Rattle.bg_formed.specs.Wells.{is_met}
use Rattle.bg_formed.specs.Said.{SaidCmds, SaidBlocks}
use Rattle.bg_formed.specs.Used.{Use, use_cmds, use_later, use_edges, uses}
use Rattle.bg_model.specs.declared.turn.Turn.{Turn}
use Rattle.bg_model.specs.declared.turn.Turn.TheVariants.{Well, Ends, Leads}
use Rattle.bg_model.specs.Fronts.{if_on}
use Rattle.bg_model.specs.Over.{walk_over}
use Rattle.bg_model.specs.Turns.{fails, fails_by, lowest, turn_by, turns, width, next_after, front_of, choices_on, turn_choices, taken}
use Rattle.bg_model.proofs.Alike.{fails_reached, behind_none, use_append, fails_append, walks_alike}
use Rattle.bg_model.proofs.Paths.{to_of, path, IfLeads, turn_fails, ways_reached, Way, way_led}
use Rattle.bg_model.proofs.Fronts.{front_cmds, front_walks}

pub length_claims : (v : Env) (ds : List Demand) → length (claims_in v ds) ≡ length ds
length_claims v [] = refl
length_claims v (d ∷ ds) = ap (λ n. suc n) (length_claims v ds)

pub length_supposes : (v : Env) (ds : List Saying) → length (supposes_in v ds) ≡ length ds
length_supposes v [] = refl
length_supposes v (d ∷ ds) = ap (λ n. suc n) (length_supposes v ds)

pub length_sets : (n : ℕ) (es : Exs) (v : Env) → length (set_to n es v) ≡ how_many es
length_sets n NoMore v = refl
length_sets n (More e es) v = ap (λ k. suc k) (length_sets (suc n) es v)

-- how many passive commands a command makes
pub width_is : (k : Cmd) (v : Env) (n : ℕ) → length (pass k v n).cmds ≡ width k
width_is (Check ds) v n = length_claims v ds
width_is (Suppose ds) v n = length_supposes v ds
width_is (Forget xs) v n = refl
width_is (Put xs es) v n = length_sets n es v
width_is (Perform k) v n =
    let n1 = after_exs k.args n in
    let args = each_ex n k.args in
    let vc : Env = record { globals = v.globals; before = v.globals; frame = args } in
    let vg : Env = record { globals = (hold_next k.modifies n1 v).globals; before = v.globals; frame = args ++ each_decl (after_vars k.modifies n1) k.results } in
    let a = length_sets n k.args v in
    let b = length_claims vc k.needs in
    let c = length_supposes vg k.gives in
    let d = length-append (set_to n k.args v) (claims_in vc k.needs ++ supposes_in vg k.gives) in
    let e = length-append (claims_in vc k.needs) (supposes_in vg k.gives) in
    omega (arith, a, b, c, d, e)
width_is Finish v n = refl

next_is : (k : Cmd) (v : Env) (n : ℕ) → (pass k v n).next ≡ next_after k n
next_is (Check ds) v n = refl
next_is (Suppose ds) v n = refl
next_is (Forget xs) v n = refl
next_is (Put xs es) v n = refl
next_is (Perform k) v n = refl
next_is Finish v n = refl

take_back : {A : Type 0} (n : ℕ) (xs : List A) → take n xs ++ drop n xs ≡ xs
take_back zero [] = refl
take_back (suc n) [] = refl
take_back zero (x ∷ xs) = refl
take_back (suc n) (x ∷ xs) = ap (λ l. x ∷ l) (take_back n xs)

-- ---- edges

-- nothing is checked
abbrev Assume : List PassiveCmd → Type 0
Assume [] = Unit {0}
Assume (Claims s b e ∷ ks) = ⊥
Assume (Supposes b e ∷ ks) = Assume ks

assume_both : (ks ls : List PassiveCmd) → Assume ks → Assume ls → Assume (ks ++ ls)
assume_both [] ls h g = g
assume_both (Claims s b e ∷ ks) ls h g = absurd h
assume_both (Supposes b e ∷ ks) ls h g = assume_both ks ls h g

joins_assume : (is js : List ℕ) → Assume (joins is js)
joins_assume [] js = tt
joins_assume (i ∷ is) [] = tt
joins_assume (i ∷ is) (j ∷ js) = on (i == j) (joins_assume is js)
  where
    on : (b : Bool) → Assume (joins is js) → Assume (if b then joins is js else is_worth j (Read (Local i)) ∷ joins is js)
    on true h = h
    on false h = h

join_assumes : (v : Env) (o : Option Arrival) → Assume (join_env v o)
join_assumes v None = tt
join_assumes v (Some a) =
    assume_both (joins v.globals a.env.globals) (joins v.frame a.env.frame) (joins_assume v.globals a.env.globals) (joins_assume v.frame a.env.frame)

-- an edge leads where the exit does, and nothing is checked on it
abbrev Fits : Option Edge → Option ℕ → Type 0
Fits None to = Unit {0}
Fits (Some e) to = (to ≡ Some e.to) × Assume e.cmds

module _ (v : Env) (later : List Arrival) where
  edge_fits : (first : List PassiveCmd) (k : ℕ) → Assume first → Fits (Some (edge_to v later first k)) (Some k)
  edge_fits first k h =
      (refl, assume_both first (join_env v (slice_get later k)) h (join_assumes v (slice_get later k)))

  leaps_fit : (ks : List ℕ) (j : ℕ) → Fits (slice_get (map (edge_to v later []) ks) j) (slice_get ks j)
  leaps_fit [] j = tt
  leaps_fit (k ∷ ks) zero = edge_fits [] k tt
  leaps_fit (k ∷ ks) (suc j) = leaps_fit ks j

  two_fit : (first second : List PassiveCmd) (on off : ℕ) (j : ℕ) → Assume first → Assume second → Fits (slice_get (edge_to v later first on ∷ edge_to v later second off ∷ []) j) (slice_get (on ∷ off ∷ []) j)
  two_fit first second on off zero h g = edge_fits first on h
  two_fit first second on off (suc zero) h g = edge_fits second off g
  two_fit first second on off (suc (suc j)) h g = tt

  edges_fit : (x : Exit) (j : ℕ) → Fits (slice_get (edges v later x) j) (slice_get (targets_of x) j)
  edges_fit (Leap []) zero = edge_fits [] 0 tt
  edges_fit (Leap []) (suc j) = tt
  edges_fit (Leap (k ∷ ks)) j = leaps_fit (k ∷ ks) j
  edges_fit (Either Star on off) j = two_fit [] [] on off j tt tt
  edges_fit (Either (Test e) on off) j =
      two_fit (Supposes None (rename e v) ∷ []) (Supposes None (Not (rename e v)) ∷ []) on off j tt tt

if_met : (m : Bool) (x : Walked) (g : Bool) → (fails_by x g ≡ true → g ≡ true) → fails_by (if m then x else Stopped) g ≡ true → g ≡ true
if_met true x g h e = h e
if_met false x g h e = absurd (let bad : ⊥ = cc in bad)

module _ (set w : ℕ → Bool) (t : Spot) (c : Scope) (V : List Val) where
  abbrev over : List FormCmd → Walked
  over ks = walk_over set t w ks

  abbrev went : List PassiveCmd → Walked
  went ks = walk_cmds set t c ks

  -- where nothing is checked, a walk fails behind
  assumed : (ks : List PassiveCmd) (ls : List FormCmd) (g : Bool) → SaidCmds w c ks ls → Assume ks → fails_by (over ls) g ≡ true → g ≡ true
  assumed [] [] g h a e = e
  assumed [] (l ∷ ls) g h a e = absurd h
  assumed (Claims s b x ∷ ks) ls g h a e = absurd a
  assumed (Supposes b x ∷ ks) [] g h a e = absurd h
  assumed (Supposes b x ∷ ks) (Asks s d r ∷ ls) g h a e = absurd h
  assumed (Supposes b x ∷ ks) (Takes d r ∷ ls) g h a e =
      if_met (is_met set w d r) (over ls) g (assumed ks ls g h.1 a) e

  -- the forms of the first commands, and those of the others
  said_front : (xs ys : List PassiveCmd) (ls : List FormCmd) (n : ℕ) → length xs ≡ n → SaidCmds w c (xs ++ ys) ls → SaidCmds w c xs (take n ls) × SaidCmds w c ys (drop n ls)
  said_front [] ys ls zero e h = (tt, h)
  said_front [] ys ls (suc n) e h = absurd (let bad : ⊥ = omega (arith, e) in bad)
  said_front (x ∷ xs) ys ls zero e h = absurd (let bad : ⊥ = omega (arith, e) in bad)
  said_front (Claims s b x ∷ xs) ys [] (suc n) e h = absurd h
  said_front (Supposes b x ∷ xs) ys [] (suc n) e h = absurd h
  said_front (Claims s b x ∷ xs) ys (Takes d r ∷ ls) (suc n) e h = absurd h
  said_front (Supposes b x ∷ xs) ys (Asks s d r ∷ ls) (suc n) e h = absurd h
  said_front (Claims s b x ∷ xs) ys (Asks s2 d r ∷ ls) (suc n) e h =
      let g = said_front xs ys ls n (omega (arith, e)) h.1 in ((h.0, g.0), g.1)
  said_front (Supposes b x ∷ xs) ys (Takes d r ∷ ls) (suc n) e h =
      let g = said_front xs ys ls n (omega (arith, e)) h.1 in ((h.0, g.0), g.1)

  -- the commands of forms of commands stand in their order
  front_aligned : (ks : List Cmd) (v : Env) (n : ℕ) (ls : List FormCmd) (u : Use) (g : Bool) (rest : List Choice) → SaidCmds w c (pass_all ks v n).cmds ls → (use_cmds t ls u).refusal ≡ None → (g ≡ true → u.reached ≡ true) → fails_by (over ls) g ≡ true → front_of over V ks ls n rest ≡ front_cmds went V ks v n rest
  front_aligned [] v n ls u g rest h none reached e = refl
  front_aligned (k ∷ ks) v n ls u g rest h none reached e =
      on (over ps) (λ f. front_aligned ks (pass k v n).env (pass k v n).next rs u g rest both.1 (behind_none set w t ps (use_cmds t rs u) quiet) reached f) failing
      ∙ ap (λ x. if_on x (cmd_choices k n V ++ front_cmds went V ks (pass k v n).env (pass k v n).next rest)) (walks_alike set w t c (pass k v n).cmds ps (use_cmds t rs u) (fails_by (over rs) g) both.0 quiet (fails_reached set w t rs u g reached) failing)
    where
      ps : List FormCmd
      ps = take (width k) ls

      rs : List FormCmd
      rs = drop (width k) ls

      both : SaidCmds w c (pass k v n).cmds ps × SaidCmds w c (pass_all ks (pass k v n).env (pass k v n).next).cmds rs
      both =
          said_front (pass k v n).cmds (pass_all ks (pass k v n).env (pass k v n).next).cmds ls (width k) (width_is k v n) h

      quiet : (use_cmds t ps (use_cmds t rs u)).refusal ≡ None
      quiet =
          ap (λ (x : Use). x.refusal) (sym (use_append set w t ps rs u) ∙ ap (λ l. use_cmds t l u) (take_back (width k) ls))
          ∙ none

      failing : fails_by (over ps) (fails_by (over rs) g) ≡ true
      failing = sym (fails_append set w t ps rs g) ∙ (ap (λ l. fails_by (over l) g) (take_back (width k) ls) ∙ e)

      on : (x : Walked) → (fails_by (over rs) g ≡ true → front_of over V ks rs (pass k v n).next rest ≡ front_cmds went V ks (pass k v n).env (pass k v n).next rest) → fails_by x (fails_by (over rs) g) ≡ true → if_on x (cmd_choices k n V ++ front_of over V ks rs (next_after k n) rest) ≡ if_on x (cmd_choices k n V ++ front_cmds went V ks (pass k v n).env (pass k v n).next rest)
      on On behind f =
          ap (λ j. cmd_choices k n V ++ front_of over V ks rs j rest) (sym (next_is k v n))
          ∙ ap (λ l. cmd_choices k n V ++ l) (behind f)
      on Stopped behind f = refl
      on Hit behind f = refl

  module _ (v : Env) (later : List Arrival) (x : Exit) (f : FormBlock) (fs : List FormBlock) (behind : List (List ℕ → List Choice)) (go : ℕ → List Choice) (same : (k : ℕ) → fails (slice_get (turns over fs) k) ≡ true → (use_later (uses t fs) k).refusal ≡ None → go k ≡ choices_at (slice_get behind k) (path fs (turns over fs) k)) where
    led : (j : ℕ) → Way set w t c fs (edges v later x) f.next j → choices_on (slice_get (targets_of x) j) go ≡ choices_to behind (slice_get (targets_of x) j) (path fs (turns over fs) (to_of (slice_get f.next j)))
    led j h =
        let to = h.form.to in
        let fit : Fits (Some h.edge) (slice_get (targets_of x) j) = subst (λ o. Fits o (slice_get (targets_of x) j)) h.edge_at (edges_fit v later x j) in
        let at : slice_get (targets_of x) j ≡ Some to = fit.0 ∙ ap Some h.to in
        let failing = assumed h.edge.cmds h.form.cmds (fails (slice_get (turns over fs) to)) h.said fit.1 h.failing in
        ap (λ o. choices_on o go) at
        ∙ (same to failing (behind_none set w t h.form.cmds (use_later (uses t fs) to) h.none)
        ∙ (ap (λ o. choices_to behind o (path fs (turns over fs) to)) (sym at)
        ∙ ap (λ o. choices_to behind (slice_get (targets_of x) j) (path fs (turns over fs) (to_of o))) (sym h.form_at)))

    -- the choices at the end of a block and those behind it
    rest_is : (a : Walked) (y : Turn) → IfLeads (Way set w t c fs (edges v later x) f.next) y → turn_choices (turn_by a y) x go ≡ follow_choices behind x (path (f ∷ fs) (turn_by a y ∷ turns over fs) 0)
    rest_is On (Leads j) h = ap (λ l. exit_choices x j ++ l) (led j h)
    rest_is On Well h = refl
    rest_is On Ends h = refl
    rest_is Stopped y h = refl
    rest_is Hit y h = refl

  -- the choices are those along the walk that the turns lead
  pub taken_is : (bs : List Block) (later : List Arrival) (fs : List FormBlock) → SaidBlocks w c (passives later bs) fs → (k : ℕ) → fails (slice_get (turns (walk_over set t w) fs) k) ≡ true → (use_later (uses t fs) k).refusal ≡ None → taken (walk_over set t w) V bs fs (map next_in later) (turns (walk_over set t w) fs) k ≡ choices_at (slice_get (front_walks (walk_cmds set t c) V later bs) k) (path fs (turns (walk_over set t w) fs) k)
  taken_is [] later fs h k e none = refl
  taken_is (b ∷ bs) [] [] h k e none = refl
  taken_is (b ∷ bs) [] (f ∷ fs) h k e none = absurd h
  taken_is (b ∷ bs) (a ∷ later) [] h k e none = absurd h
  taken_is (b ∷ bs) (a ∷ later) (f ∷ fs) h (suc k) e none = taken_is bs later fs h.1 k e none
  taken_is (b ∷ bs) (a ∷ later) (f ∷ fs) h zero e none =
      let p = pass_all b.cmds a.env a.next in
      let us = uses t fs in
      let ts = turns over fs in
      let low = lowest over ts 0 f.next in
      let go = taken over V bs fs (map next_in later) ts in
      let behind = front_walks went V later bs in
      let way = way_led set w t c fs (edges p.env later b.exit) f.next h.0.1 (behind_none set w t f.cmds (use_edges t us f.next) none) in
      ap (front_of over V b.cmds f.cmds a.next) (rest_is p.env later b.exit f fs behind go (taken_is bs later fs h.1) (over f.cmds) low way)
      ∙ front_aligned b.cmds a.env a.next f.cmds (use_edges t us f.next) (fails (Some low)) (follow_choices behind b.exit (path (f ∷ fs) (turn_by (over f.cmds) low ∷ ts) 0)) h.0.0 none (ways_reached set w t fs f.next) (turn_fails (over f.cmds) low e)
