-- Environments have an incarnation for each variable, and new incarnations are counted.
use Rattle.std.proofs.Common.{◌≡◌, ◌+◌, ℕ, zero, suc, Bool, true, false, if◌then◌else◌, List, [], ◌∷◌, ◌++◌, length, map, refl, sym, ap, ◌∙◌, arith}
use Rattle.std.specs.Prelude.{slice_set}
use Rattle.std.proofs.lemmas.List.{length-append, length-map}
use Rattle.bg_ast.specs.Values.{Ty}
use Rattle.bg_ast.specs.Syntax.{Var, Global, Local, Exs, NoMore, More, Decl, Prog}
use Rattle.bg_sense.specs.Types.{types_of}
use Rattle.bg_sense.specs.Variables.{count_from}
use Rattle.bg_flow.specs.Core.{Cmd, Check, Suppose, Forget, Put, Perform, Finish}
use Rattle.bg_flow.specs.Blocks.{Block}
use Rattle.bg_passive.specs.Incarnations.{Env, hold, hold_all, hold_next, after_vars, after_exs, after_decls, each_ex, each_decl, pass, pass_all, entry_env, ty_of, targets_of, incarnations}
use Rattle.bg_passive.specs.Arrivals.{Ways, all_begin, tails, merge, after_merge, merge_types, globals_in, frames_in, arrive_at, arrive_types, ways_here, ways_on, way_to, ways_to, cmd_types, cmds_types, arrive, arrived}
use Rattle.bg_incarnate.specs.Walked.{ways_after, walk_after}
use Rattle.bg_incarnate.specs.Even.{how_many, IsEven, AreEven, BlocksEven}

length_set : (xs : List ℕ) (k x : ℕ) → length (slice_set xs k x) ≡ length xs
length_set [] k x = refl
length_set (y ∷ ys) zero x = refl
length_set (y ∷ ys) (suc k) x = ap (λ n. suc n) (length_set ys k x)

-- so many globals, and such a frame
abbrev pub IsSized : ℕ → ℕ → Env → Type 0
IsSized g f v = (length v.globals ≡ g) × (length v.frame ≡ f)

abbrev pub AreSized : ℕ → ℕ → List Env → Type 0
AreSized g f [] = Unit {0}
AreSized g f (v ∷ vs) = IsSized g f v × AreSized g f vs

abbrev pub WaysSized : ℕ → ℕ → Ways → Type 0
WaysSized g f [] = Unit {0}
WaysSized g f (vs ∷ ways) = AreSized g f vs × WaysSized g f ways

module _ (g f : ℕ) where
  hold_sized : (x : Var) (n : ℕ) (v : Env) → IsSized g f v → IsSized g f (hold x n v)
  hold_sized (Global x) n v h = (length_set v.globals x n ∙ h.0, h.1)
  hold_sized (Local x) n v h = (h.0, length_set v.frame x n ∙ h.1)

  hold_all_sized : (xs : List Var) (ns : List ℕ) (v : Env) → IsSized g f v → IsSized g f (hold_all xs ns v)
  hold_all_sized [] ns v h = h
  hold_all_sized (x ∷ xs) [] v h = h
  hold_all_sized (x ∷ xs) (n ∷ ns) v h = hold_all_sized xs ns (hold x n v) (hold_sized x n v h)

  hold_next_sized : (xs : List Var) (n : ℕ) (v : Env) → IsSized g f v → IsSized g f (hold_next xs n v)
  hold_next_sized [] n v h = h
  hold_next_sized (x ∷ xs) n v h = hold_next_sized xs (suc n) (hold x n v) (hold_sized x n v h)

  pass_sized : (k : Cmd) (v : Env) (n : ℕ) → IsSized g f v → IsSized g f (pass k v n).env
  pass_sized (Check ds) v n h = h
  pass_sized (Suppose ds) v n h = h
  pass_sized (Forget xs) v n h = hold_next_sized xs n v h
  pass_sized (Put xs es) v n h = hold_all_sized xs (each_ex n es) v h
  pass_sized (Perform k) v n h =
      let n1 = after_exs k.args n in
      hold_all_sized k.takes (each_decl (after_vars k.modifies n1) k.results) (hold_next k.modifies n1 v) (hold_next_sized k.modifies n1 v h)
  pass_sized Finish v n h = h

  pub pass_all_sized : (ks : List Cmd) (v : Env) (n : ℕ) → IsSized g f v → IsSized g f (pass_all ks v n).env
  pass_all_sized [] v n h = h
  pass_all_sized (k ∷ ks) v n h = pass_all_sized ks (pass k v n).env (pass k v n).next (pass_sized k v n h)

  longer : (b : Bool) (j n m : ℕ) (xs ys : List ℕ) → length xs ≡ m → length ys ≡ m → length (if b then j ∷ xs else n ∷ ys) ≡ suc m
  longer true j n m xs ys h k = ap (λ i. suc i) h
  longer false j n m xs ys h k = ap (λ i. suc i) k

  pub length_merge : (n : ℕ) (js : List ℕ) (os : List (List ℕ)) → length (merge n js os) ≡ length js
  length_merge n [] os = refl
  length_merge n (j ∷ js) os = longer (all_begin j os) j n (length js) _ _ (length_merge n js (tails os)) (length_merge (suc n) js (tails os))

  pub arrive_sized : (entry : Env) (vs : List Env) (n : ℕ) → IsSized g f entry → AreSized g f vs → IsSized g f (arrive_at entry vs n).env
  arrive_sized entry [] n h s = h
  arrive_sized entry (v ∷ vs) n h s =
      let n1 = after_merge n v.globals (globals_in (v ∷ vs)) in
      (length_merge n v.globals (globals_in (v ∷ vs)) ∙ s.0.0, length_merge n1 v.frame (frames_in (v ∷ vs)) ∙ s.0.1)

  pub here_sized : (ways : Ways) → WaysSized g f ways → AreSized g f (ways_here ways)
  here_sized [] s = tt
  here_sized (vs ∷ ways) s = s.0

  on_sized : (ways : Ways) → WaysSized g f ways → WaysSized g f (ways_on ways)
  on_sized [] s = tt
  on_sized (vs ∷ ways) s = s.1

  way_sized : (k : ℕ) (v : Env) (ways : Ways) → IsSized g f v → WaysSized g f ways → WaysSized g f (way_to k v ways)
  way_sized zero v [] h s = ((h, tt), tt)
  way_sized zero v (vs ∷ ways) h s = ((h, s.0), s.1)
  way_sized (suc k) v [] h s = (tt, way_sized k v [] h tt)
  way_sized (suc k) v (vs ∷ ways) h s = (s.0, way_sized k v ways h s.1)

  ways_sized : (ks : List ℕ) (v : Env) (ways : Ways) → IsSized g f v → WaysSized g f ways → WaysSized g f (ways_to ks v ways)
  ways_sized [] v ways h s = s
  ways_sized (k ∷ ks) v ways h s = ways_sized ks v (way_to k v ways) h (way_sized k v ways h s)

  -- the ways behind a block
  pub after_sized : (entry : Env) (b : Block) (ways : Ways) (n : ℕ) → IsSized g f entry → WaysSized g f ways → WaysSized g f (ways_after entry b ways n)
  after_sized entry b ways n h s =
      let a = arrive_at entry (ways_here ways) n in
      ways_sized (targets_of b.exit) (pass_all b.cmds a.env a.next).env (ways_on ways) (pass_all_sized b.cmds a.env a.next (arrive_sized entry (ways_here ways) n h (here_sized ways s))) (on_sized ways s)

  counted_one : (b : Bool) (n : ℕ) (after : ℕ → ℕ) (m : List Ty) (t : Ty) → ((k : ℕ) → after k ≡ k + length m) → (if b then after n else after (suc n)) ≡ n + length (if b then m else t ∷ m)
  counted_one true n after m t h = h n
  counted_one false n after m t h = let e = h (suc n) in omega (arith, e)

  pub merge_counted : (js : List ℕ) (os : List (List ℕ)) (ts : List Ty) (n : ℕ) → length js ≡ length ts → after_merge n js os ≡ n + length (merge_types js os ts)
  merge_counted [] os ts n e = omega arith
  merge_counted (j ∷ js) os [] n e = absurd (omega (arith, e))
  merge_counted (j ∷ js) os (t ∷ ts) n e =
      counted_one (all_begin j os) n (λ k. after_merge k js (tails os)) (merge_types js (tails os) ts) t (λ k. merge_counted js (tails os) ts k (omega (arith, e)))

  pub arrive_counted : (gts fts : List Ty) (entry : Env) (vs : List Env) (n : ℕ) → length gts ≡ g → length fts ≡ f → AreSized g f vs → (arrive_at entry vs n).next ≡ n + length (arrive_types gts fts vs)
  arrive_counted gts fts entry [] n h k s = omega arith
  arrive_counted gts fts entry (v ∷ vs) n h k s =
      let gs = merge_types v.globals (globals_in (v ∷ vs)) gts in
      let bs = merge_types v.frame (frames_in (v ∷ vs)) fts in
      let n1 = after_merge n v.globals (globals_in (v ∷ vs)) in
      let a = merge_counted v.globals (globals_in (v ∷ vs)) gts n (s.0.0 ∙ sym h) in
      let b = merge_counted v.frame (frames_in (v ∷ vs)) fts n1 (s.0.1 ∙ sym k) in
      let l = length-append gs bs in
      omega (arith, a, b, l)

  pub types_counted : (ds : List Decl) → length (types_of ds) ≡ length ds
  types_counted [] = refl
  types_counted (d ∷ ds) = ap (λ n. suc n) (types_counted ds)

  vars_next : (xs : List Var) (n : ℕ) → after_vars xs n ≡ n + length xs
  vars_next [] n = omega arith
  vars_next (x ∷ xs) n = let e = vars_next xs (suc n) in omega (arith, e)

  exs_next : (es : Exs) (n : ℕ) → after_exs es n ≡ n + how_many es
  exs_next NoMore n = omega arith
  exs_next (More e es) n = let h = exs_next es (suc n) in omega (arith, h)

  decls_next : (ds : List Decl) (n : ℕ) → after_decls ds n ≡ n + length ds
  decls_next [] n = omega arith
  decls_next (d ∷ ds) n = let e = decls_next ds (suc n) in omega (arith, e)

  cmd_counted : (tys : Var → Ty) (k : Cmd) (v : Env) (n : ℕ) → IsEven k → (pass k v n).next ≡ n + length (cmd_types tys k)
  cmd_counted tys (Check ds) v n h = omega arith
  cmd_counted tys (Suppose ds) v n h = omega arith
  cmd_counted tys (Forget xs) v n h = let a = vars_next xs n in let b = length-map xs tys in omega (arith, a, b)
  cmd_counted tys (Put xs es) v n h = let a = exs_next es n in let b = length-map xs tys in omega (arith, a, b, h)
  cmd_counted tys (Perform k) v n h =
      let n1 = after_exs k.args n in
      let n2 = after_vars k.modifies n1 in
      let a = exs_next k.args n in
      let b = vars_next k.modifies n1 in
      let c = decls_next k.results n2 in
      let d = length-append (types_of k.params) (map tys k.modifies ++ types_of k.results) in
      let e = length-append (map tys k.modifies) (types_of k.results) in
      let i = length-map k.modifies tys in
      let j = types_counted k.params in
      let l = types_counted k.results in
      omega (arith, a, b, c, d, e, h, i, j, l)
  cmd_counted tys Finish v n h = omega arith

  pub cmds_counted : (tys : Var → Ty) (ks : List Cmd) (v : Env) (n : ℕ) → AreEven ks → (pass_all ks v n).next ≡ n + length (cmds_types tys ks)
  cmds_counted tys [] v n h = omega arith
  cmds_counted tys (k ∷ ks) v n h =
      let a = cmd_counted tys k v n h.0 in
      let b = cmds_counted tys ks (pass k v n).env (pass k v n).next h.1 in
      let c = length-append (cmd_types tys k) (cmds_types tys ks) in
      omega (arith, a, b, c)

  walk_counted : (p : Prog) (ds : List Decl) (bs : List Block) (ways : Ways) (n : ℕ) → length (types_of p.globals) ≡ g → length (types_of ds) ≡ f → IsSized g f (entry_env p ds) → WaysSized g f ways → BlocksEven bs → walk_after (entry_env p ds) bs ways n ≡ n + length (arrive p ds bs ways n).made
  walk_counted p ds [] ways n h k e s even = omega arith
  walk_counted p ds (b ∷ bs) ways n h k e s even =
      let entry = entry_env p ds in
      let at = arrive_at entry (ways_here ways) n in
      let d = pass_all b.cmds at.env at.next in
      let made = arrive_types (types_of p.globals) (types_of ds) (ways_here ways) in
      let cs = cmds_types (ty_of p ds) b.cmds in
      let rest = (arrive p ds bs (ways_after entry b ways n) d.next).made in
      let r = walk_counted p ds bs (ways_after entry b ways n) d.next h k e (after_sized entry b ways n e s) even.1 in
      let a = arrive_counted (types_of p.globals) (types_of ds) entry (ways_here ways) n h k (here_sized ways s) in
      let c = cmds_counted (ty_of p ds) b.cmds at.env at.next even.0 in
      let l = length-append made (cs ++ rest) in
      let m = length-append cs rest in
      omega (arith, r, a, c, l, m)

pub length_count : (k n : ℕ) → length (count_from k n) ≡ n
length_count k zero = refl
length_count k (suc n) = ap (λ m. suc m) (length_count (suc k) n)

-- the incarnations behind the walk are all that are given out
pub incarnations_counted : (p : Prog) (ds : List Decl) (bs : List Block) → BlocksEven bs → walk_after (entry_env p ds) bs [] (length p.globals + length ds) ≡ length (incarnations p ds (arrived p ds bs).made)
incarnations_counted p ds bs even =
    let g = length p.globals in
    let f = length ds in
    let a = types_counted g f p.globals in
    let b = types_counted g f ds in
    let made = (arrived p ds bs).made in
    let w = walk_counted g f p ds bs [] (g + f) a b (length_count 0 g, length_count g f) tt even in
    let l = length-append (types_of p.globals) (types_of ds ++ made) in
    let m = length-append (types_of ds) made in
    omega (arith, a, b, w, l, m)
