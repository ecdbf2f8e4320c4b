-- The types that are given out in order are those of all incarnations.
use Rattle.std.proofs.Common.{◌≡◌, ◌+◌, ◌<◌, ◌≤◌, ℕ, zero, suc, Bool, true, false, if◌then◌else◌, List, [], ◌∷◌, ◌++◌, length, map, slice_get, refl, sym, ap, ◌∙◌, arith, append_assoc, append-nil}
use borrow.Author.Tests.{lt-ltb, le-ltb}
use Rattle.std.proofs.lemmas.List.{length-append}
use Rattle.bg_ast.specs.Values.{Ty}
use Rattle.bg_ast.specs.Syntax.{Var, Global, Local, Decl, Prog}
use Rattle.bg_sense.specs.Types.{types_of}
use Rattle.bg_sense.specs.Variables.{type_in}
use Rattle.bg_flow.specs.Core.{Cmd, Check, Suppose, Forget, Put, Perform, Finish}
use Rattle.bg_flow.specs.Blocks.{Block}
use Rattle.bg_passive.specs.Incarnations.{Env, Below, EnvBelow, pass_all, entry_env, ty_of, incarnations}
use Rattle.bg_passive.specs.Arrivals.{Ways, all_begin, tails, merge, after_merge, merge_types, globals_in, frames_in, arrive_at, arrive_types, ways_here, cmd_types, cmds_types, arrive, arrived}
use Rattle.bg_passive.proofs.Renaming.{env_more}
use Rattle.bg_passive.proofs.PassiveForward.{pass_all_below}
use Rattle.bg_incarnate.specs.Even.{BlocksEven}
use Rattle.bg_incarnate.specs.Views.{incarnations_at}
use Rattle.bg_incarnate.specs.Walked.{ways_after}
use Rattle.bg_incarnate.proofs.Sizes.{AreSized, IsSized, WaysSized, after_sized, here_sized, merge_counted, arrive_counted, types_counted, cmds_counted, length_count}
use Rattle.bg_sorts.specs.Sorts.{type_or, variable_type}
use Rattle.bg_sorts.specs.Arrivals.{with_one, with_new, after_block, after_blocks}
use Rattle.bg_sorts.proofs.Given.{no_types}
use Rattle.bg_sorts.proofs.Below.{AllBelow, WaysBelow, here_below, arrive_below, after_below, entry_below}

type_there : (ds : List Decl) (x : ℕ) → type_or (slice_get (types_of ds) x) ≡ type_in (slice_get ds x)
type_there [] x = refl
type_there (d ∷ ds) zero = refl
type_there (d ∷ ds) (suc x) = type_there ds x

-- a variable has the type that is declared
variable_is : (p : Prog) (ds : List Decl) (x : Var) → variable_type (types_of p.globals) (types_of ds) x ≡ ty_of p ds x
variable_is p ds (Global x) = type_there p.globals x
variable_is p ds (Local x) = type_there ds x

module _ (theirs tys : Var → Ty) (same : (x : Var) → theirs x ≡ tys x) where
  vars_are : (xs : List Var) → map theirs xs ≡ map tys xs
  vars_are [] = refl
  vars_are (x ∷ xs) = ap (λ s. s ∷ map theirs xs) (same x) ∙ ap (λ l. tys x ∷ l) (vars_are xs)

  cmd_is : (k : Cmd) → cmd_types theirs k ≡ cmd_types tys k
  cmd_is (Check ds) = refl
  cmd_is (Suppose ds) = refl
  cmd_is (Forget xs) = vars_are xs
  cmd_is (Put xs es) = vars_are xs
  cmd_is (Perform k) = ap (λ l. types_of k.params ++ (l ++ types_of k.results)) (vars_are k.modifies)
  cmd_is Finish = refl

  cmds_are : (ks : List Cmd) → cmds_types theirs ks ≡ cmds_types tys ks
  cmds_are [] = refl
  cmds_are (k ∷ ks) = ap (λ l. l ++ cmds_types theirs ks) (cmd_is k) ∙ ap (λ l. cmd_types tys k ++ l) (cmds_are ks)

old_one : (j : ℕ) (s : Ty) (made : List Ty) → j < length made → with_one j s made ≡ made
old_one j s made h = ap (λ b. if b then made else made ++ s ∷ []) (lt-ltb j (length made) h)

new_one : (j : ℕ) (s : Ty) (made : List Ty) → length made ≤ j → with_one j s made ≡ made ++ s ∷ []
new_one j s made h = ap (λ b. if b then made else made ++ s ∷ []) (le-ltb j (length made) h)

-- no incarnation is new
none_new : (js : List ℕ) (ss made : List Ty) → Below (length made) js → with_new js ss made ≡ made
none_new [] ss made b = refl
none_new (j ∷ js) [] made b = refl
none_new (j ∷ js) (s ∷ ss) made b = ap (with_new js ss) (old_one j s made b.0) ∙ none_new js ss made b.1

-- where ways meet, exactly the incarnations of the join are new
merged_new : (js : List ℕ) (os : List (List ℕ)) (ts : List Ty) (n0 n : ℕ) (made : List Ty) → n0 ≤ n → length made ≡ n → Below n0 js → with_new (merge n js os) ts made ≡ made ++ merge_types js os ts
merged_new [] os ts n0 n made le e b = sym (append-nil made)
merged_new (j ∷ js) os [] n0 n made le e b = no_types (merge n (j ∷ js) os) made ∙ sym (append-nil made)
merged_new (j ∷ js) os (t ∷ ts) n0 n made le e b =
    let l = length-append made (t ∷ []) in
    on (all_begin j os) (merged_new js (tails os) ts n0 n made le e b.1) (merged_new js (tails os) ts n0 (suc n) (made ++ t ∷ []) (omega arith) (omega (arith, l, e)) b.1)
  where
    on : (x : Bool) → with_new (merge n js (tails os)) ts made ≡ made ++ merge_types js (tails os) ts → with_new (merge (suc n) js (tails os)) ts (made ++ t ∷ []) ≡ (made ++ t ∷ []) ++ merge_types js (tails os) ts → with_new (if x then j ∷ merge n js (tails os) else n ∷ merge (suc n) js (tails os)) (t ∷ ts) made ≡ made ++ (if x then merge_types js (tails os) ts else t ∷ merge_types js (tails os) ts)
    on true f g =
        let lt : j < length made = (let z = b.0 in omega arith) in
        ap (with_new (merge n js (tails os)) ts) (old_one j t made lt) ∙ f
    on false f g =
        ap (with_new (merge (suc n) js (tails os)) ts) (new_one n t made (omega (arith, e)))
        ∙ g
        ∙ append_assoc made (t ∷ []) (merge_types js (tails os) ts)

-- at an arrival
arrived_new : (gts fts : List Ty) (entry : Env) (vs : List Env) (n : ℕ) (made : List Ty) → length made ≡ n → AreSized (length gts) (length fts) vs → EnvBelow n entry → AllBelow n vs → with_new (arrive_at entry vs n).env.frame fts (with_new (arrive_at entry vs n).env.globals gts made) ≡ made ++ arrive_types gts fts vs
arrived_new gts fts entry [] n made e s b h =
    let below : EnvBelow (length made) entry = rw e b in
    ap (with_new entry.frame fts) (none_new entry.globals gts made below.0)
    ∙ none_new entry.frame fts made below.2
    ∙ sym (append-nil made)
arrived_new gts fts entry (v ∷ vs) n made e s b h =
    let gs = globals_in (v ∷ vs) in
    let fs = frames_in (v ∷ vs) in
    let n1 = after_merge n v.globals gs in
    let new = merge_types v.globals gs gts in
    let newer = merge_types v.frame fs fts in
    let made1 = made ++ new in
    let c = merge_counted (length gts) (length fts) v.globals gs gts n s.0.0 in
    let l = length-append made new in
    ap (with_new (merge n1 v.frame fs) fts) (merged_new v.globals gs gts n n made (omega arith) e h.0.0)
    ∙ merged_new v.frame fs fts n n1 made1 (omega (arith, c)) (omega (arith, c, l, e)) h.0.2
    ∙ append_assoc made new newer

in_three : (made a b c : List Ty) → ((made ++ a) ++ b) ++ c ≡ made ++ (a ++ (b ++ c))
in_three made a b c = append_assoc (made ++ a) b c ∙ append_assoc made a (b ++ c)

module _ (p : Prog) (ds : List Decl) where
  abbrev gts : List Ty
  gts = types_of p.globals

  abbrev fts : List Ty
  fts = types_of ds

  abbrev tys : Var → Ty
  tys = ty_of p ds

  abbrev entry : Env
  entry = entry_env p ds

  abbrev theirs : Var → Ty
  theirs = variable_type (types_of p.globals) (types_of ds)

  blocks_are : (bs : List Block) (ways : Ways) (n : ℕ) (made : List Ty) → length made ≡ n → IsSized (length gts) (length fts) entry → WaysSized (length gts) (length fts) ways → EnvBelow n entry → WaysBelow n ways → BlocksEven bs → after_blocks (types_of p.globals) (types_of ds) (map incarnations_at (arrive p ds bs ways n).arrivals) bs made ≡ made ++ (arrive p ds bs ways n).made
  blocks_are [] ways n made e s ws b wb even = sym (append-nil made)
  blocks_are (b ∷ bs) ways n made e s ws eb wb even =
      let g = length gts in
      let f = length fts in
      let vs = ways_here ways in
      let a = arrive_at entry vs n in
      let d = pass_all b.cmds a.env a.next in
      let ways' = ways_after entry b ways n in
      let new = arrive_types gts fts vs in
      let more = cmds_types tys b.cmds in
      let x = arrived_new gts fts entry vs n made e (here_sized g f ways ws) eb (here_below n ways wb) in
      let y = cmds_are theirs tys (variable_is p ds) b.cmds in
      let is : after_block (types_of p.globals) (types_of ds) (incarnations_at a) b made ≡ (made ++ new) ++ more = ap (λ l. l ++ cmds_types theirs b.cmds) x ∙ ap (λ l. (made ++ new) ++ l) y in
      let made' = (made ++ new) ++ more in
      let c1 = arrive_counted g f gts fts entry vs n refl refl (here_sized g f ways ws) in
      let c2 = cmds_counted g f tys b.cmds a.env a.next even.0 in
      let l1 = length-append (made ++ new) more in
      let l2 = length-append made new in
      let many : length made' ≡ d.next = omega (arith, c1, c2, l1, l2, e) in
      let ab = arrive_below entry vs n eb (here_below n ways wb) in
      let db = pass_all_below b.cmds a.env a.next ab.0 in
      let le : n ≤ d.next = omega (arith, c1, c2) in
      ap (after_blocks (types_of p.globals) (types_of ds) (map incarnations_at (arrive p ds bs ways' d.next).arrivals) bs) is
      ∙ blocks_are bs ways' d.next made' many s (after_sized g f entry b ways n s ws) (env_more n d.next entry le eb) (after_below entry b ways n d.next db le wb) even.1
      ∙ in_three made new more (arrive p ds bs ways' d.next).made

-- the types of globals, of the frame, and of the incarnations that the blocks give out
pub all_types : (p : Prog) (ds : List Decl) (bs : List Block) (globals frame : List Ty) (at : List (List ℕ × List ℕ)) (made new : List Ty) → globals ≡ types_of p.globals → frame ≡ types_of ds → at ≡ map incarnations_at (arrived p ds bs).arrivals → BlocksEven bs → made ≡ globals ++ frame → new ≡ after_blocks globals frame at bs made → new ≡ incarnations p ds (arrived p ds bs).made
all_types p ds bs globals frame at made new g f a even m n =
    let first = types_of p.globals ++ types_of ds in
    let c1 = types_counted 0 0 p.globals in
    let c2 = types_counted 0 0 ds in
    let l = length-append (types_of p.globals) (types_of ds) in
    let many : length first ≡ length p.globals + length ds = omega (arith, c1, c2, l) in
    let is : after_blocks globals frame at bs made ≡ first ++ (arrived p ds bs).made = rw (m, g, f, a) (blocks_are p ds bs [] (length p.globals + length ds) first many (length_count 0 (length p.globals) ∙ sym c1, length_count (length p.globals) (length ds) ∙ sym c2) tt (entry_below p ds) tt even) in
    n ∙ is ∙ append_assoc (types_of p.globals) (types_of ds) (arrived p ds bs).made
