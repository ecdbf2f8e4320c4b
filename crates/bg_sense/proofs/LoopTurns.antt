-- A turn of the source is one of the cut loop, or another induction run goes on from where it ends.
use Rattle.std.proofs.Common.{◌≡◌, ℕ, zero, suc, Bool, true, false, List, [], ◌∷◌, ◌++◌, refl, sym, ap, ◌∙◌, subst, inl, inr, append_assoc}
use Rattle.std.specs.Prelude.{◌⊎◌, if◌then◌else◌, ◌==◌, nat_lt}
use Rattle.bg_ast.specs.Values.{Val, truth_of}
use Rattle.bg_ast.specs.Syntax.{Var, Global, Local, Ex, Clause, Guard, Star, Test}
use Rattle.bg_ast.specs.Execution.{Choice, Branch, Chosen, Spot, AfterTurn}
use Rattle.bg_sense.specs.Eval.{ev, value_at}
use Rattle.bg_sense.specs.Flow.{World, BadChoice, Flow, Next, Jumps, Over, and_then}
use Rattle.bg_sense.specs.Context.{Turning, Ctx, step, scope}
use Rattle.bg_sense.specs.Clauses.{ensure, suppose, is_checked, check, check_all, suppose_all, is_free_kept, says_of}
use Rattle.bg_sense.specs.Variables.{is_among}
use Rattle.bg_sense.specs.Choices.{branch_from, forget_all, decide}
use Rattle.bg_sense.specs.Loop.{at_head, turns, end}
use Rattle.bg_sense.proofs.Stays.{Fact, turning, cutting, Stays, step_stays, check_stays, check_all_stays, suppose_all_stays, Keeps}
use Rattle.bg_sense.proofs.Follows.{at, Shows, Follows, FollowsAt, and_then_follows, same_follows, first_follows, step_follows, check_all_follows, suppose_all_follows}

abbrev pub get : Var → List Val → List Val → Val
get (Global x) g r = value_at g x
get (Local x) g r = value_at r x

-- values at which the fact holds, and that differ from g0 and r0 at these variables alone
abbrev pub Agrees : List Var → Fact → List Val → List Val → Fact
Agrees xs T g0 r0 = λ g r. T g r × ((y : Var) → is_among xs y ≡ false → get y g r ≡ get y g0 r0)

-- where a sequence goes on, its first part did
abbrev pub Split : Flow → (World → Flow) → World → Type 0
Split f k u = (v : World) × (f ≡ Next v) × (k v ≡ Next u)

pub and_then_next : (f : Flow) (k : World → Flow) (u : World) → and_then f k ≡ Next u → Split f k u
and_then_next (Next w) k u e = (w, refl, e)
and_then_next (Jumps p w) k u e = absurd (different e)
  where
    different : Jumps p w ≡ Next u → ⊥
    different e = let bad : ⊥ = cc in bad
and_then_next (Over a) k u e = absurd (different e)
  where
    different : Over a ≡ Next u → ⊥
    different e = let bad : ⊥ = cc in bad

pub ensured : (b : Bool) (s : Spot) (w u : World) → ensure b s w ≡ Next u → b ≡ true
ensured true s w u e = refl
ensured false s w u e = absurd (let bad : ⊥ = cc in bad)

pub next_same : (w u : World) → Next w ≡ Next u → w ≡ u
next_same w u e = cc

module _ (c : Ctx) where
  -- whether a clause is true at these values
  abbrev pub Says : Clause → List Val → List Val → Bool
  Says k g r = truth_of (ev k.says (scope (turning c) (at g r [])))

  -- a check that was passed changed no variable, and its clause is true there
  pub checked_true : (spot : ℕ → Spot) (k : Clause) (w u : World) → is_checked c.set k ≡ true → check (turning c) spot (scope (turning c)) k w ≡ Next u → Says k w.globals w.frame ≡ true
  checked_true spot k w u yes' e =
      let f = and_then (step Turning w) (λ v. ensure (truth_of (ev k.says (scope (turning c) v))) (spot k.id) v) in
      let e2 : f ≡ Next u = sym (ap (λ b. if b then f else Next w) yes') ∙ e in
      let s = and_then_next (step Turning w) (λ v. ensure (truth_of (ev k.says (scope (turning c) v))) (spot k.id) v) u e2 in
      let P : Fact = λ g r. Says k w.globals w.frame ≡ Says k g r in
      let kept : Says k w.globals w.frame ≡ Says k s.0.globals s.0.frame = subst (Stays P) s.1 (step_stays P Turning w refl) in
      kept ∙ ensured (Says k s.0.globals s.0.frame) (spot k.id) s.0 u s.2

  abbrev pub held : List Clause → List Ex
  held is = says_of (is_checked c.set) is

  -- the invariants that were checked hold, so they can be assumed
  abbrev pub Holds : List Clause → List Val → List Val → Type 0
  Holds is g r = (cs : List Choice) → suppose_all (cutting c) (scope (cutting c)) (held is) (at g r cs) ≡ Next (at g r cs)

  pub holds_if : (b : Bool) (k : Clause) (ks : List Clause) (g r : List Val) → is_checked c.set k ≡ b → (is_checked c.set k ≡ true → Says k g r ≡ true) → Holds ks g r → Holds (k ∷ ks) g r
  holds_if true k ks g r e h hs cs =
      ap (λ b. suppose_all (cutting c) (scope (cutting c)) (if b then k.says ∷ held ks else held ks) (at g r cs)) e
      ∙ ap (λ b. and_then (suppose b (at g r cs)) (suppose_all (cutting c) (scope (cutting c)) (held ks))) (h e)
      ∙ hs cs
  holds_if false k ks g r e h hs cs =
      ap (λ b. suppose_all (cutting c) (scope (cutting c)) (if b then k.says ∷ held ks else held ks) (at g r cs)) e ∙ hs cs

  pub holds : (spot : ℕ → Spot) (is : List Clause) (w u : World) → check_all (turning c) spot (scope (turning c)) is w ≡ Next u → Holds is w.globals w.frame
  holds spot [] w u e = λ cs. refl
  holds spot (k ∷ ks) w u e =
      let s = and_then_next (check (turning c) spot (scope (turning c)) k w) (check_all (turning c) spot (scope (turning c)) ks) u e in
      let P : Fact = λ g r. Holds ks g r → Holds ks w.globals w.frame in
      let back : Holds ks s.0.globals s.0.frame → Holds ks w.globals w.frame = subst (Stays P) s.1 (check_stays P (turning c) spot (scope (turning c)) k w (λ h. h)) in
      holds_if (is_checked c.set k) k ks w.globals w.frame refl (λ y. checked_true spot k w s.0 y s.1) (back (holds spot ks s.0 u s.2))

  -- and they hold where the checks leave off
  pub holds_after : (spot : ℕ → Spot) (is : List Clause) (w u : World) → check_all (turning c) spot (scope (turning c)) is w ≡ Next u → Holds is u.globals u.frame
  holds_after spot is w u e =
      let P : Fact = λ g r. Holds is g r in
      subst (Stays P) e (check_all_stays P (turning c) spot (scope (turning c)) is w (holds spot is w u e))

  -- follows from here, or reaches the outcome in another way
  module _ (E : Flow → Type 0) where
    abbrev pub Either' : (World → Flow) → List Val → List Val → Flow → Type 0
    Either' F g r f = Follows F g r f ⊎ E f

    and_then_either : (F : World → Flow) (g r : List Val) (f : Flow) (K k : World → Flow) → Follows F g r f → ((w : World) → f ≡ Next w → Either' K w.globals w.frame (k w)) → Either' (λ v. and_then (F v) K) g r (and_then f k)
    and_then_either F g r (Next w) K k h next = on (next w refl)
      where
        on : Either' K w.globals w.frame (k w) → Either' (λ v. and_then (F v) K) g r (k w)
        on (inl x) = inl (and_then_follows F g r (Next w) K k h (λ u e. subst (λ y. FollowsAt K y (k y)) (next_same w u e) x))
        on (inr x) = inr x
    and_then_either F g r (Jumps p w) K k h next =
        inl (and_then_follows F g r (Jumps p w) K k h (λ u e. absurd (let bad : ⊥ = cc in bad)))
    and_then_either F g r (Over a) K k h next =
        inl (and_then_follows F g r (Over a) K k h (λ u e. absurd (let bad : ⊥ = cc in bad)))

    star_either : (b t : Bool) (j : ℕ) (cs : List Choice) (w : World) (K k L l : World → Flow) → nat_lt j 2 ≡ b → (j == 0) ≡ t → Either' K w.globals w.frame (k (record w { choices = cs })) → Either' L w.globals w.frame (l (record w { choices = cs })) → Either' (λ u. decide (cutting c) Star u K L) w.globals w.frame (if b then (if t then k (record w { choices = cs }) else l (record w { choices = cs })) else Over BadChoice)
    star_either true true j cs w K k L l e f (inl x) y =
        inl (first_follows (λ u. decide (cutting c) Star u K L) K w.globals w.frame (k (record w { choices = cs })) (Branch j) (λ rest. ap (λ b. if b then (if j == 0 then K (at w.globals w.frame rest) else L (at w.globals w.frame rest)) else Over BadChoice) e ∙ ap (λ b. if b then K (at w.globals w.frame rest) else L (at w.globals w.frame rest)) f) x)
    star_either true true j cs w K k L l e f (inr x) y = inr x
    star_either true false j cs w K k L l e f x (inl y) =
        inl (first_follows (λ u. decide (cutting c) Star u K L) L w.globals w.frame (l (record w { choices = cs })) (Branch j) (λ rest. ap (λ b. if b then (if j == 0 then K (at w.globals w.frame rest) else L (at w.globals w.frame rest)) else Over BadChoice) e ∙ ap (λ b. if b then K (at w.globals w.frame rest) else L (at w.globals w.frame rest)) f) y)
    star_either true false j cs w K k L l e f x (inr y) = inr y
    star_either false t j cs w K k L l e f x y = inl (inl tt)

    branch_either : (P : Fact) (cs : List Choice) (w : World) (K k L l : World → Flow) → P w.globals w.frame → ((u : World) → P u.globals u.frame → Either' K u.globals u.frame (k u)) → ((u : World) → P u.globals u.frame → Either' L u.globals u.frame (l u)) → Either' (λ u. decide (cutting c) Star u K L) w.globals w.frame (branch_from cs 2 w (λ j u. if j == 0 then k u else l u))
    branch_either P [] w K k L l h on off = inl (inl tt)
    branch_either P (Chosen v ∷ cs) w K k L l h on off = inl (inl tt)
    branch_either P (Branch j ∷ cs) w K k L l h on off =
        star_either (nat_lt j 2) (j == 0) j cs w K k L l refl refl (on (record w { choices = cs }) h) (off (record w { choices = cs }) h)

    test_either : (b : Bool) (e : Ex) (w : World) (K k L l : World → Flow) → truth_of (ev e (scope (turning c) w)) ≡ b → Either' K w.globals w.frame (k w) → Either' L w.globals w.frame (l w) → Either' (λ u. decide (cutting c) (Test e) u K L) w.globals w.frame (if b then k w else l w)
    test_either true e w K k L l q (inl x) y =
        inl (same_follows (λ u. decide (cutting c) (Test e) u K L) K w.globals w.frame (k w) (λ cs. ap (λ b. if b then K (at w.globals w.frame cs) else L (at w.globals w.frame cs)) q) x)
    test_either true e w K k L l q (inr x) y = inr x
    test_either false e w K k L l q x (inl y) =
        inl (same_follows (λ u. decide (cutting c) (Test e) u K L) L w.globals w.frame (l w) (λ cs. ap (λ b. if b then K (at w.globals w.frame cs) else L (at w.globals w.frame cs)) q) y)
    test_either false e w K k L l q x (inr y) = inr y

    pub decide_either : (P : Fact) (g : Guard) (w : World) (K k L l : World → Flow) → P w.globals w.frame → ((u : World) → P u.globals u.frame → Either' K u.globals u.frame (k u)) → ((u : World) → P u.globals u.frame → Either' L u.globals u.frame (l u)) → Either' (λ u. decide (cutting c) g u K L) w.globals w.frame (decide (turning c) g w k l)
    decide_either P Star w K k L l h on off = branch_either P w.choices w K k L l h on off
    decide_either P (Test e) w K k L l h on off =
        test_either (truth_of (ev e (scope (turning c) w))) e w K k L l refl (on w h) (off w h)

  pub stays_next : (P : Fact) (f : Flow) (u : World) → Stays P f → f ≡ Next u → P u.globals u.frame
  stays_next P f u h e = subst (Stays P) e h

  -- one loop, with its targets, and what a body does under either run
  module _ (xs : List Var) (g : Guard) (is : List Clause) (body body' : Flow → Flow) where
    abbrev pub last : World → Flow
    last = λ t. and_then (check_all (cutting c) AfterTurn (scope (cutting c)) is t) end

    -- the induction run from a loop head on, once the invariants are checked
    abbrev pub onward : World → Flow
    onward =
        λ v. and_then
        (forget_all (cutting c) xs v)
        (λ u. and_then (suppose_all (cutting c) (scope (cutting c)) (held is) u) (at_head (cutting c) g is body' last))

    abbrev pub arrive : (ℕ → Spot) → ℕ → World → Flow
    arrive spot n = turns n (turning c) spot g is body

    -- the source run from a loop head on, once the invariants are checked
    abbrev pub head : ℕ → World → Flow
    head n = at_head (turning c) g is body (arrive AfterTurn n)

    module _ (T : Fact) (g0 r0 : List Val) where
      -- values that differ from those at the loop head at the targets alone
      abbrev pub Chosen_here : Fact
      Chosen_here = Agrees xs T g0 r0

      abbrev pub Leads : Flow → Type 0
      Leads f = Follows onward g0 r0 f

      module _ (reach : (k r : List Val) → Chosen_here k r → Shows (forget_all (cutting c) xs) g0 r0 (Next (at k r []))) (keeps : Keeps Chosen_here body) (follow : (w : World) → T w.globals w.frame → FollowsAt (λ t. body' (Next t)) w (body (Next w))) where
        -- one more turn or the way out, where what comes after a turn is covered
        from_head : (again : World → Flow) → ((u : World) → Chosen_here u.globals u.frame → Either' Leads last u.globals u.frame (again u)) → (w : World) → Chosen_here w.globals w.frame → Either' Leads (at_head (cutting c) g is body' last) w.globals w.frame (at_head (turning c) g is body again w)
        from_head again back w h =
            let free = says_of (is_free_kept c.set) is in
            and_then_either
            Leads
            (suppose_all (cutting c) (scope (cutting c)) free)
            w.globals
            w.frame
            (suppose_all (turning c) (scope (turning c)) free w)
            (λ v. and_then (Next v) (λ u. decide (cutting c) g u (λ t. and_then (body' (Next t)) last) Next))
            (λ v. and_then (step Turning v) (λ u. decide (turning c) g u (λ t. and_then (body (Next t)) again) Next))
            (suppose_all_follows c (scope (turning c)) (scope (cutting c)) (λ v cs. refl) free w)
            (λ v ev'. let hv = stays_next Chosen_here _ v (suppose_all_stays Chosen_here (turning c) (scope (turning c)) free w h) ev' in
            and_then_either
            Leads
            Next
            v.globals
            v.frame
            (step Turning v)
            (λ u. decide (cutting c) g u (λ t. and_then (body' (Next t)) last) Next)
            (λ u. decide (turning c) g u (λ t. and_then (body (Next t)) again) Next)
            (step_follows v)
            (λ u eu. let hu = stays_next Chosen_here _ u (step_stays Chosen_here Turning v hv) eu in
            decide_either
            Leads
            Chosen_here
            g
            u
            (λ t. and_then (body' (Next t)) last)
            (λ t. and_then (body (Next t)) again)
            Next
            Next
            hu
            (λ t ht. and_then_either
            Leads
            (λ s. body' (Next s))
            t.globals
            t.frame
            (body (Next t))
            last
            again
            (follow t ht.0)
            (λ s es. back s (stays_next Chosen_here (body (Next t)) s (keeps (Next t) ht) es)))
            (λ t ht. inl (inr ([], λ rest. refl)))))

        -- the targets are given these values, the invariants hold, and the rest follows
        leads : (w : World) (f : Flow) → Chosen_here w.globals w.frame → Holds is w.globals w.frame → Either' Leads (at_head (cutting c) g is body' last) w.globals w.frame f → Leads f
        leads w f h hold (inr x) = x
        leads w f h hold (inl (inl s)) = inl s
        leads w f h hold (inl (inr s)) =
            let way = reach w.globals w.frame h in
            inr (
              way.0 ++ s.0,
              λ rest. ap (λ l. onward (at g0 r0 l)) (append_assoc way.0 s.0 rest)
                  ∙ ap (λ x. and_then x (λ u. and_then (suppose_all (cutting c) (scope (cutting c)) (held is) u) (at_head (cutting c) g is body' last))) (way.1 (s.0 ++ rest))
                  ∙ ap (λ x. and_then x (at_head (cutting c) g is body' last)) (hold (s.0 ++ rest))
                  ∙ s.1 rest,
            )

        -- after a turn the induction run ends, and another one goes on from the values that the loop head has then
        pub after : (n : ℕ) (u : World) → Chosen_here u.globals u.frame → Either' Leads last u.globals u.frame (arrive AfterTurn n u)
        after zero u h = inl (inl tt)
        after (suc n) u h =
            and_then_either
            Leads
            Next
            u.globals
            u.frame
            (step Turning u)
            last
            (λ v. and_then (check_all (turning c) AfterTurn (scope (turning c)) is v) (head n))
            (step_follows u)
            (λ v ev'. let hv = stays_next Chosen_here _ v (step_stays Chosen_here Turning u h) ev' in
            and_then_either
            Leads
            (check_all (cutting c) AfterTurn (scope (cutting c)) is)
            v.globals
            v.frame
            (check_all (turning c) AfterTurn (scope (turning c)) is v)
            end
            (head n)
            (check_all_follows c AfterTurn (scope (turning c)) (scope (cutting c)) (λ t cs. refl) is v)
            (λ t et. let ht = stays_next Chosen_here _ t (check_all_stays Chosen_here (turning c) AfterTurn (scope (turning c)) is v hv) et in
            inr (leads t (head n t) ht (holds_after AfterTurn is v t et) (from_head (arrive AfterTurn n) (after n) t ht))))

        pub from_start : (n : ℕ) (w : World) → Chosen_here w.globals w.frame → Holds is w.globals w.frame → Leads (head n w)
        from_start n w h hold = leads w (head n w) h hold (from_head (arrive AfterTurn n) (after n) w h)
