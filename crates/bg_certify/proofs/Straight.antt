-- The run of the axioms' own program takes no choices: it goes straight on.
use Rattle.std.proofs.Common.{◌≡◌, ℕ, zero, suc, Bool, true, false, List, [], ◌∷◌, ◌++◌, map, refl, sym, ap, ◌∙◌}
use Rattle.bg_ast.specs.Syntax.{Ex, Prog}
use Rattle.bg_sense.specs.Variables.{wheres_of}
use Rattle.bg_flow.specs.Core.{Cmd, Check, Suppose, Forget, Put, Perform, Finish, Core, Seq, Do, plain, desugar, frame_decls, routine_of}
use Rattle.bg_flow.specs.Blocks.{Exit, Leap, Either, Block, Coded, led, code, at_end}
use Rattle.bg_block_types.specs.Typed.{blocks_in}
use Rattle.bg_replay.specs.Moments.{Moment, Around, Out, and_so, seen_at}
use Rattle.bg_replay.specs.Said.{Said, Fine, Stops, Leaves, Unsaid, on_said, checks, supposes}
use Rattle.bg_replay.specs.Ways.{acts_each, leaves, enters, ran, runs}
use Rattle.bg_opened.specs.Exprs.{opened}
use Rattle.bg_opened.specs.Unique.{claims}
use Rattle.bg_opened.specs.Programs.{supposing, opened_st, bodies_of}
use Rattle.bg_opened.specs.Axioms.{claims_false, of_axioms}
use Rattle.bg_confirm.proofs.Candidates.{BareSayings, BareCmds, A, M, Q}

-- ---- blocks that go straight on

abbrev pub IsStraight : Exit → Type 0
IsStraight (Leap []) = Unit {0}
IsStraight (Leap (k ∷ [])) = Unit {0}
IsStraight (Leap (k ∷ l ∷ ks)) = ⊥
IsStraight (Either g on off) = ⊥

abbrev pub AreStraight : List Block → Type 0
AreStraight [] = Unit {0}
AreStraight (b ∷ bs) = (BareCmds b.cmds × IsStraight b.exit) × AreStraight bs

-- ---- run alike without choices

abbrev pub bare_moment : Moment → Moment
bare_moment m = record m { choices = [] }

-- what commands say changes no variable and takes no choice
record Saying (a : Around) (ks : List Cmd) (m : Moment) : Type 0 where
  said : Said
  with_all : acts_each a ks m ≡ on_said said m
  with_none : acts_each a ks (bare_moment m) ≡ on_said said (bare_moment m)

module _ (a : Around) where
  behind : (s : Said) (ks : List Cmd) (m : Moment) → Saying a ks m → (x y : Out) → x ≡ on_said s m → y ≡ on_said s (bare_moment m) →
      (n : Said) × ((and_so x (acts_each a ks) ≡ on_said n m) × (and_so y (acts_each a ks) ≡ on_said n (bare_moment m)))
  behind Fine ks m w x y e f = (
    w.said,
    (ap (λ (o : Out). and_so o (acts_each a ks)) e ∙ w.with_all, ap (λ (o : Out). and_so o (acts_each a ks)) f ∙ w.with_none),
  )
  behind (Stops u) ks m w x y e f = (
    Stops u,
    (ap (λ (o : Out). and_so o (acts_each a ks)) e, ap (λ (o : Out). and_so o (acts_each a ks)) f),
  )
  behind (Leaves u) ks m w x y e f = (
    Leaves u,
    (ap (λ (o : Out). and_so o (acts_each a ks)) e, ap (λ (o : Out). and_so o (acts_each a ks)) f),
  )
  behind Unsaid ks m w x y e f = (
    Unsaid,
    (ap (λ (o : Out). and_so o (acts_each a ks)) e, ap (λ (o : Out). and_so o (acts_each a ks)) f),
  )

  said_by : (ks : List Cmd) (m : Moment) → BareCmds ks → Saying a ks m
  said_by [] m h = record { said = Fine; with_all = refl; with_none = refl }
  said_by (Check ds ∷ ks) m h =
      let w = behind (checks a.set (seen_at a m) ds) ks m (said_by ks m h.1) _ _ refl refl in
      record { said = w.0; with_all = w.1.0; with_none = w.1.1 }
  said_by (Suppose ds ∷ ks) m h =
      let w = behind (supposes a.set (seen_at a m) ds) ks m (said_by ks m h.1) _ _ refl refl in
      record { said = w.0; with_all = w.1.0; with_none = w.1.1 }
  said_by (Forget xs ∷ ks) m h = absurd h.0
  said_by (Put xs es ∷ ks) m h = absurd h.0
  said_by (Perform k ∷ ks) m h = absurd h.0
  said_by (Finish ∷ ks) m h = absurd h.0

  said_on : (s : Said) (m : Moment) (f : Moment → Said) → f m ≡ f (bare_moment m) → ran (on_said s m) f ≡ ran (on_said s (bare_moment m)) f
  said_on Fine m f e = e
  said_on (Stops u) m f e = refl
  said_on (Leaves u) m f e = refl
  said_on Unsaid m f e = refl

  gone : (x : Exit) (m : Moment) (f : ℕ → Moment → Said) → IsStraight x → ((k : ℕ) → f k m ≡ f k (bare_moment m)) → enters (leaves a x m) f ≡ enters (leaves a x (bare_moment m)) f
  gone (Leap []) m f h e = e 0
  gone (Leap (k ∷ [])) m f h e = e k
  gone (Leap (k ∷ l ∷ ks)) m f h e = absurd h
  gone (Either g on off) m f h e = absurd h

  pub runs_straight : (k : ℕ) (bs : List Block) (m : Moment) → AreStraight bs → runs a k bs m ≡ runs a k bs (bare_moment m)
  runs_straight k [] m h = refl
  runs_straight zero (b ∷ bs) m h =
      let w = said_by b.cmds m h.0.0 in
      let go : Moment → Said = λ n. enters (leaves a b.exit n) (λ k u. runs a k bs u) in
      ap (λ (o : Out). ran o go) w.with_all
      ∙ (said_on w.said m go (gone b.exit m (λ k u. runs a k bs u) h.0.1 (λ k. runs_straight k bs m h.1))
      ∙ ap (λ (o : Out). ran o go) (sym w.with_none))
  runs_straight (suc k) (b ∷ bs) m h = runs_straight k bs m h.1

-- ---- the axioms' own program

bare_plain : (es : List Ex) → BareSayings (plain es [])
bare_plain [] = tt
bare_plain (e ∷ es) = (refl, bare_plain es)

together : (ks ls : List Cmd) → BareCmds ks → BareCmds ls → BareCmds (ks ++ ls)
together [] ls h k = k
together (x ∷ ks) ls h k = (h.0, together ks ls h.1 k)

straight_led : (o : Bool) (ks : List Cmd) (bs : List Block) → BareCmds ks → AreStraight bs → AreStraight (led o ks bs)
straight_led false ks bs h k = ((h, tt), k)
straight_led true ks [] h k = ((h, tt), tt)
straight_led true ks (b ∷ bs) h k = ((together ks b.cmds h k.0.0, k.0.1), k.1)

module _ (depth : ℕ) (p : Prog) where
  abbrev body : List Ex → Core
  body es =
      desugar (A depth p) (frame_decls (M depth p) (Q depth p)) (supposing es (opened_st 0 (bodies_of depth (of_axioms p)) claims_false.body))

  -- the commands with which a body begins
  abbrev cmds_in : Core → List Cmd
  cmds_in (Do ks) = ks
  cmds_in (Seq a b) = cmds_in a
  cmds_in _ = []

  body_straight : (es : List Ex) (t : Coded) → AreStraight t.blocks → AreStraight (code (body es) t).blocks
  body_straight [] t k = straight_led t.takes_in (cmds_in (body [])) t.blocks ((refl, tt), tt) k
  body_straight (e ∷ es) t k =
      straight_led (code (body es) t).takes_in (Suppose (plain (e ∷ []) []) ∷ []) (code (body es) t).blocks ((refl, tt), tt) (body_straight es t k)

  pub blocks_straight : AreStraight (blocks_in (A depth p) 0 (M depth p) (Q depth p))
  blocks_straight =
      let r = routine_of (A depth p) 0 (M depth p) (Q depth p) in
      straight_led (code r.body (at_end r.wanted)).takes_in (Suppose r.given ∷ []) (code r.body (at_end r.wanted)).blocks (bare_plain (wheres_of ((A depth p).globals ++ frame_decls (M depth p) (Q depth p))), tt)
      (body_straight (map (opened 0 (bodies_of depth (of_axioms p))) (claims p)) (at_end r.wanted) (((tt, tt), tt), tt))
