-- The run of the axioms' own program is the same under each set of candidates: it has none.
use Rattle.std.proofs.Common.{◌≡◌, ℕ, zero, suc, Bool, true, false, List, [], ◌∷◌, ◌++◌, map, None, refl, ap, ◌∙◌}
use Rattle.bg_ast.specs.Syntax.{Ex, Prog, Impl, Proc}
use Rattle.bg_sense.specs.Variables.{wheres_of}
use Rattle.bg_sense.specs.Types.{types_of}
use Rattle.bg_ast.specs.Values.{Val, Table, Ty}
use Rattle.bg_flow.specs.Core.{Demand, Saying, Cmd, Check, Suppose, Forget, Put, Perform, Finish, Core, Seq, Do, plain, desugar, frame_decls, routine_of}
use Rattle.bg_flow.specs.Blocks.{Exit, Leap, Either, Block, Coded, led, code, at_end}
use Rattle.bg_block_types.specs.Typed.{blocks_in}
use Rattle.bg_scalar.specs.Worths.{Seen}
use Rattle.bg_replay.specs.Moments.{Moment, Around, Out, Goes, Over, Outside, Unknown, and_so, seen_at}
use Rattle.bg_replay.specs.Said.{Said, on_said, check_one, checks, suppose_one, supposes}
use Rattle.bg_replay.specs.Acts.{acts}
use Rattle.bg_replay.specs.Endings.{moment_in}
use Rattle.bg_replay.specs.Ways.{Way, On, Off, Beyond, Nowhere, leaves, acts_each, enters, ran, runs}
use Rattle.bg_opened.specs.Exprs.{opened}
use Rattle.bg_opened.specs.Unique.{claims}
use Rattle.bg_opened.specs.Programs.{supposing, opened_st, opened_impl, opened_proc, bodies_of}
use Rattle.bg_opened.specs.Axioms.{bare, claims_false, of_axioms, axiom_program}
use Rattle.bg_confirm.specs.Met.{run_in}

-- ---- commands without candidates

abbrev pub BareDemands : List Demand → Type 0
BareDemands [] = Unit {0}
BareDemands (d ∷ ds) = (d.candidate ≡ None) × BareDemands ds

abbrev pub BareSayings : List Saying → Type 0
BareSayings [] = Unit {0}
BareSayings (d ∷ ds) = (d.candidate ≡ None) × BareSayings ds

abbrev pub BareCmd : Cmd → Type 0
BareCmd (Check ds) = BareDemands ds
BareCmd (Suppose ds) = BareSayings ds
BareCmd (Forget xs) = ⊥
BareCmd (Put xs es) = ⊥
BareCmd (Perform k) = ⊥
BareCmd Finish = ⊥

abbrev pub BareCmds : List Cmd → Type 0
BareCmds [] = Unit {0}
BareCmds (k ∷ ks) = BareCmd k × BareCmds ks

abbrev pub IsLeap : Exit → Type 0
IsLeap (Leap ks) = Unit {0}
IsLeap (Either g on off) = ⊥

abbrev pub BareBlocks : List Block → Type 0
BareBlocks [] = Unit {0}
BareBlocks (b ∷ bs) = (BareCmds b.cmds × IsLeap b.exit) × BareBlocks bs

-- ---- run alike

module _ (ts : List Table) (xs : List Val) (gs fs : List Ty) (set other : ℕ → Bool) where
  abbrev pub this : (ℕ → Bool) → Around
  this u = record { set = u; tables = ts; before = xs; globals = gs; frame = fs }

  check_alike : (s : Seen) (d : Demand) → d.candidate ≡ None → check_one set s d ≡ check_one other s d
  check_alike s d e = rw e refl

  checks_alike : (s : Seen) (ds : List Demand) → BareDemands ds → checks set s ds ≡ checks other s ds
  checks_alike s [] h = refl
  checks_alike s (d ∷ ds) h = rw (check_alike s d h.0, checks_alike s ds h.1) refl

  suppose_alike : (s : Seen) (d : Saying) → d.candidate ≡ None → suppose_one set s d ≡ suppose_one other s d
  suppose_alike s d e = rw e refl

  supposes_alike : (s : Seen) (ds : List Saying) → BareSayings ds → supposes set s ds ≡ supposes other s ds
  supposes_alike s [] h = refl
  supposes_alike s (d ∷ ds) h = rw (suppose_alike s d h.0, supposes_alike s ds h.1) refl

  act_alike : (k : Cmd) (m : Moment) → BareCmd k → acts (this set) k m ≡ acts (this other) k m
  act_alike (Check ds) m h = ap (λ x. on_said x m) (checks_alike (seen_at (this set) m) ds h)
  act_alike (Suppose ds) m h = ap (λ x. on_said x m) (supposes_alike (seen_at (this set) m) ds h)
  act_alike (Forget ys) m h = absurd h
  act_alike (Put ys es) m h = absurd h
  act_alike (Perform k) m h = absurd h
  act_alike Finish m h = absurd h

  so_alike : (o : Out) (f g : Moment → Out) → ((m : Moment) → f m ≡ g m) → and_so o f ≡ and_so o g
  so_alike (Goes m) f g h = h m
  so_alike (Over a) f g h = refl
  so_alike (Outside o) f g h = refl
  so_alike Unknown f g h = refl

  acts_alike : (ks : List Cmd) (m : Moment) → BareCmds ks → acts_each (this set) ks m ≡ acts_each (this other) ks m
  acts_alike [] m h = refl
  acts_alike (k ∷ ks) m h =
      ap (λ o. and_so o (acts_each (this set) ks)) (act_alike k m h.0)
      ∙ so_alike (acts (this other) k m) (acts_each (this set) ks) (acts_each (this other) ks) (λ n. acts_alike ks n h.1)

  leaves_alike : (x : Exit) (m : Moment) → IsLeap x → leaves (this set) x m ≡ leaves (this other) x m
  leaves_alike (Leap []) m h = refl
  leaves_alike (Leap (k ∷ [])) m h = refl
  leaves_alike (Leap (k ∷ l ∷ ks)) m h = refl
  leaves_alike (Either g on off) m h = absurd h

  enters_alike : (w : Way) (f g : ℕ → Moment → Said) → ((k : ℕ) (m : Moment) → f k m ≡ g k m) → enters w f ≡ enters w g
  enters_alike (On k m) f g h = h k m
  enters_alike (Off x) f g h = refl
  enters_alike (Beyond o) f g h = refl
  enters_alike Nowhere f g h = refl

  ran_alike : (o : Out) (f g : Moment → Said) → ((m : Moment) → f m ≡ g m) → ran o f ≡ ran o g
  ran_alike (Goes m) f g h = h m
  ran_alike (Over a) f g h = refl
  ran_alike (Outside o) f g h = refl
  ran_alike Unknown f g h = refl

  pub runs_alike : (k : ℕ) (bs : List Block) (m : Moment) → BareBlocks bs → runs (this set) k bs m ≡ runs (this other) k bs m
  runs_alike k [] m h = refl
  runs_alike zero (b ∷ bs) m h =
      ap (λ o. ran o (λ n. enters (leaves (this set) b.exit n) (λ k u. runs (this set) k bs u))) (acts_alike b.cmds m h.0.0)
      ∙ ran_alike (acts_each (this other) b.cmds m) _ _
      (λ n. ap (λ w. enters w (λ k u. runs (this set) k bs u)) (leaves_alike b.exit n h.0.1)
      ∙ enters_alike (leaves (this other) b.exit n) _ _ (λ k u. runs_alike k bs u h.1))
  runs_alike (suc k) (b ∷ bs) m h = runs_alike k bs m h.1

-- ---- the axioms' own program

bare_plain : (es : List Ex) → BareSayings (plain es [])
bare_plain [] = tt
bare_plain (e ∷ es) = (refl, bare_plain es)

bare_together : (ks ls : List Cmd) → BareCmds ks → BareCmds ls → BareCmds (ks ++ ls)
bare_together [] ls h k = k
bare_together (x ∷ ks) ls h k = (h.0, bare_together ks ls h.1 k)

bare_led : (o : Bool) (ks : List Cmd) (bs : List Block) → BareCmds ks → BareBlocks bs → BareBlocks (led o ks bs)
bare_led false ks bs h k = ((h, tt), k)
bare_led true ks [] h k = ((h, tt), tt)
bare_led true ks (b ∷ bs) h k = ((bare_together ks b.cmds h k.0.0, k.0.1), k.1)

module _ (depth : ℕ) (p : Prog) where
  abbrev pub A : Prog
  A = axiom_program depth p

  abbrev pub M : Impl
  M = opened_impl 0 (bodies_of depth (of_axioms p)) (claims p) claims_false

  abbrev pub Q : Proc
  Q = opened_proc 0 (bodies_of depth (of_axioms p)) bare

  abbrev body : List Ex → Core
  body es = desugar A (frame_decls M Q) (supposing es (opened_st 0 (bodies_of depth (of_axioms p)) claims_false.body))

  -- the commands with which a body begins
  abbrev cmds_in : Core → List Cmd
  cmds_in (Do ks) = ks
  cmds_in (Seq a b) = cmds_in a
  cmds_in _ = []

  body_bare : (es : List Ex) (t : Coded) → BareBlocks t.blocks → BareBlocks (code (body es) t).blocks
  body_bare [] t k = bare_led t.takes_in (cmds_in (body [])) t.blocks ((refl, tt), tt) k
  body_bare (e ∷ es) t k =
      bare_led (code (body es) t).takes_in (Suppose (plain (e ∷ []) []) ∷ []) (code (body es) t).blocks ((refl, tt), tt) (body_bare es t k)

  pub bare_blocks : BareBlocks (blocks_in A 0 M Q)
  bare_blocks =
      let r = routine_of A 0 M Q in
      bare_led (code r.body (at_end r.wanted)).takes_in (Suppose r.given ∷ []) (code r.body (at_end r.wanted)).blocks (bare_plain (wheres_of (A.globals ++ frame_decls M Q)), tt)
      (body_bare (map (opened 0 (bodies_of depth (of_axioms p))) (claims p)) (at_end r.wanted) (((tt, tt), tt), tt))

  -- what it says doesn't depend on the set
  pub alike : (set other : ℕ → Bool) (ts : List Table) (xs : List Val) → run_in A set 0 M Q ts xs ≡ run_in A other 0 M Q ts xs
  alike set other ts xs = runs_alike ts xs (types_of A.globals) (types_of (frame_decls M Q)) set other 0 (blocks_in A 0 M Q) (moment_in xs [] []) bare_blocks
