-- The run of the axioms' own program is the same under tables that agree where functions have no body: it applies no other functions.
use Rattle.std.proofs.Common.{◌≡◌, ℕ, zero, suc, Bool, true, false, List, [], ◌∷◌, ◌++◌, map, refl, ap, ◌∙◌}
use Rattle.std.specs.Prelude.{◌&&◌, not, slice_get}
use Rattle.std.specs.List.{list_all}
use Rattle.bg_ast.specs.Syntax.{Global, Local, Ex, Exs, Number, Fact, Constant, Read, Not, Negative, Binary, Apply, Select, Update, Old, NoMore, More, St, Const, Fun, Prog}
use Rattle.bg_fits.specs.Valued.{is_value_type, is_empty, st_passes, fun_passes, proc_passes, impl_passes, decls_pass}
use Rattle.bg_sense.specs.Tables.{has_body}
use Rattle.bg_sense.specs.Variables.{wheres_of}
use Rattle.bg_sense.proofs.Bools.{and_left, and_right}
use Rattle.bg_sense.specs.Types.{types_of}
use Rattle.bg_ast.specs.Values.{Val, Table, Ty}
use Rattle.bg_flow.specs.Core.{Demand, Saying, Cmd, Check, Suppose, Forget, Put, Perform, Finish, Core, Seq, Do, plain, desugar, frame_decls, routine_of}
use Rattle.bg_flow.specs.Blocks.{Exit, Leap, Either, Block, Coded, led, code, at_end}
use Rattle.bg_block_types.specs.Typed.{blocks_in}
use Rattle.bg_sense.specs.Eval.{look_up}
use Rattle.bg_scalar.specs.Worths.{Is, Seen, Listed, Are, Leave, NoValues, and_then, and_then_all, cons, joined, selected, updated, not_on, minus_on, worth, worths}
use Rattle.bg_replay.specs.Moments.{Moment, Around, Out, Goes, Over, Outside, Unknown, and_so, seen_at}
use Rattle.bg_replay.specs.Said.{Said, on_said, checks, supposes}
use Rattle.bg_replay.specs.Acts.{acts}
use Rattle.bg_replay.specs.Endings.{moment_in}
use Rattle.bg_replay.specs.Ways.{Way, On, Off, Beyond, Nowhere, leaves, acts_each, enters, ran, runs}
use Rattle.bg_opened.specs.Exprs.{opened, raw_bodies}
use Rattle.bg_opened.specs.Unique.{claims}
use Rattle.bg_opened.specs.Programs.{global_for, supposing, opened_st, bodies_of}
use Rattle.bg_opened.specs.Axioms.{claims_false, of_axioms, axiom_program}
use Rattle.bg_opened.specs.Openable.{IsOpenable}
use Rattle.bg_opened.proofs.Plain.{is_plain, are_plain, is_over_plain}
use Rattle.bg_opened.proofs.Scalars.{over_plain}
use Rattle.bg_opened.proofs.Whole.{q_openable}
use Rattle.bg_confirm.specs.Met.{run_in}
use Rattle.bg_confirm.proofs.Candidates.{IsLeap, A, M, Q}

-- ---- what is plain

module _ (F : List Fun) where
  abbrev pub PlainDemands : List Demand → Type 0
  PlainDemands [] = Unit {0}
  PlainDemands (d ∷ ds) = (is_plain F d.says ≡ true) × PlainDemands ds

  abbrev pub PlainSayings : List Saying → Type 0
  PlainSayings [] = Unit {0}
  PlainSayings (d ∷ ds) = (is_plain F d.says ≡ true) × PlainSayings ds

  abbrev pub PlainCmd : Cmd → Type 0
  PlainCmd (Check ds) = PlainDemands ds
  PlainCmd (Suppose ds) = PlainSayings ds
  PlainCmd (Forget xs) = ⊥
  PlainCmd (Put xs es) = ⊥
  PlainCmd (Perform k) = ⊥
  PlainCmd Finish = ⊥

  abbrev pub PlainCmds : List Cmd → Type 0
  PlainCmds [] = Unit {0}
  PlainCmds (k ∷ ks) = PlainCmd k × PlainCmds ks

  abbrev pub PlainBlocks : List Block → Type 0
  PlainBlocks [] = Unit {0}
  PlainBlocks (b ∷ bs) = (PlainCmds b.cmds × IsLeap b.exit) × PlainBlocks bs

-- tables that say the same of functions without a body
abbrev pub Agree : List Fun → List Table → List Table → Type 0
Agree F ts us = (f : ℕ) → has_body (raw_bodies F f) ≡ false → slice_get ts f ≡ slice_get us f

false_of : (b : Bool) → not b ≡ true → b ≡ false
false_of true h = absurd (let bad : ⊥ = cc in bad)
false_of false h = refl

-- ---- expressions are worth the same

module _ (F : List Fun) (ts us : List Table) (agree : Agree F ts us) where
  abbrev seen : List Table → List Val → List Val → List Val → Seen
  seen vs g b f = record { tables = vs; globals = g; before = b; frame = f }

  told_alike : (f : ℕ) (l : Listed) → has_body (raw_bodies F f) ≡ false → and_then_all l (λ xs. Is (look_up (slice_get ts f) xs)) ≡ and_then_all l (λ xs. Is (look_up (slice_get us f) xs))
  told_alike f (Are xs) h = ap (λ t. Is (look_up t xs)) (agree f h)
  told_alike f (Leave o) h = refl
  told_alike f NoValues h = refl

  mutual
    worth_alike : (e : Ex) (g b f : List Val) → is_plain F e ≡ true → worth e (seen ts g b f) ≡ worth e (seen us g b f)
    worth_alike (Number z) g b f h = refl
    worth_alike (Fact t) g b f h = refl
    worth_alike (Constant k) g b f h = absurd (let bad : ⊥ = cc in bad)
    worth_alike (Read (Global x)) g b f h = refl
    worth_alike (Read (Local x)) g b f h = refl
    worth_alike (Not e) g b f h = ap (λ a. and_then a not_on) (worth_alike e g b f h)
    worth_alike (Negative e) g b f h = ap (λ a. and_then a minus_on) (worth_alike e g b f h)
    worth_alike (Binary o x y) g b f h =
        ap (λ a. joined o a (worth y (seen ts g b f))) (worth_alike x g b f (and_left (is_plain F x) (is_plain F y) h))
        ∙ ap (λ a. joined o (worth x (seen us g b f)) a) (worth_alike y g b f (and_right (is_plain F x) (is_plain F y) h))
    worth_alike (Apply k es) g b f h =
        ap (λ l. and_then_all l (λ xs. Is (look_up (slice_get ts k) xs))) (worths_alike es g b f (and_right (not (has_body (raw_bodies F k))) (are_plain F es) h))
        ∙ told_alike k (worths es (seen us g b f)) (false_of (has_body (raw_bodies F k)) (and_left (not (has_body (raw_bodies F k))) (are_plain F es) h))
    worth_alike (Select m es) g b f h =
        ap (λ a. selected a (worths es (seen ts g b f))) (worth_alike m g b f (and_left (is_plain F m) (are_plain F es) h))
        ∙ ap (λ l. selected (worth m (seen us g b f)) l) (worths_alike es g b f (and_right (is_plain F m) (are_plain F es) h))
    worth_alike (Update m es e) g b f h =
        let rest = and_right (is_plain F m) (are_plain F es && is_plain F e) h in
        ap (λ a. updated a (worths es (seen ts g b f)) (worth e (seen ts g b f))) (worth_alike m g b f (and_left (is_plain F m) (are_plain F es && is_plain F e) h))
        ∙ (ap (λ l. updated (worth m (seen us g b f)) l (worth e (seen ts g b f))) (worths_alike es g b f (and_left (are_plain F es) (is_plain F e) rest))
        ∙ ap (λ a. updated (worth m (seen us g b f)) (worths es (seen us g b f)) a) (worth_alike e g b f (and_right (are_plain F es) (is_plain F e) rest)))
    worth_alike (Old e) g b f h = worth_alike e b b f h

    worths_alike : (es : Exs) (g b f : List Val) → are_plain F es ≡ true → worths es (seen ts g b f) ≡ worths es (seen us g b f)
    worths_alike NoMore g b f h = refl
    worths_alike (More e es) g b f h =
        ap (λ a. cons a (worths es (seen ts g b f))) (worth_alike e g b f (and_left (is_plain F e) (are_plain F es) h))
        ∙ ap (λ l. cons (worth e (seen us g b f)) l) (worths_alike es g b f (and_right (is_plain F e) (are_plain F es) h))

  -- ---- runs are alike

  module _ (set : ℕ → Bool) (xs : List Val) (gs fs : List Ty) where
    abbrev this : List Table → Around
    this vs = record { set = set; tables = vs; before = xs; globals = gs; frame = fs }

    checks_alike : (m : Moment) (ds : List Demand) → PlainDemands F ds → checks set (seen_at (this ts) m) ds ≡ checks set (seen_at (this us) m) ds
    checks_alike m [] h = refl
    checks_alike m (d ∷ ds) h = rw (worth_alike d.says m.globals xs m.frame h.0, checks_alike m ds h.1) refl

    supposes_alike : (m : Moment) (ds : List Saying) → PlainSayings F ds → supposes set (seen_at (this ts) m) ds ≡ supposes set (seen_at (this us) m) ds
    supposes_alike m [] h = refl
    supposes_alike m (d ∷ ds) h = rw (worth_alike d.says m.globals xs m.frame h.0, supposes_alike m ds h.1) refl

    act_alike : (k : Cmd) (m : Moment) → PlainCmd F k → acts (this ts) k m ≡ acts (this us) k m
    act_alike (Check ds) m h = ap (λ x. on_said x m) (checks_alike m ds h)
    act_alike (Suppose ds) m h = ap (λ x. on_said x m) (supposes_alike m ds h)
    act_alike (Forget ys) m h = absurd h
    act_alike (Put ys es) m h = absurd h
    act_alike (Perform k) m h = absurd h
    act_alike Finish m h = absurd h

    so_alike : (o : Out) (f g : Moment → Out) → ((m : Moment) → f m ≡ g m) → and_so o f ≡ and_so o g
    so_alike (Goes m) f g h = h m
    so_alike (Over a) f g h = refl
    so_alike (Outside o) f g h = refl
    so_alike Unknown f g h = refl

    acts_alike : (ks : List Cmd) (m : Moment) → PlainCmds F ks → acts_each (this ts) ks m ≡ acts_each (this us) ks m
    acts_alike [] m h = refl
    acts_alike (k ∷ ks) m h =
        ap (λ o. and_so o (acts_each (this ts) ks)) (act_alike k m h.0)
        ∙ so_alike (acts (this us) k m) (acts_each (this ts) ks) (acts_each (this us) ks) (λ n. acts_alike ks n h.1)

    leaves_alike : (x : Exit) (m : Moment) → IsLeap x → leaves (this ts) x m ≡ leaves (this us) x m
    leaves_alike (Leap []) m h = refl
    leaves_alike (Leap (k ∷ [])) m h = refl
    leaves_alike (Leap (k ∷ l ∷ ks)) m h = refl
    leaves_alike (Either g on off) m h = absurd h

    enters_alike : (w : Way) (f g : ℕ → Moment → Said) → ((k : ℕ) (m : Moment) → f k m ≡ g k m) → enters w f ≡ enters w g
    enters_alike (On k m) f g h = h k m
    enters_alike (Off x) f g h = refl
    enters_alike (Beyond o) f g h = refl
    enters_alike Nowhere f g h = refl

    ran_alike : (o : Out) (f g : Moment → Said) → ((m : Moment) → f m ≡ g m) → ran o f ≡ ran o g
    ran_alike (Goes m) f g h = h m
    ran_alike (Over a) f g h = refl
    ran_alike (Outside o) f g h = refl
    ran_alike Unknown f g h = refl

    pub runs_alike : (k : ℕ) (bs : List Block) (m : Moment) → PlainBlocks F bs → runs (this ts) k bs m ≡ runs (this us) k bs m
    runs_alike k [] m h = refl
    runs_alike zero (b ∷ bs) m h =
        ap (λ o. ran o (λ n. enters (leaves (this ts) b.exit n) (λ k u. runs (this ts) k bs u))) (acts_alike b.cmds m h.0.0)
        ∙ ran_alike (acts_each (this us) b.cmds m) _ _
        (λ n. ap (λ w. enters w (λ k u. runs (this ts) k bs u)) (leaves_alike b.exit n h.0.1)
        ∙ enters_alike (leaves (this us) b.exit n) _ _ (λ k u. runs_alike k bs u h.1))
    runs_alike (suc k) (b ∷ bs) m h = runs_alike k bs m h.1

-- ---- the axioms' own program

module _ (F : List Fun) where
  plain_together : (ks ls : List Cmd) → PlainCmds F ks → PlainCmds F ls → PlainCmds F (ks ++ ls)
  plain_together [] ls h k = k
  plain_together (x ∷ ks) ls h k = (h.0, plain_together ks ls h.1 k)

  plain_led : (o : Bool) (ks : List Cmd) (bs : List Block) → PlainCmds F ks → PlainBlocks F bs → PlainBlocks F (led o ks bs)
  plain_led false ks bs h k = ((h, tt), k)
  plain_led true ks [] h k = ((h, tt), tt)
  plain_led true ks (b ∷ bs) h k = ((plain_together ks b.cmds h k.0.0, k.0.1), k.1)

  -- variables that stand for constants have no `where` clauses
  given_plain : (cs : List Const) → PlainSayings F (plain (wheres_of (map global_for cs ++ [])) [])
  given_plain [] = tt
  given_plain (c ∷ cs) = given_plain cs

  -- what is assumed in front of a body that passes is plain
  supposed_plain : (n : ℕ) (es : List Ex) (s : St) → st_passes n (is_plain F) (supposing es s) ≡ true → list_all (is_plain F) es ≡ true
  supposed_plain n [] s h = refl
  supposed_plain n (e ∷ es) s h =
      let k = and_left (is_plain F e) (st_passes n (is_plain F) (supposing es s)) h in
      let l = supposed_plain n es s (and_right (is_plain F e) (st_passes n (is_plain F) (supposing es s)) h) in
      rw (k, l) refl

  module _ (depth : ℕ) (p : Prog) where
    abbrev body : List Ex → Core
    body es = desugar (A depth p) (frame_decls (M depth p) (Q depth p)) (supposing es (opened_st 0 (bodies_of depth (of_axioms p)) claims_false.body))

    abbrev cmds_in : Core → List Cmd
    cmds_in (Do ks) = ks
    cmds_in (Seq a b) = cmds_in a
    cmds_in _ = []

    body_plain : (es : List Ex) (t : Coded) → list_all (is_plain F) es ≡ true → PlainBlocks F t.blocks → PlainBlocks F (code (body es) t).blocks
    body_plain [] t h k = plain_led t.takes_in (cmds_in (body [])) t.blocks ((refl, tt), tt) k
    body_plain (e ∷ es) t h k =
        plain_led (code (body es) t).takes_in (Suppose (plain (e ∷ []) []) ∷ []) (code (body es) t).blocks ((and_left (is_plain F e) (list_all (is_plain F) es) h, tt), tt)
        (body_plain es t (and_right (is_plain F e) (list_all (is_plain F) es) h) k)

    pub plain_blocks : list_all (is_plain F) (map (opened 0 (bodies_of depth (of_axioms p))) (claims p)) ≡ true → PlainBlocks F (blocks_in (A depth p) 0 (M depth p) (Q depth p))
    plain_blocks h =
        let r = routine_of (A depth p) 0 (M depth p) (Q depth p) in
        plain_led (code r.body (at_end r.wanted)).takes_in (Suppose r.given ∷ []) (code r.body (at_end r.wanted)).blocks (given_plain p.constants, tt)
        (body_plain (map (opened 0 (bodies_of depth (of_axioms p))) (claims p)) (at_end r.wanted) h (((tt, tt), tt), tt))

-- the claims of a program that can be opened are plain
claims_plain : (depth : ℕ) (p : Prog) → IsOpenable depth p → list_all (is_plain p.functions) (map (opened 0 (bodies_of depth (of_axioms p))) (claims p)) ≡ true
claims_plain depth p o =
    let q = of_axioms p in
    let F = p.functions in
    let x = axiom_program depth p in
    let ty = is_value_type in
    let h = q_openable depth p o in
    let all : is_over_plain F x ≡ true = over_plain depth q h.typed h.chains h.judged in
    let a = and_right (decls_pass ty (is_plain F) x.globals) _ all in
    let b = and_right (is_empty x.constants) _ a in
    let c = and_right (list_all (fun_passes ty) x.functions) _ b in
    let d = and_right (is_empty x.axioms) _ c in
    let e = and_right (list_all (proc_passes x.candidates ty (is_plain F)) x.procedures) _ d in
    let m = and_left (impl_passes x.candidates ty (is_plain F) (M depth p)) _ e in
    let s = and_right (decls_pass ty (is_plain F) (M depth p).locals) _ m in
    supposed_plain F x.candidates (map (opened 0 (bodies_of depth q)) (claims p)) (opened_st 0 (bodies_of depth q) claims_false.body) s

-- its run is the same under tables that agree
pub tables_alike : (depth : ℕ) (p : Prog) → IsOpenable depth p → (set : ℕ → Bool) (ts us : List Table) (xs : List Val) → Agree p.functions ts us → run_in (A depth p) set 0 (M depth p) (Q depth p) ts xs ≡ run_in (A depth p) set 0 (M depth p) (Q depth p) us xs
tables_alike depth p o set ts us xs agree =
    runs_alike p.functions ts us agree set xs (types_of (A depth p).globals) (types_of (frame_decls (M depth p) (Q depth p))) 0 (blocks_in (A depth p) 0 (M depth p) (Q depth p)) (moment_in xs [] [])
    (plain_blocks p.functions depth p (claims_plain depth p o))
