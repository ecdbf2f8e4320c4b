-- Runs of typed blocks meet nothing of another type than it should be: commands, ways and blocks.
use Rattle.std.proofs.Common.{◌≡◌, ℕ, zero, suc, true, false, List, [], ◌∷◌, ◌++◌, map, Option, Some, None, refl, ap, sym, ◌∙◌, subst}
use Rattle.std.specs.Prelude.{if◌then◌else◌, ◌&&◌, slice_get}
use Rattle.bg_ast.specs.Values.{Val, Num, Truth, Element, Default, Entry, Ty, BoolTy, is_of}
use Rattle.bg_ast.specs.Execution.{Choice}
use Rattle.bg_ast.specs.Syntax.{Var, Global, Local, Star, Test, Decl, Prog}
use Rattle.bg_sense.specs.Types.{are_of, types_of}
use Rattle.bg_sense.specs.Typing.{Sig}
use Rattle.bg_sense.proofs.Bools.{and_left, and_right}
use Rattle.bg_flow.specs.Core.{Saying, Plan, Cmd, Check, Suppose, Forget, Put, Perform, Finish}
use Rattle.bg_flow.specs.Blocks.{Exit, Leap, Either, Block}
use Rattle.bg_passive.specs.Incarnations.{ty_of}
use Rattle.bg_block_types.specs.TypedFlow.{sig_with, sig_here, SayingsAreTyped, PlanIsTyped, CmdIsTyped, CmdsAreTyped, ExitIsTyped, CodeIsTyped}
use Rattle.bg_scalar.specs.Worths as is_worth
use Rattle.bg_scalar.specs.Worths.{Seen, WorthOf, worth}
use Rattle.bg_scalar.specs.Lists.{Listed, Are, Leave, NoValues, worths}
use Rattle.bg_scalar.specs.Typed.{are_valued, Sees, HasWorth, HaveWorths}
use Rattle.bg_scalar.proofs.Tabled.{said_typed}
use Rattle.bg_scalar.proofs.Typing.{has_worth, have_worths}
use Rattle.bg_replay.specs.Holds.{type_at, variable_type}
use Rattle.bg_replay.specs.Moments.{Moment, Around, Out, Goes, Over, Outside, Unknown, and_so, seen_at}
use Rattle.bg_replay.specs.Said.{Said, Fine, Stops, Leaves, Unsaid, on_said, checks, supposes}
use Rattle.bg_replay.specs.Acts.{taken, moved, choose_by, put, put_each, forgotten, assigned, chosen, skipped, given_back, called_with, acts}
use Rattle.bg_replay.specs.Ways.{Way, On, Off, Beyond, Nowhere, branched, go_to, branch_to, test_to, leaves, acts_each, enters, ran, runs}
use Rattle.bg_replay.specs.Over.{over_demands, over_sayings, over_cmd, over_exit, over_cmds, over_blocks}
use Rattle.bg_replay.specs.Endings.{Tells, TypedMoment, TypedAround}
use Rattle.bg_replay.proofs.Agreeing.{type_is}
use Rattle.bg_replay.proofs.Calling.{both_true}
use Rattle.bg_replay.proofs.Known.{checks_tell, supposes_tell}
use Rattle.bg_replay.proofs.Typed.{typed_set, typed_join, taken_typed, chosen_typed}

module _ (p : Prog) (ds : List Decl) (a : Around) where
  abbrev Typed : Moment → Type 0
  Typed = TypedMoment p ds

  abbrev Known : Out → Type 0
  Known (Goes m) = Typed m
  Known (Over x) = Unit {0}
  Known (Outside o) = Unit {0}
  Known Unknown = ⊥

  known_then : (o : Out) (g : Moment → Out) → Known o → ((m : Moment) → Typed m → Known (g m)) → Known (and_so o g)
  known_then (Goes m) g h k = k m h
  known_then (Over x) g h k = tt
  known_then (Outside o) g h k = tt
  known_then Unknown g h k = absurd h

  known_on : (s : Said) (m : Moment) → Tells s → Typed m → Known (on_said s m)
  known_on Fine m h w = w
  known_on (Stops x) m h w = tt
  known_on (Leaves o) m h w = tt
  known_on Unsaid m h w = absurd h

  typed_put : (x : Var) (y : Val) (m : Moment) → is_of (ty_of p ds x) y ≡ true → Typed m → Typed (put x y m)
  typed_put (Global x) y m t w = record { globals = typed_set p.globals m.globals x y w.globals t; frame = w.frame }
  typed_put (Local x) y m t w = record { globals = w.globals; frame = typed_set ds m.frame x y w.frame t }

  typed_each : (xs : List Var) (ys : List Val) (m : Moment) → are_of (map (ty_of p ds) xs) ys ≡ true → Typed m → Typed (put_each xs ys m)
  typed_each [] ys m t w = w
  typed_each (x ∷ xs) [] m t w = w
  typed_each (x ∷ xs) (y ∷ ys) m t w =
      typed_each xs ys (put x y m) (and_right (is_of (ty_of p ds x) y) (are_of (map (ty_of p ds) xs) ys) t)
      (typed_put x y m (and_left (is_of (ty_of p ds x) y) (are_of (map (ty_of p ds) xs) ys) t) w)

  known_choice : (o : Option Val) (m : Moment) (g : Val → Moment → Out) → ((y : Val) → o ≡ Some y → Known (g y m)) → Known (choose_by o m g)
  known_choice None m g k = tt
  known_choice (Some y) m g k = k y refl

  typed_moved : (m : Moment) → Typed m → Typed (moved m)
  typed_moved m w = record { globals = w.globals; frame = w.frame }

  module _ (b : TypedAround p ds a) where
    type_there : (x : Var) → variable_type a x ≡ ty_of p ds x
    type_there (Global x) = ap (λ l. type_at l x) b.globals ∙ type_is p.globals x
    type_there (Local x) = ap (λ l. type_at l x) b.frame ∙ type_is ds x

    known_forgotten : (xs : List Var) (m : Moment) → Typed m → Known (forgotten a xs m)
    known_forgotten [] m w = w
    known_forgotten (x ∷ xs) m w =
        rw (type_there x)
        (known_choice (taken (ty_of p ds x) m.choices) (moved m) (λ y n. forgotten a xs (put x y n))
        (λ y e. known_forgotten xs (put x y (moved m)) (typed_put x y (moved m) (taken_typed (ty_of p ds x) m.choices y e) (typed_moved m w))))

    -- what the specification of a call sees
    abbrev there : List Ty → Sig
    there ts = sig_with p (types_of p.globals) ts

    known_given : (params : List Ty) (results : List Decl) (cs : List Choice) (o : Option (List Val)) (was args : List Val) (gives : List Saying) (takes : List Var) (m : Moment) → ((ys : List Val) → o ≡ Some ys → are_of (types_of results) ys ≡ true) → are_of (types_of p.globals) was ≡ true → are_of params args ≡ true → SayingsAreTyped (there (params ++ types_of results)) gives → over_sayings gives ≡ true → map (ty_of p ds) takes ≡ types_of results → Typed m → Known (given_back o a was args gives takes m)
    known_given params results cs None was args gives takes m l hw ha t h e w = tt
    known_given params results cs (Some ys) was args gives takes m l hw ha t h e w =
        let u = skipped ys m in
        let s : Seen = record { tables = a.tables; globals = u.globals; before = was; frame = args ++ ys } in
        let typed : Typed u = record { globals = w.globals; frame = w.frame } in
        let sees : Sees (there (params ++ types_of results)) s =
        record { tables = said_typed p.functions a.tables b.tables; globals = w.globals; before = hw; frame = typed_join params (types_of results) args ys ha (l ys refl) } in
        known_then (on_said (supposes a.set s gives) u) (λ n. Goes (put_each takes ys n))
        (known_on (supposes a.set s gives) u (supposes_tell a.set (there (params ++ types_of results)) s gives sees t h) typed)
        (λ n k. typed_each takes ys n (subst (λ ts. are_of ts ys ≡ true) (sym e) (l ys refl)) k)

    known_call : (o : Listed) (k : Plan) (m : Moment) → HaveWorths (types_of k.params) o → PlanIsTyped p ds k → over_demands k.needs ≡ true → over_sayings k.gives ≡ true → Typed m → Known (called_with o a k.needs k.modifies (types_of k.results) k.gives k.takes m)
    known_call (Leave o) k m h t hn hg w = tt
    known_call NoValues k m h t hn hg w = absurd h
    known_call (Are xs) k m h t hn hg w =
        let s : Seen = record { tables = a.tables; globals = m.globals; before = m.globals; frame = xs } in
        let sees : Sees (there (types_of k.params)) s = record { tables = said_typed p.functions a.tables b.tables; globals = w.globals; before = w.globals; frame = h } in
        known_then (on_said (checks a.set s k.needs) m) (λ n. and_so (forgotten a k.modifies n) (λ u. given_back (chosen (types_of k.results) u.choices) a n.globals xs k.gives k.takes u))
        (known_on (checks a.set s k.needs) m (checks_tell a.set (there (types_of k.params)) s k.needs sees t.1.0 hn) w)
        (λ n wn. known_then (forgotten a k.modifies n) (λ u. given_back (chosen (types_of k.results) u.choices) a n.globals xs k.gives k.takes u)
        (known_forgotten k.modifies n wn)
        (λ u wu. known_given (types_of k.params) k.results u.choices (chosen (types_of k.results) u.choices) n.globals xs k.gives k.takes u (chosen_typed k.results u.choices) wn.globals h t.1.1.0 hg t.1.1.1 wu))

    known_assigned : (o : Listed) (xs : List Var) (m : Moment) → HaveWorths (map (ty_of p ds) xs) o → Typed m → Known (assigned o xs m)
    known_assigned (Are ys) xs m h w = typed_each xs ys m h w
    known_assigned (Leave o) xs m h w = tt
    known_assigned NoValues xs m h w = absurd h

    sees_here : (m : Moment) → Typed m → Sees (sig_here p ds) (seen_at a m)
    sees_here m w = record { tables = said_typed p.functions a.tables b.tables; globals = w.globals; before = b.before; frame = w.frame }

    known_act : (k : Cmd) (m : Moment) → CmdIsTyped p ds k → over_cmd k ≡ true → Typed m → Known (acts a k m)
    known_act (Check qs) m t h w =
        known_on (checks a.set (seen_at a m) qs) m (checks_tell a.set (sig_here p ds) (seen_at a m) qs (sees_here m w) t h) w
    known_act (Suppose qs) m t h w =
        known_on (supposes a.set (seen_at a m) qs) m (supposes_tell a.set (sig_here p ds) (seen_at a m) qs (sees_here m w) t h) w
    known_act (Forget xs) m t h w = known_forgotten xs m w
    known_act (Put xs es) m t h w =
        known_assigned (worths es (seen_at a m)) xs m (have_worths es (seen_at a m) (sig_here p ds) (map (ty_of p ds) xs) h t.0 (sees_here m w)) w
    known_act (Perform k) m t h w =
        let h1 = both_true (are_valued k.args) (over_demands k.needs && over_sayings k.gives) h in
        let h2 = both_true (over_demands k.needs) (over_sayings k.gives) h1.1 in
        known_call (worths k.args (seen_at a m)) k m (have_worths k.args (seen_at a m) (sig_here p ds) (types_of k.params) h1.0 t.0.0 (sees_here m w)) t h2.0 h2.1 w
    known_act Finish m t h w = tt

    known_acts : (ks : List Cmd) (m : Moment) → CmdsAreTyped p ds ks → over_cmds ks ≡ true → Typed m → Known (acts_each a ks m)
    known_acts [] m t h w = w
    known_acts (k ∷ ks) m t h w =
        let l = both_true (over_cmd k) (over_cmds ks) h in
        known_then (acts a k m) (acts_each a ks) (known_act k m t.0 l.0 w) (λ n v. known_acts ks n t.1 l.1 v)

    -- a block is entered with values of the variables' types, or the run is over
    abbrev KnownWay : Way → Type 0
    KnownWay (On k m) = Typed m
    KnownWay (Off x) = Unit {0}
    KnownWay (Beyond o) = Unit {0}
    KnownWay Nowhere = ⊥

    known_to : (o : Option ℕ) (m : Moment) → Typed m → KnownWay (go_to o m)
    known_to None m w = tt
    known_to (Some k) m w = w

    known_branch : (o : Option ℕ) (ks : List ℕ) (m : Moment) → Typed m → KnownWay (branch_to o ks m)
    known_branch None ks m w = tt
    known_branch (Some j) ks m w = known_to (slice_get ks j) m w

    known_test : (o : WorthOf) (on off : ℕ) (m : Moment) → HasWorth BoolTy o → Typed m → KnownWay (test_to o on off m)
    known_test (is_worth.Is (Truth true)) on off m h w = w
    known_test (is_worth.Is (Truth false)) on off m h w = w
    known_test (is_worth.Is (Num z)) on off m h w = absurd (let bad : ⊥ = cc in bad)
    known_test (is_worth.Is (Element u z)) on off m h w = absurd (let bad : ⊥ = cc in bad)
    known_test (is_worth.Is (Default d)) on off m h w = absurd (let bad : ⊥ = cc in bad)
    known_test (is_worth.Is (Entry q u n)) on off m h w = absurd (let bad : ⊥ = cc in bad)
    known_test (is_worth.Leaves o) on off m h w = tt
    known_test is_worth.NoValue on off m h w = absurd h

    known_leaves : (x : Exit) (m : Moment) → ExitIsTyped p ds x → over_exit x ≡ true → Typed m → KnownWay (leaves a x m)
    known_leaves (Leap []) m t h w = w
    known_leaves (Leap (k ∷ [])) m t h w = w
    known_leaves (Leap (k ∷ l ∷ ks)) m t h w = known_branch (branched m.choices) (k ∷ l ∷ ks) (moved m) (typed_moved m w)
    known_leaves (Either Star on off) m t h w = known_branch (branched m.choices) (on ∷ off ∷ []) (moved m) (typed_moved m w)
    known_leaves (Either (Test e) on off) m t h w =
        known_test (worth e (seen_at a m)) on off m (has_worth e (seen_at a m) (sig_here p ds) BoolTy h t.0 (sees_here m w)) w

    tells_enters : (w : Way) (g : ℕ → Moment → Said) → KnownWay w → ((k : ℕ) (u : Moment) → Typed u → Tells (g k u)) → Tells (enters w g)
    tells_enters (On k m) g h ih = ih k m h
    tells_enters (Off x) g h ih = tt
    tells_enters (Beyond o) g h ih = tt
    tells_enters Nowhere g h ih = absurd h

    tells_ran : (o : Out) (g : Moment → Said) → Known o → ((u : Moment) → Typed u → Tells (g u)) → Tells (ran o g)
    tells_ran (Goes m) g h ih = ih m h
    tells_ran (Over x) g h ih = tt
    tells_ran (Outside o) g h ih = tt
    tells_ran Unknown g h ih = absurd h

    pub runs_tell : (k : ℕ) (bs : List Block) (m : Moment) → CodeIsTyped p ds bs → over_blocks bs ≡ true → Typed m → Tells (runs a k bs m)
    runs_tell k [] m t h w = tt
    runs_tell zero (x ∷ bs) m t h w =
        let l = both_true (over_cmds x.cmds) (over_exit x.exit && over_blocks bs) h in
        let n = both_true (over_exit x.exit) (over_blocks bs) l.1 in
        tells_ran (acts_each a x.cmds m) (λ u. enters (leaves a x.exit u) (λ k v. runs a k bs v)) (known_acts x.cmds m t.0.0 l.0 w)
        (λ u wu. tells_enters (leaves a x.exit u) (λ k v. runs a k bs v) (known_leaves x.exit u t.0.1 n.0 wu) (λ k v wv. runs_tell k bs v t.1 n.1 wv))
    runs_tell (suc k) (x ∷ bs) m t h w =
        let l = both_true (over_cmds x.cmds) (over_exit x.exit && over_blocks bs) h in
        let n = both_true (over_exit x.exit) (over_blocks bs) l.1 in
        runs_tell k bs m t.1 n.1 w
