-- A run that doesn't lack a choice is the same with more choices behind.
use Rattle.std.proofs.Common.{◌≡◌, ℕ, zero, suc, ◌⊎◌, inl, inr, Bool, true, false, if◌then◌else◌, List, [], ◌∷◌, ◌++◌, length, drop, Option, Some, None, slice_get, refl, sym, ap, ◌∙◌, subst}
use Rattle.bg_ast.specs.Syntax.{Var, Global, Local, Star, Test}
use Rattle.bg_sense.specs.Flow.{BadChoice}
use Rattle.bg_sense.specs.Types.{types_of}
use Rattle.bg_ast.specs.Values.{Val, Num, Truth, Element, Default, Entry, Ty, is_of}
use Rattle.bg_ast.specs.Execution.{Choice, Branch, Chosen}
use Rattle.bg_flow.specs.Core.{Demand, Saying, Cmd, Check, Suppose, Forget, Put, Perform, Finish}
use Rattle.bg_flow.specs.Blocks.{Exit, Leap, Either, Block}
use Rattle.bg_scalar.specs.Lists.{Listed, Are, Leave, NoValues, worths}
use Rattle.bg_scalar.specs.Worths as w
use Rattle.bg_scalar.specs.Worths.{WorthOf, worth}
use Rattle.bg_replay.specs.Holds.{variable_type}
use Rattle.bg_replay.specs.Moments.{Moment, Around, Out, Goes, Over, Outside, Unknown, and_so, seen_at}
use Rattle.bg_replay.specs.Said.{Said, Fine, Stops, Leaves, Unsaid, on_said, checks, supposes}
use Rattle.bg_replay.specs.Acts.{taken, behind_one, choose_by, put, put_each, forgotten, assigned, cons_o, chosen, skipped, given_back, called_with, acts}
use Rattle.bg_replay.specs.Ways.{Way, On, Off, Beyond, Nowhere, branched, go_to, branch_to, test_to, leaves, acts_each, enters, ran, runs}

module _ (extra : List Choice) where
  -- the same moment with these choices behind those that are left
  abbrev more : Moment → Moment
  more m = record m { choices = m.choices ++ extra }

  abbrev more_out : Out → Out
  more_out (Goes m) = Goes (more m)
  more_out (Over a) = Over a
  more_out (Outside o) = Outside o
  more_out Unknown = Unknown

  abbrev Longer : Out → Out → Type 0
  Longer x y = (x ≡ Over BadChoice) ⊎ (y ≡ more_out x)

  and_longer : (x y : Out) (k l : Moment → Out) → Longer x y → ((m : Moment) → Longer (k m) (l (more m))) → Longer (and_so x k) (and_so y l)
  and_longer x y k l (inl e) h = inl (ap (λ z. and_so z k) e)
  and_longer (Goes m) y k l (inr e) h = subst (λ z. Longer (k m) (and_so z l)) (sym e) (h m)
  and_longer (Over a) y k l (inr e) h = inr (ap (λ z. and_so z l) e)
  and_longer (Outside o) y k l (inr e) h = inr (ap (λ z. and_so z l) e)
  and_longer Unknown y k l (inr e) h = inr (ap (λ z. and_so z l) e)

  said_longer : (x : Said) (m : Moment) → Longer (on_said x m) (on_said x (more m))
  said_longer Fine m = inr refl
  said_longer (Stops a) m = inr refl
  said_longer (Leaves o) m = inr refl
  said_longer Unsaid m = inr refl

  put_more : (x : Var) (y : Val) (m : Moment) → put x y (more m) ≡ more (put x y m)
  put_more (Global x) y m = refl
  put_more (Local x) y m = refl

  put_each_more : (xs : List Var) (ys : List Val) (m : Moment) → put_each xs ys (more m) ≡ more (put_each xs ys m)
  put_each_more [] ys m = refl
  put_each_more (x ∷ xs) [] m = refl
  put_each_more (x ∷ xs) (y ∷ ys) m = ap (put_each xs ys) (put_more x y m) ∙ put_each_more xs ys (put x y m)

  chosen_one : (b : Bool) (x : Val) (cs : List Choice) (m : Moment) (k l : Val → Moment → Out) → ((y : Val) (n : Moment) → Longer (k y n) (l y (more n))) → Longer (choose_by (if b then Some x else None) (record m { choices = cs }) k) (choose_by (if b then Some x else None) (record m { choices = cs ++ extra }) l)
  chosen_one true x cs m k l h = h x (record m { choices = cs })
  chosen_one false x cs m k l h = inr refl

  choose_longer : (h : Ty) (cs : List Choice) (m : Moment) (k l : Val → Moment → Out) → ((y : Val) (n : Moment) → Longer (k y n) (l y (more n))) → Longer (choose_by (taken h cs) (record m { choices = behind_one cs }) k) (choose_by (taken h (cs ++ extra)) (record m { choices = behind_one (cs ++ extra) }) l)
  choose_longer h [] m k l f = inl refl
  choose_longer h (Branch j ∷ cs) m k l f = inr refl
  choose_longer h (Chosen x ∷ cs) m k l f = chosen_one (is_of h x) x cs m k l f

  forgotten_longer : (a : Around) (xs : List Var) (m : Moment) → Longer (forgotten a xs m) (forgotten a xs (more m))
  forgotten_longer a [] m = inr refl
  forgotten_longer a (x ∷ xs) m =
      choose_longer
      (variable_type a x)
      m.choices
      m
      (λ y n. forgotten a xs (put x y n))
      (λ y n. forgotten a xs (put x y n))
      (λ y n. subst (λ z. Longer (forgotten a xs (put x y n)) (forgotten a xs z)) (sym (put_more x y n)) (forgotten_longer a xs (put x y n)))

  assigned_longer : (ys : Listed) (xs : List Var) (m : Moment) → Longer (assigned ys xs m) (assigned ys xs (more m))
  assigned_longer (Are ys) xs m = inr (ap Goes (put_each_more xs ys m))
  assigned_longer (Leave o) xs m = inr refl
  assigned_longer NoValues xs m = inr refl

  -- ---- results of a call

  -- so many choices are there
  record Chooses (hs : List Ty) (cs : List Choice) (xs : List Val) : Type 0 where
    same : chosen hs (cs ++ extra) ≡ Some xs
    behind : drop (length xs) (cs ++ extra) ≡ drop (length xs) cs ++ extra

  one_more : (b : Bool) (x : Val) (o : Option (List Val)) (xs : List Val) → cons_o (if b then Some x else None) o ≡ Some xs → (b ≡ true) × ((ys : List Val) × (o ≡ Some ys) × (x ∷ ys ≡ xs))
  one_more true x None xs e = absurd (let bad : ⊥ = cc in bad)
  one_more true x (Some ys) xs e = (refl, (ys, refl, (let same : x ∷ ys ≡ xs = cc in same)))
  one_more false x o xs e = absurd (let bad : ⊥ = cc in bad)

  chosen_more : (hs : List Ty) (cs : List Choice) (xs : List Val) → chosen hs cs ≡ Some xs → Chooses hs cs xs
  chosen_more [] cs xs e =
      let none : [] ≡ xs = cc in
      record { same = e; behind = subst (λ ys. drop (length ys) (cs ++ extra) ≡ drop (length ys) cs ++ extra) none refl }
  chosen_more (h ∷ hs) [] xs e = absurd (let bad : ⊥ = cc in bad)
  chosen_more (h ∷ hs) (Branch j ∷ cs) xs e = absurd (let bad : ⊥ = cc in bad)
  chosen_more (h ∷ hs) (Chosen x ∷ cs) xs e =
      let p = one_more (is_of h x) x (chosen hs cs) xs e in
      let rest = chosen_more hs cs p.1.0 p.1.1 in
      record {
        same = ap (λ (b : Bool). cons_o (if b then Some x else None) (chosen hs (cs ++ extra))) p.0 ∙ (ap (cons_o (Some x)) rest.same ∙ ap (λ (l : List Val). Some l) p.1.2);
        behind = subst (λ ys. drop (length ys) ((Chosen x ∷ cs) ++ extra) ≡ drop (length ys) (Chosen x ∷ cs) ++ extra) p.1.2 rest.behind;
      }

  given_longer : (o : Option (List Val)) (hs : List Ty) (a : Around) (was args : List Val) (gives : List Saying) (takes : List Var) (m : Moment) → chosen hs m.choices ≡ o → Longer (given_back o a was args gives takes m) (given_back (chosen hs (m.choices ++ extra)) a was args gives takes (more m))
  given_longer None hs a was args gives takes m e = inl refl
  given_longer (Some xs) hs a was args gives takes m e =
      let c = chosen_more hs m.choices xs e in
      let moments : skipped xs (more m) ≡ more (skipped xs m) = ap (λ (cs : List Choice). record m { choices = cs }) c.behind in
      let says = λ (t : Moment). on_said (supposes a.set (record { tables = a.tables; globals = t.globals; before = was; frame = args ++ xs }) gives) t in
      subst
      (λ (z : Option (List Val)). Longer (given_back (Some xs) a was args gives takes m) (given_back z a was args gives takes (more m)))
      (sym c.same)
      (subst
      (λ (t : Moment). Longer (given_back (Some xs) a was args gives takes m) (and_so (on_said (supposes a.set (record { tables = a.tables; globals = t.globals; before = was; frame = args ++ xs }) gives) t) (λ s. Goes (put_each takes xs s))))
      (sym moments)
      (and_longer
      (says (skipped xs m))
      (says (more (skipped xs m)))
      (λ s. Goes (put_each takes xs s))
      (λ s. Goes (put_each takes xs s))
      (said_longer (supposes a.set (record { tables = a.tables; globals = m.globals; before = was; frame = args ++ xs }) gives) (skipped xs m))
      (λ s. inr (ap Goes (put_each_more takes xs s)))))

  called_with_longer : (ys : Listed) (a : Around) (needs : List Demand) (modifies : List Var) (hs : List Ty) (gives : List Saying) (takes : List Var) (m : Moment) → Longer (called_with ys a needs modifies hs gives takes m) (called_with ys a needs modifies hs gives takes (more m))
  called_with_longer (Leave o) a needs modifies hs gives takes m = inr refl
  called_with_longer NoValues a needs modifies hs gives takes m = inr refl
  called_with_longer (Are args) a needs modifies hs gives takes m =
      and_longer
      _
      _
      (λ n. and_so (forgotten a modifies n) (λ u. given_back (chosen hs u.choices) a n.globals args gives takes u))
      (λ n. and_so (forgotten a modifies n) (λ u. given_back (chosen hs u.choices) a n.globals args gives takes u))
      (said_longer (checks a.set (record { tables = a.tables; globals = m.globals; before = m.globals; frame = args }) needs) m)
      (λ n. and_longer
      (forgotten a modifies n)
      (forgotten a modifies (more n))
      (λ u. given_back (chosen hs u.choices) a n.globals args gives takes u)
      (λ u. given_back (chosen hs u.choices) a n.globals args gives takes u)
      (forgotten_longer a modifies n)
      (λ u. given_longer (chosen hs u.choices) hs a n.globals args gives takes u refl))

  acts_longer : (a : Around) (k : Cmd) (m : Moment) → Longer (acts a k m) (acts a k (more m))
  acts_longer a (Check ds) m = said_longer (checks a.set (seen_at a m) ds) m
  acts_longer a (Suppose ds) m = said_longer (supposes a.set (seen_at a m) ds) m
  acts_longer a (Forget xs) m = forgotten_longer a xs m
  acts_longer a (Put xs es) m = assigned_longer (worths es (seen_at a m)) xs m
  acts_longer a (Perform k) m =
      called_with_longer (worths k.args (seen_at a m)) a k.needs k.modifies (types_of k.results) k.gives k.takes m
  acts_longer a Finish m = inr refl

  each_longer : (a : Around) (ks : List Cmd) (m : Moment) → Longer (acts_each a ks m) (acts_each a ks (more m))
  each_longer a [] m = inr refl
  each_longer a (k ∷ ks) m = and_longer (acts a k m) (acts a k (more m)) (acts_each a ks) (acts_each a ks) (acts_longer a k m) (each_longer a ks)

  -- ---- blocks

  abbrev more_way : Way → Way
  more_way (On k m) = On k (more m)
  more_way (Off x) = Off x
  more_way (Beyond o) = Beyond o
  more_way Nowhere = Nowhere

  abbrev Further : Way → Way → Type 0
  Further x y = (x ≡ Off BadChoice) ⊎ (y ≡ more_way x)

  go_further : (o : Option ℕ) (m : Moment) → Further (go_to o m) (go_to o (more m))
  go_further None m = inr refl
  go_further (Some k) m = inr refl

  branch_further : (cs : List Choice) (ks : List ℕ) (m : Moment) → Further (branch_to (branched cs) ks (record m { choices = behind_one cs })) (branch_to (branched (cs ++ extra)) ks (record m { choices = behind_one (cs ++ extra) }))
  branch_further [] ks m = inl refl
  branch_further (Branch j ∷ cs) ks m = go_further (slice_get ks j) (record m { choices = cs })
  branch_further (Chosen x ∷ cs) ks m = inr refl

  test_further : (x : WorthOf) (on off : ℕ) (m : Moment) → Further (test_to x on off m) (test_to x on off (more m))
  test_further (w.Is (Truth true)) on off m = inr refl
  test_further (w.Is (Truth false)) on off m = inr refl
  test_further (w.Is (Num z)) on off m = inr refl
  test_further (w.Is (Element u z)) on off m = inr refl
  test_further (w.Is (Default d)) on off m = inr refl
  test_further (w.Is (Entry q u n)) on off m = inr refl
  test_further (w.Leaves o) on off m = inr refl
  test_further w.NoValue on off m = inr refl

  leaves_further : (a : Around) (x : Exit) (m : Moment) → Further (leaves a x m) (leaves a x (more m))
  leaves_further a (Leap []) m = inr refl
  leaves_further a (Leap (k ∷ [])) m = inr refl
  leaves_further a (Leap (k ∷ l ∷ ks)) m = branch_further m.choices (k ∷ l ∷ ks) m
  leaves_further a (Either Star on off) m = branch_further m.choices (on ∷ off ∷ []) m
  leaves_further a (Either (Test e) on off) m = test_further (worth e (seen_at a m)) on off m

  abbrev Same : Said → Said → Type 0
  Same x y = (x ≡ Stops BadChoice) ⊎ (y ≡ x)

  enters_same : (x y : Way) (k : ℕ → Moment → Said) → Further x y → ((j : ℕ) (m : Moment) → Same (k j m) (k j (more m))) → Same (enters x k) (enters y k)
  enters_same x y k (inl e) h = inl (ap (λ z. enters z k) e)
  enters_same (On j m) y k (inr e) h = subst (λ z. Same (k j m) (enters z k)) (sym e) (h j m)
  enters_same (Off a) y k (inr e) h = inr (ap (λ z. enters z k) e)
  enters_same (Beyond o) y k (inr e) h = inr (ap (λ z. enters z k) e)
  enters_same Nowhere y k (inr e) h = inr (ap (λ z. enters z k) e)

  ran_same : (x y : Out) (k : Moment → Said) → Longer x y → ((m : Moment) → Same (k m) (k (more m))) → Same (ran x k) (ran y k)
  ran_same x y k (inl e) h = inl (ap (λ z. ran z k) e)
  ran_same (Goes m) y k (inr e) h = subst (λ z. Same (k m) (ran z k)) (sym e) (h m)
  ran_same (Over a) y k (inr e) h = inr (ap (λ z. ran z k) e)
  ran_same (Outside o) y k (inr e) h = inr (ap (λ z. ran z k) e)
  ran_same Unknown y k (inr e) h = inr (ap (λ z. ran z k) e)

  runs_same : (a : Around) (k : ℕ) (bs : List Block) (m : Moment) → Same (runs a k bs m) (runs a k bs (more m))
  runs_same a k [] m = inr refl
  runs_same a zero (b ∷ bs) m =
      ran_same
      (acts_each a b.cmds m)
      (acts_each a b.cmds (more m))
      (λ n. enters (leaves a b.exit n) (λ k u. runs a k bs u))
      (each_longer a b.cmds m)
      (λ n. enters_same (leaves a b.exit n) (leaves a b.exit (more n)) (λ k u. runs a k bs u) (leaves_further a b.exit n) (λ j u. runs_same a j bs u))
  runs_same a (suc k) (b ∷ bs) m = runs_same a k bs m

pub same_runs : (extra : List Choice) (a : Around) (k : ℕ) (bs : List Block) (m : Moment) → (runs a k bs m ≡ Stops BadChoice) ⊎ (runs a k bs (record m { choices = m.choices ++ extra }) ≡ runs a k bs m)
same_runs extra a k bs m = runs_same extra a k bs m
