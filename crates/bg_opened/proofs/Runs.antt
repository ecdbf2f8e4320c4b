-- Runs of an opened program go as those of the program, with the constants' values behind those of the globals.
use Rattle.std.proofs.Common.{◌≡◌, ◌<◌, ℕ, zero, suc, arith, Bool, true, false, List, [], ◌∷◌, ◌++◌, length, map, Option, Some, None, refl, sym, ap, ◌∙◌, subst}
use Rattle.std.specs.Prelude.{◌&&◌, if◌then◌else◌, ◌==◌, nat_lt, slice_set, option_map}
use Rattle.bg_ast.specs.Values.{Val, Ty, is_of, truth_of}
use Rattle.bg_ast.specs.Syntax.{Var, Global, Local, Ex, Exs, NoMore, More, Clause, Guard, Star, Test, Call, St, Skip, Then, Label, Assert, Assume, Havoc, Assign, Invoke, If, While, Break, Goto, Return, Decl, Fun, Proc, Impl, Prog}
use Rattle.bg_ast.specs.Execution.{Interp, Choice, Branch, Chosen, Spot, AtEntry, AfterTurn, AtAssert, AtCall, AtReturn}
use Rattle.bg_sense.specs.Eval.{Scope, ev, evs, functions_of}
use Rattle.bg_sense.specs.Flow.{World, Answer, Going, Ended, Blocked, Failed, BadChoice, Point, ToLabel, Behind, ToEnd, Flow, Next, Jumps, Over, and_then, land, ended, land_all, point_eq}
use Rattle.bg_sense.specs.Context.{Cut, Ctx, scope, callee_scope}
use Rattle.bg_sense.specs.Clauses.{ensure, suppose, is_checked, check, check_all, suppose_that, suppose_all, is_free_kept, is_there, says_of}
use Rattle.bg_sense.specs.Variables.{put, put_all, type_in, decl_of, wheres_in, wheres_of, wheres_at, procedure_of, targets, modified}
use Rattle.bg_sense.specs.Choices.{choose_from, branch_from, forget_all, choose_all, decide}
use Rattle.bg_sense.specs.Loop.{at_head, end, induct}
use Rattle.bg_sense.specs.Statements.{label_at, jump, go}
use Rattle.bg_sense.specs.Calls.{call_of, by_specification}
use Rattle.bg_sense.specs.Interps.{all_hold}
use Rattle.bg_sense.specs.Eval.{holds_alone}
use Rattle.bg_sense.specs.Run.{begin, close, run_body}
use Rattle.bg_opened.proofs.Plain.{is_plain}
use Rattle.bg_opened.specs.Exprs.{opened, all_opened}
use Rattle.bg_opened.specs.Programs.{supposing, opened_clause, opened_guard, opened_call, opened_st, opened_decl, opened_proc, opened_impl}
use Rattle.bg_opened.proofs.Worths.{ReadsBelow}

-- ---- lists

pub set_front : (xs ys : List Val) (k : ℕ) (v : Val) → k < length xs → slice_set (xs ++ ys) k v ≡ slice_set xs k v ++ ys
set_front [] ys k v h = absurd (omega arith)
set_front (x ∷ xs) ys zero v h = refl
set_front (x ∷ xs) ys (suc k) v h = ap (λ l. x ∷ l) (set_front xs ys k v (omega arith))

pub set_length : (xs : List Val) (k : ℕ) (v : Val) → length (slice_set xs k v) ≡ length xs
set_length [] k v = refl
set_length (x ∷ xs) zero v = refl
set_length (x ∷ xs) (suc k) v = ap suc (set_length xs k v)

map_append : {A B : Type 0} (f : A → B) (xs ys : List A) → map f (xs ++ ys) ≡ map f xs ++ map f ys
map_append f [] ys = refl
map_append f (x ∷ xs) ys = ap (λ l. f x ∷ l) (map_append f xs ys)

abbrev pub Each : {A : Type 0} → (A → Type 0) → List A → Type 0
Each P [] = Unit {0}
Each P (x ∷ xs) = P x × Each P xs

each_append : {A : Type 0} (P : A → Type 0) (xs ys : List A) → Each P xs → Each P ys → Each P (xs ++ ys)
each_append P [] ys h k = k
each_append P (x ∷ xs) ys h k = (h.0, each_append P xs ys h.1 k)

go_over : (D : Ctx) (s : St) (a : Answer) → go by_specification D s (Over a) ≡ Over a
go_over D Skip a = refl
go_over D (Then x y) a = ap (go by_specification D y) (go_over D x a) ∙ go_over D y a
go_over D (Label l) a = refl
go_over D (Assert k) a = refl
go_over D (Assume e) a = refl
go_over D (Havoc xs) a = refl
go_over D (Assign xs es) a = refl
go_over D (Invoke k) a = refl
go_over D (If n g x y) a = refl
go_over D (While n g is x) a = refl
go_over D (Break n) a = refl
go_over D (Goto ls) a = refl
go_over D Return a = refl

module _ (g : ℕ) (bodies : ℕ → Option Ex) (funs : List Fun) (cs : List Val) where
  abbrev O : Ex → Ex
  O = opened g bodies

  -- what of an expression counts here: which globals it reads, and that no constant is left, and no application of a function with a body
  abbrev pub Fair : Ex → Type 0
  Fair e = ReadsBelow g e × (is_plain funs (O e) ≡ true)

  abbrev pub FairAll : Exs → Type 0
  FairAll NoMore = Unit {0}
  FairAll (More e es) = Fair e × FairAll es

  abbrev pub FairVar : Var → Type 0
  FairVar (Global x) = x < g
  FairVar (Local x) = Unit {0}

  abbrev pub FairClause : Clause → Type 0
  FairClause k = Fair k.says

  abbrev pub FairGuard : Guard → Type 0
  FairGuard Star = Unit {0}
  FairGuard (Test e) = Fair e

  abbrev pub FairDecl : Decl → Type 0
  FairDecl d = Each Fair d.wheres

  abbrev pub FairSt : St → Type 0
  FairSt (Then a b) = FairSt a × FairSt b
  FairSt (Assert k) = FairClause k
  FairSt (Assume e) = Fair e
  FairSt (Havoc xs) = Each FairVar xs
  FairSt (Assign xs es) = Each FairVar xs × FairAll es
  FairSt (Invoke k) = Each FairVar k.takes × FairAll k.args
  FairSt (If n e a b) = FairGuard e × (FairSt a × FairSt b)
  FairSt (While n e is a) = FairGuard e × (Each FairClause is × FairSt a)
  FairSt _ = Unit {0}

  pub record FairProc (p o : Prog) (q : Proc) : Type 0 where
    pub params : Each FairDecl q.params
    pub results : Each FairDecl q.results
    pub requires_ : Each FairClause q.requires_
    pub ensures_ : Each FairClause q.ensures_
    pub modified_alike : modified o (opened_proc g bodies q) ≡ modified p q
    pub modified_fair : Each FairVar (modified p q)

  -- the same moment, with the constants' values behind those of the globals
  abbrev pub W : World → World
  W w = record { globals = w.globals ++ cs; frame = w.frame; choices = w.choices; left = w.left }

  -- the second goes as the first
  abbrev pub Alike : Flow → Flow → Type 0
  Alike (Next w) f = (length w.globals ≡ g) × (f ≡ Next (W w))
  Alike (Jumps t w) f = (length w.globals ≡ g) × (f ≡ Jumps t (W w))
  Alike (Over a) f = f ≡ Over a

  then_alike : (f h : Flow) (k l : World → Flow) → Alike f h → ((w : World) → length w.globals ≡ g → Alike (k w) (l (W w))) → Alike (and_then f k) (and_then h l)
  then_alike (Next w) h k l a n = subst (λ x. Alike (k w) (and_then x l)) (sym a.1) (n w a.0)
  then_alike (Jumps t w) h k l a n = (a.0, ap (λ x. and_then x l) a.1)
  then_alike (Over b) h k l a n = ap (λ x. and_then x l) a

  if_alike : (b : Bool) (f f' h h' : Flow) → Alike f f' → Alike h h' → Alike (if b then f else h) (if b then f' else h')
  if_alike true f f' h h' x y = x
  if_alike false f f' h h' x y = y

  land_alike : (t : Point) (f h : Flow) → Alike f h → Alike (land t f) (land t h)
  land_alike t (Next w) h a = (a.0, ap (land t) a.1)
  land_alike t (Jumps q w) h a =
      subst (λ x. Alike (land t (Jumps q w)) (land t x)) (sym a.1) (if_alike (point_eq t q) (Next w) (Next (W w)) (Jumps q w) (Jumps q (W w)) (a.0, refl) (a.0, refl))
  land_alike t (Over b) h a = ap (land t) a

  land_all_alike : (f h : Flow) → Alike f h → Alike (land_all f) (land_all h)
  land_all_alike (Next w) h a = (a.0, ap land_all a.1)
  land_all_alike (Jumps t w) h a = (a.0, ap land_all a.1)
  land_all_alike (Over b) h a = ap land_all a

  ended_alike : (f h : Flow) → Alike f h → ended h ≡ ended f
  ended_alike (Next w) h a = ap ended a.1
  ended_alike (Jumps t w) h a = ap ended a.1
  ended_alike (Over b) h a = ap ended a

  -- ---- declarations, and what clauses say

  abbrev OD : Decl → Decl
  OD = opened_decl g bodies

  abbrev OC : Clause → Clause
  OC = opened_clause g bodies

  wheres_opened : (ds : List Decl) → wheres_of (map OD ds) ≡ map O (wheres_of ds)
  wheres_opened [] = refl
  wheres_opened (d ∷ ds) =
      ap (λ l. map O d.wheres ++ l) (wheres_opened ds) ∙ sym (map_append O d.wheres (wheres_of ds))

  wheres_fair : (ds : List Decl) → Each FairDecl ds → Each Fair (wheres_of ds)
  wheres_fair [] h = tt
  wheres_fair (d ∷ ds) h = each_append Fair d.wheres (wheres_of ds) h.0 (wheres_fair ds h.1)

  wheres_joined : (ds es : List Decl) → wheres_of (ds ++ es) ≡ wheres_of ds ++ wheres_of es
  wheres_joined [] es = refl
  wheres_joined (d ∷ ds) es = ap (λ l. d.wheres ++ l) (wheres_joined ds es) ∙ joined d.wheres (wheres_of ds) (wheres_of es)
    where
      joined : (xs ys zs : List Ex) → xs ++ (ys ++ zs) ≡ (xs ++ ys) ++ zs
      joined [] ys zs = refl
      joined (x ∷ xs) ys zs = ap (λ l. x ∷ l) (joined xs ys zs)

  says_if : (b : Bool) (e : Ex) (xs ys : List Ex) → ys ≡ map O xs → (if b then O e ∷ ys else ys) ≡ map O (if b then e ∷ xs else xs)
  says_if true e xs ys h = ap (λ l. O e ∷ l) h
  says_if false e xs ys h = h

  says_opened : (which : Clause → Bool) → ((k : Clause) → which (OC k) ≡ which k) → (ks : List Clause) → says_of which (map OC ks) ≡ map O (says_of which ks)
  says_opened which same [] = refl
  says_opened which same (k ∷ ks) =
      ap (λ b. if b then O k.says ∷ says_of which (map OC ks) else says_of which (map OC ks)) (same k)
      ∙ says_if (which k) k.says (says_of which ks) (says_of which (map OC ks)) (says_opened which same ks)

  says_fair_if : (b : Bool) (e : Ex) (xs : List Ex) → Fair e → Each Fair xs → Each Fair (if b then e ∷ xs else xs)
  says_fair_if true e xs h k = (h, k)
  says_fair_if false e xs h k = k

  says_fair : (which : Clause → Bool) (ks : List Clause) → Each FairClause ks → Each Fair (says_of which ks)
  says_fair which [] h = tt
  says_fair which (k ∷ ks) h = says_fair_if (which k) k.says (says_of which ks) h.0 (says_fair which ks h.1)

  -- ---- variables

  put_alike : (x : Var) (v : Val) (w : World) → FairVar x → length w.globals ≡ g → put x v (W w) ≡ W (put x v w)
  put_alike (Global x) v w h l =
      ap (λ gs. record { globals = gs; frame = w.frame; choices = w.choices; left = w.left }) (set_front w.globals cs x v (omega arith))
  put_alike (Local x) v w h l = refl

  put_length : (x : Var) (v : Val) (w : World) → length w.globals ≡ g → length (put x v w).globals ≡ g
  put_length (Global x) v w l = set_length w.globals x v ∙ l
  put_length (Local x) v w l = l

  put_all_length : (xs : List Var) (vs : List Val) (w : World) → length w.globals ≡ g → length (put_all xs vs w).globals ≡ g
  put_all_length [] vs w l = l
  put_all_length (x ∷ xs) [] w l = l
  put_all_length (x ∷ xs) (v ∷ vs) w l = put_all_length xs vs (put x v w) (put_length x v w l)

  put_all_alike : (xs : List Var) (vs : List Val) (w : World) → Each FairVar xs → length w.globals ≡ g → put_all xs vs (W w) ≡ W (put_all xs vs w)
  put_all_alike [] vs w h l = refl
  put_all_alike (x ∷ xs) [] w h l = refl
  put_all_alike (x ∷ xs) (v ∷ vs) w h l =
      ap (put_all xs vs) (put_alike x v w h.0 l) ∙ put_all_alike xs vs (put x v w) h.1 (put_length x v w l)

  stored_alike : (xs : List Var) (vs : List Val) (w : World) → Each FairVar xs → length w.globals ≡ g → Alike (Next (put_all xs vs w)) (Next (put_all xs vs (W w)))
  stored_alike xs vs w h l = (put_all_length xs vs w l, ap Next (put_all_alike xs vs w h l))

  -- ---- choices

  choose_alike : (ch : List Choice) (t : Ty) (w : World) (k l : Val → World → Flow) → length w.globals ≡ g → ((v : Val) (u : World) → length u.globals ≡ g → Alike (k v u) (l v (W u))) → Alike (choose_from ch t w k) (choose_from ch t (W w) l)
  choose_alike [] t w k l n h = refl
  choose_alike (Branch j ∷ ch) t w k l n h = refl
  choose_alike (Chosen v ∷ ch) t w k l n h =
      if_alike (is_of t v) (k v (record w { choices = ch })) (l v (W (record w { choices = ch }))) (Over BadChoice) (Over BadChoice) (h v (record w { choices = ch }) n) refl

  branch_alike : (ch : List Choice) (n : ℕ) (w : World) (k l : ℕ → World → Flow) → length w.globals ≡ g → ((j : ℕ) (u : World) → length u.globals ≡ g → Alike (k j u) (l j (W u))) → Alike (branch_from ch n w k) (branch_from ch n (W w) l)
  branch_alike [] n w k l m h = refl
  branch_alike (Chosen v ∷ ch) n w k l m h = refl
  branch_alike (Branch j ∷ ch) n w k l m h =
      if_alike (nat_lt j n) (k j (record w { choices = ch })) (l j (W (record w { choices = ch }))) (Over BadChoice) (Over BadChoice) (h j (record w { choices = ch }) m) refl

  choose_all_alike : (ds : List Decl) (w : World) (k l : List Val → World → Flow) → length w.globals ≡ g → ((vs : List Val) (u : World) → length u.globals ≡ g → Alike (k vs u) (l vs (W u))) → Alike (choose_all ds w k) (choose_all (map OD ds) (W w) l)
  choose_all_alike [] w k l n h = h [] w n
  choose_all_alike (d ∷ ds) w k l n h =
      choose_alike w.choices d.ty w (λ v u. choose_all ds u (λ vs x. k (v ∷ vs) x)) (λ v u. choose_all (map OD ds) u (λ vs x. l (v ∷ vs) x)) n (λ v u m. choose_all_alike ds u (λ vs x. k (v ∷ vs) x) (λ vs x. l (v ∷ vs) x) m (λ vs x. h (v ∷ vs) x))

  jump_alike : (ls : List ℕ) (w : World) → length w.globals ≡ g → Alike (jump ls w) (jump ls (W w))
  jump_alike [] w l = (l, refl)
  jump_alike (a ∷ []) w l = (l, refl)
  jump_alike (a ∷ b ∷ ls) w l =
      branch_alike w.choices (suc (suc (length ls))) w (λ k u. Jumps (label_at (a ∷ b ∷ ls) k) u) (λ k u. Jumps (label_at (a ∷ b ∷ ls) k) u) l (λ j u m. (m, refl))

  -- ---- checks and assumptions, in two contexts

  module _ (p o : Prog) (i j : Interp) (set : ℕ → Bool) (number : ℕ) (ds : List Decl) (b0 : List Val) where
    abbrev C : Ctx
    C = record { program = p; interp = i; set = set; implementation = number; variables = ds; before = b0; loops = Cut }

    abbrev D : Ctx
    D =
        record {
          program = o;
          interp = j;
          set = set;
          implementation = number;
          variables = map OD ds;
          before = b0 ++ cs;
          loops = Cut;
        }

    -- fair expressions are worth the same
    abbrev Same : (World → Scope) → (World → Scope) → Type 0
    Same sees sees' = (e : Ex) (w : World) → Fair e → length w.globals ≡ g → ev (O e) (sees' (W w)) ≡ ev e (sees w)

    checked_alike : (b v : Bool) (s : Spot) (w : World) → length w.globals ≡ g → Alike (if b then ensure v s w else Next w) (if b then ensure v s (W w) else Next (W w))
    checked_alike true true s w l = (l, refl)
    checked_alike true false s w l = refl
    checked_alike false v s w l = (l, refl)

    check_alike : (spot : ℕ → Spot) (sees sees' : World → Scope) → Same sees sees' → (k : Clause) (w : World) → FairClause k → length w.globals ≡ g → Alike (check C spot sees k w) (check D spot sees' (OC k) (W w))
    check_alike spot sees sees' same k w h l =
        subst (λ x. Alike (check C spot sees k w) (if is_checked set k then ensure (truth_of x) (spot k.id) (W w) else Next (W w))) (sym (same k.says w h l)) (checked_alike (is_checked set k) (truth_of (ev k.says (sees w))) (spot k.id) w l)

    check_all_alike : (spot : ℕ → Spot) (sees sees' : World → Scope) → Same sees sees' → (ks : List Clause) (w : World) → Each FairClause ks → length w.globals ≡ g → Alike (check_all C spot sees ks w) (check_all D spot sees' (map OC ks) (W w))
    check_all_alike spot sees sees' same [] w h l = (l, refl)
    check_all_alike spot sees sees' same (k ∷ ks) w h l =
        then_alike (check C spot sees k w) (check D spot sees' (OC k) (W w)) (check_all C spot sees ks) (check_all D spot sees' (map OC ks)) (check_alike spot sees sees' same k w h.0 l) (λ u m. check_all_alike spot sees sees' same ks u h.1 m)

    supposed_alike : (v : Bool) (w : World) → length w.globals ≡ g → Alike (suppose v w) (suppose v (W w))
    supposed_alike true w l = (l, refl)
    supposed_alike false w l = refl

    suppose_that_alike : (sees sees' : World → Scope) → Same sees sees' → (e : Ex) (w : World) → Fair e → length w.globals ≡ g → Alike (suppose_that C sees e w) (suppose_that D sees' (O e) (W w))
    suppose_that_alike sees sees' same e w h l =
        subst (λ x. Alike (suppose_that C sees e w) (suppose (truth_of x) (W w))) (sym (same e w h l)) (supposed_alike (truth_of (ev e (sees w))) w l)

    suppose_all_alike : (sees sees' : World → Scope) → Same sees sees' → (es : List Ex) (w : World) → Each Fair es → length w.globals ≡ g → Alike (suppose_all C sees es w) (suppose_all D sees' (map O es) (W w))
    suppose_all_alike sees sees' same [] w h l = (l, refl)
    suppose_all_alike sees sees' same (e ∷ es) w h l =
        then_alike (suppose_that C sees e w) (suppose_that D sees' (O e) (W w)) (suppose_all C sees es) (suppose_all D sees' (map O es)) (suppose_that_alike sees sees' same e w h.0 l) (λ u m. suppose_all_alike sees sees' same es u h.1 m)

    -- the same, where the second's expressions are those of the first in other words
    suppose_these_alike : (sees sees' : World → Scope) → Same sees sees' → (es xs : List Ex) (w : World) → xs ≡ map O es → Each Fair es → length w.globals ≡ g → Alike (suppose_all C sees es w) (suppose_all D sees' xs (W w))
    suppose_these_alike sees sees' same es xs w is h l =
        subst (λ y. Alike (suppose_all C sees es w) (suppose_all D sees' y (W w))) (sym is) (suppose_all_alike sees sees' same es w h l)

    module _ (worth : (e : Ex) (gs bs r : List Val) → length gs ≡ g → length bs ≡ g → Fair e → ev (O e) (record { functions = functions_of o j; constants = j.constants; globals = gs ++ cs; before = bs ++ cs; frame = r }) ≡ ev e (record { functions = functions_of p i; constants = i.constants; globals = gs; before = bs; frame = r })) (start : length b0 ≡ g) (decls : (x : Var) → FairVar x → decl_of D x ≡ option_map OD (decl_of C x)) (decls_fair : (x : Var) → FairVar x → Each Fair (wheres_in (decl_of C x))) (procedures : (k : ℕ) → procedure_of o k ≡ option_map (opened_proc g bodies) (procedure_of p k)) (procs : (k : ℕ) (q : Proc) → procedure_of p k ≡ Some q → FairProc p o q) (loops : (a : St) → FairSt a → (targets D (opened_st g bodies a) ≡ targets C a) × Each FairVar (targets C a)) where
      here : Same (scope C) (scope D)
      here e w h l = worth e w.globals b0 w.frame l start h

      in_callee : (before args : List Val) → length before ≡ g → Same (callee_scope C before args) (callee_scope D (before ++ cs) args)
      in_callee before args l e w h m = worth e w.globals before args m l h

      all_worth : (es : Exs) (w : World) → FairAll es → length w.globals ≡ g → evs (all_opened g bodies es) (scope D (W w)) ≡ evs es (scope C w)
      all_worth NoMore w h l = refl
      all_worth (More e es) w h l =
          ap (λ v. v ∷ evs (all_opened g bodies es) (scope D (W w))) (here e w h.0 l) ∙ ap (λ vs. ev e (scope C w) ∷ vs) (all_worth es w h.1 l)

      type_if : (x : Option Decl) → type_in (option_map OD x) ≡ type_in x
      type_if None = refl
      type_if (Some d) = refl

      type_alike : (x : Var) → FairVar x → type_in (decl_of D x) ≡ type_in (decl_of C x)
      type_alike x h = ap type_in (decls x h) ∙ type_if (decl_of C x)

      wheres_if : (x : Option Decl) → wheres_in (option_map OD x) ≡ map O (wheres_in x)
      wheres_if None = refl
      wheres_if (Some d) = refl

      wheres_at_alike : (xs : List Var) → Each FairVar xs → wheres_at D xs ≡ map O (wheres_at C xs)
      wheres_at_alike [] h = refl
      wheres_at_alike (x ∷ xs) h =
          ap (λ l. l ++ wheres_at D xs) (ap wheres_in (decls x h.0) ∙ wheres_if (decl_of C x))
          ∙ ap (λ l. map O (wheres_in (decl_of C x)) ++ l) (wheres_at_alike xs h.1)
          ∙ sym (map_append O (wheres_in (decl_of C x)) (wheres_at C xs))

      wheres_at_fair : (xs : List Var) → Each FairVar xs → Each Fair (wheres_at C xs)
      wheres_at_fair [] h = tt
      wheres_at_fair (x ∷ xs) h =
          each_append Fair (wheres_in (decl_of C x)) (wheres_at C xs) (decls_fair x h.0) (wheres_at_fair xs h.1)

      forget_alike : (xs : List Var) (w : World) → Each FairVar xs → length w.globals ≡ g → Alike (forget_all C xs w) (forget_all D xs (W w))
      forget_alike [] w h l = (l, refl)
      forget_alike (x ∷ xs) w h l =
          subst (λ t. Alike (forget_all C (x ∷ xs) w) (choose_from w.choices t (W w) (λ v u. forget_all D xs (put x v u)))) (sym (type_alike x h.0)) (choose_alike w.choices (type_in (decl_of C x)) w (λ v u. forget_all C xs (put x v u)) (λ v u. forget_all D xs (put x v u)) l (λ v u m. subst (λ y. Alike (forget_all C xs (put x v u)) (forget_all D xs y)) (sym (put_alike x v u h.0 m)) (forget_alike xs (put x v u) h.1 (put_length x v u m))))

      decide_alike : (e : Guard) (w : World) (k l m n : World → Flow) → FairGuard e → length w.globals ≡ g → ((u : World) → length u.globals ≡ g → Alike (k u) (l (W u))) → ((u : World) → length u.globals ≡ g → Alike (m u) (n (W u))) → Alike (decide C e w k m) (decide D (opened_guard g bodies e) (W w) l n)
      decide_alike Star w k l m n h z on off =
          branch_alike w.choices 2 w (λ j u. if j == 0 then k u else m u) (λ j u. if j == 0 then l u else n u) z (λ j u y. if_alike (j == 0) (k u) (l (W u)) (m u) (n (W u)) (on u y) (off u y))
      decide_alike (Test e) w k l m n h z on off =
          subst (λ x. Alike (decide C (Test e) w k m) (if truth_of x then l (W w) else n (W w))) (sym (here e w h z)) (if_alike (truth_of (ev e (scope C w))) (k w) (l (W w)) (m w) (n (W w)) (on w z) (off w z))

      induct_alike : (xs : List Var) (e : Guard) (is : List Clause) (body body' : Flow → Flow) → Each FairVar xs → FairGuard e → Each FairClause is → ((f h : Flow) → Alike f h → Alike (body f) (body' h)) → (w : World) → length w.globals ≡ g → Alike (induct C xs e is body w) (induct D xs (opened_guard g bodies e) (map OC is) body' (W w))
      induct_alike xs e is body body' hx he hi h w l =
          let is' = map OC is in
          let e' = opened_guard g bodies e in
          let last : World → Flow = λ v. and_then (check_all C AfterTurn (scope C) is v) end in
          let last' : World → Flow = λ v. and_then (check_all D AfterTurn (scope D) is' v) end in
          then_alike
          _
          _
          (λ v. and_then (forget_all C xs v) (λ u. and_then (suppose_all C (scope C) (says_of (is_checked set) is) u) (at_head C e is body last)))
          (λ v. and_then (forget_all D xs v) (λ u. and_then (suppose_all D (scope D) (says_of (is_checked set) is') u) (at_head D e' is' body' last')))
          (check_all_alike AtEntry (scope C) (scope D) here is w hi l)
          (λ v lv. then_alike
          _
          _
          (λ u. and_then (suppose_all C (scope C) (says_of (is_checked set) is) u) (at_head C e is body last))
          (λ u. and_then (suppose_all D (scope D) (says_of (is_checked set) is') u) (at_head D e' is' body' last'))
          (forget_alike xs v hx lv)
          (λ u lu. then_alike
          _
          _
          (at_head C e is body last)
          (at_head D e' is' body' last')
          (suppose_these_alike (scope C) (scope D) here (says_of (is_checked set) is) (says_of (is_checked set) is') u (says_opened (is_checked set) (λ k. refl) is) (says_fair (is_checked set) is hi) lu)
          (λ x lx. then_alike
          _
          _
          (λ y. decide C e y (λ z. and_then (body (Next z)) last) Next)
          (λ y. decide D e' y (λ z. and_then (body' (Next z)) last') Next)
          (suppose_these_alike (scope C) (scope D) here (says_of (is_free_kept set) is) (says_of (is_free_kept set) is') x (says_opened (is_free_kept set) (λ k. refl) is) (says_fair (is_free_kept set) is hi) lx)
          (λ y ly. decide_alike
          e
          y
          (λ z. and_then (body (Next z)) last)
          (λ z. and_then (body' (Next z)) last')
          Next
          Next
          he
          ly
          (λ z lz. then_alike (body (Next z)) (body' (Next (W z))) last last' (h (Next z) (Next (W z)) (lz, refl)) (λ v' lv'. then_alike _ _ end end (check_all_alike AfterTurn (scope C) (scope D) here is v' hi lv') (λ u' lu'. refl)))
          (λ z lz. (lz, refl))))))

      abbrev stored : Ctx → List Var → Proc → Call → List Val → List Val → List Val → World → Flow
      stored c ms q k before args results x =
          and_then
          (suppose_all c (callee_scope c before (args ++ results)) (wheres_at c ms ++ (wheres_of q.results ++ says_of (is_there set) q.ensures_)) x)
          (λ s. Next (put_all k.takes results s))

      abbrev chosen : Ctx → List Var → Proc → Call → List Val → List Val → World → Flow
      chosen c ms q k before args u = choose_all q.results u (stored c ms q k before args)

      abbrev called : Ctx → List Var → Proc → Call → List Val → World → Flow
      called c ms q k args v = and_then (forget_all c ms v) (chosen c ms q k v.globals args)

      given_opened : (q : Proc) (ms : List Var) → Each FairVar ms → wheres_at D ms ++ (wheres_of (map OD q.results) ++ says_of (is_there set) (map OC q.ensures_)) ≡ map O (wheres_at C ms ++ (wheres_of q.results ++ says_of (is_there set) q.ensures_))
      given_opened q ms h =
          ap (λ l. l ++ (wheres_of (map OD q.results) ++ says_of (is_there set) (map OC q.ensures_))) (wheres_at_alike ms h)
          ∙ ap (λ l. map O (wheres_at C ms) ++ (l ++ says_of (is_there set) (map OC q.ensures_))) (wheres_opened q.results)
          ∙ ap (λ l. map O (wheres_at C ms) ++ (map O (wheres_of q.results) ++ l)) (says_opened (is_there set) (λ k. refl) q.ensures_)
          ∙ ap (λ l. map O (wheres_at C ms) ++ l) (sym (map_append O (wheres_of q.results) (says_of (is_there set) q.ensures_)))
          ∙ sym (map_append O (wheres_at C ms) (wheres_of q.results ++ says_of (is_there set) q.ensures_))

      called_alike : (q : Proc) (k : Call) (args : List Val) → FairProc p o q → Each FairVar k.takes → (v : World) → length v.globals ≡ g → Alike (called C (modified p q) q k args v) (called D (modified p q) (opened_proc g bodies q) (opened_call g bodies k) args (W v))
      called_alike q k args f ht v lv =
          let ms = modified p q in
          then_alike
          (forget_all C ms v)
          (forget_all D ms (W v))
          (chosen C ms q k v.globals args)
          (chosen D ms (opened_proc g bodies q) (opened_call g bodies k) (W v).globals args)
          (forget_alike ms v f.modified_fair lv)
          (λ u lu. choose_all_alike
          q.results
          u
          (stored C ms q k v.globals args)
          (stored D ms (opened_proc g bodies q) (opened_call g bodies k) (W v).globals args)
          lu
          (λ results x lx. then_alike
          _
          _
          (λ s. Next (put_all k.takes results s))
          (λ s. Next (put_all k.takes results s))
          (suppose_these_alike
          (callee_scope C v.globals (args ++ results))
          (callee_scope D (W v).globals (args ++ results))
          (in_callee v.globals (args ++ results) lv)
          (wheres_at C ms ++ (wheres_of q.results ++ says_of (is_there set) q.ensures_))
          (wheres_at D ms ++ (wheres_of (map OD q.results) ++ says_of (is_there set) (map OC q.ensures_)))
          x
          (given_opened q ms f.modified_fair)
          (each_append Fair (wheres_at C ms) _ (wheres_at_fair ms f.modified_fair) (each_append Fair (wheres_of q.results) _ (wheres_fair q.results f.results) (says_fair (is_there set) q.ensures_ f.ensures_)))
          lx)
          (λ s ls. stored_alike k.takes results s ht ls)))

      call_some : (q : Proc) (k : Call) → FairProc p o q → Each FairVar k.takes → FairAll k.args → (w : World) → length w.globals ≡ g → Alike (call_of (Some q) C k w) (call_of (Some (opened_proc g bodies q)) D (opened_call g bodies k) (W w))
      call_some q k f ht ha w l =
          let args = evs k.args (scope C w) in
          let q' = opened_proc g bodies q in
          let k' = opened_call g bodies k in
          let plain : Alike (call_of (Some q) C k w) (and_then (check_all D (AtCall k.site) (callee_scope D (W w).globals args) q'.requires_ (W w)) (called D (modified p q) q' k' args)) =
          then_alike
          (check_all C (AtCall k.site) (callee_scope C w.globals args) q.requires_ w)
          (check_all D (AtCall k.site) (callee_scope D (W w).globals args) q'.requires_ (W w))
          (called C (modified p q) q k args)
          (called D (modified p q) q' k' args)
          (check_all_alike (AtCall k.site) (callee_scope C w.globals args) (callee_scope D (W w).globals args) (in_callee w.globals args l) q.requires_ w f.requires_ l)
          (called_alike q k args f ht) in
          let with_ms : Alike (call_of (Some q) C k w) (and_then (check_all D (AtCall k.site) (callee_scope D (W w).globals args) q'.requires_ (W w)) (called D (modified o q') q' k' args)) =
          subst (λ ms. Alike (call_of (Some q) C k w) (and_then (check_all D (AtCall k.site) (callee_scope D (W w).globals args) q'.requires_ (W w)) (called D ms q' k' args))) (sym f.modified_alike) plain in
          subst (λ xs. Alike (call_of (Some q) C k w) (and_then (check_all D (AtCall k.site) (callee_scope D (W w).globals xs) q'.requires_ (W w)) (called D (modified o q') q' k' xs))) (sym (all_worth k.args w ha l)) with_ms

      call_if : (q : Option Proc) (k : Call) → procedure_of p k.procedure ≡ q → Each FairVar k.takes → FairAll k.args → (w : World) → length w.globals ≡ g → Alike (call_of q C k w) (call_of (option_map (opened_proc g bodies) q) D (opened_call g bodies k) (W w))
      call_if None k e ht ha w l = (l, refl)
      call_if (Some q) k e ht ha w l = call_some q k (procs k.procedure q e) ht ha w l

      call_alike : (k : Call) → Each FairVar k.takes → FairAll k.args → (w : World) → length w.globals ≡ g → Alike (by_specification C k w) (by_specification D (opened_call g bodies k) (W w))
      call_alike k ht ha w l =
          subst (λ q. Alike (by_specification C k w) (call_of q D (opened_call g bodies k) (W w))) (sym (procedures k.procedure)) (call_if (procedure_of p k.procedure) k refl ht ha w l)

      go_alike : (s : St) → FairSt s → (f h : Flow) → Alike f h → Alike (go by_specification C s f) (go by_specification D (opened_st g bodies s) h)
      go_alike Skip fair f h a = a
      go_alike (Then x y) fair f h a = go_alike y fair.1 _ _ (go_alike x fair.0 f h a)
      go_alike (Label l) fair f h a = land_alike (ToLabel l) f h a
      go_alike (Assert k) fair f h a =
          then_alike f h (check C AtAssert (scope C) k) (check D AtAssert (scope D) (OC k)) a (λ w l. check_alike AtAssert (scope C) (scope D) here k w fair l)
      go_alike (Assume e) fair f h a =
          then_alike f h (suppose_that C (scope C) e) (suppose_that D (scope D) (O e)) a (λ w l. suppose_that_alike (scope C) (scope D) here e w fair l)
      go_alike (Havoc xs) fair f h a =
          then_alike f h (λ w. and_then (forget_all C xs w) (suppose_all C (scope C) (wheres_at C xs))) (λ w. and_then (forget_all D xs w) (suppose_all D (scope D) (wheres_at D xs))) a (λ w l. then_alike (forget_all C xs w) (forget_all D xs (W w)) (suppose_all C (scope C) (wheres_at C xs)) (suppose_all D (scope D) (wheres_at D xs)) (forget_alike xs w fair l) (λ v m. suppose_these_alike (scope C) (scope D) here (wheres_at C xs) (wheres_at D xs) v (wheres_at_alike xs fair) (wheres_at_fair xs fair) m))
      go_alike (Assign xs es) fair f h a =
          then_alike f h (λ w. Next (put_all xs (evs es (scope C w)) w)) (λ w. Next (put_all xs (evs (all_opened g bodies es) (scope D w)) w)) a (λ w l. subst (λ vs. Alike (Next (put_all xs (evs es (scope C w)) w)) (Next (put_all xs vs (W w)))) (sym (all_worth es w fair.1 l)) (stored_alike xs (evs es (scope C w)) w fair.0 l))
      go_alike (Invoke k) fair f h a =
          then_alike f h (by_specification C k) (by_specification D (opened_call g bodies k)) a (λ w l. call_alike k fair.0 fair.1 w l)
      go_alike (If n e x y) fair f h a =
          land_alike (Behind n) _ _ (then_alike f h (λ w. decide C e w (λ u. go by_specification C x (Next u)) (λ u. go by_specification C y (Next u))) (λ w. decide D (opened_guard g bodies e) w (λ u. go by_specification D (opened_st g bodies x) (Next u)) (λ u. go by_specification D (opened_st g bodies y) (Next u))) a (λ w l. decide_alike e w _ _ _ _ fair.0 l (λ u m. go_alike x fair.1.0 (Next u) (Next (W u)) (m, refl)) (λ u m. go_alike y fair.1.1 (Next u) (Next (W u)) (m, refl))))
      go_alike (While n e is x) fair f h a =
          let t = loops x fair.1.1 in
          land_alike (Behind n) _ _ (then_alike f h (induct C (targets C x) e is (go by_specification C x)) (induct D (targets D (opened_st g bodies x)) (opened_guard g bodies e) (map OC is) (go by_specification D (opened_st g bodies x))) a (λ w l. subst (λ xs. Alike (induct C (targets C x) e is (go by_specification C x) w) (induct D xs (opened_guard g bodies e) (map OC is) (go by_specification D (opened_st g bodies x)) (W w))) (sym t.0) (induct_alike (targets C x) e is (go by_specification C x) (go by_specification D (opened_st g bodies x)) t.1 fair.0 fair.1.0 (go_alike x fair.1.1) w l)))
      go_alike (Break n) fair f h a = then_alike f h (Jumps (Behind n)) (Jumps (Behind n)) a (λ w l. (l, refl))
      go_alike (Goto ls) fair f h a = then_alike f h (jump ls) (jump ls) a (λ w l. jump_alike ls w l)
      go_alike Return fair f h a = then_alike f h (Jumps ToEnd) (Jumps ToEnd) a (λ w l. (l, refl))

      -- ---- from the beginning to the end

      -- what is assumed at the beginning goes on, or blocks
      abbrev Mild : Flow → Type 0
      Mild (Next w) = Unit {0}
      Mild (Over Blocked) = Unit {0}
      Mild _ = ⊥

      mild_if : (v : Bool) (w : World) (k : World → Flow) → ((u : World) → Mild (k u)) → Mild (and_then (suppose v w) k)
      mild_if true w k h = h w
      mild_if false w k h = tt

      mild : (sees : World → Scope) (es : List Ex) (w : World) → Mild (suppose_all C sees es w)
      mild sees [] w = tt
      mild sees (e ∷ es) w = mild_if (truth_of (ev e (sees w))) w (suppose_all C sees es) (mild sees es)

      -- what axioms say is what they say of the interpretation
      abbrev FairAxiom : Ex → Type 0
      FairAxiom e = Fair e × ((w : World) → truth_of (ev e (scope C w)) ≡ holds_alone p i e)

      supposing_over : (es : List Ex) (s : St) (a : Answer) → go by_specification D (supposing es s) (Over a) ≡ go by_specification D s (Over a)
      supposing_over [] s a = refl
      supposing_over (e ∷ es) s a = supposing_over es s a

      axiom_worth : (e : Ex) (w : World) → FairAxiom e → length w.globals ≡ g → suppose_that D (scope D) (O e) (W w) ≡ suppose (holds_alone p i e) (W w)
      axiom_worth e w h l = ap (λ x. suppose (truth_of x) (W w)) (here e w h.0 l) ∙ ap (λ x. suppose x (W w)) (h.1 w)

      supposing_if : (b c : Bool) (e : Ex) (es : List Ex) (s : St) (w : World) → Each FairAxiom es → length w.globals ≡ g → ((b && c) ≡ true → c ≡ true → go by_specification D (supposing (map O es) s) (Next (W w)) ≡ go by_specification D s (Next (W w))) → (b && c) ≡ true → go by_specification D (supposing (map O es) s) (suppose b (W w)) ≡ go by_specification D s (Next (W w))
      supposing_if true c e es s w h l r t = r t t
      supposing_if false c e es s w h l r t = absurd (let bad : ⊥ = cc in bad)

      supposing_holds : (es : List Ex) (s : St) (w : World) → Each FairAxiom es → length w.globals ≡ g → all_hold p i es ≡ true → go by_specification D (supposing (map O es) s) (Next (W w)) ≡ go by_specification D s (Next (W w))
      supposing_holds [] s w h l t = refl
      supposing_holds (e ∷ es) s w h l t =
          ap (go by_specification D (supposing (map O es) s)) (axiom_worth e w h.0 l)
          ∙ supposing_if (holds_alone p i e) (all_hold p i es) e es s w h.1 l (λ _ r. supposing_holds es s w h.1 l r) t

      failing_if : (b c : Bool) (es : List Ex) (s : St) (w : World) → (c ≡ false → go by_specification D (supposing (map O es) s) (Next (W w)) ≡ go by_specification D s (Over Blocked)) → (b && c) ≡ false → go by_specification D (supposing (map O es) s) (suppose b (W w)) ≡ go by_specification D s (Over Blocked)
      failing_if true c es s w r t = r t
      failing_if false c es s w r t = supposing_over (map O es) s Blocked

      supposing_fails : (es : List Ex) (s : St) (w : World) → Each FairAxiom es → length w.globals ≡ g → all_hold p i es ≡ false → go by_specification D (supposing (map O es) s) (Next (W w)) ≡ go by_specification D s (Over Blocked)
      supposing_fails [] s w h l t = absurd (let bad : ⊥ = cc in bad)
      supposing_fails (e ∷ es) s w h l t =
          ap (go by_specification D (supposing (map O es) s)) (axiom_worth e w h.0 l)
          ∙ failing_if (holds_alone p i e) (all_hold p i es) es s w (λ r. supposing_fails es s w h.1 l r) t

      module _ (m : Impl) (q : Proc) (axioms : List Ex) (body_fair : FairSt m.body) (ends_fair : Each FairClause q.ensures_) (axioms_fair : Each FairAxiom axioms) where
        abbrev S : St
        S = opened_st g bodies m.body

        finish : Flow → Flow
        finish f = and_then (land_all f) (check_all D (AtReturn number) (scope D) (map OC q.ensures_))

        close_alike : (f h : Flow) → Alike f h → close D (opened_proc g bodies q) h ≡ close C q f
        close_alike f h a =
            ended_alike _ _ (then_alike (land_all f) (land_all h) (check_all C (AtReturn number) (scope C) q.ensures_) (check_all D (AtReturn number) (scope D) (map OC q.ensures_)) (land_all_alike f h a) (λ w l. check_all_alike (AtReturn number) (scope C) (scope D) here q.ensures_ w ends_fair l))

        -- where the axioms hold, it ends alike
        holding : (f h : Flow) → Mild f → Alike f h → all_hold p i axioms ≡ true → close D (opened_proc g bodies q) (go by_specification D (supposing (map O axioms) S) h) ≡ close C q (go by_specification C m.body f)
        holding (Next w) h n a t =
            ap (λ x. close D (opened_proc g bodies q) (go by_specification D (supposing (map O axioms) S) x)) a.1
            ∙ ap (close D (opened_proc g bodies q)) (supposing_holds axioms S w axioms_fair a.0 t)
            ∙ close_alike _ _ (go_alike m.body body_fair (Next w) (Next (W w)) (a.0, refl))
        holding (Over b) h n a t =
            ap (λ x. close D (opened_proc g bodies q) (go by_specification D (supposing (map O axioms) S) x)) a
            ∙ ap (close D (opened_proc g bodies q)) (supposing_over (map O axioms) S b)
            ∙ close_alike _ _ (go_alike m.body body_fair (Over b) (Over b) refl)
        holding (Jumps t w) h n a e = absurd n

        -- where they don't, it is blocked
        blocked : (f h : Flow) → Mild f → Alike f h → all_hold p i axioms ≡ false → close D (opened_proc g bodies q) (go by_specification D (supposing (map O axioms) S) h) ≡ Blocked
        blocked (Next w) h n a t =
            ap (λ x. close D (opened_proc g bodies q) (go by_specification D (supposing (map O axioms) S) x)) a.1
            ∙ ap (close D (opened_proc g bodies q)) (supposing_fails axioms S w axioms_fair a.0 t ∙ go_over D S Blocked)
        blocked (Over Blocked) h n a t =
            ap (λ x. close D (opened_proc g bodies q) (go by_specification D (supposing (map O axioms) S) x)) a
            ∙ ap (close D (opened_proc g bodies q)) (supposing_over (map O axioms) S Blocked ∙ go_over D S Blocked)
        blocked (Over Going) h n a t = absurd n
        blocked (Over Ended) h n a t = absurd n
        blocked (Over (Failed s)) h n a t = absurd n
        blocked (Over BadChoice) h n a t = absurd n
        blocked (Jumps e w) h n a t = absurd n

        module _ (begins : wheres_of (o.globals ++ map OD ds) ≡ map O (wheres_of (p.globals ++ ds))) (begins_fair : Each Fair (wheres_of (p.globals ++ ds))) (requires_fair : Each FairClause q.requires_) where
          begin_alike : (w : World) → length w.globals ≡ g → Alike (begin C q w) (begin D (opened_proc g bodies q) (W w))
          begin_alike w l =
              suppose_these_alike
              (scope C)
              (scope D)
              here
              (wheres_of (p.globals ++ ds) ++ says_of (is_there set) q.requires_)
              (wheres_of (o.globals ++ map OD ds) ++ says_of (is_there set) (map OC q.requires_))
              w
              (ap (λ x. x ++ says_of (is_there set) (map OC q.requires_)) begins ∙ ap (λ x. map O (wheres_of (p.globals ++ ds)) ++ x) (says_opened (is_there set) (λ k. refl) q.requires_) ∙ sym (map_append O (wheres_of (p.globals ++ ds)) (says_of (is_there set) q.requires_)))
              (each_append Fair (wheres_of (p.globals ++ ds)) _ begins_fair (says_fair (is_there set) q.requires_ requires_fair))
              l

          pub body_alike : (w : World) → length w.globals ≡ g → all_hold p i axioms ≡ true → run_body by_specification D (opened_impl g bodies axioms m) (opened_proc g bodies q) (W w) ≡ run_body by_specification C m q w
          body_alike w l t = holding (begin C q w) _ (mild (scope C) (wheres_of (p.globals ++ ds) ++ says_of (is_there set) q.requires_) w) (begin_alike w l) t

          pub body_blocked : (w : World) → length w.globals ≡ g → all_hold p i axioms ≡ false → run_body by_specification D (opened_impl g bodies axioms m) (opened_proc g bodies q) (W w) ≡ Blocked
          body_blocked w l t = blocked (begin C q w) _ (mild (scope C) (wheres_of (p.globals ++ ds) ++ says_of (is_there set) q.requires_) w) (begin_alike w l) t
