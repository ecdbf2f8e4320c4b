-- What a typed implementation has.
use Rattle.std.proofs.Common.{◌≡◌, ℕ, List, [], ◌∷◌, ◌++◌, Some, refl, sym, ap, ◌∙◌, subst, append_assoc}
use Rattle.std.specs.Prelude.{slice_get}
use Rattle.bg_ast.specs.Values.{Ty}
use Rattle.bg_ast.specs.Syntax.{Decl, Proc, Impl, Prog}
use Rattle.bg_ast.specs.Execution.{AtReturn}
use Rattle.bg_sense.specs.Types.{types_of}
use Rattle.bg_sense.specs.Variables.{procedure_of, wheres_of}
use Rattle.bg_sense.specs.Typing.{Sig, sig_in}
use Rattle.bg_sense.specs.Typed.{HasNoOld, IsFormula, AreTypedDecls, IsTypedStatement, around, sig_around, IsTypedImpl, IsTypedProc, IsTyped}
use Rattle.bg_flow.specs.Core.{frame_decls, demands, sayings, each_one, plain}
use Rattle.bg_passive.specs.Incarnations.{Arrival, MakesPassive, ArrivalsTyped, TypedNums, entry_env}
use Rattle.bg_block_types.specs.Typed.{sig_over, TypedBlocks, blocks_in, arrivals_in, incarnations_in, passives_in}
use Rattle.bg_block_types.specs.TypedFlow.{sig_with, CodeIsTyped}
use Rattle.bg_block_types.proofs.Passing.{blocks_typed}
use Rattle.bg_block_types.proofs.Bodies.{all_at, types_append, GoodList, list_append, list_wider, GoodClauses, clauses_of_all, clauses_wider, good_demands, good_sayings, good_plain, decls_say, routine_good}

wheres_append : (ds es : List Decl) → wheres_of (ds ++ es) ≡ wheres_of ds ++ wheres_of es
wheres_append [] es = refl
wheres_append (d ∷ ds) es =
    ap (λ l. d.wheres ++ l) (wheres_append ds es) ∙ sym (append_assoc d.wheres (wheres_of ds) (wheres_of es))

module _ (p : Prog) (k : ℕ) (m : Impl) (q : Proc) (t : IsTyped p) (im : slice_get p.implementations k ≡ Some m) (pr : procedure_of p m.procedure ≡ Some q) where
  abbrev ds : List Decl
  ds = frame_decls m q

  abbrev gts : List Ty
  gts = types_of p.globals

  abbrev fts : List Ty
  fts = types_of ds

  abbrev sig : Sig
  sig = sig_with p gts fts

  one : IsTypedImpl p m
  one = all_at (IsTypedImpl p) p.implementations k m t.implementations im

  same : one.procedure ≡ q
  same = let e : Some one.procedure ≡ Some q = sym one.is_there ∙ pr in cc

  body : IsTypedStatement (around p q m) [] [] m.body
  body = subst (λ y. IsTypedStatement (around p y m) [] [] m.body) same one.body

  locals : AreTypedDecls sig m.locals
  locals = subst (λ y. AreTypedDecls (sig_around (around p y m)) m.locals) same one.locals

  procs : (j : ℕ) (c : Proc) → slice_get p.procedures j ≡ Some c → IsTypedProc p c
  procs j c e = all_at (IsTypedProc p) p.procedures j c t.procedures e

  here : IsTypedProc p q
  here = procs m.procedure q pr

  gsay : GoodList (sig_with p gts []) (wheres_of p.globals)
  gsay = decls_say (sig_in p []) p.globals t.globals

  first_part : types_of q.params ++ types_of (q.results ++ m.locals) ≡ fts
  first_part = sym (types_append q.params (q.results ++ m.locals))

  both_parts : types_of (q.params ++ q.results) ++ types_of m.locals ≡ fts
  both_parts =
      ap (λ l. l ++ types_of m.locals) (types_append q.params q.results)
      ∙ append_assoc (types_of q.params) (types_of q.results) (types_of m.locals)
      ∙ ap (λ l. types_of q.params ++ l) (sym (types_append q.results m.locals)) ∙ first_part

  params_say : GoodList sig (wheres_of q.params)
  params_say =
      subst (λ us. GoodList (sig_with p gts us) (wheres_of q.params)) first_part (list_wider p gts (types_of q.params) (types_of (q.results ++ m.locals)) (wheres_of q.params) (decls_say (sig_in p q.params) q.params here.params))

  results_say : GoodList sig (wheres_of q.results)
  results_say =
      subst (λ us. GoodList (sig_with p gts us) (wheres_of q.results)) both_parts (list_wider p gts (types_of (q.params ++ q.results)) (types_of m.locals) (wheres_of q.results) (decls_say (sig_in p (q.params ++ q.results)) q.results here.results))

  dsay : GoodList sig (wheres_of ds)
  dsay =
      subst (GoodList sig) (sym (wheres_append q.params (q.results ++ m.locals) ∙ ap (λ l. wheres_of q.params ++ l) (wheres_append q.results m.locals)))
      (list_append sig (wheres_of q.params) _ params_say (list_append sig (wheres_of q.results) (wheres_of m.locals) results_say (decls_say sig m.locals locals)))

  all_say : GoodList sig (wheres_of (p.globals ++ ds))
  all_say =
      subst (GoodList sig) (sym (wheres_append p.globals ds))
      (list_append sig (wheres_of p.globals) (wheres_of ds) (list_wider p gts [] fts (wheres_of p.globals) gsay) dsay)

  needed : GoodClauses sig q.requires_
  needed =
      subst (λ us. GoodClauses (sig_with p gts us) q.requires_) first_part (clauses_wider p gts (types_of q.params) (types_of (q.results ++ m.locals)) q.requires_ (clauses_of_all (sig_in p q.params) (λ k. IsFormula (sig_in p q.params) k.says × HasNoOld k.says) q.requires_ (λ k x. x.0) here.requires_))

  given : GoodClauses sig q.ensures_
  given =
      subst (λ us. GoodClauses (sig_with p gts us) q.ensures_) both_parts (clauses_wider p gts (types_of (q.params ++ q.results)) (types_of m.locals) q.ensures_ (clauses_of_all (sig_in p (q.params ++ q.results)) (λ k. IsFormula (sig_in p (q.params ++ q.results)) k.says) q.ensures_ (λ k x. x) here.ensures_))

  pub good : CodeIsTyped p ds (blocks_in p k m q)
  good =
      routine_good p q ds gsay dsay procs m.body (plain (wheres_of (p.globals ++ ds)) (sayings each_one q.requires_)) (demands (AtReturn k) q.ensures_) body
      (good_plain sig (wheres_of (p.globals ++ ds)) (sayings each_one q.requires_) all_say (good_sayings sig each_one q.requires_ needed))
      (good_demands sig (AtReturn k) q.ensures_ given)

  -- the globals at entry are the first incarnations
  entry_typed : (later : List Arrival) → MakesPassive p ds (arrivals_in p k m q).made later (blocks_in p k m q) → ArrivalsTyped (incarnations_in p k m q) p ds later → TypedNums (incarnations_in p k m q) (entry_env p ds).before gts
  entry_typed [] f h = absurd f.0
  entry_typed (a ∷ later) f h = subst (λ v. TypedNums (incarnations_in p k m q) v.globals gts) f.0 h.0.0

  pub typed : MakesPassive p ds (arrivals_in p k m q).made (arrivals_in p k m q).arrivals (blocks_in p k m q) → ArrivalsTyped (incarnations_in p k m q) p ds (arrivals_in p k m q).arrivals → TypedBlocks (sig_over p (incarnations_in p k m q)) (passives_in p k m q)
  typed f h =
      blocks_typed p ds (incarnations_in p k m q) (entry_typed (arrivals_in p k m q).arrivals f h) (arrivals_in p k m q).arrivals (blocks_in p k m q) f.1 h good
