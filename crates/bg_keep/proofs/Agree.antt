-- What the program with numbers for names tells of a tree's clauses is what is kept of them.
use Rattle.std.proofs.Common.{◌≡◌, ℕ, ◌+◌, Bool, true, false, List, [], ◌∷◌, ◌++◌, map, flat_map, drop, length, Option, Some, None, refl, ap, ◌∙◌}
use Rattle.std.specs.Prelude.{if◌then◌else◌}
use Rattle.bg_base.specs.declared.pos.Pos.{Pos}
use Rattle.bg_text.specs.declared.expr.InfixSign.{InfixSign}
use Rattle.bg_text.specs.declared.expr.InfixSign.TheVariants as sign
use Rattle.bg_text.specs.Trees as t
use Rattle.bg_text.specs.Views.{option_of}
use Rattle.bg_ast.specs.Resolved as r
use Rattle.bg_words.specs.Sets.{Numbers, has}
use Rattle.bg_names.specs.Spaces.{Scope}
use Rattle.bg_names.specs.Clauses.{Guarded, bare, candidate_of, with_rest, guard_in, guard_unless, guard_of, chain_of, said, guarding, named_clause, named_clauses}
use Rattle.bg_names.specs.Inside.{Inside, entered}
use Rattle.bg_bodies.specs.Bodies.{named_st, named_sts, named_arms, arm_count, arms_count, st_count, sts_count, before_next}
use Rattle.bg_spaces.specs.Declarations.{Spaces, spaces_of, named_requires, named_ensures, specs_count}
use Rattle.bg_resolve.specs.Program.{requires_scope, ensures_scope, inside, named_option, named_procedure, named_procedures, named_implementations, decl_count, in_turn, named}
use Rattle.bg_keep.specs.Kept.{saying, if_retained, kept_clause, kept_clauses, before, kept_st, kept_sts, kept_arms, kept_body, kept_spec, kept_procedure, kept_implementation, kept_decl, kept}
use Rattle.bg_keep.specs.Guesses.{Names}
use Rattle.bg_keep.specs.Told as w

-- the operands behind a candidate
behind_rest : (p : Pos) (e : t.Ex) (ls : t.Links) (k : Option ℕ) (g : Guarded) → with_rest e ls k ≡ Some g → chain_of e ls ≡ chain_of g.1 g.2
behind_rest p e ls (Some k) g h = let is : (k, e, ls) ≡ g = cc in ap (λ (x : Guarded). chain_of x.1 x.2) is
behind_rest p e ls None g h = let bad : None ≡ Some g = h in cc

guarded_by : (s : Scope) (a : t.Ex) (p : Pos) (x : InfixSign) (e : t.Ex) (ls : t.Links) (g : Guarded) → guard_in s (t.Chain a (t.Link p x e ls)) ≡ Some g → chain_of e ls ≡ chain_of g.1 g.2
guarded_by s a p sign.Implies e ls g h = behind_rest p e ls (candidate_of s (bare a)) g h
guarded_by s a p sign.Iff e ls g h = let bad : None ≡ Some g = h in cc
guarded_by s a p sign.Explies e ls g h = let bad : None ≡ Some g = h in cc
guarded_by s a p sign.And e ls g h = let bad : None ≡ Some g = h in cc
guarded_by s a p sign.Or e ls g h = let bad : None ≡ Some g = h in cc
guarded_by s a p sign.Equal e ls g h = let bad : None ≡ Some g = h in cc
guarded_by s a p sign.Unequal e ls g h = let bad : None ≡ Some g = h in cc
guarded_by s a p sign.Less e ls g h = let bad : None ≡ Some g = h in cc
guarded_by s a p sign.AtMost e ls g h = let bad : None ≡ Some g = h in cc
guarded_by s a p sign.Greater e ls g h = let bad : None ≡ Some g = h in cc
guarded_by s a p sign.AtLeast e ls g h = let bad : None ≡ Some g = h in cc
guarded_by s a p sign.Plus e ls g h = let bad : None ≡ Some g = h in cc
guarded_by s a p sign.Minus e ls g h = let bad : None ≡ Some g = h in cc
guarded_by s a p sign.Times e ls g h = let bad : None ≡ Some g = h in cc

behind_guard : (s : Scope) (e : t.Ex) (g : Guarded) → guard_in s e ≡ Some g → w.behind_first e ≡ chain_of g.1 g.2
behind_guard s (t.Chain a (t.Link p x e ls)) g h = guarded_by s a p x e ls g h
behind_guard s (t.Chain a t.NoLink) g h = let bad : None ≡ Some g = h in cc
behind_guard s (t.Number p z) g h = let bad : None ≡ Some g = h in cc
behind_guard s (t.Truth p b) g h = let bad : None ≡ Some g = h in cc
behind_guard s (t.Named p x) g h = let bad : None ≡ Some g = h in cc
behind_guard s (t.Apply p f es) g h = let bad : None ≡ Some g = h in cc
behind_guard s (t.Old p e) g h = let bad : None ≡ Some g = h in cc
behind_guard s (t.Parens p e) g h = let bad : None ≡ Some g = h in cc
behind_guard s (t.Prefix signs e) g h = let bad : None ≡ Some g = h in cc
behind_guard s (t.Postfix e bs) g h = let bad : None ≡ Some g = h in cc

right_is : (is_free : Bool) (s : Scope) (e : t.Ex) (g : Guarded) → guard_unless is_free s e ≡ Some g → w.right_side e ≡ chain_of g.1 g.2
right_is true s e g h = let bad : None ≡ Some g = h in cc
right_is false s e g h = behind_guard s (bare e) g h

agree_at : (set : Numbers) (s : Scope) (k : t.Clause) (g : Option Guarded) → guard_of s k ≡ g → w.told_clause set (guarding g) k ≡ if_retained set g (said g k.says) k
agree_at set s k None h = refl
agree_at set s k (Some g) h = ap (λ e. if has set g.0 then saying e k ∷ [] else []) (right_is k.is_free s k.says g h)

module _ (set : Numbers) (f : Names) where
  pub clause_agrees : (s : Scope) (n : ℕ) (k : t.Clause) → w.told_clause set (named_clause s n k).candidate k ≡ kept_clause set s k
  clause_agrees s n k = agree_at set s k (guard_of s k) refl

  pub clauses_agree : (s : Scope) (n : ℕ) (ks : List t.Clause) → w.told_clauses set f (named_clauses s n ks) ks ≡ kept_clauses set s ks
  clauses_agree s n [] = refl
  clauses_agree s n (k ∷ ks) = rw (clause_agrees s n k, clauses_agree s (n + 1) ks) refl

  mutual
    pub st_agrees : (b : Inside) (n loop : ℕ) (blocks : List (ℕ × ℕ)) (labels : List ℕ) (a : t.St) → w.told_st set f a (named_st b n loop blocks labels a) ≡ kept_st set b.scope a
    st_agrees b n loop blocks labels (t.Label x) = refl
    st_agrees b n loop blocks labels (t.Assert k) = ap (map t.Assert) (clause_agrees b.scope n k)
    st_agrees b n loop blocks labels (t.Assume k) = refl
    st_agrees b n loop blocks labels (t.Havoc p xs) = refl
    st_agrees b n loop blocks labels (t.Assign p ts es) = refl
    st_agrees b n loop blocks labels (t.Invoke c) = refl
    st_agrees b n loop blocks labels (t.If p arms) =
        ap (λ x. t.If p x ∷ []) (arms_agree b (n + arm_count arms) loop (entered labels n blocks) arms)
    st_agrees b n loop blocks labels (t.IfElse p arms ss) =
        let one = arms_agree b (n + arm_count arms) loop (entered labels n blocks) arms in
        let two = sts_agree b (n + arm_count arms + arms_count arms) loop (entered labels n blocks) [] ss in
        ap (λ x. t.IfElse p x (w.told_sts set f ss (named_sts b (n + arm_count arms + arms_count arms) loop (entered labels n blocks) [] ss)) ∷ []) one
        ∙ ap (λ x. t.IfElse p (kept_arms set b.scope arms) x ∷ []) two
    st_agrees b n loop blocks labels (t.While p g is ss) =
        let one = clauses_agree b.scope (n + 1) is in
        let two = sts_agree b (n + 1 + length is) n (entered labels n blocks) [] ss in
        ap (λ x. t.While p g x (w.told_sts set f ss (named_sts b (n + 1 + length is) n (entered labels n blocks) [] ss)) ∷ []) one
        ∙ ap (λ x. t.While p g (kept_clauses set b.scope is) x ∷ []) two
    st_agrees b n loop blocks labels (t.Break p x) = refl
    st_agrees b n loop blocks labels (t.Goto p xs) = refl
    st_agrees b n loop blocks labels (t.Return p) = refl

    pub sts_agree : (b : Inside) (n loop : ℕ) (blocks : List (ℕ × ℕ)) (labels : List ℕ) (ss : t.Sts) → w.told_sts set f ss (named_sts b n loop blocks labels ss) ≡ kept_sts set b.scope ss
    sts_agree b n loop blocks labels t.NoSt = refl
    sts_agree b n loop blocks labels (t.Then a rest) =
        let two = sts_agree b (n + st_count a) loop blocks (before_next b labels a) rest in
        ap (λ x. before x (w.told_sts set f rest (named_sts b (n + st_count a) loop blocks (before_next b labels a) rest))) (st_agrees b n loop blocks labels a)
        ∙ ap (before (kept_st set b.scope a)) two

    pub arms_agree : (b : Inside) (n loop : ℕ) (blocks : List (ℕ × ℕ)) (arms : t.Arms) → w.told_arms set f arms (named_arms b n loop blocks arms) ≡ kept_arms set b.scope arms
    arms_agree b n loop blocks t.NoArm = refl
    arms_agree b n loop blocks (t.Arm g ss arms) =
        let two = arms_agree b (n + sts_count ss) loop blocks arms in
        ap (λ x. t.Arm g x (w.told_arms set f arms (named_arms b (n + sts_count ss) loop blocks arms))) (sts_agree b n loop blocks [] ss)
        ∙ ap (t.Arm g (kept_sts set b.scope ss)) two

module _ (set : Numbers) (g : Spaces) where
  specs_agree : (f : Names) (x : t.Sig) (n : ℕ) (specs : List t.Spec) → w.told_specs set f (named_requires (requires_scope g x) n specs) (named_ensures (ensures_scope g x) n specs) specs ≡ flat_map (kept_spec set g x) specs
  specs_agree f x n [] = refl
  specs_agree f x n (t.Requires k ∷ specs) = rw (clause_agrees set f (requires_scope g x) n k, specs_agree f x (n + 1) specs) refl
  specs_agree f x n (t.Ensures k ∷ specs) = rw (clause_agrees set f (ensures_scope g x) n k, specs_agree f x (n + 1) specs) refl
  specs_agree f x n (t.Modifies p xs ∷ specs) = rw (specs_agree f x n specs) refl

  body_agrees : (f : Names) (n : ℕ) (q : t.Id) (x : t.Sig) (b : t.Body) → w.told_body set f (named_sts (inside g q x b) n 0 [] [] b.stmts) b ≡ kept_body set g x b
  body_agrees f n q x b = ap (λ ss. record { locals = b.locals; stmts = ss }) (sts_agree set f (inside g q x b) n 0 [] [] b.stmts)

  option_agrees : (f : Names) (n : ℕ) (p : Pos) (q : t.Id) (x : t.Sig) (ms : List r.Impl) (o : Option t.Body) → option_of (w.told_body set f (w.first_block (named_option g n p q x o ++ ms))) o ≡ option_of (kept_body set g x) o
  option_agrees f n p q x ms None = refl
  option_agrees f n p q x ms (Some b) = ap (λ y. Some y) (body_agrees f n q x b)

  behind_option : (n : ℕ) (p : Pos) (q : t.Id) (x : t.Sig) (ms : List r.Impl) (o : Option t.Body) → drop (w.option_count o) (named_option g n p q x o ++ ms) ≡ ms
  behind_option n p q x ms None = refl
  behind_option n p q x ms (Some b) = refl

module _ (set : Numbers) (gs : List r.Declared) (g : Spaces) where
  procedure_agrees : (n m : ℕ) (qs : List r.Proc) (ms : List r.Impl) (q : t.Proc) → w.told_procedure set gs (named_procedure g n q ∷ qs) (named_option g m q.pos q.name q.sig q.body ++ ms) q ≡ kept_procedure set g q
  procedure_agrees n m qs ms q =
      let f = w.first_procedure gs (named_procedure g n q ∷ qs) in
      let h = w.first_implementation gs (named_option g m q.pos q.name q.sig q.body ++ ms) in
      rw (specs_agree set g f q.sig n q.specs, option_agrees set g h m q.pos q.name q.sig ms q.body) refl

  pub decls_agree : (n : ℕ) (ds : List t.Decl) → w.told_decls set gs (in_turn (named_procedures g) n ds) (in_turn (named_implementations g) n ds) ds ≡ flat_map (kept_decl set g) ds
  decls_agree n [] = refl
  decls_agree n (t.Procedure q ∷ ds) =
      let m = n + specs_count q.specs in
      let rest = in_turn (named_implementations g) (n + decl_count (t.Procedure q)) ds in
      let others = in_turn (named_procedures g) (n + decl_count (t.Procedure q)) ds in
      ap (λ x. t.Procedure x ∷ w.told_decls set gs others (drop (w.option_count q.body) (named_option g m q.pos q.name q.sig q.body ++ rest)) ds) (procedure_agrees n m others rest q)
      ∙ ap (λ x. t.Procedure (kept_procedure set g q) ∷ w.told_decls set gs others x ds) (behind_option set g m q.pos q.name q.sig rest q.body)
      ∙ ap (λ x. t.Procedure (kept_procedure set g q) ∷ x) (decls_agree (n + decl_count (t.Procedure q)) ds)
  decls_agree n (t.Implementation m ∷ ds) =
      let d = t.Implementation m in
      let rest = in_turn (named_implementations g) (n + decl_count d) ds in
      let others = in_turn (named_procedures g) (n + decl_count d) ds in
      let f = w.first_implementation gs (in_turn (named_implementations g) n (t.Implementation m ∷ ds)) in
      ap (λ (x : t.Body). t.Implementation (record { pos = m.pos; attrs = m.attrs; name = m.name; sig = m.sig; body = x }) ∷ w.told_decls set gs others rest ds) (body_agrees set g f n m.name m.sig m.body)
      ∙ ap (λ x. t.Implementation (kept_implementation set g m) ∷ x) (decls_agree (n + decl_count d) ds)
  decls_agree n (t.Constants c ∷ ds) = ap (λ x. w.told_constants c ++ x) (decls_agree (n + 0) ds)
  decls_agree n (t.Types p attrs ts ∷ ds) = ap (λ x. t.Types p attrs ts ∷ x) (decls_agree (n + 0) ds)
  decls_agree n (t.Function f ∷ ds) = ap (λ x. t.Function f ∷ x) (decls_agree (n + 0) ds)
  decls_agree n (t.Axiom p attrs e ∷ ds) = ap (λ x. t.Axiom p attrs e ∷ x) (decls_agree (n + 0) ds)
  decls_agree n (t.Globals v ∷ ds) = ap (λ x. t.Globals v ∷ x) (decls_agree (n + 0) ds)

-- what the program that a tree's names mean tells is what is kept of the tree
pub told_is : (set : Numbers) (ds : List t.Decl) (p : r.Program) → p ≡ named ds → w.told set p ds ≡ kept set ds
told_is set ds p is = ap (λ (x : r.Program). w.told set x ds) is ∙ decls_agree set (named ds).globals (spaces_of ds) 0 ds
