-- What is kept of a program that tokens spell is spelled by tokens.
use Rattle.std.proofs.Common.{◌≡◌, ◌≢◌, ℕ, ◌<◌, Bool, true, false, List, [], ◌∷◌, ◌++◌, flat_map, map, Option, Some, None, refl, subst}
use Rattle.std.specs.Prelude.{if◌then◌else◌}
use Rattle.bg_base.specs.declared.pos.Pos.{Pos}
use Rattle.bg_text.specs.declared.token.Kind.{Kind}
use Rattle.bg_text.specs.declared.token.Kind.TheVariants as kinds
use Rattle.bg_text.specs.declared.expr.InfixSign.{InfixSign}
use Rattle.bg_text.specs.declared.expr.InfixSign.TheVariants as op
use Rattle.bg_text.specs.Tokens.{Tok}
use Rattle.bg_text.specs.Marks.{Mark, sign, sign_at, id_mark, Is, Words, unplaced, each}
use Rattle.bg_text.specs.Spelling.{ex_marks, link_marks, IsEx, GoOn, grade, level}
use Rattle.bg_text.specs.Types.{All, IfThere, attr_marks}
use Rattle.bg_text.specs.Statements.{clause_word, clause_marks, IsClause, in_braces, guard_marks, st_marks, sts_marks, arms_marks, more_arms_marks, IsSt, AreSts, AreArms}
use Rattle.bg_text.specs.Declarations.{spec_marks, IsSpec, vars_marks, body_marks, IsBody, tail_marks, sig_marks, decl_marks, IsDecl, SpellsTree}
use Rattle.bg_text.specs.Trees as t
use Rattle.bg_text.specs.Views.{option_of}
use Rattle.bg_words.specs.Sets.{Numbers, has}
use Rattle.bg_names.specs.Spaces.{Scope}
use Rattle.bg_names.specs.Clauses.{Guarded, bare, candidate_of, with_rest, guard_in, guard_unless, guard_of, chain_of, said}
use Rattle.bg_spaces.specs.Declarations.{are_candidates, Spaces, spaces_of}
use Rattle.bg_resolve.specs.Program.{requires_scope, ensures_scope}
use Rattle.bg_keep.specs.Kept.{saying, if_retained, kept_clause, kept_clauses, before, kept_st, kept_sts, kept_arms, body_scope, kept_body, kept_spec, kept_procedure, kept_implementation, kept_decl, kept}

-- a token has this kind and this text
abbrev HasToken : Mark → Type 0
HasToken m = (t : Tok) × Is t (unplaced m)

abbrev Spelled : List Mark → Type 0
Spelled = All HasToken

spelled_by : (ts : List Tok) (ms : List Mark) → Words ts ms → Spelled ms
spelled_by [] [] h = tt
spelled_by [] (m ∷ ms) h = absurd h
spelled_by (x ∷ ts) [] h = absurd h
spelled_by (x ∷ ts) (m ∷ ms) h = ((x, h.0), spelled_by ts ms h.1)

tokens_of : (ms : List Mark) → Spelled ms → (ts : List Tok) × Words ts ms
tokens_of [] h = ([], tt)
tokens_of (m ∷ ms) h = let rest = tokens_of ms h.1 in (h.0.0 ∷ rest.0, (h.0.1, rest.1))

-- lists behind one another
module _ {A : Type 0} (P : A → Type 0) where
  joined : (xs ys : List A) → All P xs → All P ys → All P (xs ++ ys)
  joined [] ys a b = b
  joined (x ∷ xs) ys a b = (a.0, joined xs ys a.1 b)

  front : (xs ys : List A) → All P (xs ++ ys) → All P xs
  front [] ys h = tt
  front (x ∷ xs) ys h = (h.0, front xs ys h.1)

  back : (xs ys : List A) → All P (xs ++ ys) → All P ys
  back [] ys h = h
  back (x ∷ xs) ys h = back xs ys h.1

abbrev join : (xs ys : List Mark) → Spelled xs → Spelled ys → Spelled (xs ++ ys)
join = joined HasToken

abbrev first : (xs ys : List Mark) → Spelled (xs ++ ys) → Spelled xs
first = front HasToken

abbrev last : (xs ys : List Mark) → Spelled (xs ++ ys) → Spelled ys
last = back HasToken

-- a semicolon, or a brace
abbrev end : List Mark
end = sign kinds.Semicolon ∷ []

abbrev brace : List Mark
brace = sign kinds.CloseBrace ∷ []

-- what stands in braces, and something else in them
in_them : (ms : List Mark) → Spelled (in_braces ms) → Spelled ms
in_them ms h = first ms brace h.1

put_in : (ms ns : List Mark) → Spelled (in_braces ms) → Spelled ns → Spelled (in_braces ns)
put_in ms ns h k = (h.0, join ns brace k (last ms brace h.1))

-- parts that are of the grammar, and have tokens
abbrev Fine : {A : Type 0} → (A → Type 0) → (A → List Mark) → A → Type 0
Fine P f a = P a × Spelled (f a)

module _ {A : Type 0} (P : A → Type 0) (f : A → List Mark) where
  apart : (xs : List A) → All P xs → Spelled (each f xs) → All (Fine P f) xs
  apart [] a h = tt
  apart (x ∷ xs) a h = ((a.0, first (f x) (each f xs) h), apart xs a.1 (last (f x) (each f xs) h))

  all_are : (xs : List A) → All (Fine P f) xs → All P xs
  all_are [] h = tt
  all_are (x ∷ xs) h = (h.0.0, all_are xs h.1)

  all_spelled : (xs : List A) → All (Fine P f) xs → Spelled (each f xs)
  all_spelled [] h = tt
  all_spelled (x ∷ xs) h = join (f x) (each f xs) h.0.1 (all_spelled xs h.1)

-- expressions
abbrev FineEx : t.Ex → Type 0
FineEx = Fine IsEx ex_marks

bare_fine : (e : t.Ex) → FineEx e → FineEx (bare e)
bare_fine (t.Parens p e) h = bare_fine e (h.0, first (ex_marks e) (sign kinds.Close ∷ []) h.1.1)
bare_fine (t.Number p z) h = h
bare_fine (t.Truth p b) h = h
bare_fine (t.Named p x) h = h
bare_fine (t.Apply p x es) h = h
bare_fine (t.Old p e) h = h
bare_fine (t.Prefix signs e) h = h
bare_fine (t.Postfix e bs) h = h
bare_fine (t.Chain e ls) h = h

-- what stands behind the first `==>` is a chain of the same sign, or its one operand
implied : (e : t.Ex) (ls : t.Links) → IsEx e → grade op.Implies < level e → GoOn op.Implies ls → IsEx (chain_of e ls)
implied e t.NoLink is lt h = is
implied e (t.Link p op.Implies x ls) is lt h = (is, (lt, h.1, h.2, h.3))
implied e (t.Link p op.Iff x ls) is lt h = absurd (let bad : false ≡ true = h.0 in cc)
implied e (t.Link p op.Explies x ls) is lt h = absurd (let bad : false ≡ true = h.0 in cc)
implied e (t.Link p op.And x ls) is lt h = absurd (let bad : false ≡ true = h.0 in cc)
implied e (t.Link p op.Or x ls) is lt h = absurd (let bad : false ≡ true = h.0 in cc)
implied e (t.Link p op.Equal x ls) is lt h = absurd (let bad : false ≡ true = h.0 in cc)
implied e (t.Link p op.Unequal x ls) is lt h = absurd (let bad : false ≡ true = h.0 in cc)
implied e (t.Link p op.Less x ls) is lt h = absurd (let bad : false ≡ true = h.0 in cc)
implied e (t.Link p op.AtMost x ls) is lt h = absurd (let bad : false ≡ true = h.0 in cc)
implied e (t.Link p op.Greater x ls) is lt h = absurd (let bad : false ≡ true = h.0 in cc)
implied e (t.Link p op.AtLeast x ls) is lt h = absurd (let bad : false ≡ true = h.0 in cc)
implied e (t.Link p op.Plus x ls) is lt h = absurd (let bad : false ≡ true = h.0 in cc)
implied e (t.Link p op.Minus x ls) is lt h = absurd (let bad : false ≡ true = h.0 in cc)
implied e (t.Link p op.Times x ls) is lt h = absurd (let bad : false ≡ true = h.0 in cc)

chain_spelled : (e : t.Ex) (ls : t.Links) → Spelled (ex_marks e ++ link_marks ls) → Spelled (ex_marks (chain_of e ls))
chain_spelled e t.NoLink h = first (ex_marks e) [] h
chain_spelled e (t.Link p x a ls) h = h

rest_fine : (e : t.Ex) (ls : t.Links) (k : Option ℕ) (g : Guarded) → with_rest e ls k ≡ Some g → FineEx (chain_of e ls) → FineEx (chain_of g.1 g.2)
rest_fine e ls (Some k) g h f = let is : (k, e, ls) ≡ g = cc in subst (λ (x : Guarded). FineEx (chain_of x.1 x.2)) is f
rest_fine e ls None g h f = absurd (let bad : None ≡ Some g = h in cc)

link_fine : (s : Scope) (a : t.Ex) (p : Pos) (x : InfixSign) (e : t.Ex) (ls : t.Links) (g : Guarded) → guard_in s (t.Chain a (t.Link p x e ls)) ≡ Some g → FineEx (t.Chain a (t.Link p x e ls)) → FineEx (chain_of g.1 g.2)
link_fine s a p op.Implies e ls g h f =
    let links = f.0.1 in
    let marks = last (ex_marks a) (link_marks (t.Link p op.Implies e ls)) f.1 in
    rest_fine e ls (candidate_of s (bare a)) g h (implied e ls links.1 links.2 links.3, chain_spelled e ls marks.1)
link_fine s a p op.Iff e ls g h f = absurd (let bad : None ≡ Some g = h in cc)
link_fine s a p op.Explies e ls g h f = absurd (let bad : None ≡ Some g = h in cc)
link_fine s a p op.And e ls g h f = absurd (let bad : None ≡ Some g = h in cc)
link_fine s a p op.Or e ls g h f = absurd (let bad : None ≡ Some g = h in cc)
link_fine s a p op.Equal e ls g h f = absurd (let bad : None ≡ Some g = h in cc)
link_fine s a p op.Unequal e ls g h f = absurd (let bad : None ≡ Some g = h in cc)
link_fine s a p op.Less e ls g h f = absurd (let bad : None ≡ Some g = h in cc)
link_fine s a p op.AtMost e ls g h f = absurd (let bad : None ≡ Some g = h in cc)
link_fine s a p op.Greater e ls g h f = absurd (let bad : None ≡ Some g = h in cc)
link_fine s a p op.AtLeast e ls g h f = absurd (let bad : None ≡ Some g = h in cc)
link_fine s a p op.Plus e ls g h f = absurd (let bad : None ≡ Some g = h in cc)
link_fine s a p op.Minus e ls g h f = absurd (let bad : None ≡ Some g = h in cc)
link_fine s a p op.Times e ls g h f = absurd (let bad : None ≡ Some g = h in cc)

guard_fine : (s : Scope) (e : t.Ex) (g : Guarded) → guard_in s e ≡ Some g → FineEx e → FineEx (chain_of g.1 g.2)
guard_fine s (t.Chain a (t.Link p x e ls)) g h f = link_fine s a p x e ls g h f
guard_fine s (t.Chain a t.NoLink) g h f = absurd (let bad : None ≡ Some g = h in cc)
guard_fine s (t.Number p z) g h f = absurd (let bad : None ≡ Some g = h in cc)
guard_fine s (t.Truth p b) g h f = absurd (let bad : None ≡ Some g = h in cc)
guard_fine s (t.Named p x) g h f = absurd (let bad : None ≡ Some g = h in cc)
guard_fine s (t.Apply p x es) g h f = absurd (let bad : None ≡ Some g = h in cc)
guard_fine s (t.Old p e) g h f = absurd (let bad : None ≡ Some g = h in cc)
guard_fine s (t.Parens p e) g h f = absurd (let bad : None ≡ Some g = h in cc)
guard_fine s (t.Prefix signs e) g h f = absurd (let bad : None ≡ Some g = h in cc)
guard_fine s (t.Postfix e bs) g h f = absurd (let bad : None ≡ Some g = h in cc)

guarded_fine : (is_free : Bool) (s : Scope) (e : t.Ex) (g : Guarded) → guard_unless is_free s e ≡ Some g → FineEx e → FineEx (chain_of g.1 g.2)
guarded_fine true s e g h f = absurd (let bad : None ≡ Some g = h in cc)
guarded_fine false s e g h f = guard_fine s (bare e) g h (bare_fine e f)

-- clauses that begin with this word
module _ (word : Kind) where
  abbrev FineClause : t.Clause → Type 0
  FineClause = Fine IsClause (clause_marks word)

  replaced : (e : t.Ex) (k : t.Clause) → FineEx e → FineClause k → FineClause (saying e k)
  replaced e k f h =
      let head = clause_word word k ++ each attr_marks k.attrs in
      let body = first (head ++ ex_marks k.says) end h.1 in
      ((h.0.0, f.0), join (head ++ ex_marks e) end (join head (ex_marks e) (first head (ex_marks k.says) body) f.1) (last (head ++ ex_marks k.says) end h.1))

  says_fine : (k : t.Clause) → FineClause k → FineEx k.says
  says_fine k h =
      let head = clause_word word k ++ each attr_marks k.attrs in
      (h.0.1, last head (ex_marks k.says) (first (head ++ ex_marks k.says) end h.1))

  retained : (set : Numbers) (g : Guarded) (b : Bool) (k : t.Clause) → FineClause (saying (chain_of g.1 g.2) k) → All FineClause (if b then saying (chain_of g.1 g.2) k ∷ [] else [])
  retained set g true k f = (f, tt)
  retained set g false k f = tt

  clause_at : (set : Numbers) (s : Scope) (k : t.Clause) (g : Option Guarded) → guard_of s k ≡ g → FineClause k → All FineClause (if_retained set g (said g k.says) k)
  clause_at set s k None is h = (h, tt)
  clause_at set s k (Some g) is h =
      retained set g (has set g.0) k (replaced (chain_of g.1 g.2) k (guarded_fine k.is_free s k.says g is (says_fine k h)) h)

  clause_fine : (set : Numbers) (s : Scope) (k : t.Clause) → FineClause k → All FineClause (kept_clause set s k)
  clause_fine set s k h = clause_at set s k (guard_of s k) refl h

  clauses_fine : (set : Numbers) (s : Scope) (ks : List t.Clause) → All FineClause ks → All FineClause (kept_clauses set s ks)
  clauses_fine set s [] h = tt
  clauses_fine set s (k ∷ ks) h = joined FineClause (kept_clause set s k) (kept_clauses set s ks) (clause_fine set s k h.0) (clauses_fine set s ks h.1)

-- statements
abbrev FineSt : t.St → Type 0
FineSt = Fine IsSt st_marks

abbrev FineSts : t.Sts → Type 0
FineSts = Fine AreSts sts_marks

both_fine : (a : t.St) (rest : t.Sts) → FineSt a → FineSts rest → FineSts (t.Then a rest)
both_fine a rest h k = ((h.0, k.0), join (st_marks a) (sts_marks rest) h.1 k.1)

before_fine : (xs : List t.St) (rest : t.Sts) → All FineSt xs → FineSts rest → FineSts (before xs rest)
before_fine [] rest h k = k
before_fine (x ∷ xs) rest h k = both_fine x (before xs rest) h.0 (before_fine xs rest h.1 k)

-- an assertion that isn't free
free_stays : (set : Numbers) (g : Option Guarded) (e : t.Ex) (k : t.Clause) → k.is_free ≡ false → All (λ (c : t.Clause). c.is_free ≡ false) (if_retained set g e k)
free_stays set None e k h = (h, tt)
free_stays set (Some g) e k h = kept_free (has set g.0)
  where
    kept_free : (b : Bool) → All (λ (c : t.Clause). c.is_free ≡ false) (if b then saying e k ∷ [] else [])
    kept_free true = (h, tt)
    kept_free false = tt

asserts : (ks : List t.Clause) → All (λ (c : t.Clause). c.is_free ≡ false) ks → All (FineClause kinds.Assert) ks → All FineSt (map t.Assert ks)
asserts [] f h = tt
asserts (k ∷ ks) f h = (((f.0, h.0.0), h.0.1), asserts ks f.1 h.1)

-- arms, the first of them with `if` before it or with `else if`
abbrev FineArms : t.Arms → Type 0
FineArms = Fine AreArms arms_marks

abbrev MoreArms : t.Arms → Type 0
MoreArms = Fine AreArms more_arms_marks

-- the block of the first arm, and the arms behind it
block_in : (g : t.Guard) (ss : t.Sts) (arms : t.Arms) → FineArms (t.Arm g ss arms) → FineSts ss
block_in g ss arms h =
    let block = in_braces (sts_marks ss) in
    (h.0.1, in_them (sts_marks ss) (last (guard_marks g) block (first (guard_marks g ++ block) (more_arms_marks arms) h.1)))

rest_in : (g : t.Guard) (ss : t.Sts) (arms : t.Arms) → FineArms (t.Arm g ss arms) → MoreArms arms
rest_in g ss arms h = (h.0.2, last (guard_marks g ++ in_braces (sts_marks ss)) (more_arms_marks arms) h.1)

module _ (set : Numbers) (s : Scope) where
  some_arms : (g : t.Guard) (ss : t.Sts) (arms : t.Arms) → kept_arms set s (t.Arm g ss arms) ≢ t.NoArm
  some_arms g ss arms = λ h. let bad : t.Arm g (kept_sts set s ss) (kept_arms set s arms) ≡ t.NoArm = h in cc

  arms_there : (arms : t.Arms) → arms ≢ t.NoArm → kept_arms set s arms ≢ t.NoArm
  arms_there t.NoArm h = absurd (h refl)
  arms_there (t.Arm g ss arms) h = some_arms g ss arms

  -- an arm with what is kept of its block, before what is kept of the others
  arm_made : (g : t.Guard) (ss : t.Sts) (arms : t.Arms) → FineArms (t.Arm g ss arms) → FineSts (kept_sts set s ss) → MoreArms (kept_arms set s arms) → FineArms (t.Arm g (kept_sts set s ss) (kept_arms set s arms))
  arm_made g ss arms h body others =
      let old = in_braces (sts_marks ss) in
      let new = in_braces (sts_marks (kept_sts set s ss)) in
      let head = first (guard_marks g ++ old) (more_arms_marks arms) h.1 in
      let block = put_in (sts_marks ss) (sts_marks (kept_sts set s ss)) (last (guard_marks g) old head) body.1 in (
        (h.0.0, body.0, others.0),
        join (guard_marks g ++ new) (more_arms_marks (kept_arms set s arms)) (join (guard_marks g) new (first (guard_marks g) old head) block) others.1,
      )

  mutual
    st_fine : (a : t.St) → FineSt a → All FineSt (kept_st set s a)
    st_fine (t.Assert k) h = asserts (kept_clause set s k) (free_stays set (guard_of s k) (said (guard_of s k) k.says) k h.0.0) (clause_fine kinds.Assert set s k (h.0.1, h.1))
    st_fine (t.If p arms) h =
        let made = arms_fine arms (h.0.1, h.1.1) in
        (((arms_there arms h.0.0, made.0), (h.1.0, made.1)), tt)
    st_fine (t.IfElse p arms ss) h =
        let word = sign_at p kinds.If in
        let otherwise = sign kinds.Else ∷ in_braces (sts_marks ss) in
        let head = first (word ∷ arms_marks arms) otherwise h.1 in
        let behind = last (word ∷ arms_marks arms) otherwise h.1 in
        let made = arms_fine arms (h.0.1, head.1) in
        let block = sts_fine ss (h.0.2, in_them (sts_marks ss) behind.1) in
        let new = sign kinds.Else ∷ in_braces (sts_marks (kept_sts set s ss)) in (
          (
            (arms_there arms h.0.0, made.0, block.0),
            join (word ∷ arms_marks (kept_arms set s arms)) new (head.0, made.1) (behind.0, put_in (sts_marks ss) (sts_marks (kept_sts set s ss)) behind.1 block.1),
          ),
          tt,
        )
    st_fine (t.While p g is ss) h =
        let head = sign_at p kinds.While ∷ guard_marks g in
        let old = each (clause_marks kinds.Invariant) is in
        let new = each (clause_marks kinds.Invariant) (kept_clauses set s is) in
        let braces = in_braces (sts_marks ss) in
        let front_marks = first (head ++ old) braces h.1 in
        let behind = last (head ++ old) braces h.1 in
        let kept_is = clauses_fine kinds.Invariant set s is (apart IsClause (clause_marks kinds.Invariant) is h.0.1 (last head old front_marks)) in
        let body = sts_fine ss (h.0.2, in_them (sts_marks ss) behind) in (
          (
            (h.0.0, all_are IsClause (clause_marks kinds.Invariant) (kept_clauses set s is) kept_is, body.0),
            join (head ++ new) (in_braces (sts_marks (kept_sts set s ss))) (join head new (first head old front_marks) (all_spelled IsClause (clause_marks kinds.Invariant) (kept_clauses set s is) kept_is)) (put_in (sts_marks ss) (sts_marks (kept_sts set s ss)) behind body.1),
          ),
          tt,
        )
    st_fine (t.Label x) h = (h, tt)
    st_fine (t.Assume k) h = (h, tt)
    st_fine (t.Havoc p xs) h = (h, tt)
    st_fine (t.Assign p ts es) h = (h, tt)
    st_fine (t.Invoke c) h = (h, tt)
    st_fine (t.Break p x) h = (h, tt)
    st_fine (t.Goto p xs) h = (h, tt)
    st_fine (t.Return p) h = (h, tt)

    sts_fine : (ss : t.Sts) → FineSts ss → FineSts (kept_sts set s ss)
    sts_fine t.NoSt h = h
    sts_fine (t.Then a rest) h =
        before_fine (kept_st set s a) (kept_sts set s rest) (st_fine a (h.0.0, first (st_marks a) (sts_marks rest) h.1)) (sts_fine rest (h.0.1, last (st_marks a) (sts_marks rest) h.1))

    arms_fine : (arms : t.Arms) → FineArms arms → FineArms (kept_arms set s arms)
    arms_fine t.NoArm h = h
    arms_fine (t.Arm g ss arms) h = arm_made g ss arms h (sts_fine ss (block_in g ss arms h)) (more_fine arms (rest_in g ss arms h))

    more_fine : (arms : t.Arms) → MoreArms arms → MoreArms (kept_arms set s arms)
    more_fine t.NoArm h = h
    more_fine (t.Arm g ss arms) h =
        let own : FineArms (t.Arm g ss arms) = (h.0, h.1.1.1) in
        let made = arm_made g ss arms own (sts_fine ss (block_in g ss arms own)) (more_fine arms (rest_in g ss arms own)) in
        (made.0, (h.1.0, (h.1.1.0, made.1)))

-- declarations
abbrev FineSpec : t.Spec → Type 0
FineSpec = Fine IsSpec spec_marks

preconditions : (ks : List t.Clause) → All (FineClause kinds.Requires) ks → All FineSpec (map t.Requires ks)
preconditions [] h = tt
preconditions (k ∷ ks) h = (h.0, preconditions ks h.1)

postconditions : (ks : List t.Clause) → All (FineClause kinds.Ensures) ks → All FineSpec (map t.Ensures ks)
postconditions [] h = tt
postconditions (k ∷ ks) h = (h.0, postconditions ks h.1)

module _ (set : Numbers) (g : Spaces) where
  spec_fine : (x : t.Sig) (p : t.Spec) → FineSpec p → All FineSpec (kept_spec set g x p)
  spec_fine x (t.Requires k) h = preconditions (kept_clause set (requires_scope g x) k) (clause_fine kinds.Requires set (requires_scope g x) k h)
  spec_fine x (t.Ensures k) h = postconditions (kept_clause set (ensures_scope g x) k) (clause_fine kinds.Ensures set (ensures_scope g x) k h)
  spec_fine x (t.Modifies p xs) h = (h, tt)

  specs_fine : (x : t.Sig) (ps : List t.Spec) → All FineSpec ps → All FineSpec (flat_map (kept_spec set g x) ps)
  specs_fine x [] h = tt
  specs_fine x (p ∷ ps) h = joined FineSpec (kept_spec set g x p) (flat_map (kept_spec set g x) ps) (spec_fine x p h.0) (specs_fine x ps h.1)

  body_fine : (x : t.Sig) (b : t.Body) → Fine IsBody body_marks b → Fine IsBody body_marks (kept_body set g x b)
  body_fine x b h =
      let locals = each vars_marks b.locals in
      let stmts = kept_sts set (body_scope g x b) b.stmts in
      let marks = in_them (locals ++ sts_marks b.stmts) h.1 in
      let made = sts_fine set (body_scope g x b) b.stmts (h.0.1, last locals (sts_marks b.stmts) marks) in
      ((h.0.0, made.0), put_in (locals ++ sts_marks b.stmts) (locals ++ sts_marks stmts) h.1 (join locals (sts_marks stmts) (first locals (sts_marks b.stmts) marks) made.1))

  -- a specification, and a body that may be there
  abbrev FineTail : List t.Spec → Option t.Body → Type 0
  FineTail ps o = All IsSpec ps × IfThere IsBody o × Spelled (tail_marks ps o)

  tail_fine : (x : t.Sig) (ps : List t.Spec) (o : Option t.Body) → FineTail ps o → FineTail (flat_map (kept_spec set g x) ps) (option_of (kept_body set g x) o)
  tail_fine x ps None h =
      let made = specs_fine x ps (apart IsSpec spec_marks ps h.0 h.2.1) in
      let kept_ps = flat_map (kept_spec set g x) ps in
      (all_are IsSpec spec_marks kept_ps made, tt, (h.2.0, all_spelled IsSpec spec_marks kept_ps made))
  tail_fine x ps (Some b) h =
      let made = specs_fine x ps (apart IsSpec spec_marks ps h.0 (first (each spec_marks ps) (body_marks b) h.2)) in
      let body = body_fine x b (h.1, last (each spec_marks ps) (body_marks b) h.2) in
      let kept_ps = flat_map (kept_spec set g x) ps in
      (all_are IsSpec spec_marks kept_ps made, body.0, join (each spec_marks kept_ps) (body_marks (kept_body set g x b)) (all_spelled IsSpec spec_marks kept_ps made) body.1)

  abbrev FineDecl : t.Decl → Type 0
  FineDecl = Fine IsDecl decl_marks

  procedure_fine : (q : t.Proc) → FineDecl (t.Procedure q) → FineDecl (t.Procedure (kept_procedure set g q))
  procedure_fine q h =
      let head = sign_at q.pos kinds.Procedure ∷ each attr_marks q.attrs ++ id_mark q.name ∷ sig_marks q.sig in
      let old = tail_marks q.specs q.body in
      let specs = flat_map (kept_spec set g q.sig) q.specs in
      let body = option_of (kept_body set g q.sig) q.body in
      let made = tail_fine q.sig q.specs q.body (h.0.2, h.0.3, last head old h.1) in
      ((h.0.0, h.0.1, made.0, made.1), join head (tail_marks specs body) (first head old h.1) made.2)

  implementation_fine : (m : t.Impl) → FineDecl (t.Implementation m) → FineDecl (t.Implementation (kept_implementation set g m))
  implementation_fine m h =
      let head = sign_at m.pos kinds.Implementation ∷ each attr_marks m.attrs ++ id_mark m.name ∷ sig_marks m.sig in
      let old = body_marks m.body in
      let made = body_fine m.sig m.body (h.0.2, last head old h.1) in
      ((h.0.0, h.0.1, made.0), join head (body_marks (kept_body set g m.sig m.body)) (first head old h.1) made.1)

  constants_fine : (c : t.Consts) (b : Bool) → FineDecl (t.Constants c) → All FineDecl (if b then [] else t.Constants c ∷ [])
  constants_fine c true h = tt
  constants_fine c false h = (h, tt)

  decl_fine : (d : t.Decl) → FineDecl d → All FineDecl (kept_decl set g d)
  decl_fine (t.Constants c) h = constants_fine c (are_candidates c) h
  decl_fine (t.Procedure q) h = (procedure_fine q h, tt)
  decl_fine (t.Implementation m) h = (implementation_fine m h, tt)
  decl_fine (t.Types p attrs ds) h = (h, tt)
  decl_fine (t.Function f) h = (h, tt)
  decl_fine (t.Axiom p attrs e) h = (h, tt)
  decl_fine (t.Globals v) h = (h, tt)

  decls_fine : (ds : List t.Decl) → All FineDecl ds → All FineDecl (flat_map (kept_decl set g) ds)
  decls_fine [] h = tt
  decls_fine (d ∷ ds) h = joined FineDecl (kept_decl set g d) (flat_map (kept_decl set g) ds) (decl_fine d h.0) (decls_fine ds h.1)

-- what is kept has a spelling
pub kept_spelled : (set : Numbers) (ds : List t.Decl) (ts : List Tok) → SpellsTree ds ts → (us : List Tok) × SpellsTree (kept set ds) us
kept_spelled set ds ts h =
    let made = decls_fine set (spaces_of ds) ds (apart IsDecl decl_marks ds h.0 (spelled_by ts (each decl_marks ds) h.1)) in
    let us = tokens_of (each decl_marks (kept set ds)) (all_spelled IsDecl decl_marks (kept set ds) made) in
    (us.0, (all_are IsDecl decl_marks (kept set ds) made, us.1))
