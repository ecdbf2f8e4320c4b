-- What the search has told when it ends.
use Rattle.std.proofs.Common.{◌≡◌, ℕ, ◌+◌, ◌-◌, ◌*◌, ◌^◌, ◌<◌, ◌≤◌, ◌⊎◌, inl, inr, Bool, true, false, List, [], ◌∷◌, ◌++◌, ℤ, map, refl, sym, ap, ◌∙◌, subst, append-nil, append_assoc, arith}
use Rattle.std.specs.Prelude.{Option, Some, None}
use Rattle.bg_formula.specs.Formulas.{Formula}
use Rattle.bg_cert.specs.declared.cert.Node.{Node}
use Rattle.bg_cert.specs.declared.cert.Cert.{Cert}
use Rattle.bg_cert.specs.Certs.{NodeOf, Bounds, node_of, accepts, root, cert_of, bare, Accepts}
use Rattle.bg_cert.proofs.Tableless.{bare_accepted}
use Rattle.bg_cert.specs.Walks.{no_instance, stack_of}
use Rattle.bg_tree.specs.declared.part.Part.{Part}
use Rattle.bg_tree.specs.declared.part.Part.TheVariants.{Open, Plain, Bound}
use Rattle.bg_tree.specs.declared.outcome.Halt.{Halt}
use Rattle.bg_tree.specs.declared.step.Search.{Search}
use Rattle.bg_tree.specs.declared.book.Head.TheVariants.{First}
use Rattle.bg_tree.specs.Counts.{Alone, counted, IsUsedUp}
use Rattle.bg_tree.specs.Books.{besides, value, IsBook}
use Rattle.bg_tree.specs.Trees.{AreTrees, nodes_of, inner_of, KeepsCount, Moves, Steps}

pub moved : (targets : ℕ → ℤ) (f : Formula) (set : ℕ → Bool) (rows : ℕ) (old new : Search) (halt : Option Halt) → halt ≡ None → Steps targets f set rows old new halt → Moves targets f set old new
moved targets f set rows old new (Some h) e s = absurd (cc)
moved targets f set rows old new None e s = s

-- ---- the unfinished tree

abbrev pub Told : (ℕ → ℤ) → Formula → (ℕ → Bool) → ℕ → Search → Type 0
Told targets f set most s =
    (n m : ℕ) (rest : List Part) → AreTrees targets f set n s.seen (stack_of f s.walk) rest → m + s.inner ≡ n + most → AreTrees targets f set m false (root f ∷ []) (s.parts.items ++ rest)

pub told_first : (targets : ℕ → ℤ) (f : Formula) (set : ℕ → Bool) (most : ℕ) (s : Search) → s.parts.items ≡ [] → stack_of f s.walk ≡ root f ∷ [] → s.seen ≡ false → s.inner ≡ most → Told targets f set most s
told_first targets f set most s p t e i n m rest h q =
    let k : n ≡ m = omega (arith, i, q) in
    rw p (subst (λ (j : ℕ). AreTrees targets f set j false (root f ∷ []) rest) k (rw (e, t) at h))

pub told_more : (targets : ℕ → ℤ) (f : Formula) (set : ℕ → Bool) (most : ℕ) (old new : Search) → Moves targets f set old new → Told targets f set most old → Told targets f set most new
told_more targets f set most old new v t n m rest h q =
    let e : new.parts.items ++ rest ≡ old.parts.items ++ (v.part ∷ rest) = ap (λ ps. ps ++ rest) v.made ∙ append_assoc old.parts.items (v.part ∷ []) rest in
    subst (λ (ps : List Part). AreTrees targets f set m false (root f ∷ []) ps) (sym e) (t (n + inner_of v.part) m (v.part ∷ rest) (v.tells n rest h) (let i = v.inner in omega (arith, i, q)))

-- ---- the nodes that count

abbrev pub Tallied : Formula → (ℕ → Bool) → ℕ → Search → Type 0
Tallied f set budget s =
    (rest : List Part) → counted (Alone ∷ []) (s.parts.items ++ rest) + value s.book ≡ counted (besides (stack_of f s.walk) s.book) rest + budget

pub tallied_more : (targets : ℕ → ℤ) (f : Formula) (set : ℕ → Bool) (budget : ℕ) (old new : Search) → Moves targets f set old new → Tallied f set budget old → Tallied f set budget new
tallied_more targets f set budget old new m t rest =
    let e : new.parts.items ++ rest ≡ old.parts.items ++ (m.part ∷ rest) = ap (λ ps. ps ++ rest) m.made ∙ append_assoc old.parts.items (m.part ∷ []) rest in
    let x = t (m.part ∷ rest) in
    let y = m.counts rest in
    let z = ap (counted (Alone ∷ [])) e in
    omega (arith, x, y, z)

first_value : (s : Search) (budget : ℕ) → s.book.left ≡ budget → s.book.head ≡ First → s.book.owed.items ≡ [] → value s.book ≡ budget
first_value s budget l h o = rw (h, o) (omega (arith, l))

pub tallied_first : (f : Formula) (set : ℕ → Bool) (budget : ℕ) (s : Search) → s.parts.items ≡ [] → stack_of f s.walk ≡ root f ∷ [] → s.book.left ≡ budget → s.book.head ≡ First → s.book.owed.items ≡ [] → Tallied f set budget s
tallied_first f set budget s p t l h o rest =
    let v = first_value s budget l h o in
    rw (p, t, h, o) (ap (λ n. counted (Alone ∷ []) rest + n) (rw (h, o) at v))

pub kept_first : (f : Formula) (set : ℕ → Bool) (budget : ℕ) (s : Search) → stack_of f s.walk ≡ root f ∷ [] → s.book.left ≡ budget → s.book.head ≡ First → s.book.owed.items ≡ [] → s.seen ≡ false → s.book.left < 2 ^ 32 → KeepsCount f set s
kept_first f set budget s t l h o e b =
    record {
      book = rw (t, h, o) (tt, (tt, tt));
      small = let v = first_value s budget l h o in omega (arith, v, l, b);
      spent = λ z. absurd (let y = sym e ∙ z in cc);
      late = λ z. absurd (let y = sym e ∙ z in cc);
    }

ended_value : (f : Formula) (set : ℕ → Bool) (s : Search) → KeepsCount f set s → s.walk.is_open ≡ false → value s.book ≡ s.book.left
ended_value f set s k o =
    let b : IsBook f set [] s.book = let c = k.book in rw o at c in
    rw (b.0, b.1) (plus_none s.book.left)
  where
    plus_none : (n : ℕ) → n + 0 ≡ n
    plus_none n = omega arith

used_up : (budget inner c left : ℕ) → c + left ≡ budget → inner ≤ 20 * budget → (left ≡ 0) ⊎ (inner ≡ 0) → IsUsedUp budget (20 * budget - inner) c
used_up budget inner c left e l (inl z) = inl (omega (arith, e, z), omega (arith, l))
used_up budget inner c left e l (inr z) = inr (omega (arith, l, z), omega (arith, e))

pub told_all : (targets : ℕ → ℤ) (f : Formula) (set : ℕ → Bool) (budget : ℕ) (s : Search) → Told targets f set (20 * budget) s → Tallied f set budget s → KeepsCount f set s → s.inner ≤ 20 * budget → s.walk.is_open ≡ false → s.seen ≡ true → (n : ℕ) × (AreTrees targets f set n false (root f ∷ []) s.parts.items × IsUsedUp budget n (counted (Alone ∷ []) s.parts.items))
told_all targets f set budget s t c k l o e = (
  20 * budget - s.inner,
  (
    subst (λ (ps : List Part). AreTrees targets f set (20 * budget - s.inner) false (root f ∷ []) ps) (append-nil s.parts.items) (t 0 (20 * budget - s.inner) [] (rw (o, e) (refl, refl)) (omega (arith, l))),
    used_up budget s.inner (counted (Alone ∷ []) s.parts.items) s.book.left whole l (k.spent e),
  ),
)
  where
    whole : counted (Alone ∷ []) s.parts.items + s.book.left ≡ budget
    whole =
        let x = c [] in
        let y : counted (Alone ∷ []) (s.parts.items ++ []) + value s.book ≡ counted [] [] + budget = rw o at x in
        let z = ap (counted (Alone ∷ [])) (append-nil s.parts.items) in
        let v = ended_value f set s k o in
        omega (arith, y, z, v)

-- ---- the certificate, where no leaf was left open

nodes_append : (xs ys : List Part) → nodes_of (xs ++ ys) ≡ nodes_of xs ++ nodes_of ys
nodes_append [] ys = refl
nodes_append (Open ∷ xs) ys = nodes_append xs ys
nodes_append (Plain n ∷ xs) ys = ap (λ ns. node_of n ∷ ns) (nodes_append xs ys)
nodes_append (Bound k ∷ xs) ys = ap (λ ns. Bounds k.gap.variable k.gap.below ∷ ns) (nodes_append xs ys)

-- one more part's nodes are behind the others
pub nodes_next : (made more all : List NodeOf) (part : Part) (rest old : List Part) → old ≡ part ∷ rest → more ≡ made ++ nodes_of (part ∷ []) → made ++ nodes_of old ≡ all → more ++ nodes_of rest ≡ all
nodes_next made more all part rest old e m h =
    ap (λ ns. ns ++ nodes_of rest) m
    ∙ append_assoc made (nodes_of (part ∷ [])) (nodes_of rest)
    ∙ ap (λ ns. made ++ ns) (sym (nodes_append (part ∷ []) rest))
    ∙ ap (λ ps. made ++ nodes_of ps) (sym e)
    ∙ h

abbrev pub Whole : Formula → (ℕ → Bool) → Search → Type 0
Whole f set s =
    s.seen ≡ false → (rest : List NodeOf) → accepts f set no_instance (root f ∷ []) (nodes_of s.parts.items ++ rest) ≡ accepts f set no_instance (stack_of f s.walk) rest

pub whole_more : (targets : ℕ → ℤ) (f : Formula) (set : ℕ → Bool) (old new : Search) → Moves targets f set old new → Whole f set old → Whole f set new
whole_more targets f set old new m w g rest =
    let n = m.whole g in
    let e : nodes_of new.parts.items ≡ nodes_of old.parts.items ++ nodes_of (m.part ∷ []) = ap nodes_of m.made ∙ nodes_append old.parts.items (m.part ∷ []) in
    ap (λ ns. accepts f set no_instance (root f ∷ []) (ns ++ rest)) e
    ∙ ap (accepts f set no_instance (root f ∷ [])) (append_assoc (nodes_of old.parts.items) (nodes_of (m.part ∷ [])) rest)
    ∙ w n.0 (nodes_of (m.part ∷ []) ++ rest)
    ∙ n.1 rest

pub whole_first : (f : Formula) (set : ℕ → Bool) (s : Search) → s.parts.items ≡ [] → stack_of f s.walk ≡ root f ∷ [] → Whole f set s
whole_first f set s p t g rest = rw p (ap (λ ps. accepts f set no_instance ps rest) (sym t))

pub whole_all : (f : Formula) (set : ℕ → Bool) (s : Search) (made : Cert) → Whole f set s → s.walk.is_open ≡ false → s.seen ≡ false → cert_of made ≡ bare (nodes_of s.parts.items) → Accepts f set no_instance (cert_of made)
whole_all f set s made w o e r =
    let k : accepts f set no_instance (root f ∷ []) (nodes_of s.parts.items) ≡ true = let x = w e [] in rw (append-nil, o) at x in
    subst (Accepts f set no_instance) (sym r) (bare_accepted f set no_instance (nodes_of s.parts.items) k)
