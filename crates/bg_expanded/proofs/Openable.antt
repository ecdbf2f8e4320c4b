-- In a program without recursion the longest chains of functions tell how deep it can be opened.
use Rattle.std.proofs.Common.{◌≡◌, ◌≤◌, ◌<◌, ℕ, zero, suc, true, List, length, Option, Some, None, option_map, refl, sym, ap, ◌∙◌, arith}
use Rattle.std.specs.Prelude.{slice_get}
use Rattle.std.proofs.lemmas.List.{length-map}
use Rattle.std.proofs.lemmas.Option.{slice_get-map, slice_get_within}
use mathlib.Core.Logic.{dite}
use native.Mathlib.Decide.{ℕ_discrete}
use Rattle.bg_ast.specs.Syntax as s
use Rattle.bg_ast.specs.Resolved as r
use Rattle.bg_ast.specs.Meaning.{ex_of, body_of, fun_of, named_of, meaning_of}
use Rattle.bg_sense.specs.Typed.{IsTyped}
use Rattle.bg_sense.specs.Resolved.{IsResolved}
use Rattle.bg_sense.specs.Recursion.{AppliesBelow, EachAppliesBelow, HasNoRecursion}
use Rattle.bg_opened.specs.Changed.{body_in, bodies_in}
use Rattle.bg_opened.specs.Judged.{is_judged}
use Rattle.bg_opened.specs.Openable.{HasShortChains, IsOpenable}
use Rattle.bg_expanded.specs.Chains.{through, chain_to, greatest_below, longest_chain}
use Rattle.bg_expanded.proofs.Meant.{deep, all_deep, deepest_is, deep_same}

-- ---- expressions
module _ (c : ℕ → ℕ) (n : ℕ) (small : (f : ℕ) → c f ≤ n) where
  mutual
    -- no chain is longer than the longest
    deep_least : (e : s.Ex) → deep c e ≤ n
    deep_least (s.Number z) = omega arith
    deep_least (s.Fact b) = omega arith
    deep_least (s.Constant k) = omega arith
    deep_least (s.Read x) = omega arith
    deep_least (s.Not e) = deep_least e
    deep_least (s.Negative e) = deep_least e
    deep_least (s.Binary o a b) = let i = deep_least a in let j = deep_least b in omega (arith, i, j)
    deep_least (s.Apply f es) = let i = small f in let j = list_least es in omega (arith, i, j)
    deep_least (s.Select m es) = let i = deep_least m in let j = list_least es in omega (arith, i, j)
    deep_least (s.Update m es e) =
        let i = deep_least m in let j = list_least es in let k = deep_least e in omega (arith, i, j, k)
    deep_least (s.Old e) = deep_least e

    list_least : (es : s.Exs) → all_deep c es ≤ n
    list_least s.NoMore = omega arith
    list_least (s.More e es) = let i = deep_least e in let j = list_least es in omega (arith, i, j)

module _ (c : ℕ → ℕ) where
  mutual
    -- what an expression applies is below each number that is above its chains
    below : (e : s.Ex) (n : ℕ) → deep c e < n → AppliesBelow c n e
    below (s.Number z) n l = tt
    below (s.Fact b) n l = tt
    below (s.Constant k) n l = tt
    below (s.Read x) n l = tt
    below (s.Not e) n l = below e n l
    below (s.Negative e) n l = below e n l
    below (s.Binary o a b) n l = (below a n (omega (arith, l)), below b n (omega (arith, l)))
    below (s.Apply f es) n l = (omega (arith, l), list_below es n (omega (arith, l)))
    below (s.Select m es) n l = (below m n (omega (arith, l)), list_below es n (omega (arith, l)))
    below (s.Update m es e) n l =
        (below m n (omega (arith, l)), list_below es n (omega (arith, l)), below e n (omega (arith, l)))
    below (s.Old e) n l = below e n l

    list_below : (es : s.Exs) (n : ℕ) → all_deep c es < n → EachAppliesBelow c n es
    list_below s.NoMore n l = tt
    list_below (s.More e es) n l = (below e n (omega (arith, l)), list_below es n (omega (arith, l)))

-- ---- lists
greatest : (c : ℕ → ℕ) (n k : ℕ) → k < n → c k ≤ greatest_below c n
greatest c zero k h = absurd (omega (arith, h))
greatest c (suc n) k h =
    dite (ℕ_discrete k n)
    (λ e. let i = ap c e in omega (arith, i))
    (λ d. let i = greatest c n k (omega (arith, h, d)) in omega (arith, i))

-- ---- programs
module _ (p : r.Program) where
  abbrev Fs : List r.Fun
  Fs = p.functions

  abbrev Of : r.Fun → s.Fun
  Of = fun_of (named_of p.types)

  means_at : (f : ℕ) (g : r.Fun) → slice_get Fs f ≡ Some g → slice_get (meaning_of p).functions f ≡ Some (Of g)
  means_at f g e = slice_get-map Of Fs f ∙ ap (option_map Of) e

  -- a function's body as it is written
  written : (f : ℕ) (fn : s.Fun) (e : s.Ex) → slice_get (meaning_of p).functions f ≡ Some fn → fn.body ≡ Some e → (x : r.Ex) × (bodies_in Fs f ≡ Some x) × (ex_of x ≡ e)
  written f fn e at body = by (slice_get Fs f) refl (sym (slice_get-map Of Fs f) ∙ at)
    where
      by_body : (b : Option r.Ex) → body_of b ≡ Some e → (x : r.Ex) × (b ≡ Some x) × (ex_of x ≡ e)
      by_body None h = absurd (let bad : None ≡ Some e = h in cc)
      by_body (Some x) h = let same : ex_of x ≡ e = cc in (x, refl, same)

      by : (o : Option r.Fun) → slice_get Fs f ≡ o → option_map Of o ≡ Some fn → (x : r.Ex) × (bodies_in Fs f ≡ Some x) × (ex_of x ≡ e)
      by None e0 h = absurd (let bad : None ≡ Some fn = h in cc)
      by (Some g) e0 h =
          let same : Of g ≡ fn = cc in
          let b = by_body g.body (ap (λ (x : s.Fun). x.body) same ∙ body) in
          (b.0, ap body_in e0 ∙ b.1, b.2)

  small : (k f : ℕ) → chain_to Fs k f ≤ k
  small zero f = omega arith
  small (suc k) f = by (bodies_in Fs f) (small k)
    where
      by : (o : Option r.Ex) → ((g : ℕ) → chain_to Fs k g ≤ k) → through (chain_to Fs k) o ≤ suc k
      by None less = omega arith
      by (Some e) less =
          let same = deepest_is (chain_to Fs k) e in
          let l = deep_least (chain_to Fs k) k less (ex_of e) in
          omega (arith, same, l)

  module _ (h : HasNoRecursion (meaning_of p)) where
    -- where two agree below a function, so do they one function further
    further : (k j f : ℕ) → ((g : ℕ) → h.rank g < h.rank f → chain_to Fs k g ≡ chain_to Fs j g) → (o : Option r.Fun) → slice_get Fs f ≡ o → through (chain_to Fs k) (body_in o) ≡ through (chain_to Fs j) (body_in o)
    further k j f same None e = refl
    further k j f same (Some g) e = by g.body refl
      where
        by : (b : Option r.Ex) → g.body ≡ b → through (chain_to Fs k) b ≡ through (chain_to Fs j) b
        by None i = refl
        by (Some x) i =
            let applies = h.falls f (Of g) (ex_of x) (means_at f g e) (ap body_of i) in
            ap suc (deepest_is (chain_to Fs k) x ∙ (deep_same h.rank (h.rank f) (chain_to Fs k) (chain_to Fs j) same (ex_of x) applies ∙ sym (deepest_is (chain_to Fs j) x)))

    -- a chain is counted whole where it may be longer than the rank
    stable : (k j f : ℕ) → h.rank f < k → h.rank f < j → chain_to Fs k f ≡ chain_to Fs j f
    stable zero j f a b = absurd (omega (arith, a))
    stable (suc k) zero f a b = absurd (omega (arith, b))
    stable (suc k) (suc j) f a b =
        further k j f (λ g l. stable k j g (omega (arith, a, l)) (omega (arith, b, l))) (slice_get Fs f) refl

    many : (f : ℕ) (fn : s.Fun) → slice_get (meaning_of p).functions f ≡ Some fn → h.rank f < length Fs
    many f fn at =
        let l = h.is_place f fn at in let m = length-map Fs Of in omega (arith, l, m)

    -- one more than the longest chain of what the body applies
    own : (n f : ℕ) (fn : s.Fun) (e : s.Ex) → length Fs ≡ n → slice_get (meaning_of p).functions f ≡ Some fn → fn.body ≡ Some e → chain_to Fs n f ≡ suc (deep (chain_to Fs n) e)
    own zero f fn e n at body = absurd (let l = many f fn at in omega (arith, l, n))
    own (suc m) f fn e n at body =
        let l = many f fn at in
        let w = written f fn e at body in
        ap (through (chain_to Fs m)) w.1
        ∙ ap suc (deepest_is (chain_to Fs m) w.0
        ∙ (ap (deep (chain_to Fs m)) w.2
        ∙ deep_same h.rank (h.rank f) (chain_to Fs m) (chain_to Fs (suc m)) (λ g i. stable m (suc m) g (omega (arith, l, n, i)) (omega (arith, l, n, i))) e (h.falls f fn e at body)))

    abbrev pub chain : ℕ → ℕ
    chain = chain_to Fs (length Fs)

    falls : (f : ℕ) (fn : s.Fun) (e : s.Ex) → slice_get (meaning_of p).functions f ≡ Some fn → fn.body ≡ Some e → (0 < chain f) × AppliesBelow chain (chain f) e
    falls f fn e at body =
        let same = own (length Fs) f fn e refl at body in
        (omega (arith, same), below chain e (chain f) (omega (arith, same)))

    lower : (depth : ℕ) → longest_chain p ≤ depth → (f : ℕ) (fn : s.Fun) → slice_get (meaning_of p).functions f ≡ Some fn → chain f ≤ depth
    lower depth l f fn at =
        let within = slice_get_within (meaning_of p).functions f fn at in
        let m = length-map Fs Of in
        let g = greatest chain (length Fs) f (omega (arith, within, m)) in
        omega (arith, l, g)

    pub short_chains : (depth : ℕ) → longest_chain p ≤ depth → HasShortChains depth (meaning_of p)
    short_chains depth l = record { chain = chain; deep = lower depth l; falls = falls }

pub openable : (depth : ℕ) (p : r.Program) → IsTyped (meaning_of p) → IsResolved (meaning_of p) → HasNoRecursion (meaning_of p) → is_judged (meaning_of p) ≡ true → longest_chain p ≤ depth → IsOpenable depth (meaning_of p)
openable depth p typed resolved recursion judged short =
    record { typed = typed; resolved = resolved; recursion = recursion; judged = judged; chains = short_chains p recursion depth short }
