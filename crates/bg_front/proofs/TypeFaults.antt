-- A program has no fault of types, or one that is answered.
use Rattle.std.proofs.Common.{◌≡◌, inl, inr, ℕ, Bool, true, false, List, [], ◌∷◌, ◌++◌, Some, slice_get, sym, ap, ◌∙◌, subst}
use Rattle.bg_ast.specs.Resolved as r
use Rattle.bg_kinds.specs.Faults.{Fault, EachOf, IsFirst, CyclicSynonym, comes_before}
use Rattle.bg_kinds.specs.Kinds.{Kind}
use Rattle.bg_types.specs.Programs.{program_faults}
use Rattle.bg_kinds.specs.Synonyms.{synonym_graph, IsCyclic}
use Rattle.bg_types.specs.Verdicts.{IsWellTyped, IsFault}
use Rattle.bg_resolve.proofs.Told.{one_on_cycle}
use Rattle.bg_front.proofs.Unfolded.{one_unfolding}

-- ---- the fault of a list that is answered is one alone
at_cut : (P : Fault → Type 0) (xs : List Fault) (f : Fault) (ys : List Fault) → EachOf P (xs ++ f ∷ ys) → P f
at_cut P [] f ys h = h.0
at_cut P (x ∷ xs) f ys h = at_cut P xs f ys h.1

both_ways : (b : Bool) → b ≡ true → b ≡ false → ⊥
both_ways true h k = absurd (let e : true ≡ false = k in cc)
both_ways false h k = absurd (let e : false ≡ true = h in cc)

one_cut : (f g : Fault) (xs us ys vs : List Fault) → xs ++ f ∷ us ≡ ys ++ g ∷ vs → EachOf (λ x. comes_before f x ≡ true) xs → EachOf (λ x. comes_before x f ≡ false) us → EachOf (λ x. comes_before g x ≡ true) ys → EachOf (λ x. comes_before x g ≡ false) vs → f ≡ g
one_cut f g [] us [] vs e a b c d = cc
one_cut f g [] us (y ∷ ys) vs e a b c d =
    let same : f ≡ y = cc in
    let rest : us ≡ ys ++ g ∷ vs = cc in
    let yes : comes_before g f ≡ true = ap (comes_before g) same ∙ c.0 in
    let no : comes_before g f ≡ false = at_cut (λ x. comes_before x f ≡ false) ys g vs (subst (λ (l : List Fault). EachOf (λ x. comes_before x f ≡ false) l) rest b) in
    absurd (both_ways (comes_before g f) yes no)
one_cut f g (x ∷ xs) us [] vs e a b c d =
    let same : g ≡ x = cc in
    let rest : vs ≡ xs ++ f ∷ us = cc in
    let yes : comes_before f g ≡ true = ap (comes_before f) same ∙ a.0 in
    let no : comes_before f g ≡ false = at_cut (λ x. comes_before x g ≡ false) xs f us (subst (λ (l : List Fault). EachOf (λ x. comes_before x g ≡ false) l) rest d) in
    absurd (both_ways (comes_before f g) yes no)
one_cut f g (x ∷ xs) us (y ∷ ys) vs e a b c d =
    let rest : xs ++ f ∷ us ≡ ys ++ g ∷ vs = cc in
    one_cut f g xs us ys vs rest a.1 b c.1 d

pub one_first : (fs : List Fault) (f g : Fault) → IsFirst f fs → IsFirst g fs → f ≡ g
one_first fs f g a b = one_cut f g a.before a.behind b.before b.behind (sym a.split ∙ b.split) a.first a.least b.first b.least

none_first : (fs : List Fault) (f : Fault) → fs ≡ [] → IsFirst f fs → ⊥
none_first fs f e a = no a.before (sym e ∙ a.split)
  where
    no : (xs : List Fault) → [] ≡ xs ++ f ∷ a.behind → ⊥
    no [] h = cc
    no (x ∷ xs) h = cc

-- ---- programs
pub typed_no_fault : (p : r.Program) (f : Fault) → IsWellTyped p → IsFault p f → ⊥
typed_no_fault p f a (inl c) = a.acyclic c.number c.first.0
typed_no_fault p f a (inr h) =
    let e : h.named ≡ a.named = one_unfolding p.types a.acyclic h.named a.named h.unfolded a.unfolded in
    none_first (program_faults h.named p) f (ap (λ (n : ℕ → Kind). program_faults n p) e ∙ a.none) h.first

same_name : (d e : r.TypeName) → d ≡ e → CyclicSynonym d.name ≡ CyclicSynonym e.name
same_name d e h = ap (λ (x : r.TypeName). CyclicSynonym x.name) h

one_cyclic : (ds : List r.TypeName) (f g : Fault) → IsCyclic ds f → IsCyclic ds g → f ≡ g
one_cyclic ds f g a b =
    let n : a.number ≡ b.number = one_on_cycle (synonym_graph ds) a.number b.number a.first b.first in
    let s : Some a.declared ≡ Some b.declared = sym a.is_there ∙ (ap (slice_get ds) n ∙ b.is_there) in
    let d : a.declared ≡ b.declared = cc in
    a.named ∙ (same_name a.declared b.declared d ∙ sym b.named)

pub one_fault : (p : r.Program) (f g : Fault) → IsFault p f → IsFault p g → f ≡ g
one_fault p f g (inl a) (inl b) = one_cyclic p.types f g a b
one_fault p f g (inl a) (inr b) = absurd (b.acyclic a.number a.first.0)
one_fault p f g (inr a) (inl b) = absurd (a.acyclic b.number b.first.0)
one_fault p f g (inr a) (inr b) =
    let e : a.named ≡ b.named = one_unfolding p.types a.acyclic a.named b.named a.unfolded b.unfolded in
    one_first (program_faults b.named p) f g (subst (λ (n : ℕ → Kind). IsFirst f (program_faults n p)) e a.first) b.first
