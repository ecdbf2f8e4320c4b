-- Marks that are made one after the other are those of the numbers in a list.
use Rattle.std.proofs.Common.{◌≡◌, ℕ, zero, suc, ◌+◌, ◌≤◌, Bool, true, false, ◌||◌, not, List, [], ◌∷◌, ◌++◌, map, replicate, slice_set, refl, ap, ◌∙◌, sym, arith}
use Rattle.std.specs.Prelude.{◌==◌}
use Rattle.std.specs.List.{list_any}
use Rattle.std.proofs.lemmas.Bool.Decides.{nat_tests}
use Rattle.std.proofs.lemmas.List.Elements.{filter-append}
use Rattle.bg_ast.specs.Resolved as r
use Rattle.bg_ast.specs.Syntax as s
use Rattle.bg_ast.specs.Meaning.{st_of, sts_of, arms_of}
use Rattle.bg_sense.specs.Resolved.{called_in}
use Rattle.bg_sense.specs.Variables.{count_from}
use Rattle.bg_guess.specs.Calls.{others, called, implemented, marks, marked, marked_call, mark_st, mark_sts, mark_arms, mark_called, mark_implemented}

-- marks at the numbers of a list
abbrev at_all : List ℕ → List Bool → List Bool
at_all [] bs = bs
at_all (k ∷ ks) bs = at_all ks (marked k bs)

at_append : (ks ls : List ℕ) (bs : List Bool) → at_all (ks ++ ls) bs ≡ at_all ls (at_all ks bs)
at_append [] ls bs = refl
at_append (k ∷ ks) ls bs = at_append ks ls (marked k bs)

others_append : (own : ℕ) (ks ls : List ℕ) (bs : List Bool) → at_all (others own (ks ++ ls)) bs ≡ at_all (others own ls) (at_all (others own ks) bs)
others_append own ks ls bs = ap (λ z. at_all z bs) (filter-append (λ k. not (k == own)) ks ls) ∙ at_append (others own ks) (others own ls) bs

one_call : (own k : ℕ) (bs : List Bool) → marked_call own k bs ≡ at_all (others own (k ∷ [])) bs
one_call own k bs = by (k == own) refl
  where
    by : (b : Bool) → (k == own) ≡ b → marked_call own k bs ≡ at_all (others own (k ∷ [])) bs
    by true e = rw (e) refl
    by false e = rw (e) refl

mutual
  st_marked : (own : ℕ) (a : r.St) (bs : List Bool) → mark_st own a bs ≡ at_all (others own (called_in (st_of a))) bs
  st_marked own (r.Label l) bs = refl
  st_marked own (r.Assert k) bs = refl
  st_marked own (r.Assume e) bs = refl
  st_marked own (r.Havoc xs) bs = refl
  st_marked own (r.Assign p ts es) bs = refl
  st_marked own (r.Invoke k) bs = one_call own k.procedure bs
  st_marked own (r.If n arms otherwise) bs =
      sts_marked own otherwise (mark_arms own arms bs) ∙ sym (arms_marked own n arms (sts_of otherwise) bs)
  st_marked own (r.While n p g is body) bs = sts_marked own body bs
  st_marked own (r.Break n) bs = refl
  st_marked own (r.Goto ls) bs = refl
  st_marked own r.Return bs = refl

  sts_marked : (own : ℕ) (ss : r.Sts) (bs : List Bool) → mark_sts own ss bs ≡ at_all (others own (called_in (sts_of ss))) bs
  sts_marked own r.NoSt bs = refl
  sts_marked own (r.Then a rest) bs =
      sts_marked own rest (mark_st own a bs)
      ∙ (ap (at_all (others own (called_in (sts_of rest)))) (st_marked own a bs) ∙ sym (others_append own (called_in (st_of a)) (called_in (sts_of rest)) bs))

  -- arms, and statements behind them
  arms_marked : (own n : ℕ) (arms : r.Arms) (o : s.St) (bs : List Bool) → at_all (others own (called_in (arms_of n arms o))) bs ≡ at_all (others own (called_in o)) (mark_arms own arms bs)
  arms_marked own n r.NoArm o bs = refl
  arms_marked own n (r.Arm g body arms) o bs =
      others_append own (called_in (sts_of body)) (called_in (arms_of (suc n) arms o)) bs
      ∙ (ap (at_all (others own (called_in (arms_of (suc n) arms o)))) (sym (sts_marked own body bs)) ∙ arms_marked own (suc n) arms o (mark_sts own body bs))

called_marked : (ms : List r.Impl) (bs : List Bool) → mark_called ms bs ≡ at_all (called ms) bs
called_marked [] bs = refl
called_marked (m ∷ ms) bs =
    called_marked ms (mark_sts m.procedure m.body bs)
    ∙ (ap (at_all (called ms)) (sts_marked m.procedure m.body bs) ∙ sym (at_append (others m.procedure (called_in (sts_of m.body))) (called ms) bs))

implemented_marked : (ms : List r.Impl) (bs : List Bool) → mark_implemented ms bs ≡ at_all (implemented ms) bs
implemented_marked [] bs = refl
implemented_marked (m ∷ ms) bs = implemented_marked ms (marked m.procedure bs)

-- ---- a table of truth values, by number

agree : (f g : ℕ → Bool) (b n : ℕ) → ((k : ℕ) → b ≤ k → f k ≡ g k) → map f (count_from b n) ≡ map g (count_from b n)
agree f g b zero h = refl
agree f g b (suc n) h = rw (h b (omega arith), agree f g (suc b) n (λ k lt. h k (omega (arith, lt)))) refl

one_mark : (f : ℕ → Bool) (b n i j : ℕ) → j ≡ b + i → slice_set (map f (count_from b n)) i true ≡ map (λ k. (j == k) || f k) (count_from b n)
one_mark f b zero i j e = refl
one_mark f b (suc n) zero j e =
    let here : (j == b) ≡ true = grind (arith, nat_tests) in
    let rest = agree f (λ k. (j == k) || f k) (suc b) n (λ k lt. let no : (j == k) ≡ false = grind (arith, nat_tests) in rw (no) refl) in
    rw (here) (ap (λ bs. true ∷ bs) rest)
one_mark f b (suc n) (suc i) j e =
    let here : (j == b) ≡ false = grind (arith, nat_tests) in
    rw (here) (ap (λ bs. f b ∷ bs) (one_mark f (suc b) n i j (omega (arith, e))))

turned : (a b c : Bool) → ((a || b) || c) ≡ (b || (a || c))
turned true true c = refl
turned true false c = refl
turned false b c = refl

none_more : (a : Bool) → a ≡ (a || false)
none_more true = refl
none_more false = refl

table_marked : (ks : List ℕ) (f : ℕ → Bool) (n : ℕ) → at_all ks (map f (count_from 0 n)) ≡ map (λ k. f k || list_any (λ j. j == k) ks) (count_from 0 n)
table_marked [] f n = agree f (λ k. f k || false) 0 n (λ k lt. none_more (f k))
table_marked (j ∷ ks) f n =
    ap (at_all ks) (one_mark f 0 n j j (omega arith))
    ∙ (table_marked ks (λ k. (j == k) || f k) n ∙ agree _ _ 0 n (λ k lt. turned (j == k) (f k) (list_any (λ i. i == k) ks)))

no_marks : (b n : ℕ) → replicate n false ≡ map (λ k. false) (count_from b n)
no_marks b zero = refl
no_marks b (suc n) = ap (λ bs. false ∷ bs) (no_marks (suc b) n)

table : (k n : ℕ) (ks : List ℕ) → map (λ i. list_any (λ j. j == i) ks) (count_from k n) ≡ marks k n ks
table k zero ks = refl
table k (suc n) ks = ap (λ bs. list_any (λ j. j == k) ks ∷ bs) (table (suc k) n ks)

pub called_are : (ms : List r.Impl) (n : ℕ) → mark_called ms (replicate n false) ≡ marks 0 n (called ms)
called_are ms n = called_marked ms (replicate n false) ∙ (ap (at_all (called ms)) (no_marks 0 n) ∙ (table_marked (called ms) (λ k. false) n ∙ table 0 n (called ms)))

pub implemented_are : (ms : List r.Impl) (n : ℕ) → mark_implemented ms (replicate n false) ≡ marks 0 n (implemented ms)
implemented_are ms n = implemented_marked ms (replicate n false) ∙ (ap (at_all (implemented ms)) (no_marks 0 n) ∙ (table_marked (implemented ms) (λ k. false) n ∙ table 0 n (implemented ms)))
