-- The choices of blocks, one block after the other.
use Rattle.std.proofs.Common.{◌≡◌, ℕ, zero, suc, ◌+◌, ◌-◌, ◌<◌, List, [], ◌∷◌, length, map, drop, get_or, Option, Some, None, refl, sym, ap, ◌∙◌, append-nil, arith}
use Rattle.std.specs.Prelude.{slice_get}
use Rattle.bg_ast.specs.Values.{Val}
use Rattle.bg_ast.specs.Execution.{Choice}
use Rattle.bg_flow.specs.Blocks.{Block}
use Rattle.bg_passive.specs.Passive.{Walked}
use Rattle.bg_model.specs.declared.turn.Turn.{Turn}
use Rattle.bg_incarnate.proofs.Passing.{drop_item}
use Rattle.bg_formed.specs.Formed.{FormCmd, FormBlock}
use Rattle.bg_model.specs.declared.front.Front.{Front}
use Rattle.bg_model.specs.Turns.{front_of, choices_on, turn_choices, taken}
use Rattle.bg_model.specs.Picks.{choice_by}
use Rattle.bg_model.specs.Views.{made_by}

pub no_more : {A : Type 0} (xs : List A) (i : ℕ) → slice_get xs i ≡ None → drop i xs ≡ []
no_more [] zero e = refl
no_more [] (suc i) e = refl
no_more (x ∷ xs) zero e = absurd (let bad : ⊥ = cc in bad)
no_more (x ∷ xs) (suc i) e = no_more xs i e

here : {A : Type 0} (xs : List A) (i : ℕ) (x : A) → slice_get xs i ≡ Some x → drop i xs ≡ x ∷ drop (suc i) xs
here [] zero x e = absurd (let bad : ⊥ = cc in bad)
here [] (suc i) x e = absurd (let bad : ⊥ = cc in bad)
here (y ∷ xs) zero x e = let s : y ≡ x = cc in ap (λ z. z ∷ xs) s
here (y ∷ xs) (suc i) x e = here xs i x e

pub one_more : {A : Type 0} (xs : List A) (i : ℕ) (x : A) → slice_get xs i ≡ Some x → drop i xs ≡ x ∷ drop (i + 1) xs
one_more xs i x e = here xs i x e ∙ ap (λ n. x ∷ drop n xs) (let h : suc i ≡ i + 1 = omega arith in h)

drop_suc : {A : Type 0} (xs : List A) (i : ℕ) → drop 1 (drop i xs) ≡ drop (suc i) xs
drop_suc [] zero = refl
drop_suc [] (suc i) = refl
drop_suc (x ∷ xs) zero = refl
drop_suc (x ∷ xs) (suc i) = drop_suc xs i

drop_one : {A : Type 0} (xs : List A) (i : ℕ) → drop 1 (drop i xs) ≡ drop (i + 1) xs
drop_one xs i = drop_suc xs i ∙ ap (λ n. drop n xs) (let h : suc i ≡ i + 1 = omega arith in h)

drop_map : {A : Type 0} {B : Type 0} (f : A → B) (xs : List A) → drop 1 (map f xs) ≡ map f (drop 1 xs)
drop_map f [] = refl
drop_map f (x ∷ xs) = refl

module _ (walked : List FormCmd → Walked) (vs : List Val) where
  pub no_block : (bs : List Block) (ns : List ℕ) (ts : List Turn) (k : ℕ) → taken walked vs bs [] ns ts k ≡ []
  no_block [] ns ts k = refl
  no_block (b ∷ bs) ns ts k = refl

  pub no_first : (bs : List Block) (qs : List FormBlock) (ts : List Turn) (k : ℕ) → taken walked vs bs qs [] ts k ≡ []
  no_first [] qs ts k = refl
  no_first (b ∷ bs) [] ts k = refl
  no_first (b ∷ bs) (q ∷ qs) ts k = refl

  pub no_turn : (bs : List Block) (qs : List FormBlock) (ns : List ℕ) (k : ℕ) → taken walked vs bs qs ns [] k ≡ []
  no_turn [] qs ns k = refl
  no_turn (b ∷ bs) [] ns k = refl
  no_turn (b ∷ bs) (q ∷ qs) [] k = refl
  no_turn (b ∷ bs) (q ∷ qs) (n ∷ ns) k = refl

  skip_one : (b : Block) (bs : List Block) (qs : List FormBlock) (ns : List ℕ) (ts : List Turn) (k : ℕ) → taken walked vs (b ∷ bs) qs ns ts (suc k) ≡ taken walked vs bs (drop 1 qs) (drop 1 ns) (drop 1 ts) k
  skip_one b bs [] ns ts k = sym (no_block bs (drop 1 ns) (drop 1 ts) k)
  skip_one b bs (q ∷ qs) [] ts k = sym (no_first bs qs (drop 1 ts) k)
  skip_one b bs (q ∷ qs) (n ∷ ns) [] k = sym (no_turn bs qs ns k)
  skip_one b bs (q ∷ qs) (n ∷ ns) (t ∷ ts) k = refl

  -- a block that isn't visited
  skipped : {A : Type 0} (f : A → FormBlock) (b : Block) (bs : List Block) (qs : List A) (ns : List ℕ) (ts : List Turn) (i k : ℕ) → taken walked vs (b ∷ bs) (map f (drop i qs)) (drop i ns) (drop i ts) (suc k) ≡ taken walked vs bs (map f (drop (i + 1) qs)) (drop (i + 1) ns) (drop (i + 1) ts) k
  skipped f b bs qs ns ts i k =
      skip_one b bs (map f (drop i qs)) (drop i ns) (drop i ts) k
      ∙ (ap (λ l. taken walked vs bs l (drop 1 (drop i ns)) (drop 1 (drop i ts)) k) (drop_map f (drop i qs) ∙ ap (map f) (drop_one qs i))
      ∙ (ap (λ l. taken walked vs bs (map f (drop (i + 1) qs)) l (drop 1 (drop i ts)) k) (drop_one ns i)
      ∙ ap (λ l. taken walked vs bs (map f (drop (i + 1) qs)) (drop (i + 1) ns) l k) (drop_one ts i)))

  pub passed_over : {A : Type 0} (f : A → FormBlock) (b : Block) (bs : List Block) (qs : List A) (ns : List ℕ) (ts : List Turn) (i skip : ℕ) → 0 < skip → taken walked vs (b ∷ bs) (map f (drop i qs)) (drop i ns) (drop i ts) skip ≡ taken walked vs bs (map f (drop (i + 1) qs)) (drop (i + 1) ns) (drop (i + 1) ts) (skip - 1)
  passed_over f b bs qs ns ts i zero h = absurd (let bad : ⊥ = omega (arith, h) in bad)
  passed_over f b bs qs ns ts i (suc k) h =
      skipped f b bs qs ns ts i k
      ∙ ap (taken walked vs bs (map f (drop (i + 1) qs)) (drop (i + 1) ns) (drop (i + 1) ts)) (let e : k ≡ suc k - 1 = omega arith in e)

  -- a block that is visited
  pub visited : {A : Type 0} (f : A → FormBlock) (b : Block) (bs : List Block) (qs : List A) (ns : List ℕ) (ts : List Turn) (i : ℕ) (q : A) (n : ℕ) (t : Turn) → slice_get qs i ≡ Some q → slice_get ns i ≡ Some n → slice_get ts i ≡ Some t → taken walked vs (b ∷ bs) (map f (drop i qs)) (drop i ns) (drop i ts) 0 ≡ front_of walked vs b.cmds (f q).cmds n (turn_choices t b.exit (taken walked vs bs (map f (drop (i + 1) qs)) (drop (i + 1) ns) (drop (i + 1) ts)))
  visited f b bs qs ns ts i q n t e g h =
      ap (λ l. taken walked vs (b ∷ bs) (map f l) (drop i ns) (drop i ts) 0) (one_more qs i q e)
      ∙ (ap (λ l. taken walked vs (b ∷ bs) (f q ∷ map f (drop (i + 1) qs)) l (drop i ts) 0) (one_more ns i n g)
      ∙ ap (λ l. taken walked vs (b ∷ bs) (f q ∷ map f (drop (i + 1) qs)) (n ∷ drop (i + 1) ns) l 0) (one_more ts i t h))

  -- one turn of the loop over blocks
  module _ {A : Type 0} {B : Type 0} (f : A → FormBlock) (g : B → Block) (xs : List B) (qs : List A) (ns : List ℕ) (ts : List Turn) (i : ℕ) (x : B) (low : i < length xs) (at : x ≡ get_or xs i x) (was : Front) (skip : ℕ) (whole : List Choice) (known : made_by vs was (taken walked vs (map g (drop i xs)) (map f (drop i qs)) (drop i ns) (drop i ts) skip) ≡ whole) where
    first_one : made_by vs was (taken walked vs (g x ∷ map g (drop (i + 1) xs)) (map f (drop i qs)) (drop i ns) (drop i ts) skip) ≡ whole
    first_one =
        ap (λ l. made_by vs was (taken walked vs (map g l) (map f (drop i qs)) (drop i ns) (drop i ts) skip)) (sym (drop_item xs i x low at)) ∙ known

    pub steps_over : 0 < skip → made_by vs was (taken walked vs (map g (drop (i + 1) xs)) (map f (drop (i + 1) qs)) (drop (i + 1) ns) (drop (i + 1) ts) (skip - 1)) ≡ whole
    steps_over h =
        ap (made_by vs was) (sym (passed_over f (g x) (map g (drop (i + 1) xs)) qs ns ts i skip h)) ∙ first_one

    module _ (now : Front) (to : Option ℕ) (here_now : skip ≡ 0) (step : (bs : List Block) → made_by vs was (taken walked vs (g x ∷ bs) (map f (drop i qs)) (drop i ns) (drop i ts) 0) ≡ made_by vs now (choices_on to (taken walked vs bs (map f (drop (i + 1) qs)) (drop (i + 1) ns) (drop (i + 1) ts)))) where
      stepped : made_by vs now (choices_on to (taken walked vs (map g (drop (i + 1) xs)) (map f (drop (i + 1) qs)) (drop (i + 1) ns) (drop (i + 1) ts))) ≡ whole
      stepped =
          sym (step (map g (drop (i + 1) xs)))
          ∙ (ap (λ k. made_by vs was (taken walked vs (g x ∷ map g (drop (i + 1) xs)) (map f (drop i qs)) (drop i ns) (drop i ts) k)) (sym here_now) ∙ first_one)

      pub steps_on : (k : ℕ) → to ≡ Some k → made_by vs now (taken walked vs (map g (drop (i + 1) xs)) (map f (drop (i + 1) qs)) (drop (i + 1) ns) (drop (i + 1) ts) k) ≡ whole
      steps_on k e =
          ap (λ o. made_by vs now (choices_on o (taken walked vs (map g (drop (i + 1) xs)) (map f (drop (i + 1) qs)) (drop (i + 1) ns) (drop (i + 1) ts)))) (sym e) ∙ stepped

      pub steps_end : to ≡ None → map (choice_by vs) now.made.items ≡ whole
      steps_end e =
          sym (append-nil (map (choice_by vs) now.made.items))
          ∙ (ap (λ o. made_by vs now (choices_on o (taken walked vs (map g (drop (i + 1) xs)) (map f (drop (i + 1) qs)) (drop (i + 1) ns) (drop (i + 1) ts)))) (sym e) ∙ stepped)

pub got : {A : Type 0} (xs : List A) (k : ℕ) (d : A) → k < length xs → d ≡ get_or xs k d → slice_get xs k ≡ Some d
got [] k d h e = absurd (omega arith)
got (x ∷ xs) zero d h e = ap Some (sym e)
got (x ∷ xs) (suc k) d h e = got xs k d (omega arith) e
