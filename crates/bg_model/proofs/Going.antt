-- The choices of commands, one command after the other.
use Rattle.std.proofs.Common.{◌≡◌, ℕ, zero, suc, ◌+◌, ◌-◌, ◌<◌, Bool, true, false, List, [], ◌∷◌, ◌++◌, length, map, take, drop, get_or, refl, sym, ap, ◌∙◌, append_assoc, arith}
use Rattle.std.specs.Prelude.{min}
use Rattle.bg_ast.specs.Values.{Val}
use Rattle.bg_ast.specs.Execution as e
use Rattle.bg_flow.specs.Core.{Cmd}
use Rattle.bg_passive.specs.ReadBack.{cmd_choices}
use Rattle.bg_incarnate.proofs.Passing.{drop_item}
use Rattle.bg_formed.specs.declared.blocks.FormCmd as code
use Rattle.bg_formed.specs.Views.{form_cmd_of, form_cmds_of}
use Rattle.bg_model.specs.declared.trial.Trial.{Trial}
use Rattle.bg_model.specs.declared.front.Front.{Front}
use Rattle.bg_model.specs.declared.pick.Pick.{Pick}
use Rattle.bg_model.specs.Picks.{choice_by}
use Rattle.bg_model.specs.declared.share.Share.{Share}
use Rattle.bg_model.specs.declared.walk.Went.{Went}
use Rattle.bg_model.specs.declared.walk.Went.TheVariants as went
use Rattle.bg_model.specs.Fronts.{chosen_from, if_on}
use Rattle.bg_model.specs.Turns.{width, next_after, front_of}
use Rattle.bg_model.specs.Shares.{IsShare}
use Rattle.bg_model.specs.Views.{walked_of, walk_in, if_goes, made_by, next_by}

take_whole : {A : Type 0} (xs : List A) → take (length xs) xs ≡ xs
take_whole [] = refl
take_whole (x ∷ xs) = ap (λ l. x ∷ l) (take_whole xs)

take_none : {A : Type 0} (n : ℕ) → (let none : List A = [] in take n none ≡ none)
take_none zero = refl
take_none (suc n) = refl

module _ {A : Type 0} {B : Type 0} (f : A → B) where
  take_own : (xs : List A) (n w : ℕ) → w ≡ min n (length xs) → take n (map f xs) ≡ map f (take w xs)
  take_own [] zero w e = let h : w ≡ 0 = omega (arith, e) in rw h refl
  take_own [] (suc n) w e = let h : w ≡ 0 = omega (arith, e) in rw h refl
  take_own (x ∷ xs) zero w e = let h : w ≡ 0 = omega (arith, e) in rw h refl
  take_own (x ∷ xs) (suc n) zero e = absurd (omega (arith, e))
  take_own (x ∷ xs) (suc n) (suc w) e = ap (λ l. f x ∷ l) (take_own xs n w (omega (arith, e)))

  drop_own : (xs : List A) (n w : ℕ) → w ≡ min n (length xs) → drop n (map f xs) ≡ map f (drop w xs)
  drop_own [] zero w e = let h : w ≡ 0 = omega (arith, e) in rw h refl
  drop_own [] (suc n) w e = let h : w ≡ 0 = omega (arith, e) in rw h refl
  drop_own (x ∷ xs) zero w e = let h : w ≡ 0 = omega (arith, e) in rw h refl
  drop_own (x ∷ xs) (suc n) zero e = absurd (omega (arith, e))
  drop_own (x ∷ xs) (suc n) (suc w) e = drop_own xs n w (omega (arith, e))

  pub take_rest : (xs : List A) (n : ℕ) → take (length xs - n) (drop n xs) ≡ drop n xs
  take_rest [] zero = refl
  take_rest [] (suc n) = take_none (0 - suc n)
  take_rest (x ∷ xs) zero = let h : suc (length xs) - 0 ≡ suc (length xs) = omega arith in rw h (ap (λ l. x ∷ l) (take_whole xs))
  take_rest (x ∷ xs) (suc n) = let h : suc (length xs) - suc n ≡ length xs - n = omega arith in rw h (take_rest xs n)

module _ (vs : List Val) (t : Trial) (f : Front) (k : Cmd) (ks : List Cmd) (rest : List e.Choice) (s : Share) (w : ℕ) (g : Went) (own : List code.FormCmd) (is : IsShare k s) (low : w ≡ min s.cmds (length f.left.now)) (taken : own ≡ take w f.left.now) (told : walked_of g ≡ walk_in t (form_cmds_of own)) where
  own_told : walk_in t (take (width k) (form_cmds_of f.left.now)) ≡ walked_of g
  own_told =
      ap (λ n. walk_in t (take n (form_cmds_of f.left.now))) is.cmds
      ∙ (ap (walk_in t) (take_own form_cmd_of f.left.now s.cmds w low) ∙ (ap (λ l. walk_in t (form_cmds_of l)) (sym taken) ∙ sym told))

  abbrev behind : List e.Choice
  behind =
      cmd_choices k f.next vs ++ front_of (walk_in t) vs ks (drop (width k) (form_cmds_of f.left.now)) (next_after k f.next) rest

  pub stops : g ≡ went.Stopped → made_by vs f (next_by vs t (k ∷ ks) f rest) ≡ made_by vs f []
  stops e = ap (λ o. made_by vs f (if_on o behind)) (own_told ∙ ap walked_of e)

  pub hits : g ≡ went.Hit → made_by vs f (next_by vs t (k ∷ ks) f rest) ≡ made_by vs f []
  hits e = ap (λ o. made_by vs f (if_on o behind)) (own_told ∙ ap walked_of e)

  pub goes : g ≡ went.On → (made' : List Pick) (left' : List code.FormCmd) (first next' : ℕ) → map (choice_by vs) made' ≡ map (choice_by vs) f.made.items ++ chosen_from vs first s.chooses → first ≡ f.next + s.skips → next' ≡ first + s.chooses → left' ≡ drop w f.left.now → made_by vs f (next_by vs t (k ∷ ks) f rest) ≡ map (choice_by vs) made' ++ front_of (walk_in t) vs ks (form_cmds_of left') next' rest
  goes on made' left' first next' more at next left =
      let own = chosen_from vs first s.chooses in
      let n : next_after k f.next ≡ next' = is.next f.next ∙ (ap (λ j. j + s.chooses) (sym at) ∙ sym next) in
      let l : drop (width k) (form_cmds_of f.left.now) ≡ form_cmds_of left' = ap (λ j. drop j (form_cmds_of f.left.now)) is.cmds ∙ (drop_own form_cmd_of f.left.now s.cmds w low ∙ ap form_cmds_of (sym left)) in
      let c : cmd_choices k f.next vs ≡ own = is.chosen vs f.next ∙ ap (λ j. chosen_from vs j s.chooses) (sym at) in
      let then = front_of (walk_in t) vs ks (form_cmds_of left') next' rest in
      ap (λ o. made_by vs f (if_on o behind)) (own_told ∙ ap walked_of on)
      ∙ (ap (λ x. made_by vs f (x ++ front_of (walk_in t) vs ks (drop (width k) (form_cmds_of f.left.now)) (next_after k f.next) rest)) c
      ∙ (ap (λ x. made_by vs f (own ++ front_of (walk_in t) vs ks x (next_after k f.next) rest)) l
      ∙ (ap (λ x. made_by vs f (own ++ front_of (walk_in t) vs ks (form_cmds_of left') x rest)) n
      ∙ (sym (append_assoc (map (choice_by vs) f.made.items) own then) ∙ ap (λ x. x ++ then) (sym more)))))

-- one turn of the loop over commands
module _ {A : Type 0} (f : A → Cmd) (vs : List Val) (t : Trial) (ks : List A) (i : ℕ) (k : A) (low : i < length ks) (at : k ≡ get_or ks i k) (was now : Front) (rest : List e.Choice) (whole : List e.Choice) (known : made_by vs was (next_by vs t (map f (drop i ks)) was rest) ≡ whole) where
  pub next_command : (b : Bool) → b ≡ true → ((others : List Cmd) (more : List e.Choice) → made_by vs was (next_by vs t (f k ∷ others) was more) ≡ made_by vs now (if_goes b (next_by vs t others now more))) → made_by vs now (next_by vs t (map f (drop (i + 1) ks)) now rest) ≡ whole
  next_command b e step =
      ap (λ x. made_by vs now (if_goes x (next_by vs t (map f (drop (i + 1) ks)) now rest))) (sym e)
      ∙ (sym (step (map f (drop (i + 1) ks)) rest)
      ∙ (ap (λ l. made_by vs was (next_by vs t (map f l) was rest)) (sym (drop_item ks i k low at)) ∙ known))

  pub last_command : (b : Bool) → b ≡ false → ((others : List Cmd) (more : List e.Choice) → made_by vs was (next_by vs t (f k ∷ others) was more) ≡ made_by vs now (if_goes b (next_by vs t others now more))) → whole ≡ made_by vs now []
  last_command b e step =
      sym known
      ∙ (ap (λ l. made_by vs was (next_by vs t (map f l) was rest)) (drop_item ks i k low at)
      ∙ (step (map f (drop (i + 1) ks)) rest ∙ ap (λ x. made_by vs now (if_goes x (next_by vs t (map f (drop (i + 1) ks)) now rest))) e))
