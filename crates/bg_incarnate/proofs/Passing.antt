-- Commands that are passed one after the other.
use Rattle.std.proofs.Common.{◌≡◌, ℕ, List, [], ◌∷◌, ◌++◌, ◌+◌, ◌<◌, zero, suc, map, drop, length, get_or, refl, sym, ap, ◌∙◌, append_assoc, append-nil, add-one, arith}
use Rattle.bg_flow.specs.Core.{Cmd, sayings}
use Rattle.bg_ast.specs.Syntax as s
use Rattle.bg_blocks.specs.declared.block.Kept.{Kept}
use Rattle.bg_blocks.specs.declared.block.Kept.TheVariants as kept
use Rattle.bg_blocks.specs.Views.{sayings_in}
use Rattle.bg_passive.specs.Passive.{PassiveCmd}
use Rattle.bg_passive.specs.Incarnations.{Env, Passed, pass, pass_all}
use Rattle.bg_incarnate.specs.Views.{onto, is_kept_by}

pub same_passed : (c d : List PassiveCmd) (v w : Env) (m n : ℕ) → c ≡ d → v ≡ w → m ≡ n → (let a : Passed = record { cmds = c; env = v; next = m } in a) ≡ (let b : Passed = record { cmds = d; env = w; next = n } in b)
same_passed c d v w m n h k l = rw (h, k, l) refl

pub onto_none : (s : Passed) → onto (pass_all []) s ≡ s
onto_none s = same_passed (s.cmds ++ []) s.cmds s.env s.env s.next s.next (append-nil s.cmds) refl refl

pub onto_more : (k : Cmd) (ks : List Cmd) (s : Passed) → onto (pass_all (k ∷ ks)) s ≡ onto (pass_all ks) (onto (pass k) s)
onto_more k ks s =
    let a = pass k s.env s.next in
    let b = pass_all ks a.env a.next in
    same_passed (s.cmds ++ (a.cmds ++ b.cmds)) ((s.cmds ++ a.cmds) ++ b.cmds) b.env b.env b.next b.next (sym (append_assoc s.cmds a.cmds b.cmds)) refl refl

pub kept_is : (which : Kept) (ks : List s.Clause) → sayings (is_kept_by which) ks ≡ sayings_in which ks
kept_is kept.Each ks = refl
kept_is kept.Checked ks = refl
kept_is kept.Free ks = refl

drop_from : {A : Type 0} (xs : List A) (i : ℕ) (x : A) → i < length xs → x ≡ get_or xs i x → drop i xs ≡ x ∷ drop (suc i) xs
drop_from [] i x h e = absurd (omega (arith, h))
drop_from (y ∷ ys) zero x h e = ap (λ z. z ∷ ys) (sym e)
drop_from (y ∷ ys) (suc i) x h e = drop_from ys i x (omega (arith, h)) e

-- the rest of a list from an item on
pub drop_item : {A : Type 0} (xs : List A) (i : ℕ) (x : A) → i < length xs → x ≡ get_or xs i x → drop i xs ≡ x ∷ drop (i + 1) xs
drop_item xs i x h e = drop_from xs i x h e ∙ ap (λ n. x ∷ drop n xs) (sym (add-one i))

-- one turn of the loop over commands
pub onto_step : {A : Type 0} (f : A → Cmd) (ks : List A) (i : ℕ) (k : A) (s t whole : Passed) → i < length ks → k ≡ get_or ks i k → t ≡ onto (pass (f k)) s → onto (pass_all (map f (drop i ks))) s ≡ whole → onto (pass_all (map f (drop (i + 1) ks))) t ≡ whole
onto_step f ks i k s t whole h at e known =
    ap (onto (pass_all (map f (drop (i + 1) ks)))) e
    ∙ sym (onto_more (f k) (map f (drop (i + 1) ks)) s)
    ∙ ap (λ l. onto (pass_all (map f l)) s) (sym (drop_item ks i k h at))
    ∙ known

pub onto_end : {A : Type 0} (f : A → Cmd) (ks : List A) (s whole : Passed) → ks ≡ [] → onto (pass_all (map f ks)) s ≡ whole → s ≡ whole
onto_end f ks s whole h known = sym (onto_none s) ∙ ap (λ l. onto (pass_all (map f l)) s) (sym h) ∙ known
