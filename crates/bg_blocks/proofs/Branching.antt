-- Branches and loops, by the states in which their parts are made.
use Rattle.std.proofs.Common.{◌≡◌, ℕ, zero, suc, ◌+◌, ◌<◌, false, List, [], ◌∷◌, ◌++◌, length, map, take, drop, refl, sym, ap, ◌∙◌, arith}
use Rattle.std.specs.Prelude.{get_or, reverse}
use Rattle.std.proofs.lemmas.List.{length-append}
use Rattle.bg_ast.specs.Syntax as s
use Rattle.bg_ast.specs.Resolved as r
use Rattle.bg_ast.specs.Views.{arm_view, arms_from}
use Rattle.bg_ast.specs.declared.resolved.Arm.{Arm}
use Rattle.bg_sense.specs.Flow.{Behind}
use Rattle.bg_flow.specs.Core.{Core, Seq, Mark, Choose, Loop, Head}
use Rattle.bg_blocks.specs.declared.emit.Emitted as code
use Rattle.bg_blocks.specs.Marks.{key, undone}
use Rattle.bg_blocks.specs.MarkViews.{marked}
use Rattle.bg_blocks.specs.Emitted.{State, marked_at, marked_each, with_marks_of, Emits}
use Rattle.bg_blocks.specs.EmittedViews.{made_of, state_of}
use Rattle.bg_blocks.proofs.Emission.{emits_seq, emits_mark}
use Rattle.bg_blocks.proofs.Reading.{same_state}

pub drop_front : {A : Type 0} (xs ys : List A) → drop (length xs) (xs ++ ys) ≡ ys
drop_front [] ys = refl
drop_front (x ∷ xs) ys = drop_front xs ys

pub take_front : {A : Type 0} (xs ys : List A) → take (length xs) (xs ++ ys) ≡ xs
take_front [] ys = refl
take_front (x ∷ xs) ys = ap (λ l. x ∷ l) (take_front xs ys)

-- all marks since a state are taken back
pub went_back : (p : r.Program) (core : Core) (s0 : State) (e f : code.Emitted) (n : ℕ) → Emits core s0 (state_of p e) → length s0.undo ≡ n →
    marked f.marks ≡ undone (drop n e.marks.undo.items) (marked e.marks) → f.marks.undo.items ≡ take n e.marks.undo.items → f.blocks ≡ e.blocks → f.takes_in ≡ e.takes_in →
    state_of p f ≡ with_marks_of s0 (state_of p e)
went_back p core s0 e f n x is ms us bs os =
    let cut : drop n e.marks.undo.items ≡ x.extra = ap (drop n) x.kept ∙ (ap (λ k. drop k (s0.undo ++ x.extra)) (sym is) ∙ drop_front s0.undo x.extra) in
    let front : take n e.marks.undo.items ≡ s0.undo = ap (take n) x.kept ∙ (ap (λ k. take k (s0.undo ++ x.extra)) (sym is) ∙ take_front s0.undo x.extra) in
    same_state (state_of p f) (with_marks_of s0 (state_of p e))
    (ap (λ v. reverse (map (made_of p) v.items)) bs)
    os
    (ms ∙ (ap (λ l. undone l (marked e.marks)) cut ∙ x.undoes))
    (us ∙ front)

pub each_blocks : (n k : ℕ) (s0 : State) → (marked_each n k s0).blocks ≡ s0.blocks
each_blocks n zero s0 = refl
each_blocks n (suc k) s0 = each_blocks n k s0

pub each_undo : (n k : ℕ) (s0 : State) → length (marked_each n k s0).undo ≡ length s0.undo + k
each_undo n zero s0 = omega arith
each_undo n (suc k) s0 =
    let more = length-append (marked_each n k s0).undo ((key (Behind (n + k)), (marked_each n k s0).marks (key (Behind (n + k)))) ∷ []) in
    let rest = each_undo n k s0 in
    omega (arith, more, rest)

-- jumps lead there
pub each_closed : (n k j : ℕ) (s0 : State) → suc j ≡ k → (marked_each n k s0).takes_in ≡ false
each_closed n k j s0 is = ap (λ i. (marked_each n i s0).takes_in) (sym is)

-- a branch, and what lies behind it
pub emits_branch : (g : s.Guard) (a b : Core) (n : ℕ) (s0 end : State) → Emits (Choose g a b) (marked_at (Behind n) s0) end → Emits (Seq (Choose g a b) (Mark (Behind n))) s0 end
emits_branch g a b n s0 end x = emits_seq (Choose g a b) (Mark (Behind n)) s0 (marked_at (Behind n) s0) end (emits_mark (Behind n) s0) x

pub emits_turns : (head : Head) (g : s.Guard) (a : Core) (n : ℕ) (s0 end : State) → Emits (Loop head g a) (marked_at (Behind n) s0) end → Emits (Seq (Loop head g a) (Mark (Behind n))) s0 end
emits_turns head g a n s0 end x = emits_seq (Loop head g a) (Mark (Behind n)) s0 (marked_at (Behind n) s0) end (emits_mark (Behind n) s0) x

-- the arms from this one on
pub arms_at : (arms : List Arm) (j : ℕ) (a : Arm) → j < length arms → a ≡ get_or arms j a → arms_from (map arm_view (drop j arms)) ≡ r.Arm (arm_view a).0 (arm_view a).1 (arms_from (map arm_view (drop (j + 1) arms)))
arms_at [] j a h e = absurd (omega (arith, h))
arms_at (x ∷ arms) zero a h e = ap (λ y. r.Arm (arm_view y).0 (arm_view y).1 (arms_from (map arm_view arms))) (sym e)
arms_at (x ∷ arms) (suc j) a h e = let more : suc (j + 1) ≡ suc j + 1 = omega arith in arms_at arms j a (omega (arith, h)) e ∙ ap (λ k. r.Arm (arm_view a).0 (arm_view a).1 (arms_from (map arm_view (drop k (x ∷ arms))))) more
