-- The marked variables, from no marks on.
use Rattle.std.proofs.Common.{◌≡◌, ℕ, zero, suc, Bool, true, false, if◌then◌else◌, List, ◌∷◌, ◌++◌, length, map, filter, refl, sym, ap, ◌∙◌, arith, nat_lt, append-nil, subst}
use Rattle.std.specs.Prelude.{◌&&◌, ◌||◌, ◌+◌, get_or, replicate}
use Rattle.std.proofs.lemmas.Bool.Decides.{nat_tests}
use Rattle.std.proofs.lemmas.List.{length-map, length-replicate}
use Rattle.std.proofs.lemmas.List.Elements.{filter-append}
use Rattle.bg_ast.specs.Syntax.{Var, Global, Local, Decl, Prog}
use Rattle.bg_ast.specs.Resolved as r
use Rattle.bg_ast.specs.Meaning.{meaning_of, named_of, decl_of, sts_of}
use Rattle.bg_sense.specs.Variables.{is_among, count_from, globals_of, may_change, targets}
use Rattle.bg_flow.specs.Core.{still}
use Rattle.bg_changes.specs.Marks.{Marks, has_mark, with_marks, mark_sts}
use Rattle.bg_changes.proofs.Read.{is_in, Sized, marks_sized, marks_read}
use Rattle.bg_changes.proofs.Changed.{sts_sized, sts_read}

step : (b c : Bool) (x : Var) (xs ys : List Var) → b ≡ c → xs ≡ ys → (if b then x ∷ xs else xs) ≡ (if c then x ∷ ys else ys)
step b c x xs ys h k = rw (h, k) refl

counted_same : (f h : Var → Bool) (make : ℕ → Var) (k n : ℕ) → ((j : ℕ) → nat_lt j (k + n) ≡ true → f (make j) ≡ h (make j)) → filter f (map make (count_from k n)) ≡ filter h (map make (count_from k n))
counted_same f h make k zero e = refl
counted_same f h make k (suc n) e =
    step (f (make k)) (h (make k)) (make k) _ _ (e k (grind (arith, nat_tests))) (counted_same f h make (suc k) n (λ j l. e j (grind (arith, nat_tests, l))))

unset : (n j : ℕ) → get_or (replicate n false) j false ≡ false
unset zero j = refl
unset (suc n) zero = refl
unset (suc n) (suc j) = unset n j

no_mark : (g f : ℕ) (m : Marks) (y : Var) → m.globals ≡ replicate g false → m.frame ≡ replicate f false → has_mark m y ≡ false
no_mark g f m (Global j) h k = ap (λ l. get_or l j false) h ∙ unset g j
no_mark g f m (Local j) h k = ap (λ l. get_or l j false) k ∙ unset f j

sized : (g f : ℕ) (m : Marks) → m.globals ≡ replicate g false → m.frame ≡ replicate f false → Sized g f m
sized g f m h k = record { globals = ap length h ∙ length-replicate g false; frame = ap length k ∙ length-replicate f false }

alone : (i b m c : Bool) → i ≡ true → m ≡ false → c ≡ ((i && b) || m) → c ≡ b
alone i true m c h k e = e ∙ ap (λ j. (j && true) || m) h
alone i false m c h k e = e ∙ (ap (λ j. (j && false) || m) h ∙ k)

-- where marks say of each variable that there is what h says
listed_as : (g f : ℕ) (m : Marks) (h : Var → Bool) → Sized g f m → ((y : Var) → is_in g f y ≡ true → has_mark m y ≡ h y) → filter (has_mark m) (map Global (count_from 0 (length m.globals))) ++ filter (has_mark m) (map Local (count_from 0 (length m.frame))) ≡ filter h (map Global (count_from 0 g)) ++ filter h (map Local (count_from 0 f))
listed_as g f m h z e =
    ap (λ n. filter (has_mark m) (map Global (count_from 0 n)) ++ filter (has_mark m) (map Local (count_from 0 (length m.frame)))) z.globals
    ∙ (ap (λ n. filter (has_mark m) (map Global (count_from 0 g)) ++ filter (has_mark m) (map Local (count_from 0 n))) z.frame
    ∙ (ap (λ l. l ++ filter (has_mark m) (map Local (count_from 0 f))) (counted_same (has_mark m) h Global 0 g (λ j l. e (Global j) (grind (arith, nat_tests, l))))
    ∙ ap (λ l. filter h (map Global (count_from 0 g)) ++ l) (counted_same (has_mark m) h Local 0 f (λ j l. e (Local j) (grind (arith, nat_tests, l))))))

pub listed_targets : (p : r.Program) (g f : ℕ) (ds : List Decl) (start end : Marks) (ss : r.Sts) → g ≡ length p.globals → length ds ≡ f → start.globals ≡ replicate g false → start.frame ≡ replicate f false → end ≡ mark_sts p.procedures ss start → filter (has_mark end) (map Global (count_from 0 (length end.globals))) ++ filter (has_mark end) (map Local (count_from 0 (length end.frame))) ≡ targets (still (meaning_of p) ds) (sts_of ss)
listed_targets p g f ds start end ss h k sg sf e =
    let h' : Var → Bool = may_change (meaning_of p) (sts_of ss) in
    let z = sized g f start sg sf in
    listed_as g f end h' (subst (Sized g f) (sym e) (sts_sized g f p.procedures ss start z)) (λ y i. alone (is_in g f y) (h' y) (has_mark start y) (has_mark end y) i (no_mark g f start y sg sf) (ap (λ m. has_mark m y) e ∙ sts_read p g f h ss y start z))
    ∙ (ap (λ n. filter h' (map Global (count_from 0 n)) ++ filter h' (map Local (count_from 0 f))) (h ∙ sym (length-map p.globals (decl_of (named_of p.types))))
    ∙ (ap (λ n. filter h' (globals_of (meaning_of p)) ++ filter h' (map Local (count_from 0 n))) (sym k)
    ∙ sym (filter-append h' (globals_of (meaning_of p)) (map Local (count_from 0 (length ds))))))

pub listed_globals : (p : Prog) (g : ℕ) (start end : Marks) (ks : List ℕ) → length p.globals ≡ g → start.globals ≡ replicate g false → start.frame ≡ replicate 0 false → end ≡ with_marks (map Global ks) start → filter (has_mark end) (map Global (count_from 0 (length end.globals))) ++ filter (has_mark end) (map Local (count_from 0 (length end.frame))) ≡ filter (is_among (map Global ks)) (globals_of p)
listed_globals p g start end ks h sg sf e =
    let h' : Var → Bool = is_among (map Global ks) in
    let z = sized g 0 start sg sf in
    listed_as g 0 end h' (subst (Sized g 0) (sym e) (marks_sized g 0 (map Global ks) start z)) (λ y i. alone (is_in g 0 y) (h' y) (has_mark start y) (has_mark end y) i (no_mark g 0 start y sg sf) (ap (λ m. has_mark m y) e ∙ marks_read g 0 (map Global ks) y start z))
    ∙ (append-nil (filter h' (map Global (count_from 0 g)))
    ∙ ap (λ n. filter h' (map Global (count_from 0 n))) (sym h))
