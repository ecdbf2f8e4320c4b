-- The book keeps count of what the parts tell.
use Rattle.std.proofs.Common.{◌≡◌, ℕ, ◌+◌, ◌<◌, ◌^◌, Bool, true, false, List, [], ◌∷◌, ◌++◌, reverse, refl, sym, ap, ◌∙◌, subst, arith, ◌⊎◌, inl, inr}
use Rattle.std.specs.Prelude.{Vec}
use Rattle.std.proofs.lemmas.List.{reverse-append}
use Rattle.std.specs.declared.alloc.Global.{Global}
use Rattle.bg_formula.specs.Formulas.{Formula}
use Rattle.bg_cert.specs.Paths.{PathOf}
use Rattle.bg_tree.specs.declared.book.Head.{Head}
use Rattle.bg_tree.specs.declared.book.Head.TheVariants.{First, Next, Paid, Due}
use Rattle.bg_tree.specs.declared.book.Book.{Book}
use Rattle.bg_tree.specs.Counts.{Beside, Alone, After, cost, passed}
use Rattle.bg_tree.specs.Books.{beside, waits, besides, one, paid, paid_at, value, IsOwed, HeadOwed, AllOwed, HasRoom, IsBook, is_late, IsLate, head_of, IsTaken, spared, spares, Passes}

paid_snoc : (xs : List Bool) (b : Bool) → paid (xs ++ (b ∷ [])) ≡ paid xs + one b
paid_snoc [] b = omega arith
paid_snoc (x ∷ xs) b = let h = paid_snoc xs b in omega (arith, h)

pub waits_snoc : (xs : List Bool) (b : Bool) → waits (xs ++ (b ∷ [])) ≡ After false ∷ waits xs
waits_snoc [] b = refl
waits_snoc (x ∷ xs) b = ap (λ ws. After false ∷ ws) (waits_snoc xs b)

head_paid : (b : Bool) → paid_at (head_of b) ≡ one b
head_paid true = refl
head_paid false = refl

-- what is taken was paid for
taken_paid : (mid new : Book) → IsTaken mid new → paid_at new.head + paid new.owed.items ≡ paid mid.owed.items
taken_paid mid new t = by_cases t.taken
  where
    by_cases : ((mid.owed.items ≡ []) × (new.owed.items ≡ []) × (new.head ≡ First)) ⊎ ((b : Bool) × (mid.owed.items ≡ new.owed.items ++ (b ∷ [])) × (new.head ≡ head_of b)) → paid_at new.head + paid new.owed.items ≡ paid mid.owed.items
    by_cases (inl h) = rw (h.0, h.1, h.2) refl
    by_cases (inr h) = rw (h.1, h.2) (let p = paid_snoc new.owed.items h.0 in let q = head_paid h.0 in omega (arith, p, q))

none_passed : (x : Beside) (c : Bool) → passed x c [] ≡ []
none_passed Alone true = refl
none_passed Alone false = refl
none_passed (After b) c = refl

not_spared : (h : Head) (c : Bool) (bs : List Beside) → spares h c ≡ false → passed (beside h) c bs ≡ bs
not_spared First true bs e = absurd (cc)
not_spared First false bs e = refl
not_spared Next c bs e = refl
not_spared Paid c bs e = refl
not_spared Due c bs e = refl

is_spared : (h : Head) (c : Bool) → spares h c ≡ true → (h ≡ First) × (c ≡ true)
is_spared First true e = (refl, refl)
is_spared First false e = absurd (cc)
is_spared Next c e = absurd (cc)
is_spared Paid c e = absurd (cc)
is_spared Due c e = absurd (cc)

late_head : (b : Bool) → is_late (head_of b) ≡ true
late_head true = refl
late_head false = refl

owed_head : (f : Formula) (set : ℕ → Bool) (p : PathOf) (b : Bool) → IsOwed f set p b → HeadOwed f set p (head_of b)
owed_head f set p true h = h
owed_head f set p false h = h

no_room : (b : Bool) (bs : List Bool) (n : ℕ) → HasRoom (head_of b) bs n
no_room true bs n = tt
no_room false bs n = tt

late_beside : (b : Bool) → beside (head_of b) ≡ After false
late_beside true = refl
late_beside false = refl

same_left : (h : Head) (c : Bool) (n m : ℕ) → n + cost (beside h) c ≡ m + paid_at h → (h ≡ Due → c ≡ true) → (h ≡ Due) ⊎ (c ≡ false) → n ≡ m
same_left First c n m e d k = omega (arith, e)
same_left Next true n m e d (inl k) = absurd (cc)
same_left Next true n m e d (inr k) = absurd (cc)
same_left Next false n m e d k = omega (arith, e)
same_left Paid true n m e d (inl k) = absurd (cc)
same_left Paid true n m e d (inr k) = absurd (cc)
same_left Paid false n m e d k = omega (arith, e)
same_left Due true n m e d k = omega (arith, e)
same_left Due false n m e d k = absurd (let z = d refl in cc)

abbrev Taken : Book → Book → Type 0
Taken mid new = ((mid.owed.items ≡ []) × (new.owed.items ≡ []) × (new.head ≡ First)) ⊎ ((b : Bool) × (mid.owed.items ≡ new.owed.items ++ (b ∷ [])) × (new.head ≡ head_of b))

-- ---- the next path, where nothing is spared

stack_kept : (f : Formula) (set : ℕ → Bool) (ps : List PathOf) (mid new : Book) (h : Head) (c : Bool) → Taken mid new → spares h c ≡ false → AllOwed f set ps (reverse mid.owed.items) → IsBook f set ps new × (passed (beside h) c (waits mid.owed.items) ≡ besides ps new)
stack_kept f set [] mid new h c (inl t) s o = ((t.2, t.1), rw t.0 (none_passed (beside h) c))
stack_kept f set (p ∷ ps) mid new h c (inl t) s o = absurd (rw t.0 at o)
stack_kept f set [] mid new h c (inr t) s o = absurd (rw (t.1, reverse-append new.owed.items (t.0 ∷ [])) at o)
stack_kept f set (p ∷ ps) mid new h c (inr t) s o =
    let q = rw (t.1, reverse-append new.owed.items (t.0 ∷ [])) at o in (
      (rw t.2 (owed_head f set p t.0 q.0), (q.1, rw t.2 (no_room t.0 (reverse new.owed.items) new.left))),
      not_spared h c (waits mid.owed.items) s ∙ ap waits t.1 ∙ waits_snoc new.owed.items t.0 ∙ ap (λ x. x ∷ waits new.owed.items) (sym (ap beside t.2 ∙ late_beside t.0)),
    )

late_kept : (f : Formula) (set : ℕ → Bool) (ps : List PathOf) (mid new : Book) → Taken mid new → AllOwed f set ps (reverse mid.owed.items) → IsLate ps new.head
late_kept f set [] mid new t o = tt
late_kept f set (p ∷ ps) mid new (inl t) o = absurd (rw t.0 at o)
late_kept f set (p ∷ ps) mid new (inr t) o = ap is_late t.2 ∙ late_head t.0

pub passes_kept : (old mid new : Book) (c : Bool) → mid.owed ≡ old.owed → mid.left + cost (beside old.head) c ≡ old.left + paid_at old.head → IsTaken mid new → (old.head ≡ Due → c ≡ true) → spares old.head c ≡ false → Passes old c new
passes_kept old mid new c o l t d s =
    record {
      counts = let p = taken_paid mid new t in let q = ap (λ (v : Vec Bool Global). paid v.items) o in let r = t.left in omega (arith, l, p, q, r);
      stack = λ f set ps a. subst (λ (v : Vec Bool Global). AllOwed f set ps (reverse v.items) → IsBook f set ps new × (passed (beside old.head) c (waits v.items) ≡ besides ps new)) o (stack_kept f set ps mid new old.head c t.taken s) a;
      late = λ f set ps a k. subst (λ (v : Vec Bool Global). AllOwed f set ps (reverse v.items) → IsLate ps new.head) o (late_kept f set ps mid new t.taken) a;
      same = λ k. t.left ∙ same_left old.head c mid.left old.left l d k;
    }

-- ---- and where the payment is spared

spared_next : (b : Bool) → spared (head_of b) ≡ Next
spared_next true = refl
spared_next false = refl

-- what is left once a first child is a closed leaf
room_next : (b : Bool) (n m k : ℕ) → n + paid_at Next ≡ m + paid_at (head_of b) → m + cost Alone true ≡ k + paid_at First → 0 < k + one b → 0 < n
room_next true n m k e l r = omega (arith, e, l, r)
room_next false n m k e l r = omega (arith, e, l, r)

stack_spared : (f : Formula) (set : ℕ → Bool) (ps : List PathOf) (mid late new : Book) (k : ℕ) → Taken mid late → new.left + paid_at new.head ≡ mid.left + paid_at late.head → new.head ≡ spared late.head → new.owed ≡ late.owed → mid.left + cost Alone true ≡ k + paid_at First → HasRoom First (reverse mid.owed.items) k → AllOwed f set ps (reverse mid.owed.items) → IsBook f set ps new × (passed Alone true (waits mid.owed.items) ≡ besides ps new)
stack_spared f set [] mid late new k (inl t) e h w l r o = ((h ∙ ap spared t.2, ap (λ (v : Vec Bool Global). v.items) w ∙ t.1), rw t.0 refl)
stack_spared f set (p ∷ ps) mid late new k (inl t) e h w l r o = absurd (rw t.0 at o)
stack_spared f set [] mid late new k (inr t) e h w l r o = absurd (rw (t.1, reverse-append late.owed.items (t.0 ∷ [])) at o)
stack_spared f set (p ∷ ps) mid late new k (inr t) e h w l r o =
    let q = rw (t.1, reverse-append late.owed.items (t.0 ∷ [])) at o in
    let z = rw (t.1, reverse-append late.owed.items (t.0 ∷ [])) at r in
    let n : new.head ≡ Next = h ∙ ap spared t.2 ∙ spared_next t.0 in
    let g : 0 < new.left = room_next t.0 new.left mid.left k (let y = rw (n, t.2) at e in y) l z in
    ((rw n tt, (rw w q.1, rw n g)), rw (t.1, n, w, waits_snoc late.owed.items t.0) refl)

pub passes_spared : (old mid late new : Book) (c : Bool) → mid.owed ≡ old.owed → mid.left + cost (beside old.head) c ≡ old.left + paid_at old.head → IsTaken mid late → spares old.head c ≡ true → HasRoom old.head (reverse old.owed.items) old.left → new.left + paid_at new.head ≡ late.left + paid_at late.head → new.head ≡ spared late.head → new.owed ≡ late.owed → Passes old c new
passes_spared old mid late new c o l t s r e h w =
    let i = is_spared old.head c s in
    let y : new.left + paid_at new.head ≡ mid.left + paid_at late.head = e ∙ ap (λ n. n + paid_at late.head) t.left in
    let m = rw i.0 at l in
    let z = rw i.0 at r in
    record {
      counts = let p = taken_paid mid late t in let q = ap (λ (v : Vec Bool Global). paid v.items) o in let u = ap (λ (v : Vec Bool Global). paid v.items) w in omega (arith, l, p, q, u, y);
      stack = λ f set ps a. rw (i.0, i.1) (subst (λ (v : Vec Bool Global). HasRoom First (reverse v.items) old.left → AllOwed f set ps (reverse v.items) → IsBook f set ps new × (passed Alone true (waits v.items) ≡ besides ps new)) o (stack_spared f set ps mid late new old.left t.taken y h w m) z a);
      late = λ f set ps a k. absurd (not_late old.head c i.0 i.1 k);
      same = λ k. absurd (not_due old.head c i.0 i.1 k);
    }
  where
    not_late : (g : Head) (d : Bool) → g ≡ First → d ≡ true → (is_late g ≡ true) ⊎ (d ≡ false) → ⊥
    not_late g d a b (inl k) = let q = rw a at k in cc
    not_late g d a b (inr k) = cc

    not_due : (g : Head) (d : Bool) → g ≡ First → d ≡ true → (g ≡ Due) ⊎ (d ≡ false) → ⊥
    not_due g d a b (inl k) = cc
    not_due g d a b (inr k) = cc

pub small_taken : (old mid new : Book) (c : Bool) → value old < 2 ^ 32 → mid.left + cost (beside old.head) c ≡ old.left + paid_at old.head → mid.owed ≡ old.owed → IsTaken mid new → new.left + paid_at new.head < 2 ^ 32
small_taken old mid new c s l o t =
    let p = taken_paid mid new t in let q = ap (λ (v : Vec Bool Global). paid v.items) o in let r = t.left in omega (arith, s, l, p, q, r)

-- ---- a node with two children

pub owes : (f : Formula) (set : ℕ → Bool) (p q : PathOf) (ps : List PathOf) (old new : Book) (b : Bool) → new.owed.items ≡ old.owed.items ++ (b ∷ []) → new.head ≡ First → new.left + one b ≡ old.left → 0 < old.left → IsOwed f set q b → AllOwed f set ps (reverse old.owed.items) → IsBook f set (p ∷ q ∷ ps) new
owes f set p q ps old new b o h l r w a =
    (rw h tt, rw (o, h, reverse-append old.owed.items (b ∷ [])) ((w, a), omega (arith, l, r)))

not_due_cost : (h : Head) → (h ≡ Due → ⊥) → cost (beside h) false ≡ paid_at h
not_due_cost First d = refl
not_due_cost Next d = refl
not_due_cost Paid d = refl
not_due_cost Due d = absurd (d refl)

pub owes_value : (old new : Book) (b : Bool) → new.owed.items ≡ old.owed.items ++ (b ∷ []) → new.head ≡ First → new.left + one b ≡ old.left → (old.head ≡ Due → ⊥) → cost (beside old.head) false + value new ≡ value old
owes_value old new b o h l d =
    rw (o, h) (let p = paid_snoc old.owed.items b in let q = not_due_cost old.head d in omega (arith, p, q, l))
