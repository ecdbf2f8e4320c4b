-- Opening and closing paths.
use Rattle.std.proofs.Common.{◌≡◌, ℕ, zero, suc, ◌+◌, ◌≤◌, Bool, true, cond, List, [], ◌∷◌, ◌++◌, take, length, refl, sym, ap, ◌∙◌, arith, length-append}
use Rattle.std.proofs.lemmas.List.{take-append-le, take_all, length-take}
use Rattle.bg_formula.specs.Formulas.{Formula}
use Rattle.bg_cert.specs.declared.cert.Decision.{Decision}
use Rattle.bg_cert.specs.declared.walk.Waiting.{Waiting}
use Rattle.bg_cert.specs.Paths.{PathOf}
use Rattle.bg_cert.specs.declared.walk.Walk.{Walk}
use Rattle.bg_cert.specs.Walks.{path_of, waiting_path, below, stack_of, others_of, decided_on, atoms_on, Rising, AtMostDeep, AllFit, IsWalk}
use Rattle.bg_cert.specs.Counts.{Fits}

pub below_snoc : (f : Formula) (trail : List Decision) (ws : List Waiting) (w : Waiting) (others : List PathOf) → below f trail (ws ++ (w ∷ [])) others ≡ waiting_path f trail w ∷ below f trail ws others
below_snoc f trail [] w others = refl
below_snoc f trail (u ∷ ws) w others = below_snoc f trail ws w (waiting_path f trail u ∷ others)

-- a trail that begins alike
pub below_same : (f : Formula) (d : ℕ) (s t : List Decision) → ((n : ℕ) → n ≤ d → take n s ≡ take n t) → (ws : List Waiting) (others : List PathOf) → AtMostDeep d ws → below f s ws others ≡ below f t ws others
below_same f d s t e [] others h = refl
below_same f d s t e (w ∷ ws) others h =
    ap (λ p. below f s ws (p ∷ others)) (ap (λ u. path_of f (u ++ (w.last ∷ []))) (e w.depth h.0))
    ∙ below_same f d s t e ws (waiting_path f t w ∷ others) h.1

pub deep_more : (d e : ℕ) → d ≤ e → (ws : List Waiting) → AtMostDeep d ws → AtMostDeep e ws
deep_more d e le [] h = tt
deep_more d e le (w ∷ ws) h = (omega (arith, h.0), deep_more d e le ws h.1)

pub deep_snoc : (d : ℕ) (ws : List Waiting) (w : Waiting) → AtMostDeep d ws → w.depth ≤ d → AtMostDeep d (ws ++ (w ∷ []))
deep_snoc d [] w h le = (le, tt)
deep_snoc d (u ∷ ws) w h le = (h.0, deep_snoc d ws w h.1 le)

pub rising_snoc : (low : ℕ) (ws : List Waiting) (w : Waiting) → Rising low ws → low ≤ w.depth → AtMostDeep w.depth ws → Rising low (ws ++ (w ∷ []))
rising_snoc low [] w r le h = (le, tt)
rising_snoc low (u ∷ ws) w r le h = (r.0, rising_snoc u.depth ws w r.1 h.0 h.1)

pub rising_first : (low : ℕ) (ws : List Waiting) (w : Waiting) → Rising low (ws ++ (w ∷ [])) → Rising low ws
rising_first low [] w r = tt
rising_first low (u ∷ ws) w r = (r.0, rising_first u.depth ws w r.1)

rising_low : (low : ℕ) (ws : List Waiting) (w : Waiting) → Rising low (ws ++ (w ∷ [])) → low ≤ w.depth
rising_low low [] w r = r.0
rising_low low (u ∷ ws) w r = let h = rising_low u.depth ws w r.1 in let g = r.0 in omega arith

pub rising_deep : (low : ℕ) (ws : List Waiting) (w : Waiting) → Rising low (ws ++ (w ∷ [])) → AtMostDeep w.depth ws
rising_deep low [] w r = tt
rising_deep low (u ∷ ws) w r = (rising_low u.depth ws w r.1, rising_deep u.depth ws w r.1)

pub deep_last : (d : ℕ) (ws : List Waiting) (w : Waiting) → AtMostDeep d (ws ++ (w ∷ [])) → w.depth ≤ d
deep_last d [] w h = h.0
deep_last d (u ∷ ws) w h = deep_last d ws w h.1

-- one path opened, one left to wait
pub opened_both : (f : Formula) (trail : List Decision) (ws : List Waiting) (a b : Decision) → AtMostDeep (length trail) ws → below f (trail ++ (a ∷ [])) (ws ++ (record { depth = length trail; last = b } ∷ [])) [] ≡ path_of f (trail ++ (b ∷ [])) ∷ below f trail ws []
opened_both f trail ws a b h =
    below_snoc f (trail ++ (a ∷ [])) ws (record { depth = length trail; last = b }) []
    ∙ ap (λ u. path_of f (u ++ (b ∷ [])) ∷ below f (trail ++ (a ∷ [])) ws []) (take-append-le (length trail) trail (a ∷ []) (omega arith) ∙ take_all (length trail) trail (omega arith))
    ∙ ap (λ ps. path_of f (trail ++ (b ∷ [])) ∷ ps) (below_same f (length trail) (trail ++ (a ∷ [])) trail (λ n le. take-append-le n trail (a ∷ []) le) ws [] h)

pub take_take : (n d : ℕ) (xs : List Decision) → n ≤ d → take n (take d xs) ≡ take n xs
take_take zero d xs h = refl
take_take (suc n) zero xs h = absurd (omega arith)
take_take (suc n) (suc d) [] h = refl
take_take (suc n) (suc d) (x ∷ xs) h = ap (λ t. x ∷ t) (take_take n d xs (omega arith))

-- the last path that waits is opened
pub closed_one : (f : Formula) (trail : List Decision) (ws : List Waiting) (w : Waiting) → Rising 0 (ws ++ (w ∷ [])) → w.depth ≤ length trail → below f trail (ws ++ (w ∷ [])) [] ≡ path_of f (take w.depth trail ++ (w.last ∷ [])) ∷ below f (take w.depth trail ++ (w.last ∷ [])) ws []
closed_one f trail ws w r le =
    below_snoc f trail ws w []
    ∙ ap (λ ps. path_of f (take w.depth trail ++ (w.last ∷ [])) ∷ ps)
    (below_same f w.depth trail (take w.depth trail ++ (w.last ∷ []))
    (λ n h. sym (take-append-le n (take w.depth trail) (w.last ∷ []) (omega (arith, length-take w.depth trail)) ∙ take_take n w.depth trail h)) ws [] (rising_deep 0 ws w r))

-- ---- what waits fits

pub fits_snoc : (n : ℕ) (ws : List Waiting) (w : Waiting) → AllFit n ws → Fits n w.last → AllFit n (ws ++ (w ∷ []))
fits_snoc n [] w h k = (k, tt)
fits_snoc n (u ∷ ws) w h k = (h.0, fits_snoc n ws w h.1 k)

pub fits_before : (n : ℕ) (ws : List Waiting) (w : Waiting) → AllFit n (ws ++ (w ∷ [])) → AllFit n ws
fits_before n [] w h = tt
fits_before n (u ∷ ws) w h = (h.0, fits_before n ws w h.1)

pub fits_last : (n : ℕ) (ws : List Waiting) (w : Waiting) → AllFit n (ws ++ (w ∷ [])) → Fits n w.last
fits_last n [] w h = h.0
fits_last n (u ∷ ws) w h = fits_last n ws w h.1

-- ---- walks

pub opened_walk : (old new : Walk) (n : ℕ) (a b : Decision) → IsWalk old → n ≡ length (decided_on old) → Fits (atoms_on old) b → atoms_on new ≡ atoms_on old → new.waiting.items ≡ old.waiting.items ++ (record { depth = n; last = b } ∷ []) → decided_on new ≡ decided_on old ++ (a ∷ []) → IsWalk new
opened_walk old new n a b w e fit z p q =
    let l : length (decided_on new) ≡ n + 1 = rw q (length-append (decided_on old) (a ∷ []) ∙ ap (λ k. k + 1) (sym e)) in
    let h : AtMostDeep n old.waiting.items = rw e w.within in
    record {
      rising = rw p (rising_snoc 0 old.waiting.items (record { depth = n; last = b }) w.rising (omega arith) h);
      within = rw (l, p) (deep_snoc (n + 1) old.waiting.items (record { depth = n; last = b }) (deep_more n (n + 1) (omega arith) old.waiting.items h) (omega arith));
      fits = rw (z, p) (fits_snoc (atoms_on old) old.waiting.items (record { depth = n; last = b }) w.fits fit);
    }

pub opened_stack : (old new : Walk) (n : ℕ) (a b : Decision) → IsWalk old → n ≡ length (decided_on old) → new.waiting.items ≡ old.waiting.items ++ (record { depth = n; last = b } ∷ []) → decided_on new ≡ decided_on old ++ (a ∷ []) → new.is_open ≡ true → (f : Formula) → stack_of f new ≡ path_of f (decided_on old ++ (a ∷ [])) ∷ path_of f (decided_on old ++ (b ∷ [])) ∷ others_of f old
opened_stack old new n a b w e p q o f =
    rw (o, p, q, e) (ap (λ ps. path_of f (decided_on old ++ (a ∷ [])) ∷ ps) (opened_both f (decided_on old) old.waiting.items a b w.within))

pub closed_walk : (old new : Walk) (w : Waiting) → IsWalk old → old.waiting.items ≡ new.waiting.items ++ (w ∷ []) → atoms_on new ≡ atoms_on old → decided_on new ≡ take w.depth (decided_on old) ++ (w.last ∷ []) → IsWalk new
closed_walk old new w is p z q =
    let r : Rising 0 (new.waiting.items ++ (w ∷ [])) = rw (← p) is.rising in
    let d : AtMostDeep (length (decided_on old)) (new.waiting.items ++ (w ∷ [])) = rw (← p) is.within in
    let t : AllFit (atoms_on old) (new.waiting.items ++ (w ∷ [])) = rw (← p) is.fits in
    let le = deep_last (length (decided_on old)) new.waiting.items w d in
    let l : length (decided_on new) ≡ w.depth + 1 = rw q (length-append (take w.depth (decided_on old)) (w.last ∷ []) ∙ omega (arith, length-take w.depth (decided_on old))) in
    record {
      rising = rising_first 0 new.waiting.items w r;
      within = rw l (deep_more w.depth (w.depth + 1) (omega arith) new.waiting.items (rising_deep 0 new.waiting.items w r));
      fits = rw z (fits_before (atoms_on old) new.waiting.items w t);
    }

-- the decision of a path that is taken up again fits
pub taken_fits : (old : Walk) (ws : List Waiting) (w : Waiting) → IsWalk old → old.waiting.items ≡ ws ++ (w ∷ []) → Fits (atoms_on old) w.last
taken_fits old ws w is p =
    let t : AllFit (atoms_on old) (ws ++ (w ∷ [])) = rw (← p) is.fits in
    fits_last (atoms_on old) ws w t

closed_at : (f : Formula) (o : Bool) (trail now : List Decision) (waiting ws : List Waiting) (w : Waiting) → Rising 0 waiting → AtMostDeep (length trail) waiting → waiting ≡ ws ++ (w ∷ []) → now ≡ take w.depth trail ++ (w.last ∷ []) → o ≡ true → cond o (path_of f now ∷ below f now ws []) [] ≡ below f trail waiting []
closed_at f o trail now waiting ws w r d p q t =
    let r2 : Rising 0 (ws ++ (w ∷ [])) = rw (← p) r in
    let d2 : AtMostDeep (length trail) (ws ++ (w ∷ [])) = rw (← p) d in
    rw (t, p, q) (sym (closed_one f trail ws w r2 (deep_last (length trail) ws w d2)))

pub closed_stack : (old new : Walk) (w : Waiting) → IsWalk old → old.waiting.items ≡ new.waiting.items ++ (w ∷ []) → decided_on new ≡ take w.depth (decided_on old) ++ (w.last ∷ []) → new.is_open ≡ true → (f : Formula) → stack_of f new ≡ others_of f old
closed_stack old new w is p q o f =
    closed_at f new.is_open (decided_on old) (decided_on new) old.waiting.items new.waiting.items w is.rising is.within p q o
