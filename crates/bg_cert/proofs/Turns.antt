-- Opening and closing the paths of a tour.
use Rattle.std.proofs.Common.{◌≡◌, ℕ, zero, suc, ◌+◌, ◌≤◌, Bool, true, cond, List, [], ◌∷◌, ◌++◌, take, length, refl, sym, ap, subst, ◌∙◌, arith, length-append, append-nil}
use Rattle.std.proofs.lemmas.List.{take-append-le, take_all, length-take}
use Rattle.bg_cert.specs.declared.cert.Decision.{Decision}
use Rattle.bg_cert.specs.declared.tour.Turn.{Turn}
use Rattle.bg_cert.specs.declared.tour.Turn.TheVariants.{Decides, Learns}
use Rattle.bg_cert.specs.declared.tour.Later.{Later}
use Rattle.bg_cert.specs.declared.tour.Tour.{Tour}
use Rattle.bg_cert.specs.Paths.{PathOf}
use Rattle.bg_cert.specs.Tours.{decided_by, learned_by, later_path, below, stack_of, others_of, decided_on, known_on, atoms_on, Rising, AtMostDeep, FitsTurn, AllFit, IsTour}

-- what makes a path of decisions and lemmas
abbrev pub Paths : Type 0
Paths = List Decision → List ℕ → PathOf

below_snoc : (path : Paths) (trail : List Decision) (known : List ℕ) (ws : List Later) (w : Later) (others : List PathOf) → below path trail known (ws ++ (w ∷ [])) others ≡ later_path path trail known w ∷ below path trail known ws others
below_snoc path trail known [] w others = refl
below_snoc path trail known (u ∷ ws) w others = below_snoc path trail known ws w (later_path path trail known u ∷ others)

-- trails and lemmas that begin alike
below_same : (path : Paths) (d k : ℕ) (s t : List Decision) (l m : List ℕ) → ((n : ℕ) → n ≤ d → take n s ≡ take n t) → ((n : ℕ) → n ≤ k → take n l ≡ take n m) → (ws : List Later) (others : List PathOf) → AtMostDeep d k ws → below path s l ws others ≡ below path t m ws others
below_same path d k s t l m e g [] others h = refl
below_same path d k s t l m e g (w ∷ ws) others h =
    let p : later_path path s l w ≡ later_path path t m w =
    ap (λ u. path (u ++ decided_by w.turn) (take w.known l ++ learned_by w.turn)) (e w.depth h.0)
    ∙ ap (λ u. path (take w.depth t ++ decided_by w.turn) (u ++ learned_by w.turn)) (g w.known h.1) in
    ap (λ p. below path s l ws (p ∷ others)) p
    ∙ below_same path d k s t l m e g ws (later_path path t m w ∷ others) h.2

deep_more : (d e k m : ℕ) → d ≤ e → k ≤ m → (ws : List Later) → AtMostDeep d k ws → AtMostDeep e m ws
deep_more d e k m le ge [] h = tt
deep_more d e k m le ge (w ∷ ws) h = (omega (arith, h.0), omega (arith, h.1), deep_more d e k m le ge ws h.2)

deep_snoc : (d k : ℕ) (ws : List Later) (w : Later) → AtMostDeep d k ws → w.depth ≤ d → w.known ≤ k → AtMostDeep d k (ws ++ (w ∷ []))
deep_snoc d k [] w h le ge = (le, ge, tt)
deep_snoc d k (u ∷ ws) w h le ge = (h.0, h.1, deep_snoc d k ws w h.2 le ge)

rising_snoc : (low few : ℕ) (ws : List Later) (w : Later) → Rising low few ws → low ≤ w.depth → few ≤ w.known → AtMostDeep w.depth w.known ws → Rising low few (ws ++ (w ∷ []))
rising_snoc low few [] w r le ge h = (le, ge, tt)
rising_snoc low few (u ∷ ws) w r le ge h = (r.0, r.1, rising_snoc u.depth u.known ws w r.2 h.0 h.1 h.2)

rising_first : (low few : ℕ) (ws : List Later) (w : Later) → Rising low few (ws ++ (w ∷ [])) → Rising low few ws
rising_first low few [] w r = tt
rising_first low few (u ∷ ws) w r = (r.0, r.1, rising_first u.depth u.known ws w r.2)

rising_low : (low few : ℕ) (ws : List Later) (w : Later) → Rising low few (ws ++ (w ∷ [])) → (low ≤ w.depth) × (few ≤ w.known)
rising_low low few [] w r = (r.0, r.1)
rising_low low few (u ∷ ws) w r =
    let h = rising_low u.depth u.known ws w r.2 in
    let a = h.0 in
    let b = h.1 in
    let c = r.0 in
    let d = r.1 in
    (omega arith, omega arith)

rising_deep : (low few : ℕ) (ws : List Later) (w : Later) → Rising low few (ws ++ (w ∷ [])) → AtMostDeep w.depth w.known ws
rising_deep low few [] w r = tt
rising_deep low few (u ∷ ws) w r =
    let h = rising_low u.depth u.known ws w r.2 in (h.0, h.1, rising_deep u.depth u.known ws w r.2)

deep_last : (d k : ℕ) (ws : List Later) (w : Later) → AtMostDeep d k (ws ++ (w ∷ [])) → (w.depth ≤ d) × (w.known ≤ k)
deep_last d k [] w h = (h.0, h.1)
deep_last d k (u ∷ ws) w h = deep_last d k ws w h.2

fits_snoc : (n : ℕ) (ws : List Later) (w : Later) → AllFit n ws → FitsTurn n w.turn → AllFit n (ws ++ (w ∷ []))
fits_snoc n [] w h k = (k, tt)
fits_snoc n (u ∷ ws) w h k = (h.0, fits_snoc n ws w h.1 k)

fits_before : (n : ℕ) (ws : List Later) (w : Later) → AllFit n (ws ++ (w ∷ [])) → AllFit n ws
fits_before n [] w h = tt
fits_before n (u ∷ ws) w h = (h.0, fits_before n ws w h.1)

fits_last : (n : ℕ) (ws : List Later) (w : Later) → AllFit n (ws ++ (w ∷ [])) → FitsTurn n w.turn
fits_last n [] w h = h.0
fits_last n (u ∷ ws) w h = fits_last n ws w h.1

take_take : {A : Type 0} (n d : ℕ) (xs : List A) → n ≤ d → take n (take d xs) ≡ take n xs
take_take zero d xs h = refl
take_take (suc n) zero xs h = absurd (omega arith)
take_take (suc n) (suc d) [] h = refl
take_take (suc n) (suc d) (x ∷ xs) h = ap (λ t. x ∷ t) (take_take n d xs (omega arith))

-- the first ones of a list that was cut off and went on otherwise
take_kept : {A : Type 0} (n d : ℕ) (xs ys : List A) → n ≤ d → d ≤ length xs → take n xs ≡ take n (take d xs ++ ys)
take_kept n d xs ys h le =
    sym (take-append-le n (take d xs) ys (omega (arith, length-take d xs)) ∙ take_take n d xs h)

take_whole : {A : Type 0} (n : ℕ) (xs ys : List A) → n ≡ length xs → take n (xs ++ ys) ≡ xs
take_whole n xs ys e = take-append-le n xs ys (omega arith) ∙ take_all n xs (omega arith)

-- ---- tours

abbrev pub waits_at : Tour → Turn → Later
waits_at t turn = record { depth = length (decided_on t); known = length (known_on t); turn = turn }

-- the open path goes on by some decisions, and one waits
pub opened_tour : (old new : Tour) (turn : Turn) (more : List Decision) → IsTour old → FitsTurn (atoms_on old) turn → atoms_on new ≡ atoms_on old → new.waiting.items ≡ old.waiting.items ++ (waits_at old turn ∷ []) → decided_on new ≡ decided_on old ++ more → known_on new ≡ known_on old → IsTour new
opened_tour old new turn more t fit z p q k =
    let l : length (decided_on new) ≡ length (decided_on old) + length more = rw q (length-append (decided_on old) more) in
    let m : length (known_on new) ≡ length (known_on old) = ap length k in
    record {
      rising = rw p (rising_snoc 0 0 old.waiting.items (waits_at old turn) t.rising (omega arith) (omega arith) t.within);
      within = subst (AtMostDeep (length (decided_on new)) (length (known_on new))) (sym p) (deep_snoc (length (decided_on new)) (length (known_on new)) old.waiting.items (waits_at old turn) (deep_more (length (decided_on old)) (length (decided_on new)) (length (known_on old)) (length (known_on new)) (omega arith) (omega arith) old.waiting.items t.within) (omega arith) (omega arith));
      fits = rw (z, p) (fits_snoc (atoms_on old) old.waiting.items (waits_at old turn) t.fits fit);
    }

opened_at : (path : Paths) (trail more : List Decision) (known : List ℕ) (ws : List Later) (turn : Turn) → AtMostDeep (length trail) (length known) ws → below path (trail ++ more) known (ws ++ (record { depth = length trail; known = length known; turn = turn } ∷ [])) [] ≡ path (trail ++ decided_by turn) (known ++ learned_by turn) ∷ below path trail known ws []
opened_at path trail more known ws turn h =
    let w : Later = record { depth = length trail; known = length known; turn = turn } in
    below_snoc path (trail ++ more) known ws w []
    ∙ ap (λ u. path (u ++ decided_by turn) (take (length known) known ++ learned_by turn) ∷ below path (trail ++ more) known ws []) (take_whole (length trail) trail more refl)
    ∙ ap (λ u. path (trail ++ decided_by turn) (u ++ learned_by turn) ∷ below path (trail ++ more) known ws []) (take_all (length known) known (omega arith))
    ∙ ap (λ ps. path (trail ++ decided_by turn) (known ++ learned_by turn) ∷ ps) (below_same path (length trail) (length known) (trail ++ more) trail known known (λ n le. take-append-le n trail more le) (λ n le. refl) ws [] h)

pub opened_stack : (old new : Tour) (turn : Turn) (more : List Decision) → IsTour old → new.waiting.items ≡ old.waiting.items ++ (waits_at old turn ∷ []) → decided_on new ≡ decided_on old ++ more → known_on new ≡ known_on old → new.is_open ≡ true → (path : Paths) → stack_of path new ≡ path (decided_on old ++ more) (known_on old) ∷ path (decided_on old ++ decided_by turn) (known_on old ++ learned_by turn) ∷ others_of path old
opened_stack old new turn more t p q k o path =
    rw (o, p, q, k) (ap (λ ps. path (decided_on old ++ more) (known_on old) ∷ ps) (opened_at path (decided_on old) more (known_on old) old.waiting.items turn t.within))

-- the last path that waits is opened
pub closed_tour : (old new : Tour) (w : Later) → IsTour old → old.waiting.items ≡ new.waiting.items ++ (w ∷ []) → atoms_on new ≡ atoms_on old → decided_on new ≡ take w.depth (decided_on old) ++ decided_by w.turn → known_on new ≡ take w.known (known_on old) ++ learned_by w.turn → IsTour new
closed_tour old new w is p z q k =
    let r : Rising 0 0 (new.waiting.items ++ (w ∷ [])) = rw (← p) is.rising in
    let d : AtMostDeep (length (decided_on old)) (length (known_on old)) (new.waiting.items ++ (w ∷ [])) = rw (← p) is.within in
    let t : AllFit (atoms_on old) (new.waiting.items ++ (w ∷ [])) = rw (← p) is.fits in
    let le = deep_last (length (decided_on old)) (length (known_on old)) new.waiting.items w d in
    let a = le.0 in
    let b = le.1 in
    let l : length (decided_on new) ≡ length (take w.depth (decided_on old)) + length (decided_by w.turn) = rw q (length-append (take w.depth (decided_on old)) (decided_by w.turn)) in
    let m : length (known_on new) ≡ length (take w.known (known_on old)) + length (learned_by w.turn) = rw k (length-append (take w.known (known_on old)) (learned_by w.turn)) in
    record {
      rising = rising_first 0 0 new.waiting.items w r;
      within = deep_more w.depth (length (decided_on new)) w.known (length (known_on new)) (omega (arith, l, length-take w.depth (decided_on old))) (omega (arith, m, length-take w.known (known_on old))) new.waiting.items (rising_deep 0 0 new.waiting.items w r);
      fits = rw z (fits_before (atoms_on old) new.waiting.items w t);
    }

-- what opens a path that is taken up again fits
pub taken_fits : (old : Tour) (ws : List Later) (w : Later) → IsTour old → old.waiting.items ≡ ws ++ (w ∷ []) → FitsTurn (atoms_on old) w.turn
taken_fits old ws w is p =
    let t : AllFit (atoms_on old) (ws ++ (w ∷ [])) = rw (← p) is.fits in
    fits_last (atoms_on old) ws w t

closed_at : (path : Paths) (o : Bool) (trail now : List Decision) (known lemmas : List ℕ) (waiting ws : List Later) (w : Later) → Rising 0 0 waiting → AtMostDeep (length trail) (length known) waiting → waiting ≡ ws ++ (w ∷ []) → now ≡ take w.depth trail ++ decided_by w.turn → lemmas ≡ take w.known known ++ learned_by w.turn → o ≡ true → cond o (path now lemmas ∷ below path now lemmas ws []) [] ≡ below path trail known waiting []
closed_at path o trail now known lemmas waiting ws w r d p q k t =
    let r2 : Rising 0 0 (ws ++ (w ∷ [])) = rw (← p) r in
    let d2 : AtMostDeep (length trail) (length known) (ws ++ (w ∷ [])) = rw (← p) d in
    let le = deep_last (length trail) (length known) ws w d2 in
    let same : below path trail known ws [] ≡ below path (take w.depth trail ++ decided_by w.turn) (take w.known known ++ learned_by w.turn) ws [] =
    below_same path w.depth w.known trail (take w.depth trail ++ decided_by w.turn) known (take w.known known ++ learned_by w.turn) (λ n h. take_kept n w.depth trail (decided_by w.turn) h le.0) (λ n h. take_kept n w.known known (learned_by w.turn) h le.1) ws [] (rising_deep 0 0 ws w r2) in
    rw (t, p, q, k) (sym (below_snoc path trail known ws w [] ∙ ap (λ ps. later_path path trail known w ∷ ps) same))

pub closed_stack : (old new : Tour) (w : Later) → IsTour old → old.waiting.items ≡ new.waiting.items ++ (w ∷ []) → decided_on new ≡ take w.depth (decided_on old) ++ decided_by w.turn → known_on new ≡ take w.known (known_on old) ++ learned_by w.turn → new.is_open ≡ true → (path : Paths) → stack_of path new ≡ others_of path old
closed_stack old new w is p q k o path =
    closed_at path new.is_open (decided_on old) (decided_on new) (known_on old) (known_on new) old.waiting.items new.waiting.items w is.rising is.within p q k o

-- both ways of a decision
pub decided_both : (old new : Tour) (a b : Decision) → IsTour old → new.waiting.items ≡ old.waiting.items ++ (waits_at old (Decides b) ∷ []) → decided_on new ≡ decided_on old ++ (a ∷ []) → known_on new ≡ known_on old → new.is_open ≡ true → (path : Paths) → stack_of path new ≡ path (decided_on old ++ (a ∷ [])) (known_on old) ∷ path (decided_on old ++ (b ∷ [])) (known_on old) ∷ others_of path old
decided_both old new a b t p q k o path =
    opened_stack old new (Decides b) (a ∷ []) t p q k o path
    ∙ ap (λ u. path (decided_on old ++ (a ∷ [])) (known_on old) ∷ path (decided_on old ++ (b ∷ [])) u ∷ others_of path old) (append-nil (known_on old))

-- a lemma's denials, and the lemma
pub learned_one : (old new : Tour) (more : List Decision) (n : ℕ) → IsTour old → new.waiting.items ≡ old.waiting.items ++ (waits_at old (Learns n) ∷ []) → decided_on new ≡ decided_on old ++ more → known_on new ≡ known_on old → new.is_open ≡ true → (path : Paths) → stack_of path new ≡ path (decided_on old ++ more) (known_on old) ∷ path (decided_on old) (known_on old ++ (n ∷ [])) ∷ others_of path old
learned_one old new more n t p q k o path =
    opened_stack old new (Learns n) more t p q k o path
    ∙ ap (λ u. path (decided_on old ++ more) (known_on old) ∷ path u (known_on old ++ (n ∷ [])) ∷ others_of path old) (append-nil (decided_on old))
