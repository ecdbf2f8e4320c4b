use Rattle.std.proofs.Common.{◌≡◌, ◌≢◌, ℕ, zero, suc, Bool, true, false, cond, List, [], ◌∷◌, ◌++◌, flat_map, codes, length, slice_get, map, refl, sym, ap, ◌∙◌, append_assoc, arith}
use Rattle.std.proofs.lemmas.List.{append_cancel_left}
use Rattle.bg_text.specs.Trees.{Id}
use Rattle.bg_ast.specs.Resolved.{Program}
use Rattle.std.proofs.lemmas.List.{length-map}
use Rattle.bg_told.specs.Sheets.{Head, Outer, head_of, sheet_of, names_of}
use Rattle.bg_sound.specs.Told.{Axioms, Consistent, Contradictory, Undecided, Fate, Retained, Unchecked, Dropped, DroppedFor, Judged, Outcome, is_kept_by, is_kept_at, retained, Word, AllProved, SomeRefuted, SomeUnknown, word_of}
use Rattle.bg_told.specs.Kept.{why_text}
use Rattle.bg_told.specs.Lines.{texts, word_text}
use Rattle.bg_lines.specs.Lines.{line, position_text}
use Rattle.bg_told.specs.Places.{judged_text}
use Rattle.bg_told.specs.Report.{axioms_text, fate_text, candidate_text, set_text, implementation_text, summary_text, result_text}
use Rattle.bg_told.proofs.Cuts.{IsFlat, cut, append_is_flat, word_is_flat, why_is_flat}
use Rattle.bg_told.proofs.Apart.{first, IsHead, places_apart}

-- two words that are followed by a newline
word_apart : (a b : Word) (x y : List ℕ) → word_text a ++ (10 ∷ x) ≡ word_text b ++ (10 ∷ y) → (a ≡ b) × (x ≡ y)
word_apart AllProved AllProved x y h = (refl, append_cancel_left (codes "verified" ++ 10 ∷ []) x y h)
word_apart SomeRefuted SomeRefuted x y h = (refl, append_cancel_left (codes "refuted" ++ 10 ∷ []) x y h)
word_apart SomeUnknown SomeUnknown x y h = (refl, append_cancel_left (codes "unknown" ++ 10 ∷ []) x y h)
word_apart AllProved SomeRefuted x y h = let e : 118 ≡ 114 = ap first h in absurd (omega (arith, e))
word_apart AllProved SomeUnknown x y h = let e : 118 ≡ 117 = ap first h in absurd (omega (arith, e))
word_apart SomeRefuted AllProved x y h = let e : 114 ≡ 118 = ap first h in absurd (omega (arith, e))
word_apart SomeRefuted SomeUnknown x y h = let e : 114 ≡ 117 = ap first h in absurd (omega (arith, e))
word_apart SomeUnknown AllProved x y h = let e : 117 ≡ 118 = ap first h in absurd (omega (arith, e))
word_apart SomeUnknown SomeRefuted x y h = let e : 117 ≡ 114 = ap first h in absurd (omega (arith, e))

head_cells : (c n s p t w places rest x : List ℕ) → ((line (c ++ n ++ s ++ p ++ t ++ w) ++ places) ++ rest) ++ x ≡ (c ++ n ++ s ++ p ++ t) ++ (w ++ (10 ∷ (places ++ (rest ++ x))))
head_cells c n s p t w places rest x = simp append_assoc

abbrev places_of : Outer → Head → List Judged → List ℕ
places_of s r vs = flat_map (judged_text (names_of s r)) vs

implementation_cells : (s : Outer) (r : Head) (vs : List Judged) (rest x : List ℕ) → (implementation_text s r vs ++ rest) ++ x ≡ (codes "implementation " ++ r.name.text ++ codes " " ++ position_text r.pos ++ codes " ") ++ (word_text (word_of vs) ++ (10 ∷ (places_of s r vs ++ (rest ++ x))))
implementation_cells s r vs rest x = head_cells (codes "implementation ") r.name.text (codes " ") (position_text r.pos) (codes " ") (word_text (word_of vs)) (places_of s r vs) rest x

head_is_head : (s : Outer) (rs : List Head) (os : List (List Judged)) (x : List ℕ) → IsHead x → IsHead (texts (implementation_text s) rs os ++ x)
head_is_head s [] os x hx = hx
head_is_head s (r ∷ rs) [] x hx = hx
head_is_head s (r ∷ rs) (vs ∷ os) x hx = record { no_place = λ e. omega (arith, e); past = record { no_constant = λ e. omega (arith, e); no_function = λ e. omega (arith, e); no_value = λ e. omega (arith, e); no_choice = λ e. omega (arith, e) } }

implementations_apart : (s : Outer) (rs : List Head) (os ps : List (List Judged)) (x y : List ℕ) → IsHead x → IsHead y → length os ≡ length rs → length ps ≡ length rs → texts (implementation_text s) rs os ++ x ≡ texts (implementation_text s) rs ps ++ y → map word_of os ≡ map word_of ps
implementations_apart s [] [] [] x y hx hy lo lp h = refl
implementations_apart s [] [] (q ∷ ps) x y hx hy lo lp h = absurd (omega (arith, lp))
implementations_apart s [] (v ∷ os) ps x y hx hy lo lp h = absurd (omega (arith, lo))
implementations_apart s (r ∷ rs) [] ps x y hx hy lo lp h = absurd (omega (arith, lo))
implementations_apart s (r ∷ rs) (v ∷ os) [] x y hx hy lo lp h = absurd (omega (arith, lp))
implementations_apart s (r ∷ rs) (v ∷ os) (w ∷ ps) x y hx hy lo lp h =
    let e : word_text (word_of v) ++ (10 ∷ (places_of s r v ++ (texts (implementation_text s) rs os ++ x))) ≡ word_text (word_of w) ++ (10 ∷ (places_of s r w ++ (texts (implementation_text s) rs ps ++ y)))
    = append_cancel_left (codes "implementation " ++ r.name.text ++ codes " " ++ position_text r.pos ++ codes " ") _ _
    (sym (implementation_cells s r v (texts (implementation_text s) rs os) x) ∙ h ∙ implementation_cells s r w (texts (implementation_text s) rs ps) y) in
    let both : (word_of v ≡ word_of w) × (places_of s r v ++ (texts (implementation_text s) rs os ++ x) ≡ places_of s r w ++ (texts (implementation_text s) rs ps ++ y)) = word_apart (word_of v) (word_of w) _ _ e in
    let rest : texts (implementation_text s) rs os ++ x ≡ texts (implementation_text s) rs ps ++ y
    = places_apart (names_of s r) v w _ _ (head_is_head s rs os x hx) (head_is_head s rs ps y hy) both.1 in
    let more : map word_of os ≡ map word_of ps = implementations_apart s rs os ps x y hx hy (omega (arith, lo)) (omega (arith, lp)) rest in
    ap (λ (a : Word). a ∷ map word_of os) both.0 ∙ ap (λ (l : List Word). word_of w ∷ l) more

summary_is_head : (o : Outcome) → IsHead (summary_text o)
summary_is_head o = record { no_place = λ e. omega (arith, e); past = record { no_constant = λ e. omega (arith, e); no_function = λ e. omega (arith, e); no_value = λ e. omega (arith, e); no_choice = λ e. omega (arith, e) } }

-- ---- the lines before the implementations

axioms_is_flat : (a : Axioms) → IsFlat (axioms_text a)
axioms_is_flat Consistent = word_is_flat (codes "consistent") refl
axioms_is_flat Contradictory = word_is_flat (codes "contradictory") refl
axioms_is_flat (Undecided why) = append_is_flat (codes "unknown ") (why_text why) (word_is_flat (codes "unknown ") refl) (why_is_flat why)

fate_is_flat : (f : Fate) → IsFlat (fate_text f)
fate_is_flat Retained = word_is_flat (codes "retained") refl
fate_is_flat Unchecked = word_is_flat (codes "retained unchecked") refl
fate_is_flat Dropped = word_is_flat (codes "dropped") refl
fate_is_flat (DroppedFor why) = append_is_flat (codes "dropped unknown ") (why_text why) (word_is_flat (codes "dropped unknown ") refl) (why_is_flat why)

set_is_flat : (b : Bool) → IsFlat (set_text b)
set_is_flat true = word_is_flat (codes "greatest") refl
set_is_flat false = word_is_flat (codes "inductive") refl

candidate_cells : (name fate rest x : List ℕ) → (line (codes "candidate " ++ name ++ codes " " ++ fate) ++ rest) ++ x ≡ (codes "candidate " ++ name ++ codes " ") ++ (fate ++ (10 ∷ (rest ++ x)))
candidate_cells name fate rest x = simp append_assoc

-- what follows the name of the first candidate
fates_on : (c : Id) (f g : Fate) (s t x y : List ℕ) → (candidate_text c f ++ s) ++ x ≡ (candidate_text c g ++ t) ++ y → fate_text f ++ (10 ∷ (s ++ x)) ≡ fate_text g ++ (10 ∷ (t ++ y))
fates_on c f g s t x y h =
    append_cancel_left (codes "candidate " ++ c.text ++ codes " ") _ _
    (sym (candidate_cells c.text (fate_text f) s x) ∙ h ∙ candidate_cells c.text (fate_text g) t y)

candidates_apart : (cs : List Id) (fs gs : List Fate) (x y : List ℕ) → first x ≢ 99 → first y ≢ 99 → texts candidate_text cs fs ++ x ≡ texts candidate_text cs gs ++ y → x ≡ y
candidates_apart [] fs gs x y hx hy h = h
candidates_apart (c ∷ cs) [] [] x y hx hy h = h
candidates_apart (c ∷ cs) (f ∷ fs) [] x y hx hy h = absurd (hy (sym (ap first h)))
candidates_apart (c ∷ cs) [] (g ∷ gs) x y hx hy h = absurd (hx (ap first h))
candidates_apart (c ∷ cs) (f ∷ fs) (g ∷ gs) x y hx hy h =
    candidates_apart cs fs gs x y hx hy
    (cut (fate_text f) (fate_text g) _ _ (fate_is_flat f) (fate_is_flat g) (fates_on c f g (texts candidate_text cs fs) (texts candidate_text cs gs) x y h))

-- a whole report, line by line
cells : (k a c l s i x : List ℕ) → line (k ++ a) ++ c ++ line (l ++ s) ++ i ++ x ≡ k ++ (a ++ (10 ∷ (c ++ (l ++ (s ++ (10 ∷ (i ++ x)))))))
cells k a c l s i x = simp append_assoc

module _ (p : Program) (o q : Outcome) (h : result_text p o ≡ result_text p q) where
  -- what follows the first line, of either
  abbrev behind_axioms : Outcome → List ℕ
  behind_axioms u = texts candidate_text p.candidates u.fates ++ (codes "retained set: " ++ (set_text u.is_greatest ++ (10 ∷ (texts (implementation_text (sheet_of p).outer) (sheet_of p).implementations u.implementations ++ summary_text u))))

  whole : (u : Outcome) → result_text p u ≡ codes "axioms: " ++ (axioms_text u.axioms ++ (10 ∷ behind_axioms u))
  whole u = cells (codes "axioms: ") (axioms_text u.axioms) (texts candidate_text p.candidates u.fates) (codes "retained set: ") (set_text u.is_greatest) (texts (implementation_text (sheet_of p).outer) (sheet_of p).implementations u.implementations) (summary_text u)

  candidates_on : behind_axioms o ≡ behind_axioms q
  candidates_on =
      cut (axioms_text o.axioms) (axioms_text q.axioms) _ _ (axioms_is_flat o.axioms) (axioms_is_flat q.axioms)
      (append_cancel_left (codes "axioms: ") _ _ (sym (whole o) ∙ h ∙ whole q))

  -- from the retained set on
  set_on : set_text o.is_greatest ++ (10 ∷ (texts (implementation_text (sheet_of p).outer) (sheet_of p).implementations o.implementations ++ summary_text o)) ≡ set_text q.is_greatest ++ (10 ∷ (texts (implementation_text (sheet_of p).outer) (sheet_of p).implementations q.implementations ++ summary_text q))
  set_on =
      append_cancel_left (codes "retained set: ") _ _
      (candidates_apart p.candidates o.fates q.fates _ _ (λ e. omega (arith, e)) (λ e. omega (arith, e)) candidates_on)

pub text_decides : (p : Program) (o q : Outcome) → length o.implementations ≡ length p.implementations → length q.implementations ≡ length p.implementations → result_text p o ≡ result_text p q → map word_of o.implementations ≡ map word_of q.implementations
text_decides p o q lo lq h =
    let many : length (map head_of p.implementations) ≡ length p.implementations = length-map p.implementations head_of in
    implementations_apart (sheet_of p).outer (sheet_of p).implementations o.implementations q.implementations _ _ (summary_is_head o) (summary_is_head q) (lo ∙ sym many) (lq ∙ sym many)
    (cut (set_text o.is_greatest) (set_text q.is_greatest) _ _ (set_is_flat o.is_greatest) (set_is_flat q.is_greatest) (set_on p o q h))

-- ---- the retained set

same_by : (a b : Bool) (m n : ℕ) → m ≢ n → cond a m n ≡ cond b m n → a ≡ b
same_by true true m n d e = refl
same_by true false m n d e = absurd (d e)
same_by false true m n d e = absurd (d (sym e))
same_by false false m n d e = refl

fate_first : (f : Fate) (x : List ℕ) → first (fate_text f ++ x) ≡ cond (is_kept_by f) 114 100
fate_first Retained x = refl
fate_first Unchecked x = refl
fate_first Dropped x = refl
fate_first (DroppedFor why) x = refl

set_first : (b : Bool) (x : List ℕ) → first (set_text b ++ x) ≡ cond b 103 105
set_first true x = refl
set_first false x = refl

same_fates : (cs : List Id) (fs gs : List Fate) (x y : List ℕ) → length fs ≡ length cs → length gs ≡ length cs → texts candidate_text cs fs ++ x ≡ texts candidate_text cs gs ++ y → (b : ℕ) → is_kept_at (slice_get fs b) ≡ is_kept_at (slice_get gs b)
same_fates [] [] [] x y lf lg h b = refl
same_fates [] [] (g ∷ gs) x y lf lg h b = absurd (omega (arith, lg))
same_fates [] (f ∷ fs) gs x y lf lg h b = absurd (omega (arith, lf))
same_fates (c ∷ cs) [] gs x y lf lg h b = absurd (omega (arith, lf))
same_fates (c ∷ cs) (f ∷ fs) [] x y lf lg h b = absurd (omega (arith, lg))
same_fates (c ∷ cs) (f ∷ fs) (g ∷ gs) x y lf lg h zero =
    same_by (is_kept_by f) (is_kept_by g) 114 100 (λ e. omega (arith, e))
    (sym (fate_first f _) ∙ ap first (fates_on c f g (texts candidate_text cs fs) (texts candidate_text cs gs) x y h) ∙ fate_first g _)
same_fates (c ∷ cs) (f ∷ fs) (g ∷ gs) x y lf lg h (suc b) =
    same_fates cs fs gs x y (omega (arith, lf)) (omega (arith, lg))
    (cut (fate_text f) (fate_text g) _ _ (fate_is_flat f) (fate_is_flat g) (fates_on c f g (texts candidate_text cs fs) (texts candidate_text cs gs) x y h)) b

pub text_decides_sets : (p : Program) (o q : Outcome) → length o.fates ≡ length p.candidates → length q.fates ≡ length p.candidates → result_text p o ≡ result_text p q → ((b : ℕ) → retained o b ≡ retained q b) × (o.is_greatest ≡ q.is_greatest)
text_decides_sets p o q lo lq h = (
  same_fates p.candidates o.fates q.fates _ _ lo lq (candidates_on p o q h),
  same_by o.is_greatest q.is_greatest 103 105 (λ e. omega (arith, e)) (sym (set_first o.is_greatest _) ∙ ap first (set_on p o q h) ∙ set_first q.is_greatest _),
)
