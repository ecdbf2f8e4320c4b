-- What two sound reports of one program have in common.
use Rattle.std.proofs.Common.{◌≡◌, ℕ, suc, Bool, true, false, not, ◌&&◌, ◌||◌, List, [], ◌∷◌, map, if◌then◌else◌, refl, sym, ap, ◌∙◌, subst}
use Rattle.std.specs.List.{list_any, list_all}
use Rattle.std.proofs.lemmas.Bool.{and_parts}
use Rattle.bg_ast.specs.Syntax.{Prog}
use Rattle.bg_ast.specs.Resolved as r
use Rattle.bg_ast.specs.Meaning.{meaning_of}
use Rattle.bg_ast.specs.Execution.{Place}
use Rattle.bg_sense.specs.Claims.{Greatest}
use Rattle.bg_places.specs.Placed.{Placed}
use Rattle.bg_sound.specs.Told.{Verdict, Proved, Refuted, Unknown, Judged, Outcome, Word, SomeRefuted, SomeUnknown, AllProved, retained, placed_at, is_refuted, is_unknown, word_of, are_settled}
use Rattle.bg_sound.specs.Sound.{IsRetained, IsTrueAt, AreTrueAt, AreTrueFrom, IsSound}

funext : (f g : ℕ → Bool) → ((n : ℕ) → f n ≡ g n) → f ≡ g
funext f g h = λ i n. h n i

same_bool : (a b : Bool) → (a ≡ true → b ≡ true) → (b ≡ true → a ≡ true) → a ≡ b
same_bool true true f g = refl
same_bool true false f g = sym (f refl)
same_bool false true f g = g refl
same_bool false false f g = refl

greatest_of : (p : Prog) (set : ℕ → Bool) (g : Bool) → g ≡ true → IsRetained p set g → Greatest p set
greatest_of p set true e h = h
greatest_of p set false e h = absurd (let bad : false ≡ true = e in cc)

pub sets_agree : (p : r.Program) (a b : Outcome) → IsSound p a → IsSound p b → a.is_greatest ≡ true → b.is_greatest ≡ true → (c : ℕ) → retained a c ≡ retained b c
sets_agree p a b x y ga gb c =
    let g = greatest_of (meaning_of p) (retained a) a.is_greatest ga x.retained_set in
    let h = greatest_of (meaning_of p) (retained b) b.is_greatest gb y.retained_set in
    same_bool (retained a c) (retained b c) (λ e. h.above (retained a) g.is_set g.inductive c e) (λ e. g.above (retained b) h.is_set h.inductive c e)

-- a place that is proved in one report isn't refuted in another
same_kind : (p : Prog) (set : ℕ → Bool) (s t : Place) (v w : Verdict) → s ≡ t → IsTrueAt p set s v → IsTrueAt p set t w → not (is_unknown v) ≡ true → not (is_unknown w) ≡ true → is_refuted v ≡ is_refuted w
same_kind p set s t Proved Proved e f g m n = refl
same_kind p set s t (Refuted i st ts cs) (Refuted j su us ds) e f g m n = refl
same_kind p set s t Proved (Refuted j su us ds) e f g m n =
    absurd (subst (λ (u : Place). IsTrueAt p set u Proved) e f j su ds g.0)
same_kind p set s t (Refuted i st ts cs) Proved e f g m n =
    absurd (g i st cs (subst (λ (u : Place). IsTrueAt p set u (Refuted i st ts cs)) e f).0)
same_kind p set s t (Unknown why) w e f g m n = absurd (let bad : false ≡ true = m in cc)
same_kind p set s t Proved (Unknown why) e f g m n = absurd (let bad : false ≡ true = n in cc)
same_kind p set s t (Refuted i st ts cs) (Unknown why) e f g m n = absurd (let bad : false ≡ true = n in cc)

abbrev settled : List Judged → Bool
settled js = list_all (λ j. not (is_unknown j.verdict)) js

abbrev refuted : List Judged → Bool
refuted js = list_any (λ j. is_refuted j.verdict) js

abbrev head_of : Placed → List Placed → Placed
head_of d [] = d
head_of d (x ∷ xs) = x

abbrev tail_of : List Placed → List Placed
tail_of [] = []
tail_of (x ∷ xs) = xs

same_refuted : (p : Prog) (set : ℕ → Bool) (js ks : List Judged) → map placed_at js ≡ map placed_at ks → AreTrueAt p set js → AreTrueAt p set ks → settled js ≡ true → settled ks ≡ true → refuted js ≡ refuted ks
same_refuted p set [] [] e f g m n = refl
same_refuted p set [] (k ∷ ks) e f g m n = absurd (let bad : [] ≡ placed_at k ∷ map placed_at ks = e in cc)
same_refuted p set (j ∷ js) [] e f g m n = absurd (let bad : placed_at j ∷ map placed_at js ≡ [] = e in cc)
same_refuted p set (j ∷ js) (k ∷ ks) e f g m n =
    let here : j.placed ≡ k.placed = first e in
    let there : map placed_at js ≡ map placed_at ks = rest e in
    let a = and_parts (not (is_unknown j.verdict)) (settled js) m in
    let b = and_parts (not (is_unknown k.verdict)) (settled ks) n in
    let one = same_kind p set j.placed.place k.placed.place j.verdict k.verdict (ap (λ (q : Placed). q.place) here) f.0 g.0 a.0 b.0 in
    let more = same_refuted p set js ks there f.1 g.1 a.1 b.1 in
    ap (λ (c : Bool). c || refuted js) one ∙ ap (λ (c : Bool). is_refuted k.verdict || c) more
  where
    first : placed_at j ∷ map placed_at js ≡ placed_at k ∷ map placed_at ks → j.placed ≡ k.placed
    first h = ap (head_of j.placed) h

    rest : placed_at j ∷ map placed_at js ≡ placed_at k ∷ map placed_at ks → map placed_at js ≡ map placed_at ks
    rest h = ap tail_of h

none_unknown : (js : List Judged) → settled js ≡ true → list_any (λ j. is_unknown j.verdict) js ≡ false
none_unknown [] h = refl
none_unknown (j ∷ js) h = by (is_unknown j.verdict) (settled js) h (none_unknown js)
  where
    by : (a s : Bool) → (not a && s) ≡ true → (s ≡ true → list_any (λ k. is_unknown k.verdict) js ≡ false) → (a || list_any (λ k. is_unknown k.verdict) js) ≡ false
    by true s e f = absurd (let bad : false ≡ true = e in cc)
    by false s e f = f e

word_by : (js : List Judged) → settled js ≡ true → word_of js ≡ (if refuted js then SomeRefuted else AllProved)
word_by js h =
    ap (λ (u : Bool). if refuted js then SomeRefuted else if u then SomeUnknown else AllProved) (none_unknown js h)

words_from : (p : r.Program) (set : ℕ → Bool) (k : ℕ) (ms : List r.Impl) (os qs : List (List Judged)) → AreTrueFrom p set k ms os → AreTrueFrom p set k ms qs → are_settled os ≡ true → are_settled qs ≡ true → map word_of os ≡ map word_of qs
words_from p set k [] [] [] f g m n = refl
words_from p set k [] [] (ks ∷ qs) f g m n = absurd g
words_from p set k [] (js ∷ os) qs f g m n = absurd f
words_from p set k (i ∷ is) [] qs f g m n = absurd f
words_from p set k (i ∷ is) (js ∷ os) [] f g m n = absurd g
words_from p set k (i ∷ is) (js ∷ os) (ks ∷ qs) f g m n =
    let a = and_parts (settled js) (are_settled os) m in
    let b = and_parts (settled ks) (are_settled qs) n in
    let same = same_refuted (meaning_of p) set js ks (f.0.places ∙ sym g.0.places) f.0.right g.0.right a.0 b.0 in
    let word : word_of js ≡ word_of ks = word_by js a.0 ∙ ap (λ (u : Bool). if u then SomeRefuted else AllProved) same ∙ sym (word_by ks b.0) in
    ap (λ (w : Word). w ∷ map word_of os) word ∙ ap (λ (ws : List Word). word_of ks ∷ ws) (words_from p set (suc k) is os qs f.1 g.1 a.1 b.1)

pub words_agree : (p : r.Program) (a b : Outcome) → IsSound p a → IsSound p b → a.is_greatest ≡ true → b.is_greatest ≡ true → are_settled a.implementations ≡ true → are_settled b.implementations ≡ true → map word_of a.implementations ≡ map word_of b.implementations
words_agree p a b x y ga gb m n =
    let e : retained b ≡ retained a = funext (retained b) (retained a) (λ c. sym (sets_agree p a b x y ga gb c)) in
    words_from p (retained a) 0 p.implementations a.implementations b.implementations x.implementations (subst (λ (set : ℕ → Bool). AreTrueFrom p set 0 p.implementations b.implementations) e y.implementations) m n
