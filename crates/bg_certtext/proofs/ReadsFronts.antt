-- Lines of clean words are told apart in their bytes.
use Rattle.std.proofs.Common.{◌≡◌, ℕ, true, false, not, ◌==◌, List, [], ◌∷◌, ◌++◌, flat_map, refl, ap, sym, ◌∙◌, append_assoc}
use Rattle.std.specs.List.{list_all}
use Rattle.bg_certtext.specs.Lines.{behind_space, spaced, line}
use Rattle.bg_certtext.specs.Spellable.{is_inside_word}
use Rattle.bg_certtext.specs.Words.{is_in_line, is_in_word, words_of}
use Rattle.bg_certtext.specs.Machine.{IsNextLine}
use Rattle.bg_certtext.proofs.Spaced.{words_of_spaced}
use Rattle.bg_certtext.proofs.ReadsOptions.{both, all_of}
use Rattle.bg_certtext.proofs.ReadsStates.{Lines}
use Rattle.bg_certtext.proofs.ReadsClean.{is_clean, is_line}

-- ---- one line

inside_both : (b : ℕ) → is_inside_word b ≡ true → (is_in_word b ≡ true) × (is_in_line b ≡ true)
unfolding is_inside_word is_in_word is_in_line
inside_both b h = both (not (b == 32)) (not (b == 10)) h

in_word : (w : List ℕ) → is_clean w ≡ true → list_all is_in_word w ≡ true
in_word [] h = refl
in_word (b ∷ bs) h = let p = both (is_inside_word b) (is_clean bs) h in all_of (is_in_word b) (list_all is_in_word bs) (inside_both b p.0).0 (in_word bs p.1)

in_words : (ws : List (List ℕ)) → list_all is_clean ws ≡ true → list_all (list_all is_in_word) ws ≡ true
in_words [] h = refl
in_words (w ∷ ws) h = let p = both (is_clean w) (list_all is_clean ws) h in all_of (list_all is_in_word w) (list_all (list_all is_in_word) ws) (in_word w p.0) (in_words ws p.1)

-- the words of the line are its words
pub words_again : (ws : List (List ℕ)) → is_line ws ≡ true → words_of (spaced ws) ≡ ws
words_again [] h = absurd (cc)
words_again (w ∷ ws) h = let p = both (is_clean w) (list_all is_clean ws) h in words_of_spaced w ws (in_word w p.0) (in_words ws p.1)

in_line : (w more : List ℕ) → is_clean w ≡ true → list_all is_in_line more ≡ true → list_all is_in_line (w ++ more) ≡ true
in_line [] more h k = k
in_line (b ∷ bs) more h k = let p = both (is_inside_word b) (is_clean bs) h in all_of (is_in_line b) (list_all is_in_line (bs ++ more)) (inside_both b p.0).1 (in_line bs more p.1 k)

space_in_line : is_in_line 32 ≡ true
unfolding is_in_line
space_in_line = refl

behind_in_line : (ws : List (List ℕ)) → list_all is_clean ws ≡ true → list_all is_in_line (flat_map behind_space ws) ≡ true
behind_in_line [] h = refl
behind_in_line (w ∷ ws) h =
    let p = both (is_clean w) (list_all is_clean ws) h in
    all_of (is_in_line 32) (list_all is_in_line (w ++ flat_map behind_space ws)) space_in_line (in_line w (flat_map behind_space ws) p.0 (behind_in_line ws p.1))

spaced_in_line : (ws : List (List ℕ)) → is_line ws ≡ true → list_all is_in_line (spaced ws) ≡ true
spaced_in_line [] h = absurd (cc)
spaced_in_line (w ∷ ws) h = let p = both (is_clean w) (list_all is_clean ws) h in in_line w (flat_map behind_space ws) p.0 (behind_in_line ws p.1)

pub is_next_line : (ws : List (List ℕ)) (rest behind : List ℕ) → is_line ws ≡ true → rest ≡ line ws ++ behind → IsNextLine (spaced ws) rest
is_next_line ws rest behind h e = record { inside = spaced_in_line ws h; behind = behind; cut = e ∙ append_assoc (spaced ws) (10 ∷ []) behind }

-- ---- two texts

newline_ends : is_in_line 10 ≡ false
unfolding is_in_line
newline_ends = refl

cut_once : (u v a b : List ℕ) → list_all is_in_line u ≡ true → list_all is_in_line v ≡ true → u ++ 10 ∷ a ≡ v ++ 10 ∷ b → (u ≡ v) × (a ≡ b)
cut_once [] [] a b h k e = (refl, cc)
cut_once [] (c ∷ v) a b h k e = let same : 10 ≡ c = cc in let p = both (is_in_line c) (list_all is_in_line v) k in absurd (cc (newline_ends, ap is_in_line same, p.0))
cut_once (c ∷ u) [] a b h k e = let same : c ≡ 10 = cc in let p = both (is_in_line c) (list_all is_in_line u) h in absurd (cc (newline_ends, ap is_in_line same, p.0))
cut_once (c ∷ u) (d ∷ v) a b h k e =
    let p = both (is_in_line c) (list_all is_in_line u) h in
    let q = both (is_in_line d) (list_all is_in_line v) k in
    let first : c ≡ d = cc in
    let rest : u ++ 10 ∷ a ≡ v ++ 10 ∷ b = cc in
    let more = cut_once u v a b p.1 q.1 rest in
    (let same : c ∷ u ≡ d ∷ v = cc (first, more.0) in same, more.1)

pub same_first : (x y : List (List ℕ)) (a b : List ℕ) → is_line x ≡ true → is_line y ≡ true → line x ++ a ≡ line y ++ b → (x ≡ y) × (a ≡ b)
same_first x y a b h k e =
    let p = cut_once (spaced x) (spaced y) a b (spaced_in_line x h) (spaced_in_line y k) (sym (append_assoc (spaced x) (10 ∷ []) a) ∙ e ∙ append_assoc (spaced y) (10 ∷ []) b) in
    (sym (words_again x h) ∙ ap words_of p.0 ∙ words_again y k, p.1)

not_nothing : (u a : List ℕ) → u ++ 10 ∷ a ≡ [] → ⊥
not_nothing [] a e = cc
not_nothing (c ∷ u) a e = cc

-- these lines begin with those, and the bytes behind those are the other lines
pub record Front (xs ys : Lines) (more : List ℕ) : Type 0 where
  pub others : Lines
  pub lines_are : ys ≡ xs ++ others
  pub rest_is : more ≡ flat_map line others

pub fronts : (xs ys : Lines) (more : List ℕ) → list_all is_line xs ≡ true → list_all is_line ys ≡ true → flat_map line xs ++ more ≡ flat_map line ys → Front xs ys more
fronts [] ys more h k e = record { others = ys; lines_are = refl; rest_is = e }
fronts (x ∷ xs) [] more h k e =
    absurd (not_nothing (spaced x) (flat_map line xs ++ more) (sym (append_assoc (spaced x) (10 ∷ []) (flat_map line xs ++ more)) ∙ sym (append_assoc (line x) (flat_map line xs) more) ∙ e))
fronts (x ∷ xs) (y ∷ ys) more h k e =
    let p = both (is_line x) (list_all is_line xs) h in
    let q = both (is_line y) (list_all is_line ys) k in
    let s = same_first x y (flat_map line xs ++ more) (flat_map line ys) p.0 q.0 (sym (append_assoc (line x) (flat_map line xs) more) ∙ e) in
    let f = fronts xs ys more p.1 q.1 s.1 in
    record { others = f.others; lines_are = let same : y ∷ ys ≡ x ∷ (xs ++ f.others) = cc (s.0, f.lines_are) in same; rest_is = f.rest_is }

pub front_clean : (xs ys : Lines) → list_all is_line (xs ++ ys) ≡ true → list_all is_line xs ≡ true
front_clean [] ys h = refl
front_clean (x ∷ xs) ys h = let p = both (is_line x) (list_all is_line (xs ++ ys)) h in all_of (is_line x) (list_all is_line xs) p.0 (front_clean xs ys p.1)

pub last_clean : (xs : Lines) (y : List (List ℕ)) (ys : Lines) → list_all is_line (xs ++ y ∷ ys) ≡ true → is_line y ≡ true
last_clean [] y ys h = (both (is_line y) (list_all is_line ys) h).0
last_clean (x ∷ xs) y ys h = last_clean xs y ys (both (is_line x) (list_all is_line (xs ++ y ∷ ys)) h).1
