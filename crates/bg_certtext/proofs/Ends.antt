-- Where the machine stops.
use Rattle.std.proofs.Common.{◌≡◌, ℕ, ◌+◌, ◌≤◌, Bool, true, false, ◌&&◌, List, [], ◌∷◌, ◌++◌, flat_map, length, codes, Option, Some, None, refl, ap, sym, ◌∙◌, arith}
use Rattle.std.specs.List.{list_all}
use Rattle.std.specs.Str.{bytes_eq}
use Rattle.std.proofs.lemmas.Bool.{and_parts}
use Rattle.std.proofs.lemmas.List.{length-append}
use Rattle.std.proofs.lemmas.Slice.Eq.{bytes_eq-Decides}
use Rattle.bg_text.specs.Pieces.{is_digit}
use Rattle.bg_certtext.specs.declared.draft.Stage.TheVariants as at
use Rattle.bg_certtext.specs.Lines.{line}
use Rattle.bg_certtext.specs.Words.{is_in_line, words_of}
use Rattle.bg_certtext.specs.Machine.{DraftOf, start, next, after, then_, when, Takes, Stands, IsNextLine, Stops, is_other_version}

-- ---- one line

newline_ends : is_in_line 10 ≡ false
unfolding is_in_line
newline_ends = refl

-- bytes without a newline have no line
no_line : (l behind : List ℕ) → list_all is_in_line (l ++ 10 ∷ behind) ≡ true → ⊥
no_line [] behind h =
    let inside = and_parts (is_in_line 10) (list_all is_in_line behind) h in
    let t : true ≡ false = sym inside.0 ∙ newline_ends in
    absurd (cc)
no_line (b ∷ bs) behind h = no_line bs behind (and_parts (is_in_line b) (list_all is_in_line (bs ++ 10 ∷ behind)) h).1

pub no_next_line : (l rest : List ℕ) → list_all is_in_line rest ≡ true → IsNextLine l rest → ⊥
no_next_line l rest h k = no_line l k.behind (ap (list_all is_in_line) (sym k.cut) ∙ h)

-- a newline is inside no line
not_inside : (b : ℕ) (bs : List ℕ) → list_all is_in_line (b ∷ bs) ≡ true → b ≡ 10 → ⊥
not_inside b bs h e =
    let inside = and_parts (is_in_line b) (list_all is_in_line bs) h in
    let t : true ≡ false = sym inside.0 ∙ ap is_in_line e ∙ newline_ends in
    absurd (cc)

-- the next line is one alone
one_line : (l m b c : List ℕ) → list_all is_in_line l ≡ true → list_all is_in_line m ≡ true → l ++ 10 ∷ b ≡ m ++ 10 ∷ c → l ≡ m
one_line [] [] b c h k e = refl
one_line [] (y ∷ ys) b c h k e = let same : y ≡ 10 = cc in absurd (not_inside y ys k same)
one_line (x ∷ xs) [] b c h k e = let same : x ≡ 10 = cc in absurd (not_inside x xs h same)
one_line (x ∷ xs) (y ∷ ys) b c h k e =
    let head : x ≡ y = cc in
    let tail : xs ++ 10 ∷ b ≡ ys ++ 10 ∷ c = cc in
    let more : xs ≡ ys = one_line xs ys b c (and_parts (is_in_line x) (list_all is_in_line xs) h).1 (and_parts (is_in_line y) (list_all is_in_line ys) k).1 tail in
    cc

pub same_line : (l m behind rest : List ℕ) → rest ≡ l ++ 10 ∷ behind → list_all is_in_line l ≡ true → IsNextLine m rest → m ≡ l
same_line l m behind rest cut inside h = one_line m l h.behind behind h.inside inside (sym h.cut ∙ cut)

pub fewer : (rest l behind : List ℕ) → rest ≡ l ++ 10 ∷ behind → length behind + 1 ≤ length rest
fewer rest l behind cut = omega (arith, ap length cut ∙ length-append l (10 ∷ behind))

-- ---- the first line

abbrev version : List (List ℕ)
version = codes "bg-cert" ∷ codes "1" ∷ []

abbrev opening : List ℕ
opening = codes "bg-cert 1"

opening_inside : list_all is_in_line opening ≡ true
unfolding is_in_line
opening_inside = refl

opening_not_other : is_other_version (words_of opening) ≡ false
unfolding is_digit
opening_not_other = refl

when_some : {A : Type 0} (t : Bool) (x y : A) → when t x ≡ Some y → t ≡ true
when_some true x y h = refl
when_some false x y h = absurd (cc)

-- the machine takes the line of this version alone at first
first_taken : (ws : List (List ℕ)) (d : DraftOf) → next ws start ≡ Some d → ws ≡ version
first_taken [] d h = absurd (cc)
first_taken (k ∷ []) d h = absurd (cc)
first_taken (k ∷ v ∷ []) d h =
    let both = and_parts (bytes_eq k (codes "bg-cert")) (bytes_eq v (codes "1")) (when_some (bytes_eq k (codes "bg-cert") && bytes_eq v (codes "1")) (record start { stage = at.Interp }) d h) in
    let key : k ≡ codes "bg-cert" = (bytes_eq-Decides k (codes "bg-cert")).0 both.0 in
    let one : v ≡ codes "1" = (bytes_eq-Decides v (codes "1")).0 both.1 in
    ap (λ (w : List ℕ). w ∷ v ∷ []) key ∙ ap (λ (w : List ℕ). codes "bg-cert" ∷ w ∷ []) one
first_taken (k ∷ v ∷ w ∷ ws) d h = absurd (cc)

first_by : (ws : List (List ℕ)) (more : List (List (List ℕ))) (d : DraftOf) (o : Option DraftOf) → next ws start ≡ o → then_ o (after more) ≡ Some d → ws ≡ version
first_by ws more d None e h = absurd (cc)
first_by ws more d (Some x) e h = first_taken ws x e

opened : (ws : List (List ℕ)) (more : List (List (List ℕ))) (bytes rest l : List ℕ) → ws ≡ version → bytes ≡ flat_map line (ws ∷ more) ++ rest → IsNextLine l bytes → is_other_version (words_of l) ≡ false
opened ws more bytes rest l is cut h =
    let whole : bytes ≡ opening ++ 10 ∷ (flat_map line more ++ rest) = cut ∙ ap (λ (w : List (List ℕ)). flat_map line (w ∷ more) ++ rest) is in
    ap (λ (bs : List ℕ). is_other_version (words_of bs)) (same_line opening l (flat_map line more ++ rest) bytes whole opening_inside h) ∙ opening_not_other

-- where a line was taken, the first isn't that of another version
taken_not_other : (before : List (List (List ℕ))) (bytes rest l : List ℕ) (d : DraftOf) → bytes ≡ flat_map line before ++ rest → after before start ≡ Some d → (before ≡ [] → is_other_version (words_of l) ≡ false) → IsNextLine l bytes → is_other_version (words_of l) ≡ false
taken_not_other [] bytes rest l d cut ran none h = none refl
taken_not_other (ws ∷ more) bytes rest l d cut ran none h = opened ws more bytes rest l (first_by ws more d (next ws start) refl ran) cut h

none_before : (before : List (List (List ℕ))) → length before + 1 ≡ 1 → before ≡ []
none_before [] h = refl
none_before (x ∷ xs) h = absurd (omega arith)

-- in front of the first line stands nothing
pub at_first : (bytes rest : List ℕ) (n : ℕ) (d : DraftOf) → Stands bytes n d rest → n ≡ 1 → bytes ≡ rest
at_first bytes rest n d h e =
    h.cut ∙ ap (λ (before : List (List (List ℕ))). flat_map line before ++ rest) (none_before h.before (sym h.count ∙ e))

first_number : (before : List (List (List ℕ))) (n : ℕ) → n ≡ length before + 1 → before ≡ [] → n ≡ 1
first_number before n count e = count ∙ ap (λ (xs : List (List (List ℕ))). length xs + 1) e

-- ---- a line is refused

pub refused : (words : List (List ℕ)) (l : List ℕ) (d e : DraftOf) (yes : Bool) → words ≡ words_of l → Takes (next words d) e yes → yes ≡ false → next (words_of l) d ≡ None
refused words l d e true is h k = absurd (cc)
refused words l d e false is h k = ap (λ (ws : List (List ℕ)). next ws d) (sym is) ∙ h

pub taken : (words : List (List ℕ)) (l : List ℕ) (d e : DraftOf) (yes : Bool) → words ≡ words_of l → Takes (next words d) e yes → yes ≡ true → next (words_of l) d ≡ Some e
taken words l d e true is h k = ap (λ (ws : List (List ℕ)). next ws d) (sym is) ∙ h
taken words l d e false is h k = absurd (cc)

pub stops_at_line : (bytes rest l behind : List ℕ) (n : ℕ) (d : DraftOf) → Stands bytes n d rest → rest ≡ l ++ 10 ∷ behind → list_all is_in_line l ≡ true → next (words_of l) d ≡ None → Stops bytes n
stops_at_line bytes rest l behind n d h cut inside no_more =
    record {
      draft = d;
      rest = rest;
      stands = h;
      refuses = λ m k. ap (λ (bs : List ℕ). next (words_of bs) d) (same_line l m behind rest cut inside k) ∙ no_more;
      short = λ e s. let same : list_all is_in_line (l ++ 10 ∷ behind) ≡ true = ap (list_all is_in_line) (sym cut ∙ e) in no_line l behind same;
    }

pub not_other_at_line : (bytes rest l behind : List ℕ) (n : ℕ) (d : DraftOf) → Stands bytes n d rest → rest ≡ l ++ 10 ∷ behind → list_all is_in_line l ≡ true → (n ≡ 1 → is_other_version (words_of l) ≡ false) → (m : List ℕ) → IsNextLine m bytes → is_other_version (words_of m) ≡ false
not_other_at_line bytes rest l behind n d h cut inside first m k =
    let none : h.before ≡ [] → is_other_version (words_of m) ≡ false = λ e.
    let one = first_number h.before n h.count e in
    ap (λ (bs : List ℕ). is_other_version (words_of bs)) (same_line l m behind bytes (at_first bytes rest n d h one ∙ cut) inside k) ∙ first one
    in
    taken_not_other h.before bytes rest m d h.cut h.ran none k

pub is_next : (bytes rest l behind : List ℕ) (n : ℕ) (d : DraftOf) → Stands bytes n d rest → rest ≡ l ++ 10 ∷ behind → list_all is_in_line l ≡ true → n ≡ 1 → IsNextLine l bytes
is_next bytes rest l behind n d h cut inside one =
    record { inside = inside; behind = behind; cut = at_first bytes rest n d h one ∙ cut }

-- ---- no line is left

pub stops_at_end : (bytes rest : List ℕ) (n : ℕ) (d : DraftOf) → Stands bytes n d rest → list_all is_in_line rest ≡ true → (rest ≡ [] → d.stage ≡ at.End → ⊥) → Stops bytes n
stops_at_end bytes rest n d h inside short =
    record {
      draft = d;
      rest = rest;
      stands = h;
      refuses = λ l k. absurd (no_next_line l rest inside k);
      short = short;
    }

pub not_other_at_end : (bytes rest : List ℕ) (n : ℕ) (d : DraftOf) → Stands bytes n d rest → list_all is_in_line rest ≡ true → (l : List ℕ) → IsNextLine l bytes → is_other_version (words_of l) ≡ false
not_other_at_end bytes rest n d h inside l k =
    let none : h.before ≡ [] → is_other_version (words_of l) ≡ false = λ e.
    let same : list_all is_in_line bytes ≡ true = ap (list_all is_in_line) (at_first bytes rest n d h (first_number h.before n h.count e)) ∙ inside in
    absurd (no_next_line l bytes same k)
    in
    taken_not_other h.before bytes rest l d h.cut h.ran none k
