-- The words of a certificate's lines have no space and no newline.
use Rattle.std.proofs.Common.{◌≡◌, ℕ, suc, ◌+◌, ◌%◌, ◌<◌, ◌^◌, Bool, true, false, not, ◌&&◌, ◌==◌, nat_lt, nat_le, int_le, List, [], ◌∷◌, ◌++◌, map, flat_map, length, codes, Option, Some, None, ℤ, pos, negsuc, refl, ap, ◌∙◌, arith}
use Rattle.std.proofs.lemmas.Bool.{ltb-true, lt-ltb, ne_eqb}
use Rattle.std.proofs.lemmas.Fmt.{decimal_by_steps_wide}
use Rattle.std.specs.List.{list_all}
use Rattle.std.specs.Fmt.{decimal, signed_decimal}
use Rattle.bg_base.specs.Exact.{fits}
use Rattle.bg_rows.specs.declared.step.Step.{Step}
use Rattle.bg_rows.specs.declared.step.Step.TheVariants.{Path, Sum, Tight}
use Rattle.bg_cert.specs.declared.cert.Named.{Named}
use Rattle.bg_cert.specs.declared.cert.Named.TheVariants.{OfAtom, OfRow}
use Rattle.bg_certtext.specs.declared.text.Term.{Term}
use Rattle.bg_certtext.specs.declared.text.Stated.{Stated}
use Rattle.bg_certtext.specs.declared.text.Stated.TheVariants as said
use Rattle.bg_certtext.specs.Views.{PartOf, AtNumber, AtElement, ValueOf, Truth, Number, Element, Default, Slot}
use Rattle.bg_certtext.specs.Views.{RowOf, NodeOf, Splits, Bounds, Cuts, Learns, IsClause, IsUnit, IsKnown, Derives, SectionOf, GivenOf, EntryOf, FunctionOf, InterpOf, CertOf}
use Rattle.bg_certtext.specs.Lines.{behind_comma, commas}
use Rattle.bg_certtext.specs.Spellable.{IsSpellable, is_inside_word, is_empty, is_name, is_type, is_inside_type, is_number, is_zero, is_factor, is_row, is_literal, is_step, is_node, is_stated, is_section, is_part, is_index, is_value, is_given, is_entry, are_entries, is_function, is_interp, are_terms, are_steps, are_trees}
use Rattle.bg_certtext.specs.Texts.{literal_word, step_words, node_words, node_lines, term_words, row_words, table_lines, stated_words, place_words, section_lines, retain_words, element_word, part_word, index_word, row_text, default_text, value_text, inside_text, given_words, key_text, entries_text, table_text, function_words, interp_lines, version_words, end_words, lines_of}
use Rattle.bg_certtext.specs.Words.{is_in_line, words_of, in_first}
use Rattle.bg_certtext.proofs.ReadsOptions.{both, all_of}

-- a word has neither inside, a line at least one such word
abbrev pub is_clean : List ℕ → Bool
is_clean w = list_all is_inside_word w

abbrev pub is_line : List (List ℕ) → Bool
is_line ws = not (is_empty ws) && list_all is_clean ws

-- ---- lists of them

all_append : {A : Type 0} (p : A → Bool) (xs ys : List A) → list_all p xs ≡ true → list_all p ys ≡ true → list_all p (xs ++ ys) ≡ true
all_append p [] ys h k = k
all_append p (x ∷ xs) ys h k = let q = both (p x) (list_all p xs) h in all_of (p x) (list_all p (xs ++ ys)) q.0 (all_append p xs ys q.1 k)

all_map : {A B : Type 0} (p : B → Bool) (q : A → Bool) (f : A → B) → ((x : A) → q x ≡ true → p (f x) ≡ true) → (xs : List A) → list_all q xs ≡ true → list_all p (map f xs) ≡ true
all_map p q f each [] h = refl
all_map p q f each (x ∷ xs) h = let k = both (q x) (list_all q xs) h in all_of (p (f x)) (list_all p (map f xs)) (each x k.0) (all_map p q f each xs k.1)

all_flat : {A B : Type 0} (p : B → Bool) (q : A → Bool) (f : A → List B) → ((x : A) → q x ≡ true → list_all p (f x) ≡ true) → (xs : List A) → list_all q xs ≡ true → list_all p (flat_map f xs) ≡ true
all_flat p q f each [] h = refl
all_flat p q f each (x ∷ xs) h = let k = both (q x) (list_all q xs) h in all_append p (f x) (flat_map f xs) (each x k.0) (all_flat p q f each xs k.1)

-- ---- words

abbrev is_above : ℕ → Bool
is_above b = nat_lt 32 b

above_inside : (b : ℕ) → is_above b ≡ true → is_inside_word b ≡ true
unfolding is_inside_word
above_inside b h =
    let more = ltb-true 32 b h in
    rw (ne_eqb b 32 (λ e. omega (arith, e, more)), ne_eqb b 10 (λ e. omega (arith, e, more))) refl

-- a word of bytes above the space
plain : (w : List ℕ) → list_all is_above w ≡ true → is_clean w ≡ true
plain [] h = refl
plain (b ∷ bs) h = let p = both (is_above b) (list_all is_above bs) h in all_of (is_inside_word b) (is_clean bs) (above_inside b p.0) (plain bs p.1)

digits_above : (n : ℕ) → n < 10 ^ 64 → list_all is_above (decimal n) ≡ true
digits_above n small =
    let P : ℕ → List ℕ → Type 0 = λ n ds. list_all is_above ds ≡ true in
    decimal_by_steps_wide P
    (λ k low. let above = lt-ltb 32 (48 + k) (omega arith) in rw above refl)
    (λ k ds big h. let above = lt-ltb 32 (48 + k % 10) (omega arith) in all_append is_above ds ((48 + k % 10) ∷ []) h (rw above refl))
    n small

number_clean : (n : ℕ) → is_number n ≡ true → is_clean (decimal n) ≡ true
number_clean n h = plain (decimal n) (digits_above n (let low = ltb-true n (2 ^ 127) h in omega (arith, low)))

signed_clean : (z : ℤ) → fits z ≡ true → is_clean (signed_decimal z) ≡ true
signed_clean (pos n) h = number_clean n h
signed_clean (negsuc n) h = plain (45 ∷ decimal (suc n)) (digits_above (suc n) (let low = ltb-true n (2 ^ 127) h in omega (arith, low)))

literal_clean : (l : Named) → is_literal l ≡ true → is_clean (literal_word l) ≡ true
literal_clean (OfAtom a true) h = all_append is_inside_word (codes "+") (decimal a) (plain (codes "+") refl) (number_clean a h)
literal_clean (OfAtom a false) h = all_append is_inside_word (codes "-") (decimal a) (plain (codes "-") refl) (number_clean a h)
literal_clean (OfRow r true) h = all_append is_inside_word (codes "+#") (decimal r) (plain (codes "+#") refl) (number_clean r h)
literal_clean (OfRow r false) h = all_append is_inside_word (codes "-#") (decimal r) (plain (codes "-#") refl) (number_clean r h)

name_clean : (name : List ℕ) → is_name name ≡ true → is_clean name ≡ true
name_clean name h = (both (not (is_empty name)) (is_clean name) h).1

-- ---- lines

lone : (a : List ℕ) → is_clean a ≡ true → is_line (a ∷ []) ≡ true
lone a h = rw h refl

pair : (a b : List ℕ) → is_clean a ≡ true → is_clean b ≡ true → is_line (a ∷ b ∷ []) ≡ true
pair a b h k = rw (h, k) refl

triple : (a b c : List ℕ) → is_clean a ≡ true → is_clean b ≡ true → is_clean c ≡ true → is_line (a ∷ b ∷ c ∷ []) ≡ true
triple a b c h k l = rw (h, k, l) refl

of_one : (key : List ℕ) (n : ℕ) → list_all is_above key ≡ true → is_number n ≡ true → is_line (key ∷ decimal n ∷ []) ≡ true
of_one key n h k = pair key (decimal n) (plain key h) (number_clean n k)

step_line : (n : ℕ) (s : Step) → is_step n s ≡ true → is_line (step_words s) ≡ true
step_line n (Path j) h = of_one (codes "path") j refl h
step_line n (Sum r p s q) h =
    let h1 = both (nat_lt r n) _ h in
    let h2 = both (is_number r) _ h1.1 in
    let h3 = both (nat_lt s n) _ h2.1 in
    let h4 = both (is_number s) _ h3.1 in
    let h5 = both (fits p) _ h4.1 in
    let h6 = both (int_le (pos 0) p) _ h5.1 in
    let h7 = both (fits q) (int_le (pos 0) q) h6.1 in
    rw (plain (codes "sum") refl, number_clean r h2.0, signed_clean p h5.0, number_clean s h4.0, signed_clean q h7.0) refl
step_line n (Tight r) h = of_one (codes "tight") r refl (both (nat_lt r n) (is_number r) h).1

step_lines : (n : ℕ) (ss : List Step) → are_steps n ss ≡ true → list_all is_line (map step_words ss) ≡ true
step_lines n [] h = refl
step_lines n (s ∷ ss) h =
    let p = both (is_step n s) (are_steps (n + 1) ss) h in
    all_of (is_line (step_words s)) (list_all is_line (map step_words ss)) (step_line n s p.0) (step_lines (n + 1) ss p.1)

one_line : (ws : List (List ℕ)) → is_line ws ≡ true → list_all is_line (ws ∷ []) ≡ true
one_line ws h = all_of (is_line ws) true h refl

node_clean : (n : NodeOf) → is_node n ≡ true → list_all is_line (node_lines n) ≡ true
node_clean (Splits a) h = one_line (node_words (Splits a)) (of_one (codes "split") a refl h)
node_clean (Bounds x k) h =
    let p = both (is_number x) (fits k) h in
    one_line (node_words (Bounds x k)) (triple (codes "bound") (decimal x) (signed_decimal k) (plain (codes "bound") refl) (number_clean x p.0) (signed_clean k p.1))
node_clean (Cuts r) h = one_line (node_words (Cuts r)) (of_one (codes "cut") r refl h)
node_clean (Learns ls) h =
    one_line (node_words (Learns ls)) (all_of (is_clean (codes "lemma")) (list_all is_clean (map literal_word ls)) (plain (codes "lemma") refl) (all_map is_clean is_literal literal_word literal_clean ls h))
node_clean (IsClause c) h = one_line (node_words (IsClause c)) (of_one (codes "clause") c refl h)
node_clean (IsUnit name) h = one_line (node_words (IsUnit name)) (pair (codes "unit") name (plain (codes "unit") refl) (name_clean name h))
node_clean (IsKnown i) h = one_line (node_words (IsKnown i)) (of_one (codes "known") i refl h)
node_clean (Derives steps) h =
    let p = both (not (is_empty steps)) _ h in
    let q = both (is_number (length steps)) (are_steps 0 steps) p.1 in
    all_of (is_line (node_words (Derives steps))) (list_all is_line (map step_words steps)) (of_one (codes "rows") (length steps) refl q.0) (step_lines 0 steps q.1)

terms_clean : (low : ℕ) (ts : List Term) → are_terms low ts ≡ true → list_all is_clean (flat_map term_words ts) ≡ true
terms_clean low [] h = refl
terms_clean low (t ∷ ts) h =
    let p = both (nat_le low t.term) _ h in
    let q = both (is_number t.term) _ p.1 in
    let r = both (is_factor t.by) (are_terms (t.term + 1) ts) q.1 in
    let f = both (not (is_zero t.by)) _ r.0 in
    let fit = both (fits t.by) _ f.1 in
    rw (number_clean t.term q.0, signed_clean t.by fit.0, terms_clean (t.term + 1) ts r.1) refl

row_clean : (r : RowOf) → is_row r ≡ true → is_line (row_words r) ≡ true
row_clean r h =
    let p = both (fits r.bound) (are_terms 0 r.terms) h in
    rw (plain (codes "row") refl, signed_clean r.bound p.0, terms_clean 0 r.terms p.1) refl

table_clean : (table : List RowOf) → is_number (length table) ≡ true → list_all is_row table ≡ true → list_all is_line (table_lines table) ≡ true
table_clean [] h k = refl
table_clean (r ∷ rs) h k =
    all_of (is_line (codes "table" ∷ decimal (length (r ∷ rs)) ∷ [])) (list_all is_line (map row_words (r ∷ rs))) (of_one (codes "table") (length (r ∷ rs)) refl h) (all_map is_line is_row row_words row_clean (r ∷ rs) k)

two_line : (key : List ℕ) (a b : ℕ) → list_all is_above key ≡ true → (is_number a && is_number b) ≡ true → is_line (key ∷ decimal a ∷ decimal b ∷ []) ≡ true
two_line key a b k h = let p = both (is_number a) (is_number b) h in triple key (decimal a) (decimal b) (plain key k) (number_clean a p.0) (number_clean b p.1)

inst_line : (form : List ℕ) (ws : List (List ℕ)) → list_all is_above form ≡ true → list_all is_clean ws ≡ true → is_line (codes "inst" ∷ form ∷ ws) ≡ true
inst_line form ws k h = rw (plain (codes "inst") refl, plain form k, h) refl

two_clean : (a b : ℕ) → (is_number a && is_number b) ≡ true → list_all is_clean (decimal a ∷ decimal b ∷ []) ≡ true
two_clean a b h = let p = both (is_number a) (is_number b) h in rw (number_clean a p.0, number_clean b p.1) refl

stated_clean : (s : Stated) → is_stated s ≡ true → is_line (stated_words s) ≡ true
stated_clean (said.Pick m a) h = two_line (codes "pick") m a refl h
stated_clean (said.Names m n) h = two_line (codes "names") m n refl h
stated_clean (said.Congruent a b) h = inst_line (codes "c") (decimal a ∷ decimal b ∷ []) refl (two_clean a b h)
stated_clean (said.AtIndex u a) h = inst_line (codes "s") (decimal u ∷ decimal a ∷ []) refl (two_clean u a h)
stated_clean (said.Elsewhere u a b) h =
    let p = both (is_number u) (is_number a && is_number b) h in
    inst_line (codes "d") (decimal u ∷ decimal a ∷ decimal b ∷ []) refl (all_of (is_clean (decimal u)) (list_all is_clean (decimal a ∷ decimal b ∷ [])) (number_clean u p.0) (two_clean a b p.1))
stated_clean (said.Apart a b) h = inst_line (codes "x") (decimal a ∷ decimal b ∷ []) refl (two_clean a b h)
stated_clean (said.Unequal a b) h = two_line (codes "apart") a b refl h

section_clean : (s : SectionOf) → is_section s ≡ true → list_all is_line (section_lines s) ≡ true
section_clean s k =
    let k1 = both (is_number s.implementation) _ k in
    let k2 = both (is_number s.place) _ k1.1 in
    let k0 = both (list_all is_stated s.stated) _ k2.1 in
    let k3 = both (is_number (length s.table)) _ k0.1 in
    let rest : List (List (List ℕ)) = table_lines s.table ++ flat_map node_lines s.nodes in
    let k4 = both (list_all is_row s.table) _ k3.1 in
    let k5 = both (list_all is_node s.nodes) (are_trees 1 s.nodes) k4.1 in
    all_of (is_line (place_words s.implementation s.place)) (list_all is_line (map stated_words s.stated ++ rest))
    (triple (codes "place") (decimal s.implementation) (decimal s.place) (plain (codes "place") refl) (number_clean s.implementation k1.0) (number_clean s.place k2.0))
    (all_append is_line (map stated_words s.stated) rest (all_map is_line is_stated stated_words stated_clean s.stated k0.0)
    (all_append is_line (table_lines s.table) (flat_map node_lines s.nodes) (table_clean s.table k3.0 k4.0) (all_flat is_line is_node node_lines node_clean s.nodes k5.0)))

-- a clean word, the mark, and a clean word
clean_parts : (t ds : List ℕ) → is_clean t ≡ true → is_clean ds ≡ true → is_clean ((t ++ codes "!") ++ ds) ≡ true
clean_parts t ds h k = all_append is_inside_word (t ++ codes "!") ds (all_append is_inside_word t (codes "!") h (plain (codes "!") refl)) k

space_like : is_inside_word 44 ≡ true
unfolding is_inside_word
space_like = refl

behind_clean : (ws : List (List ℕ)) → list_all is_clean ws ≡ true → is_clean (flat_map behind_comma ws) ≡ true
behind_clean [] h = refl
behind_clean (w ∷ ws) h =
    let p = both (is_clean w) (list_all is_clean ws) h in
    all_of (is_inside_word 44) (is_clean (w ++ flat_map behind_comma ws)) space_like (all_append is_inside_word w (flat_map behind_comma ws) p.0 (behind_clean ws p.1))

commas_clean : (ws : List (List ℕ)) → list_all is_clean ws ≡ true → is_clean (commas ws) ≡ true
commas_clean [] h = refl
commas_clean (w ∷ ws) h = let p = both (is_clean w) (list_all is_clean ws) h in all_append is_inside_word w (flat_map behind_comma ws) p.0 (behind_clean ws p.1)

element_clean : (t : List ℕ) (k : ℤ) → is_type t ≡ true → fits k ≡ true → is_clean (element_word t k) ≡ true
element_clean t k h f = clean_parts t (signed_decimal k) (name_clean t (both (is_name t) (list_all is_inside_type t) h).0) (signed_clean k f)

part_clean : (p : PartOf) → is_part p ≡ true → is_clean (part_word p) ≡ true
part_clean (AtNumber k) h = signed_clean k h
part_clean (AtElement t k) h = let p = both (is_type t) (fits k) h in element_clean t k p.0 p.1

index_clean : (k : List PartOf) → is_index k ≡ true → is_clean (index_word k) ≡ true
index_clean k h = commas_clean (map part_word k) (all_map is_clean is_part part_word part_clean k (both (not (is_empty k)) (list_all is_part k) h).1)

-- ---- texts without a newline

one_in_line : (b : ℕ) → is_inside_word b ≡ true → is_in_line b ≡ true
unfolding is_inside_word is_in_line
one_in_line b h = (both (not (b == 32)) (not (b == 10)) h).1

clean_in_line : (w : List ℕ) → is_clean w ≡ true → list_all is_in_line w ≡ true
clean_in_line [] h = refl
clean_in_line (b ∷ bs) h = let p = both (is_inside_word b) (is_clean bs) h in all_of (is_in_line b) (list_all is_in_line bs) (one_in_line b p.0) (clean_in_line bs p.1)

signs_in_line : (list_all is_in_line (codes " := ") ≡ true) × (list_all is_in_line (codes ", ") ≡ true) × (list_all is_in_line (codes "else ") ≡ true) × (list_all is_in_line (codes "]") ≡ true) × (is_in_line 91 ≡ true) × (is_in_line 44 ≡ true)
unfolding is_in_line
signs_in_line = (refl, refl, refl, refl, refl, refl)

row_in_line : (k v x : List ℕ) → list_all is_in_line k ≡ true → list_all is_in_line v ≡ true → list_all is_in_line x ≡ true → list_all is_in_line (row_text k v x) ≡ true
row_in_line k v x a b c =
    all_append is_in_line k (codes " := " ++ (v ++ (codes ", " ++ x))) a
    (all_append is_in_line (codes " := ") (v ++ (codes ", " ++ x)) signs_in_line.0
    (all_append is_in_line v (codes ", " ++ x) b (all_append is_in_line (codes ", ") x signs_in_line.1 c)))

default_in_line : (v : List ℕ) → list_all is_in_line v ≡ true → list_all is_in_line (default_text v) ≡ true
default_in_line v h = all_append is_in_line (codes "else ") (v ++ codes "]") signs_in_line.2 (all_append is_in_line v (codes "]") h signs_in_line.3)

opened_in_line : (x : List ℕ) → list_all is_in_line x ≡ true → list_all is_in_line (91 ∷ x) ≡ true
opened_in_line x h = all_of (is_in_line 91) (list_all is_in_line x) signs_in_line.4 h

mutual
  value_in_line : (v : ValueOf) → is_value v ≡ true → list_all is_in_line (value_text v) ≡ true
  value_in_line (Truth true) h = clean_in_line (codes "true") (plain (codes "true") refl)
  value_in_line (Truth false) h = clean_in_line (codes "false") (plain (codes "false") refl)
  value_in_line (Number k) h = clean_in_line (signed_decimal k) (signed_clean k h)
  value_in_line (Element t k) h = let p = both (is_type t) (fits k) h in clean_in_line (element_word t k) (element_clean t k p.0 p.1)
  value_in_line (Default d) h = opened_in_line (default_text (value_text d)) (default_in_line (value_text d) (value_in_line d h))
  value_in_line (Slot k v m) h =
      let h1 = both (is_index k) _ h in
      let h2 = both (is_value v) _ h1.1 in
      let h3 = both (is_value m) _ h2.1 in
      opened_in_line (row_text (index_word k) (value_text v) (inside_text m)) (row_in_line (index_word k) (value_text v) (inside_text m) (clean_in_line (index_word k) (index_clean k h1.0)) (value_in_line v h2.0) (inside_in_line m h3.0))

  inside_in_line : (m : ValueOf) → is_value m ≡ true → list_all is_in_line (inside_text m) ≡ true
  inside_in_line (Truth b) h = refl
  inside_in_line (Number k) h = refl
  inside_in_line (Element t k) h = refl
  inside_in_line (Default d) h = default_in_line (value_text d) (value_in_line d h)
  inside_in_line (Slot k v m) h =
      let h1 = both (is_index k) _ h in
      let h2 = both (is_value v) _ h1.1 in
      let h3 = both (is_value m) _ h2.1 in
      row_in_line (index_word k) (value_text v) (inside_text m) (clean_in_line (index_word k) (index_clean k h1.0)) (value_in_line v h2.0) (inside_in_line m h3.0)

others_in_line : (vs : List ValueOf) → list_all is_value vs ≡ true → list_all is_in_line (flat_map behind_comma (map value_text vs)) ≡ true
others_in_line [] h = refl
others_in_line (v ∷ vs) h =
    let p = both (is_value v) (list_all is_value vs) h in
    let more = flat_map behind_comma (map value_text vs) in
    all_of (is_in_line 44) (list_all is_in_line (value_text v ++ more)) signs_in_line.5 (all_append is_in_line (value_text v) more (value_in_line v p.0) (others_in_line vs p.1))

key_in_line : (vs : List ValueOf) → list_all is_value vs ≡ true → list_all is_in_line (key_text vs) ≡ true
key_in_line [] h = refl
key_in_line (v ∷ vs) h =
    let p = both (is_value v) (list_all is_value vs) h in
    all_append is_in_line (value_text v) (flat_map behind_comma (map value_text vs)) (value_in_line v p.0) (others_in_line vs p.1)

entries_in_line : (es : List EntryOf) (d : ValueOf) → list_all is_entry es ≡ true → is_value d ≡ true → list_all is_in_line (entries_text es d) ≡ true
entries_in_line [] d h k = default_in_line (value_text d) (value_in_line d k)
entries_in_line (e ∷ es) d h k =
    let p = both (is_entry e) (list_all is_entry es) h in
    let q = both (list_all is_value e.key) (is_value e.value) p.0 in
    row_in_line (key_text e.key) (value_text e.value) (entries_text es d) (key_in_line e.key q.0) (value_in_line e.value q.1) (entries_in_line es d p.1 k)

-- the words of such a text are clean

not_space : (b : ℕ) → (b == 32) ≡ false → is_in_line b ≡ true → is_inside_word b ≡ true
unfolding is_inside_word is_in_line
not_space b e h = all_of (not (b == 32)) (not (b == 10)) (ap not e) h

first_in_clean : (b : ℕ) (ws : List (List ℕ)) → is_inside_word b ≡ true → list_all is_clean ws ≡ true → list_all is_clean (in_first b ws) ≡ true
first_in_clean b [] h k = rw h refl
first_in_clean b (w ∷ ws) h k =
    let p = both (is_clean w) (list_all is_clean ws) k in
    all_of (is_clean (b ∷ w)) (list_all is_clean ws) (all_of (is_inside_word b) (is_clean w) h p.0) p.1

words_by : (b : ℕ) (bs : List ℕ) (t : Bool) → (b == 32) ≡ t → is_in_line b ≡ true → list_all is_clean (words_of bs) ≡ true → list_all is_clean (words_of (b ∷ bs)) ≡ true
words_by b bs true e k h = ap (list_all is_clean) (let same : words_of (b ∷ bs) ≡ [] ∷ words_of bs = rw e refl in same) ∙ h
words_by b bs false e k h = ap (list_all is_clean) (let same : words_of (b ∷ bs) ≡ in_first b (words_of bs) = rw e refl in same) ∙ first_in_clean b (words_of bs) (not_space b e k) h

words_clean : (bs : List ℕ) → list_all is_in_line bs ≡ true → list_all is_clean (words_of bs) ≡ true
words_clean [] h = refl
words_clean (b ∷ bs) h = let p = both (is_in_line b) (list_all is_in_line bs) h in words_by b bs (b == 32) refl p.0 (words_clean bs p.1)

named_clean : (key name bs : List ℕ) → is_clean key ≡ true → is_clean name ≡ true → list_all is_in_line bs ≡ true → is_line (key ∷ name ∷ words_of bs) ≡ true
named_clean key name bs a b c = all_of (is_clean key) (list_all is_clean (name ∷ words_of bs)) a (all_of (is_clean name) (list_all is_clean (words_of bs)) b (words_clean bs c))

given_clean : (g : GivenOf) → is_given g ≡ true → is_line (given_words g) ≡ true
given_clean g h =
    let p = both (is_name g.name) (is_value g.value) h in
    named_clean (codes "const") g.name (value_text g.value) (plain (codes "const") refl) (name_clean g.name p.0) (value_in_line g.value p.1)

function_clean : (f : FunctionOf) → is_function f ≡ true → is_line (function_words f) ≡ true
function_clean f h =
    let h1 = both (is_name f.name) _ h in
    let h2 = both (list_all is_entry f.entries) _ h1.1 in
    let h3 = both (is_value f.default) (are_entries None f.default f.entries) h2.1 in
    named_clean (codes "function") f.name (table_text f.entries f.default) (plain (codes "function") refl) (name_clean f.name h1.0) (opened_in_line (entries_text f.entries f.default) (entries_in_line f.entries f.default h2.0 h3.0))

interp_clean : (i : Option InterpOf) → is_interp i ≡ true → list_all is_line (interp_lines i) ≡ true
interp_clean None h = one_line (codes "no" ∷ codes "interp" ∷ []) (pair (codes "no") (codes "interp") (plain (codes "no") refl) (plain (codes "interp") refl))
interp_clean (Some i) h =
    let p = both (list_all is_given i.constants) (list_all is_function i.functions) h in
    all_of (is_line (codes "interp" ∷ [])) (list_all is_line (map given_words i.constants ++ map function_words i.functions)) (lone (codes "interp") (plain (codes "interp") refl))
    (all_append is_line (map given_words i.constants) (map function_words i.functions) (all_map is_line is_given given_words given_clean i.constants p.0) (all_map is_line is_function function_words function_clean i.functions p.1))

pub lines_clean : (c : CertOf) → IsSpellable c → list_all is_line (lines_of c) ≡ true
lines_clean c h =
    let p = both (is_interp c.interp) _ h in
    let q = both (list_all is_name c.retained) (list_all is_section c.sections) p.1 in
    let front : List (List (List ℕ)) = interp_lines c.interp in
    let names : List (List (List ℕ)) = map retain_words c.retained in
    let places : List (List (List ℕ)) = flat_map section_lines c.sections in
    all_of (is_line version_words) _ (pair (codes "bg-cert") (codes "1") (plain (codes "bg-cert") refl) (plain (codes "1") refl))
    (all_append is_line (front ++ names ++ places) (end_words ∷ [])
    (all_append is_line (front ++ names) places
    (all_append is_line front names (interp_clean c.interp p.0)
    (all_map is_line is_name retain_words (λ name k. pair (codes "retain") name (plain (codes "retain") refl) (name_clean name k)) c.retained q.0))
    (all_flat is_line is_section section_lines section_clean c.sections q.1))
    (one_line end_words (lone (codes "end") (plain (codes "end") refl))))

pub version_clean : (z : ℤ) → fits z ≡ true → is_line (codes "bg-cert" ∷ signed_decimal z ∷ []) ≡ true
version_clean z h = pair (codes "bg-cert") (signed_decimal z) (plain (codes "bg-cert") refl) (signed_clean z h)
