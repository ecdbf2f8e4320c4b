-- A printed text holds tokens, and they are its words.
use Rattle.std.proofs.Common.{◌≡◌, ℕ, Bool, true, false, List, [], ◌∷◌, ◌++◌, map, refl, sym, ap, ◌∙◌, subst, Option, Some, None, append_assoc, append-nil}
use Rattle.bg_base.specs.declared.pos.Pos.{Pos}
use Rattle.bg_text.specs.declared.token.Kind.{Kind}
use Rattle.bg_text.specs.declared.token.Kind.TheVariants as kinds
use Rattle.bg_text.specs.Tokens.{Tok}
use Rattle.bg_text.specs.Pieces.{Layout, Token, piece_of, is_space, is_digit, is_ident}
use Rattle.bg_text.specs.Text.{Cut, Have, HaveBy, Text, after_bytes, begins_ident, starts_ident, is_number, start}
use Rattle.bg_text.specs.Marks as m
use Rattle.bg_text.specs.Marks.{Mark, sign, unplaced, Has, Fits, Words}
use Rattle.bg_text.specs.Declarations.{decl_marks, SpellsTree}
use Rattle.bg_text.specs.Trees.{Decl}
use Rattle.bg_print.specs.Docs.{Doc, Empty, Say, Called, Quote, Space, Newline, ◌⨾◌, each, text, word}
use Rattle.bg_print.specs.Printed.{decl_doc, printed}
use Rattle.bg_print.proofs.Longest.{Ends, longest_from, space_ends, newline_ends}
use Rattle.bg_print.proofs.Marks.{marks, decls_have}
use Rattle.bg_print.proofs.Spaced.{First, Other, not_word, first, ends, MayFollow, IsSpaced, decls_spaced}
use Rattle.bg_print.proofs.Spoken.{Begins, Sayable, said, said_ends, begins_said, words_begin, name_begins, names_end, string_is, strings_end, strings_begin, number_is}

-- the pieces of what is printed, in front of these
abbrev pieces : Doc → List (List ℕ) → List (List ℕ)
pieces Empty ps = ps
pieces (Say k) ps = word k ∷ ps
pieces (Called x) ps = x ∷ ps
pieces (Quote x) ps = x ∷ ps
pieces Space ps = (32 ∷ []) ∷ ps
pieces Newline ps = (10 ∷ []) ∷ ps
pieces (a ⨾ b) ps = pieces a (pieces b ps)

-- names are names, strings are strings and numbers are ones of the language
abbrev IsValid : Doc → Type 0
IsValid Empty = Unit {0}
IsValid (Say k) = Sayable k
IsValid (Called x) = piece_of x ≡ Some (Token kinds.Name)
IsValid (Quote x) = piece_of x ≡ Some (Token kinds.Quoted)
IsValid Space = Unit {0}
IsValid Newline = Unit {0}
IsValid (a ⨾ b) = IsValid a × IsValid b

-- the bytes are cut into these pieces, which have tokens that these marks fit, wherever they stand
record Reads (ps : List (List ℕ)) (bytes : List ℕ) (ms : List Mark) : Type 0 where
  cuts : Cut ps bytes []
  holds : (pos : Pos) → (us : List Tok) × Have pos ps [] us × Fits us ms

starts_is : (ps : List (List ℕ)) (rest : List ℕ) → Cut ps rest [] → starts_ident ps [] ≡ begins_ident rest
starts_is [] rest c = ap begins_ident (sym c)
starts_is ([] ∷ ps) rest c = absurd (let e : None ≡ Some c.2.0 = c.2.1 in cc)
starts_is ((b ∷ p) ∷ ps) rest c = ap begins_ident (sym c.1)

have_layout : (pos : Pos) (p : List ℕ) (ident : Bool) (More : List Tok → Type 0) (us : List Tok) → piece_of p ≡ Some Layout → More us → HaveBy pos p ident (piece_of p) More us
have_layout pos p ident More us h k = subst (λ o. HaveBy pos p ident o More us) (sym h) k

have_token : (pos : Pos) (p : List ℕ) (ident : Bool) (More : List Tok → Type 0) (k : Kind) (us : List Tok) (h : piece_of p ≡ Some (Token k)) → (is_number k ≡ true → ident ≡ false) → More us
    → HaveBy pos p ident (piece_of p) More (record { kind = k; text = p; pos = pos; is_token = h } ∷ us)
have_token pos p ident More k us h n l =
    subst (λ o. HaveBy pos p ident o More (record { kind = k; text = p; pos = pos; is_token = h } ∷ us)) (sym h)
    (record { kind = k; text = p; pos = pos; is_token = h }, us, refl, refl, refl, refl, n, l)

one_layout : (p rest : List ℕ) (ps : List (List ℕ)) (ms : List Mark) → piece_of p ≡ Some Layout → Ends p rest → Reads ps rest ms → Reads (p ∷ ps) (p ++ rest) ms
one_layout p rest ps ms h e r = record {
  cuts = (rest, refl, (Layout, h), longest_from p rest e, r.cuts);
  holds = λ pos. (let u = r.holds (after_bytes p pos) in (u.0, have_layout pos p (starts_ident ps []) (Have (after_bytes p pos) ps []) u.0 h u.1, u.2));
}

one_token : (p rest : List ℕ) (ps : List (List ℕ)) (ms : List Mark) (k : Kind) (o : Option (List ℕ)) → piece_of p ≡ Some (Token k) → Has p o → Ends p rest → (is_number k ≡ true → begins_ident rest ≡ false)
    → Reads ps rest ms → Reads (p ∷ ps) (p ++ rest) (record { kind = k; text = o; pos = None } ∷ ms)
one_token p rest ps ms k o h q e n r = record {
  cuts = (rest, refl, (Token k, h), longest_from p rest e, r.cuts);
  holds = λ pos. (let u = r.holds (after_bytes p pos) in (
    record { kind = k; text = p; pos = pos; is_token = h } ∷ u.0,
    have_token pos p (starts_ident ps []) (Have (after_bytes p pos) ps []) k u.0 h (λ i. starts_is ps rest r.cuts ∙ n i) u.1,
    ((refl, q, tt), u.2),
  ));
}

number_follows : (k : Kind) (s : First) → is_number k ≡ true → MayFollow (ends k) s → not_word s ≡ true
number_follows (kinds.Number z) s i h = h
number_follows _ s i h = cc

begins_doc : (d : Doc) (s : First) (rest : List ℕ) → IsValid d → IsSpaced d s → Begins rest s → Begins (text d ++ rest) (first d s)
unfolding is_ident is_digit
begins_doc Empty s rest v h b = b
begins_doc (Say k) s rest v h b = begins_said k s rest v h
begins_doc (Called x) s rest v h b = words_begin x rest (name_begins x v)
begins_doc (Quote x) s rest v h b = strings_begin x rest (string_is x v)
begins_doc Space s rest v h b = record { no_word = λ e. refl; no_tail = λ e. refl }
begins_doc Newline s rest v h b = record { no_word = λ e. refl; no_tail = λ e. refl }
begins_doc (a ⨾ b) s rest v h g =
    subst (λ l. Begins l (first a (first b s))) (sym (append_assoc (text a) (text b) rest))
    (begins_doc a (first b s) (text b ++ rest) v.0 h.0 (begins_doc b s rest v.1 h.1 g))

space_stops : (rest : List ℕ) → Ends (32 ∷ []) rest
unfolding Ends
space_stops rest c s t goes i = space_ends c s i

newline_stops : (rest : List ℕ) → Ends (10 ∷ []) rest
unfolding Ends
newline_stops rest c s t goes i = newline_ends c s i

space_is : piece_of (32 ∷ []) ≡ Some Layout
unfolding is_space
space_is = refl

newline_is : piece_of (10 ∷ []) ≡ Some Layout
unfolding is_space
newline_is = refl

reads : (d : Doc) (s : First) (rest : List ℕ) (ps : List (List ℕ)) (ms : List Mark) → IsValid d → IsSpaced d s → Begins rest s → Reads ps rest ms → Reads (pieces d ps) (text d ++ rest) (marks d ++ ms)
reads Empty s rest ps ms v h b r = r
reads (Say k) s rest ps ms v h b r = one_token (word k) rest ps ms k None (said k s v h) tt (said_ends k s rest v h b) (λ i. b.no_word (number_follows k s i h)) r
reads (Called x) s rest ps ms v h b r = one_token x rest ps ms kinds.Name (Some x) v refl (names_end x rest s v h b) (λ i. b.no_word h) r
reads (Quote x) s rest ps ms v h b r = one_token x rest ps ms kinds.Quoted (Some x) v refl (strings_end x rest (string_is x v)) (λ i. let e : false ≡ true = i in cc) r
reads Space s rest ps ms v h b r = one_layout (32 ∷ []) rest ps ms space_is (space_stops rest) r
reads Newline s rest ps ms v h b r = one_layout (10 ∷ []) rest ps ms newline_is (newline_stops rest) r
reads (a ⨾ b) s rest ps ms v h g r =
    subst (λ l. Reads (pieces a (pieces b ps)) l ((marks a ++ marks b) ++ ms)) (sym (append_assoc (text a) (text b) rest))
    (subst (λ l. Reads (pieces a (pieces b ps)) (text a ++ (text b ++ rest)) l) (sym (append_assoc (marks a) (marks b) ms))
    (reads a (first b s) (text b ++ rest) (pieces b ps) (marks b ++ ms) v.0 h.0 (begins_doc b s rest v.1 h.1 g) (reads b s rest ps ms v.1 h.1 g r)))

-- what tokens that fit say of what is printed
record Said (d : Doc) (ms : List Mark) : Type 0 where
  valid : IsValid d
  left : List Tok
  fits : Fits left ms

sayable_from : (k : Kind) (t : Tok) → t.kind ≡ k → Sayable k
sayable_from (kinds.Number z) t e = number_is t.text z (subst (λ k. piece_of t.text ≡ Some (Token k)) e t.is_token)
sayable_from _ t e = tt

text_from : (x : List ℕ) (k : Kind) (t : Tok) → t.kind ≡ k → t.text ≡ x → piece_of x ≡ Some (Token k)
text_from x k t e h = ap piece_of (sym h) ∙ t.is_token ∙ ap (λ c. Some (Token c)) e

valid_from : (d : Doc) (ts : List Tok) (ms : List Mark) → Fits ts (marks d ++ ms) → Said d ms
valid_from Empty ts ms f = record { valid = tt; left = ts; fits = f }
valid_from (Say k) [] ms f = absurd f
valid_from (Say k) (t ∷ ts) ms f = record { valid = sayable_from k t f.0.0; left = ts; fits = f.1 }
valid_from (Called x) [] ms f = absurd f
valid_from (Called x) (t ∷ ts) ms f = record { valid = text_from x kinds.Name t f.0.0 f.0.1; left = ts; fits = f.1 }
valid_from (Quote x) [] ms f = absurd f
valid_from (Quote x) (t ∷ ts) ms f = record { valid = text_from x kinds.Quoted t f.0.0 f.0.1; left = ts; fits = f.1 }
valid_from Space ts ms f = record { valid = tt; left = ts; fits = f }
valid_from Newline ts ms f = record { valid = tt; left = ts; fits = f }
valid_from (a ⨾ b) ts ms f =
    let va = valid_from a ts (marks b ++ ms) (subst (Fits ts) (append_assoc (marks a) (marks b) ms) f) in
    let vb = valid_from b va.left ms va.fits in
    record { valid = (va.valid, vb.valid); left = vb.left; fits = vb.fits }

nothing : Reads [] [] []
nothing = record { cuts = refl; holds = λ pos. ([], refl, tt) }

the_end : Begins [] Other
the_end = record { no_word = λ e. refl; no_tail = λ e. refl }

-- a tree that has a spelling is spelled by the tokens of its printed text
pub printed_reads : (ds : List Decl) (ts : List Tok) → SpellsTree ds ts → (us : List Tok) × Text (printed ds) us × SpellsTree ds us
printed_reads ds ts h =
    let d = each decl_doc ds in
    let e : marks d ++ [] ≡ map unplaced (m.each decl_marks ds) = append-nil (marks d) ∙ decls_have ds in
    let v = valid_from d ts [] (subst (Fits ts) (sym e) h.1) in
    let r = reads d Other [] [] [] v.valid (decls_spaced ds Other) the_end nothing in
    let u = r.holds start in
    (u.0, (pieces d [], subst (λ l. Cut (pieces d []) l []) (append-nil (text d)) r.cuts, u.1), (h.0, subst (Fits u.0) e u.2))
