-- A text has one list of tokens, or one refusal, and not both.
use Rattle.std.proofs.Common.{◌≡◌, ◌≢◌, ℕ, ◌≤◌, List, [], ◌∷◌, ◌++◌, length, Bool, true, false, Option, Some, None, refl, sym, ap, ◌∙◌, subst, arith, take, drop}
use Rattle.std.proofs.lemmas.List.{take_at, drop_at}
use Rattle.std.proofs.Props.{props}
use Rattle.std.proofs.lemmas.Bool.{eqb-true, and_parts}
use Rattle.std.specs.Prelude.{◌==◌, codes}
use Rattle.bg_base.specs.declared.pos.Pos.{Pos}
use Rattle.bg_text.specs.declared.token.Kind.{Kind}
use Rattle.bg_text.specs.Tokens.{Tok}
use Rattle.bg_text.specs.Pieces.{Piece, Layout, Token, Reserved, TooBig, piece_of, is_space, is_digit, is_ident, is_closed, when, or_else}
use Rattle.bg_text.specs.Text.{IsPiece, IsLongest, Cut, Have, HaveBy, Text, after_bytes, after_pieces, starts_ident, begins_ident, start, is_number, Fault, BadByte, OpenComment, NumberTooBig, Unsupported, Bad, Stands, Refused, opens_comment}

same_front : (p q a b : List ℕ) → p ++ a ≡ q ++ b → length p ≡ length q → p ≡ q
same_front p q a b h e = sym (take_at p a (length p) refl) ∙ ap (take (length p)) h ∙ take_at q b (length p) (sym e)

same_rest : (p q a b : List ℕ) → p ++ a ≡ q ++ b → length p ≡ length q → a ≡ b
same_rest p q a b h e = sym (drop_at p a (length p) refl) ∙ ap (drop (length p)) h ∙ drop_at q b (length p) (sym e)

no_piece : (p after : List ℕ) → [] ≡ p ++ after → IsPiece p → ⊥
no_piece [] after h i = absurd (let e : None ≡ Some i.0 = i.1 in cc)
no_piece (b ∷ p) after h i = absurd cc

-- two longest pieces at one place are one
pub one_longest : (p q a b bytes : List ℕ) → bytes ≡ p ++ a → bytes ≡ q ++ b → IsPiece p → IsPiece q → IsLongest p bytes → IsLongest q bytes → (p ≡ q) × (a ≡ b)
one_longest p q a b bytes e f i j l m =
    let le : length p ≤ length q = m p a e i in
    let ge : length q ≤ length p = l q b f j in
    let same : length p ≡ length q = omega (arith, le, ge) in
    let both : p ++ a ≡ q ++ b = sym e ∙ f in
    (same_front p q a b both same, same_rest p q a b both same)

-- a whole text is cut in one way
one_cut : (ps qs : List (List ℕ)) (bytes : List ℕ) → Cut ps bytes [] → Cut qs bytes [] → ps ≡ qs
one_cut [] [] bytes h k = refl
one_cut [] (q ∷ qs) bytes h k = absurd (no_piece q k.0 (sym h ∙ k.1) k.2)
one_cut (p ∷ ps) [] bytes h k = absurd (no_piece p h.0 (sym k ∙ h.1) h.2)
one_cut (p ∷ ps) (q ∷ qs) bytes h k =
    let same = one_longest p q h.0 k.0 bytes h.1 k.1 h.2 k.2 h.3 k.3 in
    let more = one_cut ps qs h.0 h.4 (subst (λ r. Cut qs r []) (sym same.1) k.4) in
    ap (λ x. x ∷ ps) same.0 ∙ ap (λ xs. q ∷ xs) more

token : (k : Kind) (text : List ℕ) (at : Pos) → piece_of text ≡ Some (Token k) → Tok
token k text at h = record { kind = k; text = text; pos = at; is_token = h }

piece_fact : (k : Kind) (text : List ℕ) → IsProp (piece_of text ≡ Some (Token k))
piece_fact k text = hlevel props

-- two tokens of one kind and text at one position are equal: that the text is of the kind is one fact
made_same : (k j : Kind) (p q : List ℕ) (a b : Pos) (h : piece_of p ≡ Some (Token k)) (i : piece_of q ≡ Some (Token j)) → k ≡ j → p ≡ q → a ≡ b → token k p a h ≡ token j q b i
made_same k j p q a b h i e f g =
    subst (λ (b : Pos). token k p a h ≡ token j q b i) g
    (subst (λ (q : List ℕ). (i : piece_of q ≡ Some (Token j)) → token k p a h ≡ token j q a i) f
    (subst (λ (j : Kind). (i : piece_of p ≡ Some (Token j)) → token k p a h ≡ token j p a i) e (λ i. ap (token k p a) (piece_fact k p h i))) i)

pub same_token : (t u : Tok) → t.kind ≡ u.kind → t.text ≡ u.text → t.pos ≡ u.pos → t ≡ u
unfolding token
same_token t u e f g = made_same t.kind u.kind t.text u.text t.pos u.pos t.is_token u.is_token e f g

one_by : (at : Pos) (p : List ℕ) (ident : Bool) (o : Option Piece) (More : List Tok → Type 0) → ((ts us : List Tok) → More ts → More us → ts ≡ us) → (ts us : List Tok) → HaveBy at p ident o More ts → HaveBy at p ident o More us → ts ≡ us
one_by at p ident (Some Layout) More one ts us h k = one ts us h k
one_by at p ident (Some (Token c)) More one ts us h k =
    let same : h.0 ≡ k.0 = same_token h.0 k.0 (h.3 ∙ sym k.3) (h.4 ∙ sym k.4) (h.5 ∙ sym k.5) in
    h.2 ∙ ap (λ t. t ∷ h.1) same ∙ ap (λ l. k.0 ∷ l) (one h.1 k.1 h.7 k.7) ∙ sym k.2
one_by at p ident (Some (Reserved name)) More one ts us h k = absurd h
one_by at p ident (Some TooBig) More one ts us h k = absurd h
one_by at p ident None More one ts us h k = absurd h

one_have : (at : Pos) (ps : List (List ℕ)) (rest : List ℕ) (ts us : List Tok) → Have at ps rest ts → Have at ps rest us → ts ≡ us
one_have at [] rest ts us h k = h ∙ sym k
one_have at (p ∷ ps) rest ts us h k = one_by at p (starts_ident ps rest) (piece_of p) (Have (after_bytes p at) ps rest) (λ ts us h k. one_have (after_bytes p at) ps rest ts us h k) ts us h k

-- a text has one list of tokens
pub one_text : (bytes : List ℕ) (ts us : List Tok) → Text bytes ts → Text bytes us → ts ≡ us
one_text bytes ts us h k = one_have start h.0 [] ts us h.2 (subst (λ ps. Have start ps [] us) (sym (one_cut h.0 k.0 bytes h.1 k.1)) k.2)

-- ---- refusals

-- a piece that stands in a token list
Fine : Option Piece → Bool → Type 0
Fine (Some Layout) ident = Unit {0}
Fine (Some (Token k)) ident = is_number k ≡ true → ident ≡ false
Fine (Some (Reserved name)) ident = ⊥
Fine (Some TooBig) ident = ⊥
Fine None ident = ⊥

fine_by : (at : Pos) (p : List ℕ) (ident : Bool) (o : Option Piece) (More : List Tok → Type 0) (ts : List Tok) → HaveBy at p ident o More ts → Fine o ident
unfolding Fine
fine_by at p ident (Some Layout) More ts h = tt
fine_by at p ident (Some (Token k)) More ts h = h.6
fine_by at p ident (Some (Reserved name)) More ts h = h
fine_by at p ident (Some TooBig) More ts h = h
fine_by at p ident None More ts h = h

fine_not_bad : (o : Option Piece) (after : List ℕ) (fault : Fault) → Fine o (begins_ident after) → Bad o after fault → ⊥
unfolding Fine
fine_not_bad (Some Layout) after fault f b = b
fine_not_bad (Some (Token k)) after fault f b = let e : true ≡ false = sym b.1 ∙ f b.0 in absurd cc
fine_not_bad (Some (Reserved name)) after fault f b = f
fine_not_bad (Some TooBig) after fault f b = f
fine_not_bad None after fault f b = f

bad_piece : (p after : List ℕ) (fault : Fault) (o : Option Piece) → piece_of p ≡ o → Bad o after fault → IsPiece p
bad_piece p after fault (Some x) e b = (x, e)
bad_piece p after fault None e b = absurd b

one_bad : (o : Option Piece) (after : List ℕ) (f g : Fault) → Bad o after f → Bad o after g → f ≡ g
one_bad (Some Layout) after f g b c = absurd b
one_bad (Some (Token k)) after f g b c = b.2 ∙ sym c.2
one_bad (Some (Reserved name)) after f g b c = b ∙ sym c
one_bad (Some TooBig) after f g b c = b ∙ sym c
one_bad None after f g b c = absurd b

slash_piece : piece_of (47 ∷ []) ≡ Some (Reserved (codes "/"))
unfolding is_space is_digit is_ident
slash_piece = refl

star_piece : (q : List ℕ) → piece_of (47 ∷ 42 ∷ q) ≡ or_else (when (is_closed 0 0 q) Layout) None
unfolding is_space is_digit is_ident
star_piece q = refl

layout_or_none : (c : Bool) (o : Option Piece) (ident : Bool) → o ≡ or_else (when c Layout) None → Fine o ident → o ≡ Some Layout
unfolding Fine
layout_or_none true o ident e f = e
layout_or_none false o ident e f = absurd (subst (λ o. Fine o ident) e f)

-- where a comment opens, a fine piece is layout
comment_piece : (bytes p after : List ℕ) (ident : Bool) → opens_comment bytes ≡ true → bytes ≡ p ++ after → Fine (piece_of p) ident → piece_of p ≡ Some Layout
unfolding Fine
comment_piece bytes [] after ident o e f = absurd f
comment_piece [] (x ∷ p) after ident o e f = absurd cc
comment_piece (b ∷ []) (x ∷ p) after ident o e f = absurd cc
comment_piece (b ∷ c ∷ bs) (x ∷ []) after ident o e f =
    let first : x ≡ b = cc in
    let is : x ≡ 47 = first ∙ eqb-true b 47 (and_parts (b == 47) (c == 42) o).0 in
    absurd (subst (λ o. Fine o ident) (ap (λ n. piece_of (n ∷ [])) is ∙ slash_piece) f)
comment_piece (b ∷ c ∷ bs) (x ∷ y ∷ q) after ident o e f =
    let first : x ≡ b = cc in
    let second : y ≡ c = cc in
    let is : x ≡ 47 = first ∙ eqb-true b 47 (and_parts (b == 47) (c == 42) o).0 in
    let then : y ≡ 42 = second ∙ eqb-true c 42 (and_parts (b == 47) (c == 42) o).1 in
    layout_or_none (is_closed 0 0 q) (piece_of (x ∷ y ∷ q)) ident (ap (λ n. piece_of (n ∷ y ∷ q)) is ∙ (ap (λ n. piece_of (47 ∷ n ∷ q)) then ∙ star_piece q)) f

slash_is_piece : (bytes : List ℕ) → opens_comment bytes ≡ true → (q : List ℕ) × (r : List ℕ) × (bytes ≡ q ++ r) × IsPiece q
slash_is_piece [] h = absurd cc
slash_is_piece (b ∷ []) h = absurd cc
slash_is_piece (b ∷ c ∷ bs) h =
    (47 ∷ [], c ∷ bs, ap (λ n. n ∷ c ∷ bs) (eqb-true b 47 (and_parts (b == 47) (c == 42) h).0), (Reserved (codes "/"), slash_piece))

-- a longest piece that stands in no token list
record Worst (bytes : List ℕ) (fault : Fault) : Type 0 where
  closed : (opens_comment bytes ≡ true) → (q : List ℕ) × (r : List ℕ) × (bytes ≡ q ++ r) × (piece_of q ≡ Some Layout)
  p : List ℕ
  after : List ℕ
  cut : bytes ≡ p ++ after
  longest : IsLongest p bytes
  bad : Bad (piece_of p) after fault

data Three (bytes : List ℕ) (fault : Fault) : Type 0 where
  Opens : fault ≡ OpenComment → (opens_comment bytes ≡ true) → ((q r : List ℕ) → bytes ≡ q ++ r → piece_of q ≢ Some Layout) → Three bytes fault
  Nothing : fault ≡ BadByte → bytes ≢ [] → ((q r : List ℕ) → bytes ≡ q ++ r → IsPiece q → ⊥) → Three bytes fault
  Wrong : Worst bytes fault → Three bytes fault

three : (bytes : List ℕ) (fault : Fault) → Stands bytes fault → Three bytes fault
three bytes OpenComment h = Opens refl h.0 h.1
three bytes BadByte h = Nothing refl h.0 h.1
three bytes NumberTooBig h = Wrong (record { closed = h.0; p = h.1.0; after = h.1.1; cut = h.1.2; longest = h.1.3; bad = h.1.4 })
three bytes (Unsupported name) h = Wrong (record { closed = h.0; p = h.1.0; after = h.1.1; cut = h.1.2; longest = h.1.3; bad = h.1.4 })

-- where a fault stands, no fine piece stands
not_fine : (bytes p after : List ℕ) (fault : Fault) → bytes ≡ p ++ after → IsPiece p → IsLongest p bytes → Fine (piece_of p) (begins_ident after) → Three bytes fault → ⊥
not_fine bytes p after fault e i l f (Opens s o never) = never p after e (comment_piece bytes p after (begins_ident after) o e f)
not_fine bytes p after fault e i l f (Nothing s n never) = never p after e i
not_fine bytes p after fault e i l f (Wrong w) =
    let same = one_longest p w.p after w.after bytes e w.cut i (bad_piece w.p w.after fault (piece_of w.p) refl w.bad) l w.longest in
    let bad : Bad (piece_of p) after fault = subst (λ a. Bad (piece_of p) a fault) (sym same.1) (subst (λ p. Bad (piece_of p) w.after fault) (sym same.0) w.bad) in
    fine_not_bad (piece_of p) after fault f bad

opens_not_wrong : (bytes : List ℕ) (f : Fault) → opens_comment bytes ≡ true → ((q r : List ℕ) → bytes ≡ q ++ r → piece_of q ≢ Some Layout) → Worst bytes f → ⊥
opens_not_wrong bytes f o never w = let c = w.closed o in never c.0 c.1 c.2 c.3

opens_not_nothing : (bytes : List ℕ) → opens_comment bytes ≡ true → ((q r : List ℕ) → bytes ≡ q ++ r → IsPiece q → ⊥) → ⊥
opens_not_nothing bytes o never = let s = slash_is_piece bytes o in never s.0 s.1 s.2 s.3

nothing_not_wrong : (bytes : List ℕ) (f : Fault) → ((q r : List ℕ) → bytes ≡ q ++ r → IsPiece q → ⊥) → Worst bytes f → ⊥
nothing_not_wrong bytes f never w = never w.p w.after w.cut (bad_piece w.p w.after f (piece_of w.p) refl w.bad)

-- one fault stands at one place
one_fault : (bytes : List ℕ) (f g : Fault) → Three bytes f → Three bytes g → f ≡ g
one_fault bytes f g (Opens s o never) (Opens t p also) = s ∙ sym t
one_fault bytes f g (Opens s o never) (Nothing t n none) = absurd (opens_not_nothing bytes o none)
one_fault bytes f g (Opens s o never) (Wrong w) = absurd (opens_not_wrong bytes g o never w)
one_fault bytes f g (Nothing s n none) (Opens t o never) = absurd (opens_not_nothing bytes o none)
one_fault bytes f g (Nothing s n none) (Nothing t m none') = s ∙ sym t
one_fault bytes f g (Nothing s n none) (Wrong w) = absurd (nothing_not_wrong bytes g none w)
one_fault bytes f g (Wrong w) (Opens t o never) = absurd (opens_not_wrong bytes f o never w)
one_fault bytes f g (Wrong w) (Nothing t n none) = absurd (nothing_not_wrong bytes f none w)
one_fault bytes f g (Wrong v) (Wrong w) =
    let same = one_longest v.p w.p v.after w.after bytes v.cut w.cut (bad_piece v.p v.after f (piece_of v.p) refl v.bad) (bad_piece w.p w.after g (piece_of w.p) refl w.bad) v.longest w.longest in
    let bad : Bad (piece_of v.p) v.after g = subst (λ a. Bad (piece_of v.p) a g) (sym same.1) (subst (λ p. Bad (piece_of p) w.after g) (sym same.0) w.bad) in
    one_bad (piece_of v.p) v.after f g v.bad bad

next_ident : (ps : List (List ℕ)) (after rest : List ℕ) → Cut ps after rest → starts_ident ps rest ≡ begins_ident after
next_ident [] after rest h = ap begins_ident (sym h)
next_ident ([] ∷ ps) after rest h = absurd (let e : None ≡ Some h.2.0 = h.2.1 in cc)
next_ident ((b ∷ p) ∷ ps) after rest h = ap begins_ident (sym h.1)

-- the first of some pieces that have tokens is fine
first_fine : (at : Pos) (p : List ℕ) (ps : List (List ℕ)) (bytes rest : List ℕ) (ts : List Tok) → (h : Cut (p ∷ ps) bytes rest) → Have at (p ∷ ps) rest ts → Fine (piece_of p) (begins_ident h.0)
first_fine at p ps bytes rest ts h k =
    subst (Fine (piece_of p)) (next_ident ps h.0 rest h.4) (fine_by at p (starts_ident ps rest) (piece_of p) (Have (after_bytes p at) ps rest) ts k)

fault_alone : (at : Pos) (p : List ℕ) (ps : List (List ℕ)) (bytes rest : List ℕ) (ts : List Tok) (fault : Fault) → (h : Cut (p ∷ ps) bytes rest) → Have at (p ∷ ps) rest ts → Stands bytes fault → ⊥
fault_alone at p ps bytes rest ts fault h k s =
    not_fine bytes p h.0 fault h.1 h.2 h.3 (first_fine at p ps bytes rest ts h k) (three bytes fault s)

none_at_end : (fault : Fault) → Three [] fault → ⊥
none_at_end fault (Opens s o never) = absurd cc
none_at_end fault (Nothing s n never) = n refl
none_at_end fault (Wrong w) = no_piece w.p w.after w.cut (bad_piece w.p w.after fault (piece_of w.p) refl w.bad)

tail : (at : Pos) (p : List ℕ) (ident : Bool) (o : Option Piece) (More : List Tok → Type 0) (ts : List Tok) → HaveBy at p ident o More ts → (us : List Tok) × More us
tail at p ident (Some Layout) More ts h = (ts, h)
tail at p ident (Some (Token k)) More ts h = (h.1, h.7)
tail at p ident (Some (Reserved name)) More ts h = absurd h
tail at p ident (Some TooBig) More ts h = absurd h
tail at p ident None More ts h = absurd h

-- a text that is refused holds no tokens
none : (at : Pos) (ps qs : List (List ℕ)) (bytes rest : List ℕ) (ts us : List Tok) (fault : Fault) → Cut ps bytes rest → Have at ps rest ts → Stands rest fault → Cut qs bytes [] → Have at qs [] us → ⊥
none at [] [] bytes rest ts us fault c h s d k = none_at_end fault (three [] fault (subst (λ l. Stands l fault) (sym c ∙ d) s))
none at [] (q ∷ qs) bytes rest ts us fault c h s d k = fault_alone at q qs bytes [] us fault d k (subst (λ l. Stands l fault) (sym c) s)
none at (p ∷ ps) [] bytes rest ts us fault c h s d k = no_piece p c.0 (sym d ∙ c.1) c.2
none at (p ∷ ps) (q ∷ qs) bytes rest ts us fault c h s d k =
    let same = one_longest p q c.0 d.0 bytes c.1 d.1 c.2 d.2 c.3 d.3 in
    let more = tail at p (starts_ident ps rest) (piece_of p) (Have (after_bytes p at) ps rest) ts h in
    let others = tail at q (starts_ident qs []) (piece_of q) (Have (after_bytes q at) qs []) us k in
    none (after_bytes p at) ps qs c.0 rest more.0 others.0 fault c.4 more.1 s (subst (λ l. Cut qs l []) (sym same.1) d.4)
    (subst (λ p. Have (after_bytes p at) qs [] others.0) (sym same.0) others.1)

pub refused_holds_none : (bytes : List ℕ) (at : Pos) (fault : Fault) (ts : List Tok) → Refused bytes at fault → Text bytes ts → ⊥
refused_holds_none bytes at fault ts r t = none start r.0 t.0 bytes r.1 r.2 ts fault r.3 r.4 r.6 t.1 t.2

-- a text has one refusal
one : (at : Pos) (ps qs : List (List ℕ)) (bytes rest left : List ℕ) (ts us : List Tok) (f g : Fault) → Cut ps bytes rest → Have at ps rest ts → Stands rest f → Cut qs bytes left → Have at qs left us → Stands left g → (after_pieces ps at ≡ after_pieces qs at) × (f ≡ g)
one at [] [] bytes rest left ts us f g c h s d k t =
    (refl, one_fault bytes f g (three bytes f (subst (λ l. Stands l f) (sym c) s)) (three bytes g (subst (λ l. Stands l g) (sym d) t)))
one at [] (q ∷ qs) bytes rest left ts us f g c h s d k t = absurd (fault_alone at q qs bytes left us f d k (subst (λ l. Stands l f) (sym c) s))
one at (p ∷ ps) [] bytes rest left ts us f g c h s d k t = absurd (fault_alone at p ps bytes rest ts g c h (subst (λ l. Stands l g) (sym d) t))
one at (p ∷ ps) (q ∷ qs) bytes rest left ts us f g c h s d k t =
    let same = one_longest p q c.0 d.0 bytes c.1 d.1 c.2 d.2 c.3 d.3 in
    let more = tail at p (starts_ident ps rest) (piece_of p) (Have (after_bytes p at) ps rest) ts h in
    let others = tail at q (starts_ident qs left) (piece_of q) (Have (after_bytes q at) qs left) us k in
    let r = one (after_bytes p at) ps qs c.0 rest left more.0 others.0 f g c.4 more.1 s (subst (λ l. Cut qs l left) (sym same.1) d.4)
    (subst (λ p. Have (after_bytes p at) qs left others.0) (sym same.0) others.1) t in
    (r.0 ∙ ap (λ p. after_pieces qs (after_bytes p at)) same.0, r.1)

pub one_refusal : (bytes : List ℕ) (a b : Pos) (f g : Fault) → Refused bytes a f → Refused bytes b g → (a ≡ b) × (f ≡ g)
one_refusal bytes a b f g r q =
    let o = one start r.0 q.0 bytes r.1 q.1 r.2 q.2 f g r.3 r.4 r.6 q.3 q.4 q.6 in
    (r.5 ∙ o.0 ∙ sym q.5, o.1)
