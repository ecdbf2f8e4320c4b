-- One piece more.
use Rattle.std.proofs.Common.{◌≡◌, ℕ, List, [], ◌∷◌, ◌++◌, Bool, Option, Some, None, refl, sym, ap, ◌∙◌, subst, append-nil}
use Rattle.bg_base.specs.declared.pos.Pos.{Pos}
use Rattle.bg_text.specs.declared.token.Kind.{Kind}
use Rattle.bg_text.specs.Tokens.{Tok}
use Rattle.bg_text.specs.Pieces.{Piece, Layout, Token, Reserved, TooBig, piece_of}
use Rattle.bg_text.specs.Text.{IsPiece, IsLongest, Cut, Have, HaveBy, Text, Fault, Stands, Refused, after_byte, after_bytes, after_pieces, begins_ident, starts_ident, start}
use Rattle.bg_lex.specs.Fronts.{Found, piece_for, EndsWell, Adds}

cut_more : (ps : List (List ℕ)) (bytes rest p after : List ℕ) → Cut ps bytes rest → rest ≡ p ++ after → IsPiece p → IsLongest p rest → Cut (ps ++ p ∷ []) bytes after
cut_more [] bytes rest p after h e i l = (after, h ∙ e, i, subst (IsLongest p) (sym h) l, refl)
cut_more (q ∷ ps) bytes rest p after h e i l = (h.0, h.1, h.2, h.3, cut_more ps h.0 rest p after h.4 e i l)

have_on : (at : Pos) (q : List ℕ) (a b : Bool) (o : Option Piece) (More Most : List Tok → Type 0) (extra ts : List Tok) → a ≡ b → ((us : List Tok) → More us → Most (us ++ extra)) → HaveBy at q a o More ts → HaveBy at q b o Most (ts ++ extra)
have_on at q a b (Some Layout) More Most extra ts e m h = m ts h
have_on at q a b (Some (Token k)) More Most extra ts e m h = (h.0, h.1 ++ extra, ap (λ l. l ++ extra) h.2, h.3, h.4, h.5, λ n. sym e ∙ h.6 n, m h.1 h.7)
have_on at q a b (Some (Reserved name)) More Most extra ts e m h = h
have_on at q a b (Some TooBig) More Most extra ts e m h = h
have_on at q a b None More Most extra ts e m h = h

front_ident : (p after rest : List ℕ) → rest ≡ p ++ after → IsPiece p → begins_ident rest ≡ begins_ident p
front_ident [] after rest e i = absurd (let c : None ≡ Some i.0 = i.1 in cc)
front_ident (b ∷ p) after rest e i = rw e refl

next_ident : (ps : List (List ℕ)) (p after rest : List ℕ) → rest ≡ p ++ after → IsPiece p → starts_ident ps rest ≡ starts_ident (ps ++ p ∷ []) after
next_ident [] p after rest e i = front_ident p after rest e i
next_ident (q ∷ ps) p after rest e i = refl

-- what a last piece adds
have_more : (ps : List (List ℕ)) (at : Pos) (rest p after : List ℕ) (ts extra : List Tok) → rest ≡ p ++ after → IsPiece p → Have at ps rest ts → Have (after_pieces ps at) (p ∷ []) after extra → Have at (ps ++ p ∷ []) after (ts ++ extra)
have_more [] at rest p after ts extra e i h k = rw h k
have_more (q ∷ ps) at rest p after ts extra e i h k =
    have_on at q (starts_ident ps rest) (starts_ident (ps ++ p ∷ []) after) (piece_of q) (Have (after_bytes q at) ps rest) (Have (after_bytes q at) (ps ++ p ∷ []) after) extra ts (next_ident ps p after rest e i)
    (λ us m. have_more ps (after_bytes q at) rest p after us extra e i m k) h

after_more : (ps : List (List ℕ)) (p : List ℕ) (at : Pos) → after_pieces (ps ++ p ∷ []) at ≡ after_bytes p (after_pieces ps at)
after_more [] p at = refl
after_more (q ∷ ps) p at = after_more ps p (after_bytes q at)

after_two : (p q : List ℕ) (at : Pos) → after_bytes (p ++ q) at ≡ after_bytes q (after_bytes p at)
after_two [] q at = refl
after_two (b ∷ p) q at = after_two p q (after_byte b at)

after_cut : (ps : List (List ℕ)) (bytes : List ℕ) (at : Pos) → Cut ps bytes [] → after_pieces ps at ≡ after_bytes bytes at
after_cut [] bytes at h = ap (λ l. after_bytes l at) (sym h)
after_cut (p ∷ ps) bytes at h = after_cut ps h.0 (after_bytes p at) h.4 ∙ (sym (after_two p h.0 at) ∙ ap (λ l. after_bytes l at) (sym h.1))

-- The bytes up to the rest are pieces that have these tokens, and the rest stands at this position.
pub record SoFar (bytes rest : List ℕ) (ts : List Tok) (at : Pos) : Type 0 where
  pub ps : List (List ℕ)
  pub cut : Cut ps bytes rest
  pub have : Have start ps rest ts
  pub place : at ≡ after_pieces ps start

pub at_start : (bytes : List ℕ) → SoFar bytes bytes [] start
at_start bytes = record { ps = []; cut = refl; have = refl; place = refl }

adds : (at : Pos) (p after : List ℕ) (o : Option Kind) (ts us : List Tok) → piece_of p ≡ Some (piece_for o) → EndsWell o after → Adds o at p ts us → (extra : List Tok) × (us ≡ ts ++ extra) × Have at (p ∷ []) after extra
adds at p after None ts us e w a = ([], a ∙ sym (append-nil ts), rw e refl)
adds at p after (Some k) ts us e w a = (a.0 ∷ [], a.4, rw e (a.0, [], refl, a.1, a.2, a.3, w, refl))

-- one piece more
pub so_far_more : (bytes rest : List ℕ) (ts us : List Tok) (at : Pos) (o : Option Kind) (n : ℕ) → SoFar bytes rest ts at → (f : Found rest o n) → Adds o at f.text ts us → SoFar bytes f.after us (after_bytes f.text at)
so_far_more bytes rest ts us at o n s f a =
    let more = adds at f.text f.after o ts us f.is_piece f.ends a in
    let piece : IsPiece f.text = (piece_for o, f.is_piece) in
    let have : Have start (s.ps ++ f.text ∷ []) f.after (ts ++ more.0) = have_more s.ps start rest f.text f.after ts more.0 f.cut piece s.have (subst (λ q. Have q (f.text ∷ []) f.after more.0) s.place more.2) in
    record {
      ps = s.ps ++ f.text ∷ [];
      cut = cut_more s.ps bytes rest f.text f.after s.cut f.cut piece f.longest;
      have = subst (Have start (s.ps ++ f.text ∷ []) f.after) (sym more.1) have;
      place = ap (after_bytes f.text) s.place ∙ sym (after_more s.ps f.text start);
    }

pub so_far_text : (bytes : List ℕ) (ts : List Tok) (at : Pos) → SoFar bytes [] ts at → Text bytes ts
so_far_text bytes ts at s = (s.ps, s.cut, s.have)

pub so_far_end : (bytes : List ℕ) (ts : List Tok) (at : Pos) → SoFar bytes [] ts at → at ≡ after_bytes bytes start
so_far_end bytes ts at s = s.place ∙ after_cut s.ps bytes start s.cut

pub so_far_refused : (bytes rest : List ℕ) (ts : List Tok) (at : Pos) (fault : Fault) → SoFar bytes rest ts at → Stands rest fault → Refused bytes at fault
so_far_refused bytes rest ts at fault s h = (s.ps, rest, ts, s.cut, s.have, s.place, h)
