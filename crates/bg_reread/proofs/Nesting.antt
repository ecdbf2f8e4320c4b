-- Tokens that spell a program are one with few brackets open, or open one too many.
use Rattle.std.proofs.Common.{◌≡◌, ◌⊎◌, inl, inr, ℕ, zero, suc, List, [], ◌∷◌, ◌++◌, Option, Some, None, refl, ap, ◌∙◌, subst}
use Rattle.bg_text.specs.Tokens.{Tok}
use Rattle.bg_text.specs.Trees.{Decl}
use Rattle.bg_text.specs.Marks.{each}
use Rattle.bg_text.specs.Declarations.{decl_marks, SpellsTree, SpellsTreeAt}
use Rattle.bg_text.specs.Brackets.{Turn, Opens, Shuts, Neither, turn, left_by, left}
use Rattle.bg_reader.specs.Told.{IsTooDeep}
use Rattle.bg_parse.specs.Programs.{IsProgram}
use Rattle.bg_reread.proofs.Even.{even_tokens}
use Rattle.bg_reread.proofs.EvenDecls.{decls_even}

-- the first bracket that is one too many
record Over (d : ℕ) (ts : List Tok) : Type 0 where
  front : List Tok
  bracket : Tok
  behind : List Tok
  cut : ts ≡ front ++ bracket ∷ behind
  opens : turn bracket.kind ≡ Opens
  full : left front d ≡ Some 0

behind_one : (t : Tok) (d e : ℕ) (ts : List Tok) → ((front : List Tok) → left (t ∷ front) d ≡ left front e) → Over e ts → Over d (t ∷ ts)
behind_one t d e ts step o = record { front = t ∷ o.front; bracket = o.bracket; behind = o.behind; cut = ap (λ l. t ∷ l) o.cut; opens = o.opens; full = step o.front ∙ o.full }

over : (ts : List Tok) (d : ℕ) → left ts d ≡ None → Over d ts
over [] d h = absurd (let c : Some d ≡ None = h in cc)
over (t ∷ ts) d h = by (turn t.kind) d refl h (over ts)
  where
    by : (w : Turn) (d : ℕ) → turn t.kind ≡ w → left_by w d (left ts) ≡ None → ((d : ℕ) → left ts d ≡ None → Over d ts) → Over d (t ∷ ts)
    by Opens zero e h more = record { front = []; bracket = t; behind = ts; cut = refl; opens = e; full = refl }
    by Opens (suc d) e h more = behind_one t (suc d) d ts (λ f. ap (λ w. left_by w (suc d) (left f)) e) (more d h)
    by Shuts d e h more = behind_one t d (suc d) ts (λ f. ap (λ w. left_by w d (left f)) e) (more (suc d) h)
    by Neither d e h more = behind_one t d d ts (λ f. ap (λ w. left_by w d (left f)) e) (more d h)

-- a program or a bracket too many
abbrev pub Answered : ℕ → List Tok → Type 0
Answered d us = ((es : List Decl) × IsProgram d us es) ⊎ ((rest : List Tok) × IsTooDeep SpellsTree d us rest)

module _ (twin : (ds : List Decl) (ts : List Tok) → SpellsTree ds ts → (es : List Decl) × SpellsTreeAt es ts) (words : (ds : List Decl) (ts : List Tok) → SpellsTreeAt ds ts → SpellsTree ds ts) where
  pub answered : (d : ℕ) (ds : List Decl) (us : List Tok) → SpellsTree ds us → Answered d us
  answered d ds us h = by (left us d) refl
    where
      by : (o : Option ℕ) → left us d ≡ o → Answered d us
      by (Some e) l = let t = twin ds us h in inl (t.0, record { spells = words t.0 us t.1; places = t.1; shallow = even_tokens us (each decl_marks ds) d e h.1 (decls_even ds) l })
      by None l =
          let o = over us d l in
          inr (
            o.bracket ∷ o.behind,
            record {
              front = o.front;
              bracket = o.bracket;
              behind = o.behind;
              here = refl;
              cut = o.cut;
              goes = (ds, o.behind, subst (SpellsTree ds) o.cut h);
              opens = o.opens;
              full = o.full;
            },
          )
