-- What the reader of programs answers, and that its answers exclude one another.
use Rattle.std.proofs.Common.{◌≡◌, ℕ, List, [], ◌∷◌, ◌++◌, length, Some, refl, sym, ap, ◌∙◌, subst, arith, append_assoc, append-nil, ◌⊎◌, inl, inr}
use Rattle.std.proofs.lemmas.List.{append_cancel_left}
use Rattle.bg_text.specs.Tokens.{Tok}
use Rattle.bg_text.specs.Trees.{Decl}
use Rattle.bg_text.specs.Marks.{each}
use Rattle.bg_text.specs.Declarations.{decl_marks, SpellsTree, SpellsTreeAt}
use Rattle.bg_text.specs.Brackets.{Turn, Opens, Shuts, Neither, turn, left_by, left}
use Rattle.bg_reader.specs.declared.refusal.Refusal.{Refusal}
use Rattle.bg_reader.specs.declared.refusal.Refusal.TheVariants as refusal
use Rattle.bg_reader.specs.Reading.{Read, Got, Bad, Deep, Refuses}
use Rattle.bg_reader.specs.Told.{GoesOn, IsRead, IsTooDeep}
use Rattle.bg_reader.proofs.Fits.{fits_words}
use Rattle.bg_reader.proofs.Exact.{spells_one}
use Rattle.bg_reader.proofs.Nests.{left_more}
use Rattle.bg_reader.proofs.Told.{is_read, is_refused, is_too_deep, read_as, refused_as, deep_as, one_depth}
use Rattle.bg_grammar.proofs.Rule.{of}
use Rattle.bg_parse.specs.Declarations.{decls_at}
use Rattle.bg_parse.specs.Programs.{IsProgram, IsStopped}
use Rattle.bg_parse.proofs.DeclRules.{decls_rule}

pub forget : (ds : List Decl) (ts : List Tok) → SpellsTreeAt ds ts → SpellsTree ds ts
forget ds ts h = (h.0, fits_words ts (each decl_marks ds) h.1)

-- what has a program's words has a twin with the tokens' positions
pub twin : (ds : List Decl) (ts : List Tok) → SpellsTree ds ts → (es : List Decl) × SpellsTreeAt es ts
twin ds ts h = let n = length ts in let a = (decls_rule n n).twin ds ts (omega arith) h.0 h.1 in (a.0, (a.1, a.2))

-- one program has these tokens
pub one_program : (ds es : List Decl) (ts : List Tok) → SpellsTreeAt ds ts → SpellsTreeAt es ts → ds ≡ es
one_program ds es ts h k = let n = length ts in spells_one n n (of []) SpellsTreeAt (decls_at n n) (decls_rule n n).good ds es ts (omega arith) (omega arith) h k

module _ (n d : ℕ) (ts : List Tok) where
  reads : (ds : List Decl) (x : List Tok) → decls_at n d ts ≡ Got ds x → IsRead SpellsTreeAt d ts ds x
  reads ds x h = is_read n d (of []) SpellsTreeAt (decls_at n d) (decls_rule n d).good (decls_rule n d).nests ts ds x h

  pub is_program : (ds : List Decl) (x : List Tok) → x ≡ [] → decls_at n d ts ≡ Got ds x → IsProgram d ts ds
  is_program ds x e h =
      let r = reads ds x h in
      let q : r.front ≡ ts = sym (append-nil r.front) ∙ ap (λ l. r.front ++ l) (sym e) ∙ sym r.cut in
      let s : SpellsTreeAt ds ts = subst (SpellsTreeAt ds) q r.spells in
      record { spells = forget ds ts s; places = s; shallow = subst (λ l. left l d ≡ Some d) q r.shallow }

  pub is_left : (ds : List Decl) (t : Tok) (more x : List Tok) → x ≡ t ∷ more → decls_at n d ts ≡ Got ds x → IsStopped d ts x
  is_left ds t more x e h =
      let r = read_as SpellsTreeAt SpellsTree forget twin d ts ds x (reads ds x h) in
      record {
        front = r.front;
        cut = r.cut;
        begins = (ds, [], subst (SpellsTree ds) (sym (append-nil r.front)) r.spells);
        shallow = (d, r.shallow);
        stops = r.longest;
        unfinished = λ q. (let c : t ∷ more ≡ [] = sym e ∙ q in absurd cc);
      }

  pub is_stopped : (x : List Tok) → decls_at n d ts ≡ Bad x → IsStopped d ts x
  is_stopped x h =
      let r = refused_as SpellsTreeAt SpellsTree forget twin d ts x (is_refused n d (of []) SpellsTreeAt (decls_at n d) (decls_rule n d).good (decls_rule n d).nests ts x h) in
      record { front = r.front; cut = r.cut; begins = r.begins; shallow = r.shallow; stops = r.stops; unfinished = λ q. r.unfinished }

  pub is_deep : (x : List Tok) → decls_at n d ts ≡ Deep x → IsTooDeep SpellsTree d ts x
  is_deep x h = deep_as SpellsTreeAt SpellsTree forget twin d ts x (is_too_deep n d (of []) SpellsTreeAt (decls_at n d) (decls_rule n d).good (decls_rule n d).nests ts x h)

-- a goes on from b, where y stands behind b
abbrev Longer : List Tok → List Tok → List Tok → Type 0
Longer a b y = (t : Tok) × (r : List Tok) × (more : List Tok) × (a ≡ b ++ t ∷ r) × (y ≡ t ∷ more)

compare_more : (t u : Tok) (a b x y : List Tok) → t ≡ u → (a ≡ b) ⊎ (Longer a b y ⊎ Longer b a x) → (t ∷ a ≡ u ∷ b) ⊎ (Longer (t ∷ a) (u ∷ b) y ⊎ Longer (u ∷ b) (t ∷ a) x)
compare_more t u a b x y q (inl e) = inl (rw (q, e) refl)
compare_more t u a b x y q (inr (inl l)) = inr (inl (l.0, l.1, l.2, rw (q, l.3) refl, l.4))
compare_more t u a b x y q (inr (inr l)) = inr (inr (l.0, l.1, l.2, rw (sym q, l.3) refl, l.4))

compare : (a b x y : List Tok) → a ++ x ≡ b ++ y → (a ≡ b) ⊎ (Longer a b y ⊎ Longer b a x)
compare [] [] x y h = inl refl
compare [] (u ∷ b) x y h = inr (inr (u, b, b ++ y, refl, h))
compare (t ∷ a) [] x y h = inr (inl (t, a, a ++ x, refl, sym h))
compare (t ∷ a) (u ∷ b) x y h = let q : t ≡ u = cc in let r : a ++ x ≡ b ++ y = cc in compare_more t u a b x y q (compare a b x y r)

none_by : (w : Turn) (r : List Tok) (e : ℕ) → w ≡ Opens → left_by w 0 (left r) ≡ Some e → ⊥
none_by Opens r e h k = absurd cc
none_by Shuts r e h k = absurd cc
none_by Neither r e h k = absurd cc

none_left : (front : List Tok) (d e : ℕ) (t : Tok) (r : List Tok) → left front d ≡ Some 0 → turn t.kind ≡ Opens → left (front ++ t ∷ r) d ≡ Some e → ⊥
none_left front d e t r h o k = none_by (turn t.kind) r e o (sym (left_more front (t ∷ r) d 0 h) ∙ k)

module _ (d : ℕ) (ts : List Tok) where
  goes : (ds : List Decl) (more a b : List Tok) (t : Tok) (r : List Tok) → SpellsTree ds (a ++ more) → a ≡ b ++ t ∷ r → GoesOn SpellsTree b t
  goes ds more a b t r l e = (ds, r ++ more, subst (SpellsTree ds) (ap (λ z. z ++ more) e ∙ append_assoc b (t ∷ r) more) l)

  rests : (a b x y : List Tok) → a ≡ b → ts ≡ a ++ x → ts ≡ b ++ y → x ≡ y
  rests a b x y q h k = append_cancel_left b x y (ap (λ z. z ++ x) (sym q) ∙ sym h ∙ k)

  pub program_not_stopped : (ds : List Decl) (x : List Tok) → IsProgram d ts ds → IsStopped d ts x → ⊥
  program_not_stopped ds [] p s = s.unfinished refl ds (subst (SpellsTree ds) (s.cut ∙ append-nil s.front) p.spells)
  program_not_stopped ds (t ∷ more) p s = s.stops t more refl (ds, more, subst (SpellsTree ds) s.cut p.spells)

  pub program_not_deep : (ds : List Decl) (x : List Tok) → IsProgram d ts ds → IsTooDeep SpellsTree d ts x → ⊥
  program_not_deep ds x p f =
      let q : ts ≡ f.front ++ f.bracket ∷ f.behind = f.cut ∙ ap (λ l. f.front ++ l) f.here in
      none_left f.front d d f.bracket f.behind f.full f.opens (subst (λ l. left l d ≡ Some d) q p.shallow)

  pub stopped_not_deep : (x y : List Tok) → IsStopped d ts x → IsTooDeep SpellsTree d ts y → ⊥
  stopped_not_deep x y r f = by (compare r.front f.front x y (sym r.cut ∙ f.cut))
    where
      by : (r.front ≡ f.front) ⊎ (Longer r.front f.front y ⊎ Longer f.front r.front x) → ⊥
      by (inl q) = r.stops f.bracket f.behind (rests r.front f.front x y q r.cut f.cut ∙ f.here) (subst (λ z. GoesOn SpellsTree z f.bracket) (sym q) f.goes)
      by (inr (inl l)) =
          let e : l.0 ∷ l.2 ≡ f.bracket ∷ f.behind = sym l.4 ∙ f.here in
          let q : l.0 ≡ f.bracket = cc in
          none_left f.front d r.shallow.0 l.0 l.1 f.full (rw q f.opens) (subst (λ z. left z d ≡ Some r.shallow.0) l.3 r.shallow.1)
      by (inr (inr l)) = r.stops l.0 l.2 l.4 (goes f.goes.0 (f.bracket ∷ f.goes.1) f.front r.front l.0 l.1 f.goes.2 l.3)

  pub one_stop : (x y : List Tok) → IsStopped d ts x → IsStopped d ts y → x ≡ y
  one_stop x y r f = by (compare r.front f.front x y (sym r.cut ∙ f.cut))
    where
      by : (r.front ≡ f.front) ⊎ (Longer r.front f.front y ⊎ Longer f.front r.front x) → x ≡ y
      by (inl q) = rests r.front f.front x y q r.cut f.cut
      by (inr (inl l)) = absurd (f.stops l.0 l.2 l.4 (goes r.begins.0 r.begins.1 r.front f.front l.0 l.1 r.begins.2 l.3))
      by (inr (inr l)) = absurd (r.stops l.0 l.2 l.4 (goes f.begins.0 f.begins.1 f.front r.front l.0 l.1 f.begins.2 l.3))

  pub one_deep : (x y : List Tok) → IsTooDeep SpellsTree d ts x → IsTooDeep SpellsTree d ts y → x ≡ y
  one_deep x y r f = one_depth SpellsTree d ts x y r f

-- what a refusal of a kind says, where it stands for the place j as well
module _ {A : Type 0} (from : ℕ → List Tok) (e : Refusal) (r : Read A) (i j : ℕ) (same : from j ≡ from i) where
  pub syntax_is : e ≡ refusal.Syntax i → Refuses from e r → r ≡ Bad (from j)
  syntax_is q h = subst (λ e. Refuses from e r) q h ∙ ap (λ l. Bad l) (sym same)

  pub deep_is : e ≡ refusal.TooDeep i → Refuses from e r → r ≡ Deep (from j)
  deep_is q h = subst (λ e. Refuses from e r) q h ∙ ap (λ l. Deep l) (sym same)
