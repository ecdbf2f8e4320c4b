-- Lists with commas, and what stands in brackets.
use Rattle.std.proofs.Common.{◌≡◌, ◌≢◌, ℕ, List, [], ◌∷◌, ◌++◌, Bool, true, false, Some, None, refl, sym, ap, subst, arith, append_assoc, inl, inr}
use Rattle.bg_base.specs.declared.pos.Pos.{Pos}
use Rattle.bg_text.specs.declared.token.Kind.{Kind}
use Rattle.bg_text.specs.declared.token.Kind.TheVariants as kinds
use Rattle.bg_text.specs.Tokens.{Tok}
use Rattle.bg_text.specs.declared.expr.PrefixSign.{PrefixSign}
use Rattle.bg_text.specs.declared.expr.PrefixSign.TheVariants as prefix
use Rattle.bg_text.specs.Trees.{Ex, Number, Truth, Named, Apply, Old, Parens, Prefix, Postfix, Chain, Exs, NoMore, More}
use Rattle.bg_reader.specs.Kinds.{is_kind}
use Rattle.bg_reader.specs.Reading.{Reader, with_read, both, one, nothing, many}
use Rattle.bg_text.specs.Marks.{Mark, sign, sign_at, name_at, Fits}
use Rattle.bg_text.specs.Spelling.{truth_kind, prefix_kind, prefix_mark, ex_marks, list_marks, more_marks, bracket_marks, link_marks, IsEx, AreExs, SpellsAt}
use Rattle.bg_reader.specs.Reading.{a_sign}
use Rattle.bg_text.specs.Views.{exs_of}
use Rattle.bg_expr.specs.Exprs.{list_at, args_at}
use Rattle.bg_reader.specs.Exact.{Passes, Free, One, Both, Branch, Many, Empty, Good}
use Rattle.bg_reader.proofs.Good.{both_good, nothing_good, branch_good, via_good, same_good, many_good}
use Rattle.bg_reader.proofs.Fits.{sign_passes, sign_good, sign_fits, fits_sign, fits_append, fits_split, fits_none, fits_first, sign_some, sign_back}
use Rattle.bg_expr.specs.Ends.{reach, below, ends}
use Rattle.bg_expr.proofs.Signs.{start}

-- tokens that end any list of expressions
abbrev pub closes_kind : Kind → Bool
closes_kind kinds.Close = true
closes_kind kinds.CloseBracket = true
closes_kind kinds.CloseBrace = true
closes_kind kinds.Becomes = true
closes_kind kinds.Semicolon = true
closes_kind _ = false

abbrev pub closes : Tok → Bool
closes t = closes_kind t.kind

closes_ends_kind : (k : Kind) → closes_kind k ≡ true → below 0 (reach k) ≡ true
closes_ends_kind kinds.Close h = refl
closes_ends_kind kinds.CloseBracket h = refl
closes_ends_kind kinds.CloseBrace h = refl
closes_ends_kind kinds.Becomes h = refl
closes_ends_kind kinds.Semicolon h = refl
closes_ends_kind _ h = absurd cc

closes_comma_kind : (k : Kind) → closes_kind k ≡ true → is_kind kinds.Comma k ≡ false
closes_comma_kind kinds.Comma h = absurd cc
closes_comma_kind _ h = refl

pub closes_ends : (t : Tok) → closes t ≡ true → ends 0 t ≡ true
closes_ends t h = closes_ends_kind t.kind h

-- the kinds that begin an expression
abbrev pub begins_kind : Kind → Bool
begins_kind (kinds.Number z) = true
begins_kind kinds.True = true
begins_kind kinds.False = true
begins_kind kinds.Name = true
begins_kind kinds.Old = true
begins_kind kinds.Open = true
begins_kind kinds.Not = true
begins_kind kinds.Minus = true
begins_kind _ = false

abbrev First : List Mark → Type 0
First ms = (m : Mark) × (rest : List Mark) × (ms ≡ m ∷ rest) × (begins_kind m.kind ≡ true)

first_more : (ms ns : List Mark) → First ms → First (ms ++ ns)
first_more ms ns h = (h.0, h.1 ++ ns, ap (λ l. l ++ ns) h.2, h.3)

prefix_begins : (s : PrefixSign) → begins_kind (prefix_kind s) ≡ true
prefix_begins prefix.Not = refl
prefix_begins prefix.Minus = refl

truth_begins : (b : Bool) → begins_kind (truth_kind b) ≡ true
truth_begins true = refl
truth_begins false = refl

pub first_mark : (e : Ex) → IsEx e → First (ex_marks e)
first_mark (Number p z) h = (sign_at p (kinds.Number z), [], refl, refl)
first_mark (Truth p b) h = (sign_at p (truth_kind b), [], refl, truth_begins b)
first_mark (Named p x) h = (name_at p x, [], refl, refl)
first_mark (Apply p x es) h = (name_at p x, _, refl, refl)
first_mark (Old p e) h = (sign_at p kinds.Old, _, refl, refl)
first_mark (Parens p e) h = (sign_at p kinds.Open, _, refl, refl)
first_mark (Prefix [] e) h = absurd (h.0 refl)
first_mark (Prefix (s ∷ rest) e) h = (prefix_mark s, _, refl, prefix_begins s.sign)
first_mark (Postfix e bs) h = first_more (ex_marks e) (bracket_marks bs) (first_mark e h.1)
first_mark (Chain e links) h = first_more (ex_marks e) (link_marks links) (first_mark e h.0)

pub first_token : (e : Ex) (ts : List Tok) (ns : List Mark) → IsEx e → Fits ts (ex_marks e ++ ns) → (t : Tok) × (more : List Tok) × (ts ≡ t ∷ more) × (begins_kind t.kind ≡ true)
first_token e ts ns h k =
    let m = first_more (ex_marks e) ns (first_mark e h) in
    let f = fits_first ts m.0 m.1 (subst (Fits ts) m.2 k) in
    (f.0, f.1, f.2, subst (λ j. begins_kind j ≡ true) (sym f.3.0) m.3)

-- a list
abbrev pub AList : Exs → List Tok → Type 0
AList es ts = (es ≢ NoMore) × AreExs es × Fits ts (list_marks es)

abbrev pub Whole : Pos → Ex → List Tok → Type 0
Whole p = SpellsAt 0

module _ (n d : ℕ) (P : Reader Ex) (p : Good n d (ends 0) (SpellsAt 0) P) where
  more_into : (vs : List Ex) (ts : List Tok) → Many (a_sign kinds.Comma) Whole vs ts → AreExs (exs_of vs) × Fits ts (more_marks (exs_of vs))
  more_into [] ts h = rw h (tt, tt)
  more_into (v ∷ vs) ts h =
      let w = sign_some kinds.Comma refl h.0 h.2 h.4 in
      let r = more_into vs h.5.1 h.5.4 in
      let fits : Fits (h.0 ∷ h.5.0 ++ h.5.1) (more_marks (exs_of (v ∷ vs))) = ((w.0, tt, tt), fits_append h.5.0 h.5.1 (ex_marks v) (more_marks (exs_of vs)) h.5.3.2 r.1) in
      ((h.5.3.0, r.0), rw (h.3, h.5.2) fits)

  more_out : (es : Exs) (ts : List Tok) → AreExs es → Fits ts (more_marks es) → (vs : List Ex) × (exs_of vs ≡ es) × Many (a_sign kinds.Comma) Whole vs ts
  more_out NoMore ts a h = ([], refl, fits_none ts h)
  more_out (More e es) ts a h =
      let f = fits_first ts (sign kinds.Comma) (ex_marks e ++ more_marks es) h in
      let c = fits_split f.1 (ex_marks e) (more_marks es) f.4 in
      let more = more_out es c.1 a.1 c.4 in
      (e ∷ more.0, ap (More e) more.1, (f.0, f.1, f.0.pos, f.2, sign_back kinds.Comma refl f.0 f.3.0, (c.0, c.1, c.2, (a.0, omega arith, c.3), more.2)))

  comma_off : (t : Tok) → closes t ≡ true → a_sign kinds.Comma t ≡ None
  comma_off t h = rw (closes_comma_kind t.kind h) refl

  comma_ends : (t : Tok) (q : Pos) → a_sign kinds.Comma t ≡ Some q → ends 0 t ≡ true
  comma_ends t q h = let w = sign_some kinds.Comma refl t q h in rw w.0 refl

  list_into : (v : Ex × List Ex) (ts : List Tok) → Both (SpellsAt 0) (Many (a_sign kinds.Comma) Whole) v ts → AList (More v.0 (exs_of v.1)) ts
  list_into v ts l = let r = more_into v.1 l.1 l.4 in (λ h. cc, (l.3.0, r.0), rw l.2 (fits_append l.0 l.1 (ex_marks v.0) (more_marks (exs_of v.1)) l.3.2 r.1))

  list_out : (w : Exs) (ts : List Tok) → AList w ts → (v : Ex × List Ex) × (More v.0 (exs_of v.1) ≡ w) × Both (SpellsAt 0) (Many (a_sign kinds.Comma) Whole) v ts
  list_out NoMore ts l = absurd (l.0 refl)
  list_out (More e es) ts l =
      let c = fits_split ts (ex_marks e) (more_marks es) l.2 in
      let more = more_out es c.1 l.1.1 c.4 in
      ((e, more.0), ap (More e) more.1, (c.0, c.1, c.2, (l.1.0, omega arith, c.3), more.2))

  list_passes : (vs : List Ex) (front x : List Tok) → Many (a_sign kinds.Comma) Whole vs front → Passes closes x → Passes (ends 0) (front ++ x)
  list_passes [] front [] l o = rw l tt
  list_passes [] front (t ∷ x) l o = rw l (closes_ends t o)
  list_passes (v ∷ vs) front x l o = rw l.3 (comma_ends l.0 l.2 l.4)

  pub list_good : Good n d closes AList (list_at n P)
  unfolding list_at
  list_good = via_good n d closes (Both (SpellsAt 0) (Many (a_sign kinds.Comma) Whole)) AList (both P (many (a_sign kinds.Comma) (λ _. P) n)) (λ v. More v.0 (exs_of v.1))
      (both_good n d (ends 0) closes (SpellsAt 0) (Many (a_sign kinds.Comma) Whole) P (many (a_sign kinds.Comma) (λ _. P) n) p
      (many_good (a_sign kinds.Comma) Whole n d d (omega arith) (omega arith) closes (ends 0) (λ _. P) (λ b h. p) closes_ends comma_ends comma_off n (omega arith)) list_passes)
      list_into list_out

abbrev pub Args : Exs → List Tok → Type 0
Args es ts = AreExs es × Fits ts (list_marks es ++ sign kinds.Close ∷ [])

abbrev SomeArgs : Exs → List Tok → Type 0
SomeArgs es ts = (es ≢ NoMore) × AreExs es × Fits ts (list_marks es ++ sign kinds.Close ∷ [])

begins_close : (k : Kind) → begins_kind k ≡ true → is_kind kinds.Close k ≡ false
begins_close kinds.Close h = absurd cc
begins_close _ h = refl

module _ (n d : ℕ) (P : Reader Ex) (p : Good n d (ends 0) (SpellsAt 0) P) where
  some_args_out : (w : Exs) (ts : List Tok) → SomeArgs w ts → (v : Exs × Pos) × (v.0 ≡ w) × Both AList (One (a_sign kinds.Close)) v ts
  some_args_out w ts l =
      let c = fits_split ts (list_marks w) (sign kinds.Close ∷ []) l.2 in
      let e = fits_sign kinds.Close refl c.1 c.4 in
      ((w, e.0), refl, (c.0, c.1, c.2, (l.0, l.1, c.3), e.1))

  some_args_good : Good n d (λ _. true) SomeArgs (λ ts. with_read (λ v. v.0) (both (list_at n P) (one (a_sign kinds.Close)) ts))
  some_args_good = via_good n d (λ _. true) (Both AList (One (a_sign kinds.Close))) SomeArgs (both (list_at n P) (one (a_sign kinds.Close))) (λ v. v.0)
      (both_good n d closes (λ _. true) AList (One (a_sign kinds.Close)) (list_at n P) (one (a_sign kinds.Close)) (list_good n d P p) (sign_good kinds.Close refl n d (λ _. true) start)
      (sign_passes kinds.Close refl closes (λ t h. rw h refl)))
      (λ v ts l. (l.3.0, l.3.1, rw l.2 (fits_append l.0 l.1 (list_marks v.0) (sign kinds.Close ∷ []) l.3.2 (sign_fits kinds.Close refl l.1 v.1 l.4))))
      some_args_out

  not_closed : (v : Exs) (front x : List Tok) → SomeArgs v front → Passes (λ _. true) x → Free (a_sign kinds.Close) (front ++ x)
  not_closed NoMore front x l o = absurd (l.0 refl)
  not_closed (More e es) front x l o =
      let f = first_token e front (more_marks es ++ sign kinds.Close ∷ []) l.1.0 (subst (Fits front) (append_assoc (ex_marks e) (more_marks es) (sign kinds.Close ∷ [])) l.2) in
      rw (f.2, begins_close f.0.kind f.3) refl

  args_into : (es : Exs) (ts : List Tok) → Branch (a_sign kinds.Close) (λ _. Empty NoMore) SomeArgs es ts → Args es ts
  args_into es ts (inl h) = let w = sign_some kinds.Close refl h.0 h.2 h.4 in let f : Fits (h.0 ∷ []) (sign kinds.Close ∷ []) = ((w.0, tt, tt), tt) in rw (h.5.0, h.3, h.5.1) (tt, f)
  args_into es ts (inr h) = (h.1, h.2)

  args_out : (es : Exs) (ts : List Tok) → Args es ts → Branch (a_sign kinds.Close) (λ _. Empty NoMore) SomeArgs es ts
  args_out NoMore ts h = let f = fits_first ts (sign kinds.Close) [] h.1 in inl (f.0, f.1, f.0.pos, f.2, sign_back kinds.Close refl f.0 f.3.0, (refl, fits_none f.1 f.4))
  args_out (More e es) ts h = inr (λ q. cc, h.0, h.1)

  pub args_good : Good n d (λ _. true) Args (args_at n P)
  unfolding args_at
  args_good = same_good n d (λ _. true) (Branch (a_sign kinds.Close) (λ _. Empty NoMore) SomeArgs) Args (args_at n P)
      (branch_good n d (λ _. true) (a_sign kinds.Close) (λ _. Empty NoMore) SomeArgs (λ ts. with_read (λ v. v.0) (both (list_at n P) (one (a_sign kinds.Close)) ts)) some_args_good not_closed n d (λ _. true) (λ _. nothing NoMore) (λ b h. nothing_good n d (λ _. true) NoMore) (omega arith) (omega arith) (λ t h. h))
      args_into args_out
