-- Brackets, atoms, prefix signs, and whole expressions.
use Rattle.std.proofs.Common.{◌≡◌, ◌≢◌, ℕ, zero, suc, ◌-◌, ◌≤◌, List, [], ◌∷◌, ◌++◌, map, Bool, true, false, Option, Some, None, refl, sym, ap, ◌∙◌, subst, arith, append-nil, append_assoc, inl, inr}
use Rattle.std.specs.Prelude.{IfSome}
use Rattle.bg_base.specs.declared.pos.Pos.{Pos}
use Rattle.bg_text.specs.declared.token.Kind.{Kind}
use Rattle.bg_text.specs.declared.token.Kind.TheVariants as kinds
use Rattle.bg_text.specs.Tokens.{Tok}
use Rattle.bg_text.specs.declared.expr.InfixSign.{InfixSign}
use Rattle.bg_text.specs.declared.expr.InfixSign.TheVariants as op
use Rattle.bg_text.specs.declared.expr.PrefixSign.{PrefixSign}
use Rattle.bg_text.specs.declared.expr.PrefixSign.TheVariants as prefix
use Rattle.bg_text.specs.declared.expr.TreePrefix.{TreePrefix}
use Rattle.bg_text.specs.Trees.{Ex, Number, Truth, Named, Apply, Old, Parens, Prefix, Postfix, Chain, Exs, NoMore, More, Brackets, NoBracket, Select, Update, NoLink, Link}
use Rattle.bg_reader.specs.Kinds.{is_kind}
use Rattle.bg_reader.specs.Reading.{Reader, with_read, both, one, branch, nothing, many}
use Rattle.bg_text.specs.Marks.{Mark, sign, sign_at, name_at, Is, Fits}
use Rattle.bg_text.specs.Spelling.{truth_kind, prefix_kind, prefix_mark, ex_marks, list_marks, bracket_marks, grade, level, IsEx, AreExs, AreBrackets, SpellsAt}
use Rattle.bg_reader.specs.Reading.{a_sign}
use Rattle.bg_text.specs.Views.{Bracket, bracket_of_parts, brackets_of}
use Rattle.bg_expr.specs.Exprs.{a_name, a_prefix, prefix_by, plain, plain_by, list_at, args_at, value_at, bracket_at, brackets_at, call_at, closed, enclosed, parens_at, old_at, atom_at, postfix_at, prefix_at, prefix_of, postfix_of, ladder, expr_at, inner_of}
use Rattle.bg_reader.specs.Exact.{Passes, Begins, Free, One, Both, Branch, Many, Empty, Good}
use Rattle.bg_reader.proofs.Good.{one_good, both_good, nothing_good, branch_good, sink_good, sunk_good, must_good, via_good, same_good, fewer_good, many_good}
use Rattle.bg_reader.proofs.Fits.{sign_passes, sample_sign, sign_good, sign_fits, fits_sign, some_eq, fits_append, fits_split, fits_none, fits_first, sign_some, sign_back}
use Rattle.bg_expr.specs.Ends.{reach, below, ends}
use Rattle.bg_expr.proofs.Signs.{ends_more, start, name_some}
use Rattle.bg_expr.proofs.Chains.{chain_good}
use Rattle.bg_expr.proofs.Lists.{closes, AList, Args, list_good, args_good}
use Rattle.bg_reader.proofs.Samples.{sample}

-- the value of an update and the closing bracket
abbrev value_marks : Option Ex → List Mark
value_marks None = sign kinds.CloseBracket ∷ []
value_marks (Some e) = sign kinds.Becomes ∷ ex_marks e ++ sign kinds.CloseBracket ∷ []

abbrev Value : Option Ex → List Tok → Type 0
Value o ts = IfSome o IsEx × Fits ts (value_marks o)

abbrev None_ : Option Ex → List Tok → Type 0
None_ None ts = Fits ts (sign kinds.CloseBracket ∷ [])
None_ (Some e) ts = ⊥

abbrev Some_ : Pos → Option Ex → List Tok → Type 0
Some_ q None ts = ⊥
Some_ q (Some e) ts = IsEx e × Fits ts (ex_marks e ++ sign kinds.CloseBracket ∷ [])

-- what stands behind the opening bracket
abbrev InBracket : Pos → Bracket → List Tok → Type 0
InBracket q v ts = (v.0 ≡ q) × (v.1 ≢ NoMore) × AreExs v.1 × IfSome v.2 IsEx × Fits ts (list_marks v.1 ++ value_marks v.2)

abbrev ARow : Brackets → List Tok → Type 0
ARow bs ts = AreBrackets bs × Fits ts (bracket_marks bs)

module _ (n d : ℕ) (P : Reader Ex) (p : Good n d (ends 0) (SpellsAt 0) P) where
  value_none : Good n d (λ _. true) None_ (λ ts. with_read (λ _. None) (one (a_sign kinds.CloseBracket) ts))
  value_none = via_good n d (λ _. true) (One (a_sign kinds.CloseBracket)) None_ (one (a_sign kinds.CloseBracket)) (λ _. None) (sign_good kinds.CloseBracket refl n d (λ _. true) start)
      (λ v ts l. sign_fits kinds.CloseBracket refl ts v l) out
    where
      out : (w : Option Ex) (ts : List Tok) → None_ w ts → (v : Pos) × (None ≡ w) × One (a_sign kinds.CloseBracket) v ts
      out None ts l = let c = fits_sign kinds.CloseBracket refl ts l in (c.0, refl, c.1)
      out (Some e) ts l = absurd l

  value_some : (q : Pos) → Good n d (λ _. true) (Some_ q) (λ ts. with_read (λ v. Some v.0) (both P (one (a_sign kinds.CloseBracket)) ts))
  value_some q = via_good n d (λ _. true) (Both (SpellsAt 0) (One (a_sign kinds.CloseBracket))) (Some_ q) (both P (one (a_sign kinds.CloseBracket))) (λ v. Some v.0)
      (both_good n d (ends 0) (λ _. true) (SpellsAt 0) (One (a_sign kinds.CloseBracket)) P (one (a_sign kinds.CloseBracket)) p (sign_good kinds.CloseBracket refl n d (λ _. true) start)
      (sign_passes kinds.CloseBracket refl (ends 0) (λ t h. rw h refl)))
      (λ v ts l. (l.3.0, rw l.2 (fits_append l.0 l.1 (ex_marks v.0) (sign kinds.CloseBracket ∷ []) l.3.2 (sign_fits kinds.CloseBracket refl l.1 v.1 l.4)))) out
    where
      out : (w : Option Ex) (ts : List Tok) → Some_ q w ts → (v : Ex × Pos) × (Some v.0 ≡ w) × Both (SpellsAt 0) (One (a_sign kinds.CloseBracket)) v ts
      out None ts l = absurd l
      out (Some e) ts l =
          let c = fits_split ts (ex_marks e) (sign kinds.CloseBracket ∷ []) l.1 in
          let k = fits_sign kinds.CloseBracket refl c.1 c.4 in
          ((e, k.0), refl, (c.0, c.1, c.2, (l.0, omega arith, c.3), k.1))

  value_free : (v : Option Ex) (front x : List Tok) → None_ v front → Passes (λ _. true) x → Free (a_sign kinds.Becomes) (front ++ x)
  value_free None front x l o = let f = fits_first front (sign kinds.CloseBracket) [] l in rw (f.2, f.3.0) refl
  value_free (Some e) front x l o = absurd l

  value_into : (o : Option Ex) (ts : List Tok) → Branch (a_sign kinds.Becomes) Some_ None_ o ts → Value o ts
  value_into None ts (inl h) = absurd h.5
  value_into None ts (inr h) = (tt, h)
  value_into (Some e) ts (inl h) = let w = sign_some kinds.Becomes refl h.0 h.2 h.4 in let f : Fits (h.0 ∷ h.1) (value_marks (Some e)) = ((w.0, tt, tt), h.5.1) in (h.5.0, rw h.3 f)
  value_into (Some e) ts (inr h) = absurd h

  value_out : (o : Option Ex) (ts : List Tok) → Value o ts → Branch (a_sign kinds.Becomes) Some_ None_ o ts
  value_out None ts h = inr h.1
  value_out (Some e) ts h = let f = fits_first ts (sign kinds.Becomes) (ex_marks e ++ sign kinds.CloseBracket ∷ []) h.1 in inl (f.0, f.1, f.0.pos, f.2, sign_back kinds.Becomes refl f.0 f.3.0, (h.0, f.4))

  value_good : Good n d (λ _. true) Value (value_at P)
  value_good = same_good n d (λ _. true) (Branch (a_sign kinds.Becomes) Some_ None_) Value (value_at P)
      (branch_good n d (λ _. true) (a_sign kinds.Becomes) Some_ None_ (λ ts. with_read (λ _. None) (one (a_sign kinds.CloseBracket) ts)) value_none value_free n d (λ _. true) (λ _ ts. with_read (λ v. Some v.0) (both P (one (a_sign kinds.CloseBracket)) ts)) (λ b h. value_some b) (omega arith) (omega arith) (λ t h. h))
      value_into value_out

  value_passes : (v : Option Ex) (front x : List Tok) → Value v front → Passes (λ _. true) x → Passes closes (front ++ x)
  value_passes None front x l o = let f = fits_first front (sign kinds.CloseBracket) [] l.1 in rw (f.2, f.3.0) refl
  value_passes (Some e) front x l o = let f = fits_first front (sign kinds.Becomes) (ex_marks e ++ sign kinds.CloseBracket ∷ []) l.1 in rw (f.2, f.3.0) refl

  bracket_good : (q : Pos) → Good n d (λ _. true) (InBracket q) (bracket_at n P q)
  unfolding bracket_at
  bracket_good q = via_good n d (λ _. true) (Both AList Value) (InBracket q) (both (list_at n P) (value_at P)) (λ v. (q, v.0, v.1))
      (both_good n d closes (λ _. true) AList Value (list_at n P) (value_at P) (list_good n d P p) value_good value_passes)
      (λ v ts l. (refl, l.3.0, l.3.1, l.4.0, rw l.2 (fits_append l.0 l.1 (list_marks v.0) (value_marks v.1) l.3.2 l.4.1)))
      (λ w ts l. let c = fits_split ts (list_marks w.1) (value_marks w.2) l.4 in ((w.1, w.2), rw (sym l.0) refl, (c.0, c.1, c.2, (l.1, l.2, c.3), (l.3, c.4))))

  row_into : (vs : List Bracket) (ts : List Tok) → Many (a_sign kinds.OpenBracket) InBracket vs ts → ARow (brackets_of vs) ts
  row_into [] ts h = (tt, rw h tt)
  row_into (v ∷ vs) ts h =
      let w = sign_some kinds.OpenBracket refl h.0 h.2 h.4 in
      let r = row_into vs h.5.1 h.5.4 in
      by v.0 v.1 v.2 h.5.3 (h.5.3.0) w r
    where
      by : (q : Pos) (es : Exs) (o : Option Ex) → InBracket h.2 (q, es, o) h.5.0 → q ≡ h.2 → (h.0.kind ≡ kinds.OpenBracket) × (h.0.pos ≡ h.2) → ARow (brackets_of vs) h.5.1 → ARow (bracket_of_parts q es o (brackets_of vs)) ts
      by q es None i e w r =
          let f : Fits (h.0 ∷ h.5.0 ++ h.5.1) (bracket_marks (Select q es (brackets_of vs))) = ((w.0, tt, w.1 ∙ sym e), subst (Fits (h.5.0 ++ h.5.1)) (append_assoc (list_marks es) (value_marks None) (bracket_marks (brackets_of vs))) (fits_append h.5.0 h.5.1 (list_marks es ++ value_marks None) (bracket_marks (brackets_of vs)) i.4 r.1)) in
          ((i.1, i.2, r.0), rw (h.3, h.5.2) f)
      by q es (Some g) i e w r =
          let ms = bracket_marks (brackets_of vs) in
          let a : (list_marks es ++ value_marks (Some g)) ++ ms ≡ list_marks es ++ sign kinds.Becomes ∷ ex_marks g ++ sign kinds.CloseBracket ∷ ms = ap (λ l. l ++ ms) (sym (append_assoc (list_marks es) (sign kinds.Becomes ∷ ex_marks g) (sign kinds.CloseBracket ∷ []))) ∙ append_assoc (list_marks es ++ sign kinds.Becomes ∷ ex_marks g) (sign kinds.CloseBracket ∷ []) ms in
          let f : Fits (h.0 ∷ h.5.0 ++ h.5.1) (bracket_marks (Update q es g (brackets_of vs))) = ((w.0, tt, w.1 ∙ sym e), subst (Fits (h.5.0 ++ h.5.1)) a (fits_append h.5.0 h.5.1 (list_marks es ++ value_marks (Some g)) ms i.4 r.1)) in
          ((i.1, i.2, i.3, r.0), rw (h.3, h.5.2) f)

  row_out : (bs : Brackets) (ts : List Tok) → ARow bs ts → (vs : List Bracket) × (brackets_of vs ≡ bs) × Many (a_sign kinds.OpenBracket) InBracket vs ts
  row_out NoBracket ts h = ([], refl, fits_none ts h.1)
  row_out (Select q es bs) ts h =
      let f = fits_first ts (sign_at q kinds.OpenBracket) (list_marks es ++ sign kinds.CloseBracket ∷ bracket_marks bs) h.1 in
      let c = fits_split f.1 (list_marks es ++ value_marks None) (bracket_marks bs) (subst (Fits f.1) (sym (append_assoc (list_marks es) (value_marks None) (bracket_marks bs))) f.4) in
      let more = row_out bs c.1 (h.0.2, c.4) in
      ((q, es, None) ∷ more.0, ap (Select q es) more.1, (f.0, f.1, q, f.2, sign_back kinds.OpenBracket refl f.0 f.3.0 ∙ ap (λ (x : Pos). Some x) f.3.2, (c.0, c.1, c.2, (refl, h.0.0, h.0.1, tt, c.3), more.2)))
  row_out (Update q es g bs) ts h =
      let ms = bracket_marks bs in
      let f = fits_first ts (sign_at q kinds.OpenBracket) (list_marks es ++ sign kinds.Becomes ∷ ex_marks g ++ sign kinds.CloseBracket ∷ ms) h.1 in
      let a : (list_marks es ++ value_marks (Some g)) ++ ms ≡ list_marks es ++ sign kinds.Becomes ∷ ex_marks g ++ sign kinds.CloseBracket ∷ ms = ap (λ l. l ++ ms) (sym (append_assoc (list_marks es) (sign kinds.Becomes ∷ ex_marks g) (sign kinds.CloseBracket ∷ []))) ∙ append_assoc (list_marks es ++ sign kinds.Becomes ∷ ex_marks g) (sign kinds.CloseBracket ∷ []) ms in
      let c = fits_split f.1 (list_marks es ++ value_marks (Some g)) ms (subst (Fits f.1) (sym a) f.4) in
      let more = row_out bs c.1 (h.0.3, c.4) in
      ((q, es, Some g) ∷ more.0, ap (Update q es g) more.1, (f.0, f.1, q, f.2, sign_back kinds.OpenBracket refl f.0 f.3.0 ∙ ap (λ (x : Pos). Some x) f.3.2, (c.0, c.1, c.2, (refl, h.0.0, h.0.1, h.0.2, c.3), more.2)))

ends_open_bracket : (k : Kind) → below 7 (reach k) ≡ true → is_kind kinds.OpenBracket k ≡ false
ends_open_bracket kinds.OpenBracket h = absurd cc
ends_open_bracket _ h = refl

bracket_off : (t : Tok) → ends 7 t ≡ true → a_sign kinds.OpenBracket t ≡ None
bracket_off t h = rw (ends_open_bracket t.kind h) refl

abbrev true_token : Tok
true_token = sample kinds.True refl start

pub grade_low : (s : InfixSign) → grade s ≤ 5
grade_low op.Iff = omega arith
grade_low op.Implies = omega arith
grade_low op.Explies = omega arith
grade_low op.And = omega arith
grade_low op.Or = omega arith
grade_low op.Equal = omega arith
grade_low op.Unequal = omega arith
grade_low op.Less = omega arith
grade_low op.AtMost = omega arith
grade_low op.Greater = omega arith
grade_low op.AtLeast = omega arith
grade_low op.Plus = omega arith
grade_low op.Minus = omega arith
grade_low op.Times = omega arith

-- brackets may be opened, one in another, up to d, and what stands in one is read by this
abbrev pub Inner : ℕ → ℕ → Option (Reader Ex) → Type 0
Inner n d None = d ≡ 0
Inner n d (Some P) = (e : ℕ) × (d ≡ suc e) × Good n e (ends 0) (SpellsAt 0) P

abbrev AfterBracket : Pos → Brackets → List Tok → Type 0
AfterBracket q NoBracket ts = ⊥
AfterBracket q (Select r es bs) ts = (r ≡ q) × AreBrackets (Select r es bs) × Fits ts (list_marks es ++ sign kinds.CloseBracket ∷ bracket_marks bs)
AfterBracket q (Update r es g bs) ts = (r ≡ q) × AreBrackets (Update r es g bs) × Fits ts (list_marks es ++ sign kinds.Becomes ∷ ex_marks g ++ sign kinds.CloseBracket ∷ bracket_marks bs)

after_into : (bs : Brackets) (ts : List Tok) → Branch (a_sign kinds.OpenBracket) AfterBracket (Empty NoBracket) bs ts → ARow bs ts
after_into NoBracket ts (inl h) = absurd h.5
after_into NoBracket ts (inr h) = (tt, rw h.1 tt)
after_into (Select q es bs) ts (inl h) = let w = sign_some kinds.OpenBracket refl h.0 h.2 h.4 in let f : Fits (h.0 ∷ h.1) (bracket_marks (Select q es bs)) = ((w.0, tt, w.1 ∙ sym h.5.0), h.5.2) in (h.5.1, rw h.3 f)
after_into (Select q es bs) ts (inr h) = let c : Select q es bs ≡ NoBracket = h.0 in absurd cc
after_into (Update q es g bs) ts (inl h) = let w = sign_some kinds.OpenBracket refl h.0 h.2 h.4 in let f : Fits (h.0 ∷ h.1) (bracket_marks (Update q es g bs)) = ((w.0, tt, w.1 ∙ sym h.5.0), h.5.2) in (h.5.1, rw h.3 f)
after_into (Update q es g bs) ts (inr h) = let c : Update q es g bs ≡ NoBracket = h.0 in absurd cc

after_out : (bs : Brackets) (ts : List Tok) → ARow bs ts → Branch (a_sign kinds.OpenBracket) AfterBracket (Empty NoBracket) bs ts
after_out NoBracket ts h = inr (refl, fits_none ts h.1)
after_out (Select q es bs) ts h = let f = fits_first ts (sign_at q kinds.OpenBracket) (list_marks es ++ sign kinds.CloseBracket ∷ bracket_marks bs) h.1 in inl (f.0, f.1, f.0.pos, f.2, sign_back kinds.OpenBracket refl f.0 f.3.0, (sym f.3.2, h.0, f.4))
after_out (Update q es g bs) ts h = let f = fits_first ts (sign_at q kinds.OpenBracket) (list_marks es ++ sign kinds.Becomes ∷ ex_marks g ++ sign kinds.CloseBracket ∷ bracket_marks bs) h.1 in inl (f.0, f.1, f.0.pos, f.2, sign_back kinds.OpenBracket refl f.0 f.3.0, (sym f.3.2, h.0, f.4))

module _ (n d : ℕ) where
  off_free : {B : Type 0} (g : Tok → Option B) (F : Tok → Bool) (rest : (t : Tok) → F t ≡ true → g t ≡ None) (x : List Tok) → Passes F x → Free g x
  off_free g F rest [] h = tt
  off_free g F rest (t ∷ x) h = rest t h

  brackets_good : (inner : Option (Reader Ex)) → Inner n d inner → Good n d (ends 7) ARow (brackets_at n inner)
  brackets_good None h = same_good n d (ends 7) (Branch (a_sign kinds.OpenBracket) AfterBracket (Empty NoBracket)) ARow (brackets_at n None)
      (sink_good n d (ends 7) (a_sign kinds.OpenBracket) AfterBracket (Empty NoBracket) (nothing NoBracket) (nothing_good n d (ends 7) NoBracket) (λ v front x l o. rw l.1 (off_free (a_sign kinds.OpenBracket) (ends 7) bracket_off x o)) h
      (λ q k. (Select q (More (Truth q true) NoMore) NoBracket, sample kinds.True refl q ∷ sample kinds.CloseBracket refl start ∷ [], (refl, (λ c. cc, (tt, tt), tt), ((refl, tt, refl), ((refl, tt, tt), tt))))))
      after_into after_out
  brackets_good (Some P) h = via_good n d (ends 7) (Many (a_sign kinds.OpenBracket) InBracket) ARow (many (a_sign kinds.OpenBracket) (bracket_at n P) n) brackets_of
      (many_good (a_sign kinds.OpenBracket) InBracket n d h.0 (omega (arith, h.1)) (omega (arith, h.1)) (ends 7) (λ _. true) (bracket_at n P) (λ q k. bracket_good n h.0 P h.2 q) (λ t k. refl) (λ t q k. refl) bracket_off n (omega arith)) (row_into n h.0 P h.2) (row_out n h.0 P h.2)

  -- a name, and the arguments of a call
  abbrev Called : Pos × List ℕ → Ex → List Tok → Type 0
  Called b (Apply q x es) ts = (q ≡ b.0) × (x ≡ b.1) × Args es ts
  Called b _ ts = ⊥

  abbrev AfterName : Pos × List ℕ → Ex → List Tok → Type 0
  AfterName b (Named q x) ts = (q ≡ b.0) × (x ≡ b.1) × (ts ≡ [])
  AfterName b (Apply q x es) ts = (q ≡ b.0) × (x ≡ b.1) × AreExs es × Fits ts (sign kinds.Open ∷ list_marks es ++ sign kinds.Close ∷ [])
  AfterName b _ ts = ⊥

  name_into : (b : Pos × List ℕ) (e : Ex) (ts : List Tok) → Branch (a_sign kinds.Open) (λ _. Called b) (Empty (Named b.0 b.1)) e ts → AfterName b e ts
  name_into b e ts (inr h) = rw h.0 (refl, refl, h.1)
  name_into b (Apply q x es) ts (inl h) = let w = sign_some kinds.Open refl h.0 h.2 h.4 in let f : Fits (h.0 ∷ h.1) (sign kinds.Open ∷ list_marks es ++ sign kinds.Close ∷ []) = ((w.0, tt, tt), h.5.2.1) in (h.5.0, h.5.1, h.5.2.0, rw h.3 f)
  name_into b (Number q z) ts (inl h) = absurd h.5
  name_into b (Truth q z) ts (inl h) = absurd h.5
  name_into b (Named q z) ts (inl h) = absurd h.5
  name_into b (Old q e) ts (inl h) = absurd h.5
  name_into b (Parens q e) ts (inl h) = absurd h.5
  name_into b (Prefix q e) ts (inl h) = absurd h.5
  name_into b (Postfix e q) ts (inl h) = absurd h.5
  name_into b (Chain e q) ts (inl h) = absurd h.5

  name_out : (b : Pos × List ℕ) (e : Ex) (ts : List Tok) → AfterName b e ts → Branch (a_sign kinds.Open) (λ _. Called b) (Empty (Named b.0 b.1)) e ts
  name_out b (Named q x) ts h = inr (rw (h.0, h.1) refl, h.2)
  name_out b (Apply q x es) ts h = let f = fits_first ts (sign kinds.Open) (list_marks es ++ sign kinds.Close ∷ []) h.3 in inl (f.0, f.1, f.0.pos, f.2, sign_back kinds.Open refl f.0 f.3.0, (h.0, h.1, (h.2, f.4)))
  name_out b (Number q z) ts h = absurd h
  name_out b (Truth q z) ts h = absurd h
  name_out b (Old q e) ts h = absurd h
  name_out b (Parens q e) ts h = absurd h
  name_out b (Prefix q e) ts h = absurd h
  name_out b (Postfix e q) ts h = absurd h
  name_out b (Chain e q) ts h = absurd h

  called_out : (b : Pos × List ℕ) (w : Ex) (ts : List Tok) → Called b w ts → (v : Exs) × (Apply b.0 b.1 v ≡ w) × Args v ts
  called_out b (Apply q x es) ts h = (es, rw (h.0, h.1) refl, h.2)
  called_out b (Number q z) ts h = absurd h
  called_out b (Truth q z) ts h = absurd h
  called_out b (Named q z) ts h = absurd h
  called_out b (Old q e) ts h = absurd h
  called_out b (Parens q e) ts h = absurd h
  called_out b (Prefix q e) ts h = absurd h
  called_out b (Postfix e q) ts h = absurd h
  called_out b (Chain e q) ts h = absurd h

  open_off_kind : (k : Kind) → below 8 (reach k) ≡ true → is_kind kinds.Open k ≡ false
  open_off_kind kinds.Open h = absurd cc
  open_off_kind _ h = refl

  open_off : (t : Tok) → ends 8 t ≡ true → a_sign kinds.Open t ≡ None
  open_off t h = rw (open_off_kind t.kind h) refl

  call_free : (b : Pos × List ℕ) (v : Ex) (front x : List Tok) → Empty (Named b.0 b.1) v front → Passes (ends 8) x → Free (a_sign kinds.Open) (front ++ x)
  call_free b v front x l o = rw l.1 (off_free (a_sign kinds.Open) (ends 8) open_off x o)

  call_good : (inner : Option (Reader Ex)) → Inner n d inner → (b : Pos × List ℕ) → Good n d (ends 8) (AfterName b) (call_at n inner b)
  call_good None h b = same_good n d (ends 8) (Branch (a_sign kinds.Open) (λ _. Called b) (Empty (Named b.0 b.1))) (AfterName b) (call_at n None b)
      (sink_good n d (ends 8) (a_sign kinds.Open) (λ _. Called b) (Empty (Named b.0 b.1)) (nothing (Named b.0 b.1)) (nothing_good n d (ends 8) (Named b.0 b.1)) (call_free b) h
      (λ q k. (Apply b.0 b.1 NoMore, sample kinds.Close refl start ∷ [], (refl, refl, (tt, ((refl, tt, tt), tt))))))
      (name_into b) (name_out b)
  call_good (Some P) h b = same_good n d (ends 8) (Branch (a_sign kinds.Open) (λ _. Called b) (Empty (Named b.0 b.1))) (AfterName b) (call_at n (Some P) b)
      (branch_good n d (ends 8) (a_sign kinds.Open) (λ _. Called b) (Empty (Named b.0 b.1)) (nothing (Named b.0 b.1)) (nothing_good n d (ends 8) (Named b.0 b.1)) (call_free b) n h.0 (λ _. true) (λ _ ts. with_read (Apply b.0 b.1) (args_at n P ts))
      (λ q k. via_good n h.0 (λ _. true) Args (Called b) (args_at n P) (Apply b.0 b.1) (args_good n h.0 P h.2) (λ v ts l. (refl, refl, l)) (called_out b))
      (omega arith) (omega (arith, h.1)) (λ t k. refl))
      (name_into b) (name_out b)

  -- an expression and the closing sign
  abbrev Closed : Ex → List Tok → Type 0
  Closed e ts = IsEx e × Fits ts (ex_marks e ++ sign kinds.Close ∷ [])

  closed_some : Begins Closed []
  closed_some = (Truth start true, sample kinds.True refl start ∷ sample kinds.Close refl start ∷ [], (tt, ((refl, tt, refl), ((refl, tt, tt), tt))))

  closed_good : (e : ℕ) (P : Reader Ex) → Good n e (ends 0) (SpellsAt 0) P → Good n e (ends 8) Closed (closed P)
  closed_good e P p = via_good n e (ends 8) (Both (SpellsAt 0) (One (a_sign kinds.Close))) Closed (both P (one (a_sign kinds.Close))) (λ v. v.0)
      (both_good n e (ends 0) (ends 8) (SpellsAt 0) (One (a_sign kinds.Close)) P (one (a_sign kinds.Close)) p (sign_good kinds.Close refl n e (ends 8) start)
      (λ q front x l o. let w = sign_some kinds.Close refl l.0 q l.2 in rw l.1 (rw w.0 refl)))
      (λ v ts l. (l.3.0, rw l.2 (fits_append l.0 l.1 (ex_marks v.0) (sign kinds.Close ∷ []) l.3.2 (sign_fits kinds.Close refl l.1 v.1 l.4))))
      (λ w ts l.
      let c = fits_split ts (ex_marks w) (sign kinds.Close ∷ []) l.1 in
      let k = fits_sign kinds.Close refl c.1 c.4 in
      ((w, k.0), refl, (c.0, c.1, c.2, (l.0, omega arith, c.3), k.1)))

  enclosed_good : (inner : Option (Reader Ex)) → Inner n d inner → Good n d (ends 8) (Both (One (a_sign kinds.Open)) Closed) (enclosed inner)
  enclosed_good None h = subst (λ j. Good n j (ends 8) (Both (One (a_sign kinds.Open)) Closed) (enclosed None)) (sym h) (sunk_good n (ends 8) (a_sign kinds.Open) Closed (sample kinds.Open refl start) start (sample_sign kinds.Open refl start) closed_some)
  enclosed_good (Some P) h = must_good n d n h.0 (ends 8) (a_sign kinds.Open) Closed (closed P) (closed_good h.0 P h.2) (omega arith) (omega (arith, h.1)) (sample kinds.Open refl start) start (sample_sign kinds.Open refl start)

  -- old, from its bracket on
  abbrev AfterOld : Pos → Ex → List Tok → Type 0
  AfterOld p (Old q e) ts = (q ≡ p) × IsEx e × Fits ts (sign kinds.Open ∷ ex_marks e ++ sign kinds.Close ∷ [])
  AfterOld p _ ts = ⊥

  old_out : (p : Pos) (w : Ex) (ts : List Tok) → AfterOld p w ts → (v : Pos × Ex) × (Old p v.1 ≡ w) × Both (One (a_sign kinds.Open)) Closed v ts
  old_out p (Old q e) ts h =
      let f = fits_first ts (sign kinds.Open) (ex_marks e ++ sign kinds.Close ∷ []) h.2 in
      ((f.0.pos, e), rw h.0 refl, (f.0 ∷ [], f.1, f.2, (f.0, refl, sign_back kinds.Open refl f.0 f.3.0), (h.1, f.4)))
  old_out p (Number q z) ts h = absurd h
  old_out p (Truth q z) ts h = absurd h
  old_out p (Named q z) ts h = absurd h
  old_out p (Apply q z es) ts h = absurd h
  old_out p (Parens q e) ts h = absurd h
  old_out p (Prefix q e) ts h = absurd h
  old_out p (Postfix e q) ts h = absurd h
  old_out p (Chain e q) ts h = absurd h

  old_into : (p : Pos) (v : Pos × Ex) (ts : List Tok) → Both (One (a_sign kinds.Open)) Closed v ts → AfterOld p (Old p v.1) ts
  old_into p v ts l =
      let w = sign_some kinds.Open refl l.3.0 v.0 l.3.2 in
      let f : Fits (l.3.0 ∷ l.1) (sign kinds.Open ∷ ex_marks v.1 ++ sign kinds.Close ∷ []) = ((w.0, tt, tt), l.4.1) in
      (refl, l.4.0, rw (l.2, l.3.1) f)

  old_good : (inner : Option (Reader Ex)) → Inner n d inner → (p : Pos) → Good n d (ends 8) (AfterOld p) (old_at inner p)
  old_good inner h p = via_good n d (ends 8) (Both (One (a_sign kinds.Open)) Closed) (AfterOld p) (enclosed inner) (λ v. Old p v.1) (enclosed_good inner h) (old_into p) (old_out p)

  -- parentheses, numbers and truth values
  abbrev AfterOpen : Pos → Ex → List Tok → Type 0
  AfterOpen p (Parens q e) ts = (q ≡ p) × Closed e ts
  AfterOpen p _ ts = ⊥

  abbrev Rest : Ex → List Tok → Type 0
  Rest (Parens q e) ts = IsEx e × Fits ts (ex_marks (Parens q e))
  Rest (Number q z) ts = Fits ts (ex_marks (Number q z))
  Rest (Truth q b) ts = Fits ts (ex_marks (Truth q b))
  Rest _ ts = ⊥

  open_out : (p : Pos) (w : Ex) (ts : List Tok) → AfterOpen p w ts → (v : Ex) × (Parens p v ≡ w) × Closed v ts
  open_out p (Parens q e) ts h = (e, rw h.0 refl, h.1)
  open_out p (Old q e) ts h = absurd h
  open_out p (Number q z) ts h = absurd h
  open_out p (Truth q z) ts h = absurd h
  open_out p (Named q z) ts h = absurd h
  open_out p (Apply q z es) ts h = absurd h
  open_out p (Prefix q e) ts h = absurd h
  open_out p (Postfix e q) ts h = absurd h
  open_out p (Chain e q) ts h = absurd h

  plain_rest : (k : Kind) (t : Tok) (v : Ex) → t.kind ≡ k → plain_by k t.pos ≡ Some v → Rest v (t ∷ [])
  plain_rest (kinds.Number z) t v e h = subst (λ w. Rest w (t ∷ [])) (some_eq (Number t.pos z) v h) ((e, tt, refl), tt)
  plain_rest kinds.True t v e h = subst (λ w. Rest w (t ∷ [])) (some_eq (Truth t.pos true) v h) ((e, tt, refl), tt)
  plain_rest kinds.False t v e h = subst (λ w. Rest w (t ∷ [])) (some_eq (Truth t.pos false) v h) ((e, tt, refl), tt)
  plain_rest _ t v e h = absurd cc

  plain_open : (k : Kind) (p : Pos) (v : Ex) → plain_by k p ≡ Some v → is_kind kinds.Open k ≡ false
  plain_open kinds.Open p v h = absurd cc
  plain_open _ p v h = refl

  rest_into : (e : Ex) (ts : List Tok) → Branch (a_sign kinds.Open) AfterOpen (One plain) e ts → Rest e ts
  rest_into e ts (inr h) = rw h.1 (plain_rest h.0.kind h.0 e refl h.2)
  rest_into (Parens q e) ts (inl h) = let w = sign_some kinds.Open refl h.0 h.2 h.4 in let f : Fits (h.0 ∷ h.1) (ex_marks (Parens q e)) = ((w.0, tt, w.1 ∙ sym h.5.0), h.5.1.1) in (h.5.1.0, rw h.3 f)
  rest_into (Number q z) ts (inl h) = absurd h.5
  rest_into (Truth q z) ts (inl h) = absurd h.5
  rest_into (Named q z) ts (inl h) = absurd h.5
  rest_into (Apply q z es) ts (inl h) = absurd h.5
  rest_into (Old q e) ts (inl h) = absurd h.5
  rest_into (Prefix q e) ts (inl h) = absurd h.5
  rest_into (Postfix e q) ts (inl h) = absurd h.5
  rest_into (Chain e q) ts (inl h) = absurd h.5

  rest_out : (e : Ex) (ts : List Tok) → Rest e ts → Branch (a_sign kinds.Open) AfterOpen (One plain) e ts
  rest_out (Parens q e) ts h = let f = fits_first ts (sign_at q kinds.Open) (ex_marks e ++ sign kinds.Close ∷ []) h.1 in inl (f.0, f.1, f.0.pos, f.2, sign_back kinds.Open refl f.0 f.3.0, (sym f.3.2, (h.0, f.4)))
  rest_out (Number q z) ts h = let f = fits_first ts (sign_at q (kinds.Number z)) [] h in inr (f.0, f.2 ∙ ap (λ l. f.0 ∷ l) (fits_none f.1 f.4), rw (f.3.0, f.3.2) refl)
  rest_out (Truth q true) ts h = let f = fits_first ts (sign_at q kinds.True) [] h in inr (f.0, f.2 ∙ ap (λ l. f.0 ∷ l) (fits_none f.1 f.4), rw (f.3.0, f.3.2) refl)
  rest_out (Truth q false) ts h = let f = fits_first ts (sign_at q kinds.False) [] h in inr (f.0, f.2 ∙ ap (λ l. f.0 ∷ l) (fits_none f.1 f.4), rw (f.3.0, f.3.2) refl)
  rest_out (Named q z) ts h = absurd h
  rest_out (Apply q z es) ts h = absurd h
  rest_out (Old q e) ts h = absurd h
  rest_out (Prefix q e) ts h = absurd h
  rest_out (Postfix e q) ts h = absurd h
  rest_out (Chain e q) ts h = absurd h

  plain_good : Good n d (ends 8) (One plain) (one plain)
  plain_good = one_good n d (ends 8) plain true_token (Truth start true) refl

  plain_free : (v : Ex) (front x : List Tok) → One plain v front → Passes (ends 8) x → Free (a_sign kinds.Open) (front ++ x)
  plain_free v front x l o = rw (l.1, plain_open l.0.kind l.0.pos v l.2) refl

  parens_good : (inner : Option (Reader Ex)) → Inner n d inner → Good n d (ends 8) Rest (parens_at inner)
  parens_good None h = same_good n d (ends 8) (Branch (a_sign kinds.Open) AfterOpen (One plain)) Rest (parens_at None)
      (sink_good n d (ends 8) (a_sign kinds.Open) AfterOpen (One plain) (one plain) plain_good plain_free h (λ q k. (Parens q closed_some.0, closed_some.1, (refl, closed_some.2))))
      rest_into rest_out
  parens_good (Some P) h = same_good n d (ends 8) (Branch (a_sign kinds.Open) AfterOpen (One plain)) Rest (parens_at (Some P))
      (branch_good n d (ends 8) (a_sign kinds.Open) AfterOpen (One plain) (one plain) plain_good plain_free n h.0 (ends 8) (λ p ts. with_read (Parens p) (closed P ts))
      (λ q k. via_good n h.0 (ends 8) Closed (AfterOpen q) (closed P) (Parens q) (closed_good h.0 P h.2) (λ v ts l. (refl, l)) (open_out q))
      (omega arith) (omega (arith, h.1)) (λ t k. k))
      rest_into rest_out

  -- old, or the rest
  abbrev OldOrRest : Ex → List Tok → Type 0
  OldOrRest = Branch (a_sign kinds.Old) AfterOld Rest

  rest_free : (e : Ex) (front x : List Tok) → Rest e front → Passes (ends 8) x → Free (a_sign kinds.Old) (front ++ x)
  rest_free (Parens q e) front x l o = let f = fits_first front (sign_at q kinds.Open) (ex_marks e ++ sign kinds.Close ∷ []) l.1 in rw (f.2, f.3.0) refl
  rest_free (Number q z) front x l o = let f = fits_first front (sign_at q (kinds.Number z)) [] l in rw (f.2, f.3.0) refl
  rest_free (Truth q true) front x l o = let f = fits_first front (sign_at q kinds.True) [] l in rw (f.2, f.3.0) refl
  rest_free (Truth q false) front x l o = let f = fits_first front (sign_at q kinds.False) [] l in rw (f.2, f.3.0) refl
  rest_free (Named q z) front x l o = absurd l
  rest_free (Apply q z es) front x l o = absurd l
  rest_free (Old q e) front x l o = absurd l
  rest_free (Prefix q e) front x l o = absurd l
  rest_free (Postfix e q) front x l o = absurd l
  rest_free (Chain e q) front x l o = absurd l

  old_or_rest_good : (inner : Option (Reader Ex)) → Inner n d inner → Good n d (ends 8) OldOrRest (branch (a_sign kinds.Old) (old_at inner) (parens_at inner))
  old_or_rest_good inner h = branch_good n d (ends 8) (a_sign kinds.Old) AfterOld Rest (parens_at inner) (parens_good inner h) rest_free n d (ends 8) (old_at inner) (λ q k. old_good inner h q) (omega arith) (omega arith) (λ t k. k)

  not_named : (e : Ex) (front x : List Tok) → OldOrRest e front → Passes (ends 8) x → Free a_name (front ++ x)
  not_named e front x (inl h) o = let w = sign_some kinds.Old refl h.0 h.2 h.4 in rw (h.3, w.0) refl
  not_named (Parens q e) front x (inr l) o = let f = fits_first front (sign_at q kinds.Open) (ex_marks e ++ sign kinds.Close ∷ []) l.1 in rw (f.2, f.3.0) refl
  not_named (Number q z) front x (inr l) o = let f = fits_first front (sign_at q (kinds.Number z)) [] l in rw (f.2, f.3.0) refl
  not_named (Truth q true) front x (inr l) o = let f = fits_first front (sign_at q kinds.True) [] l in rw (f.2, f.3.0) refl
  not_named (Truth q false) front x (inr l) o = let f = fits_first front (sign_at q kinds.False) [] l in rw (f.2, f.3.0) refl
  not_named (Named q z) front x (inr l) o = absurd l
  not_named (Apply q z es) front x (inr l) o = absurd l
  not_named (Old q e) front x (inr l) o = absurd l
  not_named (Prefix q e) front x (inr l) o = absurd l
  not_named (Postfix e q) front x (inr l) o = absurd l
  not_named (Chain e q) front x (inr l) o = absurd l

  abbrev Parts : Ex → List Tok → Type 0
  Parts = Branch a_name AfterName OldOrRest

  atom_into : (e : Ex) (ts : List Tok) → Parts e ts → SpellsAt 8 e ts
  atom_into (Number q z) ts (inr (inr h)) = (tt, omega arith, h)
  atom_into (Truth q b) ts (inr (inr h)) = (tt, omega arith, h)
  atom_into (Parens q e) ts (inr (inr h)) = (h.0, omega arith, h.1)
  atom_into (Old q e) ts (inr (inl h)) = let w = sign_some kinds.Old refl h.0 h.2 h.4 in let f : Fits (h.0 ∷ h.1) (ex_marks (Old q e)) = ((w.0, tt, w.1 ∙ sym h.5.0), h.5.2) in (h.5.1, omega arith, rw h.3 f)
  atom_into (Named q x) ts (inl h) = let w = name_some h.0 h.2 h.4 in let f : Fits (h.0 ∷ []) (ex_marks (Named q x)) = ((w.0, w.1 ∙ sym h.5.1, w.2 ∙ sym h.5.0), tt) in (tt, omega arith, rw (h.3, h.5.2) f)
  atom_into (Apply q x es) ts (inl h) = let w = name_some h.0 h.2 h.4 in let f : Fits (h.0 ∷ h.1) (ex_marks (Apply q x es)) = ((w.0, w.1 ∙ sym h.5.1, w.2 ∙ sym h.5.0), h.5.3) in (h.5.2, omega arith, rw h.3 f)
  atom_into (Number q z) ts (inl h) = absurd h.5
  atom_into (Number q z) ts (inr (inl h)) = absurd h.5
  atom_into (Truth q z) ts (inl h) = absurd h.5
  atom_into (Truth q z) ts (inr (inl h)) = absurd h.5
  atom_into (Parens q z) ts (inl h) = absurd h.5
  atom_into (Parens q z) ts (inr (inl h)) = absurd h.5
  atom_into (Old q z) ts (inl h) = absurd h.5
  atom_into (Old q z) ts (inr (inr h)) = absurd h
  atom_into (Named q z) ts (inr (inl h)) = absurd h.5
  atom_into (Named q z) ts (inr (inr h)) = absurd h
  atom_into (Apply q z es) ts (inr (inl h)) = absurd h.5
  atom_into (Apply q z es) ts (inr (inr h)) = absurd h
  atom_into (Prefix q e) ts (inl h) = absurd h.5
  atom_into (Prefix q e) ts (inr (inl h)) = absurd h.5
  atom_into (Prefix q e) ts (inr (inr h)) = absurd h
  atom_into (Postfix e q) ts (inl h) = absurd h.5
  atom_into (Postfix e q) ts (inr (inl h)) = absurd h.5
  atom_into (Postfix e q) ts (inr (inr h)) = absurd h
  atom_into (Chain e q) ts (inl h) = absurd h.5
  atom_into (Chain e q) ts (inr (inl h)) = absurd h.5
  atom_into (Chain e q) ts (inr (inr h)) = absurd h

  name_back : (t : Tok) (q : Pos) (x : List ℕ) → Is t (name_at q x) → a_name t ≡ Some (q, x)
  name_back t q x h = rw (h.0, h.1, h.2) refl

  atom_out : (e : Ex) (ts : List Tok) → SpellsAt 8 e ts → Parts e ts
  atom_out (Number q z) ts h = inr (inr h.2)
  atom_out (Truth q b) ts h = inr (inr h.2)
  atom_out (Parens q e) ts h = inr (inr (h.0, h.2))
  atom_out (Old q e) ts h = let f = fits_first ts (sign_at q kinds.Old) (sign kinds.Open ∷ ex_marks e ++ sign kinds.Close ∷ []) h.2 in inr (inl (f.0, f.1, f.0.pos, f.2, sign_back kinds.Old refl f.0 f.3.0, (sym f.3.2, h.0, f.4)))
  atom_out (Named q x) ts h = let f = fits_first ts (name_at q x) [] h.2 in inl (f.0, f.1, (q, x), f.2, name_back f.0 q x f.3, (refl, refl, fits_none f.1 f.4))
  atom_out (Apply q x es) ts h = let f = fits_first ts (name_at q x) (sign kinds.Open ∷ list_marks es ++ sign kinds.Close ∷ []) h.2 in inl (f.0, f.1, (q, x), f.2, name_back f.0 q x f.3, (refl, refl, h.0, f.4))
  atom_out (Prefix q e) ts h = absurd (omega (arith, h.1))
  atom_out (Postfix e q) ts h = absurd (omega (arith, h.1))
  atom_out (Chain e NoLink) ts h = absurd h.0.1
  atom_out (Chain e (Link q s f links)) ts h = absurd (let b = grade_low s in omega (arith, h.1, b))

  pub atom_good : (inner : Option (Reader Ex)) → Inner n d inner → Good n d (ends 8) (SpellsAt 8) (atom_at n inner)
  unfolding atom_at
  atom_good inner h = same_good n d (ends 8) Parts (SpellsAt 8) (atom_at n inner)
      (branch_good n d (ends 8) a_name AfterName OldOrRest (branch (a_sign kinds.Old) (old_at inner) (parens_at inner)) (old_or_rest_good inner h) not_named n d (ends 8) (call_at n inner) (λ b k. call_good inner h b) (omega arith) (omega arith) (λ t k. k))
      atom_into atom_out

  -- brackets behind an atom
  row_passes : (bs : Brackets) (front x : List Tok) → ARow bs front → Passes (ends 7) x → Passes (ends 8) (front ++ x)
  row_passes NoBracket front [] l o = rw (fits_none front l.1) tt
  row_passes NoBracket front (t ∷ x) l o = rw (fits_none front l.1) (ends_more 7 8 t (omega arith) o)
  row_passes (Select q es bs) front x l o = let f = fits_first front (sign_at q kinds.OpenBracket) (list_marks es ++ sign kinds.CloseBracket ∷ bracket_marks bs) l.1 in rw (f.2, f.3.0) refl
  row_passes (Update q es g bs) front x l o = let f = fits_first front (sign_at q kinds.OpenBracket) (list_marks es ++ sign kinds.Becomes ∷ ex_marks g ++ sign kinds.CloseBracket ∷ bracket_marks bs) l.1 in rw (f.2, f.3.0) refl

  postfix_into : (e : Ex) (bs : Brackets) (ts : List Tok) → Both (SpellsAt 8) ARow (e, bs) ts → SpellsAt 7 (postfix_of e bs) ts
  postfix_into e NoBracket ts h = (h.3.0, omega (arith, h.3.1), rw (h.2, fits_none h.1 h.4.1, append-nil) h.3.2)
  postfix_into e (Select q es bs) ts h = ((λ c. cc, h.3.0, h.3.1, h.4.0), omega arith, rw h.2 (fits_append h.0 h.1 (ex_marks e) (bracket_marks (Select q es bs)) h.3.2 h.4.1))
  postfix_into e (Update q es g bs) ts h = ((λ c. cc, h.3.0, h.3.1, h.4.0), omega arith, rw h.2 (fits_append h.0 h.1 (ex_marks e) (bracket_marks (Update q es g bs)) h.3.2 h.4.1))

  abbrev PostfixParts : Ex → List Tok → Type 0
  PostfixParts w ts = (v : Ex × Brackets) × (postfix_of v.0 v.1 ≡ w) × Both (SpellsAt 8) ARow v ts

  unmarked : (w : Ex) (ts : List Tok) → SpellsAt 8 w ts → PostfixParts w ts
  unmarked w ts h = ((w, NoBracket), refl, (ts, [], sym (append-nil ts), h, (tt, tt)))

  postfix_out : (w : Ex) (ts : List Tok) → SpellsAt 7 w ts → PostfixParts w ts
  postfix_out (Number q z) ts h = unmarked (Number q z) ts (h.0, omega arith, h.2)
  postfix_out (Truth q b) ts h = unmarked (Truth q b) ts (h.0, omega arith, h.2)
  postfix_out (Named q x) ts h = unmarked (Named q x) ts (h.0, omega arith, h.2)
  postfix_out (Apply q x es) ts h = unmarked (Apply q x es) ts (h.0, omega arith, h.2)
  postfix_out (Old q e) ts h = unmarked (Old q e) ts (h.0, omega arith, h.2)
  postfix_out (Parens q e) ts h = unmarked (Parens q e) ts (h.0, omega arith, h.2)
  postfix_out (Prefix q e) ts h = absurd (omega (arith, h.1))
  postfix_out (Postfix e NoBracket) ts h = absurd (h.0.0 refl)
  postfix_out (Postfix e (Select q es bs)) ts h = let c = fits_split ts (ex_marks e) (bracket_marks (Select q es bs)) h.2 in ((e, Select q es bs), refl, (c.0, c.1, c.2, (h.0.1, h.0.2, c.3), (h.0.3, c.4)))
  postfix_out (Postfix e (Update q es g bs)) ts h = let c = fits_split ts (ex_marks e) (bracket_marks (Update q es g bs)) h.2 in ((e, Update q es g bs), refl, (c.0, c.1, c.2, (h.0.1, h.0.2, c.3), (h.0.3, c.4)))
  postfix_out (Chain e NoLink) ts h = absurd h.0.1
  postfix_out (Chain e (Link q s f links)) ts h = absurd (let b = grade_low s in omega (arith, h.1, b))

  pub postfix_good : (inner : Option (Reader Ex)) → Inner n d inner → Good n d (ends 7) (SpellsAt 7) (postfix_at n inner)
  unfolding postfix_at
  postfix_good inner h = via_good n d (ends 7) (Both (SpellsAt 8) ARow) (SpellsAt 7) (both (atom_at n inner) (brackets_at n inner)) (λ v. postfix_of v.0 v.1)
      (both_good n d (ends 8) (ends 7) (SpellsAt 8) ARow (atom_at n inner) (brackets_at n inner) (atom_good inner h) (brackets_good inner h) row_passes)
      (λ v ts l. postfix_into v.0 v.1 ts l) postfix_out

  -- prefix signs
  abbrev no_prefix_kind : Kind → Bool
  no_prefix_kind kinds.Not = false
  no_prefix_kind kinds.Minus = false
  no_prefix_kind _ = true

  abbrev no_prefix : Tok → Bool
  no_prefix t = no_prefix_kind t.kind

  no_prefix_none : (k : Kind) (p : Pos) → no_prefix_kind k ≡ true → prefix_by k p ≡ None
  no_prefix_none kinds.Not p h = absurd cc
  no_prefix_none kinds.Minus p h = absurd cc
  no_prefix_none _ p h = refl

  abbrev Unsigned : List Mark → Type 0
  Unsigned ms = (m : Mark) × (rest : List Mark) × (ms ≡ m ∷ rest) × (no_prefix_kind m.kind ≡ true)

  truth_unsigned : (b : Bool) → no_prefix_kind (truth_kind b) ≡ true
  truth_unsigned true = refl
  truth_unsigned false = refl

  unsigned : (e : Ex) → IsEx e → 7 ≤ level e → Unsigned (ex_marks e)
  unsigned (Number q z) h k = (sign_at q (kinds.Number z), [], refl, refl)
  unsigned (Truth q b) h k = (sign_at q (truth_kind b), [], refl, truth_unsigned b)
  unsigned (Named q x) h k = (name_at q x, [], refl, refl)
  unsigned (Apply q x es) h k = (name_at q x, _, refl, refl)
  unsigned (Old q e) h k = (sign_at q kinds.Old, _, refl, refl)
  unsigned (Parens q e) h k = (sign_at q kinds.Open, _, refl, refl)
  unsigned (Prefix q e) h k = absurd (omega (arith, k))
  unsigned (Postfix e bs) h k = let r = unsigned e h.1 (omega (arith, h.2)) in (r.0, r.1 ++ bracket_marks bs, ap (λ l. l ++ bracket_marks bs) r.2, r.3)
  unsigned (Chain e NoLink) h k = absurd h.1
  unsigned (Chain e (Link q s f links)) h k = absurd (let b = grade_low s in omega (arith, k, b))

  signs_meet : (e : Ex) (front x : List Tok) → SpellsAt 7 e front → Passes (ends 7) x → Passes no_prefix (front ++ x)
  signs_meet e front x l o =
      let u = unsigned e l.0 l.1 in
      let f = fits_first front u.0 u.1 (subst (Fits front) u.2 l.2) in
      rw (f.2, f.3.0) u.3

  abbrev ASign : TreePrefix → TreePrefix → List Tok → Type 0
  ASign b = Empty b

  prefix_some : (k : Kind) (p : Pos) (s : TreePrefix) → prefix_by k p ≡ Some s → (k ≡ prefix_kind s.sign) × (p ≡ s.pos)
  prefix_some kinds.Not p s h = let e : record { pos = p; sign = prefix.Not } ≡ s = some_eq (record { pos = p; sign = prefix.Not }) s h in (ap (λ (r : TreePrefix). prefix_kind r.sign) e, ap (λ (r : TreePrefix). r.pos) e)
  prefix_some kinds.Minus p s h = let e : record { pos = p; sign = prefix.Minus } ≡ s = some_eq (record { pos = p; sign = prefix.Minus }) s h in (ap (λ (r : TreePrefix). prefix_kind r.sign) e, ap (λ (r : TreePrefix). r.pos) e)
  prefix_some _ p s h = absurd cc

  prefix_back : (t : Tok) (s : TreePrefix) → Is t (prefix_mark s) → a_prefix t ≡ Some s
  prefix_back t s h = rw (h.0, h.2) (by s.pos s.sign)
    where
      by : (p : Pos) (g : PrefixSign) → prefix_by (prefix_kind g) p ≡ Some (record { pos = p; sign = g })
      by p prefix.Not = refl
      by p prefix.Minus = refl

  signs_into : (vs : List TreePrefix) (ts : List Tok) → Many a_prefix ASign vs ts → Fits ts (map prefix_mark vs)
  signs_into [] ts h = rw h tt
  signs_into (v ∷ vs) ts h =
      let w = prefix_some h.0.kind h.0.pos h.2 h.4 in
      let r = signs_into vs h.5.1 h.5.4 in
      let at : Is h.0 (prefix_mark v) = rw h.5.3.0 (w.0, tt, w.1) in
      let f : Fits (h.0 ∷ h.5.1) (map prefix_mark (v ∷ vs)) = (at, r) in
      rw (h.3, h.5.2, h.5.3.1) f

  signs_out : (vs : List TreePrefix) (ts : List Tok) → Fits ts (map prefix_mark vs) → Many a_prefix ASign vs ts
  signs_out [] ts h = fits_none ts h
  signs_out (v ∷ vs) ts h =
      let f = fits_first ts (prefix_mark v) (map prefix_mark vs) h in
      (f.0, f.1, v, f.2, prefix_back f.0 v f.3, ([], f.1, refl, (refl, refl), signs_out vs f.1 f.4))

  prefix_into : (vs : List TreePrefix) (e : Ex) (ts : List Tok) → Both (Many a_prefix ASign) (SpellsAt 7) (vs, e) ts → SpellsAt 6 (prefix_of vs e) ts
  prefix_into [] e ts h = (h.4.0, omega (arith, h.4.1), rw (h.2, h.3) h.4.2)
  prefix_into (v ∷ vs) e ts h = ((λ c. cc, h.4.0, h.4.1), omega arith, rw h.2 (fits_append h.0 h.1 (map prefix_mark (v ∷ vs)) (ex_marks e) (signs_into (v ∷ vs) h.0 h.3) h.4.2))

  abbrev PrefixParts : Ex → List Tok → Type 0
  PrefixParts w ts = (v : List TreePrefix × Ex) × (prefix_of v.0 v.1 ≡ w) × Both (Many a_prefix ASign) (SpellsAt 7) v ts

  no_signs : (w : Ex) (ts : List Tok) → SpellsAt 7 w ts → PrefixParts w ts
  no_signs w ts h = (([], w), refl, ([], ts, refl, refl, h))

  prefix_out : (w : Ex) (ts : List Tok) → SpellsAt 6 w ts → PrefixParts w ts
  prefix_out (Number q z) ts h = no_signs (Number q z) ts (h.0, omega arith, h.2)
  prefix_out (Truth q b) ts h = no_signs (Truth q b) ts (h.0, omega arith, h.2)
  prefix_out (Named q x) ts h = no_signs (Named q x) ts (h.0, omega arith, h.2)
  prefix_out (Apply q x es) ts h = no_signs (Apply q x es) ts (h.0, omega arith, h.2)
  prefix_out (Old q e) ts h = no_signs (Old q e) ts (h.0, omega arith, h.2)
  prefix_out (Parens q e) ts h = no_signs (Parens q e) ts (h.0, omega arith, h.2)
  prefix_out (Postfix e bs) ts h = no_signs (Postfix e bs) ts (h.0, omega arith, h.2)
  prefix_out (Prefix [] e) ts h = absurd (h.0.0 refl)
  prefix_out (Prefix (v ∷ vs) e) ts h = let c = fits_split ts (map prefix_mark (v ∷ vs)) (ex_marks e) h.2 in ((v ∷ vs, e), refl, (c.0, c.1, c.2, signs_out (v ∷ vs) c.0 c.3, (h.0.1, h.0.2, c.4)))
  prefix_out (Chain e NoLink) ts h = absurd h.0.1
  prefix_out (Chain e (Link q s f links)) ts h = absurd (let b = grade_low s in omega (arith, h.1, b))

  pub prefix_good : (inner : Option (Reader Ex)) → Inner n d inner → Good n d (ends 7) (SpellsAt 6) (prefix_at n inner)
  unfolding prefix_at
  prefix_good inner h = via_good n d (ends 7) (Both (Many a_prefix ASign) (SpellsAt 7)) (SpellsAt 6) (both (many a_prefix nothing n) (postfix_at n inner)) (λ v. prefix_of v.0 v.1)
      (both_good n d no_prefix (ends 7) (Many a_prefix ASign) (SpellsAt 7) (many a_prefix nothing n) (postfix_at n inner)
      (many_good a_prefix ASign n d d (omega arith) (omega arith) no_prefix (λ _. true) nothing (λ b k. nothing_good n d (λ _. true) b) (λ t k. refl) (λ t b k. refl) (λ t k. no_prefix_none t.kind t.pos k) n (omega arith))
      (postfix_good inner h) signs_meet)
      (λ v ts l. prefix_into v.0 v.1 ts l) prefix_out

  pub ladder_good : (inner : Option (Reader Ex)) → Inner n d inner → (rungs : ℕ) → rungs ≤ 6 → Good n d (ends (6 - rungs)) (SpellsAt (6 - rungs)) (ladder n inner rungs)
  unfolding ladder
  ladder_good inner h zero le = fewer_good n d n d (ends 7) (ends 6) (SpellsAt 6) (prefix_at n inner) (prefix_good inner h) (omega arith) (omega arith) (λ t k. ends_more 6 7 t (omega arith) k)
  ladder_good inner h (suc rungs) le =
      let up : 6 - rungs ≡ suc (5 - rungs) = omega (arith, le) in
      let here : 5 - rungs ≡ 6 - suc rungs = omega (arith, le) in
      let p : Good n d (ends (suc (5 - rungs))) (SpellsAt (suc (5 - rungs))) (ladder n inner rungs) = subst (λ j. Good n d (ends j) (SpellsAt j) (ladder n inner rungs)) up (ladder_good inner h rungs (omega (arith, le))) in
      subst (λ j. Good n d (ends j) (SpellsAt j) (ladder n inner (suc rungs))) here (chain_good n d (5 - rungs) (ladder n inner rungs) p (omega arith))

inner_good : (n d : ℕ) → Inner n d (inner_of n d)
unfolding inner_of
inner_good n zero = refl
inner_good n (suc d) = (d, refl, ladder_good n d (inner_of n d) (inner_good n d) 6 (omega arith))

-- Expressions are read exactly.
pub expr_good : (n d : ℕ) → Good n d (ends 0) (SpellsAt 0) (expr_at n d)
expr_good n d = ladder_good n d (inner_of n d) (inner_good n d) 6 (omega arith)
