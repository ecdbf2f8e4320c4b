-- Lists of which each item is made flat.
use Rattle.std.proofs.Common.{◌≡◌, ℕ, ◌+◌, ◌<◌, List, [], ◌∷◌, ◌++◌, length, get_or, take, map, refl, sym, ap, ◌∙◌}
use Rattle.bg_ast.specs.Values.{Ty}
use Rattle.bg_terms.specs.Terms.{Term}
use Rattle.bg_numbered.specs.Fair.{Grows}
use Rattle.bg_term_table.proofs.Loops.{read_more, read_last}
use Rattle.bg_flatten.specs.Makes.{Pairwise}
use Rattle.bg_flatten.specs.Numbered.{list_behind, list_numbered}
use Rattle.bg_flatten.specs.Made.{IsMade, AreMade}

module _ (A : Type 0) (Is : List Term → A → A → Type 0) (Fine : List Ty → A → Type 0) (keeps : (old new : List Term) (e x : A) → Grows old new → Is old e x → Is new e x) where
  abbrev pub AllAre : List Term → List A → List A → Type 0
  AllAre ts es xs = Pairwise (Is ts) es xs

  pub all_keep : (old new : List Term) (es xs : List A) → Grows old new → AllAre old es xs → AllAre new es xs
  all_keep old new [] [] g h = tt
  all_keep old new [] (x ∷ xs) g h = absurd h
  all_keep old new (e ∷ es) [] g h = absurd h
  all_keep old new (e ∷ es) (x ∷ xs) g h = (keeps old new e x g h.0, all_keep old new es xs g h.1)

-- ---- one more

module _ (A : Type 0) (f : A → List Term → List Term) (g : A → List Term → A) where
  behind_last : (es : List A) (e : A) (ts : List Term) → list_behind f (es ++ e ∷ []) ts ≡ f e (list_behind f es ts)
  behind_last [] e ts = refl
  behind_last (d ∷ es) e ts = behind_last es e (f d ts)

  numbered_last : (es : List A) (e : A) (ts : List Term) → list_numbered f g (es ++ e ∷ []) ts ≡ list_numbered f g es ts ++ g e (list_behind f es ts) ∷ []
  numbered_last [] e ts = refl
  numbered_last (d ∷ es) e ts = ap (λ l. g d ts ∷ l) (numbered_last es e (f d ts))

  made_more : (old mid new : List Term) (es ds xs ys : List A) (e x : A) → ds ≡ es ++ e ∷ [] → ys ≡ xs ++ x ∷ [] → AreMade f g es old xs mid → IsMade f g e mid x new → AreMade f g ds old ys new
  made_more old mid new es ds xs ys e x h k all w = (
    k
        ∙ ap (λ l. l ++ x ∷ []) all.0
        ∙ ap (λ y. list_numbered f g es old ++ y ∷ []) (w.0 ∙ ap (g e) all.1)
        ∙ sym (ap (λ l. list_numbered f g l old) h ∙ numbered_last es e old),
    w.1 ∙ ap (f e) all.1 ∙ sym (ap (λ l. list_behind f l old) h ∙ behind_last es e old),
  )

  -- a turn of a loop over what is read so
  pub made_step : (B : Type 0) (view : B → A) (old mid new : List Term) (xs : List B) (i : ℕ) (x : B) (made now : List B) (y : B) → i < length xs → x ≡ get_or xs i x → now ≡ made ++ y ∷ [] → AreMade f g (map view (take i xs)) old (map view made) mid → IsMade f g (view x) mid (view y) new → AreMade f g (map view (take (i + 1) xs)) old (map view now) new
  made_step B view old mid new xs i x made now y h e is all one =
      made_more old mid new (map view (take i xs)) (map view (take (i + 1) xs)) (map view made) (map view now) (view x) (view y) (read_more view xs i x h e) (read_last view now made y is) all one
