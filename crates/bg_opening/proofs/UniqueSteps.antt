-- One constant more, which is unique or not.
use Rattle.std.proofs.Common.{◌≡◌, ◌<◌, ◌+◌, ℕ, suc, Bool, true, false, List, [], ◌∷◌, ◌++◌, length, map, get_or, drop, refl, sym, ap, ◌∙◌, append_assoc}
use Rattle.std.specs.Prelude.{if◌then◌else◌}
use Rattle.std.proofs.lemmas.List.{drop_more}
use Rattle.bg_ast.specs.Values.{Ty}
use Rattle.bg_ast.specs.Meaning.{named_of, type_in}
use Rattle.bg_ast.specs.declared.resolved.TypeName.{TypeName}
use Rattle.bg_ast.specs.declared.resolved.Constant.{Constant}
use Rattle.bg_ast.specs.Views.{type_of, type_name_of}
use Rattle.bg_opened.specs.Unique.{uniques}
use Rattle.bg_opening.specs.Constants.{constants_in}

-- ---- lists

pub here : {A : Type 0} (xs : List A) (i : ℕ) (x : A) → i < length xs → x ≡ get_or xs i x → drop i xs ≡ x ∷ drop (i + 1) xs
here xs i x h e = drop_more xs i x h ∙ ap (λ y. y ∷ drop (i + 1) xs) (sym e)

-- one item, or none, in front of others
in_front : {A : Type 0} (b : Bool) (x : A) (xs : List A) → (if b then x ∷ [] else []) ++ xs ≡ (if b then x ∷ xs else xs)
in_front true x xs = refl
in_front false x xs = refl

-- ---- constants

module _ (types : List TypeName) where
  -- the type of a constant
  abbrev pub Held : Constant → Ty
  Held c = type_in (named_of (map type_name_of types)) (type_of c.ty)

  abbrev pub One : ℕ → Constant → List (ℕ × Ty)
  One k c = if c.is_unique then (k, Held c) ∷ [] else []

  abbrev Rest : ℕ → List Constant → List (ℕ × Ty)
  Rest k cs = uniques k (constants_in types cs)

  pub counted : (made new : List (ℕ × Ty)) (k next : ℕ) (cs : List Constant) (i : ℕ) (c : Constant) (whole : List (ℕ × Ty)) → i < length cs → c ≡ get_or cs i c → new ≡ made ++ One k c → next ≡ suc k → made ++ Rest k (drop i cs) ≡ whole → new ++ Rest next (drop (i + 1) cs) ≡ whole
  counted made new k next cs i c whole h e n m all =
      let later = drop (i + 1) cs in
      ap (λ l. l ++ Rest next later) n
      ∙ (ap (λ j. (made ++ One k c) ++ Rest j later) m
      ∙ (append_assoc made (One k c) (Rest (suc k) later)
      ∙ (ap (λ l. made ++ l) (in_front c.is_unique (k, Held c) (Rest (suc k) later))
      ∙ (ap (λ l. made ++ Rest k l) (sym (here cs i c h e)) ∙ all))))
