-- Marks whose positions are nowhere, and tokens put there.
use Rattle.std.proofs.Common.{◌≡◌, List, [], ◌∷◌, ◌++◌, map, refl, sym, ap, ◌∙◌, Option, Some, None}
use Rattle.std.specs.Prelude.{option_map}
use Rattle.std.proofs.lemmas.List.{map-append}
use Rattle.bg_base.specs.declared.pos.Pos.{Pos}
use Rattle.bg_text.specs.declared.token.Kind.TheVariants as kinds
use Rattle.bg_text.specs.Tokens.{Tok}
use Rattle.bg_text.specs.Marks.{Mark, sign, unplaced, Has, Is, Fits, Words, each, after_commas, commas, if_there}
use Rattle.bg_text.specs.Statements.{in_braces}
use Rattle.bg_expr.specs.Bare.{nowhere}
use Rattle.bg_reread.specs.Nowhere.{put_nowhere, all_nowhere}

-- the mark, at no place where it had one
abbrev pub stripped : Mark → Mark
stripped m = record { kind = m.kind; text = m.text; pos = option_map (λ p. nowhere) m.pos }

-- the first marks are the second ones, at no place
pub record Strips (xs ms : List Mark) : Type 0 where
  pub same : xs ≡ map stripped ms

pub none : Strips [] []
none = record { same = refl }

-- a mark, and others behind it
pub put : (m : Mark) {xs ms : List Mark} → Strips xs ms → Strips (stripped m ∷ xs) (m ∷ ms)
put m s = record { same = ap (λ l. stripped m ∷ l) s.same }

-- a mark alone
pub last : (m : Mark) → Strips (stripped m ∷ []) (m ∷ [])
last m = record { same = refl }

pub join : {xs ms ys ns : List Mark} → Strips xs ms → Strips ys ns → Strips (xs ++ ys) (ms ++ ns)
join {xs} {ms} {ys} {ns} s t = record { same = ap (λ l. l ++ ys) s.same ∙ ap (λ l. map stripped ms ++ l) t.same ∙ sym (map-append stripped ms ns) }

-- marks in braces
pub braces : {xs ms : List Mark} → Strips xs ms → Strips (in_braces xs) (in_braces ms)
braces s = join (put (sign kinds.OpenBrace) s) (last (sign kinds.CloseBrace))

pub each_strips : {A : Type 0} (f : A → List Mark) (g : A → A) → ((a : A) → Strips (f (g a)) (f a)) → (xs : List A) → Strips (each f (map g xs)) (each f xs)
each_strips f g h [] = none
each_strips f g h (a ∷ rest) = join (h a) (each_strips f g h rest)

after_strips : {A : Type 0} (f : A → List Mark) (g : A → A) → ((a : A) → Strips (f (g a)) (f a)) → (xs : List A) → Strips (after_commas f (map g xs)) (after_commas f xs)
after_strips f g h [] = none
after_strips f g h (a ∷ rest) = join (put (sign kinds.Comma) (h a)) (after_strips f g h rest)

pub commas_strip : {A : Type 0} (f : A → List Mark) (g : A → A) → ((a : A) → Strips (f (g a)) (f a)) → (xs : List A) → Strips (commas f (map g xs)) (commas f xs)
commas_strip f g h [] = none
commas_strip f g h (a ∷ rest) = join (h a) (after_strips f g h rest)

pub if_there_strips : {A : Type 0} (f : A → List Mark) (g : A → A) → ((a : A) → Strips (f (g a)) (f a)) → (x : Option A) → Strips (if_there f (option_map g x)) (if_there f x)
if_there_strips f g h None = none
if_there_strips f g h (Some a) = h a

stripped_is : (t : Tok) (m : Mark) → Is t (unplaced m) → Is (put_nowhere t) (stripped m)
stripped_is t m h = (h.0, h.1, nowhere_has m.pos)
  where
    nowhere_has : (o : Option Pos) → Has nowhere (option_map (λ p. nowhere) o)
    nowhere_has None = tt
    nowhere_has (Some p) = refl

-- tokens with these words are, put at no place, the marks at no place
pub stripped_fits : (ts : List Tok) (ms : List Mark) → Words ts ms → Fits (all_nowhere ts) (map stripped ms)
stripped_fits [] [] h = tt
stripped_fits [] (m ∷ ms) h = absurd h
stripped_fits (t ∷ ts) [] h = absurd h
stripped_fits (t ∷ ts) (m ∷ ms) h = (stripped_is t m h.0, stripped_fits ts ms h.1)

-- positions aren't words
pub stripped_words : (ms : List Mark) → map unplaced (map stripped ms) ≡ map unplaced ms
stripped_words [] = refl
stripped_words (m ∷ ms) = ap (λ l. unplaced m ∷ l) (stripped_words ms)
