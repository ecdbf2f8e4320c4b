-- What the tables have of an implementation.
use Rattle.std.proofs.Common.{◌≡◌, ℕ, zero, suc, ◌<◌, true, List, [], ◌∷◌, length, get_or, refl, sym, ap, ◌∙◌, arith}
use Rattle.std.specs.Prelude.{slice_get}
use Rattle.std.proofs.lemmas.Bool.Decides.{nat_tests}
use Rattle.std.proofs.lemmas.List.{length-map}
use Rattle.bg_places.specs.Views.{placed_in}
use Rattle.bg_certtext.specs.Views.{SectionOf}
use Rattle.bg_accept.specs.Sections.{section_at}
use Rattle.bg_accept.specs.Tables.{places_in, number_at, numbers_of, counts, is_there, section_of_number, AreFirsts}
use Rattle.bg_accept.proofs.Filled.{Row, Places}

pub places_there : (all : List Places) (k : ℕ) (d : Places) → k < length all → placed_in (get_or all k d).items ≡ places_in all k
places_there [] k d l = absurd (omega arith)
places_there (x ∷ all) zero d l = refl
places_there (x ∷ all) (suc k) d l = places_there all k d (omega arith)

there_in : (all : List Places) (k i : ℕ) (d : Places) → k < length all → i < length (get_or all k d).items → is_there (counts all) k i ≡ true
there_in [] k i d l h = absurd (omega arith)
there_in (x ∷ all) zero i d l h = grind (arith, nat_tests)
there_in (x ∷ all) (suc k) i d l h = there_in all k i d (omega arith) h

numbers_there : (table : List Row) (k : ℕ) (d : Row) → k < length table → numbers_of (slice_get table k) ≡ (get_or table k d).items
numbers_there [] k d l = absurd (omega arith)
numbers_there (x ∷ table) zero d l = refl
numbers_there (x ∷ table) (suc k) d l = numbers_there table k d (omega arith)

pub rows_long : (ss : List SectionOf) (all : List Places) (table : List Row) → AreFirsts all ss table → length table ≡ length all
rows_long ss all table h =
    sym (length-map table (λ (v : Row). length v.items)) ∙ (ap length h.widths ∙ length-map all (λ (v : Places). length v.items))

pub row_here : (ss : List SectionOf) (all : List Places) (table : List Row) (k i : ℕ) (d : Places) (e : Row) → AreFirsts all ss table → k < length all → i < length (get_or all k d).items → section_of_number ss (number_at (slice_get (get_or table k e).items i)) ≡ section_at k i ss
row_here ss all table k i d e h l m =
    let long = rows_long ss all table h in
    let n : k < length table = omega (arith, long, l) in
    sym (ap (λ xs. section_of_number ss (number_at (slice_get xs i))) (numbers_there table k e n)) ∙ h.firsts k i (there_in all k i d l m)
