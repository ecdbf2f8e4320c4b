-- The file that a line names.
use Rattle.std.proofs.Common.{◌≡◌, ℕ, ◌+◌, ◌<◌, List, [], ◌++◌, length, map, get_or, Option, Some, None, slice_get, codes, refl, sym, ap, ◌∙◌, arith, length-append}
use Rattle.std.proofs.lemmas.List.{get_or-append-add}
use Rattle.std.proofs.lemmas.Option.{slice_get-get_or, slice_get_within, slice_get-map}
use Rattle.std.specs.Option.{option_map}
use Rattle.bg_io.specs.Causes.{counted, joined}
use Rattle.bg_ends.specs.Refused.{NamesFile}

-- the bytes of the name at a place
pub name_at : {A : Type 0} (text : A → List ℕ) (names : List A) (number : ℕ) (other : A) (name : List ℕ) → number < length names → name ≡ text (get_or names number other) → slice_get (map text names) number ≡ Some name
name_at text names number other name h e = slice_get-map text names number ∙ (ap (option_map text) (slice_get-get_or names number other h) ∙ ap Some (sym e))

-- a name behind others
get-behind : (names more : List (List ℕ)) (number : ℕ) → number < length more → slice_get (names ++ more) (length names + number) ≡ slice_get more number
get-behind names more number h =
    let none : List ℕ = [] in
    slice_get-get_or (names ++ more) (length names + number) none (omega (arith, h, length-append names more))
    ∙ (ap Some (get_or-append-add names more number none) ∙ sym (slice_get-get_or more number none h))

-- a count that n more were added to, and m more
counted-counted : (s : Option ℕ) (n m : ℕ) → counted (counted s n) m ≡ counted s (n + m)
counted-counted None n m = refl
counted-counted (Some count) n m = ap Some (omega arith)

-- a file that could not be read, behind files that were
pub names_behind : (names more : List (List ℕ)) (number : ℕ) (name : List ℕ) (starts between started : Option ℕ) (before now : Option (List ℕ)) (count : ℕ) → count ≡ length names → slice_get more number ≡ Some name → between ≡ counted starts count → started ≡ counted between (number + 1) → now ≡ joined before (codes "error: cannot read " ++ name ++ codes "\n") → NamesFile (names ++ more) starts started before now
names_behind names more number name starts between started before now count all there first second written =
    record {
      number = length names + number;
      name = name;
      there = get-behind names more number (slice_get_within more number name there) ∙ there;
      is = second ∙ (ap (λ (s : Option ℕ). counted s (number + 1)) first ∙ (counted-counted starts count (number + 1) ∙ ap (counted starts) (omega (arith, all))));
      written = written;
    }
