-- Texts that grow by one file after the other, and counts that grow with them.
use Rattle.std.proofs.Common.{◌≡◌, ℕ, suc, ◌+◌, ◌<◌, ◌≤◌, List, [], ◌∷◌, ◌++◌, map, drop, length, get_or, Option, Some, None, Result, Ok, Err, refl, ap, append_assoc, add-one, arith, length-append, IfSome, IsErrAnd}
use Rattle.std.proofs.Math.Seq.{drop-cons}
use Rattle.std.proofs.lemmas.List.{append-nil, drop-map}
use Rattle.std.specs.List.{join_with_byte}
use Rattle.bg_io.specs.declared.errors.ReadError.{ReadError}
use Rattle.bg_io.specs.declared.errors.ReadError.TheVariants.{ReadFault, TooLong, Memory}
use Rattle.bg_io.specs.Causes.{Rose, counted, joined_text}
use Rattle.bg_io.specs.Errors.{IfReadFault, IfTooLong}
use Rattle.bg_io.specs.Reading.{with_rest, next_piece}

-- what a text that is too long implies
pub too_long_gives : (T U : Type 0) (P Q : ℕ → Type 0) (e : ReadError) → ((n : ℕ) → P n → Q n) → IfTooLong {T = T} (Err e) P → IfTooLong {T = U} (Err e) Q
too_long_gives T U P Q (ReadFault file) f h = tt
too_long_gives T U P Q (TooLong n) f h = f n h
too_long_gives T U P Q Memory f h = tt

-- the same where the error was handed on
pub too_long_handed : (T U : Type 0) (P Q : ℕ → Type 0) (e : ReadError) (r : Result U ReadError) → IsErrAnd r (λ given. given ≡ e) → ((n : ℕ) → P n → Q n) → IfTooLong {T = T} (Err e) P → IfTooLong {T = U} r Q
too_long_handed T U P Q e (Ok v) given f h = tt
too_long_handed T U P Q e (Err e') given f h = too_long_gives T U P Q e' f (rw given h)

-- what is known of a file that could not be read, where the error was handed on
fault_gives : (T U : Type 0) (P P' Q : ℕ → Type 0) (e : ReadError) → ((n : ℕ) → P n → P' n → Q n) → IfReadFault {T = T} (Err e) P → IfReadFault {T = T} (Err e) P' → IfReadFault {T = U} (Err e) Q
fault_gives T U P P' Q (ReadFault file) f h k = f file h k
fault_gives T U P P' Q (TooLong n) f h k = tt
fault_gives T U P P' Q Memory f h k = tt

pub fault_handed : (T U : Type 0) (P P' Q : ℕ → Type 0) (e : ReadError) (r : Result U ReadError) → IsErrAnd r (λ given. given ≡ e) → ((n : ℕ) → P n → P' n → Q n) → IfReadFault {T = T} (Err e) P → IfReadFault {T = T} (Err e) P' → IfReadFault {T = U} r Q
fault_handed T U P P' Q e (Ok v) given f h k = tt
fault_handed T U P P' Q e (Err e') given f h k = fault_gives T U P P' Q e' f (rw given h) (rw given k)

-- a count that rose later rose
pub rose_before : (a b now : ℕ) → a ≤ b → Rose b now → Rose a now
rose_before a b now l h = omega (arith, l, h)

-- a text that grew and is too long now was too long with all that was left
pub with_rest-longer : (limit m n : ℕ) (text before : List ℕ) (left' left : Option (List ℕ)) → m ≡ length text → n ≡ length before → with_rest text left' ≡ with_rest before left → IfSome left' (λ rest. limit < m + length rest) → IfSome left (λ rest. limit < n + length rest)
with_rest-longer limit m n text before None None l l' e over = tt
with_rest-longer limit m n text before (Some rest') None l l' e over = tt
with_rest-longer limit m n text before None (Some rest) l l' e over = cc
with_rest-longer limit m n text before (Some rest') (Some rest) l l' e over =
    let same : text ++ rest' ≡ before ++ rest = cc in
    omega (arith, length-append text rest', length-append before rest, ap length same)

-- a count that n more were added to, and m more
pub counted-zero : (s : Option ℕ) → counted s 0 ≡ s
counted-zero None = refl
counted-zero (Some count) = ap Some (omega arith)

pub counted-counted : (s : Option ℕ) (n m : ℕ) → counted (counted s n) m ≡ counted s (n + m)
counted-counted None n m = refl
counted-counted (Some count) n m = ap Some (omega arith)

-- what the files from this number on add
abbrev pub pieces_from : ℕ → List (List ℕ) → List ℕ
pieces_from file [] = []
pieces_from file (piece ∷ pieces) = next_piece file piece ++ pieces_from (suc file) pieces

-- all pieces from the first on are the joined text
pub pieces_from-suc : (file : ℕ) (piece : List ℕ) (pieces : List (List ℕ)) → piece ++ pieces_from (suc file) pieces ≡ join_with_byte 10 (piece ∷ pieces)
pieces_from-suc file piece [] = append-nil piece
pieces_from-suc file piece (next ∷ pieces) = ap (λ rest. piece ++ 10 ∷ rest) (pieces_from-suc (suc file) next pieces)

pub pieces_from-zero : (pieces : List (List ℕ)) → pieces_from 0 pieces ≡ join_with_byte 10 pieces
pieces_from-zero [] = refl
pieces_from-zero (piece ∷ pieces) = pieces_from-suc 0 piece pieces

-- the names from here on begin with the one at this place
pub drop-map_at : {X : Type 0} (f : X → List ℕ) (xs : List X) (i : ℕ) (x : X) → i < length xs → x ≡ get_or xs i x → drop i (map f xs) ≡ f x ∷ drop (i + 1) (map f xs)
drop-map_at f xs i x within e =
    let here : drop i xs ≡ get_or xs i x ∷ drop (suc i) xs = drop-cons xs i x within in
    rw (drop-map, drop-map, here, ← e, add-one) refl

-- with one more file the rest is what the files after it add
pub one_more : (contents : Option (List ℕ → List ℕ)) (text grown : List ℕ) (file : ℕ) (names : List (List ℕ)) (name : List ℕ) → drop file names ≡ name ∷ drop (file + 1) names → IfSome contents (λ held. text ++ pieces_from file (map held (drop file names)) ≡ joined_text held names) → IfSome contents (λ held. grown ≡ text ++ next_piece file (held name)) → IfSome contents (λ held. grown ++ pieces_from (file + 1) (map held (drop (file + 1) names)) ≡ joined_text held names)
one_more None text grown file names name at so_far more = tt
one_more (Some held) text grown file names name at so_far more = rw (add-one, more, append_assoc) (rw (at, add-one) at so_far)

-- a text that is too long with one more file is too long with all files
pub too_long_with : (contents : Option (List ℕ → List ℕ)) (limit m : ℕ) (text : List ℕ) (file : ℕ) (names : List (List ℕ)) (name : List ℕ) → m ≡ length text → drop file names ≡ name ∷ drop (file + 1) names → IfSome contents (λ held. text ++ pieces_from file (map held (drop file names)) ≡ joined_text held names) → IfSome contents (λ held. limit < m + length (next_piece file (held name))) → IfSome contents (λ held. limit < length (joined_text held names))
too_long_with None limit m text file names name l at so_far over = tt
too_long_with (Some held) limit m text file names name l at so_far over =
    let whole = ap length (rw at at so_far) in
    omega (arith, over, whole, length-append text (next_piece file (held name) ++ pieces_from (suc file) (map held (drop (file + 1) names))), length-append (next_piece file (held name)) (pieces_from (suc file) (map held (drop (file + 1) names))))
