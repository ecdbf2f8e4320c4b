-- Marked variables as a list: one more, or one less.
use Rattle.std.proofs.Common.{◌≡◌, ℕ, suc, ◌+◌, ◌-◌, ◌<◌, Bool, true, false, if◌then◌else◌, List, [], ◌∷◌, ◌++◌, map, filter, length, get_or, sym, ap, ◌∙◌, append_assoc, arith}
use Rattle.std.proofs.lemmas.List.{get_or_default}
use Rattle.bg_ast.specs.Syntax.{Var}
use Rattle.bg_sense.specs.Variables.{count_from}

unit_more : (k : ℕ) → suc k ≡ k + 1
unit_more k = omega arith

counted : (k d n : ℕ) → n ≡ suc d → count_from k n ≡ k ∷ count_from (k + 1) d
counted k d n h = rw h (ap (λ j. k ∷ count_from j d) (unit_more k))

first : (k n : ℕ) → k < n → count_from k (n - k) ≡ k ∷ count_from (k + 1) (n - (k + 1))
first k n h = counted k (n - (k + 1)) (n - k) (omega (arith, h))

kept : (f : Var → Bool) (x : Var) (xs : List Var) → f x ≡ true → filter f (x ∷ xs) ≡ x ∷ filter f xs
kept f x xs h = ap (λ b. if b then x ∷ filter f xs else filter f xs) h

dropped : (f : Var → Bool) (x : Var) (xs : List Var) → f x ≡ false → filter f (x ∷ xs) ≡ filter f xs
dropped f x xs h = ap (λ b. if b then x ∷ filter f xs else filter f xs) h

pub taken : (f : Var → Bool) (make : ℕ → Var) (out : List Var) (k n : ℕ) → k < n → f (make k) ≡ true → (out ++ make k ∷ []) ++ filter f (map make (count_from (k + 1) (n - (k + 1)))) ≡ out ++ filter f (map make (count_from k (n - k)))
taken f make out k n h e =
    append_assoc out (make k ∷ []) (filter f (map make (count_from (k + 1) (n - (k + 1)))))
    ∙ sym (ap (λ l. out ++ l) (ap (λ l. filter f (map make l)) (first k n h) ∙ kept f (make k) (map make (count_from (k + 1) (n - (k + 1)))) e))

pub left_out : (f : Var → Bool) (make : ℕ → Var) (out : List Var) (k n : ℕ) → k < n → f (make k) ≡ false → out ++ filter f (map make (count_from (k + 1) (n - (k + 1)))) ≡ out ++ filter f (map make (count_from k (n - k)))
left_out f make out k n h e =
    sym (ap (λ l. out ++ l) (ap (λ l. filter f (map make l)) (first k n h) ∙ dropped f (make k) (map make (count_from (k + 1) (n - (k + 1)))) e))

-- the turn of the loop where the variable is marked, and the one where it is not
pub one_taken : (f : Var → Bool) (make : ℕ → Var) (out new whole : List Var) (k n : ℕ) → k < n → f (make k) ≡ true → new ≡ out ++ make k ∷ [] → out ++ filter f (map make (count_from k (n - k))) ≡ whole → new ++ filter f (map make (count_from (k + 1) (n - (k + 1)))) ≡ whole
one_taken f make out new whole k n h e made inv = ap (λ l. l ++ filter f (map make (count_from (k + 1) (n - (k + 1))))) made ∙ (taken f make out k n h e ∙ inv)

pub one_left : (f : Var → Bool) (make : ℕ → Var) (out new whole : List Var) (k n : ℕ) → k < n → f (make k) ≡ false → new ≡ out → out ++ filter f (map make (count_from k (n - k))) ≡ whole → new ++ filter f (map make (count_from (k + 1) (n - (k + 1)))) ≡ whole
one_left f make out new whole k n h e made inv = ap (λ l. l ++ filter f (map make (count_from (k + 1) (n - (k + 1))))) made ∙ (left_out f make out k n h e ∙ inv)

-- a mark that is read at its place
pub read_mark : (bs : List Bool) (k : ℕ) (b c : Bool) → k < length bs → b ≡ get_or bs k b → b ≡ c → get_or bs k false ≡ c
read_mark bs k b c h e f = get_or_default bs k false b h ∙ (sym e ∙ f)
