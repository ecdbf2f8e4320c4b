-- Faults that are counted, and bytes that are read and written.
use Rattle.std.specs.Prelude.{◌≡◌, ℕ, ◌+◌, ◌-◌, ◌^◌, ◌<◌, ◌≤◌, min, List, [], ◌++◌, map, take, drop, length, Option, Some, None, option_map, IfSome, Result, OnErr}
use Rattle.std.specs.List.{join_with_byte}

-- the last value of a count, at which it stays
abbrev pub last_count : ℕ
last_count = 2 ^ 64 - 1

-- a count after n more, but not past its last value
abbrev pub raised : ℕ → ℕ → ℕ
raised count n = count + min n (last_count - count)

-- the same, where the count is told
abbrev pub counted : Option ℕ → ℕ → Option ℕ
counted before n = option_map (λ count. raised count n) before

-- a count went up, or stands at its last value
abbrev pub Rose : ℕ → ℕ → Type 0
Rose before now = raised before 1 ≤ now

-- a failure is counted, and a count of faults never falls
pub record HasCause {T E : Type 0} (before now : ℕ) (result : Result T E) : Type 0 where
  pub later : before ≤ now
  pub failed : OnErr result (Rose before now)

-- what stands under a name, where the contents are told
abbrev pub content_of : Option (List ℕ → List ℕ) → List ℕ → Option (List ℕ)
content_of contents name = option_map (λ held. held name) contents

-- the first n bytes of the buffer are the first that were left; none mean the end
abbrev pub ReadsFront : ℕ → List ℕ → Option (List ℕ) → Option (List ℕ) → Type 0
ReadsFront n buf None after = after ≡ None
ReadsFront n buf (Some left) after = (take n buf ≡ take n left) × (after ≡ Some (drop n left)) × (n ≡ 0 → left ≡ [])

-- the contents in the order of the names, with one newline byte between two
abbrev pub joined_text : (List ℕ → List ℕ) → List (List ℕ) → List ℕ
joined_text held names = join_with_byte 10 (map held names)

-- the bytes are the joined text, where the contents are told
abbrev pub IsTextOf : Option (List ℕ → List ℕ) → List (List ℕ) → List ℕ → Type 0
IsTextOf contents names bytes = IfSome contents (λ held. bytes ≡ joined_text held names)

-- the joined text is longer than the limit, where the contents are told
abbrev pub IsTextOver : Option (List ℕ → List ℕ) → List (List ℕ) → ℕ → Type 0
IsTextOver contents names limit = IfSome contents (λ held. limit < length (joined_text held names))

-- bytes joined to those that were written before, where these are told
abbrev pub joined : Option (List ℕ) → List ℕ → Option (List ℕ)
joined written bytes = option_map (λ old. old ++ bytes) written

-- a front of the bytes was written, and not all of them
abbrev pub WroteFront : List ℕ → Option (List ℕ) → Option (List ℕ) → Type 0
WroteFront bytes old new = (n : ℕ) × (n < length bytes) × (new ≡ joined old (take n bytes))
