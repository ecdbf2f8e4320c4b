-- What reading a text answers.
use Rattle.std.specs.Prelude.{◌≡◌, ◌≢◌, ℕ, ◌+◌, true, List, [], ◌∷◌, ◌++◌, flat_map, length, codes, ℤ, pos, Result, Ok, Err}
use Rattle.std.specs.Fmt.{signed_decimal}
use Rattle.bg_base.specs.Exact.{fits}
use Rattle.bg_certtext.specs.declared.error.ReadError.{ReadError}
use Rattle.bg_certtext.specs.declared.error.ReadError.TheVariants.{Version, BadLine, Memory}
use Rattle.bg_certtext.specs.declared.text.CertText.{CertText}
use Rattle.bg_certtext.specs.Views.{CertOf, cert_of}
use Rattle.bg_certtext.specs.Lines.{line}
use Rattle.bg_certtext.specs.Texts.{lines_of, text_of}
use Rattle.bg_certtext.specs.Spellable.{IsSpellable}

-- some certificate's lines begin with these
abbrev pub Begins : List (List (List ℕ)) → Type 0
Begins lines = (c : CertOf) × (more : List (List (List ℕ))) × IsSpellable c × (lines_of c ≡ lines ++ more)

-- these are all the lines of some certificate
abbrev pub IsWhole : List (List (List ℕ)) → Type 0
IsWhole lines = (c : CertOf) × IsSpellable c × (lines_of c ≡ lines)

-- Line n is the first against the grammar: some certificate begins with the n - 1 lines before it, none goes on with
-- the line that stands there, and where the text ends the lines before it are no whole certificate.
pub record IsBadLine (bytes : List ℕ) (n : ℕ) : Type 0 where
  pub before : List (List (List ℕ))
  pub rest : List ℕ
  pub cut : bytes ≡ flat_map line before ++ rest
  pub count : n ≡ length before + 1
  pub begins : Begins before
  pub stops : (words : List (List ℕ)) (after : List ℕ) → rest ≡ line words ++ after → Begins (before ++ words ∷ []) → ⊥
  pub short : rest ≡ [] → IsWhole before → ⊥

-- the first line is that of another version of the format
abbrev pub IsOtherVersion : List ℕ → Type 0
IsOtherVersion bytes =
    (z : ℤ) × (after : List ℕ) × (fits z ≡ true) × (z ≢ pos 1) × (bytes ≡ line (codes "bg-cert" ∷ signed_decimal z ∷ []) ++ after)

-- what reading answers: the certificate whose text it is, another version, or the first line against the grammar
abbrev pub Reads : List ℕ → Result CertText ReadError → Type 0
Reads bytes (Ok c) = IsSpellable (cert_of c) × (bytes ≡ text_of (cert_of c))
Reads bytes (Err Version) = IsOtherVersion bytes
Reads bytes (Err (BadLine n)) = IsBadLine bytes n × (IsOtherVersion bytes → ⊥)
Reads bytes (Err Memory) = Unit {0}

-- this certificate was read, or there was no memory
abbrev pub GivesBack : CertOf → Result CertText ReadError → Type 0
GivesBack c (Ok t) = cert_of t ≡ c
GivesBack c (Err Version) = ⊥
GivesBack c (Err (BadLine n)) = ⊥
GivesBack c (Err Memory) = Unit {0}
