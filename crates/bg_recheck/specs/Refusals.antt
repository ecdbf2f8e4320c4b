-- Why the text of a certificate is refused, and the line that says so.
use Rattle.std.specs.Prelude.{◌<◌, ◌+◌, ℕ, List, ◌++◌, length, codes, Err}
use Rattle.std.specs.Fmt.{decimal}
use Rattle.bg_ends.specs.declared.status.Status.{Status}
use Rattle.bg_ends.specs.declared.status.Status.TheVariants as status
use Rattle.bg_lines.specs.Lines.{line}
use Rattle.bg_certtext.specs.declared.error.ReadError.TheVariants as errors
use Rattle.bg_certtext.specs.Reading.{Reads}

-- the most bytes of a certificate
abbrev pub most_bytes : ℕ
most_bytes = 67108864

-- it is too long, it is of another version, or this line, from 1, is the first against the grammar
pub data CertRefusal : Type 0 where
  TooLong : CertRefusal
  OtherVersion : CertRefusal
  BadLine : ℕ → CertRefusal

abbrev pub IsCertRefusedBy : List ℕ → CertRefusal → Type 0
IsCertRefusedBy bytes TooLong = most_bytes < length bytes
IsCertRefusedBy bytes OtherVersion = Reads bytes (Err errors.Version)
IsCertRefusedBy bytes (BadLine n) = Reads bytes (Err (errors.BadLine n))

abbrev pub cert_line : CertRefusal → List ℕ
cert_line TooLong = line (codes "error: limit bytes " ++ decimal (most_bytes + 1))
cert_line OtherVersion = line (codes "error: certificate version")
cert_line (BadLine n) = line (codes "error: certificate line " ++ decimal n)

abbrev pub cert_status : CertRefusal → Status
cert_status TooLong = status.Limit
cert_status OtherVersion = status.Text
cert_status (BadLine n) = status.Text
