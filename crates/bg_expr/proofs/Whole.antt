-- One expression has these tokens, and what is spelled is read.
use Rattle.std.proofs.Common.{◌≡◌, ℕ, ◌≤◌, List, [], length, arith, Some}
use Rattle.bg_text.specs.Tokens.{Tok}
use Rattle.bg_text.specs.Trees.{Ex}
use Rattle.bg_text.specs.Spelling.{SpellsAt}
use Rattle.bg_text.specs.Brackets.{left}
use Rattle.bg_reader.specs.Reading.{Got}
use Rattle.bg_reader.proofs.Exact.{spells_one}
use Rattle.bg_reader.proofs.Told.{reads_shallow}
use Rattle.bg_expr.specs.Ends.{ends}
use Rattle.bg_expr.specs.Exprs.{expr_at}
use Rattle.bg_expr.proofs.Atoms.{expr_good}
use Rattle.bg_expr.proofs.NestsOf.{expr_nests}

pub one_expression : (e f : Ex) (ts : List Tok) → SpellsAt 0 e ts → SpellsAt 0 f ts → e ≡ f
one_expression e f ts h k = let n = length ts in spells_one n n (ends 0) (SpellsAt 0) (expr_at n n) (expr_good n n) e f ts (omega arith) (omega arith) h k

pub reads_spelling : (n d o : ℕ) (e : Ex) (ts : List Tok) → SpellsAt 0 e ts → length ts ≤ n → left ts d ≡ Some o → expr_at n d ts ≡ Got e []
reads_spelling n d o e ts h parts shallow = reads_shallow n d (ends 0) (SpellsAt 0) (expr_at n d) (expr_good n d) (expr_nests n d) ts e o h parts shallow
