-- Once a row is the row.
use mir.Syntax.{w128}
use Rattle.std.proofs.Common.{SFits, ◌≡◌, ℕ, zero, suc, ◌<◌, true, false, List, [], ◌∷◌, length, ℤ, pos, negsuc, ◌*ℤ◌, refl, arith, get_or}
use Rattle.std.specs.Prelude.{Result, Ok, ◌^◌}
use Rattle.std.proofs.lemmas.Int.{ints}
use Rattle.std.proofs.Math.IntN.{zero-*ℤ, suc_ℤ-*ℤ}
use Rattle.bg_base.specs.declared.exact.OutOfRange.{OutOfRange}
use Rattle.bg_base.specs.declared.exact.Op.TheVariants.{Times}
use Rattle.bg_base.specs.Exact.{fits, exactly, product_of}
use Rattle.bg_rows.specs.declared.entry.Entry.{Entry}
use Rattle.bg_rows.specs.Entries.{is_zero, rising}
use Rattle.bg_rows.specs.Rows.{RowOf, and_then, put, multiples, times}
use Rattle.bg_rows.proofs.Normal.{Normal, from_rising}
use Rattle.bg_rows.proofs.Steps.{nothing, ylt}

one_times : (z : ℤ) → pos 1 *ℤ z ≡ z
one_times z = omega (arith, ints, suc_ℤ-*ℤ (pos zero) z, zero-*ℤ z)

product_from : (p z : ℤ) → p ≡ z → fits z ≡ true → exactly Times (pos 1) z p ≡ Ok z
product_from p z e h = rw (e, h) refl

pub product_once : (z : ℤ) → fits z ≡ true → product_of (pos 1) z ≡ Ok z
product_once z h = product_from (pos 1 *ℤ z) z (one_times z) h

pub fits_from : (z : ℤ) → SFits w128 z → fits z ≡ true
fits_from (pos n) f = ylt n (2 ^ 127) f.sfits
fits_from (negsuc n) f = ylt n (2 ^ 127) f.sfits

one_more : (t : Entry) (ts : List Entry) (c : Result ℤ OutOfRange) (us : Result (List Entry) OutOfRange) → c ≡ Ok t.by → us ≡ Ok ts → is_zero t.by ≡ false → and_then c (λ d. and_then us (λ vs. Ok (put t.variable d vs))) ≡ Ok (t ∷ ts)
one_more t ts c us p h z = rw (p, h, z) refl

entries_from : (low : ℕ) (ts : List Entry) → Normal low ts → ((n : ℕ) → n < length ts → product_of (pos 1) (get_or ts n nothing).by ≡ Ok (get_or ts n nothing).by) → multiples (pos 1) ts ≡ Ok ts
entries_from low [] r h = refl
entries_from low (t ∷ ts) r h = one_more t ts (product_of (pos 1) t.by) (multiples (pos 1) ts) (h 0 (omega arith)) (entries_from (suc t.variable) ts r.2 (λ n lt. h (suc n) (omega (arith, lt)))) r.1

pub entries_are : (low : ℕ) (ts : List Entry) → rising low ts ≡ true → ((n : ℕ) → n < length ts → product_of (pos 1) (get_or ts n nothing).by ≡ Ok (get_or ts n nothing).by) → multiples (pos 1) ts ≡ Ok ts
entries_are low ts r h = entries_from low ts (from_rising low ts r) h

row_from : (r : RowOf) (ts : Result (List Entry) OutOfRange) (c : Result ℤ OutOfRange) → ts ≡ Ok r.entries → c ≡ Ok r.bound → and_then ts (λ us. and_then c (λ b. Ok (record { entries = us; bound = b }))) ≡ Ok r
row_from r ts c e b = rw (e, b) refl

pub row_is : (r : RowOf) → multiples (pos 1) r.entries ≡ Ok r.entries → product_of (pos 1) r.bound ≡ Ok r.bound → times (pos 1) r ≡ Ok r
row_is r e b = row_from r (multiples (pos 1) r.entries) (product_of (pos 1) r.bound) e b
