-- How the code's words are told.
use Rattle.std.specs.Prelude.{ℕ}
use Rattle.bg_sound.specs.Told as t
use Rattle.bg_told.specs.declared.word.Word.{Word}
use Rattle.bg_told.specs.declared.word.Word.TheVariants as word

abbrev pub told_word : Word → t.Word
told_word word.Verified = t.AllProved
told_word word.Refuted = t.SomeRefuted
told_word word.Unknown = t.SomeUnknown

-- the status of a program's word
abbrev pub status_in : Word → ℕ
status_in word.Verified = 0
status_in word.Refuted = 1
status_in word.Unknown = 2
