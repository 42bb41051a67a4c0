-- What the machine answers to any bytes.
use Rattle.std.specs.Prelude.{◌≡◌, ◌≢◌, ℕ, Result, Ok, Err, List}
use Rattle.cds_markup.specs.declared.error.MarkupError.{MarkupError}
use Rattle.cds_markup.specs.declared.error.MarkupError.TheVariants.{Mem}
use Rattle.cds_markup.specs.Document.{Meaning, Doc}
use Rattle.cds_markup.specs.Refusal.{IsRefused}
use Rattle.cds_markup.specs.Bytes.{answer_of}

-- A document of some element, or a refusal that stands against the bytes.
abbrev pub Verdict : List ℕ → Result (Unit {0}) MarkupError → Type 0
Verdict bytes (Ok done) = (element : Meaning) × Doc bytes element
Verdict bytes (Err e) = IsRefused bytes e

abbrev pub AnswersAreSo : Type 0
AnswersAreSo = (bytes : List ℕ) → Verdict bytes (answer_of bytes)

-- Exactly that: every document is taken, and every refusal that stands is answered, except `Mem`, which never is.
pub record Exactly (bytes : List ℕ) : Type 0 where
  pub whole : (element : Meaning) → Doc bytes element → answer_of bytes ≡ Ok tt
  pub refused : (e : MarkupError) → IsRefused bytes e → e ≢ Mem → answer_of bytes ≡ Err e
  pub never : answer_of bytes ≢ Err Mem

abbrev pub AnswersAreExact : Type 0
AnswersAreExact = (bytes : List ℕ) → Exactly bytes
