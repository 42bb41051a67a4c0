-- What any bytes are answered, and the parts that are given of them, as functions of the bytes. Crates above know what the laws
-- say of these, and compute them on bytes that are written out.
use Rattle.std.specs.Prelude.{ℕ, Bool, true, false, Result, Err, List}
use Rattle.cds_markup.specs.declared.part.Part.{Part}
use Rattle.cds_markup.specs.declared.error.MarkupError.{MarkupError}
use Rattle.cds_markup.specs.declared.error.MarkupError.TheVariants.{Mem}
use Rattle.cds_markup.specs.Bytes.{answer_of}
use Rattle.cds_markup.specs.Marks.{parts_of}

abbrev pub answer_to : List ℕ → Result (Unit {0}) MarkupError
answer_to bytes = answer_of bytes

abbrev pub parts_in : List ℕ → List Part
parts_in bytes = parts_of bytes

-- Whether memory ran out.
abbrev pub ran_out : Result (Unit {0}) MarkupError → Bool
ran_out (Err Mem) = true
ran_out other = false
