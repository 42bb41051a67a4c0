-- What a file that was opened and read says.
use Rattle.std.proofs.Common.{◌≡◌, ℕ, List, Option, Some, None, Result, Ok, Err, IfOk, sym, subst}
use Rattle.cds_base.specs.declared.mem.Mem.{Mem as Memory}
use Rattle.cds_outside.specs.Entries.{Contents, HasBytes}
use Rattle.cds_outside.specs.Outside.{Told}
use Rattle.cds_flac.specs.declared.error.FlacError.{FlacError}
use Rattle.cds_flac.specs.declared.error.FlacError.TheVariants.{NotFlac, NoStreamInfo, BadStreamInfo, Forbidden, Truncated, BadComment, TooLong, ReadFault, Mem}
use Rattle.cds_flac.specs.Agree.{Agrees}
use Rattle.cds_flac.specs.Reading.{metadata}
use Rattle.cds_object.specs.declared.info.FlacInfo.{FlacInfo}
use Rattle.cds_scan.specs.declared.file.Reading.{Reading}
use Rattle.cds_scan.specs.declared.file.Reading.TheVariants.{Read, Unread}
use Rattle.cds_scan.specs.Outcomes.{AreRefused, SayInfo}
use Rattle.cds_scan.specs.Reading.{IsReading, IsReadingOf}

says : (bytes left after : Option (List ℕ)) (info : FlacInfo) → HasBytes bytes left → Told left (λ bs. Agrees (metadata bs) (Ok info) after) → SayInfo bytes info
says None left after info has agrees = has
says (Some bytes) left after info has agrees = let read = agrees bytes has in (read.0, read.1)

refused : (bytes left after : Option (List ℕ)) (refusal : FlacError) → (P : List ℕ → Type 0) → ((bs : List ℕ) → P bs → metadata bs ≡ Err refusal) → HasBytes bytes left → Told left P → AreRefused bytes refusal
refused None left after refusal P judged has agrees = has
refused (Some bytes) left after refusal P judged has agrees = judged bytes (agrees bytes has)

module _ (contents : Option Contents) (path : List ℕ) (left after : Option (List ℕ)) (has : Told contents (λ c. HasBytes (c path) left)) where
  Reads : Result Reading Memory → Type 0
  Reads answer = IfOk answer (λ r. IsReading contents path r)

  answered : (reading : Reading) (answer : Result Reading Memory) → answer ≡ Ok reading → IsReading contents path reading → Reads answer
  unfolding Reads
  answered reading answer is reads = subst Reads (sym is) reads

  unread : (memory : Memory) (answer : Result Reading Memory) → answer ≡ Err memory → Reads answer
  unfolding Reads
  unread memory answer is = subst Reads (sym is) tt

  pub reading_told : (info : Result FlacInfo FlacError) (answer : Result Reading Memory) → Told left (λ bs. Agrees (metadata bs) info after) → IsReadingOf info answer → IfOk answer (λ r. IsReading contents path r)
  unfolding Reads
  reading_told (Ok info) answer agrees is = answered (Read info) answer is (λ c told. says (c path) left after info (has c told) agrees)
  reading_told (Err NotFlac) answer agrees is = answered (Unread NotFlac) answer is (λ c told. refused (c path) left after NotFlac (λ bs. metadata bs ≡ Err NotFlac) (λ bs h. h) (has c told) agrees)
  reading_told (Err NoStreamInfo) answer agrees is = answered (Unread NoStreamInfo) answer is (λ c told. refused (c path) left after NoStreamInfo (λ bs. metadata bs ≡ Err NoStreamInfo) (λ bs h. h) (has c told) agrees)
  reading_told (Err BadStreamInfo) answer agrees is = answered (Unread BadStreamInfo) answer is (λ c told. refused (c path) left after BadStreamInfo (λ bs. metadata bs ≡ Err BadStreamInfo) (λ bs h. h) (has c told) agrees)
  reading_told (Err (Forbidden at)) answer agrees is = answered (Unread (Forbidden at)) answer is (λ c told. refused (c path) left after (Forbidden at) (λ bs. metadata bs ≡ Err (Forbidden at)) (λ bs h. h) (has c told) agrees)
  reading_told (Err (Truncated at)) answer agrees is = answered (Unread (Truncated at)) answer is (λ c told. refused (c path) left after (Truncated at) (λ bs. metadata bs ≡ Err (Truncated at)) (λ bs h. h) (has c told) agrees)
  reading_told (Err (BadComment at)) answer agrees is = answered (Unread (BadComment at)) answer is (λ c told. refused (c path) left after (BadComment at) (λ bs. metadata bs ≡ Err (BadComment at)) (λ bs h. h) (has c told) agrees)
  reading_told (Err TooLong) answer agrees is = answered (Unread TooLong) answer is (λ c told. refused (c path) left after TooLong (λ bs. metadata bs ≡ Err TooLong) (λ bs h. h) (has c told) agrees)
  reading_told (Err ReadFault) answer agrees is = answered (Unread ReadFault) answer is tt
  reading_told (Err Mem) answer agrees is = unread is.0 answer is.1
