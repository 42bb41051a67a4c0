-- A document whose element has a fault, and its refusal.
use Rattle.std.proofs.Common.{◌≡◌, ℕ, List, Err, sym}
use Rattle.cds_markup.specs.Document.{Meaning, Doc}
use Rattle.cds_didl.specs.declared.error.Fault.{Fault}
use Rattle.cds_didl.specs.declared.error.Fault.TheVariants.{Root, NotRow, BadRow, OutOfMemory}
use Rattle.cds_didl.specs.declared.error.DidlError.{DidlError}
use Rattle.cds_didl.specs.declared.error.DidlError.TheVariants.{Markup, NotDidl, BadValue, Mem}
use Rattle.cds_didl.specs.Didl.{rows_said, FindsRows, IsRefusalOrMem, Answers}

pub refused : (bytes : List ℕ) (element : Meaning) → Doc bytes element → (fault : Fault) → FindsRows (rows_said element) (Err fault)
    → (refusal : DidlError) → IsRefusalOrMem bytes fault refusal → Answers bytes (Err refusal)
refused bytes element document fault found Mem is = tt
refused bytes element document Root found (NotDidl at) is = record { element = element; document = document; fault = Root; faulty = sym found; refused = is }
refused bytes element document (NotRow number) found (NotDidl at) is =
    record { element = element; document = document; fault = NotRow number; faulty = sym found; refused = is }
refused bytes element document (BadRow number) found (BadValue at) is =
    record { element = element; document = document; fault = BadRow number; faulty = sym found; refused = is }
refused bytes element document OutOfMemory found (NotDidl at) is = absurd is
refused bytes element document OutOfMemory found (BadValue at) is = absurd is
refused bytes element document OutOfMemory found (Markup refusal) is = absurd is
refused bytes element document Root found (BadValue at) is = absurd is
refused bytes element document Root found (Markup refusal) is = absurd is
refused bytes element document (NotRow number) found (BadValue at) is = absurd is
refused bytes element document (NotRow number) found (Markup refusal) is = absurd is
refused bytes element document (BadRow number) found (NotDidl at) is = absurd is
refused bytes element document (BadRow number) found (Markup refusal) is = absurd is
