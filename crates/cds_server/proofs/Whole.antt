-- Records that can all stand are not refused for one that cannot.
use Rattle.std.proofs.Common.{◌≡◌, ◌+◌, ℕ, Bool, true, false, cond, nat_lt, List, length, None, Result, Ok, Err, IfErr, sym, ◌∙◌, ap}
use Rattle.cds_object.specs.declared.record.Record.{Record}
use Rattle.cds_catalog.specs.History.{History, end_of}
use Rattle.cds_catalog.specs.Scans.{BadRecord, TooMany, NoNumbers, Accepted, answer_by, bad_record, needed_by}
use Rattle.cds_store.specs.Applied.{Applied, IsRefusal}
use Rattle.cds_store.specs.Stands.{Stored}
use Rattle.cds_store.specs.declared.error.ApplyError.{ApplyError}
use Rattle.cds_store.specs.declared.error.ApplyError.TheVariants.{BadRecords, Full, Spent, Mem}
use Rattle.cds_store.specs.declared.span.Span.{Span}
use Rattle.cds_server.specs.Serving.{IsOfWhole}

no-bad : (a b : Bool) (many needed line : ℕ) → cond a (TooMany many) (cond b (NoNumbers needed) Accepted) ≡ BadRecord line → ⊥
no-bad true b many needed line e = absurd (cc)
no-bad false true many needed line e = absurd (cc)
no-bad false false many needed line e = absurd (cc)

pub whole-refusal : (history : History) (records : List Record) (refusal : ApplyError) → bad_record records ≡ None → IsRefusal history records refusal
    → IsOfWhole refusal
whole-refusal history records (BadRecords line) whole is =
    no-bad (nat_lt 65535 (length records)) (nat_lt 4294967295 (end_of history + needed_by history records)) (length records) (needed_by history records) line
    (ap (answer_by history records) (sym whole) ∙ is)
whole-refusal history records (Full objects) whole is = tt
whole-refusal history records (Spent needed) whole is = tt
whole-refusal history records Mem whole is = tt

pub whole-result : (history : History) (records : List Record) (result : Result Span ApplyError) (before now : Stored) → bad_record records ≡ None
    → Applied history records result before now → IfErr result IsOfWhole
whole-result history records (Ok span) before now whole applied = tt
whole-result history records (Err refusal) before now whole applied = whole-refusal history records refusal whole applied.0
