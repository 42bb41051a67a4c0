-- Scans that are taken one after the other, and the rows after them (this project's profile).
use Rattle.std.specs.Prelude.{◌≡◌, ◌⊎◌, List, [], ◌∷◌, ◌++◌, ℕ, Result, Ok, Err}
use Rattle.cds_object.specs.Fragment.{full_text}
use Rattle.cds_object.specs.declared.record.Record.{Record}
use Rattle.cds_catalog.specs.Catalog.{catalog}
use Rattle.cds_catalog.specs.History.{History}
use Rattle.cds_catalog.specs.Scans.{Accepted, scan_answer, after_scan}
use Rattle.cds_store.specs.Applied.{IsRefusal}
use Rattle.cds_store.specs.Stands.{Stored, StandsFor}
use Rattle.cds_store.specs.declared.error.ApplyError.{ApplyError}
use Rattle.cds_store.specs.declared.error.ApplyError.TheVariants.{Mem}

-- the history after scans
abbrev pub after_scans : History → List (List Record) → History
after_scans history [] = history
after_scans history (records ∷ scans) = after_scans (after_scan history records) scans

-- Each of the scans is accepted.
abbrev pub AllAccepted : History → List (List Record) → Type 0
AllAccepted history [] = Unit {0}
AllAccepted history (records ∷ scans) = (scan_answer history records ≡ Accepted) × AllAccepted (after_scan history records) scans

-- Some scans were taken. The next one was not, for this reason, or because memory ran out.
pub record Stopped (history : History) (scans : List (List Record)) (refusal : ApplyError) (now : Stored) : Type 0 where
  pub taken : List (List Record)
  pub next : List Record
  pub rest : List (List Record)
  pub are : scans ≡ taken ++ next ∷ rest
  pub accepted : AllAccepted history taken
  pub refused : IsRefusal (after_scans history taken) next refusal
  pub stands : StandsFor now (after_scans history taken)

-- All scans were taken, and memory ran out for the text.
pub record Unwritten (history : History) (scans : List (List Record)) (now : Stored) : Type 0 where
  pub accepted : AllAccepted history scans
  pub stands : StandsFor now (after_scans history scans)

-- What comes of scans. Either all are accepted, and the fragments of all rows after them are appended. Or one is refused, those
-- before it are kept, and nothing is appended. If memory runs out for the text, all are kept and nothing is appended.
abbrev pub Ran : {A : Type 0} → History → List (List Record) → Result A ApplyError → Stored → List ℕ → List ℕ → Type 0
Ran history scans (Ok done) now old new =
    AllAccepted history scans × StandsFor now (after_scans history scans) × (new ≡ old ++ full_text (catalog (after_scans history scans)))
Ran history scans (Err refusal) now old new =
    (new ≡ old) × (Stopped history scans refusal now ⊎ ((refusal ≡ Mem) × Unwritten history scans now))
