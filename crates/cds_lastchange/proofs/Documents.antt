-- Bytes that are events are white space or a document.
use Rattle.std.proofs.Common.{ℕ, ◌≤◌, ◌⊎◌, inl, inr, List, length, arith}
use Rattle.cds_object.specs.declared.event.Event.{Event}
use Rattle.cds_markup.specs.Document.{Meaning, Doc, most_bytes}
use Rattle.cds_lastchange.specs.StateEvent.{IsDocumentOf, IsEmpty, IsStateEvent}
use Rattle.cds_lastchange.proofs.Meanings.{root-means}

is-document : (bytes : List ℕ) (events : List Event) → IsDocumentOf bytes events → length bytes ≤ most_bytes → (element : Meaning) × Doc bytes element
is-document bytes events (root, document, says) short =
    let m = root-means root events says in
    (m.0, (root, record { document = document; means = m.1; within = omega (arith, m.2); short = short }))

pub are-documents : (bytes : List ℕ) (events : List Event) → IsStateEvent bytes events → IsEmpty bytes events ⊎ ((element : Meaning) × Doc bytes element)
are-documents bytes events g = by g.is where
  by : IsEmpty bytes events ⊎ IsDocumentOf bytes events → IsEmpty bytes events ⊎ ((element : Meaning) × Doc bytes element)
  by (inl empty) = inl empty
  by (inr document) = inr (is-document bytes events document g.short)
