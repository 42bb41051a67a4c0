-- Datagrams that were answered and came back to the outside.
use Rattle.std.proofs.Common.{◌≡◌, ℕ, ◌<◌, ◌^◌, min, List, [], ◌∷◌, ◌++◌, length, Some, Result, Ok, Err, refl, ap, ◌∙◌, inl, inr, arith}
use Rattle.std.proofs.lemmas.List.{append-nil}
use Rattle.cds_outside.specs.Datagrams.{DatagramsTold, IsUnheard}
use Rattle.cds_outside.specs.Outside.{Told, raised}
use Rattle.cds_outside.specs.Told.{OutsideTold}
use Rattle.cds_outside.specs.declared.datagrams.DatagramFault.{DatagramFault}
use Rattle.cds_outside.specs.declared.datagrams.DatagramFault.TheVariants.{Failed, Mem}
use Rattle.cds_ssdp.specs.declared.device.Device.{Device}
use Rattle.cds_announce.specs.Announcing.{Announces, EndsAnnouncing, counted}
use Rattle.cds_announce.specs.Ended.{EndsAnnouncement, status_of}
use Rattle.cds_announce.proofs.Answered.{counted-few, rose-back}

all-given : (device : Device) (count : ℕ) (first last : DatagramsTold) (answered : List (List ℕ)) → first.given ≡ 0 → Announces device answered [] first last
    → length answered ≡ count → count < 2 ^ 32 → last.given ≡ count
all-given device count first last answered none so many few =
    so.given
    ∙ ap (counted first.given) (append-nil answered)
    ∙ ap (λ n. counted n answered) none
    ∙ counted-few 0 answered (omega (arith, many, few))
    ∙ omega (arith, many)

pub given-back : {A : Type 0} (device : Device) (count : ℕ) (ended : Result A DatagramFault) (first last : DatagramsTold) (old new : OutsideTold) → IsUnheard first
    → EndsAnnouncing device count ended first last → count < 2 ^ 32 → new.faults ≡ raised old.faults (min 1 last.faults)
    → Told old.ended_datagrams (λ list. new.ended_datagrams ≡ Some (list ++ last ∷ [])) → new.datagrams ≡ raised old.datagrams last.given
    → EndsAnnouncement device count (status_of ended) old new
given-back device count (Ok value) first last old new unheard course few faults returned given =
    inl (
      refl,
      record { first = first; last = last; unheard = unheard; course = course; returned = returned; given = given },
      given ∙ ap (raised old.datagrams) (all-given device count first last course.0 unheard.0 course.1 course.2 few),
    )
given-back device count (Err Mem) first last old new unheard course few faults returned given =
    inr (inl (refl, inr (record { first = first; last = last; unheard = unheard; course = course; returned = returned; given = given })))
given-back device count (Err Failed) first last old new unheard course few faults returned given =
    inr (inr (
      refl,
      rose-back old.faults new.faults first.faults last.faults unheard.2 course.3 faults,
      inr (record { first = first; last = last; unheard = unheard; course = course; returned = returned; given = given }),
    ))
