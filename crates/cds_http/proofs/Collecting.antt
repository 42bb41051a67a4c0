-- A piece behind what came of a head, a trailer or a chunk line.
use Rattle.std.proofs.Common.{◌≡◌, ℕ, ◌+◌, ◌≤◌, List, ◌++◌, length, take, drop, Result, Ok, Err, sym, ap, ◌∙◌, subst, inl, inr, arith, append_assoc}
use Rattle.std.proofs.Common.{length-append}
use Rattle.std.proofs.lemmas.List.{length-take-le, take-append-drop}
use Rattle.cds_http.specs.declared.error.HttpError.{HttpError}
use Rattle.cds_http.specs.declared.lines.LinePlace.{LinePlace}
use Rattle.cds_http.specs.declared.lines.Scan.TheVariants.{Ended, Open}
use Rattle.cds_http.specs.declared.lines.Front.{Front}
use Rattle.cds_http.specs.declared.lines.Collected.{Collected}
use Rattle.cds_http.specs.declared.lines.Collected.TheVariants.{Whole as WholeText, Going}
use Rattle.cds_http.specs.Lines.{scanned, cut_at, EndsThere, IsFront, Collects, EndsCollected, KeepsCollected}
use Rattle.cds_http.proofs.Scans.{ended-append, ended-take, ended_within, ends_there, stays_open}
use Rattle.cds_http.proofs.Cuts.{cut_past, cut_over}

-- the text with the bytes up to the end ends there
there : (start place : LinePlace) (came piece : List ℕ) (at : ℕ) → scanned start came ≡ Open place → scanned place piece ≡ Ended at
    → EndsThere start (came ++ take at piece)
there start place came piece at opens ends =
    let within = (ended_within place piece at ends).1 in
    ends_there start place came (take at piece) opens
    (ended-take place piece at ends ∙ ap (λ (n : ℕ). Ended n) (sym (length-take-le at piece within)))

total : (came piece : List ℕ) (at : ℕ) → at ≤ length piece → length (came ++ take at piece) ≡ length came + at
total came piece at within = length-append came (take at piece) ∙ ap (λ (n : ℕ). length came + n) (length-take-le at piece within)

-- all bytes with what comes behind begin with the text up to its end
front_of : (came piece more : List ℕ) (at : ℕ) → (came ++ piece) ++ more ≡ (came ++ take at piece) ++ (drop at piece ++ more)
front_of came piece more at =
    ap (λ (p : List ℕ). (came ++ p) ++ more) (sym (take-append-drop at piece))
    ∙ ap (λ (p : List ℕ). p ++ more) (sym (append_assoc came (take at piece) (drop at piece)))
    ∙ append_assoc (came ++ take at piece) (drop at piece) more

pub ends : (start : LinePlace) (limit : ℕ) (refusal : HttpError) (front : Front) (piece : List ℕ) (at : ℕ) (result : Result Collected HttpError)
    → scanned front.place piece ≡ Ended at → EndsCollected front.text limit refusal piece at result → IsFront start limit front
    → Collects start limit refusal front.text piece result
ends start limit refusal front piece at (Ok (WholeText text used)) is done came =
    let within = (ended_within front.place piece at is).1 in
    let same : text ≡ front.text ++ take at piece = done.0 in (
      same ∙ ap (λ (n : ℕ). front.text ++ take n piece) (sym done.1),
      subst (EndsThere start) (sym same) (there start front.place front.text piece at came.0 is),
      omega (arith, ap length same, total front.text piece at within, done.2),
    )
ends start limit refusal front piece at (Ok (Going f)) is done came = absurd done
ends start limit refusal front piece at (Err e) is (inl memory) came = inl memory
ends start limit refusal front piece at (Err e) is (inr long) came =
    let within = (ended_within front.place piece at is).1 in
    let text = front.text ++ take at piece in
    let past = λ (more : List ℕ).
    cut_past start refusal limit (length text) (text ++ (drop at piece ++ more))
    (ended-append start text (drop at piece ++ more) (length text) (there start front.place front.text piece at came.0 is))
    (omega (arith, total front.text piece at within, long.1)) in
    inr (long.0, λ more. ap (cut_at start refusal limit) (front_of front.text piece more at) ∙ past more)

pub keeps : (start place : LinePlace) (limit : ℕ) (refusal : HttpError) (front : Front) (piece : List ℕ) (result : Result Collected HttpError)
    → scanned front.place piece ≡ Open place → KeepsCollected front.text place limit refusal piece result → IsFront start limit front
    → Collects start limit refusal front.text piece result
keeps start place limit refusal front piece (Ok (WholeText text used)) is done came = absurd done
keeps start place limit refusal front piece (Ok (Going f)) is done came = (
  done.0,
  (
    ap (scanned start) done.0 ∙ stays_open start front.place place front.text piece came.0 is ∙ ap (λ (p : LinePlace). Open p) (sym done.1),
    omega (arith, ap length done.0, length-append front.text piece, done.2),
  ),
)
keeps start place limit refusal front piece (Err e) is (inl memory) came = inl memory
keeps start place limit refusal front piece (Err e) is (inr long) came =
    inr (
      long.0,
      λ more. cut_over start place refusal limit (front.text ++ piece) more
          (stays_open start front.place place front.text piece came.0 is)
          (omega (arith, length-append front.text piece, long.1)),
    )
