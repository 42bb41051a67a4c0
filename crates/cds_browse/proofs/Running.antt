-- Scans taken one after the other.
use Rattle.std.proofs.Common.{◌≡◌, ◌+◌, ◌<◌, ℕ, suc, ◌++◌, List, [], ◌∷◌, Result, Ok, Err, IfErr, length, take, drop, get_or, refl, sym, ◌∙◌, ap, subst, drop-cons}
use Rattle.std.specs.Result.{IsErrAnd}
use Rattle.std.proofs.lemmas.List.{take_more, take-append-drop}
use Rattle.cds_object.specs.declared.record.Record.{Record}
use Rattle.cds_catalog.specs.History.{History}
use Rattle.cds_catalog.specs.Scans.{ScanAnswer, Accepted, scan_answer, history_by, after_scan}
use Rattle.cds_store.specs.Applied.{Applied}
use Rattle.cds_store.specs.Stands.{Stored, StandsFor}
use Rattle.cds_store.specs.declared.error.ApplyError.{ApplyError}
use Rattle.cds_store.specs.declared.span.Span.{Span}
use Rattle.cds_browse.specs.Runs.{after_scans, AllAccepted, Stopped}

after_more : (history : History) (scans : List (List Record)) (records : List Record) → after_scans history (scans ++ records ∷ []) ≡ after_scan (after_scans history scans) records
after_more history [] records = refl
after_more history (first ∷ scans) records = after_more (after_scan history first) scans records

accepted_more : (history : History) (scans : List (List Record)) (records : List Record) → AllAccepted history scans
    → scan_answer (after_scans history scans) records ≡ Accepted → AllAccepted history (scans ++ records ∷ [])
accepted_more history [] records all is = (is, tt)
accepted_more history (first ∷ scans) records all is = (all.0, accepted_more (after_scan history first) scans records all.1 is)

-- what holds after scans: all were accepted, and what is kept stands for the history with them
abbrev pub Taken : History → List (List Record) → Stored → Type 0
Taken history scans now = AllAccepted history scans × StandsFor now (after_scans history scans)

next_of : (scans : List (List Record)) (k : ℕ) (records : List Record) → k < length scans → records ≡ get_or scans k records → take (k + 1) scans ≡ take k scans ++ records ∷ []
next_of scans k records within is = take_more scans k records within ∙ ap (λ (r : List Record). take k scans ++ r ∷ []) (sym is)

pub taken_more : (history : History) (scans : List (List Record)) (k : ℕ) (records : List Record) (span : Span) (before now : Stored) → k < length scans
    → records ≡ get_or scans k records → Taken history (take k scans) before → Applied (after_scans history (take k scans)) records (Ok span) before now
    → Taken history (take (k + 1) scans) now
taken_more history scans k records span before now within is was applied =
    let so_far = after_scans history (take k scans) in
    let stands : StandsFor now (after_scan so_far records) = subst (λ (a : ScanAnswer). StandsFor now (history_by so_far records a)) (sym applied.0) applied.1 in
    subst (λ (taken : List (List Record)). Taken history taken now) (sym (next_of scans k records within is)) (
      accepted_more history (take k scans) records was.0 applied.0,
      subst (λ (h : History). StandsFor now h) (sym (after_more history (take k scans) records)) stands,
    )

pub stopped_at : (history : History) (scans : List (List Record)) (k : ℕ) (records : List Record) (refusal : ApplyError) (before now : Stored) → k < length scans
    → records ≡ get_or scans k records → Taken history (take k scans) before → Applied (after_scans history (take k scans)) records (Err refusal) before now
    → Stopped history scans refusal now
stopped_at history scans k records refusal before now within is was applied = record {
  taken = take k scans;
  next = records;
  rest = drop (suc k) scans;
  are = sym (take-append-drop k scans) ∙ ap (λ (rest : List (List Record)). take k scans ++ rest) (drop-cons scans k records within)
      ∙ ap (λ (r : List Record). take k scans ++ r ∷ drop (suc k) scans) (sym is);
  accepted = was.0;
  refused = applied.0;
  stands = subst (λ (s : Stored). StandsFor s (after_scans history (take k scans))) (sym applied.1) was.1;
}

-- what a `?` hands on
pub err_exit : {A E : Type 0} (P : E → Type 0) (result : Result A E) (e : E) → IsErrAnd result (λ x. x ≡ e) → P e → IfErr result P
err_exit P (Ok value) e same p = absurd same
err_exit P (Err x) e same p = subst P (sym same) p
