-- What comes of a scan that a server takes which keeps nothing outside.
use Rattle.std.proofs.Common.{◌≡◌, ◌≢◌, Bool, true, false, List, Result, Ok, Err, IsErrOf, IsOk, IfErr, OnErr, OnOk, true≢false, refl, sym, ap, subst, ◌∙◌, arith}
use Rattle.cds_object.specs.declared.record.Record.{Record}
use Rattle.cds_commands.specs.Commands.{Command, Start, scans_of}
use Rattle.cds_store.specs.Applied.{IsRefusal}
use Rattle.cds_store.specs.declared.error.ApplyError.{ApplyError}
use Rattle.cds_store.specs.declared.error.ApplyError.TheVariants as apply_error
use Rattle.cds_store.specs.declared.span.Span.{Span}
use Rattle.cds_server.specs.Serving.{Scanned, Serving, StandsFor}
use Rattle.cds_server.specs.Taking.{ClosesBy, Takes, unfailing, untaken}
use Rattle.cds_server.specs.declared.serving.TakeError.{TakeError}
use Rattle.cds_server.specs.declared.serving.TakeError.TheVariants as take_error

pub takes : {A : Type 0} (start : Start) (commands : List Command) (records : List Record) (answer : Result Span ApplyError) (result : Result A TakeError)
    (before now : Serving) → StandsFor before start commands → Scanned start commands records answer before now → OnOk answer (IsOk result)
    → IfErr answer (λ refusal. IsErrOf result (untaken refusal)) → Takes StandsFor start commands records result now
takes start commands records (Ok span) (Ok value) before now stands scanned ok err = (scanned.0, scanned.1)
takes start commands records (Ok span) (Err e) before now stands scanned ok err = absurd (true≢false (sym ok))
takes {A} start commands records (Err refusal) result before now stands scanned ok err =
    subst (λ (r : Result A TakeError). Takes StandsFor start commands records r now) (sym err) (by refusal scanned.0)
  where
    still : StandsFor now start commands
    still = subst (λ (s : Serving). StandsFor s start commands) (sym scanned.1) stands

    by : (e : ApplyError) → IsRefusal (scans_of start.first commands) records e → Takes {A = A} StandsFor start commands records (Err (untaken e)) now
    by apply_error.Mem is = still
    by (apply_error.BadRecords line) is = (is, still)
    by (apply_error.Full objects) is = (is, still)
    by (apply_error.Spent needed) is = (is, still)

-- ---- it never closes

abbrev closes : TakeError → Bool
closes (take_error.Apply refusal) = false
closes take_error.Keeper = true
closes take_error.Mem = false

abbrev closed-by : {A : Type 0} → Result A TakeError → Bool
closed-by (Ok value) = false
closed-by (Err e) = closes e

never-by : (e : ApplyError) → closes (untaken e) ≡ false
never-by apply_error.Mem = refl
never-by (apply_error.BadRecords line) = refl
never-by (apply_error.Full objects) = refl
never-by (apply_error.Spent needed) = refl

never-after : {A : Type 0} (answer : Result Span ApplyError) (result : Result A TakeError) → OnOk answer (IsOk result)
    → IfErr answer (λ refusal. IsErrOf result (untaken refusal)) → closed-by result ≡ false
never-after (Ok span) (Ok value) ok err = refl
never-after (Ok span) (Err e) ok err = absurd (true≢false (sym ok))
never-after (Err refusal) result ok err = ap closed-by err ∙ never-by refusal

pub never-closes : {A : Type 0} (answer : Result Span ApplyError) (result : Result A TakeError) → OnOk answer (IsOk result)
    → IfErr answer (λ refusal. IsErrOf result (untaken refusal)) → ClosesBy result unfailing unfailing
never-closes answer result ok err = record {
  keeper = λ is. absurd (true≢false (sym (ap closed-by is) ∙ never-after answer result ok err));
  closed = λ is. absurd (true≢false (sym is));
  rose = λ before is. absurd (true≢false (sym is));
  stays_closed = λ is. is;
  never_falls = omega arith;
}

-- a refusal of the store leaves the server as it was
pub stays : {A : Type 0} (answer : Result Span ApplyError) (result : Result A TakeError) (before now : Serving) → OnErr answer (now ≡ before)
    → OnOk answer (IsOk result) → IfErr result (λ refusal. refusal ≢ take_error.Keeper → now ≡ before)
stays (Ok span) (Ok value) before now kept ok = tt
stays (Ok span) (Err e) before now kept ok = absurd (true≢false (sym ok))
stays (Err refusal) (Ok value) before now kept ok = tt
stays (Err refusal) (Err e) before now kept ok = λ other. kept
