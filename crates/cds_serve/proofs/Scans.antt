-- One scan, put together from its parts.
use Rattle.std.proofs.Common.{◌≡◌, ◌+◌, inl, inr, ℕ, Bool, true, false, cond, nat_lt, List, [], ◌++◌, length, None, Result, Ok, Err, IsErrAnd, IsErrOf, IsOk, IfErr, OnOk, true≢false, refl, sym, ap, subst, ◌∙◌, arith}
use Rattle.cds_catalog.specs.Scans.{Accepted, BadRecord, NoNumbers, ScanAnswer, TooMany, answer_by, bad_record, needed_by}
use Rattle.cds_catalog.specs.History.{History, end_of}
use Rattle.cds_commands.specs.Commands.{Command, Start, scans_of}
use Rattle.cds_object.specs.declared.record.Record.{Record}
use Rattle.cds_scan.specs.declared.scanned.Scan.{Scan}
use Rattle.cds_store.specs.declared.error.ApplyError.TheVariants as apply_error
use Rattle.cds_server.specs.declared.serving.TakeError.{TakeError}
use Rattle.cds_server.specs.declared.serving.TakeError.TheVariants as take_error
use Rattle.cds_turn.specs.Line.{Extends}
use Rattle.cds_serve.specs.Acts.{IsScanAnswer, scan_adds}
use Rattle.cds_serve.specs.Scanned.{Across, IsUnscanned, MayGive, ScansOnce, declined}
use Rattle.cds_turn.specs.Turn.{SeatTold, after_turn}
use Rattle.cds_serve.specs.Told.{IsAlone, IsMoment}
use Rattle.cds_serve.specs.declared.scanning.ScanRefused.{ScanRefused}
use Rattle.cds_serve.specs.declared.scanning.ScanRefused.TheVariants as refused

-- records that can all stand are not refused for one of them
abbrev line_of : ScanAnswer → ℕ
line_of (BadRecord line) = line + 1
line_of Accepted = 0
line_of (TooMany objects) = 0
line_of (NoNumbers needed) = 0

zero-line : (history : History) (records : List Record) → line_of (answer_by history records None) ≡ 0
zero-line history records = by (nat_lt 65535 (length records)) (nat_lt 4294967295 (end_of history + needed_by history records))
  where
    by : (b c : Bool) → line_of (cond b (TooMany (length records)) (cond c (NoNumbers (needed_by history records)) Accepted)) ≡ 0
    by true c = refl
    by false true = refl
    by false false = refl

-- a seat by its parts
seat-as : (a b : SeatTold Command) → a.seen ≡ b.seen → a.own ≡ b.own → a.passes ≡ b.passes → a.turns ≡ b.turns → a.seats ≡ b.seats → a ≡ b
seat-as a b seen own passes turns seats = λ i. record { seen = seen i; own = own i; passes = passes i; turns = turns i; seats = seats i }

module _ (Closes : List Command → Type 0) (start : Start) (before now : ℕ) (old new : Across) where
  -- the folder was not scanned
  pub unscanned : (A : Type 0) (refusal : ScanRefused) → IsUnscanned old.folder new.folder refusal → new.seat ≡ old.seat → now ≡ before
      → new.clock ≡ old.clock → ScansOnce {A = A} Closes start (Err refusal) before now old new
  unscanned A (refused.Scan error) is seat moment clock = (is, (seat, moment, clock))
  unscanned A (refused.Apply error) is seat moment clock = absurd is
  unscanned A refused.Keeper is seat moment clock = absurd is
  unscanned A refused.Mem is seat moment clock = inl (seat, moment, clock)

  module _ (scan : Scan) (given : MayGive old.folder new.folder scan) (found : List Command) (begun : Extends found old.seat.seen)
      (alone : IsAlone old.seat found) (moment : IsMoment old.clock new.clock before now) where
    -- it was accepted
    pub accepted : {A B : Type 0} (value : A) (taken : B) → IsScanAnswer {A = B} Closes start found scan.records (Ok taken)
        → new.seat ≡ after_turn old.seat found (scan_adds {A = B} scan.records (Ok taken))
        → ScansOnce Closes start (Ok value) before now old new
    accepted value taken is seat = record {
      scan = scan;
      given = given;
      found = found;
      accepted = is;
      turn = record { begun = begun; alone = alone; seat = seat; moment = moment };
    }

    -- it was not
    pub refused-by : (A B : Type 0) (error : TakeError) → bad_record scan.records ≡ None → IsScanAnswer {A = B} Closes start found scan.records (Err error)
        → new.seat ≡ after_turn old.seat found []
        → ScansOnce {A = A} Closes start (Err (declined error)) before now old new
    refused-by A B (take_error.Apply (apply_error.BadRecords line)) good is seat = absurd (never (sym is ∙ ap (answer_by (scans_of start.first found) scan.records) good))
      where
        not-bad : (b : ScanAnswer) → line_of b ≡ 0 → BadRecord line ≡ b → ⊥
        not-bad b zero e = absurd (apart (ap line_of e ∙ zero))
          where
            apart : line + 1 ≡ 0 → ⊥
            apart k = omega (arith, k)

        never : BadRecord line ≡ answer_by (scans_of start.first found) scan.records None → ⊥
        never e = not-bad (answer_by (scans_of start.first found) scan.records None) (zero-line (scans_of start.first found) scan.records) e
    refused-by A B (take_error.Apply (apply_error.Full objects)) good is seat = record {
      scan = scan;
      given = given;
      found = found;
      refused = is;
      turn = record { begun = begun; alone = alone; seat = seat; moment = moment };
    }
    refused-by A B (take_error.Apply (apply_error.Spent needed)) good is seat = record {
      scan = scan;
      given = given;
      found = found;
      refused = is;
      turn = record { begun = begun; alone = alone; seat = seat; moment = moment };
    }
    refused-by A B (take_error.Apply apply_error.Mem) good is seat = inr (found, record { begun = begun; alone = alone; seat = seat; moment = moment })
    refused-by A B take_error.Keeper good is seat = (found, is, record { begun = begun; alone = alone; seat = seat; moment = moment })
    refused-by A B take_error.Mem good is seat = inr (found, record { begun = begun; alone = alone; seat = seat; moment = moment })

    -- as it was answered
    pub taken : {A B : Type 0} (answer : Result B TakeError) (result : Result A ScanRefused) (given_scan : Scan) → given_scan ≡ scan
        → bad_record scan.records ≡ None → IsScanAnswer Closes start found given_scan.records answer
        → new.seat.seen ≡ scan_adds given_scan.records answer ++ found → new.seat.own ≡ scan_adds given_scan.records answer ++ old.seat.own
        → new.seat.passes ≡ old.seat.passes → new.seat.turns ≡ old.seat.turns + 1
        → new.seat.seats ≡ old.seat.seats → OnOk answer (IsOk result) → IfErr answer (λ refusal. IsErrOf result (declined refusal)) → ScansOnce Closes start result before now old new
    taken {A} {B} (Ok span) (Ok value) given_scan same good is seen own passes turns seats ok err =
        accepted {B = B} value span (subst (λ (k : Scan). IsScanAnswer {A = B} Closes start found k.records (Ok span)) same is)
        (seat-as new.seat (after_turn old.seat found (scan_adds {A = B} scan.records (Ok span)))
        (seen ∙ ap (λ (k : Scan). scan_adds {A = B} k.records (Ok span) ++ found) same)
        (own ∙ ap (λ (k : Scan). scan_adds {A = B} k.records (Ok span) ++ old.seat.own) same) passes turns seats)
    taken {A} {B} (Ok span) (Err e) given_scan same good is seen own passes turns seats ok err = absurd (true≢false (sym ok))
    taken {A} {B} (Err error) result given_scan same good is seen own passes turns seats ok err =
        subst (λ (r : Result A ScanRefused). ScansOnce Closes start r before now old new) (sym err)
        (refused-by A B error good (subst (λ (k : Scan). IsScanAnswer {A = B} Closes start found k.records (Err error)) same is)
        (seat-as new.seat (after_turn old.seat found []) seen own passes turns seats))

  -- the folder was not scanned, at the exit
  pub unscanned-exit : {A : Type 0} (result : Result A ScanRefused) (refusal : ScanRefused) → IsErrAnd result (λ x. x ≡ refusal)
      → IsUnscanned old.folder new.folder refusal → new.seat ≡ old.seat → now ≡ before → new.clock ≡ old.clock
      → ScansOnce Closes start result before now old new
  unscanned-exit {A} (Ok value) refusal err is seat moment clock = absurd err
  unscanned-exit {A} (Err e) refusal err is seat moment clock =
      subst (λ (x : ScanRefused). ScansOnce {A = A} Closes start (Err x) before now old new) (sym err) (unscanned A refusal is seat moment clock)
