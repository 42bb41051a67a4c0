-- Steps one after another, and what a call answers beside them.
use Rattle.std.proofs.Common.{◌≡◌, ℕ, Option, Result, Ok, Err, List, sym, ap, subst}
use Rattle.std.specs.Result.{IsErrAnd}
use Rattle.cds_flac.specs.declared.error.FlacError.{FlacError}
use Rattle.cds_flac.specs.declared.error.FlacError.TheVariants.{NotFlac, NoStreamInfo, BadStreamInfo, Forbidden, Truncated, BadComment, TooLong, ReadFault, Mem}
use Rattle.cds_flac.specs.Step.{Step, after}
use Rattle.cds_flac.specs.Agree.{Judged, Agrees}

-- the second step after a first that gave a value
pub after-ok : {A B : Type 0} {step : Step A} (next : A → List ℕ → Step B) {value : A} {rest : List ℕ} → step ≡ Ok (value, rest) → after step next ≡ next value rest
after-ok next e = ap (λ s. after s next) e

-- a first step's refusal is that of both
pub judged-after : {A B : Type 0} (step : Step A) (next : A → List ℕ → Step B) (refusal : FlacError) → Judged step refusal → Judged (after step next) refusal
judged-after step next NotFlac h = ap (λ s. after s next) h
judged-after step next NoStreamInfo h = ap (λ s. after s next) h
judged-after step next BadStreamInfo h = ap (λ s. after s next) h
judged-after step next (Forbidden at) h = ap (λ s. after s next) h
judged-after step next (Truncated at) h = ap (λ s. after s next) h
judged-after step next (BadComment at) h = ap (λ s. after s next) h
judged-after step next TooLong h = ap (λ s. after s next) h
judged-after step next ReadFault h = h
judged-after step next Mem h = h

-- the same refusal of an equal step
pub judged-same : {A : Type 0} {step other : Step A} (refusal : FlacError) → other ≡ step → Judged step refusal → Judged other refusal
judged-same refusal e h = subst (λ s. Judged s refusal) (sym e) h

-- what a `?` hands on
pub agrees-exit : {A : Type 0} (step : Step A) (result : Result A FlacError) (left : Option (List ℕ)) (refusal : FlacError) → IsErrAnd result (λ e. e ≡ refusal) → Judged step refusal → Agrees step result left
agrees-exit step (Ok value) left refusal same h = absurd same
agrees-exit step (Err e) left refusal same h = subst (λ r. Judged step r) (sym same) h
