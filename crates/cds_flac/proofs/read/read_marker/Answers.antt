-- Four bytes, which are the marker or not.
use Rattle.std.proofs.Common.{◌≡◌, ℕ, List, true, false, ap, sym, ◌∙◌, Ok, Err}
use Rattle.std.specs.Str.{bytes_eq}
use Rattle.cds_flac.specs.declared.error.FlacError.TheVariants.{NotFlac}
use Rattle.cds_flac.specs.Step.{Step, taken}
use Rattle.cds_flac.specs.Reading.{marker_at, is_marker, marker}
use Rattle.cds_flac.proofs.Steps.{after-ok, judged-after, agrees-exit}
use Rattle.cds_flac.proofs.Decided.{taken-then, taken-else, not-true, not-false}
use Rattle.cds_flac.proofs.read.read_marker.Goals as goal

behind_four : (bytes four rest : List ℕ) → taken 0 4 bytes ≡ Ok (four, rest) → marker_at bytes ≡ is_marker four rest
unfolding marker_at
behind_four bytes four rest e = after-ok (λ four rest. is_marker four rest) e

good : List ℕ → Step (Unit {0})
good rest = Ok (tt, rest)

bad : Step (Unit {0})
bad = Err NotFlac

is_good : (four rest : List ℕ) → bytes_eq four marker ≡ true → is_marker four rest ≡ Ok (tt, rest)
unfolding good bad
is_good four rest e = taken-then (bytes_eq four marker) (good rest) bad e

is_bad : (four rest : List ℕ) → bytes_eq four marker ≡ false → is_marker four rest ≡ Err NotFlac
unfolding good bad
is_bad four rest e = taken-else (bytes_eq four marker) (good rest) bad e

compared : (x y z : List ℕ) → x ≡ z → y ≡ marker → bytes_eq x y ≡ bytes_eq z marker
compared x y z e f = ap (λ l. bytes_eq l y) e ∙ ap (λ l. bytes_eq z l) f

pub returns-in_err-fill-clause-told : goal.returns-in_err-fill-clause-told
unfolding marker_at
returns-in_err-fill-clause-told g c = λ bytes told.
    agrees-exit _ c.from_residual.result _ c.in_err-fill.field-0.0 c.from_residual.ensures.1 (judged-after (taken 0 4 bytes) _ _ (c.in_err-fill.ensures.told bytes told))

pub returns-then-ne-clause-told : goal.returns-then-ne-clause-told
returns-then-ne-clause-told g c = λ bytes told.
    let four = c.in_ok-fill.ensures.told bytes told in
    behind_four bytes c.fill.new.into four.0 four.1
    ∙ is_bad c.fill.new.into four.0 (sym (compared _ _ _ c.as_slice.ensures c.as_slice-2.ensures) ∙ not-true _ c.if-ne.ensures)

pub returns-clause-told : goal.returns-clause-told
returns-clause-told g c = λ bytes told.
    let four = c.in_ok-fill.ensures.told bytes told in (
      four.0,
      behind_four bytes c.fill.new.into four.0 four.1
          ∙ is_good c.fill.new.into four.0 (sym (compared _ _ _ c.as_slice.ensures c.as_slice-2.ensures) ∙ not-false _ c.if-ne.ensures),
      four.2,
    )
