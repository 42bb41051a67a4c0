-- A digit more multiplies by the base and adds; a value past 64 bits stays past them.
use Rattle.std.proofs.Common.{◌≡◌, ◌∙◌, ◌≤◌, Some, take, get_or, ap, sym, arith, true}
use Rattle.std.specs.List.{list_all}
use Rattle.std.specs.Char.{is_digit, digit_value}
use Rattle.std.proofs.lemmas.List.{take_all}
use Rattle.std.proofs.lemmas.Bool.Decides.{nat_tests}
use Rattle.cds_base.specs.Number.{value_in}
use Rattle.cds_base.proofs.Numbers.{number-no_digit, number-too_great_product, number-too_great_sum, number-read, value_with_digit, all_with_digit}
use Rattle.cds_base.proofs.text.number.read_digits.Goals as goal

pub returns-in_err-digit : goal.returns-in_err-digit
returns-in_err-digit c =
    let same : digit_value c.from.result ≡ digit_value (get_or c.args.digits.now c.loop-byte.byte-index 0) = ap digit_value c.from.ensures in
    let above : c.args.base ≤ digit_value c.from.result = omega (arith, c.in_err-digit.ensures.value) in
    c.from_residual.ensures ∙ sym (number-no_digit c.args.base _ c.args.digits.now c.loop-byte.byte-index c.loop-byte-test.true (rw same at above))

pub returns-in_err-checked_mul : goal.returns-in_err-checked_mul
returns-in_err-checked_mul c =
    c.from_residual-in_err-checked_mul.ensures
    ∙ sym (number-too_great_product c.args.base _ c.args.digits.now c.loop-byte.byte-index c.loop-byte.value c.from-in-loop-byte.result c.requires.low c.loop-byte-test.true c.loop-byte.invariant.0 c.from-in-loop-byte.ensures
    (omega (arith, c.in_err-checked_mul.ensures)))

pub returns-in_err-value : goal.returns-in_err-value
returns-in_err-value c =
    c.from_residual-in_err-value.ensures
    ∙ sym (number-too_great_sum c.args.base _ c.args.digits.now c.loop-byte.byte-index c.loop-byte.value c.from-in-loop-byte.result c.from-in-loop-byte-2.result c.requires.low c.loop-byte-test.true c.loop-byte.invariant.0 c.from-in-loop-byte.ensures
    (c.from-in-loop-byte-2.ensures ∙ c.in_ok-digit.ensures.value.1 ∙ ap digit_value c.from.ensures)
    (omega (arith, c.in_err-value.ensures, c.in_ok-checked_mul.ensures)))

pub loop-byte-preserved : goal.loop-byte-preserved
loop-byte-preserved c =
    let digit = c.in_ok-digit.ensures.value.1 ∙ ap digit_value c.from.ensures in
    let next = value_with_digit c.args.base c.args.digits.now c.loop-byte.byte-index c.loop-byte.value c.from-in-loop-byte.result c.from-in-loop-byte-2.result c.loop-byte-test.true c.loop-byte.invariant.0 c.from-in-loop-byte.ensures (c.from-in-loop-byte-2.ensures ∙ digit) in (
      omega (arith, next, c.in_ok-value.ensures, c.in_ok-checked_mul.ensures),
      all_with_digit c.args.base c.args.digits.now c.loop-byte.byte-index c.in_ok-digit.digit c.loop-byte-test.true c.loop-byte.invariant.1 digit (omega (arith, c.in_ok-digit.ensures.value.0, c.in_ok-digit.ensures.value.1)),
      omega (arith, c.in_ok-value.ensures),
    )

pub returns : goal.returns
returns c =
    let all : take c.loop-byte.byte-index c.args.digits.now ≡ c.args.digits.now = take_all _ _ (omega arith) in
    let value : c.loop-byte.value ≡ value_in c.args.base c.args.digits.now = c.loop-byte.invariant.0 ∙ ap (value_in c.args.base) all in
    let digits : list_all (λ byte. is_digit byte c.args.base) c.args.digits.now ≡ true = rw all at c.loop-byte.invariant.1 in
    ap Some value ∙ sym (number-read c.args.base _ c.args.digits.now (grind (arith, nat_tests)) digits (omega arith))
