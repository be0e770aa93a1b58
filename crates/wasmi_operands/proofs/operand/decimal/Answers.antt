use Rattle.std.proofs.Common.{◌≡◌, ◌+◌, ◌<◌, Err, add-one, arith, get_or, length, rules, tests, take_all}
use Rattle.std.proofs.lemmas.Int.Digits.{digits_value_more}
use Rattle.std.proofs.lemmas.Str.{digit_value_digit}
use Rattle.std.proofs.lemmas.Str.Parse.{digit_at, digits_value-take-le}
use Rattle.wasmi_operands.specs.LineWords.{IsDecimal, decimal_value}
use Rattle.wasmi_operands.proofs.LineWordsLemmas.{digits_to}
use Rattle.wasmi_operands.proofs.operand.decimal.Goals as goal

pub returns-then-is_empty-clause-value : goal.returns-then-is_empty-clause-value
unfolding IsDecimal
returns-then-is_empty-clause-value c h =
    let none : length c.args.word.now ≡ 0 = search (rules, tests, c.is_empty.ensures, c.if-is_empty.true) in
    omega (arith, h.0.0)

pub returns-in_err-number-clause-value : goal.returns-in_err-number-clause-value
unfolding IsDecimal decimal_value
returns-in_err-number-clause-value c =
    let word = c.args.word.now in
    let i = c.loop-digit.digit-index in
    let inside = rw c.as_bytes-digit-items.ensures.value at c.loop-digit-test.true in
    let none = rw (c.as_bytes-digit-items.ensures.value, c.in_err-number.ensures.ok_part) at c.appended.ensures in
    let same : c.from_residual.result ≡ Err c.in_err-number.field-0.0 = search rules in
    rw same (λ h. none (
      digit_at word i h.0.1 inside,
      omega (
        arith,
        digits_value_more 10 word i inside,
        c.loop-digit.invariant.1,
        h.1,
        digits_value-take-le 10 word (i + 1) (omega arith),
      ),
    ))

pub loop-digit-preserved : goal.loop-digit-preserved
loop-digit-preserved c =
    let word = c.args.word.now in
    let inside = rw c.as_bytes-digit-items.ensures.value at c.loop-digit-test.true in
    let longer = rw (c.as_bytes-digit-items.ensures.value, c.in_ok-number.ensures.ok_part) at c.appended.ensures in
    let worth = digit_value_digit (get_or word c.loop-digit.digit-index 0) longer.0.0 in (
      rw add-one (digits_to word c.loop-digit.digit-index inside c.loop-digit.invariant.0
          (omega (arith, worth, longer.0.0))),
      omega (arith, digits_value_more 10 word c.loop-digit.digit-index inside, c.loop-digit.invariant.1, longer.1),
      omega (arith, longer.0.1, longer.1),
    )

pub returns-clause-value : goal.returns-clause-value
unfolding IsDecimal decimal_value
returns-clause-value c =
    let word = c.args.word.now in
    let i = c.loop-digit.digit-index in
    let ended = rw c.as_bytes-digit-items.ensures.value at c.loop-digit-test.false in
    let whole = take_all i word ended in
    let digits = rw whole at c.loop-digit.invariant.0 in
    let value = rw whole at c.loop-digit.invariant.1 in
    let some : 0 < length word = search (rules, tests, c.is_empty.ensures, c.if-is_empty.false) in
    (((some, digits), omega (arith, value, c.loop-digit.invariant.2)), value)
