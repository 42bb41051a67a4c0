-- The last line is answered where it has no LF.
use Rattle.std.proofs.Common.{◌≡◌, ◌==◌, ℕ, List, [], ◌∷◌, length, vec_len, refl, ap, ◌∙◌, sym, subst, string_bytes, arith}
use Rattle.std.proofs.lemmas.Bool.{true≢false, eqb-true}
use Rattle.std.proofs.lemmas.Result.{IfOk-weaker}
use Rattle.cds_script.specs.Script.{meaning_of}
use Rattle.cds_replay.specs.Script.{LineRead}
use Rattle.cds_replay.proofs.Scripts.{last-ends, nothing-ends}
use Rattle.cds_replay.proofs.script.Script.finish.Goals as goal

none-left : (xs : List ℕ) → length xs ≡ 0 → xs ≡ []
none-left [] size = refl
none-left (x ∷ xs) size = absurd (omega (arith, size))

pub returns-then-is_empty-clause-meaning : goal.returns-then-is_empty-clause-meaning
returns-then-is_empty-clause-meaning g c = λ before written goes.
    let script = c.args.self.now in
    let none : vec_len script.partial ≡ 0 = eqb-true (vec_len script.partial) 0 (sym c.is_empty.ensures ∙ c.if-is_empty.true) in
    let size : length script.partial.items ≡ 0 = omega (arith, script.partial.ok.0, none) in
    nothing-ends (g.W.Wire.carried c.args.wire.now) script before written (string_bytes c.args.out.now) goes (none-left script.partial.items size)

pub returns-else-is_empty-clause-meaning : goal.returns-else-is_empty-clause-meaning
returns-else-is_empty-clause-meaning g c = λ before written goes.
    let script = c.args.self.now in
    let line : c.as_slice.result.now ≡ script.partial.items = c.as_slice.ensures.value ∙ ap (λ v. v.items) c.replace-line.ensures.value in
    let some : length script.partial.items ≡ 0 → ⊥ = λ none.
    let size : vec_len script.partial ≡ 0 = ap vec_len (sym c.replace-line.ensures.value) ∙ sym c.as_slice.ensures.len ∙ ap length line ∙ none in
    true≢false (sym (ap (λ n. n == 0) size) ∙ sym c.is_empty.ensures ∙ c.if-is_empty.false) in
    IfOk-weaker c.answer_line.result
    _ _
    (λ stop read. last-ends (g.W.Wire.carried c.args.wire.now) stop script before written c.answer_line.new.session _ _ goes c.requires.whole c.requires.short c.requires.within some
    (subst (λ bytes. LineRead (g.W.Wire.carried c.args.wire.now) stop goes.steps (meaning_of bytes) script.line (string_bytes c.args.out.now) (string_bytes c.answer_line.new.out) c.answer_line.new.session) line read))
    (c.answer_line.ensures.meaning goes.steps goes.after)
