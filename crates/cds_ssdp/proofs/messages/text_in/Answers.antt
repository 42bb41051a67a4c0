use Rattle.std.proofs.Common.{◌≡◌, ℕ, List, Some, None, Bool, true, false, cond, refl, sym, ap, ◌∙◌}
use Rattle.std.specs.Str.{IsUtf8, is_utf8}
use Rattle.std.proofs.lemmas.Str.{IsUtf8-from_is_utf8, is_utf8-from_IsUtf8}
use Rattle.cds_ssdp.proofs.messages.text_in.Goals as goal

-- what is no text fails the test
no-text : (word : List ℕ) → (IsUtf8 word → ⊥) → is_utf8 word ≡ false
no-text word bad = by (is_utf8 word) refl
  where
    by : (b : Bool) → is_utf8 word ≡ b → b ≡ false
    by true e = absurd (bad (IsUtf8-from_is_utf8 word e))
    by false e = refl

pub returns-in-Err : goal.returns-in-Err
returns-in-Err c = sym (ap (λ b. cond b (Some c.args.bytes.now) None) (no-text c.args.bytes.now c.in-Err.ensures.cases.0))

pub returns-in-Ok : goal.returns-in-Ok
returns-in-Ok c =
    ap Some c.in-Ok.ensures.cases.0 ∙ sym (ap (λ b. cond b (Some c.args.bytes.now) None) (is_utf8-from_IsUtf8 c.args.bytes.now c.in-Ok.ensures.cases.1))
