use Rattle.std.proofs.Common.{◌≡◌, ℕ, List, None, Bool, true, false, cond, refl, sym, ap, ◌∙◌}
use Rattle.std.specs.Prelude.{option_and_then}
use Rattle.std.specs.Result.{result_ok}
use Rattle.std.specs.Str.{IsUtf8, is_utf8}
use Rattle.std.proofs.lemmas.Str.{IsUtf8-from_is_utf8, is_utf8-from_IsUtf8}
use Rattle.url.specs.Parser.{parse_url}
use Rattle.cds_gena.specs.Asked.{deliverable}
use Rattle.cds_gena.proofs.gena.url_in.Goals as goal

-- what is no text fails the test
no-text : (word : List ℕ) → (IsUtf8 word → ⊥) → is_utf8 word ≡ false
no-text word bad = by (is_utf8 word) refl
  where
    by : (b : Bool) → is_utf8 word ≡ b → b ≡ false
    by true e = absurd (bad (IsUtf8-from_is_utf8 word e))
    by false e = refl

pub returns-in_default : goal.returns-in_default
returns-in_default c =
    sym (ap (λ b. cond b (option_and_then deliverable (result_ok (parse_url None c.args.text.now))) None) (no-text c.args.text.now c.in_default.ensures.cases.0))

pub returns-in-Some : goal.returns-in-Some
returns-in-Some c =
    sym (ap (λ b. cond b (option_and_then deliverable (result_ok (parse_url None c.args.text.now))) None) (is_utf8-from_IsUtf8 c.args.text.now c.in-Ok.ensures.cases.1)
    ∙ ap (λ t. option_and_then deliverable (result_ok (parse_url None t))) (sym c.in-Ok.ensures.cases.0)
    ∙ ap (option_and_then deliverable) (sym c.in_ok-url.ensures ∙ c.in-Some.is) ∙ sym c.deliverable.ensures)
