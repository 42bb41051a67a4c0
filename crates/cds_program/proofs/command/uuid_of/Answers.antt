use Rattle.std.proofs.Common.{◌≡◌, Option, Some, None, refl, sym, ap, ◌∙◌, true≢false}
use Rattle.uuid.specs.Text.{parsed}
use Rattle.cds_program.proofs.command.uuid_of.Goals as goal

none-if : {A : Type 0} (o : Option A) → (((value : A) × (o ≡ Some value)) → ⊥) → None ≡ o
none-if None never = refl
none-if (Some value) never = absurd (never (value, refl))

pub returns-in-Err : goal.returns-in-Err
returns-in-Err c = none-if (parsed c.as_str.result.now) (λ is. true≢false (sym (c.in-Err.ensures.ok.1 is))) ∙ ap parsed c.as_str.ensures
