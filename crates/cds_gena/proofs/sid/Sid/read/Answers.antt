use Rattle.std.proofs.Common.{rules, ◌≡◌, true, Option, Some, None, codes, nat_eq, drop, option_map, if◌then◌else◌, refl, sym, ap, ◌∙◌, true≢false}
use Rattle.std.specs.List.{starts_with}
use Rattle.std.specs.Int.{w128, from_be_bytes}
use Rattle.uuid.specs.Text.{parsed}
use Rattle.cds_gena.proofs.sid.Sid.read.Goals as goal

-- an answer that is nothing is none
none-of : {X : Type 0} (o : Option X) → ((x : X) → o ≡ Some x → ⊥) → o ≡ None
none-of None never = refl
none-of (Some x) never = absurd (never x refl)

pub returns-in-Err : goal.returns-in-Err
returns-in-Err c =
    let rest : c.split_at.result.1.now ≡ drop 5 c.args.text.now = search rules in
    let none : parsed c.split_at.result.1.now ≡ None = none-of (parsed c.split_at.result.1.now) (λ u e. true≢false (sym (c.in-Err.ensures.ok.1 (u, e)))) in
    let begins : starts_with nat_eq c.args.text.now (codes "uuid:") ≡ true = search rules in
    λ i. if sym begins i then option_map (from_be_bytes w128) ((sym none ∙ ap parsed rest) i) else None
