use Rattle.std.proofs.Common.{◌≡◌, List, ℕ, Some, None, cond, ◌&&◌, Bool, true, false, refl, sym, ap, ◌∙◌}
use Rattle.std.specs.Str.{is_utf8}
use Rattle.std.proofs.lemmas.Str.{is_utf8-from_IsUtf8}
use Rattle.cds_object.specs.declared.info.Comment.{Comment}
use Rattle.cds_script.specs.declared.turn.ScriptTurn.TheVariants.{Tag}
use Rattle.cds_script.specs.Script.{tag_turn}
use Rattle.cds_script.proofs.Words.{no-text}
use Rattle.cds_script.proofs.line.tag_of.Goals as goal

by-tests : (name value : List ℕ) (a b : Bool) → is_utf8 name ≡ a → is_utf8 value ≡ b →
    tag_turn name value ≡ cond (a && b) (Some (Tag (record { name = name; value = value }))) None
by-tests name value a b e f = λ i. cond (e i && f i) (Some (Tag (record { name = name; value = value }))) None

pub returns-in_default : goal.returns-in_default
returns-in_default c = sym (by-tests c.args.name.now c.args.value.now false _ (no-text c.args.name.now c.in_default.ensures.cases.0) refl)

pub returns-in_default-from_utf8 : goal.returns-in_default-from_utf8
returns-in_default-from_utf8 c =
    sym (by-tests c.args.name.now c.args.value.now true false (is_utf8-from_IsUtf8 c.args.name.now c.in-Ok.ensures.cases.1)
    (no-text c.args.value.now c.in_default-from_utf8.ensures.cases.0))

same-comment : (n v m w : List ℕ) → n ≡ m → v ≡ w → ◌≡◌ {A = Comment} record { name = n; value = v } record { name = m; value = w }
same-comment n v m w e f = cc

pub returns : goal.returns
returns c =
    ap (λ (comment : Comment). Some (Tag comment))
    (same-comment _ _ c.args.name.now c.args.value.now (c.in_ok-name.ensures ∙ c.in-Ok.ensures.cases.0) (c.in_ok-value.ensures ∙ c.in-Ok-from_utf8.ensures.cases.0))
    ∙ sym (by-tests c.args.name.now c.args.value.now true true (is_utf8-from_IsUtf8 c.args.name.now c.in-Ok.ensures.cases.1)
    (is_utf8-from_IsUtf8 c.args.value.now c.in-Ok-from_utf8.ensures.cases.1))
