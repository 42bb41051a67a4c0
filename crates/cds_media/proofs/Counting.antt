-- Which range counts for a message.
use Rattle.std.proofs.Common.{◌≡◌, ℕ, Bool, true, false, cond, Option, Some, None, List, [], ◌∷◌, codes, refl, ap, ◌∙◌, arith}
use Rattle.std.specs.Option.{option_and_then}
use Rattle.http_header.specs.HeaderMap.{get_all}
use Rattle.http_header.specs.FieldValue.{FieldValue}
use Rattle.cds_http.specs.declared.message.Message.{Message}
use Rattle.cds_media.specs.declared.slice.Plan.TheVariants.{Whole}
use Rattle.cds_media.specs.declared.range.ByteRange.{ByteRange}
use Rattle.cds_media.specs.Ranges.{Spells, range_in}
use Rattle.cds_media.specs.Plans.{cut, is_get, only_value, plan_of, planned, range_of}
use Rattle.cds_media.specs.Laws.{CountsIn}
use Rattle.cds_media.proofs.Spelling.{spelled}

counts : (message : Message) (range : ByteRange) → range_of message ≡ Some range → CountsIn message range
counts message range is = by (is_get message.start) refl is
  where
    one : (values : List FieldValue) → get_all message.fields (codes "range") ≡ values → option_and_then range_in (only_value values) ≡ Some range
        → (value : FieldValue) × (get_all message.fields (codes "range") ≡ value ∷ []) × Spells value.bytes range
    one [] e is = absurd (grind arith)
    one (value ∷ []) e is = (value, e, (spelled value.bytes range).0 is)
    one (value ∷ second ∷ more) e is = absurd (grind arith)

    by : (t : Bool) → is_get message.start ≡ t → cond t (option_and_then range_in (only_value (get_all message.fields (codes "range")))) None ≡ Some range → CountsIn message range
    by true e is = (e, one (get_all message.fields (codes "range")) refl is)
    by false e is = absurd (grind arith)

counted : (message : Message) (range : ByteRange) → CountsIn message range → range_of message ≡ Some range
counted message range (get, (value, once, form)) =
    ap (λ t. cond t (option_and_then range_in (only_value (get_all message.fields (codes "range")))) None) get
    ∙ ap (λ values. option_and_then range_in (only_value values)) once
    ∙ (spelled value.bytes range).1 form

pub followed : (size : ℕ) (message : Message)
    → ((range : ByteRange) → CountsIn message range → plan_of size message ≡ cut size range)
    × (((range : ByteRange) → ¬ (CountsIn message range)) → plan_of size message ≡ Whole)
followed size message = (λ range is. ap (planned size) (counted message range is), λ none. by none (range_of message) refl)
  where
    by : ((range : ByteRange) → ¬ (CountsIn message range)) → (asked : Option ByteRange) → range_of message ≡ asked → plan_of size message ≡ Whole
    by none None e = ap (planned size) e
    by none (Some range) e = absurd (none range (counts message range e))
