-- Fields that are kept one after the other.
use Rattle.std.proofs.Common.{◌≡◌, ℕ, ◌+◌, ◌<◌, ◌≤◌, Bool, List, [], ◌∷◌, ◌++◌, length, take, map, get_or, bytes_eq, if◌then◌else◌, refl, sym, ap, ◌∙◌, arith, inl, inr}
use Rattle.std.proofs.Common.{length-append}
use Rattle.std.proofs.lemmas.Bool.{cases_Bool}
use Rattle.std.proofs.lemmas.List.{map_more, map_push}
use Rattle.std.proofs.lemmas.List.Sums.{fold_push, sum_by-cons}
use Rattle.httparse.specs.declared.spans.HeaderSpan.{HeaderSpan}
use Rattle.httparse.specs.Spans.{header_bytes, span_bytes}
use Rattle.http_header.specs.HeaderMap.{Entries, append, append_all, value_count}
use Rattle.http_header.specs.FieldValue.{FieldValue, plain_value}
use Rattle.http_header.specs.Token.{lowercase}
use Rattle.cds_http.specs.Head.{kept_field, kept_fields}

pub length-append_field : (m : Entries FieldValue) (name : List ℕ) (v : FieldValue) → length (append m name v) ≤ length m + 1
length-append_field [] name v = omega arith
length-append_field (e ∷ m) name v = elim (cases_Bool (bytes_eq e.0 name)) [
  | inl t ↦ rw t (omega arith)
  | inr f ↦ rw f (omega (arith, length-append_field m name v))
]

count_cons : (e : List ℕ × List FieldValue) (m : Entries FieldValue) → value_count (e ∷ m) ≡ length e.1 + value_count m
count_cons e m = sum_by-cons (λ (x : List ℕ × List FieldValue). length x.1) e m

pub value_count-append : (m : Entries FieldValue) (name : List ℕ) (v : FieldValue) → value_count (append m name v) ≡ value_count m + 1
value_count-append [] name v = refl
value_count-append (e ∷ m) name v = elim (cases_Bool (bytes_eq e.0 name)) [
  | inl t ↦
      ap (λ (b : Bool). value_count (if b then (e.0, e.1 ++ v ∷ []) ∷ m else e ∷ append m name v)) t
      ∙ more_of (e.0, e.1 ++ v ∷ []) e m m (length-append e.1 (v ∷ [])) refl
  | inr f ↦
      ap (λ (b : Bool). value_count (if b then (e.0, e.1 ++ v ∷ []) ∷ m else e ∷ append m name v)) f
      ∙ later e (append m name v) m (value_count-append m name v)
]
  where
    more_of : (x e : List ℕ × List FieldValue) (m n : Entries FieldValue) → length x.1 ≡ length e.1 + 1 → m ≡ n → value_count (x ∷ m) ≡ value_count (e ∷ n) + 1
    more_of x e m n longer same = omega (arith, count_cons x m, count_cons e n, longer, ap value_count same)

    later : (e : List ℕ × List FieldValue) (m n : Entries FieldValue) → value_count m ≡ value_count n + 1 → value_count (e ∷ m) ≡ value_count (e ∷ n) + 1
    later e m n more = omega (arith, count_cons e m, count_cons e n, more)

pub kept_push : (pairs : List (List ℕ × List ℕ)) (p : List ℕ × List ℕ)
    → kept_fields (pairs ++ p ∷ []) ≡ append (kept_fields pairs) (lowercase p.0) (plain_value p.1)
kept_push pairs p =
    ap (append_all []) (map_push kept_field pairs p)
    ∙ fold_push (λ (n : Entries FieldValue) (item : List ℕ × FieldValue). append n item.0 item.1) [] (map kept_field pairs) (kept_field p)

-- one more header
pub kept_more : (text : List ℕ) (headers : List HeaderSpan) (i : ℕ) (d : HeaderSpan) (before after : Entries FieldValue) (name value : List ℕ)
    → i < length headers → name ≡ span_bytes text (get_or headers i d).name → value ≡ span_bytes text (get_or headers i d).value
    → before ≡ kept_fields (map (header_bytes text) (take i headers))
    → after ≡ append before (lowercase name) (plain_value value)
    → after ≡ kept_fields (map (header_bytes text) (take (i + 1) headers))
kept_more text headers i d before after name value within name_is value_is so_far now =
    let h = get_or headers i d in
    let pairs = map (header_bytes text) (take i headers) in
    now
    ∙ ap (λ (m : Entries FieldValue). append m (lowercase name) (plain_value value)) so_far
    ∙ ap (λ (n : List ℕ). append (kept_fields pairs) (lowercase n) (plain_value value)) name_is
    ∙ ap (λ (v : List ℕ). append (kept_fields pairs) (lowercase (span_bytes text h.name)) (plain_value v)) value_is
    ∙ sym (kept_push pairs (header_bytes text h))
    ∙ ap kept_fields (sym (map_more (header_bytes text) headers i d within))

-- the same where the value is of a text that is shared
pub kept_shared : (text shared : List ℕ) (headers : List HeaderSpan) (i : ℕ) (d : HeaderSpan) (before after : Entries FieldValue) (name : List ℕ) (v : FieldValue)
    → i < length headers → shared ≡ text → name ≡ span_bytes text (get_or headers i d).name → v ≡ plain_value (span_bytes shared (get_or headers i d).value)
    → before ≡ kept_fields (map (header_bytes text) (take i headers))
    → after ≡ append before (lowercase name) v
    → after ≡ kept_fields (map (header_bytes text) (take (i + 1) headers))
kept_shared text shared headers i d before after name v within same name_is v_is so_far now =
    kept_more text headers i d before after name (span_bytes shared (get_or headers i d).value) within name_is
    (ap (λ (t : List ℕ). span_bytes t (get_or headers i d).value) same) so_far
    (now ∙ ap (λ (v : FieldValue). append before (lowercase name) v) v_is)
