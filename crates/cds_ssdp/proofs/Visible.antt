-- The texts of a reply are of visible ASCII, and short.
use Rattle.std.proofs.Common.{ℕ, zero, suc, ◌+◌, ◌-◌, ◌<◌, ◌≤◌, Bool, true, false, cond, nat_lt, IsTrue, IsAscii, List, [], ◌∷◌, ◌++◌, length, ◌≡◌, ◌||◌, ◌&&◌, codes, bytes_eq, Some, None, refl, sym, ap, subst, arith, length-append}
use Rattle.std.specs.Fmt.{digits}
use Rattle.std.proofs.lemmas.Bool.Decides.{nat_tests}
use Rattle.std.proofs.lemmas.List.Elements.{All-nil, All-cons, All-head, All-tail, All-weaker}
use Rattle.std.proofs.lemmas.Slice.Eq.{bytes_eq-Decides}
use Rattle.std.proofs.lemmas.Str.{IsUtf8-from_ascii, is_utf8-from_IsUtf8}
use Rattle.std.proofs.lemmas.Str.Ascii.{IsAscii-cons, IsAscii-nil}
use Rattle.http_header.proofs.TokenLemmas.{AllPass-from_test}
use Rattle.uuid.specs.Text.{by_index, hex_digit, hyphen, is_hyphen_place, digit_place, nibble, hyphenated_text, lower}
use Rattle.uuid.proofs.TextLemmas.{by_index_length, nibble_small}
use Rattle.cds_http.proofs.Visible.{Seen, AreVisible, visible-append, visible-literal}
use Rattle.cds_ssdp.specs.Location.{is_printed}
use Rattle.cds_ssdp.specs.Messages.{text_in}
use Rattle.cds_ssdp.specs.Targets.{device_name, root_device, device_type, service_type, is_in_version, is_itself, usn_of}
use Rattle.std.specs.List.{list_all}

-- ---- the name of a device

visible-index : (n : ℕ) (f : ℕ → ℕ) → ((k : ℕ) → Seen (f k)) → AreVisible (by_index n f)
unfolding by_index
visible-index zero f h = All-nil Seen
visible-index (suc n) f h = visible-append (by_index n f) (f n ∷ []) (visible-index n f h) (All-cons Seen (f n) [] (h n) (All-nil Seen))

hex-visible : (d : ℕ) → d < 16 → Seen (hex_digit lower d)
hex-visible d small = by (nat_lt d 10) refl
  where
    digit : (d : ℕ) → nat_lt d 10 ≡ true → Seen (48 + d)
    digit d h = grind (arith, nat_tests)

    letter : (d : ℕ) → d < 16 → Seen (97 + d - 10)
    letter d h = grind (arith, nat_tests)

    by : (t : Bool) → nat_lt d 10 ≡ t → Seen (cond t (48 + d) (lower + d - 10))
    by true h = digit d h
    by false h = letter d small

name-byte : List ℕ → ℕ → ℕ
name-byte id k = cond (is_hyphen_place k) hyphen (hex_digit lower (nibble id (digit_place k)))

visible-byte : (id : List ℕ) (k : ℕ) → Seen (name-byte id k)
unfolding name-byte
visible-byte id k = by (is_hyphen_place k)
  where
    by : (t : Bool) → Seen (cond t hyphen (hex_digit lower (nibble id (digit_place k))))
    by true = refl
    by false = hex-visible (nibble id (digit_place k)) (nibble_small id (digit_place k))

-- a text that stands in a reply
pub record IsShort (most : ℕ) (text : List ℕ) : Type 0 where
  pub visible : AreVisible text
  pub long : length text ≤ most

pub short-name : (id : List ℕ) → IsShort 41 (device_name id)
unfolding device_name name-byte
short-name id =
    let text = hyphenated_text lower id in
    let a = length-append (codes "uuid:") text in
    let b : length text ≡ 36 = by_index_length 36 (name-byte id) in
    let c : length (codes "uuid:") ≡ 5 = refl in
    record {
      visible = visible-append (codes "uuid:") text (visible-literal (codes "uuid:") refl) (visible-index 36 (name-byte id) (visible-byte id));
      long = omega (arith, a, b, c);
    }

-- ---- targets

equal : (P : List ℕ → Type 0) (a b : List ℕ) → bytes_eq a b ≡ true → P b → P a
equal P a b e h = subst P (sym ((bytes_eq-Decides a b).0 e)) h

either : (P : Type 0) (a b : Bool) → (a ≡ true → P) → (b ≡ true → P) → (a || b) ≡ true → P
either P true b f g e = f refl
either P false b f g e = g e

version : (type_in : ℕ → List ℕ) (text : List ℕ) → IsShort 80 (type_in 1) → IsShort 80 (type_in 2) → IsShort 80 (type_in 3) → IsShort 80 (type_in 4)
    → is_in_version type_in text ≡ true → IsShort 80 text
version type_in text one two three four =
    let P = IsShort 80 text in
    either P (bytes_eq text (type_in 1) || bytes_eq text (type_in 2) || bytes_eq text (type_in 3)) (bytes_eq text (type_in 4))
    (either P (bytes_eq text (type_in 1) || bytes_eq text (type_in 2)) (bytes_eq text (type_in 3))
    (either P (bytes_eq text (type_in 1)) (bytes_eq text (type_in 2))
    (λ e. equal (IsShort 80) text (type_in 1) e one) (λ e. equal (IsShort 80) text (type_in 2) e two))
    (λ e. equal (IsShort 80) text (type_in 3) e three))
    (λ e. equal (IsShort 80) text (type_in 4) e four)

literal : (n : ℕ) (text : List ℕ) → list_all (λ b. nat_lt 32 b && nat_lt b 127) text ≡ true → length text ≡ n → n ≤ 80 → IsShort 80 text
literal n text e long few = record { visible = visible-literal text e; long = omega (arith, long, few) }

of-device : (text : List ℕ) → is_in_version device_type text ≡ true → IsShort 80 text
unfolding digits device_type
of-device text =
    version device_type text (literal 41 (device_type 1) refl refl (omega arith)) (literal 41 (device_type 2) refl refl (omega arith))
    (literal 41 (device_type 3) refl refl (omega arith)) (literal 41 (device_type 4) refl refl (omega arith))

of-service : (text : List ℕ) → is_in_version service_type text ≡ true → IsShort 80 text
unfolding digits service_type
of-service text =
    version service_type text (literal 47 (service_type 1) refl refl (omega arith)) (literal 47 (service_type 2) refl refl (omega arith))
    (literal 47 (service_type 3) refl refl (omega arith)) (literal 47 (service_type 4) refl refl (omega arith))

root-short : IsShort 80 root_device
unfolding root_device
root-short = literal 15 root_device refl refl (omega arith)

pub short-itself : (text : List ℕ) → is_itself text ≡ true → IsShort 80 text
short-itself text =
    let P = IsShort 80 text in
    either P (bytes_eq text root_device || is_in_version device_type text) (is_in_version service_type text)
    (either P (bytes_eq text root_device) (is_in_version device_type text) (λ e. equal (IsShort 80) text root_device e root-short) (of-device text))
    (of-service text)

pub every-device : IsShort 80 (device_type 4)
unfolding digits device_type
every-device = literal 41 (device_type 4) refl refl (omega arith)

pub every-service : IsShort 80 (service_type 4)
unfolding digits service_type
every-service = literal 47 (service_type 4) refl refl (omega arith)

pub every-root : IsShort 80 root_device
every-root = root-short

pub name-target : (id : List ℕ) → IsShort 80 (device_name id)
name-target id = let s = short-name id in let h = s.long in record { visible = s.visible; long = omega (arith, h) }

-- ---- names of targets

pub short-usn : (id text : List ℕ) → IsShort 80 text → IsShort 123 (usn_of id text)
short-usn id text short = by (bytes_eq text (device_name id))
  where
    own : IsShort 123 (device_name id)
    own = let s = short-name id in let h = s.long in record { visible = s.visible; long = omega (arith, h) }

    longer : IsShort 123 (device_name id ++ codes "::" ++ text)
    longer =
        let s = short-name id in
        let h = s.long in
        let k = short.long in
        let a = length-append (device_name id ++ codes "::") text in
        let b = length-append (device_name id) (codes "::") in
        let c : length (codes "::") ≡ 2 = refl in
        record {
          visible = visible-append (device_name id ++ codes "::") text
              (visible-append (device_name id) (codes "::") s.visible (visible-literal (codes "::") refl)) short.visible;
          long = omega (arith, h, k, a, b, c);
        }

    by : (t : Bool) → IsShort 123 (cond t (device_name id) (device_name id ++ codes "::" ++ text))
    by true = own
    by false = longer

-- ---- locations, and texts that are read

printed-seen : (b : ℕ) → IsTrue (is_printed b) → Seen b
printed-seen b h = grind (arith, nat_tests)

pub visible-printed : (text : List ℕ) → list_all is_printed text ≡ true → AreVisible text
visible-printed text e = All-weaker (λ b. IsTrue (is_printed b)) Seen printed-seen text (AllPass-from_test is_printed text e)

seen-small : (b : ℕ) → Seen b → b < 128
seen-small b h = grind (arith, nat_tests)

ascii : (text : List ℕ) → AreVisible text → IsAscii text
ascii [] h = IsAscii-nil
ascii (b ∷ rest) h = IsAscii-cons b rest (seen-small b (All-head Seen b rest h)) (ascii rest (All-tail Seen b rest h))

pub text-read : (text : List ℕ) → AreVisible text → text_in text ≡ Some text
text-read text h = ap (λ t. cond t (Some text) None) (is_utf8-from_IsUtf8 text (IsUtf8-from_ascii text (ascii text h)))
