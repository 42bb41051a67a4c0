-- A written reply is read as it was written.
use Rattle.std.proofs.Common.{◌≡◌, ℕ, ◌+◌, ◌<◌, ◌≤◌, ◌^◌, Bool, true, false, true≢false, bytes_eq, is_some, cond, ◌&&◌, nat_le, IsTrue, All, List, [], ◌∷◌, ◌++◌, length, map, codes, Option, Some, option_and_then, Ok, refl, sym, ap, ◌∙◌, arith, append_assoc, append-nil, length-append}
use Rattle.std.specs.List.{list_all, AllByRecursion}
use Rattle.std.specs.Fmt.{decimal}
use Rattle.std.specs.Char.{is_ascii_digit}
use Rattle.std.proofs.lemmas.Bool.Decides.{nat_tests}
use Rattle.std.proofs.lemmas.Fmt.{length-decimal-le}
use Rattle.std.proofs.lemmas.List.Elements.{All-nil, All-cons, All-from_recursion}
use Rattle.http_header.proofs.TokenLemmas.{AllPass-from_test}
use Rattle.httparse.specs.Grammar as grammar
use Rattle.httparse.specs.Grammar.{crlf, AllPass, IsField, is_token_byte, is_value_byte, field_value, print_field, ResponseHead, print_response}
use Rattle.httparse.proofs.TrimLemmas.{trim_ows_space}
use Rattle.url.specs.Parts.{Parts}
use Rattle.cds_http.specs.declared.message.Side.TheVariants.{Reply as reply_side}
use Rattle.cds_http.specs.declared.message.Start.TheVariants.{Reply}
use Rattle.cds_http.specs.declared.message.Message.{Message}
use Rattle.cds_http.specs.Head.{IsHead, field_pair, head_limit, kept_fields}
use Rattle.cds_http.specs.Framing.{framing_of, unframed}
use Rattle.cds_http.specs.Spelled.{Spelled}
use Rattle.cds_http.specs.Written.{line_break, field_line}
use Rattle.cds_http.proofs.Backwards.{spelled_is_whole}
use Rattle.cds_http.proofs.Visible.{AreVisible, all-values, no-front, no-back, token, visible-decimal}
use Rattle.cds_ssdp.specs.declared.device.Device.{Device}
use Rattle.cds_ssdp.specs.declared.finding.Found.{Found}
use Rattle.cds_ssdp.specs.Location.{http_url, is_location, is_printed}
use Rattle.cds_ssdp.specs.Messages.{IsMessageIn, text_in}
use Rattle.cds_ssdp.specs.Targets.{are_same_letters, device_name, every_target, is_itself, usn_of}
use Rattle.cds_ssdp.specs.Replies.{first_lines, start_lines, last_lines, reply_text}
use Rattle.cds_ssdp.specs.Finding.{found_as, found_by, found_in, Tells}
use Rattle.cds_ssdp.specs.Laws.{RepliesAreReadBack}
use Rattle.cds_ssdp.proofs.Begun.{of-whole}
use Rattle.cds_ssdp.proofs.Visible.{IsShort, every-device, every-root, every-service, name-target, short-itself, short-usn, text-read, visible-printed}

-- ---- the fields of a reply

abbrev tree : List ℕ → List ℕ → grammar.Field
tree name value = record { name = name; raw = 32 ∷ value; end = crlf }

abbrev ext : grammar.Field
ext = record { name = codes "EXT"; raw = []; end = crlf }

abbrev trees : List ℕ → List ℕ → List ℕ → ℕ → List grammar.Field
trees place asked name number =
    tree (codes "CACHE-CONTROL") (codes "max-age=1800") ∷ ext ∷ tree (codes "LOCATION") place
    ∷ tree (codes "SERVER") (codes "unix/1.0 UPnP/2.0 cds/1.0") ∷ tree (codes "ST") asked ∷ tree (codes "USN") name
    ∷ tree (codes "BOOTID.UPNP.ORG") (decimal number) ∷ []

abbrev pairs : List ℕ → List ℕ → List ℕ → ℕ → List (List ℕ × List ℕ)
pairs place asked name number =
    (codes "CACHE-CONTROL", codes "max-age=1800") ∷ (codes "EXT", []) ∷ (codes "LOCATION", place)
    ∷ (codes "SERVER", codes "unix/1.0 UPnP/2.0 cds/1.0") ∷ (codes "ST", asked) ∷ (codes "USN", name)
    ∷ (codes "BOOTID.UPNP.ORG", decimal number) ∷ []

abbrev head_of : List ℕ → List ℕ → List ℕ → ℕ → ResponseHead
head_of place asked name number = record {
  blank = [];
  minor = 1;
  digits = codes "200";
  reason = Some (codes "OK");
  line_end = crlf;
  fields = trees place asked name number;
  last = crlf;
}

-- each field is one
valid : (name value : List ℕ) → 0 < length name → list_all is_token_byte name ≡ true → AllPass is_value_byte value → IsField (tree name value)
valid name value some test bytes = record {
  name = token name some test;
  raw = All-cons (λ b. IsTrue (is_value_byte b)) 32 value refl bytes;
}

-- and is read without the blank
plain : (value : List ℕ) → AreVisible value → grammar.trim_ows (32 ∷ value) ≡ value
plain value seen = trim_ows_space value (no-front value seen) (no-back value seen)

-- the texts of a reply
record AreTexts (place asked name : List ℕ) (number : ℕ) : Type 0 where
  place_seen : IsShort 4096 place
  asked_seen : IsShort 80 asked
  name_seen : IsShort 123 name
  small : number < 2 ^ 32

all-valid : (place asked name : List ℕ) (number : ℕ) → AreTexts place asked name number → All IsField (trees place asked name number)
unfolding is_token_byte
all-valid place asked name number t =
    All-from_recursion IsField (trees place asked name number) (
      valid (codes "CACHE-CONTROL") (codes "max-age=1800") (omega arith) refl (AllPass-from_test is_value_byte (codes "max-age=1800") refl),
      (
        record { name = token (codes "EXT") (omega arith) refl; raw = All-nil (λ b. IsTrue (is_value_byte b)) },
        (
          valid (codes "LOCATION") place (omega arith) refl (all-values place t.place_seen.visible),
          (
            valid (codes "SERVER") (codes "unix/1.0 UPnP/2.0 cds/1.0") (omega arith) refl (AllPass-from_test is_value_byte (codes "unix/1.0 UPnP/2.0 cds/1.0") refl),
            (
              valid (codes "ST") asked (omega arith) refl (all-values asked t.asked_seen.visible),
              (
                valid (codes "USN") name (omega arith) refl (all-values name t.name_seen.visible),
                (valid (codes "BOOTID.UPNP.ORG") (decimal number) (omega arith) refl (all-values (decimal number) (visible-decimal number t.small)), tt),
              ),
            ),
          ),
        ),
      ),
    )

all-mean : (place asked name : List ℕ) (number : ℕ) → AreTexts place asked name number → map field_pair (trees place asked name number) ≡ pairs place asked name number
unfolding grammar.trim_ows
all-mean place asked name number t =
    let a = plain place t.place_seen.visible in
    let b = plain asked t.asked_seen.visible in
    let c = plain name t.name_seen.visible in
    let d = plain (decimal number) (visible-decimal number t.small) in
    λ i. (codes "CACHE-CONTROL", codes "max-age=1800") ∷ (codes "EXT", []) ∷ (codes "LOCATION", a i)
    ∷ (codes "SERVER", codes "unix/1.0 UPnP/2.0 cds/1.0") ∷ (codes "ST", b i) ∷ (codes "USN", c i)
    ∷ (codes "BOOTID.UPNP.ORG", d i) ∷ []

-- ---- the text of a reply

shape : (s l v t u b g : List ℕ) → (((((s ++ l) ++ v) ++ t) ++ u) ++ (b ++ g)) ≡ s ++ ((l ++ (v ++ (t ++ (u ++ (b ++ []))))) ++ g)
shape s l v t u b g = simp (append_assoc, append-nil)

abbrev text_of : List ℕ → List ℕ → List ℕ → ℕ → List ℕ
text_of place asked name number =
    start_lines place ++ field_line (codes "ST") asked ++ field_line (codes "USN") name ++ last_lines number

prints : (place asked name : List ℕ) (number : ℕ) → text_of place asked name number ≡ print_response (head_of place asked name number)
unfolding first_lines start_lines last_lines print_response
prints place asked name number =
    shape first_lines (field_line (codes "LOCATION") place) (field_line (codes "SERVER") (codes "unix/1.0 UPnP/2.0 cds/1.0")) (field_line (codes "ST") asked)
    (field_line (codes "USN") name) (field_line (codes "BOOTID.UPNP.ORG") (decimal number)) line_break

-- and it is short
line : (name value : List ℕ) → length (field_line name value) ≡ length name + length value + 4
line name value =
    let a = length-append ((name ++ codes ": ") ++ value) line_break in
    let b = length-append (name ++ codes ": ") value in
    let c = length-append name (codes ": ") in
    let d : length (codes ": ") ≡ 2 = refl in
    let e : length line_break ≡ 2 = refl in
    omega (arith, a, b, c, d, e)

long-start : (place : List ℕ) → length (start_lines place) ≤ length place + 120
unfolding start_lines first_lines
long-start place =
    let a = length-append (first_lines ++ field_line (codes "LOCATION") place) (field_line (codes "SERVER") (codes "unix/1.0 UPnP/2.0 cds/1.0")) in
    let b = length-append first_lines (field_line (codes "LOCATION") place) in
    let c = line (codes "LOCATION") place in
    let d : length first_lines ≡ 52 = refl in
    let e : length (field_line (codes "SERVER") (codes "unix/1.0 UPnP/2.0 cds/1.0")) ≡ 35 = refl in
    let f : length (codes "LOCATION") ≡ 8 = refl in
    omega (arith, a, b, c, d, e, f)

long-last : (number : ℕ) → number < 2 ^ 32 → length (last_lines number) ≤ 40
unfolding last_lines
long-last number small =
    let a = length-append (field_line (codes "BOOTID.UPNP.ORG") (decimal number)) line_break in
    let b = line (codes "BOOTID.UPNP.ORG") (decimal number) in
    let c = length-decimal-le 10 number (omega arith) (omega (arith, small)) (omega (arith, small)) in
    let d : length (codes "BOOTID.UPNP.ORG") ≡ 15 = refl in
    let e : length line_break ≡ 2 = refl in
    omega (arith, a, b, c, d, e)

short-text : (place asked name : List ℕ) (number : ℕ) → AreTexts place asked name number → length (text_of place asked name number) ≤ head_limit
short-text place asked name number t =
    let a = length-append ((start_lines place ++ field_line (codes "ST") asked) ++ field_line (codes "USN") name) (last_lines number) in
    let b = length-append (start_lines place ++ field_line (codes "ST") asked) (field_line (codes "USN") name) in
    let c = length-append (start_lines place) (field_line (codes "ST") asked) in
    let d = line (codes "ST") asked in
    let e = line (codes "USN") name in
    let f : length (codes "ST") ≡ 2 = refl in
    let g : length (codes "USN") ≡ 3 = refl in
    let h = long-start place in
    let i = long-last number t.small in
    let j = t.place_seen.long in
    let k = t.asked_seen.long in
    let l = t.name_seen.long in
    omega (arith, a, b, c, d, e, f, g, h, i, j, k, l)

-- ---- the message

abbrev message_of : List ℕ → List ℕ → List ℕ → ℕ → Message
message_of place asked name number = record { start = Reply 200; fields = kept_fields (pairs place asked name number); body = [] }

framed : (place asked name : List ℕ) (number : ℕ) → framing_of reply_side (kept_fields (pairs place asked name number)) ≡ Ok (unframed reply_side)
framed place asked name number = refl

headed : (place asked name : List ℕ) (number : ℕ) → AreTexts place asked name number
    → IsHead reply_side (text_of place asked name number) (record { start = Reply 200; fields = kept_fields (pairs place asked name number) })
headed place asked name number t =
    let h = head_of place asked name number in (
      h,
      (
        record {
          minor = omega arith;
          digits = (refl, AllPass-from_test is_ascii_digit (codes "200") refl);
          reason = AllPass-from_test is_value_byte (codes "OK") refl;
          fields = all-valid place asked name number t;
        },
        prints place asked name number ∙ sym (append-nil (print_response h)),
      ),
      omega arith,
      ap (λ l. record { start = Reply 200; fields = kept_fields l }) (sym (all-mean place asked name number t)),
    )

spelled : (place asked name : List ℕ) (number : ℕ) → AreTexts place asked name number
    → Spelled true reply_side (text_of place asked name number) (message_of place asked name number) []
spelled place asked name number t = record {
  front = text_of place asked name number;
  text = [];
  bytes_are = sym (append-nil (text_of place asked name number));
  front_short = short-text place asked name number t;
  head = headed place asked name number t;
  framing = unframed reply_side;
  framing_is = framed place asked name number;
  body = (refl, omega arith, refl, refl);
}

whole : (place asked name : List ℕ) (number : ℕ) → AreTexts place asked name number
    → IsMessageIn reply_side (text_of place asked name number) (Some (message_of place asked name number))
whole place asked name number t =
    let text = text_of place asked name number in
    let message = message_of place asked name number in
    of-whole reply_side text message [] (spelled_is_whole true reply_side text message [] (spelled place asked name number t))

-- ---- what it tells of

telling : Option (List ℕ) → Option (List ℕ) → Option (List ℕ) → Option Found
telling asked name place =
    option_and_then (λ a. option_and_then (λ n. option_and_then (λ u. Some (found_as a n u)) (option_and_then http_url place)) name) asked

computed : (place asked name : List ℕ) (number : ℕ) → found_in (message_of place asked name number) ≡ telling (text_in asked) (text_in name) (text_in place)
unfolding found_by telling
computed place asked name number = refl

told : (place asked name : List ℕ) (number : ℕ) (url : Parts) → AreTexts place asked name number → http_url place ≡ Some url
    → found_in (message_of place asked name number) ≡ Some (found_as asked name url)
unfolding telling
told place asked name number url t is =
    let a = text-read asked t.asked_seen.visible in
    let b = text-read name t.name_seen.visible in
    let c = text-read place t.place_seen.visible in
    computed place asked name number ∙ (λ i. telling (a i) (b i) (c i)) ∙ ap (λ o. option_and_then (λ u. Some (found_as asked name u)) o) is

first-two : (a b c : Bool) → (a && b && c) ≡ true → (a ≡ true) × (b ≡ true)
first-two true true c e = (refl, refl)
first-two true false c e = absurd (true≢false (sym e))
first-two false b c e = absurd (true≢false (sym e))

within : (n m : ℕ) → nat_le n m ≡ true → n ≤ m
within n m e = grind (arith, nat_tests)

located : (place : List ℕ) → IsTrue (is_location place) → IsShort 4096 place
located place can =
    let p = first-two (nat_le (length place) 4096) (list_all is_printed place) (is_some (http_url place)) can in
    record { visible = visible-printed place p.1; long = within (length place) 4096 p.0 }

one : (device : Device) (url : Parts) → IsTrue (is_location device.location) → http_url device.location ≡ Some url → device.boot < 2 ^ 32
    → (asked : List ℕ) → IsShort 80 asked → Tells (reply_text device asked) (found_as asked (usn_of device.uuid asked) url)
unfolding reply_text
one device url can is small asked short =
    let place = device.location in
    let name = usn_of device.uuid asked in
    let t : AreTexts place asked name device.boot = record {
      place_seen = located place can;
      asked_seen = short;
      name_seen = short-usn device.uuid asked short;
      small = small;
    } in
    let there = whole place asked name device.boot t in
    (message_of place asked name device.boot, there.0, there.1, told place asked name device.boot url t is)

-- ---- all replies to a search

pub replies-read-back : RepliesAreReadBack
replies-read-back device asked url can is small = by (is_itself asked) refl
  where
    Back : List ℕ → Type 0
    Back text = Tells (reply_text device text) (found_as text (usn_of device.uuid text) url)

    own : (text : List ℕ) → IsShort 80 text → Back text
    own = one device url can is small

    every : AllByRecursion Back (every_target device.uuid)
    every = (own _ every-root, (own _ (name-target device.uuid), (own _ every-device, (own _ every-service, tt))))

    all : (t : Bool) → AllByRecursion Back (cond t (every_target device.uuid) [])
    all true = every
    all false = tt

    other : (t : Bool) → AllByRecursion Back (cond t (device_name device.uuid ∷ []) (cond (bytes_eq asked (codes "ssdp:all")) (every_target device.uuid) []))
    other true = (own (device_name device.uuid) (name-target device.uuid), tt)
    other false = all (bytes_eq asked (codes "ssdp:all"))

    by : (t : Bool) → is_itself asked ≡ t → AllByRecursion Back (cond t (asked ∷ []) (cond (are_same_letters asked (device_name device.uuid)) (device_name device.uuid ∷ []) (cond (bytes_eq asked (codes "ssdp:all")) (every_target device.uuid) [])))
    by true e = (own asked (short-itself asked e), tt)
    by false e = other (are_same_letters asked (device_name device.uuid))
