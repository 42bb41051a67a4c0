-- How many subscriptions live where moments never fall, and which names are those of numbers.
use Rattle.std.proofs.Common.{◌≡◌, ◌⊎◌, ◌↔◌, inl, inr, ◌+◌, ◌-◌, ◌<◌, ◌≤◌, ◌^◌, ℕ, zero, suc, Bool, true, false, cond, ◌&&◌, nat_eq, nat_lt, nat_le, List, [], ◌∷◌, ◌++◌, filter, length, length-append, codes, drop, Option, Some, None, is_some, option_map, All, refl, sym, ap, ◌∙◌, subst, arith, true≢false, eqb-true, ltb-true, lt-ltb}
use Rattle.std.specs.List.{range_with_len, starts_with}
use Rattle.std.specs.Int.{w128, from_be_bytes, to_be_bytes, byte_at, bytes_high_first}
use Rattle.std.proofs.lemmas.Bool.Decides.{nat_tests}
use Rattle.std.proofs.lemmas.List.Elements.{All-cons, All-nil, filter-append}
use Rattle.uuid.specs.Text.{hyphenated_text, lower, parsed}
use Rattle.uuid.proofs.RoundTrips.{parses_hyphenated}
use Rattle.uuid.proofs.OrderLemmas.{from_be_bytes-to_be_bytes_16}
use Rattle.cds_changes.proofs.Numbers.{range-more}
use Rattle.cds_commands.specs.Commands.{Command, Start, Scans, Grants, Renews, Ends, Ticks, Stops}
use Rattle.cds_commands.specs.Names.{name_of, names_of}
use Rattle.cds_commands.specs.Subscriptions.{granted, end_after, renewed_until, unless_past, runs_until, is_alive, subscription_limit}
use Rattle.cds_commands.specs.Notes.{alive_names}
use Rattle.cds_commands.proofs.Among.{Among, row-among, seq-append}
use Rattle.cds_gena.specs.SidText.{sid_in, sid_text}
use Rattle.cds_gena.specs.Subscribed.{Booked, Subscribed, StandsFor, alive, holds_alive, if_alive, last_number, living_named, number_of, subscribed_by}
use Rattle.cds_gena.specs.Served.{Served}
use Rattle.cds_gena.proofs.Commands.{as-many, number-alive, runs-named}

-- ---- counting

-- of what passes one test no less passes another
fewer : (p q : ℕ → Bool) (xs : List ℕ) → ((x : ℕ) → Among x xs → p x ≡ true → q x ≡ true) → length (filter p xs) ≤ length (filter q xs)
fewer p q [] h = omega arith
fewer p q (x ∷ xs) h = by (p x) (q x) refl refl (fewer p q xs (λ y a. h y (inr a)))
  where
    by : (b c : Bool) → p x ≡ b → q x ≡ c → length (filter p xs) ≤ length (filter q xs)
        → length (cond b (x ∷ filter p xs) (filter p xs)) ≤ length (cond c (x ∷ filter q xs) (filter q xs))
    by true true e f l = omega (arith, l)
    by true false e f l = absurd (true≢false (sym (h x (inl refl) e) ∙ f))
    by false true e f l = omega (arith, l)
    by false false e f l = l

one-more : (p : ℕ → Bool) (x : ℕ) → length (filter p (x ∷ [])) ≤ 1
one-more p x = by (p x)
  where
    by : (b : Bool) → length (cond b (x ∷ []) []) ≤ 1
    by true = omega arith
    by false = omega arith

first-of : (a b : Bool) → (a && b) ≡ true → a ≡ true
first-of true b e = refl
first-of false b e = absurd (true≢false (sym e))

both : (a b : Bool) → a ≡ true → b ≡ true → (a && b) ≡ true
both a b e f = ap (λ c. c && b) e ∙ f

below : (a b c : ℕ) → a ≤ b → nat_lt b c ≡ true → nat_lt a c ≡ true
below a b c l e = grind (arith, nat_tests)

-- ---- one command more

-- what has not run out at a moment had not at an earlier one
earlier : (m now : ℕ) (o : Option ℕ) → m ≤ now → is_some (unless_past now o) ≡ true → is_some (unless_past m o) ≡ true
earlier m now None l e = e
earlier m now (Some end) l e = by (nat_lt now end) refl e
  where
    by : (b : Bool) → nat_lt now end ≡ b → is_some (cond b (Some end) None) ≡ true → is_some (cond (nat_lt m end) (Some end) None) ≡ true
    by true h k = ap (λ c. is_some (cond c (Some end) None)) (below m now end l h)
    by false h k = absurd (true≢false (sym k))

past-twice : (m now : ℕ) (o : Option ℕ) → is_some (unless_past now (unless_past m o)) ≡ true → is_some (unless_past m o) ≡ true
past-twice m now o e = by (unless_past m o) e
  where
    by : (p : Option ℕ) → is_some (unless_past now p) ≡ true → is_some p ≡ true
    by None k = k
    by (Some end) k = refl

-- ---- the bound

abbrev live : ℕ → List Command → ℕ
live now commands = length (alive_names now commands)

one-behind : (n : ℕ) → n + 1 ≡ suc n
one-behind n = omega arith

granted-lived : (now m : ℕ) (callback : List ℕ) (seconds : ℕ) (older : List Command) → m ≤ now
    → live now (Grants m callback seconds ∷ older) ≤ live m older + 1
granted-lived now m callback seconds older l =
    let row : range_with_len 1 (granted older + 1) ≡ range_with_len 1 (granted older) ++ (1 + granted older) ∷ [] = ap (range_with_len 1) (one-behind (granted older)) ∙ range-more 1 (granted older) in
    let cut : live now newer ≡ length (filter p (range_with_len 1 (granted older)) ++ filter p ((1 + granted older) ∷ []))
    = ap (λ r. length (filter p r)) row ∙ ap length (filter-append p (range_with_len 1 (granted older)) ((1 + granted older) ∷ [])) in
    let sum = length-append (filter p (range_with_len 1 (granted older))) (filter p ((1 + granted older) ∷ [])) in
    let one = one-more p (1 + granted older) in
    let rest = fewer p (λ (n : ℕ). is_alive n m older) (range_with_len 1 (granted older)) (λ x a. before x (row-among 1 (granted older) x a).1) in
    omega (arith, cut, sum, one, rest)
  where
    newer : List Command
    newer = Grants m callback seconds ∷ older

    p : ℕ → Bool
    p n = is_alive n now newer

    before : (x : ℕ) → x < 1 + granted older → p x ≡ true → is_alive x m older ≡ true
    before x small e = by (nat_eq x (granted older + 1)) refl e
      where
        by : (b : Bool) → nat_eq x (granted older + 1) ≡ b → is_some (unless_past now (cond b (Some (end_after m seconds)) (runs_until x older))) ≡ true
            → is_some (unless_past m (runs_until x older)) ≡ true
        by true h k = let same = eqb-true x (granted older + 1) h in absurd (omega (arith, same, small))
        by false h k = earlier m now (runs_until x older) l k

renewed-lived : (now m other seconds : ℕ) (older : List Command) → m ≤ now → is_alive other m older ≡ true → (x : ℕ)
    → is_alive x now (Renews m other seconds ∷ older) ≡ true → is_alive x m older ≡ true
renewed-lived now m other seconds older l living x e = by (nat_eq x other) refl
  where
    by : (b : Bool) → nat_eq x other ≡ b → is_alive x m older ≡ true
    by true h = ap (λ (n : ℕ). is_alive n m older) (eqb-true x other h) ∙ living
    by false h =
        earlier m now (runs_until x older) l
        (ap (λ b. is_some (unless_past now (cond b (renewed_until (end_after m seconds) (runs_until x older)) (runs_until x older)))) (sym h) ∙ e)

ended-lived : (now m other : ℕ) (older : List Command) → m ≤ now → (x : ℕ)
    → is_alive x now (Ends m other ∷ older) ≡ true → is_alive x m older ≡ true
ended-lived now m other older l x e = by (nat_eq x other) e
  where
    by : (b : Bool) → is_some (unless_past now (cond b None (runs_until x older))) ≡ true → is_some (unless_past m (runs_until x older)) ≡ true
    by true k = absurd (true≢false (sym k))
    by false k = earlier m now (runs_until x older) l k

pub few : (now : ℕ) (commands : List Command) → Served now commands → live now commands ≤ 64
few now [] h = omega arith
few now (Scans library ∷ older) h =
    let rest = few now older h in
    let less = fewer (λ (n : ℕ). is_alive n now (Scans library ∷ older)) (λ (n : ℕ). is_alive n now older) (range_with_len 1 (granted older))
    (λ x a e. e) in
    omega (arith, rest, less)
few now (Grants m callback seconds ∷ older) (l, room, h) =
    let free : live m older < 64 = ltb-true (live m older) 64 room in
    let more = granted-lived now m callback seconds older l in
    omega (arith, free, more)
few now (Renews m other seconds ∷ older) (l, living, h) =
    let rest = few m older h in
    let less = fewer (λ (n : ℕ). is_alive n now (Renews m other seconds ∷ older)) (λ (n : ℕ). is_alive n m older) (range_with_len 1 (granted older))
    (λ x a e. renewed-lived now m other seconds older l living x e) in
    omega (arith, rest, less)
few now (Ends m other ∷ older) (l, h) =
    let rest = few m older h in
    let less = fewer (λ (n : ℕ). is_alive n now (Ends m other ∷ older)) (λ (n : ℕ). is_alive n m older) (range_with_len 1 (granted older))
    (λ x a e. ended-lived now m other older l x e) in
    omega (arith, rest, less)
few now (Ticks m ∷ older) (l, h) =
    let rest = few m older h in
    let less = fewer (λ (n : ℕ). is_alive n now (Ticks m ∷ older)) (λ (n : ℕ). is_alive n m older) (range_with_len 1 (granted older))
    (λ x a e. past-twice m now (runs_until x older) e) in
    omega (arith, rest, less)
few now (Stops ∷ older) h =
    let rest = few now older h in
    let less = fewer (λ (n : ℕ). is_alive n now (Stops ∷ older)) (λ (n : ℕ). is_alive n now older) (range_with_len 1 (granted older))
    (λ x a e. e) in
    omega (arith, rest, less)

-- the same of a book
pub few-of : (book : Booked) (start : Start) (commands : List Command) (now : ℕ) → StandsFor book start commands → Served now commands
    → length (alive now book.subscribed.living) ≤ 64
few-of book start commands now stands served =
    let same = ap (λ (s : Subscribed). length (alive now s.living)) stands.subscribed in
    let count = as-many start now commands in
    let least = few now commands served in
    omega (arith, same, count, least)

-- ---- names

some-same : (a b : ℕ) → Some a ≡ Some b → a ≡ b
some-same a b e = cc

number-is : (names name number : ℕ) → number_of names name ≡ Some number → name ≡ names + number
number-is names name number e = by (nat_le names name && nat_le (name - names) last_number) refl e
  where
    by : (t : Bool) → nat_le names name && nat_le (name - names) last_number ≡ t → cond t (Some (name - names)) None ≡ Some number → name ≡ names + number
    by true h k =
        let low = first-of (nat_le names name) (nat_le (name - names) last_number) h in
        let same = some-same (name - names) number k in
        at name number low same
      where
        at : (name number : ℕ) → nat_le names name ≡ true → name - names ≡ number → name ≡ names + number
        at name number low same = grind (arith, nat_tests)
    by false h k = absurd (none≢some k)
      where
        none≢some : None ≡ Some number → ⊥
        none≢some d = true≢false (sym (ap is_some d))

its-number : (names number : ℕ) → number ≤ last_number → number_of names (names + number) ≡ Some number
its-number names number l =
    let back : names + number - names ≡ number = omega arith in
    let low : nat_le names (names + number) ≡ true = grind (arith, nat_tests) in
    let high : nat_le number last_number ≡ true = small number last_number l in
    ap (λ d. cond (nat_le names (names + number) && nat_le d last_number) (Some d) None) back
    ∙ ap (λ b. cond b (Some number) None) (both (nat_le names (names + number)) (nat_le number last_number) low high)
  where
    small : (a b : ℕ) → a ≤ b → nat_le a b ≡ true
    small a b h = grind (arith, nat_tests)

alive-of : (living : Subscribed) (now number : ℕ) (o : Option ℕ) → if_alive now living.living o ≡ Some number
    → (o ≡ Some number) × (holds_alive now number living.living ≡ true)
alive-of living now number None e = absurd (true≢false (sym (ap is_some e)))
alive-of living now number (Some n) e = by (holds_alive now n living.living) refl e
  where
    by : (b : Bool) → holds_alive now n living.living ≡ b → cond b (Some n) None ≡ Some number → (Some n ≡ Some number) × (holds_alive now number living.living ≡ true)
    by true h k = (k, ap (λ z. holds_alive now z living.living) (sym (some-same n number k)) ∙ h)
    by false h k = absurd (true≢false (sym (ap is_some k)))

pub named-numbers : (book : Booked) (start : Start) (commands : List Command) (now name number : ℕ) → StandsFor book start commands → granted commands ≤ last_number
    → (living_named now name book ≡ Some number) ↔ ((name ≡ name_of start number) × (is_alive number now commands ≡ true))
named-numbers book start commands now name number stands few =
    let held : holds_alive now number book.subscribed.living ≡ is_alive number now commands
    = ap (λ (s : Subscribed). holds_alive now number s.living) stands.subscribed ∙ number-alive start now commands number in (
      λ e.
          let of = alive-of book.subscribed now number (number_of book.names name) e in
          (number-is book.names name number of.0 ∙ ap (λ n. n + number) stands.names, sym held ∙ of.1),
      λ h.
          let short : number ≤ last_number = within h.1 in
          let is : name ≡ book.names + number = h.0 ∙ ap (λ n. n + number) (sym stands.names) in
          ap (λ n. if_alive now book.subscribed.living (number_of book.names n)) is
          ∙ ap (if_alive now book.subscribed.living) (its-number book.names number short)
          ∙ ap (λ b. cond b (Some number) None) (held ∙ h.1),
    )
  where
    some-before : (o : Option ℕ) → is_some (unless_past now o) ≡ true → is_some o ≡ true
    some-before None e = e
    some-before (Some end) e = refl

    within : is_alive number now commands ≡ true → number ≤ last_number
    within e =
        let most = (runs-named number commands (some-before (runs_until number commands)
        e)).1 in
        omega (arith, most, few)

-- ---- the text of a name

byte-small : (k n : ℕ) → byte_at k n < 256
byte-small zero n = omega arith
byte-small (suc k) n = omega arith

bytes-small : (k n : ℕ) → All (λ b. b < 256) (bytes_high_first k n)
bytes-small zero n = All-nil (λ b. b < 256)
bytes-small (suc k) n = All-cons (λ b. b < 256) (byte_at k n) (bytes_high_first k n) (byte-small k n) (bytes-small k n)

pub read-back : (name : ℕ) → name < 2 ^ 128 → sid_in (sid_text name) ≡ Some name
read-back name short =
    let text : Some (to_be_bytes w128 name) ≡ parsed (hyphenated_text lower (to_be_bytes w128 name))
    = parses_hyphenated lower (to_be_bytes w128 name) (inl refl) refl (bytes-small 16 name) in
    ap (option_map (from_be_bytes w128)) (sym text) ∙ ap Some (from_be_bytes-to_be_bytes_16 name short)
