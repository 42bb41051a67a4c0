-- Runs of bytes that complete nothing are told as such.
use Rattle.std.proofs.Common.{◌≡◌, ◌==◌, ℕ, zero, suc, ◌+◌, ◌-◌, ◌<◌, ◌≤◌, nat_lt, Bool, true, false, not, ◌&&◌, ◌||◌, cond, Option, Some, None, Result, Ok, Err, List, [], ◌∷◌, ◌++◌, length, take, drop, refl, sym, ap, subst, ◌∙◌, arith, append_assoc, length-append, inl, inr}
use Rattle.std.proofs.lemmas.List.Sums.{prefix_len-le-length, take_while-cons}
use Rattle.std.proofs.lemmas.Str.Ascii.{IsAscii-nil, IsAscii-cons}
use Rattle.cds_base.specs.declared.mem.Mem.{Mem}
use Rattle.cds_base.specs.Runs.{stands_for_itself}
use Rattle.cds_markup.specs.declared.plain.Plain.{Plain}
use Rattle.cds_markup.specs.declared.plain.Plain.TheVariants.{Letters, InName, Written, Blanks}
use Rattle.cds_markup.proofs.Terms.{nat_tests, append-nil, take-append_seam, drop-append_seam, encode_ascii, begins_name, is_allowed, is_blank, is_in_name, INPUT_LIMIT, Marks, OpenText, AttributeState, AttrName, Equals, Value, StartTagState, Name, Tagged, Spaced, Attribute, NameState, ValueState, ReferenceState, Misc, MiscComment, RootState, Content, Less, Comment, Section, StartTag, EndTag, Mode, Prolog, Inside, Epilog, Open, QName, Tag, Literal, Part, is_empty, On, Token, Letter, name_state, goes_on, is_whole, name_of, written_name, name_bytes, begins_with, slash_step, drop-drop, length-take-le, ends_tag, with_attr, value_state, literal_step, says_behind, quote_of, To, step, Reading, reading, go_on, moved, begins_tag, most_open, is_deep, may_begin_name, breaks_rule, is_none, is_between, passed_over, marked, marks, text_with, text_or, open_text, Telling, telling, behind_parts, told_within, told_on, told, Told, ToldSo, TakesAll as Takes, and-no, and-so, and-both, and-first, and-second, is-byte, empty-is, cases, clash, list_all, take_while, take-append-drop, length-prefix_len, IsAscii}
use Rattle.cds_markup.specs.Runs.{begins_plain_name, is_plain_name, is_plain_qname, begins_blank, attr_with, plain_attr, HasAttr, SpacedRuns, HasName, plain_name_state, PartAt, NameAt, ValueAt, is_plain_in_name, is_written, is_line_blank, is_plain, EndRuns, HasSlash, in_text, text_before, TextRuns, Passes, Collects, AttrRuns, TagRuns, RootRuns, MiscRuns, ModeRuns, is_plain_content, takes_run, QuietSo, RunSo}
use Rattle.cds_markup.proofs.Decoded.{ascii_whole}
use Rattle.cds_markup.proofs.TokenTold.{behind-none, told-append, byte-told, judged-ok, shallow-mode}
use Rattle.cds_markup.proofs.ToldBytes.{SoFar}

-- the bytes at the front that pass a test
front-all : (test : ℕ → Bool) (bytes : List ℕ) → list_all test (take_while test bytes) ≡ true
front-all test [] = refl
front-all test (b ∷ w) = rw (take_while-cons test b w) (cases (test b) (λ e. rw e (and-both (test b) (list_all test (take_while test w)) e (front-all test w))) (λ e. rw e refl))

pub front_within : (test : ℕ → Bool) (bytes : List ℕ) (n : ℕ) → n ≡ length (take_while test bytes) → n ≤ length bytes
front_within test bytes n e = omega (arith, e, length-prefix_len test bytes, prefix_len-le-length test bytes)

-- a part of the front
front-part : (test : ℕ → Bool) (bytes : List ℕ) (n : ℕ) → n ≤ length (take_while test bytes) → list_all test (take n bytes) ≡ true
front-part test bytes zero h = refl
front-part test [] (suc n) h = refl
front-part test (b ∷ w) (suc n) h =
    let g : suc n ≤ length (cond (test b) (b ∷ take_while test w) []) = subst (λ x. suc n ≤ length x) (take_while-cons test b w) h in
    cases (test b)
    (λ e. and-both (test b) (list_all test (take n w)) e (front-part test w n (omega (arith, subst (λ t. suc n ≤ length (cond t (b ∷ take_while test w) [])) e g))))
    (λ e. absurd (omega (arith, subst (λ t. suc n ≤ length (cond t (b ∷ take_while test w) [])) e g)))

pub front_is : (test : ℕ → Bool) (bytes : List ℕ) (n : ℕ) → n ≡ length (take_while test bytes) → take n bytes ≡ take_while test bytes
front_is test bytes n e = rw (e ∙ length-prefix_len test bytes) refl

pub collects : (going : Bool) (test : ℕ → Bool) (text bytes front now : List ℕ) (n : ℕ) → going ≡ true → n ≡ length (take_while test bytes) → front ≡ take n bytes → now ≡ text ++ front → Collects going test text bytes (Ok n) now
collects true test text bytes front now n g e f h = (e, h ∙ ap (λ xs. text ++ xs) (f ∙ front_is test bytes n e))
collects false test text bytes front now n g e f h = clash g refl

-- letters, and what else runs are of
apart : (test : ℕ → Bool) (b c : ℕ) → test b ≡ true → test c ≡ false → (b == c) ≡ false
apart test b c e f = cases (b == c) (λ g. clash e (ap test (is-byte b c g) ∙ f)) (λ g. g)

abbrev IsPlain : ℕ → Type 0
IsPlain b = (b < 128) × (is_allowed b ≡ true)

plain-byte : (kind : Plain) (b : ℕ) → is_plain kind b ≡ true → IsPlain b
plain-byte Letters b e = (grind (arith, nat_tests), grind (arith, nat_tests))
plain-byte InName b e = (grind (arith, nat_tests), grind (arith, nat_tests))
plain-byte Written b e = (grind (arith, nat_tests), grind (arith, nat_tests))
plain-byte Blanks b e = (grind (arith, nat_tests), grind (arith, nat_tests))

all-ascii : (kind : Plain) (w : List ℕ) → list_all (is_plain kind) w ≡ true → IsAscii w
all-ascii kind [] e = IsAscii-nil
all-ascii kind (b ∷ w) e = IsAscii-cons b w (plain-byte kind b (and-first (is_plain kind b) (list_all (is_plain kind) w) e)).0 (all-ascii kind w (and-second (is_plain kind b) (list_all (is_plain kind) w) e))

pub plain_ascii : (kind : Plain) (bytes : List ℕ) → IsAscii (take_while (is_plain kind) bytes)
plain_ascii kind bytes = all-ascii kind (take_while (is_plain kind) bytes) (front-all (is_plain kind) bytes)

-- a byte of the name in an end tag
end-leads : (o : Open) (outer : List Open) (k b : ℕ) (w left : List ℕ) → b < 128 → drop k (name_bytes o.name) ≡ left → begins_with left (b ∷ w) ≡ true
    → (step (Inside (EndTag k)) (o ∷ outer) b ≡ To (Inside (EndTag (k + 1))) (o ∷ outer) []) × (begins_with (drop (k + 1) (name_bytes o.name)) w ≡ true)
end-leads o outer k b w [] low is e = clash e refl
end-leads o outer k b w (c ∷ left) low is e = (
  rw (is, encode_ascii b low, and-first (b == c) (begins_with left w) e) refl,
  subst (λ x. begins_with x w ≡ true) (sym (sym (drop-drop 1 k (name_bytes o.name)) ∙ ap (drop 1) is)) (and-second (b == c) (begins_with left w) e),
)

slash-on : (o : List Open) → (length o == 0) ≡ false → slash_step o ≡ On (EndTag 0)
slash-on [] e = clash refl e
slash-on (o ∷ outer) e = refl

-- one byte
module _ (n : ℕ) (mode : Mode) (opens : List Open) (m : Marks) (at b : ℕ) (w : List ℕ) (plain : IsPlain b) (room : at < n) (shallow : is_deep (reading [] mode opens) b ≡ false) where
  plain-told : (next : Mode) (us : List Token) → step mode opens b ≡ To next opens us → breaks_rule opens us ≡ false
      → told_within n (telling (reading [] mode opens) m at) (b ∷ w) ≡ behind_parts (marked (reading [] mode opens) m at (reading [] next opens) us).0 (told_within n (telling (reading [] next opens) (marked (reading [] mode opens) m at (reading [] next opens) us).1 (at + 1)) w)
  plain-told next us to keeps =
      byte-told n (telling (reading [] mode opens) m at) b w (reading [] next opens) us room
      (judged-ok (reading [] mode opens) b (reading [] next opens, us) shallow (ap (go_on mode opens (b ∷ [])) (ascii_whole b plain.0 plain.1) ∙ ap moved to) keeps)

  quiet-told : (next : Mode) → is_between mode ≡ false → step mode opens b ≡ To next opens [] → told_within n (telling (reading [] mode opens) m at) (b ∷ w) ≡ told_within n (telling (reading [] next opens) m (at + 1)) w
  quiet-told next inside to =
      plain-told next [] to refl ∙ ap (λ t. behind_parts (passed_over (t && not (is_between next)) m at).0 (told_within n (telling (reading [] next opens) (passed_over (t && not (is_between next)) m at).1 (at + 1)) w)) inside
      ∙ behind-none (told_within n (telling (reading [] next opens) m (at + 1)) w)

-- bytes that lead from one place to another
abbrev One : (ℕ → Telling) → ℕ → (ℕ → Telling) → Type 0
One p b q = (at : ℕ) (w : List ℕ) → at < INPUT_LIMIT → told (p at) (b ∷ w) ≡ told (q (at + 1)) w

abbrev Over : (ℕ → Telling) → List ℕ → (ℕ → Telling) → Type 0
Over p w q = (at : ℕ) → at + length w ≤ INPUT_LIMIT → told (p at) w ≡ Ok ([], q (at + length w))

over-none : (p : ℕ → Telling) → Over p [] p
over-none p at room = ap (λ k. Ok ([], p k)) (omega arith)

over-one : (p q r : ℕ → Telling) (b : ℕ) (w : List ℕ) → One p b q → Over q w r → Over p (b ∷ w) r
over-one p q r b w one f at room = one at w (omega (arith, room)) ∙ f (at + 1) (omega (arith, room)) ∙ ap (λ k. Ok ([], r k)) (omega arith)

-- a run, where each byte goes on with what is collected
abbrev Walks : (ℕ → Bool) → (List ℕ → ℕ → Telling) → List ℕ → Type 0
Walks test spot t = (w : List ℕ) → list_all test w ≡ true → Over (spot t) w (spot (t ++ w))

module _ (test : ℕ → Bool) (spot : List ℕ → ℕ → Telling) (one : (t : List ℕ) (b : ℕ) → test b ≡ true → One (spot t) b (spot (t ++ b ∷ []))) where
  over-walk : (t w v : List ℕ) (r : ℕ → Telling) → list_all test w ≡ true → Over (spot (t ++ w)) v r → Over (spot t) (w ++ v) r
  over-walk t [] v r e f = rw (append-nil t) at f
  over-walk t (b ∷ w) v r e f =
      over-one (spot t) (spot (t ++ b ∷ [])) r b (w ++ v) (one t b (and-first (test b) (list_all test w) e)) (over-walk (t ++ b ∷ []) w v r (and-second (test b) (list_all test w) e) (rw (append_assoc t (b ∷ []) w) f))

  walks : (t : List ℕ) → Walks test spot t
  walks t w e = rw (append-nil w) at (over-walk t w [] (spot (t ++ w)) e (over-none (spot (t ++ w))))

-- a name that may end
abbrev IsWhole : NameState → List ℕ → List ℕ → Type 0
IsWhole k prefix local = (k ≡ plain_name_state prefix local) × (is_whole k.second ≡ true) × ((c : ℕ) → is_in_name c ≡ false → (c == 58) ≡ false → goes_on k c ≡ None)

-- what is collected, or not, wherever it stands
abbrev RunFrom : (ℕ → Telling) → List ℕ → ℕ → (ℕ → Telling) → Type 0
RunFrom p bytes n q = (n ≤ length bytes) × ((at : ℕ) → at + length bytes ≤ INPUT_LIMIT → told (p at) (take n bytes) ≡ Ok ([], q (at + n)))

stays : (p : ℕ → Telling) (bytes : List ℕ) (n : ℕ) → n ≡ 0 → RunFrom p bytes n p
stays p bytes n e = rw e (omega arith, λ at room. ap (λ k. Ok ([], p k)) (omega arith))

collected : (test : ℕ → Bool) (spot : List ℕ → ℕ → Telling) (text bytes : List ℕ) (n : ℕ) (now : List ℕ) (going : Bool) → (going ≡ true → Walks test spot text) → Collects going test text bytes (Ok n) now → RunFrom (spot text) bytes n (spot now)
collected test spot text bytes n now true runs h =
    let less : n ≤ length bytes = front_within test bytes n h.0 in
    let front : List ℕ = take_while test bytes in
    (less, λ at room. ap (told (spot text at)) (front_is test bytes n h.0) ∙ runs refl front (front-all test bytes) at (omega (arith, less, room, h.0)) ∙ rw (h.1, h.0) refl)
collected test spot text bytes n now false runs h = rw h.1 (stays (spot text) bytes n h.0)

-- states that complete nothing
value-says : (b : ℕ) → stands_for_itself b ≡ true → says_behind false (Literal b) ≡ b ∷ []
value-says b e =
    rw (and-no (b == 10)) (cases (is_blank b) (λ f. let space : b ≡ 32 = grind (arith, nat_tests) in rw (f, space) refl) (λ f. rw (f, encode_ascii b (plain-byte Letters b e).0) refl))

literal-goes : (double : Bool) (t : List ℕ) (b : ℕ) → stands_for_itself b ≡ true → literal_step double t false b ≡ On (value_state double (t ++ b ∷ []) false None)
literal-goes double t b e =
    rw (apart stands_for_itself b (quote_of double) e (no-quote double), apart stands_for_itself b 38 e refl, apart stands_for_itself b 60 e refl)
    (ap (λ xs. On (value_state double (t ++ xs) (b == 13) None)) (value-says b e) ∙ ap (λ x. On (value_state double (t ++ b ∷ []) x None)) (apart stands_for_itself b 13 e refl)) where
      no-quote : (double : Bool) → stands_for_itself (quote_of double) ≡ false
      no-quote true = refl
      no-quote false = refl

-- a name that begins, and white space behind one
begins-plain : (b : ℕ) → begins_plain_name b ≡ true → IsPlain b
begins-plain b e = (grind (arith, nat_tests), grind (arith, nat_tests))

begins-is : (b : ℕ) → begins_plain_name b ≡ true → (is_blank b ≡ false) × (ends_tag b ≡ false) × ((b == 47) ≡ false) × ((b == 33) ≡ false)
begins-is b e = (grind (arith, nat_tests), grind (arith, nat_tests), grind (arith, nat_tests), grind (arith, nat_tests))

blank-is : (b : ℕ) → is_line_blank b ≡ true → is_blank b ≡ true
blank-is b e = grind (arith, nat_tests)

blank-ends : (b : ℕ) → is_line_blank b ≡ true → (is_in_name b ≡ false) × ((b == 58) ≡ false)
blank-ends b e = (grind (arith, nat_tests), grind (arith, nat_tests))

-- what stands at the front
pub split_is : (n : ℕ) (bytes front back : List ℕ) → front ≡ take n bytes → back ≡ drop n bytes → bytes ≡ front ++ back
split_is n bytes front back f b = sym (ap (λ x. x ++ back) f ∙ ap (λ y. take n bytes ++ y) b ∙ take-append-drop n bytes)

prefixed : (x : ℕ) (xs local v : List ℕ) → written_name (x ∷ xs) local ++ v ≡ (x ∷ xs) ++ 58 ∷ (local ++ v)
prefixed x xs local v = append_assoc ((x ∷ xs) ++ 58 ∷ []) local v ∙ append_assoc (x ∷ xs) (58 ∷ []) (local ++ v)

pub name_is : (b n : ℕ) (w bytes name rest : List ℕ) → begins_plain_name b ≡ true → bytes ≡ b ∷ w → n ≡ length (take_while is_plain_in_name bytes) → name ≡ take n bytes → rest ≡ drop n bytes → PartAt name rest bytes
name_is b n w bytes name rest begins is count front back = (subst (λ x. is_plain_name x ≡ true) (sym all) (and-both (begins_plain_name b) (list_all is_plain_in_name (take_while is_plain_in_name w)) begins (front-all is_plain_in_name w)), split_is n bytes name rest front back) where
  inside : is_plain_in_name b ≡ true
  inside = grind (arith, nat_tests)

  all : name ≡ b ∷ take_while is_plain_in_name w
  all = front ∙ front_is is_plain_in_name bytes n count ∙ ap (take_while is_plain_in_name) is ∙ take_while-cons is_plain_in_name b w ∙ ap (λ t. cond t (b ∷ take_while is_plain_in_name w) []) inside

pub value_is : (n : ℕ) (bytes text value back rest : List ℕ) → bytes ≡ 34 ∷ text → n ≡ length (take_while stands_for_itself text) → value ≡ take n text → back ≡ drop n text → back ≡ 34 ∷ rest → ValueAt value rest bytes
value_is n bytes text value back rest is count front behind quote = (subst (λ x. list_all stands_for_itself x ≡ true) (sym (front ∙ front_is stands_for_itself text n count)) (front-all stands_for_itself text), is ∙ ap (λ x. 34 ∷ x) (split_is n text value back front behind ∙ ap (λ x. value ++ x) quote))

part-ascii : (w : List ℕ) → is_plain_name w ≡ true → IsAscii w
part-ascii [] e = clash e refl
part-ascii (b ∷ more) e = IsAscii-cons b more (begins-plain b (and-first (begins_plain_name b) (list_all is_plain_in_name more) e)).0 (all-ascii InName more (and-second (begins_plain_name b) (list_all is_plain_in_name more) e))

left-is : (bytes front v w rest : List ℕ) (k : ℕ) → bytes ≡ front ++ w → rest ≡ v ++ w → k ≡ length bytes - length rest → length v ≤ length front → k + length v ≡ length front
left-is bytes front v w rest k is e count room = omega (arith, count, ap length is ∙ length-append front w, ap length e ∙ length-append v w, room)

pub name_ascii : (prefix local : List ℕ) → is_plain_qname prefix local ≡ true → IsAscii prefix × IsAscii local
name_ascii [] local e = (IsAscii-nil, part-ascii local e)
name_ascii (b ∷ more) local e =
    (part-ascii (b ∷ more) (and-first (is_plain_name (b ∷ more)) (is_plain_name local) e), part-ascii local (and-second (is_plain_name (b ∷ more)) (is_plain_name local) e))

pub value_ascii : (w : List ℕ) → list_all stands_for_itself w ≡ true → IsAscii w
value_ascii w e = all-ascii Letters w e

module _ (opens : List Open) (m : Marks) (bytes : List ℕ) (n : ℕ) where
  abbrev spot : Mode → ℕ → Telling
  spot mode at = telling (reading [] mode opens) m at

  abbrev Quiet : Mode → Mode → Type 0
  Quiet a b = RunFrom (spot a) bytes n (spot b)

  abbrev Leads : Mode → ℕ → Mode → Type 0
  Leads a b c = (begins_tag a ≡ false) × (is_between a ≡ false) × (step a opens b ≡ To c opens [])

  abbrev In-tag : StartTagState → Mode
  In-tag t = Inside (StartTag t)

  led : (a c : Mode) (b : ℕ) → IsPlain b → Leads a b c → One (spot a) b (spot c)
  led a c b plain leads at w h = quiet-told INPUT_LIMIT a opens m at b w plain h (shallow-mode a opens b leads.0) c leads.1 leads.2

  module _ (kind : Plain) (P : List ℕ → Mode) (leads : (t : List ℕ) (b : ℕ) → is_plain kind b ≡ true → Leads (P t) b (P (t ++ b ∷ []))) where
    one : (t : List ℕ) (b : ℕ) → is_plain kind b ≡ true → One (spot (P t)) b (spot (P (t ++ b ∷ [])))
    one t b e = led (P t) (P (t ++ b ∷ [])) b (plain-byte kind b e) (leads t b e)

    walk : (t : List ℕ) → Walks (is_plain kind) (λ t. spot (P t)) t
    walk t = walks (is_plain kind) (λ t. spot (P t)) one t

  passed-over : (a b : Mode) (w rest : List ℕ) → bytes ≡ w ++ rest → n ≡ length w → Over (spot a) w (spot b) → Quiet a b
  passed-over a b w rest is count over =
      rw (is, count) (omega (arith, length-append w rest), λ at room. ap (told (spot a at)) (take-append_seam w rest) ∙ over at (omega (arith, room, length-append w rest)))

  over-part : (N : List ℕ → Mode) → ((d : ℕ) (t : List ℕ) (b : ℕ) → is_plain_in_name b ≡ true → Leads (N (d ∷ t)) b (N (d ∷ (t ++ b ∷ [])))) → (a : Mode) (name v : List ℕ) (r : ℕ → Telling) → is_plain_name name ≡ true
      → ((b : ℕ) → begins_plain_name b ≡ true → One (spot a) b (spot (N (b ∷ [])))) → Over (spot (N name)) v r → Over (spot a) (name ++ v) r
  over-part N leads a [] v r e first f = clash e refl
  over-part N leads a (b ∷ more) v r e first f =
      over-one (spot a) (spot (N (b ∷ []))) r b (more ++ v) (first b (and-first (begins_plain_name b) (list_all is_plain_in_name more) e))
      (over-walk is_plain_in_name (λ t. spot (N (b ∷ t))) (one InName (λ t. N (b ∷ t)) (leads b)) [] more v r (and-second (begins_plain_name b) (list_all is_plain_in_name more) e) f)

  module _ (K : NameState → Mode) (leads : (n m : NameState) (b : ℕ) → goes_on n b ≡ Some m → Leads (K n) b (K m)) where
    name-leads : (t : List ℕ) (b : ℕ) → is_plain_in_name b ≡ true → Leads (K (name_state t None)) b (K (name_state (t ++ b ∷ []) None))
    name-leads t b f = leads (name_state t None) (name_state (t ++ b ∷ []) None) b (rw (and-second (nat_lt b 128) (is_in_name b) f, encode_ascii b (plain-byte InName b f).0) refl)

    second-leads : (first : List ℕ) (d : ℕ) (t : List ℕ) (b : ℕ) → is_plain_in_name b ≡ true → Leads (K (name_state first (Some (d ∷ t)))) b (K (name_state first (Some (d ∷ (t ++ b ∷ [])))))
    second-leads first d t b f = leads (name_state first (Some (d ∷ t))) (name_state first (Some (d ∷ (t ++ b ∷ [])))) b (rw (and-second (nat_lt b 128) (is_in_name b) f, encode_ascii b (plain-byte InName b f).0) refl)

    over-name : (a : Mode) (prefix local v : List ℕ) (r : ℕ → Telling) → is_plain_qname prefix local ≡ true → ((b : ℕ) → begins_plain_name b ≡ true → One (spot a) b (spot (K (name_state (b ∷ []) None))))
        → ((k : NameState) → IsWhole k prefix local → Over (spot (K k)) v r) → Over (spot a) (written_name prefix local ++ v) r
    over-name a [] local v r e first f = over-part (λ t. K (name_state t None)) (λ d t. name-leads (d ∷ t)) a local v r e first (f (name_state local None) (refl, refl, λ c g h. rw (g, h) refl))
    over-name a (x ∷ xs) [] v r e first f = clash (and-second (is_plain_name (x ∷ xs)) false e) refl
    over-name a (x ∷ xs) (d ∷ more) v r e first f =
        let P : List ℕ → Mode = λ t. K (name_state t None) in
        let N : List ℕ → Mode = λ t. K (name_state (x ∷ xs) (Some t)) in
        let some : (length (x ∷ xs) == 0) ≡ false = grind (arith, nat_tests) in
        subst (λ w. Over (spot a) w r) (sym (prefixed x xs (d ∷ more) v))
        (over-part P (λ d t. name-leads (d ∷ t)) a (x ∷ xs) (58 ∷ ((d ∷ more) ++ v)) r (and-first (is_plain_name (x ∷ xs)) (is_plain_name (d ∷ more)) e) first
        (over-one (spot (P (x ∷ xs))) (spot (N [])) r 58 ((d ∷ more) ++ v) (led (P (x ∷ xs)) (N []) 58 (omega arith, refl) (leads (name_state (x ∷ xs) None) (name_state (x ∷ xs) (Some [])) 58 refl))
        (over-part N (second-leads (x ∷ xs)) (N []) (d ∷ more) v r (and-second (is_plain_name (x ∷ xs)) (is_plain_name (d ∷ more)) e)
        (λ b g. led (N []) (N (b ∷ [])) b (begins-plain b g) (leads (name_state (x ∷ xs) (Some [])) (name_state (x ∷ xs) (Some (b ∷ []))) b (rw (and-second (nat_lt b 128) (begins_name b) g, encode_ascii b (begins-plain b g).0) refl)))
        (f (name_state (x ∷ xs) (Some (d ∷ more))) (rw some refl, refl, λ c g h. rw g refl)))))

    name-passed : (a u : Mode) (prefix local rest v w : List ℕ) → ((b : ℕ) → begins_plain_name b ≡ true → One (spot a) b (spot (K (name_state (b ∷ []) None)))) → NameAt prefix local rest bytes → rest ≡ v ++ w → n ≡ length bytes - length rest + length v
        → ((k : NameState) → IsWhole k prefix local → Over (spot (K k)) v (spot u)) → Quiet a u
    name-passed a u prefix local rest v w first at e count f =
        let name = written_name prefix local in
        let is : bytes ≡ (name ++ v) ++ w = at.1 ∙ ap (λ x. name ++ x) e ∙ sym (append_assoc name v w) in
        passed-over a u (name ++ v) w is (count ∙ left-is bytes (name ++ v) v w rest (length bytes - length rest) is e refl (omega (arith, length-append name v))) (over-name a prefix local v (spot u) at.0 first f)

    name-quiet : (a : Mode) (j : NameState) → ((b : ℕ) → begins_plain_name b ≡ true → One (spot a) b (spot (K (name_state (b ∷ []) None)))) → HasName bytes n (Name j) → Quiet a (K j)
    name-quiet a j first h =
        name-passed a (K j) h.prefix h.local h.rest [] h.rest first h.at refl (h.begins.0 ∙ omega arith) (λ k g. subst (λ x. Over (spot (K k)) [] (spot (K x))) (g.0 ∙ sym h.begins.1) (over-none (spot (K k))))

  abbrev In-value : Tag → QName → ValueState → Mode
  In-value tag q v = Inside (StartTag (Attribute tag (Value q v)))

  value-quiet : (tag : Tag) (q : QName) (double : Bool) (text : List ℕ) (behind : Bool) (reference : Option ReferenceState) (now : List ℕ) → Collects (not behind && is_none reference) stands_for_itself text bytes (Ok n) now
      → Quiet (In-value tag q (value_state double text behind reference)) (In-value tag q (value_state double now behind reference))
  value-quiet tag q double text false None now h =
      let P : List ℕ → Mode = λ t. In-value tag q (value_state double t false None) in
      collected stands_for_itself (λ t. spot (P t)) text bytes n now true (λ e. walk Letters P (λ t b f. (refl, refl, rw (literal-goes double t b f) refl)) text) h
  value-quiet tag q double text behind reference now h = collected stands_for_itself (λ t. spot (In-value tag q (value_state double t behind reference))) text bytes n now (not behind && is_none reference) (λ e. clash e refl) h

  comment-quiet : (K : ℕ → Mode) → ((b : ℕ) → (b == 45) ≡ false → Leads (K 0) b (K 0)) → (k : ℕ) → Passes (k == 0) stands_for_itself bytes n → Quiet (K k) (K k)
  comment-quiet K leads k h =
      cases (k == 0)
      (λ e. rw (is-byte k 0 e)
      (collected stands_for_itself (λ t. spot (K 0)) [] bytes n (take_while stands_for_itself bytes) true (λ f. walk Letters (λ t. K 0) (λ t b g. leads b (apart stands_for_itself b 45 g refl)) []) (rw e at h, refl)))
      (λ e. stays (spot (K k)) bytes n (rw e at h))

  section-quiet : (k : ℕ) (text now : List ℕ) → Collects (k == 0) stands_for_itself text bytes (Ok n) now → Quiet (Inside (Section k text)) (Inside (Section k now))
  section-quiet k text now h =
      collected stands_for_itself (λ t. spot (Inside (Section k t))) text bytes n now (k == 0)
      (λ e. rw (is-byte k 0 e)
      (walk Letters (λ t. Inside (Section 0 t)) (λ t b f. (refl, refl, rw (apart stands_for_itself b 62 f refl, apart stands_for_itself b 93 f refl, encode_ascii b (plain-byte Letters b f).0) refl)) text)) h

  stays-at : ◌≡◌ {A = Result ℕ Mem} (Ok n) (Ok 0) → n ≡ 0
  stays-at e = cc

  unmoved : {A : Type 0} (f : A → Mode) (a b : A) → (◌≡◌ {A = Result ℕ Mem} (Ok n) (Ok 0)) × (b ≡ a) → Quiet (f a) (f b)
  unmoved f a b h = rw h.1 (stays (spot (f a)) bytes n (stays-at h.0))

  -- a whole attribute
  spaced-first : (tag : Tag) (b : ℕ) → begins_plain_name b ≡ true → One (spot (In-tag (Spaced tag))) b (spot (In-tag (Attribute tag (AttrName (name_state (b ∷ []) None)))))
  spaced-first tag b h =
      led (In-tag (Spaced tag)) (In-tag (Attribute tag (AttrName (name_state (b ∷ []) None)))) b (begins-plain b h)
      (refl, refl, rw ((begins-is b h).0, (begins-is b h).1, and-second (nat_lt b 128) (begins_name b) h, encode_ascii b (begins-plain b h).0) refl)

  over-attr : (tag : Tag) (prefix local value v : List ℕ) (r : ℕ → Telling) → is_plain_qname prefix local ≡ true → list_all stands_for_itself value ≡ true → Over (spot (In-tag (Tagged (with_attr tag (plain_attr prefix local value))))) v r
      → Over (spot (In-tag (Spaced tag))) (attr_with prefix local value v) r
  over-attr tag prefix local value v r e f g =
      let K : NameState → Mode = λ k. In-tag (Attribute tag (AttrName k)) in
      let E : Mode = In-tag (Attribute tag (Equals (name_of (plain_name_state prefix local)))) in
      let V : List ℕ → Mode = λ t. In-value tag (name_of (plain_name_state prefix local)) (value_state true t false None) in
      let T : Mode = In-tag (Tagged (with_attr tag (plain_attr prefix local value))) in
      over-name K (λ k j b e. (refl, refl, rw e refl)) (In-tag (Spaced tag)) prefix local (61 ∷ (34 ∷ (value ++ 34 ∷ v))) r e (spaced-first tag)
      (λ k h. over-one (spot (K k)) (spot E) r 61 (34 ∷ (value ++ 34 ∷ v)) (led (K k) E 61 (omega arith, refl) (refl, refl, rw (h.2 61 refl refl, h.1, h.0) refl))
      (over-one (spot E) (spot (V [])) r 34 (value ++ 34 ∷ v) (led E (V []) 34 (omega arith, refl) (refl, refl, refl))
      (over-walk stands_for_itself (λ t. spot (V t)) (one Letters V (λ t b g. (refl, refl, rw (literal-goes true t b g) refl))) [] value (34 ∷ v) r f
      (over-one (spot (V value)) (spot T) r 34 v (led (V value) T 34 (omega arith, refl) (refl, refl, refl)) g))))

  attr-is : (tag now : Tag) (k : ℕ) (h : HasAttr tag bytes k now) (v w : List ℕ) → h.rest ≡ v ++ w → (bytes ≡ attr_with h.prefix h.local h.value v ++ w) × (k + length v ≡ length (attr_with h.prefix h.local h.value v))
  attr-is tag now k h v w e =
      let name = written_name h.prefix h.local in
      let is : bytes ≡ attr_with h.prefix h.local h.value v ++ w =
      h.at.2 ∙ ap (λ x. attr_with h.prefix h.local h.value x) e ∙ sym (append_assoc name (61 ∷ (34 ∷ (h.value ++ 34 ∷ v))) w ∙ ap (λ xs. name ++ 61 ∷ (34 ∷ xs)) (append_assoc h.value (34 ∷ v) w)) in
      (is, left-is bytes (attr_with h.prefix h.local h.value v) v w h.rest k is e h.count (omega (arith, length-append name (61 ∷ (34 ∷ (h.value ++ 34 ∷ v))), length-append h.value (34 ∷ v))))

  attr-passed : (tag now : Tag) (u : StartTagState) (k : ℕ) (h : HasAttr tag bytes k now) (v w : List ℕ) → h.rest ≡ v ++ w → n ≡ k + length v → Over (spot (In-tag (Tagged now))) v (spot (In-tag u)) → Quiet (In-tag (Spaced tag)) (In-tag u)
  attr-passed tag now u k h v w e count f =
      let is = attr-is tag now k h v w e in
      passed-over (In-tag (Spaced tag)) (In-tag u) (attr_with h.prefix h.local h.value v) w is.0 (count ∙ is.1) (over-attr tag h.prefix h.local h.value v (spot (In-tag u)) h.at.0 h.at.1 (rw h.adds at f))

  spaced-quiet : (tag : Tag) (u : StartTagState) → SpacedRuns tag bytes (Ok n) u → Quiet (In-tag (Spaced tag)) (In-tag u)
  spaced-quiet tag (Tagged now) h = attr-passed tag now (Tagged now) n h [] h.rest refl (omega arith) (over-none (spot (In-tag (Tagged now))))
  spaced-quiet tag (Spaced now) (inl h) = rw h.1 (stays (spot (In-tag (Spaced tag))) bytes n h.0)
  spaced-quiet tag (Spaced now) (inr (k, count, h, blank)) =
      let is = attr-is tag now k h [] h.rest refl in
      let front = attr_with h.prefix h.local h.value [] in
      let here : k ≡ length front = omega (arith, is.1) in
      by h.rest refl (ap begins_blank (sym (ap (λ j. drop j bytes) here ∙ ap (drop (length front)) is.0 ∙ drop-append_seam front h.rest)) ∙ blank) where
        by : (rest : List ℕ) → h.rest ≡ rest → begins_blank rest ≡ true → Quiet (In-tag (Spaced tag)) (In-tag (Spaced now))
        by [] e f = clash f refl
        by (b ∷ more) e f =
            let S = spot (In-tag (Spaced now)) in
            attr-passed tag now (Spaced now) k h (b ∷ []) more e count (over-one (spot (In-tag (Tagged now))) S S b [] (led (In-tag (Tagged now)) (In-tag (Spaced now)) b (plain-byte Blanks b f) (refl, refl, rw (blank-is b f) refl)) (over-none S))
  spaced-quiet tag (Attribute same (AttrName j)) h = rw h.0 (name-quiet (λ k. In-tag (Attribute tag (AttrName k))) (λ k j b e. (refl, refl, rw e refl)) (In-tag (Spaced tag)) j (spaced-first tag) h.1)
  spaced-quiet tag u h = absurd h

  -- the name of an element
  less-first : (length opens == most_open) ≡ false → (b : ℕ) → begins_plain_name b ≡ true → One (spot (Inside Less)) b (spot (In-tag (Name (name_state (b ∷ []) None))))
  less-first room b g at w low =
      quiet-told INPUT_LIMIT (Inside Less) opens m at b w (begins-plain b g) low (ap (λ t. (t && true) && (true && may_begin_name b)) room) (In-tag (Name (name_state (b ∷ []) None))) refl
      (rw ((begins-is b g).2, (begins-is b g).3, and-second (nat_lt b 128) (begins_name b) g, encode_ascii b (begins-plain b g).0) refl)

  less-quiet : (u : StartTagState) → (length opens == most_open) ≡ false → HasName bytes n u → Quiet (Inside Less) (In-tag u)
  less-quiet (Name j) room h = name-quiet (λ k. In-tag (Name k)) (λ k j b e. (refl, refl, rw e refl)) (Inside Less) j (less-first room) h
  less-quiet (Spaced now) room h = by h.rest refl h.begins.0 where
    by : (rest : List ℕ) → h.rest ≡ rest → begins_blank rest ≡ true → Quiet (Inside Less) (In-tag (Spaced now))
    by [] e f = clash f refl
    by (c ∷ rest) e f =
        let S = spot (In-tag (Spaced now)) in
        name-passed (λ k. In-tag (Name k)) (λ k j b e. (refl, refl, rw e refl)) (Inside Less) (In-tag (Spaced now)) h.prefix h.local h.rest (c ∷ []) rest (less-first room) h.at e h.begins.1
        (λ k g. over-one (spot (In-tag (Name k))) S S c [] (led (In-tag (Name k)) (In-tag (Spaced now)) c (plain-byte Blanks c f) (refl, refl, rw (g.2 c (blank-ends c f).0 (blank-ends c f).1, g.1, g.0, blank-is c f, h.begins.2) refl)) (over-none S))
  less-quiet u room h = absurd h.begins

  attr-quiet : (tag : Tag) (a b : AttributeState) → AttrRuns a bytes (Ok n) b → Quiet (Inside (StartTag (Attribute tag a))) (Inside (StartTag (Attribute tag b)))
  attr-quiet tag (Value q v) (Value p u) h =
      rw (h.0, h.1.0) (value-quiet tag q v.double v.text v.behind_return v.reference u.text h.1.1)
  attr-quiet tag a b h = unmoved (λ x. Inside (StartTag (Attribute tag x))) a b h

  tag-quiet : (t u : StartTagState) → TagRuns t bytes (Ok n) u → Quiet (Inside (StartTag t)) (Inside (StartTag u))
  tag-quiet (Attribute tag a) (Attribute same b) h = rw h.0 (attr-quiet tag a b h.1)
  tag-quiet (Spaced tag) u h = spaced-quiet tag u h
  tag-quiet t u h = unmoved (λ x. Inside (StartTag x)) t u h

  -- the name in an end tag
  over-end : (o : Open) (outer : List Open) → opens ≡ o ∷ outer → (w : List ℕ) (k : ℕ) → list_all is_written w ≡ true → begins_with (drop k (name_bytes o.name)) w ≡ true → Over (spot (Inside (EndTag k))) w (spot (Inside (EndTag (k + length w))))
  over-end o outer is [] k e f = subst (λ j. Over (spot (Inside (EndTag k))) [] (spot (Inside (EndTag j)))) (omega arith) (over-none (spot (Inside (EndTag k))))
  over-end o outer is (b ∷ w) k e f =
      let plain = plain-byte Written b (and-first (is_written b) (list_all is_written w) e) in
      let g = end-leads o outer k b w (drop k (name_bytes o.name)) plain.0 refl f in
      let E : ℕ → Mode = λ k. Inside (EndTag k) in
      over-one (spot (E k)) (spot (E (k + 1))) (spot (E (k + length (b ∷ w)))) b w (led (E k) (E (k + 1)) b plain (refl, refl, subst (λ x. step (E k) x b ≡ To (E (k + 1)) x []) (sym is) g.0))
      (subst (λ j. Over (spot (E (k + 1))) w (spot (E j))) (omega arith) (over-end o outer is w (k + 1) (and-second (is_written b) (list_all is_written w) e) g.1))

  end-over : (k : ℕ) (text : List ℕ) (count : ℕ) (now : RootState) → EndRuns opens k text count now → (count ≤ length text) × Over (spot (Inside (EndTag k))) (take count text) (spot (Inside now))
  end-over k text count now (inl h) = rw (h.0, h.1) (omega arith, over-none (spot (Inside (EndTag k))))
  end-over k text count now (inr h) =
      let less : count ≤ length text = omega (arith, h.count, front_within is_written text (length (take_while is_written text)) refl) in
      let all = front-part is_written text count h.count in
      (less, subst (λ x. Over (spot (Inside (EndTag k))) (take count text) (spot (Inside x))) (sym (h.ends ∙ ap (λ j. EndTag j) h.stands.1)) (over-end h.innermost h.outer h.is (take count text) k all h.stands.0))

  end-quiet : (k : ℕ) (now : RootState) → EndRuns opens k bytes n now → Quiet (Inside (EndTag k)) (Inside now)
  end-quiet k now h = let f = end-over k bytes n now h in passed-over (Inside (EndTag k)) (Inside now) (take n bytes) (drop n bytes) (sym (take-append-drop n bytes)) (sym (length-take-le n bytes f.0)) f.1

  slash-quiet : (now : RootState) → (length opens == most_open) ≡ false → HasSlash opens bytes n now → Quiet (Inside Less) (Inside now)
  slash-quiet now room h =
      let f = end-over 0 h.text h.count now h.ends in
      let w = take h.count h.text in
      passed-over (Inside Less) (Inside now) (47 ∷ w) (drop h.count h.text) (h.is ∙ ap (λ x. 47 ∷ x) (sym (take-append-drop h.count h.text))) (omega (arith, h.adds, length-take-le h.count h.text f.0))
      (over-one (spot (Inside Less)) (spot (Inside (EndTag 0))) (spot (Inside now)) 47 w
      (λ at v low. quiet-told INPUT_LIMIT (Inside Less) opens m at 47 v (omega arith, refl) low (ap (λ t. (t && true) && (true && may_begin_name 47)) room) (Inside (EndTag 0)) refl (rw (slash-on opens h.some) refl)) f.1)

  root_state-quiet : (t u : RootState) → (length opens == most_open && begins_tag (Inside t)) ≡ false → RootRuns opens t bytes (Ok n) u → Quiet (Inside t) (Inside u)
  root_state-quiet (Comment k) (Comment j) room h = rw h.0 (comment-quiet (λ k. Inside (Comment k)) (λ b e. (refl, refl, rw e refl)) k h.1)
  root_state-quiet (Section k text) (Section j now) room h = rw h.0 (section-quiet k text now h.1)
  root_state-quiet (StartTag t) (StartTag u) room h = tag-quiet t u h
  root_state-quiet Less (StartTag u) room h = less-quiet u (and-so (length opens == most_open) room) h
  root_state-quiet Less (EndTag k) room h = slash-quiet (EndTag k) (and-so (length opens == most_open) room) h
  root_state-quiet Less Less room h = stays (spot (Inside Less)) bytes n h
  root_state-quiet Less u room h = absurd h
  root_state-quiet (EndTag k) u room h = end-quiet k u h
  root_state-quiet t u room h = unmoved Inside t u h

  misc-quiet : (K : Misc → Mode) → ((b : ℕ) → (b == 45) ≡ false → Leads (K (MiscComment 0)) b (K (MiscComment 0))) → (a b : Misc) → (b ≡ a) × MiscRuns a bytes n → Quiet (K a) (K b)
  misc-quiet K leads (MiscComment k) b h = rw h.0 (comment-quiet (λ k. K (MiscComment k)) leads k h.1)
  misc-quiet K leads a b h = rw h.0 (stays (spot (K a)) bytes n h.1)

  mode-quiet : (a b : Mode) → (length opens == most_open && begins_tag a) ≡ false → ModeRuns opens a bytes (Ok n) b → Quiet a b
  mode-quiet (Inside t) (Inside u) room h = root_state-quiet t u room h
  mode-quiet (Prolog k) (Prolog j) room h = misc-quiet Prolog (λ b e. (refl, refl, rw e refl)) k j h
  mode-quiet (Epilog k) (Epilog j) room h = misc-quiet Epilog (λ b e. (refl, refl, rw e refl)) k j h
  mode-quiet a b room h = unmoved (λ x. x) a b h

pub quiet_none : (r : Reading) (bytes : List ℕ) → QuietSo r bytes (Ok 0) r
quiet_none r bytes = (omega arith, λ m. (stays (telling r m) bytes 0 refl).1)

pub quiet_mode : (begun : List ℕ) (opens : List Open) (a b : Mode) (bytes : List ℕ) (result : Result ℕ Mem) → begun ≡ [] → (length opens == most_open && begins_tag a) ≡ false → ModeRuns opens a bytes result b → QuietSo (reading begun a opens) bytes result (reading begun b opens)
quiet_mode begun opens a b bytes (Err e) none room h = tt
quiet_mode begun opens a b bytes (Ok n) none room h =
    subst (λ xs. QuietSo (reading xs a opens) bytes (Ok n) (reading xs b opens)) (sym none) ((mode-quiet opens (marks 0 None) bytes n a b room h).0, λ m. (mode-quiet opens m bytes n a b room h).1)

-- literal text
signs : (place : Option ℕ) → (is_plain (in_text place) 60 ≡ false) × (is_plain (in_text place) 38 ≡ false) × (is_plain (in_text place) 62 ≡ false) × (is_plain (in_text place) 93 ≡ false)
signs None = (refl, refl, refl, refl)
signs (Some place) = (refl, refl, refl, refl)

abbrev text-of : ℕ → Option ℕ → List ℕ → Bool → OpenText
text-of at place said behind = record { at = at; non_blank = place; said = said; behind_return = behind }

text-adds : (from : ℕ) (place : Option ℕ) (t : List ℕ) (first b : ℕ) → is_plain (in_text place) b ≡ true → text_with (text-of from place t false) first b ≡ text-of from place (t ++ b ∷ []) false
text-adds from None t first b e = rw (ap (λ x. x || b == 13) e, and-no (b == 10), apart is_line_blank b 13 e refl, encode_ascii b (plain-byte Blanks b e).0) refl
text-adds from (Some place) t first b e = rw (apart stands_for_itself b 10 e refl, apart stands_for_itself b 13 e refl, encode_ascii b (plain-byte Letters b e).0) refl

module _ (o : Open) (outer : List Open) (begin n : ℕ) (bytes : List ℕ) where
  abbrev in-content : Reading
  in-content = reading [] (Inside (Content 0)) (o ∷ outer)

  abbrev text-spot : Option OpenText → ℕ → Telling
  text-spot text at = telling in-content (marks begin text) at

  letter-one : (text : Option OpenText) (t : OpenText) (place : Option ℕ) (at b : ℕ) (w : List ℕ) → at < INPUT_LIMIT → is_plain (in_text place) b ≡ true → text_with (text_or (at - 0) text) (at - 0) b ≡ t → told (text-spot text at) (b ∷ w) ≡ told (text-spot (Some t) (at + 1)) w
  letter-one text t place at b w h e f =
      let test = is_plain (in_text place) in
      plain-told INPUT_LIMIT (Inside (Content 0)) (o ∷ outer) (marks begin text) at b w (plain-byte (in_text place) b e) h (shallow-mode (Inside (Content 0)) (o ∷ outer) b refl) (Inside (Content 0)) (Letter b ∷ [])
      (rw (apart test b 60 e (signs place).0, apart test b 38 e (signs place).1, apart test b 62 e (signs place).2, apart test b 93 e (signs place).3) refl) refl
      ∙ ap (λ x. behind_parts [] (told (text-spot (Some x) (at + 1)) w)) f ∙ behind-none (told (text-spot (Some t) (at + 1)) w)

  text-one : (from : ℕ) (place : Option ℕ) (t : List ℕ) (b : ℕ) → is_plain (in_text place) b ≡ true → One (text-spot (Some (text-of from place t false))) b (text-spot (Some (text-of from place (t ++ b ∷ []) false)))
  text-one from place t b e at w h = letter-one (Some (text-of from place t false)) (text-of from place (t ++ b ∷ []) false) place at b w h e (text-adds from place t (at - 0) b e)

  some-run : (from : ℕ) (place : Option ℕ) (said : List ℕ) (behind : Bool) (now : List ℕ) → Collects (not behind) (is_plain (in_text place)) said bytes (Ok n) now
      → RunFrom (text-spot (Some (text-of from place said behind))) bytes n (text-spot (Some (text-of from place now behind)))
  some-run from place said true now h = collected (is_plain (in_text place)) (λ t. text-spot (Some (text-of from place t true))) said bytes n now false (λ e. clash e refl) h
  some-run from place said false now h =
      collected (is_plain (in_text place)) (λ t. text-spot (Some (text-of from place t false))) said bytes n now true (λ e. walks (is_plain (in_text place)) (λ t. text-spot (Some (text-of from place t false))) (text-one from place) said) h

content-is : (mode : Mode) → is_plain_content mode ≡ true → mode ≡ Inside (Content 0)
content-is (Inside (Content k)) e = ap (λ j. Inside (Content j)) (is-byte k 0 e)
content-is mode e = clash e refl

content-so : (r : Reading) → takes_run r ≡ true → (o : Open) × (outer : List Open) × (r ≡ reading [] (Inside (Content 0)) (o ∷ outer))
content-so r e =
    let f = and-second (is_empty r.begun) (not (length r.opens == 0) && is_plain_content r.mode) e in
    by r.opens refl (and-first (not (length r.opens == 0)) (is_plain_content r.mode) f) (content-is r.mode (and-second (not (length r.opens == 0)) (is_plain_content r.mode) f)) where
      by : (opens : List Open) → r.opens ≡ opens → not (length opens == 0) ≡ true → r.mode ≡ Inside (Content 0) → (o : Open) × (outer : List Open) × (r ≡ reading [] (Inside (Content 0)) (o ∷ outer))
      by [] is some mode = clash some refl
      by (o ∷ outer) is some mode =
          (o, outer, ap (λ x. reading x r.mode r.opens) (empty-is r.begun (and-first (is_empty r.begun) (not (length r.opens == 0) && is_plain_content r.mode) e)) ∙ ap (λ x. reading [] x r.opens) mode ∙ ap (reading [] (Inside (Content 0))) is)

pub text_run : (r : Reading) (m : Marks) (at n : ℕ) (bytes : List ℕ) (t u : OpenText) → takes_run r ≡ true → m.text ≡ Some t → at + length bytes ≤ INPUT_LIMIT → TextRuns t bytes (Ok n) u
    → RunSo (telling r m at) bytes (Ok n) (telling r (marks m.begin (Some u)) (at + n))
text_run r m at n bytes t u e some room h =
    let c = content-so r e in
    let run = some-run c.0 c.1 m.begin n bytes t.at t.non_blank t.said t.behind_return u.said h.1 in
    rw (c.2, some, h.0) (run.0, run.1 at room)

-- what begins where no literal text is open
pub tag_run : (r : Reading) (m : Marks) (at b : ℕ) (bytes w : List ℕ) → bytes ≡ b ∷ w → b ≡ 60 → takes_run r ≡ true → m.text ≡ None → at + length bytes ≤ INPUT_LIMIT
    → RunSo (telling r m at) bytes (Ok 1) (telling (reading r.begun (Inside Less) r.opens) (marks at m.text) (at + 1))
tag_run r m at b bytes w is less e none room =
    let c = content-so r e in
    let all : bytes ≡ 60 ∷ w = is ∙ ap (λ x. x ∷ w) less in
    rw (c.2, all, none)
    (omega arith, plain-told INPUT_LIMIT (Inside (Content 0)) (c.0 ∷ c.1) (marks m.begin None) at 60 [] (omega arith, refl) (omega (arith, rw all at room)) (shallow-mode (Inside (Content 0)) (c.0 ∷ c.1) 60 refl) (Inside Less) [] refl refl)

begin-adds : (at b : ℕ) → is_plain (in_text (text_before at b).non_blank) b ≡ true → text_with (open_text (at - 0)) (at - 0) b ≡ text-of at (text_before at b).non_blank (b ∷ []) false
begin-adds at b e =
    let same : at - 0 ≡ at = omega arith in
    rw same (cases (is_line_blank b) (λ f. blank f (rw f at e)) (λ f. letter f (rw f at e))) where
      blank : is_line_blank b ≡ true → is_line_blank b ≡ true → text_with (open_text at) at b ≡ text-of at (text_before at b).non_blank (b ∷ []) false
      blank f g = rw (f, and-no (b == 10), apart is_line_blank b 13 g refl, encode_ascii b (plain-byte Blanks b g).0) refl

      letter : is_line_blank b ≡ false → stands_for_itself b ≡ true → text_with (open_text at) at b ≡ text-of at (text_before at b).non_blank (b ∷ []) false
      letter f g = rw (f, apart stands_for_itself b 10 g refl, apart stands_for_itself b 13 g refl, encode_ascii b (plain-byte Letters b g).0) refl

pub begin_run : (r : Reading) (m : Marks) (at b n : ℕ) (w : List ℕ) (u : OpenText) → takes_run r ≡ true → m.text ≡ None → at + length (b ∷ w) ≤ INPUT_LIMIT → TextRuns (text_before at b) (b ∷ w) (Ok n) u → 0 < n → RunSo (telling r m at) (b ∷ w) (Ok n) (telling r (marks m.begin (Some u)) (at + n))
begin_run r m at b zero w u e none room h some = absurd (omega (arith, some))
begin_run r m at b (suc k) w u e none room h some =
    let c = content-so r e in
    let place = (text_before at b).non_blank in
    let test = is_plain (in_text place) in
    let plain : test b ≡ true = cases (test b) (λ f. f) (λ f. let no : suc k ≡ 0 = rw (take_while-cons test b w, f) at h.1.0 in absurd (omega (arith, no))) in
    let run = some-run c.0 c.1 m.begin (suc k) (b ∷ w) at place [] false u.said h.1 in
    let begun = text-of at place (b ∷ []) false in
    let low : at < INPUT_LIMIT = omega (arith, room) in
    rw (c.2, none, h.0) (
      run.0,
      letter-one c.0 c.1 m.begin (suc k) (b ∷ w) None begun place at b (take k w) low plain (begin-adds at b plain)
          ∙ sym (letter-one c.0 c.1 m.begin (suc k) (b ∷ w) (Some (text-of at place [] false)) begun place at b (take k w) low plain (text-adds at place [] (at - 0) b plain)) ∙ run.1 at room,
    )

-- what is told behind a run
pub run_more : {S : Type 0} (took : S → Part → S → Type 0) (enough : S → Bool) (before to : S) (whole : Told) (p q : Telling) (rest : List ℕ) (n : ℕ) → SoFar took enough before whole to p rest → RunSo p rest (Ok n) q
    → SoFar took enough before whole to q (drop n rest)
run_more took enough before to whole p q rest n s h = record { all = λ result end now g. s.all result end now (subst (λ t. ToldSo (Takes took enough) enough to t result end now) (sym same) g) } where
  same : told p rest ≡ told q (drop n rest)
  same =
      ap (told p) (sym (take-append-drop n rest)) ∙ told-append INPUT_LIMIT (take n rest) (drop n rest) p ∙ ap (λ t. told_on t (λ x. told x (drop n rest))) h.1 ∙ behind-none (told q (drop n rest))

pub run_none : {S : Type 0} (took : S → Part → S → Type 0) (enough : S → Bool) (before to : S) (whole : Told) (p q : Telling) (rest : List ℕ) (n : ℕ) → SoFar took enough before whole to p rest → RunSo p rest (Ok n) q → n ≡ 0 → SoFar took enough before whole to q rest
run_none took enough before to whole p q rest n s h e = subst (λ k. SoFar took enough before whole to q (drop k rest)) e (run_more took enough before to whole p q rest n s h)
