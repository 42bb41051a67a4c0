-- A text is read as pieces in one way, and what escaping wrote is read as what it was.
use Rattle.std.proofs.Common.{◌≡◌, ℕ, ◌+◌, ◌-◌, ◌<◌, Bool, true, false, not, ◌&&◌, ◌||◌, nat_eq, List, [], ◌∷◌, ◌++◌, length, get_or, take, drop, map, Some, refl, sym, ap, ◌∙◌, arith, append_assoc, inl, inr, codes, subst, lit<, encode_utf8, length-append, length-drop}
use Rattle.std.proofs.lemmas.Bool.{eqb-true}
use Rattle.std.proofs.lemmas.Grind.{flat_map-append}
use Rattle.std.proofs.lemmas.List.{append-nil, take-append-drop, get_or-drop}
use Rattle.std.proofs.Math.Seq.{take-append_seam, drop-append_seam, drop-append-add, get_or-append_seam}
use Rattle.std.proofs.lemmas.Str.{encode_same, encode_ascii, char_from_byte, length-encode, len_utf8_bounds, IsUtf8-past_char, IsUtf8-drop, IsCharBoundary-after_ascii}
use Rattle.std.specs.List.{AllByRecursion, flat_map, list_all}
use Rattle.std.specs.Str.{encode_utf8_all, IsUtf8}
use Rattle.cds_base.specs.Characters.{is_allowed, AreAllowed}
use Rattle.cds_base.specs.Escape.{escaped, escaped_byte}
use Rattle.cds_base.specs.Reference.{IsReference, BeginsNoReference, named}
use Rattle.cds_escape.specs.Unescape.{Piece, IsPiece, is_literal, Says, ReadsTo, IsBadReference, IsBadCharacter, IsFault, IsFaultHere, IsOrMem}
use Rattle.cds_escape.specs.declared.unescaping.TextError.{TextError}
use Rattle.cds_escape.specs.declared.unescaping.TextError.TheVariants.{BadReference, BadCharacter, Mem}
use Rattle.cds_base.proofs.Escapes.{kept_char}
use Rattle.cds_escape.proofs.Semicolons.{and_parts, same_reference}

abbrev pub written_of : List Piece → List ℕ
written_of pieces = flat_map (λ piece. piece.written) pieces

abbrev pub said_by : List Piece → List ℕ
said_by pieces = encode_utf8_all (map (λ piece. piece.says) pieces)

-- `&` and `<` do not say themselves
no_ampersand : (c : ℕ) → is_literal c ≡ true → c ≡ 38 → ⊥
no_ampersand c literal is =
    let at : is_literal 38 ≡ true = ap is_literal (sym is) ∙ literal in
    let none : is_literal 38 ≡ false = refl in
    cc

-- a character in UTF-8 that begins with an `&` is one
begins_ampersand : (c : ℕ) (r rest : List ℕ) → encode_utf8 c ++ r ≡ 38 ∷ rest → c ≡ 38
begins_ampersand c r rest e = char_from_byte (38 ∷ rest) r c (sym e) (lit< tt) (omega arith)

reference_form : (w : List ℕ) (c : ℕ) (r : List ℕ) (is : IsReference w c) → w ++ r ≡ 38 ∷ (is.name ++ 59 ∷ r)
reference_form w c r is = ap (λ x. x ++ r) is.form ∙ ap (λ x. 38 ∷ x) (append_assoc is.name (59 ∷ []) r)

pub same_piece : (p q : Piece) (r t : List ℕ) → IsPiece p → IsPiece q → p.written ++ r ≡ q.written ++ t → (p.says ≡ q.says) × (r ≡ t)
same_piece p q r t (inl one) (inl two) e = encode_same p.says q.says r t (ap (λ x. x ++ r) (sym one.1) ∙ e ∙ ap (λ x. x ++ t) two.1)
same_piece p q r t (inl one) (inr two) e =
    absurd (no_ampersand p.says one.0 (begins_ampersand p.says r (two.name ++ 59 ∷ t) (ap (λ x. x ++ r) (sym one.1) ∙ e ∙ reference_form q.written q.says t two)))
same_piece p q r t (inr one) (inl two) e =
    absurd (no_ampersand q.says two.0 (begins_ampersand q.says t (one.name ++ 59 ∷ r) (ap (λ x. x ++ t) (sym two.1) ∙ sym e ∙ reference_form p.written p.says r one)))
same_piece p q r t (inr one) (inr two) e =
    let same = same_reference p.written q.written r t p.says q.says one two e in
    (same.1, same.2)

pub piece_has_bytes : (p : Piece) → IsPiece p → 0 < length p.written
piece_has_bytes p (inl one) =
    let long : length p.written ≡ length (encode_utf8 p.says) = ap length one.1 in
    omega (arith, length-encode p.says, (len_utf8_bounds p.says).0)
piece_has_bytes p (inr one) = rw one.form (omega arith)

-- no piece begins what is left
abbrev pub IsStuck : List ℕ → Type 0
IsStuck rest = (p : Piece) (t : List ℕ) → IsPiece p → ¬ (rest ≡ p.written ++ t)

stuck_at_end : IsStuck []
stuck_at_end p t is e =
    let some = piece_has_bytes p is in
    let long : 0 ≡ length (p.written ++ t) = ap length e in
    omega (arith, length-append p.written t)

stuck_at_reference : (rest : List ℕ) → get_or rest 0 0 ≡ 38 → 0 < length rest → BeginsNoReference rest → IsStuck rest
stuck_at_reference rest first some none p t (inl one) e =
    let text : rest ≡ encode_utf8 p.says ++ t = e ∙ ap (λ x. x ++ t) one.1 in
    no_ampersand p.says one.0 (char_from_byte rest t p.says text (rw first (lit< tt)) some ∙ first)
stuck_at_reference rest first some none p t (inr one) e =
    let here : take (length p.written) rest ≡ p.written = ap (take (length p.written)) e ∙ take-append_seam p.written t in
    none (length p.written) p.says (subst (λ (x : List ℕ). IsReference x p.says) (sym here) one)

stuck_at_character : (rest : List ℕ) (c : ℕ) (r : List ℕ) → rest ≡ encode_utf8 c ++ r → (nat_eq c 60 || not (is_allowed c)) ≡ true → IsStuck rest
stuck_at_character rest c r here bad p t (inl one) e =
    let same : c ≡ p.says = (encode_same c p.says r t (sym here ∙ e ∙ ap (λ x. x ++ t) one.1)).0 in
    let literal : is_literal c ≡ true = ap is_literal same ∙ one.0 in
    contrary (is_allowed c) (nat_eq c 38) (nat_eq c 60) literal bad
  where
    contrary : (a m l : Bool) → (a && not (m || l)) ≡ true → (l || not a) ≡ true → ⊥
    contrary a m l p q = grind arith
stuck_at_character rest c r here bad p t (inr one) e =
    let is : c ≡ 38 = begins_ampersand c r (one.name ++ 59 ∷ t) (sym here ∙ e ∙ reference_form p.written p.says t one) in
    let at : (nat_eq 38 60 || not (is_allowed 38)) ≡ true = ap (λ k. nat_eq k 60 || not (is_allowed k)) (sym is) ∙ bad in
    let none : (nat_eq 38 60 || not (is_allowed 38)) ≡ false = refl in
    cc

-- pieces, as far as they go
pub record Stops (text rest value : List ℕ) : Type 0 where
  pub pieces : List Piece
  pub each : AllByRecursion IsPiece pieces
  pub text_is : text ≡ written_of pieces ++ rest
  pub value_is : value ≡ said_by pieces
  pub stuck : IsStuck rest

same_pieces : (ps qs : List Piece) (r t : List ℕ) → AllByRecursion IsPiece ps → AllByRecursion IsPiece qs → IsStuck r → IsStuck t → written_of ps ++ r ≡ written_of qs ++ t → (said_by ps ≡ said_by qs) × (r ≡ t)
same_pieces [] [] r t each_p each_q stuck_r stuck_t e = (refl, e)
same_pieces [] (q ∷ qs) r t each_p each_q stuck_r stuck_t e = absurd (stuck_r q (written_of qs ++ t) each_q.0 (e ∙ append_assoc q.written (written_of qs) t))
same_pieces (p ∷ ps) [] r t each_p each_q stuck_r stuck_t e = absurd (stuck_t p (written_of ps ++ r) each_p.0 (sym e ∙ append_assoc p.written (written_of ps) r))
same_pieces (p ∷ ps) (q ∷ qs) r t each_p each_q stuck_r stuck_t e =
    let first = same_piece p q (written_of ps ++ r) (written_of qs ++ t) each_p.0 each_q.0 (sym (append_assoc p.written (written_of ps) r) ∙ e ∙ append_assoc q.written (written_of qs) t) in
    let more = same_pieces ps qs r t each_p.1 each_q.1 stuck_r stuck_t first.1 in
    (ap (λ c. encode_utf8 c ++ said_by ps) first.0 ∙ ap (λ x. encode_utf8 q.says ++ x) more.0, more.1)

pub stops_once : (text r t v w : List ℕ) → Stops text r v → Stops text t w → (v ≡ w) × (r ≡ t)
stops_once text r t v w one two =
    let same = same_pieces one.pieces two.pieces r t one.each two.each one.stuck two.stuck (sym one.text_is ∙ two.text_is) in
    (one.value_is ∙ same.0 ∙ sym two.value_is, same.1)

says_stops : (text value : List ℕ) → Says text value → Stops text [] value
says_stops text value says = record {
  pieces = says.pieces;
  each = says.each;
  text_is = says.text_is ∙ sym (append-nil (written_of says.pieces));
  value_is = says.value_is;
  stuck = stuck_at_end;
}

part_stops : (text value : List ℕ) (at : ℕ) → Says (take at text) value → IsStuck (drop at text) → Stops text (drop at text) value
part_stops text value at says stuck = record {
  pieces = says.pieces;
  each = says.each;
  text_is = sym (take-append-drop at text) ∙ ap (λ x. x ++ drop at text) says.text_is;
  value_is = says.value_is;
  stuck = stuck;
}

some_left : (text : List ℕ) (at : ℕ) → at < length text → 0 < length (drop at text)
some_left text at h = omega (arith, length-drop at text)

first_of_drop : (text : List ℕ) (at : ℕ) → get_or (drop at text) 0 0 ≡ get_or text at 0
first_of_drop text at = get_or-drop at text 0 0 ∙ ap (λ i. get_or text i 0) (omega arith)

reference_stops : (text : List ℕ) (at : ℕ) (bad : IsBadReference text at) → Stops text (drop at text) bad.before.0
reference_stops text at bad =
    part_stops text bad.before.0 at bad.before.1 (stuck_at_reference (drop at text) (first_of_drop text at ∙ bad.ampersand) (some_left text at bad.inside) bad.none)

character_stops : (text : List ℕ) (at : ℕ) (bad : IsBadCharacter text at) → Stops text (drop at text) bad.before.0
character_stops text at bad =
    part_stops text bad.before.0 at bad.before.1 (stuck_at_character (drop at text) bad.character bad.rest bad.here bad.bad)

pub one_reading : (text v w : List ℕ) → Says text v → Says text w → v ≡ w
one_reading text v w one two = (stops_once text [] [] v w (says_stops text v one) (says_stops text w two)).0

none_left : (text : List ℕ) (at : ℕ) → at < length text → [] ≡ drop at text → ⊥
none_left text at h e =
    let some = some_left text at h in
    let long : 0 ≡ length (drop at text) = ap length e in
    omega arith

same_place : (text : List ℕ) (at there : ℕ) → at < length text → there < length text → drop at text ≡ drop there text → at ≡ there
same_place text at there h k e =
    let long : length (drop at text) ≡ length (drop there text) = ap length e in
    omega (arith, length-drop at text, length-drop there text)

pub reading_and_reference : (text v : List ℕ) (at : ℕ) → Says text v → IsBadReference text at → ⊥
reading_and_reference text v at one bad =
    none_left text at bad.inside (stops_once text [] (drop at text) v bad.before.0 (says_stops text v one) (reference_stops text at bad)).1

pub reading_and_character : (text v : List ℕ) (at : ℕ) → Says text v → IsBadCharacter text at → ⊥
reading_and_character text v at one bad =
    none_left text at bad.inside (stops_once text [] (drop at text) v bad.before.0 (says_stops text v one) (character_stops text at bad)).1

reference_and_character : (text : List ℕ) (at there : ℕ) → IsBadReference text at → IsBadCharacter text there → ⊥
reference_and_character text at there one two =
    let same : drop at text ≡ drop there text = (stops_once text (drop at text) (drop there text) one.before.0 two.before.0 (reference_stops text at one) (character_stops text there two)).1 in
    let first : get_or (drop at text) 0 0 ≡ 38 = first_of_drop text at ∙ one.ampersand in
    let is : two.character ≡ 38 = char_from_byte (drop at text) two.rest two.character (same ∙ two.here) (rw first (lit< tt)) (some_left text at one.inside) ∙ first in
    let here : (nat_eq 38 60 || not (is_allowed 38)) ≡ true = ap (λ k. nat_eq k 60 || not (is_allowed k)) (sym is) ∙ two.bad in
    let none : (nat_eq 38 60 || not (is_allowed 38)) ≡ false = refl in
    cc

-- a refusal of a text that says something is want of memory
pub only_memory : (text v : List ℕ) (fault : TextError) → Says text v → IsFault text fault → fault ≡ Mem
only_memory text v (BadReference at) says is = absurd (reading_and_reference text v at says is)
only_memory text v (BadCharacter at) says is = absurd (reading_and_character text v at says is)
only_memory text v Mem says is = refl

pub only_reference : (text : List ℕ) (at : ℕ) (fault : TextError) → IsBadReference text at → IsFault text fault → IsOrMem (BadReference at) fault
only_reference text at (BadReference there) bad is =
    inl (ap BadReference (same_place text there at is.inside bad.inside (stops_once text (drop there text) (drop at text) is.before.0 bad.before.0 (reference_stops text there is) (reference_stops text at bad)).1))
only_reference text at (BadCharacter there) bad is = absurd (reference_and_character text at there bad is)
only_reference text at Mem bad is = inr refl

pub only_character : (text : List ℕ) (at : ℕ) (fault : TextError) → IsBadCharacter text at → IsFault text fault → IsOrMem (BadCharacter at) fault
only_character text at (BadReference there) bad is = absurd (reference_and_character text there at is bad)
only_character text at (BadCharacter there) bad is =
    inl (ap BadCharacter (same_place text there at is.inside bad.inside (stops_once text (drop there text) (drop at text) is.before.0 bad.before.0 (character_stops text there is) (character_stops text at bad)).1))
only_character text at Mem bad is = inr refl

-- one piece more
pub says_nothing : Says [] []
says_nothing = record { pieces = []; each = tt; text_is = refl; value_is = refl }

said_more : (ps : List Piece) (p : Piece) → said_by (ps ++ p ∷ []) ≡ said_by ps ++ encode_utf8 p.says
said_more [] p = append-nil (encode_utf8 p.says)
said_more (q ∷ ps) p = ap (λ x. encode_utf8 q.says ++ x) (said_more ps p) ∙ sym (append_assoc (encode_utf8 q.says) (said_by ps) (encode_utf8 p.says))

written_more : (ps : List Piece) (p : Piece) → written_of (ps ++ p ∷ []) ≡ written_of ps ++ p.written
written_more [] p = append-nil p.written
written_more (q ∷ ps) p = ap (λ x. q.written ++ x) (written_more ps p) ∙ sym (append_assoc q.written (written_of ps) p.written)

each_more : (ps : List Piece) (p : Piece) → AllByRecursion IsPiece ps → IsPiece p → AllByRecursion IsPiece (ps ++ p ∷ [])
each_more [] p each is = (is, tt)
each_more (q ∷ ps) p each is = (each.0, each_more ps p each.1 is)

pub says_more : (text value : List ℕ) (p : Piece) → Says text value → IsPiece p → Says (text ++ p.written) (value ++ encode_utf8 p.says)
says_more text value p says is = record {
  pieces = says.pieces ++ p ∷ [];
  each = each_more says.pieces p says.each is;
  text_is = ap (λ x. x ++ p.written) says.text_is ∙ sym (written_more says.pieces p);
  value_is = ap (λ x. x ++ encode_utf8 p.says) says.value_is ∙ sym (said_more says.pieces p);
}

pub bad_reference_here : (text rest : List ℕ) → text ≡ encode_utf8 38 ++ rest → BeginsNoReference (38 ∷ rest) → IsBadReference text 0
bad_reference_here text rest e none =
    let here : 38 ∷ rest ≡ text = ap (λ x. x ++ rest) (sym (encode_ascii 38 (lit< tt))) ∙ sym e in
    subst (λ (x : List ℕ). IsBadReference x 0) here (record {
      before = ([], says_nothing);
      inside = omega arith;
      ampersand = refl;
      none = none;
    })

-- a fault of what is left is one of the text, at its place
pub reads_to : (text front rest value : List ℕ) → text ≡ front ++ rest → Says front value → ReadsTo (length front) text
reads_to text front rest value e says =
    let here : take (length front) text ≡ front = ap (take (length front)) e ∙ take-append_seam front rest in
    (value, subst (λ (x : List ℕ). Says x value) (sym here) says)

left_there : (text front rest : List ℕ) → text ≡ front ++ rest → drop (length front) text ≡ rest
left_there text front rest e = ap (drop (length front)) e ∙ drop-append_seam front rest

longer : (text front rest : List ℕ) → text ≡ front ++ rest → 0 < length rest → length front < length text
longer text front rest e some =
    let long : length text ≡ length (front ++ rest) = ap length e in
    omega (arith, length-append front rest)

place_there : (text front rest : List ℕ) (at : ℕ) → text ≡ front ++ rest → at ≡ length text - length rest → at ≡ length front
place_there text front rest at e is =
    let long : length text ≡ length (front ++ rest) = ap length e in
    omega (arith, length-append front rest)

reference_there : (text front rest value : List ℕ) → text ≡ front ++ rest → Says front value → IsBadReference rest 0 → IsBadReference text (length front)
reference_there text front rest value e says bad =
    let left : rest ≡ drop (length front) text = sym (left_there text front rest e) in record {
      before = reads_to text front rest value e says;
      inside = longer text front rest e bad.inside;
      ampersand = sym (first_of_drop text (length front)) ∙ ap (λ x. get_or x 0 0) (left_there text front rest e) ∙ bad.ampersand;
      none = subst BeginsNoReference left bad.none;
    }

character_there : (text front rest value : List ℕ) → text ≡ front ++ rest → Says front value → IsBadCharacter rest 0 → IsBadCharacter text (length front)
character_there text front rest value e says bad = record {
  before = reads_to text front rest value e says;
  inside = longer text front rest e bad.inside;
  character = bad.character;
  rest = bad.rest;
  here = left_there text front rest e ∙ bad.here;
  bad = bad.bad;
}

pub fault_there : (text front rest value : List ℕ) (at : ℕ) (fault : TextError) → text ≡ front ++ rest → Says front value → at ≡ length text - length rest → IsFaultHere rest at fault → IsFault text fault
fault_there text front rest value at (BadReference there) e says is here =
    subst (IsBadReference text) (sym (here.0 ∙ place_there text front rest at e is)) (reference_there text front rest value e says here.1)
fault_there text front rest value at (BadCharacter there) e says is here =
    subst (IsBadCharacter text) (sym (here.0 ∙ place_there text front rest at e is)) (character_there text front rest value e says here.1)
fault_there text front rest value at Mem e says is here = tt

-- what escaping writes for a character is a piece
abbrev piece_of : ℕ → Piece
piece_of c = record { written = escaped (encode_utf8 c); says = c }

replaced : (k : ℕ) (name : List ℕ) → escaped (encode_utf8 k) ≡ 38 ∷ (name ++ 59 ∷ []) → named name ≡ Some k → IsPiece (piece_of k)
replaced k name form names = inr (record { name = name; form = form; names = names })

ascii_form : (k : ℕ) (to : List ℕ) → k < 128 → escaped_byte k ≡ to → escaped (encode_utf8 k) ≡ to
ascii_form k to small e = ap escaped (encode_ascii k small) ∙ append-nil (escaped_byte k) ∙ e

or_else : (k c : ℕ) → IsPiece (piece_of k) → (nat_eq c k ≡ false → IsPiece (piece_of c)) → IsPiece (piece_of c)
or_else k c here other = by (nat_eq c k) refl where
  by : (b : Bool) → nat_eq c k ≡ b → IsPiece (piece_of c)
  by true e = subst (λ (x : ℕ). IsPiece (piece_of x)) (sym (eqb-true c k e)) here
  by false e = other e

escaped_piece : (c : ℕ) → is_allowed c ≡ true → IsPiece (piece_of c)
escaped_piece c allowed =
    or_else 38 c (replaced 38 (codes "amp") (ascii_form 38 (codes "&amp;") (lit< tt) refl) refl) (λ a.
    or_else 60 c (replaced 60 (codes "lt") (ascii_form 60 (codes "&lt;") (lit< tt) refl) refl) (λ b.
    or_else 62 c (replaced 62 (codes "gt") (ascii_form 62 (codes "&gt;") (lit< tt) refl) refl) (λ d.
    or_else 34 c (replaced 34 (codes "quot") (ascii_form 34 (codes "&quot;") (lit< tt) refl) refl) (λ e.
    or_else 39 c (replaced 39 (codes "apos") (ascii_form 39 (codes "&apos;") (lit< tt) refl) refl) (λ f.
    or_else 9 c (replaced 9 (codes "#9") (ascii_form 9 (codes "&#9;") (lit< tt) refl) refl) (λ g.
    or_else 10 c (replaced 10 (codes "#10") (ascii_form 10 (codes "&#10;") (lit< tt) refl) refl) (λ h.
    or_else 13 c (replaced 13 (codes "#13") (ascii_form 13 (codes "&#13;") (lit< tt) refl) refl) (λ i.
    inl (rw (allowed, a, b) refl, kept_char c (rw (a, b, d, e, f, g, h, i) refl))))))))))

escaped_pieces : (cs : List ℕ) → list_all is_allowed cs ≡ true → AllByRecursion IsPiece (map piece_of cs)
escaped_pieces [] each = tt
escaped_pieces (c ∷ cs) each =
    let parts = and_parts (is_allowed c) (list_all is_allowed cs) each in
    (escaped_piece c parts.0, escaped_pieces cs parts.1)

escaped_written : (cs : List ℕ) → escaped (encode_utf8_all cs) ≡ written_of (map piece_of cs)
escaped_written [] = refl
escaped_written (c ∷ cs) = flat_map-append escaped_byte (encode_utf8 c) (encode_utf8_all cs) ∙ ap (λ x. escaped (encode_utf8 c) ++ x) (escaped_written cs)

said_back : (cs : List ℕ) → encode_utf8_all cs ≡ said_by (map piece_of cs)
said_back [] = refl
said_back (c ∷ cs) = ap (λ x. encode_utf8 c ++ x) (said_back cs)

pub escaped_says : (text plain : List ℕ) → AreAllowed plain → text ≡ escaped plain → Says text plain
escaped_says text plain are e = record {
  pieces = map piece_of are.0;
  each = escaped_pieces are.0 are.1;
  text_is = e ∙ ap escaped (sym are.2) ∙ escaped_written are.0;
  value_is = sym are.2 ∙ said_back are.0;
}

-- a step of the reading
pub read_more : (text rest after front value next : List ℕ) (says : ℕ) → text ≡ front ++ rest → Says front value → ((written : List ℕ) × (rest ≡ written ++ after) × IsPiece (record { written = written; says = says })) → next ≡ value ++ encode_utf8 says
    → (longer_front : List ℕ) × (text ≡ longer_front ++ after) × Says longer_front next
read_more text rest after front value next says e so_far piece pushed = (
  front ++ piece.0,
  e ∙ ap (λ x. front ++ x) piece.1 ∙ sym (append_assoc front piece.0 after),
  subst (Says (front ++ piece.0)) (sym pushed) (says_more front value (record { written = piece.0; says = says }) so_far piece.2),
)

pub read_shortens : (rest after : List ℕ) (says : ℕ) → ((written : List ℕ) × (rest ≡ written ++ after) × IsPiece (record { written = written; says = says })) → length after < length rest
read_shortens rest after says piece =
    let some = piece_has_bytes (record { written = piece.0; says = says }) piece.2 in
    let long : length rest ≡ length (piece.0 ++ after) = ap length piece.1 in
    omega (arith, length-append piece.0 after)

-- at the end
pub read_whole : (text rest front value : List ℕ) → text ≡ front ++ rest → length rest ≡ 0 → Says front value → Says text value
read_whole text [] front value e none says = subst (λ (x : List ℕ). Says x value) (sym (e ∙ append-nil front)) says
read_whole text (r ∷ rest) front value e none says = absurd (omega arith)

-- behind a piece of a text is text
utf8_behind : (p : Piece) (after : List ℕ) → IsPiece p → IsUtf8 (p.written ++ after) → IsUtf8 after
utf8_behind p after (inl one) u = IsUtf8-past_char (p.written ++ after) after p.says u (ap (λ x. x ++ after) one.1)
utf8_behind p after (inr one) u =
    let text : p.written ++ after ≡ (38 ∷ one.name) ++ 59 ∷ after = reference_form p.written p.says after one in
    past (38 ∷ one.name) (subst IsUtf8 text u)
  where
    past : (front : List ℕ) → IsUtf8 (front ++ 59 ∷ after) → IsUtf8 after
    past front u =
        let here : get_or (front ++ 59 ∷ after) (length front) 0 ≡ 59 = get_or-append_seam front 59 after 0 in
        let inside : length front < length (front ++ 59 ∷ after) = omega (arith, length-append front (59 ∷ after)) in
        let left : drop (length front + 1) (front ++ 59 ∷ after) ≡ after = drop-append-add front (59 ∷ after) 1 in
        subst IsUtf8 left (IsUtf8-drop (front ++ 59 ∷ after) (length front + 1) u (IsCharBoundary-after_ascii (front ++ 59 ∷ after) (length front) u inside (rw here (lit< tt))))

pub text_behind : (rest after : List ℕ) (says : ℕ) → ((written : List ℕ) × (rest ≡ written ++ after) × IsPiece (record { written = written; says = says })) → IsUtf8 rest → IsUtf8 after
text_behind rest after says piece u = utf8_behind (record { written = piece.0; says = says }) after piece.2 (subst IsUtf8 piece.1 u)
