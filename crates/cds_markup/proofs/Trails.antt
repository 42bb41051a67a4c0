-- One construct of a document behind another: the start tags that are open behind them, the parts so far, and that the reader of bytes
-- gives them.
use Rattle.std.proofs.Common.{◌==◌, ◌≡◌, ℕ, ◌+◌, ◌<◌, ◌≤◌, Bool, true, false, ◌&&◌, Some, List, [], ◌∷◌, ◌++◌, length, refl, sym, ap, subst, ◌∙◌, arith, append_assoc, ◌⊎◌, inl, inr, Option, None, cond, ◌-◌, Ok, codes, map}
use Rattle.cds_markup.proofs.Terms.{begins_tag, Grammar-content, TextCut, cases_lt, append-nil, length-append, begins_name, Attr, Part, Start, End, Tag, Leaf, Tree, EmptyElement, Full, Nothing, LeafThen, TreeThen, is_text, begins_with_text, IsLeaf, IsStartTag, IsEndTag, IsProlog, IsTag, IsTree, IsContent, tag_says, most_open, depth, depths, scopes_of, Opens, TagEnds, leaf_parts, TreeParts, ContentParts, OpensParts, RootEnds, Character, IsBegun, IsPlain, PartsTo, Run, SlashEnds, ends_with_text, first_non_blank, line_ends, nat_tests, is_blank, Empty, Marks, OpenText, Blanks, Content, Less, Inside, Epilog, Open, Mode, Without, contains, is_in_text, Text, is_empty, ends_tag, Token, Letter, Slash, Shut, Ended, Given, given, opened, tag_given, reading, may_begin_name, scopes_in, is_deep, is_missing, breaks_rule, if_said, said_as, marks, ended_part, completed_as, text_or, ended_text, is_in_content, last_part, Slashed as Slash-root_state, Telling, telling, begin_telling, told_within, last_parts, Reading, MarkupError, Refuses, MachineError, TooLong, refusal, length-map, by-test, and-no, heads, and-so, apart, Grammar-reference as Reference, Then}
use Rattle.cds_markup.specs.declared.name.Name.{Name}
use Rattle.cds_markup.specs.declared.tag.Declaration.{Declaration}
use Rattle.cds_markup.proofs.TagForms.{IsClosed}
use Rattle.cds_markup.proofs.Standing.{letter-step, TagParts, of-parts, parts-of, and_content, ends_by, begins-append, ends-append, InText, text-characters, AllWhole, leaf_token, Leaf-of, End-of, opens-whole, T, piece-said, content-reads, start-reads, closed-tag, prolog-led, Leads-root}
use Rattle.cds_markup.proofs.Ways.{bytes_of, plain-bytes, less-bytes, Early, AtBegin, early_next, mode_of, root_or, step-is, landing, Said, then-says}
use Rattle.cds_markup.proofs.Decoded.{encoded, wide-bytes}
use Rattle.cds_markup.proofs.GoingOn.{option-by, NoneBefore, scopes-are, CauseAt, cause-refuses, judged-cause, Reached, two-bytes}
use Rattle.cds_markup.specs.declared.event.Event.TheVariants.{Start as Began}
use Rattle.cds_markup.proofs.ScanForms.{without-word, clean, state, word-without, characters-are, wide-open}
use Rattle.cds_markup.proofs.Alive.{in-text}
use Rattle.cds_markup.proofs.TokenTold.{shallow-mode, root_state-told, token-told, early-less, quiet-told, root-told, letters-told, IsRead, blank-behind, Stopped, told-ends, text-part, text-so, front-told, Landed, Lettered, came-so}
use Rattle.cds_markup.proofs.Placing.{no-blank, is_to}

-- before the root, inside an element with or without a literal text right before, behind the root, behind the `/` of an
-- empty element's tag, behind the first bytes of a character
pub data Where : Type 0 where
  Outside : Where
  Within : Bool → Where
  Behind : Where
  Slashed : Where
  Halved : Where

abbrev pub IsOpen : Where → Type 0
IsOpen Outside = Unit {0}
IsOpen (Within b) = Unit {0}
IsOpen other = ⊥

abbrev pub behind : List Tag → Where
behind [] = Behind
behind (t ∷ outer) = Within false

-- the byte that ends a start tag, of an empty element or not, and where it leads
abbrev pub sign : Bool → ℕ
sign true = 47
sign false = 62

abbrev pub tag-to : Bool → Where
tag-to true = Slashed
tag-to false = Within false

abbrev pub tags-to : Bool → Tag → List Tag → List Tag
tags-to true tag tags = tags
tags-to false tag tags = tag ∷ tags

-- where elements with these tags are open
abbrev pub place-in : List Tag → Bool → Where
place-in [] b = Outside
place-in (t ∷ outer) b = Within b

pub is-open : (tags : List Tag) (b : Bool) → IsOpen (place-in tags b)
is-open [] b = tt
is-open (t ∷ outer) b = tt

-- what a start tag keeps
pub record Keeps (tags : List Tag) (tag : Tag) (name : Name) (attrs : List Attr) : Type 0 where
  pub says : tag_says (scopes_of tags) tag ≡ Some (name, attrs)
  pub room : length tags < most_open

-- one construct, the bytes that it is, and its parts
pub data Grows : Where → List Tag → Where → List Tag → List ℕ → List ℕ → List Part → Type 0 where
  Tags : {tag : Tag} {tags : List Tag} {before bytes : List ℕ} (w : Where) (empty : Bool) (name : Name) (attrs : List Attr) (end : ℕ) → IsOpen w → TagParts bytes tag (sign empty ∷ []) → Keeps tags tag name attrs → end + 1 ≡ length before + length bytes → Grows w tags (tag-to empty) (tags-to empty tag tags) before bytes (Start (length before) end name attrs ∷ [])
  Shuts : {tags : List Tag} {before : List ℕ} (end : ℕ) → end + 1 ≡ length before → Grows Slashed tags (behind tags) tags before (62 ∷ []) (End end ∷ [])
  Leaves : {tag : Tag} {outer : List Tag} {before bytes : List ℕ} (b : Bool) (leaf : Leaf) → IsLeaf bytes leaf → (b && is_text leaf) ≡ false → Grows (Within b) (tag ∷ outer) (Within (is_text leaf)) (tag ∷ outer) before bytes (leaf_parts (length before) leaf)
  Closes : {outer : List Tag} {before bytes : List ℕ} (b : Bool) (tag : Tag) → IsEndTag tag.name bytes tt → Grows (Within b) (tag ∷ outer) (behind outer) outer before bytes (End (length before) ∷ [])
  Cuts : {tag : Tag} {outer : List Tag} {before : List ℕ} (text begun : List ℕ) → IsPlain text → IsBegun begun → Grows (Within false) (tag ∷ outer) Halved (tag ∷ outer) before (text ++ begun) (Run (length before) (first_non_blank (length before) (text ++ begun)) (line_ends text) ∷ [])

pub data Trail : Where → List Tag → List ℕ → List Part → Type 0 where
  At-prolog : {front : List ℕ} → IsProlog front tt → Trail Outside [] front []
  At-more : {w v : Where} {tags more : List Tag} {before bytes : List ℕ} {earlier found : List Part} → Trail w tags before earlier → Grows w tags v more before bytes found → Trail v more (before ++ bytes) (earlier ++ found)

pub trail-as : {w : Where} {tags : List Tag} {front bytes : List ℕ} {parts ps : List Part} → Trail w tags front parts → front ≡ bytes → parts ≡ ps → Trail w tags bytes ps
trail-as {w} {tags} {front} {bytes} {parts} t e f = subst (Trail w tags bytes) f (subst (λ xs. Trail w tags xs parts) e t)

both-behind : (d : Grammar-content) (at : ℕ) (scopes : List (List Declaration)) (bytes front back last : List ℕ) (inner first later more : List Part) → bytes ≡ front ++ back → inner ≡ first ++ later → ContentParts d (at + length bytes) scopes last more
    → (bytes ++ last ≡ front ++ (back ++ last)) × ContentParts d (at + length front + length back) scopes last more × (inner ++ more ≡ first ++ (later ++ more))
both-behind d at scopes bytes front back last inner first later more e p h =
    (ap (λ xs. xs ++ last) e ∙ append_assoc front back last, subst (λ n. ContentParts d n scopes last more) (omega (arith, ap length e, length-append front back)) h, ap (λ ps. ps ++ more) p ∙ append_assoc first later more)

pub content-append : (c d : Grammar-content) (b : Bool) (at : ℕ) (scopes : List (List Declaration)) (bytes last : List ℕ) (inner more : List Part) → ContentParts c at scopes bytes inner → ContentParts d (at + length bytes) scopes last more → (ends_by b c && begins_with_text d) ≡ false → ContentParts (and_content c d) at scopes (bytes ++ last) (inner ++ more)
content-append Nothing d b at scopes bytes last inner more e h isn =
    subst (λ xs. ContentParts d at scopes (xs ++ last) (inner ++ more)) (sym e.0)
    (subst (λ ps. ContentParts d at scopes last (ps ++ more)) (sym e.1) (subst (λ n. ContentParts d n scopes last more) (omega (arith, ap length e.0)) h))
content-append (LeafThen m c) d b at scopes bytes last inner more (front, back, later, e, f, n, g, p) h isn =
    let k = both-behind d at scopes bytes front back last inner (leaf_parts at m) later more e p h in
    (front, back ++ last, later ++ more, k.0, f, begins-append m c d n isn, content-append c d (is_text m) (at + length front) scopes back last later more g k.1 isn, k.2)
content-append (TreeThen t c) d b at scopes bytes last inner more (front, back, first, later, e, f, g, p) h isn =
    let k = both-behind d at scopes bytes front back last inner first later more e p h in
    (front, back ++ last, first, later ++ more, k.0, f, content-append c d false (at + length front) scopes back last later more g k.1 isn, k.2)

-- how deep
deep-append : (n : ℕ) (c d : Grammar-content) → n + depths c ≤ 16 → n + depths d ≤ 16 → n + depths (and_content c d) ≤ 16
deep-append n Nothing d h g = g
deep-append n (LeafThen l more) d h g = deep-append n more d h g
deep-append n (TreeThen t more) d h g = let r = deep-append n more d (grind (arith, h)) g in grind (arith, h, r)

-- what stands at a place
abbrev pub In-element : Bool → Tag → List Tag → List ℕ → List Part → Type 0
In-element b t outer front parts = (o : OpensParts (t ∷ outer) front parts) × (ends_by false o.6 ≡ b)

one-open : (t : Tag) (outer : List Tag) (before start inside front : List ℕ) (content : Grammar-content) (earlier inner parts : List Part) (name : Name) (attrs : List Attr) (end : ℕ) → front ≡ before ++ (start ++ inside) → OpensParts outer before earlier → IsStartTag start t → tag_says (scopes_of outer) t ≡ Some (name, attrs)
    → end + 1 ≡ length before + length start → ContentParts content (length before + length start) (scopes_of (t ∷ outer)) inside inner → length (t ∷ outer) + depths content ≤ most_open → parts ≡ earlier ++ (Start (length before) end name attrs ∷ inner) → In-element (ends_by false content) t outer front parts
one-open t outer before start inside front content earlier inner parts name attrs end e o s says place c deep is = ((name, attrs, end, before, start, inside, content, earlier, inner, e, o, s, says, place, c, deep, is), refl)

open-more : (t : Tag) (outer : List Tag) (before bytes : List ℕ) (earlier inner : List Part) (d : Grammar-content) → (o : OpensParts (t ∷ outer) before earlier) → ContentParts d (length before) (scopes_of (t ∷ outer)) bytes inner → (ends_by false o.6 && begins_with_text d) ≡ false
    → length (t ∷ outer) + depths d ≤ 16 → In-element (ends_by (ends_by false o.6) d) t outer (before ++ bytes) (earlier ++ inner)
open-more t outer before bytes earlier inner d (name, attrs, end, b0, start, inside, content, e0, in0, e, o, s, says, place, c, deep, is) h isn few =
    let here : length before ≡ length b0 + length start + length inside = omega (arith, ap length e, length-append b0 (start ++ inside), length-append start inside) in
    subst (λ b. In-element b t outer (before ++ bytes) (earlier ++ inner)) (ends-append false content d)
    (one-open t outer b0 start (inside ++ bytes) (before ++ bytes) (and_content content d) e0 (in0 ++ inner) (earlier ++ inner) name attrs end
    (ap (λ xs. xs ++ bytes) e ∙ append_assoc b0 (start ++ inside) bytes ∙ ap (λ xs. b0 ++ xs) (append_assoc start inside bytes)) o s says place
    (content-append content d false (length b0 + length start) (scopes_of (t ∷ outer)) inside bytes in0 inner c (subst (λ n. ContentParts d n (scopes_of (t ∷ outer)) bytes inner) here h) isn)
    (deep-append (length (t ∷ outer)) content d deep few) (ap (λ ps. ps ++ inner) is ∙ append_assoc e0 (Start (length b0) end name attrs ∷ in0) inner))

-- whether content ends in a text
ends-same : (c : Grammar-content) → ends_with_text c ≡ ends_by false c
ends-same Nothing = refl
ends-same (LeafThen l Nothing) = refl
ends-same (LeafThen l (LeafThen m more)) = ends-same (LeafThen m more)
ends-same (LeafThen l (TreeThen t more)) = ends-same (TreeThen t more)
ends-same (TreeThen t more) = ends-same more

abbrev pub Means : Where → List Tag → List ℕ → List Part → Type 0
Means Outside tags front parts = (tags ≡ []) × IsProlog front tt × (parts ≡ [])
Means (Within b) [] front parts = ⊥
Means (Within b) (t ∷ outer) front parts = In-element b t outer front parts
Means Behind tags front parts = (tags ≡ []) × RootEnds front parts
Means Slashed tags front parts = (s : SlashEnds front parts) × (s.tags ≡ tags)
Means Halved tags front parts = TextCut front parts

pub opens-of : (w : Where) (tags : List Tag) (front : List ℕ) (parts : List Part) → IsOpen w → Means w tags front parts → OpensParts tags front parts
opens-of Outside tags front parts k m = subst (λ ts. OpensParts ts front parts) (sym m.0) (m.1, m.2)
opens-of (Within b) [] front parts k m = absurd m
opens-of (Within b) (t ∷ outer) front parts k m = m.0
opens-of other tags front parts k m = absurd k

finish : (tags : List Tag) (tree : Tree) (before bytes : List ℕ) (earlier inner : List Part) → OpensParts tags before earlier → TreeParts tree (length before) (scopes_of tags) bytes inner → length tags + depth tree ≤ 16 → Means (behind tags) tags (before ++ bytes) (earlier ++ inner)
finish [] tree before bytes earlier inner o t few = (
  refl,
  record {
    root = tree;
    prolog = before;
    element = bytes;
    spelled = refl;
    is_prolog = o.0;
    is_element = subst (λ ps. TreeParts tree (length before) [] bytes (ps ++ inner)) (sym o.1) t;
    within = omega (arith, few);
  },
)
finish (t ∷ outer) tree before bytes earlier inner o h few =
    open-more t outer before bytes earlier inner (TreeThen tree Nothing) o (bytes, [], inner, [], sym (append-nil bytes), h, (refl, refl), sym (append-nil inner)) (and-no (ends_by false o.6)) (grind (arith, few))

-- the parts along the trail are those of the trees
grow-means : {w v : Where} {tags more : List Tag} {before bytes : List ℕ} {found : List Part} (earlier : List Part) → Grows w tags v more before bytes found → Means w tags before earlier → Means v more (before ++ bytes) (earlier ++ found)
grow-means earlier (Tags {tag} {tags} {before} {bytes} w false name attrs end k p keeps place) m =
    one-open tag tags before bytes [] (before ++ bytes) Nothing earlier [] (earlier ++ Start (length before) end name attrs ∷ []) name attrs end (ap (λ xs. before ++ xs) (sym (append-nil bytes))) (opens-of w tags before earlier k m) (of-parts (62 ∷ []) bytes tag p) keeps.says place (refl, refl) (omega (arith, keeps.room)) refl
grow-means earlier (Tags {tag} {tags} {before} {bytes} w true name attrs end k p keeps place) m = (
  record {
    tags = tags;
    before = before;
    inside = p.inside;
    tag = tag;
    end = end;
    name = name;
    attrs = attrs;
    earlier = earlier;
    spelled = ap (λ xs. before ++ xs) p.spelled;
    place = place ∙ sym (length-append before bytes);
    opens = opens-of w tags before earlier k m;
    is_tag = p.is;
    says = keeps.says;
    room = keeps.room;
    is = refl;
  },
  refl,
)
grow-means earlier (Shuts {tags} {before} end place) (s, e) =
    let slash : List ℕ = 60 ∷ (s.inside ++ 47 ∷ []) in
    let empty = of-parts (47 ∷ 62 ∷ []) (slash ++ 62 ∷ []) s.tag (record { inside = s.inside; spelled = ap (λ xs. 60 ∷ xs) (append_assoc s.inside (47 ∷ []) (62 ∷ [])); is = s.is_tag }) in
    let start = s.place in
    let long : s.end + 2 ≡ length s.before + length (slash ++ 62 ∷ []) = omega (arith, start, ap length s.spelled, length-append s.before slash, length-append slash (62 ∷ [])) in
    let whole = ap (λ xs. xs ++ 62 ∷ []) s.spelled ∙ append_assoc s.before slash (62 ∷ []) in
    let all = ap (λ n. earlier ++ End n ∷ []) (omega (arith, place, start)) ∙ ap (λ ps. ps ++ End s.end ∷ []) s.is ∙ append_assoc s.earlier (Start (length s.before) s.end s.name s.attrs ∷ []) (End s.end ∷ []) in
    subst (λ ts. Means (behind ts) ts (before ++ 62 ∷ []) (earlier ++ End end ∷ [])) e (subst (λ xs. Means (behind s.tags) s.tags xs (earlier ++ End end ∷ [])) (sym whole)
    (subst (Means (behind s.tags) s.tags (s.before ++ (slash ++ 62 ∷ []))) (sym all)
    (finish s.tags (EmptyElement s.tag) s.before (slash ++ 62 ∷ []) s.earlier (Start (length s.before) s.end s.name s.attrs ∷ End s.end ∷ []) s.opens (s.name, s.attrs, s.end, empty, s.says, long, refl) (let room = s.room in omega (arith, room)))))
grow-means earlier (Leaves {tag} {outer} {before} {bytes} b leaf h apart) (o, e) =
    open-more tag outer before bytes earlier (leaf_parts (length before) leaf) (LeafThen leaf Nothing) o
    (bytes, [], [], sym (append-nil bytes), h, and-no (is_text leaf), (refl, refl), sym (append-nil (leaf_parts (length before) leaf))) (ap (λ x. x && is_text leaf) e ∙ apart) (let deep = o.15 in omega (arith, deep))
grow-means earlier (Closes {outer} {before} {bytes} b tag h) ((name, attrs, end, b0, start, inside, content, e0, in0, e, o, s, says, place, c, deep, is), ends) =
    let last : List Part = End (length b0 + length start + length inside) ∷ [] in
    let here : length before ≡ length b0 + length start + length inside = omega (arith, ap length e, length-append b0 (start ++ inside), length-append start inside) in
    let whole : before ++ bytes ≡ b0 ++ (start ++ (inside ++ bytes)) = ap (λ xs. xs ++ bytes) e ∙ append_assoc b0 (start ++ inside) bytes ∙ ap (λ xs. b0 ++ xs) (append_assoc start inside bytes) in
    let all : earlier ++ End (length before) ∷ [] ≡ e0 ++ (Start (length b0) end name attrs ∷ (in0 ++ last)) = ap (λ n. earlier ++ End n ∷ []) here ∙ ap (λ ps. ps ++ last) is ∙ append_assoc e0 (Start (length b0) end name attrs ∷ in0) last in
    subst (λ xs. Means (behind outer) outer xs (earlier ++ End (length before) ∷ [])) (sym whole)
    (subst (Means (behind outer) outer (b0 ++ (start ++ (inside ++ bytes)))) (sym all)
    (finish outer (Full tag content) b0 (start ++ (inside ++ bytes)) e0 (Start (length b0) end name attrs ∷ (in0 ++ last)) o (name, attrs, end, start, inside, bytes, in0, refl, s, h, says, place, c, refl) (omega (arith, deep))))
grow-means earlier (Cuts {tag} {outer} {before} text begun plain cut) (o, e) = record {
  tag = tag;
  outer = outer;
  before = before;
  text = text;
  begun = begun;
  earlier = earlier;
  spelled = refl;
  opens = o;
  alone = ends-same o.6 ∙ e;
  plain = plain;
  cut = cut;
  is = refl;
}

pub trail-means : {w : Where} {tags : List Tag} {front : List ℕ} {parts : List Part} → Trail w tags front parts → Means w tags front parts
trail-means (At-prolog p) = (refl, p, refl)
trail-means (At-more {earlier = earlier} t g) = grow-means earlier g (trail-means t)

pub trail-opens : {w : Where} {tags : List Tag} {front : List ℕ} {parts : List Part} → IsOpen w → Trail w tags front parts → OpensParts tags front parts
trail-opens {w} {tags} {front} {parts} k t = opens-of w tags front parts k (trail-means t)

-- where the grammar has a place
pub trail-place : {w : Where} {tags : List Tag} {front : List ℕ} {parts : List Part} → Trail w tags front parts → PartsTo front parts
trail-place {w = Behind} t = inr (inl (trail-means t).1)
trail-place {w = Slashed} t = inr (inr (inl (trail-means t).0))
trail-place {w = Halved} t = inr (inr (inr (trail-means t)))
trail-place {w = other} {tags} t = inl (tags, trail-opens tt t)

-- The trail of what the grammar tells: along parts, and where nothing refuses the bytes.

-- lists
three : (before start inside closing bytes : List ℕ) → bytes ≡ start ++ (inside ++ closing) → before ++ bytes ≡ ((before ++ start) ++ inside) ++ closing
three before start inside closing bytes e = ap (λ xs. before ++ xs) e ∙ sym (append_assoc before start (inside ++ closing)) ∙ sym (append_assoc (before ++ start) inside closing)

slash-then : (before bytes inside : List ℕ) → bytes ≡ 60 ∷ (inside ++ 47 ∷ 62 ∷ []) → (before ++ (60 ∷ (inside ++ 47 ∷ []))) ++ 62 ∷ [] ≡ before ++ bytes
slash-then before bytes inside e = append_assoc before (60 ∷ (inside ++ 47 ∷ [])) (62 ∷ []) ∙ ap (λ xs. before ++ (60 ∷ xs)) (append_assoc inside (47 ∷ []) (62 ∷ [])) ∙ ap (λ xs. before ++ xs) (sym e)

-- along the parts of elements
mutual
  pub tree-trail : (tree : Tree) (w : Where) (tags : List Tag) (before bytes : List ℕ) (earlier inner : List Part) → IsOpen w → Trail w tags before earlier → TreeParts tree (length before) (scopes_of tags) bytes inner → length tags + depth tree ≤ 16 → Trail (behind tags) tags (before ++ bytes) (earlier ++ inner)
  tree-trail (EmptyElement t) w tags before bytes earlier inner k tr (name, attrs, end, e, says, place, is) few =
      let p = parts-of (47 ∷ 62 ∷ []) bytes t e in
      let slash : List ℕ = 60 ∷ (p.inside ++ 47 ∷ []) in
      let long : length bytes ≡ length slash + 1 = omega (arith, ap length p.spelled, length-append p.inside (47 ∷ 62 ∷ []), length-append p.inside (47 ∷ [])) in
      let one = At-more tr (Tags w true name attrs end k (record { inside = p.inside; spelled = refl; is = p.is }) (record { says = says; room = omega (arith, few) }) (omega (arith, place, long))) in
      trail-as (At-more one (Shuts end (omega (arith, place, long, length-append before slash)))) (slash-then before bytes p.inside p.spelled) (append_assoc earlier (Start (length before) end name attrs ∷ []) (End end ∷ []) ∙ ap (λ ps. earlier ++ ps) (sym is))
  tree-trail (Full t c) w tags before bytes earlier inner k tr (name, attrs, end, start, inside, closing, in0, e, s, z, says, place, cp, is) few =
      let first : Part = Start (length before) end name attrs in
      let last : List Part = End (length ((before ++ start) ++ inside)) ∷ [] in
      trail-as
      (At-more
      (content-trail c false t tags (before ++ start) inside (earlier ++ first ∷ []) in0 (At-more tr (Tags w false name attrs end k (parts-of (62 ∷ []) start t s) (record { says = says; room = omega (arith, few) }) place)) (subst (λ n. ContentParts c n (scopes_of (t ∷ tags)) inside in0) (sym (length-append before start)) cp) refl (omega (arith, few)))
      (Closes (ends_by false c) t z))
      (sym (three before start inside closing bytes e))
      (sym (ap (λ ps. earlier ++ ps) is ∙ ap (λ n. earlier ++ (first ∷ (in0 ++ End n ∷ []))) (omega (arith, length-append (before ++ start) inside, length-append before start)) ∙ sym (append_assoc earlier (first ∷ []) (in0 ++ last)) ∙ sym (append_assoc (earlier ++ first ∷ []) in0 last)))

  pub content-trail : (c : Grammar-content) (b : Bool) (t : Tag) (outer : List Tag) (before bytes : List ℕ) (earlier inner : List Part) → Trail (Within b) (t ∷ outer) before earlier → ContentParts c (length before) (scopes_of (t ∷ outer)) bytes inner → (b && begins_with_text c) ≡ false → length (t ∷ outer) + depths c ≤ 16
      → Trail (Within (ends_by b c)) (t ∷ outer) (before ++ bytes) (earlier ++ inner)
  content-trail Nothing b t outer before bytes earlier inner tr (e, f) isn few = trail-as tr (sym (ap (λ xs. before ++ xs) e ∙ append-nil before)) (sym (ap (λ ps. earlier ++ ps) f ∙ append-nil earlier))
  content-trail (LeafThen l more) b t outer before bytes earlier inner tr (one, two, later, e, f, n, g, is) isn few =
      trail-as (content-trail more (is_text l) t outer (before ++ one) two (earlier ++ leaf_parts (length before) l) later (At-more tr (Leaves b l f isn)) (subst (λ n. ContentParts more n (scopes_of (t ∷ outer)) two later) (sym (length-append before one)) g) n few)
      (append_assoc before one two ∙ ap (λ xs. before ++ xs) (sym e)) (append_assoc earlier (leaf_parts (length before) l) later ∙ ap (λ ps. earlier ++ ps) (sym is))
  content-trail (TreeThen tree more) b t outer before bytes earlier inner tr (one, two, first, later, e, f, g, is) isn few =
      trail-as
      (content-trail more false t outer (before ++ one) two (earlier ++ first) later (tree-trail tree (Within b) (t ∷ outer) before one earlier first tt tr f (grind (arith, few)))
      (subst (λ n. ContentParts more n (scopes_of (t ∷ outer)) two later) (sym (length-append before one)) g) refl (grind (arith, few)))
      (append_assoc before one two ∙ ap (λ xs. before ++ xs) (sym e)) (append_assoc earlier first later ∙ ap (λ ps. earlier ++ ps) (sym is))

pub root-trail : (front : List ℕ) (parts : List Part) → RootEnds front parts → Trail Behind [] front parts
root-trail front parts s = trail-as (tree-trail s.root Outside [] s.prolog s.element [] parts tt (At-prolog s.is_prolog) s.is_element (let few = s.within in omega (arith, few))) (sym s.spelled) refl

-- a trail to a place where elements may begin: whether a text is right before it
abbrev pub ends-at : (tags : List Tag) (front : List ℕ) (parts : List Part) → OpensParts tags front parts → Bool
ends-at [] front parts o = false
ends-at (t ∷ outer) front parts o = ends_by false o.6

pub opens-trail : (tags : List Tag) (front : List ℕ) (parts : List Part) (o : OpensParts tags front parts) → Trail (place-in tags (ends-at tags front parts o)) tags front parts
opens-trail [] front parts o = trail-as (At-prolog o.0) refl (sym o.1)
opens-trail (t ∷ outer) front parts (name, attrs, end, before, start, inside, content, earlier, inner, e, o, s, says, place, c, deep, is) =
    let first : Part = Start (length before) end name attrs in
    let b = ends-at outer before earlier o in
    let tr = At-more (opens-trail outer before earlier o) (Tags (place-in outer b) false name attrs end (is-open outer b) (parts-of (62 ∷ []) start t s) (record { says = says; room = omega (arith, deep) }) place) in
    trail-as (content-trail content false t outer (before ++ start) inside (earlier ++ first ∷ []) inner tr (subst (λ n. ContentParts content n (scopes_of (t ∷ outer)) inside inner) (sym (length-append before start)) c) refl deep) (append_assoc before start inside ∙ sym e)
    (append_assoc earlier (first ∷ []) inner ∙ sym is)

pub alone-trail : (t : Tag) (outer : List Tag) (front : List ℕ) (parts : List Part) (o : OpensParts (t ∷ outer) front parts) → ends_with_text o.6 ≡ false → Trail (Within false) (t ∷ outer) front parts
alone-trail t outer front parts o e = subst (λ b. Trail (Within b) (t ∷ outer) front parts) (sym (ends-same o.6) ∙ e) (opens-trail (t ∷ outer) front parts o)

pub slash-trail : (front : List ℕ) (parts : List Part) (s : SlashEnds front parts) → Trail Slashed s.tags front parts
slash-trail front parts s =
    let b = ends-at s.tags s.before s.earlier s.opens in
    let place : s.end + 1 ≡ length s.before + length (60 ∷ (s.inside ++ 47 ∷ [])) = s.place ∙ ap length s.spelled ∙ length-append s.before (60 ∷ (s.inside ++ 47 ∷ [])) in
    trail-as (At-more (opens-trail s.tags s.before s.earlier s.opens) (Tags (place-in s.tags b) true s.name s.attrs s.end (is-open s.tags b) (record { inside = s.inside; spelled = refl; is = s.is_tag }) (record { says = s.says; room = s.room }) place)) (sym s.spelled) (sym s.is)

-- of each place of the grammar
pub place-trail : (front : List ℕ) (parts : List Part) → PartsTo front parts → (w : Where) × (tags : List Tag) × Trail w tags front parts
place-trail front parts (inl (tags, o)) = (_, tags, opens-trail tags front parts o)
place-trail front parts (inr (inl s)) = (Behind, [], root-trail front parts s)
place-trail front parts (inr (inr (inl s))) = (Slashed, s.tags, slash-trail front parts s)
place-trail front parts (inr (inr (inr s))) = (Halved, s.tag ∷ s.outer, trail-as (At-more (alone-trail s.tag s.outer s.before s.earlier s.opens s.alone) (Cuts s.text s.begun s.plain s.cut)) (sym s.spelled) (sym s.is))

-- the grammar alone
mutual
  pub tree-is : (tree : Tree) (at : ℕ) (scopes : List (List Declaration)) (bytes : List ℕ) (parts : List Part) → TreeParts tree at scopes bytes parts → IsTree tree bytes
  tree-is (EmptyElement t) at scopes bytes parts (name, attrs, end, e, says, place, is) = e
  tree-is (Full t c) at scopes bytes parts (name, attrs, end, start, inside, closing, inner, e, s, z, says, place, cp, is) =
      (start, inside, closing, e, s, content-is c (at + length start) _ inside inner cp, z)

  content-is : (c : Grammar-content) (at : ℕ) (scopes : List (List Declaration)) (bytes : List ℕ) (parts : List Part) → ContentParts c at scopes bytes parts → IsContent c bytes
  content-is Nothing at scopes bytes parts (e, f) = e
  content-is (LeafThen l more) at scopes bytes parts (front, back, later, e, f, n, g, is) = (front, back, e, f, content-is more (at + length front) scopes back later g, n)
  content-is (TreeThen t more) at scopes bytes parts (front, back, first, later, e, f, g, is) = (front, back, e, tree-is t at scopes front first f, content-is more (at + length front) scopes back later g)

pub opens-is : (tags : List Tag) (front : List ℕ) (parts : List Part) → OpensParts tags front parts → Opens tags front
opens-is [] front parts o = o.0
opens-is (t ∷ outer) front parts (name, attrs, end, before, start, inside, content, earlier, inner, e, o, s, says, place, c, deep, is) =
    (before, start, inside, content, e, opens-is outer before earlier o, s, content-is content _ _ inside inner c)

-- a start tag that nothing refuses
name-first : (inside : List ℕ) (tag : Tag) → IsTag inside tag → (first : ℕ) × (rest : List ℕ) × (inside ≡ first ∷ rest) × ((c : ℕ) × (tail : List ℕ) × Character begins_name (first ∷ tail) c)
name-first inside tag t =
    let q = t.first in
    let n = q.first in
    let m = n.2 in
    let s = encoded m.what in
    (s.0, s.1 ++ (m.back ++ (q.back ++ t.back)), t.spelled ∙ simp (q.spelled, m.spelled, m.first.spelled, s.2, append_assoc), (m.what, s.1, record { spelled = sym s.2; allowed = m.first.allowed; passes = m.first.passes }))

abbrev pub tag-at : (whole : List ℕ) (tags : List Tag) (before bytes rest : List ℕ) (tag : Tag) (empty : Bool) (at : ℕ) → Opens tags before → TagParts bytes tag (sign empty ∷ []) → whole ≡ before ++ (bytes ++ rest) → at + 1 ≡ length before + length bytes → TagEnds whole tags (length before) at tag
tag-at whole tags before bytes rest tag empty at opens t e place = record {
  before = before;
  inside = t.inside;
  end = sign empty;
  rest = rest;
  spelled = e ∙ ap (λ xs. before ++ (xs ++ rest)) t.spelled ∙ ap (λ xs. before ++ (60 ∷ xs)) (append_assoc t.inside (sign empty ∷ []) rest);
  begins = refl;
  place = omega (arith, place, ap length t.spelled, length-append t.inside (sign empty ∷ []));
  opens = opens;
  is_tag = t.is;
  ends = by-test (λ b. (sign b ≡ 47) ⊎ (sign b ≡ 62)) (inl refl) (inr refl) empty;
}

at-most : (tags : List Tag) (before : List ℕ) (earlier : List Part) → OpensParts tags before earlier → length tags ≤ 16
at-most [] before earlier o = omega arith
at-most (t ∷ outer) before earlier o = let deep = o.15 in omega (arith, deep)

abbrev pub ends-in : (tags : List Tag) (front : List ℕ) → Opens tags front → Bool
ends-in [] front o = false
ends-in (t ∷ outer) front o = ends_by false o.3

module _ (whole : List ℕ) (most : ℕ) (none : NoneBefore whole most) where
  -- bytes from the beginning before which nothing refuses
  pub record Front (front : List ℕ) : Type 0 where
    pub rest : List ℕ
    pub spelled : whole ≡ front ++ rest
    pub few : length front ≤ most

  pub front-less : (front more : List ℕ) → Front (front ++ more) → Front front
  front-less front more f = record { rest = more ++ f.rest; spelled = f.spelled ∙ append_assoc front more f.rest; few = let few = f.few in omega (arith, few, length-append front more) }

  front-part : (before bytes one two : List ℕ) → bytes ≡ one ++ two → Front (before ++ bytes) → Front ((before ++ one) ++ two)
  front-part before bytes one two e f = subst Front (ap (λ xs. before ++ xs) e ∙ sym (append_assoc before one two)) f

  -- the tag keeps the rules
  pub tag-found : (w : Where) (tags : List Tag) (before bytes : List ℕ) (earlier : List Part) (tag : Tag) (empty : Bool) → IsOpen w → Trail w tags before earlier → (t : TagParts bytes tag (sign empty ∷ [])) → Front (before ++ bytes)
      → (said : Name × List Attr) × Keeps tags tag said.0 said.1 × Trail (tag-to empty) (tags-to empty tag tags) (before ++ bytes) (earlier ++ Start (length before) (length before + 1 + length t.inside) said.0 said.1 ∷ [])
  tag-found w tags before bytes earlier tag empty k tr t f = option-by (tag_says (scopes_of tags) tag) (λ d. absurd (none (length before + 1 + length t.inside) (omega (arith, f.few, long)) (inl (inr (tags, length before, tag, found, d)))))
      (λ said d. elim (cases_lt (length tags) most_open) [
        | inl room ↦ let keeps : Keeps tags tag said.0 said.1 = record { says = d; room = room } in (said, keeps, At-more tr (Tags w empty said.0 said.1 (length before + 1 + length t.inside) k t keeps (sym long ∙ length-append before bytes)))
        | inr many ↦ absurd (deep many)
      ]) where
        o : OpensParts tags before earlier
        o = trail-opens k tr

        long : length (before ++ bytes) ≡ length before + 1 + length t.inside + 1
        long = omega (arith, length-append before bytes, ap length t.spelled, length-append t.inside (sign empty ∷ []))

        found : TagEnds whole tags (length before) (length before + 1 + length t.inside) tag
        found = tag-at whole tags before bytes f.rest tag empty (length before + 1 + length t.inside) (opens-is tags before earlier o) t (f.spelled ∙ append_assoc before bytes f.rest) (sym long ∙ length-append before bytes)

        deep : most_open ≤ length tags → ⊥
        deep many =
            let first = name-first t.inside tag t.is in
            none (length before + 1) (omega (arith, f.few, long))
            (inr (record {
              tags = tags;
              before = before;
              first = first.0;
              rest = first.1 ++ sign empty ∷ f.rest;
              spelled = found.spelled ∙ ap (λ xs. before ++ (60 ∷ (xs ++ sign empty ∷ f.rest))) first.2;
              place = refl;
              opens = found.opens;
              many = omega (arith, many, at-most tags before earlier o);
              begins = first.3;
            }))

  mutual
    pub tree-found : (tree : Tree) (w : Where) (tags : List Tag) (before bytes : List ℕ) (earlier : List Part) → IsOpen w → Trail w tags before earlier → IsTree tree bytes → Front (before ++ bytes) → (parts : List Part) × Trail (behind tags) tags (before ++ bytes) parts
    tree-found (EmptyElement t) w tags before bytes earlier k tr s f =
        let p = parts-of (47 ∷ 62 ∷ []) bytes t s in
        let slash : List ℕ = 60 ∷ (p.inside ++ 47 ∷ []) in
        let same = slash-then before bytes p.inside p.spelled in
        let r = tag-found w tags before slash earlier t true k tr (record { inside = p.inside; spelled = refl; is = p.is }) (front-less (before ++ slash) (62 ∷ []) (subst Front (sym same) f)) in
        (_, trail-as (At-more r.2 (Shuts (length before + 1 + length p.inside) (omega (arith, length-append before slash, length-append p.inside (47 ∷ []))))) same refl)
    tree-found (Full t c) w tags before bytes earlier k tr (start, inside, closing, e, s, cs, z) f =
        let all = three before start inside closing bytes e in
        let g = front-less ((before ++ start) ++ inside) closing (subst Front all f) in
        let p = tag-found w tags before start earlier t false k tr (parts-of (62 ∷ []) start t s) (front-less (before ++ start) inside g) in
        let r = content-found c false t tags (before ++ start) inside _ p.2 cs refl g in
        (_, trail-as (At-more r.1 (Closes (ends_by false c) t z)) (sym all) refl)

    pub content-found : (c : Grammar-content) (b : Bool) (t : Tag) (outer : List Tag) (before bytes : List ℕ) (earlier : List Part) → Trail (Within b) (t ∷ outer) before earlier → IsContent c bytes → (b && begins_with_text c) ≡ false → Front (before ++ bytes) → (parts : List Part) × Trail (Within (ends_by b c)) (t ∷ outer) (before ++ bytes) parts
    content-found Nothing b t outer before bytes earlier tr e isn f = (earlier, trail-as tr (sym (ap (λ xs. before ++ xs) e ∙ append-nil before)) refl)
    content-found (LeafThen l more) b t outer before bytes earlier tr (one, two, e, h, g, n) isn f =
        let r = content-found more (is_text l) t outer (before ++ one) two _ (At-more tr (Leaves b l h isn)) g n (front-part before bytes one two e f) in
        (r.0, trail-as r.1 (append_assoc before one two ∙ ap (λ xs. before ++ xs) (sym e)) refl)
    content-found (TreeThen tree more) b t outer before bytes earlier tr (one, two, e, h, g) isn f =
        let all = front-part before bytes one two e f in
        let r = tree-found tree (Within b) (t ∷ outer) before one earlier tt tr h (front-less (before ++ one) two all) in
        let s = content-found more false t outer (before ++ one) two r.0 r.1 g refl all in
        (s.0, trail-as s.1 (append_assoc before one two ∙ ap (λ xs. before ++ xs) (sym e)) refl)

  pub opens-found : (tags : List Tag) (front : List ℕ) (o : Opens tags front) → Front front → (parts : List Part) × Trail (place-in tags (ends-in tags front o)) tags front parts
  opens-found [] front p f = ([], At-prolog p)
  opens-found (t ∷ outer) front (before, start, inside, content, e, o, s, c) f =
      let g = subst Front (e ∙ sym (append_assoc before start inside)) f in
      let h = front-less (before ++ start) inside g in
      let r = opens-found outer before o (front-less before start h) in
      let b = ends-in outer before o in
      let p = tag-found (place-in outer b) outer before start r.0 t false (is-open outer b) r.1 (parts-of (62 ∷ []) start t s) h in
      let q = content-found content false t outer (before ++ start) inside _ p.2 c refl g in
      (q.0, trail-as q.1 (append_assoc before start inside ∙ sym e) refl)

-- what stops the reader is a cause at the byte, whatever comes behind
pub cause-so : (n : ℕ) (w : List ℕ) (x : List Part × MarkupError) (s : Stopped n begin_telling w x) (more : List ℕ)
    → ((n ≤ length s.front) × (x.1 ≡ TooLong)) ⊎ ((length s.front < n) × (stop : MachineError) × CauseAt stop (s.front ++ s.byte ∷ more) (length s.front) × (x.1 ≡ refusal stop (length s.front)))
cause-so n w x s more =
    let c = came-so n s.front s.us s.at s.told in
    elim s.cause [
      | inl h ↦ inl (omega (arith, h.0, c.at), h.1)
      | inr h ↦ inr (omega (arith, h.0, c.at), h.1, judged-cause s.front s.at.read s.byte more c.reached h.1 h.2, h.3 ∙ ap (refusal h.1) c.at)
    ]

-- Up to a place before which nothing refuses the bytes are read.
pub read-to : (bytes front rest : List ℕ) → bytes ≡ front ++ rest → NoneBefore bytes (length front) → (r : Reading) × Reached front r
read-to bytes front rest e none = elim (told-ends (length front) front begin_telling) [
  | inl h ↦ (h.1.read, (came-so (length front) front h.0 h.1 h.2).reached)
  | inr h ↦
      let s = h.1 in
      let less : length s.front < length front = omega (arith, ap length s.spelled, length-append s.front (s.byte ∷ s.rest)) in
      let all : bytes ≡ s.front ++ s.byte ∷ (s.rest ++ rest) = e ∙ ap (λ xs. xs ++ rest) s.spelled ∙ append_assoc s.front (s.byte ∷ s.rest) rest in
      elim (cause-so (length front) front h.0 s (s.rest ++ rest)) [ inl h ↦ absurd (omega (arith, less, h.0)) | inr h ↦ absurd (none (length s.front) less (subst (λ xs. Refuses xs (length s.front)) (sym all) (cause-refuses h.1 (s.front ++ s.byte ∷ (s.rest ++ rest)) (length s.front) h.2))) ]
]

-- where the reader is at a place
pub record Leading (n : ℕ) (front : List ℕ) (parts : List Part) : Type 0 where
  pub state : Early
  pub leads : Leads-root state
  pub begin : ℕ
  pub told : told_within n begin_telling front ≡ Ok ([], telling (reading [] (mode_of state) []) (marks begin None) (length front))
  pub is : parts ≡ []

pub record Late (n : ℕ) (mode : Mode) (opens : List Open) (front : List ℕ) (parts : List Part) : Type 0 where
  pub begin : ℕ
  pub told : told_within n begin_telling front ≡ Ok (parts, telling (reading [] mode opens) (marks begin None) (length front))

pub record Between (n : ℕ) (opens : List Open) (front : List ℕ) (parts : List Part) : Type 0 where
  pub count : ℕ
  pub us : List Part
  pub begin : ℕ
  pub text : Option OpenText
  pub told : told_within n begin_telling front ≡ Ok (us, telling (reading [] (Inside (Content count)) opens) (marks begin text) (length front))
  pub is : parts ≡ us ++ ended_part text

-- what is given up to there, with the text that is open
pub record Gives (n : ℕ) (front : List ℕ) (parts : List Part) : Type 0 where
  pub us : List Part
  pub at : Telling
  pub told : told_within n begin_telling front ≡ Ok (us, at)
  pub is : parts ≡ us ++ last_parts at

abbrev pub ToldAt : ℕ → Where → List Tag → List ℕ → List Part → Type 0
ToldAt n Outside tags front parts = Leading n front parts × (tags ≡ [])
ToldAt n (Within false) tags front parts = Late n (Inside (Content 0)) (map opened tags) front parts
ToldAt n (Within true) tags front parts = Between n (map opened tags) front parts
ToldAt n Behind tags front parts = Late n (Epilog Blanks) [] front parts
ToldAt n Slashed tags front parts = (s : Late n (Inside Slash-root_state) (map opened tags) front parts) × (s.begin + 1 ≡ length front)
ToldAt n Halved tags front parts = Gives n front parts

between : (n : ℕ) (b : Bool) (tags : List Tag) (front : List ℕ) (parts : List Part) → ToldAt n (Within b) tags front parts → Between n (map opened tags) front parts
between n true tags front parts s = s
between n false tags front parts s = record { count = 0; us = parts; begin = s.begin; text = None; told = s.told; is = sym (append-nil parts) }

-- behind a token, of which its parts come
abbrev made-of : List Open → List ℕ → List ℕ → ℕ → Token → List Part × Marks
made-of opens before bytes first token = completed_as (marks (length before) None) (length (before ++ bytes) - 1) first (said_as opens token)

abbrev Ends : ℕ → List ℕ → List ℕ → List Part → List Open → Given → Type 0
Ends n before bytes earlier opens g = Landed n (before ++ bytes) earlier (marks (length before) None) opens g

ends-told : (n : ℕ) (before bytes : List ℕ) (earlier : List Part) (opens : List Open) (g : Given) (x : List Part × Marks) (r : Ends n before bytes earlier opens g) → made-of opens before bytes r.0 g.token ≡ x → told_within n begin_telling (before ++ bytes) ≡ Ok (earlier ++ x.0, telling (reading [] (landing g) g.opens) x.1 (length (before ++ bytes)))
ends-told n before bytes earlier opens g x r made = r.1 ∙ ap (λ y. Ok (earlier ++ y.0, telling (reading [] (landing g) g.opens) y.1 (length (before ++ bytes)))) made

-- where a byte behind a `<` makes nothing too deep
abbrev Sharp : List Open → List ℕ → Type 0
Sharp opens bytes = (b : ℕ) (more : List ℕ) → bytes ≡ 60 ∷ b ∷ more → is_deep (reading [] (Inside Less) opens) b ≡ false

content-ends : (n : ℕ) (opens : List Open) (before bytes : List ℕ) (earlier : List Part) (g : Given) (s : Between n opens before earlier) → Said (T opens) (Content s.count) bytes g → ((c : ℕ) → g.token ≡ Letter c → ⊥) → Sharp opens bytes → breaks_rule opens (g.token ∷ []) ≡ false
    → length (before ++ bytes) ≤ n → Ends n before bytes earlier opens g
content-ends n opens before bytes earlier g s u none sharp keeps within =
    subst (λ ps. Ends n before bytes ps opens g) (sym s.is) (subst (λ xs. Ends n before xs (s.us ++ ended_part s.text) opens g) (sym u.spelled)
    (token-told n s.count u.text before s.us opens s.begin s.text g s.told u.allowed none
    (λ c rest f x xs z. sharp x (xs ++ bytes_of rest) (u.spelled ∙ ap bytes_of f ∙ less-bytes (c ∷ rest) ∙ ap (λ ys. 60 ∷ (ys ++ bytes_of rest)) z)) keeps (subst (λ xs. length (before ++ xs) ≤ n) u.spelled within) u.takes))

-- the second byte of what is no start tag
second-is : (opens : List Open) (x y : ℕ) (tail bytes : List ℕ) → bytes ≡ x ∷ y ∷ tail → may_begin_name y ≡ false → Sharp opens bytes
second-is opens x y tail bytes e f b more d = rw (ap may_begin_name (sym (heads y b tail more (heads x 60 (y ∷ tail) (b ∷ more) (sym e ∙ d)).1).0) ∙ f) (and-no (length opens == most_open && begins_tag (Inside Less)))

leaf-sharp : (opens : List Open) (l : Leaf) (bytes : List ℕ) → is_text l ≡ false → IsLeaf bytes l → Sharp opens bytes
leaf-sharp opens (Text text) bytes isn h = absurd (cc)
leaf-sharp opens (Reference c) bytes isn h = λ b more d. let e = (heads 38 60 (h.name ++ 59 ∷ []) (b ∷ more) (sym h.form ∙ d)).0 in absurd (omega (arith, e))
leaf-sharp opens other bytes isn h = second-is opens 60 33 _ bytes (h.spelled ∙ ap (λ xs. xs ++ h.back) h.first) refl

-- a start tag
trail-whole : (b : Bool) (tags : List Tag) (before : List ℕ) (earlier : List Part) → Trail (Within b) tags before earlier → AllWhole (map opened tags)
trail-whole b tags before earlier tr = opens-whole tags before (opens-is tags before earlier (trail-opens tt tr))

tag-ends : (n : ℕ) (w : Where) (tags : List Tag) (before bytes : List ℕ) (earlier : List Part) (tag : Tag) (empty : Bool) → TagParts bytes tag (sign empty ∷ []) → IsOpen w → ToldAt n w tags before earlier → breaks_rule (map opened tags) ((tag_given (map opened tags) (tag, sign empty)).token ∷ []) ≡ false → length tags < most_open
    → length (before ++ bytes) ≤ n → ((c : ℕ) → (tag_given (map opened tags) (tag, sign empty)).token ≡ Letter c → ⊥) → ends_tag (sign empty) ≡ true → Ends n before bytes earlier (map opened tags) (tag_given (map opened tags) (tag, sign empty))
tag-ends n (Within b) tags before bytes earlier tag empty p k at keeps room within none ends =
    let opens : List Open = map opened tags in
    let s = between n b tags before earlier at in
    content-ends n opens before bytes earlier (tag_given opens (tag, sign empty)) s ((content-reads opens s.count bytes (tag_given opens (tag, sign empty))).1 (inl (inr (inr (tag, sign empty, ends, p, refl))))) none
    (λ x more d. let few : length opens < most_open = omega (arith, room, length-map tags opened) in grind (arith, nat_tests)) keeps within
tag-ends n Outside [] before bytes earlier tag empty p k (s, z) keeps room within none ends =
    let g : Given = tag_given [] (tag, sign empty) in
    let end = p.inside ++ sign empty ∷ [] in
    let u = (start-reads [] end g).1 (then-says (Then IsTag IsClosed) (tag_given []) end g (tag, sign empty) (closed-tag tag (sign empty) p.inside ends p.is) refl) in
    let spelled : bytes ≡ bytes_of (60 ∷ u.text) = p.spelled ∙ ap (λ xs. 60 ∷ xs) u.spelled ∙ sym (less-bytes u.text) in
    subst (λ ps. Ends n before bytes ps [] g) (sym s.is) (subst (λ xs. Ends n before xs [] [] g) (sym spelled)
    (root-told n s.state u.text before [] s.begin g s.leads s.told u.allowed keeps (subst (λ xs. length (before ++ xs) ≤ n) spelled within) u.takes))
tag-ends n Outside (x ∷ tags) before bytes earlier tag empty p k (s, z) keeps room within none ends = absurd (cc)
tag-ends n other tags before bytes earlier tag empty p k at keeps room within none ends = absurd k

-- an element that is over
over-told : (n : ℕ) (tags : List Tag) (front : List ℕ) (parts : List Part) (begin : ℕ) → told_within n begin_telling front ≡ Ok (parts, telling (reading [] (landing (given Ended (map opened tags) (Content 0))) (map opened tags)) (marks begin None) (length front)) → ToldAt n (behind tags) tags front parts
over-told n [] front parts begin e = record { begin = begin; told = e }
over-told n (t ∷ outer) front parts begin e = record { begin = begin; told = e }

-- a literal text
pub chars-of : (xs text : List ℕ) → Without (codes "]]>") is_in_text xs text → (cs : List ℕ) × (xs ≡ bytes_of cs) × InText cs × (clean 0 cs ≡ true)
chars-of xs text c = let are = characters-are is_in_text xs c.characters c.each in (c.characters, are.0, in-text xs c.characters c.each, word-without c.characters (ap (λ ys. contains (codes "]]>") ys) (sym are.0) ∙ c.none))

pub chars-plain : (cs : List ℕ) → InText cs → clean 0 cs ≡ true → IsPlain (bytes_of cs)
chars-plain cs i c = record { says = refl; characters = cs; each = text-characters cs i; none = without-word cs c }

pub letters-at : (n : ℕ) (tag : Tag) (outer : List Tag) (before xs text : List ℕ) (earlier : List Part) → Late n (Inside (Content 0)) (map opened (tag ∷ outer)) before earlier → Without (codes "]]>") is_in_text xs text → length (before ++ xs) ≤ n → (k : ℕ) × Lettered n k (map opened (tag ∷ outer)) before xs earlier
letters-at n tag outer before xs text earlier late c within =
    let cs = chars-of xs text c in
    let first : Lettered n 0 (map opened (tag ∷ outer)) before [] earlier = record { begin = late.begin; text = None; told = subst (λ ys. told_within n begin_telling ys ≡ Ok (earlier, telling (reading [] (Inside (Content 0)) (map opened (tag ∷ outer))) (marks late.begin None) (length ys))) (sym (append-nil before)) late.told; so = refl } in
    (state 0 cs.0, subst (λ ys. Lettered n (state 0 cs.0) (map opened (tag ∷ outer)) before ys earlier) (sym cs.1) (letters-told n cs.0 0 (opened tag) (map opened outer) before [] earlier first cs.2 cs.3 (subst (λ ys. length (before ++ ys) ≤ n) cs.1 within)))

-- a leaf that is no text gives its part, and breaks no rule
leaf-so : (l : Leaf) (opens : List Open) (before bytes : List ℕ) → is_text l ≡ false
    → ((first : ℕ) → made-of opens before bytes first (leaf_token l) ≡ (leaf_parts (length before) l, marks (length before) None)) × ((c : ℕ) → leaf_token l ≡ Letter c → ⊥) × (breaks_rule opens (leaf_token l ∷ []) ≡ false)
leaf-so (Text text) opens before bytes e = absurd (cc)
leaf-so other opens before bytes e = (λ first. refl, λ c d. absurd (cc), refl)

-- the part that a text is of which a character is cut
cut-part : (k : ℕ) (opens : List Open) (begin before at end x : ℕ) (xs text : List ℕ) (o : Option OpenText) → is_blank x ≡ false → at ≡ before + length text → end ≡ at + length (x ∷ xs) → IsRead (text_or at o) before text
    → last_parts (telling (reading (x ∷ xs) (Inside (Content k)) opens) (marks begin o) end) ≡ Run before (first_non_blank before (text ++ x ∷ xs)) (line_ends text) ∷ []
cut-part k opens begin before at end x xs text o e d f r =
    let some : is_empty (x ∷ xs) ≡ false = grind (arith, nat_tests) in
    let back : end - length (x ∷ xs) ≡ at = omega (arith, f) in
    rw (some, back, r.at, r.non_blank, r.said) (ap (λ p. Run before p (line_ends text) ∷ []) (sym (blank-behind text (x ∷ xs) before at false (λ m. ap (λ b. cond {A = Option ℕ} b (first_non_blank (m + 1) xs) (Some m)) e) d)))

-- the first byte of such a character
pub begun-high : (b : ℕ) (xs : List ℕ) → IsBegun (b ∷ xs) → 128 ≤ b
begun-high b xs (some, [], c, others, ch) = absurd (others refl)
begun-high b xs (some, t ∷ tail, c, others, ch) =
    let w = wide-bytes c (two-bytes c b t xs tail (sym ch.spelled)) in
    subst (λ x. 128 ≤ x) (heads w.0 b w.1 (xs ++ t ∷ tail) (sym w.2 ∙ sym ch.spelled)).0 w.3.0

cut-told : (n : ℕ) (tag : Tag) (outer : List Tag) (before text begun : List ℕ) (earlier : List Part) → Late n (Inside (Content 0)) (map opened (tag ∷ outer)) before earlier → IsPlain text → IsBegun begun → length (before ++ (text ++ begun)) ≤ n
    → Gives n (before ++ (text ++ begun)) (earlier ++ Run (length before) (first_non_blank (length before) (text ++ begun)) (line_ends text) ∷ [])
cut-told n tag outer before text [] earlier at plain cut within = absurd (cut.0 refl)
cut-told n tag outer before text (x ∷ xs) earlier at plain (some, [], c, others, ch) within = absurd (others refl)
cut-told n tag outer before text (x ∷ xs) earlier at plain (some, t ∷ tail, c, others, ch) within =
    let opens : List Open = map opened (tag ∷ outer) in
    let none : is_blank x ≡ false = no-blank x (begun-high x xs (some, t ∷ tail, c, others, ch)) in
    let long = length-append before (text ++ x ∷ xs) in
    let rest = length-append text (x ∷ xs) in
    let place = length-append before text in
    let l = letters-at n tag outer before text text earlier at plain (omega (arith, long, rest, within, place)) in
    let r = l.1 in
    let m = marks r.begin r.text in
    let here = length (before ++ text) in
    let end = length ((before ++ text) ++ x ∷ xs) in
    let to = letter-step l.0 (opened tag) (map opened outer) c ch.passes (wide-open l.0 c (two-bytes c x t xs tail (sym ch.spelled))) in
    let two = front-told n (Inside (Content l.0)) opens m earlier c ch.allowed (ap is_to to) (λ b bs z. shallow-mode (Inside (Content l.0)) opens b refl) (x ∷ xs) [] (before ++ text) t tail r.told (sym ch.spelled) (omega (arith, long, rest, within, place, length-append (before ++ text) (x ∷ xs))) in
    record {
      us = earlier;
      at = telling (reading (x ∷ xs) (Inside (Content l.0)) opens) m end;
      told = ap (told_within n begin_telling) (sym (append_assoc before text (x ∷ xs))) ∙ two;
      is = ap (λ ps. earlier ++ ps) (sym (cut-part l.0 opens r.begin (length before) here end x xs text r.text none place (length-append (before ++ text) (x ∷ xs)) (text-so r.text (length before) here text r.so place)));
    }

-- a construct behind what is told
grow-told : {w v : Where} {tags more : List Tag} {before bytes : List ℕ} {found : List Part} (n : ℕ) (earlier : List Part) → Grows w tags v more before bytes found → Trail w tags before earlier → ToldAt n w tags before earlier → length (before ++ bytes) ≤ n → ToldAt n v more (before ++ bytes) (earlier ++ found)
grow-told n earlier (Tags {tag} {tags} {before} {bytes} w empty name attrs end k p keeps place) tr at within = by empty p where
  opens : List Open
  opens = map opened tags

  first : Part
  first = Start (length before) end name attrs

  says : tag_says (scopes_in opens) tag ≡ Some (name, attrs)
  says = ap (λ s. tag_says s tag) (scopes-are tags) ∙ keeps.says

  last : length (before ++ bytes) - 1 ≡ end
  last = omega (arith, length-append before bytes, place)

  slashed : (opens : List Open) → landing (given (Slash tag) opens Slash-root_state) ≡ Inside Slash-root_state
  slashed [] = refl
  slashed (o ∷ outer) = refl

  by : (empty : Bool) → TagParts bytes tag (sign empty ∷ []) → ToldAt n (tag-to empty) (tags-to empty tag tags) (before ++ bytes) (earlier ++ first ∷ [])
  by false p =
      let r = tag-ends n w tags before bytes earlier tag false p k at (ap is_missing says) keeps.room within (λ c d. absurd (cc)) refl in
      record { begin = length before; told = ends-told n before bytes earlier opens (tag_given opens (tag, 62)) (first ∷ [], marks (length before) None) r (ap (λ o. completed_as (marks (length before) None) (length (before ++ bytes) - 1) r.0 (if_said Began o)) says ∙ ap (λ x. (Start (length before) x name attrs ∷ [], marks (length before) None)) last) }
  by true p =
      let r = tag-ends n w tags before bytes earlier tag true p k at (ap is_missing says) keeps.room within (λ c d. absurd (cc)) refl in
      let told = ends-told n before bytes earlier opens (given (Slash tag) opens Slash-root_state) (first ∷ [], marks end None) r (ap (λ o. completed_as (marks (length before) None) (length (before ++ bytes) - 1) r.0 (if_said Empty o)) says ∙ ap (λ x. (Start (length before) x name attrs ∷ [], marks x None)) last) in
      (record { begin = end; told = told ∙ ap (λ x. Ok (earlier ++ first ∷ [], telling (reading [] x opens) (marks end None) (length (before ++ bytes)))) (slashed opens) }, place ∙ sym (length-append before bytes))
grow-told n earlier (Shuts {tags} {before} end place) tr (s, at) within =
    let opens : List Open = map opened tags in
    let whole : before ++ 62 ∷ [] ≡ before ++ bytes_of (62 ∷ []) = ap (λ xs. before ++ xs) (sym (plain-bytes (62 ∷ []) (omega arith, tt))) in
    let r = root_state-told n (62 ∷ []) before earlier Slash-root_state opens (marks s.begin None) (given Shut opens (Content 0)) s.told (refl, tt) refl (λ c rest f b bs z. shallow-mode (Inside Slash-root_state) opens b refl) refl (subst (λ xs. length xs ≤ n) whole within) (refl, refl) in
    subst (λ x. ToldAt n (behind tags) tags (before ++ 62 ∷ []) (earlier ++ End x ∷ [])) (omega (arith, at, place))
    (over-told n tags (before ++ 62 ∷ []) (earlier ++ End s.begin ∷ []) s.begin (subst (λ xs. told_within n begin_telling xs ≡ Ok (earlier ++ End s.begin ∷ [], telling (reading [] (landing (given Ended opens (Content 0))) opens) (marks s.begin None) (length xs))) (sym whole) r.1))
grow-told n earlier (Leaves {tag} {outer} {before} {bytes} b (Text text) h apart) tr at within =
    let l = letters-at n tag outer before bytes text earlier (subst (λ x. ToldAt n (Within x) (tag ∷ outer) before earlier) (and-so b apart) at) h.characters within in
    let part = text-part l.1.text (length before) bytes l.1.so (λ e. h.some (h.characters.says ∙ e)) in
    record { count = l.0; us = earlier; begin = l.1.begin; text = l.1.text; told = l.1.told; is = ap (λ ps. earlier ++ ps) (ap (λ xs. Run (length before) (first_non_blank (length before) xs) (line_ends xs) ∷ []) h.characters.says ∙ sym part) }
grow-told n earlier (Leaves {tag} {outer} {before} {bytes} b l h apart) tr at within =
    let opens : List Open = map opened (tag ∷ outer) in
    let g : Given = given (leaf_token l) opens (Content 0) in
    let so = leaf-so l opens before bytes refl in
    let s = between n b (tag ∷ outer) before earlier at in
    let r = content-ends n opens before bytes earlier g s (piece-said s.count opens (trail-whole b (tag ∷ outer) before earlier tr) bytes g (Leaf-of l h refl refl)) so.1 (leaf-sharp opens l bytes refl h) so.2 within in
    record { begin = length before; told = ends-told n before bytes earlier opens g (leaf_parts (length before) l, marks (length before) None) r (so.0 r.0) }
grow-told n earlier (Closes {outer} {before} {bytes} b tag h) tr at within =
    let opens : List Open = map opened (tag ∷ outer) in
    let g : Given = given Ended (map opened outer) (Content 0) in
    let s = between n b (tag ∷ outer) before earlier at in
    let r = content-ends n opens before bytes earlier g s (piece-said s.count opens (trail-whole b (tag ∷ outer) before earlier tr) bytes g (End-of (opened tag) (map opened outer) refl h refl)) (λ c d. absurd (cc))
    (second-is opens 60 47 _ bytes (h.spelled ∙ ap (λ xs. xs ++ h.back) h.first) refl) refl within
    in
    over-told n outer (before ++ bytes) (earlier ++ End (length before) ∷ []) (length before) (ends-told n before bytes earlier opens g (End (length before) ∷ [], marks (length before) None) r refl)
grow-told n earlier (Cuts {tag} {outer} {before} text begun plain cut) tr at within = cut-told n tag outer before text begun earlier at plain cut within

pub trail-told : {w : Where} {tags : List Tag} {front : List ℕ} {parts : List Part} (n : ℕ) → Trail w tags front parts → length front ≤ n → ToldAt n w tags front parts
trail-told n (At-prolog {front} p) h =
    let u = prolog-led front p in
    let q = quiet-told early_next mode_of (λ e f c i. step-is e [] c ∙ ap (λ x. root_or [] x c) i) early-less n u.1.text AtBegin u.0 [] [] (0, refl) u.1.allowed u.1.steps (subst (λ xs. length xs ≤ n) u.1.spelled h) in
    (record { state = u.0; leads = u.2; begin = q.0; told = subst (λ xs. told_within n begin_telling xs ≡ Ok ([], telling (reading [] (mode_of u.0) []) (marks q.0 None) (length xs))) (sym u.1.spelled) q.1; is = refl }, refl)
trail-told n (At-more {before = before} {bytes = bytes} {earlier = earlier} t g) h = grow-told n earlier g t (trail-told n t (omega (arith, length-append before bytes, h))) h

-- The parts up to a place of the grammar are those that the reader of bytes gives up to there.

-- where no character is cut
pub whole-last : (mode : Mode) (opens : List Open) (m : Marks) (at : ℕ) → last_parts (telling (reading [] mode opens) m at) ≡ ended_text m
whole-last mode opens m at = ap (λ t. last_part t (at - length {A = ℕ} []) m) (and-no (is_in_content mode))

place-gives : (n : ℕ) (w : Where) (tags : List Tag) (front : List ℕ) (parts : List Part) → ToldAt n w tags front parts → Gives n front parts
place-gives n Outside tags front parts (s, z) = record { us = []; at = telling (reading [] (mode_of s.state) []) (marks s.begin None) (length front); told = s.told; is = s.is ∙ sym (whole-last (mode_of s.state) [] (marks s.begin None) (length front)) }
place-gives n (Within b) tags front parts at =
    let s = between n b tags front parts at in
    record { us = s.us; at = telling (reading [] (Inside (Content s.count)) (map opened tags)) (marks s.begin s.text) (length front); told = s.told; is = s.is }
place-gives n Behind tags front parts s = record { us = parts; at = telling (reading [] (Epilog Blanks) []) (marks s.begin None) (length front); told = s.told; is = sym (append-nil parts) }
place-gives n Slashed tags front parts (s, at) = record { us = parts; at = telling (reading [] (Inside Slash-root_state) (map opened tags)) (marks s.begin None) (length front); told = s.told; is = sym (append-nil parts) }
place-gives n Halved tags front parts s = s

pub gives : (n : ℕ) (front : List ℕ) (parts : List Part) → PartsTo front parts → length front ≤ n → Gives n front parts
gives n front parts stand within = let t = place-trail front parts stand in place-gives n t.0 t.1 front parts (trail-told n t.2 within)
