-- Words of the grammar lead the machine from one state to another one.
-- Every state that is kept well can go on to the end of a document: by a next character, behind which less is left.
use Rattle.std.proofs.Common.{◌≡◌, ◌==◌, ◌+◌, ◌-◌, ◌*◌, ◌<◌, ◌≤◌, ℕ, zero, suc, nat_le, nat_lt, Bool, true, false, Option, Some, None, List, [], ◌∷◌, ◌++◌, length, refl, arith, cond, not, ◌&&◌, ◌⊎◌, inl, inr, codes, map, sym, ap, subst, ◌∙◌, append_assoc}
use Rattle.cds_markup.proofs.Terms.{inside_move, step_root, encode_ascii, Word, nat_tests, is_allowed, ReferenceState, Ampersand, EntityA, Entity, Sharp, Number, ValueState, AttributeState, AttrName, AttrNamed, Equals, Value, StartTagState, Opened, Name, Attribute, NameState, Tag, with_digit, Stage, Version, Closing, DeclarationState, Xml, Gap, PartName, PartEquals, PartValue, YesOrNo, BehindPart, Question, Misc, Blanks, MiscLess, MiscBang, MiscDash, MiscComment, RootState, Content, Less, Bang, Dash, Comment, Cdata, Section, Reference, StartTag, Slashed, EndTag, Mode, First, Declaration, Prolog, Inside, Epilog, Open, Next, Stuck, On, Done, behind, is_letter, Token, Shut, Ended, Given, given, tag_given, Move, Nowhere, To, step, comes, is_whole, leads, step_attr, step_comment, step_reference, step_tag, step_value, list_all, is_behind, begins_name, Begin, Character, Many, contains, is_in_text, IsTag, Leaf, Text, IsLeaf, is_text, Tree, EmptyElement, Full, Nothing, LeafThen, TreeThen, begins_with_text, IsStartTag, IsTree, IsContent, IsDocument, Opens, closes_section, brackets_with, ends_tag, Slash, opened, epilog_move, misc_step, Inner}
use Rattle.cds_markup.proofs.Ways.{P, Runs, Ends, takes-run, landing, Anything, next-by, cases, and-first, same-byte, steps-then, Allowed, allowed-append, ascii-first, bytes_of, then-of, then-says, no-blanks, Early, name-no-bang, mode_of, early_next, root_or, step-is, Place, place, takes-last, holds, holds-if, holds-named, leads-any, and-second, Steps, plain-bytes, allowed-apart, bytes-append, steps-as, Way, way-as, way-byte, way-none, way-text, way-then}
use Rattle.cds_markup.proofs.Placing.{WellMove, WellReference, WellSome, WellAttr, WellTag, WellRoot, WellDeclaration, WellMode, well-step}
use Rattle.cds_markup.proofs.Standing.{letter-step, AllWhole, end-reads, TagParts, closed-tag, parts-of, Piece, Leaf-of, End-of, InText, start-name, opens-whole, piece-said, last-same, prolog-led, misc-way}
use Rattle.cds_markup.proofs.ScanForms.{sec, clean, state, word-without, not-so, characters-are}
use Rattle.cds_markup.proofs.TagForms.{end-plain, tag-reads}

-- Bytes that lead there.
abbrev pub Led : Mode → List Open → List ℕ → Mode → List Open → Type 0
Led mode opens bytes m o = Way P (mode, opens) bytes (m, o)

-- one token by its row
piece-led : (opens : List Open) → AllWhole opens → (n : ℕ) (bytes : List ℕ) (g : Given) → Piece n opens bytes g → Led (Inside (Content n)) opens bytes (landing g) g.opens
piece-led opens whole n bytes g piece =
    let r = piece-said n opens whole bytes g piece in
    record { text = r.text; spelled = r.spelled; allowed = r.allowed; steps = takes-run r.text (Content n) opens g r.takes }

-- leaves
letters-run : (o : Open) (outer : List Open) (cs : List ℕ) (n : ℕ) → InText cs → clean n cs ≡ true → Runs (Inside (Content n)) (o ∷ outer) cs (Inside (Content (state n cs))) (o ∷ outer)
letters-run o outer [] n a e = refl
letters-run o outer (c ∷ cs) n a e =
    let closes = not-so (closes_section n c) (and-first (not (closes_section n c)) (clean (brackets_with n c) cs) e) in
    let more = letters-run o outer cs (brackets_with n c) a.2 (and-second (not (closes_section n c)) (clean (brackets_with n c) cs) e) in
    subst (λ v. comes (place v) (λ p. Steps P p cs (Inside (Content (state n (c ∷ cs))), o ∷ outer)) (λ u. ⊥)) (sym (letter-step n o outer c a.1 closes)) more

pub in-text : (bytes cs : List ℕ) → Many (Character is_in_text) bytes cs → InText cs
in-text bytes [] g = tt
in-text bytes (c ∷ cs) (front, back, e, g, more) = (g.allowed, g.passes, in-text back cs more)

-- a leaf from a count of brackets on: a text only where none stand before it
abbrev pub Fits : ℕ → Bool → Type 0
Fits n text = (n ≡ 0) ⊎ (text ≡ false)

leaf-led : (o : Open) (outer : List Open) → AllWhole (o ∷ outer) → (n : ℕ) (l : Leaf) (bytes : List ℕ) → Fits n (is_text l) → IsLeaf bytes l → (m : ℕ) × Led (Inside (Content n)) (o ∷ outer) bytes (Inside (Content m)) (o ∷ outer) × ((is_text l ≡ true) ⊎ (m ≡ 0))
leaf-led o outer whole n (Text text) bytes (inr e) h = absurd (cc)
leaf-led o outer whole n (Text text) bytes (inl z) h =
    let c = h.characters in
    let are = characters-are is_in_text bytes c.characters c.each in
    let clear : clean n c.characters ≡ true = ap (λ m. clean m c.characters) z ∙ word-without c.characters (ap (λ xs. contains (codes "]]>") xs) (sym are.0) ∙ c.none) in (
      state n c.characters,
      record { text = c.characters; spelled = are.0; allowed = are.1; steps = letters-run o outer c.characters n (in-text bytes c.characters c.each) clear },
      inl refl,
    )
leaf-led o outer whole n other bytes f h = (0, piece-led (o ∷ outer) whole n bytes _ (Leaf-of other h refl refl), inr refl)

-- Where a start tag may come: its name behind a `<` leads on as it does a start tag.
abbrev Starts : Place → List Open → Type 0
Starts p all = (s : Place) × (P p 60 ≡ On s) × ((x : ℕ) → begins_name x ≡ true → P s x ≡ P (Inside (StartTag Opened), all) x)

content-starts : (o : Open) (outer : List Open) (n : ℕ) → Starts (Inside (Content n), o ∷ outer) (o ∷ outer)
content-starts o outer n = ((Inside Less, o ∷ outer), refl, λ x e. let other : (x == 47) ≡ false = grind (arith, nat_tests) in rw (other, name-no-bang x e) refl)

-- where one is about to end
pub record TagRun (p : Place) (all : List Open) (bytes : List ℕ) (tag : Tag) (e : ℕ) : Type 0 where
  pub root_state : RootState
  pub led : Way P p bytes (Inside root_state, all)
  pub gives : step_root root_state all e ≡ Done (tag_given all (tag, e))

module _ (p : Place) (all : List Open) (r : Starts p all) where
  tag-run : (inside : List ℕ) (tag : Tag) (e : ℕ) → ends_tag e ≡ true → IsTag inside tag → TagRun p all (60 ∷ inside) tag e
  tag-run inside tag e ends t =
      let read = (tag-reads (inside ++ e ∷ []) (tag, e)).1 (closed-tag tag e inside ends t) in
      let l = takes-last step_tag read.text Opened (tag, e) read.takes in
      let last : l.1 ≡ e = sym (rw l.5 at (closes l.2 l.1)) in
      let is = last-same inside e (bytes_of l.0) e (read.spelled ∙ ap bytes_of (l.3 ∙ ap (λ x. l.0 ++ x ∷ []) last) ∙ bytes-append l.0 (e ∷ []) ∙ ap (λ xs. bytes_of l.0 ++ xs) (plain-bytes (e ∷ []) ((end-plain e ends).0, tt))) in
      by l.0 l.2 is.0 (allowed-apart l.0 (l.1 ∷ []) (subst Allowed l.3 read.allowed)).0 l.4 (ap (step_tag l.2) (sym last) ∙ l.5) where
        closes : (n : StartTagState) (c : ℕ) → holds (step_tag n c) Anything (λ found. found.1 ≡ c)
        closes (Attribute tag m) c = search leads-any
        closes other c = search (holds-named, holds-if)

        name : (x : ℕ) (w : List ℕ) (n : StartTagState) → Steps step_tag Opened (x ∷ w) n → begins_name x ≡ true
        name x w n s = cases (begins_name x) (λ f. f) (λ f. absurd (rw f at s))

        by : (v : List ℕ) (n : StartTagState) → inside ≡ bytes_of v → Allowed v → Steps step_tag Opened v n → step_tag n e ≡ Done (tag, e) → TagRun p all (60 ∷ inside) tag e
        by [] n is ok s d = let k = subst (λ m. step_tag m e ≡ Done (tag, e)) (sym s) d in cases (begins_name e) (λ f. let g = rw f at k in absurd (cc)) (λ f. let g = rw f at k in absurd (cc))
        by (x ∷ w) n is ok s d = record {
          root_state = StartTag n;
          led = way-then P (60 ∷ inside) refl (way-byte P {m = p} {n = r.0} 60 refl (omega arith) refl r.1) (record {
            text = x ∷ w;
            spelled = is;
            allowed = ok;
            steps = rw (r.2 x (name x w n s)) (steps-as step_tag P (λ t. (Inside (StartTag t), all)) (λ m n c f. ap (λ x. place (inside_move all (leads x StartTag (λ found. Done (tag_given all found))))) f) (x ∷ w) Opened n s);
          });
          gives = ap (λ x. leads x StartTag (λ found. Done (tag_given all found))) d;
        }

  tag-led : (close : List ℕ) (bytes : List ℕ) (tag : Tag) (e : ℕ) → ends_tag e ≡ true → (parts : TagParts bytes tag (e ∷ close)) → (m : Mode) (o : List Open) → Way P (landing (tag_given all (tag, e)), (tag_given all (tag, e)).opens) close (m, o) → Way P p bytes (m, o)
  tag-led close bytes tag e ends parts m o w =
      let u = tag-run parts.inside tag e ends parts.is in
      way-then P bytes parts.spelled u.led (way-then P (e ∷ close) refl (way-byte P e refl (end-plain e ends).0 (end-plain e ends).1 (ap (λ x. place (inside_move all x)) u.gives)) w)

-- elements and what stands in them
abbrev pub over : List Open → Place
over opens = (landing (given Ended opens (Content 0)), opens)

shut-run : (tag : Tag) (opens : List Open) → Runs (landing (given (Slash tag) opens Slashed)) opens (62 ∷ []) (over opens).0 opens
shut-run tag [] = refl
shut-run tag (o ∷ outer) = refl

abbrev pub ContentLed : Open → List Open → ℕ → List ℕ → Type 0
ContentLed o outer n bytes = (k : ℕ) × Led (Inside (Content n)) (o ∷ outer) bytes (Inside (Content k)) (o ∷ outer)

inside-led : (p : Place) (all : List Open) → Starts p all → (tag : Tag) (bytes start inside : List ℕ) → bytes ≡ start ++ inside → IsStartTag start tag → ContentLed (opened tag) all 0 inside → (k : ℕ) × Way P p bytes (Inside (Content k), opened tag ∷ all)
inside-led p all r tag bytes start inside e s (k, q) = (k, way-then P bytes e (tag-led p all r [] start tag 62 refl (parts-of (62 ∷ []) start tag s) (Inside (Content 0)) (opened tag ∷ all) (way-none P refl)) q)

mutual
  tree-led : (tree : Tree) (p : Place) (all : List Open) → Starts p all → AllWhole all → (bytes : List ℕ) → IsTree tree bytes → Way P p bytes (over all)
  tree-led (EmptyElement tag) p all r whole bytes h = tag-led p all r (62 ∷ []) bytes tag 47 refl (parts-of (47 ∷ 62 ∷ []) bytes tag h) (over all).0 all (way-text P (62 ∷ []) refl refl (shut-run tag all))
  tree-led (Full tag inner) p all r whole bytes (start, inside, closing, e, s, c, d) =
      let all-whole : AllWhole (opened tag ∷ all) = (start-name start tag s, whole) in
      let first = inside-led p all r tag (start ++ inside) start inside refl s (content-led inner (opened tag) all all-whole 0 inside (inl refl) c) in
      way-then P bytes (e ∙ sym (append_assoc start inside closing)) first.1 (piece-led (opened tag ∷ all) all-whole first.0 closing (given Ended all (Content 0)) (End-of (opened tag) all refl d refl))

  content-led : (c : Inner) (o : Open) (outer : List Open) → AllWhole (o ∷ outer) → (n : ℕ) (bytes : List ℕ) → Fits n (begins_with_text c) → IsContent c bytes → ContentLed o outer n bytes
  content-led Nothing o outer whole n bytes f h = (n, way-none P h)
  content-led (LeafThen l more) o outer whole n bytes f (front, back, e, h, g, none) =
      let a = leaf-led o outer whole n l front f h in
      let b = content-led more o outer whole a.0 back (elim a.2 [ inl t ↦ inr (sym (ap (λ x. x && begins_with_text more) t) ∙ none) | inr z ↦ inl z ]) g in
      (b.0, way-then P bytes e a.1 b.1)
  content-led (TreeThen tree more) o outer whole n bytes f (front, back, e, h, g) =
      let b = content-led more o outer whole 0 back (inl refl) g in
      (b.0, way-then P bytes e (tree-led tree (Inside (Content n), o ∷ outer) (o ∷ outer) (content-starts o outer n) whole front h) b.1)

-- up to a place where elements are open, and to a start tag there
abbrev pub OpenAt : List Tag → List ℕ → Type 0
OpenAt tags before = (p : Place) × Way P (Begin, []) before p × Starts p (map opened tags)

pub open-by : (tag : Tag) (outer : List Tag) (before : List ℕ) → Opens (tag ∷ outer) before → ((earlier : List ℕ) → Opens outer earlier → OpenAt outer earlier) → (n : ℕ) × Led Begin [] before (Inside (Content n)) (map opened (tag ∷ outer))
open-by tag outer before (earlier, start, inside, content, e, o, s, c) at =
    let a = at earlier o in
    let all = map opened outer in
    let k = inside-led a.0 all a.2 tag (start ++ inside) start inside refl s (content-led content (opened tag) all (start-name start tag s, opens-whole outer earlier o) 0 inside (inl refl) c) in
    (k.0, way-then P before e a.1 k.1)

pub open-at : (tags : List Tag) (before : List ℕ) → Opens tags before → OpenAt tags before
open-at [] before o =
    let l = prolog-led before o in
    ((mode_of l.0, []), way-as early_next P (λ e. (mode_of e, [])) (λ e f c d. ap place (early-on e f c d)) l.1, ((mode_of l.2.next, []), ap place (early-on l.0 l.2.next 60 l.2.less), λ x n. ap place (step-is l.2.next [] x ∙ ap (λ n. root_or [] n x) (l.2.named x n)))) where
      early-on : (e f : Early) (c : ℕ) → early_next e c ≡ On f → step (mode_of e) [] c ≡ To (mode_of f) [] []
      early-on e f c d = step-is e [] c ∙ ap (λ x. root_or [] x c) d
open-at (tag ∷ outer) before o = let l = open-by tag outer before o (open-at outer) in ((Inside (Content l.0), map opened (tag ∷ outer)), l.1, content-starts (opened tag) (map opened outer) l.0)

pub open-tag-run : (tags : List Tag) (before inside : List ℕ) (tag : Tag) (e : ℕ) → Opens tags before → ends_tag e ≡ true → IsTag inside tag → TagRun (Begin, []) (map opened tags) (before ++ 60 ∷ inside) tag e
open-tag-run tags before inside tag e o ends t =
    let a = open-at tags before o in
    let u = tag-run a.0 (map opened tags) a.2 inside tag e ends t in
    record { root_state = u.root_state; led = way-then P (before ++ 60 ∷ inside) refl a.1 u.led; gives = u.gives }

-- The machine reads exactly the documents.

-- A document in characters.
abbrev pub Spelling : List ℕ → Type 0
Spelling bytes = (m : Mode) × (o : List Open) × Led Begin [] bytes m o × (is_behind m ≡ true)

pub document-led : (bytes : List ℕ) (tree : Tree) → IsDocument bytes tree → Spelling bytes
document-led bytes tree d =
    let a = open-at [] d.prolog d.is_prolog in
    let e = tree-led tree a.0 [] a.2 tt d.element d.is_element in
    let m = way-as misc_step P (λ m. (Epilog m, [])) (λ m n c f. ap (λ x. place (epilog_move [] x)) f) (misc-way d.epilog d.is_epilog) in
    (Epilog Blanks, [], way-then P bytes d.spelled a.1 (way-then P (d.element ++ d.epilog) refl e m), refl)

-- A plan: a state's next character, and how many steps are left at most.
module _ {M A : Type 0} (step : M → ℕ → Next M A) (plan : M → ℕ × ℕ) (P : A → Type 0) where
  abbrev pub Near : M → Type 0
  Near m = (is_allowed (plan m).0 ≡ true) × comes (step m (plan m).0) (λ n. (plan n).1 < (plan m).1) P

comes-leads : {M A N B : Type 0} (x : Next M A) (to : M → N) (over : A → Next N B) (on : M → Type 0) (done : A → Type 0) (on' : N → Type 0) (done' : B → Type 0)
    → comes x on done → ((m : M) → on m → on' (to m)) → ((a : A) → done a → comes (over a) on' done') → comes (leads x to over) on' done'
comes-leads Stuck to over on done on' done' h f g = absurd h
comes-leads (On m) to over on done on' done' h f g = f m h
comes-leads (Done a) to over on done on' done' h f g = g a h

abbrev first_or : ℕ → List ℕ → ℕ
first_or c [] = c
first_or c (b ∷ left) = b

-- references: a number that is no character has a digit more, which makes it one
abbrev digits_left : ℕ → ℕ
digits_left value = cond (is_allowed value) 1 (cond (nat_le value 2) 3 2)

abbrev plan_reference : ReferenceState → ℕ × ℕ
plan_reference Ampersand = (108, 3)
plan_reference EntityA = (109, 3)
plan_reference (Entity left code) = (first_or 59 left, length left)
plan_reference Sharp = (52, 4)
plan_reference (Number h value) = (cond (is_allowed value) 59 52, digits_left value)

fewer : (value d : ℕ) → 4 ≤ d → (nat_le value 2 ≡ false → is_allowed d ≡ true) → digits_left d < cond (nat_le value 2) 3 2
fewer value d more ok = cases (nat_le value 2) (λ e. let big : nat_le d 2 ≡ false = grind (arith, nat_tests) in rw (e, big) (cases (is_allowed d) (λ f. rw f (omega arith)) (λ f. rw f (omega arith)))) (λ e. rw (e, ok e) (omega arith))

near-reference : (r : ReferenceState) → WellReference r → Near step_reference plan_reference Anything r
near-reference (Entity [] code) w = absurd w
near-reference (Entity (b ∷ []) code) w = ((ascii-first b [] w).1, rw (same-byte b) tt)
near-reference (Entity (b ∷ d ∷ left) code) w = ((ascii-first b (d ∷ left) w).1, rw (same-byte b) (omega arith))
near-reference (Number true value) w = cases (is_allowed value) (λ e. rw e (refl, tt)) (λ e. let fits : nat_le (with_digit true value 52) 1114111 ≡ true = grind (arith, nat_tests) in rw e (refl, rw fits (fewer value (with_digit true value 52) (omega arith) (λ f. grind (arith, nat_tests)))))
near-reference (Number false value) w = cases (is_allowed value) (λ e. rw e (refl, tt)) (λ e. let fits : nat_le (with_digit false value 52) 1114111 ≡ true = grind (arith, nat_tests) in rw e (refl, rw fits (fewer value (with_digit false value 52) (omega arith) (λ f. grind (arith, nat_tests)))))
near-reference other w = (refl, omega arith)

-- values
abbrev plan_value : ValueState → ℕ × ℕ
plan_value v = by v.reference where
  by : Option ReferenceState → ℕ × ℕ
  by None = (cond v.double 34 39, 1)
  by (Some r) = ((plan_reference r).0, 2 + (plan_reference r).1)

near-value : (v : ValueState) → WellSome v.reference → Near step_value plan_value Anything v
near-value v w = by v.double v.text v.behind_return v.reference w where
  by : (double : Bool) (text : List ℕ) (after : Bool) (r : Option ReferenceState) → WellSome r → Near step_value plan_value Anything (record { double = double; text = text; behind_return = after; reference = r })
  by true text after None w = (refl, tt)
  by false text after None w = (refl, tt)
  by double text after (Some r) w = let k = near-reference r w in let h = k.1 in (k.0, search (comes-leads, arith))

-- names, attributes and tags
abbrev plan_name : NameState → ℕ → ℕ → ℕ × ℕ
plan_name n c left = cond (is_whole n.second) (c, left) (97, 1 + left)

abbrev plan_attr : AttributeState → ℕ × ℕ
plan_attr (AttrName n) = plan_name n 61 3
plan_attr (AttrNamed q) = (61, 3)
plan_attr (Equals q) = (34, 2)
plan_attr (Value q v) = plan_value v

near-attr : (m : AttributeState) → WellAttr m → Near step_attr plan_attr Anything m
near-attr (AttrName n) w = by n.first n.second where
  by : (first : List ℕ) (second : Option (List ℕ)) → Near step_attr plan_attr Anything (AttrName (record { first = first; second = second }))
  by first None = (refl, omega arith)
  by first (Some []) = (refl, rw (encode_ascii 97 (omega arith)) (omega arith))
  by first (Some (b ∷ more)) = (refl, omega arith)
near-attr (Value q v) w = let k = near-value v w in let h = k.1 in (k.0, search comes-leads)
near-attr other w = (refl, omega arith)

-- up to the `/` of an empty element
abbrev plan_tag : StartTagState → ℕ × ℕ
plan_tag Opened = (97, 2)
plan_tag (Name n) = plan_name n 47 1
plan_tag (Attribute tag m) = ((plan_attr m).0, 2 + (plan_attr m).1)
plan_tag other = (47, 1)

abbrev Slashing : Tag × ℕ → Type 0
Slashing found = found.1 ≡ 47

near-tag : (t : StartTagState) → WellTag t → Near step_tag plan_tag Slashing t
near-tag (Name n) w = by n.first n.second where
  by : (first : List ℕ) (second : Option (List ℕ)) → Near step_tag plan_tag Slashing (Name (record { first = first; second = second }))
  by first (Some []) = (refl, rw (encode_ascii 97 (omega arith)) (omega arith))
  by first other = (refl, refl)
near-tag (Attribute tag m) w = let k = near-attr m w in let h = k.1 in (k.0, search (comes-leads, arith))
near-tag Opened w = (refl, omega arith)
near-tag other w = (refl, refl)

-- comments and sections
abbrev plan_comment : ℕ → ℕ × ℕ
plan_comment n = (cond (nat_lt n 2) 45 62, 5 - n)

near-comment : (n : ℕ) → n ≤ 3 → Near step_comment plan_comment Anything n
near-comment zero few = (refl, omega arith)
near-comment (suc zero) few = (refl, omega arith)
near-comment (suc (suc (suc (suc n)))) few = absurd (omega (arith, few))
near-comment other few = (refl, tt)

abbrev plan_section : ℕ × List ℕ → ℕ × ℕ
plan_section s = (cond (s.0 == 2) 62 93, 4 - s.0)

near-section : (n : ℕ) (text : List ℕ) → n ≤ 2 → Near sec plan_section Anything (n, text)
near-section (suc (suc (suc n))) text few = absurd (omega (arith, few))
near-section (suc (suc zero)) text few = (refl, tt)
near-section other text few = (refl, omega arith)

-- inside elements: each one that is open is closed, one more by one
abbrev plan_root : List Open → RootState → ℕ × ℕ
plan_root opens (Content n) = (60, 3 * length opens)
plan_root opens Less = (47, 3 * length opens - 1)
plan_root opens Bang = (45, 7 + 3 * length opens)
plan_root opens Dash = (45, 6 + 3 * length opens)
plan_root opens (Comment n) = ((plan_comment n).0, (plan_comment n).1 + 3 * length opens)
plan_root opens (Cdata left) = (first_or 93 left, 5 + length left + 3 * length opens)
plan_root opens (Section n text) = ((plan_section (n, text)).0, (plan_section (n, text)).1 + 3 * length opens)
plan_root opens (Reference r) = ((plan_reference r).0, 1 + (plan_reference r).1 + 3 * length opens)
plan_root opens (StartTag t) = ((plan_tag t).0, 2 + (plan_tag t).1 + 3 * length opens)
plan_root opens Slashed = (62, 1 + 3 * length opens)
plan_root opens (EndTag n) = (62, 3 * length opens - 2)

abbrev plan_misc : Misc → ℕ × ℕ
plan_misc Blanks = (60, 0)
plan_misc MiscLess = (33, 8)
plan_misc MiscBang = (45, 7)
plan_misc MiscDash = (45, 6)
plan_misc (MiscComment n) = ((plan_comment n).0, (plan_comment n).1)

abbrev plan_declaration : DeclarationState → ℕ × ℕ
plan_declaration Question = (62, 6)
plan_declaration (Gap Version) = (118, 22)
plan_declaration (Gap other) = (63, 7)
plan_declaration (BehindPart Version) = (32, 23)
plan_declaration (BehindPart other) = (63, 7)
plan_declaration (PartValue stage quote left) = (first_or quote left, 8 + length left)
plan_declaration (YesOrNo quote) = (121, 11)
plan_declaration (PartEquals stage) = (34, 14)
plan_declaration (PartName stage left) = (first_or 61 left, 15 + length left)
plan_declaration (Xml left) = (first_or 32 left, 23 + length left)

abbrev plan : Mode → List Open → ℕ × ℕ
plan First opens = (33, 13 + 3 * length opens)
plan (Declaration d) opens = ((plan_declaration d).0, (plan_declaration d).1 + 3 * length opens)
plan (Prolog MiscLess) opens = (97, 4 + 3 * length opens)
plan (Prolog m) opens = ((plan_misc m).0, (plan_misc m).1 + 5 + 3 * length opens)
plan (Inside root_state) opens = plan_root opens root_state
plan (Epilog m) opens = plan_misc m
plan other opens = (32, 6 + 3 * length opens)

-- characters that lead nearer to the end
abbrev Nearer : Mode → List Open → Type 0
Nearer mode opens = (w : List ℕ) × (m : Mode) × (o : List Open) × Allowed w × Runs mode opens w m o × ((plan m o).1 < (plan mode opens).1) × AllWhole o × WellMode m o

abbrev Leads : ℕ → Move → Type 0
Leads k Nowhere = ⊥
Leads k (To m o us) = ((plan m o).1 < k) × AllWhole o

one : (mode : Mode) (opens : List Open) → WellMode mode opens → is_allowed (plan mode opens).0 ≡ true → Leads (plan mode opens).1 (step mode opens (plan mode opens).0) → Nearer mode opens
one mode opens w ok h = by (step mode opens (plan mode opens).0) refl (well-step mode opens (plan mode opens).0 ok w) h where
  by : (v : Move) → step mode opens (plan mode opens).0 ≡ v → WellMove v → Leads (plan mode opens).1 v → Nearer mode opens
  by Nowhere e well h = absurd h
  by (To m o us) e well h = ((plan mode opens).0 ∷ [], m, o, (ok, tt), rw e refl, h.0, h.1, well h.1)

-- where a token leads
abbrev Lands : ℕ → Given → Type 0
Lands k g = ((plan (landing g) g.opens).1 < k) × AllWhole g.opens

here : (opens : List Open) (k : ℕ) (t : Token) → AllWhole opens → 3 * length opens < k → Lands k (given t opens (Content 0))
here [] k t all less = (less, tt)
here (o ∷ outer) k t all less = (less, all)

slashed : (opens : List Open) (k : ℕ) (found : Tag × ℕ) → AllWhole opens → 1 + 3 * length opens < k → found.1 ≡ 47 → Lands k (tag_given opens found)
slashed [] k found all less e = rw e (less, tt)
slashed (o ∷ outer) k found all less e = rw e (less, all)

landed-well : (opens : List Open) (t : Token) → AllWhole opens → WellMode (landing (given t opens (Content 0))) opens
landed-well [] t all = tt
landed-well (o ∷ outer) t all = (all, (tt, omega arith))

inside : (root_state : RootState) (opens : List Open) → AllWhole opens → WellRoot opens root_state → is_allowed (plan_root opens root_state).0 ≡ true → comes (step_root root_state opens (plan_root opens root_state).0) (λ t. (plan_root opens t).1 < (plan_root opens root_state).1) (Lands (plan_root opens root_state).1) → Nearer (Inside root_state) opens
inside root_state opens all w ok h = one (Inside root_state) opens (all, w) ok (by (step_root root_state opens (plan_root opens root_state).0) h) where
  by : (next : Next RootState Given) → comes next (λ t. (plan_root opens t).1 < (plan_root opens root_state).1) (Lands (plan_root opens root_state).1) → Leads (plan_root opens root_state).1 (inside_move opens next)
  by Stuck h = absurd h
  by (On t) h = (h, all)
  by (Done g) h = h

near-root_state : (root_state : RootState) (opens : List Open) → AllWhole opens → WellRoot opens root_state → Nearer (Inside root_state) opens
near-root_state (Content n) (o ∷ outer) all w = inside (Content n) (o ∷ outer) all w refl (omega arith)
near-root_state Less (o ∷ outer) all w = inside Less (o ∷ outer) all w refl (omega arith)
near-root_state (Comment n) opens all w = let k = near-comment n w.1 in let h = k.1 in inside (Comment n) opens all w k.0 (search (comes-leads, here, arith))
near-root_state (Cdata []) opens all w = inside (Cdata []) opens all w refl (omega arith)
near-root_state (Cdata (b ∷ left)) opens all w = inside (Cdata (b ∷ left)) opens all w (ascii-first b left w.1).1 (rw (same-byte b) (omega arith))
near-root_state (Section n text) opens all w = let k = near-section n text w.1 in let h = k.1 in inside (Section n text) opens all w k.0 (search (comes-leads, here, arith))
near-root_state (Reference r) opens all w = let k = near-reference r w.1 in let h = k.1 in inside (Reference r) opens all w k.0 (search (comes-leads, here, arith))
near-root_state (StartTag t) opens all w = let k = near-tag t w in let h = k.1 in inside (StartTag t) opens all w k.0 (search (comes-leads, slashed, arith))
near-root_state Slashed opens all w = inside Slashed opens all w refl (here opens (1 + 3 * length opens) Shut all (omega arith))
near-root_state (EndTag n) (o ∷ outer) all s =
    let g : Given = given Ended outer (Content 0) in
    let r = (end-reads o outer s.text n s.spelled s.allowed (bytes_of s.text ++ 62 ∷ []) g).1 (then-of (bytes_of s.text) (62 ∷ []) tt refl refl (then-of [] (62 ∷ []) tt refl no-blanks (then-says (Word (62 ∷ [])) (λ u. g) (62 ∷ []) g tt refl refl))) in
    let l = here outer (3 * length (o ∷ outer) - 2) Ended all.1 (omega arith) in
    (r.text, landing g, outer, r.allowed, takes-run r.text (EndTag n) (o ∷ outer) g r.takes, l.0, all.1, landed-well outer Ended all.1)
near-root_state (Content n) [] all w = absurd w.0
near-root_state other [] all w = absurd w
near-root_state other opens all w = inside other opens all w refl (omega arith)

-- the declaration, and what stands before the root and behind it
near-declaration : (d : DeclarationState) (opens : List Open) → AllWhole opens → WellDeclaration d → Nearer (Declaration d) opens
near-declaration (Xml (b ∷ left)) opens all w = one (Declaration (Xml (b ∷ left))) opens w (ascii-first b left w).1 (rw (same-byte b) (omega arith, all))
near-declaration (PartName stage (b ∷ left)) opens all w = one (Declaration (PartName stage (b ∷ left))) opens w (ascii-first b left w.1).1 (rw (same-byte b) (omega arith, all))
near-declaration (PartValue stage quote []) opens all w = one (Declaration (PartValue stage quote [])) opens w (grind (arith, nat_tests)) (rw (same-byte quote) (by stage)) where
  by : (stage : Stage) → ((plan_declaration (BehindPart (behind stage))).1 + 3 * length opens < 8 + 3 * length opens) × AllWhole opens
  by Version = (omega arith, all)
  by other = (omega arith, all)
near-declaration (PartValue stage quote (b ∷ left)) opens all w = one (Declaration (PartValue stage quote (b ∷ left))) opens w (ascii-first b left w.1.0).1 (rw (and-first (is_letter stage b b) (list_all (λ b. is_letter stage b b) left) w.1.1) (omega arith, all))
near-declaration (PartEquals Closing) opens all w = absurd w
near-declaration (Gap Version) opens all w = one (Declaration (Gap Version)) opens w refl (omega arith, all)
near-declaration (BehindPart Version) opens all w = one (Declaration (BehindPart Version)) opens w refl (omega arith, all)
near-declaration other opens all w = one (Declaration other) opens w refl (omega arith, all)

near : (mode : Mode) (opens : List Open) → AllWhole opens → WellMode mode opens → is_behind mode ≡ false → Nearer mode opens
near (Inside root_state) opens all w e = near-root_state root_state opens all w.1
near (Declaration d) opens all w e = near-declaration d opens all w
near (Prolog (MiscComment n)) opens all w e =
    let k = near-comment n w in one (Prolog (MiscComment n)) opens w k.0 (next-by (step_comment n (plan_comment n).0) (λ d. absurd (rw d at k.1)) (λ m d. rw d (omega (arith, rw d at k.1), all)) (λ u d. rw d (omega arith, all)))
near (Epilog (MiscComment n)) opens all w e =
    let k = near-comment n w in one (Epilog (MiscComment n)) opens w k.0 (next-by (step_comment n (plan_comment n).0) (λ d. absurd (rw d at k.1)) (λ m d. rw d (rw d at k.1, all)) (λ u d. rw d (omega arith, all)))
near (Epilog Blanks) opens all w e = absurd (cc)
near other opens all w e = one other opens w refl (omega arith, all)

abbrev pub Alive : Mode → List Open → Type 0
Alive mode opens = (w : List ℕ) × Allowed w × Ends mode opens w

alive-by : (n : ℕ) (mode : Mode) (opens : List Open) → AllWhole opens → WellMode mode opens → (plan mode opens).1 ≤ n → Alive mode opens
alive-by zero mode opens all w few = cases (is_behind mode) (λ e. ([], tt, (mode, opens, refl, e))) (λ e. absurd (omega (arith, few, (near mode opens all w e).5)))
alive-by (suc n) mode opens all w few = cases (is_behind mode) (λ e. ([], tt, (mode, opens, refl, e))) (λ e.
    let k = near mode opens all w e in
    let r = alive-by n k.1 k.2 k.6 k.7 (omega (arith, few, k.5)) in
    let t = r.2 in
    (k.0 ++ r.0, allowed-append k.0 r.0 k.3 r.1, (t.0, t.1, steps-then P k.0 r.0 (mode, opens) (k.1, k.2) (t.0, t.1) k.4 t.2, t.3)))

pub alive : (mode : Mode) (opens : List Open) → AllWhole opens → WellMode mode opens → Alive mode opens
alive mode opens all w = alive-by (plan mode opens).1 mode opens all w (omega arith)
