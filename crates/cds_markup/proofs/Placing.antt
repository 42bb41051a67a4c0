-- What is kept of every state: words are of ASCII, numbers are no more than a code point, names are whole characters.
-- Where a character leads inside a token.
use Rattle.std.proofs.Common.{codes, ◌≡◌, ◌==◌, ℕ, List, [], ◌∷◌, drop, true, cond, ◌⊎◌, inl, inr, ◌++◌, map, refl, sym, ap, subst, ◌∙◌, arith, append_assoc, ◌≤◌, Bool, false, Option, Some, None, encode_utf8, length, ◌<◌, nat_lt}
use Rattle.cds_markup.proofs.Terms.{nat_tests, Nowhere, append-nil, is_allowed, begins_name, Opened, RootState, Content, Less, Cdata, StartTag, Slashed, EndTag, Open, Tag, Blanks, Mode, Inside, Epilog, name_bytes, IsTag, IsProlog, Tree, IsDocument, comes, leads, end_name_step, step_root, Token, Started, Slash, Given, opened, Opens, Move, To, misc_step, is_behind, is_over, inside_move, step, Grammar-reference as Ref, Decides-eqb, drop-drop, ReferenceState, Entity, Number, ValueState, AttributeState, Value, StartTagState, Attribute, Bang, Dash, Comment, Section, Reference, is_quote, Next, Stuck, On, Done, step_reference, value_step, step_value, step_attr, step_tag, step_comment, step_section, given, tag_given, start_step, section_step, begins_with, Stage, Version, Closing, DeclarationState, Xml, Gap, PartName, PartEquals, PartValue, YesOrNo, BehindPart, Misc, MiscLess, MiscComment, First, Declaration, Prolog, is_letter, step_declaration, prolog_move, starts_is, list_all, is_blank, is_in_name, NameState, AttrName, Name, Tagged, Encoding, Begin, TagAttr, goes_with, is_whole, name_of, base_of, value_state, attr_of, named_or, named_step, ends_tag, tag_named, with_attr, tagged_step, Commented, Referred, declaration_move, marked_move, is_none, wide_attr, wide_tag, wide_root, wide_misc, takes_wide, is_digit, Letter}
use Rattle.cds_markup.proofs.Ways.{then-of, next-by, cases, is-byte, Takes, Steps, steps-on, steps-done, holds, holds-if, leads-any, Anything, only-if, bytes_of, Allowed, bytes-append, plain-bytes, less-bytes, allowed-append, allowed-apart, Early, AtBegin, mode_of, early_next, step-is, place, P, Runs, Ends, by-test, holds-leads, holds-named, and-second, cut, is_ascii, ascii-rest, Spell, ascii-first}
use Rattle.cds_markup.proofs.Standing.{AllWhole, Piece, Character-of, Leaf-of, Tag-of, End-of, TagCases, Standing, closed, Stands, Leads, piece-stands, shut-stands, opens-whole, tag-stands, piece-reads, start-reads, tag-form, T, misc-is, prolog-word}
use Rattle.cds_markup.proofs.ScanForms.{low-with, no-sign}

-- words of ASCII, in allowed characters
abbrev pub Ascii : List ℕ → Type 0
Ascii left = is_ascii left ≡ true

abbrev pub SomeAscii : List ℕ → Type 0
SomeAscii [] = ⊥
SomeAscii (b ∷ left) = Ascii (b ∷ left)

-- references
abbrev pub WellReference : ReferenceState → Type 0
WellReference (Entity left code) = SomeAscii left
WellReference (Number h value) = value ≤ 1114111
WellReference other = Unit {0}

pub well-reference : (r : ReferenceState) (c : ℕ) → WellReference r → holds (step_reference r c) WellReference Anything
well-reference (Entity [] code) c w = absurd w
well-reference (Entity (b ∷ d ∷ left) code) c w = search (holds-if, ascii-rest b (d ∷ left) w)
well-reference other c w = search (holds-if, nat_tests, arith) depth 9

-- values
abbrev pub WellSome : Option ReferenceState → Type 0
WellSome None = Unit {0}
WellSome (Some r) = WellReference r

abbrev pub WellValue : ValueState → Type 0
WellValue v = WellSome v.reference

pub well-value : (v : ValueState) (c : ℕ) → WellValue v → holds (step_value v c) WellValue Anything
well-value v c w = by v.double v.text v.behind_return v.reference w where
  by : (double : Bool) (text : List ℕ) (behind : Bool) (r : Option ReferenceState) → WellSome r → holds (value_step double text behind r c) WellValue Anything
  by double text behind None w = search holds-if
  by double text behind (Some r) w = let h = well-reference r c w in search holds-leads

-- attributes and tags
abbrev pub WellAttr : AttributeState → Type 0
WellAttr (Value q v) = WellValue v
WellAttr other = Unit {0}

pub well-attr : (m : AttributeState) (c : ℕ) → WellAttr m → holds (step_attr m c) WellAttr Anything
well-attr (Value q v) c w = let h = well-value v c w in search holds-leads
well-attr other c w = search (holds-named, holds-if)

abbrev pub WellTag : StartTagState → Type 0
WellTag (Attribute tag m) = WellAttr m
WellTag other = Unit {0}

pub well-tag : (t : StartTagState) (c : ℕ) → WellTag t → holds (step_tag t c) WellTag Anything
well-tag (Attribute tag m) c w = let h = well-attr m c w in search holds-leads
well-tag other c w = search (holds-named, holds-if)

-- the inside of elements
abbrev pub Some-open : List Open → Type 0
Some-open [] = ⊥
Some-open (o ∷ outer) = Unit {0}

abbrev pub WellEnd : ℕ → List Open → Type 0
WellEnd n [] = ⊥
WellEnd n (o ∷ outer) = Spell (drop n (name_bytes o.name))

abbrev pub WellRoot : List Open → RootState → Type 0
WellRoot opens (Content n) = Some-open opens × (n ≤ 2)
WellRoot opens Less = Some-open opens
WellRoot opens Bang = Some-open opens
WellRoot opens Dash = Some-open opens
WellRoot opens (Comment n) = Some-open opens × (n ≤ 3)
WellRoot opens (Cdata left) = Some-open opens × Ascii left
WellRoot opens (Section n text) = Some-open opens × (n ≤ 2)
WellRoot opens (Reference r) = Some-open opens × WellReference r
WellRoot opens (StartTag t) = WellTag t
WellRoot opens Slashed = Unit {0}
WellRoot opens (EndTag n) = WellEnd n opens

-- where a token leads: inside an element, behind one that ended, or behind a slash
abbrev pub WellAt : List Open → RootState → Type 0
WellAt [] (Content n) = Unit {0}
WellAt opens root_state = WellRoot opens root_state

abbrev pub WellGiven : Given → Type 0
WellGiven g = WellAt g.opens g.root_state

abbrev pub Few : ℕ → Type 0
Few n = n ≤ 3

pub well-comment : (n c : ℕ) → Few n → holds (step_comment n c) Few Anything
well-comment n c w = search (holds-if, nat_tests, arith)

-- What is kept of every state: the inside of elements, the declaration, and the whole.

-- tokens
at-content : (opens : List Open) (n : ℕ) → n ≤ 2 → WellAt opens (Content n)
at-content [] n h = tt
at-content (o ∷ outer) n h = (tt, h)

slashed : (os : List Open) → WellAt os Slashed
slashed [] = tt
slashed (o ∷ outer) = tt

module _ (opens : List Open) where
  well-start : (t : StartTagState) (c : ℕ) → WellTag t → holds (start_step opens t c) (WellRoot opens) WellGiven
  well-start t c w =
      let h = well-tag t c w in
      let here : (found : Tag × ℕ) → WellGiven (tag_given opens found) = λ found. by-test (λ t. WellGiven (cond t (given (Started found.0) (opened found.0 ∷ opens) (Content 0)) (given (Slash found.0) opens Slashed))) (tt, omega arith) (slashed opens) (found.1 == 62) in
      search (holds-leads, here)

  well-text : (n : ℕ) (text : List ℕ) (c : ℕ) → Some-open opens → holds (section_step n text opens c) (WellRoot opens) WellGiven
  well-text n text c o = let h : holds (step_section n text c) (λ s. s.0 ≤ 2) Anything = search (holds-if, low-with) in search (holds-leads, at-content, arith)

well-end : (o : Open) (outer : List Open) (n c : ℕ) → is_allowed c ≡ true → (left : List ℕ) → drop n (name_bytes o.name) ≡ left → Spell left → holds (end_name_step n left outer c) (WellRoot (o ∷ outer)) WellGiven
well-end o outer n c ok [] e s = let h = subst Spell (sym e) s in search (holds-if, at-content, arith)
well-end o outer n c ok (b ∷ left) e s =
    let m : ℕ = length (encode_utf8 c) in
    let goes = λ (d : begins_with (b ∷ left) (encode_utf8 c) ≡ true).
    let is = (starts_is Decides-eqb (b ∷ left) (encode_utf8 c) (begins_with (b ∷ left) (encode_utf8 c)) refl).0 d in
    let r = cut s.text (c ∷ []) (drop m (b ∷ left)) s.allowed (ok, tt) (sym s.spelled ∙ is ∙ ap (λ xs. xs ++ drop m (b ∷ left)) (sym (append-nil (encode_utf8 c)))) in
    subst Spell (sym (sym (drop-drop m n (name_bytes o.name)) ∙ ap (drop m) e ∙ r.2)) (record { text = r.0; spelled = refl; allowed = (allowed-apart (c ∷ []) r.0 (subst Allowed r.1 s.allowed)).1 })
    in
    search (holds-if, goes)

pub well-root_state : (root_state : RootState) (opens : List Open) (c : ℕ) → is_allowed c ≡ true → AllWhole opens → WellRoot opens root_state → holds (step_root root_state opens c) (WellRoot opens) WellGiven
well-root_state (Content n) opens c ok all w = search (holds-if, at-content, low-with)
well-root_state Less (o ∷ outer) c ok all w = let h = well-start (o ∷ outer) Opened c tt in search holds-if
well-root_state (Comment n) opens c ok all w = let h = well-comment n c w.1 in search (holds-leads, at-content, arith)
well-root_state (Cdata []) opens c ok all w = well-text opens 0 [] c w.0
well-root_state (Cdata (b ∷ left)) opens c ok all w = let h = ascii-rest b left w.1 in search holds-if
well-root_state (Section n text) opens c ok all w = well-text opens n text c w.0
well-root_state (Reference r) opens c ok all w = let h = well-reference r c w.1 in search (holds-leads, at-content, arith)
well-root_state (StartTag t) opens c ok all w = well-start opens t c w
well-root_state (EndTag n) (o ∷ outer) c ok all w = well-end o outer n c ok (drop n (name_bytes o.name)) refl w
well-root_state (EndTag n) [] c ok all w = absurd w
well-root_state Less [] c ok all w = absurd w
well-root_state other opens c ok all w = search (holds-if, at-content, arith)

-- the declaration
abbrev pub Real : Stage → Type 0
Real Closing = ⊥
Real other = Unit {0}

abbrev pub WellDeclaration : DeclarationState → Type 0
WellDeclaration (Xml left) = Ascii left
WellDeclaration (PartName stage left) = Real stage × Ascii left
WellDeclaration (PartEquals stage) = Real stage
WellDeclaration (PartValue stage quote left) = (is_quote quote ≡ true) × (Ascii left × (list_all (λ b. is_letter stage b b) left ≡ true))
WellDeclaration (YesOrNo quote) = is_quote quote ≡ true
WellDeclaration other = Unit {0}

pub well-declaration : (c : ℕ) (d : DeclarationState) → WellDeclaration d → holds (step_declaration d c) WellDeclaration Anything
well-declaration c (Xml (b ∷ left)) w = search (holds-if, ascii-rest b left)
well-declaration c (Gap Version) w = search holds-if
well-declaration c (PartName stage (b ∷ left)) w = search (holds-if, ascii-rest b left)
well-declaration c (PartEquals Closing) w = absurd w
well-declaration c (PartValue stage quote (b ∷ left)) w = search (holds-if, ascii-rest b left w.1.0, and-second (is_letter stage b b) (list_all (λ b. is_letter stage b b) left) w.1.1)
well-declaration c (BehindPart Version) w = search holds-if
well-declaration c other w = search holds-if

-- white space and comments
abbrev pub WellMisc : Misc → Type 0
WellMisc (MiscComment n) = Few n
WellMisc other = Unit {0}

well-misc : (m : Misc) (c : ℕ) → WellMisc m → holds (misc_step m c) WellMisc Anything
well-misc (MiscComment n) c w = let h = well-comment n c w in search holds-leads
well-misc other c w = search (holds-if, arith)

-- the whole
abbrev pub WellMode : Mode → List Open → Type 0
WellMode (Declaration d) opens = WellDeclaration d
WellMode (Prolog m) opens = WellMisc m
WellMode (Inside root_state) opens = AllWhole opens × WellRoot opens root_state
WellMode (Epilog m) opens = WellMisc m
WellMode other opens = Unit {0}

-- where a character leads, whose open elements have whole names
abbrev pub WellMove : Move → Type 0
WellMove Nowhere = Unit {0}
WellMove (To mode opens us) = AllWhole opens → WellMode mode opens

inside-well : (opens : List Open) (next : Next RootState Given) → holds next (WellRoot opens) WellGiven → WellMove (inside_move opens next)
inside-well opens Stuck h = tt
inside-well opens (On root_state) h = λ all. (all, h)
inside-well opens (Done g) h = by g.opens g.root_state h where
  by : (os : List Open) (root_state : RootState) → WellAt os root_state → AllWhole os → WellMode (cond (is_over os root_state) (Epilog Blanks) (Inside root_state)) os
  by [] (Content n) h all = tt
  by os root_state h all = (all, h)

prolog-well : (opens : List Open) (next : Next Misc (Unit {0})) (c : ℕ) → holds next WellMisc Anything → WellMove (prolog_move opens next c)
prolog-well opens Stuck c h = tt
prolog-well opens (On m) c h = λ all. h
prolog-well opens (Done u) c h = inside-well opens (start_step opens Opened c) (well-start opens Opened c tt)

move-if : (b : Bool) (x y : Move) → WellMove x → WellMove y → WellMove (cond b x y)
move-if b x y f g = by-test (λ t. WellMove (cond t x y)) f g b

-- It is kept by every step.
pub well-step : (mode : Mode) (opens : List Open) (c : ℕ) → is_allowed c ≡ true → WellMode mode opens → WellMove (step mode opens c)
well-step First opens c ok w = let h = well-misc MiscLess c tt in search (move-if, prolog-well)
well-step (Declaration d) opens c ok w = next-by (step_declaration d c) (λ e. rw e tt) (λ n e. rw e (λ all. rw e at (well-declaration c d w))) (λ u e. rw e (λ all. tt))
well-step (Prolog m) opens c ok w = prolog-well opens (misc_step m c) c (well-misc m c w)
well-step (Inside root_state) opens c ok w = inside-well opens (step_root root_state opens c) (well-root_state root_state opens c ok w.0 w.1)
well-step (Epilog m) opens c ok w = next-by (misc_step m c) (λ e. rw e tt) (λ n e. rw e (λ all. rw e at (well-misc m c w))) (λ u e. rw e tt)
well-step other opens c ok w = let h = well-misc Blanks c tt in search (move-if, prolog-well)

-- Where characters of more than one byte may stand, and where none may.

-- whether it goes on
abbrev pub moves : {M A : Type 0} → Next M A → Bool
moves Stuck = false
moves (On m) = true
moves (Done a) = true

abbrev pub is_to : Move → Bool
is_to Nowhere = false
is_to (To mode opens us) = true

abbrev pub Goes : Move → Type 0
Goes m = is_to m ≡ true

moves-leads : {M A N B : Type 0} (next : Next M A) (to : M → N) (over : A → Next N B) → ((a : A) → moves (over a) ≡ true) → moves (leads next to over) ≡ moves next
moves-leads Stuck to over f = refl
moves-leads (On m) to over f = refl
moves-leads (Done a) to over f = f a

-- modes that take such a character or not whatever it is
abbrev pub PlainMode : Mode → Type 0
PlainMode Begin = ⊥
PlainMode (Inside (EndTag n)) = ⊥
PlainMode other = Unit {0}

module _ (c : ℕ) (high : 128 ≤ c) where
  pub no-blank : is_blank c ≡ false
  no-blank = grind (arith, nat_tests)

  no-end : ends_tag c ≡ false
  no-end = grind (arith, nat_tests)

  no-quote : is_quote c ≡ false
  no-quote = grind (arith, nat_tests)

  no-digit : (h : Bool) → is_digit c (base_of h) ≡ false
  no-digit true = grind (arith, nat_tests)
  no-digit false = grind (arith, nat_tests)

  -- no byte of ASCII
  pub low-no : (k : ℕ) → nat_lt k 128 ≡ true → (c == k) ≡ false
  low-no k low = grind (arith, nat_tests)

  ruleset signs = (low-no, no-blank, no-end, no-quote)

  narrow-reference : (r : ReferenceState) → WellReference r → step_reference r c ≡ Stuck
  narrow-reference (Entity [] code) w = refl
  narrow-reference (Entity (b ∷ []) code) w = rw (no-sign c b high (ascii-first b [] w).0) refl
  narrow-reference (Entity (b ∷ d ∷ left) code) w = rw (no-sign c b high (ascii-first b (d ∷ left) w).0) refl
  narrow-reference (Number h value) w = rw (no-digit h, no-sign c 59 high (omega arith)) refl
  narrow-reference other w = simp (signs, no-digit false)

  no-letter : (stage : Stage) (b : ℕ) → b < 128 → is_letter stage b c ≡ false
  no-letter Encoding b low = grind (arith, nat_tests)
  no-letter other b low = no-sign c b high low

  pub narrow-declaration : (d : DeclarationState) → WellDeclaration d → step_declaration d c ≡ Stuck
  narrow-declaration (Xml (b ∷ left)) w = rw (no-sign c b high (ascii-first b left w).0) refl
  narrow-declaration (Gap Version) w = simp signs
  narrow-declaration (PartName stage (b ∷ left)) w = rw (no-sign c b high (ascii-first b left w.1).0) refl
  narrow-declaration (PartValue stage quote []) w = let q = w.0 in let no : (c == quote) ≡ false = grind (arith, nat_tests) in rw no refl
  narrow-declaration (PartValue stage quote (b ∷ left)) w = rw (no-letter stage b (ascii-first b left w.1.0).0) refl
  narrow-declaration (BehindPart Version) w = simp signs
  narrow-declaration other w = simp signs

  pub narrow-marked : (opens : List Open) → marked_move opens c ≡ Nowhere
  narrow-marked opens = rw (no-sign c 60 high (omega arith), no-blank) refl

  module _ (ok : is_allowed c ≡ true) where
    begins : begins_name c ≡ true
    begins = let e = ok in grind (arith, nat_tests)

    named : (first : List ℕ) (second : Option (List ℕ)) (A M : Type 0) (to : NameState → M) (whole : Bool) (behind : Next M A) → moves (named_or (goes_with first second c) to whole behind) ≡ true
    named first (Some []) A M to whole behind = rw begins refl
    named first other A M to whole behind = let e = begins in let within : is_in_name c ≡ true = rw e refl in rw within refl

    value-wide : (double : Bool) (text : List ℕ) (behind : Bool) (r : Option ReferenceState) → WellSome r → moves (value_step double text behind r c) ≡ is_none r
    value-wide double text behind (Some r) w = ap (λ n. moves {M = ValueState} {A = List ℕ} (leads n (λ s. value_state double text behind (Some s)) (λ code. On (value_state double (text ++ encode_utf8 code) false None)))) (narrow-reference r w)
    value-wide true text behind None w = simp signs
    value-wide false text behind None w = simp signs

    attr-wide : (m : AttributeState) → WellAttr m → moves (step_attr m c) ≡ wide_attr m
    attr-wide (AttrName n) w = named n.first n.second TagAttr AttributeState AttrName (is_whole n.second) (named_step (name_of n) c)
    attr-wide (Value q v) w = moves-leads (step_value v c) (Value q) (λ text. Done (attr_of q text)) (λ a. refl) ∙ value-wide v.double v.text v.behind_return v.reference w
    attr-wide other w = simp signs

    tag-wide : (t : StartTagState) → WellTag t → moves (step_tag t c) ≡ wide_tag t
    tag-wide Opened w = rw begins refl
    tag-wide (Tagged tag) w = simp signs
    tag-wide (Name n) w = named n.first n.second (Tag × ℕ) StartTagState Name (is_whole n.second) (tagged_step (tag_named (name_of n)) c)
    tag-wide (Attribute tag m) w = moves-leads (step_attr m c) (Attribute tag) (λ a. On (Tagged (with_attr tag a))) (λ a. refl) ∙ attr-wide m w
    tag-wide other w = rw (no-blank, no-end, begins) refl

    start-wide : (opens : List Open) (t : StartTagState) → WellTag t → moves (start_step opens t c) ≡ wide_tag t
    start-wide opens t w = moves-leads (step_tag t c) StartTag (λ found. Done (tag_given opens found)) (λ a. refl) ∙ tag-wide t w

    comment-wide : (n : ℕ) → moves (step_comment n c) ≡ nat_lt n 2
    comment-wide n = cases (nat_lt n 2) (λ e. rw e refl) (λ e. simp (e, signs))

    root_state-wide : (root_state : RootState) (opens : List Open) → WellRoot opens root_state → PlainMode (Inside root_state) → moves (step_root root_state opens c) ≡ wide_root root_state
    root_state-wide Less opens w p = rw (no-sign c 47 high (omega arith), no-sign c 33 high (omega arith)) (start-wide opens Opened tt)
    root_state-wide (Comment n) opens w p = moves-leads (step_comment n c) Comment (λ over. Done (given Commented opens (Content 0))) (λ a. refl) ∙ comment-wide n
    root_state-wide (Cdata (b ∷ left)) opens w p = rw (no-sign c b high (ascii-first b left w.1).0) (grind (arith, nat_tests))
    root_state-wide (Reference r) opens w p = ap (λ x. moves (leads x Reference (λ code. Done (given (Referred code) opens (Content 0))))) (narrow-reference r w.1)
    root_state-wide (StartTag t) opens w p = start-wide opens t w
    root_state-wide (EndTag n) opens w p = absurd p
    root_state-wide other opens w p = simp signs

    misc-wide : (m : Misc) → moves (misc_step m c) ≡ wide_misc true m
    misc-wide (MiscComment n) = moves-leads (step_comment n c) MiscComment (λ over. On Blanks) (λ a. refl) ∙ comment-wide n
    misc-wide other = simp signs

    inside-goes : (opens : List Open) (next : Next RootState Given) → is_to (inside_move opens next) ≡ moves next
    inside-goes opens Stuck = refl
    inside-goes opens other = refl

    prolog-goes : (opens : List Open) (next : Next Misc (Unit {0})) → is_to (prolog_move opens next c) ≡ moves next
    prolog-goes opens (Done u) = inside-goes opens (start_step opens Opened c) ∙ start-wide opens Opened tt
    prolog-goes opens other = refl

    -- Where a character of more than one byte goes on; a byte order mark and an end tag's name are for themselves.
    pub wide : (mode : Mode) (opens : List Open) → WellMode mode opens → PlainMode mode → is_to (step mode opens c) ≡ takes_wide mode
    wide Begin opens w p = absurd p
    wide First opens w p = rw (no-sign c 63 high (omega arith)) (prolog-goes opens (misc_step MiscLess c) ∙ misc-wide MiscLess)
    wide (Declaration d) opens w p = ap (λ n. is_to (declaration_move opens n)) (narrow-declaration d w)
    wide (Prolog m) opens w p = prolog-goes opens (misc_step m c) ∙ misc-wide m
    wide (Inside root_state) opens w p = inside-goes opens (step_root root_state opens c) ∙ root_state-wide root_state opens w.1 p
    wide (Epilog (MiscComment n)) opens w p = cases (nat_lt n 2) (λ e. rw e refl) (λ e. simp (e, signs))
    wide (Epilog m) opens w p = simp signs
    wide other opens w p = ap is_to (narrow-marked opens)

-- no letter but of content
abbrev pub Quiet : Token → Type 0
Quiet (Letter c) = ⊥
Quiet other = Unit {0}

abbrev pub QuietGiven : Given → Type 0
QuietGiven = λ g. Quiet g.token

abbrev pub Spoken : RootState → Given → Type 0
Spoken (Content n) = λ g. Unit {0}
Spoken other = λ g. Quiet g.token

pub tag-quiet : (opens : List Open) (found : Tag × ℕ) → QuietGiven (tag_given opens found)
tag-quiet opens found = by-test (λ x. QuietGiven (cond x (given (Started found.0) (opened found.0 ∷ opens) (Content 0)) (given (Slash found.0) opens Slashed))) tt tt (found.1 == 62)

-- to a `<` only from between tags
abbrev pub Between : RootState → Type 0
Between (Content n) = Unit {0}
Between other = ⊥

abbrev pub Mid : RootState → ℕ → RootState → Type 0
Mid root_state c (Content n) = ⊥
Mid root_state c Less = (c ≡ 60) × Between root_state
Mid root_state c other = Unit {0}

-- one character of a token
pub root_state-mid : (root_state : RootState) (opens : List Open) (c : ℕ) → holds (step_root root_state opens c) (Mid root_state c) (Spoken root_state)
root_state-mid Less [] c = search (holds-if, leads-any, tag-quiet)
root_state-mid (Cdata []) opens c = search leads-any
root_state-mid (EndTag n) [] c = tt
root_state-mid (EndTag n) (o ∷ outer) c = by (drop n (name_bytes o.name)) where
  by : (left : List ℕ) → holds (end_name_step n left outer c) (Mid (EndTag n) c) (Spoken (EndTag n))
  by [] = search holds-if
  by (b ∷ left) = search holds-if
root_state-mid other opens c = search (holds-if, leads-any, is-byte, tag-quiet)

-- Which words of the grammar stand before a state inside the root, and where a token leads.

-- the tag of a token
abbrev pub OfTag : Token → Tag → Type 0
OfTag (Started t) tag = t ≡ tag
OfTag (Slash t) tag = t ≡ tag
OfTag other tag = ⊥

-- where it stands
pub record TagWords (opens : List Open) (all : List ℕ) (tag : Tag) : Type 0 where
  pub tags : List Tag
  pub before : List ℕ
  pub inside : List ℕ
  pub end : ℕ
  pub are : opens ≡ map opened tags
  pub spelled : all ≡ (before ++ 60 ∷ inside) ++ end ∷ []
  pub opens_are : Opens tags before
  pub is_tag : IsTag inside tag
  pub ends : (end ≡ 47) ⊎ (end ≡ 62)

cases-words : (tags : List Tag) (before bytes : List ℕ) (g : Given) (tag : Tag) → Opens tags before → TagCases (map opened tags) bytes g → OfTag g.token tag → TagWords (map opened tags) (before ++ bytes) tag
cases-words tags before bytes g tag o (u, e, ends, p, d) k = let same = subst (λ x. OfTag x.token tag) d k in record {
  tags = tags;
  before = before;
  inside = p.inside;
  end = e;
  are = refl;
  spelled = ap (λ xs. before ++ xs) p.spelled ∙ sym (append_assoc before (60 ∷ p.inside) (e ∷ []));
  opens_are = o;
  is_tag = subst (IsTag p.inside) (cases (e == 62) (λ f. rw f at same) (λ f. rw f at same)) p.is;
  ends = cases (e == 62) (λ f. inr (is-byte e 62 f)) (λ f. inl (grind (arith, nat_tests)));
}

piece-tags : (n : ℕ) (opens : List Open) (bytes : List ℕ) (g : Given) → Piece n opens bytes g → (tag : Tag) → OfTag g.token tag → TagCases opens bytes g
piece-tags n opens bytes g (Tag-of t) tag o = t
piece-tags n opens bytes g (Character-of c h d) tag o = absurd (subst (λ x. OfTag x.token tag) d o)
piece-tags n opens bytes g (Leaf-of (Ref c) h isn d) tag o = absurd (subst (λ x. OfTag x.token tag) d o)
piece-tags n opens bytes g (Leaf-of other h isn d) tag o = absurd (subst (λ x. OfTag x.token tag) d o)
piece-tags n opens bytes g (End-of x os f h d) tag o = absurd (subst (λ x. OfTag x.token tag) d o)

-- Where a token begins: behind other tokens, or behind the `<` of the root.
abbrev pub Start : RootState → List Tag → List ℕ → Type 0
Start (Content n) (tag ∷ outer) before = Standing tag outer n (bytes_of before)
Start Slashed tags before = Stands tags Slashed (bytes_of before)
Start (StartTag Opened) [] before = (p : List ℕ) × (before ≡ p ++ 60 ∷ []) × IsProlog (bytes_of p) tt
Start other tags before = ⊥

-- Inside the root, or in its start tag.
pub record Placed (tags : List Tag) (root_state : RootState) (text : List ℕ) : Type 0 where
  pub start : RootState
  pub before : List ℕ
  pub since : List ℕ
  pub spelled : text ≡ before ++ since
  pub starts : Start start tags before
  pub behind : Steps (T (map opened tags)) start since root_state

-- where a token ends
pub ends-of : (start : RootState) (tags : List Tag) (before w : List ℕ) (g : Given) → Start start tags before → Allowed w → Takes (T (map opened tags)) start w g → Leads g (bytes_of (before ++ w)) × ((tag : Tag) → OfTag g.token tag → TagWords (map opened tags) (bytes_of (before ++ w)) tag)
ends-of (Content n) (tag ∷ outer) before w g s ok t =
    let opens : List Open = map opened (tag ∷ outer) in
    let piece = (piece-reads n opens (opens-whole (tag ∷ outer) s.front s.within) (bytes_of w) g).0 (record { text = w; spelled = refl; allowed = ok; takes = t }) in
    rw (bytes-append before w) (piece-stands tag outer n (bytes_of before) (bytes_of w) g s piece, λ u o. cases-words (tag ∷ outer) (bytes_of before) (bytes_of w) g u (closed tag outer n (bytes_of before) s) (piece-tags n opens (bytes_of w) g piece u o) o)
ends-of Slashed tags before [] g s ok t = absurd t
ends-of Slashed tags before (c ∷ w) g s ok t =
    let h = only-if (c == 62) _ _ _ t in
    let bytes : bytes_of (c ∷ w) ≡ 62 ∷ [] = ap (λ x. bytes_of (x ∷ w)) (is-byte c 62 h.0) ∙ ap (λ xs. bytes_of (62 ∷ xs)) h.1.1 ∙ plain-bytes (62 ∷ []) (omega arith, tt) in
    rw (bytes-append before (c ∷ w), bytes) (subst (λ x. Leads x (bytes_of before ++ 62 ∷ [])) h.1.0 (tags, refl, shut-stands tags (bytes_of before) s), λ u o. absurd (subst (λ x. OfTag x.token u) (sym h.1.0) o))
ends-of (StartTag Opened) [] before w g (p, d, i) ok t =
    let whole : bytes_of (before ++ w) ≡ bytes_of p ++ 60 ∷ bytes_of w = ap bytes_of (ap (λ xs. xs ++ w) d ∙ append_assoc p (60 ∷ []) w) ∙ bytes-append p (60 ∷ w) ∙ ap (λ xs. bytes_of p ++ xs) (less-bytes w) in
    let are = (tag-form [] (60 ∷ bytes_of w) g).0 (then-of (codes "<") (bytes_of w) tt refl refl ((start-reads [] (bytes_of w) g).0 (record { text = w; spelled = refl; allowed = ok; takes = t }))) in
    rw whole (tag-stands [] (bytes_of p) (60 ∷ bytes_of w) g i are, λ u o. cases-words [] (bytes_of p) (60 ∷ bytes_of w) g u i are o)
ends-of other tags before w g s ok t = absurd s

-- where a `<` stands before a place inside elements
pub record LessWords (opens : List Open) (front : List ℕ) : Type 0 where
  pub tags : List Tag
  pub before : List ℕ
  pub are : opens ≡ map opened tags
  pub spelled : front ≡ before ++ 60 ∷ []
  pub opens_are : Opens tags before

less-since : (opens : List Open) (w : List ℕ) (t : RootState) → Steps (λ t c. step_root t opens c) t w Less → ((t ≡ Less) × (w ≡ [])) ⊎ (Between t × (w ≡ 60 ∷ []))
less-since opens [] t s = inl (s, refl)
less-since opens (c ∷ w) t s = next-by (step_root t opens c) (λ e. absurd (rw e at s)) (λ l e. on l (rw e at (root_state-mid t opens c)) (less-since opens w l (rw e at s))) (λ g e. absurd (rw e at s)) where
  on : (l : RootState) → Mid t c l → ((l ≡ Less) × (w ≡ [])) ⊎ (Between l × (w ≡ 60 ∷ [])) → ((t ≡ Less) × (c ∷ w ≡ [])) ⊎ (Between t × (c ∷ w ≡ 60 ∷ []))
  on l m (inl (e, d)) = let n = subst (Mid t c) e m in inr (n.1, ap (λ x. x ∷ w) n.0 ∙ ap (λ xs. 60 ∷ xs) d)
  on (Content n) m (inr x) = absurd m
  on other m (inr x) = absurd x.0

-- what is open where content is
content-since : (opens : List Open) (w : List ℕ) (t : RootState) (n : ℕ) → Steps (λ t c. step_root t opens c) t w (Content n) → (t ≡ Content n) × (w ≡ [])
content-since opens [] t n s = (s, refl)
content-since opens (c ∷ w) t n s =
    next-by (step_root t opens c) (λ e. absurd (rw e at s)) (λ l e. absurd (subst (Mid t c) (content-since opens w l n (rw e at s)).0 (rw e at (root_state-mid t opens c)))) (λ g e. absurd (rw e at s))

-- Which words of the grammar stand before a state; at the end of what comes they are a document.

-- behind the root
abbrev pub InMode : Mode → List Open → List ℕ → Type 0
InMode (Inside root_state) opens text = (tags : List Tag) × (opens ≡ map opened tags) × Placed tags root_state text
InMode (Epilog m) opens text = (opens ≡ []) × ((before since : List ℕ) × (text ≡ before ++ since) × Stands [] (Content 0) (bytes_of before) × Steps misc_step Blanks since m)
InMode mode opens text = (opens ≡ []) × (e : Early) × (mode ≡ mode_of e) × Steps early_next AtBegin text e

pub less-words : (opens : List Open) (text : List ℕ) → InMode (Inside Less) opens text → LessWords opens (bytes_of text)
less-words opens text (tags, e, p) = subst (λ os. LessWords os (bytes_of text)) (sym e) (by tags p.start p.starts (less-since (map opened tags) p.since p.start p.behind)) where
  by : (tags : List Tag) (start : RootState) → Start start tags p.before → ((start ≡ Less) × (p.since ≡ [])) ⊎ (Between start × (p.since ≡ 60 ∷ [])) → LessWords (map opened tags) (bytes_of text)
  by tags start s (inl (d, f)) = absurd (subst (λ x. Start x tags p.before) d s)
  by (tag ∷ outer) (Content n) s (inr (b, f)) = record {
    tags = tag ∷ outer;
    before = bytes_of p.before;
    are = refl;
    spelled = ap bytes_of (p.spelled ∙ ap (λ xs. p.before ++ xs) f) ∙ bytes-append p.before (60 ∷ []) ∙ ap (λ xs. bytes_of p.before ++ xs) (plain-bytes (60 ∷ []) (omega arith, tt));
    opens_are = closed tag outer n (bytes_of p.before) s;
  }
  by [] (Content n) s (inr x) = absurd s
  by tags other s (inr x) = absurd x.0

pub content-stands : (opens : List Open) (text : List ℕ) (n : ℕ) → InMode (Inside (Content n)) opens text → (tag : Tag) × (outer : List Tag) × Standing tag outer n (bytes_of text)
content-stands opens text n (tags, e, p) = by tags (subst (λ x. Start x tags p.before) at.0 p.starts) where
  at : (p.start ≡ Content n) × (p.since ≡ [])
  at = content-since (map opened tags) p.since p.start n p.behind

  by : (tags : List Tag) → Start (Content n) tags p.before → (tag : Tag) × (outer : List Tag) × Standing tag outer n (bytes_of text)
  by [] s = absurd s
  by (tag ∷ outer) s = (tag, outer, subst (λ xs. Standing tag outer n (bytes_of xs)) (sym (p.spelled ∙ ap (λ xs. p.before ++ xs) at.1 ∙ append-nil p.before)) s)

-- the names of what is open
start-whole : (start : RootState) (tags : List Tag) (before : List ℕ) → Start start tags before → AllWhole (map opened tags)
start-whole (Content n) (tag ∷ outer) before s = opens-whole (tag ∷ outer) s.front s.within
start-whole Slashed tags before (other, earlier, slash, e, o, t) = opens-whole tags earlier o
start-whole (StartTag Opened) [] before s = tt
start-whole other tags before s = absurd s

pub in-whole : (mode : Mode) (opens : List Open) (text : List ℕ) → InMode mode opens text → AllWhole opens
in-whole (Inside root_state) opens text (tags, e, p) = subst AllWhole (sym e) (start-whole p.start tags p.before p.starts)
in-whole mode opens text i = subst AllWhole (sym i.0) tt

-- and where a character leads, with the words of the tag that it ends and what stands behind a token
abbrev pub TagsOf : List Open → List Token → List ℕ → Type 0
TagsOf opens [] bytes = Unit {0}
TagsOf opens (t ∷ us) bytes = ((tag : Tag) → OfTag t tag → TagWords opens bytes tag) × (g : Given) × Leads g bytes

abbrev pub InMove : List Open → Move → List ℕ → Type 0
InMove opens Nowhere text = Unit {0}
InMove opens (To mode os us) text = InMode mode os text × TagsOf opens us (bytes_of text)

begun : (tags : List Tag) (start : RootState) (text : List ℕ) → Start start tags text → InMode (Inside start) (map opened tags) text
begun tags start text s = (tags, refl, record { start = start; before = text; since = []; spelled = sym (append-nil text); starts = s; behind = refl })

lands : (tags : List Tag) (root_state : RootState) (text : List ℕ) → Stands tags root_state (bytes_of text) → InMode (cond (is_over (map opened tags) root_state) (Epilog Blanks) (Inside root_state)) (map opened tags) text
lands [] (Content n) text s = (refl, (text, [], sym (append-nil text), s, refl))
lands (tag ∷ outer) (Content n) text s = begun (tag ∷ outer) (Content n) text s
lands [] Slashed text s = begun [] Slashed text s
lands (tag ∷ outer) Slashed text s = begun (tag ∷ outer) Slashed text s
lands tags root_state text s = absurd s

inside-in : (root_state : RootState) (opens : List Open) (text : List ℕ) (c : ℕ) → InMode (Inside root_state) opens text → Allowed (text ++ c ∷ []) → InMove opens (inside_move opens (step_root root_state opens c)) (text ++ c ∷ [])
inside-in root_state opens text c (tags, o, p) ok =
    let step = T (map opened tags) in
    let whole : text ++ c ∷ [] ≡ p.before ++ (p.since ++ c ∷ []) = ap (λ xs. xs ++ c ∷ []) p.spelled ∙ append_assoc p.before p.since (c ∷ []) in
    subst (λ os. InMove os (inside_move os (step_root root_state os c)) (text ++ c ∷ [])) (sym o)
    (next-by (step root_state c) (λ e. rw e tt)
    (λ other e. rw e ((tags, refl, record { start = p.start; before = p.before; since = p.since ++ c ∷ []; spelled = whole; starts = p.starts; behind = steps-on step p.since p.start root_state other c p.behind e }), tt))
    (λ g e.
    let a = ends-of p.start tags p.before (p.since ++ c ∷ []) g p.starts (allowed-apart p.before (p.since ++ c ∷ []) (subst Allowed whole ok)).1 (steps-done step p.since p.start root_state c g p.behind e) in
    let leads = subst (λ xs. Leads g (bytes_of xs)) (sym whole) a.0 in
    rw e (subst (λ os. InMode (cond (is_over os g.root_state) (Epilog Blanks) (Inside g.root_state)) os (text ++ c ∷ [])) (sym leads.1) (lands leads.0 g.root_state (text ++ c ∷ []) leads.2), (λ tag o. subst (λ xs. TagWords (map opened tags) (bytes_of xs) tag) (sym whole) (a.1 tag o), g, leads))))

early-mode : (e : Early) (text : List ℕ) → Steps early_next AtBegin text e → InMode (mode_of e) [] text
early-mode AtBegin text s = (refl, AtBegin, refl, s)
early-mode other text s = (refl, other, refl, s)

early-in : (e : Early) (text : List ℕ) (c : ℕ) → Steps early_next AtBegin text e → Allowed text → is_allowed c ≡ true → InMove [] (step (mode_of e) [] c) (text ++ c ∷ [])
early-in e text c s ok a =
    subst (λ v. InMove [] v (text ++ c ∷ [])) (sym (step-is e [] c))
    (next-by (early_next e c) (λ d. rw d tt) (λ f d. rw d (early-mode f (text ++ c ∷ []) (steps-on early_next text AtBegin e f c s d), tt))
    (λ u d. rw d (cases (begins_name c) (λ b. inside-in (StartTag Opened) [] text c (begun [] (StartTag Opened) text (prolog-word c b text e ok s d)) (allowed-append text (c ∷ []) ok (a, tt))) (λ b. rw b tt))))

pub step-in : (mode : Mode) (opens : List Open) (text : List ℕ) (c : ℕ) → Allowed text → is_allowed c ≡ true → InMode mode opens text → InMove opens (step mode opens c) (text ++ c ∷ [])
step-in (Inside root_state) opens text c ok a p = inside-in root_state opens text c p (allowed-append text (c ∷ []) ok (a, tt))
step-in (Epilog m) opens text c ok a i =
    let p = i.1 in
    next-by (misc_step m c) (λ e. rw e tt) (λ n e. rw e ((i.0, (p.0, p.1 ++ c ∷ [], ap (λ xs. xs ++ c ∷ []) p.2 ∙ append_assoc p.0 p.1 (c ∷ []), p.3, steps-on misc_step p.1 Blanks m n c p.4 e)), tt)) (λ u e. rw e tt)
step-in mode opens text c ok a (o, e, d, s) = subst (λ os. InMove os (step mode os c) (text ++ c ∷ [])) (sym o) (subst (λ x. InMove [] (step x [] c) (text ++ c ∷ [])) (sym d) (early-in e text c s ok a))

-- What is read to its end is a document.
abbrev pub Document : List ℕ → Type 0
Document text = (root : Tree) × IsDocument (bytes_of text) root

ends : (mode : Mode) (opens : List Open) (text : List ℕ) → Allowed text → InMode mode opens text → is_behind mode ≡ true → Document text
ends (Epilog Blanks) opens text ok (none, (before, since, spelled, (tree, prolog, element, d, is, t), steps)) h = (
  tree,
  record {
    prolog = prolog;
    element = element;
    epilog = bytes_of since;
    spelled = ap bytes_of spelled ∙ bytes-append before since ∙ ap (λ xs. xs ++ bytes_of since) d ∙ append_assoc prolog element (bytes_of since);
    is_prolog = is;
    is_element = t;
    is_epilog = misc-is since (allowed-apart before since (subst Allowed spelled ok)).1 steps;
  },
)
ends mode opens text ok p h = absurd (cc)

pub document-is : (w text : List ℕ) (mode : Mode) (opens : List Open) → Allowed text → Allowed w → InMode mode opens text → Ends mode opens w → Document (text ++ w)
document-is [] text mode opens ok all i (m, o, r, h) = subst Document (sym (append-nil text)) (ends mode opens text ok i (ap (λ p. is_behind p.0) r ∙ h))
document-is (c ∷ w) text mode opens ok all i (m, o, r, h) =
    subst Document (append_assoc text (c ∷ []) w)
    (by (step mode opens c) (λ n p j k. document-is w (text ++ c ∷ []) n p (allowed-append text (c ∷ []) ok (all.0, tt)) all.1 j (m, o, k, h)) (step-in mode opens text c ok all.0 i) r) where
      by : (v : Move) → ((n : Mode) (p : List Open) → InMode n p (text ++ c ∷ []) → Runs n p w m o → Document ((text ++ c ∷ []) ++ w)) → InMove opens v (text ++ c ∷ []) → comes (place v) (λ p. Steps P p w (m, o)) (λ u. ⊥) → Document ((text ++ c ∷ []) ++ w)
      by Nowhere again j k = absurd k
      by (To n p us) again j k = again n p j.0 k
