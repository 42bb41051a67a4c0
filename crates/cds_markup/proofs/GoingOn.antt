-- Byte by byte: what is read can go on, and a byte that is refused cannot stand there.
-- What is judged at a byte is a cause there, or there is none.
use Rattle.std.proofs.Common.{◌≡◌, ◌==◌, ℕ, ◌≤◌, Bool, true, false, cond, ◌⊎◌, inl, inr, Ok, Err, List, [], ◌∷◌, ◌++◌, drop, length, refl, sym, ap, subst, ◌∙◌, arith, append_assoc, encode_utf8, Option, Some, None, Result, ◌+◌, map, ◌<◌, nat_lt, ◌&&◌, take}
use Rattle.cds_markup.proofs.Terms.{Decides-eqb, Nowhere, Gone, append-nil, length-append, starts_is, encode_ascii, is_allowed, EndTag, Mode, Begin, Inside, Open, name_bytes, byte_order_mark, Tree, IsDocument, Step, any_at, Token, begins_with, end_name_step, Move, To, inside_move, step, comes, Reading, reading, takes_wide, may_begin, moved, go_on, byte_step, is_behind, may_end, CanGoOn, is_empty, nat_tests, take-append_seam, begins_name, Attr, Tag, NamespaceRule, Deep, Broken, Content, Less, MachineError, tag_says, declarations, scopes_of, BreaksRule, GoOnOrBreak, Opens, IsTooDeep, Refuses, BreaksAt, EndsShort, Started, Slash, opened, Given, tag_given, scopes_in, is_missing, breaks_rule, may_begin_name, begins_tag, is_deep, judge, nothing_read, Character, most_open, Done, ends_tag, OutOfMemory, append_cancel_left, length-map, steps-then, and-both, heads, empty-is, clash, cases, ok-err}
use Rattle.cds_markup.proofs.Ways.{Steps, steps-on, is-byte, none-behind, and-first, and-second, no-cons, some-is, mark-bytes, bytes_of, Allowed, bytes-append, allowed-append, allowed-apart, same-first, cut, Spell, AtBegin, Place, place, P, Runs, Ends, steps-behind, plain-bytes, landing}
use Rattle.cds_markup.proofs.Decoded.{found, decodes, stuck, viable, allowed-at-most, ranges, lead-begins, encode-two, encode-three, encode-four, at-most-or-more}
use Rattle.cds_markup.proofs.ScanForms.{small-or-wide, no-sign}
use Rattle.cds_markup.proofs.Placing.{WellMode, WellMove, well-step, is_to, Goes, PlainMode, narrow-marked, no-blank, wide, InMode, TagsOf, InMove, in-whole, step-in, document-is, TagWords, less-words}
use Rattle.cds_markup.proofs.Alive.{Spelling, document-led, alive, open-tag-run, open-by, open-at}
use Rattle.cds_markup.specs.declared.name.Name.{Name as FullName}
use Rattle.cds_markup.proofs.Standing.{last-same}

-- The first bytes of a character and no more.
abbrev pub Unfinished : List ℕ → Type 0
Unfinished bytes = any_at bytes ≡ Err []

-- What is read: whole characters, which lead to a state, and the first bytes of one more, which may begin one there.
pub record Reached (front : List ℕ) (r : Reading) : Type 0 where
  pub text : List ℕ
  pub spelled : front ≡ bytes_of text ++ r.begun
  pub allowed : Allowed text
  pub well : WellMode r.mode r.opens
  pub ran : Runs Begin [] text r.mode r.opens
  pub words : InMode r.mode r.opens text
  pub unfinished : Unfinished r.begun
  pub begins : (b : ℕ) (bs : List ℕ) → r.begun ≡ b ∷ bs → may_begin r.mode r.opens r.begun ≡ true

pub any-nothing : Unfinished []
unfolding any_at
any-nothing = refl

pub reached-nothing : Reached [] (reading [] Begin [])
reached-nothing = record {
  text = [];
  spelled = refl;
  allowed = tt;
  well = tt;
  ran = refl;
  words = (refl, AtBegin, refl, refl);
  unfinished = any-nothing;
  begins = λ b bs e. absurd (cc);
}

-- lists
pub longer : (a x b y : List ℕ) → a ++ x ≡ b ++ y → ((z : List ℕ) × (a ≡ b ++ z)) ⊎ ((t : ℕ) × (tail : List ℕ) × (b ≡ a ++ t ∷ tail))
longer a x [] y e = inl (a, refl)
longer [] x (d ∷ b) y e = inr (d, b, refl)
longer (c ∷ a) x (d ∷ b) y e =
    let s = heads c d (a ++ x) (b ++ y) e in
    elim (longer a x b y s.1) [
      | inl h ↦ inl (h.0, ap (λ h. h ∷ a) s.0 ∙ ap (λ t. d ∷ t) h.1)
      | inr h ↦ inr (h.0, h.1, ap (λ h. h ∷ b) (sym s.0) ∙ ap (λ u. c ∷ u) h.2)
    ]

-- one more byte
pub no-both : {X : Type 0} (bytes : List ℕ) (c : ℕ) (left rest : List ℕ) → any_at bytes ≡ Ok (c, left) → any_at bytes ≡ Err rest → X
no-both bytes c left rest e f = ok-err (sym e ∙ f)

pub done : (begun : List ℕ) (b c : ℕ) (left : List ℕ) → Unfinished begun → any_at (begun ++ b ∷ []) ≡ Ok (c, left) → (begun ++ b ∷ [] ≡ encode_utf8 c) × (is_allowed c ≡ true)
done begun b c left u e = let f = found (begun ++ b ∷ []) c left e in by left f.0 f.1 where
  by : (left : List ℕ) → begun ++ b ∷ [] ≡ encode_utf8 c ++ left → is_allowed c ≡ true → (begun ++ b ∷ [] ≡ encode_utf8 c) × (is_allowed c ≡ true)
  by [] e ok = (e ∙ append-nil (encode_utf8 c), ok)
  by (x ∷ y) e ok = elim (longer begun (b ∷ []) (encode_utf8 c) (x ∷ y) e) [
    | inl h ↦ no-both begun c h.0 [] (ap any_at h.1 ∙ decodes c h.0 ok) u
    | inr h ↦ absurd (omega (arith, ap length e ∙ length-append (encode_utf8 c) (x ∷ y), ap length h.2 ∙ length-append begun (h.0 ∷ h.1), length-append begun (b ∷ [])))
  ]

-- characters of more than one byte
pub two-bytes : (c b t : ℕ) (bs tail : List ℕ) → encode_utf8 c ≡ (b ∷ bs) ++ t ∷ tail → 128 ≤ c
two-bytes c b t bs tail e = elim (small-or-wide c) [ inl low ↦ none-behind bs t tail (heads c b [] (bs ++ t ∷ tail) (sym (encode_ascii c low) ∙ e)).1 | inr high ↦ high ]

pub two-or-more : (c : ℕ) (begun : List ℕ) (b t : ℕ) (tail : List ℕ) → encode_utf8 c ≡ (begun ++ b ∷ []) ++ t ∷ tail → 128 ≤ c
two-or-more c [] b t tail e = two-bytes c b t [] tail e
two-or-more c (x ∷ xs) b t tail e = two-bytes c x t (xs ++ b ∷ []) tail e

-- what may begin, from a character that goes on there
pub stops-not : {X : Type 0} (m : Move) → m ≡ Nowhere → Goes m → X
stops-not m e g = clash g (ap is_to e)

pub prefix-begins : (left bytes more : List ℕ) → left ≡ bytes ++ more → begins_with left bytes ≡ true
prefix-begins left bytes more e = (starts_is Decides-eqb left bytes (begins_with left bytes) refl).1 more e

pub begins-prefix : (left bytes : List ℕ) → begins_with left bytes ≡ true → (more : List ℕ) × (left ≡ bytes ++ more)
begins-prefix left bytes e = (drop (length bytes) left, (starts_is Decides-eqb left bytes (begins_with left bytes) refl).0 e)

end-complete : (o : Open) (outer : List Open) (n c : ℕ) (bytes more : List ℕ) → 128 ≤ c → encode_utf8 c ≡ bytes ++ more → (left : List ℕ) → Goes (inside_move (o ∷ outer) (end_name_step n left outer c)) → begins_with left bytes ≡ true
end-complete o outer n c bytes more high e [] g =
    stops-not (inside_move (o ∷ outer) (end_name_step n [] outer c)) (rw (no-blank c high, no-sign c 62 high (omega arith)) refl) g
end-complete o outer n c bytes more high e (x ∷ left) g =
    cases (begins_with (x ∷ left) (encode_utf8 c)) (λ d. let p = begins-prefix (x ∷ left) (encode_utf8 c) d in prefix-begins (x ∷ left) bytes (more ++ p.0) (p.1 ∙ ap (λ xs. xs ++ p.0) e ∙ append_assoc bytes more p.0))
    (λ d. stops-not (inside_move (o ∷ outer) (end_name_step n (x ∷ left) outer c)) (rw d refl) g)

pub begins-complete : (mode : Mode) (opens : List Open) (c : ℕ) (bytes more : List ℕ) → 128 ≤ c → is_allowed c ≡ true → encode_utf8 c ≡ bytes ++ more → WellMode mode opens → Goes (step mode opens c) → may_begin mode opens bytes ≡ true
begins-complete Begin opens c bytes more high ok e w g =
    cases (c == 65279) (λ d. prefix-begins byte_order_mark bytes more (sym mark-bytes ∙ append-nil (encode_utf8 65279) ∙ ap encode_utf8 (sym (is-byte c 65279 d)) ∙ e))
    (λ d. stops-not (step Begin opens c) (rw d (narrow-marked c high opens)) g)
begins-complete (Inside (EndTag n)) [] c bytes more high ok e w g = absurd (cc)
begins-complete (Inside (EndTag n)) (o ∷ outer) c bytes more high ok e w g = end-complete o outer n c bytes more high e (drop n (name_bytes o.name)) g
begins-complete (Inside other) opens c bytes more high ok e w g = sym (wide c high ok (Inside other) opens w tt) ∙ g
begins-complete other opens c bytes more high ok e w g = sym (wide c high ok other opens w tt) ∙ g

-- Byte by byte: where the machine stops by the grammar, the bytes cannot go on, and up to there they can.

-- one step of the machine at a character
came-goes : (m : Move) (on : Place → Type 0) → comes (place m) on (λ u. ⊥) → Goes m
came-goes Nowhere on h = absurd h
came-goes (To mode opens us) on h = refl

none-moved : (m : Move) → moved m ≡ None → m ≡ Nowhere
none-moved Nowhere e = refl
none-moved (To mode opens us) e = absurd (cc)

-- how characters that run to a place go on behind what is read
onward : (front : List ℕ) (r : Reading) (more : List ℕ) (q : Reached front r) (text : List ℕ) (m : Mode) (o : List Open) → Allowed text → front ++ more ≡ bytes_of text → Runs Begin [] text m o
    → (left : List ℕ) × (r.begun ++ more ≡ bytes_of left) × Allowed left × Runs r.mode r.opens left m o
onward front r more q text m o ok e ran =
    let c = cut text q.text (r.begun ++ more) ok q.allowed (sym e ∙ ap (λ xs. xs ++ more) q.spelled ∙ append_assoc (bytes_of q.text) r.begun more) in
    (c.0, c.2, (allowed-apart q.text c.0 (subst Allowed c.1 ok)).1, steps-behind P q.text c.0 (Begin, []) (r.mode, r.opens) (m, o) q.ran (subst (λ xs. Runs Begin [] xs m o) c.1 ran))

-- what is read is where its characters run to
pub told : (front : List ℕ) (r : Reading) (q : Reached front r) (text : List ℕ) (m : Mode) (o : List Open) → Allowed text → front ≡ bytes_of text → Runs Begin [] text m o → (r.begun ≡ []) × (r.mode ≡ m) × (r.opens ≡ o)
told front r q text m o ok e ran = let w = onward front r [] q text m o ok (append-nil front ∙ e) ran in by w.0 w.1 w.2 w.3 where
  by : (left : List ℕ) → r.begun ++ [] ≡ bytes_of left → Allowed left → Runs r.mode r.opens left m o → (r.begun ≡ []) × (r.mode ≡ m) × (r.opens ≡ o)
  by [] f a s = (sym (append-nil r.begun) ∙ f, ap (λ p. p.0) s, ap (λ p. p.1) s)
  by (c ∷ left) f a s = no-both r.begun c (bytes_of left) [] (ap any_at (sym (append-nil r.begun) ∙ f) ∙ decodes c (bytes_of left) a.0) q.unfinished

-- a byte that is refused
module _ (r : Reading) (b : ℕ) (more : List ℕ) (well : WellMode r.mode r.opens) (u : Unfinished r.begun) (c : ℕ) (left : List ℕ) (ok : is_allowed c ≡ true) (is : (r.begun ++ b ∷ []) ++ more ≡ encode_utf8 c ++ bytes_of left) (goes : Goes (step r.mode r.opens c)) where
  abbrev pub bytes : List ℕ
  bytes = r.begun ++ b ∷ []

  pub refused : byte_step r b ≡ None → ⊥
  refused f = by (any_at bytes) refl f where
    by : (s : Step ℕ) → any_at bytes ≡ s → go_on r.mode r.opens bytes s ≡ None → ⊥
    by (Ok (d, rest)) e f =
        let n = done r.begun b d rest u e in
        let s = same-first d c more (bytes_of left) n.1 ok (ap (λ xs. xs ++ more) (sym n.0) ∙ is) in
        stops-not (step r.mode r.opens c) (ap (step r.mode r.opens) (sym s.0) ∙ none-moved (step r.mode r.opens d) f) goes
    by (Err []) e f = elim (longer bytes more (encode_utf8 c) (bytes_of left) is) [
      | inl h ↦ no-both bytes c h.0 [] (ap any_at h.1 ∙ decodes c h.0 ok) e
      | inr h ↦ let yes = begins-complete r.mode r.opens c bytes (h.0 ∷ h.1) (two-or-more c r.begun b h.0 h.1 h.2) ok h.2 well goes in let g = rw yes at f in absurd (cc)
    ]
    by (Err (x ∷ y)) e f = no-both (bytes ++ more) c (bytes_of left) (x ∷ (y ++ more)) (ap any_at is ∙ decodes c (bytes_of left) ok) (stuck bytes x y more e)

pub stops : (front : List ℕ) (r : Reading) (b : ℕ) → Reached front r → byte_step r b ≡ None → CanGoOn (front ++ b ∷ []) → ⊥
stops front r b q f (more, tree, d) = let w = onward front r (b ∷ more) q s.2.text s.0 s.1 s.2.allowed (sym (append_assoc front (b ∷ []) more) ∙ s.2.spelled) s.2.steps in by w.0 w.1 w.2 w.3 where
  s : Spelling ((front ++ b ∷ []) ++ more)
  s = document-led ((front ++ b ∷ []) ++ more) tree d

  by : (left : List ℕ) → r.begun ++ b ∷ more ≡ bytes_of left → Allowed left → Runs r.mode r.opens left s.0 s.1 → ⊥
  by [] e ok h = none-behind r.begun b more (sym e)
  by (c ∷ left) e ok h = refused r b more q.well q.unfinished c left ok.0 (append_assoc r.begun (b ∷ []) more ∙ e) (came-goes (step r.mode r.opens c) (λ p. Steps P p left (s.0, s.1)) h) f

-- a byte that is taken
pub some-same : (r s : Reading) (us vs : List Token) → ◌≡◌ {A = Option (Reading × List Token)} (Some (r, us)) (Some (s, vs)) → (r ≡ s) × (us ≡ vs)
some-same r s us vs e = let same : ◌≡◌ {A = Reading × List Token} (r, us) (s, vs) = some-is e in (ap (λ p. p.0) same, ap (λ p. p.1) same)

-- with what stands behind the token that it ends
pub record Taken (front : List ℕ) (r : Reading) (b : ℕ) (q : Reached front r) (s : Reading) (us : List Token) : Type 0 where
  pub reached : Reached (front ++ b ∷ []) s
  pub words : TagsOf r.opens us (front ++ b ∷ [])

module _ (front : List ℕ) (r : Reading) (b : ℕ) (q : Reached front r) where
  abbrev all : List ℕ
  all = r.begun ++ b ∷ []

  abbrev TakenIf : Gone → Type 0
  TakenIf None = Unit {0}
  TakenIf (Some found) = Taken front r b q found.0 found.1

  taken-whole : (c : ℕ) (left : List ℕ) → any_at all ≡ Ok (c, left) → (m : Move) → step r.mode r.opens c ≡ m → WellMove m → TakenIf (moved m)
  taken-whole c left e Nowhere d w = tt
  taken-whole c left e (To mode opens vs) d w =
      let n = done r.begun b c left q.unfinished e in
      let i = subst (λ m. InMove r.opens m (q.text ++ c ∷ [])) d (step-in r.mode r.opens q.text c q.allowed n.1 q.words) in
      let bytes : front ++ b ∷ [] ≡ bytes_of (q.text ++ c ∷ []) =
      ap (λ xs. xs ++ b ∷ []) q.spelled ∙ append_assoc (bytes_of q.text) r.begun (b ∷ []) ∙ ap (λ xs. bytes_of q.text ++ xs) (n.0 ∙ sym (append-nil (encode_utf8 c))) ∙ sym (bytes-append q.text (c ∷ []))
      in
      record {
        reached = record {
          text = q.text ++ c ∷ [];
          spelled = bytes ∙ sym (append-nil (bytes_of (q.text ++ c ∷ [])));
          allowed = allowed-append q.text (c ∷ []) q.allowed (n.1, tt);
          well = w (in-whole mode opens (q.text ++ c ∷ []) i.0);
          ran = steps-on P q.text (Begin, []) (r.mode, r.opens) (mode, opens) c q.ran (ap place d);
          words = i.0;
          unfinished = any-nothing;
          begins = λ x xs e. absurd (cc);
        };
        words = subst (TagsOf r.opens vs) (sym bytes) i.1;
      }

  taken-part : any_at all ≡ Err [] → (t : Bool) → may_begin r.mode r.opens all ≡ t → TakenIf (cond t (Some (reading all r.mode r.opens, [])) None)
  taken-part e false d = tt
  taken-part e true d = record {
    reached = record {
      text = q.text;
      spelled = ap (λ xs. xs ++ b ∷ []) q.spelled ∙ append_assoc (bytes_of q.text) r.begun (b ∷ []);
      allowed = q.allowed;
      well = q.well;
      ran = q.ran;
      words = q.words;
      unfinished = e;
      begins = λ x xs h. d;
    };
    words = tt;
  }

  pub taken : (s : Reading) (us : List Token) → byte_step r b ≡ Some (s, us) → Taken front r b q s us
  taken s us f = subst TakenIf f (by (any_at all) refl) where
    by : (m : Step ℕ) → any_at all ≡ m → TakenIf (go_on r.mode r.opens all m)
    by (Ok (c, left)) e = taken-whole c left e (step r.mode r.opens c) refl (well-step r.mode r.opens c (done r.begun b c left q.unfinished e).1 q.well)
    by (Err []) e = taken-part e (may_begin r.mode r.opens all) refl
    by (Err (x ∷ y)) e = tt

-- what is read can go on
pub begun-done : (begun : List ℕ) (x : ℕ) (xs : List ℕ) → Unfinished begun → begun ≡ x ∷ xs → (c : ℕ) × (more : List ℕ) × (encode_utf8 c ≡ begun ++ more) × (is_allowed c ≡ true) × (128 ≤ c)
begun-done begun x xs u e = let v = viable begun u in (v.0, v.1, v.2, v.3, high v.0 v.1 v.2 v.3) where
  high : (v : ℕ) (more : List ℕ) → encode_utf8 v ≡ begun ++ more → is_allowed v ≡ true → 128 ≤ v
  high v [] w ok = no-both begun v [] [] (ap any_at (sym (append-nil begun) ∙ sym w ∙ sym (append-nil (encode_utf8 v))) ∙ decodes v [] ok) u
  high v (t ∷ tail) w ok = two-bytes v x t xs tail (w ∙ ap (λ ys. ys ++ t ∷ tail) e)

-- What is read can go on, and at the end it is a document exactly where it may end.

-- a character that goes on there
module _ (begun : List ℕ) (x : ℕ) (xs : List ℕ) (u : Unfinished begun) (is : begun ≡ x ∷ xs) where
  abbrev Has : Mode → List Open → Type 0
  Has mode opens = (c : ℕ) × (more : List ℕ) × (encode_utf8 c ≡ begun ++ more) × (is_allowed c ≡ true) × Goes (step mode opens c)

  has-wide : (mode : Mode) (opens : List Open) → WellMode mode opens → PlainMode mode → takes_wide mode ≡ true → Has mode opens
  has-wide mode opens w p e = let d = begun-done begun x xs u is in (d.0, d.1, d.2, d.3, wide d.0 d.4 d.3 mode opens w p ∙ e)

  end-goes : (o : Open) (outer : List Open) (n d : ℕ) (left : List ℕ) → begins_with left (encode_utf8 d) ≡ true → (left ≡ [] → ⊥) → Goes (inside_move (o ∷ outer) (end_name_step n left outer d))
  end-goes o outer n d [] e none = absurd (none refl)
  end-goes o outer n d (y ∷ left) e none = rw e refl

  has-end : (o : Open) (outer : List Open) (n : ℕ) → Spell (drop n (name_bytes o.name)) → begins_with (drop n (name_bytes o.name)) begun ≡ true → Has (Inside (EndTag n)) (o ∷ outer)
  has-end o outer n s e = by s.text s.spelled s.allowed where
    left : List ℕ
    left = drop n (name_bytes o.name)

    empty : left ≡ [] → ⊥
    empty z = let p = begins-prefix left begun e in no-cons {a = x} {xs = xs ++ p.0} (sym z ∙ p.1 ∙ ap (λ ys. ys ++ p.0) is)

    by : (text : List ℕ) → left ≡ bytes_of text → Allowed text → Has (Inside (EndTag n)) (o ∷ outer)
    by [] d a = absurd (empty d)
    by (c ∷ text) d a =
        let p = begins-prefix left begun e in
        elim (longer (encode_utf8 c) (bytes_of text) begun p.0 (sym d ∙ p.1)) [
          | inl h ↦ (c, h.0, h.1, a.0, end-goes o outer n c left (prefix-begins left (encode_utf8 c) (bytes_of text) d) empty)
          | inr h ↦ no-both begun c (h.0 ∷ h.1) [] (ap any_at h.2 ∙ decodes c (h.0 ∷ h.1) a.0) u
        ]

  has : (mode : Mode) (opens : List Open) → WellMode mode opens → may_begin mode opens begun ≡ true → Has mode opens
  has Begin opens w e = let p = begins-prefix byte_order_mark begun e in (65279, p.0, sym (append-nil (encode_utf8 65279)) ∙ mark-bytes ∙ p.1, refl, refl)
  has (Inside (EndTag n)) [] w e = absurd w.1
  has (Inside (EndTag n)) (o ∷ outer) w e = has-end o outer n w.1 e
  has (Inside other) opens w e = has-wide (Inside other) opens w tt e
  has other opens w e = has-wide other opens w tt e

-- What is read can go on.
module _ (front : List ℕ) (r : Reading) (q : Reached front r) where
  document : (w : List ℕ) → Allowed w → Ends r.mode r.opens w → (tree : Tree) × IsDocument (bytes_of q.text ++ bytes_of w) tree
  document w ok h =
      let d = document-is w q.text r.mode r.opens q.allowed ok q.words h in
      (d.0, subst (λ xs. IsDocument xs d.0) (bytes-append q.text w) d.1)

  moved-on : (c : ℕ) (more : List ℕ) → encode_utf8 c ≡ r.begun ++ more → is_allowed c ≡ true → (m : Move) → step r.mode r.opens c ≡ m → WellMove m → Goes m → CanGoOn front
  moved-on c more e ok Nowhere d w g = absurd (cc)
  moved-on c more e ok (To mode opens us) d w g =
      let i = (subst (λ v. InMove r.opens v (q.text ++ c ∷ [])) d (step-in r.mode r.opens q.text c q.allowed ok q.words)).0 in
      let a = alive mode opens (in-whole mode opens (q.text ++ c ∷ []) i) (w (in-whole mode opens (q.text ++ c ∷ []) i)) in
      let ends = a.2 in
      let t = document (c ∷ a.0) (ok, a.1) (ends.0, ends.1, subst (λ v. comes (place v) (λ p. Steps P p a.0 (ends.0, ends.1)) (λ u. ⊥)) (sym d) ends.2, ends.3) in
      let same : bytes_of q.text ++ (encode_utf8 c ++ bytes_of a.0) ≡ front ++ (more ++ bytes_of a.0) =
      ap (λ xs. bytes_of q.text ++ (xs ++ bytes_of a.0)) e ∙ ap (λ xs. bytes_of q.text ++ xs) (append_assoc r.begun more (bytes_of a.0)) ∙ sym (append_assoc (bytes_of q.text) r.begun (more ++ bytes_of a.0)) ∙ ap (λ xs. xs ++ (more ++ bytes_of a.0)) (sym q.spelled)
      in
      (more ++ bytes_of a.0, t.0, subst (λ xs. IsDocument xs t.0) same t.1)

  pub goes-on : CanGoOn front
  goes-on = by r.begun refl where
    by : (begun : List ℕ) → r.begun ≡ begun → CanGoOn front
    by [] e =
        let a = alive r.mode r.opens (in-whole r.mode r.opens q.text q.words) q.well in
        let d = document a.0 a.1 a.2 in
        let same : bytes_of q.text ++ bytes_of a.0 ≡ front ++ bytes_of a.0 = ap (λ xs. xs ++ bytes_of a.0) (sym (q.spelled ∙ ap (λ xs. bytes_of q.text ++ xs) e ∙ append-nil (bytes_of q.text))) in
        (bytes_of a.0, d.0, subst (λ xs. IsDocument xs d.0) same d.1)
    by (x ∷ xs) e =
        let h = has r.begun x xs q.unfinished e r.mode r.opens q.well (q.begins x xs e) in
        moved-on h.0 h.1 h.2 h.3 (step r.mode r.opens h.0) refl (well-step r.mode r.opens h.0 h.3 q.well) h.4

-- the end of the input
pub document-ends : (bytes : List ℕ) (r : Reading) (tree : Tree) → Reached bytes r → IsDocument bytes tree → may_end r ≡ true
document-ends bytes r tree q d =
    let s = document-led bytes tree d in
    let t = told bytes r q s.2.text s.0 s.1 s.2.allowed s.2.spelled s.2.steps in
    and-both (is_empty r.begun) (is_behind r.mode) (ap is_empty t.0) (ap is_behind t.1 ∙ s.3)

pub ends-document : (bytes : List ℕ) (r : Reading) → Reached bytes r → may_end r ≡ true → (tree : Tree) × IsDocument bytes tree
ends-document bytes r q e =
    let empty = empty-is r.begun (and-first (is_empty r.begun) (is_behind r.mode) e) in
    let d = document bytes r q [] tt (r.mode, r.opens, refl, and-second (is_empty r.begun) (is_behind r.mode) e) in
    let same : bytes_of q.text ++ [] ≡ bytes = ap (λ xs. bytes_of q.text ++ xs) (sym empty) ∙ sym q.spelled in
    (d.0, subst (λ xs. IsDocument xs d.0) same d.1)

-- by what comes
pub result-by : {A E R : Type 0} (r : Result A E) → ((a : A) → r ≡ Ok a → R) → ((e : E) → r ≡ Err e → R) → R
result-by (Ok a) f g = f a refl
result-by (Err e) f g = g e refl

pub option-by : {A R : Type 0} (o : Option A) → (o ≡ None → R) → ((a : A) → o ≡ Some a → R) → R
option-by None f g = f refl
option-by (Some a) f g = g a refl

pub same-err : {A E : Type 0} {x y : E} → ◌≡◌ {A = Result A E} (Err x) (Err y) → x ≡ y
same-err e = cc

-- the scopes of what is open
pub scopes-are : (tags : List Tag) → scopes_in (map opened tags) ≡ scopes_of tags
scopes-are [] = refl
scopes-are (t ∷ tags) = ap (λ xs. declarations t.attrs ∷ xs) (scopes-are tags)

missing-none : (o : Option (FullName × List Attr)) → is_missing o ≡ true → o ≡ None
missing-none None e = refl
missing-none (Some x) e = absurd (cc)

-- what breaks one, with the words of its tag
broken-words : (opens : List Open) (us : List Token) (bytes : List ℕ) → breaks_rule opens us ≡ true → TagsOf opens us bytes → (tag : Tag) × TagWords opens bytes tag × (tag_says (scopes_in opens) tag ≡ None)
broken-words opens (Started tag ∷ more) bytes e h = (tag, h.0 tag refl, missing-none (tag_says (scopes_in opens) tag) e)
broken-words opens (Slash tag ∷ more) bytes e h = (tag, h.0 tag refl, missing-none (tag_says (scopes_in opens) tag) e)
broken-words opens other bytes e h = absurd (cc)

ends-rule : (front : List ℕ) (b : ℕ) (w : List ℕ) (opens : List Open) (tag : Tag) → TagWords opens (front ++ b ∷ []) tag → tag_says (scopes_in opens) tag ≡ None → BreaksRule (front ++ b ∷ w) (length front)
ends-rule front b w opens tag t e =
    let s = last-same front b (t.before ++ 60 ∷ t.inside) t.end t.spelled in
    let place : length front ≡ length t.before + 1 + length t.inside = ap length s.0 ∙ omega (arith, length-append t.before (60 ∷ t.inside)) in (
      t.tags,
      length t.before,
      tag,
      record {
        before = t.before;
        inside = t.inside;
        end = t.end;
        rest = w;
        spelled = ap (λ xs. xs ++ b ∷ w) s.0 ∙ ap (λ x. (t.before ++ 60 ∷ t.inside) ++ x ∷ w) s.1 ∙ append_assoc t.before (60 ∷ t.inside) (t.end ∷ w);
        begins = refl;
        place = place;
        opens = t.opens_are;
        is_tag = t.is_tag;
        ends = t.ends;
      },
      sym (ap (λ x. tag_says x tag) (ap scopes_in t.are ∙ scopes-are t.tags)) ∙ e,
    )

-- At each byte the machine judges as the refusals say: a cause where it stops, and none where it goes on.

-- the first byte of a name
pub name-character : (b : ℕ) → may_begin_name b ≡ true → (c : ℕ) × (tail : List ℕ) × Character begins_name (b ∷ tail) c
name-character b e = cases (nat_lt b 128) (λ d. let low : b < 128 = grind (arith, nat_tests) in (b, [], record { spelled = sym (encode_ascii b low); allowed = grind (arith, nat_tests); passes = rw d at e }))
    (λ d.
    let first : 194 ≤ b = grind (arith, nat_tests) in
    let last : b ≤ 244 = grind (arith, nat_tests) in
    let v = viable (b ∷ []) (lead-begins b first last) in
    let wide = high v.0 v.1 v.2 first in
    let ok = v.3 in
    (v.0, v.1, record { spelled = sym v.2; allowed = ok; passes = grind (arith, nat_tests) })) where
      high : (c : ℕ) (tail : List ℕ) → encode_utf8 c ≡ b ∷ tail → 194 ≤ b → 128 ≤ c
      high c tail g low = elim (at-most-or-more 128 c) [ inl wide ↦ wide | inr small ↦ absurd (omega (arith, low, small, (heads c b [] tail (sym (encode_ascii c (omega (arith, small))) ∙ g)).0)) ]

pub character-name : (b : ℕ) (tail : List ℕ) (c : ℕ) → Character begins_name (b ∷ tail) c → may_begin_name b ≡ true
character-name b tail c g = elim (ranges c) [
  | inl small ↦
      let same : b ≡ c = (heads b c tail [] (g.spelled ∙ encode_ascii c small)).0 in
      let low : nat_lt b 128 ≡ true = grind (arith, nat_tests) in
      rw low (ap begins_name same ∙ g.passes)
  | inr (inl two) ↦ wide _ _ (encode-two c two.0 two.1) (omega arith) (omega arith)
  | inr (inr (inl three)) ↦ wide _ _ (encode-three c three.0 three.1) (omega arith) (omega arith)
  | inr (inr (inr four)) ↦ let most = allowed-at-most c g.allowed in wide _ _ (encode-four c four) (omega arith) (omega (arith, most))
] where
  wide : (h : ℕ) (t : List ℕ) → encode_utf8 c ≡ h ∷ t → 194 ≤ h → h ≤ 244 → may_begin_name b ≡ true
  wide h t e low high = let same = (heads b h tail t (g.spelled ∙ e)).0 in grind (arith, nat_tests)

less-mode : (mode : Mode) → begins_tag mode ≡ true → mode ≡ Inside Less
less-mode (Inside Less) e = refl
less-mode other e = absurd (cc)

-- the parts of that test
pub deep-parts : (r : Reading) (b : ℕ) → is_deep r b ≡ true → (length r.opens ≡ most_open) × (r.mode ≡ Inside Less) × (r.begun ≡ []) × (may_begin_name b ≡ true)
deep-parts r b e = (grind (arith, nat_tests), less-mode r.mode (grind (arith, nat_tests)), empty-is r.begun (grind (arith, nat_tests)), grind (arith, nat_tests))

-- too deep
pub deep : (front : List ℕ) (r : Reading) (b : ℕ) (w : List ℕ) → Reached front r → is_deep r b ≡ true → IsTooDeep (front ++ b ∷ w) (length front)
deep front r b w q e =
    let d = deep-parts r b e in
    let l = less-words r.opens q.text (subst (λ m. InMode m r.opens q.text) d.1 q.words) in
    let all : front ≡ l.before ++ 60 ∷ [] = q.spelled ∙ ap (λ xs. bytes_of q.text ++ xs) d.2 ∙ append-nil (bytes_of q.text) ∙ l.spelled in
    record {
      tags = l.tags;
      before = l.before;
      first = b;
      rest = w;
      spelled = ap (λ xs. xs ++ b ∷ w) all ∙ append_assoc l.before (60 ∷ []) (b ∷ w);
      place = ap length all ∙ length-append l.before (60 ∷ []);
      opens = l.opens_are;
      many = sym (length-map l.tags opened) ∙ ap length (sym l.are) ∙ d.0;
      begins = name-character b d.3;
    }

-- same first parts
pub same-front : (a b : List ℕ) (x y : List ℕ) → a ++ x ≡ b ++ y → length a ≡ length b → (a ≡ b) × (x ≡ y)
same-front a b x y e n =
    let one : a ≡ b = sym (take-append_seam a x) ∙ ap (take (length a)) e ∙ ap (λ m. take m (b ++ y)) n ∙ take-append_seam b y in
    (one, append_cancel_left a x y (e ∙ ap (λ zs. zs ++ y) (sym one)))

pub front-of : (front : List ℕ) (b : ℕ) (w : List ℕ) → take (length front + 1) (front ++ b ∷ w) ≡ front ++ b ∷ []
front-of front b w =
    let long : length (front ++ b ∷ []) ≡ length front + 1 = length-append front (b ∷ []) in
    ap (λ n. take n (front ++ b ∷ w)) (sym long) ∙ ap (take (length (front ++ b ∷ []))) (sym (append_assoc front (b ∷ []) w)) ∙ take-append_seam (front ++ b ∷ []) w

-- what is too deep is judged so
module _ (front : List ℕ) (r : Reading) (b : ℕ) (w : List ℕ) (q : Reached front r) where
  pub is-deep : IsTooDeep (front ++ b ∷ w) (length front) → is_deep r b ≡ true
  is-deep x = by x.tags x.opens x.many where
    by : (tags : List Tag) → Opens tags x.before → length tags ≡ most_open → is_deep r b ≡ true
    by [] o many = absurd (omega (arith, many))
    by (t ∷ outer) o many =
        let split = same-front front (x.before ++ 60 ∷ []) (b ∷ w) (x.first ∷ x.rest) (x.spelled ∙ sym (append_assoc x.before (60 ∷ []) (x.first ∷ x.rest))) (x.place ∙ sym (length-append x.before (60 ∷ []))) in
        let p = open-by t outer x.before o (open-at outer) in
        let opens : List Open = map opened (t ∷ outer) in
        let all : front ≡ bytes_of (p.1.text ++ 60 ∷ []) = split.0 ∙ ap (λ xs. xs ++ 60 ∷ []) p.1.spelled ∙ ap (λ xs. bytes_of p.1.text ++ xs) (sym (plain-bytes (60 ∷ []) (omega arith, tt))) ∙ sym (bytes-append p.1.text (60 ∷ [])) in
        let m = told front r q (p.1.text ++ 60 ∷ []) (Inside Less) opens (allowed-append p.1.text (60 ∷ []) p.1.allowed (refl, tt)) all (steps-then P p.1.text (60 ∷ []) (Begin, []) (Inside (Content p.0), opens) (Inside Less, opens) p.1.steps refl) in
        let first : may_begin_name b ≡ true = ap may_begin_name (heads b x.first w x.rest split.1).0 ∙ character-name x.first x.begins.1 x.begins.0 x.begins.2 in
        let count : (length r.opens == most_open) ≡ true = ap (λ os. length os == most_open) m.2 ∙ ap (λ n. n == most_open) (length-map (t ∷ outer) opened ∙ many) in
        and-both (length r.opens == most_open && begins_tag r.mode) (is_empty r.begun && may_begin_name b) (and-both (length r.opens == most_open) (begins_tag r.mode) count (ap begins_tag m.1)) (and-both (is_empty r.begun) (may_begin_name b) (ap is_empty m.0) first)

-- where it goes on, nothing refuses
module _ (front : List ℕ) (r : Reading) (b : ℕ) (w : List ℕ) (q : Reached front r) (s : Reading) (us : List Token) (goes : judge r b ≡ Ok (s, us)) where
  pub judged-so : (is_deep r b ≡ false) × (byte_step r b ≡ Some (s, us)) × (breaks_rule r.opens us ≡ false)
  judged-so = cases (is_deep r b) (λ d. ok-err (sym (rw d at goes)))
      (λ d. option-by (byte_step r b) (λ f. ok-err (sym (rw (d, f) at goes)))
      (λ found f. cases (breaks_rule r.opens found.1) (λ k. ok-err (sym (rw (d, f, k) at goes))) (λ k. let same : found ≡ (s, us) = (let h = rw (d, f, k) at goes in cc) in (d, f ∙ ap Some same, ap (λ g. breaks_rule r.opens g.1) (sym same) ∙ k))))

  pub next : Reached (front ++ b ∷ []) s
  next = (taken front r b q s us judged-so.1).reached

  no-rule : BreaksRule (front ++ b ∷ w) (length front) → ⊥
  no-rule (tags, begin, tag, x, says) =
      let whole : front ++ b ∷ w ≡ (x.before ++ 60 ∷ x.inside) ++ x.end ∷ x.rest = x.spelled ∙ sym (append_assoc x.before (60 ∷ x.inside) (x.end ∷ x.rest)) in
      let long : length front ≡ length (x.before ++ 60 ∷ x.inside) = let one = x.place in let two = x.begins in let three = length-append x.before (60 ∷ x.inside) in omega (arith, one, two, three) in
      let split = same-front front (x.before ++ 60 ∷ x.inside) (b ∷ w) (x.end ∷ x.rest) whole long in
      let e : (ends_tag x.end ≡ true) × (x.end < 128) × (is_allowed x.end ≡ true) = elim x.ends [ inl d ↦ (ap ends_tag d, omega (arith, d), ap is_allowed d) | inr d ↦ (ap ends_tag d, omega (arith, d), ap is_allowed d) ] in
      let p = open-tag-run tags x.before x.inside tag x.end x.opens e.0 x.is_tag in
      let m = told front r q p.led.text (Inside p.root_state) (map opened tags) p.led.allowed (split.0 ∙ p.led.spelled) p.led.steps in
      let g : Given = tag_given (map opened tags) (tag, x.end) in
      let byte : any_at (b ∷ []) ≡ Ok (x.end, []) = ap (λ y. any_at (y ∷ [])) (heads b x.end w x.rest split.1).0 ∙ ap any_at (sym (append-nil (encode_utf8 x.end) ∙ encode_ascii x.end e.1)) ∙ decodes x.end [] e.2 in
      let same-r : r ≡ reading [] (Inside p.root_state) (map opened tags) = ap (λ xs. reading xs r.mode r.opens) m.0 ∙ ap (λ y. reading [] y r.opens) m.1 ∙ ap (reading [] (Inside p.root_state)) m.2 in
      let took : byte_step r b ≡ moved (inside_move (map opened tags) (Done g)) = ap (λ x. byte_step x b) same-r ∙ ap (go_on (Inside p.root_state) (map opened tags) (b ∷ [])) byte ∙ ap (λ x. moved (inside_move (map opened tags) x)) p.gives in
      let same : g.token ∷ [] ≡ us = (some-same (reading [] (landing g) g.opens) s (g.token ∷ []) us (sym took ∙ judged-so.1)).1 in
      let broken : breaks_rule (map opened tags) (g.token ∷ []) ≡ true = let none = ap (λ y. is_missing (tag_says y tag)) (scopes-are tags) ∙ ap is_missing says in elim x.ends [ inl d ↦ rw d none | inr d ↦ rw d none ] in
      clash broken (ap (λ os. breaks_rule os (g.token ∷ [])) (sym m.2) ∙ ap (breaks_rule r.opens) same ∙ judged-so.2)

  pub none-here : Refuses (front ++ b ∷ w) (length front) → ⊥
  none-here (inl (inl (inl x))) = x.here (subst CanGoOn (sym (front-of front b w)) (goes-on (front ++ b ∷ []) s next))
  none-here (inl (inl (inr x))) = omega (arith, x.end, length-append front (b ∷ w))
  none-here (inl (inr x)) = no-rule x
  none-here (inr x) = clash (is-deep front r b w q x) judged-so.0

-- The machine answers any bytes as the refusals say.

-- nothing refuses before a place
abbrev pub NoneBefore : List ℕ → ℕ → Type 0
NoneBefore bytes at = (earlier : ℕ) → earlier < at → Refuses bytes earlier → ⊥

-- the cause at a place
abbrev pub CauseAt : MachineError → List ℕ → ℕ → Type 0
CauseAt Broken bytes at = BreaksAt bytes at
CauseAt NamespaceRule bytes at = BreaksRule bytes at
CauseAt Deep bytes at = IsTooDeep bytes at
CauseAt OutOfMemory bytes at = ⊥

pub cause-refuses : (stop : MachineError) (bytes : List ℕ) (at : ℕ) → CauseAt stop bytes at → Refuses bytes at
cause-refuses Broken bytes at c = inl (inl (inl c))
cause-refuses NamespaceRule bytes at c = inl (inr c)
cause-refuses Deep bytes at c = inr c
cause-refuses OutOfMemory bytes at c = absurd c

module _ (front : List ℕ) (r : Reading) (b : ℕ) (w : List ℕ) (q : Reached front r) where
  breaks-here : byte_step r b ≡ None → BreaksAt (front ++ b ∷ w) (length front)
  breaks-here e =
      record {
        inside = omega (arith, length-append front (b ∷ w));
        before = subst CanGoOn (sym (take-append_seam front (b ∷ w))) (goes-on front r q);
        here = λ c. stops front r b q e (subst CanGoOn (front-of front b w) c);
      }

  pub judged-cause : (stop : MachineError) → judge r b ≡ Err stop → CauseAt stop (front ++ b ∷ w) (length front)
  judged-cause stop e =
      let so : (s : MachineError) → ◌≡◌ {A = Result (Reading × List Token) MachineError} (Err s) (Err stop) → CauseAt s (front ++ b ∷ w) (length front) → CauseAt stop (front ++ b ∷ w) (length front) = λ s d c. subst (λ s. CauseAt s (front ++ b ∷ w) (length front)) (same-err d) c in
      cases (is_deep r b) (λ d. so Deep (rw d at e) (deep front r b w q d))
      (λ d. option-by (byte_step r b) (λ f. so Broken (rw (d, f) at e) (breaks-here f))
      (λ found f. cases (breaks_rule r.opens found.1) (λ k. so NamespaceRule (rw (d, f, k) at e) (let x = broken-words r.opens found.1 (front ++ b ∷ []) k (taken front r b q found.0 found.1 f).words in ends-rule front b w r.opens x.0 x.1 x.2)) (λ k. ok-err (rw (d, f, k) at e))))

-- by the grammar alone
goes-or-breaks : (w front : List ℕ) (r : Reading) → Reached front r → CanGoOn (front ++ w) ⊎ ((at : ℕ) × BreaksAt (front ++ w) at)
goes-or-breaks [] front r q = inl (subst CanGoOn (sym (append-nil front)) (goes-on front r q))
goes-or-breaks (b ∷ w) front r q = option-by (byte_step r b) (λ e. inr (length front, breaks-here front r b w q e))
    (λ x e. subst (λ xs. CanGoOn xs ⊎ ((at : ℕ) × BreaksAt xs at)) (append_assoc front (b ∷ []) w) (goes-or-breaks w (front ++ b ∷ []) x.0 (taken front r b q x.0 x.1 e).reached))

pub go-on-or-break : GoOnOrBreak
go-on-or-break bytes = goes-or-breaks bytes [] nothing_read reached-nothing

-- one byte more
pub none-more : (bytes : List ℕ) (at : ℕ) → NoneBefore bytes at → (Refuses bytes at → ⊥) → NoneBefore bytes (at + 1)
none-more bytes at none here earlier less x = elim (at-most-or-more at earlier) [
  | inr h ↦ none earlier (omega (arith, h)) x
  | inl h ↦ let same : earlier ≡ at = omega (arith, h, less) in here (subst (Refuses bytes) same x)
]

-- the end of the input
pub ends-short : (bytes : List ℕ) (r : Reading) → Reached bytes r → may_end r ≡ false → EndsShort bytes (length bytes)
ends-short bytes r q e = record { end = refl; before = goes-on bytes r q; here = λ tree d. clash (document-ends bytes r tree q d) e }

-- a cause is at a byte, or at the end
pub refuses-inside : (bytes : List ℕ) (at : ℕ) → Refuses bytes at → (at < length bytes) ⊎ EndsShort bytes at
refuses-inside bytes at (inl (inl (inl x))) = inl x.inside
refuses-inside bytes at (inl (inl (inr x))) = inr x
refuses-inside bytes at (inl (inr (tags, begin, tag, x, says))) = inl (omega (arith, ap length x.spelled, length-append x.before (60 ∷ (x.inside ++ x.end ∷ x.rest)), length-append x.inside (x.end ∷ x.rest), x.place, x.begins))
refuses-inside bytes at (inr x) = inl (omega (arith, ap length x.spelled, length-append x.before (60 ∷ x.first ∷ x.rest), x.place))
