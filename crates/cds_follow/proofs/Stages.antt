-- What a replica knows of an honest server: its load or copy, and the changes that it keeps or counted.
use Rattle.std.proofs.Common.{◌≡◌, ◌⊎◌, inl, inr, ◌<◌, ◌≤◌, ℕ, max, Bool, true, false, cond, ◌&&◌, nat_eq, List, [], ◌∷◌, ◌++◌, length, take, drop, Option, Some, None, refl, sym, ap, ◌∙◌, subst, arith}
use Rattle.cds_object.specs.Object.{ObjectRow, is_folder}
use Rattle.cds_object.specs.Tree.{row_of, children_of}
use Rattle.cds_object.specs.declared.event.Event.{Event}
use Rattle.cds_load.specs.declared.exchange.Ask.{Ask}
use Rattle.cds_load.specs.declared.exchange.Ask.TheVariants.{Token, Number as AskNumber, Metadata, Children}
use Rattle.cds_load.specs.declared.exchange.Shown.{Shown}
use Rattle.cds_load.specs.declared.exchange.Shown.TheVariants.{Text, Number, Page, Fault}
use Rattle.cds_load.specs.Server.{Moment, page_size, reply_to, metadata_reply, children_reply, update_of as reply_update}
use Rattle.cds_load.specs.Stages.{Listing, Waiting, Held, Idle, Begun, HasToken, HasNumber, HasRoot, Lists, HasPage, HasCopy, taken, listed, after_page, page_taken, root_taken, listing_of, fits, others_waiting, listed_children, put_rows, put_containers, listed_id, Loads}
use Rattle.cds_load.proofs.Honest.{IsGiven, given-more}
use Rattle.cds_load.proofs.Servers.{StoodAt}
use Rattle.cds_commands.specs.Commands.{Command, scans_of, AreAccepted}
use Rattle.cds_commands.specs.Notes.{Note, changes_above, told_between}
use Rattle.cds_follow.specs.Follow.{Known, position, load_begun, greatest_of, is_drop}
use Rattle.cds_follow.specs.ServerLaws.{served}
use Rattle.cds_commands.proofs.Spanned.{none-told}
use Rattle.cds_follow.proofs.Served.{risen}
use Rattle.cds_follow.proofs.CopyOf.{IsCopy, copy-later}
use Rattle.cds_load.specs.Outcome.{Goes, Tears}

-- ---- the stage of a load

-- a number from which on changes are kept: no number that the load reads is below it
abbrev pub Bounds : ℕ → ℕ → Held → Type 0
Bounds q m Idle = Unit {0}
Bounds q m (Loads Begun) = q ≤ m
Bounds q m (Loads HasToken) = q ≤ m
Bounds q m (Loads (HasNumber number)) = q ≤ number
Bounds q m (Loads (HasRoot number root)) = q ≤ number
Bounds q m (Loads (Lists number listing)) = q ≤ number
Bounds q m (Loads (HasPage number listing page)) = q ≤ number
Bounds q m (HasCopy number rows) = q ≤ number

pub bounds-later : (q m more : ℕ) → m ≤ more → (held : Held) → Bounds q m held → Bounds q more held
bounds-later q m more l Idle b = tt
bounds-later q m more l (Loads Begun) b = omega (arith, l, b)
bounds-later q m more l (Loads HasToken) b = omega (arith, l, b)
bounds-later q m more l (Loads (HasNumber number)) b = b
bounds-later q m more l (Loads (HasRoot number root)) b = b
bounds-later q m more l (Loads (Lists number listing)) b = b
bounds-later q m more l (Loads (HasPage number listing page)) b = b
bounds-later q m more l (HasCopy number rows) b = b

holds-is : (a b : Held) → Goes a ≡ Goes b → a ≡ b
holds-is a b e = cc

bounds-by : (q m : ℕ) (a held : Held) → Goes a ≡ Goes held → Bounds q m a → Bounds q m held
bounds-by q m a held e b = subst (Bounds q m) (holds-is a held e) b

listed-bounds : (q m number : ℕ) (rows : List ObjectRow) (ws : List Waiting) → q ≤ number → Bounds q m (listed number rows ws)
listed-bounds q m number rows [] l = l
listed-bounds q m number rows (w ∷ ws) l = l

page-bounds : (q m number : ℕ) (listing : Listing) (page : List ObjectRow) → q ≤ number → Bounds q m (after_page number listing page)
page-bounds q m number listing page l = by (nat_eq (length (listing.part ++ page)) (listed_children listing))
  where
    by : (b : Bool) → Bounds q m (cond b
        (listed number (put_rows (listing.part ++ page) listing.rows) (put_containers (listing.part ++ page) (others_waiting listing)))
        (Loads (Lists number (record { rows = listing.rows; waiting = listing.waiting; part = listing.part ++ page }))))
    by true = listed-bounds q m number (put_rows (listing.part ++ page) listing.rows) (put_containers (listing.part ++ page) (others_waiting listing)) l
    by false = l

root-bounds : (q m number : ℕ) (rows : List ObjectRow) (held : Held) → q ≤ number → root_taken number rows ≡ Goes held → Bounds q m held
root-bounds q m number [] held l e = absurd (cc)
root-bounds q m number (row ∷ next ∷ rows) held l e = absurd (cc)
root-bounds q m number (row ∷ []) held l e = by (nat_eq row.id 0 && is_folder row.content) e
  where
    by : (b : Bool) → cond b (Goes (Loads (HasRoot number row))) (Tears 0) ≡ Goes held → Bounds q m held
    by true k = bounds-by q m (Loads (HasRoot number row)) held k l
    by false k = absurd (cc)

judged-bounds : (q m number : ℕ) (listing : Listing) (page : Option (List ObjectRow)) (held : Held) → q ≤ number → page_taken number listing page ≡ Goes held → Bounds q m held
judged-bounds q m number listing None held l e = absurd (cc)
judged-bounds q m number listing (Some page) held l e = by (fits listing page) e
  where
    by : (b : Bool) → cond b (Goes (after_page number listing page)) (Tears (listed_id listing)) ≡ Goes held → Bounds q m held
    by true k = bounds-by q m (after_page number listing page) held k (page-bounds q m number listing page l)
    by false k = absurd (cc)

-- a reply leaves the bound, where a number that it shows is not below it
pub taken-bounds : (q m : ℕ) (before held : Held) (shown : Shown) → q ≤ m → ((n : ℕ) → shown ≡ Number n → q ≤ n) → Bounds q m before → taken before shown ≡ Goes held → Bounds q m held
taken-bounds q m Idle held shown l n b e = absurd (cc)
taken-bounds q m (Loads Begun) held (Text token) l n b e = bounds-by q m (Loads HasToken) held e l
taken-bounds q m (Loads Begun) held (Number number) l n b e = absurd (cc)
taken-bounds q m (Loads Begun) held (Page rows total update) l n b e = absurd (cc)
taken-bounds q m (Loads Begun) held (Fault code) l n b e = absurd (cc)
taken-bounds q m (Loads HasToken) held (Text token) l n b e = absurd (cc)
taken-bounds q m (Loads HasToken) held (Number number) l n b e = bounds-by q m (Loads (HasNumber number)) held e (n number refl)
taken-bounds q m (Loads HasToken) held (Page rows total update) l n b e = absurd (cc)
taken-bounds q m (Loads HasToken) held (Fault code) l n b e = absurd (cc)
taken-bounds q m (Loads (HasNumber number)) held (Text token) l n b e = absurd (cc)
taken-bounds q m (Loads (HasNumber number)) held (Number other) l n b e = absurd (cc)
taken-bounds q m (Loads (HasNumber number)) held (Page rows total update) l n b e = root-bounds q m number rows held b e
taken-bounds q m (Loads (HasNumber number)) held (Fault code) l n b e = absurd (cc)
taken-bounds q m (Loads (HasRoot number root)) held (Text token) l n b e = absurd (cc)
taken-bounds q m (Loads (HasRoot number root)) held (Number other) l n b e =
    bounds-by q m (cond (nat_eq other number) (Loads (Lists number (listing_of root))) (Loads Begun)) held e (by (nat_eq other number))
  where
    by : (c : Bool) → Bounds q m (cond c (Loads (Lists number (listing_of root))) (Loads Begun))
    by true = b
    by false = l
taken-bounds q m (Loads (HasRoot number root)) held (Page rows total update) l n b e = absurd (cc)
taken-bounds q m (Loads (HasRoot number root)) held (Fault code) l n b e = absurd (cc)
taken-bounds q m (Loads (Lists number listing)) held (Text token) l n b e = absurd (cc)
taken-bounds q m (Loads (Lists number listing)) held (Number other) l n b e = absurd (cc)
taken-bounds q m (Loads (Lists number listing)) held (Page rows total update) l n b e = bounds-by q m (Loads (HasPage number listing (Some rows))) held e b
taken-bounds q m (Loads (Lists number listing)) held (Fault code) l n b e = bounds-by q m (Loads (HasPage number listing None)) held e b
taken-bounds q m (Loads (HasPage number listing page)) held (Text token) l n b e = absurd (cc)
taken-bounds q m (Loads (HasPage number listing page)) held (Number other) l n b e = by (nat_eq other number) e
  where
    by : (c : Bool) → cond c (page_taken number listing page) (Goes (Loads Begun)) ≡ Goes held → Bounds q m held
    by true k = judged-bounds q m number listing page held b k
    by false k = bounds-by q m (Loads Begun) held k l
taken-bounds q m (Loads (HasPage number listing page)) held (Page rows total update) l n b e = absurd (cc)
taken-bounds q m (Loads (HasPage number listing page)) held (Fault code) l n b e = absurd (cc)
taken-bounds q m (HasCopy number rows) held shown l n b e = absurd (cc)

-- the number that a reply shows is the server's
pub reply-number : (moment : Moment) (ask : Ask) (n : ℕ) → reply_to moment ask ≡ Number n → n ≡ moment.number
reply-number moment Token n e = absurd (cc)
reply-number moment AskNumber n e = cc
reply-number moment (Metadata id) n e = by (row_of id moment.rows) e
  where
    by : (o : Option ObjectRow) → metadata_reply moment o ≡ Number n → n ≡ moment.number
    by None k = absurd (cc)
    by (Some row) k = absurd (cc)
reply-number moment (Children id start) n e = by (row_of id moment.rows) e
  where
    by : (o : Option ObjectRow) → children_reply moment start o ≡ Number n → n ≡ moment.number
    by None k = absurd (cc)
    by (Some row) k = on (is_folder row.content) k
      where
        on : (b : Bool) → cond b (Page (take page_size (drop start (children_of row.id moment.rows)))
            (length (children_of row.id moment.rows)) (reply_update moment row)) (Fault 710) ≡ Number n → n ≡ moment.number
        on true k = absurd (cc)
        on false k = absurd (cc)

-- ---- numbers of notes

pub greatest-least : (n : ℕ) (notes : List Note) → n ≤ greatest_of n notes
greatest-least n [] = omega arith
greatest-least n (note ∷ notes) = let r = greatest-least (max n note.number) notes in omega (arith, r)

pub greatest-max : (b n : ℕ) (notes : List Note) → greatest_of (max b n) notes ≡ max b (greatest_of n notes)
greatest-max b n [] = refl
greatest-max b n (note ∷ notes) =
    let same : max (max b n) note.number ≡ max b (max n note.number) = omega arith in
    ap (λ (m : ℕ). greatest_of m notes) same ∙ greatest-max b (max n note.number) notes

-- ---- the stages

-- a number that is none yet, or that the server had at a length up to another
abbrev pub Past : List ℕ → ℕ → List Command → ℕ → ℕ → Type 0
Past token first commands k n = (n ≡ 0) ⊎ ((j : ℕ) × (j ≤ k) × (n ≡ (served token first commands j).number))

-- while a load runs: the changes that are kept are those from a number on, up to the position
pub record IsLoading (token : List ℕ) (first : ℕ) (commands : List Command) (k : ℕ) (held : Held) (known : Known) : Type 0 where
  pub from : ℕ
  pub after-base : known.base ≤ from
  pub before-position : from ≤ position known
  pub bounds : Bounds from (served token first commands k).number held
  pub kept : known.kept ≡ told_between first commands from (position known)

abbrev pub Stage : List ℕ → ℕ → List Command → ℕ → Held → Known → Type 0
Stage token first commands k Idle known = Unit {0}
Stage token first commands k (Loads stage) known = IsLoading token first commands k (Loads stage) known
Stage token first commands k (HasCopy number rows) known = (known.base ≡ number) × IsCopy token first commands k number rows known.happenings (position known)

-- what a replica knows of an honest server at a length
pub record IsFollowing (token : List ℕ) (first : ℕ) (commands : List Command) (k : ℕ) (known : Known) : Type 0 where
  pub given : IsGiven (StoodAt (served token first commands) k) known.held
  pub past : Past token first commands k (position known)
  pub stage : Stage token first commands k known.held known

-- notes that are taken one after another from a position on: each has a number that the server had, and tells what is new
-- above every number that is not below the position before it
abbrev pub AreNext : List ℕ → ℕ → List Command → ℕ → ℕ → List Note → Type 0
AreNext token first commands k at [] = Unit {0}
AreNext token first commands k at (note ∷ notes) =
    ((j : ℕ) × (j ≤ k) × (note.number ≡ (served token first commands j).number))
    × ((p : ℕ) → at ≤ p → changes_above p note.events ≡ told_between first commands p note.number)
    × AreNext token first commands k (max at note.number) notes

-- notes that are taken together: they go on from the position, or a first note above it goes before them
abbrev pub AreTaken : List ℕ → ℕ → List Command → ℕ → ℕ → List Note → Type 0
AreTaken token first commands k at notes =
    ((is_drop at notes ≡ false) × AreNext token first commands k at notes)
    ⊎ ((note : Note) × (rest : List Note) × (notes ≡ note ∷ rest) × (note.place ≡ 0) × (note.events ≡ []) × (at < note.number)
    × ((j : ℕ) × (j ≤ k) × (note.number ≡ (served token first commands j).number)) × AreNext token first commands k note.number rest)

module _ (token : List ℕ) (first : ℕ) (commands : List Command) (accepted : AreAccepted first commands) where
  abbrev told : ℕ → ℕ → List Event
  told from to = told_between first commands from to

  pub past-low : (k n : ℕ) → Past token first commands k n → n ≤ (served token first commands k).number
  past-low k n (inl e) = omega (arith, e)
  past-low k n (inr p) = let rise = risen token first commands accepted.libraries p.0 k p.1 in let is = p.2 in omega (arith, rise, is)

  past-later : (j k n : ℕ) → j ≤ k → Past token first commands j n → Past token first commands k n
  past-later j k n l (inl e) = inl e
  past-later j k n l (inr p) = inr (p.0, (let m = p.1 in omega (arith, m, l)), p.2)

  loading-later : (j k : ℕ) (held : Held) (known : Known) → j ≤ k → IsLoading token first commands j held known → IsLoading token first commands k held known
  loading-later j k held known l loading = record {
    from = loading.from;
    after-base = loading.after-base;
    before-position = loading.before-position;
    bounds = bounds-later loading.from (served token first commands j).number (served token first commands k).number (risen token first commands accepted.libraries j k l) held loading.bounds;
    kept = loading.kept;
  }

  stage-later : (j k : ℕ) (held : Held) (known : Known) → j ≤ k → Stage token first commands j held known → Stage token first commands k held known
  stage-later j k Idle known l s = tt
  stage-later j k (Loads stage) known l s = loading-later j k (Loads stage) known l s
  stage-later j k (HasCopy number rows) known l s = (s.0, copy-later token first commands accepted j k number rows known.happenings (position known) l s.1)

  given-later : (j k : ℕ) (held : Held) → j ≤ k → IsGiven (StoodAt (served token first commands) j) held → IsGiven (StoodAt (served token first commands) k) held
  given-later j k held l given =
      given-more (StoodAt (served token first commands) j) (StoodAt (served token first commands) k)
      (λ m s. record { at = s.at; within = let w = s.within in omega (arith, w, l); is = s.is }) held given

  pub following-later : (j k : ℕ) (known : Known) → j ≤ k → IsFollowing token first commands j known → IsFollowing token first commands k known
  following-later j k known l f = record {
    given = given-later j k known.held l f.given;
    past = past-later j k (position known) l f.past;
    stage = stage-later j k known.held known l f.stage;
  }

  -- ---- a load begins

  pub following-begins : (k : ℕ) (known : Known) → IsFollowing token first commands k known → IsFollowing token first commands k (load_begun known)
  following-begins k known f = record {
    given = tt;
    past = f.past;
    stage = record {
      from = position known;
      after-base = omega arith;
      before-position = omega arith;
      bounds = past-low k (position known) f.past;
      kept = sym (none-told (scans_of first commands) (position known) (position known) (omega arith));
    };
  }
