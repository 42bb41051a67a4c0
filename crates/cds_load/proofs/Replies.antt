-- Each reply of a server that stands now is taken, and leaves what is held given.
use Rattle.std.proofs.Common.{◌≡◌, ℕ, ◌≤◌, nat_eq, List, length, take, drop, Bool, true, false, cond, refl, ap, sym, subst, ◌∙◌, arith, Option, Some, None}
use Rattle.std.proofs.lemmas.Bool.{eq-eqb, eqb-true, and_from}
use Rattle.cds_object.specs.Object.{ObjectRow, is_folder}
use Rattle.cds_object.specs.Tree.{row_of, children_of, IsTree}
use Rattle.cds_load.specs.declared.exchange.Ask.{Ask}
use Rattle.cds_load.specs.declared.exchange.Ask.TheVariants.{Token, Number as AskNumber, Metadata, Children}
use Rattle.cds_load.specs.declared.exchange.Shown.TheVariants.{Page, Fault}
use Rattle.cds_load.specs.Server.{Moment, page_size, reply_to, metadata_reply, children_reply, update_of}
use Rattle.cds_load.specs.Stages.{Listing, Held, Idle, Begun, HasToken, HasNumber, HasRoot, Lists, HasPage, HasCopy, listing_of, listed_id, fits, after_page, page_taken, taken, next_ask, Loads}
use Rattle.cds_load.proofs.Trees.{found-id, folder-found}
use Rattle.cds_load.proofs.Advance.{Stands, first-stands}
use Rattle.cds_load.proofs.Listings.{IsListing, Follows, page-fits, page-follows}
use Rattle.cds_load.proofs.Honest.{root-lists, IsServed, Had, HadTwo, IsGiven, follows-given}
use Rattle.cds_load.specs.Outcome.{Outcome, Goes, Tears}

-- what becomes of a reply: it is taken, and what is held then is given
abbrev pub TakesGiven : (Moment → Type 0) → Outcome Held → Type 0
TakesGiven Stood t = (held : Held) × (t ≡ Goes held) × IsGiven Stood held

-- a page or a refusal in its place is what a server replies to an ask for children
pub page-shown : (number : ℕ) (l : Listing) (moment : Moment) (start : ℕ) (o : Option ObjectRow) →
    (page : Option (List ObjectRow)) × (taken (Loads (Lists number l)) (children_reply moment start o) ≡ Goes (Loads (HasPage number l page)))
page-shown number l moment start None = (None, refl)
page-shown number l moment start (Some row) = by (is_folder row.content)
  where
    by : (b : Bool) →
        (page : Option (List ObjectRow))
        × (taken (Loads (Lists number l))
        (cond b (Page (take page_size (drop start (children_of row.id moment.rows))) (length (children_of row.id moment.rows)) (update_of moment row)) (Fault 710))
        ≡ Goes (Loads (HasPage number l page)))
    by true = (Some (take page_size (drop start (children_of row.id moment.rows))), refl)
    by false = (None, refl)

-- the page of a container that stands
pub page-of : (moment : Moment) (start : ℕ) (row : ObjectRow) → is_folder row.content ≡ true →
    children_reply moment start (Some row)
    ≡ Page (take page_size (drop start (children_of row.id moment.rows))) (length (children_of row.id moment.rows)) (update_of moment row)
page-of moment start row folder =
    ap (λ b. cond b (Page (take page_size (drop start (children_of row.id moment.rows))) (length (children_of row.id moment.rows)) (update_of moment row)) (Fault 710)) folder

-- what a page was, where it is held
abbrev held-page : Outcome Held → Option (List ObjectRow)
held-page (Goes (Loads (HasPage number l page))) = page
held-page t = None

module _ (Stood : Moment → Type 0) (now : Moment) (served : IsServed Stood now) where
  had-now : Had Stood now.number
  had-now = record { moment = now; stood = served.stood; numbered = refl }

  -- of two moments that were read in order, both have the number that stands now, if the first has
  level : (number : ℕ) (two : HadTwo Stood number) → now.number ≡ number → two.moment.rows ≡ two.had.moment.rows
  level number two e =
      let past : two.moment.number ≤ now.number = served.rising two.moment two.stood in
      let same : two.moment.number ≡ two.had.moment.number = omega (arith, two.past, two.had.numbered, e, past) in
      served.same two.moment two.had.moment two.stood two.had.stood same

  root-given : (number : ℕ) → Had Stood number → TakesGiven Stood (taken (Loads (HasNumber number)) (reply_to now (Metadata 0)))
  root-given number had =
      let root = folder-found (row_of 0 now.rows) (served.trees now served.stood).rooted in (
        Loads (HasRoot number root.0),
        ap (λ o. taken (Loads (HasNumber number)) (metadata_reply now o)) root.1
            ∙ ap (λ b. cond b (Goes (Loads (HasRoot number root.0))) (Tears 0)) (and_from _ _ (eq-eqb root.0.id 0 (found-id 0 now.rows root.0 root.1)) root.2),
        (
          record {
            had = had;
            moment = now;
            stood = served.stood;
            past = omega (arith, had.numbered, served.rising had.moment had.stood);
          },
          root.1,
        ),
      )

  listing-given : (number : ℕ) (root : ObjectRow) → IsGiven Stood (Loads (HasRoot number root)) →
      TakesGiven Stood (taken (Loads (HasRoot number root)) (reply_to now AskNumber))
  listing-given number root given = by (nat_eq now.number number) refl
    where
      by : (b : Bool) → nat_eq now.number number ≡ b → TakesGiven Stood (Goes (cond b (Loads (Lists number (listing_of root))) (Loads Begun)))
      by true e =
          let same : now.number ≡ number = eqb-true now.number number e in
          let rows : given.0.moment.rows ≡ given.0.had.moment.rows = level number given.0 same in (
            Loads (Lists number (listing_of root)),
            refl,
            (given.0.had, root-lists given.0.had.moment.rows (served.trees given.0.had.moment given.0.had.stood) root (ap (row_of 0) (sym rows) ∙ given.1)),
          )
      by false e = ((Loads Begun), refl, tt)

  page-given : (number : ℕ) (l : Listing) → IsGiven Stood (Loads (Lists number l)) →
      TakesGiven Stood (taken (Loads (Lists number l)) (reply_to now (Children (listed_id l) (length l.part))))
  page-given number l given =
      let shown = page-shown number l now (length l.part) (row_of (listed_id l) now.rows) in (
        Loads (HasPage number l shown.0),
        shown.1,
        (
          record {
            had = given.0;
            moment = now;
            stood = served.stood;
            past = omega (arith, given.0.numbered, served.rising given.0.moment given.0.stood);
          },
          given.1,
          shown.1,
        ),
      )

  judged-given : (number : ℕ) (l : Listing) (page : Option (List ObjectRow)) → IsGiven Stood (Loads (HasPage number l page)) →
      TakesGiven Stood (taken (Loads (HasPage number l page)) (reply_to now AskNumber))
  judged-given number l page given = by (nat_eq now.number number) refl
    where
      judge : now.number ≡ number → TakesGiven Stood (page_taken number l page)
      judge same =
          let rows : given.0.moment.rows ≡ given.0.had.moment.rows = level number given.0 same in
          let catalog : List ObjectRow = given.0.had.moment.rows in
          let tree : IsTree catalog = served.trees given.0.had.moment given.0.had.stood in
          let of : IsListing catalog l = given.1 in
          let stands : Stands of.first.id catalog of.first = first-stands catalog tree of.first.id of.first of.others of.wait in
          let listed : listed_id l ≡ of.first.id = ap (λ v. listed_id (record l { waiting = v })) of.waiting in
          let own : stands.row.id ≡ of.first.id = found-id of.first.id catalog stands.row stands.found in
          let next : List ObjectRow = take page_size (drop (length l.part) (children_of of.first.id catalog)) in
          let replied : taken (Loads (Lists number l)) (reply_to given.0.moment (Children (listed_id l) (length l.part))) ≡ Goes (Loads (HasPage number l (Some next))) =
          ap (λ o. taken (Loads (Lists number l)) (children_reply given.0.moment (length l.part) o))
          ((λ i. row_of (listed i) (rows i)) ∙ stands.found)
          ∙ ap (taken (Loads (Lists number l))) (page-of given.0.moment (length l.part) stands.row stands.folder)
          ∙ (λ i. Goes (Loads (HasPage number l (Some (take page_size (drop (length l.part) (children_of (own i) (rows i)))))))) in
          let shown : page ≡ Some next = ap held-page (sym given.2 ∙ replied) in
          let fit : fits l next ≡ true = page-fits catalog tree of.first.id (length l.part) l of.first of.others of.shown of.waiting refl stands.counts of.front refl in
          let follows : Follows catalog number (after_page number l next) =
          page-follows catalog tree number of.first.id (length l.part) l of.first of.others of.shown of.waiting refl of.wait stands.counts of.front in (
            after_page number l next,
            ap (page_taken number l) shown ∙ ap (λ b. cond b (Goes (after_page number l next)) (Tears (listed_id l))) fit,
            follows-given Stood number given.0.had (after_page number l next) follows,
          )

      by : (b : Bool) → nat_eq now.number number ≡ b → TakesGiven Stood (cond b (page_taken number l page) (Goes (Loads Begun)))
      by true e = judge (eqb-true now.number number e)
      by false e = ((Loads Begun), refl, tt)

  -- each reply to the next ask is taken, and what is held then is given
  pub reply-given : (held : Held) (ask : Ask) → next_ask held ≡ Some ask → IsGiven Stood held → TakesGiven Stood (taken held (reply_to now ask))
  reply-given Idle ask e given = absurd (cc)
  reply-given (Loads Begun) ask e given = let is : Token ≡ ask = cc in
      subst (λ a. TakesGiven Stood (taken (Loads Begun) (reply_to now a))) is ((Loads HasToken), refl, tt)
  reply-given (Loads HasToken) ask e given = let is : AskNumber ≡ ask = cc in
      subst (λ a. TakesGiven Stood (taken (Loads HasToken) (reply_to now a))) is (Loads (HasNumber now.number), refl, had-now)
  reply-given (Loads (HasNumber number)) ask e given = let is : Metadata 0 ≡ ask = cc in
      subst (λ a. TakesGiven Stood (taken (Loads (HasNumber number)) (reply_to now a))) is (root-given number given)
  reply-given (Loads (HasRoot number root)) ask e given = let is : AskNumber ≡ ask = cc in
      subst (λ a. TakesGiven Stood (taken (Loads (HasRoot number root)) (reply_to now a))) is (listing-given number root given)
  reply-given (Loads (Lists number l)) ask e given = let is : Children (listed_id l) (length l.part) ≡ ask = cc in
      subst (λ a. TakesGiven Stood (taken (Loads (Lists number l)) (reply_to now a))) is (page-given number l given)
  reply-given (Loads (HasPage number l page)) ask e given = let is : AskNumber ≡ ask = cc in
      subst (λ a. TakesGiven Stood (taken (Loads (HasPage number l page)) (reply_to now a))) is (judged-given number l page given)
  reply-given (HasCopy number rows) ask e given = absurd (cc)
