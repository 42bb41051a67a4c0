-- A load from a server whose number stays ends after exactly the reads that it takes.
use Rattle.std.proofs.Common.{◌≡◌, ℕ, zero, suc, ◌+◌, ◌-◌, ◌*◌, ◌/◌, ◌<◌, ◌≤◌, nat_eq, min, List, [], ◌∷◌, ◌++◌, length, take, drop, filter, Bool, true, false, cond, refl, ap, sym, subst, ◌∙◌, arith, Some, inl, inr}
use Rattle.std.specs.Prelude.{max, IsSome, ◌⊎◌}
use Rattle.std.proofs.lemmas.Bool.{eq-eqb, and_from, eqb-true, eqb-false, cases_lt}
use Rattle.std.proofs.lemmas.List.{length-take}
use Rattle.cds_object.specs.Object.{ObjectRow, is_folder}
use Rattle.cds_object.specs.Tree.{row_of, children_of, IsTree}
use Rattle.cds_load.specs.declared.exchange.Ask.TheVariants.{Number as AskNumber, Metadata, Children}
use Rattle.cds_load.specs.Server.{Moment, page_size, reply_to, metadata_reply, children_reply}
use Rattle.cds_load.specs.Stages.{BehindLoad, Waiting, Listing, Held, Idle, Begun, HasToken, HasNumber, HasRoot, Lists, HasPage, HasCopy, listing_of, listed, listed_id, listed_children, others_waiting, fits, after_page, page_taken, taken, next_ask, says, put_rows, put_containers, Loads}
use Rattle.cds_load.specs.Loads.{load_reads, read_once, reads}
use Rattle.cds_load.proofs.Trees.{found-id, folder-found, ascend-rises}
use Rattle.cds_load.proofs.Frontier.{known, waiting_at}
use Rattle.cds_load.proofs.Advance.{Stands, nothing-waits, known-first, waiting-first, first-stands}
use Rattle.cds_load.proofs.Whole.{rows-after, waiting-after}
use Rattle.cds_load.proofs.Pages.{front-and-page, front-whole}
use Rattle.cds_load.proofs.Listings.{IsListing, page-fits}
use Rattle.cds_load.proofs.Honest.{root-lists, root-first}
use Rattle.cds_load.proofs.Replies.{page-of}
use Rattle.cds_load.proofs.Counts.{pages_from, from-first, pages-here, pages-first, pages-none, own-pages}
use Rattle.cds_load.specs.Outcome.{Goes, Tears, after_outcome}

-- a listing with so many whole pages of its first container shown, and so many reads to go
pub record Lasts (rows : List ObjectRow) (l : Listing) (left : ℕ) : Type 0 where
  pub of : IsListing rows l
  pub pages : ℕ
  pub shown : length l.part ≡ 256 * pages
  pub left_is : left + 2 * pages ≡ 2 * pages_from of.first.id rows

-- how many reads a load has to go
abbrev pub Left : Moment → Held → ℕ → Type 0
Left m Idle n = ⊥
Left m (Loads Begun) n = n ≡ load_reads m.rows
Left m (Loads HasToken) n = n + 1 ≡ load_reads m.rows
Left m (Loads (HasNumber number)) n = (number ≡ m.number) × (n + 2 ≡ load_reads m.rows)
Left m (Loads (HasRoot number root)) n = (number ≡ m.number) × (row_of 0 m.rows ≡ Some root) × (n + 3 ≡ load_reads m.rows)
Left m (Loads (Lists number l)) n = (number ≡ m.number) × Lasts m.rows l n
Left m (Loads (HasPage number l page)) n =
    (number ≡ m.number) × (lasts : Lasts m.rows l (n + 1)) × (page ≡ Some (take page_size (drop (length l.part) (children_of lasts.of.first.id m.rows))))
Left m (HasCopy number rows) n = (n ≡ 0) × (number ≡ m.number) × (rows ≡ m.rows)

module _ (m : Moment) (tree : IsTree m.rows) where
  -- once every container below an id is listed
  listed-left : (at : ℕ) → Left m (listed m.number (filter (known at) m.rows) (waiting_at at m.rows)) (2 * pages_from at m.rows)
  listed-left at = by (waiting_at at m.rows) refl
    where
      by : (ws : List Waiting) → waiting_at at m.rows ≡ ws → Left m (listed m.number (filter (known at) m.rows) ws) (2 * pages_from at m.rows)
      by [] none = (ap (λ n. 2 * n) (pages-none m.rows tree at none), refl, nothing-waits m.rows tree at none)
      by (w ∷ ws) is = (
        refl,
        record {
          of = record {
            first = w;
            others = ws;
            shown = known-first m.rows tree at w ws is;
            waiting = refl;
            wait = sym (waiting-first m.rows tree at w ws is) ∙ is;
            front = refl;
            room = inl refl;
          };
          pages = 0;
          shown = refl;
          left_is = let e : pages_from at m.rows ≡ pages_from w.id m.rows = pages-first m.rows tree at w ws is in omega (arith, e);
        },
      )

  -- a container's pages are more than were shown before the last
  own : (l : Listing) (n : ℕ) (lasts : Lasts m.rows l n) → (row : ObjectRow) × (row.id ≡ lasts.of.first.id) × (is_folder row.content ≡ true)
      × (row_of lasts.of.first.id m.rows ≡ Some row)
      × (pages_from lasts.of.first.id m.rows ≡ max 1 ((length (children_of lasts.of.first.id m.rows) + 255) / 256) + pages_from (lasts.of.first.id + 1) m.rows)
  own l n lasts =
      let stands : Stands lasts.of.first.id m.rows lasts.of.first = first-stands m.rows tree lasts.of.first.id lasts.of.first lasts.of.others lasts.of.wait in
      let id : stands.row.id ≡ lasts.of.first.id = found-id lasts.of.first.id m.rows stands.row stands.found in
      let found : row_of stands.row.id m.rows ≡ Some stands.row = ap (λ k. row_of k m.rows) id ∙ stands.found in
      let here = pages-here m.rows (ascend-rises m.rows tree.ascending) stands.row found in
      let pages = own-pages m.rows tree stands.row found stands.folder in (
        stands.row,
        id,
        stands.folder,
        stands.found,
        subst (λ k. pages_from k m.rows ≡ max 1 ((length (children_of k m.rows) + 255) / 256) + pages_from (k + 1) m.rows) id
            (here ∙ ap (λ p. p + pages_from (stands.row.id + 1) m.rows) pages),
      )

  -- the page that was next leads on
  page-left : (l : Listing) (n : ℕ) → (lasts : Lasts m.rows l (suc n + 1)) →
      Left m (after_page m.number l (take page_size (drop (length l.part) (children_of lasts.of.first.id m.rows)))) n
  page-left l n lasts = subst (λ b. Left m (cond b whole partly) n) (sym test) (by (nat_eq (length more) (length kids)) refl)
    where
      at : ℕ
      at = lasts.of.first.id

      kids : List ObjectRow
      kids = children_of at m.rows

      page : List ObjectRow
      page = take page_size (drop (length l.part) kids)

      more : List ObjectRow
      more = take (length l.part + page_size) kids

      stands : Stands at m.rows lasts.of.first
      stands = first-stands m.rows tree at lasts.of.first lasts.of.others lasts.of.wait

      joined : l.part ++ page ≡ more
      joined = ap (λ v. v ++ page) lasts.of.front ∙ front-and-page (length l.part) page_size kids

      own_count : listed_children l ≡ length kids
      own_count = ap (λ v. listed_children (record l { waiting = v })) lasts.of.waiting ∙ stands.counts

      others : others_waiting l ≡ lasts.of.others
      others = ap (λ v. others_waiting (record l { waiting = v })) lasts.of.waiting

      whole : Held
      whole = listed m.number (put_rows (l.part ++ page) l.rows) (put_containers (l.part ++ page) (others_waiting l))

      partly : Held
      partly = Loads (Lists m.number (record { rows = l.rows; waiting = l.waiting; part = l.part ++ page }))

      test : nat_eq (length (l.part ++ page)) (listed_children l) ≡ nat_eq (length more) (length kids)
      test = λ i. nat_eq (length (joined i)) (own_count i)

      size : length more ≡ min (length l.part + page_size) (length kids)
      size = length-take (length l.part + page_size) kids

      short : nat_eq (length more) (length kids) ≡ false → length l.part + page_size < length kids
      short e = let apart = eqb-false (length more) (length kids) e in
          elim (cases_lt (length l.part + page_size) (length kids)) as (λ _. length l.part + page_size < length kids) [
            | inl h ↦ h
            | inr h ↦ absurd (apart (omega (arith, size, h)))
          ]

      -- a listing that is whole took as many pages as its container has
      counted : length more ≡ length kids → max 1 ((length kids + 255) / 256) ≡ lasts.pages + 1
      counted e =
          let long : length kids ≤ 256 * lasts.pages + 256 = omega (arith, e, size, lasts.shown) in
          by_room lasts.of.room long
        where
          by_room : (length l.part ≡ 0) ⊎ (length l.part < length kids) → length kids ≤ 256 * lasts.pages + 256 →
              max 1 ((length kids + 255) / 256) ≡ lasts.pages + 1
          by_room (inl none) long = omega (arith, none, long, lasts.shown)
          by_room (inr some) long = omega (arith, some, long, lasts.shown)

      by : (b : Bool) → nat_eq (length more) (length kids) ≡ b → Left m (cond b whole partly) n
      by true e =
          let same : length more ≡ length kids = eqb-true _ _ e in
          let full : l.part ++ page ≡ kids = joined ∙ front-whole (length l.part + page_size) kids (omega (arith, same, size)) in
          let left : n ≡ 2 * pages_from (at + 1) m.rows =
          let pages = (own l (suc n + 1) lasts).4 in omega (arith, pages, counted same, lasts.left_is) in
          subst (λ (h : Held). Left m h n)
          (sym ((λ i. listed m.number (put_rows (full i) (lasts.of.shown i)) (put_containers (full i) (others i)))
          ∙ (λ i. listed m.number (rows-after m.rows tree at i) (waiting-after m.rows tree at lasts.of.first lasts.of.others lasts.of.wait refl i))))
          (subst (λ k. Left m (listed m.number (filter (known (at + 1)) m.rows) (waiting_at (at + 1) m.rows)) k) (sym left) (listed-left (at + 1)))
      by false e =
          let long : length (l.part ++ page) ≡ length l.part + page_size = ap length joined ∙ omega (arith, size, short e) in (
            refl,
            record {
              of = record {
                first = lasts.of.first;
                others = lasts.of.others;
                shown = lasts.of.shown;
                waiting = lasts.of.waiting;
                wait = lasts.of.wait;
                front = joined ∙ sym (λ i. take (long i) kids);
                room = inr (omega (arith, long, short e));
              };
              pages = lasts.pages + 1;
              shown = omega (arith, long, lasts.shown);
              left_is = omega (arith, lasts.left_is);
            },
          )

  -- a read that a load has to go is one less to go
  pub read-left : (held : Held) (n : ℕ) → Left m held (suc n) → Left m (read_once m held) n
  read-left Idle n left = left
  read-left (Loads Begun) n left = omega (arith, left)
  read-left (Loads HasToken) n left = (refl, omega (arith, left))
  read-left (Loads (HasNumber number)) n left =
      let root = folder-found (row_of 0 m.rows) tree.rooted in
      let holds : taken (Loads (HasNumber number)) (reply_to m (Metadata 0)) ≡ Goes (Loads (HasRoot number root.0)) =
      ap (λ o. taken (Loads (HasNumber number)) (metadata_reply m o)) root.1
      ∙ ap (λ b. cond b (Goes (Loads (HasRoot number root.0))) (Tears 0)) (and_from _ _ (eq-eqb root.0.id 0 (found-id 0 m.rows root.0 root.1)) root.2) in
      subst (λ t. Left m (after_outcome (Loads (HasNumber number)) t) n) (sym holds) (left.0, root.1, omega (arith, left.1))
  read-left (Loads (HasRoot number root)) n left =
      let lists : cond (nat_eq m.number number) (Loads (Lists number (listing_of root))) (Loads Begun) ≡ Loads (Lists number (listing_of root)) =
      ap (λ b. cond b (Loads (Lists number (listing_of root))) (Loads Begun)) (eq-eqb m.number number (sym left.0)) in
      let of : IsListing m.rows (listing_of root) = root-lists m.rows tree root left.1 in
      let first : of.first.id ≡ 0 = root-first m.rows tree root left.1 in
      subst (λ (h : Held). Left m h n) (sym lists) (
        left.0,
        record {
          of = of;
          pages = 0;
          shown = refl;
          left_is =
              let all = from-first m.rows in
              let same : pages_from of.first.id m.rows ≡ pages_from 0 m.rows = ap (λ k. pages_from k m.rows) first in
              omega (arith, all, same, left.2);
        },
      )
  read-left (Loads (Lists number l)) n left =
      let lasts : Lasts m.rows l (suc n) = left.1 in
      let o = own l (suc n) lasts in
      let listed : listed_id l ≡ lasts.of.first.id = ap (λ v. listed_id (record l { waiting = v })) lasts.of.waiting in
      let page : List ObjectRow = take page_size (drop (length l.part) (children_of lasts.of.first.id m.rows)) in
      let holds : taken (Loads (Lists number l)) (reply_to m (Children (listed_id l) (length l.part))) ≡ Goes (Loads (HasPage number l (Some page))) =
      ap (λ v. taken (Loads (Lists number l)) (children_reply m (length l.part) v)) (ap (λ k. row_of k m.rows) listed ∙ o.3)
      ∙ ap (taken (Loads (Lists number l))) (page-of m (length l.part) o.0 o.2)
      ∙ (λ i. Goes (Loads (HasPage number l (Some (take page_size (drop (length l.part) (children_of (o.1 i) m.rows))))))) in
      subst (λ t. Left m (after_outcome (Loads (Lists number l)) t) n) (sym holds)
      (left.0, record { of = lasts.of; pages = lasts.pages; shown = lasts.shown; left_is = omega (arith, lasts.left_is) }, refl)
  read-left (Loads (HasPage number l page)) n left =
      let lasts : Lasts m.rows l (suc n + 1) = left.1 in
      let next : List ObjectRow = take page_size (drop (length l.part) (children_of lasts.of.first.id m.rows)) in
      let stands : Stands lasts.of.first.id m.rows lasts.of.first = first-stands m.rows tree lasts.of.first.id lasts.of.first lasts.of.others lasts.of.wait in
      let fit : fits l next ≡ true = page-fits m.rows tree lasts.of.first.id (length l.part) l lasts.of.first lasts.of.others lasts.of.shown lasts.of.waiting refl
      stands.counts lasts.of.front refl in
      let holds : taken (Loads (HasPage number l page)) (reply_to m AskNumber) ≡ Goes (after_page m.number l next) =
      ap (λ b. cond b (page_taken number l page) (Goes (Loads Begun))) (eq-eqb m.number number (sym left.0))
      ∙ (λ i. page_taken (left.0 i) l (left.2 i))
      ∙ ap (λ b. cond b (Goes (after_page m.number l next)) (Tears (listed_id l))) fit in
      subst (λ t. Left m (after_outcome (Loads (HasPage number l page)) t) n) (sym holds) (page-left l n lasts)
  read-left (HasCopy number rows) n left = absurd (omega (arith, left.0))

  -- while there are reads to go the load runs
  runs-left : (held : Held) (n : ℕ) → Left m held (suc n) → IsSome (next_ask held) × (says held ≡ BehindLoad)
  runs-left Idle n left = absurd left
  runs-left (Loads stage) n left = (refl, refl)
  runs-left (HasCopy number rows) n left = absurd (omega (arith, left.0))

  -- and with none to go there is the copy
  pub none-left : (held : Held) → Left m held 0 → held ≡ HasCopy m.number m.rows
  none-left Idle left = absurd left
  none-left (Loads Begun) left = absurd (omega (arith, left))
  none-left (Loads HasToken) left = absurd (omega (arith, left))
  none-left (Loads (HasNumber number)) left = absurd (omega (arith, left.1))
  none-left (Loads (HasRoot number root)) left = absurd (omega (arith, left.2))
  none-left (Loads (Lists number l)) left =
      let lasts : Lasts m.rows l 0 = left.1 in
      let pages = (own l 0 lasts).4 in
      absurd (by lasts.of.room (omega (arith, pages, lasts.left_is)))
    where
      by : (length l.part ≡ 0) ⊎ (length l.part < length (children_of left.1.of.first.id m.rows)) →
          max 1 ((length (children_of left.1.of.first.id m.rows) + 255) / 256) ≤ left.1.pages → ⊥
      by (inl none) few = let shown = left.1.shown in omega (arith, none, few, shown)
      by (inr some) few = let shown = left.1.shown in omega (arith, some, few, shown)
  none-left (Loads (HasPage number l page)) left =
      let lasts : Lasts m.rows l 1 = left.1 in absurd (omega (arith, lasts.left_is))
  none-left (HasCopy number rows) left = λ i. HasCopy (left.1 i) (left.2 i)

  reads-left : (n : ℕ) → n ≤ load_reads m.rows → Left m (reads n m (Loads Begun)) (load_reads m.rows - n)
  reads-left zero few = omega arith
  reads-left (suc n) few =
      let before : Left m (reads n m (Loads Begun)) (suc (load_reads m.rows - suc n)) =
      subst (Left m (reads n m (Loads Begun))) (let e : load_reads m.rows - n ≡ suc (load_reads m.rows - suc n) = omega (arith, few) in e) (reads-left n (omega (arith, few))) in
      read-left (reads n m (Loads Begun)) (load_reads m.rows - suc n) before

  pub load-ends : (reads (load_reads m.rows) m (Loads Begun) ≡ HasCopy m.number m.rows)
      × ((n : ℕ) → n < load_reads m.rows → IsSome (next_ask (reads n m (Loads Begun))) × (says (reads n m (Loads Begun)) ≡ BehindLoad))
  load-ends = (
    none-left _ (subst (Left m (reads (load_reads m.rows) m (Loads Begun))) (let e : load_reads m.rows - load_reads m.rows ≡ 0 = omega arith in e) (reads-left (load_reads m.rows) (omega arith))),
    λ n few. runs-left (reads n m (Loads Begun)) (load_reads m.rows - suc n)
        (subst (Left m (reads n m (Loads Begun))) (let e : load_reads m.rows - n ≡ suc (load_reads m.rows - suc n) = omega (arith, few) in e) (reads-left n (omega (arith, few)))),
  )
