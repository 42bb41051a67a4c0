-- After any turns what is held is what the attempt that runs shows, and so is what becomes of a reply.
use Rattle.std.proofs.Common.{◌≡◌, ℕ, suc, ◌+◌, ◌<◌, List, [], ◌∷◌, ◌++◌, length, Bool, true, false, cond, not, ◌&&◌, nat_eq, refl, ap, sym, subst, ◌∙◌, arith, Option, Some, None, ◌⊎◌, inl, inr}
use Rattle.std.specs.Prelude.{MatchOption, unwrap_or, is_none, is_some}
use Rattle.std.specs.List.{AllByRecursion, cons_option, sum_by}
use Rattle.std.specs.Option.{option_map, option_and_then}
use Rattle.std.proofs.lemmas.Bool.{eqb-true, eqb-false, eq-eqb, ne_eqb, and_parts, true≢false}
use Rattle.std.proofs.lemmas.List.Sums.{sum_by-cons, sum_by-append}
use Rattle.cds_object.specs.Object.{ObjectRow, IsRow, is_folder}
use Rattle.cds_object.specs.declared.row.Trackers.{Trackers}
use Rattle.cds_load.specs.declared.exchange.Ask.TheVariants.{Token, Number as AskNumber, Metadata, Children}
use Rattle.cds_load.specs.declared.exchange.Shown.{Shown}
use Rattle.cds_load.specs.declared.exchange.Shown.TheVariants.{Text, Number, Page, Fault}
use Rattle.cds_load.specs.Loads.{load_reads}
use Rattle.cds_load.specs.Stages.{BehindLoad, Stands, Waiting, Listing, Held, Idle, Begun, HasToken, HasNumber, HasRoot, Lists, HasPage, HasCopy, waiting_of, puts_by, put_rows, put_containers, listing_of, listed_id, listed_children, others_waiting, fits, listed, after_page, root_taken, page_taken, taken, held_by, next_ask, says, copied, ReplicaTurn, Begins, Shows, Loads}
use Rattle.cds_load.specs.Seen.{rows_shown}
use Rattle.cds_load.specs.Attempts.{rows_in, number_in, is_odd, children_among, asked_in, next_container, ask_in, is_complete, can_be, Verdict, verdict_of, page_verdict, differs, reply_verdict, verdict_in, after_verdict, attempt_of, verdict_by, says_by, copied_by, EvenAre, ShowsRows, asks_are_of_attempts, refusals_are_of_attempts, answers_are_of_attempts, copies_are_of_attempts, even_replies_are_the_number, fine}
use Rattle.cds_load.proofs.Advance.{waiting_id}
use Rattle.cds_load.proofs.Unasked.{Under, own_pages, row_pages}
use Rattle.cds_load.proofs.Attempts.{Between, Within, between-next, within-begins, within-ask, within-next, within-id, within-children, fits-same, goes-on, ends}
use Rattle.cds_load.specs.Outcome.{Outcome, Goes, CannotBeRead, Tears, after_outcome}

-- what is held, as an attempt shows it
abbrev pub Trace : Held → List Shown → Type 0
Trace Idle attempt = ⊥
Trace (Loads Begun) attempt = attempt ≡ []
Trace (Loads HasToken) attempt = (token : List ℕ) × (attempt ≡ Text token ∷ [])
Trace (Loads (HasNumber number)) attempt = (token : List ℕ) × (attempt ≡ Number number ∷ Text token ∷ [])
Trace (Loads (HasRoot number root)) attempt =
    (token : List ℕ) × (total : ℕ) × (update : ℕ) × IsRow root × (root.id ≡ 0) × (is_folder root.content ≡ true)
    × (attempt ≡ Page (root ∷ []) total update ∷ Number number ∷ Text token ∷ [])
Trace (Loads (Lists number l)) attempt = Within number attempt l
Trace (Loads (HasPage number l None)) attempt = (code : ℕ) × (older : List Shown) × Within number older l × (attempt ≡ Fault code ∷ older)
Trace (Loads (HasPage number l (Some page))) attempt =
    (total : ℕ) × (update : ℕ) × (older : List Shown) × Within number older l × (attempt ≡ Page page total update ∷ older)
Trace (HasCopy number rows) attempt = Between number attempt rows []

-- what becomes of a reply is what becomes of it by the attempt, and what is held then is what this shows
abbrev Step : Held → Outcome Held → List Shown → Shown → Type 0
Step held becomes attempt shown =
    (verdict_of becomes ≡ verdict_in attempt shown) × Trace (after_outcome held becomes) (after_verdict (verdict_of becomes) attempt shown)

-- a reply to the token's ask
begun : (shown : Shown) → Step (Loads Begun) (taken (Loads Begun) shown) [] shown
begun (Text token) = (refl, (token, refl))
begun (Number n) = (refl, refl)
begun (Page rows total update) = (refl, refl)
begun (Fault code) = (refl, refl)

-- to that for the number
with-token : (token : List ℕ) (shown : Shown) → Step (Loads HasToken) (taken (Loads HasToken) shown) (Text token ∷ []) shown
with-token token (Text other) = (refl, (token, refl))
with-token token (Number n) = (refl, (token, refl))
with-token token (Page rows total update) = (refl, (token, refl))
with-token token (Fault code) = (refl, (token, refl))

-- to that for the root's row
with-root_row : (token : List ℕ) (number : ℕ) (rows : List ObjectRow) (total update : ℕ) → AllByRecursion IsRow rows →
    Step (Loads (HasNumber number)) (root_taken number rows) (Number number ∷ Text token ∷ []) (Page rows total update)
with-root_row token number [] total update all = (refl, (token, refl))
with-root_row token number (row ∷ []) total update all = by (nat_eq row.id 0 && is_folder row.content) refl
  where
    by : (b : Bool) → (nat_eq row.id 0 && is_folder row.content) ≡ b →
        Step (Loads (HasNumber number)) (cond b (Goes (Loads (HasRoot number row))) (Tears 0)) (Number number ∷ Text token ∷ []) (Page (row ∷ []) total update)
    by true e = (
      sym (ap (λ b. cond b fine (Tears 0)) e),
      (token, total, update, all.0, eqb-true row.id 0 (and_parts _ _ e).0, (and_parts _ _ e).1, refl),
    )
    by false e = (sym (ap (λ b. cond b fine (Tears 0)) e), (token, refl))
with-root_row token number (row ∷ next ∷ rows) total update all = (refl, (token, refl))

with-number : (token : List ℕ) (number : ℕ) (shown : Shown) → AllByRecursion IsRow (rows_shown shown) →
    Step (Loads (HasNumber number)) (taken (Loads (HasNumber number)) shown) (Number number ∷ Text token ∷ []) shown
with-number token number (Text other) all = (refl, (token, refl))
with-number token number (Number n) all = (refl, (token, refl))
with-number token number (Page rows total update) all = with-root_row token number rows total update all
with-number token number (Fault code) all = (refl, (token, refl))

-- the listing that a load begins with
root-waits : (root : ObjectRow) → IsRow root → is_folder root.content ≡ true → (w : Waiting) × (waiting_of root ≡ Some w)
root-waits root is folder = by root.trackers (is.tracked ∙ folder)
  where
    by : (o : Option Trackers) → is_some o ≡ true →
        (w : Waiting) × (option_map (λ (t : Trackers). let v : Waiting = record { id = root.id; children = t.child_count } in v) o ≡ Some w)
    by None e = absurd (cc)
    by (Some t) e = (record { id = root.id; children = t.child_count }, refl)

root-under : (root : ObjectRow) → IsRow root → root.id ≡ 0 → Under [] root
root-under root is zero_id = by root.parent (is.rooted ∙ eq-eqb root.id 0 zero_id)
  where
    by : (o : Option ℕ) → is_none o ≡ true → MatchOption o (Unit {0}) (λ parent. false ≡ true)
    by None e = tt
    by (Some parent) e = absurd (cc)

root-within : (token : List ℕ) (total update number : ℕ) (root : ObjectRow) → IsRow root → root.id ≡ 0 → is_folder root.content ≡ true →
    Within number (Number number ∷ Page (root ∷ []) total update ∷ Number number ∷ Text token ∷ []) (listing_of root)
root-within token total update number root is zero_id folder =
    subst (λ ws. Within number attempt (record { rows = root ∷ []; waiting = ws; part = [] }))
    (sym (ap (λ o. puts_by waiting_id (cons_option o []) []) made))
    (within-begins number attempt (root ∷ []) w [] between)
  where
    attempt : List Shown
    attempt = Number number ∷ Page (root ∷ []) total update ∷ Number number ∷ Text token ∷ []

    w : Waiting
    w = (root-waits root is folder).0

    made : waiting_of root ≡ Some w
    made = (root-waits root is folder).1

    waits : w ∷ [] ≡ cons_option (waiting_of root) []
    waits = sym (ap (λ o. cons_option o []) made)

    pages : own_pages w ≡ row_pages root
    pages = by root.trackers made
      where
        by : (o : Option Trackers) → option_map (λ (t : Trackers). let v : Waiting = record { id = root.id; children = t.child_count } in v) o ≡ Some w →
            own_pages w ≡ row_pages (record root { trackers = o })
        by None e = absurd (cc)
        by (Some t) e = let same : (record { id = root.id; children = t.child_count }) ≡ w = cc in ap own_pages (sym same)

    counted : 0 + sum_by own_pages (w ∷ []) ≡ sum_by row_pages (root ∷ [])
    counted =
        let one : sum_by own_pages (w ∷ []) ≡ own_pages w + 0 = sum_by-cons own_pages w [] in
        let two : sum_by row_pages (root ∷ []) ≡ row_pages root + 0 = sum_by-cons row_pages root [] in
        omega (arith, one, two, pages)

    between : Between number attempt (root ∷ []) (w ∷ [])
    between = record {
      numbered = refl;
      evens = (λ odd. refl, (λ odd. absurd (true≢false (sym odd)), (λ odd. refl, (λ odd. absurd (true≢false (sym odd)), tt))));
      even = refl;
      long = refl;
      placed = refl;
      rises = (tt, tt);
      waits = waits;
      parents = (root-under root is zero_id, tt);
      known = tt;
      whole = tt;
      counted = counted;
    }

-- a reply to the ask for the number after the root's row
with-root : (token : List ℕ) (total update number : ℕ) (root : ObjectRow) → IsRow root → root.id ≡ 0 → is_folder root.content ≡ true → (shown : Shown) →
    Step (Loads (HasRoot number root)) (taken (Loads (HasRoot number root)) shown) (Page (root ∷ []) total update ∷ Number number ∷ Text token ∷ []) shown
with-root token total update number root is zero_id folder (Text other) = (refl, (token, total, update, is, zero_id, folder, refl))
with-root token total update number root is zero_id folder (Number n) = by (nat_eq n number) refl
  where
    attempt : List Shown
    attempt = Page (root ∷ []) total update ∷ Number number ∷ Text token ∷ []

    either : (b : Bool) → fine ≡ cond b fine fine
    either true = refl
    either false = refl

    by : (b : Bool) → nat_eq n number ≡ b →
        (fine ≡ cond (not (nat_eq n number)) fine fine) × Trace (cond b (Loads (Lists number (listing_of root))) (Loads Begun)) (cond (not (nat_eq n number)) [] (Number n ∷ attempt))
    by true e = (
      either (not (nat_eq n number)),
      subst (λ b. Trace (Loads (Lists number (listing_of root))) (cond (not b) [] (Number n ∷ attempt))) (sym e)
          (subst (λ k. Within number (Number k ∷ attempt) (listing_of root)) (sym (eqb-true n number e))
          (root-within token total update number root is zero_id folder)),
    )
    by false e = (either (not (nat_eq n number)), ap (λ b. cond (not b) [] (Number n ∷ attempt)) e)
with-root token total update number root is zero_id folder (Page rows t u) = (refl, (token, total, update, is, zero_id, folder, refl))
with-root token total update number root is zero_id folder (Fault code) = (refl, (token, total, update, is, zero_id, folder, refl))

-- a reply to an ask for a page
lists : (number : ℕ) (l : Listing) (attempt : List Shown) → Within number attempt l → (shown : Shown) → Step (Loads (Lists number l)) (taken (Loads (Lists number l)) shown) attempt shown
lists number l attempt within (Text token) = (sym (ap (λ o. reply_verdict o attempt (Text token)) (within-ask number attempt l within)), within)
lists number l attempt within (Number n) = (sym (ap (λ o. reply_verdict o attempt (Number n)) (within-ask number attempt l within)), within)
lists number l attempt within (Page rows total update) =
    (sym (ap (λ o. reply_verdict o attempt (Page rows total update)) (within-ask number attempt l within)), (total, update, attempt, within, refl))
lists number l attempt within (Fault code) =
    (sym (ap (λ o. reply_verdict o attempt (Fault code)) (within-ask number attempt l within)), (code, attempt, within, refl))

-- what is held after a whole listing, and after a page
listed-trace : (number : ℕ) (attempt : List Shown) (rows : List ObjectRow) (ws : List Waiting) → Between number attempt rows ws → Trace (listed number rows ws) attempt
listed-trace number attempt rows [] b = b
listed-trace number attempt rows (w ∷ ws) b = within-begins number attempt rows w ws b

page-trace : (number : ℕ) (l : Listing) (older : List Shown) → (within : Within number older l) → (page : List ObjectRow) (total update : ℕ) → fits l page ≡ true →
    Trace (after_page number l page) (Number number ∷ Page page total update ∷ older)
page-trace number l older within page total update fit = by (nat_eq (length (l.part ++ page)) (listed_children l)) refl
  where
    by : (b : Bool) → nat_eq (length (l.part ++ page)) (listed_children l) ≡ b →
        Trace (cond b (listed number (put_rows (l.part ++ page) l.rows) (put_containers (l.part ++ page) (others_waiting l)))
        (Loads (Lists number (record { rows = l.rows; waiting = l.waiting; part = l.part ++ page }))))
        (Number number ∷ Page page total update ∷ older)
    by true e =
        listed-trace number (Number number ∷ Page page total update ∷ older) (put_rows (l.part ++ page) l.rows) (put_containers (l.part ++ page) (others_waiting l))
        (ends number older l within page total update fit (eqb-true _ _ e ∙ within-children number older l within))
    by false e =
        goes-on number older l within page total update fit
        (λ same. eqb-false (length (l.part ++ page)) (listed_children l) e (same ∙ sym (within-children number older l within)))

-- after an odd number of replies the number is asked for
odd-ask : (attempt : List Shown) → is_odd attempt ≡ true → ask_in attempt ≡ Some AskNumber
odd-ask attempt odd =
    ap (λ b. cond b (Some AskNumber) (cond (nat_eq (length attempt) 0) (Some Token) (cond (nat_eq (length attempt) 2) (Some (Metadata 0))
    (option_map (λ (w : Waiting). Children w.id (children_among (rows_in attempt) w)) (next_container attempt))))) odd

-- a reply to the ask for the number after a page, or after a refusal in its place
module _ (number : ℕ) (l : Listing) (older : List Shown) (within : Within number older l) where
  -- a number other than N ends the attempt
  other-number : (last : Shown) (n : ℕ) → number_in (last ∷ older) ≡ Some number → nat_eq n number ≡ false →
      (attempt : List Shown) → cond (differs (number_in (last ∷ older)) n) [] attempt ≡ []
  other-number last n numbered e attempt =
      ap (λ o. cond (differs o n) [] attempt) numbered ∙ ap (λ b. cond (not b) [] attempt) e

  -- how a number is judged
  judged : (last : Shown) (n : ℕ) → number_in (last ∷ older) ≡ Some number →
      verdict_in (last ∷ older) (Number n) ≡ cond (not (nat_eq n number)) fine (page_verdict (Some within.first) (rows_in older) last)
  judged last n numbered =
      ap (λ o. reply_verdict o (last ∷ older) (Number n)) (odd-ask (last ∷ older) (ap not within.even))
      ∙ (λ i. cond (differs (numbered i) n) fine (page_verdict (within-next number older l within i) (rows_in older) last))

  page : (rows : List ObjectRow) (total update : ℕ) (shown : Shown) →
      Step (Loads (HasPage number l (Some rows))) (taken (Loads (HasPage number l (Some rows))) shown) (Page rows total update ∷ older) shown
  page rows total update (Text token) = (
    sym (ap (λ o. reply_verdict o (Page rows total update ∷ older) (Text token)) (odd-ask (Page rows total update ∷ older) (ap not within.even))),
    (total, update, older, within, refl),
  )
  page rows total update (Number n) = by (nat_eq n number) refl
    where
      attempt : List Shown
      attempt = Page rows total update ∷ older

      fit_verdict : Bool → Verdict
      fit_verdict b = cond b fine (Tears within.first.id)

      by_fit : nat_eq n number ≡ true → (f : Bool) → fits l rows ≡ f →
          Step (Loads (HasPage number l (Some rows))) (cond f (Goes (after_page number l rows)) (Tears (listed_id l))) (Page rows total update ∷ older) (Number n)
      by_fit e true f = (
        sym (judged (Page rows total update) n within.numbered
            ∙ ap (λ b. cond (not b) fine (fit_verdict (can_be (rows_in older) within.first rows))) e
            ∙ ap fit_verdict (sym (fits-same number older l within rows) ∙ f)),
        subst (Trace (after_page number l rows))
            (sym ((λ i. cond (differs (within.numbered i) n) [] (Number n ∷ Page rows total update ∷ older))
            ∙ (λ i. cond (not (e i)) [] (Number (eqb-true n number e i) ∷ Page rows total update ∷ older))))
            (page-trace number l older within rows total update f),
      )
      by_fit e false f = (
        ap Tears (within-id number older l within)
            ∙ sym (judged (Page rows total update) n within.numbered
            ∙ ap (λ b. cond (not b) fine (fit_verdict (can_be (rows_in older) within.first rows))) e
            ∙ ap fit_verdict (sym (fits-same number older l within rows) ∙ f)),
        (total, update, older, within, refl),
      )

      by : (b : Bool) → nat_eq n number ≡ b →
          Step (Loads (HasPage number l (Some rows))) (cond b (page_taken number l (Some rows)) (Goes (Loads Begun))) (Page rows total update ∷ older) (Number n)
      by true e = by_fit e (fits l rows) refl
      by false e = (
        sym (judged (Page rows total update) n within.numbered
            ∙ ap (λ b. cond (not b) fine (fit_verdict (can_be (rows_in older) within.first rows))) e),
        other-number (Page rows total update) n within.numbered e (Number n ∷ Page rows total update ∷ older),
      )
  page rows total update (Page others t u) = (
    sym (ap (λ o. reply_verdict o (Page rows total update ∷ older) (Page others t u)) (odd-ask (Page rows total update ∷ older) (ap not within.even))),
    (total, update, older, within, refl),
  )
  page rows total update (Fault code) = (
    sym (ap (λ o. reply_verdict o (Page rows total update ∷ older) (Fault code)) (odd-ask (Page rows total update ∷ older) (ap not within.even))),
    (total, update, older, within, refl),
  )

  no-page : (code : ℕ) (shown : Shown) → Step (Loads (HasPage number l None)) (taken (Loads (HasPage number l None)) shown) (Fault code ∷ older) shown
  no-page code (Text token) = (
    sym (ap (λ o. reply_verdict o (Fault code ∷ older) (Text token)) (odd-ask (Fault code ∷ older) (ap not within.even))),
    (code, older, within, refl),
  )
  no-page code (Number n) = by (nat_eq n number) refl
    where
      by : (b : Bool) → nat_eq n number ≡ b →
          Step (Loads (HasPage number l None)) (cond b (Tears (listed_id l)) (Goes (Loads Begun))) (Fault code ∷ older) (Number n)
      by true e = (
        ap Tears (within-id number older l within)
            ∙ sym (judged (Fault code) n within.numbered ∙ ap (λ b. cond (not b) fine (Tears within.first.id)) e),
        (code, older, within, refl),
      )
      by false e = (
        sym (judged (Fault code) n within.numbered ∙ ap (λ b. cond (not b) fine (Tears within.first.id)) e),
        other-number (Fault code) n within.numbered e (Number n ∷ Fault code ∷ older),
      )
  no-page code (Page rows total update) = (
    sym (ap (λ o. reply_verdict o (Fault code ∷ older) (Page rows total update)) (odd-ask (Fault code ∷ older) (ap not within.even))),
    (code, older, within, refl),
  )
  no-page code (Fault other) = (
    sym (ap (λ o. reply_verdict o (Fault code ∷ older) (Fault other)) (odd-ask (Fault code ∷ older) (ap not within.even))),
    (code, older, within, refl),
  )

-- a complete attempt asks for nothing
copy-ask : (number : ℕ) (attempt : List Shown) (rows : List ObjectRow) → Between number attempt rows [] → ask_in attempt ≡ None
copy-ask number attempt rows b =
    (λ i. cond (b.even i) (Some AskNumber) (cond (some i) (Some Token) (cond (more i) (Some (Metadata 0))
    (option_map (λ (w : Waiting). Children w.id (children_among (rows_in attempt) w)) (between-next number attempt rows [] b i)))))
  where
    some : nat_eq (length attempt) 0 ≡ false
    some = ne_eqb (length attempt) 0 (λ e. absurd (omega (arith, b.long, e)))

    more : nat_eq (length attempt) 2 ≡ false
    more = ne_eqb (length attempt) 2 (λ e. absurd (omega (arith, b.long, e)))

-- any reply
step : (held : Held) (attempt : List Shown) (shown : Shown) → AllByRecursion IsRow (rows_shown shown) → Trace held attempt → Step held (taken held shown) attempt shown
step Idle attempt shown all trace = absurd trace
step (Loads Begun) attempt shown all trace = subst (λ a. Step (Loads Begun) (taken (Loads Begun) shown) a shown) (sym trace) (begun shown)
step (Loads HasToken) attempt shown all trace = subst (λ a. Step (Loads HasToken) (taken (Loads HasToken) shown) a shown) (sym trace.1) (with-token trace.0 shown)
step (Loads (HasNumber number)) attempt shown all trace =
    subst (λ a. Step (Loads (HasNumber number)) (taken (Loads (HasNumber number)) shown) a shown) (sym trace.1) (with-number trace.0 number shown all)
step (Loads (HasRoot number root)) attempt shown all trace =
    subst (λ a. Step (Loads (HasRoot number root)) (taken (Loads (HasRoot number root)) shown) a shown) (sym trace.6)
    (with-root trace.0 trace.1 trace.2 number root trace.3 trace.4 trace.5 shown)
step (Loads (Lists number l)) attempt shown all trace = lists number l attempt trace shown
step (Loads (HasPage number l None)) attempt shown all trace =
    subst (λ a. Step (Loads (HasPage number l None)) (taken (Loads (HasPage number l None)) shown) a shown) (sym trace.3) (no-page number l trace.1 trace.2 trace.0 shown)
step (Loads (HasPage number l (Some rows))) attempt shown all trace =
    subst (λ a. Step (Loads (HasPage number l (Some rows))) (taken (Loads (HasPage number l (Some rows))) shown) a shown) (sym trace.4)
    (page number l trace.2 trace.3 rows trace.0 trace.1 shown)
step (HasCopy number rows) attempt shown all trace =
    (sym (ap (λ o. reply_verdict o attempt shown) (copy-ask number attempt rows trace)), trace)

-- what is held, as the attempt shows it, if there is one
abbrev Follows : Held → Option (List Shown) → Type 0
Follows held None = held ≡ Idle
Follows held (Some attempt) = Trace held attempt

follows-on : (held : Held) (o : Option (List Shown)) (shown : Shown) → AllByRecursion IsRow (rows_shown shown) → Follows held o →
    (verdict_of (taken held shown) ≡ verdict_by o shown)
    × Follows (after_outcome held (taken held shown)) (option_map (λ attempt. after_verdict (verdict_in attempt shown) attempt shown) o)
follows-on held None shown all idle =
    subst (λ (h : Held). (verdict_of (taken h shown) ≡ CannotBeRead) × (after_outcome h (taken h shown) ≡ Idle)) (sym idle) (refl, refl)
follows-on held (Some attempt) shown all trace =
    let s = step held attempt shown all trace in
    (s.0, subst (λ v. Trace (after_outcome held (taken held shown)) (after_verdict v attempt shown)) s.0 s.1)

-- after any turns
follows : (turns : List ReplicaTurn) → ShowsRows turns → Follows (held_by turns) (attempt_of turns)
follows [] all = refl
follows (Begins ∷ older) all = refl
follows (Shows shown ∷ older) all = (follows-on (held_by older) (attempt_of older) shown all.0 (follows older all.1)).1

-- the next ask
asks : (held : Held) (o : Option (List Shown)) → Follows held o → next_ask held ≡ option_and_then ask_in o
asks held None idle = ap next_ask idle
asks held (Some attempt) trace = by held trace
  where
    by : (h : Held) → Trace h attempt → next_ask h ≡ ask_in attempt
    by Idle t = absurd t
    by (Loads Begun) t = sym (ap ask_in t)
    by (Loads HasToken) t = sym (ap ask_in t.1)
    by (Loads (HasNumber number)) t = sym (ap ask_in t.1)
    by (Loads (HasRoot number root)) t = sym (ap ask_in t.6)
    by (Loads (Lists number l)) t = sym (within-ask number attempt l t)
    by (Loads (HasPage number l None)) t = sym (odd-ask attempt (ap is_odd t.3 ∙ ap not t.2.even))
    by (Loads (HasPage number l (Some rows))) t = sym (odd-ask attempt (ap is_odd t.4 ∙ ap not t.3.even))
    by (HasCopy number rows) t = sym (copy-ask number attempt rows t)

pub asks-of_attempts : asks_are_of_attempts
asks-of_attempts turns all = asks (held_by turns) (attempt_of turns) (follows turns all)

pub refusals-of_attempts : refusals_are_of_attempts
refusals-of_attempts turns shown all = (follows-on (held_by turns) (attempt_of turns) shown all.0 (follows turns all.1)).0

-- whether a copy stands
abbrev is_copy : Held → Bool
is_copy Idle = false
is_copy (Loads stage) = false
is_copy (HasCopy number rows) = true

-- a listing is under way while pages are to come
within-incomplete : (number : ℕ) (l : Listing) (attempt : List Shown) → Within number attempt l → length attempt < load_reads (rows_in attempt)
within-incomplete number l attempt within =
    let shown : sum_by row_pages (rows_in attempt) ≡ sum_by row_pages (rows_in within.start) + sum_by row_pages l.part =
    ap (sum_by row_pages) within.shown ∙ sum_by-append row_pages (rows_in within.start) l.part in
    let split : sum_by own_pages l.waiting ≡ own_pages within.first + sum_by own_pages within.others =
    ap (sum_by own_pages) within.waiting ∙ sum_by-cons own_pages within.first within.others in
    let counted = within.at.counted in
    omega (arith, shown, split, counted, within.long, within.at.long, more)
  where
    more : within.pages < own_pages within.first
    more = by within.room
      where
        by : (within.pages ≡ 0) ⊎ (length l.part < within.first.children) → within.pages < own_pages within.first
        by (inl none) = omega (arith, none)
        by (inr some) = omega (arith, some, within.size)

-- exactly a copy's attempt is complete
completes : (held : Held) (attempt : List Shown) → Trace held attempt → is_complete attempt ≡ is_copy held
completes Idle attempt t = absurd t
completes (Loads Begun) attempt t = ap is_complete t
completes (Loads HasToken) attempt t = ap is_complete t.1
completes (Loads (HasNumber number)) attempt t = ap is_complete t.1
completes (Loads (HasRoot number root)) attempt t =
    ap is_complete t.6 ∙ ne_eqb 3 (load_reads (root ∷ [])) (λ e. absurd (omega (arith, e)))
completes (Loads (Lists number l)) attempt t =
    let low = within-incomplete number l attempt t in ne_eqb (length attempt) (load_reads (rows_in attempt)) (λ e. absurd (omega (arith, low, e)))
completes (Loads (HasPage number l None)) attempt t =
    let size : length attempt ≡ suc (length t.1) = ap length t.3 in
    ne_eqb (length attempt) (load_reads (rows_in attempt)) (λ e. absurd (omega (arith, size, t.2.long, t.2.at.long, e)))
completes (Loads (HasPage number l (Some rows))) attempt t =
    let size : length attempt ≡ suc (length t.2) = ap length t.4 in
    ne_eqb (length attempt) (load_reads (rows_in attempt)) (λ e. absurd (omega (arith, size, t.3.long, t.3.at.long, e)))
completes (HasCopy number rows) attempt t =
    let counted : length (asked_in attempt) + 0 ≡ sum_by row_pages (rows_in attempt) = t.counted in
    eq-eqb (length attempt) (load_reads (rows_in attempt)) (omega (arith, t.long, counted))

-- what is said
answers : (held : Held) (o : Option (List Shown)) → Follows held o → says held ≡ says_by o
answers held None idle = ap says idle
answers held (Some attempt) trace =
    by held trace ∙ ap (λ b. cond b (Stands (unwrap_or (number_in attempt) 0)) BehindLoad) (sym (completes held attempt trace))
  where
    by : (h : Held) → Trace h attempt → says h ≡ cond (is_copy h) (Stands (unwrap_or (number_in attempt) 0)) BehindLoad
    by Idle t = absurd t
    by (Loads stage) t = refl
    by (HasCopy number rows) t = sym (ap (λ o. Stands (unwrap_or o 0)) t.numbered)

pub answers-of_attempts : answers_are_of_attempts
answers-of_attempts turns all = answers (held_by turns) (attempt_of turns) (follows turns all)

-- what is copied
copies : (held : Held) (o : Option (List Shown)) → Follows held o → copied held ≡ copied_by o
copies held None idle = ap copied idle
copies held (Some attempt) trace =
    by held trace ∙ ap (λ b. cond b (put_rows (rows_in attempt) []) []) (sym (completes held attempt trace))
  where
    by : (h : Held) → Trace h attempt → copied h ≡ cond (is_copy h) (put_rows (rows_in attempt) []) []
    by Idle t = absurd t
    by (Loads stage) t = refl
    by (HasCopy number rows) t = t.placed

pub copies-of_attempts : copies_are_of_attempts
copies-of_attempts turns all = copies (held_by turns) (attempt_of turns) (follows turns all)

-- each even reply is N
even-same : (number other : ℕ) (attempt : List Shown) → number_in attempt ≡ Some number → number_in attempt ≡ Some other → EvenAre number attempt → EvenAre other attempt
even-same number other attempt is also evens =
    let P : Option ℕ → ℕ = λ o. unwrap_or o 0 in
    subst (λ n. EvenAre n attempt) (sym (ap P is) ∙ ap P also) evens

evens : (held : Held) (attempt : List Shown) (n : ℕ) → Trace held attempt → number_in attempt ≡ Some n → EvenAre n attempt
evens Idle attempt n t e = absurd t
evens (Loads Begun) attempt n t e = subst (EvenAre n) (sym t) tt
evens (Loads HasToken) attempt n t e = subst (EvenAre n) (sym t.1) (λ odd. absurd (true≢false (sym odd)), tt)
evens (Loads (HasNumber number)) attempt n t e =
    even-same number n attempt (ap number_in t.1) e
    (subst (EvenAre number) (sym t.1) (λ odd. refl, (λ odd. absurd (true≢false (sym odd)), tt)))
evens (Loads (HasRoot number root)) attempt n t e =
    even-same number n attempt (ap number_in t.6) e
    (subst (EvenAre number) (sym t.6) (λ odd. absurd (true≢false (sym odd)), (λ odd. refl, (λ odd. absurd (true≢false (sym odd)), tt))))
evens (Loads (Lists number l)) attempt n t e = even-same number n attempt t.numbered e t.evens
evens (Loads (HasPage number l None)) attempt n t e =
    even-same number n attempt (ap number_in t.3 ∙ t.2.numbered) e
    (subst (EvenAre number) (sym t.3) (λ odd. absurd (true≢false (sym odd ∙ t.2.even)), t.2.evens))
evens (Loads (HasPage number l (Some rows))) attempt n t e =
    even-same number n attempt (ap number_in t.4 ∙ t.3.numbered) e
    (subst (EvenAre number) (sym t.4) (λ odd. absurd (true≢false (sym odd ∙ t.3.even)), t.3.evens))
evens (HasCopy number rows) attempt n t e = even-same number n attempt t.numbered e t.evens

pub evens-are_the_number : even_replies_are_the_number
evens-are_the_number turns attempt number all is numbered =
    evens (held_by turns) attempt number (subst (Follows (held_by turns)) is (follows turns all)) numbered
