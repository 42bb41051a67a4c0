-- How a listing goes on with a page, and how a load ends with one.
use Rattle.std.proofs.Common.{◌≡◌, ℕ, Bool, true, false, cond, ◌&&◌, nat_eq, List, [], ◌∷◌, ◌++◌, length, drop, Err, refl, sym, ap, ◌∙◌, subst, true≢false}
use Rattle.cds_object.specs.Object.{ObjectRow}
use Rattle.cds_object.specs.declared.event.Event.{Event}
use Rattle.cds_load.specs.Stages.{Lists, HasCopy, Waiting, Listing as Progress, put_rows, put_containers, others_waiting, listed, listed_children, after_page, Loads}
use Rattle.cds_replica.specs.CopyState.{KeptCopy}
use Rattle.cds_replica.specs.Ended.{end_count, whole_rows, is_end, IsRefusal}
use Rattle.cds_replica.specs.Steps.{IsStep, leads_to}
use Rattle.cds_replica.specs.State.{KeptPhase, Copies}
use Rattle.cds_replica.specs.Phases.{ends_load, answer_of}
use Rattle.cds_replica.specs.declared.count_error.CountError.{CountError}
use Rattle.cds_replica.specs.declared.count_error.CountError.TheVariants.{Jump, Torn, Mem}
use Rattle.cds_replica.specs.declared.error.AnswerError.{AnswerError}
use Rattle.cds_replica.proofs.KeptEnding.{ends-listed}
use Rattle.cds_load.specs.Outcome.{Outcome, outcome_map}

others-dropped : (rows part : List ObjectRow) (ws : List Waiting) → others_waiting (record { rows = rows; waiting = ws; part = part }) ≡ drop 1 ws
others-dropped rows part [] = refl
others-dropped rows part (w ∷ ws) = refl

-- after the last page of a container another is listed, where the load does not end
pub listed-on : (number : ℕ) (listing : Progress) (page rows part : List ObjectRow) (waiting : List Waiting) → is_end listing page ≡ false
    → part ≡ [] → rows ≡ whole_rows listing page → waiting ≡ put_containers (listing.part ++ page) (drop 1 listing.waiting)
    → listed number (whole_rows listing page) (put_containers (listing.part ++ page) (drop 1 listing.waiting)) ≡ Loads (Lists number (record { rows = rows; waiting = waiting; part = part }))
listed-on number listing page rows part waiting on none rows_are waiting_are =
    let others = others-dropped listing.rows listing.part listing.waiting in
    (λ i. listed number (whole_rows listing page) (put_containers (listing.part ++ page) (sym others i)))
    ∙ ends-listed number listing page
    ∙ (λ i. cond (on i) (HasCopy number (whole_rows listing page)) (Loads (Lists number (record { rows = whole_rows listing page; waiting = put_containers (listing.part ++ page) (others i); part = [] }))))
    ∙ (λ i. Loads (Lists number (record { rows = sym rows_are i; waiting = sym waiting_are i; part = sym none i })))

pub page-on : (number : ℕ) (listing after : Progress) (page : List ObjectRow) → nat_eq (length (listing.part ++ page)) (listed_children listing) ≡ true
    → listed number (put_rows (listing.part ++ page) listing.rows) (put_containers (listing.part ++ page) (drop 1 listing.waiting)) ≡ Loads (Lists number after)
    → after_page number listing page ≡ Loads (Lists number after)
page-on number listing after page last is =
    let others = others-dropped listing.rows listing.part listing.waiting in
    (λ i. cond (last i) (listed number (put_rows (listing.part ++ page) listing.rows) (put_containers (listing.part ++ page) (others i)))
    (Loads (Lists number (record { rows = listing.rows; waiting = listing.waiting; part = listing.part ++ page }))))
    ∙ is

and-parts : (a b : Bool) → a && b ≡ true → (a ≡ true) × (b ≡ true)
and-parts true b e = (refl, e)
and-parts false b e = absurd (true≢false (sym e))

-- where a page is its container's last and the load does not end, it is no end
pub not-end : (a b : Bool) → a && b ≡ false → a ≡ true → b ≡ false
not-end true b e f = e
not-end false b e f = absurd (true≢false (sym f))

-- a page that ends the load leads to the copy
pub page-ends : (number : ℕ) (listing : Progress) (page : List ObjectRow) → ends_load listing page ≡ true → after_page number listing page ≡ HasCopy number (whole_rows listing page)
page-ends number listing page ends =
    let parts = and-parts (nat_eq (length (listing.part ++ page)) (listed_children listing)) (is_end listing page) ends in
    (λ i. cond (parts.0 i) (listed number (whole_rows listing page) (put_containers (listing.part ++ page) (others_waiting listing)))
    (Loads (Lists number (record { rows = listing.rows; waiting = listing.waiting; part = listing.part ++ page }))))
    ∙ ends-listed number listing page
    ∙ (λ i. cond (parts.1 i) (HasCopy number (whole_rows listing page)) (Loads (Lists number (record { rows = whole_rows listing page; waiting = put_containers (listing.part ++ page) (others_waiting listing); part = [] }))))

pub end-taken : (number : ℕ) (listing : Progress) (page vec : List ObjectRow) (changes : List Event) (count : Outcome KeptCopy) → ends_load listing page ≡ true → vec ≡ page
    → end_count (whole_rows listing vec) number changes ≡ count → leads_to changes (after_page number listing page) ≡ outcome_map (Copies number) count
end-taken number listing page vec changes count ends same is =
    ap (leads_to changes) (page-ends number listing page ends)
    ∙ (λ i. outcome_map (Copies number) (end_count (whole_rows listing (sym same i)) number changes))
    ∙ ap (outcome_map (Copies number)) is

-- a refusal at the end of a load leaves it as it was
pub end-refused : (number : ℕ) (becomes : Outcome KeptPhase) (count : Outcome KeptCopy) (old new : KeptPhase) (refusal : CountError) (answer : AnswerError)
    → becomes ≡ outcome_map (Copies number) count → IsRefusal count refusal → new ≡ old → answer ≡ answer_of refusal → IsStep becomes old new (Err answer)
end-refused number becomes count old new refusal answer is refused same answered =
    subst (λ (a : AnswerError). IsStep becomes old new (Err a)) (sym answered) (by refusal refused)
  where
    by : (r : CountError) → IsRefusal count r → IsStep becomes old new (Err (answer_of r))
    by (Jump expected first) e = (is ∙ ap (outcome_map (Copies number)) e, same)
    by (Torn id) e = (is ∙ ap (outcome_map (Copies number)) e, same)
    by Mem e = same
