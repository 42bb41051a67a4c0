-- No reply to a read of a load jumps: only changes do.
use Rattle.std.proofs.Common.{◌≡◌, ℕ, Bool, true, false, cond, nat_eq, ◌&&◌, List, [], ◌∷◌, Option, Some, None, refl, sym, ap, ◌∙◌, true≢false}
use Rattle.cds_object.specs.Object.{ObjectRow, is_folder}
use Rattle.cds_load.specs.declared.exchange.Shown.{Shown}
use Rattle.cds_load.specs.declared.exchange.Shown.TheVariants.{Text, Number, Page}
use Rattle.cds_load.specs.Outcome.{Outcome, Goes, CannotBeRead, Jumps, Tears}
use Rattle.cds_load.specs.Stages.{Held, Idle, Loads, HasCopy, Stage, Begun, HasToken, HasNumber, HasRoot, Lists, HasPage, Listing, listed_id, fits, after_page, root_taken, page_taken, stage_taken, taken}

abbrev jumps : Outcome Held → Bool
jumps (Goes held) = false
jumps CannotBeRead = false
jumps (Jumps expected first) = true
jumps (Tears id) = false

root-stays : (number : ℕ) (rows : List ObjectRow) → jumps (root_taken number rows) ≡ false
root-stays number [] = refl
root-stays number (row ∷ []) = by (nat_eq row.id 0 && is_folder row.content)
  where
    by : (b : Bool) → jumps (cond b (Goes (Loads (HasRoot number row))) (Tears 0)) ≡ false
    by true = refl
    by false = refl
root-stays number (row ∷ next ∷ rows) = refl

page-stays : (number : ℕ) (listing : Listing) (page : Option (List ObjectRow)) → jumps (page_taken number listing page) ≡ false
page-stays number listing None = refl
page-stays number listing (Some page) = by (fits listing page)
  where
    by : (b : Bool) → jumps (cond b (Goes (after_page number listing page)) (Tears (listed_id listing))) ≡ false
    by true = refl
    by false = refl

stage-stays : (stage : Stage) (shown : Shown) → jumps (stage_taken stage shown) ≡ false
stage-stays Begun (Text token) = refl
stage-stays HasToken (Number n) = refl
stage-stays (HasNumber number) (Page rows total update) = root-stays number rows
stage-stays (HasRoot number root) (Number n) = refl
stage-stays (Lists number listing) (Page rows total update) = refl
stage-stays (HasPage number listing page) (Number n) = by (nat_eq n number)
  where
    by : (b : Bool) → jumps (cond b (page_taken number listing page) (Goes (Loads Begun))) ≡ false
    by true = page-stays number listing page
    by false = refl
stage-stays stage shown = refl

stays : (held : Held) (shown : Shown) → jumps (taken held shown) ≡ false
stays Idle shown = refl
stays (Loads stage) shown = stage-stays stage shown
stays (HasCopy number rows) shown = refl

pub no-jump : (held : Held) (shown : Shown) (expected first : ℕ) → taken held shown ≡ Jumps expected first → ⊥
no-jump held shown expected first e = true≢false (sym (ap jumps e) ∙ stays held shown)
