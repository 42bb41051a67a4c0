-- Scans that end, and files that came back.
use Rattle.std.proofs.Common.{◌≡◌, ℕ, zero, suc, ◌+◌, ◌<◌, ◌≤◌, List, [], ◌∷◌, ◌++◌, length, Option, refl, sym, ap, subst, ◌∙◌, arith, zero-add}
use Rattle.cds_outside.specs.declared.folder.Entry.{Entry}
use Rattle.cds_outside.specs.Entries.{Contents}
use Rattle.cds_outside.specs.Outside.{Told, Rose, raised}
use Rattle.cds_scan.specs.declared.error.ScanError.{ScanError}
use Rattle.cds_scan.specs.declared.error.ScanError.TheVariants.{FolderFault, TooDeep, Full, TooMany, Mem}
use Rattle.cds_scan.specs.declared.scanned.Scan.{Scan}
use Rattle.cds_scan.specs.Outcomes.{refusals_of}
use Rattle.cds_scan.specs.Found.{FoundState, paired, placed, refusals_from}
use Rattle.cds_scan.specs.Scanning.{CameBack, Covers, GotThrough, IsRefused, IsScan, IsStop, climbed, faults_in}
use Rattle.cds_scan.specs.Walking.{IsFolderFault, IsStepFault, NotTaken, Reached, Walked}
use Rattle.cds_scan.proofs.Reaching.{reached_later}

pub got_through : (contents : Option Contents) (seen : List Entry) (found : FoundState) (before now : ℕ) (reached : Reached contents seen found before now) → length seen ≤ 1048576 → GotThrough contents seen reached.outcomes
got_through contents seen found before now reached few = record {
  each = reached.each;
  few = few;
  room = omega (arith, reached.kept, reached.room);
}

module _ (tree : Option (List Entry)) (contents : Option Contents) (seen : List Entry) (found : FoundState) (before now : ℕ) (reached : Reached contents seen found before now) where
  unread : Covers (faults_in (refusals_from [] (refusals_of reached.outcomes))) before now
  unread = subst (λ refusals. Covers (faults_in refusals) before now) reached.refused reached.faults

  pub stop_deep : (bytes : ℕ) → length seen < 1048576 → NotTaken tree contents seen found (TooDeep bytes) → IsStop tree contents before now (TooDeep bytes)
  stop_deep bytes few stop = record {
    seen = seen;
    outcomes = reached.outcomes;
    at = stop.entry;
    told = stop.told;
    through = got_through contents seen found before now reached (omega arith);
    unread = unread;
    stops = (few, stop.fault);
  }

  pub stop_full : (objects : ℕ) → length seen < 1048576 → NotTaken tree contents seen found (Full objects) → IsStop tree contents before now (Full objects)
  stop_full objects few stop = record {
    seen = seen;
    outcomes = reached.outcomes;
    at = stop.entry;
    told = stop.told;
    through = got_through contents seen found before now reached (omega arith);
    unread = unread;
    stops = (stop.fault.0, few, sym reached.kept ∙ stop.fault.1, stop.fault.2);
  }

  pub stop_many : (entry : Entry) → length seen ≡ 1048576 → Told tree (λ entries. (rest : List Entry) × (entries ≡ seen ++ entry ∷ rest)) → IsStop tree contents before now TooMany
  stop_many entry all told = record {
    seen = seen;
    outcomes = reached.outcomes;
    at = entry;
    told = told;
    through = got_through contents seen found before now reached (omega arith);
    unread = unread;
    stops = all;
  }

  pub refused_step : (old new : ℕ) (error : ScanError) → length seen < 1048576 → IsStepFault tree contents seen found old new error → IsRefused tree contents old new before now error
  refused_step old new FolderFault few fault = fault
  refused_step old new Mem few fault = tt
  refused_step old new TooMany few fault = absurd fault
  refused_step old new (TooDeep bytes) few fault = stop_deep bytes few fault
  refused_step old new (Full objects) few fault = stop_full objects few fault

-- what was walked, as lists
pub scan_of : (tree : Option (List Entry)) (contents : Option Contents) (found : FoundState) (before now : ℕ) (scan : Scan) → Walked tree contents found before now → placed scan.records ≡ found.records → paired scan.refused ≡ found.refused → IsScan tree contents scan
scan_of tree contents found before now scan walked records refused = record {
  seen = walked.seen;
  outcomes = walked.reached.outcomes;
  whole = walked.whole;
  told = walked.told;
  through = got_through contents walked.seen found before now walked.reached walked.few;
  records = records ∙ walked.reached.records;
  refused = refused ∙ walked.reached.refused;
}

climbed_on : (k j count : ℕ) → climbed j (climbed k count) ≡ climbed (k + j) count
climbed_on zero j count = ap (λ n. climbed n count) (sym (zero-add j))
climbed_on (suc k) j count =
    let same : suc (k + j) ≡ suc k + j = omega arith in
    climbed_on k j (raised count 1) ∙ ap (λ n. climbed n count) same

-- files that came back in one call, and then in another
pub back_then : (a b c d e f : ℕ) → CameBack a b c d → CameBack b e d f → CameBack a e c f
back_then a b c d e f first second = (
  first.0 + second.0,
  second.1 ∙ ap (climbed second.0) first.1 ∙ climbed_on first.0 second.0 a,
  second.2 ∙ ap (climbed second.0) first.2 ∙ climbed_on first.0 second.0 c,
)

pub back_none : (a b c d : ℕ) → b ≡ a → d ≡ c → CameBack a b c d
back_none a b c d first second = (0, first, second)

pub back_on : (a b c d e f : ℕ) → CameBack a b c d → e ≡ b → f ≡ d → CameBack a e c f
back_on a b c d e f back first second = (back.0, first ∙ back.1, second ∙ back.2)

-- a step's refusal, where the folder tells what it told at first and has counted on
pub refused_at : (tree tree_now : Option (List Entry)) (contents contents_now : Option Contents) (seen : List Entry) (found : FoundState) (before now later old old_now new : ℕ) (error : ScanError) → tree_now ≡ tree → contents_now ≡ contents → old_now ≡ old → Reached contents seen found before now → now ≤ later → length seen < 1048576 → IsStepFault tree_now contents_now seen found old_now new error → IsRefused tree contents old new before later error
refused_at tree tree_now contents contents_now seen found before now later old old_now new error same_tree same_contents same_old reached le few fault =
    let T : Option (List Entry) → Type 0 = λ t. IsStepFault t contents_now seen found old_now new error in
    let C : Option Contents → Type 0 = λ c. IsStepFault tree c seen found old_now new error in
    let N : ℕ → Type 0 = λ n. IsStepFault tree contents seen found n new error in
    refused_step tree contents seen found before later (reached_later contents seen found found before now later reached refl le) old new error few
    (subst N same_old (subst C same_contents (subst T same_tree fault)))

-- a folder's refusal
pub refused_folder : (tree : Option (List Entry)) (contents : Option Contents) (old old_now new before now : ℕ) (error : ScanError) → old_now ≡ old → IsFolderFault old_now new error → IsRefused tree contents old new before now error
refused_folder tree contents old old_now new before now FolderFault same fault = subst (λ n. Rose n new) same fault
refused_folder tree contents old old_now new before now Mem same fault = tt
refused_folder tree contents old old_now new before now TooMany same fault = absurd fault
refused_folder tree contents old old_now new before now (TooDeep bytes) same fault = absurd fault
refused_folder tree contents old old_now new before now (Full objects) same fault = absurd fault

-- what is told stays
pub told_on : (tree tree_now : Option (List Entry)) (P : List Entry → Type 0) → tree_now ≡ tree → Told tree_now P → Told tree P
told_on tree tree_now P same told = subst (λ t. Told t P) same told
