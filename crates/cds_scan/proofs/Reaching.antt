-- What was found of the entries seen, one entry more at a time.
use Rattle.std.proofs.Common.{◌≡◌, ℕ, ◌+◌, ◌≤◌, inl, inr, cond, List, [], ◌∷◌, ◌++◌, length, Option, None, refl, sym, ap, subst, ◌∙◌, arith, length-append}
use Rattle.std.specs.List.{count_by, cons_option}
use Rattle.std.specs.declared.cmp.Ordering.{Ordering}
use Rattle.std.specs.declared.cmp.Ordering.TheVariants.{Less, Equal, Greater}
use Rattle.std.specs.Ordering.{match_ordering, nat_cmp}
use Rattle.std.specs.BTreeMap.{insert_entry}
use Rattle.std.proofs.lemmas.List.Sums.{sum_by-cons}
use Rattle.std.specs.Cmp.Lexicographic.{slice_cmp}
use Rattle.cds_outside.specs.declared.folder.Entry.{Entry}
use Rattle.cds_outside.specs.Entries.{Contents}
use Rattle.cds_outside.specs.Outside.{Rose}
use Rattle.cds_flac.specs.declared.error.FlacError.{FlacError}
use Rattle.cds_flac.specs.declared.error.FlacError.TheVariants.{NotFlac, NoStreamInfo, BadStreamInfo, Forbidden, Truncated, BadComment, TooLong, ReadFault, Mem}
use Rattle.cds_object.specs.declared.record.Record.{Record}
use Rattle.cds_object.specs.Path.{path_cmp}
use Rattle.cds_catalog.specs.Library.{FolderMap, map_from, map_of}
use Rattle.cds_scan.specs.declared.scanned.RefusedFile.{RefusedFile}
use Rattle.cds_scan.specs.Outcomes.{AreOutcomes, IsOutcome, Outcome, Kept, Refused, Passed, kept_of, records_of, refused_of, refusals_of}
use Rattle.cds_scan.specs.Found.{Adds, FoundState, Refusals, paired, put_refusal, refusals_from}
use Rattle.cds_scan.specs.Reading.{FaultRose}
use Rattle.cds_scan.specs.Scanning.{Covers, faults_in, is_read_fault}
use Rattle.cds_scan.specs.Walking.{OutcomeRose, Reached, TakesEntry}

outcomes_more : (contents : Option Contents) (es : List Entry) (os : List Outcome) (e : Entry) (o : Outcome) → AreOutcomes contents es os → IsOutcome contents e o → AreOutcomes contents (es ++ e ∷ []) (os ++ o ∷ [])
outcomes_more contents [] [] e o all is = (is, tt)
outcomes_more contents [] (x ∷ os) e o all is = absurd all
outcomes_more contents (x ∷ es) [] e o all is = absurd all
outcomes_more contents (x ∷ es) (y ∷ os) e o all is = (all.0, outcomes_more contents es os e o all.1 is)

-- a record is kept behind the others
keeps : (os : List Outcome) (r : Record) → records_of (os ++ Kept r ∷ []) ≡ records_of os ++ r ∷ []
keeps [] r = refl
keeps (Kept x ∷ os) r = ap (λ rs. x ∷ rs) (keeps os r)
keeps (Refused x ∷ os) r = keeps os r
keeps (Passed ∷ os) r = keeps os r

keeps_none : (os : List Outcome) (o : Outcome) → kept_of o ≡ None → records_of (os ++ o ∷ []) ≡ records_of os
keeps_none [] o none = ap (λ x. cons_option x []) none
keeps_none (Kept x ∷ os) o none = ap (λ rs. x ∷ rs) (keeps_none os o none)
keeps_none (Refused x ∷ os) o none = keeps_none os o none
keeps_none (Passed ∷ os) o none = keeps_none os o none

refuses : (os : List Outcome) (file : RefusedFile) → refusals_of (os ++ Refused file ∷ []) ≡ refusals_of os ++ file ∷ []
refuses [] file = refl
refuses (Kept x ∷ os) file = refuses os file
refuses (Refused x ∷ os) file = ap (λ fs. x ∷ fs) (refuses os file)
refuses (Passed ∷ os) file = refuses os file

refuses_none : (os : List Outcome) (o : Outcome) → refused_of o ≡ None → refusals_of (os ++ o ∷ []) ≡ refusals_of os
refuses_none [] o none = ap (λ x. cons_option x []) none
refuses_none (Kept x ∷ os) o none = refuses_none os o none
refuses_none (Refused x ∷ os) o none = ap (λ fs. x ∷ fs) (refuses_none os o none)
refuses_none (Passed ∷ os) o none = refuses_none os o none

map_more : (m : FolderMap) (rs : List Record) (r : Record) → map_from m (rs ++ r ∷ []) ≡ insert_entry path_cmp (map_from m rs) r.path r.content
map_more m [] r = refl
map_more m (x ∷ rs) r = map_more (insert_entry path_cmp m x.path x.content) rs r

refusals_more : (m : Refusals) (fs : List RefusedFile) (file : RefusedFile) → refusals_from m (fs ++ file ∷ []) ≡ put_refusal (refusals_from m fs) file
refusals_more m [] file = refl
refusals_more m (x ∷ fs) file = refusals_more (put_refusal m x) fs file

-- counts of failed reads
one_if : FlacError → ℕ
one_if error = cond (is_read_fault error) 1 0

faults_cons : (e : List ℕ × FlacError) (es : Refusals) → faults_in (e ∷ es) ≡ one_if e.1 + faults_in es
unfolding one_if
faults_cons e es = sum_by-cons (λ entry. cond (is_read_fault entry.1) 1 0) e es

-- the list of the files has as many
pub count_paired : (files : List RefusedFile) → count_by (λ file. is_read_fault file.error) files ≡ faults_in (paired files)
unfolding one_if
count_paired [] = refl
count_paired (file ∷ files) =
    sum_by-cons (λ f. cond (is_read_fault f.error) 1 0) file files
    ∙ ap (λ n. one_if file.error + n) (count_paired files)
    ∙ sym (faults_cons (file.path, file.error) (paired files))

chosen : (order : Ordering) (path : List ℕ) (error : FlacError) (e : List ℕ × FlacError) (es behind : Refusals) → faults_in behind ≤ faults_in es + one_if error → faults_in (match_ordering order ((path, error) ∷ e ∷ es) ((e.0, error) ∷ es) (e ∷ behind)) ≤ faults_in (e ∷ es) + one_if error
chosen Less path error e es behind more = omega (arith, faults_cons (path, error) (e ∷ es))
chosen Equal path error e es behind more = omega (arith, faults_cons (e.0, error) es, faults_cons e es)
chosen Greater path error e es behind more = omega (arith, faults_cons e behind, faults_cons e es, more)

faults_put : (m : Refusals) (file : RefusedFile) → faults_in (put_refusal m file) ≤ faults_in m + one_if file.error
faults_put [] file = omega (arith, faults_cons (file.path, file.error) [])
faults_put (e ∷ es) file =
    chosen (slice_cmp nat_cmp file.path e.0) file.path file.error e es (insert_entry (slice_cmp nat_cmp) es file.path file.error) (faults_put es file)

covers_later : (n start before now : ℕ) → Covers n start before → before ≤ now → Covers n start now
covers_later n start before now (inl h) le = inl (omega arith)
covers_later n start before now (inr h) le = inr (omega arith)

covers_fewer : (m n start now : ℕ) → m ≤ n → Covers n start now → Covers m start now
covers_fewer m n start now le (inl h) = inl (omega arith)
covers_fewer m n start now le (inr h) = inr h

covers_more : (n start before now : ℕ) → Covers n start before → Rose before now → before ≤ now → Covers (n + 1) start now
covers_more n start before now (inl h) (inl rose) le = inl (omega arith)
covers_more n start before now (inr h) (inl rose) le = inr (omega arith)
covers_more n start before now covers (inr rose) le = inr rose

-- the count covers one refusal more
covers_put : (error : FlacError) (n start before now : ℕ) → Covers n start before → FaultRose error before now → before ≤ now → Covers (n + one_if error) start now
unfolding one_if
covers_put NotFlac n start before now covers rose le = covers_fewer (n + 0) n start now (omega arith) (covers_later n start before now covers le)
covers_put NoStreamInfo n start before now covers rose le = covers_fewer (n + 0) n start now (omega arith) (covers_later n start before now covers le)
covers_put BadStreamInfo n start before now covers rose le = covers_fewer (n + 0) n start now (omega arith) (covers_later n start before now covers le)
covers_put (Forbidden at) n start before now covers rose le = covers_fewer (n + 0) n start now (omega arith) (covers_later n start before now covers le)
covers_put (Truncated at) n start before now covers rose le = covers_fewer (n + 0) n start now (omega arith) (covers_later n start before now covers le)
covers_put (BadComment at) n start before now covers rose le = covers_fewer (n + 0) n start now (omega arith) (covers_later n start before now covers le)
covers_put TooLong n start before now covers rose le = covers_fewer (n + 0) n start now (omega arith) (covers_later n start before now covers le)
covers_put ReadFault n start before now covers rose le = covers_more n start before now covers rose le
covers_put Mem n start before now covers rose le = covers_fewer (n + 0) n start now (omega arith) (covers_later n start before now covers le)

module _ (contents : Option Contents) (seen : List Entry) (entry : Entry) (old new : FoundState) (start before now : ℕ) (reached : Reached contents seen old start before) (le : before ≤ now) where
  still : faults_in new.refused ≤ faults_in old.refused → Covers (faults_in new.refused) start now
  still fewer = covers_fewer (faults_in new.refused) (faults_in old.refused) start now fewer (covers_later (faults_in old.refused) start before now reached.faults le)

  more : (o : Outcome) → IsOutcome contents entry o → Adds o old new → OutcomeRose o before now → Reached contents (seen ++ entry ∷ []) new start now
  more (Kept r) is adds rose =
      let os = reached.outcomes in
      let same : new.refused ≡ old.refused = ap (λ s. s.refused) adds.1 in
      record {
        outcomes = os ++ Kept r ∷ [];
        each = outcomes_more contents seen os entry (Kept r) reached.each is;
        records =
            ap (λ s. s.records) adds.1
            ∙ ap (λ m. insert_entry path_cmp m r.path r.content) reached.records
            ∙ sym (map_more [] (records_of os) r)
            ∙ ap map_of (sym (keeps os r));
        refused = same ∙ reached.refused ∙ ap (refusals_from []) (sym (refuses_none os (Kept r) refl));
        kept = ap (λ s. s.kept) adds.1 ∙ ap (λ n. n + 1) reached.kept ∙ sym (ap length (keeps os r) ∙ length-append (records_of os) (r ∷ []));
        room = omega (arith, ap (λ s. s.kept) adds.1, adds.0);
        faults = still (subst (λ m. faults_in m ≤ faults_in old.refused) (sym same) (omega arith));
      }
  more (Refused file) is adds rose =
      let os = reached.outcomes in
      let same : new.refused ≡ put_refusal old.refused file = ap (λ s. s.refused) adds in
      record {
        outcomes = os ++ Refused file ∷ [];
        each = outcomes_more contents seen os entry (Refused file) reached.each is;
        records = ap (λ s. s.records) adds ∙ reached.records ∙ ap map_of (sym (keeps_none os (Refused file) refl));
        refused =
            same
            ∙ ap (λ m. put_refusal m file) reached.refused
            ∙ sym (refusals_more [] (refusals_of os) file)
            ∙ ap (refusals_from []) (sym (refuses os file));
        kept = ap (λ s. s.kept) adds ∙ reached.kept ∙ ap length (sym (keeps_none os (Refused file) refl));
        room = omega (arith, ap (λ s. s.kept) adds, reached.room);
        faults =
            subst (λ m. Covers (faults_in m) start now) (sym same) (
            covers_fewer (faults_in (put_refusal old.refused file)) (faults_in old.refused + one_if file.error) start now
            (faults_put old.refused file)
            (covers_put file.error (faults_in old.refused) start before now reached.faults rose le)
            );
      }
  more Passed is adds rose =
      let os = reached.outcomes in
      let same : new.refused ≡ old.refused = ap (λ s. s.refused) adds in
      record {
        outcomes = os ++ Passed ∷ [];
        each = outcomes_more contents seen os entry Passed reached.each is;
        records = ap (λ s. s.records) adds ∙ reached.records ∙ ap map_of (sym (keeps_none os Passed refl));
        refused = same ∙ reached.refused ∙ ap (refusals_from []) (sym (refuses_none os Passed refl));
        kept = ap (λ s. s.kept) adds ∙ reached.kept ∙ ap length (sym (keeps_none os Passed refl));
        room = omega (arith, ap (λ s. s.kept) adds, reached.room);
        faults = still (subst (λ m. faults_in m ≤ faults_in old.refused) (sym same) (omega arith));
      }

  -- an entry that was taken
  pub reached_more : TakesEntry contents entry old new before now → Reached contents (seen ++ entry ∷ []) new start now
  reached_more takes = more takes.outcome takes.is takes.adds takes.rose

-- nothing was seen yet
pub reached_none : (contents : Option Contents) (found : FoundState) (start : ℕ) → found ≡ record { records = []; refused = []; kept = 0 } → Reached contents [] found start start
reached_none contents found start is = record {
  outcomes = [];
  each = tt;
  records = ap (λ s. s.records) is;
  refused = ap (λ s. s.refused) is;
  kept = ap (λ s. s.kept) is;
  room = omega (arith, ap (λ s. s.kept) is);
  faults = subst (λ m. Covers (faults_in m) start start) (sym (ap (λ s. s.refused) is)) (inl (omega arith));
}

-- the same found, where the count of faults did not fall since
pub reached_later : (contents : Option Contents) (seen : List Entry) (old new : FoundState) (start before now : ℕ) → Reached contents seen old start before → new ≡ old → before ≤ now → Reached contents seen new start now
reached_later contents seen old new start before now reached same le =
    let P : FoundState → Type 0 = λ found. Reached contents seen found start now in
    subst P (sym same) (record {
      outcomes = reached.outcomes;
      each = reached.each;
      records = reached.records;
      refused = reached.refused;
      kept = reached.kept;
      room = reached.room;
      faults = covers_later (faults_in old.refused) start before now reached.faults le;
    })
