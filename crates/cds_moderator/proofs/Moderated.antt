-- What a moderator keeps of the commands, after one more of them, and which release it finds.
use Rattle.std.proofs.Common.{◌≡◌, inl, inr, ◌+◌, ◌<◌, ◌≤◌, ℕ, Bool, true, false, cond, ◌&&◌, nat_lt, List, [], ◌∷◌, ◌++◌, Option, Some, None, is_some, option_map, refl, sym, ap, ◌∙◌, subst, arith, ltb-true, lt-ltb, le-ltb}
use Rattle.std.proofs.lemmas.List.{append-nil}
use Rattle.cds_catalog.specs.Library.{FolderMap}
use Rattle.cds_catalog.specs.History.{end_of}
use Rattle.cds_store.specs.declared.span.Span.{Span}
use Rattle.cds_commands.specs.Commands.{Command, Scans, Ticks, scans_of}
use Rattle.cds_commands.specs.Releases.{Release, release_size, released_to, may_release, scan_end_within, release_at, and_release, releases_of}
use Rattle.cds_commands.proofs.Scanned.{scans-first}
use Rattle.cds_commands.proofs.Sent.{first-is}
use Rattle.cds_moderator.specs.Moderating.{spans_of, above, last_moment, reached, moderated_by, span_of, scan_span, is_pause_over, is_waiting, is_due, last_within, joined, next_span, with_span, with_release}
use Rattle.cds_moderator.specs.ModeratingLaws.{other_commands_change_nothing}
use Rattle.cds_moderator.proofs.Pending.{filter-twice, end-from, end-below, released-end, span-above, no-span, above-more, Above, spans-above, last-above, last-is}

abbrev maps_of : ℕ → List Command → List FolderMap
maps_of first commands = (scans_of first commands).maps

abbrev released_by : ℕ → List Command → ℕ
released_by first commands = released_to first (releases_of first commands)

-- ---- a scan

abbrev end : ℕ → List FolderMap → ℕ
end first maps = end_of (record { first = first; maps = maps })

same-end : (first : ℕ) (commands : List Command) → end_of (scans_of first commands) ≡ end first (maps_of first commands)
same-end first commands = ap end_of (scans-first first commands)

scanned : (first : ℕ) (library : FolderMap) (older : List Command) → end_of (scans_of first (Scans library ∷ older)) ≡ end first (library ∷ maps_of first older)
scanned first library older = ap end_of (scans-first first (Scans library ∷ older))

pub changed : (first : ℕ) (library : FolderMap) (older : List Command) (span : Span) → span.from < span.to → span ≡ scan_span (scans_of first older) library
    → with_span span (moderated_by first older) ≡ moderated_by first (Scans library ∷ older)
changed first library older span some is =
    let maps : List FolderMap = maps_of first older in
    let released : ℕ = released_by first older in
    let from : span.from ≡ end first maps = ap (λ (s : Span). s.from) is ∙ same-end first older in
    let to : span.to ≡ end first (library ∷ maps) = ap (λ (s : Span). s.to) is ∙ ap (λ (f : ℕ). end f (library ∷ maps)) (first-is first older) in
    let low = end-below first released maps (released-end first older) in
    let more : end first maps < end first (library ∷ maps) = omega (arith, some, from, to) in
    let high : released < end first (library ∷ maps) = omega (arith, more, low) in
    let least = end-from first maps in
    let there : above released (spans_of first (library ∷ maps)) ≡ above released (spans_of first maps) ++ span ∷ [] =
    above-more first released library maps
    ∙ ap (λ (l : List Span). above released (spans_of first maps) ++ l)
    (span-above released (end first maps) (end first (library ∷ maps)) more high ∙ (λ i. record { from = sym from i; to = sym to i } ∷ [])) in
    let at : reached first (end_of (scans_of first (Scans library ∷ older))) ≡ Some span.to =
    ap (reached first) (scanned first library older)
    ∙ ((λ i. cond (lt-ltb first (end first (library ∷ maps)) (omega (arith, more, least)) i) (Some (end first (library ∷ maps))) None) ∙ ap Some (sym to)) in
    λ i. record { pending = sym there i; moment = last_moment (releases_of first older); end = sym at i }

unchanged : (first : ℕ) (library : FolderMap) (older : List Command) → end_of (scans_of first (Scans library ∷ older)) ≡ end_of (scans_of first older)
    → moderated_by first (Scans library ∷ older) ≡ moderated_by first older
unchanged first library older same =
    let maps : List FolderMap = maps_of first older in
    let released : ℕ = released_by first older in
    let one = scanned first library older in
    let two = same-end first older in
    let less : end first (library ∷ maps) ≤ end first maps = omega (arith, same, one, two) in
    let there : above released (spans_of first (library ∷ maps)) ≡ above released (spans_of first maps) =
    above-more first released library maps
    ∙ (ap (λ (l : List Span). above released (spans_of first maps) ++ above released l) (no-span (end first maps) (end first (library ∷ maps)) less) ∙ append-nil (above released (spans_of first maps))) in
    λ i. record { pending = there i; moment = last_moment (releases_of first older); end = reached first (same i) }

pub others : other_commands_change_nothing
others = λ first older. ((λ library. unchanged first library older), (λ moment callback seconds. refl), (λ moment name seconds. refl), (λ moment name. refl), refl)

-- ---- which release comes

paused : (now : ℕ) (releases : List Release) → may_release now releases ≡ is_pause_over now (last_moment releases)
paused now [] = refl
paused now (release ∷ older) = refl

module _ (first now : ℕ) (older : List Command) where
  abbrev releases : List Release
  releases = releases_of first older

  abbrev maps : List FolderMap
  maps = maps_of first older

  abbrev released : ℕ
  released = released_by first older

  abbrev pause : Bool
  pause = is_pause_over now (last_moment releases)

  abbrev found : ℕ → Release
  found f = record { moment = now; from = released_to f releases; to = scan_end_within f (released_to f releases + release_size) maps }

  release-found : release_at now (scans_of first older) releases ≡ cond (nat_lt released (end first maps) && pause) (Some (found first)) None
  release-found =
      (λ i. cond (nat_lt (released_to (first-is first older i) releases) (same-end first older i) && may_release now releases) (Some (found (first-is first older i))) None)
      ∙ ap (λ (b : Bool). cond (nat_lt released (end first maps) && b) (Some (found first)) None) (paused now releases)

  -- the spans that wait, and the release that they make
  abbrev Finds : List Span → Type 0
  Finds spans =
      (is_waiting spans ≡ nat_lt released (end first maps)) × (cond (nat_lt released (end first maps)) (joined spans) None ≡ cond (nat_lt released (end first maps)) (Some (span_of (found first))) None)

  finds : Finds (above released (spans_of first maps))
  finds = by (spans-above first maps released (released-end first older))
    where
      last : scan_end_within first (released + release_size) maps ≡ last_within (released + release_size) released (above released (spans_of first maps))
      last = last-is first (released + release_size) released maps (released-end first older) (omega arith)

      by : Above first maps released → Finds (above released (spans_of first maps))
      by (inl k) =
          let at = k.0 in
          let no = le-ltb released (end first maps) (omega (arith, at)) in
          (ap is_waiting k.1 ∙ sym no, (λ i. cond (no i) (joined (above released (spans_of first maps))) None) ∙ sym (λ i. cond (no i) (Some (span_of (found first))) None))
      by (inr k) =
          let yes = lt-ltb released (end first maps) k.0 in
          let span : Span = k.1.0 in
          let spans : List Span = k.1.1 in
          let made : joined (above released (spans_of first maps)) ≡ Some (span_of (found first)) =
          ap joined k.1.2
          ∙ ((λ i. Some (record { from = k.1.3 i; to = last_within (k.1.3 i + release_size) (k.1.3 i) (sym k.1.2 i) }))
          ∙ (λ i. Some (record { from = released; to = sym last i }))) in
          (ap is_waiting k.1.2 ∙ sym yes, ap (λ (o : Option Span). cond (nat_lt released (end first maps)) o None) made)

  pub due-is : is_due now (moderated_by first older) ≡ is_some (release_at now (scans_of first older) releases)
  due-is = ap (λ (b : Bool). b && pause) finds.0 ∙ (by (nat_lt released (end first maps) && pause) ∙ ap is_some (sym release-found))
    where
      by : (b : Bool) → b ≡ is_some (cond b (Some (found first)) None)
      by true = refl
      by false = refl

  pub next-is : next_span now (moderated_by first older) ≡ option_map span_of (release_at now (scans_of first older) releases)
  next-is = ap (λ (b : Bool). cond (b && pause) (joined (above released (spans_of first maps))) None) finds.0 ∙ (by (nat_lt released (end first maps)) pause finds.1 ∙ ap (option_map span_of) (sym release-found))
    where
      by : (b p : Bool) → cond b (joined (above released (spans_of first maps))) None ≡ cond b (Some (span_of (found first))) None
          → cond (b && p) (joined (above released (spans_of first maps))) None ≡ option_map span_of (cond (b && p) (Some (found first)) None)
      by true true e = e
      by true false e = refl
      by false p e = refl

  -- a tick
  pub ticked : with_release now (option_map span_of (release_at now (scans_of first older) releases)) (moderated_by first older) ≡ moderated_by first (Ticks now ∷ older)
  ticked = by (nat_lt released (end first maps) && pause) release-found
    where
      After : Option Release → Type 0
      After o = with_release now (option_map span_of o) (moderated_by first older)
          ≡ record {
            pending = above (released_to first (and_release o releases)) (spans_of first maps);
            moment = last_moment (and_release o releases);
            end = reached first (end_of (scans_of first older));
          }

      to : ℕ
      to = scan_end_within first (released + release_size) maps

      reach : released ≤ to
      reach = let last = last-is first (released + release_size) released maps (released-end first older) (omega arith) in
          let low = last-above released (released + release_size) released (spans_of first maps) (omega arith) in omega (arith, last, low)

      by : (b : Bool) → release_at now (scans_of first older) releases ≡ cond b (Some (found first)) None → After (release_at now (scans_of first older) releases)
      by true e =
          subst After (sym e)
          (λ i. record {
            pending = filter-twice (λ (s : Span). nat_lt to s.to) (λ (s : Span). nat_lt released s.to) (λ s h. let m = ltb-true to s.to h in lt-ltb released s.to (omega (arith, m, reach))) (spans_of first maps) i;
            moment = Some now;
            end = reached first (end_of (scans_of first older));
          })
      by false e = subst After (sym e) refl
