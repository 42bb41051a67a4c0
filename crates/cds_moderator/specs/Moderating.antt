-- What the moderation of a server's events keeps of the commands that it accepted (UPnP ContentDirectory:4 on the moderation of
-- events). It is a function of the first number and of these commands, the newest of which is the first. The commands alone say
-- when a release comes and what it tells.
use Rattle.std.specs.Prelude.{◌≡◌, ◌+◌, ◌<◌, ◌≤◌, ◌&&◌, ℕ, Bool, true, false, cond, nat_lt, nat_le, List, [], ◌∷◌, ◌++◌, filter, Option, Some, None}
use Rattle.cds_catalog.specs.Library.{FolderMap}
use Rattle.cds_catalog.specs.History.{History, end_of}
use Rattle.cds_store.specs.declared.span.Span.{Span}
use Rattle.cds_commands.specs.Commands.{Command, scans_of}
use Rattle.cds_commands.specs.Releases.{Release, release_size, release_pause, released_to, releases_of}

-- ---- by the commands

-- the span from one number to another, if it has a change
abbrev pub some_span : ℕ → ℕ → List Span
some_span from to = cond (nat_lt from to) (record { from = from; to = to } ∷ []) []

-- the spans of the scans that made changes, the oldest first
abbrev pub spans_of : ℕ → List FolderMap → List Span
spans_of first [] = []
spans_of first (library ∷ older) =
    spans_of first older ++ some_span (end_of (record { first = first; maps = older })) (end_of (record { first = first; maps = library ∷ older }))

-- the spans that end above a number
abbrev pub above : ℕ → List Span → List Span
above number spans = filter (λ (s : Span). nat_lt number s.to) spans

-- the moment of the last release
abbrev pub last_moment : List Release → Option ℕ
last_moment [] = None
last_moment (release ∷ older) = Some release.moment

-- a number that was reached by some change
abbrev pub reached : ℕ → ℕ → Option ℕ
reached first end = cond (nat_lt first end) (Some end) None

-- the spans that are not released yet, the oldest first; the moment of the last release; and the end of the newest span
pub record Moderated : Type 0 where
  pub pending : List Span
  pub moment : Option ℕ
  pub end : Option ℕ

abbrev pub moderated_by : ℕ → List Command → Moderated
moderated_by first commands = record {
  pending = above (released_to first (releases_of first commands)) (spans_of first (scans_of first commands).maps);
  moment = last_moment (releases_of first commands);
  end = reached first (end_of (scans_of first commands));
}

-- with room for this many more spans
pub record Moderating : Type 0 where
  pub moderated : Moderated
  pub spare : ℕ

-- a moderator has what the commands say
abbrev pub Moderates : Moderating → ℕ → List Command → Type 0
Moderates m first commands = m.moderated ≡ moderated_by first commands

-- the span of a release
abbrev pub span_of : Release → Span
span_of release = record { from = release.from; to = release.to }

-- the span of the changes of one more scan
abbrev pub scan_span : History → FolderMap → Span
scan_span history library =
    record { from = end_of history; to = end_of (record { first = history.first; maps = library ∷ history.maps }) }

-- ---- step by step

-- before any span
abbrev pub nothing_pending : Moderated
nothing_pending = record { pending = []; moment = None; end = None }

-- whether the pause after the last release is over
abbrev pub is_pause_over : ℕ → Option ℕ → Bool
is_pause_over now None = true
is_pause_over now (Some moment) = nat_le (moment + release_pause) now

-- whether a release comes at a moment
abbrev pub is_waiting : List Span → Bool
is_waiting [] = false
is_waiting (span ∷ spans) = true

abbrev pub is_due : ℕ → Moderated → Bool
is_due now m = is_waiting m.pending && is_pause_over now m.moment

-- the last end of some spans that is not above a number, or another number before them
abbrev pub last_within : ℕ → ℕ → List Span → ℕ
last_within most before [] = before
last_within most before (span ∷ spans) = last_within most (cond (nat_le span.to most) span.to before) spans

-- as many of some spans as one release may have, from the first on, as one
abbrev pub joined : List Span → Option Span
joined [] = None
joined (span ∷ spans) = Some (record { from = span.from; to = last_within (span.from + release_size) span.from (span ∷ spans) })

-- the release that comes at a moment, if one comes
abbrev pub next_span : ℕ → Moderated → Option Span
next_span now m = cond (is_due now m) (joined m.pending) None

-- with one more span
abbrev pub with_span : Span → Moderated → Moderated
with_span span m = record { pending = m.pending ++ span ∷ []; moment = m.moment; end = Some span.to }

-- with one more release, if one comes
abbrev pub with_release : ℕ → Option Span → Moderated → Moderated
with_release now None m = m
with_release now (Some span) m = record { pending = above span.to m.pending; moment = Some now; end = m.end }

-- ---- what every moderator keeps

-- how many changes one scan has at most: 65,535 objects go and as many come
abbrev pub scan_size : ℕ
scan_size = 131070

-- each span begins where the one before it ended, has a change, and has no more than one scan
abbrev pub GoOn : ℕ → List Span → Type 0
GoOn from [] = Unit {0}
GoOn from (span ∷ spans) = (span.from ≡ from) × (from < span.to) × (span.to ≤ from + scan_size) × GoOn span.to spans

abbrev pub AreSpans : List Span → Type 0
AreSpans [] = Unit {0}
AreSpans (span ∷ spans) = GoOn span.from (span ∷ spans)

-- the end of the last of some spans, or another number before them
abbrev pub last_end : ℕ → List Span → ℕ
last_end before [] = before
last_end before (span ∷ spans) = last_end span.to spans

-- the newest span, while it is pending, ends at the end of the newest span
abbrev pub EndsAt : Option ℕ → List Span → Type 0
EndsAt end [] = Unit {0}
EndsAt end (span ∷ spans) = end ≡ Some (last_end span.to spans)
