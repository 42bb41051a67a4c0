-- The scans of some of the commands: the oldest ones, and what they grow to.
use Rattle.std.proofs.Common.{◌≡◌, ◌⊎◌, inl, inr, ◌+◌, ◌-◌, ◌<◌, ◌≤◌, ℕ, zero, suc, List, [], ◌∷◌, ◌++◌, length, drop, refl, sym, ap, ◌∙◌, subst, arith}
use Rattle.std.proofs.lemmas.Bool.{cases_lt}
use Rattle.std.proofs.lemmas.List.{drop-drop}
use Rattle.cds_catalog.specs.Library.{FolderMap}
use Rattle.cds_catalog.specs.History.{History, changes_of, end_of}
use Rattle.cds_catalog.proofs.Numbers.{equal_ends_equal_changes}
use Rattle.cds_commands.specs.Commands.{Command, Scans, Grants, Renews, Ends, Ticks, Stops, scans_of, oldest}
use Rattle.cds_commands.specs.ServerLaws.{equal_numbers_have_no_change_between}

pub scans-first : (first : ℕ) (commands : List Command) → scans_of first commands ≡ record { first = first; maps = (scans_of first commands).maps }
scans-first first [] = refl
scans-first first (Scans library ∷ older) = ap (λ (h : History). record { first = h.first; maps = library ∷ h.maps }) (scans-first first older)
scans-first first (Grants moment callback seconds ∷ older) = scans-first first older
scans-first first (Renews moment name seconds ∷ older) = scans-first first older
scans-first first (Ends moment name ∷ older) = scans-first first older
scans-first first (Stops ∷ older) = scans-first first older
scans-first first (Ticks moment ∷ older) = scans-first first older

-- the maps of more commands stand before those of fewer
abbrev pub Grows : ℕ → List Command → List Command → Type 0
Grows first more fewer = (newer : List FolderMap) × ((scans_of first more).maps ≡ newer ++ (scans_of first fewer).maps)

one-more : (first : ℕ) (command : Command) (older fewer : List Command) → Grows first older fewer → Grows first (command ∷ older) fewer
one-more first (Scans library) older fewer g = (library ∷ g.0, ap (λ (l : List FolderMap). library ∷ l) g.1)
one-more first (Grants moment callback seconds) older fewer g = g
one-more first (Renews moment name seconds) older fewer g = g
one-more first (Ends moment name) older fewer g = g
one-more first Stops older fewer g = g
one-more first (Ticks moment) older fewer g = g

pub dropped-grows : (first n : ℕ) (commands : List Command) → Grows first commands (drop n commands)
dropped-grows first zero commands = ([], refl)
dropped-grows first (suc n) [] = ([], refl)
dropped-grows first (suc n) (command ∷ older) = one-more first command older (drop n older) (dropped-grows first n older)

pub oldest-grows : (first : ℕ) (commands : List Command) (j k : ℕ) → j ≤ k → Grows first (oldest k commands) (oldest j commands)
oldest-grows first commands j k l =
    let more : length commands - k + (length commands - j - (length commands - k)) ≡ length commands - j = omega (arith, l) in
    subst (Grows first (oldest k commands))
    (drop-drop (length commands - j - (length commands - k)) (length commands - k) commands ∙ ap (λ (n : ℕ). drop n commands) more)
    (dropped-grows first (length commands - j - (length commands - k)) (oldest k commands))

no-change-between : (first : ℕ) (commands : List Command) (j k : ℕ) → j ≤ k → end_of (scans_of first (oldest j commands)) ≡ end_of (scans_of first (oldest k commands))
    → changes_of (scans_of first (oldest k commands)).maps ≡ changes_of (scans_of first (oldest j commands)).maps
no-change-between first commands j k l e =
    let grows = oldest-grows first commands j k l in
    let older : List FolderMap = (scans_of first (oldest j commands)).maps in
    let early : scans_of first (oldest j commands) ≡ record { first = first; maps = older } = scans-first first (oldest j commands) in
    let late : scans_of first (oldest k commands) ≡ record { first = first; maps = grows.0 ++ older } =
    scans-first first (oldest k commands) ∙ ap (λ (l : List FolderMap). record { first = first; maps = l }) grows.1 in
    ap changes_of grows.1 ∙ equal_ends_equal_changes first grows.0 older (sym (ap end_of late) ∙ sym e ∙ ap end_of early)

pub no-change : equal_numbers_have_no_change_between
no-change first commands j k e = by (cases_lt j k)
  where
    by : (j < k) ⊎ (k ≤ j) → changes_of (scans_of first (oldest j commands)).maps ≡ changes_of (scans_of first (oldest k commands)).maps
    by (inl l) = sym (no-change-between first commands j k (omega (arith, l)) e)
    by (inr l) = no-change-between first commands k j l (sym e)
