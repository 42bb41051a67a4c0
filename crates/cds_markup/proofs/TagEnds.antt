-- A `>` or `/` ends a start tag that may end.
use Rattle.std.proofs.Common.{◌≡◌, ◌≢◌, ◌==◌, ℕ, if◌then◌else◌, true, false, Option, Some, None, Ok, List, [], ◌∷◌, refl, sym, ap, subst, ◌∙◌, arith, Err}
use Rattle.cds_markup.proofs.Terms.{nat_tests, cases, clash}
use Rattle.cds_base.specs.Characters.{is_blank, is_in_name}
use Rattle.cds_markup.specs.declared.tag.Open.{Open}
use Rattle.cds_markup.specs.declared.tag.Tag.{Tag}
use Rattle.cds_markup.specs.declared.mode.StartTagState.{StartTagState}
use Rattle.cds_markup.specs.declared.mode.StartTagState.TheVariants.{Name, Tagged, Spaced}
use Rattle.cds_markup.specs.declared.mode.RootState.{RootState}
use Rattle.cds_markup.specs.declared.mode.RootState.TheVariants.{StartTag, Slashed}
use Rattle.cds_markup.specs.declared.mode.Mode.{Mode}
use Rattle.cds_markup.specs.declared.mode.Mode.TheVariants.{Inside, Epilog}
use Rattle.cds_markup.specs.declared.mode.Misc.TheVariants.{Blanks}
use Rattle.cds_markup.specs.Next.{Done}
use Rattle.cds_markup.specs.Names.{goes_with, is_whole, name_of}
use Rattle.cds_markup.specs.Tags.{ends_tag, tag_named, tagged_step, step_tag}
use Rattle.cds_markup.specs.Root.{Token, Started, Slash, given, tag_given, step_root}
use Rattle.cds_markup.specs.Wholes.{To, landed, inside_move, is_over, step}
use Rattle.cds_markup.specs.Steps.{opens_after, MovesSo}
use Rattle.cds_markup.specs.Bytes.{Reading, reading}
use Rattle.cds_markup.specs.Reads.{TakenSo, WholeSo}
use Rattle.cds_markup.specs.declared.event.Event.{Event}
use Rattle.cds_markup.specs.declared.error.MachineError.{MachineError}
use Rattle.cds_markup.proofs.Decoded.{whole_token, whole_broken}
use Rattle.cds_markup.specs.TagEnds.{is_tag_over, tag_there, token_at, state_at}

no-blank : (c : ℕ) → ends_tag c ≡ true → is_blank c ≡ false
no-blank c e = grind (arith, nat_tests)

no-name : (c : ℕ) → ends_tag c ≡ true → (is_in_name c ≡ false) × ((c == 58) ≡ false)
no-name c e = (grind (arith, nat_tests), grind (arith, nat_tests))

tagged : (tag : Tag) (c : ℕ) → ends_tag c ≡ true → tagged_step tag c ≡ Done (tag, c)
tagged tag c e = rw (no-blank c e, e) refl

goes-none : (first : List ℕ) (second : Option (List ℕ)) (c : ℕ) → ends_tag c ≡ true → is_whole second ≡ true → goes_with first second c ≡ None
goes-none first None c e w = rw ((no-name c e).0, (no-name c e).1) refl
goes-none first (Some []) c e w = clash w refl
goes-none first (Some (b ∷ more)) c e w = rw ((no-name c e).0) refl

over : (t : StartTagState) (c : ℕ) → ends_tag c ≡ true → is_tag_over t ≡ true → step_tag t c ≡ Done (tag_there t, c)
over (Name n) c e w = rw (goes-none n.first n.second c e w, w) (tagged (tag_named (name_of n)) c e)
over (Tagged tag) c e w = tagged tag c e
over (Spaced tag) c e w = rw (no-blank c e, e) refl
over t c e w = clash w refl

ended : (opens : List Open) (tag : Tag) (c : ℕ) → tag_given opens (tag, c) ≡ given (token_at c tag) (opens_after (token_at c tag) opens) (state_at c)
ended opens tag c = cases (c == 62) (λ e. rw e refl) (λ e. rw e refl)

pub root_ends : (t : StartTagState) (now : RootState) (tag : Tag) (opens : List Open) (c : ℕ) → ends_tag c ≡ true → is_tag_over t ≡ true → tag ≡ tag_there t → now ≡ state_at c
    → step_root (StartTag t) opens c ≡ Done (given (token_at c tag) (opens_after (token_at c tag) opens) now)
root_ends t now tag opens c e w same goes =
    rw (over t c e w, same, goes) (ap Done (ended opens (tag_there t) c))

inside : (opens : List Open) (root_state : RootState) → root_state ≡ Slashed → is_over opens root_state ≡ false
inside [] root_state e = rw e refl
inside (o ∷ outer) root_state e = refl

pub mode_ends : (root_state now : RootState) (tag : Tag) (opens : List Open) (c : ℕ) → step_root root_state opens c ≡ Done (given (token_at c tag) (opens_after (token_at c tag) opens) now) → now ≡ state_at c
    → MovesSo opens (step (Inside root_state) opens c) (Ok (Some (token_at c tag))) (Inside now)
mode_ends root_state now tag opens c e goes =
    ap (inside_move opens) e ∙ ap (λ m. landed (given (token_at c tag) (opens_after (token_at c tag) opens) m)) goes ∙ stays ∙ ap (λ m. To (Inside m) (opens_after (token_at c tag) opens) (token_at c tag ∷ [])) (sym goes) where
      stays : landed (given (token_at c tag) (opens_after (token_at c tag) opens) (state_at c)) ≡ To (Inside (state_at c)) (opens_after (token_at c tag) opens) (token_at c tag ∷ [])
      stays = cases (c == 62) (λ f. rw f refl) (λ f. rw f (ap (λ b. To (if b then Epilog Blanks else Inside Slashed) opens (Slash tag ∷ [])) (inside opens Slashed refl)))

-- what a machine says of the tag
pub tag_ends : (r s now : Reading) (c : ℕ) (mode : Mode) (tag : Tag) (t : Token) (event : Event) → MovesSo r.opens (step r.mode r.opens c) (Ok (Some (token_at c tag))) mode → t ≡ token_at c tag → s ≡ reading [] mode r.opens
    → TakenSo s t (Ok event) now → WholeSo r c (Ok (Some event)) now
tag_ends r s now c mode tag t event h same e g = whole_token r s now c mode t event (subst (λ x. MovesSo r.opens (step r.mode r.opens c) (Ok (Some x)) mode) (sym same) h) e g

pub tag_breaks : (r s now later : Reading) (c : ℕ) (mode : Mode) (tag : Tag) (t : Token) (stop : MachineError) → MovesSo r.opens (step r.mode r.opens c) (Ok (Some (token_at c tag))) mode → t ≡ token_at c tag → s ≡ reading [] mode r.opens
    → TakenSo s t (Err stop) now → WholeSo r c (Err stop) later
tag_breaks r s now later c mode tag t stop h same e g = whole_broken r s now later c mode t stop (subst (λ x. MovesSo r.opens (step r.mode r.opens c) (Ok (Some x)) mode) (sym same) h) e g

pub started : (c : ℕ) (tag : Tag) → c ≡ 62 → Started tag ≡ token_at c tag
started c tag is = let e : (c == 62) ≡ true = grind (arith, nat_tests) in sym (ap (λ b. if b then Started tag else Slash tag) e)

pub slashed : (c : ℕ) (tag : Tag) → c ≢ 62 → Slash tag ≡ token_at c tag
slashed c tag not-so = let e : (c == 62) ≡ false = grind (arith, nat_tests) in sym (ap (λ b. if b then Started tag else Slash tag) e)
