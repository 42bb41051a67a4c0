-- Whole documents, character by character.
use Rattle.std.specs.Prelude.{◌==◌, ℕ, Bool, true, false, if◌then◌else◌, List, [], ◌∷◌, codes}
use Rattle.cds_base.specs.Characters.{is_blank}
use Rattle.cds_markup.specs.declared.mode.StartTagState.TheVariants.{Opened}
use Rattle.cds_markup.specs.declared.mode.DeclarationState.{DeclarationState}
use Rattle.cds_markup.specs.declared.mode.DeclarationState.TheVariants.{Xml}
use Rattle.cds_markup.specs.declared.mode.Misc.{Misc}
use Rattle.cds_markup.specs.declared.mode.Misc.TheVariants.{Blanks, MiscLess, MiscBang, MiscDash, MiscComment}
use Rattle.cds_markup.specs.declared.mode.RootState.{RootState}
use Rattle.cds_markup.specs.declared.mode.RootState.TheVariants.{Content}
use Rattle.cds_markup.specs.declared.mode.Mode.{Mode}
use Rattle.cds_markup.specs.declared.mode.Mode.TheVariants.{Begin, Marked, First, Declaration, Prolog, Inside, Epilog}
use Rattle.cds_markup.specs.declared.tag.Open.{Open}
use Rattle.cds_markup.specs.Next.{Next, Stuck, On, Done, leads}
use Rattle.cds_markup.specs.Delimiters.{step_comment}
use Rattle.cds_markup.specs.XmlDeclaration.{step_declaration}
use Rattle.cds_markup.specs.Root.{Token, Given, step_root, start_step}

-- What a character leads to, with the elements that are open and the tokens that it gives.
pub data Move : Type 0 where
  Nowhere : Move
  To : Mode → List Open → List Token → Move

-- White space and comments. After a `<`, what is no comment belongs to what follows.
abbrev pub misc_step : Misc → ℕ → Next Misc (Unit {0})
misc_step Blanks c = if is_blank c then On Blanks else if c == 60 then On MiscLess else Stuck
misc_step MiscLess c = if c == 33 then On MiscBang else Done tt
misc_step MiscBang c = if c == 45 then On MiscDash else Stuck
misc_step MiscDash c = if c == 45 then On (MiscComment 0) else Stuck
misc_step (MiscComment dashes) c = leads (step_comment dashes c) MiscComment (λ over. On Blanks)

-- What follows a token. An element that ended may be the root.
abbrev pub is_content : RootState → Bool
is_content (Content brackets) = true
is_content other = false

abbrev pub is_over : List Open → RootState → Bool
is_over [] root_state = is_content root_state
is_over (innermost ∷ outer) root_state = false

abbrev pub landed : Given → Move
landed g = To (if is_over g.opens g.root_state then Epilog Blanks else Inside g.root_state) g.opens (g.token ∷ [])

abbrev pub inside_move : List Open → Next RootState Given → Move
inside_move opens Stuck = Nowhere
inside_move opens (On root_state) = To (Inside root_state) opens []
inside_move opens (Done g) = landed g

abbrev pub root_move : List Open → ℕ → Move
root_move opens c = inside_move opens (start_step opens Opened c)

abbrev pub prolog_move : List Open → Next Misc (Unit {0}) → ℕ → Move
prolog_move opens Stuck c = Nowhere
prolog_move opens (On m) c = To (Prolog m) opens []
prolog_move opens (Done over) c = root_move opens c

abbrev pub epilog_move : List Open → Next Misc (Unit {0}) → Move
epilog_move opens (On m) = To (Epilog m) opens []
epilog_move opens other = Nowhere

abbrev pub declaration_move : List Open → Next DeclarationState (Unit {0}) → Move
declaration_move opens Stuck = Nowhere
declaration_move opens (On d) = To (Declaration d) opens []
declaration_move opens (Done over) = To (Prolog Blanks) opens []

abbrev pub marked_move : List Open → ℕ → Move
marked_move opens c = if c == 60 then To First opens [] else prolog_move opens (misc_step Blanks c) c

abbrev pub step : Mode → List Open → ℕ → Move
step Begin opens c = if c == 65279 then To Marked opens [] else marked_move opens c
step Marked opens c = marked_move opens c
step First opens c = if c == 63 then To (Declaration (Xml (codes "xml"))) opens [] else prolog_move opens (misc_step MiscLess c) c
step (Declaration d) opens c = declaration_move opens (step_declaration d c)
step (Prolog m) opens c = prolog_move opens (misc_step m c) c
step (Inside root_state) opens c = inside_move opens (step_root root_state opens c)
step (Epilog m) opens c = epilog_move opens (misc_step m c)
