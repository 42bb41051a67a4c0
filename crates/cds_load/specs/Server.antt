-- What a server replies at a moment (UPnP ContentDirectory:4 on Browse, GetSystemUpdateID and the reset token).
use Rattle.std.specs.Prelude.{ℕ, cond, List, [], ◌∷◌, length, take, drop, Option, Some, None}
use Rattle.cds_object.specs.Object.{ObjectRow, is_folder}
use Rattle.cds_object.specs.Tree.{row_of, children_of}
use Rattle.cds_object.specs.Updates as updates
use Rattle.cds_catalog.specs.History.{History, end_of}
use Rattle.cds_catalog.specs.Catalog.{catalog}
use Rattle.cds_load.specs.declared.exchange.Ask.{Ask}
use Rattle.cds_load.specs.declared.exchange.Ask.TheVariants.{Token, Number as AskNumber, Metadata, Children}
use Rattle.cds_load.specs.declared.exchange.Shown.{Shown}
use Rattle.cds_load.specs.declared.exchange.Shown.TheVariants.{Text, Number, Page, Fault}

-- what a server has at a moment: its reset token, the number of its newest change, and its rows
pub record Moment : Type 0 where
  pub token : List ℕ
  pub number : ℕ
  pub rows : List ObjectRow

-- what a server of a token has after scans: their end is its number, and their catalog its rows
abbrev pub moment_at : List ℕ → History → Moment
moment_at token history = record { token = token; number = end_of history; rows = catalog history }

-- how many children are asked for at once; so a page of a server that replies as this one has no more rows
abbrev pub page_size : ℕ
page_size = 256

-- the UpdateID that a reply on an object bears
abbrev pub update_of : Moment → ObjectRow → ℕ
update_of moment row = updates.update_of moment.number row moment.rows

-- the reply to an ask for an object's row
abbrev pub metadata_reply : Moment → Option ObjectRow → Shown
metadata_reply moment None = Fault 701
metadata_reply moment (Some row) = Page (row ∷ []) 1 (update_of moment row)

-- the reply to an ask for an object's children from a place on
abbrev pub children_reply : Moment → ℕ → Option ObjectRow → Shown
children_reply moment start None = Fault 701
children_reply moment start (Some row) =
    cond (is_folder row.content)
    (Page (take page_size (drop start (children_of row.id moment.rows))) (length (children_of row.id moment.rows)) (update_of moment row))
    (Fault 710)

-- the reply to an ask
abbrev pub reply_to : Moment → Ask → Shown
reply_to moment Token = Text moment.token
reply_to moment AskNumber = Number moment.number
reply_to moment (Metadata id) = metadata_reply moment (row_of id moment.rows)
reply_to moment (Children id start) = children_reply moment start (row_of id moment.rows)
