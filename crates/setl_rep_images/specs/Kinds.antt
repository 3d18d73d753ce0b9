-- Kinds of maps, and what a point has in one.
use Rattle.std.specs.Prelude.{◌≡◌, Bool, true, false, Option, Some, None, option_and_then}
use Rattle.setl_value.specs.Datum.{Datum}
use Rattle.setl_base.specs.Base.{find}
use Rattle.setl_rep_bases.specs.Bases.{BasesState, base_at}
use Rattle.setl_rep_forms.specs.Form.{Form, table}
use Rattle.setl_rep_tables.specs.Tables.{content_in}

-- whether a form is a table that keeps the images of each point as a set
abbrev pub keeps_sets : Form → Bool
keeps_sets (table k b many es) = many
keeps_sets f = false

-- whether a form is a table that keeps the one image of each point
abbrev pub keeps_one : Form → Bool
keeps_one (table k b true es) = false
keeps_one (table k b false es) = true
keeps_one f = false

-- the content of a point, which stands for its image or for the set of its images
abbrev pub point_content : BasesState → Form → Datum → Option Form
point_content bs (table k b many es) x = option_and_then (λ e. content_in es e.block) (find (base_at bs b) x)
point_content bs f x = None

-- the form is that of the content, where there is one
abbrev pub IsOfContent : Option Form → Form → Type 0
IsOfContent None g = Unit {0}
IsOfContent (Some c) g = g ≡ c
