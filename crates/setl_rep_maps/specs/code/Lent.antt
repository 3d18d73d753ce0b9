-- The form of a content that is lent.
use Rattle.std.specs.Prelude.{Option, Some, None}
use Rattle.std.specs.Borrow.{Bor}
use Rattle.setl_rep_forms.specs.declared.held.Held.{Held}
use Rattle.setl_rep_forms.specs.Form.{Form}
use Rattle.setl_rep_forms.specs.FormOf.{form}

abbrev pub lent_form : Option (Bor Held) → Option Form
lent_form None = None
lent_form (Some h) = Some (form h.now)
