-- Forms that stand over bases for values that are shallow enough.
use Rattle.std.specs.Prelude.{◌≤◌, Option}
use Rattle.setl_value.specs.Datum.{Datum, part_depth}
use Rattle.setl_rep_bases.specs.Bases.{BasesState}
use Rattle.setl_rep_forms.specs.declared.held.Held.{Held}
use Rattle.setl_rep_forms.specs.FormOf.{form}
use Rattle.setl_rep_forms.specs.Stands.{stands, IsOver}

-- the value, or `om`, that a form stands for
abbrev pub held_value : BasesState → Held → Option Datum
held_value bs h = stands bs (form h)

-- the form stands over these bases for a value that is at most 500 deep, or for `om`
pub record IsHeldOver (bs : BasesState) (h : Held) : Type 0 where
  pub over : IsOver bs (form h)
  pub shallow : part_depth (held_value bs h) ≤ 500
