-- What a kernel reads of a form.
use Rattle.std.specs.Prelude.{◌≡◌, Option, Some, None}
use Rattle.std.specs.Ordering.{nat_cmp}
use Rattle.std.specs.FinSet as set
use Rattle.setl_value.specs.Datum.{Datum}
use Rattle.setl_base.specs.declared.Elt.{Elt}
use Rattle.setl_base.specs.Base.{BaseState, find, value_of}
use Rattle.setl_rep_bases.specs.declared.BaseId.{BaseId}
use Rattle.setl_rep_bases.specs.Bases.{BasesState, base_at}
use Rattle.setl_rep_forms.specs.Form.{Layout, Form, plain, element, numbers, remote}

-- the numbers of a set, where they lie and their base, where the form is a set of numbers
abbrev pub set_parts : Form → Option (Layout × BaseId × set.FinSet nat_cmp)
set_parts (numbers k b ns) = Some (k, b, ns)
set_parts f = None

-- the value that is held plain or as an element
abbrev pub single_value : BasesState → Form → Option Datum
single_value bs (plain d) = Some d
single_value bs (element b e) = value_of (base_at bs b) e
single_value bs f = None

-- what is answered is the handle of the value among the members of the base, None within where it is no member; nothing,
-- where there is no value
abbrev pub HasPlace : BaseState → Option Datum → Option (Option Elt) → Type 0
HasPlace b None None = Unit {0}
HasPlace b (Some d) (Some None) = find b d ≡ None
HasPlace b (Some d) (Some (Some e)) = value_of b e ≡ Some d
HasPlace b v o = ⊥

-- the numbers of a remote set, with their base
abbrev pub remote_parts : Form → Option (BaseId × set.FinSet nat_cmp)
remote_parts (numbers remote b ns) = Some (b, ns)
remote_parts f = None

-- two remote sets on the base b
abbrev pub AreRemote : Form → Form → BaseId → set.FinSet nat_cmp → set.FinSet nat_cmp → Type 0
AreRemote f g b ms ns = (f ≡ numbers remote b ms) × (g ≡ numbers remote b ns)
